-- Rule: what is told of a word, an edge, a chain of waits, a conflict or all decisions: IsWriterTold, AreDecisionsTold
-- What is told of a word, of the edges at an instruction, of its conflicts, and of all edges of the log, by the audit
-- of a recording.
use Rattle.std.specs.Prelude.{◌≡◌, ℕ, ◌≤◌, List, [], ◌++◌, length, codes, decimal, Option, Some, None}
use Rattle.std.specs.Prelude.{MatchOption, if◌then◌else◌}
use Rattle.std.specs.List.{flat_map}
use Rattle.rtr_types.specs.declared.access.Access.{Access}
use Rattle.rtr_types.specs.declared.cut.Cut.{Cut}
use Rattle.rtr_types.specs.declared.instr.Instr.{Instr}
use Rattle.replay_audit.specs.Audits.{Findings, IsInstrOf}
use Rattle.race_queries.specs.declared.conflicts.Conflicts.{Conflicts}
use Rattle.race_queries.specs.declared.ends.Ends.{Ends}
use Rattle.race_queries.specs.Conflicts.{conflicts_at}
use Rattle.race_queries.specs.Ends.{log_ends}
use Rattle.race_queries.specs.Queries.{AreEdgesInto, AreEdgesOutOf, AreReadsSince, IsLastWrite, NoWriteIn, accesses_to}
use Rattle.race_queries.specs.Queries.{is_held, loads_behind}
use Rattle.wait_chains.specs.Chains.{chain_of}
use Rattle.race_answers.specs.declared.decisions.Decision.{Decision}
use Rattle.gdb_commands.specs.declared.filters.Filter.{Filter}
use Rattle.race_answers.specs.declared.edges.End.{End}
use Rattle.race_answers.specs.declared.edges.End.TheVariants.{Source, Target}
use Rattle.race_answers.specs.declared.waits_told.TheConstants.{CHAIN_MAX}
use Rattle.race_answers.specs.Decisions.{AreDecisions}
use Rattle.gdb_commands.specs.Filters.{chosen}
use Rattle.gdb_commands.specs.Lines.{line}
use Rattle.race_answers.specs.Instrs.{instr_text, row_text, touch_text}
use Rattle.race_answers.specs.Pcs.{ArePcs}
use Rattle.race_answers.specs.Missing.{no_instr_text}

-- ---- a word

-- one access
pub record IsRowTold (a : Findings) (access : Access) (told : List ℕ) : Type 0 where
  pub pcs : List (List ℕ)
  pub are : ArePcs a.which a.recording pcs
  pub told_is : told ≡ line (row_text pcs access)

abbrev pub IsWriteTold : Findings → Option Access → (told : List ℕ) → Type 0
IsWriteTold a None told = told ≡ line (codes "no write: the opening value")
IsWriteTold a (Some access) told = IsRowTold a access told

-- `writer ADDR`: the last write of the word in the cut
pub record IsWriterTold (a : Findings) (cut : Cut) (word : ℕ) (told : List ℕ) : Type 0 where
  pub written : Option Access
  pub is : MatchOption written (NoWriteIn a.accesses cut word) (IsLastWrite a cut word)
  pub told_is : IsWriteTold a written told

-- several accesses
abbrev pub rows_text : (pcs : List (List ℕ)) → List Access → List ℕ
rows_text pcs list = flat_map (λ access. line (row_text pcs access)) list

pub record AreRowsTold (a : Findings) (list : List Access) (told : List ℕ) : Type 0 where
  pub pcs : List (List ℕ)
  pub are : ArePcs a.which a.recording pcs
  pub told_is : told ≡ rows_text pcs list

-- `readers ADDR`: the loads of the word in the cut since that write, in the order of the audit's accesses
pub record AreReadersTold (a : Findings) (cut : Cut) (word : ℕ) (told : List ℕ) : Type 0 where
  pub list : List Access
  pub reads : AreReadsSince a cut word list
  pub order : list ≡ loads_behind cut word [] a.accesses
  pub none : length list ≡ 0 → told ≡ line (codes "no read since the last write")
  pub some : 1 ≤ length list → AreRowsTold a list told

-- an access, and whether it is in the cut
abbrev pub history_row : Cut → (pcs : List (List ℕ)) → Access → List ℕ
history_row cut pcs access =
    (if is_held cut access.at then codes "  " else codes "+ ") ++ line (row_text pcs access)

pub record IsHistory (a : Findings) (cut : Cut) (list : List Access) (told : List ℕ) : Type 0 where
  pub pcs : List (List ℕ)
  pub are : ArePcs a.which a.recording pcs
  pub told_is : told ≡ flat_map (history_row cut pcs) list

-- of all accesses to the word, in an order that the log allows, those that are asked for
abbrev pub history_by : Findings → (word : ℕ) → Filter → List Access
history_by a word filter = chosen filter (accesses_to word a.accesses)

-- `history ADDR`: all of them; `history ADDR writes`: those that write it; `history ADDR core C`: those of the core
pub record IsHistoryTold (a : Findings) (cut : Cut) (word : ℕ) (filter : Filter) (told : List ℕ) : Type 0 where
  pub none : length (history_by a word filter) ≡ 0 → told ≡ line (codes "no access")
  pub some : 1 ≤ length (history_by a word filter) → IsHistory a cut (history_by a word filter) told

-- ---- edges

-- where an instruction at an end of an edge lies, seen from the one at the other
abbrev pub end_word : End → List ℕ
end_word Source = codes "  after  "
end_word Target = codes "  before "

-- whether a source is still to come, or a target is done already
abbrev pub end_mark : End → Cut → Instr → List ℕ
end_mark Source cut at = if is_held cut at then [] else codes "  (not yet)"
end_mark Target cut at = if is_held cut at then codes "  (already)" else []

-- an instruction at this end of an edge
abbrev pub end_row : End → Cut → (pcs : List (List ℕ)) → List Access → Instr → List ℕ
end_row end cut pcs accesses at = end_word end ++ instr_text pcs accesses at ++ line (end_mark end cut at)

-- the instruction, the sources of the edges into it and the targets of those out of it
pub record AreEdges (a : Findings) (cut : Cut) (at : Instr) (told : List ℕ) : Type 0 where
  pub pcs : List (List ℕ)
  pub are : ArePcs a.which a.recording pcs
  pub into : List Instr
  pub into_are : AreEdgesInto a.which a.recording at into
  pub out : List Instr
  pub out_are : AreEdgesOutOf a.which a.recording at out
  pub told_is : told
      ≡ line (instr_text pcs a.accesses at) ++ flat_map (end_row Source cut pcs a.accesses) into
      ++ flat_map (end_row Target cut pcs a.accesses) out

-- `edges C:N`
pub record AreEdgesTold (a : Findings) (cut : Cut) (at : Instr) (told : List ℕ) : Type 0 where
  pub there : IsInstrOf a.recording at → AreEdges a cut at told
  pub missing : (IsInstrOf a.recording at → ⊥) → told ≡ no_instr_text at

-- ---- waits

-- the most edges of a chain that are told; `sizes_law` ties the code's constant, which the definitions cite, to it
abbrev pub chain_max : ℕ
chain_max = 32

-- behind which instruction it came
abbrev pub source_text : (pcs : List (List ℕ)) → Ends → List ℕ
source_text pcs e = codes " after " ++ line (touch_text pcs e.edge.from e.from)

unfoldable pub indent_text : List ℕ
indent_text = codes "  "

-- an instruction to which an edge leads, and the one behind which it came
abbrev pub wait_row : (pcs : List (List ℕ)) → Ends → List ℕ
wait_row pcs e = indent_text ++ touch_text pcs e.edge.to e.to ++ source_text pcs e

-- the instruction, and the chain of edges by which it waited, the nearest first
pub record AreWaits (a : Findings) (at : Instr) (told : List ℕ) : Type 0 where
  pub pcs : List (List ℕ)
  pub are : ArePcs a.which a.recording pcs
  pub told_is : told
      ≡ line (instr_text pcs a.accesses at) ++ flat_map (wait_row pcs) (chain_of (log_ends a) at CHAIN_MAX)

-- `why C:N`
pub record IsWhyTold (a : Findings) (at : Instr) (told : List ℕ) : Type 0 where
  pub there : IsInstrOf a.recording at → AreWaits a at told
  pub missing : (IsInstrOf a.recording at → ⊥) → told ≡ no_instr_text at

-- ---- conflicts

-- an access in a line, behind what it is called
abbrev pub called_row : (called : List ℕ) → (pcs : List (List ℕ)) → Access → List ℕ
called_row called pcs access = called ++ line (row_text pcs access)

-- an access, and those with which it conflicts
pub record AreConflicts (a : Findings) (conflicts : Conflicts) (told : List ℕ) : Type 0 where
  pub pcs : List (List ℕ)
  pub are : ArePcs a.which a.recording pcs
  pub told_is : told
      ≡ line (row_text pcs conflicts.access) ++ flat_map (called_row (codes "  earlier ") pcs) conflicts.earlier
      ++ flat_map (called_row (codes "  later   ") pcs) conflicts.later

-- unless there is no access
abbrev pub IsConflictTold : Findings → Option Conflicts → (told : List ℕ) → Type 0
IsConflictTold a None told = told ≡ line (codes "no access")
IsConflictTold a (Some conflicts) told = AreConflicts a conflicts told

-- `conflicts C:N`
pub record AreConflictsTold (a : Findings) (at : Instr) (told : List ℕ) : Type 0 where
  pub there : IsInstrOf a.recording at → IsConflictTold a (conflicts_at a.accesses at) told
  pub missing : (IsInstrOf a.recording at → ⊥) → told ≡ no_instr_text at

-- ---- decisions

-- how many edges there are this way, and how many the other
abbrev pub times_text : Decision → List ℕ
times_text d = decimal d.times ++ codes " this way, " ++ decimal d.turned ++ codes " the other: "

-- before which instruction
abbrev pub second_text : (pcs : List (List ℕ)) → Ends → List ℕ
second_text pcs e = codes " before " ++ line (touch_text pcs e.edge.to e.to)

-- and the last edge of them
abbrev pub decision_row : (pcs : List (List ℕ)) → Decision → List ℕ
decision_row pcs d = times_text d ++ touch_text pcs d.last.edge.from d.last.from ++ second_text pcs d.last

pub record AreDecisionRows (a : Findings) (told : List ℕ) : Type 0 where
  pub pcs : List (List ℕ)
  pub are : ArePcs a.which a.recording pcs
  pub list : List Decision
  pub decisions : AreDecisions pcs (log_ends a) list
  pub told_is : told ≡ flat_map (decision_row pcs) list

-- `decisions`: all edges of the log, by the instructions of the program between which they lead
pub record AreDecisionsTold (a : Findings) (told : List ℕ) : Type 0 where
  pub none : length (log_ends a) ≡ 0 → told ≡ line (codes "no edge")
  pub some : 1 ≤ length (log_ends a) → AreDecisionRows a told
