-- Rule: what is told of the instructions that cores took: IsTraceTold, AreCallsTold
-- What is told of a core's instructions around one of them, and of how often cores came to a pc.
use Rattle.std.specs.Prelude.{◌≡◌, ℕ, ◌+◌, ◌-◌, ◌==◌, min, Bool, nat_eq, List, [], ◌++◌, length, map, filter, codes}
use Rattle.std.specs.Prelude.{decimal, slice_index, if◌then◌else◌}
use Rattle.std.specs.List.{flat_map, range_with_len}
use Rattle.rtr_types.specs.declared.access.Access.{Access}
use Rattle.rtr_types.specs.declared.cut.Cut.{Cut}
use Rattle.rtr_types.specs.declared.instr.Instr.{Instr}
use Rattle.replay_core.specs.Play.{instr}
use Rattle.replay_audit.specs.Audits.{Findings, IsInstrOf}
use Rattle.race_queries.specs.Queries.{is_held}
use Rattle.gdb_commands.specs.Lines.{line}
use Rattle.race_answers.specs.Instrs.{instr_text}
use Rattle.race_answers.specs.Missing.{no_instr_text}
use Rattle.race_answers.specs.Pcs.{ArePcs, pc_in}

-- ---- around an instruction

-- so many instructions of a core, behind its first ones
abbrev pub stretch : (core from long : ℕ) → List Instr
stretch core from long = map (λ k. instr core (from + k + 1)) (range_with_len 0 long)

-- how many of the core's instructions come before those that are told, and how many up to the last of them
abbrev pub start_of : Instr → (near : ℕ) → ℕ
start_of at near = at.count - 1 - near

abbrev pub end_of : (total : ℕ) → Instr → (near : ℕ) → ℕ
end_of total at near = min total (at.count + near)

-- of a core that has so many, those from so many before an instruction to so many behind it
abbrev pub around : (total : ℕ) → Instr → (near : ℕ) → List Instr
around total at near = stretch at.core (start_of at near) (end_of total at near - start_of at near)

-- an instruction, and whether it is in the cut
abbrev pub trace_row : Cut → (pcs : List (List ℕ)) → List Access → Instr → List ℕ
trace_row cut pcs accesses at =
    (if is_held cut at then codes "  " else codes "+ ") ++ line (instr_text pcs accesses at)

pub record AreTraced (a : Findings) (cut : Cut) (at : Instr) (near : ℕ) (told : List ℕ) : Type 0 where
  pub pcs : List (List ℕ)
  pub are : ArePcs a.which a.recording pcs
  pub told_is : told
      ≡ flat_map (trace_row cut pcs a.accesses) (around (slice_index a.recording.totals at.core) at near)

-- `trace C:N K`
pub record IsTraceTold (a : Findings) (cut : Cut) (at : Instr) (near : ℕ) (told : List ℕ) : Type 0 where
  pub there : IsInstrOf a.recording at → AreTraced a cut at near told
  pub missing : (IsInstrOf a.recording at → ⊥) → told ≡ no_instr_text at

-- ---- at a pc

-- a core that has retired so many comes to this pc
abbrev pub is_visit : (pcs : List (List ℕ)) → (pc core k : ℕ) → Bool
is_visit pcs pc core k = nat_eq (pc_in pcs (instr core (k + 1))) pc

-- how many instructions a core has retired each time that it comes to this pc
abbrev pub visits : (pcs : List (List ℕ)) → (pc core total : ℕ) → List ℕ
visits pcs pc core total = filter (is_visit pcs pc core) (range_with_len 0 total)

-- `C:N`, the instruction behind so many
abbrev pub next_text : (core k : ℕ) → List ℕ
next_text core k = decimal core ++ codes ":" ++ decimal (k + 1)

-- how often a core came there, the first and the last time; nothing if it never did
abbrev pub visits_text : (core : ℕ) → List ℕ → List ℕ
visits_text core list =
    if length list == 0 then [] else
    codes "core " ++ decimal core ++ codes ": " ++ decimal (length list) ++ codes " in all, first "
    ++ next_text core (slice_index list 0) ++ codes ", last " ++ line (next_text core (slice_index list (length list - 1)))

abbrev pub calls_row : (pcs : List (List ℕ)) → (pc : ℕ) → (totals : List ℕ) → (core : ℕ) → List ℕ
calls_row pcs pc totals core = visits_text core (visits pcs pc core (slice_index totals core))

abbrev pub calls_rows : (pcs : List (List ℕ)) → (pc : ℕ) → (totals : List ℕ) → (cores : ℕ) → List ℕ
calls_rows pcs pc totals cores = flat_map (calls_row pcs pc totals) (range_with_len 0 cores)

abbrev pub or_none : List ℕ → List ℕ
or_none rows = if length rows == 0 then line (codes "no instruction has this pc") else rows

-- `calls ADDR`: each core's instructions at this pc
pub record AreCallsTold (a : Findings) (pc : ℕ) (told : List ℕ) : Type 0 where
  pub pcs : List (List ℕ)
  pub are : ArePcs a.which a.recording pcs
  pub told_is : told ≡ or_none (calls_rows pcs pc a.recording.totals a.recording.params.cores)
