-- Rule: the last write of a word in a cut, the loads since: IsLastWrite, IsReadSince
-- What is asked of the accesses and the log of an audited recording. The accesses are those of the low order; every
-- whole replay order has the same ones, with the same values.
use Rattle.std.specs.Prelude.{◌≡◌, ◌↔◌, ◌⊎◌, ℕ, ◌<◌, Bool, true, not, ◌&&◌, nat_eq, nat_le, List, [], ◌∷◌, ◌++◌}
use Rattle.std.specs.Prelude.{filter, if◌then◌else◌}
use Rattle.rtr_types.specs.Accesses.{is_write}
use Rattle.rtr_types.specs.declared.access.Access.{Access}
use Rattle.rtr_types.specs.declared.cut.Cut.{Cut}
use Rattle.rtr_types.specs.declared.instr.Instr.{Instr}
use Rattle.rtr_types.specs.declared.pairs.Which.{Which}
use Rattle.clock_core.specs.Order.{Among, Before, IsOrLeads}
use Rattle.clock_core.specs.Reach.{IsOneOf}
use Rattle.conflict_edge.specs.Conflicts.{CountsRise, StandsIn}
use Rattle.race_log.specs.declared.recording.Recording.{Recording}
use Rattle.race_log.specs.Sources.{HasEdge, log_edges}
use Rattle.race_log.specs.Validity.{Valid}
use Rattle.replay_audit.specs.Audits.{Findings, PassesOf}
use Rattle.cut_replay.specs.ClosedCuts.{count_in}

-- ---- what comes before what

-- by the log the one instruction comes before the other
abbrev pub Leads : Findings → Instr → Instr → Type 0
Leads a x y = Before (Among (log_edges a.which a.recording)) x y

-- or is it
abbrev pub IsOrComes : Findings → Instr → Instr → Type 0
IsOrComes a x y = IsOrLeads (Among (log_edges a.which a.recording)) x y

-- ---- a word

-- the cut holds the instruction
abbrev pub is_held : Cut → Instr → Bool
is_held cut at = nat_le at.count (count_in cut at.core)

-- the access writes the word, and is in the cut
abbrev pub is_write_of : Cut → (word : ℕ) → Access → Bool
is_write_of cut word access = nat_eq access.word word && (is_write access.kind && is_held cut access.at)

-- the access reads the word and doesn't write it, and is in the cut
abbrev pub is_load_of : Cut → (word : ℕ) → Access → Bool
is_load_of cut word access = nat_eq access.word word && (not (is_write access.kind) && is_held cut access.at)

-- the loads of the word in the cut that stand behind its last write in the cut, in the list's order; before these
-- accesses those were found
abbrev pub loads_behind : Cut → (word : ℕ) → (found : List Access) → List Access → List Access
loads_behind cut word found [] = found
loads_behind cut word found (access ∷ rest) =
    loads_behind cut word (if is_write_of cut word access then [] else
    if is_load_of cut word access then found ++ access ∷ [] else found) rest

-- a write of the word among these, in the cut
pub record IsWriteIn (list : List Access) (cut : Cut) (word : ℕ) (access : Access) : Type 0 where
  pub stands : StandsIn list access
  pub is : is_write_of cut word access ≡ true

-- there is none
abbrev pub NoWriteIn : List Access → Cut → (word : ℕ) → Type 0
NoWriteIn list cut word = (access : Access) → IsWriteIn list cut word access → ⊥

-- a write of the word in the cut to which each other one leads
pub record IsLastWrite (a : Findings) (cut : Cut) (word : ℕ) (access : Access) : Type 0 where
  pub write : IsWriteIn a.accesses cut word access
  pub last : (other : Access) → IsWriteIn a.accesses cut word other → IsOrComes a other.at access.at

-- a load of the word in the cut to which each write of the word in the cut leads
pub record IsReadSince (a : Findings) (cut : Cut) (word : ℕ) (access : Access) : Type 0 where
  pub stands : StandsIn a.accesses access
  pub is : is_load_of cut word access ≡ true
  pub since : (write : Access) → IsWriteIn a.accesses cut word write → Leads a write.at access.at

-- the list has exactly these, each once: each core's by rising count
pub record AreReadsSince (a : Findings) (cut : Cut) (word : ℕ) (list : List Access) : Type 0 where
  pub each : (access : Access) → StandsIn list access ↔ IsReadSince a cut word access
  pub rise : CountsRise list

-- the accesses of a list to the word
abbrev pub accesses_to : (word : ℕ) → List Access → List Access
accesses_to word list = filter (λ access. nat_eq access.word word) list

-- ---- edges

-- by core, and then by count
abbrev pub Precedes : Instr → Instr → Type 0
Precedes x y = (x.core < y.core) ⊎ ((x.core ≡ y.core) × (x.count < y.count))

abbrev pub InstrsRise : List Instr → Type 0
InstrsRise [] = Unit {0}
InstrsRise (x ∷ later) = ((y : Instr) → IsOneOf later y → Precedes x y) × InstrsRise later

-- the instructions from which an edge of the log leads to this one
pub record AreEdgesInto (which : Which) (r : Recording) (at : Instr) (list : List Instr) : Type 0 where
  pub each : (x : Instr) → IsOneOf list x ↔ HasEdge which r x at
  pub rise : InstrsRise list

-- those to which one leads from it
pub record AreEdgesOutOf (which : Which) (r : Recording) (at : Instr) (list : List Instr) : Type 0 where
  pub each : (y : Instr) → IsOneOf list y ↔ HasEdge which r at y
  pub rise : InstrsRise list

-- ---- laws

-- a recording that passed its audit
pub record IsAudited (a : Findings) : Type 0 where
  pub valid : Valid a.recording
  pub passed : PassesOf a

-- a cut has at most one last write of a word
abbrev pub OneLastWriteLaw : Type 0
OneLastWriteLaw = (a : Findings) (cut : Cut) (word : ℕ) (access other : Access) → IsAudited a →
    IsLastWrite a cut word access → IsLastWrite a cut word other → access ≡ other
