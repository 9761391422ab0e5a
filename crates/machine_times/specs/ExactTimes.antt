-- What the times that an access finds are by the words on exact clocks, once the clocks that were noted are exact.
use Rattle.std.specs.Prelude.{◌≡◌, ◌%◌, true, Option, Some, None, List, [], ◌∷◌, reverse}
use Rattle.access_times.specs.Times.{read_note, write_at, read_at}
use Rattle.rtr_types.specs.declared.TheConstants.{BLOCK_WORDS}
use Rattle.access_times.specs.declared.times.Times.{Times}
use Rattle.clock_core.specs.declared.clock.Clock.{Clock}
use Rattle.rtr_types.specs.Accesses.{is_write}
use Rattle.rtr_types.specs.declared.access.Access.{Access}
use Rattle.conflict_edge.specs.Clocks.{last_write}
use Rattle.conflict_edge.specs.Conflicts.{AreCores, CountsRise}
use Rattle.conflict_edge.specs.Times.{AreExactTimes, IsExactClock, IsNoteOf}
use Rattle.machine_times.specs.Retirements.{Retirement, noted_accesses, AreInOrder, IsExactRider}
use Rattle.machine_times.specs.TimedSteps.{times_parts}

abbrev pub with_access : Option Access → List Access → List Access
with_access None list = list
with_access (Some a) list = a ∷ list

-- the accesses among the retirements
abbrev pub retired_accesses : List Retirement → List Access
retired_accesses [] = []
retired_accesses (r ∷ list) = with_access r.access (retired_accesses list)

-- the clock is the exact one of the access, if there is one
abbrev pub IsClockOf : List Access → Option Access → Clock → Type 0
IsClockOf all None clock = Unit {0}
IsClockOf all (Some a) clock = IsExactClock all a.at clock

-- each of the retirements with an access has its exact clock over all of these accesses
abbrev pub HaveExactClocks : List Access → List Retirement → Type 0
HaveExactClocks all [] = Unit {0}
HaveExactClocks all (r ∷ list) = IsClockOf all r.access r.clock × HaveExactClocks all list

-- the times that an access finds in its word's slot are exact: the last write and, where the access writes, all
pub record FindsExactTimes (list : List Access) (a : Access) (rider : Times) : Type 0 where
  pub write : IsNoteOf list (last_write (reverse list) a.word) (write_at rider (a.word % BLOCK_WORDS))
  pub times : is_write a.kind ≡ true → AreExactTimes list a.word (write_at rider (a.word % BLOCK_WORDS))
      (λ core. read_note core (read_at rider (a.word % BLOCK_WORDS) core))

-- Over a list whose clocks are exact, a rider that has the last write and the last reads of the list has exact times.
abbrev pub ExactTimesLaw : Type 0
ExactTimesLaw =
    (list : List Retirement) (a : Access) (rider : Times) → HaveExactClocks (retired_accesses list) list
    → IsExactRider times_parts (noted_accesses (reverse list)) a rider → FindsExactTimes (retired_accesses list) a rider

-- The accesses of retirements in order have rising counts, and are of cores that there may be.
pub record AreOrdered (list : List Access) : Type 0 where
  pub rise : CountsRise list
  pub cores : AreCores list

abbrev pub OrderedLaw : Type 0
OrderedLaw = (list : List Retirement) → AreInOrder (reverse list) → AreOrdered (retired_accesses list)
