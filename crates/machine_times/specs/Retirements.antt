-- A machine stands for a list of retirements.
use Rattle.std.specs.Prelude.{◌≡◌, ℕ, ◌+◌, ◌<◌, ◌%◌, ◌/◌, ◌==◌, Option, Some, None, List, [], ◌∷◌, ◌++◌, length}
use Rattle.std.specs.Prelude.{reverse, if◌then◌else◌}
use Rattle.access_times.specs.Riding.{Carrying}
use Rattle.rtr_types.specs.declared.TheConstants.{BLOCK_WORDS, CORES_MAX}
use Rattle.clock_core.specs.declared.clock.Clock.{Clock}
use Rattle.rtr_types.specs.declared.access.Access.{Access}
use Rattle.rtr_types.specs.declared.instr.Instr.{Instr}
use Rattle.msi_memory.specs.declared.port.Port.{Port}
use Rattle.msi_memory.specs.Memories.{rider_at}
use Rattle.msi_state.specs.Events.{Event, Nothing, Retires, Accesses}
use Rattle.msi_state.specs.States.{State, core_at}
use Rattle.machine_times.specs.History.{NotedAccess, write_after, read_after, IsExactFor}
use Rattle.machine_times.specs.StandsFor.{HaveTimes, TimesParts, slot_times, word_number}

-- an instruction that retired, with its access if it made one, and the clock that was noted for it
pub record Retirement : Type 0 where
  pub at : Instr
  pub access : Option Access
  pub clock : Clock

abbrev pub noted_by : Option Access → Clock → List NotedAccess → List NotedAccess
noted_by None clock h = h
noted_by (Some a) clock h = record { access = a; clock = clock } ∷ h

-- the accesses among the retirements, each with its clock
abbrev pub noted_accesses : List Retirement → List NotedAccess
noted_accesses [] = []
noted_accesses (r ∷ h) = noted_by r.access r.clock (noted_accesses h)

-- how many of the retirements are of the core
abbrev pub retired_by : List Retirement → ℕ → ℕ
retired_by [] c = 0
retired_by (r ∷ h) c = if r.at.core == c then retired_by h c + 1 else retired_by h c

abbrev pub IsAccessOf : Option Access → Instr → Type 0
IsAccessOf None at = Unit {0}
IsAccessOf (Some a) at = a.at ≡ at

-- the retirement is its core's next one after these
pub record ComesNext (h : List Retirement) (r : Retirement) : Type 0 where
  pub core : r.at.core < CORES_MAX
  pub count : r.at.count ≡ retired_by h r.at.core + 1
  pub access : IsAccessOf r.access r.at

-- each of the retirements, newest first, is the next one of its core
abbrev pub AreInOrder : List Retirement → Type 0
AreInOrder [] = Unit {0}
AreInOrder (r ∷ h) = ComesNext h r × AreInOrder h

-- the machine stands for the retirements, newest first
pub record StandsAfter {R K : Type 0} (parts : TimesParts R) (carrying : Carrying K) (h : List Retirement)
    (s : State R K) : Type 0 where
  pub all : HaveTimes parts carrying (noted_accesses h) s.memory
  pub counts : (c : ℕ) → c < length s.cores → (core_at s.cores c).count ≡ retired_by h c
  pub order : AreInOrder h

-- the machine stands for the list of the retirements so far, in order
abbrev pub MachineStandsFor : {R K : Type 0} → TimesParts R → Carrying K → List Retirement → State R K → Type 0
MachineStandsFor parts carrying list s = StandsAfter parts carrying (reverse list) s

-- the retirements with what an event retired, with this clock: newest first, and in order
abbrev pub after_event : Event → Clock → List Retirement → List Retirement
after_event Nothing clock h = h
after_event (Retires at) clock h = record { at = at; access = None; clock = clock } ∷ h
after_event (Accesses a) clock h = record { at = a.at; access = Some a; clock = clock } ∷ h

abbrev pub with_event : Event → Clock → List Retirement → List Retirement
with_event Nothing clock list = list
with_event (Retires at) clock list = list ++ (record { at = at; access = None; clock = clock }) ∷ []
with_event (Accesses a) clock list = list ++ (record { at = a.at; access = Some a; clock = clock }) ∷ []

-- the accesses with what an event accessed
abbrev pub noted_after : Event → Clock → List NotedAccess → List NotedAccess
noted_after Nothing clock h = h
noted_after (Retires at) clock h = h
noted_after (Accesses a) clock h = record { access = a; clock = clock } ∷ h

-- the rider is the old one with the access noted, in each slot
pub record RiderNotes {R : Type 0} (parts : TimesParts R) (n : NotedAccess) (old new : R) : Type 0 where
  pub write : (slot : ℕ) → slot < BLOCK_WORDS
      → parts.write new slot ≡ write_after n (word_number (n.access.word / BLOCK_WORDS) slot) (parts.write old slot)
  pub read : (slot d : ℕ) → slot < BLOCK_WORDS → d < CORES_MAX
      → parts.read new slot d ≡ read_after n (word_number (n.access.word / BLOCK_WORDS) slot) d (parts.read old slot d)

-- where an access retires, the rider left is the one found with the access and the clock noted
abbrev pub RiderFits : {R K : Type 0} → TimesParts R → Clock → R → Event → Port R K → Type 0
RiderFits parts clock rider e p =
    (a : Access) → e ≡ Accesses a
    → RiderNotes parts (record { access = a; clock = clock }) (rider_at parts.riding p a.word) rider

-- the rider is exact for the access after these: in its word's slot it has the last write and, for an access that
-- writes, each core's last read since, each with its clock, and nothing else
abbrev pub IsExactRider : {R : Type 0} → TimesParts R → List NotedAccess → Access → R → Type 0
IsExactRider parts h a rider =
    IsExactFor (slot_times parts (a.word % BLOCK_WORDS)) h a.word a.kind (record { words = []; rider = rider })
