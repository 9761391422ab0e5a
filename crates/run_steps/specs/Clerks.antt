-- What the clerk that keeps each core's loads accepts, and what it is told.
use Rattle.std.specs.Prelude.{◌≡◌, ◌<◌, ℕ, IsTrue, List, if◌then◌else◌, length}
use Rattle.rtr_types.specs.Accesses.{is_read}
use Rattle.rtr_types.specs.declared.access.Access.{Access}
use Rattle.rtr_types.specs.declared.instr.Instr.{Instr}
use Rattle.rv_core.specs.declared.outcome.LoadNote.{LoadNote}
use Rattle.roomy_lists.specs.Lists.{with_item}
use Rattle.load_lists.specs.Lists.{LoadRooms}

-- the lists with what one more instruction read, noted with its core
abbrev pub with_load : List (List LoadNote) → Instr → (word value : ℕ) → List (List LoadNote)
with_load lists at word value = with_item lists at.core (record { count = at.count; word = word; value = value })

-- the lists after one more access: one that reads is noted with the word that it got
abbrev pub with_read : List (List LoadNote) → Access → List (List LoadNote)
with_read lists a = if is_read a.kind then with_load lists a.at a.word a.before else lists

-- the instruction is one of the clerk's cores, and there is room for what it reads
pub record Accepts (c : LoadRooms) (at : Instr) : Type 0 where
  pub core : at.core < length c.lists
  pub roomy : IsTrue c.roomy

-- the clerk before and after it was told of an instruction without an access
abbrev pub ToldLocal : LoadRooms → LoadRooms → Type 0
ToldLocal c d = d.lists ≡ c.lists

-- the clerk and the rider before and after it was told of an access
pub record ToldTouch {R : Type 0} (c : LoadRooms) (before : R) (a : Access) (d : LoadRooms) (after : R) : Type 0 where
  pub loads : d.lists ≡ with_read c.lists a
  pub rider : after ≡ before

-- the clerk before and after it was told of a load that is logged
abbrev pub ToldLogged : LoadRooms → Instr → (word value : ℕ) → LoadRooms → Type 0
ToldLogged c at word value d = d.lists ≡ with_load c.lists at word value
