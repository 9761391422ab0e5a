-- What the recorder's clerk holds, and what it does when it is told of an instruction.
use Rattle.std.specs.Prelude.{◌≡◌, ℕ, ◌<◌, Bool, IsTrue, List, length}
use Rattle.access_times.specs.Times.{times_noted}
use Rattle.access_times.specs.declared.times.Times.{Times}
use Rattle.rtr_types.specs.declared.access.Access.{Access}
use Rattle.rtr_types.specs.declared.instr.Instr.{Instr}
use Rattle.roomy_lists.specs.Lists.{with_item}
use Rattle.online_reduce.specs.Reduced.{IsNext, Readied, clock_of, counted, retired}

-- the reduction of the run so far, with whether one more ordered access needs no memory; and of each core the logged
-- loads, each a count and its word, with whether one more of each needs no memory
pub record Noted : Type 0 where
  pub reduction : Readied
  pub values : List (List (ℕ × ℕ))
  pub roomy : Bool

-- the instruction is the next one of its core, and there is room for it
pub record Accepts (c : Noted) (at : Instr) : Type 0 where
  pub next : IsNext c.reduction.state at
  pub ready : IsTrue c.reduction.ready
  pub core : at.core < length c.values
  pub roomy : IsTrue c.roomy

-- the clerk before and after it was told of an instruction without an access
pub record ToldLocal (c : Noted) (at : Instr) (d : Noted) : Type 0 where
  pub reduction : d.reduction.state ≡ counted c.reduction.state at
  pub values : d.values ≡ c.values

-- the clerk and the block's times before and after it was told of an ordered access
pub record ToldTouch (c : Noted) (before : Times) (a : Access) (d : Noted) (after : Times) : Type 0 where
  pub reduction : d.reduction.state ≡ retired c.reduction.state a before
  pub values : d.values ≡ c.values
  pub times : after ≡ times_noted a before (clock_of d.reduction.state a.at.core)

-- the clerk before and after it was told of a load that is logged: the reduction hears of it as of an instruction that
-- touches no data
pub record ToldLogged (c : Noted) (at : Instr) (word value : ℕ) (d : Noted) : Type 0 where
  pub reduction : d.reduction.state ≡ counted c.reduction.state at
  pub values : d.values ≡ with_item c.values at.core (at.count, value)
