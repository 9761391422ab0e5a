-- What the cores stand at and whether their ports wait, from which the moves that can be made are found.
use Rattle.std.specs.Prelude.{◌≡◌, ℕ, Bool, false, List, map, slice_index_or, not, ◌&&◌, IsTrue, Option}
use Rattle.access_times.specs.Riding.{Riding, Carrying}
use Rattle.rtr_types.specs.CoreSets.{has}
use Rattle.image_mem.specs.Contents.{Contents}
use Rattle.rv_decode.specs.declared.op.Op.{Op}
use Rattle.rv_core.specs.declared.core_state.Core.{Core}
use Rattle.rv_core.specs.declared.core_state.Need.{Need}
use Rattle.rv_core.specs.Steps.{need, instruction_at, is_done}
use Rattle.msi_cache.specs.Lines.{waits}
use Rattle.msi_memory.specs.Memories.{port_at}
use Rattle.move_marks.specs.declared.marks.MoveKind.TheVariants.{Own, Request}
use Rattle.move_marks.specs.Kinds.{set_of}
use Rattle.move_marks.specs.Ports.{PortsNoted}
use Rattle.msi_state.specs.declared.moves.Move.{Move}
use Rattle.msi_state.specs.declared.moves.Move.TheVariants.{Core as CoreMove}
use Rattle.msi_state.specs.States.{Machinery, State, core_at}
use Rattle.msi_state.specs.Steps.{enabled}
use Rattle.machine_invariant.specs.Holds.{MachineHolds}
use Rattle.msi_machine.specs.declared.marks.Marks.{Marks}
use Rattle.msi_machine.specs.declared.standing.Standing.{Standing}
use Rattle.msi_machine.specs.Marks.{OthersMarked}

-- a core's next instruction and what that needs, beside whether its port waits
abbrev pub standing_with : Contents → Core → Bool → Standing
standing_with image core waiting = record { need = need image core; op = instruction_at image core.pc; waits = waiting }

-- what is kept of the core, and what that is of a core
abbrev pub next_of : Standing → Need × Option Op
next_of s = (s.need, s.op)

abbrev pub next_in : Contents → Core → Need × Option Op
next_in image core = (need image core, instruction_at image core.pc)

-- a core that stands so may move by itself
abbrev pub may_work : Standing → Bool
may_work s = not (is_done s.need) && not s.waits

-- the core may move by itself where cores stand so
abbrev pub may_begin : List Standing → ℕ → Bool
may_begin standings c = slice_index_or (map may_work standings) c false

module _ {R K : Type 0} where
  -- what core c stands at
  abbrev pub standing_at : Carrying K → State R K → ℕ → Standing
  standing_at carrying s c =
      standing_with s.image (core_at s.cores c) (waits (port_at carrying s.memory.ports c).cache)

  -- of each core there is kept what it stands at
  pub record StandingsFit (s : State R K) (standings : List Standing) : Type 0 where
    pub next : map next_of standings ≡ map (next_in s.image) s.cores
    pub waits : map (λ x. x.waits) standings ≡ map (λ p. waits p.cache) s.memory.ports

  -- the state has the machine's invariant, and the move can be made in it
  pub record CanMove (riding : Riding R) (carrying : Carrying K) (s : State R K) (m : Move) : Type 0 where
    pub holds : MachineHolds riding carrying s
    pub enabled : IsTrue (enabled riding carrying s m)

  -- exactly the moves that can be made are marked, but for the oldest request of the core that asked last: it isn't
  pub record AskerOpen (riding : Riding R) (carrying : Carrying K) (s : State R K) (marks : Marks) (asker : ℕ)
      : Type 0 where
    pub others : OthersMarked riding carrying s marks asker
    pub unmarked : has (set_of Request marks.moves) asker ≡ false

  -- what is noted beside the state after a move fits, in which this core asked, if one did; its request isn't marked
  pub record MoveNoted (riding : Riding R) (carrying : Carrying K) (s : State R K) (standings : List Standing)
      (marks : Marks) (asker : ℕ) : Type 0 where
    pub stands : StandingsFit s standings
    pub marked : OthersMarked riding carrying s marks asker
    pub unmarked : has (set_of Request marks.moves) asker ≡ false

  -- the state has the machine's invariant, and what a machine notes beside it fits: what each core stands at, which
  -- moves can be made, and the one core that asked last, for whose oldest request neither is noted whether it can be
  -- taken nor is there room for sure; it isn't marked
  pub record NotesFit (riding : Riding R) (carrying : Carrying K) (m : Machinery R K) (standings : List Standing)
      (marks : Marks) (asker : ℕ) : Type 0 where
    pub holds : MachineHolds riding carrying m.state
    pub stands : StandingsFit m.state standings
    pub own : (c : ℕ) → has (set_of Own marks.moves) c ≡ enabled riding carrying m.state (CoreMove c)
    pub ports : PortsNoted riding carrying m.state.memory m.rooms marks.cores marks.moves asker
    pub unmarked : has (set_of Request marks.moves) asker ≡ false
