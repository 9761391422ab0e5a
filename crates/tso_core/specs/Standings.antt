-- What the cores stand at, and what a machine notes beside its state.
use Rattle.std.specs.Prelude.{◌≡◌, ◌≢◌, ◌<◌, ℕ, Bool, false, List, length, map, slice_index_or, not, ◌&&◌}
use Rattle.access_times.specs.Riding.{Riding, Carrying}
use Rattle.image_mem.specs.Contents.{Contents}
use Rattle.rtr_types.specs.CoreSets.{has}
use Rattle.rtr_types.specs.declared.TheConstants.{CORES_MAX}
use Rattle.rv_core.specs.declared.core_state.Core.{Core}
use Rattle.rv_core.specs.Steps.{need, instruction_at, is_done}
use Rattle.msi_cache.specs.Lines.{waits}
use Rattle.msi_memory.specs.declared.port.Port.{Port}
use Rattle.msi_memory.specs.Memories.{Memory, port_at}
use Rattle.move_marks.specs.declared.marks.MoveKind.{MoveKind}
use Rattle.move_marks.specs.declared.marks.MoveKind.TheVariants.{Own}
use Rattle.move_marks.specs.Kinds.{set_of}
use Rattle.move_marks.specs.Ports.{PortsNoted}
use Rattle.tso_state.specs.States.{BufferedCore, State, core_at}
use Rattle.tso_state.specs.Steps.{can_order, case_holds, is_fence_op, is_next}
use Rattle.tso_invariant.specs.Holds.{TsoHolds, is_asking}
use Rattle.tso_core.specs.declared.marks.Marks.{Marks}
use Rattle.tso_core.specs.declared.standing.Standing.{Standing}
use Rattle.tso_core.specs.Machineries.{Machinery}
use Rattle.tso_core.specs.Marks.{CoresMarked}

-- a core's next instruction beside what that needs
abbrev pub standing_with : Contents → Core → Standing
standing_with image core = record { need = need image core; op = instruction_at image core.pc }

-- the core may move by itself where cores stand so and nothing is pending or under way
abbrev pub may_begin : List Standing → ℕ → Bool
may_begin standings c = slice_index_or (map (λ s. not (is_done s.need)) standings) c false

module _ {R K : Type 0} where
  -- a core that stands so can execute its next instruction at this port, or ask for the block that this needs
  abbrev pub may_execute : Riding R → Standing → BufferedCore → Port R K → Bool
  may_execute riding s t p = not (is_next t.asker) && case_holds s.need (is_fence_op s.op) riding t.queue p

  -- core c's number is that of a core, and its port is there, which waits exactly where the core has asked
  pub record IsAtPort (carrying : Carrying K) (m : Memory R K) (t : BufferedCore) (c : ℕ) : Type 0 where
    pub few : c < CORES_MAX
    pub here : c < length m.ports
    pub asked : waits (port_at carrying m.ports c).cache ≡ is_asking t.asker

  -- what core c, which stands so at this port, can do by itself is marked anew, and nothing else is
  pub record OwnMarked (riding : Riding R) (p : Port R K) (t : BufferedCore) (standing : Standing) (c : ℕ)
      (old new : Marks) : Type 0 where
    pub cores : new.cores ≡ old.cores
    pub own : has (set_of Own new.moves) c ≡ may_execute riding standing t p
    pub order : has new.orders c ≡ can_order t.queue riding p
    pub orders : (d : ℕ) → d ≢ c → has new.orders d ≡ has old.orders d
    pub others : (kind : MoveKind) (d : ℕ) → (kind ≡ Own → d ≢ c)
        → has (set_of kind new.moves) d ≡ has (set_of kind old.moves) d

  -- what core c stands at
  abbrev pub standing_at : State R K → ℕ → Standing
  standing_at s c = standing_with s.image (core_at s.cores c).core

  -- of each core there is kept what it stands at
  abbrev pub StandingsFit : State R K → List Standing → Type 0
  StandingsFit s standings = standings ≡ map (λ t. standing_with s.image t.core) s.cores

  -- the state has the machine's invariant, and what a machine notes beside it fits: what each core stands at, which
  -- moves can be made, and the one core for whose oldest request neither is noted whether it can be taken nor is there
  -- room for sure; where no core has that number, none is marked
  pub record NotesFit (riding : Riding R) (carrying : Carrying K) (m : Machinery R K) (standings : List Standing)
      (marks : Marks) (mover : ℕ) : Type 0 where
    pub holds : TsoHolds riding carrying m.state
    pub stands : StandingsFit m.state standings
    pub cores : CoresMarked riding carrying m.state marks
    pub ports : PortsNoted riding carrying m.state.memory m.rooms marks.cores marks.moves mover
