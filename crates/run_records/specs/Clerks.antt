-- What the recorder's clerk holds, and what it does when it is told of a retirement.
use Rattle.std.specs.Prelude.{◌≡◌, ℕ, ◌<◌, List, [], All, IsTrue}
use Rattle.access_times.specs.Times.{times_noted}
use Rattle.access_times.specs.declared.times.Times.{Times}
use Rattle.rtr_types.specs.declared.access.Access.{Access}
use Rattle.rtr_types.specs.declared.instr.Edge.{Edge}
use Rattle.rtr_types.specs.declared.instr.Instr.{Instr}
use Rattle.know_history.specs.Notes.{Notes, noted_count}
use Rattle.know_history.specs.declared.known.Known.{Known}
use Rattle.rtr_types.specs.PairEdges.{with_edges}
use Rattle.edge_regulate.specs.Regulated.{AreReady, ArePairsApart}
use Rattle.edge_regulate.specs.Seats.{CanFollow, Following, Follows, IsNotedNext}
use Rattle.online_reduce.specs.Reduced.{IsNext, Readied, clock_of, counted, edges_of, retired}

-- the reduction of the run so far, with whether one more retirement needs no memory; the edges of the last retirement
-- that the regulator wasn't told yet; and what the regulator has of those that it was told
pub record Noted : Type 0 where
  pub reduction : Readied
  pub untold : List Edge
  pub regulation : Following

-- the instruction is the next one of a core that the clerk knows, and the regulator was told all edges
pub record IsAwaited (c : Noted) (at : Instr) : Type 0 where
  pub next : IsNext c.reduction.state at
  pub core : at.core < c.regulation.regulation.cores
  pub all_told : c.untold ≡ []

-- and there is room for its retirement
pub record Accepts (c : Noted) (at : Instr) : Type 0 where
  pub awaited : IsAwaited c at
  pub ready : IsTrue c.reduction.ready

-- the regulator before and after it was told of an instruction: whatever was noted before, it then stands for that with
-- the instruction, and so much known at it
pub record IsWatched (c : Following) (at : Instr) (known : Known) (d : Following) : Type 0 where
  pub regulation : d.regulation ≡ c.regulation
  pub follows : (old new : Notes) (edges : List (List (ℕ × ℕ))) → IsNotedNext old at known new
      → Follows old edges c → Follows new edges d

-- the clerk before and after it was told of an instruction without an access, which was a next one
pub record ToldLocal (c : Noted) (at : Instr) (known : Known) (d : Noted) : Type 0 where
  pub next : IsNext c.reduction.state at
  pub reduction : d.reduction.state ≡ counted c.reduction.state at
  pub untold : d.untold ≡ []
  pub regulation : IsWatched c.regulation at known d.regulation

-- the clerk and the block's times before and after it was told of an access, whose instruction was a next one
pub record ToldTouch (c : Noted) (before : Times) (a : Access) (known : Known) (d : Noted) (after : Times)
    : Type 0 where
  pub next : IsNext c.reduction.state a.at
  pub reduction : d.reduction.state ≡ retired c.reduction.state a before
  pub untold : d.untold ≡ edges_of c.reduction.state a before
  pub regulation : IsWatched c.regulation a.at known d.regulation
  pub times : after ≡ times_noted a before (clock_of d.reduction.state a.at.core)

-- the edges that the regulator wasn't told yet can be told, and there is room for their vectors
pub record CanTell (c : Noted) : Type 0 where
  pub ready : AreReady c.regulation.regulation
  pub next : All (λ e. CanFollow c.regulation.regulation e) c.untold
  pub apart : ArePairsApart c.regulation.regulation.cores c.untold

-- the clerk before and after the regulator was told these edges
pub record IsTold (c d : Noted) : Type 0 where
  pub reduction : d.reduction.state ≡ c.reduction.state
  pub untold : d.untold ≡ []
  pub cores : d.regulation.regulation.cores ≡ c.regulation.regulation.cores
  pub follows : (notes : Notes) (edges : List (List (ℕ × ℕ)))
      → All (λ e. e.to.count ≡ noted_count notes e.to.core) c.untold → Follows notes edges c.regulation
      → Follows notes (with_edges c.regulation.regulation.cores edges c.untold) d.regulation
