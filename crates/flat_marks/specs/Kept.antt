-- Rule: what is kept of a flat state from move to move: IsMarked
-- Which moves are marked, and which cores ask for a block; and what a move of the machine does to both.
use Rattle.std.specs.Prelude.{◌≡◌, ◌≢◌, ℕ, ◌<◌, ◌==◌, ◌&&◌, Bool, true, false, not, length, nat_lt}
use Rattle.link_order.specs.Queue.{is_nil}
use Rattle.rtr_types.specs.CoreSets.{has, no_cores}
use Rattle.move_marks.specs.Kinds.{set_of}
use Rattle.move_marks.specs.declared.marks.MoveKind.TheVariants.{Own, Request, Response, FromHome}
use Rattle.move_marks.specs.declared.marks.MoveMarks.{MoveMarks}
use Rattle.msi_state.specs.Events.{Event}
use Rattle.msi_state.specs.declared.moves.Move.{Move}
use Rattle.flat_state.specs.declared.block.Held.{Held}
use Rattle.flat_state.specs.declared.block.Held.TheVariants.{Acks, ToShare, ToOwn}
use Rattle.flat_state.specs.declared.block.HomeBlock.{HomeBlock}
use Rattle.flat_state.specs.declared.flat.Flat.{Flat}
use Rattle.flat_state.specs.Shows.{Makes, Tells, blocks_of, home_at, node_at}
use Rattle.flat_laws.specs.Marks.{own_mark, request_mark}

-- a block that is held so can be asked for
abbrev pub is_free_held : Held → Bool
is_free_held Acks = false
is_free_held ToShare = false
is_free_held ToOwn = false
is_free_held _ = true

-- exactly the moves are marked that can be made, and a block's askers are the cores whose request is for it
pub record IsMarked (f : Flat) (marks : MoveMarks) : Type 0 where
  pub own : (c : ℕ) → has (set_of Own marks) c
      ≡ (nat_lt c (length f.nodes.items) && own_mark (node_at f.nodes.items c))
  pub requests : (c : ℕ) → has (set_of Request marks) c ≡ request_mark f.home.items (node_at f.nodes.items c)
  pub responses : (c : ℕ) → has (set_of Response marks) c ≡ not (is_nil (node_at f.nodes.items c).replies)
  pub messages : (c : ℕ) → has (set_of FromHome marks) c ≡ not (is_nil (node_at f.nodes.items c).messages)
  pub askers : (i c : ℕ) → i < length f.home.items → has (home_at f.home.items i).askers c
      ≡ ((node_at f.nodes.items c).asks && ((node_at f.nodes.items c).place == i))

-- the move was made, which tells of this event, and the marks went with it
pub record Follows (old new : Flat) (are : MoveMarks) (m : Move) (e : Event) : Type 0 where
  pub makes : Makes old new m
  pub told : Tells old m e
  pub blocks : blocks_of new.home.items ≡ blocks_of old.home.items
  pub marked : IsMarked new are

-- an entry but for its askers
abbrev pub but_askers : HomeBlock → HomeBlock
but_askers b = record b { askers = no_cores }

-- the core is now among those that ask for the block at this place, or isn't, and nothing else changed
pub record HasAsker (old new : Flat) (core place : ℕ) (asks : Bool) : Type 0 where
  pub program : new.program ≡ old.program
  pub nodes : new.nodes.items ≡ old.nodes.items
  pub long : length new.home.items ≡ length old.home.items
  pub home : (i : ℕ) → but_askers (home_at new.home.items i) ≡ but_askers (home_at old.home.items i)
  pub this : has (home_at new.home.items place).askers core ≡ asks
  pub others : (i c : ℕ) → (i ≡ place → c ≢ core)
      → has (home_at new.home.items i).askers c ≡ has (home_at old.home.items i).askers c
