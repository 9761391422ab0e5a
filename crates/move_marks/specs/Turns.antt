-- What the home's turns change of the marks.
use Rattle.std.specs.Prelude.{◌≡◌, ℕ, Bool, not, ◌&&◌, ◌||◌, true, false, nat_lt, if◌then◌else◌}
use Rattle.access_times.specs.Riding.{Riding}
use Rattle.rtr_types.specs.CoreSets.{has}
use Rattle.msi_directory.specs.Blocks.{entry_at}
use Rattle.msi_directory.specs.Table.{is_free}
use Rattle.msi_memory.specs.declared.turn.Turn.{Turn}
use Rattle.msi_memory.specs.Memories.{Memory}
use Rattle.msi_memory.specs.Rests.{head_is, hears, requests_at}
use Rattle.move_marks.specs.declared.marks.MoveKind.TheVariants.{Own, Request, Response, FromHome}
use Rattle.move_marks.specs.declared.marks.MoveMarks.{MoveMarks}
use Rattle.move_marks.specs.Kinds.{set_of}

abbrev pub differ : Bool → Bool → Bool
differ true b = not b
differ false b = b

-- What is marked after the home's turn, before which its block was free or not: the messages that it sent to the first
-- so many cores, and the requests for the block where it is free now and wasn't, but no longer where it was and isn't.
pub record IsAfterTurn {R K : Type 0} (riding : Riding R) (m : Memory R K) (cores : ℕ) (turn : Turn) (was : Bool)
    (old new : MoveMarks) : Type 0 where
  pub messages : (c : ℕ) →
      has (set_of FromHome new) c ≡ (has (set_of FromHome old) c || (hears turn.answer c && nat_lt c cores))
  pub requests : (c : ℕ) →
      has (set_of Request new) c
      ≡ (let free = is_free (entry_at riding.fresh m.home turn.block).stage in
      if head_is turn.block (requests_at m.ports c) && differ free was then free else has (set_of Request old) c)
  pub own : (c : ℕ) → has (set_of Own new) c ≡ has (set_of Own old) c
  pub responses : (c : ℕ) → has (set_of Response new) c ≡ has (set_of Response old) c
