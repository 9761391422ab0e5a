-- Rule: the machine over every run: RunHolds
-- What holds of the machine over every run.
use Rattle.std.specs.Prelude.{◌≡◌, ℕ, ◌+◌, ◌*◌, ◌<◌, ◌≤◌, true, false, IsTrue, length}
use Rattle.access_times.specs.Riding.{none_carrying, none_riding}
use Rattle.image_mem.specs.Contents.{Contents}
use Rattle.rtr_types.specs.Parameters.{Fits}
use Rattle.rtr_types.specs.declared.params.Params.{Params}
use Rattle.machine_bound.specs.Ends.{end_of}
use Rattle.machine_data.specs.LastValues.{EachFindsLast, memory_left}
use Rattle.msi_laws.specs.Holds.{OneWriterEverywhere}
use Rattle.msi_laws.specs.Moving.{links_empty}
use Rattle.machine_bound.specs.Bound.{total_retired}
use Rattle.msi_state.specs.FinalMemory.{final_memory}
use Rattle.msi_state.specs.Rests.{HasRoomFor, has_row_for}
use Rattle.msi_state.specs.Runs.{IsRunEnd, accesses, plain_moves, run}
use Rattle.msi_state.specs.States.{PlainState, all_done}
use Rattle.msi_state.specs.Steps.{enabled}
use Rattle.msi_state.specs.declared.moves.Move.{Move}

-- the move can be made in this state
abbrev pub IsEnabled : PlainState → Move → Type 0
IsEnabled s m = IsTrue (enabled none_riding none_carrying s m)

-- what holds of a state of a run
pub record StateHolds (s : PlainState) : Type 0 where
  -- at most one cache may write a block, and then no other may read it
  pub one_writer : OneWriterEverywhere none_riding none_carrying s.memory
  -- the message that a move takes has a row in its receiver's table
  pub rows : (m : Move) → IsEnabled s m → IsTrue (has_row_for none_riding none_carrying s m)
  -- no link that it pushes to is full
  pub rooms : (m : Move) → IsEnabled s m → HasRoomFor none_riding none_carrying s m
  -- until each core's program is done some move is enabled
  pub going : all_done s ≡ false → 0 < length (plain_moves s)

-- what holds of a run that ends after t choices
pub record EndHolds (image : Contents) (params : Params) (choices : ℕ → ℕ) (t : ℕ) : Type 0 where
  pub ends : IsRunEnd image params choices t
  -- within 2 P + 4 steps for each instruction that retired
  pub in_time : t ≤ (2 * params.cores + 4) * total_retired (run image params choices t)
  pub quiet : links_empty (run image params choices t).memory ≡ true
  -- each word has what was written there last, or what the image has there
  pub memory : final_memory none_riding none_carrying (run image params choices t)
      ≡ memory_left image (accesses image params choices t)

-- what holds of a run
pub record RunHolds (image : Contents) (params : Params) (choices : ℕ → ℕ) : Type 0 where
  pub states : (t : ℕ) → StateHolds (run image params choices t)
  -- each access finds what was written last to its word, or what the image has there
  pub finds : (t : ℕ) → EachFindsLast image (accesses image params choices t)
  pub end : EndHolds image params choices (end_of image params choices)

abbrev pub EveryRunLaw : Type 0
EveryRunLaw = (image : Contents) (params : Params) (choices : ℕ → ℕ) → Fits params → RunHolds image params choices
