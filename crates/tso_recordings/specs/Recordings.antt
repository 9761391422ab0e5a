-- What a run of cores with store buffers is recorded as.
use Rattle.std.specs.Prelude.{◌≡◌, ℕ, ◌*◌, ◌≤◌, length}
use Rattle.image_mem.specs.Contents.{Contents}
use Rattle.rtr_types.specs.Parameters.{Fits}
use Rattle.rtr_types.specs.declared.params.Params.{Params}
use Rattle.least_lists.specs.LeastLists.{least_lists}
use Rattle.tso_codec.specs.declared.recording.TsoRecording.{TsoRecording}
use Rattle.tso_state.specs.Runs.{accesses, run, totals, values_at}
use Rattle.tso_data.specs.Words.{OpensSmall}

-- the parameters fit, and the image fits the memory that they give, whose words are words
pub record CanRun (image : Contents) (params : Params) : Type 0 where
  pub fits : Fits params
  pub memory : image.words ≡ params.words
  pub room : length image.bytes ≤ 4 * params.words
  pub words : OpensSmall image

-- what a run is recorded as that ends after t choices: its parameters, image and totals, the least set of the accesses
-- that were ordered, by pair of cores, and of each core the logged loads with their words
abbrev pub tso_recording_at : Contents → Params → (choices : ℕ → ℕ) → (t : ℕ) → TsoRecording
tso_recording_at image params choices t = record {
  params = params;
  image = image.bytes;
  totals = totals (run image params choices t);
  reduced = least_lists params.cores (accesses image params choices t);
  values = values_at image params choices t;
}
