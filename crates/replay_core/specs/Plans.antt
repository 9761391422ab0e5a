-- What a replay takes of a recording and of one of its logs.
use Rattle.std.specs.Prelude.{ℕ, List}
use Rattle.rtr_types.specs.declared.instr.Edge.{Edge}
use Rattle.rtr_types.specs.declared.pairs.Which.{Which}
use Rattle.image_mem.specs.Contents.{Contents}
use Rattle.race_log.specs.declared.recording.Recording.{Recording}
use Rattle.race_log.specs.Sources.{log_edges}

-- the image, the limit, each core's total, and the edges of the log
pub record Plan : Type 0 where
  pub image : Contents
  pub limit : ℕ
  pub totals : List ℕ
  pub edges : List Edge

-- the recording's bytes over a memory of its words
abbrev pub recorded_image : Recording → Contents
recorded_image r = record { bytes = r.image; words = r.params.words }

abbrev pub plan_of : Which → Recording → Plan
plan_of which r = record {
  image = recorded_image r;
  limit = r.params.limit;
  totals = r.totals;
  edges = log_edges which r;
}
