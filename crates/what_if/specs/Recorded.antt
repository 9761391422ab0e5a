-- How the cores of a recording end, in lines.
use Rattle.std.specs.Prelude.{ℕ, List, ◌++◌, codes, decimal}
use Rattle.std.specs.List.{flat_map, range_with_len}
use Rattle.image_mem.specs.Contents.{Contents}
use Rattle.rv_core.specs.declared.outcome.Outcome.{Outcome}
use Rattle.replay_core.specs.Plans.{recorded_image}
use Rattle.replay_audit.specs.Audits.{Findings}
use Rattle.what_if.specs.Told.{end_text, line}

abbrev pub ended_row : Contents → Outcome → (core : ℕ) → List ℕ
ended_row image outcome core =
    codes "core " ++ decimal core ++ codes ": retired " ++ line (end_text image outcome core)

abbrev pub ended_rows : Contents → Outcome → (cores : ℕ) → List ℕ
ended_rows image outcome cores = flat_map (ended_row image outcome) (range_with_len 0 cores)

-- how each core of the recording of an audit ends
abbrev pub recorded_text : Findings → List ℕ
recorded_text a = ended_rows (recorded_image a.recording) a.outcome a.recording.params.cores
