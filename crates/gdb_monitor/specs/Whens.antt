-- Where each core is.
use Rattle.std.specs.Prelude.{ℕ, List, ◌++◌, codes, decimal, slice_index}
use Rattle.std.specs.List.{flat_map, range_with_len}
use Rattle.rv_core.specs.declared.core_state.Core.{Core}
use Rattle.replay_core.specs.Play.{core_at}
use Rattle.debug_place.specs.Places.{Placed}
use Rattle.race_answers.specs.Instrs.{hex_word}
use Rattle.gdb_commands.specs.Lines.{line}

-- how many instructions of how many a core has retired, and its pc
abbrev pub core_row : (core total : ℕ) → Core → List ℕ
core_row core total here =
    codes "core " ++ decimal core ++ codes ": " ++ decimal here.count ++ codes " of " ++ decimal total ++ codes ", pc "
    ++ line (hex_word here.pc)

-- a core in the state of a place
abbrev pub when_row : Placed → (core : ℕ) → List ℕ
when_row place core = core_row core (slice_index place.recording.totals core) (core_at place.state core)

-- `when`: each core
abbrev pub when_text : Placed → List ℕ
when_text place = flat_map (when_row place) (range_with_len 0 place.recording.params.cores)
