-- Rule: how far cores may move while one stays: IsSlack
-- How far each core may move while one stays where it is.
use Rattle.std.specs.Prelude.{◌≡◌, ℕ, ◌<◌, ◌≤◌, List, ◌++◌, codes, decimal}
use Rattle.std.specs.List.{flat_map, range_with_len}
use Rattle.rtr_types.specs.declared.cut.Cut.{Cut}
use Rattle.rtr_types.specs.declared.pairs.Which.{Which}
use Rattle.race_log.specs.declared.recording.Recording.{Recording}
use Rattle.cut_replay.specs.ClosedCuts.{count_in}
use Rattle.debug_place.specs.Places.{Placed, cut_at}
use Rattle.gdb_monitor.specs.declared.moves.Extreme.TheVariants.{Earliest, Latest}
use Rattle.gdb_monitor.specs.Moves.{IsExtreme}
use Rattle.gdb_commands.specs.Lines.{line}
use Rattle.gdb_monitor.specs.Texts.{no_core_text}

-- a core's counts in the least cut, in the greatest, and here
abbrev pub slack_row : (least greatest here : Cut) → (core : ℕ) → List ℕ
slack_row least greatest here core =
    codes "core " ++ decimal core ++ codes ": " ++ decimal (count_in least core) ++ codes " to "
    ++ decimal (count_in greatest core) ++ codes ", at " ++ line (decimal (count_in here core))

abbrev pub slack_rows : (cores : ℕ) → (least greatest here : Cut) → List ℕ
slack_rows cores least greatest here = flat_map (slack_row least greatest here) (range_with_len 0 cores)

-- between the cuts to which `earliest` and `latest` go each closed cut lies in which the core stands where it does here
pub record IsSlack (which : Which) (r : Recording) (here : Cut) (core : ℕ) (told : List ℕ) : Type 0 where
  pub least : Cut
  pub greatest : Cut
  pub least_is : IsExtreme Earliest which r here core least
  pub greatest_is : IsExtreme Latest which r here core greatest
  pub told_is : told ≡ slack_rows r.params.cores least greatest here

-- `slack C`
pub record IsSlackTold (core : ℕ) (place : Placed) (told : List ℕ) : Type 0 where
  pub there : core < place.recording.params.cores → IsSlack place.which place.recording (cut_at place) core told
  pub missing : place.recording.params.cores ≤ core → told ≡ no_core_text core
