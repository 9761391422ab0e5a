-- Rule: exits of a hunt and their numbers: status_of
-- The exit status of each way to end.
use Rattle.std.specs.Prelude.{ℕ}
use Rattle.state_text.specs.Exits.{status_of as status_as}
use Rattle.hunt_cli.specs.declared.exits.HuntExit.{HuntExit}
use Rattle.hunt_cli.specs.declared.exits.HuntExit.TheVariants.{As, Breaks, Whole}

abbrev pub status_of : HuntExit → ℕ
status_of (As exit) = status_as exit
status_of Breaks = 15
status_of Whole = 16
