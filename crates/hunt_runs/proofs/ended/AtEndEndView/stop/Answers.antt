use Rattle.std.proofs.Common.{◌∙◌, ap, sym}
use Rattle.end_claims.specs.Ends.{stop_at}
use Rattle.rv_core.specs.Steps.{stop_of}
use Rattle.hunt_runs.proofs.EndViews.{stops_total}
use Rattle.hunt_runs.proofs.ended.AtEndEndView.stop.Goals as goal

pub returns-in-Done : goal.returns-in-Done
unfolding stop_at
returns-in-Done g c = ap stop_of (sym c.in-Done.is ∙ c.need_of.ensures)

pub returns-in_default : goal.returns-in_default
unfolding stop_at
returns-in_default g c = stops_total c.need_of.result c.in_default.not-Done ∙ ap stop_of c.need_of.ensures
