use Rattle.run_replays.proofs.DecidingOrder.{reduced_decides, run_decides}
use Rattle.run_replays.proofs.laws.retirement_decides.Goals as goal

pub returns : goal.returns
returns c = record { implied = run_decides; reduced = reduced_decides }
