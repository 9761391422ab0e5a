use Rattle.std.proofs.Common.{ap}
use Rattle.race_log.specs.declared.recording.Recording.{Recording}
use Rattle.replay_core.specs.Plans.{recorded_image}
use Rattle.rtr_cli.proofs.CutLemmas.{replayed_of, state_fits}
use Rattle.rtr_cli.proofs.cuts.state_at.Goals as goal

-- the outcome is one over the recording's image
pub told-requires-clause-fits : goal.told-requires-clause-fits
told-requires-clause-fits c =
    state_fits c.replays_fit_their_plan.ensures _ _ _ _ _ c.into_parts-recording.ensures.valid
    (ap (λ (r : Recording). recorded_image r) c.into_parts-recording.ensures.recording) c.in_ok-outcome.ensures

pub returns-clause-determinate : goal.returns-clause-determinate
returns-clause-determinate c = replayed_of c.args.which c.args.recording c.in_ok-audited.audited c.in_ok-audited.ensures
