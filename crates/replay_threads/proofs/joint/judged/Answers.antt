use Rattle.std.proofs.Common.{subst}
use Rattle.rtr_types.specs.declared.pairs.Which.{Which}
use Rattle.race_log.specs.declared.recording.Recording.{Recording}
use Rattle.replay_audit.specs.Determinate.{IsDeterminate}
use Rattle.replay_threads.proofs.TurnEnds.{end_ran}
use Rattle.replay_threads.proofs.joint.judged.Goals as goal

pub returns : goal.returns
returns g c =
    let det : IsDeterminate c.args.order.which c.args.order.recording = c.in_ok-judge.ensures.0 c.if-not-branch.false in
    end_ran g.J.Job.which g.J.Job.recording c.in-Ok.closed c.requires.valid c.in-Ok.ensures.ok
    (subst (λ (w : Which). IsDeterminate w g.J.Job.recording) c.requires.order.0
    (subst (λ (r : Recording). IsDeterminate c.args.order.which r) c.requires.order.1 det))
