use Rattle.std.proofs.Common.{refl, Some, None, ℕ}
use Rattle.std.specs.Prelude.{Option}
use Rattle.replay_core.proofs.AwaitedEdges.{source_by, still_next}
use Rattle.replay_core.proofs.coming.Coming.step.Goals as goal

pub returns-in-Some-clause-source : goal.returns-in-Some-clause-source
returns-in-Some-clause-source c =
    source_by c.args.log.which c.args.log.recording.now c.requires.valid c.args.of c.args.at c.next-next.result
    (Some c.in-Some.count) c.next-next.ensures
    c.in-Some.ensures

pub returns-in-None-clause-source : goal.returns-in-None-clause-source
returns-in-None-clause-source c =
    let none : Option ℕ = None in
    source_by c.args.log.which c.args.log.recording.now c.requires.valid c.args.of c.args.at c.next-next.result none
    c.next-next.ensures c.in-None.ensures

pub returns-in-None-clause-next : goal.returns-in-None-clause-next
returns-in-None-clause-next c =
    still_next c.args.log.which c.args.log.recording.now c.requires.valid c.args.of c.args.at c.next-next.result
    c.next-next.ensures (c.in-None.ensures.none refl)
