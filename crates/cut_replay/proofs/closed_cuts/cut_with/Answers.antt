use Rattle.std.proofs.Common.{ap, arith}
use Rattle.std.specs.Prelude.{slice_index}
use Rattle.race_log.specs.declared.recording.Recording.{Recording}
use Rattle.cut_replay.proofs.Cuts.{least_with}
use Rattle.cut_replay.proofs.closed_cuts.cut_with.Goals as goal

pub returns : goal.returns
returns c =
    let a = c.args.audited.now in
    let l = c.loop-core.invariant in
    let cores = ap (λ (r : Recording). r.params.cores) c.recording.ensures.recording in
    least_with a.which a.recording c.recording.ensures.valid c.args.at c.requires
    (λ i. slice_index c.clock-clock.result i) c.clock-clock.ensures _
    (record {
      cores = cores;
      places = l.wide;
      done = λ core lt. l.done core (omega (arith, c.loop-core-test.false, c.loop-core.auto.core-end));
      rest = λ core le. l.rest core (omega (arith, c.loop-core-test.false, c.loop-core.auto.core-end));
    })
