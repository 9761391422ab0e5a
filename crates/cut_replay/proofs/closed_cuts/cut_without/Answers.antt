use Rattle.std.proofs.Common.{◌<◌, ◌≡◌, ◌∙◌, ap, arith, length, length-set, refl}
use Rattle.std.specs.Prelude.{slice_index}
use Rattle.rtr_types.specs.declared.TheConstants.{CORES_MAX}
use Rattle.race_log.specs.declared.recording.Recording.{Recording}
use Rattle.cut_replay.specs.Frees.{AreFree}
use Rattle.cut_replay.proofs.Cuts.{filled, greatest_without, unfilled}
use Rattle.cut_replay.proofs.closed_cuts.cut_without.Goals as goal

pub loop-core-preserved : goal.loop-core-preserved
loop-core-preserved c =
    let a = c.args.audited.now in
    let l = c.loop-core.invariant in
    let cores = ap (λ (r : Recording). r.params.cores) c.recording.ensures.recording in
    let few = c.recording.ensures.valid.params.cores in
    let lt = c.loop-core-test.true in
    let wide : length c.loop-core.counts ≡ CORES_MAX = l.wide in
    let inside : c.loop-core.core < length c.loop-core.counts = omega arith in
    record {
      wide = length-set c.loop-core.counts c.loop-core.core c.free_of.result ∙ l.wide;
      done = filled (λ core n. AreFree a.which a.recording c.args.at core n) c.loop-core.counts c.loop-core.core
          c.free_of.result inside l.done
          c.free_of.ensures;
      rest = unfilled c.loop-core.counts c.loop-core.core c.free_of.result l.rest;
    }

pub returns : goal.returns
returns c =
    let a = c.args.audited.now in
    let l = c.loop-core.invariant in
    let cores = ap (λ (r : Recording). r.params.cores) c.recording.ensures.recording in
    let end = c.loop-core-test.false in
    let up = c.loop-core.auto.core-end in
    greatest_without a.which a.recording c.recording.ensures.valid c.args.at c.requires
    (λ core. slice_index c.loop-core.counts core)
    (λ core lt. l.done core (omega arith)) _
    (record { cores = cores; places = l.wide; done = λ core lt. refl; rest = λ core le. l.rest core (omega arith) })
