use Rattle.std.proofs.Common.{◌<◌, ◌≡◌, ◌∙◌, ap, arith, length, length-set}
use Rattle.rtr_types.specs.declared.TheConstants.{CORES_MAX}
use Rattle.race_log.specs.declared.recording.Recording.{Recording}
use Rattle.cut_replay.specs.ClosedCuts.{count_in}
use Rattle.cut_replay.proofs.Cuts.{filled, unfilled}
use Rattle.cut_moves.specs.Steps.{AreFreeOf}
use Rattle.cut_moves.proofs.moves.without.Goals as goal

pub loop-core-preserved : goal.loop-core-preserved
loop-core-preserved c =
    let a = c.args.audited.now in
    let l = c.loop-core.invariant in
    let cores = ap (λ (r : Recording). r.params.cores) c.recording.ensures.recording in
    let few = c.recording.ensures.valid.params.cores in
    let lt = c.loop-core-test.true in
    let wide : length c.loop-core.counts ≡ CORES_MAX = l.wide in
    let inside : c.loop-core.core < length c.loop-core.counts = omega arith in
    record {
      wide = length-set c.loop-core.counts c.loop-core.core c.free_of.result ∙ l.wide;
      done = filled (λ core n. AreFreeOf a.which a.recording c.args.at core (count_in c.args.cut.now core) n)
          c.loop-core.counts c.loop-core.core c.free_of.result inside l.done c.free_of.ensures;
      rest = unfilled c.loop-core.counts c.loop-core.core c.free_of.result l.rest;
    }

pub returns : goal.returns
returns c =
    let l = c.loop-core.invariant in
    let cores = ap (λ (r : Recording). r.params.cores) c.recording.ensures.recording in
    let end = c.loop-core-test.false in
    let up = c.loop-core.auto.core-end in
    record {
      cores = cores;
      places = l.wide;
      each = λ core lt. l.done core (omega arith);
      rest = λ core le. l.rest core (omega arith);
    }
