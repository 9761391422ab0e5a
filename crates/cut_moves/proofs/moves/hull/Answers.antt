use Rattle.std.proofs.Common.{ap, sym, subst, ◌+◌}
use Rattle.rtr_types.specs.declared.cut.Cut.{Cut}
use Rattle.race_log.specs.declared.recording.Recording.{Recording}
use Rattle.cut_moves.proofs.Hulls.{IsHullUpTo, hull_on, hull_start}
use Rattle.cut_moves.proofs.moves.hull.Goals as goal

pub loop-core-init : goal.loop-core-init
loop-core-init c =
    let a = c.args.audited.now in
    hull_start a.which a.recording c.args.counts.now c.recording.result.now.params.cores c.recording.ensures.valid
    (ap (λ (r : Recording). r.params.cores) c.recording.ensures.recording)

pub loop-core-preserved : goal.loop-core-preserved
loop-core-preserved c =
    let a = c.args.audited.now in
    subst (λ (to : Cut). IsHullUpTo a.which a.recording c.args.counts.now (c.loop-core.core + 1) to)
    (sym c.union-hull.ensures)
    (hull_on a.which a.recording c.args.counts.now c.loop-core.core c.loop-core.hull c.in_ok-least.least
    c.loop-core.invariant c.in_ok-least.ensures)
