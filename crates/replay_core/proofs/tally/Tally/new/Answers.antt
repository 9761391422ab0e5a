use Rattle.std.proofs.Common.{◌∙◌, subst}
use Rattle.replay_core.specs.Plans.{Plan}
use Rattle.replay_core.specs.Tallies.{AreWanted}
use Rattle.replay_core.proofs.LowCounts.{counts_start}
use Rattle.replay_core.proofs.tally.Tally.new.Goals as goal

pub invariant_of-result : goal.invariant_of-result
invariant_of-result c =
    let r = c.args.recording.now in
    counts_start c.args.which r _ c.in_ok-counts.counts.items c.in_ok-wanted.wanted.items c.requires
    (c.in_ok-wanted.ensures.plan ∙ c.in_ok-sources.ensures) c.in_ok-counts.ensures
    (subst (λ (q : Plan). AreWanted q.edges r.params.cores c.in_ok-wanted.wanted.items) c.in_ok-sources.ensures
    c.in_ok-wanted.ensures.wanted)
