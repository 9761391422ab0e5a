use Rattle.std.proofs.Common.{◌≡◌, ◌∙◌, max, rules, slice_index}
use Rattle.replay_audit.proofs.MergedSources.{merged_own}
use Rattle.replay_audit.proofs.log_clocks.merge.Goals as goal

pub returns : goal.returns
returns c i =
    let own : c.max-own.result ≡ max (slice_index c.args.clock.now c.args.from.core) c.args.from.count = search rules in
    merged_own c.args.from c.args.clock.now c.args.last.now c.join.new.self c.set.new.self i c.join.ensures.places
    (c.set.ensures.at ∙ own) c.set.ensures.others
