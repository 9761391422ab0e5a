use Rattle.std.proofs.Common.{◌∙◌, ◌+◌}
use Rattle.tso_core.proofs.MarkCounts.{marked_long}
use Rattle.tso_core.proofs.marks.Marks.count.Goals as goal

pub returns : goal.returns
returns c = (λ i. c.count.ensures.value i + c.count-2.ensures.value i) ∙ marked_long c.args.self
