use Rattle.std.proofs.Common.{rules, ◌∙◌, List, ap, length, nat_eq}
use Rattle.online_reduce.specs.declared.source.Source.{Source}
use Rattle.online_reduce.proofs.SetReads.{emptiness}
use Rattle.online_reduce.proofs.live_reads.LiveReads.is_empty.Goals as goal

pub returns : goal.returns
returns c =
    emptiness c.self.inside.cores c.self.inside.times.now c.self.inside.slot (search rules) c.self.invariant.1
    ∙ ap (λ (xs : List Source). nat_eq (length xs) 0) c.self.view_is
