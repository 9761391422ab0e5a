use Rattle.std.proofs.Common.{sym, subst}
use Rattle.online_reduce.specs.Reduced.{Reduced}
use Rattle.online_reduce.specs.Exact.{IsExact, IsReduction}
use Rattle.online_reduce.proofs.ExactNext.{counted_exact}
use Rattle.online_reduce.proofs.Reductions.{count_law}
use Rattle.online_reduce.proofs.reducer.Reducer.local.Goals as goal

pub returns-clause-exact : goal.returns-clause-exact
returns-clause-exact c list exact =
    subst (λ (r : Reduced). IsExact list r) (sym c.count.ensures.state)
    (counted_exact list c.args.self.now.state c.args.at c.requires exact)

pub returns-clause-reduction : goal.returns-clause-reduction
returns-clause-reduction c list edges kept =
    subst (λ (r : Reduced). IsReduction list r edges) (sym c.count.ensures.state)
    (count_law list c.args.self.now.state edges c.args.at c.requires kept)
