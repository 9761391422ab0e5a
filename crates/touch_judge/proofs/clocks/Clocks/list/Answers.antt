use Rattle.std.proofs.Common.{◌≡◌, List, ℕ, [], rules, subst}
use Rattle.std.specs.Prelude.{slice_index_or}
use Rattle.replay_audit.specs.Clocks.{AreRising}
use Rattle.touch_judge.proofs.clocks.Clocks.list.Goals as goal

pub returns-in-Some-clause-rising : goal.returns-in-Some-clause-rising
returns-in-Some-clause-rising c =
    let is : slice_index_or c.self.inside.clocks.items c.args.core [] ≡ c.as_slice.result.now = search rules in
    subst (λ (l : List (List ℕ)). AreRising c.args.core l) is (c.self.invariant c.args.core)
