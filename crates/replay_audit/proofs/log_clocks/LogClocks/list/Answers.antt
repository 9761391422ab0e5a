use Rattle.std.proofs.Common.{◌∙◌, [], List, ℕ, ap, subst, sym}
use Rattle.std.specs.Prelude.{slice_index_or}
use Rattle.replay_audit.specs.Clocks.{AreRising}
use Rattle.replay_audit.proofs.log_clocks.LogClocks.list.Goals as goal

pub returns-clause-rising : goal.returns-clause-rising
returns-clause-rising c =
    subst (λ (l : List (List ℕ)). AreRising c.args.core l)
    (sym (c.list_in.ensures
    ∙ ap (λ (l : List (List (List ℕ))). slice_index_or l c.args.core []) c.as_slice.ensures.value))
    (c.self.invariant.rising c.args.core)
