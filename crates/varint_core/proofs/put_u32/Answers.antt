use Rattle.std.proofs.Common.{◌≡◌, ◌∙◌, ap, sym, ℕ, ◌<◌, List, [], ◌∷◌, ◌++◌}
use Rattle.varint_core.specs.Leb128.{spelling}
use Rattle.varint_core.proofs.ShortestSpelling.{spelling-small}
use Rattle.varint_core.proofs.put_u32.Goals as goal

small : (n : ℕ) → n < 128 → spelling n ≡ n ∷ []
unfolding spelling
small n h = spelling-small 4 n h

pub returns-then-value-lt128-clause-ok : goal.returns-then-value-lt128-clause-ok
returns-then-value-lt128-clause-ok c =
    c.in_ok-push.ensures.items
    ∙ ap (λ (xs : List ℕ). c.args.out.now.items ++ xs) (sym (small c.args.value c.if-value-lt128.true))
