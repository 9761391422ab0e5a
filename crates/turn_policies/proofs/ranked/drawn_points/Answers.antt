use Rattle.std.proofs.Common.{◌≡◌, ◌∙◌, sym, ap, ℕ, suc, ◌+◌, ◌-◌, List, [], ◌∷◌, ◌++◌, max, arith, append_assoc}
use Rattle.turn_policies.specs.Ranked.{drawn_points}
use Rattle.turn_policies.specs.Walks.{after_word, drawn}
use Rattle.turn_policies.proofs.ChangedRanks.{points_step}
use Rattle.turn_policies.proofs.ranked.drawn_points.Goals as goal

pub loop-drawn-preserved : goal.loop-drawn-preserved
loop-drawn-preserved c =
    let made = c.loop-drawn._drawn in
    let x = max c.args.picks 1 in
    let words = c.loop-drawn.words in
    let more = c.loop-drawn-test.true in
    let is : c.args.depth - made ≡ suc (c.args.depth - (made + 1)) = omega (arith, more) in
    let point : c.below.result + 1 ≡ drawn x words + 1 =
    ap (λ (n : ℕ). n + 1) (c.below.ensures.value ∙ ap (λ (n : ℕ). drawn n words) c.max.ensures) in
    ap (λ (ps : List ℕ). ps ++ drawn_points (c.args.depth - (made + 1)) x c.below.new.words)
    (c.in_ok-push.ensures.items ∙ ap (λ (n : ℕ). c.loop-drawn.points.items ++ n ∷ []) point)
    ∙ ap (λ w. (c.loop-drawn.points.items ++ (drawn x words + 1) ∷ [])
    ++ drawn_points (c.args.depth - (made + 1)) x w) c.below.ensures.words
    ∙ append_assoc c.loop-drawn.points.items ((drawn x words + 1) ∷ [])
    (drawn_points (c.args.depth - (made + 1)) x (after_word words))
    ∙ ap (λ (ps : List ℕ). c.loop-drawn.points.items ++ ps)
    (sym (points_step (c.args.depth - made) (c.args.depth - (made + 1)) x words is))
    ∙ c.loop-drawn.invariant
