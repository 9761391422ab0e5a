use Rattle.std.proofs.Common.{◌≡◌, ◌∙◌, ap, ℕ, ◌-◌}
use Rattle.turn_policies.proofs.ChangedRanks.{changed_at, changed_on}
use Rattle.turn_policies.proofs.ranked.come_nearer.Goals as goal

pub loop-place-preserved : goal.loop-place-preserved
loop-place-preserved c =
    let xs = c.args.points.now in
    let i = c.loop-place.place in
    let within = c.loop-place-test.true in
    let made = c.saturating_sub.ensures
    ∙ ap (λ (n : ℕ). n - 1)
    (changed_at (λ (p : ℕ). p - 1) xs i 0 within c.loop-place.points 0 c.loop-place.invariant) in
    changed_on (λ (p : ℕ). p - 1) xs i 0 within c.loop-place.points c.saturating_sub.result c.loop-place.invariant made
