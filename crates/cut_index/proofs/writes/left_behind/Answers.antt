use Rattle.std.proofs.Common.{◌≡◌, ◌∙◌, ℕ, ◌+◌, ◌-◌, ◌<◌, ◌≤◌, ◌/◌, true, false, sym, ap, subst, arith}
use Rattle.std.proofs.lemmas.List.{get_or_default}
use Rattle.race_queries.specs.Queries.{is_held}
use Rattle.cut_index.specs.declared.writes.Write.{Write}
use Rattle.cut_index.proofs.WritesHeld.{IsHalved, halved_down, halved_up, left_halved, left_nothing}
use Rattle.cut_index.proofs.writes.left_behind.Goals as goal

abbrev nothing : Write
nothing = record { at = record { core = 0; count = 0 }; left = 0 }

pub loop-some-preserved-then-holds : goal.loop-some-preserved-then-holds
loop-some-preserved-then-holds c =
    let list = c.args.writes.now in
    let cut = c.args.cut.now in
    let past = c.loop-some.past in
    let middle = c.loop-some.some + (past - c.loop-some.some) / 2 in
    let lt = c.loop-some-test.true in
    let inside = c.loop-some.invariant.inside in
    halved_up cut list c.loop-some.some past middle c.loop-some.invariant c.requires (omega arith) (omega arith)
    (λ d. ap (λ (w : Write). is_held cut w.at) (get_or_default list middle d nothing (omega arith))
    ∙ sym c.holds.ensures ∙ c.if-holds.true)

pub loop-some-preserved : goal.loop-some-preserved
loop-some-preserved c =
    let list = c.args.writes.now in
    let cut = c.args.cut.now in
    let past = c.loop-some.past in
    let middle = c.loop-some.some + (past - c.loop-some.some) / 2 in
    let lt = c.loop-some-test.true in
    let inside = c.loop-some.invariant.inside in
    halved_down cut list c.loop-some.some past middle c.loop-some.invariant c.requires (omega arith) (omega arith)
    (λ d. ap (λ (w : Write). is_held cut w.at) (get_or_default list middle d nothing (omega arith))
    ∙ sym c.holds.ensures ∙ c.if-holds.false)

pub returns-then-some-gt0 : goal.returns-then-some-gt0
returns-then-some-gt0 c =
    let end = c.loop-some-test.false in
    let order = c.loop-some.invariant.order in
    let same : c.loop-some.past ≡ c.loop-some.some = omega arith in
    left_halved c.args.cut.now c.args.held c.args.writes.now c.loop-some.some nothing
    (subst (λ (n : ℕ). IsHalved c.args.cut.now c.args.writes.now c.loop-some.some n) same c.loop-some.invariant)
    c.if-some-gt0.true

pub returns-else-some-gt0 : goal.returns-else-some-gt0
returns-else-some-gt0 c =
    let end = c.loop-some-test.false in
    let order = c.loop-some.invariant.order in
    let none = c.if-some-gt0.false in
    let some : c.loop-some.some ≡ 0 = omega arith in
    let past : c.loop-some.past ≡ 0 = omega arith in
    left_nothing c.args.cut.now c.args.held c.args.writes.now nothing
    (subst (λ (n : ℕ). IsHalved c.args.cut.now c.args.writes.now n 0) some
    (subst (λ (n : ℕ). IsHalved c.args.cut.now c.args.writes.now c.loop-some.some n) past c.loop-some.invariant))
