use Rattle.std.proofs.Common.{◌≡◌, ◌≢◌, ℕ, ◌+◌, ◌*◌, ◌/◌, ap, arith, Some}
use Rattle.std.proofs.lemmas.Nat.{div-add-mod'}
use Rattle.stride_vector.proofs.Sources.{at_first, not_one, whole, place}
use Rattle.stride_vector.proofs.StrideVector.source_of.Goals as goal

pub returns-then-rise-eq0-clause-only : goal.returns-then-rise-eq0-clause-only
returns-then-rise-eq0-clause-only c = λ k below is.
    let v = c.args.self.now in
    let h = c.in_ok-rise.ensures in
    let none : k * v.sb ≡ 0 = omega (arith, h.0, h.1) in
    let first = at_first v.n v.sa v.sb k below c.requires.target_rises none in
    let same : v.a0 ≡ v.a0 + k * v.sa = omega (arith, first) in
    ap (λ (a : ℕ). Some a) same

pub returns-then-self-eq1-clause-only : goal.returns-then-self-eq1-clause-only
returns-then-self-eq1-clause-only c = λ k below is.
    let v = c.args.self.now in
    let h = c.in_ok-rise.ensures in
    let other : k * v.sb ≢ 0 = omega (arith, h.0, h.1) in
    absurd (not_one v.n v.sb k c.if-self-eq1.true below other)

pub returns-then-rise-self-ne0-clause-only : goal.returns-then-rise-self-ne0-clause-only
returns-then-rise-self-ne0-clause-only c = λ k below is.
    let v = c.args.self.now in
    let h = c.in_ok-rise.ensures in
    absurd (c.if-rise-self-ne0.true (whole v.sb k c.in_ok-rise.rise (omega (arith, h.0, h.1))))

pub returns-then-k-self-clause-found : goal.returns-then-k-self-clause-found
returns-then-k-self-clause-found c =
    let v = c.args.self.now in
    let h = c.in_ok-rise.ensures in
    let k = c.in_ok-rise.rise / v.sb in
    let parts = div-add-mod' c.in_ok-rise.rise v.sb in
    let none = c.if-rise-self-ne0.false in
    let same : v.b0 + k * v.sb ≡ c.args.b = omega (arith, h.0, h.1, parts, none) in
    (k, c.if-k-self.true, ap (λ (b : ℕ). (v.a0 + k * v.sa, b)) same)

pub returns-then-k-self-clause-only : goal.returns-then-k-self-clause-only
returns-then-k-self-clause-only c = λ k below is.
    let v = c.args.self.now in
    let h = c.in_ok-rise.ensures in
    let same = place v.sb k c.in_ok-rise.rise (omega arith) (omega (arith, h.0, h.1)) in
    ap (λ (m : ℕ). Some (v.a0 + m * v.sa)) same

pub returns-else-k-self-clause-only : goal.returns-else-k-self-clause-only
returns-else-k-self-clause-only c = λ k below is.
    let v = c.args.self.now in
    let h = c.in_ok-rise.ensures in
    let same = place v.sb k c.in_ok-rise.rise (omega arith) (omega (arith, h.0, h.1)) in
    absurd (omega (arith, same, c.if-k-self.false))
