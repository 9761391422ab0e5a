use Rattle.std.proofs.Common.{ℕ, ◌-◌, ◌<◌, sym, ap, subst, arith}
use Rattle.stride_vector.specs.Vectors.{position_of}
use Rattle.replay_core.specs.Coming.{IsFirstPosition}
use Rattle.replay_core.proofs.NextEdges.{below_all, at_begin, stride_there, reached}
use Rattle.replay_core.proofs.next_edge.position_from.Goals as goal

pub returns-then-last-least : goal.returns-then-last-least
returns-then-last-least c =
    below_all c.args.vector.now c.args.least
    (omega (arith, ap (λ (p : ℕ × ℕ). p.1) c.last-last.ensures, c.if-last-least.true))

pub returns-then-rise-eq0 : goal.returns-then-rise-eq0
returns-then-rise-eq0 c =
    at_begin c.args.vector.now c.args.least c.requires.vector.some (omega (arith, c.requires.begun, c.if-rise-eq0.true))

pub div_ceil-requires : goal.div_ceil-requires
div_ceil-requires c =
    stride_there c.args.vector.now c.args.least c.requires.vector (omega (arith, c.requires.begun, c.if-rise-eq0.false))
    (omega (arith, ap (λ (p : ℕ × ℕ). p.1) c.last-last.ensures, c.if-last-least.false))

pub position-requires-clause-within : goal.position-requires-clause-within
position-requires-clause-within c =
    let v = c.args.vector.now in
    let r = reached v c.args.least (c.args.least - v.b0) c.requires.vector (omega (arith, c.requires.begun))
    (omega (arith, c.if-rise-eq0.false))
    (omega (arith, ap (λ (p : ℕ × ℕ). p.1) c.last-last.ensures, c.if-last-least.false)) in
    subst (λ (k : ℕ). k < v.n) (sym c.div_ceil.ensures) r.0

pub returns : goal.returns
returns c =
    let v = c.args.vector.now in
    let r = reached v c.args.least (c.args.least - v.b0) c.requires.vector (omega (arith, c.requires.begun))
    (omega (arith, c.if-rise-eq0.false))
    (omega (arith, ap (λ (p : ℕ × ℕ). p.1) c.last-last.ensures, c.if-last-least.false)) in
    subst (λ (e : ℕ × ℕ). IsFirstPosition v c.args.least e) (sym c.position.ensures)
    (subst (λ (k : ℕ). IsFirstPosition v c.args.least (position_of v k)) (sym c.div_ceil.ensures) r.1)
