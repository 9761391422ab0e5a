use Rattle.std.proofs.Common.{◌≡◌, ◌<◌, subst, IfOk, List, ℕ, arith}
use Rattle.turn_lists.specs.declared.actor.Turn.{Turn}
use Rattle.turn_lists.proofs.ListByNumber.{counts_first, counts_here, counts_past}
use Rattle.turn_lists.proofs.few.FewLists.list.Goals as goal

pub loop-turns-init : goal.loop-turns-init
loop-turns-init c = counts_first c.args.self.now c.args.number (omega arith)

pub returns-then-left-many : goal.returns-then-left-many
returns-then-left-many c =
    let less = c.if-left-many.true in
    let here = counts_here c.args.self.now c.args.number c.loop-turns.left c.loop-turns.turns c.loop-turns.invariant
    c.loop-turns-test.true (subst (λ (n : ℕ). c.loop-turns.left < n) c.many-many.ensures less) in
    subst (λ (ts : List Turn). IfOk c.list_of.result (λ list. list ≡ ts)) here.1 c.list_of.ensures

pub loop-turns-preserved : goal.loop-turns-preserved
loop-turns-preserved c =
    let over = c.if-left-many.false in
    rw c.many-many.ensures (counts_past c.args.self.now c.args.number c.loop-turns.left c.loop-turns.turns
    c.loop-turns.invariant c.loop-turns-test.true (rw c.many-many.ensures at over))
