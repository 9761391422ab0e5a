use Rattle.std.proofs.Common.{◌≡◌, ◌∙◌, sym, ap, ℕ, suc, ◌-◌, None, arith}
use Rattle.turn_lists.specs.Counts.{many_of}
use Rattle.turn_lists.proofs.ListCounts.{counted_many, many_none, row_small}
use Rattle.turn_lists.proofs.few.FewLists.many.Goals as goal

pub counted-requires-clause-small : goal.counted-requires-clause-small
counted-requires-clause-small c = λ k.
    rw c.row.ensures (row_small c.args.self.now (c.args.turns - 1) k)

pub returns-then-turns-eq0 : goal.returns-then-turns-eq0
returns-then-turns-eq0 c =
    sym (ap (λ (t : ℕ). many_of c.args.self.now t None) c.if-turns-eq0.true ∙ many_none c.args.self.now None)

pub returns-else-turns-eq0 : goal.returns-else-turns-eq0
returns-else-turns-eq0 c =
    let more = c.if-turns-eq0.false in
    let is : suc (c.args.turns - 1) ≡ c.args.turns = omega arith in
    c.counted.ensures ∙ (rw (c.greatest.ensures, c.row.ensures) (counted_many c.args.self.now (c.args.turns - 1) None))
    ∙ ap (λ (t : ℕ). many_of c.args.self.now t None) is
