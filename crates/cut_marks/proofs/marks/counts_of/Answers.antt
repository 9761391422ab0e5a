use Rattle.std.proofs.Common.{ℕ, List, ap, sym, ◌∙◌}
use Rattle.std.specs.Prelude.{Some}
use Rattle.cut_marks.proofs.FirstNamed.{named_here, named_nowhere, named_on}
use Rattle.cut_marks.proofs.marks.counts_of.Goals as goal

pub returns-then-is_named : goal.returns-then-is_named
returns-then-is_named c =
    let here = named_here _ _ _ _ c.mark-item.is c.loop-mark-test.true (sym c.is_named.ensures ∙ c.if-is_named.true) in
    ap (λ (counts : List ℕ). Some counts) c.as_slice.ensures ∙ sym (c.loop-mark.invariant ∙ here)

pub loop-mark-preserved : goal.loop-mark-preserved
loop-mark-preserved c =
    c.loop-mark.invariant
    ∙ named_on _ _ _ _ c.mark-item.is c.loop-mark-test.true (sym c.is_named.ensures ∙ c.if-is_named.false)

pub returns : goal.returns
returns c = sym (c.loop-mark.invariant ∙ named_nowhere _ _ _ c.loop-mark-test.false)
