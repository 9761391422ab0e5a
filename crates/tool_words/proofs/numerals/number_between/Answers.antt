use Rattle.std.proofs.Common.{arith, sym}
use Rattle.tool_words.proofs.NumeralLemmas.{in-range, out-of-range, too-large, no-numeral}
use Rattle.tool_words.proofs.numerals.number_between.Goals as goal

pub returns-in-Ok-clause-value : goal.returns-in-Ok-clause-value
returns-in-Ok-clause-value c =
    let yes = rw c.as_bytes.ensures.value at c.if-not-is_numeral.ensures in
    sym (in-range _ _ _ c.args.text.now c.parse.result (sym yes) c.parse.ensures.value.0 c.in-Ok.is c.if-least-n.true
    c.if-n-most.true)

pub returns-then-not-is_numeral-clause-value : goal.returns-then-not-is_numeral-clause-value
returns-then-not-is_numeral-clause-value c =
    let no = rw c.as_bytes.ensures.value at c.if-not-is_numeral.ensures in
    sym (no-numeral _ _ _ (sym no))

pub returns-in_default-clause-value : goal.returns-in_default-clause-value
returns-in_default-clause-value c =
    let yes = rw c.as_bytes.ensures.value at c.if-not-is_numeral.ensures in
    sym (out-of-range _ _ _ c.args.text.now c.parse.result (sym yes) c.parse.ensures.value.0 c.in-Ok.is
    (λ low high. omega arith))

pub returns-in_default-2-clause-value : goal.returns-in_default-2-clause-value
returns-in_default-2-clause-value c =
    let yes = rw c.as_bytes.ensures.value at c.if-not-is_numeral.ensures in
    sym (out-of-range _ _ _ c.args.text.now c.parse.result (sym yes) c.parse.ensures.value.0 c.in-Ok.is
    (λ low high. omega arith))

pub returns-in_default-3-clause-value : goal.returns-in_default-3-clause-value
returns-in_default-3-clause-value c =
    let yes = rw c.as_bytes.ensures.value at c.if-not-is_numeral.ensures in
    sym (too-large _ _ _ c.args.text.now c.parse.result (omega arith) (sym yes) c.parse.ensures.value.0 c.in_default.is)
