use Rattle.std.proofs.Common.{◌≡◌, ◌∙◌, sym, subst, ℕ, List, true, false, arith}
use Rattle.turn_lists.specs.Texts.{is_numeral}
use Rattle.turn_lists.proofs.NumeralLemmas.{no_numeral, numeral_read, read_decimal}
use Rattle.turn_lists.proofs.reading.number_of.Goals as goal

pub returns-then-not-is_numeral : goal.returns-then-not-is_numeral
returns-then-not-is_numeral c = λ n within is.
    let text = c.args.text.now in
    let no : is_numeral text ≡ false = subst (λ (t : List ℕ). is_numeral t ≡ false) c.as_bytes.ensures.value
    (sym c.is_numeral.ensures ∙ c.if-not-is_numeral.true) in
    no_numeral text n no (omega arith) is

pub returns-in-Ok : goal.returns-in-Ok
returns-in-Ok c =
    let text = c.args.text.now in
    let yes : is_numeral text ≡ true = subst (λ (t : List ℕ). is_numeral t ≡ true) c.as_bytes.ensures.value
    (sym c.is_numeral.ensures ∙ c.if-not-is_numeral.false) in
    (c.if-n-most.true, numeral_read text c.parse.result c.in-Ok.n yes c.parse.ensures.value.0 c.in-Ok.is)

pub returns-in_default : goal.returns-in_default
returns-in_default c = λ n within is.
    let read = read_decimal c.args.text.now c.parse.result n (omega arith) c.parse.ensures.value.0 is in
    let both = sym c.in-Ok.is ∙ read in
    let same : c.in-Ok.n ≡ n = cc in
    let past = c.if-n-most.false in
    absurd (omega arith)

pub returns-in_default-2 : goal.returns-in_default-2
returns-in_default-2 c = λ n within is.
    let read = read_decimal c.args.text.now c.parse.result n (omega arith) c.parse.ensures.value.0 is in
    let both = sym c.in_default.is ∙ read in
    absurd (cc)
