use Rattle.std.proofs.Common.{◌≡◌, ◌∙◌, ◌<◌, sym, ap, Bool, true, false, get_or, length, arith, Option}
use Rattle.std.specs.Prelude.{not, unwrap_or}
use Rattle.turn_lists.specs.Actors.{is_same}
use Rattle.turn_lists.specs.declared.actor.Actor.{Actor}
use Rattle.turn_lists.specs.declared.actor.Actor.TheVariants.{Core}
use Rattle.turn_policies.specs.Listed.{first_of, listed}
use Rattle.turn_policies.proofs.FirstFound.{find_here, find_more}
use Rattle.turn_policies.proofs.turns.other_than.Goals as goal

pub returns-then-not-is-clause-value : goal.returns-then-not-is-clause-value
returns-then-not-is-clause-value c =
    let xs = listed c.args.actors in
    let i = c.loop-number.number in
    let less = c.loop-number-test.true in
    let many = c.count-number-end.ensures in
    let within : i < length xs = omega (arith, less, many) in
    let value = c.nth-other.ensures.value (Core 0) in
    let other : is_same (get_or xs i (Core 0)) c.args.actor ≡ false =
    ap (λ (a : Actor). is_same a c.args.actor) (sym value) ∙ sym c.is.ensures ∙ c.if-not-is.true in
    value ∙ ap (λ (o : Option Actor). unwrap_or o (first_of c.args.actors))
    (sym (find_here (λ (a : Actor). not (is_same a c.args.actor)) xs i (Core 0) within (ap not other))
    ∙ c.loop-number.invariant)

pub loop-number-preserved : goal.loop-number-preserved
loop-number-preserved c =
    let xs = listed c.args.actors in
    let i = c.loop-number.number in
    let less = c.loop-number-test.true in
    let many = c.count-number-end.ensures in
    let within : i < length xs = omega (arith, less, many) in
    let value = c.nth-other.ensures.value (Core 0) in
    let same : is_same (get_or xs i (Core 0)) c.args.actor ≡ true =
    ap (λ (a : Actor). is_same a c.args.actor) (sym value) ∙ sym c.is.ensures ∙ c.if-not-is.false in
    sym (find_more (λ (a : Actor). not (is_same a c.args.actor)) xs i (Core 0) within (ap not same))
    ∙ c.loop-number.invariant
