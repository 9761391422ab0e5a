use Rattle.std.proofs.Common.{◌≡◌, ◌≢◌, ◌∙◌, refl, sym, true, false, arith, rules}
use Rattle.std.specs.Prelude.{codes}
use Rattle.std.specs.Str.{bytes_eq}
use Rattle.std.proofs.lemmas.Slice.Eq.{bytes_eq-Decides}
use Rattle.std.proofs.lemmas.Str.Pattern.{split_parts}
use Rattle.turn_lists.specs.Texts.{spelled_turns}
use Rattle.turn_lists.proofs.ReadingPlaces.{more_fit, stands_first, stands_last, stands_more, stands_none, stands_out}
use Rattle.turn_lists.proofs.reading.turns_of.Goals as goal

pub returns-then-eq : goal.returns-then-eq
unfolding spelled_turns
returns-then-eq c =
    let is : c.args.text.now ≡ codes "-" =
    (bytes_eq-Decides c.args.text.now (codes "-")).0 (sym c.eq.ensures ∙ c.if-eq.true) in
    rw c.new.ensures (refl, is)

pub loop-front-init : goal.loop-front-init
loop-front-init c =
    let other : c.args.text.now ≢ codes "-" = λ is.
    let yes : bytes_eq c.args.text.now (codes "-") ≡ true = (bytes_eq-Decides c.args.text.now (codes "-")).1 is in
    let no : bytes_eq c.args.text.now (codes "-") ≡ false = sym c.eq.ensures ∙ c.if-eq.false in
    absurd (cc) in
    rw c.new-turns.ensures (stands_first c.args.text.now other, c.utf8.text)

pub returns-in-None : goal.returns-in-None
returns-in-None c =
    let parts =
    split_parts 44 c.loop-front.left.now c.split_once.result c.split_once.ensures.cases (omega arith) in
    let here = rw c.in-Some.is at parts in
    stands_none c.args.text.now c.loop-front.turns c.loop-front.left.now c.in-Some.front.now c.in-Some.more.now
    c.loop-front.invariant.0 here.0 here.1 c.in-None.ensures

pub loop-front-preserved : goal.loop-front-preserved
loop-front-preserved c =
    let parts =
    split_parts 44 c.loop-front.left.now c.split_once.result c.split_once.ensures.cases (omega arith) in
    let here = rw c.in-Some.is at parts in
    let turn = c.in-Some-turn_of.ensures in
    rw c.in_ok-push-in-Some-turn_of.ensures.ok (
      stands_more c.args.text.now c.loop-front.turns c.loop-front.left.now
          c.in-Some.front.now c.in-Some.more.now c.in-Some-turn_of.turn c.loop-front.invariant.0 here.0 here.1
          turn.0 turn.1,
      search rules,
    )

pub returns-in_ok-push-in-Some-turn_of-2 : goal.returns-in_ok-push-in-Some-turn_of-2
returns-in_ok-push-in-Some-turn_of-2 c =
    let turn = c.in-Some-turn_of-2.ensures in
    let s = c.loop-front.invariant.0 in
    rw c.in_ok-push-in-Some-turn_of-2.ensures.ok (
      more_fit c.loop-front.turns c.in-Some-turn_of-2.turn s.fit turn.0,
      stands_last c.args.text.now c.loop-front.turns c.loop-front.left.now c.in-Some-turn_of-2.turn s turn.1,
    )

pub returns-in-None-turn_of : goal.returns-in-None-turn_of
returns-in-None-turn_of c =
    let parts =
    split_parts 44 c.loop-front.left.now c.split_once.result c.split_once.ensures.cases (omega arith) in
    stands_out c.args.text.now c.loop-front.turns c.loop-front.left.now c.loop-front.invariant.0
    (rw c.in_default.is at parts) c.in-None-turn_of.ensures
