use Rattle.std.proofs.Common.{◌≡◌, ◌∙◌, ℕ, List, ap, arith, false, string_bytes, sym, true}
use Rattle.std.proofs.lemmas.Bool.Decides.{nat_tests}
use Rattle.hunt_words.specs.Open.{has_machine}
use Rattle.hunt_words.specs.Seen.{all_seen}
use Rattle.hunt_words.proofs.FaultPlaces.{none-cut}
use Rattle.hunt_words.proofs.FaultReads.{cut-so, next-so, pushed-so, up-to-end, value-so}
use Rattle.hunt_words.proofs.stops.stop_in.Goals as goal

pub loop-read-init : goal.loop-read-init
loop-read-init c = record {
  within = omega arith;
  cut = rw (c.new-given.ensures.items) (none-cut c.args.verb);
}

pub returns-in-Err-clause-some : goal.returns-in-Err-clause-some
returns-in-Err-clause-some c =
    next-so string_bytes c.args.words.now c.args.verb (all_seen c.loop-read.given.items) c.loop-read.read
    c.in-Err.stop.place c.in-Err.stop.why c.loop-read.invariant.within c.loop-read.invariant.cut
    (rw (c.as_slice.ensures.value, up-to-end c.args.words.now c.loop-read.read) at c.in-Err.ensures.err)

pub returns-then-not-branch-clause-some : goal.returns-then-not-branch-clause-some
returns-then-not-branch-clause-some c =
    let given = all_seen c.loop-read.given.items in
    let name = c.in-Ok.next.name in
    let text = c.in-Ok.next.text.now in
    let own = ap (λ (n : List ℕ). record { name = n; text = text }) c.word.ensures in
    let asked = pushed-so c.loop-read.given.items _ _ name text
    (c.as_slice-in-loop-read.ensures.value ∙ c.in_ok-push.ensures.items) own in
    let told = pushed-so c.loop-read.given.items _ _ name text
    (c.as_slice-then-not-branch.ensures.value ∙ c.in_ok-push.ensures.items) own in
    let off : c.in_ok-has_machine.field-0 ≡ false = grind (arith, nat_tests, c.if-not-branch.true) in
    value-so string_bytes c.args.words.now c.args.verb given c.loop-read.read c.in-Ok.next.used name text
    c.in_ok-refusal_of.field-0 c.loop-read.invariant.within c.loop-read.invariant.cut
    (rw (c.as_slice.ensures.value, up-to-end c.args.words.now c.loop-read.read) at c.in-Ok.ensures.ok)
    (ap (has_machine c.args.verb) (sym asked) ∙ sym c.in_ok-has_machine.ensures ∙ off)
    (c.in_ok-refusal_of.ensures given told)

pub loop-read-preserved : goal.loop-read-preserved
loop-read-preserved c =
    let given = all_seen c.loop-read.given.items in
    let name = c.in-Ok.next.name in
    let text = c.in-Ok.next.text.now in
    let own = ap (λ (n : List ℕ). record { name = n; text = text }) c.word.ensures in
    let asked = pushed-so c.loop-read.given.items _ _ name text
    (c.as_slice-in-loop-read.ensures.value ∙ c.in_ok-push.ensures.items) own in
    let more = pushed-so c.loop-read.given.items _ _ name text c.in_ok-push.ensures.items own in
    let on : c.in_ok-has_machine.field-0 ≡ true = grind (arith, nat_tests, c.if-not-branch.false) in
    let s = cut-so string_bytes c.args.words.now c.args.verb given c.loop-read.read c.in-Ok.next.used name text
    c.loop-read.invariant.within c.loop-read.invariant.cut
    (rw (c.as_slice.ensures.value, up-to-end c.args.words.now c.loop-read.read) at c.in-Ok.ensures.ok)
    (ap (has_machine c.args.verb) (sym asked) ∙ sym c.in_ok-has_machine.ensures ∙ on) in
    record { within = s.0; cut = rw (more) s.1 }
