-- How a core's mark of a request follows a block that turns free or busy.
use Rattle.std.proofs.Common.{◌≡◌, ◌∙◌, refl, ap, Bool, true, false}
use Rattle.std.specs.Prelude.{◌&&◌, ◌||◌, not, if◌then◌else◌}

or_true : (t : Bool) → (t || true) ≡ true
or_true true = refl
or_true false = refl

or_false : (t : Bool) → (t || false) ≡ t
or_false true = refl
or_false false = refl

and_true : (t : Bool) → (t && true) ≡ t
and_true true = refl
and_true false = refl

and_false : (t : Bool) → (t && false) ≡ false
and_false true = refl
and_false false = refl

pub marks_follow : (mark asker asks here was now elsewhere : Bool) → asker ≡ (asks && here) →
    mark ≡ (asks && (if here then was else elsewhere)) →
    (if now then mark || asker else mark && not asker) ≡ (asks && (if here then now else elsewhere))
marks_follow mark asker false here was true elsewhere a m = ap (λ (t : Bool). t || asker) m ∙ a
marks_follow mark asker false here was false elsewhere a m = ap (λ (t : Bool). t && not asker) m
marks_follow mark asker true true was true elsewhere a m = ap (λ (t : Bool). mark || t) a ∙ or_true mark
marks_follow mark asker true true was false elsewhere a m = ap (λ (t : Bool). mark && not t) a ∙ and_false mark
marks_follow mark asker true false was true elsewhere a m = ap (λ (t : Bool). mark || t) a ∙ (or_false mark ∙ m)
marks_follow mark asker true false was false elsewhere a m = ap (λ (t : Bool). mark && not t) a ∙ (and_true mark ∙ m)
