-- Settings of different options may be put in in either order: each setting is settings of its own, in which one
-- option is set, and to put it in is to lay these over those that were there.
use Rattle.std.proofs.Common.{◌≡◌, ◌≢◌, ◌-◌, Bool, true, false, Option, Some, None, refl, sym, ap}
use Rattle.std.proofs.Common.{◌∙◌, cond, arith}
use Rattle.std.specs.Option.{option_and_then, option_map}
use Rattle.trace_gen.specs.declared.shape.Shape as shapes
use Rattle.tool_words.specs.Settings.{Settings}
use Rattle.tool_words.specs.Options.{is_set, put, put_new}
use Rattle.tool_words.specs.Reading.{Set}
use Rattle.tool_words.proofs.Chains.{if-none, then-none}
use Rattle.tool_words.proofs.LaidSettings.{Apart, apart-by-name, lays, merge, merge-merge}
use Rattle.tool_words.proofs.LaidSettings.{overlaps, overlaps-before, single}

laid : (s : Settings) (x : Set) (d : Settings) → single x ≡ Some d → put_new s x.name x.text ≡ Some (merge d s)
laid s x d p = sym (lays s x.name x.text).0 ∙ ap (λ o. option_map (λ d. merge d s) o) p

-- to put a setting in is to lay it over the others, where it isn't set there
put-over : (s : Settings) (x : Set) (d : Settings) → single x ≡ Some d → put s x.name x.text ≡ cond (overlaps d s)
    None (Some (merge d s))
put-over s x d p =
    let same : Some (overlaps d s) ≡ Some (is_set s x.name) =
    sym (ap (λ o. option_map (λ d. overlaps d s) o) p) ∙ (lays s x.name x.text).1
    ∙ ap (λ o. option_map (λ (d : Settings). is_set s x.name) o) p in
    let before : is_set s x.name ≡ overlaps d s = cc in
    rw (before, laid s x d p) refl

put-none : (s : Settings) (x : Set) → single x ≡ None → put s x.name x.text ≡ None
put-none s x p = by-test (is_set s x.name) (put_new s x.name x.text)
    (sym (lays s x.name x.text).0 ∙ ap (λ o. option_map (λ d. merge d s) o) p)
  where
    by-test : (b : Bool) (o : Option Settings) → o ≡ None → cond b None o ≡ None
    by-test true o h = refl
    by-test false o h = h

-- what was set stays set
kept : (d s : Settings) (y : Set) → is_set s y.name ≡ true → is_set (merge d s) y.name ≡ true
kept d s y h = grind arith

pub put-keeps : (s t : Settings) (x y : Set) → put s x.name x.text ≡ Some t → is_set s y.name ≡ true
    → is_set t y.name ≡ true
put-keeps s t x y h k = by-single (single x) refl
  where
    by-single : (o : Option Settings) → single x ≡ o → is_set t y.name ≡ true
    by-single None p = let none = put-none s x p in absurd (cc)
    by-single (Some d) p =
        let put-in = (if-none (is_set s x.name) (put_new s x.name x.text) t h).1 in
        let is = laid s x d p in
        let same : merge d s ≡ t = cc in
        rw (← same) (kept d s y k)

-- ---- one after the other

either-order : (a b : Bool) (m n : Settings) → m ≡ n →
    cond a None (cond b None (Some m)) ≡ cond b None (cond a None (Some n))
either-order true true m n h = refl
either-order true false m n h = refl
either-order false true m n h = refl
either-order false false m n h = ap (λ (t : Settings). Some t) h

-- what the second comes to after the first
second : (s : Settings) (x y : Set) (d e : Settings) → single x ≡ Some d → single y ≡ Some e → Apart d e →
    option_and_then (λ t. put t y.name y.text) (put s x.name x.text) ≡ cond (overlaps d s) None
    (cond (overlaps e s) None (Some (merge e (merge d s))))
second s x y d e p q h =
    ap (λ o. option_and_then (λ t. put t y.name y.text) o) (put-over s x d p) ∙ by-test (overlaps d s)
  where
    by-test : (b : Bool) → option_and_then (λ t. put t y.name y.text) (cond b None (Some (merge d s)))
        ≡ cond b None (cond (overlaps e s) None (Some (merge e (merge d s))))
    by-test true = refl
    by-test false =
        put-over (merge d s) y e q ∙ ap (λ b. cond b None (Some (merge e (merge d s)))) (overlaps-before d e s h)

pub put-commute : (s : Settings) (x y : Set) → x.name ≢ y.name →
    option_and_then (λ t. put t y.name y.text) (put s x.name x.text) ≡ option_and_then (λ t. put t x.name x.text)
    (put s y.name y.text)
put-commute s x y ne = by-singles (single x) (single y) refl refl
  where
    by-singles : (o p : Option Settings) → single x ≡ o → single y ≡ p →
        option_and_then (λ t. put t y.name y.text) (put s x.name x.text) ≡ option_and_then (λ t. put t x.name x.text)
        (put s y.name y.text)
    by-singles None p a b =
        ap (λ o. option_and_then (λ t. put t y.name y.text) o) (put-none s x a)
        ∙ sym (then-none (λ t. put t x.name x.text) (put s y.name y.text) (λ t. put-none t x a))
    by-singles (Some d) None a b =
        then-none (λ t. put t y.name y.text) (put s x.name x.text) (λ t. put-none t y b)
        ∙ sym (ap (λ o. option_and_then (λ t. put t x.name x.text) o) (put-none s y b))
    by-singles (Some d) (Some e) a b =
        let h = apart-by-name x y d e a b ne in
        let k = apart-by-name y x e d b a (λ same. ne (sym same)) in
        second s x y d e a b h
        ∙ either-order (overlaps d s) (overlaps e s) (merge e (merge d s)) (merge d (merge e s)) (merge-merge d e s h)
        ∙ sym (second s y x e d b a k)
