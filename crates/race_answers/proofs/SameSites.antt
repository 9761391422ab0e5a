-- Sites and pairs of sites that a test says are one are one.
use Rattle.std.proofs.Common.{◌≡◌, ℕ, Bool, true, false, refl, sym, ap, subst, ◌∙◌, arith, true≢false}
use Rattle.std.proofs.lemmas.Bool.Decides.{nat_tests}
use Rattle.std.specs.Cmp.{IsEquivalence}
use Rattle.std.specs.Option.{option_eq}
use Rattle.std.specs.Prelude.{◌&&◌, nat_eq, Option, Some, None}
use Rattle.race_answers.specs.Sites.{is_same_pair, is_same_site}
use Rattle.race_answers.specs.declared.sites.Pair.{Pair}
use Rattle.race_answers.specs.declared.sites.Site.{Site}

-- ---- both parts of a test

first_of : (a b : Bool) → a && b ≡ true → a ≡ true
first_of true b t = refl
first_of false b t = t

second_of : (a b : Bool) → a && b ≡ true → b ≡ true
second_of true b t = t
second_of false b t = absurd (true≢false (sym t))

-- ---- what is the same is one

same_number : (a b : ℕ) → nat_eq a b ≡ true → a ≡ b
same_number a b t = grind (arith, nat_tests)

same_word : (a b : Option ℕ) → option_eq nat_eq a b ≡ true → a ≡ b
same_word None None t = refl
same_word None (Some b) t = absurd (true≢false (sym t))
same_word (Some a) None t = absurd (true≢false (sym t))
same_word (Some a) (Some b) t = ap Some (same_number a b t)

same_site : (x y : Site) → is_same_site x y ≡ true → x ≡ y
same_site x y t =
    let pcs = same_number x.pc y.pc (first_of (nat_eq x.pc y.pc) (option_eq nat_eq x.word y.word) t) in
    let words = same_word x.word y.word (second_of (nat_eq x.pc y.pc) (option_eq nat_eq x.word y.word) t) in
    λ i. record { pc = pcs i; word = words i }

pub same_pair : (x y : Pair) → is_same_pair x y ≡ true → x ≡ y
same_pair x y t =
    let from = same_site x.from y.from (first_of (is_same_site x.from y.from) (is_same_site x.to y.to) t) in
    let to = same_site x.to y.to (second_of (is_same_site x.from y.from) (is_same_site x.to y.to) t) in
    λ i. record { from = from i; to = to i }

-- ---- what is one is the same

one_number : (a : ℕ) → nat_eq a a ≡ true
one_number a = grind (arith, nat_tests)

one_word : (a : Option ℕ) → option_eq nat_eq a a ≡ true
one_word None = refl
one_word (Some a) = one_number a

one_site : (x : Site) → is_same_site x x ≡ true
one_site x = λ i. one_number x.pc i && one_word x.word i

pub one_pair : (x : Pair) → is_same_pair x x ≡ true
one_pair x = λ i. one_site x.from i && one_site x.to i

-- ---- an equivalence

module _ {K : Type 0} (E : K → K → Bool) (one : (x : K) → E x x ≡ true) (same : (x y : K) → E x y ≡ true → x ≡ y)
  where
    turned_true : (x y : K) → E x y ≡ true → E y x ≡ true
    turned_true x y t = subst (λ (z : K). E z x ≡ true) (same x y t) (one x)

    symm : (x y : K) (a b : Bool) → E x y ≡ a → E y x ≡ b → E x y ≡ E y x
    symm x y true b is other = is ∙ sym (turned_true x y is)
    symm x y false true is other = absurd (true≢false (sym (turned_true y x other) ∙ is))
    symm x y false false is other = is ∙ sym other

    equivalence : IsEquivalence E
    equivalence = record {
      refl = one;
      symm = λ x y. symm x y (E x y) (E y x) refl refl;
      congr = λ x y z t. ap (λ (q : K). E q z) (same x y t);
    }

pub pair_equivalence : IsEquivalence is_same_pair
pair_equivalence = equivalence is_same_pair one_pair same_pair
