-- What the text of turns has between its commas and stars.
use Rattle.std.proofs.Common.{◌≡◌, ◌≢◌, ◌∙◌, refl, sym, ap, subst, ℕ, zero, suc, ◌<◌, ◌≤◌, ◌+◌, ◌^◌, List, [], ◌∷◌}
use Rattle.std.proofs.Common.{◌++◌}
use Rattle.std.proofs.Common.{arith, Bool, true, false, length, get_or, MatchOption, Option, Some, None, decimal}
use Rattle.std.specs.Prelude.{not, nat_eq, drop}
use Rattle.std.specs.Char.{is_ascii_digit}
use Rattle.std.specs.List.{list_all}
use Rattle.std.proofs.lemmas.Bool.Decides.{nat_tests}
use Rattle.std.proofs.lemmas.Fmt.{decimal_injective, digits_decimal}
use Rattle.std.proofs.lemmas.List.{get_or_at, length-append}
use Rattle.std.proofs.lemmas.List.Folds.{list_all-append}
use Rattle.turn_lists.proofs.NumeralLemmas.{own}
use Rattle.rtr_types.specs.declared.TheConstants.{CORES_MAX}
use Rattle.turn_lists.specs.Actors.{core_of, is_actor}
use Rattle.turn_lists.specs.declared.actor.Actor.{Actor}
use Rattle.turn_lists.specs.declared.actor.Actor.TheVariants.{Buffer, Core}
use Rattle.turn_lists.specs.declared.actor.TheConstants.{COUNT_MAX}
use Rattle.turn_lists.specs.declared.actor.Turn.{Turn}
use Rattle.turn_lists.specs.Texts.{is_turn, spelled_actor, spelled_turn}

-- ---- bytes that aren't among others

abbrev pub lacks : ℕ → List ℕ → Bool
lacks c bs = list_all (λ b. not (nat_eq b c)) bs

pub lacks_at : (c : ℕ) (bs : List ℕ) → lacks c bs ≡ true → (i : ℕ) → i < length bs → get_or bs i 0 ≢ c
lacks_at c [] h i within = absurd (omega arith)
lacks_at c (b ∷ bs) h zero within = λ e. grind (arith, nat_tests)
lacks_at c (b ∷ bs) h (suc i) within = lacks_at c bs (grind (arith, nat_tests)) i (omega arith)

digits_lack : (c : ℕ) (bs : List ℕ) → is_ascii_digit c ≡ false → list_all is_ascii_digit bs ≡ true → lacks c bs ≡ true
digits_lack c [] out h = refl
digits_lack c (b ∷ bs) out h =
    let rest : lacks c bs ≡ true = digits_lack c bs out (grind (arith, nat_tests)) in
    grind (arith, nat_tests)

pub decimal_lacks : (c n : ℕ) → is_ascii_digit c ≡ false → n < 2 ^ 64 → lacks c (decimal n) ≡ true
decimal_lacks c n out small = digits_lack c (decimal n) out (digits_decimal own n small)

lacks_append : (c : ℕ) (front back : List ℕ) → lacks c front ≡ true → lacks c back ≡ true →
    lacks c (front ++ back) ≡ true
lacks_append c front back one other =
    list_all-append (λ b. not (nat_eq b c)) front back ∙ (rw (one, other) refl)

-- ---- the parts of a turn

pub is_turn_core : (t : Turn) → is_turn t ≡ true → core_of t.actor < CORES_MAX
is_turn_core t h = grind (arith, nat_tests)

pub is_turn_count : (t : Turn) → is_turn t ≡ true → t.count ≤ COUNT_MAX
is_turn_count t h = grind (arith, nat_tests)

pub actor_lacks : (c : ℕ) (a : Actor) → c < 48 → core_of a < CORES_MAX → lacks c (spelled_actor a) ≡ true
actor_lacks c (Core k) out small = decimal_lacks c k (grind (arith, nat_tests)) (omega arith)
actor_lacks c (Buffer k) out small =
    let rest : lacks c (decimal k) ≡ true = decimal_lacks c k (grind (arith, nat_tests)) (omega arith) in
    grind (arith, nat_tests)

-- but for the star, no byte below the digits is in a turn
pub turn_lacks : (c : ℕ) (t : Turn) → c < 48 → c ≢ 42 → is_turn t ≡ true → lacks c (spelled_turn t) ≡ true
turn_lacks c t out other h =
    let count : lacks c (decimal t.count) ≡ true =
    decimal_lacks c t.count (grind (arith, nat_tests)) (omega (arith, is_turn_count t h)) in
    let star : lacks c (42 ∷ decimal t.count) ≡ true = grind (arith, nat_tests) in
    lacks_append c (spelled_actor t.actor) (42 ∷ decimal t.count) (actor_lacks c t.actor out (is_turn_core t h)) star

-- the first c of a text, where it is at all, cuts it in one way
pub first_cut : (c : ℕ) (front back front' back' : List ℕ) → front ++ c ∷ back ≡ front' ++ c ∷ back' →
    ((i : ℕ) → i < length front → get_or front i 0 ≢ c) → ((i : ℕ) → i < length front' → get_or front' i 0 ≢ c) →
    (front ≡ front') × (back ≡ back')
first_cut c [] back [] back' e p q = (refl, ap (drop 1) e)
first_cut c [] back (y ∷ front') back' e p q = absurd (q 0 (omega arith) (sym (ap (λ (xs : List ℕ). get_or xs 0 0) e)))
first_cut c (x ∷ front) back [] back' e p q = absurd (p 0 (omega arith) (ap (λ (xs : List ℕ). get_or xs 0 0) e))
first_cut c (x ∷ front) back (y ∷ front') back' e p q =
    let head : x ≡ y = ap (λ (xs : List ℕ). get_or xs 0 0) e in
    let tail : front ++ c ∷ back ≡ front' ++ c ∷ back' = ap (drop 1) e in
    let rest = first_cut c front back front' back' tail (λ i h. p (suc i) (omega arith))
    (λ i h. q (suc i) (omega arith)) in
    ((λ i. head i ∷ rest.0 i), rest.1)

-- a text without a c has no cut
pub no_cut : (c : ℕ) (bs front back : List ℕ) → ((i : ℕ) → i < length bs → get_or bs i 0 ≢ c) → bs ≢ front ++ c ∷ back
no_cut c bs front back lacking e =
    let long : length bs ≡ length front + length (c ∷ back) = ap length e ∙ length-append front (c ∷ back) in
    lacking (length front) (omega (arith, long))
    (ap (λ (xs : List ℕ). get_or xs (length front) 0) e ∙ get_or_at front c back 0 (length front) refl)

-- ---- actors

pub no_buffer : (bs rest : List ℕ) → bs ≡ 119 ∷ rest → ((c : ℕ) → c < CORES_MAX → rest ≢ decimal c) → (a : Actor) →
    is_actor a ≡ true → bs ≢ spelled_actor a
no_buffer bs rest cut none (Core c) fits is =
    let small : c < CORES_MAX = grind (arith, nat_tests) in
    let whole : 119 ∷ rest ≡ decimal c = sym cut ∙ is in
    let some : 0 < length (decimal c) = subst (λ (xs : List ℕ). 0 < length xs) whole (omega arith) in
    lacks_at 119 (decimal c) (decimal_lacks 119 c refl (omega arith)) 0 some
    (sym (ap (λ (xs : List ℕ). get_or xs 0 0) whole))
no_buffer bs rest cut none (Buffer c) fits is =
    none c (grind (arith, nat_tests)) (ap (drop 1) (sym cut ∙ is))

pub no_core : (bs : List ℕ) → ((rest : List ℕ) → bs ≢ 119 ∷ rest) → ((c : ℕ) → c < CORES_MAX → bs ≢ decimal c) →
    (a : Actor) → is_actor a ≡ true → bs ≢ spelled_actor a
no_core bs other none (Core c) fits is = none c (grind (arith, nat_tests)) is
no_core bs other none (Buffer c) fits is = other (decimal c) is

-- ---- counts

pub no_count : (bs : List ℕ) (n : ℕ) → bs ≡ decimal n → n ≡ 0 → (t : Turn) → is_turn t ≡ true → bs ≢ decimal t.count
no_count bs n is zero_is t fits other =
    let some : 1 ≤ t.count = grind (arith, nat_tests) in
    let most : t.count ≤ COUNT_MAX = is_turn_count t fits in
    let same : n ≡ t.count = decimal_injective n t.count (omega arith) (omega arith) (sym is ∙ other) in
    absurd (omega arith)

-- ---- turns

pub turn_joined : (bs front back : List ℕ) (r : Option Turn) →
    MatchOption r ((t : Turn) → is_turn t ≡ true → front ≡ spelled_actor t.actor → back ≢ decimal t.count)
    (λ t. (is_turn t ≡ true) × (front ≡ spelled_actor t.actor) × (back ≡ decimal t.count)) →
    bs ≡ front ++ 42 ∷ back → ((i : ℕ) → i < length front → get_or front i 0 ≢ 42) →
    MatchOption r ((t : Turn) → is_turn t ≡ true → bs ≢ spelled_turn t)
    (λ t. (is_turn t ≡ true) × (bs ≡ spelled_turn t))
turn_joined bs front back None none cut lacking = λ t fits is.
    let parts = first_cut 42 front back (spelled_actor t.actor) (decimal t.count) (sym cut ∙ is) lacking
    (lacks_at 42 (spelled_actor t.actor) (actor_lacks 42 t.actor (omega arith) (is_turn_core t fits))) in
    none t fits parts.0 parts.1
turn_joined bs front back (Some t) some cut lacking =
    (some.0, cut ∙ (λ i. some.1 i ++ 42 ∷ some.2 i))

-- a text without a star is no turn
pub no_star : (bs : List ℕ) → ((i : ℕ) → i < length bs → get_or bs i 0 ≢ 42) → (t : Turn) → bs ≢ spelled_turn t
no_star bs lacking t is = no_cut 42 bs (spelled_actor t.actor) (decimal t.count) lacking is
