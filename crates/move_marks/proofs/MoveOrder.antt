-- Moves that are numbered kind by kind, and in a kind core by core: those that can be made are, kind by kind, at the
-- members of the set in which they are marked.
use Rattle.std.proofs.Common.{◌≡◌, ◌∙◌, refl, sym, ap, ℕ, zero, suc, ◌+◌, ◌-◌, ◌<◌, ◌≤◌, Bool, true, false}
use Rattle.std.proofs.Common.{cond, List, [], ◌∷◌, ◌++◌, arith}
use Rattle.std.specs.Prelude.{map}
use Rattle.std.specs.List.{filter, range_with_len}
use Rattle.std.proofs.lemmas.List.{append-nil, map-append}
use Rattle.std.proofs.lemmas.List.Elements.{filter-append}
use Rattle.rtr_types.specs.CoreSets.{has}
use Rattle.rtr_types.specs.declared.TheConstants.{CORES_MAX}
use Rattle.rtr_types.specs.declared.core_set.CoreSet.{CoreSet}
use Rattle.move_marks.specs.Members.{members}

range_append : (a n k : ℕ) → range_with_len a (n + k) ≡ range_with_len a n ++ range_with_len (a + n) k
range_append a zero k =
    let all : zero + k ≡ k = omega arith in
    let here : a ≡ a + zero = omega arith in
    (λ i. range_with_len (here i) (all i))
range_append a (suc n) k =
    let more : suc n + k ≡ suc (n + k) = omega arith in
    let on : (a + 1) + n ≡ a + suc n = omega arith in
    ap (range_with_len a) more
    ∙ ap (λ (xs : List ℕ). a ∷ xs) (range_append (a + 1) n k)
    ∙ ap (λ (b : ℕ). (a ∷ range_with_len (a + 1) n) ++ range_with_len b k) on

filter_map_by : {X : Type 0} (p : X → Bool) (make : ℕ → X) (xs : List ℕ) →
    filter p (map make xs) ≡ map make (filter (λ (c : ℕ). p (make c)) xs)
filter_map_by p make [] = refl
filter_map_by {X} p make (x ∷ xs) = by (p (make x)) (filter_map_by p make xs)
  where
    by : (b : Bool) → filter p (map make xs) ≡ map make (filter (λ (c : ℕ). p (make c)) xs) →
        cond b (make x ∷ filter p (map make xs)) (filter p (map make xs))
        ≡ map make (cond b (x ∷ filter (λ (c : ℕ). p (make c)) xs) (filter (λ (c : ℕ). p (make c)) xs))
    by true rest = ap (λ (ys : List X). make x ∷ ys) rest
    by false rest = rest

-- the same moves by their kind
renumbered : {X : Type 0} (f make : ℕ → X) (a b n : ℕ) → ((i : ℕ) → i < n → f (a + i) ≡ make (b + i)) →
    map f (range_with_len a n) ≡ map make (range_with_len b n)
renumbered f make a b zero same = refl
renumbered f make a b (suc n) same =
    let a_here : a ≡ a + 0 = omega arith in
    let b_here : b + 0 ≡ b = omega arith in
    let first : f a ≡ make b = ap f a_here ∙ same 0 (omega arith) ∙ ap make b_here in
    (λ i. first i ∷ renumbered f make (a + 1) (b + 1) n later i)
  where
    later : (i : ℕ) → i < n → f ((a + 1) + i) ≡ make ((b + 1) + i)
    later i within =
        let a_on : (a + 1) + i ≡ a + (1 + i) = omega arith in
        let b_on : b + (1 + i) ≡ (b + 1) + i = omega arith in
        ap f a_on ∙ same (1 + i) (omega arith) ∙ ap make b_on

pub none_from : (q : ℕ → Bool) (a n : ℕ) → ((c : ℕ) → a ≤ c → c < a + n → q c ≡ false) → filter q (range_with_len a n) ≡ []
none_from q a zero none = refl
none_from q a (suc n) none =
    ap (λ (b : Bool). cond b (a ∷ filter q (range_with_len (a + 1) n)) (filter q (range_with_len (a + 1) n)))
    (none a (omega arith) (omega arith))
    ∙ none_from q (a + 1) n (λ c past within. none c (omega arith) (omega arith))

pub agree_on : (p q : ℕ → Bool) (a n : ℕ) → ((c : ℕ) → a ≤ c → c < a + n → p c ≡ q c) →
    filter p (range_with_len a n) ≡ filter q (range_with_len a n)
agree_on p q a zero same = refl
agree_on p q a (suc n) same =
    (λ i. cond (same a (omega arith) (omega arith) i) (a ∷ filter p (range_with_len (a + 1) n))
    (filter p (range_with_len (a + 1) n)))
    ∙ ap (λ (xs : List ℕ). cond (q a) (a ∷ xs) xs)
    (agree_on p q (a + 1) n (λ c past within. same c (omega arith) (omega arith)))

members_are : (set : CoreSet) (q : ℕ → Bool) (n : ℕ) → n ≤ CORES_MAX → ((c : ℕ) → c < CORES_MAX → has set c ≡ q c) →
    ((c : ℕ) → n ≤ c → c < CORES_MAX → q c ≡ false) → filter q (range_with_len 0 n) ≡ members set
members_are set q n few same none =
    let all : n + (CORES_MAX - n) ≡ CORES_MAX = omega arith in
    let start : 0 + n ≡ n = omega arith in
    sym (append-nil (filter q (range_with_len 0 n)))
    ∙ ap (λ (xs : List ℕ). filter q (range_with_len 0 n) ++ xs)
    (sym (ap (λ (b : ℕ). filter q (range_with_len b (CORES_MAX - n))) start
    ∙ none_from q n (CORES_MAX - n) (λ c past within. none c past (omega arith))))
    ∙ sym (filter-append q (range_with_len 0 n) (range_with_len (0 + n) (CORES_MAX - n)))
    ∙ ap (filter q) (sym (range_append 0 n (CORES_MAX - n)) ∙ ap (range_with_len 0) all)
    ∙ sym (agree_on (has set) q 0 CORES_MAX (λ c past within. same c within))

-- of the moves that are numbered from a on, one a core, those that can be made
pub kind_listed : {X : Type 0} (p : X → Bool) (f make : ℕ → X) (set : CoreSet) (a n : ℕ) → n ≤ CORES_MAX →
    ((i : ℕ) → i < n → f (a + i) ≡ make i) → ((c : ℕ) → c < CORES_MAX → has set c ≡ p (make c)) →
    ((c : ℕ) → n ≤ c → c < CORES_MAX → p (make c) ≡ false) →
    filter p (map f (range_with_len a n)) ≡ map make (members set)
kind_listed p f make set a n few is marked none =
    ap (filter p) (renumbered f make a 0 n (λ i within. is i within ∙ ap make (from_zero i)))
    ∙ filter_map_by p make (range_with_len 0 n)
    ∙ ap (map make) (members_are set (λ (c : ℕ). p (make c)) n few marked none)
  where
    from_zero : (i : ℕ) → i ≡ 0 + i
    from_zero i = omega arith

-- those of one kind come before the others
pub kind_and_others : {X : Type 0} (p : X → Bool) (f : ℕ → X) (a n k : ℕ) →
    filter p (map f (range_with_len a (n + k)))
    ≡ filter p (map f (range_with_len a n)) ++ filter p (map f (range_with_len (a + n) k))
kind_and_others p f a n k =
    ap (λ (xs : List ℕ). filter p (map f xs)) (range_append a n k)
    ∙ ap (filter p) (map-append f (range_with_len a n) (range_with_len (a + n) k))
    ∙ filter-append p (map f (range_with_len a n)) (map f (range_with_len (a + n) k))
