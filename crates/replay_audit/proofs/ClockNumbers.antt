-- How many clocks of a core are of instructions up to a count.
use Rattle.std.proofs.Common.{inl, inr, ◌≡◌, ◌⊎◌, ℕ, zero, suc, ◌+◌, ◌-◌, ◌<◌, ◌≤◌, true, false, List, [], ◌∷◌, ◌++◌}
use Rattle.std.proofs.Common.{length, refl, sym, ap, ◌∙◌, subst, arith, length-set, get_or-set_same, get_or-set_other}
use Rattle.std.specs.Prelude.{nat_le, slice_index, slice_index_or, slice_set}
use Rattle.std.proofs.lemmas.List.{get_or_default}
use native.Mathlib.Decide.{ℕ_discrete}
use Rattle.rtr_types.specs.declared.instr.Instr.{Instr}
use Rattle.std.proofs.lemmas.Bool.Decides.{nat_tests}
use Rattle.std.proofs.lemmas.Bool.{cases_lt}
use Rattle.clock_core.specs.Counts.{no_counts}
use Rattle.replay_audit.specs.Clocks.{AreKept, AreRising, AreWithin, Kept, clocks_of, last_of, number_to, numbered}

-- ---- lists with one more

pub at_last : {A : Type 0} (l : List A) (x d : A) (m : ℕ) → m ≡ length l → slice_index_or (l ++ x ∷ []) m d ≡ x
at_last [] x d m e = rw e refl
at_last (y ∷ l) x d zero e = absurd (omega arith)
at_last (y ∷ l) x d (suc m) e = at_last l x d m (omega arith)

pub at_before : {A : Type 0} (l : List A) (x d : A) (m : ℕ) → m < length l →
    slice_index_or (l ++ x ∷ []) m d ≡ slice_index_or l m d
at_before [] x d m lt = absurd (omega arith)
at_before (y ∷ l) x d zero lt = refl
at_before (y ∷ l) x d (suc m) lt = at_before l x d m (omega arith)

pub length_more : {A : Type 0} (l : List A) (x : A) → length (l ++ x ∷ []) ≡ length l + 1
length_more [] x = refl
length_more (y ∷ l) x = let e = length_more l x in omega arith

-- ---- by the first clock

pub number_more : (clock : List ℕ) (clocks : List (List ℕ)) (c n : ℕ) → slice_index clock c ≤ n →
    number_to (clock ∷ clocks) c n ≡ suc (number_to clocks c n)
number_more clock clocks c n le =
    let e : nat_le (slice_index clock c) n ≡ true = grind (arith, nat_tests) in rw e refl

pub number_none : (clock : List ℕ) (clocks : List (List ℕ)) (c n : ℕ) → n < slice_index clock c →
    number_to (clock ∷ clocks) c n ≡ 0
number_none clock clocks c n lt =
    let e : nat_le (slice_index clock c) n ≡ false = grind (arith, nat_tests) in rw e refl

pub number_most : (clocks : List (List ℕ)) (c n : ℕ) → number_to clocks c n ≤ length clocks
number_most [] c n = omega arith
number_most (clock ∷ clocks) c n = by (cases_lt n (slice_index clock c)) (number_most clocks c n)
  where
    by : (n < slice_index clock c) ⊎ (slice_index clock c ≤ n) → number_to clocks c n ≤ length clocks →
        number_to (clock ∷ clocks) c n ≤ length (clock ∷ clocks)
    by (inl lt) most = let e = number_none clock clocks c n lt in omega arith
    by (inr le) most = let e = number_more clock clocks c n le in omega arith

-- where all are, the first is and all others
first_within : (clock : List ℕ) (clocks : List (List ℕ)) (c n : ℕ) →
    number_to (clock ∷ clocks) c n ≡ length (clock ∷ clocks) →
    (slice_index clock c ≤ n) × (number_to clocks c n ≡ length clocks)
first_within clock clocks c n all = by (cases_lt n (slice_index clock c))
  where
    by : (n < slice_index clock c) ⊎ (slice_index clock c ≤ n) →
        (slice_index clock c ≤ n) × (number_to clocks c n ≡ length clocks)
    by (inl lt) = let e = number_none clock clocks c n lt in absurd (omega arith)
    by (inr le) = let e = number_more clock clocks c n le in (le, omega arith)

-- ---- one clock more

-- up to a later count all still are
pub all_later : (clocks : List (List ℕ)) (c n m : ℕ) → number_to clocks c n ≡ length clocks → n ≤ m →
    number_to clocks c m ≡ length clocks
all_later [] c n m all le = refl
all_later (clock ∷ clocks) c n m all le =
    let first = first_within clock clocks c n all in
    let here = first.0 in
    let rest = all_later clocks c n m first.1 le in
    let e = number_more clock clocks c m (omega arith) in
    omega arith

-- the last one too
pub all_more : (clocks : List (List ℕ)) (clock : List ℕ) (c n : ℕ) → number_to clocks c n ≡ length clocks →
    slice_index clock c ≤ n → number_to (clocks ++ clock ∷ []) c n ≡ length (clocks ++ clock ∷ [])
all_more [] clock c n all le = number_more clock [] c n le
all_more (first ∷ clocks) clock c n all le =
    let f = first_within first clocks c n all in
    let rest = all_more clocks clock c n f.1 le in
    let e = number_more first (clocks ++ clock ∷ []) c n f.0 in
    omega arith

-- or not: then there are as many as before
pub number_stays : (clocks : List (List ℕ)) (clock : List ℕ) (c n : ℕ) → n < slice_index clock c →
    number_to (clocks ++ clock ∷ []) c n ≡ number_to clocks c n
number_stays [] clock c n lt = number_none clock [] c n lt
number_stays (first ∷ clocks) clock c n lt = by (cases_lt n (slice_index first c)) (number_stays clocks clock c n lt)
  where
    by : (n < slice_index first c) ⊎ (slice_index first c ≤ n) →
        number_to (clocks ++ clock ∷ []) c n ≡ number_to clocks c n →
        number_to ((first ∷ clocks) ++ clock ∷ []) c n ≡ number_to (first ∷ clocks) c n
    by (inl past) rest =
        number_none first (clocks ++ clock ∷ []) c n past ∙ sym (number_none first clocks c n past)
    by (inr le) rest =
        number_more first (clocks ++ clock ∷ []) c n le ∙ ap (λ (m : ℕ). suc m) rest
        ∙ sym (number_more first clocks c n le)

-- ---- what is looked for

-- so many are, and the next one isn't
pub number_is : (clocks : List (List ℕ)) (c n m : ℕ) → AreWithin clocks c n m →
    (m < length clocks → n < slice_index (slice_index_or clocks m no_counts) c) → m ≡ number_to clocks c n
number_is [] c n m w past = let le = w.within in omega arith
number_is (clock ∷ clocks) c n zero w past = sym (number_none clock clocks c n (past (omega arith)))
number_is (clock ∷ clocks) c n (suc m) w past =
    ap (λ (k : ℕ). suc k) (number_is clocks c n m (record {
      within = let le = w.within in omega arith;
      each = λ i lt. w.each (suc i) (omega arith);
    }) (λ lt. past (omega arith)))
    ∙ sym (number_more clock clocks c n (w.each 0 (omega arith)))

pub none_within : (clocks : List (List ℕ)) (c n : ℕ) → AreWithin clocks c n 0
none_within clocks c n = record { within = omega arith; each = λ i lt. absurd (omega arith) }

-- with one that is, all before it are
pub within_by : (clocks : List (List ℕ)) (c n k m : ℕ) → AreRising c clocks → k < length clocks →
    slice_index (slice_index_or clocks k no_counts) c ≤ n → m ≡ k + 1 → AreWithin clocks c n m
within_by clocks c n k m rising lt le m_is = record { within = omega arith; each = each }
  where
    each : (i : ℕ) → i < m → slice_index (slice_index_or clocks i no_counts) c ≤ n
    each i below = by (cases_lt i k)
      where
        by : (i < k) ⊎ (k ≤ i) → slice_index (slice_index_or clocks i no_counts) c ≤ n
        by (inl before) = let r = rising i k before lt in omega arith
        by (inr here) =
            let e : i ≡ k = omega arith in
            subst (λ (j : ℕ). slice_index (slice_index_or clocks j no_counts) c ≤ n) (sym e) le

-- with one that isn't, none after it is
pub past_by : (clocks : List (List ℕ)) (c n k i : ℕ) → AreRising c clocks → k ≤ i → i < length clocks →
    n < slice_index (slice_index_or clocks k no_counts) c → n < slice_index (slice_index_or clocks i no_counts) c
past_by clocks c n k i rising le lt past = by (cases_lt k i)
  where
    by : (k < i) ⊎ (i ≤ k) → n < slice_index (slice_index_or clocks i no_counts) c
    by (inl after) = let r = rising k i after lt in omega arith
    by (inr here) =
        let e : k ≡ i = omega arith in
        subst (λ (j : ℕ). n < slice_index (slice_index_or clocks j no_counts) c) e past

-- ---- clocks rise

-- all clocks have at most the count n
pub all_within : (clocks : List (List ℕ)) (c n i : ℕ) → number_to clocks c n ≡ length clocks → i < length clocks →
    slice_index (slice_index_or clocks i no_counts) c ≤ n
all_within [] c n i all lt = absurd (omega arith)
all_within (clock ∷ clocks) c n zero all lt = (first_within clock clocks c n all).0
all_within (clock ∷ clocks) c n (suc i) all lt =
    all_within clocks c n i (first_within clock clocks c n all).1 (omega arith)

-- with a later one they still rise
pub rising_more : (clocks : List (List ℕ)) (clock : List ℕ) (c n : ℕ) → AreRising c clocks →
    number_to clocks c n ≡ length clocks → n < slice_index clock c → AreRising c (clocks ++ clock ∷ [])
rising_more clocks clock c n rising all lt i j before below =
    by (cases_lt j (length clocks))
  where
    at : ℕ → ℕ
    at k = slice_index (slice_index_or (clocks ++ clock ∷ []) k no_counts) c

    old : (k : ℕ) → k < length clocks → at k ≡ slice_index (slice_index_or clocks k no_counts) c
    old k inside = ap (λ (l : List ℕ). slice_index l c) (at_before clocks clock no_counts k inside)

    by : (j < length clocks) ⊎ (length clocks ≤ j) → at i < at j
    by (inl inside) =
        let r = rising i j before inside in
        let a = old i (omega arith) in
        let b = old j inside in
        omega arith
    by (inr last) =
        let m = length_more clocks clock in
        let b : at j ≡ slice_index clock c = ap (λ (l : List ℕ). slice_index l c)
        (at_last clocks clock no_counts j (omega arith)) in
        let a = old i (omega arith) in
        let w = all_within clocks c n i all (omega arith) in
        omega arith

-- ---- what is found

-- a clock's count, by the item at a place
pub at_item : (clocks : List (List ℕ)) (item : List ℕ) (k c value : ℕ) → k < length clocks →
    item ≡ slice_index_or clocks k item → value ≡ slice_index item c →
    value ≡ slice_index (slice_index_or clocks k no_counts) c
at_item clocks item k c value lt item_is value_is =
    value_is ∙ ap (λ (l : List ℕ). slice_index l c) (item_is ∙ get_or_default clocks k item no_counts lt)

-- what is kept with one clock more of a core, and other guesses
pub kept_more : (nothing : List ℕ) (clocks : List (List (List ℕ))) (guesses : List (List ℕ)) (guess : List ℕ)
    (y : Instr) (clock : List ℕ) (list : List (List ℕ)) → AreKept nothing clocks guesses →
    y.core < length clocks → list ≡ slice_index_or clocks y.core [] ++ clock ∷ [] →
    number_to (slice_index_or clocks y.core []) y.core (y.count - 1) ≡ length (slice_index_or clocks y.core []) →
    y.count - 1 < slice_index clock y.core →
    AreKept nothing (slice_set clocks y.core list) (slice_set guesses y.core guess)
kept_more nothing clocks guesses guess y clock list kept lt list_is all later = record {
  nothing_is = kept.nothing_is;
  rising = λ c. rising c (ℕ_discrete c y.core);
  guessed = length-set guesses y.core guess ∙ kept.guessed ∙ sym (length-set clocks y.core list);
}
  where
    rising : (c : ℕ) → Dec (c ≡ y.core) → AreRising c (slice_index_or (slice_set clocks y.core list) c [])
    rising c (yes e) = subst (λ (d : ℕ). AreRising d (slice_index_or (slice_set clocks y.core list) d [])) (sym e)
        (subst (λ (l : List (List ℕ)). AreRising y.core l)
        (sym (get_or-set_same clocks y.core list [] lt ∙ list_is))
        (rising_more (slice_index_or clocks y.core []) clock y.core (y.count - 1) (kept.rising y.core) all later))
    rising c (no ne) = subst (λ (l : List (List ℕ)). AreRising c l)
        (sym (get_or-set_other clocks y.core c list [] ne)) (kept.rising c)

-- ---- the last clock that is kept

pub last_numbered : (k : Kept) (c n : ℕ) → n ≡ length (clocks_of k c) → last_of k c ≡ numbered k c n
last_numbered k c zero all = none (clocks_of k c) all
  where
    none : (l : List (List ℕ)) → 0 ≡ length l → slice_index_or l (length l - 1) no_counts ≡ no_counts
    none [] e = refl
    none (clock ∷ l) e = absurd (omega arith)
last_numbered k c (suc n) all = let e : length (clocks_of k c) - 1 ≡ n = omega arith in
    ap (λ (m : ℕ). slice_index_or (clocks_of k c) m no_counts) e
