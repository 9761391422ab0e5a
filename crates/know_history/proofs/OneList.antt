-- The changes of one count.
use Rattle.std.proofs.Common.{◌≡◌, ◌∙◌, ap, refl, sym, ℕ, zero, suc, ◌+◌, ◌-◌, ◌<◌, ◌≤◌, Bool, true, false, List, []}
use Rattle.std.proofs.Common.{◌∷◌, ◌++◌}
use Rattle.std.proofs.Common.{length, get_or, IsTrue, nat_lt, arith, length-append}
use Rattle.std.specs.Prelude.{nat_le, if◌then◌else◌}
use Rattle.std.specs.List.Sorted.{IsNonDecreasingBy, IsPartitionPoint}
use Rattle.std.proofs.lemmas.Bool.{cond-true, cond-false}
use Rattle.std.proofs.lemmas.Bool.Decides.{nat_tests}
use Rattle.know_history.specs.declared.changes.Change.{Change}
use Rattle.know_history.specs.Changes.{AreChanges, do_rise, known_by}
use Rattle.know_history.specs.Notes.{rises}

abbrev pub with_change : List Change → (count known : ℕ) → List Change
with_change changes count known = changes ++ record { count = count; known = known } ∷ []

-- ---- a change that comes later is not seen

pub known_before : (before : ℕ) (changes : List Change) (count known b : ℕ) → b < count →
    known_by before (with_change changes count known) b
    ≡ known_by before changes b
known_before before [] count known b lt = let t : nat_le count b ≡ false = grind (arith, nat_tests) in
    cond-false (nat_le count b) known before t
known_before before (c ∷ changes) count known b lt = ap (λ (n : ℕ). if nat_le c.count b then n else before)
    (known_before c.known changes count known b lt)

-- ---- what the rise up to the most says

first_of : (least most : ℕ) (c : Change) (changes : List Change) → IsTrue (do_rise least most (c ∷ changes)) →
    (least < c.count)
    × IsTrue (do_rise c.count most changes)
first_of least most c changes t = (grind (arith, nat_tests), grind (arith, nat_tests))

pub least_most : (least most : ℕ) (changes : List Change) → IsTrue (do_rise least most changes) → least ≤ most
least_most least most [] t = grind (arith, nat_tests)
least_most least most (c ∷ changes) t = let f = first_of least most c changes t in let lt = f.0 in let rest =
    least_most c.count most changes f.1 in omega arith

-- at or after the last change it is seen
pub known_after : (before least most : ℕ) (changes : List Change) (b : ℕ) → IsTrue (do_rise least most changes) →
    most ≤ b → known_by before changes b
    ≡ known_by before changes most
known_after before least most [] b t le = refl
known_after before least most (c ∷ changes) b t le =
    let f = first_of least most c changes t in
    let most_le = least_most c.count most changes f.1 in
    let here : nat_le c.count b ≡ true = grind (arith, nat_tests) in
    let there : nat_le c.count most ≡ true = grind (arith, nat_tests) in
    cond-true (nat_le c.count b) (known_by c.known changes b) before here
    ∙ known_after c.known c.count most changes b f.1 le
    ∙ sym (cond-true (nat_le c.count most) (known_by c.known changes most) before there)

-- a new change is seen at its count
pub known_there : (before least most : ℕ) (changes : List Change) (count known : ℕ) →
    IsTrue (do_rise least most changes) → most ≤ count →
    known_by before (with_change changes count known) count ≡ known
known_there before least most [] count known t le = let here : nat_le count count ≡ true = grind (arith, nat_tests) in
    cond-true (nat_le count count) known before here
known_there before least most (c ∷ changes) count known t le =
    let f = first_of least most c changes t in
    let most_le = least_most c.count most changes f.1 in
    let here : nat_le c.count count ≡ true = grind (arith, nat_tests) in
    cond-true (nat_le c.count count) (known_by c.known (with_change changes count known) count) before here
    ∙ known_there c.known c.count most changes count known f.1 le

-- none is seen before the first
pub known_none : (least most : ℕ) (changes : List Change) (b : ℕ) → IsTrue (do_rise least most changes) → b ≤ least →
    known_by 0 changes b ≡ 0
known_none least most [] b t le = refl
known_none least most (c ∷ changes) b t le = let f = first_of least most c changes t in let lt = f.0 in
    let late : nat_le c.count b ≡ false = grind (arith, nat_tests) in
    cond-false (nat_le c.count b) (known_by c.known changes b) 0 late

-- ---- the list still rises

pub rise_more : (least most count known : ℕ) (changes : List Change) → IsTrue (do_rise least most changes) →
    most < count →
    IsTrue (do_rise least count (with_change changes count known))
rise_more least most count known [] t lt = grind (arith, nat_tests)
rise_more least most count known (c ∷ changes) t lt = let f = first_of least most c changes t in let first = f.0 in
    let rest = rise_more c.count most count known changes f.1 lt in grind (arith, nat_tests)

pub rise_later : (least most later : ℕ) (changes : List Change) → IsTrue (do_rise least most changes) → most ≤ later →
    IsTrue (do_rise least later changes)
rise_later least most later [] t le = grind (arith, nat_tests)
rise_later least most later (c ∷ changes) t le = let f = first_of least most c changes t in let first = f.0 in
    let rest = rise_later c.count most later changes f.1 le in grind (arith, nat_tests)

above : (least most : ℕ) (changes : List Change) (k : ℕ) (d : Change) → IsTrue (do_rise least most changes) →
    k < length changes →
    least < (get_or changes k d).count
above least most [] k d t lt = absurd (omega arith)
above least most (c ∷ changes) zero d t lt = (first_of least most c changes t).0
above least most (c ∷ changes) (suc k) d t lt = let f = first_of least most c changes t in let first = f.0 in
    let rest = above c.count most changes k d f.1 (omega arith) in omega arith

pub sorted : (least most : ℕ) (changes : List Change) → IsTrue (do_rise least most changes) →
    IsNonDecreasingBy (λ (c : Change). c.count) changes
sorted least most [] t i j d le lt = absurd (omega arith)
sorted least most (c ∷ changes) t zero zero d le lt = omega arith
sorted least most (c ∷ changes) t zero (suc j) d le lt = let f = first_of least most c changes t in
    let up = above c.count most changes j d f.1 (omega arith) in omega arith
sorted least most (c ∷ changes) t (suc i) zero d le lt = absurd (omega arith)
sorted least most (c ∷ changes) t (suc i) (suc j) d le lt =
    sorted c.count most changes (first_of least most c changes t).1 i j d (omega arith) (omega arith)

-- ---- rises

pub rises_few : (value : ℕ → ℕ) (n : ℕ) → rises value n ≤ n
rises_few value zero = omega arith
rises_few value (suc n) = one_more (nat_lt (value n) (value (suc n))) (rises value n) n (rises_few value n)
  where
    one_more : (b : Bool) (r n : ℕ) → r ≤ n → r + (if b then 1 else 0) ≤ suc n
    one_more true r n le = omega arith
    one_more false r n le = omega arith

pub rises_same : (value other : ℕ → ℕ) (n : ℕ) → ((b : ℕ) → b ≤ n → value b ≡ other b) → rises value n ≡ rises other n
rises_same value other zero same = refl
rises_same value other (suc n) same =
    let rest = rises_same value other n (λ b le. same b (omega arith)) in
    ap (λ (r : ℕ). r + (if nat_lt (value n) (value (suc n)) then 1 else 0)) rest
    ∙ ap (λ (v : ℕ). rises other n + (if nat_lt v (value (suc n)) then 1 else 0)) (same n (omega arith))
    ∙ ap (λ (v : ℕ). rises other n + (if nat_lt (other n) v then 1 else 0)) (same (suc n) (omega arith))

-- ---- one retirement is noted

-- the changes that one more retirement leaves, with what they say up to it and at it
pub record Noted (noted known count : ℕ) (old new : List Change) : Type 0 where
  pub changes : AreChanges count known new
  pub before : (b : ℕ) → b ≤ noted → known_by 0 new b ≡ known_by 0 old b
  pub here : known_by 0 new count ≡ known

pub noted_more : (noted newest count known : ℕ) (changes : List Change) → count ≡ noted + 1 → newest < known →
    AreChanges noted newest changes →
    Noted noted known count changes (with_change changes count known)
noted_more noted newest count known changes next less before =
    record {
      changes = record {
        rising = rise_more 0 noted count known changes before.rising (omega arith);
        last =
            there;
        each = each;
      };
      before = same;
      here = there;
    }
  where
    new : List Change
    new = with_change changes count known

    there : known_by 0 new count ≡ known
    there = known_there 0 0 noted changes count known before.rising (omega arith)

    same : (b : ℕ) → b ≤ noted → known_by 0 new b ≡ known_by 0 changes b
    same b le = known_before 0 changes count known b (omega arith)

    one : (r x y : ℕ) → x < y → r + (if nat_lt x y then 1 else 0) ≡ r + 1
    one r x y lt = grind (arith, nat_tests)

    is_next : count ≡ suc noted
    is_next = omega arith

    less_there : known_by 0 new noted < known_by 0 new (suc noted)
    less_there = let a = same noted (omega arith) in let l = before.last in let t = there in let n =
        ap (known_by 0 new) is_next in omega arith

    each : rises (known_by 0 new) count ≡ length new
    each =
        ap (rises (known_by 0 new)) is_next
        ∙ one (rises (known_by 0 new) noted) (known_by 0 new noted) (known_by 0 new (suc noted)) less_there
        ∙ ap (λ (r : ℕ). r + 1) (rises_same (known_by 0 new) (known_by 0 changes) noted same ∙ before.each)
        ∙ sym (length-append changes (record { count = count; known = known } ∷ []))

pub noted_same : (noted newest count : ℕ) (changes : List Change) → count ≡ noted + 1 →
    AreChanges noted newest changes →
    Noted noted newest count changes changes
noted_same noted newest count changes next before =
    record {
      changes = record {
        rising = rise_later 0 noted count changes before.rising (omega arith);
        last = there;
        each =
            each;
      };
      before = λ b le. refl;
      here = there;
    }
  where
    there : known_by 0 changes count ≡ newest
    there = known_after 0 0 noted changes count before.rising (omega arith) ∙ before.last

    is_next : count ≡ suc noted
    is_next = omega arith

    none : (r x y : ℕ) → x ≡ y → r + (if nat_lt x y then 1 else 0) ≡ r
    none r x y e = grind (arith, nat_tests)

    each : rises (known_by 0 changes) count ≡ length changes
    each =
        ap (rises (known_by 0 changes)) is_next
        ∙ none (rises (known_by 0 changes) noted) (known_by 0 changes noted) (known_by 0 changes (suc noted))
        (before.last ∙ sym there
        ∙ ap (known_by 0 changes) is_next)
        ∙ before.each

-- ---- the search

-- the changes up to a count are the first ones, of which the last says how many are known
pub searched : (changes : List Change) (before count k : ℕ) (d : Change) →
    IsPartitionPoint (λ (c : Change). nat_le c.count count ≡ true) (λ (c : Change). nat_le c.count count ≡ false)
    changes k → k ≤ length changes →
    known_by before changes count ≡ (if nat_lt 0 k then (get_or changes (k - 1) d).known else before)
searched [] before count zero d point within = refl
searched [] before count (suc k) d point within = absurd (omega arith)
searched (c ∷ changes) before count zero d point within =
    cond-false (nat_le c.count count) (known_by c.known changes count) before (point.1 0 d (omega arith) (omega arith))
searched (c ∷ changes) before count (suc k) d point within =
    cond-true (nat_le c.count count) (known_by c.known changes count) before (point.0 0 d (omega arith) (omega arith))
    ∙ searched changes c.known count k d (
      λ i e le lt. point.0 (suc i) e (omega arith) (omega arith),
      λ i e le lt. point.1 (suc i) e (omega arith) (omega arith),
    ) (omega arith)
    ∙ shown k
  where
    shown : (n : ℕ) → (if nat_lt 0 n then (get_or changes (n - 1) d).known else c.known)
        ≡ (if nat_lt 0 (suc n) then (get_or (c ∷ changes) (suc n - 1) d).known else before)
    shown zero = refl
    shown (suc n) =
        let one : nat_lt 0 (suc n) ≡ true = grind (arith, nat_tests) in
        let two : nat_lt 0 (suc (suc n)) ≡ true = grind (arith, nat_tests) in
        let a : suc n - 1 ≡ n = omega arith in
        let b : suc (suc n) - 1 ≡ suc n = omega arith in
        cond-true (nat_lt 0 (suc n)) (get_or changes (suc n - 1) d).known c.known one
        ∙ ap (λ (i : ℕ). (get_or changes i d).known) a
        ∙ sym (ap (λ (i : ℕ). (get_or (c ∷ changes) i d).known) b)
        ∙ sym (cond-true (nat_lt 0 (suc (suc n))) (get_or (c ∷ changes) (suc (suc n) - 1) d).known before two)
