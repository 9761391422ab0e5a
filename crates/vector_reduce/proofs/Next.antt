-- Steps of loops.
use Rattle.std.proofs.Common.{◌≡◌, ℕ, zero, suc, ◌+◌, ◌<◌, ◌≤◌, ◌⊎◌, inl, inr, List, [], ◌∷◌, ◌++◌, length, take, drop}
use Rattle.std.proofs.Common.{get_or, refl, sym, ap, subst, ◌∙◌}
use Rattle.std.proofs.Common.{true, false, nat_lt}
use Rattle.std.proofs.Common.{append_assoc, append-nil, arith}
use Rattle.std.specs.Prelude.{Bool, map, None, sum_by}
use Rattle.std.specs.List.{range_with_len}
use Rattle.std.proofs.lemmas.Bool.{cases_lt}
use Rattle.std.proofs.lemmas.Bool.Decides.{nat_tests}
use Rattle.std.proofs.lemmas.List.{drop_more, drop_all, length-drop}
use Rattle.std.proofs.lemmas.List.FromFn.{map-range_with_len_more}
use Rattle.std.proofs.lemmas.List.Sums.{sum_by-cons}
use Rattle.rtr_types.specs.declared.instr.Edge.{Edge}
use Rattle.vector_reduce.specs.declared.arrivals.Arrival.{Arrival}
use Rattle.vector_reduce.specs.declared.closing.Closing.{Closing}
use Rattle.vector_reduce.specs.declared.pair_vector.PairVector.{PairVector}
use Rattle.vector_reduce.specs.Arrivals.{AreInto, NextDue, arrival, arrival_at, arrival_of, counts_of, list_at}
use Rattle.vector_reduce.specs.Arrivals.{no_arrival, passed_of}
use Rattle.vector_reduce.specs.Kept.{is_beside, kept, kept_lists}
use Rattle.vector_reduce.specs.Vectors.{edge_at}
use Rattle.vector_reduce.proofs.KeptVectors.{kept_none}

-- ---- others

pub beside_at : (stays : List Bool) (n : ℕ) (d : Bool) → n < length stays → get_or stays n d ≡ is_beside stays n
beside_at [] n d lt = absurd (omega (arith, lt))
beside_at (c ∷ stays) zero d lt = refl
beside_at (c ∷ stays) (suc n) d lt = beside_at stays n d (omega (arith, lt))

shift : (m n : ℕ) → nat_lt (suc m) (suc n) ≡ nat_lt m n
shift m n = elim (cases_lt m n) [
  | inl less ↦
      let a : nat_lt m n ≡ true = grind (arith, nat_tests) in
      let b : nat_lt (suc m) (suc n) ≡ true = grind (arith, nat_tests) in
      b ∙ sym a
  | inr more ↦
      let a : nat_lt m n ≡ false = grind (arith, nat_tests) in
      let b : nat_lt (suc m) (suc n) ≡ false = grind (arith, nat_tests) in
      b ∙ sym a
]

pub beside_past : (stays : List Bool) (n : ℕ) → length stays ≤ n → nat_lt (length stays) n ≡ is_beside stays n
beside_past [] zero le = refl
beside_past [] (suc n) le = let some : nat_lt 0 (suc n) ≡ true = grind (arith, nat_tests) in some
beside_past (c ∷ stays) zero le = absurd (omega (arith, le))
beside_past (c ∷ stays) (suc n) le = shift (length stays) n ∙ beside_past stays n (omega (arith, le))

-- ---- arrivals

pub arrivals_more : (number : ℕ) (v : PairVector) (k : ℕ) (e : Edge) (init list new : List Arrival) →
    list ≡ init ++ map (arrival_of number v) (range_with_len 0 k) → e ≡ edge_at v k →
    new ≡ list ++ arrival e.from e.to.count number ∷ [] →
    new ≡ init ++ map (arrival_of number v) (range_with_len 0 (k + 1))
arrivals_more number v k e init list new list_is e_is new_is =
    new_is ∙ ap (λ (d : Edge). list ++ arrival d.from d.to.count number ∷ []) e_is
    ∙ ap (λ (l : List Arrival). l ++ arrival_of number v k ∷ []) list_is
    ∙ append_assoc init (map (arrival_of number v) (range_with_len 0 k)) (arrival_of number v k ∷ [])
    ∙ ap (λ (l : List Arrival). init ++ l) (sym (map-range_with_len_more (arrival_of number v) 0 k k (omega arith)))

-- the next arrival's target isn't in the cut, and no later one's is
pub not_due : (vs : List PairVector) (core : ℕ) (list : List Arrival) (s : Closing) (a : Arrival) →
    AreInto vs core list →
    a ≡ get_or list (passed_of s core) no_arrival → counts_of s core < a.count → NextDue list s core None
not_due vs core list s a into is less i from lt =
    let rise = into.rise (passed_of s core) i no_arrival from lt in
    let count : (arrival_at list (passed_of s core)).count ≡ a.count = ap (λ (b : Arrival). b.count) (sym is) in
    omega (arith, rise, count, less)

-- no core so far has one
pub more_none : (lists : List (List Arrival)) (s : Closing) (n : ℕ) →
    ((core : ℕ) → core < n → NextDue (list_at lists core) s core None) →
    NextDue (list_at lists n) s n None → (core : ℕ) → core < n + 1 → NextDue (list_at lists core) s core None
more_none lists s n before here core lt = by (split core n lt)
  where
    split : (i m : ℕ) → i < m + 1 → (i < m) ⊎ (i ≡ m)
    split i m h = grind arith

    by : (core < n) ⊎ (core ≡ n) → NextDue (list_at lists core) s core None
    by (inl less) = before core less
    by (inr e) = subst (λ (i : ℕ). NextDue (list_at lists i) s i None) (sym e) here

-- the list of one core more
pub more_into : (vs : List PairVector) (lists new : List (List Arrival)) (n : ℕ) (list : List Arrival) →
    length lists ≡ n → new ≡ lists ++ list ∷ [] →
    ((core : ℕ) → core < n → AreInto vs core (list_at lists core)) → AreInto vs n list → (core : ℕ) → core < n + 1 →
    AreInto vs core (list_at new core)
more_into vs lists new n list all is before here core lt =
    subst (λ (l : List (List Arrival)). AreInto vs core (list_at l core)) (sym is) (by (split core n lt))
  where
    split : (i m : ℕ) → i < m + 1 → (i < m) ⊎ (i ≡ m)
    split i m h = grind arith

    front : (ls : List (List Arrival)) (i : ℕ) → i < length ls → list_at (ls ++ list ∷ []) i ≡ list_at ls i
    front [] i less = absurd (omega (arith, less))
    front (l ∷ ls) zero less = refl
    front (l ∷ ls) (suc i) less = front ls i (omega (arith, less))

    last : (ls : List (List Arrival)) → list_at (ls ++ list ∷ []) (length ls) ≡ list
    last [] = refl
    last (l ∷ ls) = last ls

    by : (core < n) ⊎ (core ≡ n) → AreInto vs core (list_at (lists ++ list ∷ []) core)
    by (inl less) = subst (λ (l : List Arrival). AreInto vs core l) (sym (front lists core (omega (arith, less, all))))
        (before core less)
    by (inr e) =
        let place : core ≡ length lists = omega (arith, e, all) in
        let own : list_at (lists ++ list ∷ []) core ≡ list =
        ap (λ (i : ℕ). list_at (lists ++ list ∷ []) i) place ∙ last lists in
        subst (λ (l : List Arrival). AreInto vs core l) (sym own) (subst (λ (i : ℕ). AreInto vs i list) (sym e) here)

-- ---- what is kept

kept_longer : {X : Type 0} (xs : List X) (stays : List Bool) (k : ℕ) (d : X) (e : Bool) → k < length xs →
    length xs ≤ length stays →
    kept xs (take (k + 1) stays) ≡ kept xs (take k stays) ++ kept (get_or xs k d ∷ []) (get_or stays k e ∷ [])
kept_longer {X} [] stays k d e lt le = absurd (omega (arith, lt))
kept_longer {X} (x ∷ xs) [] k d e lt le = absurd (omega (arith, le))
kept_longer {X} (x ∷ xs) (true ∷ stays) zero d e lt le = ap (λ (l : List X). x ∷ l) (kept_none xs)
kept_longer {X} (x ∷ xs) (false ∷ stays) zero d e lt le = kept_none xs
kept_longer {X} (x ∷ xs) (true ∷ stays) (suc k) d e lt le =
    let same : suc k + 1 ≡ suc (k + 1) = omega arith in
    ap (λ (n : ℕ). kept (x ∷ xs) (take n (true ∷ stays))) same
    ∙ ap (λ (l : List X). x ∷ l) (kept_longer xs stays k d e (omega (arith, lt)) (omega (arith, le)))
kept_longer {X} (x ∷ xs) (false ∷ stays) (suc k) d e lt le =
    let same : suc k + 1 ≡ suc (k + 1) = omega arith in
    ap (λ (n : ℕ). kept (x ∷ xs) (take n (false ∷ stays))) same
    ∙ kept_longer xs stays k d e (omega (arith, lt)) (omega (arith, le))

pub kept_yes : {X : Type 0} (xs : List X) (stays : List Bool) (k : ℕ) (d : X) (e : Bool) (list new : List X) →
    k < length xs → length xs ≤ length stays →
    get_or stays k e ≡ true → list ≡ kept xs (take k stays) → new ≡ list ++ get_or xs k d ∷ [] →
    new ≡ kept xs (take (k + 1) stays)
kept_yes {X} xs stays k d e list new lt le answer list_is new_is =
    new_is ∙ ap (λ (l : List X). l ++ get_or xs k d ∷ []) list_is
    ∙ sym (kept_longer xs stays k d e lt le
    ∙ ap (λ (b : Bool). kept xs (take k stays) ++ kept (get_or xs k d ∷ []) (b ∷ [])) answer)

pub kept_no : {X : Type 0} (xs : List X) (stays : List Bool) (k : ℕ) (d : X) (e : Bool) (list : List X) →
    k < length xs → length xs ≤ length stays →
    get_or stays k e ≡ false → list ≡ kept xs (take k stays) → list ≡ kept xs (take (k + 1) stays)
kept_no {X} xs stays k d e list lt le answer list_is =
    list_is ∙ sym (append-nil (kept xs (take k stays)))
    ∙ sym (kept_longer xs stays k d e lt le
    ∙ ap (λ (b : Bool). kept xs (take k stays) ++ kept (get_or xs k d ∷ []) (b ∷ [])) answer)

pub kept_enough : {X : Type 0} (xs : List X) (stays : List Bool) (k : ℕ) → length xs ≤ k →
    kept xs (take k stays) ≡ kept xs stays
kept_enough {X} [] stays k le = refl
kept_enough {X} (x ∷ xs) stays zero le = absurd (omega (arith, le))
kept_enough {X} (x ∷ xs) [] (suc k) le = refl
kept_enough {X} (x ∷ xs) (true ∷ stays) (suc k) le =
    ap (λ (l : List X). x ∷ l) (kept_enough xs stays k (omega (arith, le)))
kept_enough {X} (x ∷ xs) (false ∷ stays) (suc k) le = kept_enough xs stays k (omega (arith, le))

-- ---- and of lists

-- what is done, and what is left to do
pub record Keeps {X : Type 0} (lists : List (List X)) (stays : List Bool) (k : ℕ) (left : List (List X))
    (rest : List Bool) : Type 0 where
  pub done : left ++ kept_lists (drop k lists) rest ≡ kept_lists lists stays
  pub room : length rest ≡ sum_by (λ (l : List X). length l) (drop k lists)

pub keeps_first : {X : Type 0} (lists : List (List X)) (stays : List Bool) →
    length stays ≡ sum_by (λ (l : List X). length l) lists →
    Keeps lists stays 0 [] stays
keeps_first lists stays room = record { done = refl; room = room }

pub keeps_room : {X : Type 0} (lists : List (List X)) (stays : List Bool) (k : ℕ) (d : List X) (left : List (List X))
    (rest : List Bool) → k < length lists →
    Keeps lists stays k left rest → length (get_or lists k d) ≤ length rest
keeps_room {X} lists stays k d left rest lt h =
    let split = ap (λ (l : List (List X)). sum_by (λ (m : List X). length m) l) (drop_more lists k d lt) in
    let sum = sum_by-cons (λ (m : List X). length m) (get_or lists k d) (drop (k + 1) lists) in
    let room = h.room in
    omega (arith, split, sum, room)

pub keeps_more : {X : Type 0} (lists : List (List X)) (stays : List Bool) (k : ℕ) (d : List X) (left : List (List X))
    (rest : List Bool) → k < length lists →
    Keeps lists stays k left rest →
    Keeps lists stays (k + 1) (left ++ kept (get_or lists k d) rest ∷ []) (drop (length (get_or lists k d)) rest)
keeps_more {X} lists stays k d left rest lt h = record {
  done =
      append_assoc left (kept (get_or lists k d) rest ∷ [])
      (kept_lists (drop (k + 1) lists) (drop (length (get_or lists k d)) rest))
      ∙ sym (ap (λ (l : List (List X)). left ++ kept_lists l rest) (drop_more lists k d lt)) ∙ h.done;
  room =
      let split = ap (λ (l : List (List X)). sum_by (λ (m : List X). length m) l) (drop_more lists k d lt) in
      let sum = sum_by-cons (λ (m : List X). length m) (get_or lists k d) (drop (k + 1) lists) in
      let room = h.room in
      let long = length-drop (length (get_or lists k d)) rest in
      omega (arith, split, sum, room, long);
}

pub keeps_all : {X : Type 0} (lists : List (List X)) (stays : List Bool) (k : ℕ) (left : List (List X))
    (rest : List Bool) → length lists ≤ k →
    Keeps lists stays k left rest → left ≡ kept_lists lists stays
keeps_all {X} lists stays k left rest past h =
    sym (append-nil left) ∙ sym (ap (λ (l : List (List X)). left ++ kept_lists l rest) (drop_all k lists past)) ∙ h.done

pub kept_first : {X : Type 0} (xs : List X) (stays : List Bool) (list : List X) → list ≡ [] →
    list ≡ kept xs (take 0 stays)
kept_first xs stays list is = is ∙ sym (kept_none xs)

pub keeps_next : {X : Type 0} (lists : List (List X)) (stays : List Bool) (k : ℕ) (left : List (List X))
    (rest : List Bool) (list : List X)
    (own after : List Bool) (item : List X) (new : List (List X)) → k < length lists → list ≡ get_or lists k [] →
    own ≡ take (length list) rest →
    after ≡ drop (length list) rest → item ≡ kept list own → new ≡ left ++ item ∷ [] → Keeps lists stays k left rest →
    Keeps lists stays (k + 1) new after
keeps_next {X} lists stays k left rest list own after item new lt list_is own_is after_is item_is new_is h =
    subst (λ (n : List (List X)). Keeps lists stays (k + 1) n after)
    (sym (new_is ∙ ap (λ (i : List X). left ++ i ∷ []) same))
    (subst (λ (r : List Bool). Keeps lists stays (k + 1) (left ++ kept (get_or lists k []) rest ∷ []) r)
    (sym (after_is ∙ ap (λ (l : List X). drop (length l) rest) list_is)) (keeps_more lists stays k [] left rest lt h))
  where
    same : item ≡ kept (get_or lists k []) rest
    same = item_is ∙ ap (λ (o : List Bool). kept list o) own_is ∙ kept_enough list rest (length list) (omega arith)
        ∙ ap (λ (l : List X). kept l rest) list_is
