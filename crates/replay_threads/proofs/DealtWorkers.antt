-- Workers that are dealt to groups, and seats that are taken back from them.
use Rattle.std.proofs.Common.{◌≡◌, ◌≢◌, ℕ, zero, suc, ◌+◌, ◌<◌, ◌%◌, eq-eqb, ne_eqb, Bool, cond, List, [], ◌∷◌, ◌++◌}
use Rattle.std.proofs.Common.{length, take}
use Rattle.std.proofs.Common.{drop, get_or, append-nil, refl, sym, ap, ◌∙◌, subst, arith}
use Rattle.std.specs.Prelude.{All, slice_get, slice_index, slice_index_or, Some}
use Rattle.std.specs.List.{range_with_len}
use Rattle.std.proofs.lemmas.List.{map-append, get_or_default}
use Rattle.std.proofs.lemmas.List.Elements.{All-append, All-nil}
use Rattle.std.proofs.lemmas.List.FromFn.{length-range_with_len, get_or-range_with_len}
use Rattle.std.proofs.lemmas.Option.{slice_get_within, get_or_from_slice_get}
use native.Mathlib.Decide.{ℕ_discrete}
use Rattle.atomic_table.specs.Seated.{TableId}
use Rattle.race_log.specs.declared.recording.Recording.{Recording}
use Rattle.replay_core.specs.Plans.{plan_of}
use Rattle.rtr_types.specs.declared.pairs.Which.{Which}
use Rattle.rtr_types.proofs.Lists.{cons-head, cons-rest}
use Rattle.replay_table.specs.Seats.{Sitting, Finished}
use Rattle.replay_threads.specs.Groups.{Grouped, no_group, members, workers_at, ids_of, AllAt, AreAt, AreGrouped}
use Rattle.replay_threads.specs.Groups.{AreKept, IsGivenTo, IsDone, AllDone, Turned}
use Rattle.replay_threads.specs.declared.groups.Stand.{Stand}

-- ---- lists

none-some : {X : Type 0} (x : X) (xs : List X) → x ∷ xs ≡ [] → ⊥
none-some x xs e = cc

last-nil : {X : Type 0} (xs : List X) (x : X) → xs ++ x ∷ [] ≡ [] → ⊥
last-nil [] x e = none-some x [] e
last-nil (y ∷ xs) x e = none-some y (xs ++ x ∷ []) e

last-same : {X : Type 0} (xs ys : List X) (x y : X) → xs ++ x ∷ [] ≡ ys ++ y ∷ [] → (xs ≡ ys) × (x ≡ y)
last-same [] [] x y e = (refl, cons-head x y [] [] e)
last-same [] (b ∷ ys) x y e = absurd (last-nil ys y (sym (cons-rest x b [] (ys ++ y ∷ []) e)))
last-same (a ∷ xs) [] x y e = absurd (last-nil xs x (cons-rest a y (xs ++ x ∷ []) [] e))
last-same (a ∷ xs) (b ∷ ys) x y e =
    let q = last-same xs ys x y (cons-rest a b (xs ++ x ∷ []) (ys ++ y ∷ []) e) in
    let h = cons-head a b (xs ++ x ∷ []) (ys ++ y ∷ []) e in
    (ap (λ (l : List _). a ∷ l) q.0 ∙ ap (λ (z : _). z ∷ ys) h, q.1)

all-one : {X : Type 0} (P : X → Type 0) (x : X) → P x → All P (x ∷ [])
all-one P x h zero d lt = h
all-one P x h (suc k) d lt = absurd (omega arith)

all-front : {X : Type 0} (P : X → Type 0) (xs : List X) (x : X) → All P (xs ++ x ∷ []) → All P xs
all-front P [] x h k d lt = absurd (omega arith)
all-front P (y ∷ xs) x h zero d lt = h zero d (omega arith)
all-front P (y ∷ xs) x h (suc k) d lt = all-front P xs x (λ i e below. h (suc i) e (omega arith)) k d (omega arith)

all-last : {X : Type 0} (P : X → Type 0) (xs : List X) (x : X) → All P (xs ++ x ∷ []) → P x
all-last P [] x h = h zero x (omega arith)
all-last P (y ∷ xs) x h = all-last P xs x (λ i e below. h (suc i) e (omega arith))

pub all_cons : {X : Type 0} (P : X → Type 0) (x : X) (xs : List X) → P x → All P xs → All P (x ∷ xs)
all_cons P x xs h rest zero d lt = h
all_cons P x xs h rest (suc k) d lt = rest k d (omega arith)

take-whole : {X : Type 0} (xs : List X) → take (length xs) xs ≡ xs
take-whole [] = refl
take-whole (x ∷ xs) = ap (λ (l : List _). x ∷ l) (take-whole xs)

drop-whole : {X : Type 0} (xs : List X) → drop (length xs) xs ≡ []
drop-whole [] = refl
drop-whole (x ∷ xs) = drop-whole xs

-- what a vector has after its slice was written
pub written : {X : Type 0} (n : ℕ) (new old : List X) → length new ≡ length old → n ≡ length old
    → take n (new ++ drop (length new) old) ≡ new
written n new old e m =
    ap (λ (k : ℕ). take n (new ++ drop k old)) e ∙ ap (λ (l : List _). take n (new ++ l)) (drop-whole old)
    ∙ ap (λ (l : List _). take n l) (append-nil new)
    ∙ ap (λ (k : ℕ). take k new) (m ∙ sym e) ∙ take-whole new

drop-suc : {X : Type 0} (n : ℕ) (xs : List X) → drop 1 (drop n xs) ≡ drop (suc n) xs
drop-suc zero xs = refl
drop-suc (suc n) [] = refl
drop-suc (suc n) (x ∷ xs) = drop-suc n xs

pub drop_next : {X : Type 0} (n m : ℕ) (xs : List X) → m ≡ n + 1 → drop 1 (drop n xs) ≡ drop m xs
drop_next n m xs e = let is : suc n ≡ m = omega arith in drop-suc n xs ∙ ap (λ (k : ℕ). drop k xs) is

pub first_get : {X : Type 0} (n : ℕ) (xs : List X) (x : X) → x ≡ slice_index_or (drop n xs) 0 x → n < length xs
    → slice_get xs n ≡ Some x
first_get n [] x e lt = absurd (omega arith)
first_get zero (y ∷ xs) x e lt = ap Some (sym e)
first_get (suc n) (y ∷ xs) x e lt = first_get n xs x e (omega arith)

pub range_more : (k core m n : ℕ) → core ≡ k + 1 → n ≡ suc m → k ∷ range_with_len core m ≡ range_with_len k n
range_more k core m n e is = ap (λ (c : ℕ). k ∷ range_with_len c m) e ∙ ap (λ (x : ℕ). range_with_len k x) (sym is)

-- ---- members

members-here : (n g c : ℕ) → c % n ≡ g → members n g (suc c) ≡ members n g c ++ c ∷ []
members-here n g c e = ap (λ (b : Bool). cond b (members n g c ++ c ∷ []) (members n g c)) (eq-eqb (c % n) g e)

members-else : (n g c : ℕ) → c % n ≢ g → members n g (suc c) ≡ members n g c
members-else n g c ne = ap (λ (b : Bool). cond b (members n g c ++ c ∷ []) (members n g c)) (ne_eqb (c % n) g ne)

-- ---- dealing

pub grouped_none : (n : ℕ) (groups : List Grouped) → length groups ≡ n → ((g : ℕ) → workers_at groups g ≡ [])
    → AreGrouped n 0 groups
grouped_none n groups all none = record { all = all; ids = λ g lt. ap ids_of (none g) }

pub at_none : (table : TableId) (groups : List Grouped) → ((g : ℕ) → workers_at groups g ≡ []) → AreAt table groups
at_none table groups none g lt = subst (λ (l : List Sitting). AllAt table l) (sym (none g))
    (All-nil (λ (x : Sitting). x.table_id ≡ table))

pub grouped_more : (n c m : ℕ) (old new : List Grouped) (x : Sitting) → AreGrouped n c old → IsGivenTo old (c % n) x
    new → x.core.id ≡ c → c % n < n →
    m ≡ c + 1 →
    AreGrouped n m new
grouped_more n c m old new x h given id within more =
    let is : m ≡ suc c = omega arith in
    subst (λ (k : ℕ). AreGrouped n k new) (sym is) (record {
      all = given.all ∙ h.all;
      ids = λ g lt. elim (ℕ_discrete (c % n) g) [
        | yes e ↦
            subst (λ (i : ℕ). ids_of (workers_at new i) ≡ members n i (suc c)) e
            (ap ids_of given.there ∙ map-append (λ (y : Sitting). y.core.id) (workers_at old (c % n)) (x ∷ [])
            ∙ ap (λ (l : List ℕ). l ++ x.core.id ∷ []) (h.ids (c % n) within)
            ∙ ap (λ (i : ℕ). members n (c % n) c ++ i ∷ []) id ∙ sym (members-here n (c % n) c refl))
        | no ne ↦ ap ids_of (given.others g (λ e. ne (sym e))) ∙ h.ids g lt ∙ sym (members-else n g c ne)
      ];
    })

pub at_more : (table : TableId) (to : ℕ) (old new : List Grouped) (x : Sitting) → AreAt table old → IsGivenTo old to x
    new → to < length old →
    x.table_id ≡ table → AreAt table new
at_more table to old new x h given within at g lt = elim (ℕ_discrete to g) [
  | yes e ↦
      subst (λ (i : ℕ). AllAt table (workers_at new i)) e
      (subst (λ (l : List Sitting). AllAt table l) (sym given.there)
      (All-append (λ (y : Sitting). y.table_id ≡ table) (workers_at old to) (x ∷ []) (h to within)
      (all-one (λ (y : Sitting). y.table_id ≡ table) x at)))
  | no ne ↦ let all = given.all in
      subst (λ (l : List Sitting). AllAt table l) (sym (given.others g (λ e. ne (sym e)))) (h g (omega arith))
]

-- ---- taking back

-- the worker of core c is the last of its group
pub record Taken (r : Recording) (n c : ℕ) (x : Sitting) (new : List Grouped) : Type 0 where
  pub grouped : AreGrouped n c new
  pub core : x.core.id ≡ c
  pub done : IsDone r x
  pub rest : AllDone r new

pub taken_last : (r : Recording) (n c m : ℕ) (old new : List Grouped) (x : Sitting) → AreGrouped n m old
    → AllDone r old → m ≡ c + 1 → c % n < n →
    IsGivenTo new (c % n) x old → Taken r n c x new
taken_last r n c m old new x h done more within given =
    let is : m ≡ suc c = omega arith in
    let g = c % n in
    let ids : ids_of (workers_at new g) ++ x.core.id ∷ [] ≡ members n g c ++ c ∷ [] =
    sym (map-append (λ (y : Sitting). y.core.id) (workers_at new g) (x ∷ [])) ∙ ap ids_of (sym given.there)
    ∙ h.ids g within
    ∙ ap (λ (k : ℕ). members n g k) is ∙ members-here n g c refl in
    let last = last-same (ids_of (workers_at new g)) (members n g c) x.core.id c ids in
    let all = h.all in
    let over : All (IsDone r) (workers_at new g ++ x ∷ []) = subst (λ (l : List Sitting). All (IsDone r) l)
    given.there (done g (omega arith)) in
    record {
      grouped = record {
        all = sym given.all ∙ h.all;
        ids = λ k lt. elim (ℕ_discrete (c % n) k) [
          | yes e ↦ subst (λ (i : ℕ). ids_of (workers_at new i) ≡ members n i c) e last.0
          | no ne ↦ ap ids_of (sym (given.others k (λ e. ne (sym e)))) ∙ h.ids k lt ∙ ap (λ (i : ℕ). members n k i) is
              ∙ members-else n k c ne
        ];
      };
      core = last.1;
      done = all-last (IsDone r) (workers_at new g) x over;
      rest = λ k lt. elim (ℕ_discrete (c % n) k) [
        | yes e ↦ subst (λ (i : ℕ). All (IsDone r) (workers_at new i)) e
            (all-front (IsDone r) (workers_at new g) x over)
        | no ne ↦ let s = given.all in
            subst (λ (l : List Sitting). All (IsDone r) l) (given.others k (λ e. ne (sym e))) (done k (omega arith))
      ];
    }

-- its table, and that of the others
pub at_less : (table : TableId) (from : ℕ) (old new : List Grouped) (x : Sitting) → AreAt table old
    → IsGivenTo new from x old → from < length old →
    AreAt table new × (x.table_id ≡ table)
at_less table from old new x h given within =
    let at : AllAt table (workers_at new from ++ x ∷ []) = subst (λ (l : List Sitting). AllAt table l) given.there
    (h from within) in (
      λ g lt. elim (ℕ_discrete from g) [
        | yes e ↦ subst (λ (i : ℕ). AllAt table (workers_at new i)) e
            (all-front (λ (y : Sitting). y.table_id ≡ table) (workers_at new from) x at)
        | no ne ↦ let s = given.all in subst (λ (l : List Sitting). AllAt table l) (given.others g (λ e. ne (sym e)))
            (h g (omega arith))
      ],
      all-last (λ (y : Sitting). y.table_id ≡ table) (workers_at new from) x at,
    )

-- a group of core c has a worker
pub some_last : (n c m : ℕ) (old : List Grouped) → AreGrouped n m old → m ≡ c + 1 → c % n < n → workers_at old (c % n)
    ≡ [] → ⊥
some_last n c m old h more within none =
    let is : m ≡ suc c = omega arith in
    last-nil (members n (c % n) c) c (sym (members-here n (c % n) c refl) ∙ ap (λ (k : ℕ). members n (c % n) k)
    (sym is) ∙ sym (h.ids (c % n) within)
    ∙ ap ids_of none)

-- ---- all seats

ids-at : (xs : List Sitting) (k : ℕ) (d : Sitting) → k < length xs → get_or (ids_of xs) k 0 ≡ (get_or xs k d).core.id
ids-at [] k d lt = absurd (omega arith)
ids-at (x ∷ xs) zero d lt = refl
ids-at (x ∷ xs) (suc k) d lt = ids-at xs k d (omega arith)

ids-length : (xs : List Sitting) → length (ids_of xs) ≡ length xs
ids-length [] = refl
ids-length (x ∷ xs) = ap suc (ids-length xs)

pub all_seats : (which : Which) (r : Recording) (table : TableId) (seats : List Sitting)
    → ids_of seats ≡ range_with_len 0 (length r.totals) →
    AllAt table seats →
    All (IsDone r) seats → Finished (plan_of which r) table seats
all_seats which r table seats ids at done = record {
  all = long;
  tables = λ k x e. let w = slice_get_within seats k x e in
      subst (λ (y : Sitting). y.table_id ≡ table) (get_or_from_slice_get seats k x x e) (at k x w);
  ids = λ k x e. id k x e;
  totals = λ k x e. let w = slice_get_within seats k x e in
      let d = subst (λ (y : Sitting). IsDone r y) (get_or_from_slice_get seats k x x e) (done k x w) in
      d.ended ∙ ap (λ (i : ℕ). slice_index r.totals i) (id k x e);
  rest = λ k x e. let w = slice_get_within seats k x e in
      (subst (λ (y : Sitting). IsDone r y) (get_or_from_slice_get seats k x x e) (done k x w)).rest;
}
  where
    long : length seats ≡ length r.totals
    long = sym (ids-length seats) ∙ ap (λ (l : List ℕ). length l) ids ∙ length-range_with_len 0 (length r.totals)

    id : (k : ℕ) (x : Sitting) → slice_get seats k ≡ Some x → x.core.id ≡ k
    id k x e =
        let w = slice_get_within seats k x e in
        let g = get_or_from_slice_get seats k x x e in
        let all = long in
        let there : 0 + k ≡ k = omega arith in
        sym (ap (λ (y : Sitting). y.core.id) g) ∙ sym (ids-at seats k x w) ∙ ap (λ (l : List ℕ). get_or l k 0) ids
        ∙ get_or-range_with_len 0 (length r.totals) k 0 (omega arith) ∙ there

-- ---- turns

pub ids_same : (xs ys : List Sitting) → length ys ≡ length xs →
    ((k : ℕ) (d : Sitting) → k < length ys → (slice_index_or ys k d).core.id ≡ (slice_index_or xs k d).core.id)
    → ids_of ys ≡ ids_of xs
ids_same [] [] e same = refl
ids_same (x ∷ xs) [] e same = absurd (omega arith)
ids_same [] (y ∷ ys) e same = absurd (omega arith)
ids_same (x ∷ xs) (y ∷ ys) e same =
    ap (λ (i : ℕ). i ∷ ids_of ys) (same 0 y (omega arith))
    ∙ ap (λ (l : List ℕ). x.core.id ∷ l) (ids_same xs ys (omega arith) (λ k d lt. same (suc k) d (omega arith)))

-- ---- rounds

pub kept_grouped : (table : TableId) (n c : ℕ) (old new : List Grouped) → AreGrouped n c old → AreKept table old new
    → AreGrouped n c new
kept_grouped table n c old new h kept = let all = h.all in
    record { all = kept.all ∙ h.all; ids = λ g lt. kept.ids g (omega arith) ∙ h.ids g lt }

pub kept_then : (table : TableId) (a b c : List Grouped) → AreKept table a b → AreKept table b c → AreKept table a c
kept_then table a b c h k = let all = h.all in
    record { all = k.all ∙ h.all; ids = λ g lt. k.ids g (omega arith) ∙ h.ids g lt; at = k.at }

-- where the workers of each group hold, by place, they hold by group
pub all_groups : (P : List Sitting → Type 0) (groups : List Grouped)
    → ((g : ℕ) → g < length groups → P (workers_at groups g)) → All (λ x. P x.workers) groups
all_groups P groups h k d lt = subst (λ (x : Grouped). P x.workers) (get_or_default groups k no_group d lt) (h k lt)

pub by_group : (P : List Sitting → Type 0) (groups : List Grouped) → All (λ x. P x.workers) groups → (g : ℕ)
    → g < length groups → P (workers_at groups g)
by_group P groups h g lt = h g no_group lt

-- ---- passes

-- one more turn of each worker of a group
pub turned_then : (which : Which) (r : Recording) (table : TableId) (xs ys zs : List Sitting) (one two : Stand)
    → Turned which r table xs one ys →
    Turned which r table ys two zs → Turned which r table xs two zs
turned_then which r table xs ys zs one two a b = record {
  ids = b.ids ∙ a.ids;
  tables = b.tables;
  ended = b.ended;
  unsure = b.unsure;
}
