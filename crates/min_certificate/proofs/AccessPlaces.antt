-- The place of each access.
use Rattle.std.proofs.Common.{inl, inr, ◌≡◌, ◌≢◌, ◌⊎◌, ◌↔◌, ℕ, zero, suc, ◌+◌, ◌-◌, ◌<◌, ◌≤◌, List, [], ◌∷◌, ◌++◌}
use Rattle.std.proofs.Common.{length, get_or, refl, sym, ap, ◌∙◌}
use Rattle.std.proofs.Common.{subst, arith}
use Rattle.std.proofs.Common.{false, Bool, take, drop, replicate, length-set, get_or-set_same, get_or-set_other}
use Rattle.std.proofs.Common.{Some, None, IsTrue}
use Rattle.std.specs.Prelude.{slice_set, slice_get, slice_index, Option}
use Rattle.std.proofs.Math.Seq.{take-suc}
use Rattle.std.proofs.lemmas.List.{get_or_default, get_or_past, get_or_append_left, get_or_push, length_push, take_all}
use Rattle.std.proofs.lemmas.List.{take-append-drop, length-take-le}
use Rattle.std.proofs.lemmas.Bool.{cases_eq, cases_lt}
use Rattle.rtr_types.specs.declared.instr.Instr.{Instr}
use Rattle.rtr_types.specs.declared.access.Access.{Access}
use Rattle.rtr_types.specs.declared.access.Kind.TheVariants.{Load}
use Rattle.clock_core.specs.Order.{Before, Among}
use Rattle.clock_core.proofs.Paths.{joined, one}
use Rattle.conflict_edge.specs.Conflicts.{StandsIn, Conflicts, ConflictPair, CountsRise}
use Rattle.conflict_edge.specs.Least.{Suffices}
use Rattle.conflict_edge.proofs.AccessPlaces.{one_first, positive, stands_which}
use Rattle.conflict_edge.proofs.ScanSteps.{stands_at}
use Rattle.conflict_edge.proofs.Next.{rise-left}
use Rattle.rtr_types.specs.declared.instr.Edge.{Edge}
use Rattle.rtr_types.proofs.Instrs.{instr_eq}
use Rattle.clock_entries.specs.Ends.{instr}
use Rattle.least_lists.specs.LeastLists.{AreOf}
use Rattle.min_certificate.specs.Conflicting.{BothConflict, AreIndexed, IsAccessAt, IsPlaceOf, IsPut}
use Rattle.min_certificate.specs.Conflicting.{place_in}

-- ---- accesses so far

abbrev pub row : List (List ℕ) → ℕ → List ℕ
row places c = get_or places c []

-- the places of the accesses so far: each row ends at its core's last access
pub record IndexedTo (cores : ℕ) (list : List Access) (places : List (List ℕ)) : Type 0 where
  pub all : length places ≡ cores
  pub each : (c n : ℕ) → IsPlaceOf list (instr c (suc n)) (slice_index (row places c) n)
  pub within : (a : Access) → StandsIn list a → a.at.count ≤ length (row places a.at.core)
  pub reached : (c : ℕ) → 1 ≤ length (row places c) → (a : Access) × StandsIn list a × (a.at.core ≡ c) ×
      (a.at.count ≡ length (row places c))

no_rows : (n c : ℕ) → get_or {A = List ℕ} (replicate n []) c [] ≡ []
no_rows zero c = refl
no_rows (suc n) zero = refl
no_rows (suc n) (suc c) = no_rows n c

row_count : (n : ℕ) → length {A = List ℕ} (replicate n []) ≡ n
row_count zero = refl
row_count (suc n) = let e = row_count n in omega arith

pub indexed_start : (cores : ℕ) (list : List Access) (places : List (List ℕ)) → list ≡ [] →
    places ≡ replicate cores [] → IndexedTo cores list places
indexed_start cores list places none is = record {
  all = ap (λ (l : List (List ℕ)). length l) is ∙ row_count cores;
  each = λ c n. subst (λ (k : ℕ). IsPlaceOf list (instr c (suc n)) k)
      (sym (ap (λ (l : List ℕ). slice_index l n) (empty c)))
      (λ a s e. nothing a s);
  within = λ a s. absurd (nothing a s);
  reached = λ c some. absurd (let e = ap (λ (l : List ℕ). length l) (empty c) in omega arith);
}
  where
    empty : (c : ℕ) → row places c ≡ []
    empty c = ap (λ (l : List (List ℕ)). get_or l c []) is ∙ no_rows cores c

    nothing : (a : Access) → StandsIn list a → ⊥
    nothing a s = subst (λ (l : List Access). StandsIn l a) none s

-- of two accesses at one core the later one has the greater count
pub rises_past : (list : List Access) (a b : Access) → CountsRise (list ++ a ∷ []) → StandsIn list b →
    b.at.core ≡ a.at.core → b.at.count < a.at.count
rises_past [] a b rise s e = absurd s
rises_past (x ∷ list) a b rise (inl p) e =
    subst (λ (z : Access). z.at.count < a.at.count) p (rise.1 a (last list a) (ap (λ (z : Access). z.at.core) p ∙ e))
  where
    last : (l : List Access) (z : Access) → StandsIn (l ++ z ∷ []) z
    last [] z = inl refl
    last (y ∷ l) z = inr (last l z)
rises_past (x ∷ list) a b rise (inr s) e = rises_past list a b rise.2 s e

pub stands_front : (list : List Access) (a b : Access) → StandsIn list b → StandsIn (list ++ a ∷ []) b
stands_front [] a b s = absurd s
stands_front (x ∷ list) a b (inl p) = inl p
stands_front (x ∷ list) a b (inr s) = inr (stands_front list a b s)

pub stands_last : (list : List Access) (a : Access) → StandsIn (list ++ a ∷ []) a
stands_last [] a = inl refl
stands_last (x ∷ list) a = inr (stands_last list a)

-- the row of the next access's core ends before its count
pub row_before : (cores : ℕ) (list : List Access) (a : Access) (places : List (List ℕ)) → IndexedTo cores list places →
    CountsRise (list ++ a ∷ []) →
    length (row places a.at.core) < a.at.count
row_before cores list a places h rise = by (cases_lt 0 (length (row places a.at.core)))
  where
    by : (0 < length (row places a.at.core)) ⊎ (length (row places a.at.core) ≤ 0) →
        length (row places a.at.core) < a.at.count
    by (inl some) =
        let b = h.reached a.at.core (omega arith) in
        let lt = rises_past list a b.0 rise b.1 b.2 in
        let e = b.3 in
        omega arith
    by (inr none) = let pos = positive (list ++ a ∷ []) a rise (stands_last list a) in omega arith

-- what is known of another place stays, with one access more
place_stays : (list : List Access) (a : Access) (x : Instr) (k : ℕ) → a.at ≢ x → IsPlaceOf list x k →
    IsPlaceOf (list ++ a ∷ []) x k
place_stays list a x zero ne h = λ b s e. by b e (stands_which list (a ∷ []) b s)
  where
    by : (b : Access) → b.at ≡ x → StandsIn list b ⊎ StandsIn (a ∷ []) b → ⊥
    by b e (inl t) = h b t e
    by b e (inr (inl p)) = ne (ap (λ (z : Access). z.at) p ∙ e)
    by b e (inr (inr t)) = t
place_stays list a x (suc k) ne h = (
  let l = length_push list a in let lt = h.0 in omega arith,
  λ d. subst (λ (z : Access). IsAccessAt (list ++ a ∷ []) x (Some z)) (sym (get_or_append_left list (a ∷ []) d k h.0))
      (there d),
)
  where
    there : (d : Access) → IsAccessAt (list ++ a ∷ []) x (Some (get_or list k d))
    there d = (
      stands_front list a (get_or list k d) (h.1 d).0,
      (h.1 d).1,
      λ b s e. by d b e (stands_which list (a ∷ []) b s),
    )
      where
        by : (d b : Access) → b.at ≡ x → StandsIn list b ⊎ StandsIn (a ∷ []) b → get_or list k d ≡ b
        by d b e (inl t) = (h.1 d).2 b t e
        by d b e (inr (inl p)) = absurd (ne (ap (λ (z : Access). z.at) p ∙ e))
        by d b e (inr (inr t)) = absurd t

-- the next access has the next place
place_next : (list : List Access) (a : Access) → CountsRise (list ++ a ∷ []) →
    IsPlaceOf (list ++ a ∷ []) a.at (suc (length list))
place_next list a rise = (
  let l = length_push list a in omega arith,
  λ d. subst (λ (z : Access). IsAccessAt (list ++ a ∷ []) a.at (Some z)) (sym (get_or_push list a d (length list) refl))
      (stands_last list a, refl, λ b s e. by b e (stands_which list (a ∷ []) b s)),
)
  where
    by : (b : Access) → b.at ≡ a.at → StandsIn list b ⊎ StandsIn (a ∷ []) b → a ≡ b
    by b e (inl t) =
        let lt = rises_past list a b rise t (ap (λ (x : Instr). x.core) e) in
        let same : b.at.count ≡ a.at.count = ap (λ (x : Instr). x.count) e in
        absurd (omega arith)
    by b e (inr (inl p)) = p
    by b e (inr (inr t)) = absurd t

-- no access so far is past its core's row
none_past : (cores : ℕ) (list : List Access) (places : List (List ℕ)) (c n : ℕ) → IndexedTo cores list places →
    length (row places c) ≤ n →
    IsPlaceOf list (instr c (suc n)) 0
none_past cores list places c n h past a s e =
    let core : a.at.core ≡ c = ap (λ (x : Instr). x.core) e in
    let count : a.at.count ≡ suc n = ap (λ (x : Instr). x.count) e in
    let le : a.at.count ≤ length (row places c) =
    subst (λ (k : ℕ). a.at.count ≤ length (row places k)) core (h.within a s) in
    omega arith

module _ (cores : ℕ) (list : List Access) (a : Access) (places : List (List ℕ)) (new : List ℕ)
    (h : IndexedTo cores list places)
    (rise : CountsRise (list ++ a ∷ [])) (core : a.at.core < cores)
    (put : IsPut (row places a.at.core) a.at.count (length list + 1) new) where
  inside : a.at.core < length places
  inside = let e = h.all in omega arith

  row_here : row (slice_set places a.at.core new) a.at.core ≡ new
  row_here = get_or-set_same places a.at.core new [] inside

  row_else : (c : ℕ) → c ≢ a.at.core → row (slice_set places a.at.core new) c ≡ row places c
  row_else c ne = get_or-set_other places a.at.core c new [] ne

  here : (n : ℕ) → IsPlaceOf (list ++ a ∷ []) (instr a.at.core (suc n)) (slice_index new n)
  here n = by (cases_lt n (length (row places a.at.core))) (cases_eq (suc n) a.at.count)
    where
      other : suc n ≢ a.at.count → a.at ≢ instr a.at.core (suc n)
      other ne e = ne (sym (ap (λ (x : Instr). x.count) e))

      by : (n < length (row places a.at.core)) ⊎ (length (row places a.at.core) ≤ n) →
          (suc n ≡ a.at.count) ⊎ (suc n ≢ a.at.count) →
          IsPlaceOf (list ++ a ∷ []) (instr a.at.core (suc n)) (slice_index new n)
      by was (inl e) =
          subst (λ (k : ℕ). IsPlaceOf (list ++ a ∷ []) (instr a.at.core (suc n)) k)
          (let one : suc (length list) ≡ length list + 1 = omega arith in one ∙ sym (put.here n (omega arith)))
          (subst (λ (x : Instr). IsPlaceOf (list ++ a ∷ []) x (suc (length list)))
          (instr_eq a.at (instr a.at.core (suc n)) refl (sym e)) (place_next list a rise))
      by (inl lt) (inr ne) =
          subst (λ (k : ℕ). IsPlaceOf (list ++ a ∷ []) (instr a.at.core (suc n)) k) (sym (put.before n lt))
          (place_stays list a (instr a.at.core (suc n)) _ (other ne) (h.each a.at.core n))
      by (inr past) (inr ne) =
          subst (λ (k : ℕ). IsPlaceOf (list ++ a ∷ []) (instr a.at.core (suc n)) k) (sym (none (cases_lt n a.at.count)))
          (place_stays list a (instr a.at.core (suc n)) 0 (other ne) (none_past cores list places a.at.core n h past))
        where
          none : (n < a.at.count) ⊎ (a.at.count ≤ n) → slice_index new n ≡ 0
          none (inl lt) = put.between n past (let e = ne in grind arith)
          none (inr le) = get_or_past new n 0 (let e = put.all in omega arith)

  pub indexed_more : IndexedTo cores (list ++ a ∷ []) (slice_set places a.at.core new)
  indexed_more = record {
    all = length-set places a.at.core new ∙ h.all;
    each = λ c n. each c n (cases_eq c a.at.core);
    within = λ b s. within b (stands_which list (a ∷ []) b s) (cases_eq b.at.core a.at.core);
    reached = λ c some. reached c some (cases_eq c a.at.core);
  }
    where
      each : (c n : ℕ) → (c ≡ a.at.core) ⊎ (c ≢ a.at.core) → IsPlaceOf (list ++ a ∷ []) (instr c (suc n)) (slice_index
          (row (slice_set places a.at.core new) c) n)
      each c n (inl e) =
          subst (λ (k : ℕ). IsPlaceOf (list ++ a ∷ []) (instr k (suc n))
          (slice_index (row (slice_set places a.at.core new) k) n)) (sym e)
          (subst (λ (l : List ℕ). IsPlaceOf (list ++ a ∷ []) (instr a.at.core (suc n)) (slice_index l n)) (sym row_here)
          (here n))
      each c n (inr ne) =
          subst (λ (l : List ℕ). IsPlaceOf (list ++ a ∷ []) (instr c (suc n)) (slice_index l n)) (sym (row_else c ne))
          (place_stays list a (instr c (suc n)) _ (λ e. ne (sym (ap (λ (x : Instr). x.core) e))) (h.each c n))

      within : (b : Access) → StandsIn list b ⊎ StandsIn (a ∷ []) b →
          (b.at.core ≡ a.at.core) ⊎ (b.at.core ≢ a.at.core) →
          b.at.count ≤ length (row (slice_set places a.at.core new) b.at.core)
      within b (inl t) (inl e) =
          subst (λ (k : ℕ). b.at.count ≤ length (row (slice_set places a.at.core new) k)) (sym e)
          (let l = ap (λ (r : List ℕ). length r) row_here in let m = put.all in let lt = rises_past list a b rise t e in
          omega arith)
      within b (inl t) (inr ne) = let l = ap (λ (r : List ℕ). length r) (row_else b.at.core ne) in let le =
          h.within b t in omega arith
      within b (inr (inl p)) c =
          subst (λ (z : Access). z.at.count ≤ length (row (slice_set places a.at.core new) z.at.core)) p
          (let l = ap (λ (r : List ℕ). length r) row_here in let m = put.all in omega arith)
      within b (inr (inr t)) c = absurd t

      reached : (c : ℕ) → 1 ≤ length (row (slice_set places a.at.core new) c) → (c ≡ a.at.core) ⊎ (c ≢ a.at.core) →
          (b : Access) × StandsIn (list ++ a ∷ []) b × (b.at.core ≡ c) ×
          (b.at.count ≡ length (row (slice_set places a.at.core new) c))
      reached c some (inl e) = (
        a,
        stands_last list a,
        sym e,
        subst (λ (k : ℕ). a.at.count ≡ length (row (slice_set places a.at.core new) k)) (sym e)
            (sym put.all ∙ ap (λ (r : List ℕ). length r) (sym row_here)),
      )
      reached c some (inr ne) =
          let l = ap (λ (r : List ℕ). length r) (row_else c ne) in
          let b = h.reached c (omega arith) in
          (b.0, stands_front list a b.0 b.1, b.2, b.3 ∙ sym l)

-- ---- as the code goes over them

-- what a step begins with
pub record IsStep (cores i : ℕ) (accesses : List Access) : Type 0 where
  pub cores_below : AreOf cores accesses
  pub rise : CountsRise accesses
  pub lt : i < length accesses

abbrev pub no_access : Access
no_access = record { at = record { core = 0; count = 0 }; word = 0; kind = Load; before = 0; after = 0 }

longer : (accesses : List Access) (i : ℕ) (d : Access) → i < length accesses →
    take (i + 1) accesses ≡ take i accesses ++ get_or accesses i d ∷ []
longer accesses i d lt = let e : i + 1 ≡ suc i = omega arith in
    ap (λ (k : ℕ). take k accesses) e ∙ take-suc accesses i d lt

taken_rises : (accesses : List Access) (i : ℕ) → CountsRise accesses → CountsRise (take i accesses)
taken_rises accesses i rise =
    rise-left (take i accesses) (drop i accesses) (subst CountsRise (sym (take-append-drop i accesses)) rise)

next_rises : (accesses : List Access) (i : ℕ) (d : Access) → i < length accesses → CountsRise accesses →
    CountsRise (take i accesses ++ get_or accesses i d ∷ [])
next_rises accesses i d lt rise = subst CountsRise (longer accesses i d lt) (taken_rises accesses (i + 1) rise)

pub core_inside : (cores i : ℕ) (accesses : List Access) (d : Access) → IsStep cores i accesses →
    (get_or accesses i d).at.core < cores
core_inside cores i accesses d s = s.cores_below (get_or accesses i d) (stands_at accesses i d s.lt)

pub core_below : (cores i len : ℕ) (accesses : List Access) (d : Access) (places : List (List ℕ)) →
    length places ≡ len → IsStep cores i accesses →
    IndexedTo cores (take i accesses) places → (get_or accesses i d).at.core < len
core_below cores i len accesses d places len_is s h = let c = core_inside cores i accesses d s in let e = h.all in
    omega arith

pub row_short : (cores i : ℕ) (accesses : List Access) (d : Access) (places : List (List ℕ)) (item : List ℕ) →
    IsStep cores i accesses →
    IndexedTo cores (take i accesses) places → item ≡ get_or places (get_or accesses i d).at.core item →
    length item < (get_or accesses i d).at.count
row_short cores i accesses d places item s h is =
    let a : item ≡ row places (get_or accesses i d).at.core =
    is ∙ get_or_default places (get_or accesses i d).at.core item []
    (let e = h.all in let c = core_inside cores i accesses d s in omega arith) in
    let l = ap (λ (r : List ℕ). length r) a in
    let lt = row_before cores (take i accesses) (get_or accesses i d) places h (next_rises accesses i d s.lt s.rise) in
    omega arith

pub indexed_on : (cores i : ℕ) (accesses : List Access) (d : Access) (places : List (List ℕ)) (item new : List ℕ) →
    IsStep cores i accesses →
    IndexedTo cores (take i accesses) places → item ≡ get_or places (get_or accesses i d).at.core item →
    IsPut item (get_or accesses i d).at.count (i + 1) new →
    IndexedTo cores (take (i + 1) accesses) (slice_set places (get_or accesses i d).at.core new)
indexed_on cores i accesses d places item new s h is put =
    subst (λ (l : List Access). IndexedTo cores l (slice_set places (get_or accesses i d).at.core new))
    (sym (longer accesses i d s.lt))
    (indexed_more cores (take i accesses) (get_or accesses i d) places new h (next_rises accesses i d s.lt s.rise)
    (core_inside cores i accesses d s)
    (subst (λ (l : List ℕ). IsPut l (get_or accesses i d).at.count (length (take i accesses) + 1) new) row_is
    (subst (λ (n : ℕ). IsPut item (get_or accesses i d).at.count (n + 1) new)
    (sym (length-take-le i accesses (let lt = s.lt in omega arith))) put)))
  where
    row_is : item ≡ row places (get_or accesses i d).at.core
    row_is = is ∙ get_or_default places (get_or accesses i d).at.core item []
        (let e = h.all in let c = core_inside cores i accesses d s in omega arith)

pub indexed_all : (cores i : ℕ) (accesses : List Access) (places : List (List ℕ)) → CountsRise accesses →
    length accesses ≤ i →
    IndexedTo cores (take i accesses) places → AreIndexed accesses places
indexed_all cores i accesses places rise past h =
    record {
      each = subst (λ (l : List Access). (c n : ℕ) → IsPlaceOf l (instr c (suc n)) (slice_index (row places c) n))
          (take_all i accesses past) h.each;
      some = λ a s. positive accesses a rise s;
    }

-- ---- an access looked up

pub placed_in : (list : List Access) (places : List (List ℕ)) (at : Instr) → AreIndexed list places →
    IsPlaceOf list at (place_in places at.core at.count)
placed_in list places at h = by at.count refl
  where
    by : (n : ℕ) → at.count ≡ n → IsPlaceOf list at (place_in places at.core n)
    by zero none = λ a s e. let some = h.some a s in let count : a.at.count ≡ at.count =
        ap (λ (x : Instr). x.count) e in omega arith
    by (suc n) is =
        subst (λ (x : Instr). IsPlaceOf list x (slice_index (row places at.core) n))
        (instr_eq (instr at.core (suc n)) at refl (sym is)) (h.each at.core n)

pub access_none : (list : List Access) (at : Instr) (k : ℕ) → IsPlaceOf list at k → k ≡ 0 → IsAccessAt list at None
access_none list at k h is = subst (λ (n : ℕ). IsPlaceOf list at n) is h

-- the access at the place
pub access_got : (list : List Access) (at : Instr) (k : ℕ) (o : Option Access) → IsPlaceOf list at k → k ≢ 0 →
    o ≡ slice_get list (k - 1) →
    IsAccessAt list at o
access_got list at zero o h ne is = absurd (ne refl)
access_got list at (suc k) o h ne is =
    let e : suc k - 1 ≡ k = omega arith in
    subst (λ (x : Option Access). IsAccessAt list at x)
    (sym (is ∙ ap (λ (n : ℕ). slice_get list n) e ∙ got list k no_access h.0)) (h.1 no_access)
  where
    got : (l : List Access) (n : ℕ) (d : Access) → n < length l → slice_get l n ≡ Some (get_or l n d)
    got [] n d lt = absurd (omega arith)
    got (x ∷ l) zero d lt = refl
    got (x ∷ l) (suc n) d lt = got l n d (omega arith)

-- ---- conflicts

pub both_conflict : (list : List Access) (x y : Instr) (a b : Access) (r : Bool) → IsAccessAt list x (Some a) →
    IsAccessAt list y (Some b) →
    (IsTrue r ↔ Conflicts a b) → IsTrue r ↔ BothConflict list x y
both_conflict list x y a b r at_x at_y test = ((λ t. (a, b, at_x.0, at_y.0, at_x.1, at_y.1, test.0 t)), back)
  where
    back : BothConflict list x y → IsTrue r
    back (c, d, s, t, e, f, k) =
        test.1 (subst (λ (z : Access). Conflicts z b) (sym (at_x.2 c s e))
        (subst (λ (z : Access). Conflicts c z) (sym (at_y.2 d t f)) k))

pub no_first : (list : List Access) (x y : Instr) → IsAccessAt list x None → IsTrue false ↔ BothConflict list x y
no_first list x y none = ((λ t. absurd (cc)), back)
  where
    back : BothConflict list x y → IsTrue false
    back (c, d, s, t, e, f, k) = absurd (none c s e)

pub no_second : (list : List Access) (x y : Instr) → IsAccessAt list y None → IsTrue false ↔ BothConflict list x y
no_second list x y none = ((λ t. absurd (cc)), back)
  where
    back : BothConflict list x y → IsTrue false
    back (c, d, s, t, e, f, k) = absurd (none d t f)

-- of an edge of a log that suffices and doesn't go round, the accesses conflict exactly where it is a conflict pair
pair_both : (list : List Access) (x y : Instr) → ConflictPair list x y → BothConflict list x y
pair_both [] x y p = absurd p
pair_both (a ∷ list) x y (inl p) = (a, p.1, inl refl, inr p.2, p.0, p.3, p.4)
pair_both (a ∷ list) x y (inr p) = let h = pair_both list x y p in (h.0, h.1, inr h.2, inr h.3, h.4, h.5, h.6)

pub conflict_is_pair : (list : List Access) (edges : List Edge) (x y : Instr) → Suffices list (Among edges) →
    ((u : Instr) → Before (Among edges) u u → ⊥) →
    Among edges x y → BothConflict list x y ↔ ConflictPair list x y
conflict_is_pair list edges x y suffices acyclic edge = (to, pair_both list x y)
  where
    to : BothConflict list x y → ConflictPair list x y
    to (a, b, s, t, e, f, k) = by (one_first list a b s t k)
      where
        by : ConflictPair list a.at b.at ⊎ ConflictPair list b.at a.at → ConflictPair list x y
        by (inl p) = subst (λ (z : Instr). ConflictPair list z y) e
            (subst (λ (z : Instr). ConflictPair list a.at z) f p)
        by (inr p) =
            let q : ConflictPair list y x =
            subst (λ (z : Instr). ConflictPair list z x) f (subst (λ (z : Instr). ConflictPair list b.at z) e p) in
            absurd (acyclic x (joined (Among edges) x y x (one (Among edges) x y (inr edge)) (suffices y x q)))
