-- The first that fails.
use Rattle.std.proofs.Common.{inl, inr, ◌≡◌, ◌⊎◌, ℕ, zero, suc, ◌+◌, ◌-◌, ◌<◌, ◌≤◌, ◌^◌, List, [], ◌∷◌, ◌++◌, length}
use Rattle.std.proofs.Common.{get_or, refl, sym, ap, ◌∙◌}
use Rattle.std.proofs.Common.{subst, arith, take}
use Rattle.std.proofs.Common.{drop, true}
use Rattle.std.specs.Prelude.{slice_index}
use Rattle.std.proofs.Math.Seq.{split_at}
use Rattle.std.proofs.lemmas.List.{take_all, get_or_push, length_push}
use Rattle.std.proofs.lemmas.Bool.{cases_order}
use Rattle.rtr_types.specs.declared.instr.Instr.{Instr}
use Rattle.rtr_types.specs.declared.instr.Edge.{Edge}
use Rattle.rtr_types.specs.declared.pairs.Which.TheVariants.{Reduced}
use Rattle.clock_core.specs.Order.{Among}
use Rattle.clock_core.proofs.EdgeLists.{place_among}
use Rattle.race_log.specs.declared.recording.Recording.{Recording}
use Rattle.race_log.specs.Validity.{Valid}
use Rattle.clock_entries.specs.Ends.{instr, is_end, IsEnd, ends_to}
use Rattle.clock_entries.proofs.LastEntries.{ends_more, end_counts}
use Rattle.clock_entries.proofs.Numbers.{few, at_low, ends_rise, fronted, longer}
use Rattle.replay_audit.proofs.Logs.{recorded_log}
use Rattle.certificate_codec.specs.declared.certificate.Certificate.{Certificate}
use Rattle.certificate_codec.specs.Ends.{reduced_edges, IsWithin}
use Rattle.certificate_codec.proofs.Marks.{one_more}
use Rattle.min_certificate.specs.Places.{IsGoodIn, LeadsTo}
use Rattle.min_certificate.specs.Firsts.{FailsFirst, IsFirstBadOf, AreGoodOf}
use Rattle.min_certificate.proofs.CertifiedRecordings.{end_within}
use Rattle.replay_core.proofs.Sources.{edge_within}

-- ---- edges

abbrev pub no_edge : Edge
no_edge = record { from = record { core = 0; count = 0 }; to = record { core = 0; count = 0 } }

-- an edge of the log, with what its ends are
pub record EdgeStands (r : Recording) (x y : Instr) : Type 0 where
  pub leads : LeadsTo r x y
  pub source_within : IsWithin r x

pub edge_at : {r : Recording} {edges : List Edge} {i : ℕ} (d : Edge) → Valid r → edges ≡ reduced_edges r →
    i < length edges → EdgeStands r (get_or edges i d).from (get_or edges i d).to
edge_at {r} {edges} {i} d valid is lt =
    let a : Among (reduced_edges r) (get_or edges i d).from (get_or edges i d).to =
    subst (λ (l : List Edge). Among l (get_or edges i d).from (get_or edges i d).to) is (place_among edges i d lt) in
    let w = edge_within Reduced r (get_or edges i d).from (get_or edges i d).to valid a in
    record {
      leads = record {
        edge = a;
        within = record { core = w.pair.target; count = w.target_most };
        some = w.some_target;
      };
      source_within = record { core = w.pair.source; count = w.source_most };
    }

among_end : (front : List Edge) (e : Edge) (x y : Instr) → Among (front ++ e ∷ []) x y →
    Among front x y ⊎ ((e.from ≡ x) × (e.to ≡ y))
among_end [] e x y (inl p) = inr p
among_end [] e x y (inr a) = absurd a
among_end (f ∷ front) e x y (inl p) = inl (inl p)
among_end (f ∷ front) e x y (inr a) = on (among_end front e x y a)
  where
    on : Among front x y ⊎ ((e.from ≡ x) × (e.to ≡ y)) → Among (f ∷ front) x y ⊎ ((e.from ≡ x) × (e.to ≡ y))
    on (inl b) = inl (inr b)
    on (inr p) = inr p

pub holds_more : (P : Instr → Instr → Type 0) (edges : List Edge) (i : ℕ) (d : Edge) → i < length edges →
    ((x y : Instr) → Among (take i edges) x y → P x y) →
    P (get_or edges i d).from (get_or edges i d).to →
    (x y : Instr) → Among (take (i + 1) edges) x y → P x y
holds_more P edges i d lt before here x y a =
    by (among_end (take i edges) (get_or edges i d) x y
    (subst (λ (l : List Edge). Among l x y) (one_more edges i d lt) a))
  where
    by : Among (take i edges) x y ⊎ (((get_or edges i d).from ≡ x) × ((get_or edges i d).to ≡ y)) → P x y
    by (inl b) = before x y b
    by (inr p) = subst (λ (z : Instr). P z y) p.0 (subst (λ (z : Instr). P (get_or edges i d).from z) p.1 here)

pub fails_first : (P : Instr → Instr → Type 0) (edges : List Edge) (i : ℕ) (d : Edge) → i < length edges →
    ((x y : Instr) → Among (take i edges) x y → P x y) →
    (P (get_or edges i d).from (get_or edges i d).to → ⊥) →
    FailsFirst P edges (get_or edges i d)
fails_first P edges i d lt before fails =
    record {
      front = take i edges;
      rest = drop (suc i) edges;
      split = split_at edges i d lt;
      before = before;
      here =
          fails;
    }

pub holds_all : (P : Instr → Instr → Type 0) (edges : List Edge) (i : ℕ) → length edges ≤ i →
    ((x y : Instr) → Among (take i edges) x y → P x y) →
    (x y : Instr) → Among edges x y → P x y
holds_all P edges i past before x y a =
    before x y (subst (λ (l : List Edge). Among l x y) (sym (take_all i edges past)) a)

-- ---- entries

-- where an end stands in its core's list
pub record Placed (edges : List Edge) (c n m : ℕ) : Type 0 where
  pub place : ℕ
  pub within : place < length (ends_to edges c n)
  pub at : get_or (ends_to edges c n) place 0 ≡ m
  pub number : length (ends_to edges c m) ≡ place + 1

place_next : (edges : List Edge) (c n m : ℕ) → suc m ≤ n → is_end edges (instr c (suc m)) ≡ true →
    Placed edges c n (suc m)
place_next edges c n m le end = record {
  place = length (ends_to edges c m);
  within = let l = longer edges c (suc m) n le in let k = number in omega arith;
  at = fronted edges c (suc m) n (length (ends_to edges c m)) le (let k = number in omega arith)
      ∙ ap (λ (l : List ℕ). get_or l (length (ends_to edges c m)) 0) list
      ∙ get_or_push (ends_to edges c m) (suc m) 0 (length (ends_to edges c m)) refl;
  number = number;
}
  where
    list : ends_to edges c (suc m) ≡ ends_to edges c m ++ suc m ∷ []
    list = ends_more edges c m end

    number : length (ends_to edges c (suc m)) ≡ length (ends_to edges c m) + 1
    number = ap (λ (l : List ℕ). length l) list ∙ length_push (ends_to edges c m) (suc m)

pub place_of : (edges : List Edge) (c n m : ℕ) → m ≤ n → 1 ≤ m → is_end edges (instr c m) ≡ true → Placed edges c n m
place_of edges c n zero le pos end = absurd (omega arith)
place_of edges c n (suc m) le pos end = place_next edges c n m le end

-- an end's number is one more than its place
placed : (edges : List Edge) (c n k : ℕ) → k < length (ends_to edges c n) →
    length (ends_to edges c (get_or (ends_to edges c n) k 0)) ≡ k + 1
placed edges c n k lt = by (place_of edges c n (get_or (ends_to edges c n) k 0) low.1 low.0 low.2)
  where
    low : (1 ≤ get_or (ends_to edges c n) k 0) × (get_or (ends_to edges c n) k 0 ≤ n) ×
        (is_end edges (instr c (get_or (ends_to edges c n) k 0)) ≡ true)
    low = at_low edges c n k lt

    by : Placed edges c n (get_or (ends_to edges c n) k 0) →
        length (ends_to edges c (get_or (ends_to edges c n) k 0)) ≡ k + 1
    by p = on (cases_order k p.place)
      where
        on : (k ≡ p.place) ⊎ ((k < p.place) ⊎ (p.place < k)) →
            length (ends_to edges c (get_or (ends_to edges c n) k 0)) ≡ k + 1
        on (inr (inl a)) = let h = ends_rise edges c n k p.place a p.within in let e = p.at in absurd (omega arith)
        on (inr (inr a)) = let h = ends_rise edges c n p.place k a lt in let e = p.at in absurd (omega arith)
        on (inl e) = let q = p.number in omega arith

pub place_low : (r : Recording) (c k : ℕ) (list : List ℕ) →
    list ≡ ends_to (reduced_edges r) c (slice_index r.totals c) → k < length list →
    k + 1 ≤ get_or list k 0
place_low r c k list is lt =
    let p = placed (reduced_edges r) c (slice_index r.totals c) k (subst (λ (l : List ℕ). k < length l) is lt) in
    let m = few (reduced_edges r) c (get_or (ends_to (reduced_edges r) c (slice_index r.totals c)) k 0) in
    let f : get_or list k 0 ≡ get_or (ends_to (reduced_edges r) c (slice_index r.totals c)) k 0 =
    ap (λ (l : List ℕ). get_or l k 0) is in
    omega arith

-- an edge end of a core, of its list
pub record IsListed (r : Recording) (c k : ℕ) (list : List ℕ) : Type 0 where
  pub valid : Valid r
  pub core : c < r.params.cores
  pub is : list ≡ ends_to (reduced_edges r) c (slice_index r.totals c)
  pub lt : k < length list

-- an end's number, and the number before it
pub end_number : (r : Recording) (c k : ℕ) (list : List ℕ) → IsListed r c k list →
    length (ends_to (reduced_edges r) c (get_or list k 0)) ≡ k + 1
end_number r c k list h =
    ap (λ (l : List ℕ). length (ends_to (reduced_edges r) c (get_or l k 0))) h.is
    ∙ placed (reduced_edges r) c (slice_index r.totals c) k (subst (λ (l : List ℕ). k < length l) h.is h.lt)

pub number_before : (r : Recording) (c k : ℕ) (list : List ℕ) → IsListed r c k list →
    length (ends_to (reduced_edges r) c (get_or list k 0 - 1)) ≡ k
number_before r c k list h = by (get_or list k 0) low.0 low.2 (end_number r c k list h)
  where
    low : (1 ≤ get_or list k 0) × (get_or list k 0 ≤ slice_index r.totals c) ×
        (is_end (reduced_edges r) (instr c (get_or list k 0)) ≡ true)
    low = subst (λ (l : List ℕ). (1 ≤ get_or l k 0) × (get_or l k 0 ≤ slice_index r.totals c) ×
        (is_end (reduced_edges r) (instr c (get_or l k 0)) ≡ true))
        (sym h.is) (at_low (reduced_edges r) c (slice_index r.totals c) k
        (subst (λ (l : List ℕ). k < length l) h.is h.lt))

    by : (n : ℕ) → 1 ≤ n → is_end (reduced_edges r) (instr c n) ≡ true →
        length (ends_to (reduced_edges r) c n) ≡ k + 1 →
        length (ends_to (reduced_edges r) c (n - 1)) ≡ k
    by zero pos t e = absurd (omega arith)
    by (suc m) pos t e =
        let more = ap (λ (l : List ℕ). length l) (ends_more (reduced_edges r) c m t) in
        let one = length_push (ends_to (reduced_edges r) c m) (suc m) in
        let q : suc m - 1 ≡ m = omega arith in
        let same = ap (λ (j : ℕ). length (ends_to (reduced_edges r) c j)) q in
        omega arith

pub end_in_list : (r : Recording) (c k : ℕ) (list : List ℕ) → IsListed r c k list →
    IsWithin r (instr c (get_or list k 0)) × (1 ≤ get_or list k 0)
end_in_list r c k list h =
    let f : get_or list k 0 ≡ get_or (ends_to (reduced_edges r) c (slice_index r.totals c)) k 0 =
    ap (λ (l : List ℕ). get_or l k 0) h.is in
    let low = at_low (reduced_edges r) c (slice_index r.totals c) k (subst (λ (l : List ℕ). k < length l) h.is h.lt) in
    let one = low.0 in
    let most = low.1 in
    (record { core = h.core; count = omega arith }, omega arith)

pub number_fits : (r : Recording) (c k : ℕ) (list : List ℕ) → IsListed r c k list → k + 1 < 2 ^ 32
number_fits r c k list h =
    let most : slice_index r.totals c ≤ r.params.limit =
    h.valid.totals c 0 (let n = h.valid.each_core in let lt = h.core in omega arith) in
    let limit = h.valid.params.limit in
    let low = place_low r c k list h.is h.lt in
    let w = (end_in_list r c k list h).0.count in
    omega arith

-- what holds of the ends at all places before, of all ends before
before_place : (c : Certificate) (core k : ℕ) (list : List ℕ) → Valid c.recording →
    list ≡ ends_to (reduced_edges c.recording) core (slice_index c.recording.totals core) →
    ((j : ℕ) → j < k → IsGoodIn c (instr core (get_or list j 0))) →
    (n : ℕ) → IsEnd (reduced_edges c.recording) (instr core n) →
    ((j : ℕ) → j < length list → get_or list j 0 ≡ n → j < k) → IsGoodIn c (instr core n)
before_place c core k list valid is good n end early =
    let w = end_within c.recording (instr core n) valid end in
    let p = place_of (reduced_edges c.recording) core (slice_index c.recording.totals core) n w.count
    (end_counts (reduced_edges c.recording) (instr core n) (recorded_log Reduced c.recording valid) end) end in
    let at : get_or list p.place 0 ≡ n = ap (λ (l : List ℕ). get_or l p.place 0) is ∙ p.at in
    let lt : p.place < length list = subst (λ (l : List ℕ). p.place < length l) (sym is) p.within in
    subst (λ (j : ℕ). IsGoodIn c (instr core j)) at (good p.place (early p.place lt at))

pub bad_at : (c : Certificate) (core k number : ℕ) (list : List ℕ) → IsListed c.recording core k list → number ≡ k + 1 →
    ((j : ℕ) → j < k → IsGoodIn c (instr core (get_or list j 0))) → (IsGoodIn c (instr core (get_or list k 0)) → ⊥) →
    IsFirstBadOf c core number
bad_at c core k number list h num good bad = record {
  count = get_or list k 0;
  is_end = subst (λ (l : List ℕ). IsEnd (reduced_edges c.recording) (instr core (get_or l k 0))) (sym h.is)
      (at_low (reduced_edges c.recording) core (slice_index c.recording.totals core) k there).2;
  number_is = ap (λ (l : List ℕ). length (ends_to (reduced_edges c.recording) core (get_or l k 0))) h.is
      ∙ placed (reduced_edges c.recording) core (slice_index c.recording.totals core) k there ∙ sym num;
  bad = bad;
  before = λ n less end. before_place c core k list h.valid h.is good n end (λ j below at. earlier n j less below at);
}
  where
    there : k < length (ends_to (reduced_edges c.recording) core (slice_index c.recording.totals core))
    there = subst (λ (l : List ℕ). k < length l) h.is h.lt

    rise : (i j : ℕ) → i < j → j < length list → get_or list i 0 < get_or list j 0
    rise = subst (λ (l : List ℕ). (i j : ℕ) → i < j → j < length l → get_or l i 0 < get_or l j 0) (sym h.is)
        (ends_rise (reduced_edges c.recording) core (slice_index c.recording.totals core))

    earlier : (n j : ℕ) → n < get_or list k 0 → j < length list → get_or list j 0 ≡ n → j < k
    earlier n j less below at = by (cases_order j k)
      where
        by : (j ≡ k) ⊎ ((j < k) ⊎ (k < j)) → j < k
        by (inr (inl a)) = a
        by (inr (inr a)) = let g = rise k j a below in absurd (omega arith)
        by (inl s) = let g = ap (λ (i : ℕ). get_or list i 0) s in absurd (omega arith)

pub all_good : (c : Certificate) (core k : ℕ) (list : List ℕ) → Valid c.recording →
    list ≡ ends_to (reduced_edges c.recording) core (slice_index c.recording.totals core) → length list ≤ k →
    ((j : ℕ) → j < k → IsGoodIn c (instr core (get_or list j 0))) → AreGoodOf c core
all_good c core k list valid is past good n end =
    before_place c core k list valid is good n end (λ j below at. omega arith)

pub good_of_all : (c : Certificate) (cores : ℕ) → Valid c.recording → c.recording.params.cores ≤ cores →
    ((k : ℕ) → k < cores → AreGoodOf c k) → (x : Instr) →
    IsEnd (reduced_edges c.recording) x → IsGoodIn c x
good_of_all c cores valid most each x end =
    each x.core (let w = end_within c.recording x valid end in let lt = w.core in omega arith) x.count end
