-- What thinning gives.
use Rattle.std.proofs.Common.{◌≡◌, ℕ, suc, ◌+◌, ◌<◌, ◌≤◌, ◌⊎◌, inl, inr, List, [], ◌∷◌, length, get_or, refl, sym, ap}
use Rattle.std.proofs.Common.{subst, ◌∙◌, arith}
use Rattle.std.specs.Prelude.{Bool, slice_index, slice_index_or, sum_by}
use Rattle.std.proofs.lemmas.Bool.{cases_lt}
use Rattle.std.proofs.lemmas.List.{get_or-take, get_or_past, length-take-le}
use Rattle.std.proofs.lemmas.List.FromFn.{fill_by_all}
use Rattle.rtr_types.specs.declared.TheConstants.{CORES_MAX}
use Rattle.rtr_types.specs.declared.cut.Cut.{Cut}
use Rattle.rtr_types.specs.declared.instr.Instr.{Instr}
use Rattle.rtr_types.specs.declared.instr.Edge.{Edge}
use Rattle.rtr_types.specs.declared.pairs.Which.TheVariants.{Regulated}
use Rattle.clock_core.specs.Order.{Among, Before}
use Rattle.clock_core.proofs.EdgeLists.{among_contains}
use Rattle.race_log.specs.declared.recording.Recording.{Recording}
use Rattle.race_log.specs.Sources.{EdgeWithin}
use Rattle.rtr_types.specs.Turns.{StandInTurn, stay}
use Rattle.race_log.specs.Validity.{Valid}
use Rattle.race_log.proofs.InTurn.{places-stand}
use Rattle.race_log.proofs.SourceLaws.{edges-within}
use Rattle.replay_audit.specs.Determinate.{IsDeterminate}
use Rattle.vector_reduce.specs.declared.pair_vector.PairVector.{PairVector}
use Rattle.vector_reduce.specs.declared.thinned.Shown.{Shown}
use Rattle.vector_reduce.specs.declared.thinned.Thinned.{Thinned}
use Rattle.rtr_types.specs.declared.pairs.Which.{Which}
use Rattle.stride_vector.specs.declared.StrideVector.{StrideVector}
use Rattle.replay_audit.specs.Audits.{Findings, PassesOf, Passed}
use Rattle.vector_reduce.specs.declared.answers.TheConstants.{POSITIONS_MAX, VECTORS_MAX}
use Rattle.vector_reduce.specs.declared.answers.ThinFault.{ThinFault}
use Rattle.vector_reduce.specs.declared.answers.ThinFault.TheVariants.{TooMany}
use Rattle.vector_reduce.specs.Answers.{AreFew, AreTooMany, HaveSameBefore, IsRefusedFor, IsThinningOf, ThinRefuses}
use Rattle.vector_reduce.specs.Cuts.{Holds, IsClosed, counts_in}
use Rattle.vector_reduce.specs.Kept.{IsKeptOf, IsLeftOf, IsShownLeft, kept}
use Rattle.vector_reduce.specs.Showing.{AreFormed, AreLeastShown, IsFormed, IsLeastShown, no_shown}
use Rattle.vector_reduce.specs.Thinning.{EachNeeded, IsThinned}
use Rattle.log_codec.specs.CoreCounts.{CountStands}
use Rattle.vector_reduce.specs.Validity.{IsThin, ShownStands, counts_of, cut_of}
use Rattle.vector_reduce.specs.Vectors.{edge_at, edges_in, edges_of_all, others_of, regulated_edges, vector_at}
use Rattle.vector_reduce.specs.Vectors.{vectors_of}
use Rattle.vector_reduce.proofs.Edges.{among_all, among_edge, others_among, vectors_are_the_log}
use Rattle.vector_reduce.proofs.KeptVectors.{kept_valid, kept_vectors, positions_small, vectors_counted}
use Rattle.vector_reduce.proofs.ThinningAnswers.{thinned_is_needed, thinned_is_same}
use Rattle.vector_reduce.proofs.Orders.{same_orders, still_determinate}
use Rattle.vector_reduce.proofs.Parts.{few_totals}

-- ---- the totals are a closed cut

abbrev total_of : Recording → ℕ → ℕ
total_of r core = slice_index r.totals core

edge_within : (r : Recording) (k : ℕ) (x y : Instr) → Valid r → k < length (vectors_of r) →
    Among (edges_in (vector_at (vectors_of r) k)) x y → EdgeWithin r x y
edge_within r k x y valid lt a =
    let all : Among (regulated_edges r) x y =
    subst (λ (es : List Edge). Among es x y) (vectors_are_the_log r) (among_all (vectors_of r) k x y lt a) in
    edges-within Regulated r x y valid (among_contains (regulated_edges r) x y all)

totals_closed : (r : Recording) (k : ℕ) → Valid r → IsClosed (edges_of_all (others_of (vectors_of r) k)) (total_of r)
totals_closed r k valid x y a h = let o = others_among (vectors_of r) k x y a in
    (edge_within r o.0 x y valid o.1 o.3).source_most

totals_hold : (r : Recording) (k i : ℕ) → Valid r → k < length (vectors_of r) →
    i < (vector_at (vectors_of r) k).vector.n →
    Holds (total_of r) (edge_at (vector_at (vectors_of r) k) i).to
totals_hold r k i valid lt within =
    let v = vector_at (vectors_of r) k in
    (edge_within r k (edge_at v i).from (edge_at v i).to valid lt (among_edge v i within)).target_most

-- so the least cut is at most the totals
at_most_totals : (r : Recording) (k : ℕ) (s : Shown) → Valid r → k < length (vectors_of r) →
    IsLeastShown (others_of (vectors_of r) k) (vector_at (vectors_of r) k) s → (core : ℕ) →
    counts_in s.cut core ≤ total_of r core
at_most_totals r k s valid lt least core =
    least.least.least (total_of r) (totals_hold r k s.edge valid lt least.shown.within) (totals_closed r k valid) core

-- ---- it can be spelled

shown_stands : (r : Recording) (k : ℕ) (s : Shown) → Valid r → k < length (vectors_of r) →
    IsFormed (length r.totals) s →
    IsLeastShown (others_of (vectors_of r) k) (vector_at (vectors_of r) k) s → ShownStands r.totals tt s
shown_stands r k s valid lt formed least = record {
  edge = let a = least.shown.within in let b = positions_small r k valid lt in omega (arith, a, b);
  cut = whole;
  counts = record {
    each_core = long ∙ formed.cores_is;
    most = places-stand (CountStands r.totals) 0 (counts_of s.cut) 0 stands;
  };
}
  where
    counts : List ℕ
    counts = s.cut.counts

    few : s.cut.cores ≤ CORES_MAX
    few = let a = formed.cores_is in let b = few_totals r valid in omega (arith, a, b)

    long : length (counts_of s.cut) ≡ s.cut.cores
    long = length-take-le s.cut.cores counts (let a = formed.places in omega (arith, a, few))

    most : (core : ℕ) → get_or counts core 0 ≤ total_of r core
    most core = at_most_totals r k s valid lt least core

    past : (core : ℕ) → length r.totals ≤ core → get_or counts core 0 ≡ 0
    past core le = let a = most core in let b = get_or_past r.totals core 0 le in omega (arith, a, b)

    each : (core : ℕ) → core < CORES_MAX → get_or counts core 0 ≡ slice_index (counts_of s.cut) core
    each core inside = elim (cases_lt core s.cut.cores) [
      | inl less ↦ sym (get_or-take s.cut.cores counts core 0 less)
      | inr more ↦ past core (let a = formed.cores_is in omega (arith, a, more))
          ∙ sym (get_or_past (counts_of s.cut) core 0 (omega (arith, long, more)))
    ]

    filled : counts ≡ (cut_of (counts_of s.cut)).counts
    filled = fill_by_all (λ core. slice_index (counts_of s.cut) core) counts CORES_MAX 0 formed.places each

    whole : s.cut ≡ cut_of (counts_of s.cut)
    whole = ap (λ (l : List ℕ). made s.cut.cores l) filled
        ∙ ap (λ (n : ℕ). made n (cut_of (counts_of s.cut)).counts) (sym long)
      where
        made : ℕ → List ℕ → Cut
        made n l = record { cores = n; counts = l }

    stands : (i : ℕ) → i < length (counts_of s.cut) → CountStands r.totals (0 + i) (get_or (counts_of s.cut) i 0)
    stands i inside =
        let here : 0 + i ≡ i = omega arith in
        let own = get_or-take s.cut.cores counts i 0 (omega (arith, inside, long)) in
        let le = most i in
        subst (λ (c : ℕ). CountStands r.totals c (get_or (counts_of s.cut) i 0)) (sym here) (omega (arith, own, le))

stand_all : (totals : List ℕ) (shown : List Shown) →
    ((k : ℕ) → k < length shown → ShownStands totals tt (slice_index_or shown k no_shown)) →
    StandInTurn (ShownStands totals) stay tt shown
stand_all totals [] each = tt
stand_all totals (s ∷ shown) each =
    (each 0 (omega arith), stand_all totals shown (λ k lt. each (suc k) (omega (arith, lt))))

pub thin_of : (t : Thinned) → Valid t.recording → AreLeastShown (vectors_of t.recording) t.shown →
    AreFormed (length t.recording.totals) t.shown → IsThin t
thin_of t valid least formed = record {
  recording = valid;
  each_vector = least.all;
  shown = stand_all t.recording.totals t.shown (λ k lt.
      let inside : k < length (vectors_of t.recording) = let a = least.all in omega (arith, lt, a) in
      shown_stands t.recording k (slice_index_or t.shown k no_shown) valid inside (formed k lt) (least.each k inside));
}

-- ---- it is a thinning

pub left_of_kept : (r s : Recording) (stays : List Bool) → Valid r → IsKeptOf r stays s →
    IsThinned (vectors_of r) (kept (vectors_of r) stays) → IsLeftOf r s
left_of_kept r s stays valid k t = record {
  valid = kept_valid r s stays valid k;
  rest = k.rest;
  vectors = subst (λ (l : List PairVector). IsThinned (vectors_of r) l) (sym (kept_vectors r s stays valid k)) t;
}

pub left_needed : (r s : Recording) → IsLeftOf r s → EachNeeded (vectors_of s)
left_needed r s l = thinned_is_needed (vectors_of r) (vectors_of s) l.vectors

same_before : (r s : Recording) → IsLeftOf r s → HaveSameBefore r s
same_before r s l x y =
    let both = thinned_is_same (vectors_of r) (vectors_of s) x y l.vectors in (
      λ b. subst (λ (es : List Edge). Before (Among es) x y) (vectors_are_the_log s)
          (both.0 (subst (λ (es : List Edge). Before (Among es) x y) (sym (vectors_are_the_log r)) b)),
      λ b. subst (λ (es : List Edge). Before (Among es) x y) (vectors_are_the_log r)
          (both.1 (subst (λ (es : List Edge). Before (Among es) x y) (sym (vectors_are_the_log s)) b)),
    )

pub thinning_of : (r : Recording) (t : Thinned) → Valid r → AreFew r → IsDeterminate Regulated r → IsShownLeft r t →
    IsThinningOf r t
thinning_of r t valid few d h =
    let before = same_before r t.recording h.left in
    record {
      few = few;
      thin = thin_of t h.left.valid h.least h.formed;
      rest = h.left.rest;
      vectors = h.left.vectors;
      same_before = before;
      same_orders = same_orders r t.recording valid h.left.valid h.left.rest before;
      needed = left_needed r t.recording h.left;
      shown = h.least;
      determinate = still_determinate r t.recording valid h.left.valid h.left.rest before d;
    }

-- few are never too many
pub few_not_many : (r : Recording) → AreFew r → AreTooMany r → ⊥
few_not_many r few (inl more) = let a = few.vectors in omega (arith, a, more)
few_not_many r few (inr more) = let a = few.positions in omega (arith, a, more)

pub determinate_of : (a : Findings) → a.which ≡ Regulated → PassesOf a → IsDeterminate Regulated a.recording
determinate_of a which p =
    let q : Passed Regulated a.recording a.outcome a.accesses =
    subst (λ (w : Which). Passed w a.recording a.outcome a.accesses) which p in
    q.determinate

pub refused_is : (r : Recording) (fault : ThinFault) → IsRefusedFor r fault → ThinRefuses r fault
refused_is r fault h = subst (λ (f : ThinFault). ThinRefuses r f) (sym h.1)
    (record { vectors_is = refl; edges_is = refl; too_many = h.0 })

-- ---- the counts

pub too_many : (r : Recording) (vectors edges : ℕ) → Valid r →
    vectors ≡ sum_by (λ (l : List StrideVector). length l) r.regulated →
    edges ≡ length (regulated_edges r) → (VECTORS_MAX < vectors) ⊎ (POSITIONS_MAX < edges) →
    IsRefusedFor r (TooMany vectors edges)
too_many r vectors edges valid v e more = let same = v ∙ sym (vectors_counted r valid) in (
  elim more [
    | inl h ↦ inl (omega (arith, h, same))
    | inr h ↦ inr (omega (arith, h, e))
  ],
  ap (λ (n : ℕ). TooMany n edges) same
      ∙ ap (λ (n : ℕ). TooMany (length (vectors_of r)) n) e,
)

pub few_enough : (r : Recording) (vectors edges : ℕ) → Valid r →
    vectors ≡ sum_by (λ (l : List StrideVector). length l) r.regulated →
    edges ≡ length (regulated_edges r) → vectors ≤ VECTORS_MAX → edges ≤ POSITIONS_MAX → AreFew r
few_enough r vectors edges valid v e few_v few_e = let same = v ∙ sym (vectors_counted r valid) in
    record { vectors = omega (arith, few_v, same); positions = omega (arith, few_e, e) }
