-- A recording has one thinning, with one cut for each vector that is left.
use Rattle.std.proofs.Common.{◌≡◌, ◌≢◌, ◌∙◌, ℕ, zero, suc, ◌+◌, ◌<◌, ◌≤◌, ◌⊎◌, ◌==◌, Bool, true, false, List, []}
use Rattle.std.proofs.Common.{◌∷◌, ◌++◌, length, map, inl, inr}
use Rattle.std.proofs.Common.{get_or, refl, sym, ap, subst, arith}
use Rattle.std.specs.Prelude.{if◌then◌else◌, slice_index}
use Rattle.std.specs.List.{flat_map, range_with_len}
use Rattle.std.proofs.lemmas.Bool.{cases_eq, cases_lt, cases_order}
use Rattle.std.proofs.lemmas.Bool.Decides.{nat_tests}
use Rattle.std.proofs.lemmas.Grind.{flat_map-append}
use Rattle.std.proofs.lemmas.List.{append-nil, length-map}
use Rattle.std.proofs.lemmas.List.FromFn.{length-range_with_len}
use Rattle.rtr_types.specs.Pairs.{pair_count, pair_place, source_at, target_at}
use Rattle.rtr_types.specs.declared.cut.Cut.{Cut}
use Rattle.rtr_types.specs.declared.instr.Instr.{Instr}
use Rattle.rtr_types.specs.declared.params.Params.{Params}
use Rattle.rtr_types.proofs.PairPlaces.{places-paired}
use Rattle.rtr_types.proofs.Ranges.{range_more}
use Rattle.stride_vector.specs.declared.StrideVector.{StrideVector}
use Rattle.race_log.specs.Validity.{Valid}
use Rattle.race_log.specs.declared.recording.Recording.{Recording}
use Rattle.vector_reduce.specs.Answers.{IsThinningOf}
use Rattle.vector_reduce.specs.Cuts.{counts_in}
use Rattle.vector_reduce.specs.Showing.{EachLeastShown, IsLeastShown, no_shown}
use Rattle.vector_reduce.specs.Validity.{IsThin, ShownStands, counts_of, cut_of}
use Rattle.vector_reduce.specs.Vectors.{edge_at, edges_of_all, led_between, others_of, pair_vectors, vector_at}
use Rattle.vector_reduce.specs.Vectors.{vectors_of}
use Rattle.vector_reduce.specs.declared.pair_vector.PairVector.{PairVector}
use Rattle.vector_reduce.specs.declared.thinned.Shown.{Shown}
use Rattle.vector_reduce.specs.declared.thinned.Thinned.{Thinned}
use Rattle.vector_reduce.proofs.ClosedCuts.{cut_shows}
use Rattle.vector_reduce.proofs.ThinningAnswers.{one_thinning}
use Rattle.rtr_cli.proofs.ItemLists.{each_stands, same_items}

-- ---- the vectors of a pair, out of all

of_place : (cores place : ℕ) → List PairVector → List StrideVector
of_place cores place [] = []
of_place cores place (v ∷ vs) =
    if pair_place cores v.from v.to == place then v.vector ∷ of_place cores place vs else of_place cores place vs

of_both : (cores place : ℕ) (xs ys : List PairVector) → of_place cores place (xs ++ ys)
    ≡ of_place cores place xs ++ of_place cores place ys
unfolding of_place
of_both cores place [] ys = refl
of_both cores place (v ∷ xs) ys = by (pair_place cores v.from v.to == place) (of_both cores place xs ys)
  where
    by : (b : Bool) → of_place cores place (xs ++ ys) ≡ of_place cores place xs ++ of_place cores place ys
        → (if b then v.vector ∷ of_place cores place (xs ++ ys) else of_place cores place (xs ++ ys))
        ≡ (if b then v.vector ∷ of_place cores place xs else of_place cores place xs) ++ of_place cores place ys
    by true rest = ap (λ l. v.vector ∷ l) rest
    by false rest = rest

-- those of a pair have its place, and no other
of_own : (cores place : ℕ) (vs : List StrideVector) → place < pair_count cores
    → of_place cores place (map (led_between (source_at cores place) (target_at cores place)) vs) ≡ vs
unfolding of_place
of_own cores place [] lt = refl
of_own cores place (v ∷ vs) lt =
    let at = (places-paired cores place lt).1 in
    let test : (pair_place cores (source_at cores place) (target_at cores place) == place)
    ≡ true = grind (arith, nat_tests) in
    rw test (ap (λ l. v ∷ l) (of_own cores place vs lt))

of_other : (cores place other : ℕ) (vs : List StrideVector) → other < pair_count cores → other ≢ place
    → of_place cores place (map (led_between (source_at cores other) (target_at cores other)) vs) ≡ []
unfolding of_place
of_other cores place other [] lt apart = refl
of_other cores place other (v ∷ vs) lt apart =
    let at = (places-paired cores other lt).1 in
    let test : (pair_place cores (source_at cores other) (target_at cores other) == place)
    ≡ false = grind (arith, nat_tests) in
    rw test (of_other cores place other vs lt apart)

module _ (r : Recording) where
  abbrev some_pairs : ℕ → List PairVector
  some_pairs n = flat_map (pair_vectors r) (range_with_len 0 n)

  one_pair : (n : ℕ) → flat_map (pair_vectors r) (range_with_len 0 (n + 1))
      ≡ flat_map (pair_vectors r) (range_with_len 0 n) ++ pair_vectors r n
  one_pair n =
      ap (flat_map (pair_vectors r)) (range_more n) ∙ flat_map-append (pair_vectors r) (range_with_len 0 n) (n ∷ [])
      ∙ ap (λ l. flat_map (pair_vectors r) (range_with_len 0 n) ++ l) (append-nil (pair_vectors r n))

  -- none of them stands before its pair
  of_before : (place n : ℕ) → n ≤ place → n ≤ pair_count r.params.cores
      → of_place r.params.cores place (some_pairs n) ≡ []
  unfolding of_place
  of_before place zero le within = refl
  of_before place (suc n) le within =
      let more : suc n ≡ n + 1 = omega arith in
      ap (λ k. of_place r.params.cores place (some_pairs k)) more ∙ ap (of_place r.params.cores place) (one_pair n)
      ∙ of_both r.params.cores place (some_pairs n) (pair_vectors r n)
      ∙ ap (λ l. l ++ of_place r.params.cores place (pair_vectors r n)) (of_before place n (omega arith) (omega arith))
      ∙ of_other r.params.cores place n (get_or r.regulated n []) (omega arith) (λ e. absurd (omega arith))

  of_past : (place n : ℕ) → place < n → n ≤ pair_count r.params.cores
      → of_place r.params.cores place (some_pairs n) ≡ get_or r.regulated place []
  of_past place zero lt within = absurd (omega arith)
  of_past place (suc n) lt within =
      let more : suc n ≡ n + 1 = omega arith in
      ap (λ k. of_place r.params.cores place (some_pairs k)) more ∙ ap (of_place r.params.cores place) (one_pair n)
      ∙ of_both r.params.cores place (some_pairs n) (pair_vectors r n)
      ∙ by (cases_eq place n) (λ below. of_past place n below (omega arith))
    where
      by : (place ≡ n) ⊎ (place ≢ n) → (place < n → of_place r.params.cores place (some_pairs n)
          ≡ get_or r.regulated place [])
          → of_place r.params.cores place (some_pairs n) ++ of_place r.params.cores place (pair_vectors r n)
          ≡ get_or r.regulated place []
      by (inl same) before =
          subst (λ k. of_place r.params.cores k (some_pairs n) ++ of_place r.params.cores k (pair_vectors r n)
          ≡ get_or r.regulated k []) (sym same)
          (ap (λ l. l ++ of_place r.params.cores n (pair_vectors r n)) (of_before n n (omega arith) (omega arith))
          ∙ of_own r.params.cores n (get_or r.regulated n []) (omega arith))
      by (inr apart) before =
          ap (λ l. of_place r.params.cores place (some_pairs n) ++ l)
          (of_other r.params.cores place n (get_or r.regulated n []) (omega arith) (λ e. apart (sym e)))
          ∙ append-nil (of_place r.params.cores place (some_pairs n)) ∙ before (omega (arith, lt, apart))

  of_all : (place : ℕ) → place < pair_count r.params.cores → of_place r.params.cores place (vectors_of r)
      ≡ get_or r.regulated place []
  unfolding vectors_of
  of_all place lt = of_past place (pair_count r.params.cores) lt (omega arith)

-- so recordings with the same vectors have the same regulated log
one_log : (r s : Recording) → Valid r → Valid s → r.params ≡ s.params → vectors_of r ≡ vectors_of s → r.regulated
    ≡ s.regulated
one_log r s valid also params vectors =
    same_items [] r.regulated s.regulated (valid.each_regulated ∙ ap (λ (p : Params). pair_count p.cores) params
    ∙ sym also.each_regulated) each
  where
    each : (place : ℕ) → place < length r.regulated → get_or r.regulated place [] ≡ get_or s.regulated place []
    each place lt =
        let count = valid.each_regulated in
        let within : place < pair_count r.params.cores = omega arith in
        let cores = ap (λ (p : Params). p.cores) params in
        sym (of_all r place within) ∙ ap (of_place r.params.cores place) vectors
        ∙ ap (λ n. of_place n place (vectors_of s)) cores
        ∙ of_all s place (subst (λ (p : Params). place < pair_count p.cores) params within)

-- ---- what shows that a vector is needed

-- the first edge that the others don't imply is one
not_before : (others : List PairVector) (v : PairVector) (s t : Shown) → IsLeastShown others v s
    → IsLeastShown others v t → s.edge < t.edge → ⊥
not_before others v s t h k lt =
    cut_shows (edges_of_all others) (counts_in s.cut) (edge_at v s.edge).from (edge_at v s.edge).to h.shown.closed
    h.shown.target h.shown.source
    (k.first s.edge lt)

one_edge : (others : List PairVector) (v : PairVector) (s t : Shown) → IsLeastShown others v s
    → IsLeastShown others v t → s.edge ≡ t.edge
one_edge others v s t h k = by (cases_order s.edge t.edge)
  where
    by : (s.edge ≡ t.edge) ⊎ ((s.edge < t.edge) ⊎ (t.edge < s.edge)) → s.edge ≡ t.edge
    by (inl same) = same
    by (inr (inl lt)) = absurd (not_before others v s t h k lt)
    by (inr (inr lt)) = absurd (not_before others v t s k h lt)

-- and so is the least cut
below : (others : List PairVector) (v : PairVector) (s t : Shown) → IsLeastShown others v s
    → IsLeastShown others v t → (core : ℕ)
    → counts_in s.cut core ≤ counts_in t.cut core
below others v s t h k core =
    let same = one_edge others v s t h k in
    h.least.least (counts_in t.cut)
    (subst (λ (n : ℕ). (edge_at v n).to.count ≤ counts_in t.cut (edge_at v n).to.core) (sym same) k.shown.target)
    k.shown.closed core

-- of cuts that can be spelled
one_shown : (others : List PairVector) (v : PairVector) (totals : List ℕ) (s t : Shown) → IsLeastShown others v s
    → IsLeastShown others v t
    → ShownStands totals tt s → ShownStands totals tt t → s ≡ t
one_shown others v totals s t h k a b =
    ap (λ n. made n s.cut.cores s.cut.counts) (one_edge others v s t h k) ∙ ap (λ n. made t.edge n s.cut.counts) cores
    ∙ ap (λ l. made t.edge t.cut.cores l) counts
  where
    made : (edge cores : ℕ) → List ℕ → Shown
    made edge cores counts = record { edge = edge; cut = record { cores = cores; counts = counts } }

    cores : s.cut.cores ≡ t.cut.cores
    cores = ap (λ (c : Cut). c.cores) a.cut ∙ a.counts.each_core ∙ sym b.counts.each_core
        ∙ sym (ap (λ (c : Cut). c.cores) b.cut)

    long : (x : Shown) → ShownStands totals tt x → length x.cut.counts ≡ length (cut_of []).counts
    long x stands = ap (λ (c : Cut). length c.counts) stands.cut ∙ lengths (counts_of x.cut)
      where
        lengths : (counts : List ℕ) → length (cut_of counts).counts ≡ length (cut_of []).counts
        lengths counts = search (length-map, length-range_with_len)

    counts : s.cut.counts ≡ t.cut.counts
    counts = same_items 0 s.cut.counts t.cut.counts (long s a ∙ sym (long t b))
        (λ i lt. let up = below others v s t h k i in let down = below others v t s k h i in omega arith)

-- ---- the recording and what is shown

one_recording : (r : Recording) (t u : Thinned) → IsThinningOf r t → IsThinningOf r u → t.recording ≡ u.recording
one_recording r t u made also =
    let params = made.rest.params ∙ sym also.rest.params in
    let vectors = one_thinning (vectors_of r) (vectors_of t.recording) (vectors_of u.recording) made.vectors
    also.vectors in
    let log = one_log t.recording u.recording made.thin.recording also.thin.recording params vectors in
    ap (λ p. of_parts p t.recording.image t.recording.totals t.recording.reduced t.recording.regulated) params
    ∙ ap (λ i. of_parts u.recording.params i t.recording.totals t.recording.reduced t.recording.regulated)
    (made.rest.image ∙ sym also.rest.image)
    ∙ ap (λ n. of_parts u.recording.params u.recording.image n t.recording.reduced t.recording.regulated)
    (made.rest.totals ∙ sym also.rest.totals)
    ∙ ap (λ e. of_parts u.recording.params u.recording.image u.recording.totals e t.recording.regulated)
    (made.rest.reduced ∙ sym also.rest.reduced)
    ∙ ap (λ v. of_parts u.recording.params u.recording.image u.recording.totals u.recording.reduced v) log
  where
    of_parts : Params → List ℕ → List ℕ → List (List (ℕ × ℕ)) → List (List StrideVector) → Recording
    of_parts params image totals reduced regulated =
        record { params = params; image = image; totals = totals; reduced = reduced; regulated = regulated }

-- what shows the vectors of one recording
one_showing : (q : Recording) (first second : List Shown) → IsThin (record { recording = q; shown = first })
    → IsThin (record { recording = q; shown = second })
    → EachLeastShown (record { recording = q; shown = first })
    → EachLeastShown (record { recording = q; shown = second }) → first ≡ second
one_showing q first second a b h k = same_items no_shown first second (h.all ∙ sym k.all) each
  where
    each : (i : ℕ) → i < length first → get_or first i no_shown ≡ get_or second i no_shown
    each i lt =
        let all = h.all in
        let others = k.all in
        one_shown (others_of (vectors_of q) i) (vector_at (vectors_of q) i) q.totals (get_or first i no_shown) (get_or
        second i no_shown)
        (h.each i (omega arith)) (k.each i (omega arith))
        (each_stands (ShownStands q.totals tt) first a.shown i no_shown lt)
        (each_stands (ShownStands q.totals tt) second b.shown i no_shown (omega arith))

pub one_thinned : (r : Recording) (t u : Thinned) → IsThinningOf r t → IsThinningOf r u → t ≡ u
one_thinned r t u made also =
    let same = one_recording r t u made also in
    let thin : IsThin (record { recording = u.recording; shown = t.shown }) =
    subst (λ (q : Recording). IsThin (record { recording = q; shown = t.shown })) same made.thin in
    let shown : EachLeastShown (record { recording = u.recording; shown = t.shown }) =
    subst (λ (q : Recording). EachLeastShown (record { recording = q; shown = t.shown })) same made.shown in
    ap (λ (q : Recording). with_shown q t.shown) same
    ∙ ap (λ (l : List Shown). with_shown u.recording l) (one_showing u.recording t.shown u.shown thin also.thin shown
    also.shown)
  where
    with_shown : Recording → List Shown → Thinned
    with_shown q l = record { recording = q; shown = l }
