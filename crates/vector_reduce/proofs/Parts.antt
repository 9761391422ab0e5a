-- The sixth part: what is read is spelled so, and what is spelled is read again.
use Rattle.std.proofs.Common.{inl, inr, ◌≡◌, ℕ, ◌^◌, ◌<◌, ◌≤◌, zero, suc, List, [], ◌∷◌, ◌++◌}
use Rattle.std.proofs.Common.{length, get_or, Ok}
use Rattle.std.proofs.Common.{refl}
use Rattle.std.proofs.Common.{sym, ap, subst, ◌∙◌, append_assoc, arith}
use Rattle.std.specs.Prelude.{Result, slice_index}
use Rattle.std.proofs.lemmas.Bool.{cases_lt}
use Rattle.std.proofs.lemmas.List.{get_or_past}
use Rattle.std.proofs.lemmas.List.FromFn.{fill_by_all, take-map-range_with_len}
use Rattle.rtr_types.specs.declared.TheConstants.{CORES_MAX}
use Rattle.rtr_types.specs.declared.cut.Cut.{Cut}
use Rattle.race_log.specs.declared.recording.Recording.{Recording}
use Rattle.log_codec.specs.CoreCounts.{AreCounts, count_at, counts_at, counts_text}
use Rattle.log_codec.specs.Faults.{◌>>=◌}
use Rattle.log_codec.specs.Laws.{IsBytes}
use Rattle.log_codec.specs.Reading.{number_at}
use Rattle.log_codec.specs.Spelling.{number}
use Rattle.rtr_types.specs.Turns.{StandInTurn, stay, count_up}
use Rattle.log_codec.specs.Turns.{read_in_turn, spelled_in_turn, alike}
use Rattle.race_log.specs.Validity.{Valid}
use Rattle.log_codec.proofs.ReadingSteps.{bind_ok, ok_is, Takes, Takes-then}
use Rattle.log_codec.proofs.CoreCountLaws.{counts_again, counts_take}
use Rattle.log_codec.proofs.FieldLaws.{number_again, number_takes}
use Rattle.log_codec.proofs.InTurn.{turns_take, turns_again}
use Rattle.race_log.proofs.CountedEdges.{totals_small}
use Rattle.vector_reduce.specs.declared.thinned.Shown.{Shown}
use Rattle.vector_reduce.specs.declared.thinned.TheConstants.{SHOWN}
use Rattle.vector_reduce.specs.declared.thinned.Thinned.{Thinned}
use Rattle.vector_reduce.specs.Reading.{one_at, shown_in}
use Rattle.vector_reduce.specs.Spelling.{one_text, shown_text}
use Rattle.vector_reduce.specs.Validity.{IsThin, ShownStands, counts_of, cut_of}
use Rattle.vector_reduce.specs.Vectors.{vectors_of}

-- ---- the counts of a cut

-- the counts of a cut that is made of them
pub counts_back : (counts : List ℕ) → length counts ≤ CORES_MAX → counts_of (cut_of counts) ≡ counts
counts_back counts few =
    take-map-range_with_len (λ core. slice_index counts core) 0 CORES_MAX (length counts) few
    ∙ sym (fill_by_all (λ core. slice_index counts core) counts (length counts) 0 refl (λ k lt. refl))

-- ---- a number and a cut

abbrev shown_of : ℕ → List ℕ → Shown
shown_of edge counts = record { edge = edge; cut = cut_of counts }

one_takes : (totals : List ℕ) → length totals ≤ CORES_MAX →
    (s : Unit {0}) (bytes : List ℕ) (x : Shown) (rest : List ℕ) → IsBytes bytes →
    one_at totals s bytes ≡ Ok (x, rest) → Takes bytes (one_text x) rest × ShownStands totals s x
unfolding one_at
one_takes totals few s bytes x rest are e =
    let p = bind_ok (number_at SHOWN bytes)
    (λ edge. counts_at SHOWN totals edge.1 >>= λ counts. Ok (shown_of edge.0 counts.0, counts.1)) (x, rest) e in
    let q = bind_ok (counts_at SHOWN totals p.0.1) (λ counts. Ok (shown_of p.0.0 counts.0, counts.1)) (x, rest) p.2 in
    let t = number_takes SHOWN bytes p.0.0 p.0.1 are p.1 in
    let c = counts_take SHOWN totals p.0.1 q.0.0 q.0.1 t.0.rest_fits q.1 in
    let back : counts_of (cut_of q.0.0) ≡ q.0.0 = counts_back q.0.0 (let same = c.1.each_core in omega arith) in
    let both = Takes-then bytes (number p.0.0) p.0.1 (counts_text q.0.0) q.0.1 t.0 c.0 in
    let text : Takes bytes (one_text (shown_of p.0.0 q.0.0)) q.0.1 =
    subst (λ (counts : List ℕ). Takes bytes (number p.0.0 ++ counts_text counts) q.0.1) (sym back) both in
    let stands : ShownStands totals s (shown_of p.0.0 q.0.0) = record {
      edge = t.1;
      cut = ap cut_of (sym back);
      counts = subst (AreCounts totals) (sym back) c.1;
    } in
    subst (λ (y : Shown × List ℕ). Takes bytes (one_text y.0) y.1 × ShownStands totals s y.0)
    (ok_is (shown_of p.0.0 q.0.0, q.0.1) (x, rest) q.2)
    (text, stands)

shown_again_is : (x : Shown) → x.cut ≡ cut_of (counts_of x.cut) → shown_of x.edge (counts_of x.cut) ≡ x
shown_again_is x is = ap (λ (cut : Cut). made x.edge cut) (sym is)
  where
    made : ℕ → Cut → Shown
    made edge cut = record { edge = edge; cut = cut }

one_again : (totals : List ℕ) (s : Unit {0}) (x : Shown) (rest : List ℕ) → ((c : ℕ) → slice_index totals c < 2 ^ 32) →
    ShownStands totals s x →
    one_at totals s (one_text x ++ rest) ≡ Ok (x, rest)
unfolding one_at
one_again totals s x rest small h =
    let counts = counts_of x.cut in
    let c = counts_again SHOWN totals counts rest small h.counts in
    ap (one_at totals s) (append_assoc (number x.edge) (counts_text counts) rest)
    ∙ rw (number_again SHOWN x.edge (counts_text counts ++ rest) h.edge, c)
    (ap (λ (y : Shown). Ok (y, rest)) (shown_again_is x h.cut))

-- ---- one for each vector

pub shown_take : (r : Recording) (bytes : List ℕ) (shown : List Shown) (rest : List ℕ) → length r.totals ≤ CORES_MAX →
    IsBytes bytes →
    shown_in r bytes ≡ Ok (shown, rest) →
    Takes bytes (shown_text shown) rest × (length shown ≡ length (vectors_of r)) ×
    StandInTurn (ShownStands r.totals) stay tt shown
shown_take r bytes shown rest few are e =
    turns_take (one_at r.totals) stay (alike one_text) (ShownStands r.totals)
    (λ s b x d. one_takes r.totals few s b x d)
    (length (vectors_of r)) tt bytes shown rest
    are e

pub few_totals : (r : Recording) → Valid r → length r.totals ≤ CORES_MAX
few_totals r valid = let a = valid.each_core in let b = valid.params.cores in omega arith

pub shown_again : (r : Recording) (shown : List Shown) (rest : List ℕ) → Valid r →
    length shown ≡ length (vectors_of r) →
    StandInTurn (ShownStands r.totals) stay tt shown → shown_in r (shown_text shown ++ rest) ≡ Ok (shown, rest)
shown_again r shown rest valid each h =
    ap (λ (n : ℕ). read_in_turn (one_at r.totals) stay n tt
    (spelled_in_turn (alike one_text) stay (tt {0}) shown ++ rest)) (sym each)
    ∙ turns_again (one_at r.totals) stay (alike one_text) (ShownStands r.totals)
    (λ s x d stands. one_again r.totals s x d (totals_small r valid) stands) tt
    shown rest h

-- ---- loops

-- places of which the first are the counts and the others are 0
pub cut_made : (counts places : List ℕ) (last : ℕ) → length counts ≤ last → length places ≡ CORES_MAX →
    ((c : ℕ) → c < last → get_or places c 0 ≡ get_or counts c 0) → ((c : ℕ) → last ≤ c → get_or places c 0 ≡ 0) →
    ◌≡◌ {A = Cut} (record { cores = length counts; counts = places }) (cut_of counts)
cut_made counts places last past wide done rest =
    ap (λ (l : List ℕ). cut l) (fill_by_all (λ core. slice_index counts core) places CORES_MAX 0 wide each)
  where
    cut : List ℕ → Cut
    cut l = record { cores = length counts; counts = l }

    each : (k : ℕ) → k < CORES_MAX → get_or places k 0 ≡ slice_index counts k
    each k below = elim (cases_lt k last) [
      | inl inside ↦ done k (omega arith)
      | inr outside ↦ rest k (omega arith) ∙ sym (get_or_past counts k 0 (omega arith))
    ]

-- cuts have few cores
pub few_cores : (totals : List ℕ) (s : Unit {0}) (x : Shown) → length totals ≤ CORES_MAX → ShownStands totals s x →
    x.cut.cores ≤ CORES_MAX
few_cores totals s x few h =
    let cores : x.cut.cores ≡ length (counts_of x.cut) = ap (λ (c : Cut). c.cores) h.cut in
    let each = h.counts.each_core in
    omega arith

-- so many items are read
turn_length : {S X : Type 0} (item : S → List ℕ → Result (X × List ℕ) ℕ) (next : S → X → S) (n : ℕ) (s : S)
    (bytes : List ℕ) (xs : List X) (rest : List ℕ) →
    read_in_turn item next n s bytes ≡ Ok (xs, rest) → length xs ≡ n
unfolding read_in_turn
turn_length {S} {X} item next zero s bytes xs rest e =
    sym (ap (λ (y : List X × List ℕ). length y.0) (ok_is ([], bytes) (xs, rest) e))
turn_length {S} {X} item next (suc n) s bytes xs rest e =
    let a = bind_ok (item s bytes)
    (λ first. read_in_turn item next n (next s first.0) first.1 >>= λ others. Ok (first.0 ∷ others.0, others.1))
    (xs, rest) e in
    let b = bind_ok (read_in_turn item next n (next s a.0.0) a.0.1) (λ others. Ok (a.0.0 ∷ others.0, others.1))
    (xs, rest) a.2 in
    let more = turn_length item next n (next s a.0.0) a.0.1 b.0.0 b.0.1 b.1 in
    sym (ap (λ (y : List X × List ℕ). length y.0) (ok_is (a.0.0 ∷ b.0.0, b.0.1) (xs, rest) b.2)) ∙ ap suc more

pub few_counts : (totals bytes counts rest : List ℕ) → length totals ≤ CORES_MAX →
    counts_at SHOWN totals bytes ≡ Ok (counts, rest) → length counts ≤ CORES_MAX
few_counts totals bytes counts rest few e = let same =
    turn_length (count_at SHOWN totals) count_up (length totals) 0 bytes counts rest e in omega (arith, few, same)

stand_few : (totals : List ℕ) (shown : List Shown) → length totals ≤ CORES_MAX →
    StandInTurn (ShownStands totals) stay tt shown → (k : ℕ) (d : Shown) → k < length shown →
    (get_or shown k d).cut.cores ≤ CORES_MAX
stand_few totals [] few h k d lt = absurd (omega (arith, lt))
stand_few totals (s ∷ shown) few h zero d lt = few_cores totals tt s few h.0
stand_few totals (s ∷ shown) few h (suc k) d lt = stand_few totals shown few h.1 k d (omega (arith, lt))

pub shown_few : (t : Thinned) → IsThin t → (k : ℕ) (d : Shown) → k < length t.shown →
    (get_or t.shown k d).cut.cores ≤ CORES_MAX
shown_few t thin = stand_few t.recording.totals t.shown (few_totals t.recording thin.recording) thin.shown
