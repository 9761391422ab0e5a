-- The lowest core that is ready goes on.
use Rattle.std.proofs.Common.{inl, inr, ◌≡◌, ◌⊎◌, ℕ, ◌+◌, ◌-◌, ◌<◌, ◌≤◌, true, List, length, refl, sym, ap, ◌∙◌}
use Rattle.std.proofs.Common.{subst, arith, get_or-set_same}
use Rattle.std.specs.Prelude.{slice_index, slice_set, Some}
use Rattle.std.proofs.lemmas.Bool.{cases_lt}
use Rattle.std.proofs.lemmas.List.{set-get_or}
use Rattle.rtr_types.specs.declared.TheConstants.{CORES_MAX}
use Rattle.rtr_types.proofs.Ranges.{zero_at}
use Rattle.rtr_types.specs.declared.instr.Edge.{Edge}
use Rattle.clock_core.specs.Counts.{no_counts}
use Rattle.clock_core.proofs.EdgeLists.{contains_among}
use Rattle.replay_core.specs.Play.{instr}
use Rattle.replay_core.specs.Orders.{Sourced, is_ready, lowest_ready}
use Rattle.replay_core.specs.Sources.{AreSources}
use Rattle.replay_core.specs.Tallies.{AreAwaited, IsRun, Tallied, count_of}
use Rattle.replay_core.proofs.LowestReady.{lowest_here, lowest_still}
use Rattle.replay_core.proofs.Ready.{ready_is, within_sourced}

-- core c has gone on to the count k
abbrev pub gone_to : Tallied → (c k : ℕ) → Tallied
gone_to t c k = record { plan = t.plan; counts = slice_set t.counts c k }

-- an instruction without sources waits for nothing
unsourced : (edges : List Edge) (f : ℕ → ℕ) (c n : ℕ) → AreSources edges (instr c n) no_counts → Sourced edges f c n
unsourced edges f c n are = within_sourced edges f c n (λ from has.
    let count = are.each from (contains_among edges from (instr c n) has) in
    let zero = zero_at CORES_MAX from.core in
    omega arith)

module _ (t : Tallied) (c : ℕ) (inside : c < length t.plan.totals) (place : c < length t.counts)
    (below : count_of t.counts c < slice_index t.plan.totals c)
    (low : lowest_ready t.plan (count_of t.counts) ≡ Some c)
    (until : List ℕ) (awaited : AreAwaited t c until) (u : ℕ) (least : count_of t.counts c + 1 ≤ u)
    (most : count_of t.counts c + 1 < u → (u ≤ slice_index t.plan.totals c) × (u ≤ slice_index until c))
    (free : (k : ℕ) → count_of t.counts c + 1 < k → k ≤ u → AreSources t.plan.edges (instr c k) no_counts) where
  module _ (k : ℕ) (up : count_of t.counts c < k) (before : k < u) where
    here : count_of (gone_to t c k).counts c ≡ k
    here = get_or-set_same t.counts c k 0 place

    ready_on : is_ready t.plan (count_of (gone_to t c k).counts) c ≡ true
    ready_on = ready_is t.plan (count_of (gone_to t c k).counts) c (record {
      inside = inside;
      below = let h = here in let m = (most (omega arith)).0 in omega arith;
      sourced = unsourced t.plan.edges (count_of (gone_to t c k).counts) c (count_of (gone_to t c k).counts c + 1)
          (subst (λ (n : ℕ). AreSources t.plan.edges (instr c (n + 1)) no_counts) (sym here)
          (free (k + 1) (omega arith) (omega arith)));
    })

    lowest_on : lowest_ready t.plan (count_of (gone_to t c k).counts) ≡ Some c
    lowest_on =
        let h = here in
        let m = (most (omega arith)).1 in
        sym (lowest_here t.plan (count_of (gone_to t c k).counts) c (length t.plan.totals - c) (omega arith) ready_on
        ∙ lowest_still t (gone_to t c k) c k until refl refl here (omega arith) awaited (omega arith))

  pub run_is : IsRun t c u
  run_is = record {
    more = omega arith;
    within = within (cases_lt (count_of t.counts c + 1) u);
    lowest = λ k le before. lowest k before (cases_lt (count_of t.counts c) k) le;
    free = free;
  }
    where
      within : (count_of t.counts c + 1 < u) ⊎ (u ≤ count_of t.counts c + 1) → u ≤ slice_index t.plan.totals c
      within (inl lt) = (most lt).0
      within (inr le) = omega arith

      lowest : (k : ℕ) → k < u → (count_of t.counts c < k) ⊎ (k ≤ count_of t.counts c) → count_of t.counts c ≤ k →
          lowest_ready t.plan (count_of (slice_set t.counts c k)) ≡ Some c
      lowest k before (inl up) le = lowest_on k up before
      lowest k before (inr down) le =
          let same : count_of t.counts c ≡ k = omega arith in
          subst (λ (n : ℕ). lowest_ready t.plan (count_of (slice_set t.counts c n)) ≡ Some c) same
          (ap (λ (l : List ℕ). lowest_ready t.plan (count_of l)) (set-get_or t.counts c 0) ∙ low)
