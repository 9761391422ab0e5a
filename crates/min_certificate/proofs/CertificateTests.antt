-- The tests of a certificate tell its good and exact entries and its needed edges.
use Rattle.std.proofs.Common.{inl, inr, ◌≡◌, ◌≢◌, ◌⊎◌, ℕ, zero, suc, ◌+◌, ◌<◌, ◌≤◌, List, [], ◌∷◌, length, get_or, true}
use Rattle.std.proofs.Common.{sym, ap, ◌∙◌, subst, arith}
use Rattle.std.specs.Prelude.{slice_index}
use Rattle.std.proofs.lemmas.Bool.{cases_lt, cases_eq}
use Rattle.std.proofs.lemmas.List.{get_or_past}
use Rattle.std.proofs.lemmas.List.Elements.{All-get_or}
use Rattle.rtr_types.specs.declared.instr.Instr.{Instr}
use Rattle.rtr_types.specs.declared.pairs.Which.TheVariants.{Reduced}
use Rattle.clock_core.specs.Order.{Among}
use Rattle.clock_core.specs.Reach.{IsClock}
use Rattle.race_log.specs.declared.recording.Recording.{Recording}
use Rattle.race_log.specs.Validity.{Valid}
use Rattle.race_log.proofs.InTurn.{stand-all, stand-places}
use Rattle.replay_core.specs.Orders.{bump, counts, nought, Ordered, Ready}
use Rattle.replay_core.specs.Plans.{plan_of}
use Rattle.replay_core.proofs.Counts.{bump_same, bump_else}
use Rattle.replay_core.proofs.Sources.{edge_within}
use Rattle.replay_audit.specs.Determinate.{IsDeterminate, low_order_of}
use Rattle.replay_audit.proofs.Logs.{recorded_log, sourced_among, next_or_before}
use Rattle.clock_entries.specs.Ends.{entry_at, ends_to, IsEnd}
use Rattle.clock_entries.specs.Tests.{HasPlaces, is_exact_at}
use Rattle.clock_entries.proofs.LastEntries.{end_counts, end_edge, end_source, last_entry_law}
use Rattle.clock_entries.proofs.ExactEntryTest.{exact_passes, next_exact}
use Rattle.clock_entries.proofs.EntryTests.{each-end, good_test, needed_test}
use Rattle.certificate_codec.specs.declared.certificate.Certificate.{Certificate}
use Rattle.certificate_codec.specs.Ends.{reduced_edges}
use Rattle.log_codec.specs.CoreCounts.{AreCounts}
use Rattle.certificate_codec.specs.Validity.{AreEntries, IsCertificate}
use Rattle.min_certificate.specs.Places.{entry_in}
use Rattle.min_certificate.specs.Tests.{are_exact_in, ExactInTest, GoodInTest, NeededInTest}
use Rattle.min_certificate.proofs.Lows.{low_acyclic}

-- an entry has a place for each core, and no other
entry_ends : (c : Certificate) → IsCertificate c → (core k i : ℕ) → c.recording.params.cores ≤ i →
    slice_index (entry_at c.clocks core k) i ≡ 0
entry_ends c v core zero i le = get_or_past [] i 0 (omega arith)
entry_ends c v core (suc k) i le = of_core (cases_lt core (length c.clocks))
  where
    nothing : (entry : List ℕ) → entry ≡ [] → slice_index entry i ≡ 0
    nothing entry e = subst (λ (l : List ℕ). slice_index l i ≡ 0) (sym e) (get_or_past [] i 0 (omega arith))

    of_entry : core < length c.clocks →
        (k < length (get_or c.clocks core [])) ⊎ (length (get_or c.clocks core []) ≤ k) →
        slice_index (get_or (get_or c.clocks core []) k []) i ≡ 0
    of_entry lt (inl less) =
        let stands = (stand-places (AreEntries c.recording) 0 c.clocks v.entries core [] lt).each in
        let entry : AreCounts c.recording.totals (get_or (get_or c.clocks core []) k []) =
        All-get_or (AreCounts c.recording.totals) (get_or c.clocks core []) k [] less
        (stand-all (AreCounts c.recording.totals) (get_or c.clocks core []) stands) in
        let long : length (get_or (get_or c.clocks core []) k []) ≡ c.recording.params.cores =
        entry.each_core ∙ v.recording.each_core in
        get_or_past (get_or (get_or c.clocks core []) k []) i 0 (omega arith)
    of_entry lt (inr past) = nothing (get_or (get_or c.clocks core []) k [])
        (get_or_past (get_or c.clocks core []) k [] past)

    of_core : (core < length c.clocks) ⊎ (length c.clocks ≤ core) →
        slice_index (get_or (get_or c.clocks core []) k []) i ≡ 0
    of_core (inl lt) = of_entry lt (cases_lt k (length (get_or c.clocks core [])))
    of_core (inr past) =
        let none = get_or_past c.clocks core [] past in
        nothing (get_or (get_or c.clocks core []) k [])
        (ap (λ (l : List (List ℕ)). get_or l k []) none ∙ get_or_past [] k [] (omega arith))

has_places : (c : Certificate) → IsCertificate c → HasPlaces c.recording.params.cores (entry_in c)
has_places c v x i le = entry_ends c v x.core (length (ends_to (reduced_edges c.recording) x.core x.count)) i le

pub good_in_test : GoodInTest
good_in_test c v = good_test c.recording.params.cores (reduced_edges c.recording) (entry_in c) (has_places c v)

pub needed_in_test : NeededInTest
needed_in_test c x y = needed_test (reduced_edges c.recording) (entry_in c) x y

-- ---- exact, along the low order

-- the entries of the instructions within the counts are exact
abbrev AreExactTo : Certificate → (ℕ → ℕ) → Type 0
AreExactTo c f = (x : Instr) → IsEnd (reduced_edges c.recording) x → x.count ≤ f x.core →
    IsClock (Among (reduced_edges c.recording)) x (entry_in c x)

exact_next : (c : Certificate) (f : ℕ → ℕ) (core : ℕ) → IsCertificate c → IsDeterminate Reduced c.recording →
    are_exact_in c ≡ true →
    Ready (plan_of Reduced c.recording) f core → AreExactTo c f → AreExactTo c (bump f core)
exact_next c f core v d test ready so_far x end le = by (cases_eq x.core core)
  where
    here : x.core ≡ core → x.count ≡ f core + 1 → IsClock (Among (reduced_edges c.recording)) x (entry_in c x)
    here e n =
        let log = recorded_log Reduced c.recording v.recording in
        next_exact c.recording.params.cores (reduced_edges c.recording) (entry_in c) x log
        (low_acyclic c.recording v.recording d)
        (last_entry_law (reduced_edges c.recording) c.clocks) (has_places c v)
        (end_counts (reduced_edges c.recording) x log end)
        (each-end (is_exact_at c.recording.params.cores (reduced_edges c.recording) (entry_in c))
        (reduced_edges c.recording) test x end)
        (λ w w_end same lt. so_far w w_end (let g : f w.core ≡ f core = ap f (same ∙ e) in omega arith))
        (λ z is. so_far z (end_source (reduced_edges c.recording) z x is)
        (sourced_among (reduced_edges c.recording) f core (f core + 1) z x ready.sourced is e n))

    own : x.core ≡ core → (x.count ≡ f core + 1) ⊎ (x.count ≤ f core) →
        IsClock (Among (reduced_edges c.recording)) x (entry_in c x)
    own e (inl n) = here e n
    own e (inr low) = so_far x end (let g : f x.core ≡ f core = ap f e in omega arith)

    by : (x.core ≡ core) ⊎ (x.core ≢ core) → IsClock (Among (reduced_edges c.recording)) x (entry_in c x)
    by (inl e) = let b = bump_same f core x.core e in let g : f x.core ≡ f core = ap f e in
        own e (next_or_before x.count (f core) (omega arith))
    by (inr ne) = let b = bump_else f core x.core ne in so_far x end (omega arith)

exact_along : (c : Certificate) (f : ℕ → ℕ) (order : List ℕ) → IsCertificate c → IsDeterminate Reduced c.recording →
    are_exact_in c ≡ true →
    Ordered (plan_of Reduced c.recording) f order → AreExactTo c f → AreExactTo c (counts f order)
exact_along c f [] v d test ordered so_far = so_far
exact_along c f (core ∷ cores) v d test ordered so_far =
    exact_along c (bump f core) cores v d test ordered.1 (exact_next c f core v d test ordered.0 so_far)

-- an edge end is one of its core's instructions
end_within : (r : Recording) (x : Instr) → Valid r → IsDeterminate Reduced r → IsEnd (reduced_edges r) x →
    x.count ≤ counts nought (low_order_of Reduced r) x.core
end_within r x valid d end = by (end_edge (reduced_edges r) x end)
  where
    full : x.core < r.params.cores → x.count ≤ slice_index r.totals x.core →
        x.count ≤ counts nought (low_order_of Reduced r) x.core
    full lt le = let e = valid.each_core in let f = d.whole.each x.core (omega arith) in omega arith

    by : (y : Instr) × (Among (reduced_edges r) x y ⊎ Among (reduced_edges r) y x) →
        x.count ≤ counts nought (low_order_of Reduced r) x.core
    by (y, inl is) = let w = edge_within Reduced r x y valid is in full w.pair.source w.source_most
    by (y, inr is) = let w = edge_within Reduced r y x valid is in full w.pair.target w.target_most

pub exact_in_test : ExactInTest
exact_in_test c v d = (
  λ test x end. exact_along c nought (low_order_of Reduced c.recording) v d test d.ordered (nothing v) x end
      (end_within c.recording x v.recording d end),
  λ exact. exact_passes c.recording.params.cores (reduced_edges c.recording) (entry_in c)
      (recorded_log Reduced c.recording v.recording)
      (low_acyclic c.recording v.recording d) (last_entry_law (reduced_edges c.recording) c.clocks) (has_places c v)
      exact,
)
  where
    nothing : IsCertificate c → AreExactTo c nought
    nothing w x end le = absurd
        (let pos = end_counts (reduced_edges c.recording) x (recorded_log Reduced c.recording w.recording) end in
        omega arith)
