-- Clocks go on by one instruction.
use Rattle.std.proofs.Common.{inl, inr, ◌≡◌, ◌≢◌, ◌⊎◌, ℕ, zero, suc, ◌+◌, ◌-◌, ◌<◌, ◌≤◌, List, [], ◌∷◌, ◌++◌, length}
use Rattle.std.proofs.Common.{replicate}
use Rattle.std.proofs.Common.{refl, sym, ap, ◌∙◌, subst, arith, length-set, get_or-set_same, get_or-set_other}
use Rattle.std.specs.Prelude.{slice_index, slice_index_or}
use Rattle.std.proofs.lemmas.List.{length-replicate}
use native.Mathlib.Decide.{ℕ_discrete}
use Rattle.rtr_types.specs.declared.TheConstants.{CORES_MAX}
use Rattle.rtr_types.specs.declared.instr.Instr.{Instr}
use Rattle.rtr_types.specs.declared.instr.Edge.{Edge}
use Rattle.rtr_types.specs.declared.pairs.Which.{Which}
use Rattle.rtr_types.proofs.Ranges.{zero_at}
use Rattle.clock_core.specs.Counts.{no_counts}
use Rattle.clock_core.specs.Order.{Step, Path, IsOrLeads, Among, previous}
use Rattle.clock_core.specs.Reach.{IsClock, IsOneOf, merged_over, with_own}
use Rattle.clock_core.proofs.Reach.{merge_law, own_same, own_other, clock_same}
use Rattle.race_log.specs.declared.recording.Recording.{Recording}
use Rattle.race_log.specs.Sources.{log_edges}
use Rattle.race_log.specs.Validity.{Valid}
use Rattle.replay_core.specs.Plans.{plan_of}
use Rattle.replay_core.specs.Play.{instr}
use Rattle.replay_core.specs.Orders.{bump, nought, Ready}
use Rattle.replay_core.proofs.Counts.{bump_here, bump_same, bump_else}
use Rattle.clock_entries.specs.Laws.{IsLog, IsAcyclic}
use Rattle.replay_core.specs.Sources.{listed}
use Rattle.replay_audit.specs.Clocks.{Kept, clocks_of, number_to, number_of, numbered, clock_at, next_at}
use Rattle.replay_core.specs.Sources.{AreSources}
use Rattle.replay_audit.specs.Clocks.{CanNote, IsKept, IsNoted, Clocked}
use Rattle.replay_audit.proofs.Logs.{recorded_log, sourced_among}
use Rattle.replay_audit.proofs.ClockNumbers.{all_later, all_more, at_before, at_last, length_more, number_most}
use Rattle.replay_audit.proofs.ClockNumbers.{number_stays}
use Rattle.replay_core.proofs.InstructionSources.{listed_are}
use Rattle.replay_core.proofs.Sources.{edge_within}

-- ---- clocks by their places

-- with the own count, two clocks that agree at the other places are the same
own_eq : (y : Instr) (p q : ℕ → ℕ) → ((i : ℕ) → i ≢ y.core → p i ≡ q i) → (i : ℕ) → with_own y p i ≡ with_own y q i
own_eq y p q h i = by (ℕ_discrete i y.core)
  where
    by : Dec (i ≡ y.core) → with_own y p i ≡ with_own y q i
    by (yes e) = own_same y p i e ∙ sym (own_same y q i e)
    by (no ne) = own_other y p i ne ∙ h i ne ∙ sym (own_other y q i ne)

-- ---- nothing leads to the place before a core's first instruction

none_step : (edges : List Edge) (x y : Instr) → IsLog edges → y.count ≡ 0 → Step (Among edges) x y → ⊥
none_step edges x y log z (inl p) = let lt = p.1 in omega arith
none_step edges x y log z (inr a) = let p = log.targets x y a in omega arith

none_at : (edges : List Edge) (n : ℕ) (x y : Instr) → IsLog edges → y.count ≡ 0 → Path (Among edges) n x y → ⊥
none_at edges zero x y log z p = none_step edges x y log z p
none_at edges (suc n) x y log z p = none_at edges n p.0 y log z p.2

clock_none : (edges : List Edge) (y : Instr) (clock : ℕ → ℕ) → IsLog edges → y.count ≡ 0 → ((i : ℕ) → clock i ≡ 0) →
    IsClock (Among edges) y clock
clock_none edges y clock log z zero_at x pos = (λ le. let e = zero_at x.core in absurd (omega arith), by)
  where
    by : IsOrLeads (Among edges) x y → x.count ≤ clock x.core
    by (inl e) = let f : x.count ≡ y.count = ap (λ (v : Instr). v.count) e in absurd (omega arith)
    by (inr p) = absurd (none_at edges p.0 x y log z p.1)

either : (n m : ℕ) → n ≤ m + 1 → (n ≤ m) ⊎ (n ≡ m + 1)
either n m le = grind arith

-- ---- what is kept of an instruction's core once it is noted

-- it has its own count
pub own_next : (k : Kept) (y : Instr) (sources : List ℕ) (cores : ℕ) → next_at k y sources cores y.core ≡ y.count
own_next k y sources cores =
    own_same y (merged_over (clock_at k (previous y)) (clock_at k) (listed sources cores)) y.core refl

-- the core's clocks, with one more or not
abbrev pub IsListNext : Kept → Instr → Kept → Type 0
IsListNext k y new = (clocks_of new y.core ≡ clocks_of k y.core)
    ⊎ ((clock : List ℕ) × (slice_index clock y.core ≡ y.count)
    × (clocks_of new y.core ≡ clocks_of k y.core ++ clock ∷ []))

module _ (k new : Kept) (y : Instr) (sources : List ℕ) (cores : ℕ) (can : CanNote k y)
    (noted : IsNoted k y sources cores new) where
  pub list_next : IsListNext k y new
  list_next = by noted.kept
    where
      by : IsKept k y sources cores new.clocks → IsListNext k y new
      by (inl h) = inl (ap (λ (l : List (List (List ℕ))). slice_index_or l y.core []) h.1)
      by (inr h) = inr (
        h.0,
        h.1 y.core ∙ own_next k y sources cores,
        ap (λ (l : List (List (List ℕ))). slice_index_or l y.core []) h.2
            ∙ get_or-set_same k.clocks y.core _ [] can.clocks,
      )

  -- all are of instructions up to this one
  pub noted_all : number_of new y.core y.count ≡ length (clocks_of new y.core)
  noted_all = by list_next
    where
      last : number_to (clocks_of k y.core) y.core y.count ≡ length (clocks_of k y.core)
      last = all_later (clocks_of k y.core) y.core (y.count - 1) y.count can.last (omega arith)

      by : IsListNext k y new → number_of new y.core y.count ≡ length (clocks_of new y.core)
      by (inl e) = subst (λ (l : List (List ℕ)). number_to l y.core y.count ≡ length l) (sym e) last
      by (inr h) = let own = h.1 in subst (λ (l : List (List ℕ)). number_to l y.core y.count ≡ length l) (sym h.2)
          (all_more (clocks_of k y.core) h.0 y.core y.count last (omega arith))

-- ---- the clock of the next instruction

module _ (which : Which) (r : Recording) (valid : Valid r) (f : ℕ → ℕ) (k : Kept)
    (clocked : Clocked (log_edges which r) r.params.cores f k) where
  edges : List Edge
  edges = log_edges which r

  pub clock_any : IsAcyclic (log_edges which r) → (c n : ℕ) → c < r.params.cores → n ≤ f c →
      IsClock (Among (log_edges which r)) (instr c n) (clock_at k (instr c n))
  clock_any acyclic c zero lt le =
      clock_none (log_edges which r) (instr c 0) (clock_at k (instr c 0)) (recorded_log which r valid) refl at
    where
      at : (i : ℕ) → clock_at k (instr c 0) i ≡ 0
      at i = by (ℕ_discrete i c)
        where
          found : ℕ → ℕ
          found j = slice_index (numbered k c (number_of k c 0)) j

          by : Dec (i ≡ c) → clock_at k (instr c 0) i ≡ 0
          by (yes e) = own_same (instr c 0) found i e
          by (no ne) = own_other (instr c 0) found i ne
              ∙ ap (λ (n : ℕ). slice_index (numbered k c n) i) (clocked.none c) ∙ zero_at CORES_MAX i
  clock_any acyclic c (suc n) lt le = clocked.exact acyclic c (suc n) lt (omega arith) le

  pub next_is : (c : ℕ) (sources : List ℕ) → Ready (plan_of which r) f c → IsAcyclic (log_edges which r) →
      AreSources (log_edges which r) (instr c (f c + 1)) sources →
      IsClock (Among (log_edges which r)) (instr c (f c + 1)) (next_at k (instr c (f c + 1)) sources r.params.cores)
  next_is c sources ready acyclic are =
      merge_law (log_edges which r) y (listed sources r.params.cores) (clock_at k (previous y)) (clock_at k)
      (omega arith) (acyclic y) one_of own each
    where
      y : Instr
      y = instr c (f c + 1)

      inside : c < r.params.cores
      inside = let lt = ready.inside in let e = valid.each_core in omega arith

      one_of : (z : Instr) → (Among (log_edges which r) z y → IsOneOf (listed sources r.params.cores) z)
          × (IsOneOf (listed sources r.params.cores) z → Among (log_edges which r) z y)
      one_of z = listed_are which r y sources valid are z

      own : IsClock (Among (log_edges which r)) (previous y) (clock_at k (previous y))
      own =
          let e : f c ≡ (f c + 1) - 1 = omega arith in
          subst (λ (n : ℕ). IsClock (Among (log_edges which r)) (instr c n) (clock_at k (instr c n))) e
          (clock_any acyclic c (f c) inside (omega arith))

      each : (z : Instr) → IsOneOf (listed sources r.params.cores) z →
          IsClock (Among (log_edges which r)) z (clock_at k z)
      each z o =
          let m = (one_of z).1 o in
          let w = edge_within which r z y valid m in
          clock_any acyclic z.core z.count w.pair.source
          (sourced_among (log_edges which r) f c (f c + 1) z y ready.sourced m refl refl)

  -- ---- what is kept after it

  module _ (c : ℕ) (sources : List ℕ) (new : Kept) (ready : Ready (plan_of which r) f c)
      (are : AreSources (log_edges which r) (instr c (f c + 1)) sources)
      (noted : IsNoted k (instr c (f c + 1)) sources r.params.cores new) where
    inside_of : c < r.params.cores
    inside_of = let lt = ready.inside in let e = valid.each_core in omega arith

    clocks_else : (i : ℕ) → i ≢ c → clocks_of new i ≡ clocks_of k i
    clocks_else i ne = by noted.kept
      where
        by : IsKept k (instr c (f c + 1)) sources r.params.cores new.clocks → clocks_of new i ≡ clocks_of k i
        by (inl h) = ap (λ (l : List (List (List ℕ))). slice_index_or l i []) h.1
        by (inr h) = ap (λ (l : List (List (List ℕ))). slice_index_or l i []) h.2
            ∙ get_or-set_other k.clocks c i _ [] ne

    can_note : CanNote k (instr c (f c + 1))
    can_note =
        let lt = inside_of in
        let m = valid.params.cores in
        let all = clocked.all_clocks in
        let e : f c ≡ (f c + 1) - 1 = omega arith in
        record {
          core = omega arith;
          clocks = omega arith;
          some = omega arith;
          last = subst (λ (n : ℕ). number_of k c n ≡ length (clocks_of k c)) e (clocked.last c lt);
        }

    clocks_here : IsListNext k (instr c (f c + 1)) new
    clocks_here = list_next k new (instr c (f c + 1)) sources r.params.cores can_note noted

    -- the clocks so far stay
    numbered_stays : (n : ℕ) → n ≤ length (clocks_of k c) → numbered new c n ≡ numbered k c n
    numbered_stays zero le = refl
    numbered_stays (suc n) le = by clocks_here
      where
        by : IsListNext k (instr c (f c + 1)) new →
            slice_index_or (clocks_of new c) n no_counts ≡ slice_index_or (clocks_of k c) n no_counts
        by (inl e) = ap (λ (l : List (List ℕ)). slice_index_or l n no_counts) e
        by (inr h) = ap (λ (l : List (List ℕ)). slice_index_or l n no_counts) h.2
            ∙ at_before (clocks_of k c) h.0 no_counts n (omega arith)

    number_as : (n : ℕ) → n ≤ f c → number_of new c n ≡ number_of k c n
    number_as n le = by clocks_here
      where
        by : IsListNext k (instr c (f c + 1)) new →
            number_of new c n ≡ number_of k c n
        by (inl e) = ap (λ (l : List (List ℕ)). number_to l c n) e
        by (inr h) = let own = h.1 in ap (λ (l : List (List ℕ)). number_to l c n) h.2
            ∙ number_stays (clocks_of k c) h.0 c n (omega arith)

    number_next : number_of new c (f c + 1) ≡ length (clocks_of new c)
    number_next = noted_all k new (instr c (f c + 1)) sources r.params.cores can_note noted

    kept_stays : (n : ℕ) → n ≤ f c → (i : ℕ) → clock_at k (instr c n) i ≡ clock_at new (instr c n) i
    kept_stays n le i =
        let e : numbered new c (number_of new c n) ≡ numbered k c (number_of k c n) =
        ap (numbered new c) (number_as n le)
        ∙ numbered_stays (number_of k c n) (number_most (clocks_of k c) c n) in
        own_eq (instr c n) (λ j. slice_index (numbered k c (number_of k c n)) j)
        (λ j. slice_index (numbered new c (number_of new c n)) j)
        (λ j ne. ap (λ (l : List ℕ). slice_index l j) (sym e)) i

    kept_else : (d n : ℕ) → d ≢ c → (i : ℕ) → clock_at k (instr d n) i ≡ clock_at new (instr d n) i
    kept_else d n ne i =
        let number : number_of new d n ≡ number_of k d n =
        ap (λ (l : List (List ℕ)). number_to l d n) (clocks_else d ne) in
        let e : numbered new d (number_of new d n) ≡ numbered k d (number_of k d n) =
        ap (numbered new d) number ∙ same_clock (number_of k d n) in
        own_eq (instr d n) (λ j. slice_index (numbered k d (number_of k d n)) j)
        (λ j. slice_index (numbered new d (number_of new d n)) j)
        (λ j other. ap (λ (l : List ℕ). slice_index l j) (sym e)) i
      where
        same_clock : (m : ℕ) → numbered new d m ≡ numbered k d m
        same_clock zero = refl
        same_clock (suc m) = ap (λ (l : List (List ℕ)). slice_index_or l m no_counts) (clocks_else d ne)

    -- the clock that is found for the new instruction
    found_next : (i : ℕ) → next_at k (instr c (f c + 1)) sources r.params.cores i ≡ clock_at new (instr c (f c + 1)) i
    found_next i = by noted.kept
      where
        y : Instr
        y = instr c (f c + 1)

        found : ℕ → ℕ
        found j = slice_index (numbered new c (number_of new c (f c + 1))) j

        by : IsKept k (instr c (f c + 1)) sources r.params.cores new.clocks →
            next_at k (instr c (f c + 1)) sources r.params.cores i ≡ clock_at new (instr c (f c + 1)) i
        by (inl h) = own_eq y (merged_over (clock_at k (previous y)) (clock_at k) (listed sources r.params.cores))
            (λ j. slice_index (numbered new c (number_of new c (f c + 1))) j) none i
          where
            here : clocks_of new c ≡ clocks_of k c
            here = ap (λ (l : List (List (List ℕ))). slice_index_or l c []) h.1

            number : number_of new c (f c + 1) ≡ number_of k c (f c)
            number = number_next ∙ ap (λ (l : List (List ℕ)). length l) here ∙ sym (clocked.last c inside_of)

            clock : numbered new c (number_of new c (f c + 1)) ≡ numbered k c (number_of k c (f c))
            clock = ap (numbered new c) number
                ∙ numbered_stays (number_of k c (f c)) (number_most (clocks_of k c) c (f c))

            none : (j : ℕ) → j ≢ c → merged_over (clock_at k (previous y)) (clock_at k) (listed sources r.params.cores)
                j ≡ slice_index (numbered new c
                (number_of new c (f c + 1))) j
            none j ne =
                let e : (f c + 1) - 1 ≡ f c = omega arith in
                ap (λ (l : List Instr). merged_over (clock_at k (previous y)) (clock_at k) l j) h.0
                ∙ ap (λ (n : ℕ). clock_at k (instr c n) j) e
                ∙ own_other (instr c (f c)) (λ m. slice_index (numbered k c (number_of k c (f c))) m) j ne
                ∙ ap (λ (l : List ℕ). slice_index l j) (sym clock)
        by (inr h) = sym (h.1 i) ∙ at (ℕ_discrete i c)
          where
            here : clocks_of new c ≡ clocks_of k c ++ h.0 ∷ []
            here = ap (λ (l : List (List (List ℕ))). slice_index_or l c []) h.2
                ∙ get_or-set_same k.clocks c _ [] (let a = clocked.all_clocks in let lt = inside_of in omega arith)

            number : number_of new c (f c + 1) ≡ suc (length (clocks_of k c))
            number = let m = length_more (clocks_of k c) h.0 in
                let e : length (clocks_of k c) + 1 ≡ suc (length (clocks_of k c)) = omega arith in number_next
                ∙ ap (λ (l : List (List ℕ)). length l) here ∙ m ∙ e

            clock : numbered new c (number_of new c (f c + 1)) ≡ h.0
            clock = ap (numbered new c) number
                ∙ ap (λ (l : List (List ℕ)). slice_index_or l (length (clocks_of k c)) no_counts) here
                ∙ at_last (clocks_of k c) h.0 no_counts (length (clocks_of k c)) refl

            at : Dec (i ≡ c) → slice_index h.0 i ≡ clock_at new (instr c (f c + 1)) i
            at (yes e) = h.1 i ∙ own_same y
                (merged_over (clock_at k (previous y)) (clock_at k) (listed sources r.params.cores)) i e
                ∙ sym (own_same y (λ j. slice_index (numbered new c (number_of new c (f c + 1))) j) i e)
            at (no ne) = ap (λ (l : List ℕ). slice_index l i) (sym clock)
                ∙ sym (own_other y (λ j. slice_index (numbered new c (number_of new c (f c + 1))) j) i ne)

    pub clock_found : IsAcyclic (log_edges which r) →
        IsClock (Among (log_edges which r)) (instr c (f c + 1)) (clock_at new (instr c (f c + 1)))
    clock_found acyclic = clock_same (Among (log_edges which r)) (instr c (f c + 1))
        (next_at k (instr c (f c + 1)) sources r.params.cores)
        (clock_at new (instr c (f c + 1))) found_next (next_is c sources ready acyclic are)

    pub clocked_on : Clocked (log_edges which r) r.params.cores (bump f c) new
    clocked_on = record {
      all_clocks = wide noted.kept;
      none = λ d. none d (ℕ_discrete d c);
      last = λ d lt. last d lt (ℕ_discrete d c);
      exact = λ acyclic d n lt pos le. exact acyclic d n lt pos le (ℕ_discrete d c);
    }
      where
        wide : IsKept k (instr c (f c + 1)) sources r.params.cores new.clocks → length new.clocks ≡ r.params.cores
        wide (inl h) = ap (λ (l : List (List (List ℕ))). length l) h.1 ∙ clocked.all_clocks
        wide (inr h) = ap (λ (l : List (List (List ℕ))). length l) h.2 ∙ length-set k.clocks c _ ∙ clocked.all_clocks

        none : (d : ℕ) → Dec (d ≡ c) → number_of new d 0 ≡ 0
        none d (yes e) = subst (λ (x : ℕ). number_of new x 0 ≡ 0) (sym e)
            (number_as 0 (omega arith) ∙ clocked.none c)
        none d (no ne) = ap (λ (l : List (List ℕ)). number_to l d 0) (clocks_else d ne) ∙ clocked.none d

        last : (d : ℕ) → d < r.params.cores → Dec (d ≡ c) → number_of new d (bump f c d) ≡ length (clocks_of new d)
        last d lt (yes e) = subst (λ (x : ℕ). number_of new x (bump f c x) ≡ length (clocks_of new x)) (sym e)
            (ap (number_of new c) (bump_here f c) ∙ number_next)
        last d lt (no ne) = ap (number_of new d) (bump_else f c d ne)
            ∙ ap (λ (l : List (List ℕ)). number_to l d (f d)) (clocks_else d ne) ∙ clocked.last d lt
            ∙ sym (ap (λ (l : List (List ℕ)). length l) (clocks_else d ne))

        own_exact : IsAcyclic (log_edges which r) → (n : ℕ) → 1 ≤ n → (n ≤ f c) ⊎ (n ≡ f c + 1) →
            IsClock (Among (log_edges which r)) (instr c n) (clock_at new (instr c n))
        own_exact acyclic n pos (inl le) =
            clock_same (Among (log_edges which r)) (instr c n) (clock_at k (instr c n)) (clock_at new (instr c n))
            (kept_stays n le) (clocked.exact acyclic c n inside_of pos le)
        own_exact acyclic n pos (inr e) =
            subst (λ (m : ℕ). IsClock (Among (log_edges which r)) (instr c m) (clock_at new (instr c m))) (sym e)
            (clock_found acyclic)

        exact : IsAcyclic (log_edges which r) → (d n : ℕ) → d < r.params.cores → 1 ≤ n → n ≤ bump f c d → Dec (d ≡ c) →
            IsClock (Among (log_edges which r)) (instr d n) (clock_at new (instr d n))
        exact acyclic d n lt pos le (yes e) =
            let b = bump_same f c d e in
            let g : f d ≡ f c = ap f e in
            subst (λ (x : ℕ). IsClock (Among (log_edges which r)) (instr x n) (clock_at new (instr x n))) (sym e)
            (own_exact acyclic n pos (either n (f c) (omega arith)))
        exact acyclic d n lt pos le (no ne) =
            let b = bump_else f c d ne in
            clock_same (Among (log_edges which r)) (instr d n) (clock_at k (instr d n)) (clock_at new (instr d n))
            (kept_else d n ne)
            (clocked.exact acyclic d n lt pos (omega arith))

-- ---- before the first instruction

abbrev no_list : List (List ℕ)
no_list = []

no_clocks : (n i : ℕ) → slice_index_or (replicate n no_list) i no_list ≡ no_list
no_clocks zero i = refl
no_clocks (suc n) zero = refl
no_clocks (suc n) (suc i) = no_clocks n i

pub clocked_start : (edges : List Edge) (cores : ℕ) (k : Kept) → k.clocks ≡ replicate cores [] →
    Clocked edges cores nought k
clocked_start edges cores k clocks = record {
  all_clocks = ap (λ (l : List (List (List ℕ))). length l) clocks ∙ length-replicate cores [];
  none = zero_of;
  last = λ c lt. zero_of c ∙ sym (ap (λ (l : List (List ℕ)). length l) (none c));
  exact = λ acyclic c n lt pos le. absurd (omega arith);
}
  where
    none : (c : ℕ) → clocks_of k c ≡ no_list
    none c = ap (λ (l : List (List (List ℕ))). slice_index_or l c []) clocks ∙ no_clocks cores c

    zero_of : (c : ℕ) → number_of k c 0 ≡ 0
    zero_of c = ap (λ (l : List (List ℕ)). number_to l c 0) (none c)
