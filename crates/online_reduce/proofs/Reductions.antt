-- The reduction is kept: the edges are the covering pairs, and they stand by pair, rising.
use Rattle.std.proofs.Common.{◌≡◌, ◌≢◌, ℕ, ◌<◌, ◌≤◌, ◌⊎◌, ◌↔◌, List, [], ◌∷◌, ◌++◌, length, replicate, refl, sym, ◌∙◌}
use Rattle.std.proofs.Common.{ap, subst, inl, inr, arith, nat_eq, Bool}
use Rattle.std.proofs.Common.{false, true, cond, slice_index, if◌then◌else◌}
use Rattle.std.proofs.lemmas.Bool.{cases_lt}
use Rattle.std.specs.Prelude.{map, slice_index_or}
use Rattle.std.specs.List.{AllByRecursion, Contains, filter}
use Rattle.std.proofs.lemmas.List.{append-nil, length-replicate, get_or-replicate, get_or_past}
use Rattle.std.proofs.lemmas.List.Elements.{All-contains, All-from_recursion, Contains-append_right}
use Rattle.std.proofs.lemmas.Bool.Decides.{nat_tests}
use Rattle.rtr_types.specs.Pairs.{IsPair, pair_count, pair_place, source_at, target_at}
use Rattle.rtr_types.proofs.PairPlaces.{pairs-placed}
use Rattle.rtr_types.specs.declared.TheConstants.{CORES_MAX}
use Rattle.rtr_types.specs.declared.instr.Instr.{Instr}
use Rattle.rtr_types.specs.declared.instr.Edge.{Edge}
use Rattle.rtr_types.specs.declared.access.Access.{Access}
use Rattle.clock_core.specs.Counts.{no_counts}
use Rattle.clock_core.specs.Order.{Among}
use Rattle.clock_core.specs.declared.clock.Clock.{Clock}
use Rattle.access_times.specs.declared.times.Times.{Times}
use Rattle.conflict_edge.specs.Clocks.{clock}
use Rattle.conflict_edge.specs.Conflicts.{ConflictPair}
use Rattle.conflict_edge.specs.Least.{Covering}
use Rattle.conflict_edge.specs.Scan.{AddsCoveringInto}
use Rattle.conflict_edge.specs.Times.{IsExactClock}
use Rattle.conflict_edge.proofs.Next.{covering_next}
use Rattle.conflict_edge.proofs.TwoForms.{cores_differ, covering_law}
use Rattle.rtr_types.specs.PairEdges.{counts, is_between, with_edges, pair_edges, by_pair, AreEdgesAfter}
use Rattle.rtr_types.proofs.Instrs.{instr_eq}
use Rattle.online_reduce.specs.Reduced.{Reduced, unreduced, count_of, counted, retired, edges_of}
use Rattle.online_reduce.specs.Exact.{IsExact, BeginLaw, CountLaw, RetireLaw, LeastLaw, ListedLaw}
use Rattle.online_reduce.proofs.ByPair.{pair_append, each_pair, OneEdge, pair_one, by_pair_at, by_pair_none}
use Rattle.online_reduce.proofs.ByPair.{by_pair_add}
use Rattle.online_reduce.proofs.ExactNext.{retired_exact, retired_grows, retired_own, counted_exact, counted_grows}
use Rattle.clock_core.proofs.EdgeLists.{among_cases, among_left, among_right}
use Rattle.online_reduce.proofs.PairCounts.{rise_wider, rise_push, all_among}
use Rattle.online_reduce.proofs.PairCounts.{pair_source, pair_target, at_pos}
use Rattle.online_reduce.proofs.PairCounts.{source_above}
use Rattle.online_reduce.proofs.Step.{Next, next_of, covering_into}

-- ---- the start

-- and it is every core's at the start
no_count : (core : ℕ) → slice_index_or (replicate CORES_MAX no_counts) core no_counts ≡ no_counts
no_count core = by (cases_lt core CORES_MAX)
  where
    by : (core < CORES_MAX) ⊎ (CORES_MAX ≤ core) → slice_index_or (replicate CORES_MAX no_counts) core no_counts ≡
        no_counts
    by (inl lt) = get_or-replicate CORES_MAX core no_counts no_counts lt
    by (inr past) = get_or_past (replicate CORES_MAX no_counts) core no_counts
        (omega (arith, length-replicate CORES_MAX no_counts))

-- the clock that knows of nothing counts nothing
none_counted : (i : ℕ) → slice_index no_counts i ≡ 0
none_counted i = by (cases_lt i CORES_MAX)
  where
    by : (i < CORES_MAX) ⊎ (CORES_MAX ≤ i) → slice_index no_counts i ≡ 0
    by (inl lt) = get_or-replicate {A = ℕ} CORES_MAX i 0 0 lt
    by (inr past) = get_or_past no_counts i 0 (omega (arith, length-replicate {A = ℕ} CORES_MAX 0))

pub none_before : (cores core : ℕ) → count_of (unreduced cores) core ≡ 0
none_before cores core = ap (λ (c : Clock). slice_index c core) (no_count core) ∙ none_counted core

unreduced_exact : (cores : ℕ) → cores ≤ CORES_MAX → IsExact [] (unreduced cores)
unfolding clock
unreduced_exact cores few = record {
  few = few;
  places = length-replicate CORES_MAX no_counts;
  wide = λ core lt. subst (λ (m : Clock). CORES_MAX ≤ length m) (sym (no_count core))
      (omega (arith, length-replicate {A = ℕ} CORES_MAX 0));
  rise = tt;
  within = λ a s. absurd s;
  clocks = λ core lt. subst (λ (m : Clock). IsExactClock [] (record { core = core; count = slice_index m core }) m)
      (sym (no_count core)) (exact core);
}
  where
    zero_clock : (core i n : ℕ) → n ≡ 0 → (if nat_eq core i then n else 0) ≡ 0
    zero_clock core i n e = by (nat_eq core i)
      where
        by : (b : Bool) → (if b then n else 0) ≡ 0
        by true = e
        by false = refl

    exact : (core : ℕ) → IsExactClock [] (record { core = core; count = slice_index no_counts core }) no_counts
    exact core i lt = none_counted i ∙ sym (zero_clock core i (slice_index no_counts core) (none_counted core))

pub begin_law : BeginLaw
begin_law cores few = record {
  exact = unreduced_exact cores few;
  covering = λ x y. (λ s. absurd s, λ c. c.0);
  by_pairs = by_pair_none cores;
  rising = λ place lt.
      subst (λ (es : List (ℕ × ℕ)). AreEdgesAfter
      (count_of (unreduced cores) (source_at cores place), count_of (unreduced cores) (target_at cores place))
      (0, 0) es)
      (sym (get_or-replicate (pair_count cores) place [] [] lt)) tt;
}

-- ---- a retirement without an access

pub count_law : CountLaw
count_law list r edges at next kept = record {
  exact = counted_exact list r at next kept.exact;
  covering = kept.covering;
  by_pairs = kept.by_pairs;
  rising = λ place lt.
      rise_wider (count_of r (source_at r.cores place), count_of r (target_at r.cores place)) (
        count_of (counted r at) (source_at r.cores place),
        count_of (counted r at) (target_at r.cores place),
      ) (0, 0)
      (slice_index_or r.lists place []) (counted_grows list r at next kept.exact (source_at r.cores place))
      (counted_grows list r at next kept.exact (target_at r.cores place)) (kept.rising place lt);
}

-- ---- a retirement with an access

covering_more : (list : List Access) (a : Access) (edges new : List Edge) →
    ((x y : Instr) → Among new x y ↔ ((y ≡ a.at) × Covering (list ++ (a ∷ [])) x a.at))
    → AddsCoveringInto (list ++ (a ∷ [])) a edges (edges ++ new)
covering_more list a edges new covers x y = (λ s. to (among_cases edges new x y s), from)
  where
    to : Among edges x y ⊎ Among new x y → Among edges x y ⊎ ((y ≡ a.at) × Covering (list ++ (a ∷ [])) x a.at)
    to (inl s) = inl s
    to (inr s) = inr ((covers x y).0 s)

    from : Among edges x y ⊎ ((y ≡ a.at) × Covering (list ++ (a ∷ [])) x a.at) → Among (edges ++ new) x y
    from (inl s) = among_left edges new x y s
    from (inr q) = among_right edges new x y ((covers x y).1 q)

-- an edge into the access that comes next
record Into (list : List Access) (r : Reduced) (a : Access) (t : Times) (x y : Instr) : Type 0 where
  target : y ≡ a.at
  cover : Covering (list ++ (a ∷ [])) x a.at
  pos : 1 ≤ x.count
  core : x.core < r.cores
  differ : x.core ≢ a.at.core
  within : x.count ≤ count_of (retired r a t) x.core

into : (list : List Access) (r : Reduced) (a : Access) (t : Times) → Next list r a t → (x y : Instr)
    → Among (edges_of r a t) x y → Into list r a t x y
into list r a t next x y s =
    let q = ((covering_into list r a t next).covering x y).0 s in
    let source = pair_source (list ++ (a ∷ [])) x a.at q.1.0 in
    let stands = (retired_exact list r a t next).within source.access source.stands in
    record {
      target = q.0;
      cover = q.1;
      pos = at_pos (list ++ (a ∷ [])) x next.rise source;
      core = subst (λ (v : Instr). v.core < r.cores) source.at_is stands.0;
      differ = cores_differ (list ++ (a ∷ [])) x a.at q.1.0;
      within = subst (λ (v : Instr). v.count ≤ count_of (retired r a t) v.core) source.at_is stands.1;
    }

pairs_of : (list : List Access) (r : Reduced) (a : Access) (t : Times) → Next list r a t →
    AllByRecursion (λ (e : Edge). IsPair r.cores e.from.core e.to.core) (edges_of r a t)
pairs_of list r a t next = all_among (λ x y. IsPair r.cores x.core y.core) (edges_of r a t) (λ x y s.
    let i = into list r a t next x y s in
    subst (λ (v : Instr). IsPair r.cores x.core v.core) (sym i.target)
    (record { source = i.core; target = next.next.core; differ = i.differ }))

pub retire_law : RetireLaw
retire_law list r edges a t is_next times kept = record {
  exact = retired_exact list r a t next;
  covering = covering_next list a edges (edges ++ edges_of r a t) next.rise kept.covering
      (covering_more list a edges (edges_of r a t) (covering_into list r a t next).covering);
  by_pairs = by_pairs;
  rising = λ place lt. rising place lt (pair_one 0 (source_at r.cores place) (target_at r.cores place)
      (edges_of r a t) (covering_into list r a t next).order);
}
  where
    next : Next list r a t
    next = next_of list r a t kept.exact is_next times

    by_pairs : with_edges r.cores r.lists (edges_of r a t) ≡ by_pair r.cores (edges ++ edges_of r a t)
    by_pairs = ap (λ (ls : List (List (ℕ × ℕ))). with_edges r.cores ls (edges_of r a t)) kept.by_pairs
        ∙ by_pair_add r.cores edges (edges_of r a t) (pairs_of list r a t (next_of list r a t kept.exact is_next times))

    at_place : (place : ℕ) → place < pair_count r.cores → slice_index_or (retired r a t).lists place [] ≡
        slice_index_or r.lists place []
        ++ pair_edges (source_at r.cores place) (target_at r.cores place) (edges_of r a t)
    at_place place lt =
        ap (λ (ls : List (List (ℕ × ℕ))). slice_index_or ls place []) by_pairs
        ∙ by_pair_at r.cores (edges ++ edges_of r a t) place [] lt
        ∙ pair_append (source_at r.cores place) (target_at r.cores place) edges (edges_of r a t)
        ∙ ap (λ (es : List (ℕ × ℕ)). es ++ pair_edges (source_at r.cores place) (target_at r.cores place)
        (edges_of r a t))
        (sym (ap (λ (ls : List (List (ℕ × ℕ))). slice_index_or ls place []) kept.by_pairs ∙ by_pair_at r.cores edges
        place [] lt))

    most : (s : Reduced) → ℕ → ℕ × ℕ
    most s place = (count_of s (source_at r.cores place), count_of s (target_at r.cores place))

    -- each earlier edge of the pair comes from below
    below : (place : ℕ) (o : OneEdge (source_at r.cores place) (target_at r.cores place) (edges_of r a t))
        → place < pair_count r.cores →
        AllByRecursion (λ (e : ℕ × ℕ). e.0 < o.edge.from.count) (slice_index_or r.lists place [])
    below place o lt =
        subst (λ (es : List (ℕ × ℕ)). AllByRecursion (λ (e : ℕ × ℕ). e.0 < o.edge.from.count) es)
        (sym (ap (λ (ls : List (List (ℕ × ℕ))). slice_index_or ls place []) kept.by_pairs ∙ by_pair_at r.cores edges
        place [] lt))
        (each_pair (λ (e : ℕ × ℕ). e.0 < o.edge.from.count) (source_at r.cores place) (target_at r.cores place) edges
        (λ u v s from_is to_is.
        let i = into list r a t next o.edge.from o.edge.to o.among in
        let pair = ((kept.covering u v).0 s).0 in
        let target = pair_target list u v pair in
        let within = subst (λ (w : Instr). w.count ≤ count_of r w.core) target.at_is
        (kept.exact.within target.access target.stands).1 in
        let core : v.core ≡ a.at.core = to_is ∙ sym o.to_is ∙ ap (λ (w : Instr). w.core) i.target in
        let same = ap (count_of r) core in
        let more = is_next.count in
        source_above list a o.edge.from u v pair core (omega arith) (from_is ∙ sym o.from_is) i.cover))

    rising : (place : ℕ) → place < pair_count r.cores
        → (pair_edges (source_at r.cores place) (target_at r.cores place) (edges_of r a t) ≡ [])
        ⊎ OneEdge (source_at r.cores place) (target_at r.cores place) (edges_of r a t) →
        AreEdgesAfter (most (retired r a t) place) (0, 0) (slice_index_or (retired r a t).lists place [])
    rising place lt (inl none) =
        subst (λ (es : List (ℕ × ℕ)). AreEdgesAfter (most (retired r a t) place) (0, 0) es)
        (sym (at_place place lt ∙ ap (λ (es : List (ℕ × ℕ)). slice_index_or r.lists place [] ++ es) none
        ∙ append-nil (slice_index_or r.lists place [])))
        (rise_wider (most r place) (most (retired r a t) place) (0, 0) (slice_index_or r.lists place [])
        (retired_grows list r a t next (source_at r.cores place))
        (retired_grows list r a t next (target_at r.cores place)) (kept.rising place lt))
    rising place lt (inr o) =
        let i = into list r a t next o.edge.from o.edge.to o.among in
        let target_core : target_at r.cores place ≡ a.at.core = sym o.to_is ∙ ap (λ (w : Instr). w.core) i.target in
        let count : o.edge.to.count ≡ a.at.count = ap (λ (w : Instr). w.count) i.target in
        let was : count_of r (target_at r.cores place) ≡ count_of r a.at.core = ap (count_of r) target_core in
        let now : count_of (retired r a t) (target_at r.cores place) ≡ a.at.count = ap (count_of (retired r a t))
        target_core ∙ retired_own list r a t next in
        let more = is_next.count in
        let source : o.edge.from.count ≤ count_of (retired r a t) (source_at r.cores place) =
        subst (λ (k : ℕ). o.edge.from.count ≤ count_of (retired r a t) k) o.from_is i.within in
        let pos = i.pos in
        subst (λ (es : List (ℕ × ℕ)). AreEdgesAfter (most (retired r a t) place) (0, 0) es)
        (sym (at_place place lt ∙ ap (λ (es : List (ℕ × ℕ)). slice_index_or r.lists place [] ++ es) o.only))
        (rise_push (most r place) (most (retired r a t) place) (0, 0) (counts o.edge) (slice_index_or r.lists place [])
        (retired_grows list r a t next (source_at r.cores place))
        (retired_grows list r a t next (target_at r.cores place)) (kept.rising place lt)
        (omega arith) (omega arith) (below place o lt) (omega arith) source (omega arith))

pub least_law : LeastLaw
least_law list r edges kept = (covering_law list edges kept.exact.rise).1 kept.covering

-- ---- the edges and the pairs' lists

-- what stands among some edges is in its pair's list
listed : (from to : ℕ) (edges : List Edge) (x y : Instr) → x.core ≡ from → y.core ≡ to → Among edges x y →
    Contains (pair_edges from to edges) (x.count, y.count)
unfolding pair_edges
listed from to [] x y p q s = absurd s
listed from to (e ∷ edges) x y p q (inl s) = by (is_between from to e) (grind (arith, nat_tests, core_from, core_to))
  where
    core_from : e.from.core ≡ from
    core_from = ap (λ (v : Instr). v.core) s.0 ∙ p

    core_to : e.to.core ≡ to
    core_to = ap (λ (v : Instr). v.core) s.1 ∙ q

    same_pair : (u x v y : Instr) → u ≡ x → v ≡ y → ◌≡◌ {A = Instr × Instr} (u, v) (x, y)
    same_pair u x v y f g = cc

    by : (b : Bool) → b ≡ true
        → Contains (map counts (cond b (e ∷ filter (is_between from to) edges) (filter (is_between from to) edges)))
        (x.count, y.count)
    by true t = (
      0,
      omega arith,
      ap (λ (v : Instr × Instr). (let c : ℕ × ℕ = (v.0.count, v.1.count) in c))
          (same_pair e.from x e.to y s.0 s.1),
    )
    by false t = absurd cc
listed from to (e ∷ edges) x y p q (inr s) = by (is_between from to e) (listed from to edges x y p q s)
  where
    by : (b : Bool) → Contains (pair_edges from to edges) (x.count, y.count) →
        Contains (map counts (cond b (e ∷ filter (is_between from to) edges) (filter (is_between from to) edges)))
        (x.count, y.count)
    by true c = Contains-append_right (counts e ∷ []) (pair_edges from to edges) (x.count, y.count) c
    by false c = c

-- what is in a pair's list stands among the edges
unlisted : (from to : ℕ) (edges : List Edge) (x y : Instr) → x.core ≡ from → y.core ≡ to
    → Contains (pair_edges from to edges) (x.count, y.count) →
    Among edges x y
unlisted from to edges x y p q c =
    subst (λ (v : Instr). Among edges x v) (instr_eq (at to y.count) y (sym q) refl)
    (subst (λ (u : Instr). Among edges u (at to y.count)) (instr_eq (at from x.count) x (sym p) refl)
    (All-contains Stands (pair_edges from to edges) (x.count, y.count)
    (All-from_recursion Stands (pair_edges from to edges) (each_pair Stands from to edges (λ u v s f g.
    subst (λ (w : Instr). Among edges (at from u.count) w) (instr_eq v (at to v.count) g refl)
    (subst (λ (w : Instr). Among edges w v) (instr_eq u (at from u.count) f refl) s)))) c))
  where
    at : ℕ → ℕ → Instr
    at core count = record { core = core; count = count }

    Stands : ℕ × ℕ → Type 0
    Stands e = Among edges (record { core = from; count = e.0 }) (record { core = to; count = e.1 })

pub listed_law : ListedLaw
listed_law list r edges kept x y = (to, λ q. from q.0 q.1)
  where
    here : IsPair r.cores x.core y.core → slice_index_or r.lists (pair_place r.cores x.core y.core) [] ≡ pair_edges
        x.core y.core edges
    here pair =
        let placed = pairs-placed r.cores x.core y.core pair in
        ap (λ (ls : List (List (ℕ × ℕ))). slice_index_or ls (pair_place r.cores x.core y.core) []) kept.by_pairs
        ∙ by_pair_at r.cores edges (pair_place r.cores x.core y.core) [] placed.0
        ∙ ap (λ (i : ℕ). pair_edges i (target_at r.cores (pair_place r.cores x.core y.core)) edges) placed.1
        ∙ ap (λ (j : ℕ). pair_edges x.core j edges) placed.2

    paired : ConflictPair list x y → IsPair r.cores x.core y.core
    paired p =
        let source = pair_source list x y p in
        let target = pair_target list x y p in
        record {
          source = subst (λ (v : Instr). v.core < r.cores) source.at_is
              (kept.exact.within source.access source.stands).0;
          target = subst (λ (v : Instr). v.core < r.cores) target.at_is
              (kept.exact.within target.access target.stands).0;
          differ = cores_differ list x y p;
        }

    to : Among edges x y → IsPair r.cores x.core y.core
        × Contains (slice_index_or r.lists (pair_place r.cores x.core y.core) []) (x.count, y.count)
    to s =
        let pair = paired ((kept.covering x y).0 s).0 in (
          pair,
          subst (λ (es : List (ℕ × ℕ)). Contains es (x.count, y.count)) (sym (here pair))
              (listed x.core y.core edges x y refl refl s),
        )

    from : IsPair r.cores x.core y.core → Contains (slice_index_or r.lists (pair_place r.cores x.core y.core) [])
        (x.count, y.count) → Among edges x y
    from pair c = unlisted x.core y.core edges x y refl refl
        (subst (λ (es : List (ℕ × ℕ)). Contains es (x.count, y.count)) (here pair) c)
