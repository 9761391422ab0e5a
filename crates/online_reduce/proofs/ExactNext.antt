-- A retirement keeps each core's clock exact.
use Rattle.std.proofs.Common.{◌≡◌, ◌≢◌, ℕ, ◌<◌, ◌≤◌, ◌⊎◌, ◌↔◌, List, [], ◌∷◌, ◌++◌, length, reverse, refl, sym, ◌∙◌}
use Rattle.std.proofs.Common.{ap, subst, inl, inr, arith, slice_index}
use Rattle.std.proofs.lemmas.Bool.{cases_eq}
use Rattle.std.specs.Prelude.{slice_set, slice_index_or}
use Rattle.std.specs.List.{fold}
use Rattle.std.proofs.lemmas.List.{get_or-set_same, get_or-set_other, length-set}
use Rattle.rtr_types.specs.declared.TheConstants.{CORES_MAX}
use Rattle.rtr_types.specs.declared.instr.Instr.{Instr}
use Rattle.rtr_types.specs.declared.access.Access.{Access}
use Rattle.clock_core.specs.Counts.{no_counts}
use Rattle.clock_core.specs.declared.clock.Clock.{Clock}
use Rattle.clock_core.proofs.Reach.{same_below}
use Rattle.clock_core.specs.Order.{previous}
use Rattle.access_times.specs.declared.times.Times.{Times}
use Rattle.conflict_edge.specs.Clocks.{clock, IsBelowMerged}
use Rattle.conflict_edge.specs.Conflicts.{StandsIn}
use Rattle.conflict_edge.specs.Times.{IsExactClock}
use Rattle.conflict_edge.proofs.Clocks.{own_clock}
use Rattle.conflict_edge.proofs.History.{Rising}
use Rattle.conflict_edge.proofs.Reach.{online_clock_law, kept_clock_law}
use Rattle.conflict_edge.proofs.NewestFirst.{rising_back, stands_back}
use Rattle.online_reduce.specs.Rule.{clock_into, merged_with}
use Rattle.online_reduce.specs.Reduced.{Reduced, IsNext, clock_of, count_of, counted, retired, next_clock}
use Rattle.online_reduce.specs.Reduced.{OtherClocksLaw}
use Rattle.online_reduce.specs.Exact.{IsExact, last_of}
use Rattle.online_reduce.proofs.Clocks.{longer-fold, IsBelow, below_merged, merged_above, same_clock, up_clock}
use Rattle.online_reduce.proofs.ExactCandidates.{IsLed}
use Rattle.online_reduce.proofs.Step.{Next, found_of}
use Rattle.conflict_edge.proofs.AccessPlaces.{stands_which}

-- ---- a clock is put in its core's place

pub put_at : (r : Reduced) (core : ℕ) (new : Clock) → core < length r.clocks
    → slice_index_or (slice_set r.clocks core new) core no_counts ≡ new
put_at r core new lt = get_or-set_same r.clocks core new no_counts lt

pub put_other : (r : Reduced) (core other : ℕ) (new : Clock) → other ≢ core
    → slice_index_or (slice_set r.clocks core new) other no_counts ≡ clock_of r other
put_other r core other new d = get_or-set_other r.clocks core other new no_counts d

-- ---- the clock of an access

-- the merged clock, without its own place
merged_clock : (list : List Access) (r : Reduced) (a : Access) (t : Times) → Next list r a t → (i n : ℕ)
    → i < CORES_MAX → 1 ≤ n →
    IsBelow (clock_of r a.at.core) (found_of r a t) i n ↔ IsBelowMerged (reverse list) a i n
merged_clock list r a t next i n lt pos = (to, from)
  where
    to : IsBelow (clock_of r a.at.core) (found_of r a t) i n → IsBelowMerged (reverse list) a i n
    to (inl le) = inl (let e = next.before i lt in omega arith)
    to (inr q) = inr (
      q.0.at,
      next.found.candidate q.0 q.1,
      let e = next.found.exact q.0 q.1 i lt in let le = q.2 in
          omega arith,
    )

    rising : Rising (reverse list)
    rising = rising_back list next.exact.rise

    by : (z : Instr) → n ≤ clock (reverse list) z i → IsLed (reverse list) a (found_of r a t) z
        → IsBelow (clock_of r a.at.core) (found_of r a t) i n
    by z le (inl q) = inr (
      q.0,
      q.1,
      let e = next.found.exact q.0 q.1 i lt in let f = up_clock (reverse list) z q.0.at i n rising q.2 pos le in
          omega arith,
    )
    by z le (inr up) = inl (let e = next.before i lt in
        let f = up_clock (reverse list) z (previous a.at) i n rising up pos le in omega arith)

    from : IsBelowMerged (reverse list) a i n → IsBelow (clock_of r a.at.core) (found_of r a t) i n
    from (inl le) = inl (let e = next.before i lt in omega arith)
    from (inr q) = by q.0 q.2 (next.found.all q.0 q.1)

pub next_exact : (list : List Access) (r : Reduced) (a : Access) (t : Times) → Next list r a t
    → IsExactClock (list ++ (a ∷ [])) a.at (next_clock r a t)
unfolding clock_into
next_exact list r a t next i lt = by (cases_eq i a.at.core)
  where
    m : Clock
    m = fold merged_with (clock_of r a.at.core) (found_of r a t)

    room : a.at.core < length m
    room = let core = next.next.core in let few = next.exact.few in
        omega (arith, next.exact.wide a.at.core next.next.core, longer-fold (clock_of r a.at.core) (found_of r a t))

    same : i ≢ a.at.core → (k : ℕ) → 1 ≤ k → (k ≤ slice_index m i) ↔ (k ≤ clock (reverse (list ++ (a ∷ []))) a.at i)
    same d k pos = (
      λ le. ((online_clock_law list a next.rise).others i k d pos).1
          ((merged_clock list r a t next i k lt pos).0 (below_merged (clock_of r a.at.core) (found_of r a t) i k le)),
      λ le. merged_above (clock_of r a.at.core) (found_of r a t) i k
          ((merged_clock list r a t next i k lt pos).1 (((online_clock_law list a next.rise).others i k d pos).0 le)),
    )

    by : (i ≡ a.at.core) ⊎ (i ≢ a.at.core) → slice_index (slice_set m a.at.core a.at.count) i ≡ clock
        (reverse (list ++ (a ∷ []))) a.at i
    by (inl e) =
        ap (λ (k : ℕ). slice_index (slice_set m a.at.core a.at.count) k) e
        ∙ get_or-set_same m a.at.core a.at.count 0 room
        ∙ sym (online_clock_law list a next.rise).own
        ∙ ap (λ (k : ℕ). clock (reverse (list ++ (a ∷ []))) a.at k) (sym e)
    by (inr d) = get_or-set_other m a.at.core i a.at.count 0 d ∙ same_below (slice_index m i)
        (clock (reverse (list ++ (a ∷ []))) a.at i) (same d)

-- the clock of an access has its count at its own place
next_own : (list : List Access) (r : Reduced) (a : Access) (t : Times) → Next list r a t
    → slice_index (next_clock r a t) a.at.core ≡ a.at.count
unfolding clock_into
next_own list r a t next =
    get_or-set_same (fold merged_with (clock_of r a.at.core) (found_of r a t)) a.at.core a.at.count 0
    (let core = next.next.core in let few = next.exact.few in
    omega (arith, next.exact.wide a.at.core next.next.core, longer-fold (clock_of r a.at.core) (found_of r a t)))

next_wide : (list : List Access) (r : Reduced) (a : Access) (t : Times) → Next list r a t → CORES_MAX ≤ length
    (next_clock r a t)
unfolding clock_into
next_wide list r a t next =
    omega (
      arith,
      length-set (fold merged_with (clock_of r a.at.core) (found_of r a t)) a.at.core a.at.count,
      next.exact.wide a.at.core next.next.core,
      longer-fold (clock_of r a.at.core) (found_of r a t),
    )

-- ---- one core's clock changes

-- what the new clock of the core whose instruction retires is to be
record Fresh (list : List Access) (at : Instr) (new : Clock) : Type 0 where
  wide : CORES_MAX ≤ length new
  own : slice_index new at.core ≡ at.count
  exact : IsExactClock list at new

-- the core's clock is changed
abbrev with_clock : Reduced → List (List (ℕ × ℕ)) → ℕ → Clock → Reduced
with_clock r lists core new = record { cores = r.cores; clocks = slice_set r.clocks core new; lists = lists }

-- what the changed reduction has at each core
record Changed (list : List Access) (r : Reduced) (at : Instr) (s : Reduced) : Type 0 where
  own_count : count_of s at.core ≡ at.count
  other_count : (core : ℕ) → core ≢ at.core → count_of s core ≡ count_of r core
  wide : (core : ℕ) → core < r.cores → CORES_MAX ≤ length (clock_of s core)
  clocks : (core : ℕ) → core < r.cores → IsExactClock list (last_of s core) (clock_of s core)

changed : (list : List Access) (r : Reduced) (lists : List (List (ℕ × ℕ))) (at : Instr) (new : Clock)
    → at.core < length r.clocks → Fresh list at new →
    ((core : ℕ) → core < r.cores → CORES_MAX ≤ length (clock_of r core)) →
    ((core : ℕ) → core < r.cores → core ≢ at.core → IsExactClock list (last_of r core) (clock_of r core))
    → Changed list r at (with_clock r lists at.core new)
changed list r lists at new lt fresh wide others = record {
  own_count = ap (λ (m : Clock). slice_index m at.core) (put_at r at.core new lt) ∙ fresh.own;
  other_count = λ core d. ap (λ (m : Clock). slice_index m core) (put_other r at.core core new d);
  wide = λ core below. wider core below (cases_eq core at.core);
  clocks = λ core below. exact core below (cases_eq core at.core);
}
  where
    wider : (core : ℕ) → core < r.cores → (core ≡ at.core) ⊎ (core ≢ at.core) →
        CORES_MAX ≤ length (slice_index_or (slice_set r.clocks at.core new) core no_counts)
    wider core below (inl e) =
        subst (λ (k : ℕ). CORES_MAX ≤ length (slice_index_or (slice_set r.clocks at.core new) k no_counts)) (sym e)
        (subst (λ (m : Clock). CORES_MAX ≤ length m) (sym (put_at r at.core new lt)) fresh.wide)
    wider core below (inr d) = subst (λ (m : Clock). CORES_MAX ≤ length m) (sym (put_other r at.core core new d))
        (wide core below)

    Is : ℕ → Clock → Type 0
    Is core m = IsExactClock list (record { core = core; count = slice_index m core }) m

    own : IsExactClock list (record { core = at.core; count = slice_index new at.core }) new
    own = subst (λ (n : ℕ). IsExactClock list (record { core = at.core; count = n }) new) (sym fresh.own) fresh.exact

    exact : (core : ℕ) → core < r.cores → (core ≡ at.core) ⊎ (core ≢ at.core) →
        IsExactClock list
        (record {
          core = core;
          count = slice_index (slice_index_or (slice_set r.clocks at.core new) core no_counts)
              core;
        })
        (slice_index_or (slice_set r.clocks at.core new) core no_counts)
    exact core below (inl e) =
        subst (λ (k : ℕ). IsExactClock list
        (record { core = k; count = slice_index (slice_index_or (slice_set r.clocks at.core new) k no_counts) k })
        (slice_index_or (slice_set r.clocks at.core new) k no_counts)) (sym e)
        (subst (λ (m : Clock). IsExactClock list (record { core = at.core; count = slice_index m at.core }) m)
        (sym (put_at r at.core new lt)) own)
    exact core below (inr d) =
        subst (λ (m : Clock). IsExactClock list (record { core = core; count = slice_index m core }) m)
        (sym (put_other r at.core core new d))
        (others core below d)

grows : {list : List Access} (r : Reduced) (at : Instr) (s : Reduced) → Changed list r at s → IsNext r at → (core : ℕ)
    → count_of r core ≤ count_of s core
grows r at s parts next core = by (cases_eq core at.core)
  where
    by : (core ≡ at.core) ⊎ (core ≢ at.core) → count_of r core ≤ count_of s core
    by (inl e) =
        let now : count_of s core ≡ at.count = ap (count_of s) e ∙ parts.own_count in
        let was : count_of r core ≡ count_of r at.core = ap (count_of r) e in
        let more = next.count in
        omega arith
    by (inr d) = let same = parts.other_count core d in omega arith

-- ---- the two retirements

retired_parts : (list : List Access) (r : Reduced) (a : Access) (t : Times) → Next list r a t
    → Changed (list ++ (a ∷ [])) r a.at (retired r a t)
retired_parts list r a t next =
    changed (list ++ (a ∷ [])) r (retired r a t).lists a.at (next_clock r a t)
    (let core = next.next.core in let few = next.exact.few in let places = next.exact.places in omega arith)
    (record { wide = next_wide list r a t next; own = next_own list r a t next; exact = next_exact list r a t next })
    next.exact.wide
    (λ core below d i lt. next.exact.clocks core below i lt
    ∙ sym (kept_clock_law list a (last_of r core) i next.rise (λ (e : core ≡ a.at.core). absurd (d e))))

pub retired_exact : (list : List Access) (r : Reduced) (a : Access) (t : Times) → Next list r a t
    → IsExact (list ++ (a ∷ [])) (retired r a t)
retired_exact list r a t next = record {
  few = next.exact.few;
  places = length-set r.clocks a.at.core (next_clock r a t) ∙ next.exact.places;
  wide = parts.wide;
  rise = next.rise;
  within = λ b s. within b (stands_which list (a ∷ []) b s);
  clocks = parts.clocks;
}
  where
    parts : Changed (list ++ (a ∷ [])) r a.at (retired r a t)
    parts = retired_parts list r a t next

    count : (b : Access) → b.at.count ≤ count_of r b.at.core → (b.at.core ≡ a.at.core) ⊎ (b.at.core ≢ a.at.core) →
        b.at.count ≤ count_of (retired r a t) b.at.core
    count b le (inl e) =
        let now : count_of (retired r a t) b.at.core ≡ a.at.count = ap (count_of (retired r a t)) e ∙ parts.own_count in
        let was : count_of r b.at.core ≡ count_of r a.at.core = ap (count_of r) e in
        let more = next.next.count in
        omega arith
    count b le (inr d) = let same = parts.other_count b.at.core d in omega arith

    within : (b : Access) → StandsIn list b ⊎ StandsIn (a ∷ []) b → (b.at.core < r.cores)
        × (b.at.count ≤ count_of (retired r a t) b.at.core)
    within b (inl s) = let w = next.exact.within b s in (w.0, count b w.1 (cases_eq b.at.core a.at.core))
    within b (inr (inl e)) =
        subst (λ (v : Access). (v.at.core < r.cores) × (v.at.count ≤ count_of (retired r a t) v.at.core)) e (
          next.next.core,
          let same = parts.own_count in
              omega arith,
        )
    within b (inr (inr s)) = absurd s

pub retired_grows : (list : List Access) (r : Reduced) (a : Access) (t : Times) → Next list r a t → (core : ℕ)
    → count_of r core ≤ count_of (retired r a t) core
retired_grows list r a t next core = grows r a.at (retired r a t) (retired_parts list r a t next) next.next core

pub retired_own : (list : List Access) (r : Reduced) (a : Access) (t : Times) → Next list r a t
    → count_of (retired r a t) a.at.core ≡ a.at.count
retired_own list r a t next = (retired_parts list r a t next).own_count

counted_parts : (list : List Access) (r : Reduced) (at : Instr) → IsNext r at → IsExact list r → Changed list r at
    (counted r at)
counted_parts list r at next exact =
    changed list r r.lists at (slice_set (clock_of r at.core) at.core at.count)
    (let core = next.core in let few = exact.few in let places = exact.places in omega arith)
    (record {
      wide = omega (arith, length-set (clock_of r at.core) at.core at.count, exact.wide at.core next.core);
      own = at_own;
      exact = λ i lt. fresh_at i lt (cases_eq i at.core);
    })
    exact.wide
    (λ core below d. exact.clocks core below)
  where
    room : at.core < length (clock_of r at.core)
    room = let core = next.core in let few = exact.few in omega (arith, exact.wide at.core next.core)

    at_own : slice_index (slice_set (clock_of r at.core) at.core at.count) at.core ≡ at.count
    at_own = get_or-set_same (clock_of r at.core) at.core at.count 0 room

    fresh_at : (i : ℕ) → i < CORES_MAX → (i ≡ at.core) ⊎ (i ≢ at.core)
        → slice_index (slice_set (clock_of r at.core) at.core at.count) i
        ≡ clock (reverse list) at i
    fresh_at i lt (inl e) =
        ap (λ (k : ℕ). slice_index (slice_set (clock_of r at.core) at.core at.count) k) e
        ∙ at_own ∙ sym (own_clock (reverse list) at (rising_back list exact.rise))
        ∙ ap (λ (k : ℕ). clock (reverse list) at k) (sym e)
    fresh_at i lt (inr d) =
        get_or-set_other (clock_of r at.core) at.core i at.count 0 d
        ∙ exact.clocks at.core next.core i lt
        ∙ sym (same_clock (reverse list) (last_of r at.core) at i d refl (let e = next.count in omega arith) ends)
      where
        ends : (b : Access) → StandsIn (reverse list) b → b.at.core ≡ at.core → b.at.count ≤ count_of r at.core
        ends b s e = let le = (exact.within b (stands_back list b s)).1 in let same = ap (count_of r) e in omega arith

pub counted_exact : (list : List Access) (r : Reduced) (at : Instr) → IsNext r at → IsExact list r
    → IsExact list (counted r at)
counted_exact list r at next exact = record {
  few = exact.few;
  places = length-set r.clocks at.core (slice_set (clock_of r at.core) at.core at.count) ∙ exact.places;
  wide = parts.wide;
  rise = exact.rise;
  within = λ b s. let w = exact.within b s in (w.0, count b w.1 (cases_eq b.at.core at.core));
  clocks = parts.clocks;
}
  where
    parts : Changed list r at (counted r at)
    parts = counted_parts list r at next exact

    count : (b : Access) → b.at.count ≤ count_of r b.at.core → (b.at.core ≡ at.core) ⊎ (b.at.core ≢ at.core)
        → b.at.count ≤ count_of (counted r at) b.at.core
    count b le (inl e) =
        let now : count_of (counted r at) b.at.core ≡ at.count = ap (count_of (counted r at)) e ∙ parts.own_count in
        let was : count_of r b.at.core ≡ count_of r at.core = ap (count_of r) e in
        let more = next.count in
        omega arith
    count b le (inr d) = let same = parts.other_count b.at.core d in omega arith

pub counted_grows : (list : List Access) (r : Reduced) (at : Instr) → IsNext r at → IsExact list r → (core : ℕ)
    → count_of r core ≤ count_of (counted r at) core
counted_grows list r at next exact core = grows r at (counted r at) (counted_parts list r at next exact) next core

-- the clock noted for the access is exact for it
pub noted_exact : (list : List Access) (r : Reduced) (a : Access) (t : Times) → Next list r a t →
    IsExactClock (list ++ (a ∷ [])) a.at (clock_of (retired r a t) a.at.core)
noted_exact list r a t next =
    subst (λ (m : Clock). IsExactClock (list ++ (a ∷ [])) a.at m)
    (sym (put_at r a.at.core (next_clock r a t) (let core = next.next.core in let few = next.exact.few in
    let places = next.exact.places in omega arith)))
    (next_exact list r a t next)

pub other_clocks_law : OtherClocksLaw
other_clocks_law r core = (
  (λ at d. put_other r at.core core (slice_set (clock_of r at.core) at.core at.count) d),
  (λ a t d. put_other r a.at.core core (next_clock r a t) d),
)
