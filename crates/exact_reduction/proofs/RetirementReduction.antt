-- A retirement with an access keeps the reduction.
use Rattle.std.proofs.Common.{◌≡◌, ◌≢◌, ◌∙◌, refl, sym, ap, subst, ℕ, ◌+◌, List, [], ◌∷◌, ◌++◌, Option, Some, None}
use Rattle.std.proofs.Common.{inl, inr, arith}
use Rattle.std.specs.Prelude.{reverse, slice_index}
use Rattle.std.proofs.lemmas.List.{get_or-set_same}
use Rattle.access_times.specs.Times.{times_riding}
use Rattle.access_times.specs.declared.times.Times.{Times}
use Rattle.clock_core.specs.Counts.{no_counts}
use Rattle.clock_core.specs.declared.clock.Clock.{Clock}
use Rattle.rtr_types.specs.declared.access.Access.{Access}
use Rattle.rtr_types.specs.declared.instr.Instr.{Instr}
use Rattle.conflict_edge.proofs.Reach.{kept_clock_law, rising_next}
use Rattle.conflict_edge.proofs.NewestFirst.{stands_forth}
use Rattle.conflict_edge.specs.Conflicts.{CountsRise, StandsIn}
use Rattle.conflict_edge.specs.Times.{IsExactClock}
use Rattle.msi_memory.specs.declared.port.Port.{Port}
use Rattle.msi_memory.specs.Memories.{rider_at}
use Rattle.msi_state.specs.Events.{Event, Nothing, Retires, Accesses, rider_of_event}
use Rattle.machine_times.proofs.ExactTimes.{exact_times_law}
use Rattle.machine_times.specs.ExactTimes.{FindsExactTimes, HaveExactClocks, IsClockOf, retired_accesses, with_access}
use Rattle.machine_times.specs.Retirements.{IsExactRider, Retirement, noted_accesses}
use Rattle.machine_times.specs.TimedSteps.{times_parts}
use Rattle.online_reduce.proofs.ExactNext.{other_clocks_law, retired_own}
use Rattle.online_reduce.proofs.Reductions.{retire_law}
use Rattle.online_reduce.proofs.Step.{next_of}
use Rattle.online_reduce.specs.Exact.{AreExactFor, IsExact, IsReduction}
use Rattle.online_reduce.specs.Reduced.{IsNext, Reduced, clock_of, count_of, counted, edges_of, retired}
use Rattle.exact_reduction.specs.Reducing.{AccessReducesLaw, FoundExactLaw}

-- ---- what an access finds

-- the times that an access finds are exact for it
pub found_exact : FoundExactLaw
found_exact list a rider found = record {
  write_is = found.write;
  read_is = λ writes core lt. (found.times writes).read_is core lt;
}

-- so are those that the access of an event finds, since the noted clocks are
pub event_exact : {K : Type 0} → (e : Event) (p : Port Times K) (list : List Retirement) (all : List Access) →
    retired_accesses list ≡ all → HaveExactClocks all list →
    ((a : Access) → e ≡ Accesses a →
    IsExactRider times_parts (noted_accesses (reverse list)) a (rider_at times_riding p a.word)) → (a : Access) →
    e ≡ Accesses a → AreExactFor all a (rider_of_event times_riding e p)
event_exact Nothing p list all are exact finds a is = absurd cc
event_exact (Retires at) p list all are exact finds a is = absurd cc
event_exact (Accesses b) p list all are exact finds a is =
    subst (λ (x : Access). AreExactFor all x (rider_at times_riding p b.word)) same
    (found_exact all b (rider_at times_riding p b.word)
    (subst (λ (l : List Access). FindsExactTimes l b (rider_at times_riding p b.word)) are
    (exact_times_law list b (rider_at times_riding p b.word)
    (subst (λ (l : List Access). HaveExactClocks l list) (sym are) exact) (finds b refl))))
  where
    same : b ≡ a
    same = cc

-- ---- the accesses and the clocks of one retirement more

pub accesses_more : (list : List Retirement) (r : Retirement) → retired_accesses (list ++ r ∷ []) ≡ retired_accesses
    list ++ with_access r.access []
accesses_more [] r = refl
accesses_more (q ∷ list) r = by q.access (accesses_more list r)
  where
    by : (o : Option Access) → retired_accesses (list ++ r ∷ []) ≡ retired_accesses list ++ with_access r.access [] →
        with_access o (retired_accesses (list ++ r ∷ [])) ≡ with_access o (retired_accesses list) ++ with_access
        r.access []
    by None same = same
    by (Some a) same = ap (λ (l : List Access). a ∷ l) same

pub clocks_more : (all : List Access) (list : List Retirement) (r : Retirement) → HaveExactClocks all list →
    IsClockOf all r.access r.clock →
    HaveExactClocks all (list ++ r ∷ [])
clocks_more all [] r exact own = (own, tt)
clocks_more all (q ∷ list) r exact own = (exact.0, clocks_more all list r exact.1 own)

-- an exact clock of an access stays exact where another access comes after
clock_stays : (all : List Access) (a b : Access) (clock : Clock) → CountsRise (all ++ a ∷ []) → StandsIn all b →
    IsExactClock all b.at clock →
    IsExactClock (all ++ a ∷ []) b.at clock
clock_stays all a b clock rise stands exact i lt =
    exact i lt ∙ sym (kept_clock_law all a b.at i rise (λ (same : b.at.core ≡ a.at.core). (rising_next all a rise).1 b
    (stands_forth all b stands) same))

clocks_stay : (all : List Access) (a : Access) (list : List Retirement) → CountsRise (all ++ a ∷ []) →
    ((b : Access) → StandsIn (retired_accesses list) b → StandsIn all b) → HaveExactClocks all list →
    HaveExactClocks (all ++ a ∷ []) list
clocks_stay all a [] rise within exact = tt
clocks_stay all a (q ∷ list) rise within exact =
    by q.access within exact.0 (λ inside. clocks_stay all a list rise inside exact.1)
  where
    by : (o : Option Access) → ((b : Access) → StandsIn (with_access o (retired_accesses list)) b → StandsIn all b) →
        IsClockOf all o q.clock →
        (((b : Access) → StandsIn (retired_accesses list) b → StandsIn all b) → HaveExactClocks (all ++ a ∷ []) list) →
        IsClockOf (all ++ a ∷ []) o q.clock × HaveExactClocks (all ++ a ∷ []) list
    by None inside own rest = (tt, rest inside)
    by (Some b) inside own rest = (
      clock_stays all a b q.clock rise (inside b (inl refl)) own,
      rest (λ d s. inside d (inr s)),
    )

-- ---- the counts

-- the counts of a reduction of which one clock changed
pub record Counted (r : Reduced) (at : Instr) (next : Reduced) : Type 0 where
  pub cores : next.cores ≡ r.cores
  pub own : count_of next at.core ≡ at.count
  pub others : (core : ℕ) → core ≢ at.core → count_of next core ≡ count_of r core

pub local_counted : (list : List Access) (r : Reduced) (at : Instr) → IsExact list r → IsNext r at →
    Counted r at (counted r at)
local_counted list r at exact next = record {
  cores = refl;
  own = ap (λ (c : Clock). slice_index c at.core) (get_or-set_same r.clocks at.core _ no_counts (let core = next.core in
      let few = exact.few in
      let places = exact.places in omega arith))
      ∙ get_or-set_same (clock_of r at.core) at.core at.count 0 (let core = next.core in let few = exact.few in
      omega (arith, exact.wide at.core next.core));
  others = λ core differ. ap (λ (c : Clock). slice_index c core) ((other_clocks_law r core).0 at differ);
}

pub access_counted : (list : List Access) (r : Reduced) (a : Access) (rider : Times) → IsExact list r → IsNext r a.at →
    AreExactFor list a rider →
    Counted r a.at (retired r a rider)
access_counted list r a rider exact next times = record {
  cores = refl;
  own = retired_own list r a rider (next_of list r a rider exact next times);
  others = λ core differ. ap (λ (c : Clock). slice_index c core) ((other_clocks_law r core).1 a rider differ);
}

-- ---- a retirement with an access

pub access_reduces : AccessReducesLaw
access_reduces list all r edges a rider next times h =
    let q : Retirement = record { at = a.at; access = Some a; clock = clock_of (retired r a rider) a.at.core } in
    let reduction : IsReduction (all ++ a ∷ []) (retired r a rider) (edges ++ edges_of r a rider) =
    retire_law all r edges a rider next times h.reduction in
    let own : count_of (retired r a rider) a.at.core ≡ a.at.count =
    retired_own all r a rider (next_of all r a rider h.reduction.exact next times) in
    let exact : IsExactClock (all ++ a ∷ []) a.at (clock_of (retired r a rider) a.at.core) =
    subst (λ (n : ℕ). IsExactClock (all ++ a ∷ []) (record { core = a.at.core; count = n })
    (clock_of (retired r a rider) a.at.core)) own
    (reduction.exact.clocks a.at.core next.core) in
    record {
      accesses_are = accesses_more list q ∙ ap (λ (l : List Access). l ++ a ∷ []) h.accesses_are;
      exact = clocks_more (all ++ a ∷ []) list q
          (clocks_stay all a list reduction.exact.rise (λ b s. subst (λ (l : List Access). StandsIn l b) h.accesses_are
          s) h.exact) exact;
      reduction = reduction;
    }
