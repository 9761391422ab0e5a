-- What the reduction comes to by what is told in one step. Told lists are gone through one by one: each entry is its
-- core's next by count, only the first may be an access, and that has exact times. So the reduction counts on.
use Rattle.std.proofs.Common.{◌≡◌, ◌∙◌, refl, sym, ap, subst, ℕ, ◌+◌, ◌<◌, Bool, true, false, List, [], ◌∷◌, ◌++◌}
use Rattle.std.proofs.Common.{append-nil, length, Some, arith}
use Rattle.std.specs.Prelude.{drop, reverse, if◌then◌else◌}
use Rattle.std.proofs.lemmas.List.{reverse-append}
use native.Mathlib.Decide.{ℕ_discrete}
use Rattle.access_times.specs.Times.{times_noted, times_riding}
use Rattle.access_times.specs.declared.times.Times.{Times}
use Rattle.clock_core.specs.declared.clock.Clock.{Clock}
use Rattle.link_order.specs.Queue.{is_nil}
use Rattle.rtr_types.specs.declared.access.Access.{Access}
use Rattle.rtr_types.specs.declared.instr.Edge.{Edge}
use Rattle.machine_times.proofs.RiderLaws.{times_notes}
use Rattle.machine_times.specs.History.{NotedAccess}
use Rattle.machine_times.specs.Retirements.{Retirement, RiderNotes, noted_accesses, noted_after}
use Rattle.machine_times.specs.TimedSteps.{times_parts}
use Rattle.msi_memory.specs.declared.port.Port.{Port}
use Rattle.msi_memory.specs.Memories.{rider_at}
use Rattle.msi_state.specs.Events.{Event as ClerkEvent, Nothing as NothingTold, Retires, Accesses, rider_of_event}
use Rattle.online_reduce.specs.Exact.{AreExactFor}
use Rattle.online_reduce.specs.Reduced.{IsNext, Reduced, clock_of, count_of, counted, edges_of, retired}
use Rattle.tso_state.specs.Events.{Event, Nothing, Executes, Buffers, Performs, Drains, Logs, Told, Alone, Ordered}
use Rattle.tso_state.specs.Events.{Logged, instr_told, tellings}
use Rattle.tso_state.specs.States.{BufferedCore}
use Rattle.tso_times.specs.Timed.{RiderFits, ordering_of}
use Rattle.tso_told.specs.Played.{AreInside, ordered_told, told_of}
use Rattle.tso_told.proofs.InOrder.{CountFrom, first_own, first_else}
use Rattle.tso_told.proofs.OrderedAndLogged.{none_ordered}
use Rattle.exact_reduction.specs.Reducing.{ReducesExactly}
use Rattle.tso_records.specs.Standings.{AreNextOf, clock_told, edges_told, reduced_told, times_left}
use Rattle.exact_reduction.proofs.RetirementReduction.{Counted, access_counted, access_reduces, local_counted}
use Rattle.tso_records.proofs.ReducedOnce.{local_reduces}

-- ---- what the reduction awaits

-- what is told of each core goes on from the core's count
abbrev pub Awaits : Reduced → List Told → Type 0
Awaits r list = (c : ℕ) → c < r.cores → CountFrom (count_of r c) (told_of c list)

next_is : (r : Reduced) (e : Told) (list : List Told) → AreInside r.cores (e ∷ list) → Awaits r (e ∷ list) →
    IsNext r (instr_told e)
next_is r e list inside awaits =
    let own : CountFrom (count_of r (instr_told e).core) (e ∷ told_of (instr_told e).core list) =
    subst (CountFrom (count_of r (instr_told e).core)) (first_own e list) (awaits (instr_told e).core inside.0) in
    record { core = inside.0; count = own.0 }

-- the count that a core has once the first was told
one_more : (r next : Reduced) (e : Told) → Counted r (instr_told e) next → IsNext r (instr_told e) →
    count_of next (instr_told e).core ≡ count_of r (instr_told e).core + 1
one_more r next e counted is = counted.own ∙ is.count

awaits_next : (r next : Reduced) (e : Told) (list : List Told) → Counted r (instr_told e) next →
    AreInside r.cores (e ∷ list) → Awaits r (e ∷ list) → Awaits next list
awaits_next r next e list counted inside awaits c lt = elim (ℕ_discrete c (instr_told e).core) [
  | yes same ↦
      let own : CountFrom (count_of r (instr_told e).core) (e ∷ told_of (instr_told e).core list) =
      subst (CountFrom (count_of r (instr_told e).core)) (first_own e list) (awaits (instr_told e).core inside.0) in
      subst (λ (x : ℕ). CountFrom (count_of next x) (told_of x list)) (sym same)
      (subst (λ (n : ℕ). CountFrom n (told_of (instr_told e).core list))
      (sym (one_more r next e counted (next_is r e list inside awaits))) own.1)
  | no ne ↦
      subst (λ (n : ℕ). CountFrom n (told_of c list)) (sym (counted.others c ne))
      (subst (CountFrom (count_of r c)) (first_else c e list (λ is. ne (sym is)))
      (awaits c (subst (λ (n : ℕ). c < n) counted.cores lt)))
]

inside_next : (r next : Reduced) (e : Told) (list : List Told) → Counted r (instr_told e) next →
    AreInside r.cores (e ∷ list) → AreInside next.cores list
inside_next r next e list counted inside = subst (λ (n : ℕ). AreInside n list) (sym counted.cores) inside.1

counts_next : (r next : Reduced) (e : Told) (list : List Told) → Counted r (instr_told e) next →
    IsNext r (instr_told e) → (c : ℕ) →
    count_of next c + length (told_of c list) ≡ count_of r c + length (told_of c (e ∷ list))
counts_next r next e list counted is c = elim (ℕ_discrete c (instr_told e).core) [
  | yes same ↦
      let d = (instr_told e).core in
      let one = one_more r next e counted is in
      let longer : length (told_of d (e ∷ list)) ≡ length (e ∷ told_of d list) = ap length (first_own e list) in
      let here : count_of next d + length (told_of d list) ≡ count_of r d + length (told_of d (e ∷ list)) =
      omega arith in
      subst (λ (x : ℕ). count_of next x + length (told_of x list) ≡ count_of r x + length (told_of x (e ∷ list)))
      (sym same) here
  | no ne ↦
      ap (λ (n : ℕ). n + length (told_of c list)) (counted.others c ne)
      ∙ ap (λ (l : List Told). count_of r c + length l) (sym (first_else c e list (λ is. ne (sym is))))
]

-- ---- instructions that touch no data

record Locals (list : List Retirement) (all : List Access) (r : Reduced) (edges : List Edge) (found : Times)
    (more : List Told) : Type 0 where
  next : AreNextOf r found more
  none : edges_told r found more ≡ []
  reduces : ReducesExactly list all (reduced_told r found more) edges
  cores : (reduced_told r found more).cores ≡ r.cores
  counts : (c : ℕ) → count_of (reduced_told r found more) c ≡ count_of r c + length (told_of c more)

-- of one before others the reduction takes its count alone
record JustCounts (r : Reduced) (found : Times) (e : Told) (more : List Told) : Type 0 where
  next : IsNext r (instr_told e) → AreNextOf (counted r (instr_told e)) found more → AreNextOf r found (e ∷ more)
  edges : edges_told r found (e ∷ more) ≡ edges_told (counted r (instr_told e)) found more
  reduced : reduced_told r found (e ∷ more) ≡ reduced_told (counted r (instr_told e)) found more

-- so it may stand before others that touch no data
local_first : (list : List Retirement) (all : List Access) (r : Reduced) (edges : List Edge) (found : Times) (e : Told)
    (more : List Told) → JustCounts r found e more → AreInside r.cores (e ∷ more) → Awaits r (e ∷ more) →
    ReducesExactly list all r edges →
    (AreInside (counted r (instr_told e)).cores more → Awaits (counted r (instr_told e)) more →
    ReducesExactly list all (counted r (instr_told e)) edges →
    Locals list all (counted r (instr_told e)) edges found more) → Locals list all r edges found (e ∷ more)
local_first list all r edges found e more just inside awaits h later =
    let at = instr_told e in
    let next = next_is r e more inside awaits in
    let counted_is = local_counted all r at h.reduction.exact next in
    let rest = later (inside_next r (counted r at) e more counted_is inside)
    (awaits_next r (counted r at) e more counted_is inside awaits) (local_reduces list all r edges at next h) in
    record {
      next = just.next next rest.next;
      none = just.edges ∙ rest.none;
      reduces = subst (λ (q : Reduced). ReducesExactly list all q edges) (sym just.reduced) rest.reduces;
      cores = ap (λ (q : Reduced). q.cores) just.reduced ∙ rest.cores ∙ counted_is.cores;
      counts = λ c. ap (λ (q : Reduced). count_of q c) just.reduced ∙ rest.counts c
          ∙ counts_next r (counted r at) e more counted_is next c;
    }

locals_told : (list : List Retirement) (all : List Access) (r : Reduced) (edges : List Edge) (found : Times)
    (more : List Told) → ordered_told more ≡ [] →
    AreInside r.cores more → Awaits r more → ReducesExactly list all r edges → Locals list all r edges found more
locals_told list all r edges found [] local inside awaits h =
    record {
      next = tt;
      none = refl;
      reduces = h;
      cores = refl;
      counts = λ c. let same : count_of r c ≡ count_of r c + 0 =
          omega arith in same;
    }
locals_told list all r edges found (Alone at ∷ more) local inside awaits h =
    local_first list all r edges found (Alone at) more (record { next = λ i n. (i, n); edges = refl; reduced = refl })
    inside awaits h (λ i w k. locals_told list all (counted r at) edges found more local i w k)
locals_told list all r edges found (Ordered a ∷ more) local inside awaits h = absurd (some a (ordered_told more) local)
  where
    some : (x : Access) (xs : List Access) → x ∷ xs ≡ [] → ⊥
    some x xs e = absurd cc
locals_told list all r edges found (Logged at word value ∷ more) local inside awaits h =
    local_first list all r edges found (Logged at word value) more
    (record { next = λ i n. (i, n); edges = refl; reduced = refl }) inside awaits h
    (λ i w k. locals_told list all (counted r at) edges found more local i w k)

-- ---- one step

-- none but the first that is told is an access
abbrev pub LocalBehind : List Told → Type 0
LocalBehind [] = Unit {0}
LocalBehind (e ∷ more) = ordered_told more ≡ []

-- which finds exact times
abbrev pub FindsExact : List Access → Times → List Told → Type 0
FindsExact all found [] = Unit {0}
FindsExact all found (Alone at ∷ more) = Unit {0}
FindsExact all found (Ordered a ∷ more) = AreExactFor all a found
FindsExact all found (Logged at word value ∷ more) = Unit {0}

-- the accesses with that one, with the clock that the reduction gives it
abbrev pub noted_told : Reduced → Times → List Told → List NotedAccess → List NotedAccess
noted_told r found [] h = h
noted_told r found (Alone at ∷ more) h = h
noted_told r found (Ordered a ∷ more) h = record { access = a; clock = clock_of (retired r a found) a.at.core } ∷ h
noted_told r found (Logged at word value ∷ more) h = h

pub record After (list : List Retirement) (all : List Access) (r : Reduced) (edges : List Edge) (found : Times)
    (more : List Told) : Type 0 where
  pub later : List Retirement
  pub next : AreNextOf r found more
  pub noted : noted_accesses (reverse later) ≡ noted_told r found more (noted_accesses (reverse list))
  pub reduces : ReducesExactly later (all ++ ordered_told more) (reduced_told r found more)
      (edges ++ edges_told r found more)
  pub cores : (reduced_told r found more).cores ≡ r.cores
  pub counts : (c : ℕ) → count_of (reduced_told r found more) c ≡ count_of r c + length (told_of c more)

-- where no access is told
locals_after : (list : List Retirement) (all : List Access) (r : Reduced) (edges : List Edge) (found : Times)
    (more : List Told) → ordered_told more ≡ [] →
    noted_told r found more (noted_accesses (reverse list)) ≡ noted_accesses (reverse list) →
    AreInside r.cores more → Awaits r more → ReducesExactly list all r edges → After list all r edges found more
locals_after list all r edges found more local noted inside awaits h =
    let it = locals_told list all r edges found more local inside awaits h in
    record {
      later = list;
      next = it.next;
      noted = sym noted;
      reduces = subst (λ (l : List Access). ReducesExactly list l (reduced_told r found more)
          (edges ++ edges_told r found more))
          (sym (ap (λ (l : List Access). all ++ l) local ∙ append-nil all))
          (subst (λ (l : List Edge). ReducesExactly list all (reduced_told r found more) l)
          (sym (ap (λ (l : List Edge). edges ++ l) it.none ∙ append-nil edges)) it.reduces);
      cores = it.cores;
      counts = it.counts;
    }

pub told_after : (list : List Retirement) (all : List Access) (r : Reduced) (edges : List Edge) (found : Times)
    (more : List Told) → LocalBehind more →
    FindsExact all found more → AreInside r.cores more → Awaits r more → ReducesExactly list all r edges →
    After list all r edges found more
told_after list all r edges found [] local exact inside awaits h =
    locals_after list all r edges found [] refl refl inside awaits h
told_after list all r edges found (Alone at ∷ more) local exact inside awaits h =
    locals_after list all r edges found (Alone at ∷ more) local refl inside awaits h
told_after list all r edges found (Logged at word value ∷ more) local exact inside awaits h =
    locals_after list all r edges found (Logged at word value ∷ more) local refl inside awaits h
told_after list all r edges found (Ordered a ∷ more) local exact inside awaits h =
    let next = next_is r (Ordered a) more inside awaits in
    let counted_is = access_counted all r a found h.reduction.exact next exact in
    let q : Retirement = record { at = a.at; access = Some a; clock = clock_of (retired r a found) a.at.core } in
    let first = access_reduces list all r edges a found next exact h in
    let rest = locals_told (list ++ q ∷ []) (all ++ a ∷ []) (retired r a found)
    (edges ++ edges_of r a found) found more local
    (inside_next r (retired r a found) (Ordered a) more counted_is inside)
    (awaits_next r (retired r a found) (Ordered a) more counted_is inside awaits) first in
    record {
      later = list ++ q ∷ [];
      next = (next, rest.next);
      noted = ap noted_accesses (reverse-append list (q ∷ []));
      reduces = subst (λ (l : List Access). ReducesExactly (list ++ q ∷ []) l
          (reduced_told (retired r a found) found more)
          (edges ++ (edges_of r a found ++ edges_told (retired r a found) found more)))
          (ap (λ (l : List Access). all ++ a ∷ l) (sym local))
          (subst (λ (l : List Edge). ReducesExactly (list ++ q ∷ []) (all ++ a ∷ [])
          (reduced_told (retired r a found) found more) l)
          (sym (ap (λ (l : List Edge). edges ++ (edges_of r a found ++ l)) rest.none
          ∙ ap (λ (l : List Edge). edges ++ l) (append-nil (edges_of r a found))))
          rest.reduces);
      cores = rest.cores ∙ counted_is.cores;
      counts = λ c. rest.counts c ∙ counts_next r (retired r a found) (Ordered a) more counted_is next c;
    }

-- ---- what an event tells

pub local_behind : (t : BufferedCore) (e : Event) → LocalBehind (tellings t e)
local_behind t Nothing = tt
local_behind t (Executes at) = by_nil (is_nil t.queue)
  where
    by_nil : (b : Bool) → LocalBehind (if b then Alone at ∷ [] else [])
    by_nil true = refl
    by_nil false = tt
local_behind t (Buffers at x) = tt
local_behind t (Performs a) = refl
local_behind t (Drains a) = none_ordered t.core a.at.count (drop 1 t.queue)
local_behind t (Logs at word value) = none_ordered t.core at.count (drop 1 t.queue)

pub finds_exact_by : (t : BufferedCore) (e : Event) (all : List Access) (found : Times) →
    ((a : Access) → ordering_of e ≡ Accesses a → AreExactFor all a found) → FindsExact all found (tellings t e)
finds_exact_by t Nothing all found h = tt
finds_exact_by t (Executes at) all found h = by_nil (is_nil t.queue)
  where
    by_nil : (b : Bool) → FindsExact all found (if b then Alone at ∷ [] else [])
    by_nil true = tt
    by_nil false = tt
finds_exact_by t (Buffers at x) all found h = tt
finds_exact_by t (Performs a) all found h = h a refl
finds_exact_by t (Drains a) all found h = h a refl
finds_exact_by t (Logs at word value) all found h = tt

pub noted_by_event : (t : BufferedCore) (e : Event) (r : Reduced) (found : Times) (h : List NotedAccess) →
    noted_told r found (tellings t e) h ≡ noted_after (ordering_of e) (clock_told r (ordering_of e) found) h
noted_by_event t Nothing r found h = refl
noted_by_event t (Executes at) r found h = by_nil (is_nil t.queue)
  where
    by_nil : (b : Bool) → noted_told r found (if b then Alone at ∷ [] else []) h ≡ h
    by_nil true = refl
    by_nil false = refl
noted_by_event t (Buffers at x) r found h = refl
noted_by_event t (Performs a) r found h = refl
noted_by_event t (Drains a) r found h = refl
noted_by_event t (Logs at word value) r found h = refl

-- ---- the times that are left

pub times_fit : {K : Type 0} (e : ClerkEvent) (p : Port Times K) (r : Reduced) →
    RiderFits times_parts (clock_told r e (rider_of_event times_riding e p))
    (times_left r e (rider_of_event times_riding e p)) e p
times_fit NothingTold p r a is = absurd cc
times_fit (Retires at) p r a is = absurd cc
times_fit (Accesses b) p r a is =
    subst (λ (x : Access). RiderNotes times_parts (record { access = x; clock = clock })
    (rider_at times_riding p x.word) (times_noted b (rider_at times_riding p b.word) clock)) same
    (times_notes b clock (rider_at times_riding p b.word))
  where
    clock : Clock
    clock = clock_of (retired r b (rider_at times_riding p b.word)) b.at.core

    same : b ≡ a
    same = cc
