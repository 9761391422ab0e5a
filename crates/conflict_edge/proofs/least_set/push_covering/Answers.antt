-- From the newest access back: what is known so far is what the accesses looked at lead to, so an access that conflicts
-- and isn't known is a covering source.
use Rattle.std.proofs.Common.{arith, ◌≡◌, ℕ, ◌<◌, ◌≤◌, ◌-◌, drop, reverse, zero, suc, slice_index}
use Rattle.std.proofs.Common.{slice_index_or, List, [], ◌∷◌, inl, inr, sym, ◌∙◌}
use Rattle.std.proofs.Common.{refl, ap, subst, Vec, Global}
use Rattle.rtr_types.specs.declared.access.Access.{Access}
use Rattle.rtr_types.specs.declared.access.Kind.TheVariants.{Load}
use Rattle.rtr_types.specs.declared.instr.Edge.{Edge}
use Rattle.rtr_types.specs.declared.TheConstants.{CORES_MAX}
use Rattle.clock_core.specs.declared.clock.Clock.{Clock}
use Rattle.conflict_edge.specs.Times.{IsExactClock}
use Rattle.conflict_edge.proofs.Once.{Noted, noted_push, noted_skip}
use Rattle.conflict_edge.proofs.NewestFirst.{stands_forth}
use Rattle.conflict_edge.proofs.Scan.{Direct, Reached, FoundFrom}
use Rattle.conflict_edge.proofs.ScanSteps.{At, at, test_no, fact_no, not_direct, stands_at, skip_reached, merge_reached}
use Rattle.conflict_edge.proofs.ScanSteps.{no_conflict, covered, end_clock}
use Rattle.conflict_edge.proofs.ScanSteps.{end_found}
use Rattle.conflict_edge.proofs.least_set.push_covering.Goals as goal
use Rattle.conflict_edge.proofs.least_set.push_covering.Goals.{then-conflict+then-not-covers+in_ok-push, else-conflict}
use Rattle.conflict_edge.proofs.least_set.push_covering.Goals.{else-conflict-via-then-conflict+else-not-covers}
use Rattle.conflict_edge.proofs.least_set.push_covering.Goals.{else-conflict-via-else-conflict}
use Rattle.conflict_edge.proofs.least_set.push_covering.Goals.{then-conflict-2-via-then-conflict-2}
use Rattle.conflict_edge.proofs.least_set.push_covering.Goals.{then-conflict-2-via-else-conflict-2+then-source-access}
use Rattle.conflict_edge.proofs.least_set.push_covering.Goals.{Joined-conflict}
use Rattle.conflict_edge.proofs.History.{Rising}
use Rattle.conflict_edge.proofs.Reach.{rising_next}
use Rattle.conflict_edge.proofs.AccessPlaces.{stands_left, stands_right}

-- what stands at an index past the end
abbrev nothing : Access
nothing = record { at = record { core = 0; count = 0 }; word = 0; kind = Load; before = 0; after = 0 }

-- a clock that is read from the list is exact where the one at its place is
exact_clock : (list : List Access) (b : Access) (clocks : List Clock) (place : ℕ) (clock : Clock) →
    clock ≡ slice_index_or clocks place clock →
    IsExactClock list b.at (slice_index_or clocks place clock) → IsExactClock list b.at clock
exact_clock list b clocks place clock is exact = subst (λ (read : Clock). IsExactClock list b.at read) (sym is) exact

pub covers-requires : goal.covers-requires
covers-requires c = c.requires.cores _
    (stands_left c.args.earlier.now (c.args.access.now ∷ []) _ (stands_at c.args.earlier.now (c.loop-place.place - 1) _
    (omega arith)))

-- the access that is read, where it stands, and that counts rise
abbrev read : (c : Joined-conflict) → Access
read c = slice_index_or c.args.earlier.now (c.loop-place.place - 1) nothing

around : (c : Joined-conflict) → At c.args.earlier.now c.loop-place.place (read c)
around c = at c.args.earlier.now c.loop-place.place nothing c.loop-place-test.true c.loop-place.auto.place

rises : (c : Joined-conflict) → Rising (c.args.access.now ∷ reverse c.args.earlier.now)
rises c = rising_next c.args.earlier.now c.args.access.now c.requires.rise

-- the edge is noted where the access is a source that isn't known
noted : (c : Joined-conflict) → Noted c.args.earlier.now c.loop-place.place c.args.access.now c.args.edges.now.items
    c.if-conflict.edges.items
noted c =
    let b = read c in
    let at_b = stands_at c.args.earlier.now (c.loop-place.place - 1) nothing (omega arith) in
    let fits : b.at.core < CORES_MAX = c.requires.cores b (stands_left c.args.earlier.now (c.args.access.now ∷ []) b
    at_b) in
    let kept = c.loop-place.invariant in
    elim c.if-conflict.branch [
      | then-conflict+then-not-covers+in_ok-push w ↦
          noted_push c.args.earlier.now c.loop-place.place c.args.access.now b _ _ _ _ (around c) (rises c) fits
          (c.conflicts-conflict.ensures.fact.0 w.if-conflict.true) c.requires.apart
          kept.reached (test_no w.covers.result _ _ w.covers.ensures w.if-not-covers.true) kept.found kept.once
          (ap (λ (v : Vec Edge Global). v.items) w.edges-is ∙ w.in_ok-push.ensures.items)
      | else-conflict w ↦
          let left = noted_skip c.args.earlier.now c.loop-place.place c.args.access.now b _ _ _ (around c) in
          elim w.else-conflict.branch [
            | else-conflict-via-then-conflict+else-not-covers v ↦
                left (covered c.args.earlier.now c.loop-place.place c.args.access.now b _ (around c) (rises c) fits
                kept.reached (v.covers.ensures.0 v.if-not-covers.false)) kept.found kept.once
                (ap (λ (e : Vec Edge Global). e.items) w.edges-is)
            | else-conflict-via-else-conflict v ↦
                left (no_conflict c.args.earlier.now c.args.access.now b (rises c)
                (stands_forth c.args.earlier.now b at_b)
                (fact_no _ c.conflicts-conflict.result c.conflicts-conflict.ensures.fact.1
                v.if-conflict.false)) kept.found kept.once
                (ap (λ (e : Vec Edge Global). e.items) w.edges-is)
          ]
    ]

pub loop-place-preserved-in-loop-place : goal.loop-place-preserved-in-loop-place
loop-place-preserved-in-loop-place c =
    let here = (goal.at.loop-place-preserved-in-loop-place c).Joined-conflict in
    let b = read here in
    let direct : Direct b c.args.access.now =
    elim c.then-conflict-2.branch [
      | then-conflict-2-via-then-conflict-2 w ↦ inr (c.conflicts-conflict.ensures.fact.0 w.if-conflict-2.true)
      | then-conflict-2-via-else-conflict-2+then-source-access w ↦ inl w.if-source-access.true
    ] in
    let exact = exact_clock c.args.earlier.now b c.args.clocks.now (c.loop-place.place - 1) c.index-clocks-place.result
    c.index-clocks-place.is
    (c.requires.exact (c.loop-place.place - 1) nothing c.index-clocks-place.result (omega arith)) in
    record {
      reached = merge_reached c.args.earlier.now c.loop-place.place c.args.access.now b _ _ _ (around here) direct
          exact c.merge-known.ensures.places c.loop-place.invariant.reached;
      found = (noted here).found;
      once = (noted here).once;
    }

pub loop-place-preserved : goal.loop-place-preserved
loop-place-preserved c =
    let here = (goal.at.loop-place-preserved c).Joined-conflict in
    let b = read here in
    let other = fact_no _ c.conflicts-conflict.result c.conflicts-conflict.ensures.fact.1 c.if-conflict-2.false in
    record {
      reached = skip_reached c.args.earlier.now c.loop-place.place c.args.access.now b _ (around here)
          (not_direct b c.args.access.now c.if-source-access.false other) c.loop-place.invariant.reached;
      found = (noted here).found;
      once = (noted here).once;
    }

pub set-requires : goal.set-requires
set-requires c = c.requires.cores c.args.access.now (stands_right c.args.earlier.now (c.args.access.now ∷ [])
    c.args.access.now (inl refl))

-- the loop ends at the whole list
at_zero : (P : List Access → Type 0) (e : List Access) (s : ℕ) → s ≤ 0 → P (reverse (drop s e)) → P (reverse e)
at_zero P e zero le p = p
at_zero P e (suc s) le p = absurd (omega arith)

pub returns-clause-clock : goal.returns-clause-clock
returns-clause-clock c =
    let rise = rising_next c.args.earlier.now c.args.access.now c.requires.rise in
    end_clock c.args.earlier.now c.args.access.now c.loop-place.known c.set.new.self rise
    (at_zero (λ g. Reached (reverse c.args.earlier.now) g c.args.access.now (λ i. slice_index c.loop-place.known i))
    c.args.earlier.now c.loop-place.place
    (omega arith) c.loop-place.invariant.reached)
    c.set.ensures.at c.set.ensures.others

pub returns-clause-edges : goal.returns-clause-edges
returns-clause-edges c =
    end_found c.args.earlier.now c.args.access.now _ _ c.requires.rise
    (at_zero (λ g. FoundFrom (reverse c.args.earlier.now) g c.args.access.now c.args.edges.now.items
    c.loop-place.edges.items) c.args.earlier.now
    c.loop-place.place (omega arith) c.loop-place.invariant.found)
