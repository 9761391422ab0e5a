-- Along the whole order: the trail so far is that of the order's front. Where no access met one that the log leaves
-- apart, each two that conflict are ordered by the log.
use Rattle.std.proofs.Common.{◌≡◌, ◌+◌, ◌<◌, ◌∙◌, ℕ, List, Some, arith, length, replicate, take, length-set}
use Rattle.std.proofs.Common.{get_or, refl, sym, ap, subst}
use Rattle.std.specs.Prelude.{slice_index}
use Rattle.std.proofs.lemmas.List.{take_all}
use Rattle.rtr_types.specs.declared.TheConstants.{CORES_MAX}
use Rattle.rtr_types.proofs.Ranges.{zero_at}
use Rattle.replay_core.specs.Orders.{counts, nought}
use Rattle.replay_audit.specs.Clocks.{Kept}
use Rattle.replay_audit.specs.Trails.{Trailed}
use Rattle.replay_audit.specs.Walks.{Walked, IsWalk}
use Rattle.replay_audit.proofs.LowJudgement.{IsFoundAt, Judged, access_place, counted_next, few_place}
use Rattle.replay_audit.proofs.LowJudgement.{judged_none, judged_some, judged_start, placed_next, places_start}
use Rattle.replay_audit.proofs.LowJudgement.{ready_place, touched_place, verdict, walk_there}
use Rattle.replay_audit.proofs.whole_order.WholeOrder.judge.Goals as goal
use Rattle.replay_audit.proofs.whole_order.WholeOrder.judge.Goals.{After-as_slice-core-items}
use Rattle.replay_audit.proofs.whole_order.WholeOrder.judge.Goals.{in-Some+in_ok-watch, in_default}

-- the whole order, along the recording
is_walk : (c : After-as_slice-core-items) → IsWalk c.args.self.which c.args.self.recording
    c.as_slice-core-items.result.now c.self.inside.clocks
is_walk c = walk_there _ c.args.self c.self.inside.order.items _ c.self.inside.clocks c.self.view_is
    c.as_slice-core-items.ensures.value c.self.invariant

pub loop-core-init : goal.loop-core-init
loop-core-init c =
    let order : List ℕ = c.as_slice-core-items.result.now in
    let w : Walked = c.args.self in
    let walk = is_walk (goal.at.loop-core-init c).After-as_slice-core-items in
    let e = c.in_ok-trail.ensures in
    record {
      judged = judged_start w.which w.recording c.args.touched.now order c.in_ok-trail.trail
          (subst (λ (k : Kept). IsWalk w.which w.recording order k) (sym e.kept) walk)
          e.listed e.accesses e.found;
      counted = λ i. zero_at 16 i;
      placed = places_start w.which w.recording c.args.touched.now (replicate 16 0) c.requires (λ i. zero_at 16 i);
      all_counts = refl;
      all_places = refl;
      all_guesses = refl;
    }

pub bounds-counts-core : goal.bounds-counts-core
bounds-counts-core c =
    few_place c.requires (is_walk (goal.at.bounds-counts-core c).After-as_slice-core-items)
    c.loop-core.core-index c.loop-core.invariant.judged c.loop-core-test.true 0 refl

pub overflow_add-count : goal.overflow_add-count
overflow_add-count c =
    let order : List ℕ = c.as_slice-core-items.result.now in
    let walk = is_walk (goal.at.overflow_add-count c).After-as_slice-core-items in
    let k = c.loop-core.core-index in
    let core : ℕ = get_or order k 0 in
    let ready = ready_place c.requires walk k c.loop-core.invariant.judged c.loop-core-test.true 0 refl in
    let below = ready.below in
    let is = c.loop-core.invariant.counted core in
    let total = walk.valid.totals core 0 ready.inside in
    let most = walk.valid.params.limit in
    omega arith

pub bounds-counts-core-in-loop-core : goal.bounds-counts-core-in-loop-core
bounds-counts-core-in-loop-core c =
    few_place c.requires (is_walk (goal.at.bounds-counts-core-in-loop-core c).After-as_slice-core-items)
    c.loop-core.core-index c.loop-core.invariant.judged c.loop-core-test.true 0 refl

pub bounds-places-core : goal.bounds-places-core
bounds-places-core c =
    few_place c.requires (is_walk (goal.at.bounds-places-core c).After-as_slice-core-items)
    c.loop-core.core-index c.loop-core.invariant.judged c.loop-core-test.true 0 refl

pub access_at-requires-clause-core : goal.access_at-requires-clause-core
access_at-requires-clause-core c =
    let walk = is_walk (goal.at.access_at-requires-clause-core c).After-as_slice-core-items in
    touched_place c.requires walk c.loop-core.core-index c.loop-core.invariant.judged c.loop-core-test.true 0 refl

pub watch-requires-clause-core : goal.watch-requires-clause-core
watch-requires-clause-core c =
    let order : List ℕ = c.as_slice-core-items.result.now in
    let walk = is_walk (goal.at.watch-requires-clause-core c).After-as_slice-core-items in
    let k = c.loop-core.core-index in
    let core : ℕ = get_or order k 0 in
    let n : ℕ = slice_index c.loop-core.counts core + 1 in
    let n_is : n ≡ counts nought (take k order) core + 1 = ap (λ (x : ℕ). x + 1) (c.loop-core.invariant.counted core) in
    let found : IsFoundAt c.args.touched.now core n (Some c.in-Some.access) =
    record { found = c.in-Some.ensures.found; only = c.in-Some.ensures.only } in
    access_place c.requires walk k c.loop-core.invariant.judged c.loop-core-test.true 0 refl n_is found

pub loop-core-preserved : goal.loop-core-preserved
loop-core-preserved c =
    let order : List ℕ = c.as_slice-core-items.result.now in
    let w : Walked = c.args.self in
    let walk = is_walk (goal.at.loop-core-preserved c).After-as_slice-core-items in
    let k = c.loop-core.core-index in
    let core : ℕ = get_or order k 0 in
    let i = c.loop-core.invariant in
    let n : ℕ = slice_index c.loop-core.counts core + 1 in
    let n_is : n ≡ counts nought (take k order) core + 1 = ap (λ (x : ℕ). x + 1) (i.counted core) in
    let few : core < CORES_MAX = few_place c.requires walk k i.judged c.loop-core-test.true 0 refl in
    record {
      judged = elim c.match-access_at.branch [
        | in-Some+in_ok-watch b ↦ subst (λ (s : Trailed). Judged w.which w.recording c.args.touched.now order
            (take (k + 1) order) s) (sym b.trail-is)
            (judged_some c.requires walk k i.judged c.loop-core-test.true 0 refl n_is
            (record { found = b.in-Some.ensures.found; only = b.in-Some.ensures.only })
            b.watch.new.self b.in_ok-watch.ensures)
        | in_default b ↦ subst (λ (s : Trailed). Judged w.which w.recording c.args.touched.now order
            (take (k + 1) order) s) (sym b.trail-is)
            (judged_none c.requires walk k i.judged c.loop-core-test.true 0 refl n_is
            (record { found = tt; only = λ t h e. sym b.in_default.is ∙ c.access_at.ensures.only t h e }))
      ];
      counted = counted_next order k core n c.loop-core-test.true refl few n_is c.loop-core.counts i.all_counts
          i.counted;
      placed = placed_next order k core n c.loop-core-test.true refl few n_is c.args.touched.now c.loop-core.places _
          i.all_places i.placed c.access_at.ensures.place;
      all_counts = length-set c.loop-core.counts core n ∙ i.all_counts;
      all_places = length-set c.loop-core.places core _ ∙ i.all_places;
      all_guesses = elim c.match-access_at.branch [
        | in-Some+in_ok-watch b ↦ ap (λ (l : List ℕ). length l) b.guesses-is ∙ length-set c.loop-core.guesses core _
            ∙ i.all_guesses
        | in_default b ↦ ap (λ (l : List ℕ). length l) b.guesses-is ∙ i.all_guesses
      ];
    }

pub returns-in-Some-unordered : goal.returns-in-Some-unordered
returns-in-Some-unordered c =
    let order : List ℕ = c.as_slice-core-items.result.now in
    let w : Walked = c.args.self in
    let walk = is_walk (goal.at.returns-in-Some-unordered c).After-as_slice-core-items in
    let all : take c.loop-core.core-index order ≡ order = take_all c.loop-core.core-index order
    (let f = c.loop-core-test.false in omega arith) in
    let v = verdict c.requires walk (subst (λ (l : List ℕ). Judged w.which w.recording c.args.touched.now order l
    c.loop-core.trail) all c.loop-core.invariant.judged) _ c.unordered.ensures in
    (λ t. absurd (cc), λ det. let e = v.1 det in let o = c.in-Some-unordered.is in absurd (cc))

pub returns : goal.returns
returns c =
    let order : List ℕ = c.as_slice-core-items.result.now in
    let w : Walked = c.args.self in
    let walk = is_walk (goal.at.returns c).After-as_slice-core-items in
    let all : take c.loop-core.core-index order ≡ order = take_all c.loop-core.core-index order
    (let f = c.loop-core-test.false in omega arith) in
    let v = verdict c.requires walk (subst (λ (l : List ℕ). Judged w.which w.recording c.args.touched.now order l
    c.loop-core.trail) all c.loop-core.invariant.judged) _ c.unordered.ensures in
    (λ t. v.0 c.in-None.is, λ det. refl)
