-- Touch by touch: what is marked is past, and the clock covers what is in conflict with it.
use Rattle.std.proofs.Common.{inl, inr, ◌≡◌, ◌+◌, ◌-◌, ◌<◌, ◌≤◌, ◌∙◌, List, ℕ, ap, arith, length, subst, sym}
use Rattle.std.specs.Prelude.{slice_index, slice_index_or}
use Rattle.std.proofs.lemmas.List.{get_or_default}
use Rattle.conflict_edge.specs.Conflicts.{Conflicts}
use Rattle.replay_audit.specs.declared.touch.Touch.{Touch}
use Rattle.replay_audit.specs.Touches.{as_access, touches_of}
use Rattle.replay_audit.proofs.LowJudgement.{own_list}
use Rattle.touch_judge.specs.Marks.{AreWithin, IsPast, IsTouchOf}
use Rattle.touch_judge.proofs.Marking.{covered_here, covered_on, known_here, marked_on, none_one, some_one}
use Rattle.touch_judge.proofs.Marking.{uncovered_open}
use Rattle.touch_judge.proofs.marks.Marks.pass.Goals as goal
use Rattle.touch_judge.proofs.marks.Marks.pass.Goals.{In-Some}

-- the list is the core's
list_is : (c : In-Some) → c.as_slice-list.result.now ≡ touches_of c.args.touched.now c.args.core
list_is c = own_list c.args.touched.now c.index-touched-core.result _ c.args.core c.requires.core
    c.index-touched-core.is c.as_slice-list.ensures

here : (c : In-Some) → IsTouchOf (touches_of c.args.touched.now c.args.core) c.loop-touch.place c.in-Some.touch
here c = subst (λ (l : List Touch). IsTouchOf l c.loop-touch.place c.in-Some.touch) (list_is c)
    c.in-Some.ensures.some.0

pub returns-then-is_some-clause-open : goal.returns-then-is_some-clause-open
returns-then-is_some-clause-open c = λ e.
    let at = goal.at.returns-then-is_some-clause-open c in
    let i = c.loop-touch.invariant in
    let other = some_one c.open.result (sym c.is_some.ensures ∙ c.if-is_some.true) c.open.ensures.some in
    uncovered_open c.args.touched.now c.args.places.now c.args.core c.loop-touch.place c.in-Some.touch
    c.loop-touch.self c.args.clock.now _ c.requires.touched c.requires.inside i.marked (here at.In-Some) c.args.until
    other.0 i.more c.in-Some.ensures.some.1 other.1

pub loop-touch-preserved : goal.loop-touch-preserved
loop-touch-preserved c =
    let at = goal.at.loop-touch-preserved c in
    let i = c.loop-touch.invariant in
    let t = here at.In-Some in
    let none = none_one c.open.result (sym c.is_some.ensures ∙ c.if-is_some.false) c.open.ensures.none in
    let first_is = λ (d : Touch). subst (λ (l : List Touch). slice_index c.args.places.now c.args.core < length l →
    c.count_at-from.result ≡ (slice_index_or l (slice_index c.args.places.now c.args.core) d).at.count)
    (list_is at.In-Some) (c.count_at-from.ensures d) in
    let covered : (d : ℕ) (u : Touch) → IsPast c.args.touched.now c.args.places.now d u →
    Conflicts (as_access u) (as_access c.in-Some.touch) → u.at.count ≤ slice_index c.args.clock.now d = elim none [
      | inl known ↦ known_here c.args.touched.now c.args.places.now c.args.core c.loop-touch.place c.in-Some.touch
          c.loop-touch.self c.args.clock.now _ c.requires.touched c.requires.inside i.marked t c.count_at-from.result
          i.more first_is i.covered known
      | inr covered ↦ covered_here c.args.touched.now c.args.places.now c.args.core c.loop-touch.place c.in-Some.touch
          c.loop-touch.self c.args.clock.now _ c.requires.touched c.requires.inside i.marked t covered
    ] in
    record {
      marked = marked_on c.args.touched.now c.args.places.now c.args.core c.loop-touch.place c.in-Some.touch
          c.loop-touch.self c.mark.new.self
          (subst (λ (n : ℕ). AreWithin c.args.touched.now n) (sym i.all) c.requires.touched) c.requires.inside i.marked
          t c.mark.ensures;
      all = c.mark.ensures.all ∙ i.all;
      covered = covered_on c.args.touched.now c.args.places.now c.args.core c.loop-touch.place c.in-Some.touch
          c.args.clock.now c.requires.inside t covered i.covered;
      more = let m = i.more in omega arith;
      within = let w = c.in-Some.ensures.some.0.within in omega arith;
      before = λ d some.
          let same : (c.loop-touch.place + 1) - 1 ≡ c.loop-touch.place = omega arith in
          let to = c.in-Some.ensures.some.1 in
          let is = ap (λ (x : Touch). x.at.count) (get_or_default c.as_slice-list.result.now c.loop-touch.place d
          c.in-Some.touch c.in-Some.ensures.some.0.within ∙ c.in-Some.ensures.some.0.is) in
          let q = ap (λ (j : ℕ). (slice_index_or c.as_slice-list.result.now j d).at.count) same in
          omega arith;
    }
