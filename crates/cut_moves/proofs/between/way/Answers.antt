-- Along the timeline: the list so far, with what the windows have of the places to come, is the way.
use Rattle.std.proofs.Common.{Global, Vec, length, ◌++◌, ◌+◌, drop, ℕ, List, ◌≡◌}
use Rattle.std.proofs.Common.{◌∙◌, ◌<◌, ◌≤◌, ap, sym, subst, refl, arith}
use Rattle.cut_replay.specs.ClosedCuts.{count_in}
use Rattle.cut_moves.specs.Rounds.{rounds_of}
use Rattle.cut_moves.specs.Ways.{way_of}
use Rattle.rtr_types.specs.declared.TheConstants.{CORES_MAX}
use Rattle.replay_core.specs.Orders.{counts, nought}
use Rattle.cut_moves.specs.Seats.{AreWindows}
use Rattle.cut_moves.specs.declared.seats.Window.{Window}
use Rattle.cut_moves.proofs.TakenWay.{in_totals, leading_way, ordered_way}
use Rattle.cut_moves.proofs.WindowWay.{past_one, seen_from, seeing_by, seeing_end, seeing_on, seeing_start}
use Rattle.cut_moves.proofs.between.way.Goals.{then-is_seen+in_ok-push, else-is_seen}
use Rattle.cut_moves.proofs.between.way.Goals as goal

pub windows-windows-requires : goal.windows-windows-requires
windows-windows-requires c =
    let a = c.args.audited.now in
    let low = c.args.low.now in
    let high = c.args.high.now in
    subst (λ (l : List ℕ). (core : ℕ) → core < CORES_MAX → count_in high core ≤ counts nought l core)
    (sym c.requires.timeline)
    (λ core few. in_totals a.which a.recording c.recording.ensures.valid c.outcome.ensures.passed.determinate low high
    c.requires.within c.requires.closed (way_of (count_in low) (count_in high) (rounds_of a.which a.recording)) refl core)

-- windows of the timeline are those of its places
turned : (low high : ℕ → ℕ) (windows : List Window) (places timeline : List ℕ) → places ≡ timeline →
    AreWindows timeline low high windows → AreWindows places low high windows
turned low high windows places timeline is h = subst (λ (l : List ℕ). AreWindows l low high windows) (sym is) h

pub loop-number-init : goal.loop-number-init
loop-number-init c =
    let low : ℕ → ℕ = count_in c.args.low.now in
    let high : ℕ → ℕ = count_in c.args.high.now in
    let places = c.as_slice-places.result.now in
    let first = c.min-number.result in
    subst (λ (l : List ℕ). l ++ seen_from c.windows-windows.result first (drop first places) ≡ way_of low high places)
    (sym c.in_ok-list.ensures.items)
    (seeing_start places low high c.windows-windows.result (turned low high c.windows-windows.result places c.args.timeline.now c.as_slice-places.ensures
    c.windows-windows.ensures) c.start_of.result c.end_of.result
    c.start_of.ensures c.end_of.ensures first (let m = c.min-number.ensures in omega arith))

pub loop-number-preserved : goal.loop-number-preserved
loop-number-preserved c =
    let low : ℕ → ℕ = count_in c.args.low.now in
    let high : ℕ → ℕ = count_in c.args.high.now in
    let places = c.as_slice-places.result.now in
    let n = c.loop-number.number in
    let rest = drop (n + 1) places in
    let seen = c.windows-windows.result in
    let inside : n < length places =
    let m = c.min-end.ensures in let lt = c.loop-number-test.true in omega arith in
    elim c.if-is_seen.branch [
      | then-is_seen+in_ok-push w ↦
          subst (λ (l : List ℕ). l ++ seen_from seen (n + 1) rest ≡ way_of low high places)
          (sym (ap (λ (v : Vec ℕ Global). v.items) w.list-is ∙ w.in_ok-push.ensures.items))
          (seeing_on places low high seen (turned low high c.windows-windows.result places c.args.timeline.now c.as_slice-places.ensures
          c.windows-windows.ensures) n c.loop-number.list.items inside
          (sym c.is_seen.ensures ∙ w.if-is_seen.true) c.loop-number.invariant)
      | else-is_seen w ↦
          subst (λ (l : List ℕ). l ++ seen_from seen (n + 1) rest ≡ way_of low high places)
          (sym (ap (λ (v : Vec ℕ Global). v.items) w.list-is))
          (seeing_by places low high seen (turned low high c.windows-windows.result places c.args.timeline.now c.as_slice-places.ensures
          c.windows-windows.ensures) n c.loop-number.list.items inside
          (sym c.is_seen.ensures ∙ w.if-is_seen.false) c.loop-number.invariant)
    ]

-- the list that was taken is the way
all : (c : goal.After-from_vec) → c.loop-number.list.items
    ≡ way_of (count_in c.args.low.now) (count_in c.args.high.now) c.args.timeline.now
all c =
    let low : ℕ → ℕ = count_in c.args.low.now in
    let high : ℕ → ℕ = count_in c.args.high.now in
    let places = c.as_slice-places.result.now in
    let past = c.loop-number-test.false in
    seeing_end places low high c.windows-windows.result (turned low high c.windows-windows.result places c.args.timeline.now c.as_slice-places.ensures
    c.windows-windows.ensures) c.start_of.result c.end_of.result
    c.start_of.ensures c.end_of.ensures c.loop-number.number c.loop-number.list.items
    (past_one c.end_of.result (length places) c.loop-number.number (let m = c.min-end.ensures in omega arith))
    c.loop-number.invariant
    ∙ ap (λ (l : List ℕ). way_of low high l) c.as_slice-places.ensures

-- the list is the way
made : (c : goal.After-from_vec) → c.from_vec.result ≡
    way_of (count_in c.args.low.now) (count_in c.args.high.now)
    (rounds_of c.args.audited.now.which c.args.audited.now.recording)
made c =
    let a = c.args.audited.now in
    let low : ℕ → ℕ = count_in c.args.low.now in
    let high : ℕ → ℕ = count_in c.args.high.now in
    let timeline = c.args.timeline.now in
    c.from_vec.ensures ∙ all c ∙ ap (λ (l : List ℕ). way_of low high l) c.requires.timeline

pub returns-clause-way : goal.returns-clause-way
returns-clause-way c = c.from_vec.ensures ∙ all c

pub returns-clause-ordered : goal.returns-clause-ordered
returns-clause-ordered c =
    let a = c.args.audited.now in
    ordered_way a.which a.recording c.recording.ensures.valid c.outcome.ensures.passed.determinate c.args.low.now
    c.args.high.now c.requires.within c.requires.closed c.from_vec.result (made c)

pub returns-clause-ends : goal.returns-clause-ends
returns-clause-ends c =
    let a = c.args.audited.now in
    leading_way a.which a.recording c.recording.ensures.valid c.outcome.ensures.passed.determinate c.args.low.now
    c.args.high.now c.requires.within c.requires.closed c.from_vec.result (made c)
