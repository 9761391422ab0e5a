-- The core is at its start, and the seat has its own part of the rule at the first step.
use Rattle.std.proofs.Common.{◌≡◌, ◌∙◌, List, ℕ, ap, arith, length, replicate, sym}
use Rattle.rv_core.specs.declared.core_state.Core.{Core}
use Rattle.rv_core.specs.States.{starting}
use Rattle.rv_core.proofs.LawLemmas.{start_law}
use Rattle.atomic_table.specs.Table.{Me}
use Rattle.race_log.specs.declared.recording.Recording.{Recording}
use Rattle.replay_core.specs.Plans.{Plan, plan_of}
use Rattle.replay_table.specs.declared.view.Own.{Own}
use Rattle.replay_table.specs.declared.view.View.{View}
use Rattle.replay_table.specs.Kinds.{first_view, first_alone, rest_view, dealt_view}
use Rattle.replay_table.proofs.Lookups.{upcoming_is, can_begin}
use Rattle.replay_table.proofs.FirstView.{cores_are, first_tied, take_own}
use Rattle.replay_table.proofs.table.fresh_seat.Goals as goal

pub new-upcoming-requires : goal.new-upcoming-requires
new-upcoming-requires g c =
    let r : Recording = c.args.recording.now in
    let k : Core = starting c.args.id r.params.limit in
    let start = start_law c.args.id r.params.limit in
    let id = start.0 in
    let count = start.2 in
    let inside = c.requires.core in
    can_begin g.J.Job.recording r c.args.program.now k c.new-core.result c.requires.valid c.requires.recording
    c.requires.program c.new-core.ensures (omega arith) (omega arith)

pub invariant_of-result : goal.invariant_of-result
invariant_of-result g c =
    let p : Plan = plan_of g.J.Job.which g.J.Job.recording in
    let cores : c.args.recording.now.params.cores ≡ length p.totals = cores_are c.requires.recording c.requires.valid in
    let view : c.args.seat.me.0 ≡ first_alone (rest_view p c.args.id) = ap (λ (m : Me ℕ View). m.0) c.requires.seat in
    let seen : c.in_ok-seen.seen.items ≡ replicate (length p.totals) 0 = c.in_ok-seen.ensures.items_if_clones_equal
    (λ y q. q)
    ∙ ap (λ (n : ℕ). replicate n 0) cores in
    let core = c.new.ensures.core ∙ c.new-core.ensures
    ∙ ap (λ (x : Recording). starting c.args.id x.params.limit) c.requires.recording in (
      ap (λ (m : Me ℕ View). m.1) c.requires.seat,
      record {
        valid = c.requires.valid;
        upcoming = upcoming_is g.J.Job.which c.args.which g.J.Job.recording c.args.recording.now
            c.new.result.core c.new-core.result
            c.new-upcoming.result c.requires.which c.requires.recording
            (sym c.new.ensures.core) c.new-upcoming.ensures;
        tied = first_tied p c.args.id c.new.result c.in_ok-seen.seen.items c.args.seat.me.0
            view c.requires.core core c.new.ensures.loads c.new.ensures.touched seen;
      },
    )

pub returns-clause-fresh : goal.returns-clause-fresh
returns-clause-fresh g c =
    let p : Plan = plan_of g.J.Job.which g.J.Job.recording in
    let core = c.new.ensures.core ∙ c.new-core.ensures
    ∙ ap (λ (x : Recording). starting c.args.id x.params.limit) c.requires.recording in
    let view : c.args.seat.me.0 ≡ dealt_view p c.args.id = ap (λ (m : Me ℕ View). m.0) c.requires.seat
    ∙ ap (λ (l : List Own). record (first_view p) { owned = l })
    (take_own p (length p.totals) c.args.id c.requires.core) in
    record { core = core; loads = c.new.ensures.loads; touched = c.new.ensures.touched; view = view }
