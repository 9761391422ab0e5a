-- The coming edges give the sources of the next instruction; the lowest core whose count isn't seen yet is the answer,
-- and without one the seat is ready.
use Rattle.std.proofs.Common.{◌≡◌, ◌∙◌, ◌<◌, length, slice_index, ℕ, List, ap, sym, subst, arith}
use Rattle.std.specs.Prelude.{Option}
use Rattle.std.proofs.lemmas.List.{get_or_default}
use Rattle.rtr_types.specs.declared.TheConstants.{CORES_MAX}
use Rattle.rtr_types.proofs.Ranges.{zero_at}
use Rattle.replay_core.specs.Plans.{Plan, plan_of}
use Rattle.replay_core.specs.Play.{instr}
use Rattle.replay_core.specs.Sources.{sources_in}
use Rattle.replay_table.specs.declared.view.View.{View}
use Rattle.replay_table.specs.Rule.{seen_of}
use Rattle.replay_table.specs.Seats.{IsUnmet, Sitting}
use Rattle.replay_table.proofs.Lookups.{due_seat, unmet_is}
use Rattle.replay_table.proofs.seat.CoreSeat.unmet.Goals as goal

-- without sources
pub returns-in_default-clause-none : goal.returns-in_default-clause-none
returns-in_default-clause-none g c =
    due_seat g.J.Job.which g.J.Job.recording _ _ c.self.inside.upcoming c.self.view_is c.self.invariant.1.valid
    c.self.invariant.1.upcoming c.requires.below
    (λ i lt.
    let none = ap (λ (o : Option (List ℕ)). slice_index (sources_in o) i) c.in_default.is ∙ zero_at CORES_MAX i in
    omega arith)

pub returns-then-index-count-clause-some : goal.returns-then-index-count-clause-some
returns-then-index-count-clause-some g c =
    let p : Plan = plan_of g.J.Job.which g.J.Job.recording in
    let k = c.self.inside.past.core in
    let v : View = c.self.inside.seat.me.0 in
    let t = c.self.invariant.1.tied in
    let of : ℕ = c.loop-of.of in
    let seen : List ℕ = c.self.inside.seen.items in
    let ok = c.self.inside.seen.ok.0 in
    let all = c.len-of-end.ensures in
    let test : of < c.len-of-end.result = c.loop-of-test.true in
    let wide = t.wide in
    let within : of < length seen = omega arith in
    let inside : of < length p.totals = omega arith in
    let is : c.index.result.now ≡ slice_index seen of = c.index.ensures ∙ get_or_default seen of c.index.result.now 0
    within in
    let same : seen_of v of ≡ slice_index seen of = ap (λ (l : List ℕ). slice_index l of) t.sees_is in
    let count : slice_index (sources_in c.self.inside.upcoming.sources) of ≡ c.get-count.result =
    ap (λ (o : Option (List ℕ)). slice_index (sources_in o) of) c.in-Some.is ∙ sym c.get-count.ensures in
    let less = c.if-index-count.true in
    subst (λ (n : ℕ). IsUnmet g.J.Job.which g.J.Job.recording c.args.self.now.view c.args.self.now.core (instr of n))
    count
    (subst (λ (x : Sitting). IsUnmet g.J.Job.which g.J.Job.recording x.view x.core
    (instr of (slice_index (sources_in c.self.inside.upcoming.sources) of)))
    c.self.view_is (unmet_is g.J.Job.which g.J.Job.recording v k c.self.inside.upcoming of c.self.invariant.1.upcoming
    inside (omega arith)))

pub returns-clause-none : goal.returns-clause-none
returns-clause-none g c =
    let t = c.self.invariant.1.tied in
    let ok = c.self.inside.seen.ok.0 in
    let all = c.len-of-end.ensures in
    let test = c.loop-of-test.false in
    let wide = t.wide in
    due_seat g.J.Job.which g.J.Job.recording _ _ c.self.inside.upcoming c.self.view_is c.self.invariant.1.valid
    c.self.invariant.1.upcoming c.requires.below
    (λ i lt.
    let source = ap (λ (o : Option (List ℕ)). slice_index (sources_in o) i) c.in-Some.is in
    let met = c.loop-of.invariant i (omega arith) in
    let same = ap (λ (l : List ℕ). slice_index l i) t.sees_is in
    omega arith)
