-- The edges found are the covering ones of the access, so the reduction of the list with it is the one before and
-- these.
use Rattle.std.proofs.Common.{◌≡◌, ◌<◌, ◌∙◌, ap, arith, length, sym, subst}
use Rattle.rtr_types.specs.declared.TheConstants.{CORES_MAX}
use Rattle.clock_core.specs.declared.clock.Clock.{Clock}
use Rattle.access_times.specs.declared.times.Times.{Times}
use Rattle.access_times.specs.Times.{times_noted}
use Rattle.online_reduce.specs.Exact.{IsHeld}
use Rattle.online_reduce.specs.Reduced.{Reduced, clock_of, retired}
use Rattle.online_reduce.proofs.Drawn.{counted_is_retired}
use Rattle.online_reduce.proofs.LastNoted.{held}
use Rattle.online_reduce.proofs.RetiredParts.{same_clock_of}
use Rattle.online_reduce.proofs.TouchedState.{adds_access}
use Rattle.online_reduce.proofs.reducer.Reducer.retire_into.Goals as goal

-- the core is one of those that there are
fits : (c : goal.After-note) → c.args.access.now.at.core < CORES_MAX
fits c =
    let same = ap (λ v. v.state.cores) c.self.view_is in
    let counted = ap (λ (r : Reduced). r.cores) c.count.ensures.state in
    let drew = ap (λ (r : Reduced). r.cores) c.draw.ensures.state in
    let lt = c.requires.next.core in
    omega (arith, c.self.invariant.0)

state_is : (c : goal.After-note) → c.count.new.self.state ≡ retired c.args.self.now.state c.args.access.now
    c.args.times.now
state_is c =
    counted_is_retired c.args.self.now.state c.draw.new.self.state c.count.new.self.state c.args.access.now
    c.args.times.now c.draw.ensures.state
    c.count.ensures.state (sym (ap (λ v. length v.state.clocks) c.self.view_is) ∙ c.self.invariant.1) (fits c)

pub returns-clause-state : goal.returns-clause-state
returns-clause-state c = state_is c

pub returns-clause-times : goal.returns-clause-times
returns-clause-times c =
    c.note.ensures
    ∙ ap (λ (m : Clock). times_noted c.args.access.now c.args.times.now m)
    (same_clock_of c.self.inside.clocks c.count.new.self.state c.args.access.now.at.core c.index-self-access.result
    (ap (λ v. v.state.clocks) c.self.view_is) (omega (arith, fits c, c.self.invariant.1)))

pub returns-clause-held : goal.returns-clause-held
returns-clause-held c =
    let a = c.args.access.now in
    let m = clock_of c.count.new.self.state a.at.core in
    subst (λ (t : Times). IsHeld a t m) (sym (returns-clause-times c)) (held a c.args.times.now m (fits c))

pub returns-clause-adds : goal.returns-clause-adds
returns-clause-adds c =
    adds_access c.args.self.now.state c.count.new.self.state c.args.access.now c.args.times.now c.draw.new.edges
    (state_is c) c.draw.ensures.edges c.requires.next
