-- The step's event is one retirement more, or none: the laws of times carry what the riders and the clerk hold over it.
use Rattle.std.proofs.Common.{sym, subst}
use Rattle.access_times.specs.Times.{times_riding}
use Rattle.access_times.specs.declared.times.Times.{Times}
use Rattle.msi_state.specs.States.{State}
use Rattle.msi_state.specs.Steps.{carry_told, event, rider_left}
use Rattle.machine_times.proofs.MetRiders.{meet_alike}
use Rattle.machine_times.proofs.RiderLaws.{times_absorb}
use Rattle.machine_times.proofs.MoveTimes.{finds_exact}
use Rattle.machine_times.proofs.NotedRiders.{timed_told, clocks_told}
use Rattle.machine_times.specs.Retirements.{MachineStandsFor}
use Rattle.machine_times.specs.TimedSteps.{times_parts, with_step}
use Rattle.std.specs.Prelude.{reverse}
use Rattle.msi_machine.proofs.ChosenMove.{seen_holds, taken_enabled}
use Rattle.msi_machine.proofs.timed.Machine+Times+K.step_timed.Goals as goal

pub returns-clause-stands : goal.returns-clause-stands
returns-clause-stands g c = λ list f.
    let holds = seen_holds times_riding g.K.Carry.carrying c.self.view_is c.self.invariant.holds in
    subst (λ (s : State Times g.row.K.Denot). MachineStandsFor times_parts g.K.Carry.carrying
    (with_step g.K.Carry.carrying c.args.self.now.state c.step.result.taken (g.C.TimesClerk.clock c.step.new.clerk)
    list) s)
    (sym c.step.ensures.moved.state)
    (timed_told g.C.Clerk.told_local g.C.Clerk.told_touch g.C.TimesClerk.clock g.met.C.TimesClerk.touch_notes
    g.K.Carry.carrying list c.args.self.now.state
    c.step.result.taken c.args.clerk.now c.step.new.clerk
    (rider_left times_riding g.K.Carry.carrying c.args.self.now.state c.step.new.self.state c.step.result.taken)
    (carry_told times_riding g.K.Carry.carrying c.args.self.now.state c.step.result.taken)
    holds (taken_enabled times_riding g.K.Carry.carrying c.args.self.now.state c.args.choice c.step.result.taken
    c.step.ensures.taken) c.step.ensures.told f)

pub returns-clause-times : goal.returns-clause-times
returns-clause-times g c = λ list f a is.
    let holds = seen_holds times_riding g.K.Carry.carrying c.self.view_is c.self.invariant.holds in
    finds_exact times_parts g.K.Carry.carrying times_absorb (reverse list) c.args.self.now.state c.step.result.taken a
    holds
    (taken_enabled times_riding g.K.Carry.carrying c.args.self.now.state c.args.choice c.step.result.taken
    c.step.ensures.taken) is f

pub returns-clause-alike : goal.returns-clause-alike
returns-clause-alike g c = λ list f.
    let holds = seen_holds times_riding g.K.Carry.carrying c.self.view_is c.self.invariant.holds in
    meet_alike times_parts g.K.Carry.carrying list c.args.self.now.state c.step.result.taken holds
    (taken_enabled times_riding g.K.Carry.carrying c.args.self.now.state c.args.choice c.step.result.taken
    c.step.ensures.taken) f

pub returns-clause-clocks : goal.returns-clause-clocks
returns-clause-clocks g c = λ list last.
    clocks_told g.C.Clerk.told_local g.C.Clerk.told_touch g.C.TimesClerk.clock g.met.C.TimesClerk.local_keeps
    g.met.C.TimesClerk.touch_keeps list
    (event times_riding g.K.Carry.carrying c.args.self.now.state c.step.result.taken)
    _ c.args.clerk.now c.step.new.clerk _ _ c.step.ensures.told last
