use Rattle.access_times.specs.Times.{times_riding}
use Rattle.machine_times.specs.TimedSteps.{times_parts}
use Rattle.tso_times.proofs.MetRiders.{meet_alike}
use Rattle.tso_core.proofs.ChosenMove.{taken_enabled}
use Rattle.tso_core.proofs.NoMoveAtEnd.{holds_seen}
use Rattle.tso_core.proofs.TimedTold.{step_finds, step_stands}
use Rattle.tso_core.proofs.timed.BufferedMachine+Times+K.step_timed.Goals as goal

pub returns-clause-stands : goal.returns-clause-stands
returns-clause-stands g c = λ h f.
    let holds = holds_seen times_riding g.K.Carry.carrying c.self.view_is c.self.invariant.holds in
    step_stands g.C.Clerk.told_local g.C.Clerk.told_touch g.C.TsoClerk.told_logged g.C.TimesClerk.clock
    g.met.C.TimesClerk.touch_notes g.K.Carry.carrying h c.args.self.now.state c.step.new.self.state c.step.result
    c.args.clerk.now c.step.new.clerk holds
    (taken_enabled times_riding g.K.Carry.carrying c.args.self.now.state c.args.choice c.step.result
    c.step.ensures.taken)
    c.step.ensures.moved.state c.step.ensures.told f

pub returns-clause-times : goal.returns-clause-times
returns-clause-times g c = λ h f.
    let holds = holds_seen times_riding g.K.Carry.carrying c.self.view_is c.self.invariant.holds in
    step_finds g.K.Carry.carrying h c.args.self.now.state c.step.result holds
    (taken_enabled times_riding g.K.Carry.carrying c.args.self.now.state c.args.choice c.step.result
    c.step.ensures.taken) f

pub returns-clause-alike : goal.returns-clause-alike
returns-clause-alike g c = λ h f.
    let holds = holds_seen times_riding g.K.Carry.carrying c.self.view_is c.self.invariant.holds in
    meet_alike times_parts g.K.Carry.carrying h c.args.self.now.state c.step.result holds
    (taken_enabled times_riding g.K.Carry.carrying c.args.self.now.state c.args.choice c.step.result
    c.step.ensures.taken) f
