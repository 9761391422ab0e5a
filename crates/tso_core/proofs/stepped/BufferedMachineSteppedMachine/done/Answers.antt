-- No move can be made exactly where each core has ended.
use Rattle.std.proofs.Common.{◌∙◌, sym, ap, length}
use Rattle.rtr_types.proofs.Truths.{true_is}
use Rattle.msi_laws.proofs.Final.{final_current}
use Rattle.tso_state.specs.States.{State}
use Rattle.tso_invariant.proofs.DoneMachine.{links_left}
use Rattle.tso_plain.proofs.ForgetfulSteps.{plain_done}
use Rattle.tso_core.proofs.NoMoveAtEnd.{ends_by, holds_seen}
use Rattle.tso_core.proofs.stepped.BufferedMachineSteppedMachine.done.Goals as goal

pub returns-clause-done : goal.returns-clause-done
returns-clause-done g c =
    let s : State g.row.R.Denot g.row.K.Denot = c.args.self.now.state in
    let holds = holds_seen g.R.Rider.riding g.K.Carry.carrying c.self.view_is c.self.invariant.holds in
    ends_by g.R.Rider.riding g.K.Carry.carrying s c.count.result holds (c.count.ensures
    ∙ ap length c.all_marks.ensures.moves)

pub returns-clause-plain : goal.returns-clause-plain
returns-clause-plain g c = returns-clause-done g c ∙ plain_done c.args.self.now.state

pub returns-clause-links : goal.returns-clause-links
returns-clause-links g c = λ e.
    let s : State g.row.R.Denot g.row.K.Denot = c.args.self.now.state in
    let holds = holds_seen g.R.Rider.riding g.K.Carry.carrying c.self.view_is c.self.invariant.holds in
    links_left g.R.Rider.riding g.K.Carry.carrying s holds (sym (returns-clause-done g c) ∙ true_is _ e)

pub returns-clause-last : goal.returns-clause-last
returns-clause-last g c = λ memory e k b.
    let s : State g.row.R.Denot g.row.K.Denot = c.args.self.now.state in
    let holds = holds_seen g.R.Rider.riding g.K.Carry.carrying c.self.view_is c.self.invariant.holds in
    final_current g.R.Rider.riding g.K.Carry.carrying s.memory memory holds.memory
    (links_left g.R.Rider.riding g.K.Carry.carrying s holds (sym (returns-clause-done g c) ∙ true_is _ e)) k b
