-- A marked move shows a core that isn't done; without a mark each core's standing decides. What follows from being done
-- follows from what a machine always holds.
use Rattle.std.proofs.Common.{◌≡◌, ◌∙◌, sym, ap, false, length, subst}
use Rattle.machine_bound.proofs.RunEnds.{done_earned}
use Rattle.machine_data.specs.Coherent.{Coherent}
use Rattle.machine_data.proofs.Final.{final_current}
use Rattle.machine_plain.proofs.Shows.{plain_done}
use Rattle.machine_invariant.proofs.DoneCores.{links_left}
use Rattle.msi_state.specs.FinalMemory.{final_words}
use Rattle.msi_state.specs.States.{Machinery, State, all_done}
use Rattle.msi_machine.specs.Marks.{marked}
use Rattle.msi_machine.proofs.MarksAndEnd.{ended, marked_goes_on, some_there}
use Rattle.msi_machine.proofs.Standings.{done_stands}
use Rattle.msi_machine.proofs.stepped.MachineSteppedMachine.done.Goals as goal

pub returns-then-not-is_empty-clause-done : goal.returns-then-not-is_empty-clause-done
returns-then-not-is_empty-clause-done g c =
    let s : State g.row.R.Denot g.row.K.Denot = c.self.inside.parts.state in
    let more : all_done s ≡ false =
    marked_goes_on g.R.Rider.riding g.K.Carry.carrying c.self.inside.parts _ c.self.inside.marks c.self.inside.asker
    c.self.invariant
    (some_there (length (marked c.self.inside.marks)) (sym c.is_empty.ensures ∙ c.if-not-is_empty.true)) in
    rw (← c.self.view_is) (sym more)

pub returns-then-not-is_empty-clause-plain : goal.returns-then-not-is_empty-clause-plain
returns-then-not-is_empty-clause-plain g c =
    returns-then-not-is_empty-clause-done g c ∙ plain_done c.args.self.now.state

pub returns-clause-done : goal.returns-clause-done
returns-clause-done g c =
    c.are_done.ensures
    ∙ done_stands c.self.inside.parts.state c.self.inside.standings.items c.as_slice.result.now c.as_slice.ensures.value
    c.self.invariant.stands
    ∙ ap (λ (m : Machinery g.row.R.Denot g.row.K.Denot). all_done m.state) c.self.view_is

pub returns-clause-plain : goal.returns-clause-plain
returns-clause-plain g c = returns-clause-done g c ∙ plain_done c.args.self.now.state

pub returns-clause-links : goal.returns-clause-links
returns-clause-links g c = λ e.
    rw (← c.self.view_is) (links_left g.R.Rider.riding g.K.Carry.carrying c.self.inside.parts.state
    c.self.invariant.holds (ended c.self.inside.parts c.args.self.now c.are_done.result c.self.view_is
    (returns-clause-done g c) e))

pub returns-clause-paid : goal.returns-clause-paid
returns-clause-paid g c = λ e.
    let s : State g.row.R.Denot g.row.K.Denot = c.self.inside.parts.state in
    rw (← c.self.view_is) (done_earned s.image g.R.Rider.riding (length s.cores) s.cores s.memory.ports
    c.self.invariant.holds.ports_there (ended c.self.inside.parts c.args.self.now c.are_done.result c.self.view_is
    (returns-clause-done g c) e))

pub returns-clause-last : goal.returns-clause-last
returns-clause-last g c = λ memory e k b.
    let s : State g.row.R.Denot g.row.K.Denot = c.self.inside.parts.state in
    let same : s ≡ c.args.self.now.state =
    ap (λ (m : Machinery g.row.R.Denot g.row.K.Denot). m.state) c.self.view_is in
    let old : Coherent g.R.Rider.riding g.K.Carry.carrying s memory =
    subst (λ (x : State g.row.R.Denot g.row.K.Denot). Coherent g.R.Rider.riding g.K.Carry.carrying x memory) (sym same)
    k in
    subst (λ (x : State g.row.R.Denot g.row.K.Denot). final_words g.R.Rider.riding g.K.Carry.carrying x b ≡ memory b)
    same
    (final_current g.R.Rider.riding g.K.Carry.carrying s memory c.self.invariant.holds
    (links_left g.R.Rider.riding g.K.Carry.carrying s c.self.invariant.holds (ended c.self.inside.parts c.args.self.now
    c.are_done.result c.self.view_is (returns-clause-done g c) e)) old b)
