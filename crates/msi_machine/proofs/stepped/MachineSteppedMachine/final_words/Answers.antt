use Rattle.std.proofs.Common.{◌∙◌, ap, ℕ, List}
use Rattle.std.specs.Prelude.{slice_index}
use Rattle.machine_data.proofs.Final.{final_current}
use Rattle.machine_plain.proofs.Shows.{plain_words}
use Rattle.machine_invariant.proofs.DoneCores.{links_left}
use Rattle.msi_state.specs.FinalMemory.{final_words}
use Rattle.msi_state.specs.States.{Machinery, all_done}
use Rattle.msi_machine.proofs.AtHand.{ends_at_hand}
use Rattle.msi_machine.proofs.ChosenMove.{seen_holds}
use Rattle.msi_machine.proofs.stepped.MachineSteppedMachine.final_words.Goals as goal

pub final_words-requires-clause-at_hand : goal.final_words-requires-clause-at_hand
final_words-requires-clause-at_hand g c =
    let held = ends_at_hand g.R.Rider.riding g.K.Carry.carrying c.self.inside.parts.state c.self.invariant.holds
    (ap (λ (m : Machinery g.row.R.Denot g.row.K.Denot). all_done m.state) c.self.view_is
    ∙ c.requires.done) c.args.block in
    rw (← c.parts.view_is) at held

pub returns-clause-value : goal.returns-clause-value
returns-clause-value g c = λ slot low.
    c.final_words.ensures slot low
    ∙ ap (λ (m : Machinery g.row.R.Denot g.row.K.Denot). slice_index (final_words g.R.Rider.riding g.K.Carry.carrying
    m.state c.args.block) slot)
    (c.parts.view_is ∙ c.self.view_is)

pub returns-clause-plain : goal.returns-clause-plain
returns-clause-plain g c = λ slot low.
    returns-clause-value g c slot low
    ∙ ap (λ (words : List ℕ). slice_index words slot) (plain_words g.R.Rider.riding g.K.Carry.carrying
    c.args.self.now.state c.args.block)

pub returns-clause-last : goal.returns-clause-last
returns-clause-last g c = λ memory k slot low.
    let holds = seen_holds g.R.Rider.riding g.K.Carry.carrying c.self.view_is c.self.invariant.holds in
    returns-clause-value g c slot low
    ∙ ap (λ (words : List ℕ). slice_index words slot)
    (final_current g.R.Rider.riding g.K.Carry.carrying c.args.self.now.state memory holds
    (links_left g.R.Rider.riding g.K.Carry.carrying c.args.self.now.state holds c.requires.done) k c.args.block)
