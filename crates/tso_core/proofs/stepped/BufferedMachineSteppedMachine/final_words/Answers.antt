use Rattle.std.proofs.Common.{◌≡◌, ◌∙◌, ap, sym, subst, ℕ, List, []}
use Rattle.std.specs.Prelude.{slice_index}
use Rattle.msi_laws.proofs.Final.{final_current}
use Rattle.machine_plain.proofs.Shows.{plain_words}
use Rattle.msi_memory.specs.Finals.{block_words}
use Rattle.msi_state.specs.States.{State as MachineState}
use Rattle.tso_state.specs.States.{State, all_done}
use Rattle.tso_data.specs.Orders.{Coherent}
use Rattle.tso_invariant.proofs.DoneMachine.{links_left}
use Rattle.tso_core.specs.Machineries.{Machinery}
use Rattle.machine_ports.proofs.AtHand.{ends_at_hand}
use Rattle.tso_core.proofs.stepped.BufferedMachineSteppedMachine.final_words.Goals as goal

pub final_words-requires-clause-at_hand : goal.final_words-requires-clause-at_hand
final_words-requires-clause-at_hand g c =
    let s : State g.row.R.Denot g.row.K.Denot = c.self.inside.parts.state in
    let held = ends_at_hand g.R.Rider.riding g.K.Carry.carrying s.memory c.self.invariant.holds.memory
    (links_left g.R.Rider.riding g.K.Carry.carrying s c.self.invariant.holds
    (ap (λ (m : Machinery g.row.R.Denot g.row.K.Denot). all_done m.state) c.self.view_is
    ∙ c.requires.done)) c.args.block in
    rw (← c.parts.view_is) at held

pub returns-clause-value : goal.returns-clause-value
returns-clause-value g c = λ slot low.
    c.final_words.ensures slot low
    ∙ ap (λ (m : Machinery g.row.R.Denot g.row.K.Denot). slice_index (block_words g.R.Rider.riding g.K.Carry.carrying
    m.state.memory c.args.block) slot)
    (c.parts.view_is ∙ c.self.view_is)

pub returns-clause-plain : goal.returns-clause-plain
returns-clause-plain g c = λ slot low.
    let s : State g.row.R.Denot g.row.K.Denot = c.args.self.now.state in
    let machine : MachineState g.row.R.Denot g.row.K.Denot = record {
      image = s.image;
      cores = [];
      memory =
          s.memory;
    } in
    returns-clause-value g c slot low
    ∙ ap (λ (words : List ℕ). slice_index words slot) (plain_words g.R.Rider.riding g.K.Carry.carrying machine
    c.args.block)

pub returns-clause-last : goal.returns-clause-last
returns-clause-last g c = λ memory k slot low.
    let same : c.self.inside.parts.state ≡ c.args.self.now.state =
    ap (λ (m : Machinery g.row.R.Denot g.row.K.Denot). m.state) c.self.view_is in
    let old : Coherent g.R.Rider.riding g.K.Carry.carrying c.self.inside.parts.state memory =
    subst (λ (s : State g.row.R.Denot g.row.K.Denot). Coherent g.R.Rider.riding g.K.Carry.carrying s memory) (sym same)
    k in
    c.final_words.ensures slot low
    ∙ ap (λ (m : Machinery g.row.R.Denot g.row.K.Denot). slice_index (block_words g.R.Rider.riding g.K.Carry.carrying
    m.state.memory c.args.block) slot)
    c.parts.view_is
    ∙ ap (λ (words : List ℕ). slice_index words slot)
    (final_current g.R.Rider.riding g.K.Carry.carrying c.self.inside.parts.state.memory memory
    c.self.invariant.holds.memory
    (links_left g.R.Rider.riding g.K.Carry.carrying c.self.inside.parts.state c.self.invariant.holds (ap all_done same
    ∙ c.requires.done)) old
    c.args.block)
