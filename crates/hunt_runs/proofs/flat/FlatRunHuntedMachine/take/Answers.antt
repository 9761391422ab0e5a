use Rattle.std.proofs.Common.{◌∙◌, ◌<◌, ap, length, subst, sym}
use Rattle.std.specs.List.{list_all}
use Rattle.rv_core.specs.Steps.{is_done}
use Rattle.move_marks.specs.Kinds.{marked}
use Rattle.flat_machine.specs.Machines.{event_of}
use Rattle.flat_machine.specs.declared.machine.FlatMachine.{FlatMachine}
use Rattle.flat_machine.proofs.MarkedChoice.{some_marked}
use Rattle.hunt_runs.specs.FlatSeen.{FlatRuns}
use Rattle.hunt_runs.proofs.FlatEnds.{flat_changes, flat_kept, flat_next}
use Rattle.hunt_runs.proofs.flat.FlatRunHuntedMachine.take.Goals as goal

pub invariant_of-self-2 : goal.invariant_of-self-2
invariant_of-self-2 c =
    flat_kept c.self.inside.machine c.step.new.self c.args.number (event_of c.in_ok-happened.happened)
    c.in_ok-happened.ensures.stepped c.self.invariant.0

pub returns-clause-stands : goal.returns-clause-stands
returns-clause-stands c = λ image params schedule t rest is at.
    flat_next c.self.inside.machine c.step.new.self c.args.number (event_of c.in_ok-happened.happened)
    c.in_ok-happened.ensures.stepped
    (ap (λ (m : FlatMachine). list_all (λ n. is_done n.need) m.flat.nodes.items) c.self.view_is ∙ c.requires.going)
    image params schedule t rest is
    (subst (λ (m : FlatMachine). FlatRuns m.flat image params schedule t rest) (sym c.self.view_is) at)

pub returns-clause-changes : goal.returns-clause-changes
returns-clause-changes c = λ image params schedule t rest is at.
    c.changes_word.ensures
    ∙ flat_changes c.self.inside.machine c.step.new.self c.args.number (event_of c.in_ok-happened.happened)
    c.in_ok-happened.ensures.stepped
    (ap (λ (m : FlatMachine). list_all (λ n. is_done n.need) m.flat.nodes.items) c.self.view_is ∙ c.requires.going)
    image params schedule t rest is
    (subst (λ (m : FlatMachine). FlatRuns m.flat image params schedule t rest) (sym c.self.view_is) at)

pub returns-clause-some : goal.returns-clause-some
returns-clause-some c =
    let w = c.self.invariant.0 in
    subst (λ (m : FlatMachine). 0 < length (marked m.marks)) c.self.view_is
    (some_marked c.self.inside.machine.flat c.self.inside.machine.marks w.s w.memory c.self.invariant.1.marked w.stands
    (ap (λ (m : FlatMachine). list_all (λ n. is_done n.need) m.flat.nodes.items) c.self.view_is ∙ c.requires.going))
