use Rattle.std.proofs.Common.{sym, subst, ℕ, ◌<◌}
use Rattle.std.specs.Prelude.{◌%◌}
use Rattle.std.proofs.lemmas.Nat.{mod_below}
use Rattle.flat_machine.proofs.LastPlaces.{made_nearer}
use Rattle.flat_machine.proofs.MarkedChoice.{marked_on, some_marked, taken_chosen, taken_marked}
use Rattle.flat_machine.specs.Machines.{move_of}
use Rattle.flat_machine.proofs.machine.FlatMachine.step.Goals as goal

pub nonzero_rem-choice : goal.nonzero_rem-choice
nonzero_rem-choice c =
    let m = c.args.self.now in
    let w = c.requires.stands in
    subst (λ (n : ℕ). 0 < n) (sym c.count-many.ensures.value)
    (some_marked m.flat m.marks w.s w.memory c.requires.kept.marked w.stands c.requires.going)

pub pick-taken-requires : goal.pick-taken-requires
pick-taken-requires c =
    subst (λ (n : ℕ). c.args.choice % c.count-many.result < n) c.count-many.ensures.value
    (mod_below c.args.choice c.count-many.result (nonzero_rem-choice c))

pub make-requires-clause-can : goal.make-requires-clause-can
make-requires-clause-can c =
    let m = c.args.self.now in
    let w = c.requires.stands in
    taken_marked m.flat m.marks w.s w.memory c.requires.kept.marked w.stands c.requires.going c.args.choice
    c.count-many.result c.pick-taken.result c.count-many.ensures.value c.pick-taken.ensures.value

pub returns-clause-stepped : goal.returns-clause-stepped
returns-clause-stepped c =
    let m = c.args.self.now in
    let w = c.requires.stands in
    let taken = c.pick-taken.result in
    let can = taken_marked m.flat m.marks w.s w.memory c.requires.kept.marked w.stands c.requires.going
    c.args.choice c.count-many.result taken c.count-many.ensures.value c.pick-taken.ensures.value in
    let made = c.in_ok-happened.ensures.made in
    record {
      taken = move_of taken.kind taken.core;
      chooses = λ s memory stands. taken_chosen m.flat m.marks s memory c.requires.kept.marked stands c.requires.going
          c.args.choice c.count-many.result taken c.count-many.ensures.value c.pick-taken.ensures.value;
      can = λ s memory stands. marked_on m.flat m.marks s memory c.requires.kept.marked stands taken.kind taken.core
          can;
      made = made;
      nearer = made_nearer m.flat c.make.new.self.flat (move_of taken.kind taken.core) w
          (marked_on m.flat m.marks w.s w.memory c.requires.kept.marked w.stands taken.kind taken.core can)
          made.makes;
    }
