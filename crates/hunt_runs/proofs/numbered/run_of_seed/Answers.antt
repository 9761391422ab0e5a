use Rattle.std.proofs.Common.{◌≡◌, ◌∙◌, ap, sym, subst, ℕ, suc, List, []}
use Rattle.image_mem.specs.Contents.{Contents}
use Rattle.schedule_pick.specs.Choices.{Choices, choices_of}
use Rattle.hunt_runs.specs.Ends.{EndsAs}
use Rattle.hunt_runs.proofs.numbered.run_of_seed.Goals as goal

pub loop-machine-init : goal.loop-machine-init
loop-machine-init g c =
    let begins : c.new-schedule.result ≡ choices_of [] c.args.seed =
    c.new-schedule.ensures ∙ ap (λ (l : List ℕ). choices_of l c.args.seed) c.new.ensures.items in
    record {
      stands = (
        0,
        subst (λ (s : Choices). g.M.HuntedMachine.stands c.in_ok-machine.machine
            (g.M.SteppedMachine.image c.args.machine) c.args.params
            (choices_of [] c.args.seed) 0 s) (sym begins) (c.in_ok-machine.ensures.stands (choices_of [] c.args.seed)),
      );
      cores = c.in_ok-machine.ensures.cores;
      image = c.in_ok-machine.ensures.image;
    }

pub loop-machine-smaller : goal.loop-machine-smaller
loop-machine-smaller g c = c.in_ok-_changed.ensures.nearer

pub loop-machine-preserved : goal.loop-machine-preserved
loop-machine-preserved g c =
    let before = c.loop-machine.invariant in
    let t : ℕ = before.stands.0 in
    record {
      stands = (
        suc t,
        subst (λ (s : Choices). g.M.HuntedMachine.stands c.take.new.self (g.M.SteppedMachine.image c.args.machine)
            c.args.params
            (choices_of [] c.args.seed) (suc t) s) (sym c.next.ensures.rest)
            (c.in_ok-_changed.ensures.stands (g.M.SteppedMachine.image c.args.machine) c.args.params
            (choices_of [] c.args.seed) t
            c.loop-machine.schedule c.next.ensures.choice before.stands.1),
      );
      cores = c.in_ok-_changed.ensures.cores ∙ before.cores;
      image = c.in_ok-_changed.ensures.image ∙ before.image;
    }

pub returns-clause-comes_to : goal.returns-clause-comes_to
returns-clause-comes_to g c =
    let S = g.M.SteppedMachine in
    let machine = c.loop-machine.machine in
    let end = c.loop-machine.invariant in
    let left : Choices → Contents → Type 0 = λ schedule image.
    EndsAs (S.cores machine) (S.words machine) image.words
    (g.M.HuntedMachine.outcome (g.M.SteppedMachine.image c.args.machine) c.args.params schedule) in
    subst (λ (l : List ℕ). left (choices_of l c.args.seed) (g.M.SteppedMachine.image c.args.machine))
    (sym c.new-2.ensures)
    (subst (left (choices_of [] c.args.seed)) end.image
    (c.has_come_to.ensures (g.M.SteppedMachine.image c.args.machine) c.args.params (choices_of [] c.args.seed)
    end.stands.0 c.loop-machine.schedule
    c.requires.fits end.stands.1))

pub returns-clause-image : goal.returns-clause-image
returns-clause-image g c = c.loop-machine.invariant.image

pub returns-clause-cores : goal.returns-clause-cores
returns-clause-cores g c = c.loop-machine.invariant.cores
