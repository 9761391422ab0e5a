use Rattle.std.proofs.Common.{◌≡◌, ◌∙◌, ◌-◌, ap, sym, subst, ℕ, suc, List, [], length, arith, true, None, false}
use Rattle.std.proofs.lemmas.List.{length-replicate}
use Rattle.image_mem.specs.Contents.{Contents}
use Rattle.rv_core.specs.States.{starting}
use Rattle.schedule_pick.specs.Choices.{choices_of}
use Rattle.hunt_runs.specs.Courses.{EachEnabled, Gone, StandsAfter, course_of, gone_from, run_by}
use Rattle.hunt_runs.specs.Directing.{Directed, IsOf, begun}
use Rattle.hunt_runs.specs.Ends.{EndsAs}
use Rattle.hunt_runs.specs.Jumping.{Jumped}
use Rattle.hunt_runs.specs.Seen.{Seen}
use Rattle.hunt_runs.specs.Ways.{gone_in}
use Rattle.hunt_runs.specs.declared.led.Led.{Led}
use Rattle.hunt_runs.proofs.RunCourses.{by_seed, each_none, stays}
use Rattle.hunt_runs.proofs.led.lead.Given as given
use Rattle.hunt_runs.proofs.led.lead.Goals as goal

pub loop-run-init : goal.loop-run-init
loop-run-init g c =
    let M = g.M.HuntedMachine in
    let image = g.M.SteppedMachine.image c.args.machine in
    let params = c.args.params in
    let machine = c.in_ok-machine.machine in
    let course = course_of M.seen_at M.changes_at image params in
    let policy = g.P.Policy.policy in
    let cores : ℕ = length (g.M.SteppedMachine.cores machine) in
    let many : cores ≡ params.cores = c.in_ok-machine.ensures.cores in
    let begins : c.new-2.result ≡ begun c.args.policy params.cores =
    c.new-2.ensures
    ∙ ap (λ (jumps : Jumped). record { policy = c.args.policy; turn = None; made = false; jumps = jumps })
    c.in_ok-jumps.ensures in
    let none : c.in_ok-choices.choices ≡ [] = c.in_ok-choices.ensures in
    record {
      stands = subst (λ (l : List ℕ). StandsAfter M.stands image params machine l) (sym none)
          (λ rest. c.in_ok-machine.ensures.stands rest);
      gone = (
        M.most_steps params,
        c.in_ok-machine.ensures.few,
        (λ i. gone_from course policy (M.most_steps params) (record { choices = none i; directed = begins i })),
      );
      each = subst (λ (l : List ℕ). EachEnabled course l) (sym none) (each_none course);
      of = subst (λ (d : Directed g.row.P.Denot). IsOf d cores) (sym begins) (record {
        work = omega (arith, many, c.requires.fits.some_core);
        long = length-replicate params.cores (starting 0 0) ∙ sym many;
        few = omega (arith, many, c.requires.fits.cores);
      });
      cores = many;
      image = c.in_ok-machine.ensures.image;
    }

pub go_on-requires-clause-of : goal.go_on-requires-clause-of
go_on-requires-clause-of g c = c.loop-run.invariant.of

pub loop-run-smaller : goal.loop-run-smaller
loop-run-smaller g c = c.in_ok-go_on.ensures.nearer

pub loop-run-preserved : goal.loop-run-preserved
loop-run-preserved g c =
    let M = g.M.HuntedMachine in
    let image = g.M.SteppedMachine.image c.args.machine in
    let params = c.args.params in
    let course = course_of M.seen_at M.changes_at image params in
    let policy = g.P.Policy.policy in
    let before = c.loop-run.invariant in
    let most : ℕ = before.gone.0 in
    let less = c.in_ok-go_on.ensures.nearer in
    let one : suc (most - 1) ≡ most = omega (arith, less, before.gone.1) in
    record {
      stands = c.in_ok-go_on.ensures.stands image params before.stands;
      gone = (
        most - 1,
        omega (arith, less, before.gone.1),
        sym (c.in_ok-go_on.ensures.leads image params before.stands (most - 1))
            ∙ ap (λ (n : ℕ). gone_from course policy n (gone_in c.loop-run.run)) one ∙ before.gone.2,
      );
      each = c.in_ok-go_on.ensures.enabled image params before.stands before.each;
      of = c.in_ok-go_on.ensures.of;
      cores = c.in_ok-go_on.ensures.cores ∙ before.cores;
      image = c.in_ok-go_on.ensures.image ∙ before.image;
    }

module _ (g : given.Over) (c : goal.After-into_led g) where
  -- the run that was begun ended here
  whole : gone_in c.loop-run.run
      ≡ run_by (course_of g.M.HuntedMachine.seen_at g.M.HuntedMachine.changes_at
      (g.M.SteppedMachine.image c.args.machine) c.args.params)
      g.P.Policy.policy c.args.policy c.args.params.cores (g.M.HuntedMachine.most_steps c.args.params)
  whole =
      let M = g.M.HuntedMachine in
      let course = course_of M.seen_at M.changes_at (g.M.SteppedMachine.image c.args.machine) c.args.params in
      let run = c.loop-run.run in
      let now = M.seen run.machine in
      let is_now : now ≡ course.seen run.choices =
      by_seed M.stands (g.M.SteppedMachine.image c.args.machine) c.args.params run.machine run.choices
      (λ schedule t. now ≡ M.seen_at (g.M.SteppedMachine.image c.args.machine) c.args.params schedule t)
      (λ schedule t rest at. c.is_seen.ensures.seen (g.M.SteppedMachine.image c.args.machine) c.args.params schedule t
      rest at)
      c.loop-run.invariant.stands 0 in
      let ended : (course.seen run.choices).ended ≡ true =
      ap (λ (s : Seen). s.ended) (sym is_now) ∙ c.is_seen.ensures.ended ∙ sym c.done.ensures ∙ c.loop-run-test.false in
      sym (stays course g.P.Policy.policy c.loop-run.invariant.gone.0 (gone_in run) ended)
      ∙ c.loop-run.invariant.gone.2

pub returns-clause-choices : goal.returns-clause-choices
returns-clause-choices g c =
    ap (λ (l : Led g.row.M.Denot g.row.P.Denot). l.choices) c.into_led.ensures
    ∙ ap (λ (x : Gone g.row.P.Denot). x.choices) (whole g c)

pub returns-clause-policy : goal.returns-clause-policy
returns-clause-policy g c =
    ap (λ (l : Led g.row.M.Denot g.row.P.Denot). l.policy) c.into_led.ensures
    ∙ ap (λ (x : Gone g.row.P.Denot). x.directed.policy) (whole g c)

pub returns-clause-enabled : goal.returns-clause-enabled
returns-clause-enabled g c =
    let course = course_of g.M.HuntedMachine.seen_at g.M.HuntedMachine.changes_at
    (g.M.SteppedMachine.image c.args.machine) c.args.params in
    subst (λ (l : List ℕ). EachEnabled course l)
    (sym (ap (λ (l : Led g.row.M.Denot g.row.P.Denot). l.choices) c.into_led.ensures)) c.loop-run.invariant.each

pub returns-clause-comes_to : goal.returns-clause-comes_to
returns-clause-comes_to g c = λ seed.
    let M = g.M.HuntedMachine in
    let S = g.M.SteppedMachine in
    let run = c.loop-run.run in
    let image = g.M.SteppedMachine.image c.args.machine in
    let params = c.args.params in
    subst (λ (l : Led g.row.M.Denot g.row.P.Denot).
    EndsAs (S.cores l.machine) (S.words l.machine) image.words (M.outcome image params (choices_of l.choices seed)))
    (sym c.into_led.ensures)
    (by_seed M.stands image params run.machine run.choices
    (λ schedule t. EndsAs (S.cores run.machine) (S.words run.machine) image.words (M.outcome image params schedule))
    (λ schedule t rest at. subst (λ (x : Contents).
    EndsAs (S.cores run.machine) (S.words run.machine) x.words (M.outcome image params schedule))
    c.loop-run.invariant.image (c.has_come_to.ensures image params schedule t rest c.requires.fits at))
    c.loop-run.invariant.stands seed)

pub returns-clause-image : goal.returns-clause-image
returns-clause-image g c =
    ap (λ (l : Led g.row.M.Denot g.row.P.Denot). g.M.SteppedMachine.image l.machine) c.into_led.ensures
    ∙ c.loop-run.invariant.image

pub returns-clause-cores : goal.returns-clause-cores
returns-clause-cores g c =
    ap (λ (l : Led g.row.M.Denot g.row.P.Denot). length (g.M.SteppedMachine.cores l.machine)) c.into_led.ensures
    ∙ c.loop-run.invariant.cores
