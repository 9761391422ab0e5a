use Rattle.std.proofs.Common.{◌∙◌, ap, arith, map}
use Rattle.run_outcome.proofs.RunPlaces.{run_ends}
use Rattle.run_steps.proofs.RunStart.{under_way}
use Rattle.run_steps.specs.Ends.{outcome_with}
use Rattle.schedule_pick.specs.Choices.{choice_at}
use Rattle.flat_machine.specs.Machines.{words_noted}
use Rattle.flat_run.proofs.FlatRuns.{cores_count, flat_outcome, stands_first}
use Rattle.flat_run.proofs.run.run_flat.Goals as goal

pub run_to_end-requires-clause-under_way : goal.run_to_end-requires-clause-under_way
run_to_end-requires-clause-under_way c =
    let a = c.args in
    let made = c.in_ok-machine.ensures in
    under_way _ a.image a.params a.schedule c.requires.fits
    (stands_first _ _ a.image a.params a.schedule made.stands made.kept c.in_ok-clerk.ensures)

pub outcome_at_end-requires-clause-cores : goal.outcome_at_end-requires-clause-cores
outcome_at_end-requires-clause-cores c =
    let a = c.args in
    let made = c.in_ok-machine.ensures in
    let start = stands_first _ _ a.image a.params a.schedule made.stands made.kept c.in_ok-clerk.ensures in
    let stands = c.in_ok-ended.ensures.stands _ _ _ _ start in
    cores_count _ _ _ a.image a.params a.schedule stands.0 stands.1

pub returns-clause-outcome : goal.returns-clause-outcome
returns-clause-outcome c =
    let a = c.args in
    let made = c.in_ok-machine.ensures in
    let start = stands_first _ _ a.image a.params a.schedule made.stands made.kept c.in_ok-clerk.ensures in
    let stands = c.in_ok-ended.ensures.stands _ _ _ _ start in
    let m = c.in_ok-ended.ended.machine in
    c.in_ok-outcome.ensures
    ∙ ap (outcome_with (map (λ n. n.core) m.flat.nodes.items) (words_noted m) m.flat.program.words)
    c.into_loads-loads.ensures
    ∙ flat_outcome m _ _ a.image a.params a.schedule stands.0 stands.1 c.requires.fits c.in_ok-ended.ensures.done

pub returns-clause-ended : goal.returns-clause-ended
returns-clause-ended c =
    let fits = c.requires.fits in
    run_ends c.args.image c.args.params (choice_at c.args.schedule)
    (record { cores = fits.cores; limit = omega (arith, fits.limit) })

pub returns-clause-image : goal.returns-clause-image
returns-clause-image c =
    c.into_image.ensures ∙ c.in_ok-ended.ensures.image ∙ c.in_ok-machine.ensures.stands.shows.image
