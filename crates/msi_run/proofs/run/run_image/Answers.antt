use Rattle.std.proofs.Common.{ap, arith, sym, ◌∙◌}
use Rattle.access_times.specs.Riding.{none_carrying, none_riding}
use Rattle.run_outcome.proofs.RunPlaces.{run_ends}
use Rattle.machine_plain.specs.Plain.{plain}
use Rattle.msi_state.specs.FinalMemory.{final_words}
use Rattle.run_outcome.proofs.RunPlaces.{outcome_is, stands_start}
use Rattle.run_steps.proofs.RunStart.{under_way}
use Rattle.schedule_pick.specs.Choices.{choice_at}
use Rattle.run_steps.specs.Ends.{outcome_with}
use Rattle.msi_run.proofs.run.run_image.Goals as goal

pub run_to_end-requires-clause-under_way : goal.run_to_end-requires-clause-under_way
run_to_end-requires-clause-under_way c =
    under_way _ c.args.image c.args.params c.args.schedule c.requires.fits
    (stands_start _ _ _ _ _ c.in_ok-machine.ensures.plain c.in_ok-clerk.ensures)

pub outcome_at_end-requires-clause-cores : goal.outcome_at_end-requires-clause-cores
outcome_at_end-requires-clause-cores c =
    let a = c.args in
    let start = stands_start a.image a.params a.schedule _ _ c.in_ok-machine.ensures.plain c.in_ok-clerk.ensures in
    sym (c.in_ok-ended.ensures.stands _ _ _ _ start).1.runs.cores

pub returns-clause-outcome : goal.returns-clause-outcome
returns-clause-outcome c =
    let a = c.args in
    let start = stands_start a.image a.params a.schedule _ _ c.in_ok-machine.ensures.plain c.in_ok-clerk.ensures in
    let stands = c.in_ok-ended.ensures.stands _ _ _ _ start in
    let s = c.in_ok-ended.ended.machine.state in
    c.in_ok-outcome.ensures ∙ ap (outcome_with s.cores (final_words none_riding none_carrying (plain s)) s.image.words) c.into_loads-loads.ensures
    ∙ outcome_is _ _ _ stands.0 s _ _ c.requires.fits c.in_ok-ended.ensures.done stands.1

pub returns-clause-ended : goal.returns-clause-ended
returns-clause-ended c =
    let fits = c.requires.fits in
    run_ends c.args.image c.args.params (choice_at c.args.schedule)
    (record { cores = fits.cores; limit = omega (arith, fits.limit) })

pub returns-clause-image : goal.returns-clause-image
returns-clause-image c =
    c.into_image.ensures ∙ c.in_ok-ended.ensures.image ∙ ap (λ s. s.image) c.in_ok-machine.ensures.start
