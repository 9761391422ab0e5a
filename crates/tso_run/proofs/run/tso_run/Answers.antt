use Rattle.std.proofs.Common.{ap, map, sym, ◌∙◌}
use Rattle.std.proofs.lemmas.List.{length-map}
use Rattle.access_times.specs.Riding.{none_carrying, none_riding}
use Rattle.msi_memory.specs.Finals.{block_words}
use Rattle.run_steps.proofs.RunStart.{under_way}
use Rattle.run_steps.specs.Ends.{outcome_with}
use Rattle.tso_outcome.proofs.RunPlaces.{outcome_is, run_ends_so, stands_start}
use Rattle.tso_plain.specs.Plain.{plain}
use Rattle.tso_plain.proofs.ForgetfulSteps.{plain_done}
use Rattle.tso_state.specs.States.{BufferedCore}
use Rattle.tso_run.proofs.run.tso_run.Goals as goal

pub outcome_at_end-requires-clause-cores : goal.outcome_at_end-requires-clause-cores
outcome_at_end-requires-clause-cores c =
    let a = c.args in
    let start = stands_start a.image a.params a.schedule _ _ c.in_ok-machine.ensures.plain c.in_ok-clerk.ensures in
    sym (c.in_ok-ended.ensures.stands _ _ _ _ start).1.runs.cores
    ∙ sym (length-map c.in_ok-ended.ended.machine.state.cores (λ (t : BufferedCore). t.core))

pub run_to_end-requires-clause-under_way : goal.run_to_end-requires-clause-under_way
run_to_end-requires-clause-under_way c =
    under_way _ c.args.image c.args.params c.args.schedule c.requires.fits
    (stands_start _ _ _ _ _ c.in_ok-machine.ensures.plain c.in_ok-clerk.ensures)

pub returns-clause-ended : goal.returns-clause-ended
returns-clause-ended c = run_ends_so c.args.image c.args.params c.args.schedule c.requires.fits

pub returns-clause-image : goal.returns-clause-image
returns-clause-image c =
    c.into_image.ensures ∙ c.in_ok-ended.ensures.image ∙ ap (λ s. s.image) c.in_ok-machine.ensures.start

pub returns-clause-outcome : goal.returns-clause-outcome
returns-clause-outcome c =
    let a = c.args in
    let start = stands_start a.image a.params a.schedule _ _ c.in_ok-machine.ensures.plain c.in_ok-clerk.ensures in
    let s = c.in_ok-ended.ended.machine.state in
    c.in_ok-outcome.ensures
    ∙ ap (outcome_with (map (λ (t : BufferedCore). t.core) s.cores) (block_words none_riding none_carrying (plain s).memory) s.image.words)
    c.into_loads-loads.ensures
    ∙ outcome_is _ _ _ _ (plain s) _ _ c.requires.fits (sym (plain_done s) ∙ c.in_ok-ended.ensures.done)
    (c.in_ok-ended.ensures.stands _ _ _ _ start).1
