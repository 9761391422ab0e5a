use Rattle.std.proofs.Common.{ap, ◌∙◌}
use Rattle.run_steps.proofs.RunStart.{under_way}
use Rattle.run_accesses.proofs.KeptAccesses.{kept_at_end, stands_start}
use Rattle.run_accesses.proofs.plain.accesses_of_run.Goals as goal

pub run_to_end-requires-clause-under_way : goal.run_to_end-requires-clause-under_way
run_to_end-requires-clause-under_way c =
    under_way _ c.args.image c.args.params c.args.schedule c.requires.fits
    (stands_start _ _ _ _ _ c.in_ok-machine.ensures.plain c.new-clerk.ensures)

pub returns-clause-accesses : goal.returns-clause-accesses
returns-clause-accesses c =
    let a = c.args in
    let start = stands_start a.image a.params a.schedule _ _ c.in_ok-machine.ensures.plain c.new-clerk.ensures in
    let stands = c.in_ok-ended.ensures.stands _ _ _ _ start in
    c.into_accesses.ensures
    ∙ kept_at_end _ _ _ stands.0 c.in_ok-ended.ended.machine.state _ _ c.requires.fits c.in_ok-ended.ensures.done stands.1

pub returns-clause-image : goal.returns-clause-image
returns-clause-image c =
    c.into_image.ensures ∙ c.in_ok-ended.ensures.image ∙ ap (λ s. s.image) c.in_ok-machine.ensures.start
