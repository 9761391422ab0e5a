use Rattle.std.proofs.Common.{◌≡◌, ◌*◌, ◌≤◌, ap, subst, sym, ◌∙◌, length, arith}
use Rattle.std.proofs.lemmas.Result.{IfOk-weaker}
use Rattle.image_mem.specs.Contents.{Contents}
use Rattle.rv_core.specs.declared.outcome.Outcome.{Outcome}
use Rattle.state_text.specs.States.{IsOutcomeOf, state_lines}
use Rattle.tso_recordings.specs.Follows.{tso_outcome_of}
use Rattle.rtr_cli.specs.Inputs.{image_of}
use Rattle.rtr_cli.proofs.BufferRuns.{tso_run_fits}
use Rattle.rtr_cli.proofs.buffers.tso_run_text.Goals as goal
use Rattle.rtr_cli.proofs.buffers.tso_run_text.Goals.{In_ok-ran}

-- the image that was run, and what the run came to
image_is : (c : In_ok-ran) → c.in_ok-ran.ran.image ≡ image_of c.args.run.params c.args.bytes.items
image_is c = c.in_ok-ran.ensures.image ∙ c.image-opening.ensures

outcome_is : (c : In_ok-ran) →
    c.in_ok-ran.ran.outcome
    ≡ tso_outcome_of (image_of c.args.run.params c.args.bytes.items) c.args.run.params c.args.run.schedule
outcome_is c = c.in_ok-ran.ensures.outcome
    ∙ ap (λ (i : Contents). tso_outcome_of i c.args.run.params c.args.run.schedule) c.image-opening.ensures

-- what the run came to is an outcome over its image
pub state_text-requires : goal.state_text-requires
state_text-requires c =
    let here = (goal.at.state_text-requires c).In_ok-ran in
    let small = rw c.as_slice.ensures.value at c.are_bytes.ensures in
    let room : length c.args.bytes.items ≤ 4 * c.args.run.params.words =
    omega (arith, c.requires.within, c.args.bytes.ok.0) in
    let fits = tso_run_fits c.args.run.params c.args.run.schedule c.args.bytes.items c.requires.fits room small in
    subst (λ (i : Contents). IsOutcomeOf i c.in_ok-ran.ran.outcome) (sym (image_is here))
    (subst (λ (o : Outcome). IsOutcomeOf (image_of c.args.run.params c.args.bytes.items) o) (sym (outcome_is here))
    fits)

pub returns : goal.returns
returns c =
    let here = (goal.at.returns c).In_ok-ran in
    IfOk-weaker c.state_text.result _ _
    (λ out is. is ∙ ap (λ (o : Outcome). state_lines o c.in_ok-ran.ran.image c.args.loads) (outcome_is here)
    ∙ ap (λ (i : Contents). state_lines
    (tso_outcome_of (image_of c.args.run.params c.args.bytes.items) c.args.run.params c.args.run.schedule) i
    c.args.loads)
    (image_is here))
    c.state_text.ensures
