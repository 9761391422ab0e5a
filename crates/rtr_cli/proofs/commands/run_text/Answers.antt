use Rattle.std.proofs.Common.{◌≡◌, ap, ◌∙◌, List, ℕ}
use Rattle.std.proofs.lemmas.Result.{IfOk-weaker}
use Rattle.image_mem.specs.Contents.{Contents}
use Rattle.rv_core.specs.declared.outcome.Outcome.{Outcome}
use Rattle.run_outcome.specs.Outcomes.{outcome_of}
use Rattle.state_text.specs.States.{state_lines}
use Rattle.rtr_cli.specs.Inputs.{image_of}
use Rattle.rtr_cli.proofs.commands.run_text.Goals as goal

pub returns : goal.returns
returns c =
    let image : c.in_ok-ran.ran.image ≡ image_of c.args.run.params c.args.bytes.items = c.in_ok-ran.ensures.image
    ∙ c.image-opening.ensures in
    let outcome : c.in_ok-ran.ran.outcome ≡ outcome_of (image_of c.args.run.params c.args.bytes.items) c.args.run.params
    c.args.run.schedule =
    c.in_ok-ran.ensures.outcome ∙ ap (λ (i : Contents). outcome_of i c.args.run.params c.args.run.schedule)
    c.image-opening.ensures in
    IfOk-weaker c.state_text.result _ _
    (λ out is. is ∙ ap (λ (o : Outcome). state_lines o c.in_ok-ran.ran.image c.args.loads) outcome
    ∙ ap (λ (i : Contents). state_lines (outcome_of (image_of c.args.run.params c.args.bytes.items) c.args.run.params
    c.args.run.schedule) i c.args.loads) image)
    c.state_text.ensures
