use Rattle.std.proofs.Common.{◌≡◌, ◌∙◌}
use Rattle.move_marks.specs.declared.marks.MoveKind.TheVariants.{Response, FromHome}
use Rattle.move_marks.proofs.marking.mark_port.Goals as goal

pub returns-clause-response : goal.returns-clause-response
returns-clause-response g c =
    c.set-2.ensures.others Response c.args.core (λ (e : Response ≡ FromHome). cc)
    ∙ c.set.ensures.this ∙ c.has_response.ensures

pub returns-clause-message : goal.returns-clause-message
returns-clause-message g c = c.set-2.ensures.this ∙ c.has_message.ensures

pub returns-clause-others : goal.returns-clause-others
returns-clause-others g c = λ k d response message.
    c.set-2.ensures.others k d message ∙ c.set.ensures.others k d response
