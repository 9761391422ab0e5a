use Rattle.std.proofs.Common.{◌≡◌, ◌∙◌, refl}
use Rattle.move_marks.specs.declared.marks.MoveKind.TheVariants.{Own, Request, Response, FromHome}
use Rattle.flat_state.specs.declared.message_ring.Told.TheVariants.{Data}
use Rattle.flat_marks.proofs.CoreMarks.{data_marked}
use Rattle.flat_marks.proofs.NodeMarks.{message_there}
use Rattle.flat_marks.proofs.messages.hear_data.Goals as goal

pub returns : goal.returns
returns c =
    let f = c.args.flat.now in
    let w = c.requires.stands in
    let made = c.take_data-access.ensures in
    record {
      makes = c.take_data-access.ensures.makes;
      told = c.take_data-access.ensures.told;
      blocks = c.take_data-access.ensures.blocks;
      marked = data_marked f w.s w.memory c.args.core Data
          (message_there f c.args.marks.now c.args.core c.requires.marked c.requires.can) c.requires.brings w.stands
          c.take_data-access.new.flat c.args.marks.now c.mark_retired.new.marks c.requires.marked made.blocks made.home
          (c.mark_retired.ensures.others Response c.args.core (λ (e : Response ≡ Own). absurd (cc))
          ∙ c.mark_links.ensures.response)
          (c.mark_retired.ensures.others FromHome c.args.core (λ (e : FromHome ≡ Own). absurd (cc))
          ∙ c.mark_links.ensures.message)
          (c.mark_retired.ensures.others Request c.args.core (λ (e : Request ≡ Own). absurd (cc))
          ∙ c.mark_links.ensures.others Request c.args.core (λ (e : Request ≡ Response). absurd (cc))
          (λ (e : Request ≡ FromHome). absurd (cc)))
          (λ k d apart. c.mark_retired.ensures.others k d (λ e. apart)
          ∙ c.mark_links.ensures.others k d (λ e. apart) (λ e. apart))
          c.take_data-access.result.before made.nodes refl c.mark_retired.ensures.own;
    }
