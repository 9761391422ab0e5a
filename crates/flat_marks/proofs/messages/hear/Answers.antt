use Rattle.std.proofs.Common.{◌≡◌, ◌∙◌, ap, List}
use Rattle.move_marks.specs.declared.marks.MoveKind.TheVariants.{Own, Request, Response, FromHome}
use Rattle.flat_state.specs.declared.block.HomeBlock.{HomeBlock}
use Rattle.flat_state.specs.Shows.{blocks_of, home_at}
use Rattle.flat_cores.specs.Needs.{but_words}
use Rattle.flat_marks.proofs.CoreMarks.{ack_marked, word_ends, word_marked}
use Rattle.flat_marks.proofs.NodeMarks.{message_there}
use Rattle.flat_marks.proofs.Waiting.{ends}
use Rattle.flat_marks.proofs.messages.hear.Goals as goal

pub returns-in-Ack : goal.returns-in-Ack
returns-in-Ack c =
    let f = c.args.flat.now in
    let w = c.requires.stands in
    record {
      makes = c.take_word.ensures.makes;
      told = c.take_word.ensures.told;
      blocks = ap blocks_of c.take_word.ensures.home;
      marked = ack_marked f w.s w.memory c.args.core c.args.told
          (message_there f c.args.marks.now c.args.core c.requires.marked c.requires.can) c.requires.told w.stands
          c.take_word.new.flat c.args.marks.now c.mark_retired.new.marks c.requires.marked
          (ap blocks_of c.take_word.ensures.home) (λ i. ap (λ (l : List HomeBlock). but_words (home_at l i)) c.take_word.ensures.home)
          (c.mark_retired.ensures.others Response c.args.core (λ (e : Response ≡ Own). absurd (cc))
          ∙ c.mark_links.ensures.response)
          (c.mark_retired.ensures.others FromHome c.args.core (λ (e : FromHome ≡ Own). absurd (cc))
          ∙ c.mark_links.ensures.message)
          (c.mark_retired.ensures.others Request c.args.core (λ (e : Request ≡ Own). absurd (cc))
          ∙ c.mark_links.ensures.others Request c.args.core (λ (e : Request ≡ Response). absurd (cc))
          (λ (e : Request ≡ FromHome). absurd (cc)))
          (λ k d apart. c.mark_retired.ensures.others k d (λ e. apart)
          ∙ c.mark_links.ensures.others k d (λ e. apart) (λ e. apart))
          c.take_word.ensures.nodes (ap ends c.in-Ack.is) c.mark_retired.ensures.own;
    }

pub returns-in_default : goal.returns-in_default
returns-in_default c =
    let f = c.args.flat.now in
    let w = c.requires.stands in
    record {
      makes = c.take_word.ensures.makes;
      told = c.take_word.ensures.told;
      blocks = ap blocks_of c.take_word.ensures.home;
      marked = word_marked f w.s w.memory c.args.core c.args.told
          (message_there f c.args.marks.now c.args.core c.requires.marked c.requires.can) c.requires.told w.stands
          c.take_word.new.flat c.args.marks.now c.mark_links.new.marks c.requires.marked
          (ap blocks_of c.take_word.ensures.home) (λ i. ap (λ (l : List HomeBlock). but_words (home_at l i)) c.take_word.ensures.home)
          c.mark_links.ensures.response c.mark_links.ensures.message
          (c.mark_links.ensures.others Request c.args.core (λ (e : Request ≡ Response). absurd (cc))
          (λ (e : Request ≡ FromHome). absurd (cc)))
          (λ k d apart. c.mark_links.ensures.others k d (λ e. apart) (λ e. apart))
          c.take_word.ensures.nodes (word_ends c.args.told c.requires.word c.in_default.not-Ack)
          (c.mark_links.ensures.others Own c.args.core (λ (e : Own ≡ Response). absurd (cc))
          (λ (e : Own ≡ FromHome). absurd (cc)));
    }
