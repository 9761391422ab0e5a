use Rattle.std.proofs.Common.{◌≡◌, ℕ, List, ap, subst, ◌∙◌}
use Rattle.std.specs.Prelude.{IfOk}
use Rattle.image_mem.specs.Contents.{Contents}
use Rattle.rv_core.specs.declared.core_state.Core.{Core}
use Rattle.replay_core.specs.Play.{core_at}
use Rattle.gdb_places.specs.Registers.{register_words, word_reply, words_at}
use Rattle.gdb_places.proofs.registers.register_reply.Goals as goal

pub returns : goal.returns
returns c =
    let place = c.args.place.now in
    let total = c.args.total in
    let words_is : c.as_slice.result.now ≡ words_at place c.args.core total =
    c.as_slice.ensures ∙ c.in_ok-words.ensures
    ∙ ap (λ (k : Core). register_words c.args.image.now k total) c.core.ensures
    ∙ ap (λ (i : Contents). register_words i (core_at place.state c.args.core) total) c.requires.image in
    subst (λ (words : List ℕ). IfOk c.word_reply.result (λ reply. reply ≡ word_reply words c.args.number)) words_is
    c.word_reply.ensures
