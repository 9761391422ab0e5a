use Rattle.std.proofs.Common.{◌≡◌, sym, ◌∙◌, eq-eqb}
use Rattle.std.specs.Prelude.{slice_index}
use Rattle.what_if.proofs.Rows.{none_differs, one_differs}
use Rattle.what_if.proofs.Tries.{differ_so}
use Rattle.what_if.proofs.telling.differing.Goals.{then-word_in+in_ok-push, else-word_in}
use Rattle.what_if.proofs.telling.differing.Goals as goal

pub loop-word-preserved : goal.loop-word-preserved
loop-word-preserved c =
    let words = c.args.words.now in
    let recorded = c.args.recorded.now in
    let word = c.loop-word.word in
    elim c.if-word_in.branch [
      | then-word_in+in_ok-push w ↦
          w.list-is
          ∙ one_differs words recorded word c.loop-word.list w.push.new.self c.loop-word.invariant
          (differ_so (slice_index words word) (slice_index recorded word)
          (λ e. w.if-word_in.true (c.word_in.ensures ∙ e ∙ sym c.word_in-in-loop-word.ensures)))
          w.in_ok-push.ensures.ok
      | else-word_in w ↦
          w.list-is
          ∙ none_differs words recorded word c.loop-word.list c.loop-word.invariant
          (eq-eqb (slice_index words word) (slice_index recorded word)
          (sym c.word_in.ensures ∙ w.if-word_in.false ∙ c.word_in-in-loop-word.ensures))
    ]
