use Rattle.std.proofs.Common.{◌≡◌, ◌∙◌, ◌<◌, sym, ap, arith, List, ℕ, ◌++◌, ◌∷◌, [], ◌+◌, length}
use Rattle.std.proofs.lemmas.List.{with_items_is}
use Rattle.clock_entries.specs.Ends.{instr, is_end}
use Rattle.clock_entries.proofs.LastEntries.{ends_none, ends_push, ends_keep}
use Rattle.certificate_codec.specs.Ends.{reduced_edges}
use Rattle.certificate_codec.proofs.Marks.{mark_at}
use Rattle.certificate_codec.proofs.edge_ends.ends_of_core.Goals as goal
use Rattle.certificate_codec.proofs.edge_ends.ends_of_core.Goals.{then-index+in_ok-push, else-index}

pub loop-before-init : goal.loop-before-init
loop-before-init c = c.new-ends.ensures ∙ sym (ends_none (reduced_edges c.args.recording.now) c.args.core)

pub loop-before-preserved : goal.loop-before-preserved
loop-before-preserved c =
    let edges = reduced_edges c.args.recording.now in
    let marks = c.mark_edges.new.marks in
    let n = c.loop-before.before in
    let old : length c.as_mut_slice.result.now ≡ c.in_ok-marks.marks.len = c.as_mut_slice.ensures.len in
    let len : length marks ≡ c.in_ok-marks.marks.len = c.mark_edges.auto.marks ∙ old in
    let lt : n < length c.as_mut_slice.result.now =
    omega (arith, c.loop-before-test.true, c.in_ok-marks.ensures.len, old) in
    let here : c.index.result.now ≡ is_end edges (instr c.args.core (n + 1)) =
    mark_at _ marks n c.index.result.now (with_items_is c.in_ok-marks.marks marks len) c.index.ensures
    (omega (arith, len, old))
    ∙ c.mark_edges.ensures n lt in
    elim c.if-index.branch [
      | then-index+in_ok-push w ↦
          w.ends-is ∙ w.in_ok-push.ensures.ok
          ∙ ap (λ (l : List ℕ). l ++ (c.loop-before.before + 1) ∷ []) c.loop-before.invariant
          ∙ sym (ends_push edges c.args.core n (sym here ∙ w.if-index.true))
      | else-index w ↦ w.ends-is ∙ c.loop-before.invariant
          ∙ sym (ends_keep edges c.args.core n (sym here ∙ w.if-index.false))
    ]
