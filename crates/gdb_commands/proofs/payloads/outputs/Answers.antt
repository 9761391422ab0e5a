use Rattle.std.proofs.Common.{ℕ, List, [], ◌∷◌, ◌++◌, ap, sym, ◌∙◌, arith}
use Rattle.std.proofs.lemmas.List.FromFn.{map-range_with_len_more}
use Rattle.gdb_packets.specs.Replies.{spelled}
use Rattle.gdb_packets.specs.declared.replies.Reply.TheVariants.{Output}
use Rattle.gdb_commands.specs.Payloads.{outputs, part_of}
use Rattle.gdb_commands.proofs.payloads.outputs.Goals as goal

pub loop-part-preserved : goal.loop-part-preserved
loop-part-preserved c =
    let text = c.args.text.now in
    let part = c.loop-part.part in
    c.in_ok-push.ensures.ok
    ∙ ap (λ (done : List (List ℕ)). done ++ c.in_ok-output.field-0 ∷ []) c.loop-part.invariant
    ∙ ap (λ (payload : List ℕ). outputs text part ++ payload ∷ []) c.in_ok-output.ensures
    ∙ sym (map-range_with_len_more (λ k. spelled (Output (part_of text k))) 0 part part (omega arith))
