use Rattle.std.proofs.Common.{◌≡◌, ◌<◌, ◌^◌, ◌++◌, List, [], length, get_or, refl, sym, subst, ◌∙◌}
use Rattle.std.proofs.lemmas.List.{get_or_default}
use Rattle.stride_vector.specs.declared.StrideVector.{StrideVector}
use Rattle.log_codec.specs.Turns.{alike}
use Rattle.rtr_types.specs.Turns.{count_up}
use Rattle.log_codec.specs.Spelling.{vectors_text, regulated_text}
use Rattle.log_codec.proofs.InTurn.{puts_on, puts_done}
use Rattle.log_codec.proofs.writing.put_regulated.Goals as goal

pub loop-vectors-init : goal.loop-vectors-init
loop-vectors-init c = refl

pub put_vectors-requires : goal.put_vectors-requires
put_vectors-requires c =
    let i = c.loop-vectors.vectors-index in
    let same = c.as_slice.ensures ∙ c.vectors-item.is
    ∙ get_or_default c.args.regulated.now i c.vectors-item.result [] c.loop-vectors-test.true in
    subst (λ (vectors : List StrideVector). length vectors < 2 ^ 32) (sym same) (c.requires i c.loop-vectors-test.true)

pub loop-vectors-preserved : goal.loop-vectors-preserved
loop-vectors-preserved c =
    let i = c.loop-vectors.vectors-index in
    let item = c.vectors-item.result in
    let is : c.put_vectors.new.out.items
    ≡ c.loop-vectors.out.items ++ vectors_text (get_or c.args.regulated.now i item) =
    rw (← c.vectors-item.is, ← c.as_slice.ensures) c.in_ok-put_vectors.ensures in
    puts_on (alike vectors_text) count_up c.loop-vectors.out.items c.put_vectors.new.out.items
    (c.args.out.now.items ++ regulated_text c.args.regulated.now) i c.args.regulated.now i item c.loop-vectors-test.true
    is c.loop-vectors.invariant

pub returns : goal.returns
returns c = puts_done (alike vectors_text) count_up c.loop-vectors.out.items
    (c.args.out.now.items ++ regulated_text c.args.regulated.now) c.loop-vectors.vectors-index c.args.regulated.now
    c.loop-vectors.vectors-index
    c.loop-vectors-test.false c.loop-vectors.invariant
