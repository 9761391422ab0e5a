use Rattle.std.proofs.Common.{◌≡◌, ◌≤◌, ◌∙◌, List, [], arith, get_or, length, sym, subst}
use Rattle.std.proofs.lemmas.List.{get_or_default}
use Rattle.stride_vector.specs.declared.StrideVector.{StrideVector}
use Rattle.vector_reduce.proofs.Next.{Keeps, keeps_all, keeps_first, keeps_next, keeps_room}
use Rattle.vector_reduce.proofs.copies.kept_lists.Goals as goal

pub loop-vectors-init : goal.loop-vectors-init
loop-vectors-init c =
    subst (λ (l : List (List StrideVector)). Keeps c.args.lists.now c.args.stays.now 0 l c.args.stays.now)
    (sym c.new-left.ensures)
    (keeps_first c.args.lists.now c.args.stays.now c.requires)

pub split_at-requires : goal.split_at-requires
split_at-requires c =
    let k = c.loop-vectors.vectors-index in
    let list_is : c.as_slice-list.result.now ≡ get_or c.args.lists.now c.loop-vectors.vectors-index [] =
    c.as_slice-list.ensures ∙ c.vectors-item.is
    ∙ get_or_default c.args.lists.now k c.vectors-item.result [] c.loop-vectors-test.true in
    subst (λ (l : List StrideVector). length l ≤ length c.loop-vectors.rest.now) (sym list_is)
    (keeps_room c.args.lists.now c.args.stays.now k [] c.loop-vectors.left c.loop-vectors.rest.now
    c.loop-vectors-test.true c.loop-vectors.invariant)

pub kept-requires : goal.kept-requires
kept-requires c = omega (arith, c.split_at.ensures.front_len)

pub loop-vectors-preserved : goal.loop-vectors-preserved
loop-vectors-preserved c =
    let k = c.loop-vectors.vectors-index in
    let list_is : c.as_slice-list.result.now ≡ get_or c.args.lists.now c.loop-vectors.vectors-index [] =
    c.as_slice-list.ensures ∙ c.vectors-item.is
    ∙ get_or_default c.args.lists.now k c.vectors-item.result [] c.loop-vectors-test.true in
    keeps_next c.args.lists.now c.args.stays.now k c.loop-vectors.left c.loop-vectors.rest.now
    c.as_slice-list.result.now c.split_at.result.0.now
    c.split_at.result.1.now c.in_ok-kept.field-0 c.push.new.self c.loop-vectors-test.true list_is
    c.split_at.ensures.front c.split_at.ensures.back
    c.in_ok-kept.ensures c.in_ok-push.ensures.ok c.loop-vectors.invariant

pub returns : goal.returns
returns c = keeps_all c.args.lists.now c.args.stays.now c.loop-vectors.vectors-index c.loop-vectors.left
    c.loop-vectors.rest.now c.loop-vectors-test.false
    c.loop-vectors.invariant
