use Rattle.std.proofs.Common.{◌≡◌, ◌∙◌, ap, suc, ◌+◌, [], ◌∷◌, ◌++◌, arith}
use Rattle.turn_lists.specs.Counts.{row_of, rows_of}
use Rattle.turn_lists.specs.declared.few.TheConstants.{TURNS_MAX}
use Rattle.turn_lists.proofs.ListCounts.{row_long, row_next, row_small, rows_more}
use Rattle.turn_lists.proofs.few.rows_of.Goals as goal

pub next_row-requires-clause-long : goal.next_row-requires-clause-long
next_row-requires-clause-long c =
    rw (c.as_slice.ensures, c.loop-made.invariant.1) (row_long c.args.greatest.now c.loop-made._made)

pub next_row-requires-clause-small : goal.next_row-requires-clause-small
next_row-requires-clause-small c = λ k.
    rw (c.as_slice.ensures, c.loop-made.invariant.1) (row_small c.args.greatest.now c.loop-made._made k)

pub loop-made-preserved : goal.loop-made-preserved
loop-made-preserved c =
    let made = c.loop-made._made in
    let one : suc made ≡ made + 1 = omega arith in
    let row : c.as_slice.result.now ≡ row_of c.args.greatest.now made =
    c.as_slice.ensures ∙ c.loop-made.invariant.1 in (
      c.in_ok-push.ensures.items
          ∙ (λ i. c.loop-made.invariant.0 i ++ c.loop-made.invariant.1 i ∷ [])
          ∙ rows_more c.args.greatest.now made,
      c.in_ok-next.ensures ∙ (rw row (row_next c.args.greatest.now made))
          ∙ ap (row_of c.args.greatest.now) one,
    )

pub returns : goal.returns
returns c =
    let made = c.loop-made._made in
    let most = c.loop-made.auto in
    let over = c.loop-made-test.false in
    let all : made + 1 ≡ TURNS_MAX = omega arith in
    c.in_ok-push-2.ensures.items
    ∙ (λ i. c.loop-made.invariant.0 i ++ c.loop-made.invariant.1 i ∷ [])
    ∙ rows_more c.args.greatest.now made
    ∙ ap (rows_of c.args.greatest.now) all
