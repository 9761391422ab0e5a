use Rattle.std.proofs.Common.{ℕ, List, [], replicate, ap, ◌∙◌, arith, rules}
use Rattle.std.proofs.lemmas.Grind.{common_steps}
use Rattle.std.proofs.lemmas.Result.{err_from_is_err_and}
use Rattle.log_codec.proofs.EdgeReader.{fills-start, fills-long, fills-more, fills-fails, fills-done}
use Rattle.log_codec.proofs.targets.by_targets.Goals as goal

pub loop-target-init : goal.loop-target-init
loop-target-init c =
    fills-start c.args.totals.now c.in_ok-lists.lists.items c.args.bytes.now (c.in_ok-lists.ensures
    ∙ ap (λ (n : ℕ). replicate {A = List (ℕ × ℕ)} n []) c.pair_count.ensures)

pub into-requires : goal.into-requires
into-requires c = record {
  few = c.requires;
  target = first_of (search rules, grind (arith, common_steps));
  lists = fills-long c.args.totals.now c.loop-target.target c.loop-target.lists.items c.args.bytes.now
      c.loop-target.rest.now c.loop-target.invariant;
}

pub loop-target-preserved : goal.loop-target-preserved
loop-target-preserved c =
    fills-more c.args.totals.now c.loop-target.target c.loop-target.lists.items c.args.bytes.now c.loop-target.rest.now
    c.into.new.lists.items
    c.in_ok-rest.rest.now (omega (arith, c.loop-target-test.true, c.target_count-target-end.ensures))
    c.loop-target.invariant c.in_ok-rest.ensures

pub returns-in_err-rest : goal.returns-in_err-rest
returns-in_err-rest c =
    let p = err_from_is_err_and c.from_residual-in_err-rest.result c.from_residual-in_err-rest.ensures.1 in
    rw (p.1, p.2) (fills-fails c.args.totals.now c.loop-target.target c.loop-target.lists.items c.args.bytes.now
    c.loop-target.rest.now c.in_err-rest.field-0.0
    (omega (arith, c.loop-target-test.true, c.target_count-target-end.ensures)) c.loop-target.invariant
    c.in_err-rest.ensures)

pub returns : goal.returns
returns c =
    rw c.from_vec.ensures
    (fills-done c.args.totals.now c.loop-target.target c.loop-target.lists.items c.args.bytes.now c.loop-target.rest.now
    (omega (arith, c.loop-target-test.false, c.target_count-target-end.ensures)) c.loop-target.invariant)
