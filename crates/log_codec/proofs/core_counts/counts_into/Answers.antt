use Rattle.std.proofs.Common.{◌≡◌, ◌∙◌, ◌++◌, ◌∷◌, [], arith, drop, length}
use Rattle.std.proofs.lemmas.List.{drop-append-le, drop_all, length_push, take-append-le, take_all}
use Rattle.std.proofs.lemmas.Result.{err_from_is_err_and}
use Rattle.rtr_types.specs.Turns.{count_up}
use Rattle.log_codec.specs.Turns.{read_in_turn}
use Rattle.log_codec.proofs.InTurn.{begins, goes_on, ends, is_done}
use Rattle.log_codec.specs.CoreCounts.{count_at}
use Rattle.log_codec.proofs.core_counts.counts_into.Goals as goal

pub loop-core-init : goal.loop-core-init
loop-core-init c =
    let none : drop (length c.args.found.now) c.args.found.now ≡ [] =
    drop_all (length c.args.found.now) c.args.found.now (omega arith) in
    record {
      all = omega arith;
      kept = take_all (length c.args.found.now) c.args.found.now (omega arith);
      read =
          rw none
          (begins (count_at c.args.part c.args.totals.now) count_up (length c.args.totals.now) 0 c.args.bytes.now);
    }

pub returns-in_err-next-clause-read : goal.returns-in_err-next-clause-read
returns-in_err-next-clause-read c =
    let p = err_from_is_err_and c.from_residual.result c.from_residual.ensures.1 in
    rw (p.1, p.2) (ends (count_at c.args.part c.args.totals.now) count_up c.in_err-next.field-0.0
    (drop (length c.args.found.now) c.loop-core.found) (length c.args.totals.now) c.loop-core.core c.loop-core.core
    c.loop-core.rest.now
    (read_in_turn (count_at c.args.part c.args.totals.now) count_up (length c.args.totals.now) 0 c.args.bytes.now)
    c.loop-core-test.true c.in_err-next.ensures c.loop-core.invariant.read)

pub loop-core-preserved : goal.loop-core-preserved
loop-core-preserved c =
    let before = c.args.found.now in
    let list = c.loop-core.found in
    let i = c.loop-core.invariant in
    let next = c.in_ok-next.next in
    let read =
    read_in_turn (count_at c.args.part c.args.totals.now) count_up (length c.args.totals.now) 0 c.args.bytes.now in
    let on =
    goes_on (count_at c.args.part c.args.totals.now) count_up (drop (length before) list) (length c.args.totals.now)
    c.loop-core.core c.loop-core.core c.loop-core.rest.now next c.in_ok-next.after.now read
    c.loop-core-test.true c.in_ok-next.ensures i.read in
    let behind : drop (length before) (list ++ next ∷ []) ≡ drop (length before) list ++ next ∷ [] =
    drop-append-le (length before) list (next ∷ []) (omega (arith, i.all)) in
    rw (c.in_ok-push.ensures.ok) (
    record {
      all = omega (arith, i.all, length_push list next);
      kept = take-append-le (length before) list (next ∷ []) (omega (arith, i.all)) ∙ i.kept;
      read = rw behind on;
    }
    )

pub returns-clause-read : goal.returns-clause-read
returns-clause-read c =
    is_done (count_at c.args.part c.args.totals.now) count_up (drop (length c.args.found.now) c.loop-core.found)
    (length c.args.totals.now) c.loop-core.core c.loop-core.core c.loop-core.rest.now
    (read_in_turn (count_at c.args.part c.args.totals.now) count_up (length c.args.totals.now) 0 c.args.bytes.now)
    c.loop-core-test.false c.loop-core.invariant.read
