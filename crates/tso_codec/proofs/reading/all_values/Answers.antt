use Rattle.std.proofs.Common.{◌≡◌, ◌<◌, ℕ, Ok, get_or, subst, sym, arith}
use Rattle.std.proofs.lemmas.List.{get_or_default}
use Rattle.std.proofs.lemmas.Result.{err_from_is_err_and}
use Rattle.log_codec.specs.Faults.{Fails}
use Rattle.rtr_types.specs.Turns.{count_up}
use Rattle.log_codec.proofs.InTurn.{begins, goes_on, ends, is_done}
use Rattle.tso_codec.specs.Reading.{values_at, values_of_at, all_values_at}
use Rattle.tso_codec.proofs.reading.all_values.Goals as goal

pub loop-core-init : goal.loop-core-init
loop-core-init c = rw c.new-found.ensures
    (begins (values_of_at c.args.totals.now) count_up c.args.cores 0 c.args.bytes.now)

pub returns-in_err-next : goal.returns-in_err-next
returns-in_err-next c =
    let p = err_from_is_err_and c.from_residual.result c.from_residual.ensures.1 in
    rw (p.1, p.2) (ends (values_of_at c.args.totals.now) count_up c.in_err-next.field-0.0 c.loop-core.found c.args.cores
    c.loop-core.core c.loop-core.core
    c.loop-core.rest.now (all_values_at c.args.cores c.args.totals.now c.args.bytes.now) c.loop-core-test.true
    c.in_err-next.ensures c.loop-core.invariant)

pub loop-core-preserved : goal.loop-core-preserved
loop-core-preserved c =
    rw c.in_ok-push.ensures.ok
    (goes_on (values_of_at c.args.totals.now) count_up c.loop-core.found c.args.cores c.loop-core.core c.loop-core.core
    c.loop-core.rest.now c.in_ok-next.next
    c.in_ok-next.after.now (all_values_at c.args.cores c.args.totals.now c.args.bytes.now) c.loop-core-test.true
    c.in_ok-next.ensures c.loop-core.invariant)

pub returns : goal.returns
returns c = is_done (values_of_at c.args.totals.now) count_up c.loop-core.found c.args.cores c.loop-core.core
    c.loop-core.core
    c.loop-core.rest.now (all_values_at c.args.cores c.args.totals.now c.args.bytes.now) c.loop-core-test.false
    c.loop-core.invariant
