use Rattle.std.proofs.Common.{arith}
use Rattle.std.proofs.lemmas.Result.{err_from_is_err_and}
use Rattle.log_codec.specs.Turns.{read_in_turn}
use Rattle.log_codec.proofs.InTurn.{begins, goes_on, ends, is_done}
use Rattle.tso_codec.specs.Reading.{value_at}
use Rattle.tso_codec.specs.Validity.{count_of}
use Rattle.tso_codec.proofs.reading.values_from.Goals as goal

pub loop-init : goal.loop-init
loop-init c = record {
  most = omega arith;
  read = rw c.new-found.ensures (begins (value_at c.args.total) count_of c.args.count 0 c.args.bytes.now);
}

pub returns-in_err-next : goal.returns-in_err-next
returns-in_err-next c =
    let p = err_from_is_err_and c.from_residual.result c.from_residual.ensures.1 in
    rw (p.1, p.2) (ends (value_at c.args.total) count_of c.in_err-next.field-0.0 c.loop.found c.args.count
    c.loop.counter c.loop.last c.loop.rest.now
    (read_in_turn (value_at c.args.total) count_of c.args.count 0 c.args.bytes.now) c.loop-test.true
    c.in_err-next.ensures.read c.loop.invariant.read)

pub loop-preserved : goal.loop-preserved
loop-preserved c = record {
  most = c.in_ok-next.ensures.most;
  read = rw c.in_ok-push.ensures.ok
      (goes_on (value_at c.args.total) count_of c.loop.found c.args.count c.loop.counter c.loop.last c.loop.rest.now
      c.in_ok-next.next c.in_ok-next.after.now
      (read_in_turn (value_at c.args.total) count_of c.args.count 0 c.args.bytes.now) c.loop-test.true
      c.in_ok-next.ensures.read c.loop.invariant.read);
}

pub returns : goal.returns
returns c = is_done (value_at c.args.total) count_of c.loop.found c.args.count c.loop.counter c.loop.last
    c.loop.rest.now
    (read_in_turn (value_at c.args.total) count_of c.args.count 0 c.args.bytes.now) c.loop-test.false
    c.loop.invariant.read
