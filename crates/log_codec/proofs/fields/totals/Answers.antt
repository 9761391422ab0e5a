use Rattle.std.proofs.Common.{arith, refl, ◌∷◌, []}
use Rattle.std.proofs.lemmas.List.{length-append}
use Rattle.std.proofs.lemmas.Result.{err_from_is_err_and}
use Rattle.rtr_types.specs.Turns.{stay}
use Rattle.log_codec.specs.Turns.{read_in_turn}
use Rattle.log_codec.specs.Reading.{total_at}
use Rattle.log_codec.proofs.InTurn.{begins, goes_on, ends, is_done}
use Rattle.log_codec.proofs.fields.totals.Goals as goal

pub loop-init : goal.loop-init
loop-init c = record {
  each = rw c.new-found.ensures refl;
  read = rw c.new-found.ensures
      (begins (λ (s : Unit {0}). total_at c.args.limit) stay c.args.cores tt c.args.bytes.now);
}

pub returns-in_err-next-clause-read : goal.returns-in_err-next-clause-read
returns-in_err-next-clause-read c =
    let p = err_from_is_err_and c.from_residual.result c.from_residual.ensures.1 in
    rw (p.1, p.2) (ends (λ (s : Unit {0}). total_at c.args.limit) stay c.in_err-next.field-0.0 c.loop.found c.args.cores
    c.loop.counter tt c.loop.rest.now
    (read_in_turn (λ (s : Unit {0}). total_at c.args.limit) stay c.args.cores tt c.args.bytes.now) c.loop-test.true
    c.in_err-next.ensures
    c.loop.invariant.read)

pub loop-preserved : goal.loop-preserved
loop-preserved c = record {
  each = rw c.in_ok-push.ensures.ok
      (omega (arith, length-append c.loop.found (c.in_ok-next.next ∷ []), c.loop.invariant.each));
  read = rw c.in_ok-push.ensures.ok
      (goes_on (λ (s : Unit {0}). total_at c.args.limit) stay c.loop.found c.args.cores c.loop.counter tt
      c.loop.rest.now c.in_ok-next.next
      c.in_ok-next.after.now
      (read_in_turn (λ (s : Unit {0}). total_at c.args.limit) stay c.args.cores tt c.args.bytes.now) c.loop-test.true
      c.in_ok-next.ensures
      c.loop.invariant.read);
}

pub returns-clause-read : goal.returns-clause-read
returns-clause-read c =
    is_done (λ (s : Unit {0}). total_at c.args.limit) stay c.loop.found c.args.cores c.loop.counter tt c.loop.rest.now
    (read_in_turn (λ (s : Unit {0}). total_at c.args.limit) stay c.args.cores tt c.args.bytes.now) c.loop-test.false
    c.loop.invariant.read

pub returns-clause-each : goal.returns-clause-each
returns-clause-each c = omega (arith, c.loop.invariant.each)
