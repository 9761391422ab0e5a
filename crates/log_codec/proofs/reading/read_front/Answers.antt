use Rattle.std.proofs.Common.{◌≡◌, ◌-◌, ◌∙◌, length, drop, ap, sym, Ok, arith}
use Rattle.std.proofs.lemmas.Result.{err_from_is_err_and}
use Rattle.log_codec.specs.Reading.{front_at}
use Rattle.log_codec.proofs.ReadingSteps.{bytes-from_index}
use Rattle.log_codec.proofs.RecordingLaws.{front_found, front_again, no_fault}
use Rattle.log_codec.proofs.reading.read_front.Goals as goal

pub returns : goal.returns
returns c =
    let are = bytes-from_index c.args.bytes.now (λ i. omega (arith, c.type_inv.bytes i)) in
    let f = front_found c.args.bytes.now c.in_ok-recording.recording c.in_ok-recording.rest.now are
    c.in_ok-recording.ensures in
    let exact : front_at c.args.bytes.now
    ≡ Ok (
      c.in_ok-recording.recording,
      drop (length c.args.bytes.now - length c.in_ok-recording.rest.now) c.args.bytes.now,
    ) =
    rw f.rest_is c.in_ok-recording.ensures in
    record {
      found = (f.valid, f.text);
      within = omega arith;
      only = λ v r rest valid fits e. sym (ap front_at e ∙ front_again v r rest valid fits) ∙ exact;
      exact = exact;
    }

pub overflow_sub-result : goal.overflow_sub-result
overflow_sub-result c =
    let are = bytes-from_index c.args.bytes.now (λ i. omega (arith, c.type_inv.bytes i)) in
    let f = front_found c.args.bytes.now c.in_ok-recording.recording c.in_ok-recording.rest.now are
    c.in_ok-recording.ensures in
    f.within

pub returns-in_err-recording-clause-only : goal.returns-in_err-recording-clause-only
returns-in_err-recording-clause-only c = λ v r rest valid fits is.
    let p = err_from_is_err_and c.from_residual.result c.from_residual.ensures.1 in
    rw (p.1, p.2) (no_fault c.args.bytes.now c.in_err-recording.field-0.0 v r rest valid fits is
    c.in_err-recording.ensures)
