use Rattle.std.proofs.Common.{ℕ, ◌+◌, ◌-◌, ◌≤◌, ◌++◌, length, take, arith}
use Rattle.std.proofs.lemmas.List.{length-take}
use Rattle.rtr_io.proofs.MovedLemmas.{Consumes-append, taken-within}
use Rattle.rtr_io.proofs.transfer.read_all.Goals as goal

-- what was put down before, and what this call took
pub returns-in_err-extend_from_slice-in-Ok-clause-dropped :
    goal.returns-in_err-extend_from_slice-in-Ok-clause-dropped
returns-in_err-extend_from_slice-in-Ok-clause-dropped g c =
    let bytes = c.loop-chunk.bytes.items in
    let into = c.take.new.into in
    let some : length bytes ≤ c.args.max = omega arith in
    let room : length into ≤ c.args.max - length bytes + 1 = omega (arith, length-take {A = ℕ}) in
    λ _. (
      bytes ++ take c.in-Ok.n into,
      taken-within bytes into c.in-Ok.n c.args.max some room c.in-Ok.ensures.within,
      Consumes-append _ _ _ bytes (take c.in-Ok.n into) c.loop-chunk.invariant.taken c.in-Ok.ensures.bytes.0,
    )
