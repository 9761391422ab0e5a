use Rattle.std.proofs.Common.{◌≡◌, ◌∙◌, sym, ap, subst, false, arith}
use Rattle.rv_core.specs.Steps.{is_done, need}
use Rattle.cut_index.specs.declared.alone.Alone.{Alone}
use Rattle.cut_index.proofs.Running.{from_mark, further, read_most}
use Rattle.cut_index.proofs.runs.Run.alone.Goals as goal

pub go_on-requires-clause-more : goal.go_on-requires-clause-more
go_on-requires-clause-more c =
    subst (λ (a : Alone). is_done (need c.args.program.now a.core) ≡ false) (sym c.loop-done.invariant)
    (c.requires.can.going c.loop-done._done (let lt = c.loop-done-test.true in let le = c.requires.count in omega
    arith))

pub go_on-requires-clause-room : goal.go_on-requires-clause-room
go_on-requires-clause-room c =
    let most = read_most c.args.program.now c.args.loads.now c.args._first c.loop-done._done in
    let here = ap (λ (a : Alone). a.read) c.loop-done.invariant in
    let below = c.loop-done-test.true in
    let le = c.requires.count in
    let fits = c.requires.can.fits in
    omega arith
