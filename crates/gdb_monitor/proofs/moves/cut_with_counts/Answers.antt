use Rattle.std.proofs.Common.{ℕ, List, ap, get_or, arith}
use Rattle.std.proofs.lemmas.List.FromFn.{fill_by_all}
use Rattle.rtr_types.specs.declared.TheConstants.{CORES_MAX}
use Rattle.rtr_types.specs.declared.cut.Cut.{Cut}
use Rattle.gdb_monitor.proofs.moves.cut_with_counts.Goals as goal

pub returns : goal.returns
returns c =
    let l = c.loop-core.invariant in
    let end = c.loop-core-test.false in
    ap (λ (xs : List ℕ). cut_with c.args.cores xs)
    (fill_by_all (λ i. get_or c.args.given.now i 0) c.loop-core.counts CORES_MAX 0 l.wide
    (λ i lt. l.done i (omega arith)))
  where
    cut_with : ℕ → List ℕ → Cut
    cut_with cores counts = record { cores = cores; counts = counts }
