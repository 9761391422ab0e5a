-- the sum so far, with less than 2 ^ 32 for each total
use Rattle.std.proofs.Common.{◌≡◌, ◌≤◌, ◌*◌, ◌^◌, take}
use Rattle.std.specs.Prelude.{sum_by}
use Rattle.rtr_cli.proofs.soak_texts.sum_of.Given as goal

abbrev pub invariant-loop-total : goal.invariant-loop-total
invariant-loop-total l = record {
  so_far : l.sum ≡ sum_by (λ t. t) (take l.total-index l.totals);
  small : l.sum ≤ 2 ^ 32 * l.total-index;
}
