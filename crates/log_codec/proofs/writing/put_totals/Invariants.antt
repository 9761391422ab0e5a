use Rattle.std.proofs.Common.{◌≡◌, ◌++◌, drop}
use Rattle.rtr_types.specs.Turns.{stay}
use Rattle.log_codec.specs.Turns.{spelled_in_turn, alike}
use Rattle.log_codec.specs.Spelling.{totals_text, number}
use Rattle.log_codec.proofs.writing.put_totals.Given as goal

abbrev pub invariant-loop-total : goal.invariant-loop-total
invariant-loop-total l = l.out.items ++ spelled_in_turn (alike number) stay (tt {0}) (drop l.total-index l.totals)
    ≡ l.fn.out.items ++ totals_text l.totals
