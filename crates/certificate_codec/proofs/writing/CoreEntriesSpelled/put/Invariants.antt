use Rattle.std.proofs.Common.{◌≡◌, ◌++◌, drop}
use Rattle.rtr_types.specs.Turns.{stay}
use Rattle.log_codec.specs.Turns.{spelled_in_turn, alike}
use Rattle.log_codec.specs.CoreCounts.{counts_text}
use Rattle.certificate_codec.specs.Spelling.{entries_text}
use Rattle.certificate_codec.proofs.writing.CoreEntriesSpelled.put.Given as goal

abbrev pub invariant-loop-place : goal.invariant-loop-place
invariant-loop-place l = l.out.items ++ spelled_in_turn (alike counts_text) stay (tt {0}) (drop l.place l.self)
    ≡ l.fn.out.items ++ entries_text l.self
