use Rattle.std.proofs.Common.{◌≡◌, ◌++◌, drop}
use Rattle.rtr_types.specs.Turns.{count_up}
use Rattle.log_codec.specs.Turns.{alike, spelled_in_turn}
use Rattle.log_codec.specs.Spelling.{vectors_text, regulated_text}
use Rattle.log_codec.proofs.writing.put_regulated.Given as goal

abbrev pub invariant-loop-vectors : goal.invariant-loop-vectors
invariant-loop-vectors l =
    l.out.items ++ spelled_in_turn (alike vectors_text) count_up l.vectors-index (drop l.vectors-index l.regulated)
    ≡ l.fn.out.items
    ++ regulated_text l.regulated
