use Rattle.std.proofs.Common.{◌≡◌, ◌++◌, string_bytes, take}
use Rattle.turn_lists.specs.Texts.{spelled_more}
use Rattle.turn_lists.proofs.writing.put_more.Given as goal

-- what was written so far
abbrev pub invariant-loop-turn : goal.invariant-loop-turn
invariant-loop-turn l =
    string_bytes l.text ≡ string_bytes l.fn.text ++ spelled_more (take l.turn-index l.turns)
