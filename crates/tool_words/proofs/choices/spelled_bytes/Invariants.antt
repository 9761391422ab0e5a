use Rattle.std.proofs.Common.{◌≡◌}
use Rattle.std.specs.Prelude.{map}
use Rattle.std.specs.List.{range_with_len}
use Rattle.tool_words.specs.Choices.{byte_at}
use Rattle.tool_words.proofs.choices.spelled_bytes.Given as goal

-- as many bytes are spelled as the loop has taken turns
abbrev pub invariant-loop-number : goal.invariant-loop-number
invariant-loop-number l = l.bytes ≡ map (byte_at l.digits) (range_with_len 0 l.number)
