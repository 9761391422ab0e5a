use Rattle.std.proofs.Common.{◌≡◌, ◌++◌, ℕ, drop}
use Rattle.log_codec.specs.Turns.{alike, spelled_in_turn}
use Rattle.race_log.specs.Validity.{end_of}
use Rattle.log_codec.specs.Spelling.{vector_text, vectors_text}
use Rattle.log_codec.proofs.writing.put_vectors.Given as goal

-- the last position doesn't show in what is written
abbrev pub invariant-loop-v : goal.invariant-loop-v
invariant-loop-v l =
    (last : ℕ × ℕ) × (l.out.items ++ spelled_in_turn (alike vector_text) end_of last (drop l.v-index l.vectors)
    ≡ l.fn.out.items ++ vectors_text l.vectors)
