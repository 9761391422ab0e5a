use Rattle.std.proofs.Common.{◌≡◌, ◌∷◌, codes, map, string_bytes}
use Rattle.std.specs.Prelude.{take}
use Rattle.gdb_cli.proofs.words.replay_words.Given as goal

abbrev pub invariant-loop-option : goal.invariant-loop-option
invariant-loop-option l =
    map string_bytes l.words.items ≡ codes "replay" ∷ map string_bytes (take l.option-index l.options)
