use Rattle.std.proofs.Common.{◌≡◌}
use Rattle.std.specs.List.{range_with_len}
use Rattle.std.specs.Prelude.{map}
use Rattle.image_mem.specs.Contents.{opening_word}
use Rattle.image_mem.proofs.image.Image.opening.Given as goal

abbrev pub invariant-loop-word : goal.invariant-loop-word
invariant-loop-word l = l.words.items ≡ map (opening_word l.self) (range_with_len 0 l.word)
