use Rattle.std.proofs.Common.{◌≡◌, ◌++◌, take}
use Rattle.core_file.specs.CoreFiles.{spelled}
use Rattle.core_file.proofs.core_bytes.put_words.Given as goal

abbrev pub invariant-loop-word : goal.invariant-loop-word
invariant-loop-word l = l.out.items ≡ l.fn.out.items ++ spelled (take l.word-index l.words)
