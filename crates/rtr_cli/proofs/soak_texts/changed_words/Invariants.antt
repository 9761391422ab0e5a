-- the changed words so far, at most all
use Rattle.std.proofs.Common.{◌≡◌, ◌≤◌}
use Rattle.rtr_cli.specs.Soaks.{changed_below}
use Rattle.rtr_cli.proofs.soak_texts.changed_words.Given as goal

abbrev pub invariant-loop-word : goal.invariant-loop-word
invariant-loop-word l = record {
  so_far : l.changed ≡ changed_below l.image l.words l.word;
  small : l.changed ≤ l.word;
}
