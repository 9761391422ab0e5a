use Rattle.std.proofs.Common.{◌≡◌, ◌++◌, drop}
use Rattle.gdb_commands.specs.Filters.{chosen}
use Rattle.race_answers.proofs.filters.chosen.Given as goal

-- those so far, with those to come, are all
abbrev pub invariant-loop-access : goal.invariant-loop-access
invariant-loop-access l =
    l.list.items ++ chosen l.filter (drop l.access-index l.all) ≡ chosen l.filter l.all
