use Rattle.std.proofs.Common.{◌≡◌, ◌++◌, drop}
use Rattle.race_queries.specs.Queries.{accesses_to}
use Rattle.race_queries.proofs.words.history.Given as goal

-- the accesses so far, with those to come, are all
abbrev pub invariant-loop-access : goal.invariant-loop-access
invariant-loop-access l =
    l.list.items ++ accesses_to l.fn.word (drop l.access-index l.accesses) ≡ accesses_to l.fn.word l.accesses
