use Rattle.std.proofs.Common.{◌≡◌, ◌-◌, length}
use Rattle.std.specs.List.{list_all, range_with_len}
use Rattle.end_claims.specs.Meaning.{ends_by}
use Rattle.end_claims.proofs.asking.all_end_by.Given as goal

-- all cores ended by the stop where those that are left did
abbrev pub invariant-loop-core : goal.invariant-loop-core
invariant-loop-core g l = let end = g.E.EndView.end l.end in let all = length end.cores in
    list_all (ends_by end l.stop) (range_with_len 0 all) ≡ list_all (ends_by end l.stop) (range_with_len l.core (all - l.core))
