use Rattle.std.proofs.Common.{◌≡◌, length}
use Rattle.std.specs.List.{list_all}
use Rattle.online_reduce.specs.Rule.{lets_pass}
use Rattle.online_reduce.proofs.rule.is_kept.Given as goal

-- each candidate so far lets it pass, so that those that are left decide
abbrev pub invariant-loop-source : goal.invariant-loop-source
invariant-loop-source l = list_all (lets_pass l.at) l.left ≡ list_all (lets_pass l.at) l.found

abbrev pub decreases-loop-source : goal.decreases-loop-source
decreases-loop-source l = length l.left
