use Rattle.std.proofs.Common.{◌≡◌, map, take}
use Rattle.race_answers.specs.Decisions.{decision_by}
use Rattle.race_answers.proofs.decisions.listed.Given as goal

-- the decisions so far
abbrev pub invariant-loop-place : goal.invariant-loop-place
invariant-loop-place l = l.list.items ≡ map (decision_by l.table) (take l.place l.table.entries)
