-- The turns that the acts of a run make.
use Rattle.std.specs.Prelude.{◌≡◌, ℕ, List, cond, count_by, map, sum_by}
use Rattle.turn_lists.specs.Actors.{is_same}
use Rattle.turn_lists.specs.Turns.{joined}
use Rattle.turn_lists.specs.declared.actor.Actor.{Actor}
use Rattle.turn_lists.specs.declared.actor.Turn.{Turn}
use Rattle.small_turns.specs.declared.acts.Act.{Act}

-- a turn of one access
abbrev pub single_turn : Actor → Turn
single_turn a = record { actor = a; count = 1 }

-- a turn for each act, of one access
abbrev pub single_turns : List Act → List Turn
single_turns acts = map (λ act. single_turn act.actor) acts

-- the turns in which the acts were made
abbrev pub turns_made : List Act → List Turn
turns_made acts = joined (single_turns acts)

-- how many acts the actor makes
abbrev pub acts_of : Actor → List Act → ℕ
acts_of a acts = count_by (λ act. is_same a act.actor) acts

-- how many accesses the actor makes in the turns
abbrev pub made_by : Actor → List Turn → ℕ
made_by a turns = sum_by (λ t. cond (is_same a t.actor) t.count 0) turns

-- the turns are the acts in some order: each actor makes as many accesses in them
abbrev pub IsReordered : List Act → List Turn → Type 0
IsReordered acts turns = (a : Actor) → made_by a turns ≡ acts_of a acts
