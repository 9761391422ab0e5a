-- Rule: the run of a number, and the run of turns: choices_numbered, choices_by_turns
-- Under which choices the run of a number is made, and the run of a list of turns.
use Rattle.std.specs.Prelude.{ℕ, Bool, List, [], map}
use Rattle.schedule_pick.specs.Choices.{Choices, choices_of}
use Rattle.turn_lists.specs.Few.{few}
use Rattle.turn_lists.specs.declared.actor.Turn.{Turn}
use Rattle.turn_policies.specs.Policies.{PolicyOf}
use Rattle.turn_policies.specs.Ranked.{ranked_begun, ranked_policy}
use Rattle.turn_policies.specs.TurnByTurn.{turns_begun, turns_policy}
use Rattle.turn_policies.specs.Walks.{walk_policy, words_of}
use Rattle.turn_policies.specs.declared.named.Numbered.{Numbered}
use Rattle.turn_policies.specs.declared.named.Numbered.TheVariants.{Few, Ranked, Seed, Walk}
use Rattle.hunt_runs.specs.Counted.{Picks, counted_policy, uncounted}
use Rattle.hunt_runs.specs.Courses.{Course, run_by}

-- how often the straight run picks each actor, and all of them
abbrev pub straight_picks : Course → (buffers : Bool) → (cores most : ℕ) → Picks
straight_picks course buffers cores most =
    (run_by course counted_policy (uncounted buffers cores) cores most).directed.policy.picks

-- the choices of the run by a policy in this state
abbrev pub choices_of_run : {P : Type 0} → Course → PolicyOf P → P → (cores most : ℕ) → Choices
choices_of_run course policy state cores most = choices_of (run_by course policy state cores most).choices 0

-- the choices of the run of these turns
abbrev pub choices_by_turns : Course → List Turn → (cores most : ℕ) → Choices
choices_by_turns course turns cores most = choices_of_run course turns_policy (turns_begun turns) cores most

-- the choices of the run of a number, of an image whose straight run has these picks
abbrev pub choices_numbered : Course → Picks → Numbered → (cores most : ℕ) → Choices
choices_numbered course picks (Seed n) cores most = choices_of [] n
choices_numbered course picks (Few n) cores most = choices_by_turns course (few picks.each n) cores most
choices_numbered course picks (Walk n) cores most = choices_of_run course walk_policy (words_of n) cores most
choices_numbered course picks (Ranked depth n) cores most =
    choices_of_run course ranked_policy (ranked_begun (map (λ t. t.actor) picks.each) picks.all depth n) cores most
