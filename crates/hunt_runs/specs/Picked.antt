-- Rule: whom the run of a number picks: picks_numbered
-- Whom the run of a number picks, in order.
use Rattle.std.specs.Prelude.{◌≡◌, ℕ, List, [], length, map}
use Rattle.turn_lists.specs.Few.{few}
use Rattle.turn_lists.specs.declared.actor.Actor.{Actor}
use Rattle.turn_lists.specs.declared.actor.Turn.{Turn}
use Rattle.turn_policies.specs.PickedTurns.{turns_of_picks}
use Rattle.turn_policies.specs.Policies.{PolicyOf}
use Rattle.turn_policies.specs.Ranked.{ranked_begun, ranked_policy}
use Rattle.turn_policies.specs.TurnByTurn.{turns_begun, turns_policy}
use Rattle.turn_policies.specs.Walks.{walk_policy, words_of}
use Rattle.turn_policies.specs.declared.named.Numbered.{Numbered}
use Rattle.turn_policies.specs.declared.named.Numbered.TheVariants.{Few, Ranked, Seed, Walk}
use Rattle.hunt_runs.specs.Counted.{Picks}
use Rattle.hunt_runs.specs.Courses.{Course, run_by}
use Rattle.hunt_runs.specs.Noted.{noted_begun, noting}
use Rattle.hunt_runs.specs.Numbering.{choices_by_turns, choices_numbered}

-- whom the policy in this state picks in its run: the first so many of them
abbrev pub picks_of_run : {P : Type 0} → Course → PolicyOf P → P → (room cores most : ℕ) → List Actor
picks_of_run course policy state room cores most =
    (run_by course (noting policy) (noted_begun room state) cores most).directed.policy.picks

-- whom the run of a number picks, of an image whose straight run has these picks; a run by a seed picks nobody
abbrev pub picks_numbered : Course → Picks → Numbered → (room cores most : ℕ) → List Actor
picks_numbered course picks (Seed n) room cores most = []
picks_numbered course picks (Few n) room cores most =
    picks_of_run course turns_policy (turns_begun (few picks.each n)) room cores most
picks_numbered course picks (Walk n) room cores most = picks_of_run course walk_policy (words_of n) room cores most
picks_numbered course picks (Ranked depth n) room cores most =
    picks_of_run course ranked_policy (ranked_begun (map (λ t. t.actor) picks.each) picks.all depth n) room cores most

-- the turns in which the run of a number picks, one after the other; no run has more picks than choices
abbrev pub picked_turns : Course → Picks → Numbered → (cores most : ℕ) → List Turn
picked_turns course picks number cores most =
    let choices = choices_numbered course picks number cores most in
    turns_of_picks (picks_numbered course picks number (length choices.bytes) cores most)

-- the run of these turns is the run of the number
abbrev pub PicksMakeTheRun : Course → Picks → Numbered → (cores most : ℕ) → Type 0
PicksMakeTheRun course picks number cores most =
    choices_by_turns course (picked_turns course picks number cores most) cores most
    ≡ choices_numbered course picks number cores most
