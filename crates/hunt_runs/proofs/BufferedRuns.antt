-- How the machine with buffers makes a run that is directed.
use Rattle.std.proofs.Common.{◌≡◌, ◌∙◌, refl, sym, ap, ℕ, suc, true, false, List, [], ◌∷◌, Some, arith}
use Rattle.std.specs.Prelude.{Bool, ◌||◌, map}
use Rattle.access_times.specs.Riding.{Carrying, none_carrying, none_riding}
use Rattle.access_times.specs.declared.carry.NoCarry.{NoCarry}
use Rattle.access_times.specs.declared.rider.NoRider.{NoRider}
use Rattle.image_mem.specs.Contents.{Contents}
use Rattle.rtr_types.specs.Parameters.{Fits}
use Rattle.rtr_types.specs.declared.access.Access.{Access}
use Rattle.rtr_types.specs.declared.instr.Instr.{Instr}
use Rattle.rtr_types.specs.declared.params.Params.{Params}
use Rattle.schedule_pick.specs.Choices.{Choices, choice_at, choices_after}
use Rattle.msi_memory.specs.Finals.{block_words}
use Rattle.tso_clerk.specs.Telling.{AcceptsAll, TellsAll}
use Rattle.tso_state.specs.declared.moves.Move.{Move}
use Rattle.tso_state.specs.Events.{Told, Alone, Ordered, Logged}
use Rattle.tso_state.specs.FinalMemory.{final_memory}
use Rattle.tso_state.specs.Runs.{chosen, outcome_at, plain_step, plain_told, run, told_by}
use Rattle.tso_state.specs.States.{BufferedCore, PlainState, all_done}
use Rattle.tso_outcome.proofs.RunPlaces.{cores_are, runs_end, runs_next}
use Rattle.tso_outcome.specs.Outcomes.{RunsAt, tso_outcome_of}
use Rattle.hunt_runs.specs.BufferedSeen.{changes_at, changes_in}
use Rattle.hunt_runs.specs.Ends.{EndsAs}
use Rattle.hunt_runs.specs.PlainSeen.{writes_anew}
use Rattle.hunt_runs.specs.Told.{ToldTouch}
use Rattle.hunt_runs.specs.declared.changes.Changes.{Changes}

-- where a run that is done stands it has come to what the run comes to
pub ends_as : (image : Contents) (params : Params) (schedule : Choices) (t : ℕ) (s : PlainState) (rest : Choices) →
    Fits params → all_done s ≡ true → RunsAt image params schedule t s rest →
    EndsAs (map (λ (c : BufferedCore). c.core) s.cores) (λ block. block_words none_riding none_carrying s.memory block)
    s.image.words (tso_outcome_of image params schedule)
unfolding tso_outcome_of
ends_as image params schedule t s rest fits done stands = record {
  cores_are = cores_are image params schedule t s rest fits done stands;
  words_are =
      ap (λ (u : PlainState). final_memory none_riding none_carrying u) stands.state
      ∙ ap (λ u. (outcome_at image params (choice_at schedule) u).words)
      (runs_end image params schedule t s rest fits done stands);
}

-- the step that a choice takes is the next of the run
pub stands_next : (image : Contents) (params : Params) (schedule : Choices) (t number : ℕ) (s s' : PlainState)
    (rest : Choices) (m : Move) → all_done s ≡ false → chosen s number ≡ Some m → s' ≡ plain_step s m →
    number ≡ choice_at rest 0 → RunsAt image params schedule t s rest →
    RunsAt image params schedule (suc t) s' (choices_after rest)
stands_next image params schedule t number s s' rest m going taken state is stands =
    runs_next image params schedule t s s' rest (choices_after rest) m going
    (record { taken = ap (chosen s) (sym is) ∙ taken; state = state; left = refl }) stands

-- what that step tells
pub told_is : (image : Contents) (params : Params) (schedule : Choices) (t number : ℕ) (s : PlainState)
    (rest : Choices) (m : Move) → chosen s number ≡ Some m → number ≡ choice_at rest 0 →
    RunsAt image params schedule t s rest → changes_in (plain_told s m) ≡ changes_at image params schedule t
told_is image params schedule t number s rest m taken is stands =
    let choices : ℕ → ℕ = choice_at schedule in
    let here : run image params choices t ≡ s = sym stands.state in
    let same : choices t ≡ number = sym (is ∙ stands.rest_is 0 ∙ ap choices (omega arith)) in
    let there : chosen (run image params choices t) (choices t) ≡ Some m =
    ap (chosen (run image params choices t)) same ∙ ap (λ (u : PlainState). chosen u number) here ∙ taken in
    sym (ap changes_in (ap (told_by (run image params choices t)) there
    ∙ ap (λ (u : PlainState). plain_told u m) here))

or_false : (b : Bool) → (b || false) ≡ b
or_false true = refl
or_false false = refl

or_or : (a b c : Bool) → ((a || b) || c) ≡ (a || (b || c))
or_or true b c = refl
or_or false b c = refl

-- who was told knows whether a word changed
pub told_changes : (carrying : Carrying NoCarry) (told : List Told) (carry : NoCarry) (before after : Changes)
    (r q : NoRider) →
    TellsAll (λ (c : Changes) (i : Instr) (k : NoCarry) (d : Changes). d ≡ c)
    (λ (c : Changes) (r : NoRider) (a : Access) (k : NoCarry) (d : Changes) (q : NoRider). ToldTouch c r a d q)
    (λ (c : Changes) (i : Instr) (w v : ℕ) (k : NoCarry) (d : Changes). d ≡ c) carrying told carry before r after q →
    after.changed ≡ (before.changed || changes_in told)
told_changes carrying [] carry before after r q is =
    ap (λ (c : Changes). c.changed) is ∙ sym (or_false before.changed)
told_changes carrying (Alone at ∷ later) carry before after r q is =
    told_changes carrying later _ is.0 after r q is.2
    ∙ ap (λ (c : Changes). c.changed || changes_in later) is.1
told_changes carrying (Ordered a ∷ later) carry before after r q is =
    told_changes carrying later _ is.0 after r q is.2
    ∙ ap (λ (b : Bool). b || changes_in later) is.1.changed
    ∙ or_or before.changed (writes_anew a) (changes_in later)
told_changes carrying (Logged at word value ∷ later) carry before after r q is =
    told_changes carrying later _ is.0 after r q is.2
    ∙ ap (λ (c : Changes). c.changed || changes_in later) is.1

-- all is accepted
pub accepts_all : (carrying : Carrying NoCarry) (told : List Told) (carry : NoCarry) (clerk : Changes)
    (found : NoRider) →
    AcceptsAll (λ (c : Changes) (i : Instr). Unit {0}) (λ (c : Changes) (i : Instr). Unit {0})
    (λ (c : Changes) (i : Instr) (k : NoCarry) (d : Changes). d ≡ c)
    (λ (c : Changes) (r : NoRider) (a : Access) (k : NoCarry) (d : Changes) (q : NoRider). ToldTouch c r a d q)
    (λ (c : Changes) (i : Instr) (w v : ℕ) (k : NoCarry) (d : Changes). d ≡ c) carrying told carry clerk found
accepts_all carrying [] carry clerk found = tt
accepts_all carrying (Alone at ∷ later) carry clerk found =
    (tt, λ after left is. accepts_all carrying later _ after found)
accepts_all carrying (Ordered a ∷ later) carry clerk found =
    (tt, λ after left is. accepts_all carrying later _ after found)
accepts_all carrying (Logged at word value ∷ later) carry clerk found =
    (tt, λ after left is. accepts_all carrying later _ after found)
