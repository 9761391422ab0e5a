-- A run that is shown is the run under its choices, and what is found of a run made small.
use Rattle.std.proofs.Common.{◌≡◌, ◌∙◌, refl, sym, ap, subst, ℕ, List, [], ◌++◌, true, Option, Some, None, Result}
use Rattle.std.proofs.Common.{Ok, Err, IfOk, false, inl, string_bytes}
use Rattle.schedule_pick.specs.Choices.{Choices}
use Rattle.state_text.specs.declared.exit.Exit.TheVariants.{Done}
use Rattle.turn_lists.specs.Turns.{IsLeastInSteps}
use Rattle.turn_lists.specs.declared.actor.Turn.{Turn}
use Rattle.end_claims.specs.declared.claim.Demand.{Demand}
use Rattle.end_claims.specs.Ends.{End}
use Rattle.hunt_texts.specs.Shown.{shown_text}
use Rattle.hunt_words.specs.declared.hunt.RunName.{RunName}
use Rattle.hunt_words.specs.declared.hunt.Setup.{Setup}
use Rattle.hunt_cli.specs.declared.exits.Answer.{Answer}
use Rattle.hunt_cli.specs.declared.exits.HuntExit.{HuntExit}
use Rattle.hunt_cli.specs.declared.exits.HuntExit.TheVariants.{As}
use Rattle.hunt_cli.specs.Finds.{FindsSmall, IsPut, IsRunOf, IsShown, IsShownByTurns, breaks_under}
use Rattle.hunt_cli.specs.Finds.{shown_of, turns_break}
use Rattle.hunt_cli.specs.Inputs.{words_of}
use Rattle.hunt_cli.specs.Kinds.{Setting, named_choices, turns_choices}
use Rattle.hunt_cli.specs.OwnTurns.{turns_named}
use Rattle.hunt_cli.specs.RunEnds.{IsRunUnder, RunEnd, end_in}
use Rattle.hunt_cli.proofs.OwnRuns.{whole-shown}

module _ (setup : Setup) (s : Setting) (demand : Demand) (turns : Option (List Turn)) (choices : Choices) (r : RunEnd)
    (run : IsRunUnder s choices r) where
  -- the lines of the run, if it ended so
  abbrev lines : End → List ℕ
  lines end = shown_text (shown_of setup demand turns end (words_of setup r.choices r.seed))

  of-run : IsRunOf setup choices (words_of setup r.choices r.seed)
  of-run = record { bytes = r.choices; seed = r.seed; run_is = refl; choices_are = run.choices_are }

  pub is-shown : (out : List ℕ)
      → out ≡ shown_text (shown_of setup demand turns (end_in r) (words_of setup r.choices r.seed))
      → IsShown setup s demand turns choices out
  is-shown out h = (words_of setup r.choices r.seed, of-run, h ∙ ap lines run.end_is)

  pub is-put : (old new : List ℕ)
      → new ≡ old ++ shown_text (shown_of setup demand turns (end_in r) (words_of setup r.choices r.seed))
      → IsPut old new (IsShown setup s demand turns choices)
  is-put old new h = (lines (end_in r), is-shown (lines (end_in r)) refl, h)

-- what is shown of a run that breaks the demand is what is found
pub small-found : (setup : Setup) (s : Setting) (name : RunName) (demand : Demand) (out report : List ℕ)
    (exit : HuntExit) → breaks_under s demand [] (named_choices s name) ≡ true
    → IsShownByTurns setup s name demand [] out
    → report ≡ [] → exit ≡ As Done → FindsSmall setup s name demand out report exit
small-found setup s name demand out report exit breaks shown told done =
    subst (λ (e : HuntExit). FindsSmall setup s name demand out report e) (sym done) (breaks, shown, told)

-- and so it is of an answer that shows turns
pub small-answer : {E : Type 0} (setup : Setup) (s : Setting) (name : RunName) (demand : Demand) (turns : List Turn)
    → breaks_under s demand [] (named_choices s name) ≡ true → IsLeastInSteps (turns_break s demand []) turns
    → (result : Result Answer E)
    → IfOk result (λ a. IsShown setup s demand (Some turns) (turns_choices s turns) a.out.items)
    → IfOk result (λ a. string_bytes a.report ≡ []) → IfOk result (λ a. a.exit ≡ As Done)
    → IfOk result (λ a. FindsSmall setup s name demand a.out.items (string_bytes a.report) a.exit)
small-answer setup s name demand turns breaks least (Ok a) shown told done =
    small-found setup s name demand a.out.items (string_bytes a.report) a.exit breaks (inl (turns, least, shown)) told
    done
small-answer setup s name demand turns breaks least (Err e) shown told done = tt

-- or of one that shows the run as it is
pub plain-found : {E : Type 0} (setup : Setup) (s : Setting) (name : RunName) (demand : Demand)
    → breaks_under s demand [] (named_choices s name) ≡ true → turns_break s demand [] (turns_named s name) ≡ false
    → (result : Result Answer E)
    → IfOk result (λ a. IsShown setup s demand None (named_choices s name) a.out.items)
    → IfOk result (λ a. string_bytes a.report ≡ []) → IfOk result (λ a. a.exit ≡ As Done)
    → IfOk result (λ a. FindsSmall setup s name demand a.out.items (string_bytes a.report) a.exit)
plain-found setup s name demand breaks whole (Ok a) shown told done =
    small-found setup s name demand a.out.items (string_bytes a.report) a.exit breaks
    (whole-shown setup s name demand [] a.out.items breaks whole shown) told done
plain-found setup s name demand breaks whole (Err e) shown told done = tt
