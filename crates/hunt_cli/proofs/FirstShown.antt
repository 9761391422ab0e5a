-- What is shown of the first run that breaks the demand is what is found of the range.
use Rattle.std.proofs.Common.{◌≡◌, inl, sym, subst, ℕ, ◌+◌, List, [], ◌++◌, Bool, true, false, Some, None}
use Rattle.state_text.specs.declared.exit.Exit.TheVariants.{Done}
use Rattle.turn_lists.specs.declared.actor.Turn.{Turn}
use Rattle.turn_lists.specs.Turns.{IsLeastInSteps}
use Rattle.end_claims.specs.declared.claim.Demand.{Demand}
use Rattle.run_ranges.specs.Firsts.{IsFirst}
use Rattle.hunt_texts.specs.Reports.{found_report}
use Rattle.hunt_texts.specs.Shown.{none_text, run_line}
use Rattle.hunt_words.specs.declared.hunt.RunName.TheVariants as names
use Rattle.hunt_words.specs.declared.hunt.Runs.{Runs}
use Rattle.hunt_words.specs.declared.hunt.Setup.{Setup}
use Rattle.hunt_cli.specs.declared.exits.HuntExit.{HuntExit}
use Rattle.hunt_cli.specs.declared.exits.HuntExit.TheVariants.{As, Breaks}
use Rattle.hunt_cli.specs.Finds.{FindsFirst, IsFoundAs, IsPut, IsShown, IsShownByTurns, choices_at, firsts}
use Rattle.hunt_cli.specs.Finds.{number_breaks, turns_break}
use Rattle.hunt_cli.specs.Kinds.{Setting, turns_choices}
use Rattle.hunt_cli.specs.OwnTurns.{turns_numbered}
use Rattle.turn_policies.specs.Named.{numbered_by}
use Rattle.hunt_cli.proofs.OwnRuns.{whole-shown}

module _ (setup : Setup) (s : Setting) (runs : Runs) (demand : Demand) where
  module _ (number : ℕ) where
    -- a run whose own turns don't break the demand
    pub put-whole : (plain : Bool) (first old new : List ℕ) → plain ≡ false → first ≡ firsts s runs demand
        → number_breaks s runs.by (Some demand) first number ≡ true
        → turns_break s demand first (turns_numbered s (numbered_by runs.by number)) ≡ false
        → IsPut old new (IsShown setup s demand None (choices_at s runs.by number))
        → IsPut old new (IsFoundAs plain setup s runs demand number)
    put-whole plain first old new small same breaks whole h =
        let As : Bool → Type 0 = λ b. IsFoundAs b setup s runs demand number h.0 in
        let Shown : List ℕ → Type 0 =
        λ values. IsShownByTurns setup s (names.Numbered runs.by number) demand values h.0 in
        let shown : Shown first =
        whole-shown setup s (names.Numbered runs.by number) demand first h.0 breaks whole h.1 in
        (h.0, subst As (sym small) (subst Shown same shown), h.2)

    -- turns that break the demand and are least in steps
    pub put-small : (plain : Bool) (turns : List Turn) (first old new : List ℕ) → plain ≡ false
        → first ≡ firsts s runs demand → IsLeastInSteps (turns_break s demand first) turns
        → IsPut old new (IsShown setup s demand (Some turns) (turns_choices s turns))
        → IsPut old new (IsFoundAs plain setup s runs demand number)
    put-small plain turns first old new small same least h =
        let Least : List ℕ → Type 0 = λ values. IsLeastInSteps (turns_break s demand values) turns in
        let As : Bool → Type 0 = λ b. IsFoundAs b setup s runs demand number h.0 in
        (h.0, subst As (sym small) (inl (turns, subst Least same least, h.1)), h.2)

  -- the first run that breaks the demand was found, or none does
  pub finds-one : (plain : Bool) (number : ℕ) (first out report : List ℕ) (exit : HuntExit)
      → first ≡ firsts s runs demand
      → IsFirst (number_breaks s runs.by (Some demand) first) runs.first (runs.last + 1) (Some number)
      → ((shown : List ℕ) × IsFoundAs plain setup s runs demand number shown × (out ≡ run_line number ++ shown))
      → report ≡ found_report number → exit ≡ Breaks → FindsFirst setup s runs demand plain out report exit
  finds-one plain number first out report exit same is-first shown told ends =
      let First : List ℕ → Type 0 =
      λ values. IsFirst (number_breaks s runs.by (Some demand) values) runs.first (runs.last + 1) (Some number) in
      let As : HuntExit → Type 0 = λ e. FindsFirst setup s runs demand plain out report e in
      subst As (sym ends) (number, shown.0, subst First same is-first, shown.1, shown.2, told)

  pub finds-none : (plain : Bool) (first out report : List ℕ) (exit : HuntExit) → first ≡ firsts s runs demand
      → IsFirst (number_breaks s runs.by (Some demand) first) runs.first (runs.last + 1) None
      → out ≡ none_text runs.first runs.last → report ≡ [] → exit ≡ As Done
      → FindsFirst setup s runs demand plain out report exit
  finds-none plain first out report exit same is-first text told ends =
      let First : List ℕ → Type 0 =
      λ values. IsFirst (number_breaks s runs.by (Some demand) values) runs.first (runs.last + 1) None in
      let Ends : HuntExit → Type 0 = λ e. FindsFirst setup s runs demand plain out report e in
      subst Ends (sym ends) (subst First same is-first, text, told)
