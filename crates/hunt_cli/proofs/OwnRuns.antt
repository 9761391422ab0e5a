-- The run of a name's own turns is its run, but for a run by a seed.
use Rattle.std.proofs.Common.{◌≡◌, ◌∙◌, inr, refl, sym, ap, ℕ, Bool, List, true, false, None}
use Rattle.turn_policies.specs.Named.{is_by_seed, numbered_by}
use Rattle.turn_policies.specs.declared.named.Numbered.{Numbered}
use Rattle.turn_policies.specs.declared.named.Numbered.TheVariants.{Few, Ranked, Seed, Walk}
use Rattle.end_claims.specs.declared.claim.Demand.{Demand}
use Rattle.hunt_runs.proofs.PickedRuns.{numbered_make}
use Rattle.hunt_words.specs.declared.hunt.RunName.{RunName}
use Rattle.hunt_words.specs.declared.hunt.RunName.TheVariants as names
use Rattle.hunt_words.specs.declared.hunt.Setup.{Setup}
use Rattle.hunt_cli.specs.Finds.{IsShown, IsShownByTurns, breaks_under, is_seeded, turns_break}
use Rattle.hunt_cli.specs.Kinds.{Setting, course, named_choices, numbered_choices, picks, turns_choices}
use Rattle.hunt_cli.specs.OwnTurns.{turns_named, turns_numbered}

numbered-own : (s : Setting) (number : Numbered) → is_by_seed number ≡ false →
    turns_choices s (turns_numbered s number) ≡ numbered_choices s number
numbered-own s (Seed n) led = absurd cc
numbered-own s (Few n) led = refl
numbered-own s (Walk n) led =
    numbered_make (course s) (picks s) (Walk n) s.params.cores (s.kind.most_steps s.params) led
numbered-own s (Ranked depth n) led =
    numbered_make (course s) (picks s) (Ranked depth n) s.params.cores (s.kind.most_steps s.params) led

named-own : (s : Setting) (name : RunName) → is_seeded name ≡ false →
    turns_choices s (turns_named s name) ≡ named_choices s name
named-own s (names.Numbered by number) led = numbered-own s (numbered_by by number) led
named-own s (names.Turns turns) led = refl

-- so a run that breaks the demand, whose own turns don't, is one by a seed
pub whole-shown : (setup : Setup) (s : Setting) (name : RunName) (demand : Demand) (first out : List ℕ) →
    breaks_under s demand first (named_choices s name) ≡ true →
    turns_break s demand first (turns_named s name) ≡ false → IsShown setup s demand None (named_choices s name) out →
    IsShownByTurns setup s name demand first out
whole-shown setup s name demand first out breaks whole shown = by (is_seeded name) refl
  where
    by : (b : Bool) → is_seeded name ≡ b → IsShownByTurns setup s name demand first out
    by true seeded = inr (seeded, whole, shown)
    by false led =
        let wrong : true ≡ false =
        sym breaks ∙ sym (ap (breaks_under s demand first) (named-own s name led)) ∙ whole in
        absurd cc
