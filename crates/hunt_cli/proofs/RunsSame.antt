-- The runs of one image, and what a run of it has at its end.
use Rattle.std.proofs.Common.{◌≡◌, ◌∙◌, ap, sym, subst, ℕ, List, length}
use Rattle.image_mem.specs.Contents.{Contents}
use Rattle.rtr_types.specs.declared.params.Params.{Params}
use Rattle.schedule_pick.specs.Choices.{Choices}
use Rattle.turn_policies.specs.declared.named.Numbered.{Numbered}
use Rattle.end_claims.specs.declared.claim.Demand.{Demand}
use Rattle.end_claims.specs.declared.claim.Place.{Place}
use Rattle.end_claims.specs.Ends.{End, values_at}
use Rattle.end_claims.specs.Named.{are_within}
use Rattle.std.specs.Prelude.{Bool, Option, true}
use Rattle.hunt_cli.specs.Finds.{IsAnyWithin, breaks_any, is_any_within}
use Rattle.hunt_cli.specs.Kinds.{Kind, Setting, end_under, numbered_choices, picks, setting_in}
use Rattle.hunt_cli.specs.RunEnds.{IsRunUnder, RunEnd, end_in}
use Rattle.hunt_runs.specs.Counted.{Picks}

-- the straight run of one image
pub same-picks : (kind : Kind) (params : Params) (image other : Contents) (counted : Picks) → image ≡ other
    → counted ≡ picks (setting_in kind other params) → counted ≡ picks (setting_in kind image params)
same-picks kind params image other counted same h =
    h ∙ ap (λ (i : Contents). picks (setting_in kind i params)) (sym same)

-- the run of one number of one image
pub same-run : (kind : Kind) (params : Params) (image other : Contents) (number named : Numbered) (r : RunEnd)
    → image ≡ other → number ≡ named
    → IsRunUnder (setting_in kind image params) (numbered_choices (setting_in kind image params) number) r
    → IsRunUnder (setting_in kind other params) (numbered_choices (setting_in kind other params) named) r
same-run kind params image other number named r same alike run =
    let Of : Contents → Type 0 =
    λ i. IsRunUnder (setting_in kind i params) (numbered_choices (setting_in kind i params) number) r in
    let By : Numbered → Type 0 =
    λ n. IsRunUnder (setting_in kind other params) (numbered_choices (setting_in kind other params) n) r in
    subst By alike (subst Of same run)

module _ (s : Setting) (choices : Choices) (r : RunEnd) (run : IsRunUnder s choices r) where
  -- a run has all that its machine has
  pub any-within : (demand : Option Demand) → IsAnyWithin s.params.cores s.image.words demand
      → IsAnyWithin (length r.outcome.cores) r.image.words demand
  any-within demand h =
      ap (λ (n : ℕ). is_any_within n r.image.words demand) run.many
      ∙ ap (λ (i : Contents). is_any_within s.params.cores i.words demand) run.image_is ∙ h

  pub places-within : (places : List Place) → are_within s.params.cores s.image.words places ≡ true
      → are_within (length r.outcome.cores) r.image.words places ≡ true
  places-within places h =
      ap (λ (n : ℕ). are_within n r.image.words places) run.many
      ∙ ap (λ (i : Contents). are_within s.params.cores i.words places) run.image_is ∙ h

  -- its end is that of the run under its choices
  pub breaks-under : (demand : Option Demand) (first : List ℕ) (b : Bool) → b ≡ breaks_any (end_in r) demand first
      → b ≡ breaks_any (end_under s choices) demand first
  breaks-under demand first b h = h ∙ ap (λ (e : End). breaks_any e demand first) run.end_is

  pub values-under : (places : List Place) (values : List ℕ) → values ≡ values_at (end_in r) places
      → values ≡ values_at (end_under s choices) places
  values-under places values h = h ∙ ap (λ (e : End). values_at e places) run.end_is
