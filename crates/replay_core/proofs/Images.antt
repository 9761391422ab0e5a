-- A play goes by the image alone.
use Rattle.std.proofs.Common.{◌≡◌, ℕ, false, List, [], ◌∷◌, ◌++◌, length, refl, sym, ap, ◌∙◌, subst}
use Rattle.std.specs.Prelude.{map, replicate}
use Rattle.std.specs.List.{range_with_len}
use Rattle.rtr_types.specs.declared.access.Access.{Access}
use Rattle.image_mem.specs.Contents.{Contents, opening_words}
use Rattle.rv_core.specs.declared.outcome.Outcome.{Outcome}
use Rattle.rv_core.specs.States.{starting}
use Rattle.rv_core.specs.Steps.{need, is_done}
use Rattle.replay_core.specs.Plans.{Plan}
use Rattle.replay_core.specs.Play.{core_at, place_given, touched_given, place, touched, play, accesses_from, Plays}
use Rattle.replay_core.specs.Laws.{ByImageLaw, SameStartLaw}

-- a plan of an image, without a log
abbrev of : (image : Contents) → (limit : ℕ) → (totals : List ℕ) → Plan
of image limit totals = record { image = image; limit = limit; totals = totals; edges = [] }

-- what holds of the plans without a log holds of all
place_alike : (p q : Plan) (s : Outcome) (c : ℕ) → p.image ≡ q.image → place p s c ≡ place q s c
unfolding place_given
place_alike p q s c image = ap (λ (i : Contents). place (of i 0 []) s c) image

touched_alike : (p q : Plan) (s : Outcome) (c : ℕ) → p.image ≡ q.image → touched p s c ≡ touched q s c
unfolding touched_given
touched_alike p q s c image = ap (λ (i : Contents). touched (of i 0 []) s c) image

-- along a list, from outcomes that are equal
alike : (p q : Plan) (s : Outcome) (order : List ℕ) → p.image ≡ q.image →
    (Plays p s order → Plays q s order) × (play p s order ≡ play q s order) ×
    (accesses_from p s order ≡ accesses_from q s order)
alike p q s [] image = (λ plays. tt, refl, refl)
alike p q s (c ∷ cs) image =
    let one : place p s c ≡ place q s c = place_alike p q s c image in
    let rest = alike p q (place p s c) cs image in (
      λ plays. (
        subst (λ (i : Contents). is_done (need i (core_at s c)) ≡ false) image plays.0,
        subst (λ (t : Outcome). Plays q t cs) one (rest.0 plays.1),
      ),
      rest.1 ∙ ap (λ (t : Outcome). play q t cs) one,
      ap (λ (l : List Access). l ++ accesses_from p (place p s c) cs) (touched_alike p q s c image)
          ∙ ap (λ (l : List Access). touched q s c ++ l) (rest.2 ∙ ap (λ (t : Outcome). accesses_from q t cs) one),
    )

pub by_image : ByImageLaw
by_image p q s order image =
    let there = alike p q s order image in
    record {
      plays = (there.0, (alike q p s order (sym image)).0);
      outcome = there.1;
      accesses_from = there.2;
    }

pub same_start : SameStartLaw
same_start p q image limit cores =
    ap (λ (i : Contents). begun i p.limit (length p.totals)) image
    ∙ ap (λ (l : ℕ). begun q.image l (length p.totals)) limit
    ∙ ap (λ (n : ℕ). begun q.image q.limit n) cores
  where
    begun : Contents → (limit cores : ℕ) → Outcome
    begun image limit cores = record {
      cores = map (λ c. starting c limit) (range_with_len 0 cores);
      words = opening_words image;
      loads = replicate cores [];
    }
