-- A play goes by the image alone, whatever the log.
use Rattle.std.proofs.Common.{◌≡◌, ℕ, List, [], ◌∷◌, ◌++◌, refl, sym, ap, subst, ◌∙◌}
use Rattle.rtr_types.specs.declared.access.Access.{Access}
use Rattle.rtr_types.specs.declared.pairs.Which.TheVariants.{Reduced, Regulated}
use Rattle.clock_core.specs.Order.{Among}
use Rattle.conflict_edge.specs.Least.{Suffices}
use Rattle.image_mem.specs.Contents.{Contents}
use Rattle.race_log.specs.Sources.{log_edges}
use Rattle.rv_core.specs.declared.outcome.Outcome.{Outcome}
use Rattle.replay_core.specs.Plans.{Plan, plan_of}
use Rattle.replay_core.specs.Play.{place_given, touched_given, place, touched, play, accesses_from, Plays, start}
use Rattle.replay_core.specs.Play.{accesses_of}
use Rattle.regulated_log.specs.Logs.{with_regulated}
use Rattle.regulated_log.specs.Decides.{DecidesLaw}
use Rattle.regulated_log.proofs.AllPairs.{implies_law}
use Rattle.regulated_log.proofs.InOrder.{order_law}

-- a plan of the image alone
abbrev of : Contents → Plan
of image = record { image = image; limit = 0; totals = []; edges = [] }

place_of_image : (p : Plan) (s : Outcome) (c : ℕ) → place p s c ≡ place (of p.image) s c
unfolding place_given
place_of_image p s c = refl

touched_of_image : (p : Plan) (s : Outcome) (c : ℕ) → touched p s c ≡ touched (of p.image) s c
unfolding touched_given
touched_of_image p s c = refl

play_of_image : (p : Plan) (s : Outcome) (order : List ℕ) → play p s order ≡ play (of p.image) s order
play_of_image p s [] = refl
play_of_image p s (c ∷ cs) = play_of_image p (place p s c) cs
    ∙ ap (λ (t : Outcome). play (of p.image) t cs) (place_of_image p s c)

accesses_of_image : (p : Plan) (s : Outcome) (order : List ℕ) → accesses_from p s order ≡ accesses_from (of p.image) s
    order
accesses_of_image p s [] = refl
accesses_of_image p s (c ∷ cs) =
    ap (λ (l : List Access). l ++ accesses_from p (place p s c) cs) (touched_of_image p s c)
    ∙ ap (λ (l : List Access). touched (of p.image) s c ++ l) (accesses_of_image p (place p s c) cs
    ∙ ap (λ (t : Outcome). accesses_from (of p.image) t cs) (place_of_image p s c))

plays_by_image : (p : Plan) (s : Outcome) (order : List ℕ) → Plays p s order → Plays (of p.image) s order
plays_by_image p s [] plays = tt
plays_by_image p s (c ∷ cs) plays = (
  plays.0,
  subst (λ (t : Outcome). Plays (of p.image) t cs) (place_of_image p s c) (plays_by_image p (place p s c) cs
      plays.1),
)

image_plays_by : (p : Plan) (s : Outcome) (order : List ℕ) → Plays (of p.image) s order → Plays p s order
image_plays_by p s [] plays = tt
image_plays_by p s (c ∷ cs) plays = (
  plays.0,
  image_plays_by p (place p s c) cs (subst (λ (t : Outcome). Plays (of p.image) t cs)
      (sym (place_of_image p s c)) plays.1),
)

pub decides_law : DecidesLaw
decides_law known r order valid past decides = record {
  decides = record {
    ordered = order_law known order r valid past decides.ordered;
    whole = record { each = decides.whole.each };
    plays = image_plays_by after (start after) order (plays_by_image before (start before) order decides.plays);
    suffices = subst (λ (l : List Access). Suffices l (Among (log_edges Regulated (with_regulated known r)))) (sym same)
        ((implies_law known r valid).suffices (accesses_of before order) decides.suffices);
  };
  played = play_of_image after (start after) order ∙ sym (play_of_image before (start before) order);
  accesses = same;
}
  where
    before : Plan
    before = plan_of Reduced r

    after : Plan
    after = plan_of Regulated (with_regulated known r)

    same : accesses_of (plan_of Regulated (with_regulated known r)) order ≡ accesses_of (plan_of Reduced r) order
    same = accesses_of_image (plan_of Regulated (with_regulated known r))
        (start (plan_of Regulated (with_regulated known r))) order
        ∙ sym (accesses_of_image (plan_of Reduced r) (start (plan_of Reduced r)) order)
