-- Rule: policies by ranks: ranked_policy, ranked_begun
-- Policies by ranks with points at which the actor of the greatest rank is put last: probabilistic concurrency testing
-- (Burckhardt, Kothari, Musuvathi and Nagarajan, ASPLOS 2010), counted in accesses.
use Rattle.std.specs.Prelude.{ℕ, zero, suc, ◌+◌, ◌-◌, ◌==◌, max, Bool, List, [], ◌∷◌, ◌++◌, count_by, find}
use Rattle.std.specs.Prelude.{if◌then◌else◌, length, map, reverse, slice_index_or, unwrap_or}
use Rattle.rand_pcg.specs.Lcg.{Lcg}
use Rattle.turn_lists.specs.Actors.{is_same}
use Rattle.turn_lists.specs.declared.actor.Actor.{Actor}
use Rattle.turn_lists.specs.declared.actor.Actor.TheVariants.{Core}
use Rattle.turn_policies.specs.declared.actor_set.ActorSet.{ActorSet}
use Rattle.turn_policies.specs.Listed.{first_of, is_listed}
use Rattle.turn_policies.specs.Policies.{PolicyOf}
use Rattle.turn_policies.specs.Walks.{after_word, drawn, words_of}

-- all actors by their ranks, the greatest first; and for each point at which pick it comes: 1 for the next one, and so
-- on, and 0 where it came
pub record Ranked : Type 0 where
  pub order : List Actor
  pub points : List ℕ

-- of those that may act, the actor with the greatest rank
abbrev pub greatest_of : List Actor → ActorSet → Actor
greatest_of order set = unwrap_or (find (is_listed set) order) (first_of set)

-- the actor gets a rank below all
abbrev pub lowered : Actor → List Actor → List Actor
lowered actor [] = []
lowered actor (a ∷ order) = if is_same a actor then order ++ a ∷ [] else a ∷ lowered actor order

-- so many times in a row, the actor with the greatest rank of those that may act gets one below all
abbrev pub lowered_times : ℕ → ActorSet → List Actor → List Actor
lowered_times zero set order = order
lowered_times (suc n) set order = lowered_times n set (lowered (greatest_of order set) order)

-- how many points come at this pick
abbrev pub points_due : List ℕ → ℕ
points_due points = count_by (λ p. p == 1) points

-- the others are one pick nearer after it
abbrev pub points_nearer : List ℕ → List ℕ
points_nearer points = map (λ p. p - 1) points

abbrev pub order_at_pick : Ranked → ActorSet → List Actor
order_at_pick s set = lowered_times (points_due s.points) set s.order

abbrev pub ranked_policy : PolicyOf Ranked
ranked_policy = record {
  pick = λ s set. greatest_of (order_at_pick s set) set;
  after_pick = λ s set. record { order = order_at_pick s set; points = points_nearer s.points };
  told = λ s actor goes_round. if goes_round then record s { order = lowered actor s.order } else s;
}

-- ---- how it begins

-- two actors change ranks: each stands where the other stood
abbrev pub exchanged_one : Actor → Actor → Actor → Actor
exchanged_one x y a = if is_same a x then y else if is_same a y then x else a

abbrev pub exchanged : Actor → Actor → List Actor → List Actor
exchanged x y order = map (exchanged_one x y) order

-- the ranks of places k and a place drawn below k + 1 change, for k from that many down to 1
abbrev pub shuffled : (actors : List Actor) (k : ℕ) → Lcg → List Actor → List Actor × Lcg
shuffled actors zero words order = (order, words)
shuffled actors (suc k) words order =
    shuffled actors k (after_word words)
    (exchanged (slice_index_or actors (suc k) (Core 0))
    (slice_index_or actors (drawn (suc k + 1) words) (Core 0)) order)

-- so many points, each drawn below x as the number of picks before it
abbrev pub drawn_points : ℕ → ℕ → Lcg → List ℕ
drawn_points zero x words = []
drawn_points (suc n) x words = (drawn x words + 1) ∷ drawn_points n x (after_word words)

-- The run numbered n with points for a bug of this depth, in a run of so many picks as the straight one has: at first
-- the ranks rise with the places of the actors, then they are shuffled, and then depth - 1 points are drawn.
abbrev pub ranked_begun : (actors : List Actor) (picks depth n : ℕ) → Ranked
ranked_begun actors picks depth n =
    let ranks = shuffled actors (length actors - 1) (words_of n) (reverse actors) in
    record { order = ranks.0; points = drawn_points (depth - 1) (max picks 1) ranks.1 }
