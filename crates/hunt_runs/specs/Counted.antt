-- Rule: how often the straight run picks each actor: counted_policy
-- The straight policy, and how often it picked each actor.
use Rattle.std.specs.Prelude.{ℕ, ◌+◌, ◌-◌, ◌^◌, min, Bool, List, ◌++◌, [], map, Option, None, if◌then◌else◌}
use Rattle.std.specs.List.{range_with_len}
use Rattle.turn_lists.specs.Actors.{is_same}
use Rattle.turn_lists.specs.declared.actor.Actor.{Actor}
use Rattle.turn_lists.specs.declared.actor.Actor.TheVariants.{Buffer, Core}
use Rattle.turn_lists.specs.declared.actor.Turn.{Turn}
use Rattle.turn_policies.specs.Policies.{PolicyOf}
use Rattle.turn_policies.specs.Straight.{straight_policy}

-- each actor with the number of its picks in a run, and the number of all
pub record Picks : Type 0 where
  pub each : List Turn
  pub all : ℕ

-- the actor that the straight policy picked last, where there is one, and the picks so far
pub record Counts : Type 0 where
  pub straight : Option Actor
  pub picks : Picks

-- so many cores, and their buffers, as actors
abbrev pub core_actors : (cores : ℕ) → List Actor
core_actors cores = map (λ c. Core c) (range_with_len 0 cores)

abbrev pub buffer_actors : (cores : ℕ) → List Actor
buffer_actors cores = map (λ c. Buffer c) (range_with_len 0 cores)

-- the actors of a machine of so many cores, with buffers or without, in order
abbrev pub actors_of : (buffers : Bool) → (cores : ℕ) → List Actor
actors_of buffers cores = core_actors cores ++ (if buffers then buffer_actors cores else [])

-- an actor that wasn't picked yet
abbrev pub unpicked : Actor → Turn
unpicked actor = record { actor = actor; count = 0 }

-- nobody was picked yet
abbrev pub uncounted : (buffers : Bool) → (cores : ℕ) → Counts
uncounted buffers cores = record {
  straight = None;
  picks = record { each = map unpicked (actors_of buffers cores); all = 0 };
}

-- one more; no run takes so many steps that this is not reached
abbrev pub one_more : ℕ → ℕ
one_more n = min (n + 1) (2 ^ 32 - 1)

-- one more pick of this actor, where it was
abbrev pub picked_once : Actor → Turn → Turn
picked_once actor t = if is_same t.actor actor then record t { count = one_more t.count } else t

-- the actor was picked once more
abbrev pub with_pick : Actor → List Turn → List Turn
with_pick actor picks = map (picked_once actor) picks

abbrev pub counted_policy : PolicyOf Counts
counted_policy = record {
  pick = λ s list. straight_policy.pick s.straight list;
  after_pick = λ s list. record {
    straight = straight_policy.after_pick s.straight list;
    picks = record {
      each = with_pick (straight_policy.pick s.straight list) s.picks.each;
      all = one_more s.picks.all;
    };
  };
  told = λ s actor goes_round. s;
}
