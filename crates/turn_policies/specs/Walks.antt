-- Rule: the random walk: walk_policy
-- The random walk, and the numbers that policies draw.
use Rattle.std.specs.Prelude.{ℕ, ◌%◌, length, slice_index_or}
use Rattle.rand_pcg.specs.Lcg.{Lcg, increment_of, started}
use Rattle.rand_pcg.specs.Pcg.{multiplier_64, pcg32}
use Rattle.turn_lists.specs.declared.actor.Actor.{Actor}
use Rattle.turn_lists.specs.declared.actor.Actor.TheVariants.{Core}
use Rattle.turn_policies.specs.declared.actor_set.ActorSet.{ActorSet}
use Rattle.turn_policies.specs.Listed.{listed}
use Rattle.turn_policies.specs.Policies.{PolicyOf}

-- the generator of the words of the run numbered n: PCG's of this seed at stream 2
abbrev pub words_of : ℕ → Lcg
words_of n = started 64 multiplier_64 n (increment_of 64 2)

-- a number below x: the next word modulo x
abbrev pub drawn : ℕ → Lcg → ℕ
drawn x words = (pcg32 words).0 % x

-- the generator after a word was drawn
abbrev pub after_word : Lcg → Lcg
after_word words = (pcg32 words).1

-- each pick is drawn among those that may act
abbrev pub walk_policy : PolicyOf Lcg
walk_policy = record {
  pick = λ words set. slice_index_or (listed set) (drawn (length (listed set)) words) (Core 0);
  after_pick = λ words set. after_word words;
  told = λ words actor goes_round. words;
}
