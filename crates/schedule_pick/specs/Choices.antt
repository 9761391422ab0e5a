-- Rule: the choices of a schedule: choice_at
-- The choices of a schedule.
use Rattle.std.specs.Prelude.{◌≡◌, ℕ, zero, suc, ◌+◌, ◌-◌, List, [], ◌∷◌, length, slice_index, nat_lt, if◌then◌else◌}
use Rattle.rand_pcg.specs.Lcg.{Lcg, increment_of, started}
use Rattle.rand_pcg.specs.Pcg.{multiplier_64, pcg32}

-- the bytes that weren't taken, and the generator of the words after them
pub record Choices : Type 0 where
  pub bytes : List ℕ
  pub words : Lcg

-- the bytes, and then the generator of this seed at stream 0
abbrev pub choices_of : (bytes : List ℕ) (seed : ℕ) → Choices
choices_of bytes seed = record { bytes = bytes; words = started 64 multiplier_64 seed (increment_of 64 0) }

-- the word numbered n, from 0, of a generator
unfoldable pub drawn_word : Lcg → ℕ → ℕ
drawn_word g zero = (pcg32 g).0
drawn_word g (suc n) = drawn_word (pcg32 g).1 n

-- the choice numbered t, from 0: the t-th byte, or after k bytes the word numbered t - k
unfoldable pub choice_at : Choices → ℕ → ℕ
choice_at c t = if nat_lt t (length c.bytes) then slice_index c.bytes t else drawn_word c.words (t - length c.bytes)

-- the choices after the first one
unfoldable pub choices_after : Choices → Choices
choices_after c = after c.bytes
  where
    after : List ℕ → Choices
    after [] = record { bytes = []; words = (pcg32 c.words).1 }
    after (byte ∷ bytes) = record { bytes = bytes; words = c.words }

-- the choices that follow the first one are numbered from it on
abbrev pub FollowingLaw : Type 0
FollowingLaw = (c : Choices) (t : ℕ) → choice_at (choices_after c) t ≡ choice_at c (t + 1)
