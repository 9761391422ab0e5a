-- Fields that are shifted to their places and joined by `|` add up.
use Rattle.std.proofs.Common.{◌≡◌, ℕ, ◌+◌, ◌*◌, ◌%◌, ◌^◌, ◌<◌, arith, ap, ◌∙◌, bit_or}
use Rattle.std.proofs.lemmas.Nat.{or_shifted, or_comm}
use Rattle.std.proofs.Math.Nat.{mod-eq_of_lt}

-- one more field above the others
join : (low high place : ℕ) → low < 2 ^ place → high * 2 ^ place < 2 ^ 32
    → bit_or low (high * 2 ^ place % 2 ^ 32) ≡ low + high * 2 ^ place
join low high place below room =
    ap (λ n. bit_or low n) (mod-eq_of_lt room)
    ∙ or_comm low (high * 2 ^ place)
    ∙ or_shifted high place low below
    ∙ omega arith

pub join_r : (o d f a b g : ℕ) → o < 2 ^ 7 → d < 32 → f < 2 ^ 3 → a < 32 → b < 32 → g < 2 ^ 7
    → bit_or (bit_or (bit_or (bit_or (bit_or o (d * 2 ^ 7 % 2 ^ 32)) (f * 2 ^ 12 % 2 ^ 32)) (a * 2 ^ 15 % 2 ^ 32))
    (b * 2 ^ 20 % 2 ^ 32)) (g * 2 ^ 25 % 2 ^ 32)
    ≡ o + d * 2 ^ 7 + f * 2 ^ 12 + a * 2 ^ 15 + b * 2 ^ 20 + g * 2 ^ 25
join_r o d f a b g ho hd hf ha hb hg =
    rw (join o d 7 (omega arith) (omega arith))
    (rw (join (o + d * 2 ^ 7) f 12 (omega arith) (omega arith))
    (rw (join (o + d * 2 ^ 7 + f * 2 ^ 12) a 15 (omega arith) (omega arith))
    (rw (join (o + d * 2 ^ 7 + f * 2 ^ 12 + a * 2 ^ 15) b 20 (omega arith) (omega arith))
    (join (o + d * 2 ^ 7 + f * 2 ^ 12 + a * 2 ^ 15 + b * 2 ^ 20) g 25 (omega arith) (omega arith)))))

pub join_i : (o d f a m : ℕ) → o < 2 ^ 7 → d < 32 → f < 2 ^ 3 → a < 32 → m < 2 ^ 12
    → bit_or (bit_or (bit_or (bit_or o (d * 2 ^ 7 % 2 ^ 32)) (f * 2 ^ 12 % 2 ^ 32)) (a * 2 ^ 15 % 2 ^ 32))
    (m * 2 ^ 20 % 2 ^ 32)
    ≡ o + d * 2 ^ 7 + f * 2 ^ 12 + a * 2 ^ 15 + m * 2 ^ 20
join_i o d f a m ho hd hf ha hm =
    rw (join o d 7 (omega arith) (omega arith))
    (rw (join (o + d * 2 ^ 7) f 12 (omega arith) (omega arith))
    (rw (join (o + d * 2 ^ 7 + f * 2 ^ 12) a 15 (omega arith) (omega arith))
    (join (o + d * 2 ^ 7 + f * 2 ^ 12 + a * 2 ^ 15) m 20 (omega arith) (omega arith))))

pub join_u : (o d u : ℕ) → o < 2 ^ 7 → d < 32 → u < 2 ^ 20
    → bit_or (bit_or o (d * 2 ^ 7 % 2 ^ 32)) (u * 2 ^ 12 % 2 ^ 32) ≡ o + d * 2 ^ 7 + u * 2 ^ 12
join_u o d u ho hd hu =
    rw (join o d 7 (omega arith) (omega arith)) (join (o + d * 2 ^ 7) u 12 (omega arith) (omega arith))
