-- The pairs of cores are numbered without gap.
use Rattle.std.proofs.Common.{◌≡◌, ℕ, ◌+◌, ◌-◌, ◌/◌, ◌%◌, ◌<◌, inl, inr, refl, arith, true, false, nat_lt, cond}
use Rattle.std.proofs.Math.Nat.{mul-le-mul_left, div-lt_iff_lt-mul}
use Rattle.std.proofs.lemmas.Nat.{div-mul-add, mod-mul-add, div-add-mod'}
use Rattle.std.proofs.lemmas.Bool.{cases_lt}
use Rattle.std.proofs.lemmas.Bool.Decides.{nat_tests}
use Rattle.rtr_types.specs.Pairs.{IsPair, pair_place, source_at, PairsPlaced, PlacesPaired, SourcesRise, TargetsRise}

-- a target's place among those of its source, which is left out
own : ℕ → ℕ → ℕ
own from to = cond (nat_lt to from) to (to - 1)

own-below : (cores from to : ℕ) → IsPair cores from to → own from to < cores - 1
unfolding own
own-below cores from to pair = elim (cases_lt to from) [
  | inl before ↦ let t : nat_lt to from ≡ true = grind (arith, nat_tests) in rw t (omega arith)
  | inr after ↦
      let t : nat_lt to from ≡ false = grind (arith, nat_tests) in
      let more : from < to = omega arith in
      rw t (omega arith)
]

own-back : (cores from to : ℕ) → IsPair cores from to →
    cond (nat_lt (own from to) from) (own from to) (own from to + 1) ≡ to
unfolding own
own-back cores from to pair = elim (cases_lt to from) [
  | inl before ↦ let t : nat_lt to from ≡ true = grind (arith, nat_tests) in rw (t, t) refl
  | inr after ↦
      let t : nat_lt to from ≡ false = grind (arith, nat_tests) in
      let more : from < to = omega arith in
      let u : nat_lt (to - 1) from ≡ false = grind (arith, nat_tests) in
      rw (t, u) (omega arith)
]

pub pairs-placed : PairsPlaced
unfolding own
pairs-placed cores from to pair =
    let below = own-below cores from to pair in
    let above = mul-le-mul_left {m = from + 1} {n = cores} (cores - 1) (omega arith) in
    let source : source_at cores (pair_place cores from to) ≡ from = div-mul-add from (cores - 1) (own from to) below in
    let rest : pair_place cores from to % (cores - 1) ≡ own from to =
    mod-mul-add from (cores - 1) (own from to) below in
    (omega arith, source, rw (source, rest) (own-back cores from to pair))

pub places-paired : PlacesPaired
places-paired cores place below =
    let some : 0 < cores - 1 = grind arith in
    let source : place / (cores - 1) < cores =
    (div-lt_iff_lt-mul {k = cores - 1} {x = place} {y = cores} some).1 below in
    let rest : place % (cores - 1) < cores - 1 = omega arith in
    let whole = div-add-mod' place (cores - 1) in
    elim (cases_lt (place % (cores - 1)) (place / (cores - 1))) [
      | inl before ↦
          let t : nat_lt (place % (cores - 1)) (place / (cores - 1)) ≡ true = grind (arith, nat_tests) in
          rw (t, t) (record { source = source; target = omega arith; differ = omega arith }, whole)
      | inr after ↦
          let t : nat_lt (place % (cores - 1)) (place / (cores - 1)) ≡ false = grind (arith, nat_tests) in
          let u : nat_lt (place % (cores - 1) + 1) (place / (cores - 1)) ≡ false = grind (arith, nat_tests) in
          rw (t, u) (record { source = source; target = omega arith; differ = omega arith }, omega arith)
    ]

pub sources-rise : SourcesRise
unfolding own
sources-rise cores from to later other pair second before =
    let below = own-below cores from to pair in
    let above = mul-le-mul_left {m = from + 1} {n = later} (cores - 1) (omega arith) in
    omega arith

pub targets-rise : TargetsRise
targets-rise cores from to later pair second before = elim (cases_lt to from) [
  | inl low ↦
      let t : nat_lt to from ≡ true = grind (arith, nat_tests) in
      elim (cases_lt later from) [
        | inl also ↦ let u : nat_lt later from ≡ true = grind (arith, nat_tests) in rw (t, u) (omega arith)
        | inr high ↦
            let u : nat_lt later from ≡ false = grind (arith, nat_tests) in
            let more : from < later = omega arith in
            rw (t, u) (omega arith)
      ]
  | inr high ↦
      let t : nat_lt to from ≡ false = grind (arith, nat_tests) in
      let u : nat_lt later from ≡ false = grind (arith, nat_tests) in
      let more : from < to = omega arith in
      rw (t, u) (omega arith)
]
