-- What loads of done words change.
use Rattle.std.proofs.Common.{◌≡◌, ℕ, ◌+◌, ◌-◌, ◌^◌, ◌<◌, ◌≤◌, List, length, set, ap, arith, get_or-set_same}
use Rattle.std.proofs.Common.{get_or-set_other}
use Rattle.std.specs.Prelude.{slice_index, sum_by}
use Rattle.std.proofs.lemmas.List.{set_past}
use Rattle.std.proofs.lemmas.List.Sums.{sum_by-set}
use native.Mathlib.Decide.{ℕ_discrete, dec_lt}
use Rattle.replay_core.specs.Plans.{Plan}
use Rattle.replay_table.specs.declared.view.View.{View}
use Rattle.replay_table.specs.Rule.{seen_of}
use Rattle.replay_table.specs.Kinds.{SeesDone, polled}
use Rattle.replay_table.specs.Told.{ToldDone}
use Rattle.replay_threads.specs.Turns.{to_see}

owed-less : (xs : List ℕ) (c found : ℕ) → slice_index xs c ≤ found → found < 2 ^ 32 → slice_index xs c < slice_index
    (set xs c found) c →
    sum_by (λ n. 2 ^ 32 - n) (set xs c found) < sum_by (λ n. 2 ^ 32 - n) xs
owed-less xs c found most fits up = elim (dec_lt c (length xs)) [
  | yes lt ↦
      let e = sum_by-set (λ (n : ℕ). 2 ^ 32 - n) xs c found 0 lt in
      let s : slice_index (set xs c found) c ≡ found = get_or-set_same xs c found 0 lt in omega arith
  | no out ↦ let e = ap (λ (l : List ℕ). slice_index l c) (set_past xs c found (omega arith)) in absurd (omega arith)
]

owed-most : (xs : List ℕ) (c found : ℕ) → slice_index xs c ≤ found → found < 2 ^ 32 →
    sum_by (λ n. 2 ^ 32 - n) (set xs c found) ≤ sum_by (λ n. 2 ^ 32 - n) xs
owed-most xs c found most fits = elim (dec_lt c (length xs)) [
  | yes lt ↦ let e = sum_by-set (λ (n : ℕ). 2 ^ 32 - n) xs c found 0 lt in omega arith
  | no out ↦ let e = ap (λ (l : List ℕ). sum_by (λ n. 2 ^ 32 - n) l) (set_past xs c found (omega arith)) in omega arith
]

polled-more : (c : ℕ) (polls : List ℕ) (i : ℕ) → slice_index polls i ≤ slice_index (polled c polls) i
polled-more c polls i = elim (ℕ_discrete i c) [
  | yes z ↦ elim (dec_lt c (length polls)) [
    | yes lt ↦
        let s : slice_index (polled c polls) c ≡ slice_index polls c + 1 = get_or-set_same polls c
        (slice_index polls c + 1) 0 lt in
        let e = ap (λ (j : ℕ). slice_index polls j) z in
        let f = ap (λ (j : ℕ). slice_index (polled c polls) j) z in omega arith
    | no out ↦ let e = ap (λ (l : List ℕ). slice_index l i) (set_past polls c (slice_index polls c + 1) (omega arith))
        in omega arith
  ]
  | no ne ↦ let e : slice_index (polled c polls) i ≡ slice_index polls i = get_or-set_other polls c i
      (slice_index polls c + 1) 0 ne in omega arith
]

-- ---- one load of the done word of core c

core-is : (p : Plan) (v w : View) (word found c : ℕ) → (step : SeesDone p v word found w) → word ≡ p.image.words + c
    → step.core ≡ c
core-is p v w word found c step is = let e = step.word_is in omega arith

pub sees_polls : (p : Plan) (v w : View) (word found : ℕ) → SeesDone p v word found w → (i : ℕ) → slice_index v.polls
    i ≤ slice_index w.polls i
sees_polls p v w word found step i =
    let e = ap (λ (x : View). slice_index x.polls i) step.view in let m = polled-more step.core v.polls i in omega arith

pub sees_most : (p : Plan) (v w : View) (word found : ℕ) → ToldDone p v word found w → to_see w ≤ to_see v
sees_most p v w word found told =
    let step = told.step in
    let e = ap (λ (x : View). to_see x) step.view in let m = owed-most v.seen step.core found told.most told.fits in
    omega arith

pub sees_more : (p : Plan) (v w : View) (word found c : ℕ) → ToldDone p v word found w → word ≡ p.image.words + c
    → seen_of v c < seen_of w c →
    to_see w < to_see v
sees_more p v w word found c told is up =
    let step = told.step in
    let at = core-is p v w word found c step is in
    let e = ap (λ (x : View). to_see x) step.view in
    let s = ap (λ (x : View). seen_of x c) step.view in
    let a = ap (λ (j : ℕ). slice_index v.seen j) at in
    let b = ap (λ (j : ℕ). slice_index (set v.seen step.core found) j) at in
    let m = owed-less v.seen step.core found told.most told.fits (omega arith) in omega arith
