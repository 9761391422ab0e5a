-- stretch by stretch
use Rattle.std.proofs.Common.{◌≡◌, ◌∙◌, ℕ, zero, suc, ◌+◌, ◌-◌, ◌*◌, ◌<◌, ◌≤◌, List, [], ◌∷◌, ◌++◌, length, take, drop}
use Rattle.std.proofs.Common.{ap, arith, sym, ⊎_elim}
use Rattle.std.specs.Prelude.{min}
use Rattle.std.proofs.lemmas.Bool.{cases_lt}
use Rattle.std.proofs.lemmas.List.{length-take-le, take_all}
use Rattle.state_text.specs.States.{memory_line}
use Rattle.state_text.proofs.PlaceLemmas.{grown, placed_grown}
use Rattle.state_text.proofs.states.put_memory.Goals as goal

-- the first n items, and m behind them
two_parts : {X : Type 0} (n m : ℕ) (xs : List X) → take n xs ++ take m (drop n xs) ≡ take (n + m) xs
two_parts zero m xs =
    let all : m ≡ 0 + m = omega arith in
    ap (λ (k : ℕ). take k xs) all
two_parts (suc n) m [] = take_all m [] (omega arith) ∙ sym (take_all (suc n + m) [] (omega arith))
two_parts (suc n) m (x ∷ xs) =
    let all : suc (n + m) ≡ suc n + m = omega arith in
    ap (λ ys. x ∷ ys) (two_parts n m xs) ∙ ap (λ (k : ℕ). take k (x ∷ xs)) all

-- the words of the stretches so far, and those of one more
one_more : (words : List ℕ) (s e : ℕ) → 64 * s ≤ length words → e ≡ min (s * 64 + 64) (length words)
    → take (64 * s) words ++ take (e - s * 64) (drop (s * 64) words) ≡ take (64 * (s + 1)) words
one_more words s e start is =
    let same : s * 64 ≡ 64 * s = omega arith in
    let both : 64 * s + (e - s * 64) ≡ e = omega arith in
    ap (λ (k : ℕ). take (64 * s) words ++ take (e - s * 64) (drop k words)) same
    ∙ two_parts (64 * s) (e - s * 64) words ∙ ap (λ (k : ℕ). take k words) both
    ∙ ⊎_elim
    (λ (short : length words < 64 * (s + 1)).
    take_all e words (omega arith) ∙ sym (take_all (64 * (s + 1)) words (omega arith)))
    (λ (long : 64 * (s + 1) ≤ length words).
    let whole : e ≡ 64 * (s + 1) = omega arith in
    ap (λ (k : ℕ). take k words) whole)
    (cases_lt (length words) (64 * (s + 1)))

pub loop-stretch-preserved : goal.loop-stretch-preserved
loop-stretch-preserved c =
    let words = c.args.words.now in
    let s = c.loop-stretch.stretch in
    let start : 64 * s ≤ length words = omega (arith, c.div_ceil-stretches.ensures, c.loop-stretch-test.true) in
    let long = length-take-le (64 * s) words start in
    let here : s * 64 ≡ length (take (64 * s) words) = omega arith in
    let end : c.min-end.result ≡ min (s * 64 + 64) (length words) = omega (arith, c.min-end.ensures) in
    grown _ c.in_ok-put_stretch.ensures c.loop-stretch.invariant
    (placed_grown (memory_line c.args.image.now) _ (s * 64) (take (64 * s) words) _ (take (64 * (s + 1)) words) here
    (one_more words s c.min-end.result start end))
