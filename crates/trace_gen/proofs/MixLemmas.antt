-- The words that were drawn so far, and the words that the generator draws from then on.
use Rattle.std.proofs.Common.{◌≡◌, ℕ, suc, ◌+◌, List, [], ◌∷◌, ◌++◌, refl, ap, sym, ◌∙◌, arith, zero-add, add-zero}
use Rattle.std.specs.Prelude.{map}
use Rattle.std.specs.List.{range_with_len}
use Rattle.std.proofs.lemmas.List.FromFn.{map-range_with_len_more}
use Rattle.rand_pcg.specs.Lcg.{Lcg}
use Rattle.rand_pcg.specs.Pcg.{pcg32}
use Rattle.rv_decode.specs.declared.op.Op.{Op}
use Rattle.schedule_pick.specs.Choices.{drawn_word}
use Rattle.trace_gen.specs.Programs.{mixed, mix_word}

-- n words were drawn, and made these instructions
pub record AreDrawn (number n : ℕ) (words : Lcg) (ops : List Op) : Type 0 where
  pub made : ops ≡ map (λ k. mixed (mix_word number k)) (range_with_len 0 n)
  pub left : (k : ℕ) → drawn_word words k ≡ mix_word number (n + k)

later : (words : Lcg) (k : ℕ) → drawn_word (pcg32 words).1 k ≡ drawn_word words (suc k)
unfolding drawn_word
later words k = refl

first : (words : Lcg) → drawn_word words 0 ≡ (pcg32 words).0
unfolding drawn_word
first words = refl

-- one more word is drawn, and makes one more instruction
pub one_more_drawn : (number n : ℕ) (words next : Lcg) (ops more : List Op) (word : ℕ) → AreDrawn number n words ops
    → (word, next) ≡ pcg32 words → more ≡ ops ++ mixed word ∷ [] → AreDrawn number (n + 1) next more
one_more_drawn number n words next ops more word drawn is_next is_more =
    let same : word ≡ mix_word number n =
    ap (λ (p : ℕ × Lcg). p.0) is_next ∙ sym (first words) ∙ drawn.left 0
    ∙ ap (λ (m : ℕ). mix_word number m) (add-zero n) in
    record {
      made =
          is_more
          ∙ ap (λ (front : List Op). front ++ mixed word ∷ []) drawn.made
          ∙ ap (λ (w : ℕ). map (λ k. mixed (mix_word number k)) (range_with_len 0 n) ++ mixed w ∷ []) same
          ∙ sym (map-range_with_len_more (λ k. mixed (mix_word number k)) 0 n n (zero-add n));
      left = λ k.
          let place : n + suc k ≡ n + 1 + k = omega arith in
          ap (λ (p : ℕ × Lcg). drawn_word p.1 k) is_next
          ∙ later words k
          ∙ drawn.left (suc k)
          ∙ ap (λ (m : ℕ). mix_word number m) place;
    }
