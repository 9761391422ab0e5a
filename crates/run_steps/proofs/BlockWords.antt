-- The words of a memory, block by block.
use Rattle.std.proofs.Common.{◌≡◌, ◌∙◌, add-zero, ap, arith, map, sym, zero-add, ℕ, suc, ◌+◌, ◌*◌, ◌/◌, ◌%◌, ◌<◌, List}
use Rattle.std.proofs.Common.{[], ◌∷◌, ◌++◌, length}
use Rattle.std.specs.Prelude.{slice_index}
use Rattle.std.specs.List.{range_with_len}
use Rattle.std.proofs.lemmas.List.{append-nil, append_assoc}
use Rattle.std.proofs.lemmas.List.FromFn.{map-range_with_len_more}
use Rattle.msi_memory.specs.Finals.{SameWords}
use Rattle.run_steps.specs.Ends.{words_in}

-- the next values of a function, behind those of the numbers below n
module _ (f : ℕ → ℕ) where
  abbrev firsts : ℕ → List ℕ
  firsts n = map f (range_with_len 0 n)

  more_values : (xs : List ℕ) (n : ℕ) → ((i : ℕ) → i < length xs → slice_index xs i ≡ f (n + i)) →
      firsts n ++ xs ≡ firsts (n + length xs)
  more_values [] n each = append-nil (firsts n) ∙ ap firsts (sym (add-zero n))
  more_values (x ∷ xs) n each =
      let first : x ≡ f n = each 0 (omega arith) ∙ ap f (add-zero n) in
      let rest : (i : ℕ) → i < length xs → slice_index xs i ≡ f (n + 1 + i) =
      λ i within. let same : n + suc i ≡ n + 1 + i = omega arith in each (suc i) (omega (arith, within)) ∙ ap f same in
      let counted : n + 1 + length xs ≡ n + suc (length xs) = omega arith in
      sym (append_assoc (firsts n) (x ∷ []) xs)
      ∙ ap (λ (y : ℕ). (firsts n ++ y ∷ []) ++ xs) first
      ∙ ap (λ (ys : List ℕ). ys ++ xs) (sym (map-range_with_len_more f 0 n n (zero-add n)))
      ∙ more_values xs (n + 1) rest
      ∙ ap firsts counted

-- a block's words are the next words of the memory
module _ (blocks : ℕ → List ℕ) (block : ℕ) where
  abbrev word_of : ℕ → ℕ
  word_of word = slice_index (blocks (word / 4)) (word % 4)

  slot_of : (slot : ℕ) → slot < 4 → slice_index (blocks block) slot ≡ word_of (block * 4 + slot)
  slot_of slot low =
      let same : (block * 4 + slot) / 4 ≡ block = omega arith in
      let here : (block * 4 + slot) % 4 ≡ slot = omega arith in
      rw (same, here)

  pub words_more : (list words : List ℕ) → list ≡ words_in blocks (block * 4) → length words ≡ 4
      → SameWords words (blocks block) → list ++ words ≡ words_in blocks ((block + 1) * 4)
  words_more list words before four same =
      let each : (i : ℕ) → i < length words → slice_index words i ≡ word_of (block * 4 + i) =
      λ i within. let low : i < 4 = omega (arith, within, four) in same i low ∙ slot_of i low in
      let counted : block * 4 + length words ≡ (block + 1) * 4 = omega (arith, four) in
      ap (λ (xs : List ℕ). xs ++ words) before
      ∙ more_values word_of words (block * 4) each
      ∙ ap (λ (n : ℕ). words_in blocks n) counted
