-- A list of one value reads as that value, past its end too; a range grows at its end.
use Rattle.std.proofs.Common.{◌≡◌, ◌∙◌, ◌<◌, ◌⊎◌, refl, sym, ap, ℕ, zero, suc, ◌+◌, List, [], ◌∷◌, ◌++◌, get_or}
use Rattle.std.proofs.Common.{arith, replicate, zero-add}
use Rattle.std.specs.Prelude.{map, slice_index}
use Rattle.std.specs.List.{range_with_len}
use Rattle.std.proofs.lemmas.List.FromFn.{map-range_with_len_more}

pub replicate_at : {X : Type 0} (n i : ℕ) (a : X) → get_or (replicate n a) i a ≡ a
replicate_at zero i a = refl
replicate_at (suc n) zero a = refl
replicate_at (suc n) (suc i) a = replicate_at n i a

pub zero_at : (n i : ℕ) → slice_index (replicate n 0) i ≡ 0
zero_at n i = replicate_at n i 0

-- what a function makes of a range, with one number more
pub map_range_more : {X : Type 0} (f : ℕ → X) (n : ℕ) → map f (range_with_len 0 (n + 1)) ≡ map f (range_with_len 0 n)
    ++ f n ∷ []
map_range_more f n = map-range_with_len_more f 0 n n (zero-add n)

pub range_more : (n : ℕ) → range_with_len 0 (n + 1) ≡ range_with_len 0 n ++ n ∷ []
range_more n = sym (map_id (range_with_len 0 (n + 1))) ∙ map_range_more (λ (i : ℕ). i) n
    ∙ ap (λ (l : List ℕ). l ++ n ∷ []) (map_id (range_with_len 0 n))
  where
    map_id : (l : List ℕ) → map (λ (i : ℕ). i) l ≡ l
    map_id [] = refl
    map_id (x ∷ l) = ap (λ (k : List ℕ). x ∷ k) (map_id l)

pub below_suc : (k n : ℕ) → k < suc n → (k < n) ⊎ (k ≡ n)
below_suc k n h = grind arith
