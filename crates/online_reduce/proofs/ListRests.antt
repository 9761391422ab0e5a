-- A list that is gone through by taking its first element out: what is left of it is its end.
use Rattle.std.proofs.Common.{◌≡◌, ◌∙◌, sym, ap, ℕ, ◌+◌, ◌-◌, ◌<◌, ◌≤◌, List, [], ◌∷◌, length, get_or, drop, arith}
use Rattle.std.proofs.lemmas.List.{drop-drop, get_or-drop}

module _ {X : Type 0} where
  -- how many elements were taken out
  abbrev pub seen : List X → List X → ℕ
  seen all left = length all - length left

  -- the elements that are left are the last ones
  pub record IsLeft (all left : List X) : Type 0 where
    pub most : length left ≤ length all
    pub is : drop (seen all left) all ≡ left

  pub all_left : (all : List X) → IsLeft all all
  all_left all = record {
    most = omega arith;
    is = ap (λ (n : ℕ). drop n all)
        (let e : length all - length all ≡ 0 = omega arith in e);
  }

  pub none_seen : (all : List X) → seen all all ≡ 0
  none_seen all = omega arith

  -- where one more was taken out
  pub record IsNext (all left rest : List X) (x : X) : Type 0 where
    pub within : seen all left < length all
    pub at : x ≡ get_or all (seen all left) x
    pub one : seen all rest ≡ seen all left + 1
    pub left_is : IsLeft all rest

  drop_more : (n : ℕ) (xs : List X) (x : X) (rest : List X) → drop n xs ≡ x ∷ rest → drop (n + 1) xs ≡ rest
  drop_more n xs x rest e = sym (drop-drop 1 n xs) ∙ ap (drop 1) e

  pub next_left : (all left rest : List X) (x : X) → IsLeft all left → left ≡ x ∷ rest → IsNext all left rest x
  next_left all left rest x l e =
      let size = ap length e in
      let most = l.most in
      let one : seen all rest ≡ seen all left + 1 = omega arith in
      record {
        within = omega arith;
        at = sym (ap (λ (n : ℕ). get_or all n x) (let same : seen all left ≡ seen all left + 0 = omega arith in same)
            ∙ sym (get_or-drop (seen all left) all 0 x) ∙ ap (λ (xs : List X). get_or xs 0 x) (l.is ∙ e));
        one = one;
        left_is = record {
          most = omega arith;
          is = ap (λ (n : ℕ). drop n all) one ∙ drop_more (seen all left) all x
              rest (l.is ∙ e);
        };
      }

  -- nothing is left once all were
  pub none_left : (all : List X) → seen all [] ≡ length all
  none_left all = omega arith
