-- The first of the marks from a place on that has a name.
use Rattle.std.proofs.Common.{◌≡◌, ℕ, ◌+◌, ◌<◌, ◌≤◌, Bool, true, false, cond, List, [], ◌∷◌, ◌++◌, length, drop, get_or}
use Rattle.std.proofs.Common.{sym, ap, ◌∙◌, add-one}
use Rattle.std.specs.Prelude.{Some, None}
use Rattle.std.proofs.Math.Seq.{drop-cons}
use Rattle.std.proofs.lemmas.List.{drop_all}
use Rattle.cut_marks.specs.declared.marks.Mark.{Mark}
use Rattle.cut_marks.specs.Marks.{counts_of, is_named}

-- what is left of a list from a place on
left : {A : Type 0} (xs : List A) (i : ℕ) (d : A) → i < length xs → drop i xs ≡ get_or xs i d ∷ drop (i + 1) xs
left xs i d inside = drop-cons xs i d inside ∙ ap (λ (k : ℕ). get_or xs i d ∷ drop k xs) (sym (add-one i))

module _ (marks : List Mark) (name : List ℕ) (i : ℕ) (mark : Mark) (there : mark ≡ get_or marks i mark)
    (inside : i < length marks) where
  named_at : counts_of name (drop i marks)
      ≡ cond (is_named name mark) (Some mark.counts) (counts_of name (drop (i + 1) marks))
  unfolding counts_of
  named_at =
      ap (λ (l : List Mark). counts_of name l) (left marks i mark inside)
      ∙ ap (λ (m : Mark). cond (is_named name m) (Some m.counts) (counts_of name (drop (i + 1) marks))) (sym there)

  pub named_here : is_named name mark ≡ true → counts_of name (drop i marks) ≡ Some mark.counts
  named_here so =
      named_at ∙ ap (λ (b : Bool). cond b (Some mark.counts) (counts_of name (drop (i + 1) marks))) so

  pub named_on : is_named name mark ≡ false → counts_of name (drop i marks) ≡ counts_of name (drop (i + 1) marks)
  named_on so =
      named_at ∙ ap (λ (b : Bool). cond b (Some mark.counts) (counts_of name (drop (i + 1) marks))) so

pub named_nowhere : (marks : List Mark) (name : List ℕ) (i : ℕ) → length marks ≤ i →
    counts_of name (drop i marks) ≡ None
unfolding counts_of
named_nowhere marks name i past = ap (λ (l : List Mark). counts_of name l) (drop_all i marks past)
