-- A mark behind those of other names is the first one with its name.
use Rattle.std.proofs.Common.{◌≡◌, ℕ, Bool, true, cond, List, [], ◌∷◌, ◌++◌, refl, ap, ◌∙◌, inl, inr}
use Rattle.std.proofs.lemmas.Bool.{cases_Bool}
use Rattle.std.proofs.lemmas.Slice.Eq.{bytes_eq-Decides}
use Rattle.std.specs.Prelude.{Some, None, not}
use Rattle.cut_marks.specs.declared.marks.Mark.{Mark}
use Rattle.cut_marks.specs.Marks.{FoundLaw, counts_of, is_named, mark_of, without_name}

behind : (name : List ℕ) (mark : Mark) (marks : List Mark) → is_named name mark ≡ true →
    counts_of name (without_name name marks ++ mark ∷ []) ≡ Some mark.counts
unfolding counts_of
behind name mark [] here = ap (λ (b : Bool). cond b (Some mark.counts) None) here
behind name mark (other ∷ marks) here =
    let kept = without_name name marks in
    let alike = λ (b : Bool). counts_of name (cond (not b) (other ∷ kept) kept ++ mark ∷ []) in
    elim (cases_Bool (is_named name other)) [
      | inl yet ↦ ap alike yet ∙ behind name mark marks here
      | inr off ↦
          ap alike off
          ∙ ap (λ (b : Bool). cond b (Some other.counts) (counts_of name (kept ++ mark ∷ []))) off
          ∙ behind name mark marks here
    ]

pub found : FoundLaw
found name cut marks = behind name (mark_of name cut) marks ((bytes_eq-Decides name name).1 refl)
