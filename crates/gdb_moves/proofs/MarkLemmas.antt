-- Each breakpoint marks its address.
use Rattle.std.proofs.Common.{◌≡◌, ◌∙◌, ◌⊎◌, inl, inr, ℕ, ◌+◌, ◌<◌, Bool, true, false, ◌&&◌, List, [], ◌∷◌, length, take}
use Rattle.std.proofs.Common.{get_or, refl, sym, ap, subst, replicate, arith, length-set, get_or-set_same}
use Rattle.std.proofs.Common.{get_or-set_other}
use Rattle.std.specs.Prelude.{◌||◌, nat_eq, not, slice_index, slice_set}
use Rattle.std.proofs.lemmas.Bool.{eqb-true}
use Rattle.std.proofs.lemmas.List.{length-replicate, take_all, take_more}
use Rattle.std.proofs.lemmas.List.Folds.{list_any-append}
use native.Mathlib.Decide.{ℕ_discrete}
use Rattle.gdb_moves.specs.declared.points.Point.{Point}
use Rattle.gdb_moves.specs.Marks.{AreMarks}
use Rattle.gdb_moves.specs.Points.{breaks_at, is_break, is_watch, mark_of}

pub marks_start : (points : List Point) → AreMarks (take 0 points) (replicate 64 0)
marks_start points = record { wide = length-replicate {A = ℕ} 64 0; each = λ pc is. absurd cc }

right : (a b : Bool) → (a && b) ≡ true → b ≡ true
right true b is = is
right false b is = absurd cc

alone : (b : Bool) → (b || false) ≡ b
alone true = refl
alone false = refl

either : (a b : Bool) → (a || b) ≡ true → (a ≡ true) ⊎ (b ≡ true)
either true b is = inl refl
either false b is = inr is

module _ (points : List Point) (i : ℕ) (d : Point) (inside : i < length points) (marks new : List ℕ) (number : ℕ)
    (h : AreMarks (take i points) marks) (number_is : number ≡ mark_of (get_or points i d).at) (small : number < 64)
    (new_is : new ≡ slice_set marks number 1) where
  here : slice_index new number ≡ 1
  here = ap (λ (l : List ℕ). slice_index l number) new_is
      ∙ get_or-set_same marks number 1 0 (let w = h.wide in omega arith)

  split : (pc : ℕ) → breaks_at (take (i + 1) points) pc
      ≡ (breaks_at (take i points) pc || is_break pc (get_or points i d))
  split pc =
      ap (λ (l : List Point). breaks_at l pc) (take_more points i d inside)
      ∙ list_any-append (is_break pc) (take i points) (get_or points i d ∷ [])
      ∙ ap (λ (b : Bool). breaks_at (take i points) pc || b) (alone (is_break pc (get_or points i d)))

  stays : (at : ℕ) → slice_index marks at ≡ 1 → slice_index new at ≡ 1
  stays at was = elim (ℕ_discrete at number) [
    | yes same ↦ ap (λ (k : ℕ). slice_index new k) same ∙ here
    | no other ↦ ap (λ (l : List ℕ). slice_index l at) new_is ∙ get_or-set_other marks number at 1 0 other ∙ was
  ]

  pub marks_on : AreMarks (take (i + 1) points) new
  marks_on = record {
    wide = ap (λ (l : List ℕ). length l) new_is ∙ length-set marks number 1 ∙ h.wide;
    each = λ pc is. elim (either (breaks_at (take i points) pc) (is_break pc (get_or points i d)) (sym (split pc) ∙ is)) [
      | inl before ↦ stays (mark_of pc) (h.each pc before)
      | inr this ↦
          let at : (get_or points i d).at ≡ pc =
          eqb-true (get_or points i d).at pc (right (not (is_watch (get_or points i d).kind))
          (nat_eq (get_or points i d).at pc) this) in
          ap (λ (k : ℕ). slice_index new k) (sym (number_is ∙ ap (λ (n : ℕ). mark_of n) at)) ∙ here
    ];
  }

pub marks_end : (points : List Point) (n : ℕ) (marks : List ℕ) → length points ≡ n → AreMarks (take n points) marks →
    AreMarks points marks
marks_end points n marks all h =
    subst (λ (l : List Point). AreMarks l marks) (take_all n points (omega arith)) h

-- where no mark is there is no breakpoint
pub no_mark : (points : List Point) (marks : List ℕ) (pc : ℕ) → AreMarks points marks →
    slice_index marks (mark_of pc) ≡ 0 → breaks_at points pc ≡ false
no_mark points marks pc h none = by (breaks_at points pc) refl
  where
    by : (b : Bool) → breaks_at points pc ≡ b → breaks_at points pc ≡ false
    by false is = is
    by true is = let one = h.each pc is in absurd (omega arith)
