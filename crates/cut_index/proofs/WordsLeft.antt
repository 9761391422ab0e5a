-- What a play leaves of a word is what its accesses leave of it.
use Rattle.std.proofs.Common.{◌≡◌, ◌⊎◌, ◌≢◌, ℕ, ◌+◌, ◌<◌, Bool, true, false, cond, ◌&&◌, List, [], ◌∷◌, ◌++◌}
use Rattle.std.proofs.Common.{length, refl, sym, ap, ◌∙◌, get_or-set_same, get_or-set_other, eq-eqb, ne_eqb, arith}
use Rattle.std.specs.Prelude.{nat_eq, slice_index, slice_set, Some, None}
use Rattle.std.proofs.Math.Bool.{and-false}
use native.Mathlib.Decide.{ℕ_discrete}
use Rattle.rtr_types.specs.Accesses.{is_write}
use Rattle.rtr_types.specs.declared.access.Access.{Access}
use Rattle.rtr_types.specs.declared.instr.Instr.{Instr}
use Rattle.rv_core.specs.declared.outcome.Outcome.{Outcome}
use Rattle.replay_core.specs.Plans.{Plan}
use Rattle.replay_core.specs.Play.{Use, accesses_by, accesses_from, core_at, instr, new_at, old_at, place, play}
use Rattle.replay_core.specs.Play.{touched}
use Rattle.replay_core.specs.Play.{uses, words_after}
use Rattle.replay_core.proofs.Places.{place_law}
use Rattle.cut_index.specs.Left.{left_by, writes}

-- behind two lists
pub left_on : (word held : ℕ) (xs ys : List Access) →
    left_by word held (xs ++ ys) ≡ left_by word (left_by word held xs) ys
left_on word held [] ys = refl
left_on word held (x ∷ xs) ys = left_on word (cond (writes word x) x.after held) xs ys

-- an instruction's own access leaves of each word what the instruction does
module _ (at : Instr) (old new word : ℕ) (words : List ℕ) (inside : word < length words) where
  abbrev now : ℕ
  now = slice_index words word

  written : (at_word : ℕ) → slice_index (slice_set words at_word new) word ≡ cond (nat_eq at_word word) new now
  written at_word = elim (ℕ_discrete at_word word) [
    | yes same ↦ rw (eq-eqb at_word word same)
        (ap (λ (w : ℕ). slice_index (slice_set words w new) word) same ∙ get_or-set_same words word new 0 inside)
    | no other ↦ rw (ne_eqb at_word word other) (get_or-set_other words at_word word new 0 (λ e. other (sym e)))
  ]

  by_write : (at_word : ℕ) (b : Bool) →
      slice_index (cond b (slice_set words at_word new) words) word ≡ cond (nat_eq at_word word && b) new now
  by_write at_word true = written at_word ∙ ap (λ (t : Bool). cond t new now) (sym (and_true (nat_eq at_word word)))
    where
      and_true : (b : Bool) → b && true ≡ b
      and_true true = refl
      and_true false = refl
  by_write at_word false = ap (λ (t : Bool). cond t new now) (sym (and-false (nat_eq at_word word)))

  pub left_of : (used : Use) →
      slice_index (words_after used words new) word ≡ left_by word now (accesses_by used at old new)
  left_of None = refl
  left_of (Some used) = by_write used.1 (is_write used.0)

pub left_by_play : (p : Plan) (s : Outcome) (order : List ℕ) (word : ℕ) → word < length s.words →
    slice_index (play p s order).words word ≡ left_by word (slice_index s.words word) (accesses_from p s order)
left_by_play p s [] word inside = refl
left_by_play p s (c ∷ cs) word inside =
    let law = place_law p s c in
    let one : slice_index (place p s c).words word ≡ left_by word (slice_index s.words word) (touched p s c) =
    ap (λ (l : List ℕ). slice_index l word) law.words
    ∙ left_of (instr c ((core_at s c).count + 1)) (old_at p s c) (new_at p s c) word s.words inside (uses p s c None)
    ∙ ap (λ (l : List Access). left_by word (slice_index s.words word) l) (sym law.access) in
    left_by_play p (place p s c) cs word (let all = law.all_words in omega arith)
    ∙ ap (λ (v : ℕ). left_by word v (accesses_from p (place p s c) cs)) one
    ∙ sym (left_on word (slice_index s.words word) (touched p s c) (accesses_from p (place p s c) cs))
