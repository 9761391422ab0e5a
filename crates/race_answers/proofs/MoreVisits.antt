-- The times that a core comes to a pc, one instruction more.
use Rattle.std.proofs.Common.{◌≡◌, ℕ, ◌+◌, Bool, true, false, List, [], ◌∷◌, ◌++◌, sym, ap, ◌∙◌, append-nil}
use Rattle.std.proofs.lemmas.List.Elements.{filter-append}
use Rattle.std.specs.List.{range_with_len}
use Rattle.std.specs.Prelude.{filter, nat_eq, if◌then◌else◌}
use Rattle.replay_core.specs.Play.{instr}
use Rattle.rtr_types.proofs.Ranges.{range_more}
use Rattle.race_answers.specs.Pcs.{pc_in}
use Rattle.race_answers.specs.Traces.{is_visit, visits}

module _ (pcs : List (List ℕ)) (pc core k : ℕ) where
  split : visits pcs pc core (k + 1) ≡ visits pcs pc core k ++ filter (is_visit pcs pc core) (k ∷ [])
  split = ap (λ (l : List ℕ). filter (is_visit pcs pc core) l) (range_more k)
      ∙ filter-append (is_visit pcs pc core) (range_with_len 0 k) (k ∷ [])

  pub one_visit : (list more : List ℕ) → list ≡ visits pcs pc core k →
      nat_eq (pc_in pcs (instr core (k + 1))) pc ≡ true → more ≡ list ++ k ∷ [] → more ≡ visits pcs pc core (k + 1)
  one_visit list more so_far here is =
      is ∙ ap (λ (l : List ℕ). l ++ k ∷ []) so_far
      ∙ ap (λ (b : Bool). visits pcs pc core k ++ (if b then k ∷ [] else [])) (sym here) ∙ sym split

  pub no_visit : (list : List ℕ) → list ≡ visits pcs pc core k →
      nat_eq (pc_in pcs (instr core (k + 1))) pc ≡ false → list ≡ visits pcs pc core (k + 1)
  no_visit list so_far other =
      so_far ∙ sym (append-nil (visits pcs pc core k))
      ∙ ap (λ (b : Bool). visits pcs pc core k ++ (if b then k ∷ [] else [])) (sym other) ∙ sym split
