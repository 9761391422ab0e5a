-- The first of a list of accesses that is an instruction's, from a place on.
use Rattle.std.proofs.Common.{◌≡◌, ℕ, ◌+◌, ◌<◌, ◌≤◌, Bool, true, false, cond, List, ◌∷◌, length, drop, get_or, sym, ap}
use Rattle.std.proofs.Common.{◌∙◌, add-one}
use Rattle.std.specs.Prelude.{Some, None}
use Rattle.std.proofs.Math.Seq.{drop-cons}
use Rattle.std.proofs.lemmas.List.{drop_all}
use Rattle.rtr_types.specs.Accesses.{is_same}
use Rattle.rtr_types.specs.declared.access.Access.{Access}
use Rattle.rtr_types.specs.declared.instr.Instr.{Instr}
use Rattle.race_queries.specs.Conflicts.{access_at}

module _ (at : Instr) (list : List Access) (i : ℕ) (d : Access) (inside : i < length list)
    (so_far : access_at at list ≡ access_at at (drop i list)) where
  next_is : access_at at (drop i list)
      ≡ cond (is_same (get_or list i d).at at) (Some (get_or list i d)) (access_at at (drop (i + 1) list))
  unfolding access_at
  next_is =
      ap (access_at at)
      (drop-cons list i d inside ∙ ap (λ (k : ℕ). get_or list i d ∷ drop k list) (sym (add-one i)))

  answers : (is_it : Bool) → is_same (get_or list i d).at at ≡ is_it →
      access_at at list ≡ cond is_it (Some (get_or list i d)) (access_at at (drop (i + 1) list))
  answers is_it so = so_far ∙ next_is
      ∙ ap (λ (b : Bool). cond b (Some (get_or list i d)) (access_at at (drop (i + 1) list))) so

  pub accessed_here : is_same (get_or list i d).at at ≡ true → Some (get_or list i d) ≡ access_at at list
  accessed_here so = sym (answers true so)

  pub accessed_on : is_same (get_or list i d).at at ≡ false → access_at at list ≡ access_at at (drop (i + 1) list)
  accessed_on so = answers false so

pub accessed_nowhere : (at : Instr) (list : List Access) (i : ℕ) → length list ≤ i →
    access_at at list ≡ access_at at (drop i list) → None ≡ access_at at list
unfolding access_at
accessed_nowhere at list i past so_far = sym (so_far ∙ ap (λ (l : List Access). access_at at l) (drop_all i list past))
