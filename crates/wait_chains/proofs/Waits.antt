-- The last wait among the edges so far, from the last one back, and the edges of a chain so far.
use Rattle.std.proofs.Common.{◌≡◌, ℕ, zero, suc, ◌+◌, ◌-◌, ◌<◌, ◌≤◌}
use Rattle.std.proofs.Common.{Bool, true, false, List, [], ◌∷◌, ◌++◌, length, drop}
use Rattle.std.proofs.Common.{get_or, refl, sym, ap, subst}
use Rattle.std.proofs.Common.{◌∙◌, add-one, append_assoc, append-nil, arith, length-append}
use Rattle.std.proofs.Math.Seq.{drop-cons}
use Rattle.std.proofs.lemmas.List.{drop_all}
use Rattle.std.specs.Prelude.{Option, Some, None, if◌then◌else◌}
use Rattle.rtr_types.specs.declared.instr.Instr.{Instr}
use Rattle.race_queries.specs.declared.ends.Ends.{Ends}
use Rattle.wait_chains.specs.Chains.{chain_of, last_wait, later, leads_up_to, onward}

-- ---- the last wait

-- of no edges there is none
pub no_wait : (at : Instr) (all : List Ends) (k : ℕ) → length all ≤ k → None ≡ last_wait at (drop k all)
unfolding last_wait
no_wait at all k past = ap (λ (l : List Ends). last_wait at l) (sym (drop_all k all past))

-- an edge more, before those so far
wait_more : (at : Instr) (all : List Ends) (k : ℕ) (d : Ends) → k < length all → (found : Option Ends) →
    found ≡ last_wait at (drop (k + 1) all) →
    (if leads_up_to at (get_or all k d) then Some (later (get_or all k d) found) else found)
    ≡ last_wait at (drop k all)
unfolding last_wait
wait_more at all k d inside found is =
    let e = get_or all k d in
    ap (λ (o : Option Ends). if leads_up_to at e then Some (later e o) else o) is
    ∙ ap (λ (l : List Ends). last_wait at l)
    (sym (drop-cons all k d inside ∙ ap (λ (n : ℕ). e ∷ drop n all) (sym (add-one k))))

module _ (at : Instr) (all : List Ends) (k : ℕ) (d : Ends) (inside : k < length all) (found : Option Ends)
    (so_far : found ≡ last_wait at (drop (k + 1) all)) where
  pub wait_here : leads_up_to at (get_or all k d) ≡ true →
      Some (later (get_or all k d) found) ≡ last_wait at (drop k all)
  wait_here leads =
      ap (λ (b : Bool). if b then Some (later (get_or all k d) found) else found) (sym leads)
      ∙ wait_more at all k d inside found so_far

  pub wait_else : leads_up_to at (get_or all k d) ≡ false → found ≡ last_wait at (drop k all)
  wait_else other =
      ap (λ (b : Bool). if b then Some (later (get_or all k d) found) else found) (sym other)
      ∙ wait_more at all k d inside found so_far

-- ---- the chain

chain_ends : (all : List Ends) (at : Instr) (n : ℕ) → last_wait at all ≡ None → chain_of all at n ≡ []
unfolding chain_of
chain_ends all at zero none = refl
chain_ends all at (suc n) none = ap (λ (o : Option Ends). onward o (λ e. chain_of all e.edge.from n)) none

chain_goes_on : (all : List Ends) (at : Instr) (n : ℕ) (w : Ends) → last_wait at all ≡ Some w →
    chain_of all at (suc n) ≡ w ∷ chain_of all w.edge.from n
unfolding chain_of
chain_goes_on all at n w some = ap (λ (o : Option Ends). onward o (λ e. chain_of all e.edge.from n)) some

no_more : (all : List Ends) (at : Instr) → chain_of all at zero ≡ []
unfolding chain_of
no_more all at = refl

-- the edges so far, and then the chain from where they lead
abbrev pub IsFront : (all : List Ends) → (at : Instr) → (most : ℕ) → (list : List Ends) → (from : Instr) → Type 0
IsFront all at most list from = list ++ chain_of all from (most - length list) ≡ chain_of all at most

module _ (all : List Ends) (at : Instr) (most : ℕ) (list : List Ends) (from : Instr)
    (front : IsFront all at most list from) where
  pub front_ends : last_wait from all ≡ None → list ≡ chain_of all at most
  front_ends none =
      sym (ap (λ (l : List Ends). list ++ l) (chain_ends all from (most - length list) none) ∙ append-nil list) ∙ front

  pub front_full : most ≤ length list → list ≡ chain_of all at most
  front_full full =
      let none : most - length list ≡ zero = omega arith in
      sym (ap (λ (n : ℕ). list ++ chain_of all from n) none ∙ ap (λ (l : List Ends). list ++ l) (no_more all from)
      ∙ append-nil list) ∙ front

  pub front_more : (w : Ends) → last_wait from all ≡ Some w → length list < most → (more : List Ends) →
      more ≡ list ++ w ∷ [] → IsFront all at most more w.edge.from
  front_more w some room more is =
      let left : most - length list ≡ suc (most - length more) =
      (let long = ap (λ (l : List Ends). length l) is ∙ length-append list (w ∷ []) in omega arith) in
      ap (λ (l : List Ends). l ++ chain_of all w.edge.from (most - length more)) is
      ∙ append_assoc list (w ∷ []) (chain_of all w.edge.from (most - length more))
      ∙ ap (λ (l : List Ends). list ++ l) (sym (chain_goes_on all from (most - length more) w some))
      ∙ ap (λ (n : ℕ). list ++ chain_of all from n) (sym left)
      ∙ front

pub front_start : (all : List Ends) (at : Instr) (most : ℕ) (list : List Ends) → list ≡ [] →
    IsFront all at most list at
front_start all at most list none =
    let whole : most - length list ≡ most =
    (let long = ap (λ (l : List Ends). length l) none in omega arith) in
    ap (λ (l : List Ends). l ++ chain_of all at (most - length list)) none
    ∙ ap (λ (n : ℕ). chain_of all at n) whole
