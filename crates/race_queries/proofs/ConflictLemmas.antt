-- Accesses one after the other: those before an instruction's, those behind it, the last write and the next.
use Rattle.std.proofs.Common.{◌≡◌, inl, inr, ℕ, ◌+◌, ◌<◌, ◌≤◌, Bool, true, false, cond, ◌||◌, List, [], ◌∷◌, ◌++◌}
use Rattle.std.proofs.Common.{length, take, drop, get_or, refl, sym, ap, ◌∙◌, append_assoc}
use Rattle.std.specs.List.{list_any}
use Rattle.std.proofs.Math.ListN.{drop_of_length-le}
use Rattle.std.proofs.lemmas.Bool.{cases_Bool}
use Rattle.std.proofs.lemmas.List.{append-nil, at_drop_more, take_all, take_more}
use Rattle.std.proofs.lemmas.List.Folds.{list_any-append}
use Rattle.rtr_types.specs.Accesses.{is_same}
use Rattle.rtr_types.specs.declared.access.Access.{Access}
use Rattle.rtr_types.specs.declared.instr.Instr.{Instr}
use Rattle.race_queries.specs.Conflicts.{before, behind, since_last_write, to_next_write, writes}

-- ---- from the last write on

or_true : (b : Bool) → (b || true) ≡ true
or_true true = refl
or_true false = refl

or_false : (b : Bool) → (b || false) ≡ b
or_false true = refl
or_false false = refl

pub since_write : (front : List Access) (x : Access) → writes x ≡ true → since_last_write (front ++ x ∷ []) ≡ x ∷ []
unfolding since_last_write
since_write [] x so = refl
since_write (a ∷ rest) x so =
    let some : list_any writes (rest ++ x ∷ []) ≡ true =
    list_any-append writes rest (x ∷ []) ∙ ap (λ (b : Bool). list_any writes rest || (b || false)) so
    ∙ or_true (list_any writes rest) in
    ap (λ (b : Bool). cond b (since_last_write (rest ++ x ∷ [])) (a ∷ (rest ++ x ∷ []))) some ∙ since_write rest x so

pub since_load : (front : List Access) (x : Access) → writes x ≡ false →
    since_last_write (front ++ x ∷ []) ≡ since_last_write front ++ x ∷ []
unfolding since_last_write
since_load [] x so = refl
since_load (a ∷ rest) x so =
    let same : list_any writes (rest ++ x ∷ []) ≡ list_any writes rest =
    list_any-append writes rest (x ∷ []) ∙ ap (λ (b : Bool). list_any writes rest || (b || false)) so
    ∙ or_false (list_any writes rest) in
    ap (λ (b : Bool). cond b (since_last_write (rest ++ x ∷ [])) (a ∷ (rest ++ x ∷ []))) same ∙ elim (cases_Bool
    (list_any writes rest)) [
      | inl some ↦
          ap (λ (b : Bool). cond b (since_last_write (rest ++ x ∷ [])) (a ∷ (rest ++ x ∷ []))) some
          ∙ since_load rest x so
          ∙ ap (λ (b : Bool). cond b (since_last_write rest) (a ∷ rest) ++ x ∷ []) (sym some)
      | inr none ↦
          ap (λ (b : Bool). cond b (since_last_write (rest ++ x ∷ [])) (a ∷ (rest ++ x ∷ []))) none
          ∙ ap (λ (b : Bool). cond b (since_last_write rest) (a ∷ rest) ++ x ∷ []) (sym none)
    ]

pub since_nothing : [] ≡ since_last_write []
unfolding since_last_write
since_nothing = refl

module _ (list : List Access) (i : ℕ) (d : Access) (inside : i < length list) where
  pub near_write : (old near : List Access) → old ≡ [] → near ≡ old ++ get_or list i d ∷ [] →
      writes (get_or list i d) ≡ true → near ≡ since_last_write (take (i + 1) list)
  near_write old near none is so =
      is ∙ ap (λ (l : List Access). l ++ get_or list i d ∷ []) none
      ∙ sym (since_write (take i list) (get_or list i d) so) ∙ ap since_last_write (sym (take_more list i d inside))

  pub near_load : (old near : List Access) → old ≡ since_last_write (take i list) → near ≡ old ++ get_or list i d ∷ [] →
      writes (get_or list i d) ≡ false → near ≡ since_last_write (take (i + 1) list)
  near_load old near was is so =
      is ∙ ap (λ (l : List Access). l ++ get_or list i d ∷ []) was
      ∙ sym (since_load (take i list) (get_or list i d) so) ∙ ap since_last_write (sym (take_more list i d inside))

-- ---- before an instruction's

before_here : (at : Instr) (x : Access) (rest : List Access) → is_same x.at at ≡ true → before at (x ∷ rest) ≡ []
unfolding before
before_here at x rest so = ap (λ (b : Bool). cond b [] (x ∷ before at rest)) so

before_on : (at : Instr) (x : Access) (rest : List Access) → is_same x.at at ≡ false →
    before at (x ∷ rest) ≡ x ∷ before at rest
unfolding before
before_on at x rest so = ap (λ (b : Bool). cond b [] (x ∷ before at rest)) so

before_nothing : (at : Instr) → before at [] ≡ []
unfolding before
before_nothing at = refl

module _ (at : Instr) (list : List Access) (i : ℕ) (d : Access)
    (so_far : before at list ≡ take i list ++ before at (drop i list)) where
  pub front_ends : i < length list → is_same (get_or list i d).at at ≡ true → take i list ≡ before at list
  front_ends inside so =
      sym (so_far
      ∙ ap (λ (l : List Access). take i list ++ l)
      (at_drop_more (before at) list i d inside ∙ before_here at (get_or list i d) (drop (i + 1) list) so)
      ∙ append-nil (take i list))

  pub front_more : i < length list → is_same (get_or list i d).at at ≡ false →
      before at list ≡ take (i + 1) list ++ before at (drop (i + 1) list)
  front_more inside so =
      let rest = before at (drop (i + 1) list) in
      so_far
      ∙ ap (λ (l : List Access). take i list ++ l)
      (at_drop_more (before at) list i d inside ∙ before_on at (get_or list i d) (drop (i + 1) list) so)
      ∙ sym (append_assoc (take i list) (get_or list i d ∷ []) rest)
      ∙ ap (λ (l : List Access). l ++ rest) (sym (take_more list i d inside))

pub front_all : (at : Instr) (list : List Access) (i : ℕ) → before at list ≡ take i list ++ before at (drop i list) →
    length list ≤ i → take i list ≡ before at list
front_all at list i so_far past =
    sym (so_far
    ∙ ap (λ (l : List Access). take i list ++ l)
    (ap (before at) (drop_of_length-le list past) ∙ before_nothing at)
    ∙ append-nil (take i list))

-- ---- behind an instruction's

behind_step : (at : Instr) (x : Access) (rest : List Access) →
    behind at (x ∷ rest) ≡ cond (is_same x.at at) rest (behind at rest)
unfolding behind
behind_step at x rest = refl

behind_nothing : (at : Instr) → behind at [] ≡ []
unfolding behind
behind_nothing at = refl

module _ (at : Instr) (list : List Access) (k : ℕ) (d : Access)
    (so_far : behind at list ≡ behind at (drop k list)) where
  pub behind_here : k < length list → is_same (get_or list k d).at at ≡ true → (n : ℕ) →
      length (drop (k + 1) list) ≤ n → take n (drop (k + 1) list) ≡ behind at list
  behind_here inside so n long =
      let rest = drop (k + 1) list in
      take_all n rest long
      ∙ sym (so_far ∙ at_drop_more (behind at) list k d inside ∙ behind_step at (get_or list k d) rest
      ∙ ap (λ (b : Bool). cond b rest (behind at rest)) so)

  pub behind_on : k < length list → is_same (get_or list k d).at at ≡ false →
      behind at list ≡ behind at (drop (k + 1) list)
  behind_on inside so =
      let rest = drop (k + 1) list in
      so_far ∙ at_drop_more (behind at) list k d inside ∙ behind_step at (get_or list k d) rest
      ∙ ap (λ (b : Bool). cond b rest (behind at rest)) so

pub behind_nowhere : (at : Instr) (list : List Access) (k : ℕ) → behind at list ≡ behind at (drop k list) →
    length list ≤ k → [] ≡ behind at list
behind_nowhere at list k so_far past =
    sym (so_far ∙ ap (behind at) (drop_of_length-le list past) ∙ behind_nothing at)

-- ---- up to the next write

to_step : (x : Access) (rest : List Access) →
    to_next_write (x ∷ rest) ≡ cond (writes x) (x ∷ []) (x ∷ to_next_write rest)
unfolding to_next_write
to_step x rest = refl

to_nothing : to_next_write [] ≡ []
unfolding to_next_write
to_nothing = refl

module _ (whole next new list : List Access) (i : ℕ) (d : Access)
    (so_far : to_next_write whole ≡ next ++ to_next_write (drop i list)) where
  pub next_write : i < length list → writes (get_or list i d) ≡ true → new ≡ next ++ get_or list i d ∷ [] →
      new ≡ to_next_write whole
  next_write inside so is =
      is
      ∙ sym (so_far ∙ ap (λ (l : List Access). next ++ l)
      (at_drop_more to_next_write list i d inside ∙ to_step (get_or list i d) (drop (i + 1) list)
      ∙ ap (λ (b : Bool). cond b (get_or list i d ∷ []) (get_or list i d ∷ to_next_write (drop (i + 1) list))) so))

  pub next_load : i < length list → writes (get_or list i d) ≡ false → new ≡ next ++ get_or list i d ∷ [] →
      to_next_write whole ≡ new ++ to_next_write (drop (i + 1) list)
  next_load inside so is =
      let rest = to_next_write (drop (i + 1) list) in
      so_far
      ∙ ap (λ (l : List Access). next ++ l)
      (at_drop_more to_next_write list i d inside ∙ to_step (get_or list i d) (drop (i + 1) list)
      ∙ ap (λ (b : Bool). cond b (get_or list i d ∷ []) (get_or list i d ∷ rest)) so)
      ∙ sym (append_assoc next (get_or list i d ∷ []) rest)
      ∙ ap (λ (l : List Access). l ++ rest) (sym is)

pub next_all : (whole next list : List Access) (i : ℕ) → to_next_write whole ≡ next ++ to_next_write (drop i list) →
    length list ≤ i → next ≡ to_next_write whole
next_all whole next list i so_far past =
    sym (so_far
    ∙ ap (λ (l : List Access). next ++ l) (ap to_next_write (drop_of_length-le list past) ∙ to_nothing)
    ∙ append-nil next)
