-- How a run by a policy goes on, and what is true of its choices.
use Rattle.std.proofs.Common.{◌≡◌, ◌⊎◌, inl, inr, refl, sym, ap, subst, ◌∙◌, ℕ, zero, suc, ◌<◌, true, false}
use Rattle.std.proofs.Common.{List, [], ◌∷◌, ◌++◌, append_assoc, append-nil, length, arith}
use Rattle.std.specs.Prelude.{Bool, ◌-◌, ◌||◌, nat_lt, if◌then◌else◌}
use Rattle.std.proofs.lemmas.Bool.Decides.{nat_tests}
use Rattle.std.proofs.lemmas.List.{length-append}
use Rattle.rtr_types.proofs.Lists.{cons-head, cons-rest}
use Rattle.image_mem.specs.Contents.{Contents}
use Rattle.rtr_types.specs.declared.params.Params.{Params}
use Rattle.schedule_pick.specs.Choices.{Choices, choice_at, choices_after, choices_of, drawn_word}
use Rattle.turn_policies.specs.Policies.{PolicyOf}
use Rattle.hunt_runs.specs.Courses.{Course, EachEnabled, Gone, StandsAfter, gone_from, stepped}
use Rattle.hunt_runs.specs.Directing.{Directed, decided, has_made, noticed}
use Rattle.hunt_runs.specs.Ends.{following}
use Rattle.hunt_runs.specs.Jumping.{jumps_after, spot_of}
use Rattle.hunt_runs.specs.Seen.{Seen, core_in}
use Rattle.hunt_runs.specs.declared.decision.Decision.{Decision}
use Rattle.hunt_runs.specs.declared.jumps.Spot.{Spot}
use Rattle.rv_core.specs.declared.core_state.Core.{Core}

module _ {P : Type 0} (course : Course) (policy : PolicyOf P) where
  -- a run that has ended goes no further
  pub stays : (most : ℕ) (gone : Gone P) → (course.seen gone.choices).ended ≡ true →
      gone_from course policy most gone ≡ gone
  stays zero gone ended = refl
  stays (suc most) gone ended =
      ap (λ (b : Bool). if b then gone else gone_from course policy most (stepped course policy gone)) ended

  -- one that hasn't takes a step
  pub goes_on : (most : ℕ) (gone : Gone P) → (course.seen gone.choices).ended ≡ false →
      gone_from course policy (suc most) gone ≡ gone_from course policy most (stepped course policy gone)
  goes_on most gone going =
      ap (λ (b : Bool). if b then gone else gone_from course policy most (stepped course policy gone)) going

-- a list with one more at its end is split there, or before
split_last : (xs before : List ℕ) (x y : ℕ) (after : List ℕ) → xs ++ x ∷ [] ≡ before ++ y ∷ after →
    ((xs ≡ before) × (x ≡ y)) ⊎ ((rest : List ℕ) × (xs ≡ before ++ y ∷ rest))
split_last [] [] x y after same = inl (refl, cons-head x y [] after same)
split_last [] (b ∷ bs) x y after same = absurd (omega (arith, ap length same, length-append (b ∷ bs) (y ∷ after)))
split_last (z ∷ zs) [] x y after same = inr (zs, ap (λ (k : ℕ). k ∷ zs) (cons-head z y (zs ++ x ∷ []) after same))
split_last (z ∷ zs) (b ∷ bs) x y after same =
    let head : z ≡ b = cons-head z b (zs ++ x ∷ []) (bs ++ y ∷ after) same in
    elim (split_last zs bs x y after (cons-rest z b (zs ++ x ∷ []) (bs ++ y ∷ after) same)) [
      | inl ends ↦ inl (ap (λ (k : ℕ). k ∷ zs) head ∙ ap (λ (l : List ℕ). b ∷ l) ends.0, ends.1)
      | inr more ↦ inr (more.0, ap (λ (k : ℕ). k ∷ zs) head ∙ ap (λ (l : List ℕ). b ∷ l) more.1)
    ]

-- one more choice, of an enabled step
pub each_more : (course : Course) (choices : List ℕ) (next : ℕ) → EachEnabled course choices →
    next < (course.seen choices).steps → EachEnabled course (choices ++ next ∷ [])
each_more course choices next each within = λ before choice after same.
    elim (split_last choices before next choice after same) [
      | inl ends ↦ subst (λ (l : List ℕ). choice < (course.seen l).steps) ends.0
          (subst (λ (k : ℕ). k < (course.seen choices).steps) ends.1 within)
      | inr more ↦ each before choice more.0 more.1
    ]

-- none yet
pub each_none : (course : Course) → EachEnabled course []
each_none course = λ before choice after same.
    absurd (omega (arith, ap length same, length-append before (choice ∷ after)))

-- ---- one step

module _ {P : Type 0} where
  -- what is kept in mind after a step, by what was looked at
  pub noticed_is : (e : Directed P) (c : ℕ) (changed : Bool) (now after : Seen) (spot : Spot) (k : Core)
      (held left : ℕ) → spot ≡ spot_of (core_in now c) → k ≡ core_in after c → held ≡ now.stores c →
      left ≡ after.stores c →
      record e {
        made = e.made || has_made e.turn spot.count k.count held left;
        jumps = jumps_after c spot k left changed e.jumps;
      } ≡ noticed c changed now after e
  noticed_is e c changed now after spot k held left is_spot is_core is_held is_left =
      λ i. record e {
        made = e.made || has_made e.turn (is_spot i).count (is_core i).count (is_held i) (is_left i);
        jumps = jumps_after c (is_spot i) (is_core i) (is_left i) changed e.jumps;
      }

  -- the step that was decided on and taken is the next of the run
  pub step_is : (course : Course) (policy : PolicyOf P) (choices : List ℕ) (d e f : Directed P) (next : Decision)
      (now after : Seen) (changed : Bool) → now ≡ course.seen choices → (next, e) ≡ decided policy d now →
      changed ≡ course.changes choices next.number → after ≡ course.seen (choices ++ next.number ∷ []) →
      f ≡ noticed next.core changed now after e →
      stepped course policy (record { choices = choices; directed = d })
      ≡ record { choices = choices ++ next.number ∷ []; directed = f }
  step_is course policy choices d e f next now after changed is_now is_next is_changed is_after is_f =
      let both : decided policy d (course.seen choices) ≡ (next, e) =
      ap (decided policy d) (sym is_now) ∙ sym is_next in
      let by : Decision × Directed P → Gone P = λ pair. record {
        choices = choices ++ pair.0.number ∷ [];
        directed =
            noticed pair.0.core (course.changes choices pair.0.number) (course.seen choices)
            (course.seen (choices ++ pair.0.number ∷ [])) pair.1;
      } in
      let with : Directed P → Gone P = λ x. record { choices = choices ++ next.number ∷ []; directed = x } in
      ap by both
      ∙ (λ i. with (noticed next.core (sym is_changed i) (sym is_now i) (sym is_after i) e))
      ∙ ap with (sym is_f)

-- the first choice of a list
pub first_choice : (k : ℕ) (rest : Choices) → k ≡ choice_at (record { bytes = k ∷ rest.bytes; words = rest.words }) 0
unfolding choice_at
first_choice k rest =
    let some : nat_lt 0 (length (k ∷ rest.bytes)) ≡ true = grind (arith, nat_tests) in
    sym (ap (λ (b : Bool). if b then k else drawn_word rest.words (0 - length (k ∷ rest.bytes))) some)

-- ---- where a machine stands

module _ {M : Type 0} (stands : M → Contents → Params → Choices → ℕ → Choices → Type 0) (image : Contents)
    (params : Params) (machine : M) (choices : List ℕ) where
  -- after one more choice
  pub stands_more : (k : ℕ) →
      ((rest : Choices) → k ≡ choice_at rest 0 →
      stands machine image params (following choices rest) (suc (length choices)) (choices_after rest)) →
      StandsAfter stands image params machine (choices ++ k ∷ [])
  unfolding choices_after
  stands_more k at = λ rest.
      let with : Choices = record { bytes = k ∷ rest.bytes; words = rest.words } in
      let list : choices ++ k ∷ rest.bytes ≡ (choices ++ k ∷ []) ++ rest.bytes =
      sym (append_assoc choices (k ∷ []) rest.bytes) in
      let long : suc (length choices) ≡ length (choices ++ k ∷ []) = omega (arith, length-append choices (k ∷ [])) in
      subst (λ (x : Choices × ℕ). stands machine image params x.0 x.1 rest)
      (λ i. (record { bytes = list i; words = rest.words }, long i)) (at with (first_choice k rest))

  -- what is true wherever it stands is true of the choices that were made, whatever seed follows
  pub by_seed : (Is : Choices → ℕ → Type 0) → ((schedule : Choices) (t : ℕ) (rest : Choices) →
      stands machine image params schedule t rest → Is schedule t) → StandsAfter stands image params machine choices →
      (seed : ℕ) → Is (choices_of choices seed) (length choices)
  by_seed Is law after seed =
      let rest : Choices = choices_of [] seed in
      subst (λ (bytes : List ℕ). Is (record { bytes = bytes; words = rest.words }) (length choices))
      (append-nil choices) (law (following choices rest) (length choices) rest (after rest))
