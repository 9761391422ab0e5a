-- Of whatever moves by choices: where each step pays for itself, all steps before the end have been paid for.
use Rattle.std.proofs.Common.{◌≡◌, refl, ℕ, ◌+◌, ◌<◌, ◌≤◌, Bool, false, List, [], ◌∷◌, length, Option, Some, None}
use Rattle.std.proofs.Common.{zero, suc, arith}
use Rattle.msi_state.specs.Choosing.{by_move, chosen_of, state_after}
use Rattle.machine_bound.proofs.Firsts.{FailsBefore}

-- where there is some move, a choice takes one
chosen_none : {M X : Type 0} (ms : List M) (choice : ℕ) → 0 < length ms → chosen_of ms choice ≡ None → X
chosen_none [] choice some e = absurd (omega arith)
chosen_none (m ∷ ms) choice some e = absurd (cc)

module _ {S M : Type 0} (moves : S → List M) (step : S → M → S) (has_ended : S → Bool) (Holds : S → Type 0)
    (owed earned : S → ℕ) (goes_on : (s : S) → Holds s → has_ended s ≡ false → 0 < length (moves s))
    (pays : (s : S) (choice : ℕ) (m : M) → chosen_of (moves s) choice ≡ Some m → Holds s →
    earned s + owed (step s m) + 1 ≤ earned (step s m) + owed s) where
  step_paid : (t : ℕ) (s : S) (choice : ℕ) (taken : Option M) → chosen_of (moves s) choice ≡ taken → Holds s →
      has_ended s ≡ false → t + owed s ≤ earned s →
      suc t + owed (by_move s (step s) taken) ≤ earned (by_move s (step s) taken)
  step_paid t s choice None is h more paid = chosen_none (moves s) choice (goes_on s h more) is
  step_paid t s choice (Some m) is h more paid = let one = pays s choice m is h in omega arith

  pub paid_until : (start : S) (choices : ℕ → ℕ) → ((t : ℕ) → Holds (state_after moves step start choices t)) →
      owed start ≤ earned start → (t : ℕ) →
      FailsBefore (λ u. has_ended (state_after moves step start choices u)) t →
      t + owed (state_after moves step start choices t) ≤ earned (state_after moves step start choices t)
  paid_until start choices holds opens zero more = omega arith
  paid_until start choices holds opens (suc t) more =
      let s : S = state_after moves step start choices t in
      step_paid t s (choices t) (chosen_of (moves s) (choices t)) refl (holds t) (more t (omega arith))
      (paid_until start choices holds opens t (λ u lt. more u (omega arith)))
