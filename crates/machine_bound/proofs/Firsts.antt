-- The first moment at which a test passes: where it can't fail for long, there is one, and there is only one.
use Rattle.std.proofs.Common.{◌≡◌, refl, ℕ, ◌+◌, ◌<◌, ◌≤◌, Bool, true, false, zero, suc, arith, inl, inr}
use Rattle.std.specs.Prelude.{if◌then◌else◌}
use Rattle.std.proofs.lemmas.Bool.{cases_eq, cases_lt}
use Rattle.image_mem.specs.Contents.{Contents}
use Rattle.rtr_types.specs.declared.params.Params.{Params}
use Rattle.msi_state.specs.Choosing.{IsFirst}
use Rattle.machine_bound.specs.Ends.{first_among, first_end}

-- ---- the first number that passes a test

record FirstAmong (n : ℕ) (test : ℕ → Bool) (t u : ℕ) : Type 0 where
  from : t ≤ u
  within : u ≤ t + n
  before : (v : ℕ) → t ≤ v → v < u → test v ≡ false
  found : u < t + n → test u ≡ true

first_is : (n : ℕ) (test : ℕ → Bool) (t : ℕ) → FirstAmong n test t (first_among n test t)
first_is zero test t = record {
  from = omega arith;
  within = omega arith;
  before = λ v past lt. absurd (omega arith);
  found = λ lt. absurd (omega arith);
}
first_is (suc n) test t = by_test (test t) refl (first_is n test (t + 1))
  where
    by_test : (b : Bool) → test t ≡ b → FirstAmong n test (t + 1) (first_among n test (t + 1)) →
        FirstAmong (suc n) test t (if b then t else first_among n test (t + 1))
    by_test true e rest = record {
      from = omega arith;
      within = omega arith;
      before = λ v past lt. absurd (omega arith);
      found = λ lt. e;
    }
    by_test false e rest =
        record {
          from = let le = rest.from in omega arith;
          within = let le = rest.within in omega arith;
          before = λ v past lt. elim (cases_eq v t) [
            | inl same ↦ rw same e
            | inr other ↦ rest.before v (omega arith) lt
          ];
          found = λ lt. rest.found (omega arith);
        }

-- ---- from the start on

-- it passes at no moment before this one
abbrev pub FailsBefore : (test : ℕ → Bool) → (t : ℕ) → Type 0
FailsBefore test t = (u : ℕ) → u < t → test u ≡ false

module _ (n : ℕ) (test : ℕ → Bool) where
  pub fails_before : FailsBefore test (first_among n test 0)
  fails_before u lt = (first_is n test 0).before u (omega arith) lt

  pub first_within : first_among n test 0 ≤ n
  first_within = let le = (first_is n test 0).within in omega arith

  -- a test that fails at no more than n moments passes then
  pub first_passes : ((t : ℕ) → FailsBefore test t → t ≤ n) → test (first_among n test 0) ≡ true
  first_passes few = by_test (test e) refl
    where
      e : ℕ
      e = first_among n test 0

      still : test e ≡ false → FailsBefore test (suc e)
      still is u lt = elim (cases_eq u e)
          [ inl same ↦ rw same is | inr other ↦ fails_before u (omega arith) ]

      by_test : (b : Bool) → test e ≡ b → test e ≡ true
      by_test true is = is
      by_test false is = let le = few (suc e) (still is) in (first_is n test 0).found (omega arith)

not_after : (test : ℕ → Bool) (t u : ℕ) → FailsBefore test t → test u ≡ true → t ≤ u
not_after test t u before passes =
    elim (cases_lt u t) [ inr le ↦ le | inl lt ↦ absurd (let fails = before u lt in cc) ]

-- two moments at which it first passes are one
pub one_first : (test : ℕ → Bool) (t u : ℕ) → IsFirst test t → IsFirst test u → t ≡ u
one_first test t u here there =
    let le = not_after test t u here.first there.done in
    let ge = not_after test u t there.first here.done in
    omega arith

-- ---- the end of a run

module _ {S : Type 0} (run : Contents → Params → (choices : ℕ → ℕ) → (t : ℕ) → S) (all_done : S → Bool)
    (most_steps : Params → ℕ) (image : Contents) (params : Params) (choices : ℕ → ℕ) where
  pub first_end_within : first_end run all_done most_steps image params choices ≤ most_steps params
  unfolding first_end
  first_end_within = first_within (most_steps params) (λ t. all_done (run image params choices t))

  -- a run that goes on for no more steps ends
  pub first_end_is :
      ((t : ℕ) → FailsBefore (λ u. all_done (run image params choices u)) t → t ≤ most_steps params) →
      IsFirst (λ u. all_done (run image params choices u)) (first_end run all_done most_steps image params choices)
  unfolding first_end
  first_end_is few =
      let over : ℕ → Bool = λ (t : ℕ). all_done (run image params choices t) in
      record { done = first_passes (most_steps params) over few; first = fails_before (most_steps params) over }

  -- so one does of which no more steps are left than that
  pub left_ends : (left : ℕ → ℕ) →
      ((t : ℕ) → FailsBefore (λ u. all_done (run image params choices u)) t → t + left t ≤ most_steps params) →
      IsFirst (λ u. all_done (run image params choices u)) (first_end run all_done most_steps image params choices)
  left_ends left few = first_end_is (λ t more. (let le = few t more in omega arith))
