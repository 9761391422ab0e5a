-- What comes later in a run, and when instructions retire.
use Rattle.std.proofs.Common.{◌≡◌, ◌∙◌, sym, ap, subst, ℕ, zero, suc, ◌<◌, ◌≤◌, ◌^◌, List, [], ◌++◌, append-nil}
use Rattle.std.proofs.Common.{append_assoc, arith, inl, inr}
use Rattle.std.proofs.lemmas.Bool.{cases_eq, cases_lt}
use Rattle.image_mem.specs.Contents.{Contents}
use Rattle.rtr_types.specs.Parameters.{Fits}
use Rattle.rtr_types.specs.declared.TheConstants.{CORES_MAX}
use Rattle.rtr_types.specs.declared.access.Access.{Access}
use Rattle.rtr_types.specs.declared.instr.Instr.{Instr}
use Rattle.rtr_types.specs.declared.params.Params.{Params}
use Rattle.conflict_edge.specs.Conflicts.{StandsIn}
use Rattle.conflict_edge.proofs.AccessPlaces.{stands_which}
use Rattle.msi_state.specs.Events.{Event}
use Rattle.msi_state.specs.Runs.{accesses, accesses_in, event_at}
use Rattle.run_outcome.specs.Retirement.{EarlierLaw, NextRetiresLaw, RetiresAt, RetiresOnceLaw, StaysRetiredLaw}
use Rattle.run_outcome.specs.Retirement.{retired_count}
use Rattle.run_outcome.proofs.RunAccesses.{accessed}
use Rattle.run_outcome.proofs.RetiredCounts.{run_tells}

-- from t choices on to u: the counts don't fall, and each access that is added hasn't retired before
pub record Goes (image : Contents) (params : Params) (choices : ℕ → ℕ) (t u : ℕ) : Type 0 where
  pub more : (c : ℕ) → retired_count image params choices t c ≤ retired_count image params choices u c
  pub rest : List Access
  pub is : accesses image params choices u ≡ accesses image params choices t ++ rest
  pub above : (a : Access) → StandsIn rest a → retired_count image params choices t a.at.core < a.at.count

goes_nowhere : (image : Contents) (params : Params) (choices : ℕ → ℕ) (t : ℕ) → Goes image params choices t t
goes_nowhere image params choices t = record {
  more = λ c. omega arith;
  rest = [];
  is = sym (append-nil (accesses image params choices t));
  above = λ a stands. absurd stands;
}

goes_on : (image : Contents) (params : Params) (choices : ℕ → ℕ) (t u : ℕ) → params.cores ≤ CORES_MAX
    → params.limit < 2 ^ 32 → Goes image params choices t u → Goes image params choices t (suc u)
goes_on image params choices t u few small h =
    let e : Event = event_at image params choices u in
    let told = run_tells image params choices u few small in
    record {
      more = λ c. let before = h.more c in let up = told.more c in omega (arith, before, up);
      rest = h.rest ++ accesses_in e;
      is =
          ap (λ (l : List Access). l ++ accesses_in e) h.is
          ∙ append_assoc (accesses image params choices t) h.rest (accesses_in e);
      above = λ a stands. elim (stands_which h.rest (accesses_in e) a stands) [
        | inl there ↦ h.above a there
        | inr there ↦
            let now = (told.next a.at (accessed e a there)).count in let before = h.more a.at.core in
            omega (arith, now, before)
      ];
    }

pub goes : (image : Contents) (params : Params) (choices : ℕ → ℕ) (t u : ℕ) → params.cores ≤ CORES_MAX
    → params.limit < 2 ^ 32 → t ≤ u → Goes image params choices t u
goes image params choices t zero few small le =
    let same : 0 ≡ t = omega (arith, le) in
    subst (λ v. Goes image params choices v 0) same (goes_nowhere image params choices 0)
goes image params choices t (suc u) few small le = elim (cases_eq t (suc u)) [
  | inl same ↦ subst (λ v. Goes image params choices v (suc u)) (sym same) (goes_nowhere image params choices (suc u))
  | inr other ↦ goes_on image params choices t u few small (goes image params choices t u few small
      (omega (arith, le, other)))
]

-- ---- when instructions retire

-- a limit in its range fits a word
pub small_limit : (params : Params) → Fits params → params.limit < 2 ^ 32
small_limit params fits = omega (arith, fits.limit)

pub next_retires : NextRetiresLaw
next_retires image params choices t at fits has =
    let next = (run_tells image params choices t fits.cores (small_limit params fits)).next at has in
    (next.core, next.count)

pub stays_retired : StaysRetiredLaw
stays_retired image params choices t u at fits lt has =
    let reached = (run_tells image params choices t fits.cores (small_limit params fits)).reached at has in
    let more = (goes image params choices (suc t) u fits.cores (small_limit params fits) (omega (arith, lt))).more
    at.core in
    omega (arith, reached, more)

-- no instruction retires again
not_again : (image : Contents) (params : Params) (choices : ℕ → ℕ) (t u : ℕ) (at : Instr) → Fits params → t < u
    → RetiresAt image params choices t at → RetiresAt image params choices u at → ⊥
not_again image params choices t u at fits lt one other =
    let before = stays_retired image params choices t u at fits lt one in
    let next = next_retires image params choices u at fits other in
    omega (arith, before, next.1)

pub retires_once : RetiresOnceLaw
retires_once image params choices t u at fits one other = elim (cases_lt t u) [
  | inl lt ↦ absurd (not_again image params choices t u at fits lt one other)
  | inr ge ↦ elim (cases_lt u t) [
    | inl lt ↦ absurd (not_again image params choices u t at fits lt other one)
    | inr le ↦ omega (arith, ge, le)
  ]
]

pub earlier_law : EarlierLaw
earlier_law image params choices t u x y fits lt one other v before has =
    let same : v ≡ u = retires_once image params choices v u y fits has other in
    stays_retired image params choices t v x fits (omega (arith, lt, same)) one
