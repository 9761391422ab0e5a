-- What the accesses of a run are.
use Rattle.std.proofs.Common.{◌≡◌, refl, ap, ℕ, zero, suc, ◌<◌, ◌≤◌, ◌^◌, List, [], ◌∷◌, ◌++◌, Some, arith, inl, inr}
use Rattle.image_mem.specs.Contents.{Contents}
use Rattle.rtr_types.specs.declared.TheConstants.{CORES_MAX}
use Rattle.rtr_types.specs.declared.access.Access.{Access}
use Rattle.rtr_types.specs.declared.params.Params.{Params}
use Rattle.conflict_edge.specs.Conflicts.{CountsRise, StandsIn}
use Rattle.conflict_edge.proofs.AccessPlaces.{stands_which}
use Rattle.machine_data.proofs.Remembers.{each_within}
use Rattle.msi_state.specs.Events.{Event, Nothing, Retires, Accesses, instr_of}
use Rattle.msi_state.specs.Runs.{accesses, accesses_in, event_at}
use Rattle.run_outcome.specs.Retirement.{AccessesLaw, retired_count}
use Rattle.run_outcome.proofs.RetiredCounts.{IsNextOf, Tells, run_tells}

-- an event retires its access's instruction
pub accessed : (e : Event) (a : Access) → StandsIn (accesses_in e) a → instr_of e ≡ Some a.at
accessed Nothing a stands = absurd stands
accessed (Retires at) a stands = absurd stands
accessed (Accesses b) a (inl same) = ap (λ (x : Access). Some x.at) same
accessed (Accesses b) a (inr never) = absurd never

-- the accesses so far have rising counts, are of the run's cores, and have retired
pub record AreRetired (cores : ℕ) (f : ℕ → ℕ) (list : List Access) : Type 0 where
  pub rise : CountsRise list
  pub cores_are : (a : Access) → StandsIn list a → a.at.core < cores
  pub retired : (a : Access) → StandsIn list a → a.at.count ≤ f a.at.core

rise_more : (xs ys : List Access) → CountsRise xs → CountsRise ys
    → ((a b : Access) → StandsIn xs a → StandsIn ys b → a.at.core ≡ b.at.core → a.at.count < b.at.count)
    → CountsRise (xs ++ ys)
rise_more [] ys front back apart = back
rise_more (x ∷ xs) ys front back apart = (
  front.0,
  λ b stands same. elim (stands_which xs ys b stands) [
    | inl there ↦ front.1 b there same
    | inr there ↦ apart x b (inl refl) there same
  ],
  rise_more xs ys front.2 back (λ a b one other. apart a b (inr one) other),
)

one_rises : (cores : ℕ) (f : ℕ → ℕ) (e : Event) → ((a : Access) → StandsIn (accesses_in e) a → IsNextOf cores f a.at)
    → CountsRise (accesses_in e)
one_rises cores f Nothing next = tt
one_rises cores f (Retires at) next = tt
one_rises cores f (Accesses a) next =
    (let now = (next a (inl refl)).count in omega (arith, now), λ b stands same. absurd stands, tt)

retired_more : (cores : ℕ) (f g : ℕ → ℕ) (list : List Access) (e : Event) → Tells cores f g (instr_of e)
    → AreRetired cores f list → AreRetired cores g (list ++ accesses_in e)
retired_more cores f g list e told h = record {
  rise = rise_more list (accesses_in e) h.rise (one_rises cores f e next)
      (λ a b one other same.
      let now = (next b other).count in let before = h.retired a one in let at = ap f same in
      omega (arith, now, before, at));
  cores_are = λ a stands. elim (stands_which list (accesses_in e) a stands) [
    | inl there ↦ h.cores_are a there
    | inr there ↦ (next a there).core
  ];
  retired = λ a stands. elim (stands_which list (accesses_in e) a stands) [
    | inl there ↦ let before = h.retired a there in let up = told.more a.at.core in omega (arith, before, up)
    | inr there ↦ let now = told.reached a.at (accessed e a there) in omega (arith, now)
  ];
}
  where
    next : (a : Access) → StandsIn (accesses_in e) a → IsNextOf cores f a.at
    next a stands = told.next a.at (accessed e a stands)

pub run_retired : (image : Contents) (params : Params) (choices : ℕ → ℕ) (t : ℕ) → params.cores ≤ CORES_MAX
    → params.limit < 2 ^ 32
    → AreRetired params.cores (retired_count image params choices t) (accesses image params choices t)
run_retired image params choices zero few small = record {
  rise = tt;
  cores_are = λ a stands. absurd stands;
  retired = λ a stands. absurd stands;
}
run_retired image params choices (suc t) few small =
    retired_more params.cores (retired_count image params choices t) (retired_count image params choices (suc t))
    (accesses image params choices t) (event_at image params choices t) (run_tells image params choices t few small)
    (run_retired image params choices t few small)

pub accesses_law : AccessesLaw
accesses_law image params choices t fits =
    let small : params.limit < 2 ^ 32 = omega (arith, fits.limit) in
    let h = run_retired image params choices t fits.cores small in
    record {
      rise = h.rise;
      cores_are = h.cores_are;
      words_are = each_within image params choices t fits.cores small;
      retired_are = h.retired;
    }
