-- What an event tells of, by how many instructions each core has retired before and after it.
use Rattle.std.proofs.Common.{◌≡◌, ◌≢◌, ◌∙◌, sym, ap, subst, ℕ, suc, ◌+◌, ◌<◌, ◌≤◌, ◌^◌, List, length, Option, Some}
use Rattle.std.proofs.Common.{None, arith, inl, inr}
use Rattle.std.proofs.lemmas.Bool.{cases_eq}
use Rattle.std.proofs.lemmas.List.{get_or-set_same, get_or-set_other}
use Rattle.image_mem.specs.Contents.{Contents}
use Rattle.rtr_types.specs.declared.TheConstants.{CORES_MAX}
use Rattle.rtr_types.specs.declared.access.Kind.{Kind}
use Rattle.rtr_types.specs.declared.instr.Instr.{Instr}
use Rattle.rtr_types.specs.declared.params.Params.{Params}
use Rattle.rv_core.specs.States.{starting}
use Rattle.rv_core.specs.Steps.{after}
use Rattle.rv_core.specs.declared.core_state.Core.{Core}
use Rattle.rv_core.proofs.LawLemmas.{count_law}
use Rattle.msi_state.specs.Events.{Event, Nothing, Retires, Accesses, instr_of}
use Rattle.msi_state.specs.Runs.{event_at}
use Rattle.msi_state.specs.States.{core_at}
use Rattle.machine_bound.proofs.RunEnds.{run_cores}
use Rattle.run_outcome.specs.Retirement.{retired_count}
use Rattle.run_outcome.proofs.RunCores.{cores_at, event_cores}
use Rattle.run_outcome.proofs.CoreMoves.{CoresAfter, Retiring}

-- how many instructions a core of a list has retired
abbrev pub core_counts : List Core → ℕ → ℕ
core_counts cores c = (core_at cores c).count

-- the core of `at` has retired one more, and no other has
module _ (image : Contents) (old new : List Core) (at : Instr) (used : Option (Kind × ℕ)) (found : ℕ)
    (h : Retiring image old at used found new) where
  pub own_count : core_counts new at.core ≡ core_counts old at.core + 1
  own_count =
      ap (λ (l : List Core). core_counts l at.core) h.cores
      ∙ ap (λ (k : Core). k.count) (get_or-set_same old at.core (after image (core_at old at.core) found) (starting 0 0)
      h.within)
      ∙ count_law image (core_at old at.core) found

  pub other_counts : (c : ℕ) → c ≢ at.core → core_counts new c ≡ core_counts old c
  other_counts c other =
      ap (λ (l : List Core). core_counts l c) h.cores
      ∙ ap (λ (k : Core). k.count) (get_or-set_other old at.core c (after image (core_at old at.core) found)
      (starting 0 0) other)

  more_counts : (c : ℕ) → core_counts old c ≤ core_counts new c
  more_counts c = elim (cases_eq c at.core) [
    | inl same ↦
        let own = own_count in let old_is = ap (core_counts old) same in let new_is = ap (core_counts new) same in
        omega (arith, own, old_is, new_is)
    | inr other ↦ let kept = other_counts c other in omega (arith, kept)
  ]

-- the instruction is its core's next one by these counts
pub record IsNextOf (cores : ℕ) (f : ℕ → ℕ) (at : Instr) : Type 0 where
  pub core : at.core < cores
  pub count : at.count ≡ f at.core + 1

-- an event that retires this instruction, or none, by the counts before and after it
pub record Tells (cores : ℕ) (f g : ℕ → ℕ) (retired : Option Instr) : Type 0 where
  pub more : (c : ℕ) → f c ≤ g c
  pub next : (at : Instr) → retired ≡ Some at → IsNextOf cores f at
  pub reached : (at : Instr) → retired ≡ Some at → at.count ≡ g at.core

same_instr : (x y : Instr) → ◌≡◌ {A = Option Instr} (Some x) (Some y) → x ≡ y
same_instr x y is = grind arith

retiring_tells : (image : Contents) (cores : ℕ) (old new : List Core) (at : Instr) (used : Option (Kind × ℕ))
    (found : ℕ)
    → length old ≡ cores → Retiring image old at used found new
    → Tells cores (core_counts old) (core_counts new) (Some at)
retiring_tells image cores old new at used found long h = record {
  more = more_counts image old new at used found h;
  next = λ x is. subst (IsNextOf cores (core_counts old)) (same_instr at x is)
      (record { core = subst (λ n. at.core < n) long h.within; count = h.count });
  reached = λ x is. subst (λ (y : Instr). y.count ≡ core_counts new y.core) (same_instr at x is)
      (h.count ∙ sym (own_count image old new at used found h));
}

tells : (image : Contents) (cores : ℕ) (old new : List Core) (e : Event) → length old ≡ cores →
    CoresAfter image old e new
    → Tells cores (core_counts old) (core_counts new) (instr_of e)
tells image cores old new Nothing long h = record {
  more = λ c. let same = ap (λ (l : List Core). core_counts l c) h in omega (arith, same);
  next = λ at is. absurd cc;
  reached = λ at is. absurd cc;
}
tells image cores old new (Retires at) long h = retiring_tells image cores old new at None 0 long h
tells image cores old new (Accesses a) long h =
    retiring_tells image cores old new a.at (Some (a.kind, a.word)) a.before long h.retires

-- ---- a run

pub run_tells : (image : Contents) (params : Params) (choices : ℕ → ℕ) (t : ℕ) → params.cores ≤ CORES_MAX
    → params.limit < 2 ^ 32
    → Tells params.cores (retired_count image params choices t) (retired_count image params choices (suc t))
    (instr_of (event_at image params choices t))
run_tells image params choices t few small =
    tells image params.cores (cores_at image params choices t) (cores_at image params choices (suc t))
    (event_at image params choices t)
    (run_cores image params choices t) (event_cores image params choices t few small)
