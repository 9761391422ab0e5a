-- A retirement keeps the reduction.
use Rattle.std.proofs.Common.{◌≡◌, ◌≢◌, ◌∙◌, sym, ap, subst, ℕ, ◌+◌, ◌<◌, ◌==◌, Bool, true, false, List, [], ◌∷◌, ◌++◌}
use Rattle.std.proofs.Common.{append-nil, Some, None}
use Rattle.std.proofs.Common.{inl, inr, ◌⊎◌, arith}
use Rattle.std.specs.Prelude.{reverse, if◌then◌else◌}
use Rattle.std.proofs.lemmas.Bool.{cases_eq}
use Rattle.std.proofs.lemmas.Bool.Decides.{nat_tests}
use Rattle.std.proofs.lemmas.List.{reverse-append}
use Rattle.access_times.specs.declared.times.Times.{Times}
use Rattle.clock_core.specs.declared.clock.Clock.{Clock}
use Rattle.rtr_types.specs.declared.access.Access.{Access}
use Rattle.rtr_types.specs.declared.instr.Edge.{Edge}
use Rattle.rtr_types.specs.declared.instr.Instr.{Instr}
use Rattle.machine_times.specs.ExactTimes.{retired_accesses}
use Rattle.machine_times.specs.Retirements.{Retirement, retired_by}
use Rattle.online_reduce.proofs.Reductions.{count_law}
use Rattle.online_reduce.specs.Exact.{AreExactFor}
use Rattle.online_reduce.specs.Reduced.{IsNext, Reduced, clock_of, count_of, counted, edges_of, retired}
use Rattle.exact_reduction.proofs.RetirementReduction.{Counted, access_counted, access_reduces}
use Rattle.exact_reduction.proofs.RetirementReduction.{accesses_more, clocks_more}
use Rattle.exact_reduction.proofs.RetirementReduction.{local_counted}
use Rattle.exact_reduction.specs.Reducing.{ReducesExactly}
use Rattle.run_records.specs.Standing.{Reduces}

-- ---- the counts

counts_more : (list : List Retirement) (q : Retirement) (r next : Reduced) → IsNext r q.at → Counted r q.at next →
    ((core : ℕ) → core < r.cores → count_of r core ≡ retired_by (reverse list) core) →
    (core : ℕ) → core < next.cores → count_of next core ≡ retired_by (reverse (list ++ q ∷ [])) core
counts_more list q r next is_next counted counts core lt =
    subst (λ (h : List Retirement). count_of next core ≡ retired_by h core) (sym (reverse-append list (q ∷ [])))
    (by (cases_eq core q.at.core))
  where
    by : (core ≡ q.at.core) ⊎ (core ≢ q.at.core) → count_of next core ≡ retired_by (q ∷ reverse list) core
    by (inl same) =
        let test : (q.at.core == core) ≡ true = grind (arith, nat_tests) in
        ap (count_of next) same ∙ counted.own ∙ is_next.count
        ∙ ap (λ (n : ℕ). n + 1) (counts q.at.core is_next.core ∙ ap (retired_by (reverse list)) (sym same))
        ∙ ap (λ (t : Bool). if t then retired_by (reverse list) core + 1 else retired_by (reverse list) core) (sym test)
    by (inr differ) =
        let test : (q.at.core == core) ≡ false = grind (arith, nat_tests) in
        counted.others core differ ∙ counts core (rw counted.cores at lt)
        ∙ ap (λ (t : Bool). if t then retired_by (reverse list) core + 1 else retired_by (reverse list) core) (sym test)

-- ---- the two retirements

-- an instruction without an access retired
pub reduces_local : (list : List Retirement) (all : List Access) (r : Reduced) (edges : List Edge) (at : Instr)
    (clock : Clock) → IsNext r at →
    Reduces list all r edges →
    Reduces (list ++ (record { at = at; access = None; clock = clock }) ∷ []) all (counted r at) edges
reduces_local list all r edges at clock next h =
    let q : Retirement = record { at = at; access = None; clock = clock } in
    record {
      accesses_are = accesses_more list q ∙ append-nil (retired_accesses list) ∙ h.accesses_are;
      exact = clocks_more all list q h.exact tt;
      counts = counts_more list q r (counted r at) next (local_counted all r at h.reduction.exact next) h.counts;
      reduction = count_law all r edges at next h.reduction;
    }

-- an instruction with an access retired
pub reduces_access : (list : List Retirement) (all : List Access) (r : Reduced) (edges : List Edge) (a : Access)
    (rider : Times) → IsNext r a.at →
    AreExactFor all a rider → Reduces list all r edges →
    Reduces (list ++ (record { at = a.at; access = Some a; clock = clock_of (retired r a rider) a.at.core }) ∷ [])
    (all ++ a ∷ []) (retired r a rider)
    (edges ++ edges_of r a rider)
reduces_access list all r edges a rider next times h =
    let q : Retirement = record { at = a.at; access = Some a; clock = clock_of (retired r a rider) a.at.core } in
    let kept : ReducesExactly (list ++ q ∷ []) (all ++ a ∷ []) (retired r a rider) (edges ++ edges_of r a rider) =
    access_reduces list all r edges a rider next times (record {
      accesses_are = h.accesses_are;
      exact =
          h.exact;
      reduction = h.reduction;
    }) in
    record {
      accesses_are = kept.accesses_are;
      exact = kept.exact;
      counts = counts_more list q r (retired r a rider) next (access_counted all r a rider h.reduction.exact next times)
          h.counts;
      reduction = kept.reduction;
    }
