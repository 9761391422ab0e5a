-- What holds once a retirement with an access has left its state.
use Rattle.std.proofs.Common.{◌≡◌, List, [], ◌∷◌, ◌++◌, sym, subst}
use Rattle.rtr_types.specs.declared.instr.Edge.{Edge}
use Rattle.rtr_types.specs.declared.access.Access.{Access}
use Rattle.access_times.specs.declared.times.Times.{Times}
use Rattle.conflict_edge.specs.Times.{IsExactClock}
use Rattle.online_reduce.specs.Reduced.{Reduced, IsNext, clock_of, retired, edges_of}
use Rattle.online_reduce.specs.Exact.{AddsAccess, AreCoveringInto, AreExactFor, IsExact, IsReduction}
use Rattle.online_reduce.proofs.ExactNext.{noted_exact, retired_exact}
use Rattle.online_reduce.proofs.Reductions.{retire_law}
use Rattle.online_reduce.proofs.Step.{next_of, covering_into}

pub covering_after : (r : Reduced) (a : Access) (t : Times) (given : List Edge) → given ≡ edges_of r a t
    → IsNext r a.at → (list : List Access) →
    IsExact list r → AreExactFor list a t → AreCoveringInto (list ++ a ∷ []) a.at given
covering_after r a t given is next list exact times =
    subst (λ (es : List Edge). AreCoveringInto (list ++ a ∷ []) a.at es) (sym is)
    (covering_into list r a t (next_of list r a t exact next times))

pub adds_access : (r new : Reduced) (a : Access) (t : Times) (given : List Edge) → new ≡ retired r a t →
    given ≡ edges_of r a t → IsNext r a.at → AddsAccess r a t given new
adds_access r new a t given is edges_are next =
    record {
      clock = λ list exact times.
          subst (λ (s : Reduced). IsExactClock (list ++ a ∷ []) a.at (clock_of s a.at.core)) (sym is)
          (noted_exact list r a t (next_of list r a t exact next times));
      covering = covering_after r a t given edges_are next;
      exact = λ list exact times.
          subst (λ (s : Reduced). IsExact (list ++ a ∷ []) s) (sym is)
          (retired_exact list r a t (next_of list r a t exact next times));
      reduction = λ list before kept times.
          subst (λ (s : Reduced). IsReduction (list ++ a ∷ []) s (before ++ given)) (sym is)
          (subst (λ (es : List Edge). IsReduction (list ++ a ∷ []) (retired r a t) (before ++ es)) (sym edges_are)
          (retire_law list r before a t next times kept));
    }
