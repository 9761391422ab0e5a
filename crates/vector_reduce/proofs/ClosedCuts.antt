-- Closed cuts.
use Rattle.std.proofs.Common.{◌≡◌, ℕ, zero, suc, inl, inr, List, ap, arith}
use Rattle.rtr_types.specs.declared.instr.Instr.{Instr}
use Rattle.rtr_types.specs.declared.instr.Edge.{Edge}
use Rattle.clock_core.specs.Order.{Among, Path, Step}
use Rattle.vector_reduce.specs.Cuts.{Holds, IsClosed, ClosedHoldsLaw, CutShowsLaw}

step_holds : (edges : List Edge) (cut : ℕ → ℕ) → IsClosed edges cut → (x y : Instr) → Step (Among edges) x y →
    Holds cut y → Holds cut x
step_holds edges cut closed x y (inl s) h = let same : cut x.core ≡ cut y.core = ap cut s.0 in omega (arith, h, s.1)
step_holds edges cut closed x y (inr s) h = closed x y s h

path_holds : (edges : List Edge) (cut : ℕ → ℕ) → IsClosed edges cut → (n : ℕ) (x y : Instr) → Path (Among edges) n x y →
    Holds cut y → Holds cut x
path_holds edges cut closed zero x y s h = step_holds edges cut closed x y s h
path_holds edges cut closed (suc n) x y p h =
    step_holds edges cut closed x p.0 p.1 (path_holds edges cut closed n p.0 y p.2 h)

pub closed_holds : ClosedHoldsLaw
closed_holds edges cut x y closed h p = path_holds edges cut closed p.0 x y p.1 h

pub cut_shows : CutShowsLaw
cut_shows edges cut x y closed h out p = out (closed_holds edges cut x y closed h p)
