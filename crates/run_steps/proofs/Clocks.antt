-- A reduction that is told of an instruction keeps the clocks of the other cores.
use Rattle.std.proofs.Common.{◌≡◌, ◌≢◌, ◌∙◌, ap, ℕ}
use Rattle.access_times.specs.declared.times.Times.{Times}
use Rattle.rtr_types.specs.declared.access.Access.{Access}
use Rattle.rtr_types.specs.declared.instr.Instr.{Instr}
use Rattle.online_reduce.proofs.ExactNext.{other_clocks_law}
use Rattle.online_reduce.specs.Reduced.{Reduced, clock_of, counted, retired}

-- of one without an access
pub local_kept : (r s : Reduced) (at : Instr) → s ≡ counted r at → (core : ℕ) → core ≢ at.core →
    clock_of s core ≡ clock_of r core
local_kept r s at is core other = ap (λ (u : Reduced). clock_of u core) is ∙ (other_clocks_law r core).0 at other

-- and of one with an access, whose block was found with these times
pub touch_kept : (r s : Reduced) (a : Access) (found : Times) → s ≡ retired r a found → (core : ℕ) →
    core ≢ a.at.core → clock_of s core ≡ clock_of r core
touch_kept r s a found is core other =
    ap (λ (u : Reduced). clock_of u core) is ∙ (other_clocks_law r core).1 a found other
