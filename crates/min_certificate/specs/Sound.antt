-- Edges that conflict and are needed.
use Rattle.std.specs.Prelude.{List}
use Rattle.rtr_types.specs.declared.instr.Instr.{Instr}
use Rattle.rtr_types.specs.declared.access.Access.{Access}
use Rattle.certificate_codec.specs.declared.certificate.Certificate.{Certificate}
use Rattle.min_certificate.specs.Conflicting.{BothConflict}
use Rattle.min_certificate.specs.Places.{IsNeededIn}

-- the accesses at the ends conflict, and the edge is needed
pub record IsSound (c : Certificate) (list : List Access) (x y : Instr) : Type 0 where
  pub conflict : BothConflict list x y
  pub needed : IsNeededIn c x y
