-- What a type of riders and one of carries compute, each as one value that definitions can take.
use Rattle.rtr_types.specs.declared.instr.Instr.{Instr}

-- a rider that holds nothing, and the first rider once it has absorbed the second
pub record Riding (R : Type 0) : Type 0 where
  pub fresh : R
  pub absorbed : R → R → R

-- the riders that hold nothing: what is left of any riders where they are forgotten
abbrev pub none_riding : Riding (Unit {0})
none_riding = record { fresh = tt; absorbed = λ a b. tt }

-- a carry that holds nothing, two carries joined, and one after a retirement
pub record Carrying (K : Type 0) : Type 0 where
  pub none : K
  pub joined : K → K → K
  pub retired : K → Instr → K

-- the carries that hold nothing
abbrev pub none_carrying : Carrying (Unit {0})
none_carrying = record { none = tt; joined = λ a b. tt; retired = λ a b. tt }
