use Rattle.std.proofs.Common.{inl, inr}
use Rattle.clock_core.specs.Order.{Among}
use Rattle.clock_core.proofs.Paths.{joined, mapped, one}
use Rattle.clock_core.proofs.laws.before_law.Goals as goal

pub returns-clause-program : goal.returns-clause-program
returns-clause-program c = λ edges x y p. one (Among edges) x y (inl p)

pub returns-clause-edges : goal.returns-clause-edges
returns-clause-edges c = λ edges x y e. one (Among edges) x y (inr e)

pub returns-clause-joined : goal.returns-clause-joined
returns-clause-joined c = λ edges. joined (Among edges)

pub returns-clause-grows : goal.returns-clause-grows
returns-clause-grows c = λ edges others. mapped (Among edges) (Among others)
