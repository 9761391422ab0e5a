use Rattle.std.proofs.Common.{arith}
use Rattle.msi_directory.specs.Kept.{home_of}
use Rattle.msi_directory.proofs.Sparse.{few_kept}
use Rattle.msi_directory.proofs.home.Home.touched.Goals as goal

pub overflow_cast-result : goal.overflow_cast-result
overflow_cast-result g c =
    let home = home_of c.self.inside.opening c.self.inside.fresh c.self.inside.kept in
    let few = few_kept home c.self.invariant in
    omega arith
