use Rattle.std.proofs.Common.{◌∙◌}
use Rattle.msi_directory.specs.Kept.{home_of}
use Rattle.msi_directory.proofs.Openings.{rounded_up}
use Rattle.msi_directory.proofs.Sparse.{entries_counted}
use Rattle.msi_directory.proofs.home.Home.blocks.Goals as goal

pub returns : goal.returns
returns g c =
    let home = home_of c.self.inside.opening c.self.inside.fresh c.self.inside.kept in
    let count = rw (c.words.ensures.value) at c.div_ceil.ensures in
    rw (← c.self.view_is, entries_counted home) (count ∙ rounded_up c.self.inside.opening.words)
