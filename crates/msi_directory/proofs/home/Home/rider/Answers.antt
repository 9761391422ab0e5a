use Rattle.std.proofs.Common.{◌∙◌, sym}
use Rattle.msi_directory.specs.Blocks.{opening_entry}
use Rattle.msi_directory.specs.Kept.{copy_of, home_of}
use Rattle.msi_directory.proofs.Rows.{reads_nowhere, reads_there}
use Rattle.msi_directory.proofs.home.Home.rider.Goals as goal

pub returns-in-Some : goal.returns-in-Some
returns-in-Some g c =
    let opens = opening_entry c.self.inside.fresh c.self.inside.opening c.args.block in
    rw (
      reads_there (home_of c.self.inside.opening c.self.inside.fresh c.self.inside.kept) _ c.self.view_is
          g.R.Rider.riding.fresh c.args.block c.requires c.in-Some.place (sym c.place.ensures.place ∙ c.in-Some.is),
      ← c.copy.ensures (copy_of opens),
    ) c.get.ensures

pub returns-in-None : goal.returns-in-None
returns-in-None g c =
    rw (reads_nowhere (home_of c.self.inside.opening c.self.inside.fresh c.self.inside.kept) _ c.self.view_is
    g.R.Rider.riding.fresh c.args.block c.requires (sym c.place.ensures.place ∙ c.in-None.is))
