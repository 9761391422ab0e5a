use Rattle.std.proofs.Common.{◌∙◌, ap, sym}
use Rattle.msi_directory.specs.Blocks.{opening_entry}
use Rattle.msi_directory.specs.Kept.{copy_of, home_of}
use Rattle.msi_directory.specs.Table.{owner_of}
use Rattle.msi_directory.specs.declared.entry.Stage.TheVariants.{Unshared}
use Rattle.msi_directory.proofs.Rows.{opens_within, reads_nowhere, reads_there}
use Rattle.msi_directory.proofs.home.Home.words.Goals as goal

pub returns-in-Some-clause-words : goal.returns-in-Some-clause-words
returns-in-Some-clause-words g c =
    let opens = opening_entry c.self.inside.fresh c.self.inside.opening c.args.block in
    rw (
      reads_there (home_of c.self.inside.opening c.self.inside.fresh c.self.inside.kept) _ c.self.view_is
          g.R.Rider.riding.fresh c.args.block c.requires c.in-Some.place (sym c.place.ensures.place ∙ c.in-Some.is),
      c.copy.ensures (copy_of opens),
    )

pub returns-in-Some-clause-owner : goal.returns-in-Some-clause-owner
returns-in-Some-clause-owner g c =
    rw (reads_there (home_of c.self.inside.opening c.self.inside.fresh c.self.inside.kept) _ c.self.view_is
    g.R.Rider.riding.fresh c.args.block c.requires c.in-Some.place (sym c.place.ensures.place ∙ c.in-Some.is))
    (c.owner-owner.ensures ∙ ap owner_of (c.stage.ensures Unshared))

pub opening_entry-requires : goal.opening_entry-requires
opening_entry-requires g c =
    opens_within (home_of c.self.inside.opening c.self.inside.fresh c.self.inside.kept) _ c.self.view_is
    g.R.Rider.riding.fresh c.args.block c.requires c.self.invariant

pub returns-in-None-clause-words : goal.returns-in-None-clause-words
returns-in-None-clause-words g c =
    rw (reads_nowhere (home_of c.self.inside.opening c.self.inside.fresh c.self.inside.kept) _ c.self.view_is
    g.R.Rider.riding.fresh c.args.block c.requires (sym c.place.ensures.place ∙ c.in-None.is))
    (ap (λ e. e.words) c.opening_entry.ensures)

pub returns-in-None-clause-owner : goal.returns-in-None-clause-owner
returns-in-None-clause-owner g c =
    rw (reads_nowhere (home_of c.self.inside.opening c.self.inside.fresh c.self.inside.kept) _ c.self.view_is
    g.R.Rider.riding.fresh c.args.block c.requires (sym c.place.ensures.place ∙ c.in-None.is))
