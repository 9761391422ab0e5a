-- A block that the home keeps has its room already; otherwise it gets an entry, which reads as the opening one did, and
-- no other block's entry or room changes.
use Rattle.std.proofs.Common.{◌∙◌, add-zero, ap, is_some, sym}
use Rattle.msi_directory.specs.Table.{is_free}
use Rattle.msi_directory.specs.Kept.{blocks_in, home_of}
use Rattle.msi_directory.specs.declared.entry.Stage.TheVariants.{Unshared}
use Rattle.msi_directory.proofs.Rows.{opens_within, reads_nowhere, reads_there}
use Rattle.msi_directory.proofs.Sparse.{blocks_more, fits_more, more_touched, room_more, room_reads, same_rooms}
use Rattle.msi_directory.proofs.home.Home.make_room.Goals as goal

pub returns-in-Some-clause-ok : goal.returns-in-Some-clause-ok
returns-in-Some-clause-ok g c =
    let home = home_of c.self.inside.opening c.self.inside.fresh c.self.inside.kept in
    let within = rw (← c.self.view_is) at c.requires in
    let roomy = room_reads home c.args.block within ∙ ap is_some (sym c.place.ensures.place ∙ c.in-Some.is) in
    rw (← c.self.view_is) (same_rooms (blocks_in home) c.args.block roomy)

pub returns-in-Some-clause-room : goal.returns-in-Some-clause-room
returns-in-Some-clause-room g c =
    let home = home_of c.self.inside.opening c.self.inside.fresh c.self.inside.kept in
    let within = rw (← c.self.view_is) at c.requires in
    rw (← c.self.view_is) (room_reads home c.args.block within ∙ ap is_some (sym c.place.ensures.place ∙ c.in-Some.is))

pub returns-in-Some-clause-touched : goal.returns-in-Some-clause-touched
returns-in-Some-clause-touched g c =
    let home = home_of c.self.inside.opening c.self.inside.fresh c.self.inside.kept in
    let within = rw (← c.self.view_is) at c.requires in
    let roomy = room_reads home c.args.block within ∙ ap is_some (sym c.place.ensures.place ∙ c.in-Some.is) in
    rw (← c.self.view_is, roomy) (sym (add-zero _))

pub open-requires-clause-within : goal.open-requires-clause-within
open-requires-clause-within g c =
    opens_within (home_of c.self.inside.opening c.self.inside.fresh c.self.inside.kept) _ c.self.view_is
    g.R.Rider.riding.fresh c.args.block c.requires c.self.invariant

pub invariant_of-self-2 : goal.invariant_of-self-2
invariant_of-self-2 g c =
    let home = home_of c.self.inside.opening c.self.inside.fresh c.self.inside.kept in
    let within = rw (← c.self.view_is) at c.requires in
    let none = sym c.place.ensures.place ∙ c.in_default.is in
    rw c.in_ok-open.ensures.ok (fits_more home c.args.block none c.place.ensures.even within c.self.invariant)

pub returns-clause-ok : goal.returns-clause-ok
returns-clause-ok g c =
    let home = home_of c.self.inside.opening c.self.inside.fresh c.self.inside.kept in
    let none = sym c.place.ensures.place ∙ c.in_default.is in
    rw (c.in_ok-open.ensures.ok, ← c.self.view_is) (blocks_more home c.args.block none c.place.ensures.even)

pub returns-clause-room : goal.returns-clause-room
returns-clause-room g c =
    let within = rw (← c.self.view_is) at c.requires in
    rw c.in_ok-open.ensures.ok (room_more (home_of c.self.inside.opening c.self.inside.fresh c.self.inside.kept)
    c.args.block (sym c.place.ensures.place ∙ c.in_default.is) c.place.ensures.even within)

pub returns-clause-touched : goal.returns-clause-touched
returns-clause-touched g c =
    let within = rw (← c.self.view_is) at c.requires in
    rw (c.in_ok-open.ensures.ok, ← c.self.view_is) (more_touched
    (home_of c.self.inside.opening c.self.inside.fresh c.self.inside.kept) c.args.block
    (sym c.place.ensures.place ∙ c.in_default.is) c.place.ensures.even within)

pub returns-in-Some-clause-free : goal.returns-in-Some-clause-free
returns-in-Some-clause-free g c =
    c.is_free.ensures
    ∙ rw (reads_there (home_of c.self.inside.opening c.self.inside.fresh c.self.inside.kept) _ c.self.view_is
    g.R.Rider.riding.fresh c.args.block c.requires c.in-Some.place (sym c.place.ensures.place ∙ c.in-Some.is))
    (ap is_free (c.stage.ensures Unshared))

pub returns-clause-free : goal.returns-clause-free
returns-clause-free g c =
    rw (reads_nowhere (home_of c.self.inside.opening c.self.inside.fresh c.self.inside.kept) _ c.self.view_is
    g.R.Rider.riding.fresh c.args.block c.requires (sym c.place.ensures.place ∙ c.in_default.is))
