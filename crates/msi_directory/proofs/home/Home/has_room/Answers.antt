use Rattle.std.proofs.Common.{◌∙◌, ap, is_some}
use Rattle.msi_directory.specs.Kept.{home_of}
use Rattle.msi_directory.proofs.Sparse.{room_reads}
use Rattle.msi_directory.proofs.home.Home.has_room.Goals as goal

pub returns : goal.returns
returns g c =
    let home = home_of c.self.inside.opening c.self.inside.fresh c.self.inside.kept in
    let within = rw (← c.self.view_is) at c.requires in
    rw (← c.self.view_is, room_reads home c.args.block within) (c.is_some.ensures ∙ ap is_some c.place.ensures.place)
