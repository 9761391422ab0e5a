use Rattle.msi_directory.proofs.entry.HomeAnswer+unit.riding.Goals as goal
use Rattle.msi_directory.proofs.entry.HomeAnswer+unit.riding.Goals.{in-Some, in-None}

pub returns : goal.returns
returns g c =
    elim c.match-self.branch [
      | in-Some w ↦ rw (w.send-is, w.in-Some.is, w.riding.ensures)
      | in-None w ↦ rw (w.send-is, w.in-None.is)
    ]
