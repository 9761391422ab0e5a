use Rattle.std.proofs.Common.{◌∙◌, ap, List, Option, ℕ}
use Rattle.std.specs.Option.{is_some}
use Rattle.clock_core.specs.declared.clock.Clock.{Clock}
use Rattle.access_times.specs.Times.{read_in}
use Rattle.access_times.proofs.KeptReads.{reader_of}
use Rattle.access_times.proofs.reads.Reads.readers.Goals as goal

pub returns : goal.returns
returns c core lt =
    reader_of c.self.inside.readers c.self.inside.places core lt
    ∙ ap (λ (reads : List (Option (ℕ × Clock))). is_some (read_in reads core)) c.self.view_is
