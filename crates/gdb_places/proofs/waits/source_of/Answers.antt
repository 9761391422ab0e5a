use Rattle.race_log.specs.Sources.{log_edges}
use Rattle.gdb_places.proofs.WaitLemmas.{looked_up}
use Rattle.gdb_places.proofs.waits.source_of.Goals as goal

pub returns : goal.returns
returns c =
    looked_up (log_edges c.args.which c.args.recording.now) c.args.core c.args.at c.source.result
    c.source.ensures.found c.source.ensures.only
