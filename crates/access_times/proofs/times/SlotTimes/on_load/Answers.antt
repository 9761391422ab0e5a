use Rattle.std.proofs.Common.{◌∙◌, ap, List, Option, ℕ}
use Rattle.clock_core.specs.declared.clock.Clock.{Clock}
use Rattle.access_times.specs.declared.times.SlotTimes.{SlotTimes}
use Rattle.access_times.proofs.FilledTimes.{read_set}
use Rattle.access_times.proofs.times.SlotTimes.on_load.Goals as goal

pub returns : goal.returns
returns c =
    ap (λ (r : List (Option (ℕ × Clock))).
    (let s : SlotTimes = record { write = c.args.self.now.write; reads = r } in s)) c.set.ensures.reads
    ∙ read_set c.args.self.now c.args.at c.args.clock c.set.ensures.places c.requires
