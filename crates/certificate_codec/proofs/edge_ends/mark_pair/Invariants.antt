use Rattle.std.proofs.Common.{◌≡◌, ◌+◌, ◌<◌, ◌||◌, ℕ, take, length, get_or, false}
use Rattle.std.specs.Prelude.{map}
use Rattle.race_log.specs.Sources.{edge_between}
use Rattle.clock_entries.specs.Ends.{instr, is_end}
use Rattle.certificate_codec.proofs.edge_ends.mark_pair.Given as goal

abbrev pub invariant-loop-source : goal.invariant-loop-source
invariant-loop-source l = (n : ℕ) → n < length l.fn.marks → get_or l.marks n false
    ≡ is_end (map (edge_between l.from l.to) (take l.source-index l.counts)) (instr l.core (n + 1))
    || get_or l.fn.marks n false
