use Rattle.std.proofs.Common.{◌∙◌, sym, ap, List, Option, Some, ℕ, length, slice_set}
use Rattle.clock_core.specs.declared.clock.Clock.{Clock}
use Rattle.access_times.proofs.KeptReads.{kept_set, length-kept}
use Rattle.access_times.proofs.reads.Reads.set.Goals as goal

pub returns-clause-reads : goal.returns-clause-reads
returns-clause-reads c =
    rw c.with-self-inside.ensures
    (kept_set c.self.inside.readers c.self.inside.places c.args.core (c.args.count, c.args.clock)
    c.self.invariant c.requires)
    ∙ ap (λ (reads : List (Option (ℕ × Clock))). slice_set reads c.args.core (Some (c.args.count, c.args.clock)))
    c.self.view_is

pub returns-clause-places : goal.returns-clause-places
returns-clause-places c = sym (ap length c.self.view_is) ∙ length-kept c.self.inside.readers c.self.inside.places
