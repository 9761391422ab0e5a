use Rattle.std.proofs.Common.{◌∙◌, sym, ap, List, Option, ℕ}
use Rattle.clock_core.specs.declared.clock.Clock.{Clock}
use Rattle.access_times.specs.Times.{read_in}
use Rattle.access_times.proofs.KeptReads.{read_there, read_absent}
use Rattle.access_times.proofs.reads.Reads.get.Goals as goal

pub returns-then-has : goal.returns-then-has
returns-then-has c =
    read_there c.self.inside.readers c.self.inside.places c.args.core _ (sym c.has.ensures ∙ c.if-has.true) c.requires
    c.self.invariant
    ∙ ap (λ (reads : List (Option (ℕ × Clock))). read_in reads c.args.core) c.self.view_is

pub returns-else-has : goal.returns-else-has
returns-else-has c =
    read_absent c.self.inside.readers c.self.inside.places c.args.core (sym c.has.ensures ∙ c.if-has.false) c.requires
    ∙ ap (λ (reads : List (Option (ℕ × Clock))). read_in reads c.args.core) c.self.view_is
