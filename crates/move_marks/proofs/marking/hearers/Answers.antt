use Rattle.std.proofs.Common.{◌∙◌, sym, ap, nat_lt, Option, ℕ}
use Rattle.std.specs.Prelude.{◌&&◌}
use Rattle.msi_cache.specs.declared.messages.FromHome.{FromHome}
use Rattle.msi_memory.specs.Rests.{hears_in}
use Rattle.rtr_types.specs.CoreSets.{with_core}
use Rattle.rtr_types.specs.declared.core_set.CoreSet.{CoreSet}
use Rattle.move_marks.proofs.SetBits.{none_heard, one_heard}
use Rattle.rtr_types.proofs.Members.{has-no_cores}
use Rattle.rtr_types.specs.CoreSets.{has}
use Rattle.move_marks.proofs.marking.hearers.Goals as goal

pub returns-then-to-cores : goal.returns-then-to-cores
returns-then-to-cores c = λ k.
    one_heard c.with.result c.in-Some.to c.args.cores k c.if-to-cores.true c.requires
    (c.with.ensures ∙ ap (λ (s : CoreSet). with_core s c.in-Some.to) c.empty.ensures)
    ∙ ap (λ (sent : Option (ℕ × FromHome (Unit {0}))). hears_in sent c.args.answer.invalidate k
    && nat_lt k c.args.cores)
    (sym c.in-Some.is)

pub returns-else-to-cores : goal.returns-else-to-cores
returns-else-to-cores c = λ k.
    ap (λ (s : CoreSet). has s k) c.empty-else-to-cores.ensures
    ∙ has-no_cores k
    ∙ none_heard c.in-Some.to c.args.cores k c.if-to-cores.false
    ∙ ap (λ (sent : Option (ℕ × FromHome (Unit {0}))). hears_in sent c.args.answer.invalidate k
    && nat_lt k c.args.cores)
    (sym c.in-Some.is)
