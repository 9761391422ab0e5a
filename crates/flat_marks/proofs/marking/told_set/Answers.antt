use Rattle.std.proofs.Common.{◌∙◌, ap, sym}
use Rattle.std.specs.Prelude.{◌&&◌, nat_lt}
use Rattle.rtr_types.proofs.Members.{has-no_cores}
use Rattle.rtr_types.specs.CoreSets.{has}
use Rattle.rtr_types.specs.declared.core_set.CoreSet.{CoreSet}
use Rattle.flat_home.specs.Tellings.{addressee, tells}
use Rattle.flat_home.specs.declared.tellings.Telling.{Telling}
use Rattle.flat_marks.proofs.marking.told_set.Goals as goal

pub only-requires-clause-there : goal.only-requires-clause-there
only-requires-clause-there c = c.requires.there c.in-Data.to (ap addressee c.in-Data.is)

pub only-requires-in-Ack-clause-there : goal.only-requires-in-Ack-clause-there
only-requires-in-Ack-clause-there c = c.requires.there c.in-Ack.to (ap addressee c.in-Ack.is)

pub only-requires-in-FwdS-clause-there : goal.only-requires-in-FwdS-clause-there
only-requires-in-FwdS-clause-there c = c.requires.there c.in-FwdS.to (ap addressee c.in-FwdS.is)

pub only-requires-in-FwdM-clause-there : goal.only-requires-in-FwdM-clause-there
only-requires-in-FwdM-clause-there c = c.requires.there c.in-FwdM.to (ap addressee c.in-FwdM.is)

pub returns-in-Nobody : goal.returns-in-Nobody
returns-in-Nobody c = λ k.
    ap (λ (set : CoreSet). has set k) c.empty.ensures
    ∙ (has-no_cores k ∙ ap (λ (t : Telling). tells t k && nat_lt k c.args.cores) (sym c.in-Nobody.is))
