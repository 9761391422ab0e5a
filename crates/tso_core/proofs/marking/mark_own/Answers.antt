use Rattle.std.proofs.Common.{◌∙◌, refl}
use Rattle.tso_core.proofs.marking.mark_own.Goals as goal

pub returns : goal.returns
returns g c =
    record {
      cores = refl;
      own = c.set.ensures.this ∙ c.can_execute-executes.ensures;
      order = c.set_to-marks.ensures.this ∙ c.can_order-orders.ensures;
      orders = c.set_to-marks.ensures.others;
      others = c.set.ensures.others;
    }
