use Rattle.rtr_types.proofs.Members.{has-with_same, has-with_other, has-without_same, has-without_other, has-no_cores}
use Rattle.rtr_types.proofs.Members.{has-none, has-some}
use Rattle.rtr_types.proofs.Members.{no_cores_below, with_nonempty, with_below, without_below}
use Rattle.rtr_types.proofs.core_set.core_set_laws.Goals as goal

pub returns : goal.returns
returns c =
    record {
      with_same = has-with_same;
      with_other = has-with_other;
      without_same = has-without_same;
      without_other = has-without_other;
      none = has-no_cores;
      empty = has-none;
      nonempty = with_nonempty;
      some = has-some;
      below = no_cores_below;
      with_below = with_below;
      without_below = without_below;
    }
