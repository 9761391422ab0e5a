-- The low order of a determinate recording, and any whole replay order in its place.
use Rattle.std.proofs.Common.{List, arith}
use Rattle.rtr_types.specs.declared.access.Access.{Access}
use Rattle.rtr_types.specs.declared.pairs.Which.TheVariants.{Reduced}
use Rattle.clock_core.specs.Order.{Within, Among}
use Rattle.conflict_edge.specs.Conflicts.{ConflictPair, CountsRise}
use Rattle.conflict_edge.specs.Least.{Suffices, IsLeast}
use Rattle.rtr_types.specs.declared.instr.Edge.{Edge}
use Rattle.race_log.specs.declared.recording.Recording.{Recording}
use Rattle.race_log.specs.Validity.{Valid}
use Rattle.replay_core.specs.Plans.{plan_of}
use Rattle.replay_core.specs.Play.{accesses_of}
use Rattle.clock_entries.specs.Laws.{IsAcyclic}
use Rattle.replay_audit.specs.Determinate.{Decides, IsDeterminate, low_accesses, low_order_of}
use Rattle.replay_audit.proofs.OrdersAgree.{low_ordered, every_order_law, any_whole_law}
use Rattle.replay_audit.proofs.Logs.{acyclic_law}
use Rattle.replay_audit.proofs.Rise.{accesses_rise, accesses_within}
use Rattle.certificate_codec.specs.Ends.{reduced_edges}
use Rattle.least_lists.specs.LeastLists.{AreOf}
use Rattle.min_certificate.specs.Laws.{EveryOrderIsLeastLaw, AnyOrderIsLeastLaw}

pub low_rise : (r : Recording) → CountsRise (low_accesses Reduced r)
low_rise r = accesses_rise Reduced r (low_order_of Reduced r) (low_ordered (plan_of Reduced r))

pub low_acyclic : (r : Recording) → Valid r → IsDeterminate Reduced r → IsAcyclic (reduced_edges r)
low_acyclic r valid d = acyclic_law Reduced r (low_order_of Reduced r) valid d.ordered d.whole

pub low_cores : (r : Recording) → Valid r → AreOf r.params.cores (low_accesses Reduced r)
low_cores r valid a s = let w =
    accesses_within Reduced r (low_order_of Reduced r) (low_ordered (plan_of Reduced r)) a s in let e =
    valid.each_core in
    omega arith

-- a log that is least for one list is least for another with the same conflict pairs
carried : (list other : List Access) (edges : List Edge) → Within (ConflictPair list) (ConflictPair other) →
    Within (ConflictPair other) (ConflictPair list) →
    Suffices other (Among edges) → IsLeast list edges → IsLeast other edges
carried list other edges forth back suffices l = record {
  conflict = λ x y a. forth x y (l.conflict x y a);
  suffices = suffices;
  least = λ others conflicts enough. l.least others (λ x y a. back x y (conflicts x y a))
      (λ x y p. enough x y (forth x y p));
}

pub every_order_is_least : EveryOrderIsLeastLaw
every_order_is_least r valid d l order ordered whole =
    let other : Decides (plan_of Reduced r) order = (any_whole_law Reduced r order valid ordered whole).0 d in
    carried (low_accesses Reduced r) (accesses_of (plan_of Reduced r) order) (reduced_edges r)
    (every_order_law Reduced r order (low_order_of Reduced r) valid other d.ordered).pairs
    (every_order_law Reduced r (low_order_of Reduced r) order valid d ordered).pairs other.suffices l

pub any_order_is_least : AnyOrderIsLeastLaw
any_order_is_least r order valid d ordered whole l =
    let other : Decides (plan_of Reduced r) order = (any_whole_law Reduced r order valid ordered whole).0 d in
    carried (accesses_of (plan_of Reduced r) order) (low_accesses Reduced r) (reduced_edges r)
    (every_order_law Reduced r (low_order_of Reduced r) order valid d ordered).pairs
    (every_order_law Reduced r order (low_order_of Reduced r) valid other d.ordered).pairs d.suffices l
