-- There is one step and one step back, and what they do to each other: both are the least, or the greatest, of closed
-- cuts, so each law compares two cuts of which each meets what the other is the least of.
use Rattle.std.proofs.Common.{arith}
use Rattle.rtr_types.specs.declared.cut.Cut.{Cut}
use Rattle.cut_replay.specs.ClosedCuts.{IsContained}
use Rattle.cut_replay.proofs.Unique.{one_cut}
use Rattle.cut_moves.specs.Steps.{BackAgainLaw, BackByIntersectionLaw, BackContainsLaw, OneStepBackLaw, OneStepLaw}
use Rattle.cut_moves.specs.Steps.{StepAgainLaw, StepByUnionLaw, StepContainedLaw}
use Rattle.cut_moves.proofs.Unions.{union_least, union_closed, intersection_greatest, intersection_closed}

-- containment goes on
contained : (a b c : Cut) → IsContained a b → IsContained b c → IsContained a c
contained a b c h k core = let x = h core in let y = k core in omega arith

pub step_by_union : StepByUnionLaw
step_by_union which r cut least at closed h =
    let u = union_least r cut least closed.is_cut h.closed.is_cut in
    record {
      closed = union_closed which r cut least closed h.closed;
      contains = u.first;
      holds = let x = h.holds in let y = u.second at.core in omega arith;
      least = λ c is has holds. u.least c has (h.least c is holds);
    }

pub back_by_intersection : BackByIntersectionLaw
back_by_intersection which r cut greatest at closed h =
    let u = intersection_greatest r cut greatest closed.is_cut h.closed.is_cut in
    record {
      contained = u.first;
      closed = intersection_closed which r cut greatest closed h.closed;
      without = λ holds. h.without (let y = u.second at.core in omega arith);
      greatest = λ c is within lacks. u.greatest c within (h.greatest c is lacks);
    }

pub one_step : OneStepLaw
one_step which r cut to other at h k =
    one_cut r to other h.closed.is_cut k.closed.is_cut (h.least other k.closed k.contains k.holds)
    (k.least to h.closed h.contains h.holds)

pub one_step_back : OneStepBackLaw
one_step_back which r cut to other at h k =
    one_cut r to other h.closed.is_cut k.closed.is_cut (k.greatest to h.closed h.contained h.without)
    (h.greatest other k.closed k.contained k.without)

pub back_contains : BackContainsLaw
back_contains which r cut up down at closed lacks s b = b.greatest cut closed s.contains lacks

pub step_contained : StepContainedLaw
step_contained which r cut down up at closed holds b s = s.least cut closed b.contained holds

pub step_again : StepAgainLaw
step_again which r cut up down again at closed lacks s b a =
    one_cut r again up a.closed.is_cut s.closed.is_cut (a.least up s.closed b.contained s.holds)
    (s.least again a.closed (contained cut down again (b.greatest cut closed s.contains lacks) a.contains) a.holds)

pub back_again : BackAgainLaw
back_again which r cut down up again at closed holds b s g =
    one_cut r again down g.closed.is_cut b.closed.is_cut
    (b.greatest again g.closed (contained again up cut g.contained (s.least cut closed b.contained holds)) g.without)
    (g.greatest down b.closed s.contains b.without)
