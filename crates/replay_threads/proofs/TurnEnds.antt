-- What a closed table comes to, and how turns end.
use Rattle.std.proofs.Common.{ℕ, List, refl, ap, ◌∙◌, arith}
use Rattle.std.specs.Prelude.{slice_index}
use Rattle.rtr_types.specs.declared.pairs.Which.{Which}
use Rattle.race_log.specs.declared.recording.Recording.{Recording}
use Rattle.race_log.specs.Validity.{Valid}
use Rattle.replay_core.specs.Plans.{plan_of}
use Rattle.replay_core.specs.Orders.{low_order}
use Rattle.replay_audit.specs.Determinate.{IsDeterminate}
use Rattle.replay_audit.proofs.OrdersAgree.{every_order_law}
use Rattle.replay_table.specs.Seats.{Ended as AnEnd, IsEnd, Sitting}
use Rattle.replay_threads.specs.declared.turns.Turn.{Turn}
use Rattle.replay_threads.specs.declared.turns.Turn.TheVariants.{Ended, Waiting, Short, Raced}
use Rattle.replay_threads.specs.Turns.{Continues, EndsBy, Looks, Publishes}
use Rattle.replay_threads.specs.Joints.{RanOut}

-- ---- a closed table

pub end_ran : (which : Which) (r : Recording) (e : AnEnd) → Valid r → IsEnd (plan_of which r) e → IsDeterminate which
    r → RanOut which r e
end_ran which r e valid h det = record {
  determinate = det;
  ended = h;
  outcome = h.outcome
      ∙ (every_order_law which r (low_order (plan_of which r)) h.order valid det h.play.ordered).outcome h.play.whole;
}

-- ---- turns

pub goes_none : (x : Sitting) → Continues x x
goes_none x = record { table = refl; core = refl; count = omega arith; polls = λ c. omega arith; failed = omega arith }

pub goes_then : (x y z : Sitting) → Continues x y → Continues y z → Continues x z
goes_then x y z a b = record {
  table = b.table ∙ a.table;
  core = b.core ∙ a.core;
  count = let p = a.count in let q = b.count in omega arith;
  polls = λ c. let p = a.polls c in let q = b.polls c in omega arith;
  failed = let p = a.failed in let q = b.failed in omega arith;
}

pub looks_none : (x : Sitting) → Looks x x
looks_none x = record { goes_on = goes_none x; core = refl }

pub looks_then : (x y z : Sitting) → Looks x y → Looks y z → Looks x z
looks_then x y z a b = record { goes_on = goes_then x y z a.goes_on b.goes_on; core = b.core ∙ a.core }

-- what ends a turn that began later ends one that began earlier
pub ends_sooner : (which : Which) (r : Recording) (x y z : Sitting) (turn : Turn) → Continues x y
    → EndsBy which r y turn z → EndsBy which r x turn z
ends_sooner which r x y z Ended go h = h
ends_sooner which r x y z (Waiting of) go h = record {
  source = h.source;
  unseen = h.unseen;
  loads = let p = go.polls of.core in let q = h.loads in omega
      arith;
}
ends_sooner which r x y z Short go h = h
ends_sooner which r x y z Raced go h = record {
  failed = let p = go.failed in let q = h.failed in
      omega arith;
  undetermined = h.undetermined;
}

-- and still ends it once the core's count is published
pub ends_published : (which : Which) (r : Recording) (x y z : Sitting) (turn : Turn) → Publishes y z
    → EndsBy which r x turn y → EndsBy which r x turn z
ends_published which r x y z Ended same h = rw same.core h
ends_published which r x y z (Waiting of) same h = record {
  source = rw same.core h.source;
  unseen = let e = ap (λ (l : List ℕ). slice_index l of.core) same.seen in let u = h.unseen in omega arith;
  loads = let e = ap (λ (l : List ℕ). slice_index l of.core) same.polls in let u = h.loads in omega arith;
}
ends_published which r x y z Short same h = record {
  below = rw same.core h.below;
  done = rw same.core h.done;
  undetermined = h.undetermined;
}
ends_published which r x y z Raced same h = record {
  failed = let e = same.failed in let u = h.failed in
      omega arith;
  undetermined = h.undetermined;
}

-- what a turn's loop goes by
pub ruleset turns_go_on = (goes_none, goes_then, ends_sooner, ends_published)
