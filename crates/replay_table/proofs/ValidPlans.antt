-- What follows from a plan's being that of a valid recording.
use Rattle.std.proofs.Common.{inl, ◌≡◌, ◌≢◌, ℕ, ◌^◌, ◌<◌, ◌≤◌, Bool, true, List, length, sym, refl, subst}
use Rattle.std.specs.Prelude.{slice_index, Some}
use Rattle.rtr_types.specs.declared.access.Kind.{Kind}
use Rattle.rtr_types.specs.Accesses.{is_write}
use Rattle.rv_core.specs.declared.core_state.Core.{Core}
use Rattle.rv_core.specs.Steps.{need}
use Rattle.race_log.proofs.CountedEdges.{totals_small}
use Rattle.replay_core.specs.Plans.{Plan, plan_of}
use Rattle.replay_core.specs.Play.{Use, use_of}
use Rattle.replay_core.specs.Orders.{counts, nought, IsReplayOrder, low_order}
use Rattle.replay_audit.specs.Laws.{Clash, StandsAhead, IsAhead, IsDue}
use Rattle.replay_audit.proofs.Ahead.{never_due_law}
use Rattle.replay_table.specs.declared.view.Own.{Own}
use Rattle.replay_table.specs.declared.view.View.{View}
use Rattle.replay_table.specs.Accesses.{Accesses}
use Rattle.replay_table.specs.Rule.{seen_of, Agrees, IsRecorded, LowDecides, Next}
use Rattle.replay_table.proofs.Aheads.{ahead_id}

-- ---- totals

-- a core's total is below 2^32
pub total_fits : (p : Plan) → IsRecorded p → (c : ℕ) → slice_index p.totals c < 2 ^ 32
total_fits p rec c = subst (λ (q : Plan). slice_index q.totals c < 2 ^ 32) (sym rec.plan_is)
    (totals_small rec.recording rec.valid c)

-- ---- two views whose next accesses conflict

never-at : (p : Plan) → IsRecorded p → LowDecides p → (order : List ℕ) (c d n m : ℕ) (a b : Core)
    → IsReplayOrder p order → c ≢ d
    → StandsAhead p order c n a → StandsAhead p order d m b → Clash (use_of (need p.image a))
    (use_of (need p.image b)) → ⊥
never-at p rec decides order c d n m a b = subst (λ (q : Plan). LowDecides q → IsReplayOrder q order → c ≢ d
    → StandsAhead q order c n a → StandsAhead q order d m b → Clash (use_of (need q.image a))
    (use_of (need q.image b)) → ⊥) (sym rec.plan_is)
    (λ dec ordered ne one other clash. never_due_law rec.which rec.recording
    (low_order (plan_of rec.which rec.recording)) order c d n m a b rec.valid dec
    ordered ne one other clash)
    decides

-- a view's core stands ahead of the order that stands
stands-ahead : (p : Plan) (order : List ℕ) (v : View) (o : Own) (at : Core) → (n : Next p v o at) → o.core.id < length
    p.totals → Agrees p order o
    → ((i : ℕ) → seen_of v i ≤ counts nought order i) → StandsAhead p order o.core.id n.locals at
stands-ahead p order v o at n inside agrees seen = record {
  seen = seen_of v;
  within = seen;
  ahead = record {
    inside = inside;
    ahead = subst (λ (k : Core). IsAhead p (seen_of v) o.core.id n.locals k at) (sym agrees.core) n.ahead;
    due = subst (λ (c : ℕ). IsDue p (seen_of v) c at) (ahead_id p (seen_of v) n.locals o.core at n.ahead) n.due;
  };
}

clashes : (u w : Use) (one other : Kind) (word : ℕ) → u ≡ Some (one, word) → w ≡ Some (other, word)
    → is_write one ≡ true → Clash u w
clashes u w one other word a b writes = subst (λ (x : Use). Clash x w) (sym a)
    (subst (λ (x : Use). Clash (Some (one, word)) x) (sym b) (refl, inl writes))

-- where the recording is determinate, two views never are both due for accesses to one word of which one writes
pub never_both : (p : Plan) (order : List ℕ) (v x : View) (o y : Own) (at to : Core) (word : ℕ)
    (whole writes' whole' : Bool) → IsRecorded p
    → LowDecides p → IsReplayOrder p order
    → Next p v o at → Next p x y to → o.core.id < length p.totals → y.core.id < length p.totals → Agrees p order o
    → Agrees p order y
    → ((i : ℕ) → seen_of v i ≤ counts nought order i) → ((i : ℕ) → seen_of x i ≤ counts nought order i)
    → o.core.id ≢ y.core.id
    → Accesses (need p.image at) word true whole → Accesses (need p.image to) word writes' whole' → ⊥
never_both p order v x o y at to word whole writes' whole' rec decides ordered n m inside inside' agrees agrees' seen
    seen' ne a b =
    never-at p rec decides order o.core.id y.core.id n.locals m.locals at to ordered ne
    (stands-ahead p order v o at n inside agrees seen) (stands-ahead p order x y to m inside' agrees' seen')
    (clashes (use_of (need p.image at)) (use_of (need p.image to)) a.kind b.kind word a.used b.used a.writes_is)
