-- Determinacy by each two accesses in conflict, whichever comes first.
use Rattle.std.proofs.Common.{inl, inr, ◌≡◌, ◌⊎◌, ℕ, ◌+◌, ◌<◌, ◌≤◌, List, [], ◌∷◌, sym, ap, ◌∙◌, subst, arith}
use Rattle.rtr_types.specs.declared.instr.Instr.{Instr}
use Rattle.rtr_types.specs.declared.access.Access.{Access}
use Rattle.clock_core.specs.Order.{Before, Among}
use Rattle.conflict_edge.specs.Conflicts.{ConflictPair}
use Rattle.conflict_edge.specs.Least.{Suffices}
use Rattle.conflict_edge.proofs.AccessPlaces.{one_first}
use Rattle.conflict_edge.proofs.NewestFirst.{list_ends}
use Rattle.rv_core.specs.declared.outcome.Outcome.{Outcome}
use Rattle.std.specs.Prelude.{Some, None}
use Rattle.replay_core.specs.Plans.{Plan, plan_of}
use Rattle.replay_core.specs.Play.{Use, instr, core_at, old_at, new_at, accesses_by, place, touched, start}
use Rattle.replay_core.specs.Play.{accesses_from, accesses_of}
use Rattle.replay_core.specs.Orders.{bump, nought, Ordered}
use Rattle.replay_core.proofs.Counts.{bump_more}
use Rattle.replay_audit.specs.Determinate.{IsDeterminate}
use Rattle.replay_audit.specs.Laws.{IsSettled, SettledLaw}
use Rattle.replay_audit.proofs.Pairs.{Apart, both_left, both_right, across, pairs_which}
use Rattle.replay_audit.proofs.Logs.{ready_before}
use Rattle.replay_audit.proofs.Rise.{rises, touched_is}
use Rattle.replay_audit.proofs.Swaps.{use_at}
use Rattle.replay_audit.proofs.Front.{Tame, tame_place, counted}
use Rattle.replay_audit.proofs.OrdersAgree.{tame_start, touched_at, any_whole_law}

pub no-pair : (u : Use) (at x y : Instr) (o n : ℕ) → ConflictPair (accesses_by u at o n) x y → ⊥
no-pair None at x y o n q = q
no-pair (Some u) at x y o n (inl q) = q.2
no-pair (Some u) at x y o n (inr q) = q

-- the log has no path back over a pair of a replay order
pub no_way_back : (p : Plan) (order : List ℕ) (s : Outcome) (f : ℕ → ℕ) (x y : Instr) → Tame p s f → Ordered p f order →
    ConflictPair (accesses_from p s order) x y → Before (Among p.edges) y x → ⊥
no_way_back p [] s f x y t o q b = q
no_way_back p (c ∷ cs) s f x y t o q b = by (pairs_which (touched p s c) (accesses_from p (place p s c) cs) x y q)
    (no_way_back p cs (place p s c) (bump f c) x y (tame_place p s f c t o.0) o.1)
  where
    by : Apart (touched p s c) (accesses_from p (place p s c) cs) x y →
        (ConflictPair (accesses_from p (place p s c) cs) x y → Before (Among p.edges) y x → ⊥) → ⊥
    by (both_left h) go = no-pair (use_at p s c) (instr c ((core_at s c).count + 1)) x y (old_at p s c) (new_at p s c)
        (subst (λ (l : List Access). ConflictPair l x y) (touched_is p s c) h)
    by (both_right h) go = go h b
    by (across a d h u e g k) go =
        let n : x ≡ instr c ((core_at s c).count + 1) = sym e ∙ touched_at p s c a h in
        let at_core : x.core ≡ c = ap (λ (z : Instr). z.core) n in
        let at_count : x.count ≡ f c + 1 = ap (λ (z : Instr). z.count) n ∙ ap (λ (m : ℕ). m + 1) (counted p s f c t) in
        let le : y.count ≤ f y.core = ready_before p f c y x t.closed o.0 at_core at_count b in
        let up : bump f c d.at.core < d.at.count =
        (rises p (bump f c) (place p s c) cs (tame_place p s f c t o.0).known o.1).above d u in
        let there : bump f c y.core < y.count = subst (λ (z : Instr). bump f c z.core < z.count) g up in
        let more = bump_more f c y.core in
        omega arith

pub settled_law : SettledLaw
settled_law which r order valid play = (forth, back)
  where
    p : Plan
    p = plan_of which r

    forth : IsDeterminate which r → IsSettled p.edges (accesses_of p order)
    forth det a b s t k = by (one_first (accesses_of p order) a b s t k)
      where
        by : ConflictPair (accesses_of p order) a.at b.at ⊎ ConflictPair (accesses_of p order) b.at a.at →
            Before (Among p.edges) a.at b.at
            ⊎ Before (Among p.edges) b.at a.at
        by (inl q) = inl (((any_whole_law which r order valid play.ordered play.whole).0 det).suffices a.at b.at q)
        by (inr q) = inr (((any_whole_law which r order valid play.ordered play.whole).0 det).suffices b.at a.at q)

    suffices : IsSettled p.edges (accesses_of p order) → Suffices (accesses_of p order) (Among p.edges)
    suffices settled x y q =
        let e = list_ends (accesses_of p order) x y q in
        by e.first.at e.second.at e.first_at e.second_at
        (settled e.first e.second e.first_stands e.second_stands e.conflict)
      where
        by : (u v : Instr) → u ≡ x → v ≡ y → Before (Among p.edges) u v ⊎ Before (Among p.edges) v u →
            Before (Among p.edges) x y
        by u v e g (inl b) = subst (λ (z : Instr). Before (Among p.edges) z y) e
            (subst (λ (z : Instr). Before (Among p.edges) u z) g b)
        by u v e g (inr b) = absurd (no_way_back p order (start p) nought x y (tame_start which r valid) play.ordered q
            (subst (λ (z : Instr). Before (Among p.edges) z x) g
            (subst (λ (z : Instr). Before (Among p.edges) v z) e b)))

    back : IsSettled p.edges (accesses_of p order) → IsDeterminate which r
    back settled = (any_whole_law which r order valid play.ordered play.whole).1
        (record { ordered = play.ordered; whole = play.whole; plays = play.plays; suffices = suffices settled })
