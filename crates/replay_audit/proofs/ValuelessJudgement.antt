-- Determinacy by accesses without their values.
use Rattle.std.proofs.Common.{inl, inr, ◌≡◌, ◌⊎◌, List, sym, ap, ◌∙◌, subst}
use Rattle.std.specs.Prelude.{IsTrue}
use Rattle.rtr_types.specs.Accesses.{is_write}
use Rattle.rtr_types.specs.declared.instr.Instr.{Instr}
use Rattle.rtr_types.specs.declared.instr.Edge.{Edge}
use Rattle.rtr_types.specs.declared.access.Access.{Access}
use Rattle.rtr_types.specs.declared.access.Kind.{Kind}
use Rattle.clock_core.specs.Order.{Before, Among}
use Rattle.conflict_edge.specs.Conflicts.{Conflicts, ConflictPair, StandsIn}
use Rattle.conflict_edge.specs.Least.{Suffices}
use Rattle.conflict_edge.proofs.AccessPlaces.{one_first}
use Rattle.conflict_edge.proofs.NewestFirst.{list_ends}
use Rattle.race_log.specs.Sources.{log_edges}
use Rattle.replay_core.specs.Plans.{plan_of}
use Rattle.replay_core.specs.Play.{accesses_of}
use Rattle.replay_audit.specs.Laws.{IsSettled}
use Rattle.replay_audit.specs.Judges.{IsAlike, JudgeLaw}
use Rattle.replay_audit.proofs.SettledConflicts.{settled_law}

conflicts_alike : (a b c d : Access) → IsAlike a c → IsAlike b d → Conflicts a b → Conflicts c d
conflicts_alike a b c d p q k = (
  λ e. k.0 (ap (λ (x : Instr). x.core) p.at ∙ e ∙ ap (λ (x : Instr). x.core) (sym q.at)),
  sym p.word ∙ k.1 ∙ q.word,
  kinds k.2,
)
  where
    kinds : IsTrue (is_write a.kind) ⊎ IsTrue (is_write b.kind) → IsTrue (is_write c.kind) ⊎ IsTrue (is_write d.kind)
    kinds (inl t) = inl (subst (λ (x : Kind). IsTrue (is_write x)) p.kind t)
    kinds (inr t) = inr (subst (λ (x : Kind). IsTrue (is_write x)) q.kind t)

alike_back : (a b : Access) → IsAlike a b → IsAlike b a
alike_back a b h = record { at = sym h.at; word = sym h.word; kind = sym h.kind }

abbrev Ordered : List Edge → Instr → Instr → Type 0
Ordered edges x y = Before (Among edges) x y ⊎ Before (Among edges) y x

moved : (edges : List Edge) (u v x y : Instr) → u ≡ x → v ≡ y → Ordered edges u v → Ordered edges x y
moved edges u v x y e g b = subst (λ (z : Instr). Ordered edges z y) e (subst (λ (z : Instr). Ordered edges u z) g b)

pub settled_alike : (edges : List Edge) (xs ys : List Access) →
    ((b : Access) → StandsIn ys b → (a : Access) × StandsIn xs a × IsAlike a b) →
    IsSettled edges xs → IsSettled edges ys
settled_alike edges xs ys back h c d s t k =
    let a = back c s in
    let b = back d t in
    moved edges a.0.at b.0.at c.at d.at a.2.at b.2.at
    (h a.0 b.0 a.1 b.1 (conflicts_alike c d a.0 b.0 (alike_back a.0 c a.2) (alike_back b.0 d b.2) k))

pub judge_law : JudgeLaw
judge_law which r order list valid play alike = (
  λ det. settled_alike (log_edges which r) (accesses_of (plan_of which r) order) list alike.back
      ((settled_law which r order valid play).0 det),
  λ h. (settled_law which r order valid play).1
      (settled_alike (log_edges which r) list (accesses_of (plan_of which r) order)
      (λ a s. let b = alike.forth a s in (b.0, b.1, alike_back a b.0 b.2)) h),
)

-- ---- a list along which the log never leads back

abbrev pub NeverBack : List Edge → List Access → Type 0
NeverBack edges list = (x y : Instr) → ConflictPair list x y → Before (Among edges) y x → ⊥

pub suffices_settled : (edges : List Edge) (list : List Access) → Suffices list (Among edges) → IsSettled edges list
suffices_settled edges list suf a b s t k = by (one_first list a b s t k)
  where
    by : ConflictPair list a.at b.at ⊎ ConflictPair list b.at a.at → Ordered edges a.at b.at
    by (inl q) = inl (suf a.at b.at q)
    by (inr q) = inr (suf b.at a.at q)

pub settled_suffices : (edges : List Edge) (list : List Access) → NeverBack edges list → IsSettled edges list →
    Suffices list (Among edges)
settled_suffices edges list never settled x y q =
    let e = list_ends list x y q in
    by (moved edges e.first.at e.second.at x y e.first_at e.second_at
    (settled e.first e.second e.first_stands e.second_stands e.conflict))
  where
    by : Ordered edges x y → Before (Among edges) x y
    by (inl b) = b
    by (inr b) = absurd (never x y q b)
