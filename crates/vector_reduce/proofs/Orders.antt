-- Logs by which the same is before have the same replay orders, and are determinate alike.
use Rattle.std.proofs.Common.{◌≡◌, ℕ, ◌+◌, ◌<◌, ◌≤◌, inr, List, [], ◌∷◌, ◌++◌, length, refl, sym, ap, subst, ◌∙◌, arith}
use Rattle.std.specs.Prelude.{slice_index}
use Rattle.std.specs.List.{Contains}
use Rattle.rtr_types.specs.declared.access.Access.{Access}
use Rattle.rtr_types.specs.declared.instr.Instr.{Instr}
use Rattle.rtr_types.specs.declared.params.Params.{Params}
use Rattle.rtr_types.specs.declared.pairs.Which.TheVariants.{Regulated}
use Rattle.rtr_types.proofs.Instrs.{instr_eq}
use Rattle.clock_core.specs.Order.{Before, Among}
use Rattle.clock_core.proofs.EdgeLists.{among_contains, contains_among}
use Rattle.clock_core.proofs.Paths.{one}
use Rattle.clock_entries.specs.Laws.{IsLog}
use Rattle.conflict_edge.specs.Least.{Suffices}
use Rattle.rv_core.specs.declared.outcome.Outcome.{Outcome}
use Rattle.race_log.specs.declared.recording.Recording.{Recording}
use Rattle.race_log.specs.Validity.{Valid}
use Rattle.replay_core.specs.Laws.{PlaceOf}
use Rattle.replay_core.specs.Orders.{bump, counts, nought, IsReplayOrder, IsWhole, Ready}
use Rattle.replay_core.specs.Plans.{Plan, plan_of}
use Rattle.replay_core.specs.Play.{instr, start, Plays, accesses_of, accesses_from}
use Rattle.replay_core.proofs.Counts.{counts_more, counts_on, place_of, bump_same, bump_else}
use Rattle.replay_core.proofs.Images.{by_image, same_start}
use Rattle.replay_core.proofs.Lists.{one_more, ordered_on, places_law}
use Rattle.replay_core.proofs.Ready.{sourced_law}
use Rattle.replay_audit.specs.Determinate.{IsDeterminate, low_order_of}
use Rattle.replay_audit.proofs.OrdersAgree.{any_whole_law}
use Rattle.replay_audit.proofs.Logs.{recorded_log}
use Rattle.vector_reduce.specs.Answers.{HaveSameBefore, IsSameButLog}
use Rattle.vector_reduce.specs.Cuts.{Holds, IsClosed}
use Rattle.vector_reduce.specs.Laws.{SameOrdersLaw}
use Rattle.vector_reduce.specs.Vectors.{regulated_edges}
use Rattle.vector_reduce.proofs.ClosedCuts.{closed_holds}

-- how far a replay order has come is a closed cut
pub counts_closed : (p : Plan) (order : List ℕ) → IsLog p.edges → IsReplayOrder p order →
    IsClosed p.edges (counts nought order)
counts_closed p order log o x y a h = by (place_of order nought y.core y.count (omega (arith, log.targets x y a)) h)
  where
    by : PlaceOf order nought y.core y.count → Holds (counts nought order) x
    by w =
        let f = counts nought w.front in
        let ready = (places_law p order).0 o w.front y.core w.rest w.split in
        let is : instr y.core (f y.core + 1) ≡ y = instr_eq (instr y.core (f y.core + 1)) y refl w.before in
        let there : Contains p.edges (record { from = x; to = instr y.core (f y.core + 1) }) =
        subst (λ (t : Instr). Contains p.edges (record { from = x; to = t })) (sym is) (among_contains p.edges x y a) in
        let le : x.count ≤ f x.core = (sourced_law p.edges f y.core (f y.core + 1)).0 ready.sourced x there in
        let on : counts nought order x.core ≡ counts f (y.core ∷ w.rest) x.core =
        ap (λ (l : List ℕ). counts nought l x.core) w.split
        ∙ ap (λ (g : ℕ → ℕ). g x.core) (counts_on nought w.front (y.core ∷ w.rest)) in
        let up = counts_more f (y.core ∷ w.rest) x.core in
        omega (arith, le, on, up)

-- what is ready by the one log is ready by the other
ready_too : (r s : Recording) → Valid r → Valid s → IsSameButLog r s →
    ((x y : Instr) → Before (Among (regulated_edges s)) x y → Before (Among (regulated_edges r)) x y) →
    (front : List ℕ) (c : ℕ) → IsReplayOrder (plan_of Regulated r) front →
    Ready (plan_of Regulated r) (counts nought front) c →
    Ready (plan_of Regulated s) (counts nought front) c
ready_too r s vr vs same before front c o ready = record {
  inside = subst (λ (t : List ℕ). c < length t) (sym same.totals) ready.inside;
  below = subst (λ (t : List ℕ). f c < slice_index t c) (sym same.totals) ready.below;
  sourced = (sourced_law q.edges f c (f c + 1)).1 from_source;
}
  where
    p : Plan
    p = plan_of Regulated r

    q : Plan
    q = plan_of Regulated s

    f : ℕ → ℕ
    f = counts nought front

    y : Instr
    y = instr c (f c + 1)

    longer : IsReplayOrder p (front ++ c ∷ [])
    longer = (one_more p front c o).1 ready

    closed : IsClosed p.edges (bump f c)
    closed = subst (λ (g : ℕ → ℕ). IsClosed p.edges g) (counts_on nought front (c ∷ []))
        (counts_closed p (front ++ c ∷ []) (recorded_log Regulated r vr) longer)

    from_source : (from : Instr) → Contains q.edges (record { from = from; to = y }) → from.count ≤ f from.core
    from_source from has =
        let a : Among q.edges from y = contains_among q.edges from y has in
        let path : Before (Among p.edges) from y = before from y (one (Among q.edges) from y (inr a)) in
        let own : bump f c c ≡ f c + 1 = bump_same f c c refl in
        let held : Holds (bump f c) from = closed_holds p.edges (bump f c) from y closed (omega (arith, own)) path in
        let apart = (recorded_log Regulated s vs).apart from y a in
        let other : bump f c from.core ≡ f from.core = bump_else f c from.core apart in
        omega (arith, held, other)

one_way : (r s : Recording) → Valid r → Valid s → IsSameButLog r s →
    ((x y : Instr) → Before (Among (regulated_edges s)) x y → Before (Among (regulated_edges r)) x y) →
    (order : List ℕ) → IsReplayOrder (plan_of Regulated r) order → IsReplayOrder (plan_of Regulated s) order
one_way r s vr vs same before order o = (places_law (plan_of Regulated s) order).1 at
  where
    at : (front : List ℕ) (c : ℕ) (rest : List ℕ) → order ≡ front ++ c ∷ rest →
        Ready (plan_of Regulated s) (counts nought front) c
    at front c rest split =
        let whole : IsReplayOrder (plan_of Regulated r) (front ++ c ∷ rest) =
        subst (IsReplayOrder (plan_of Regulated r)) split o in
        let ordered = ((ordered_on (plan_of Regulated r) nought front (c ∷ rest)).0 whole).0 in
        ready_too r s vr vs same before front c ordered
        ((places_law (plan_of Regulated r) order).0 o front c rest split)

turned : (r s : Recording) → IsSameButLog r s → IsSameButLog s r
turned r s e = record { params = sym e.params; image = sym e.image; totals = sym e.totals; reduced = sym e.reduced }

pub same_orders : SameOrdersLaw
same_orders r s vr vs same before order = (
  one_way r s vr vs same (λ x y. (before x y).1) order,
  one_way s r vs vr (turned r s same) (λ x y. (before x y).0) order,
)

-- ---- determinate by the one log, determinate by the other

pub still_determinate : (r s : Recording) → Valid r → Valid s → IsSameButLog r s → HaveSameBefore r s →
    IsDeterminate Regulated r →
    IsDeterminate Regulated s
still_determinate r s vr vs same before d = (any_whole_law Regulated s order vs ordered whole).1 (record {
  ordered = ordered;
  whole = whole;
  plays = subst (λ (o : Outcome). Plays q o order) begin ((by_image p q (start p) order image).plays.0 d.plays);
  suffices = subst (λ (l : List Access). Suffices l (Among q.edges)) accesses
      (λ x y pair. (before x y).0 (d.suffices x y pair));
})
  where
    p : Plan
    p = plan_of Regulated r

    q : Plan
    q = plan_of Regulated s

    order : List ℕ
    order = low_order_of Regulated r

    ordered : IsReplayOrder q order
    ordered = (same_orders r s vr vs same before order).0 d.ordered

    whole : IsWhole q order
    whole = record {
      each = λ c lt. d.whole.each c (subst (λ (t : List ℕ). c < length t) same.totals lt)
          ∙ ap (λ (t : List ℕ). slice_index t c) (sym same.totals);
    }

    image : p.image ≡ q.image
    image = ap2 same.image same.params
      where
        ap2 : s.image ≡ r.image → s.params ≡ r.params → p.image ≡ q.image
        ap2 i e = rw (i, e) refl

    begin : start p ≡ start q
    begin = same_start p q image (ap (λ (m : Params). m.limit) (sym same.params)) (ap length (sym same.totals))

    accesses : accesses_of p order ≡ accesses_of q order
    accesses = (by_image p q (start p) order image).accesses_from ∙ ap (λ (o : Outcome). accesses_from q o order) begin
