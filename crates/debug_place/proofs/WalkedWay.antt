-- A replay takes the places of a way: each is due, each goes on, and at the end the replay is at the cut.
use Rattle.std.proofs.Common.{◌≡◌, ℕ, ◌+◌, ◌<◌, ◌≤◌, false, List, [], ◌∷◌, ◌++◌, length, drop, get_or, refl, sym, ap}
use Rattle.std.proofs.Common.{subst, ◌∙◌}
use Rattle.std.proofs.Common.{add-one, arith}
use Rattle.std.specs.Prelude.{Option, Some, None}
use Rattle.std.proofs.Math.Seq.{drop-cons}
use Rattle.rtr_types.specs.declared.access.Access.{Access}
use Rattle.rtr_types.specs.declared.cut.Cut.{Cut}
use Rattle.rtr_types.specs.declared.instr.Instr.{Instr}
use Rattle.rtr_types.specs.declared.pairs.Which.{Which}
use Rattle.rv_core.specs.declared.outcome.Outcome.{Outcome}
use Rattle.rv_core.specs.Steps.{is_done}
use Rattle.race_log.specs.declared.recording.Recording.{Recording}
use Rattle.race_log.specs.Validity.{Valid}
use Rattle.replay_core.specs.Answers.{Retires, UnderWay, told}
use Rattle.replay_core.specs.Orders.{Ordered, Ready, bump, counts, counts_in, nought}
use Rattle.replay_core.specs.Plans.{Plan, plan_of}
use Rattle.replay_core.specs.Play.{Use, accesses_by, core_at, instr, need_at, new_at, old_at, place, start, use_of}
use Rattle.replay_core.proofs.Counts.{bump_here, bump_more, counts_more}
use Rattle.replay_core.proofs.Lists.{one_more as order_more, plays_on}
use Rattle.replay_core.proofs.Places.{place_known}
use Rattle.replay_core.proofs.Ready.{ready_is, ready_true}
use Rattle.replay_audit.specs.Determinate.{Decides}
use Rattle.replay_audit.proofs.OrdersAgree.{every_order_law}
use Rattle.replay_audit.proofs.Rise.{touched_is}
use Rattle.cut_replay.specs.ClosedCuts.{count_in, IsClosed, IsContained}
use Rattle.cut_replay.specs.Dues.{IsDue, IsOnTheWay}
use Rattle.cut_replay.proofs.Ways.{state_at, way_on}
use Rattle.cut_moves.specs.Ways.{LeadsTo}
use Rattle.debug_place.specs.Places.{IsReplayAt}
use Rattle.debug_place.specs.Walks.{HasTaken, IsWalking}
use Rattle.debug_place.proofs.OwnCuts.{its_counts, known, on_the_way, same_counts}

-- from a cut to one that contains it
pub set_out : {which : Which} {r : Recording} {low : Cut} {u : UnderWay} → IsReplayAt which r low u → (high : Cut) →
    Valid r → IsClosed which r high → IsContained low high → (places : List ℕ) →
    Ordered (plan_of which r) (count_in low) places → LeadsTo (count_in low) (count_in high) places →
    IsWalking which r high u places
set_out {which} {r} at high valid closed within places ordered leads = record {
  way = on_the_way at high valid closed within;
  ordered = subst (λ (g : ℕ → ℕ). Ordered (plan_of which r) g places) (its_counts at) ordered;
  leads = subst (λ (g : ℕ → ℕ). LeadsTo g (count_in high) places) (its_counts at) leads;
}

-- the places from the next one on
pub next_first : {which : Which} {r : Recording} {to : Cut} {u : UnderWay} (places : List ℕ) (i : ℕ) →
    i < length places →
    IsWalking which r to u (drop i places) → IsWalking which r to u (get_or places i 0 ∷ drop (i + 1) places)
next_first {which} {r} {to} {u} places i within walking =
    subst (λ (rest : List ℕ). IsWalking which r to u rest)
    (drop-cons places i 0 within ∙ ap (λ k. get_or places i 0 ∷ drop k places) (sym (add-one i))) walking

-- the access of an instruction, as one that was told
told_by : (used : Use) (at : Instr) (old new : ℕ) → (access : Option Access) × (told access
    ≡ accesses_by used at old new)
told_by None at old new = (None, refl)
told_by (Some used) at old new =
    (Some (record { at = at; word = used.1; kind = used.0; before = old; after = new }), refl)

-- a core that is due takes its place
module _ {which : Which} {r : Recording} {to : Cut} {u : UnderWay} (way : IsOnTheWay which r to u) (whole : List ℕ)
    (decides : Decides (plan_of which r) whole) (core : ℕ) (is_due : IsDue to u core) (w : UnderWay)
    (kept : w.plan ≡ u.plan) (placed : w.state ≡ place u.plan u.state core) where
  abbrev q : Plan
  q = plan_of which r

  ready : Ready (plan_of which r) (counts nought way.order) core
  ready = subst (λ (g : ℕ → ℕ). Ready q g core) (same_counts way)
      (subst (λ (p : Plan). Ready p (counts_in u.state) core) way.plan_is
      (ready_true u.plan (counts_in u.state) core is_due.ready))

  goes : is_done (need_at u.plan u.state core) ≡ false
  goes = ap (λ (p : Plan). is_done (need_at p u.state core)) way.plan_is
      ∙ ap (λ (s : Outcome). is_done (need_at q s core)) way.state_is
      ∙ ((plays_on q (start q) way.order (core ∷ [])).0
      (every_order_law which r whole (way.order ++ core ∷ []) way.valid decides
      ((order_more q way.order core way.ordered).1 ready)).plays).1.0

  told_retires : (access : Option Access) × Retires u.plan u.state core access w.state
  told_retires =
      let access = told_by (use_of (need_at u.plan u.state core)) (instr core ((core_at u.state core).count + 1))
      (old_at u.plan u.state core) (new_at u.plan u.state core) in (
        access.0,
        record {
          going = goes;
          state = placed;
          access_is = access.1 ∙ sym (touched_is u.plan u.state core);
        },
      )

  pub has_taken : HasTaken which r to u core w
  has_taken = record {
    way = way_on way whole decides core is_due u refl refl w kept told_retires.0 told_retires.1;
    state = placed ∙ ap (λ (p : Plan). place p u.state core) way.plan_is;
  }

-- so does a core whose replay made room and retired its next instruction
module _ {which : Which} {r : Recording} {to : Cut} {u : UnderWay} (way : IsOnTheWay which r to u) (whole : List ℕ)
    (decides : Decides (plan_of which r) whole) (core : ℕ) (is_due : IsDue to u core) (v : UnderWay)
    (same_plan : v.plan ≡ u.plan) (same_state : v.state ≡ u.state) (w : UnderWay) (kept : w.plan ≡ v.plan)
    (access : Option Access) (retires_next : Retires v.plan v.state core access w.state) where
  has_retired : HasTaken which r to u core w
  has_retired = record {
    way = way_on way whole decides core is_due v same_plan same_state w kept access retires_next;
    state = retires_next.state ∙ ap (λ (s : Outcome). place v.plan s core) same_state
        ∙ ap (λ (p : Plan). place p u.state core) (same_plan ∙ way.plan_is);
  }

module _ {which : Which} {r : Recording} {to : Cut} {u : UnderWay} (core : ℕ) (rest : List ℕ)
    (walking : IsWalking which r to u (core ∷ rest)) where
  abbrev p : Plan
  p = plan_of which r

  abbrev f : ℕ → ℕ
  f = counts_in u.state

  pub due : IsDue to u core
  due = record {
    inside = subst (λ (q : Plan). core < length q.totals) (sym walking.way.plan_is) walking.ordered.0.inside;
    below = let last = walking.leads core in let more = counts_more (bump f core) rest core in
        let here = bump_here f core in omega arith;
    ready = ready_is u.plan f core
        (subst (λ (q : Plan). Ready q f core) (sym walking.way.plan_is) walking.ordered.0);
  }

  module _ {w : UnderWay} (taken : HasTaken which r to u core w) where
    pub one_more : counts_in w.state ≡ bump f core
    one_more = ap (λ (s : Outcome). counts_in s) taken.state
        ∙ (place_known p f u.state core (known walking.way) walking.ordered.0).counts

    pub walk_more : IsWalking which r to w rest
    walk_more = record {
      way = taken.way;
      ordered = subst (λ (g : ℕ → ℕ). Ordered p g rest) (sym one_more) walking.ordered.1;
      leads = subst (λ (g : ℕ → ℕ). LeadsTo g (count_in to) rest) (sym one_more) walking.leads;
    }

  module _ (whole : List ℕ) (decides : Decides (plan_of which r) whole) (v : UnderWay) (same_plan : v.plan ≡ u.plan)
      (same_state : v.state ≡ u.state) (w : UnderWay) (kept : w.plan ≡ v.plan) (access : Option Access)
      (retires : Retires v.plan v.state core access w.state) where
    next_taken : HasTaken which r to u core w
    next_taken = has_retired walking.way whole decides core due v same_plan same_state w kept access retires

    pub placed : w.state ≡ place (plan_of which r) u.state core
    placed = next_taken.state

    pub walk_on : IsWalking which r to w rest
    walk_on = walk_more next_taken

-- at a place of a list: its core is due, and once it's taken the replay walks from the next place on
module _ {which : Which} {r : Recording} {to : Cut} {u : UnderWay} (places : List ℕ) (i : ℕ)
    (within : i < length places) (walking : IsWalking which r to u (drop i places)) where
  pub due_at : IsDue to u (get_or places i 0)
  due_at = due (get_or places i 0) (drop (i + 1) places) (next_first places i within walking)

  pub taken_at : {w : UnderWay} → HasTaken which r to u (get_or places i 0) w →
      IsWalking which r to w (drop (i + 1) places)
  taken_at taken = walk_more (get_or places i 0) (drop (i + 1) places) (next_first places i within walking) taken

  pub gone_further : {w : UnderWay} → HasTaken which r to u (get_or places i 0) w → (of : ℕ) →
      counts_in u.state of ≤ counts_in w.state of
  gone_further {w = w} taken of =
      let one : counts_in w.state of ≡ bump (counts_in u.state) (get_or places i 0) of =
      ap (λ (g : ℕ → ℕ). g of)
      (one_more (get_or places i 0) (drop (i + 1) places) (next_first places i within walking) taken) in
      let more = bump_more (counts_in u.state) (get_or places i 0) of in
      omega arith

-- no place is left
pub arrived : {which : Which} {r : Recording} {to : Cut} {u : UnderWay} → IsWalking which r to u [] → (whole : List ℕ) →
    Decides (plan_of which r) whole → IsReplayAt which r to u
arrived {u = u} walking whole decides = record {
  plan_is = walking.way.plan_is;
  closed = walking.way.closed;
  state = state_at walking.way whole decides
      (λ core is_due. let there = walking.leads core in let below = is_due.below in absurd (omega arith)) u.state refl;
}
