-- The order of retirement is a replay order of each log whose edges go forward in it.
use Rattle.std.proofs.Common.{◌≡◌, ◌≢◌, ◌∙◌, refl, sym, ap, subst, ℕ, zero, suc, ◌+◌, ◌<◌, ◌≤◌, ◌^◌, List, [], ◌∷◌}
use Rattle.std.proofs.Common.{◌++◌, length, Some, arith, inl, inr}
use Rattle.std.specs.Prelude.{map, slice_index}
use Rattle.std.specs.List.{Contains}
use Rattle.std.proofs.lemmas.List.{map-append, get_or-map, length-map}
use Rattle.image_mem.specs.Contents.{Contents}
use Rattle.rtr_types.specs.declared.TheConstants.{CORES_MAX}
use Rattle.rtr_types.specs.declared.access.Access.{Access}
use Rattle.rtr_types.specs.declared.instr.Edge.{Edge}
use Rattle.rtr_types.specs.declared.instr.Instr.{Instr}
use Rattle.rtr_types.specs.declared.params.Params.{Params}
use Rattle.rv_core.specs.States.{starting}
use Rattle.rv_core.specs.declared.core_state.Core.{Core}
use Rattle.conflict_edge.specs.Conflicts.{ConflictPair, StandsIn}
use Rattle.conflict_edge.proofs.AccessPlaces.{stands_which}
use Rattle.machine_bound.proofs.RunEnds.{run_cores}
use Rattle.msi_state.specs.Events.{Event, Nothing, Retires, Accesses, instr_of}
use Rattle.msi_state.specs.Runs.{accesses, accesses_in, event_at, retired_in, retirements}
use Rattle.replay_core.specs.Plans.{Plan}
use Rattle.replay_core.specs.Play.{instr}
use Rattle.replay_core.specs.Orders.{Full, Ordered, Ready, counts, nought}
use Rattle.replay_core.proofs.Lists.{ordered_join}
use Rattle.replay_core.proofs.Ready.{within_sourced}
use Rattle.run_outcome.specs.Retirement.{RetiresAt, retired_count}
use Rattle.run_outcome.proofs.RunAccesses.{run_retired}
use Rattle.run_outcome.proofs.Later.{goes}
use Rattle.run_outcome.proofs.RetiredCounts.{run_tells}
use Rattle.run_outcome.proofs.RunCores.{cores_at}
use Rattle.run_replays.specs.Orders.{cores_of}
use Rattle.run_replays.proofs.OrderCounts.{order_counts}
use Rattle.run_replays.proofs.RunPlay.{order_at, run_plan}

-- ---- conflict pairs of longer lists

-- the later access of a pair
pair_end : (list : List Access) (x y : Instr) → ConflictPair list x y → (b : Access) × StandsIn list b × (b.at ≡ y)
pair_end [] x y pair = absurd pair
pair_end (a ∷ list) x y (inl p) = (p.1, inr p.2, p.3)
pair_end (a ∷ list) x y (inr p) = let it = pair_end list x y p in (it.0, inr it.1, it.2)

-- a pair whose later access isn't in the back is one of the front
front_pair : (xs ys : List Access) (x y : Instr) → ((b : Access) → StandsIn ys b → b.at ≢ y) →
    ConflictPair (xs ++ ys) x y
    → ConflictPair xs x y
front_pair [] ys x y none pair = let it = pair_end ys x y pair in absurd (none it.0 it.1 it.2)
front_pair (a ∷ xs) ys x y none (inl p) = elim (stands_which xs ys p.1 p.2) [
  | inl there ↦ inl (p.0, p.1, there, p.3, p.4)
  | inr there ↦ absurd (none p.1 there p.3)
]
front_pair (a ∷ xs) ys x y none (inr p) = inr (front_pair xs ys x y none p)

-- the earlier access of a pair is in the front where the back has no pair
pair_start : (xs ys : List Access) (x y : Instr) → (ConflictPair ys x y → ⊥) → ConflictPair (xs ++ ys) x y
    → (a : Access) × StandsIn xs a × (a.at ≡ x)
pair_start [] ys x y none pair = absurd (none pair)
pair_start (a ∷ xs) ys x y none (inl p) = (a, inl refl, p.0)
pair_start (a ∷ xs) ys x y none (inr p) = let it = pair_start xs ys x y none p in (it.0, inr it.1, it.2)

no_pair_in : (e : Event) (x y : Instr) → ConflictPair (accesses_in e) x y → ⊥
no_pair_in Nothing x y pair = pair
no_pair_in (Retires at) x y pair = pair
no_pair_in (Accesses a) x y (inl p) = p.2
no_pair_in (Accesses a) x y (inr p) = p

-- ---- conflicts go forward

-- the earlier of two accesses that conflict has retired when the later does
pub conflicts_forward : (image : Contents) (params : Params) (choices : ℕ → ℕ) (t u : ℕ) → params.cores ≤ CORES_MAX
    → params.limit < 2 ^ 32 → t < u → (x y : Instr) → ConflictPair (accesses image params choices u) x y
    → RetiresAt image params choices t y → x.count ≤ retired_count image params choices t x.core
conflicts_forward image params choices t u few small lt x y pair retires =
    let e : Event = event_at image params choices t in
    let list : List Access = accesses image params choices t in
    let told = run_tells image params choices t few small in
    let on = goes image params choices (suc t) u few small (omega (arith, lt)) in
    let reached : y.count ≡ retired_count image params choices (suc t) y.core = told.reached y retires in
    let there : ConflictPair (list ++ accesses_in e) x y =
    front_pair (accesses image params choices (suc t)) on.rest x y
    (λ b stands is.
    let above = on.above b stands in
    let same = ap (λ (i : Instr). i.count) is in
    let core = ap (λ (i : Instr). retired_count image params choices (suc t) i.core) is in
    omega (arith, above, same, core, reached))
    (subst (λ (l : List Access). ConflictPair l x y) on.is pair) in
    let first = pair_start list (accesses_in e) x y (no_pair_in e x y) there in
    subst (λ (i : Instr). i.count ≤ retired_count image params choices t i.core) first.2
    ((run_retired image params choices t few small).retired first.0 first.1)

-- ---- whole

abbrev pub totals_at : Contents → Params → (ℕ → ℕ) → ℕ → List ℕ
totals_at image params choices t = map (λ k. k.count) (cores_at image params choices t)

pub totals_long : (image : Contents) (params : Params) (choices : ℕ → ℕ) (t : ℕ)
    → length (totals_at image params choices t) ≡ params.cores
totals_long image params choices t =
    length-map (cores_at image params choices t) (λ k. k.count) ∙ run_cores image params choices t

-- each core's total
total_is : (image : Contents) (params : Params) (choices : ℕ → ℕ) (t c : ℕ) → c < params.cores
    → slice_index (totals_at image params choices t) c ≡ retired_count image params choices t c
total_is image params choices t c within =
    get_or-map (λ (k : Core). k.count) (cores_at image params choices t) c (starting 0 0) 0
    (let long = run_cores image params choices t in omega (arith, within, long))

pub order_full : (image : Contents) (params : Params) (choices : ℕ → ℕ) (t : ℕ) (edges : List Edge)
    → params.cores ≤ CORES_MAX → params.limit < 2 ^ 32
    → Full (run_plan image params (totals_at image params choices t) edges)
    (counts nought (order_at image params choices t))
order_full image params choices t edges few small = record {
  each = λ c within.
      sym (order_counts image params choices t few small c)
      ∙ sym (total_is image params choices t c (subst (λ n. c < n) (totals_long image params choices t) within));
}

-- ---- ordered

-- whenever the edge's target retires its source has retired, within the first `end` choices
abbrev pub GoForward : Contents → Params → (ℕ → ℕ) → (end : ℕ) → List Edge → Type 0
GoForward image params choices end edges =
    (x y : Instr) → Contains edges (record { from = x; to = y }) → (t : ℕ) → t < end →
    RetiresAt image params choices t y
    → x.count ≤ retired_count image params choices t x.core

module _ (image : Contents) (params : Params) (choices : ℕ → ℕ) (end : ℕ) (edges : List Edge)
    (few : params.cores ≤ CORES_MAX) (small : params.limit < 2 ^ 32) (forward : GoForward image params choices end
    edges) where
  abbrev p : Plan
  p = run_plan image params (totals_at image params choices end) edges

  abbrev placed : ℕ → ℕ → ℕ
  placed t = counts nought (order_at image params choices t)

  -- the instruction that retires is ready
  next_ready : (t : ℕ) → t < end → (at : Instr) → RetiresAt image params choices t at → Ready p (placed t) at.core
  next_ready t lt at retires =
      let told = run_tells image params choices t few small in
      let next = told.next at retires in
      let on = goes image params choices (suc t) end few small (omega (arith, lt)) in
      let now : retired_count image params choices t at.core ≡ placed t at.core =
      order_counts image params choices t few small at.core in
      record {
        inside = subst (λ n. at.core < n) (sym (totals_long image params choices end)) next.core;
        below =
            let total = total_is image params choices end at.core next.core in
            let up = on.more at.core in
            let reached = told.reached at retires in
            let count = next.count in
            omega (arith, total, up, reached, count, now);
        sourced = within_sourced edges (placed t) at.core (placed t at.core + 1) (λ x edge.
            let count : placed t at.core + 1 ≡ at.count = sym (next.count ∙ ap (λ n. n + 1) now) in
            let here : Contains edges (record { from = x; to = at }) =
            subst (λ n. Contains edges (record { from = x; to = instr at.core n })) count edge in
            let retired = forward x at here t lt retires in
            let same = order_counts image params choices t few small x.core in
            omega (arith, retired, same));
      }

  event_ordered : (f : ℕ → ℕ) (e : Event) → ((at : Instr) → instr_of e ≡ Some at → Ready p f at.core)
      → Ordered p f (cores_of (retired_in e))
  event_ordered f Nothing ready = tt
  event_ordered f (Retires at) ready = (ready at refl, tt)
  event_ordered f (Accesses a) ready = (ready a.at refl, tt)

  pub order_ordered : (t : ℕ) → t ≤ end → Ordered p nought (order_at image params choices t)
  order_ordered zero le = tt
  order_ordered (suc t) le =
      let e : Event = event_at image params choices t in
      let order : List ℕ = order_at image params choices t in
      subst (λ (longer : List ℕ). Ordered p nought longer)
      (sym (map-append (λ (at : Instr). at.core) (retirements image params choices t) (retired_in e)))
      (ordered_join p nought order (cores_of (retired_in e)) (order_ordered t (omega (arith, le)))
      (event_ordered (placed t) e (next_ready t (omega (arith, le)))))
