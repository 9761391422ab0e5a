-- The replay orders that reach a closed cut: there are some, and they all come to one state.
use Rattle.std.proofs.Common.{inl, inr, ◌≡◌, ◌⊎◌, ℕ, ◌+◌, ◌<◌, ◌≤◌, List, [], ◌∷◌, ◌++◌}
use Rattle.std.proofs.Common.{append-nil, length, map, refl, sym, ap, ◌∙◌, subst, arith}
use Rattle.std.specs.Prelude.{slice_index}
use Rattle.std.specs.List.{Contains, range_with_len}
use Rattle.std.proofs.lemmas.List.FromFn.{length-map-range_with_len, get_or-map-range_with_len}
use Rattle.std.proofs.lemmas.Bool.{cases_lt}
use native.Mathlib.Decide.{ℕ_discrete}
use Rattle.rtr_types.specs.declared.cut.Cut.{Cut}
use Rattle.rtr_types.specs.declared.instr.Instr.{Instr}
use Rattle.rtr_types.specs.declared.access.Access.{Access}
use Rattle.rtr_types.specs.declared.pairs.Which.{Which}
use Rattle.conflict_edge.specs.Conflicts.{ConflictPair}
use Rattle.rv_core.specs.declared.outcome.Outcome.{Outcome}
use Rattle.race_log.specs.declared.recording.Recording.{Recording}
use Rattle.race_log.specs.Validity.{Valid}
use Rattle.replay_core.specs.Plans.{Plan, plan_of}
use Rattle.replay_core.specs.Play.{instr, start, play, played, accesses_of, accesses_from, Plays}
use Rattle.replay_core.specs.Orders.{bump, counts, nought, Ready, Ordered, Full, IsReplayOrder, IsWhole}
use Rattle.replay_core.proofs.Counts.{bump_same, bump_else, counts_more}
use Rattle.replay_core.proofs.Images.{by_image, same_start}
use Rattle.replay_core.proofs.Lists.{ordered_on}
use Rattle.replay_core.proofs.Places.{start_known}
use Rattle.replay_core.proofs.Ready.{source_within, within_sourced}
use Rattle.replay_audit.specs.Determinate.{Decides}
use Rattle.replay_audit.specs.Laws.{Agrees}
use Rattle.replay_audit.proofs.OrdersAgree.{every_order_law}
use Rattle.replay_audit.proofs.Front.{Tame, Fronts, fronts}
use Rattle.replay_audit.proofs.Logs.{closed_none}
use Rattle.cut_replay.specs.ClosedCuts.{count_in}
use Rattle.cut_replay.specs.CutStates.{Reaches, PlaysTo}

-- ---- the recording as far as the cut goes

-- with the cut's counts for its totals
abbrev pub cut_plan : Plan → Cut → Plan
cut_plan p cut = record {
  image = p.image;
  limit = p.limit;
  totals = map (λ c. count_in cut c) (range_with_len 0 (length p.totals));
  edges = p.edges;
}

module _ (p : Plan) (cut : Cut) where
  all : length (cut_plan p cut).totals ≡ length p.totals
  all = length-map-range_with_len (λ c. count_in cut c) 0 (length p.totals)

  total_is : (c : ℕ) → c < length p.totals → slice_index (cut_plan p cut).totals c ≡ count_in cut c
  total_is c lt = get_or-map-range_with_len (λ i. count_in cut i) 0 (length p.totals) c c 0 lt (omega arith)

  -- an order within the cut is one of it
  pub ordered_in : (f : ℕ → ℕ) (order : List ℕ) → Ordered p f order →
      ((c : ℕ) → counts f order c ≤ count_in cut c) → Ordered (cut_plan p cut) f order
  ordered_in f [] o within = tt
  ordered_in f (c ∷ cs) o within = (
    record {
      inside = let lt = o.0.inside in let e = all in omega arith;
      below =
          let e = total_is c o.0.inside in
          let more = bump_same f c c refl in
          let rise = counts_more (bump f c) cs c in
          let le = within c in
          omega arith;
      sourced = o.0.sourced;
    },
    ordered_in (bump f c) cs o.1 within,
  )

  -- and is whole where it reaches the cut
  pub full_in : (f : ℕ → ℕ) → ((c : ℕ) → f c ≡ count_in cut c) → Full (cut_plan p cut) f
  full_in f is = record { each = λ c lt. is c ∙ sym (total_is c (let e = all in omega arith)) }

  start_in : start p ≡ start (cut_plan p cut)
  start_in = same_start p (cut_plan p cut) refl refl (sym all)

  pub played_in : (order : List ℕ) → played p order ≡ played (cut_plan p cut) order
  played_in order = (by_image p (cut_plan p cut) (start p) order refl).outcome
      ∙ ap (λ (s : Outcome). play (cut_plan p cut) s order) start_in

  plays_in : (order : List ℕ) → Plays p (start p) order → Plays (cut_plan p cut) (start (cut_plan p cut)) order
  plays_in order h = subst (λ (s : Outcome). Plays (cut_plan p cut) s order) start_in
      ((by_image p (cut_plan p cut) (start p) order refl).plays.0 h)

  accesses_in : (order : List ℕ) → accesses_of p order ≡ accesses_of (cut_plan p cut) order
  accesses_in order = (by_image p (cut_plan p cut) (start p) order refl).accesses_from
      ∙ ap (λ (s : Outcome). accesses_from (cut_plan p cut) s order) start_in

-- ---- one state

module _ (which : Which) (r : Recording) (valid : Valid r) (whole : List ℕ) (decides : Decides (plan_of which r) whole)
    (cut : Cut) where
  abbrev p : Plan
  p = plan_of which r

  abbrev q : Plan
  q = cut_plan (plan_of which r) cut

  agrees : (order : List ℕ) → IsReplayOrder (plan_of which r) order → Agrees (plan_of which r) whole order
  agrees order ordered = every_order_law which r whole order valid decides ordered

  tame : Tame (cut_plan (plan_of which r) cut) (start (cut_plan (plan_of which r) cut)) nought
  tame = record { known = start_known q; closed = closed_none which r valid }

  within : (order : List ℕ) → Reaches which r cut order → (c : ℕ) → counts nought order c ≤ count_in cut c
  within order h c = let e = h.counts_are c in omega arith

  -- the one can stand for the other
  fronts_in : (order other : List ℕ) → Reaches which r cut order → Reaches which r cut other →
      Fronts (cut_plan (plan_of which r) cut) (start (cut_plan (plan_of which r) cut)) nought order other
  fronts_in order other h k =
      let a : Agrees p whole order = agrees order h.ordered in
      fronts q other (start q) nought order tame (ordered_in p cut nought order h.ordered (within order h))
      (full_in p cut (counts nought order) h.counts_are)
      (plays_in p cut order a.plays)
      (λ x y c. a.suffices x y (subst (λ (l : List Access). ConflictPair l x y) (sym (accesses_in p cut order)) c))
      (ordered_in p cut nought other k.ordered (within other k))

  last : (order other rest : List ℕ) → Reaches which r cut other →
      Ordered (cut_plan (plan_of which r) cut) nought (other ++ rest) →
      played (cut_plan (plan_of which r) cut) (other ++ rest) ≡ played (cut_plan (plan_of which r) cut) order →
      played (cut_plan (plan_of which r) cut) other ≡ played (cut_plan (plan_of which r) cut) order
  last order other [] k o e = ap (λ (l : List ℕ). played q l) (sym (append-nil other)) ∙ e
  last order other (c ∷ cs) k o e =
      let ready : Ready q (counts nought other) c = ((ordered_on q nought other (c ∷ cs)).0 o).1.0 in
      let below = ready.below in
      let full = (full_in p cut (counts nought other) k.counts_are).each c ready.inside in
      absurd (omega arith)

  pub one_state : (order other : List ℕ) → Reaches which r cut order → Reaches which r cut other →
      played (plan_of which r) order ≡ played (plan_of which r) other
  one_state order other h k =
      let f = fronts_in order other h k in
      played_in p cut order ∙ sym (last order other f.rest k f.same.ordered f.same.ends) ∙ sym (played_in p cut other)

  pub plays_to : (order other : List ℕ) (outcome : Outcome) → Reaches which r cut order →
      outcome ≡ played (plan_of which r) order →
      Reaches which r cut other → PlaysTo which r other outcome
  plays_to order other outcome h is k =
      record { plays = (agrees other k.ordered).plays; outcome_is = is ∙ one_state order other h k }

-- ---- some core can go on within a closed cut, until it is reached

module _ (p : Plan) (cut : Cut) (f : ℕ → ℕ)
    -- each edge into the cut comes from it
    (closed : (x y : Instr) → Contains p.edges (record { from = x; to = y }) → y.count ≤ count_in cut y.core →
    x.count ≤ count_in cut x.core)
    -- and no core that has not come so far is ready
    (none : (c : ℕ) → f c < count_in cut c → Ready p f c → ⊥) where
  -- what a front of the order has of the cut, the counts have
  abbrev HasFront : (ℕ → ℕ) → Type 0
  HasFront g = (c n : ℕ) → n ≤ g c → n ≤ count_in cut c → n ≤ f c

  -- the core's next instruction is in the cut: its sources are in the cut and in the front
  next_in : (g : ℕ → ℕ) (c : ℕ) → HasFront g → Ready p g c → g c + 1 ≤ count_in cut c → g c + 1 ≤ f c
  next_in g c has ready le = by (cases_lt (f c) (g c + 1))
    where
      sources : f c ≡ g c → (from : Instr) → Contains p.edges (record { from = from; to = instr c (f c + 1) }) →
          from.count ≤ f from.core
      sources e from there =
          let in_front = source_within p.edges g c (g c + 1) ready.sourced from
          (subst (λ (n : ℕ). Contains p.edges (record { from = from; to = instr c (n + 1) })) e there) in
          let in_cut = closed from (instr c (f c + 1)) there (omega arith) in
          has from.core from.count in_front in_cut

      by : (f c < g c + 1) ⊎ (g c + 1 ≤ f c) → g c + 1 ≤ f c
      by (inr most) = most
      by (inl more) =
          let back = has c (g c) (omega arith) (omega arith) in
          let same : f c ≡ g c = omega arith in
          let lt = ready.below in
          let here : f c < slice_index p.totals c = omega arith in
          absurd (none c (omega arith)
          (record {
            inside = ready.inside;
            below = here;
            sourced =
                within_sourced p.edges f c (f c + 1) (sources same);
          }))

  front_on : (g : ℕ → ℕ) (c : ℕ) → HasFront g → Ready p g c → HasFront (bump g c)
  front_on g c has ready d n le in_cut = elim (ℕ_discrete d c) [
    | yes e ↦ own e (cases_lt (g c) n)
    | no ne ↦ let same = bump_else g c d ne in has d n (omega arith) in_cut
  ]
    where
      own : d ≡ c → (g c < n) ⊎ (n ≤ g c) → n ≤ f d
      own e (inr most) = let s : g d ≡ g c = ap g e in has d n (omega arith) in_cut
      own e (inl more) =
          let up = bump_same g c d e in
          let s : g d ≡ g c = ap g e in
          let t : f d ≡ f c = ap f e in
          let v : count_in cut d ≡ count_in cut c = ap (λ (i : ℕ). count_in cut i) e in
          let there = next_in g c has ready (omega arith) in
          omega arith

  along : (g : ℕ → ℕ) (order : List ℕ) → HasFront g → Ordered p g order → HasFront (counts g order)
  along g [] has o = has
  along g (c ∷ cs) has o = along (bump g c) cs (front_on g c has o.0) o.1

  -- so the counts have all of it
  pub all_there : (order : List ℕ) → IsReplayOrder p order → IsWhole p order →
      ((c : ℕ) → c < length p.totals → count_in cut c ≤ slice_index p.totals c) →
      (c : ℕ) → c < length p.totals → count_in cut c ≤ f c
  all_there order o whole most c lt =
      let e = whole.each c lt in
      let m = most c lt in
      along nought order (λ d n le in_cut. omega arith) o c (count_in cut c) (omega arith) (omega arith)
