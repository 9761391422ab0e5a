-- If both instructions of an edge come next, their accesses are next too.
use Rattle.std.proofs.Common.{inl, inr, ◌≡◌, ◌≢◌, ◌⊎◌, ℕ, ◌+◌, List, [], ◌∷◌, ◌++◌, refl, sym, ◌∙◌}
use Rattle.std.proofs.Common.{ap, subst, arith, append_assoc}
use Rattle.rtr_types.specs.declared.access.Access.{Access}
use Rattle.rtr_types.specs.declared.cut.Cut.{Cut}
use Rattle.rtr_types.specs.declared.instr.Instr.{Instr}
use Rattle.rtr_types.specs.declared.pairs.Which.{Which}
use Rattle.conflict_edge.specs.Conflicts.{ConflictPair, Conflicts, StandsIn}
use Rattle.conflict_edge.proofs.AccessPlaces.{stands_which}
use Rattle.conflict_edge.proofs.TwoForms.{cores_differ}
use Rattle.race_log.specs.declared.recording.Recording.{Recording}
use Rattle.race_log.specs.Sources.{HasEdge}
use Rattle.race_log.specs.Validity.{Valid}
use Rattle.rv_core.specs.declared.core_state.Core.{Core}
use Rattle.rv_core.specs.declared.outcome.Outcome.{Outcome}
use Rattle.rv_core.specs.Steps.{need}
use Rattle.replay_core.specs.Plans.{Plan, plan_of}
use Rattle.replay_core.specs.Play.{use_of, need_at, core_at, touched, start, play, played, place}
use Rattle.replay_core.specs.Play.{accesses_from, accesses_of}
use Rattle.replay_core.specs.Orders.{counts, nought, counts_in, Ordered, IsReplayOrder, IsWhole}
use Rattle.replay_core.proofs.Counts.{bump_else, counts_on, one_place}
use Rattle.replay_core.proofs.Lists.{ordered_join, ordered_on, play_on}
use Rattle.replay_core.proofs.Places.{play_law, place_law}
use Rattle.replay_audit.specs.Determinate.{Decides, IsDeterminate, low_accesses, low_order_of}
use Rattle.replay_audit.specs.Laws.{Clash}
use Rattle.replay_audit.proofs.OrdersAgree.{any_whole_law, every_order_law, tame_start, touched_at}
use Rattle.replay_audit.proofs.Front.{Fronts, fronts}
use Rattle.replay_audit.proofs.Rise.{touched_is}
use Rattle.replay_audit.proofs.Swaps.{conflict_clash}
use Rattle.cut_replay.specs.CutStates.{Reaches}
use Rattle.race_cuts.specs.OpenCuts.{IsOpenCut}
use Rattle.race_cuts.specs.Clashes.{ClashNext, ClashNextLaw, ClashAtLaw}
use Rattle.race_cuts.proofs.OpenEdges.{ready_where_open}

-- ---- the place of an access

record Made (p : Plan) (s : Outcome) (order : List ℕ) (a : Access) : Type 0 where
  front : List ℕ
  core : ℕ
  rest : List ℕ
  split : order ≡ front ++ core ∷ rest
  made : StandsIn (touched p (play p s front) core) a

made_at : (p : Plan) (s : Outcome) (order : List ℕ) (a : Access) → StandsIn (accesses_from p s order) a →
    Made p s order a
made_at p s [] a there = absurd there
made_at p s (c ∷ cs) a there =
    by (stands_which (touched p s c) (accesses_from p (place p s c) cs) a there) (made_at p (place p s c) cs a)
  where
    by : StandsIn (touched p s c) a ⊎ StandsIn (accesses_from p (place p s c) cs) a →
        (StandsIn (accesses_from p (place p s c) cs) a → Made p (place p s c) cs a) → Made p s (c ∷ cs) a
    by (inl here) go = record { front = []; core = c; rest = cs; split = refl; made = here }
    by (inr later) go =
        let m = go later in
        record {
          front = c ∷ m.front;
          core = m.core;
          rest = m.rest;
          split = ap (λ (l : List ℕ). c ∷ l) m.split;
          made = m.made;
        }

-- an access of a replay order is made where its core comes to its count
made_there : (p : Plan) (order front : List ℕ) (c : ℕ) (rest : List ℕ) (a : Access) → IsReplayOrder p order →
    order ≡ front ++ c ∷ rest → StandsIn (accesses_of p order) a → a.at.core ≡ c →
    counts nought front c + 1 ≡ a.at.count →
    StandsIn (touched p (played p front) c) a
made_there p order front c rest a ordered split there core count =
    by (made_at p (start p) order a there)
  where
    by : Made p (start p) order a → StandsIn (touched p (played p front) c) a
    by m =
        let at = touched_at p (played p m.front) m.core a m.made in
        let same : m.core ≡ c = sym (ap (λ (i : Instr). i.core) at) ∙ core in
        let of_front : Ordered p nought m.front =
        ((ordered_on p nought m.front (m.core ∷ m.rest)).0
        (subst (λ (l : List ℕ). Ordered p nought l) m.split ordered)).0 in
        let known : counts_in (played p m.front) ≡ counts nought m.front = (play_law p m.front of_front).counts in
        let number : (core_at (played p m.front) m.core).count ≡ counts nought m.front m.core =
        ap (λ (f : ℕ → ℕ). f m.core) known in
        let reach : a.at.count ≡ (core_at (played p m.front) m.core).count + 1 = ap (λ (i : Instr). i.count) at in
        let as_c : counts nought m.front m.core ≡ counts nought m.front c = ap (counts nought m.front) same in
        let there : order ≡ m.front ++ c ∷ m.rest =
        m.split ∙ ap (λ (i : ℕ). m.front ++ i ∷ m.rest) same in
        let fronts : m.front ≡ front = one_place order nought c m.front m.rest front rest there split (omega arith) in
        subst (λ (l : List ℕ). StandsIn (touched p (played p l) c) a) fronts
        (subst (λ (i : ℕ). StandsIn (touched p (played p m.front) i) a) same m.made)

-- ---- the ends of a conflict pair

record Ends (list : List Access) (x y : Instr) : Type 0 where
  a : Access
  b : Access
  first : StandsIn list a
  second : StandsIn list b
  at_first : a.at ≡ x
  at_second : b.at ≡ y
  conflict : Conflicts a b

ends_of : (list : List Access) (x y : Instr) → ConflictPair list x y → Ends list x y
ends_of [] x y p = absurd p
ends_of (c ∷ later) x y (inl p) = record {
  a = c;
  b = p.1;
  first = inl refl;
  second = inr p.2;
  at_first = p.0;
  at_second = p.3;
  conflict = p.4;
}
ends_of (c ∷ later) x y (inr p) =
    let e = ends_of later x y p in
    record {
      a = e.a;
      b = e.b;
      first = inr e.first;
      second = inr e.second;
      at_first = e.at_first;
      at_second = e.at_second;
      conflict = e.conflict;
    }

-- ---- an order that goes on from the cut by the two instructions

module _ (which : Which) (r : Recording) (x y : Instr) (cut : Cut) (order : List ℕ) (valid : Valid r)
    (d : IsDeterminate which r) (has : HasEdge which r x y) (pair : ConflictPair (low_accesses which r) x y)
    (h : IsOpenCut which r x y cut) (reach : Reaches which r cut order) where
  longer : IsReplayOrder (plan_of which r) (order ++ x.core ∷ y.core ∷ [])
  longer =
      let ready = ready_where_open which r x y cut order valid has h reach in
      ordered_join (plan_of which r) nought order (x.core ∷ y.core ∷ []) reach.ordered (ready.0, (ready.1, tt))

  further : Fronts (plan_of which r) (start (plan_of which r)) nought (low_order_of which r)
      (order ++ x.core ∷ y.core ∷ [])
  further = fronts (plan_of which r) (order ++ x.core ∷ y.core ∷ []) (start (plan_of which r)) nought
      (low_order_of which r) (tame_start which r valid) d.ordered d.whole d.plays d.suffices longer

  clash_with : (rest : List ℕ) → IsReplayOrder (plan_of which r) (order ++ x.core ∷ (y.core ∷ rest)) →
      Ends (accesses_of (plan_of which r) (order ++ x.core ∷ (y.core ∷ rest))) x y →
      ClashNext which r (played (plan_of which r) order) x y
  clash_with rest ordered e =
      let p : Plan = plan_of which r in
      let s : Outcome = played p order in
      let next = h.first in
      let then = h.second in
      let here = reach.counts_are x.core in
      let there = reach.counts_are y.core in
      let x_core : e.a.at.core ≡ x.core = ap (λ (i : Instr). i.core) e.at_first in
      let y_core : e.b.at.core ≡ y.core = ap (λ (i : Instr). i.core) e.at_second in
      let x_count : e.a.at.count ≡ x.count = ap (λ (i : Instr). i.count) e.at_first in
      let y_count : e.b.at.count ≡ y.count = ap (λ (i : Instr). i.count) e.at_second in
      let ne : y.core ≢ x.core = λ (q : y.core ≡ x.core).
      cores_differ (low_accesses which r) x y pair (sym q) in
      let one : StandsIn (touched p s x.core) e.a =
      made_there p (order ++ x.core ∷ (y.core ∷ rest)) order x.core (y.core ∷ rest) e.a ordered refl e.first x_core
      (omega arith) in
      let on : counts nought (order ++ x.core ∷ []) y.core ≡ counts nought order y.core =
      ap (λ (f : ℕ → ℕ). f y.core) (counts_on nought order (x.core ∷ []))
      ∙ bump_else (counts nought order) x.core y.core ne in
      let two : StandsIn (touched p (played p (order ++ x.core ∷ [])) y.core) e.b =
      made_there p (order ++ x.core ∷ (y.core ∷ rest)) (order ++ x.core ∷ []) y.core rest e.b ordered
      (sym (append_assoc order (x.core ∷ []) (y.core ∷ rest))) e.second y_core (omega arith) in
      let placed : StandsIn (touched p (place p s x.core) y.core) e.b =
      subst (λ (t : Outcome). StandsIn (touched p t y.core) e.b) (play_on p (start p) order (x.core ∷ [])) two in
      let same : core_at (place p s x.core) y.core ≡ core_at s y.core =
      (place_law p s x.core).other_cores y.core ne in
      subst (λ (k : Core). Clash (use_of (need_at p s x.core)) (use_of (need p.image k))) same
      (conflict_clash (use_of (need_at p s x.core)) (use_of (need_at p (place p s x.core) y.core)) _ _ _ _ _ _ e.a e.b
      (subst (λ (l : List Access). StandsIn l e.a) (touched_is p s x.core) one)
      (subst (λ (l : List Access). StandsIn l e.b) (touched_is p (place p s x.core) y.core) placed) e.conflict)

  clash_next : ClashNext which r (played (plan_of which r) order) x y
  clash_next =
      let p : Plan = plan_of which r in
      let go = further in
      let longest : List ℕ = (order ++ x.core ∷ y.core ∷ []) ++ go.rest in
      let is : longest ≡ order ++ x.core ∷ (y.core ∷ go.rest) = append_assoc order (x.core ∷ y.core ∷ []) go.rest in
      let ordered : IsReplayOrder p longest = go.same.ordered in
      let whole : IsWhole p longest =
      record { each = λ i lt. ap (λ (g : ℕ → ℕ). g i) go.same.tally ∙ d.whole.each i lt } in
      let decides : Decides p longest = (any_whole_law which r longest valid ordered whole).0 d in
      let there : ConflictPair (accesses_of p longest) x y =
      (every_order_law which r longest (low_order_of which r) valid decides d.ordered).pairs x y pair in
      clash_with go.rest (subst (λ (l : List ℕ). IsReplayOrder p l) is ordered)
      (ends_of (accesses_of p (order ++ x.core ∷ (y.core ∷ go.rest))) x y
      (subst (λ (l : List ℕ). ConflictPair (accesses_of p l) x y) is there))

pub clash_next_law : ClashNextLaw
clash_next_law which r x y cut order valid d has pair h reach =
    clash_next which r x y cut order valid d has pair h reach

pub clash_at_law : ClashAtLaw
clash_at_law which r x y cut s valid d has pair h state =
    let o = state.some_order in
    let is = (state.every_order o.0 o.1).outcome_is in
    subst (λ (t : Outcome). ClashNext which r t x y) (sym is)
    (clash_next_law which r x y cut o.0 valid d has pair h o.1)
