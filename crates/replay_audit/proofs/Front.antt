-- Every replay order is, up to neighbours that change places, the front of a given whole one.
use Rattle.std.proofs.Common.{◌≡◌, ℕ, subst, ◌+◌, ◌<◌, ◌≤◌, ◌≢◌, false, List, [], ◌∷◌, ◌++◌, sym, refl, ap, ◌∙◌, arith}
use Rattle.std.proofs.Math.Path.{fun_ext}
use Rattle.std.specs.Prelude.{Option, None}
use native.Mathlib.Decide.{ℕ_discrete}
use Rattle.rtr_types.specs.declared.instr.Instr.{Instr}
use Rattle.rtr_types.specs.declared.instr.Edge.{Edge}
use Rattle.rtr_types.specs.declared.access.Access.{Access}
use Rattle.clock_core.specs.Order.{Within, Among}
use Rattle.conflict_edge.specs.Conflicts.{Conflicts, ConflictPair, StandsIn}
use Rattle.conflict_edge.specs.Least.{Suffices}
use Rattle.rv_core.specs.declared.core_state.Core.{Core}
use Rattle.rv_core.specs.declared.outcome.Outcome.{Outcome}
use Rattle.rv_core.specs.Steps.{need, is_done}
use Rattle.replay_core.specs.Plans.{Plan}
use Rattle.replay_core.specs.Play.{Given, no_values, instr, core_at, need_at, accesses_by, place, place_given}
use Rattle.replay_core.specs.Play.{given_next, valued_place, valued_touch, valued_play}
use Rattle.replay_core.specs.Play.{accesses_from, valued_accesses_from, Plays, ValuedPlays}
use Rattle.replay_core.specs.Orders.{bump, counts, Sourced, Ready, Ordered, Full}
use Rattle.replay_core.specs.Laws.{PlayKnown}
use Rattle.replay_core.proofs.Counts.{bump_same, bump_else, bump_more}
use Rattle.replay_core.proofs.Places.{place_given_law, given_known}
use Rattle.replay_audit.proofs.Pairs.{Parts, parts_after, pairs_after, pairs_right, pairs_swap, parts_swap}
use Rattle.replay_audit.proofs.Pairs.{pairs_across_at}
use Rattle.replay_audit.proofs.Logs.{Closed, closed_bump, ready_before}
use Rattle.replay_audit.specs.Laws.{Clash}
use Rattle.replay_audit.proofs.Swaps.{use_in, valued_use, valued_old, valued_new, valued_touch_is, clash_back, Meets}
use Rattle.replay_audit.proofs.Swaps.{clash_meets, conflict_clash, touched_place}
use Rattle.replay_audit.proofs.Swaps.{place_swap}
use Rattle.conflict_edge.proofs.AccessPlaces.{stands_left}

-- ---- counts

pub bump_both : (f : ℕ → ℕ) (c d : ℕ) → c ≢ d → bump (bump f d) c ≡ bump (bump f c) d
bump_both f c d ne = fun_ext at
  where
    not_c : (i : ℕ) → i ≢ c → bump (bump f d) c i ≡ bump (bump f c) d i
    not_c i n = elim (ℕ_discrete i d) [
      | yes e ↦
          let a = bump_else (bump f d) c i n in let b = bump_same f d i e in let g = bump_same (bump f c) d i e in
          let h = bump_else f c i n in omega arith
      | no m ↦
          let a = bump_else (bump f d) c i n in let b = bump_else f d i m in let g = bump_else (bump f c) d i m in
          let h = bump_else f c i n in omega arith
    ]

    at : (i : ℕ) → bump (bump f d) c i ≡ bump (bump f c) d i
    at i = elim (ℕ_discrete i c) [
      | yes e ↦
          let m : i ≢ d = λ q. ne (sym e ∙ q) in
          let a = bump_same (bump f d) c i e in let b = bump_else f d i m in let g = bump_else (bump f c) d i m in
          let h = bump_same f c i e in omega arith
      | no n ↦ not_c i n
    ]

pub sourced_more : (edges : List Edge) (f g : ℕ → ℕ) (c n : ℕ) → ((i : ℕ) → f i ≤ g i) → Sourced edges f c n →
    Sourced edges g c n
sourced_more [] f g c n le s = tt
sourced_more (e ∷ edges) f g c n le s =
    ((λ p q. let a = s.0 p q in let b = le e.from.core in omega arith), sourced_more edges f g c n le s.1)

-- a core stays ready where others go on
pub ready_else : (p : Plan) (f : ℕ → ℕ) (c d : ℕ) → c ≢ d → Ready p f c → Ready p (bump f d) c
ready_else p f c d ne h =
    let e : bump f d c ≡ f c = bump_else f d c ne in
    record {
      inside = h.inside;
      below = let a = h.below in omega arith;
      sourced = subst (λ (n : ℕ). Sourced p.edges (bump f d) c (n + 1)) (sym e)
          (sourced_more p.edges f (bump f d) c (f c + 1) (bump_more f d) h.sourced);
    }

-- the outcome is what the counts say, and the counts have each source of what they have
pub record Tame (p : Plan) (s : Outcome) (f : ℕ → ℕ) : Type 0 where
  pub known : PlayKnown p f s
  pub closed : Closed p.edges f

pub tame_given : (given : Option ℕ) (p : Plan) (s : Outcome) (f : ℕ → ℕ) (c : ℕ) → Tame p s f → Ready p f c →
    Tame p (place_given p s c given) (bump f c)
tame_given given p s f c t ready =
    record { known = given_known given p f s c t.known ready; closed = closed_bump p f c ready t.closed }

pub tame_place : (p : Plan) (s : Outcome) (f : ℕ → ℕ) (c : ℕ) → Tame p s f → Ready p f c →
    Tame p (place p s c) (bump f c)
tame_place p s f c t ready = tame_given None p s f c t ready

pub counted : (p : Plan) (s : Outcome) (f : ℕ → ℕ) (c : ℕ) → Tame p s f → (core_at s c).count ≡ f c
counted p s f c t = ap (λ (g : ℕ → ℕ). g c) t.known.counts

-- c stands in none of the places
abbrev pub Absent : ℕ → List ℕ → Type 0
Absent c [] = Unit {0}
Absent c (d ∷ ds) = (c ≢ d) × Absent c ds

-- the first place of a core
pub record First (c : ℕ) (order : List ℕ) : Type 0 where
  pub front : List ℕ
  pub rest : List ℕ
  pub is : order ≡ front ++ c ∷ rest
  pub absent : Absent c front

pub first_of_core : (f : ℕ → ℕ) (c : ℕ) (order : List ℕ) → f c < counts f order c → First c order
first_of_core f c [] lt = absurd (omega arith)
first_of_core f c (d ∷ ds) lt = by (ℕ_discrete c d) (first_of_core (bump f d) c ds)
  where
    by : Dec (c ≡ d) → (bump f d c < counts f (d ∷ ds) c → First c ds) → First c (d ∷ ds)
    by (yes e) go = record { front = []; rest = ds; is = ap (λ (x : ℕ). x ∷ ds) (sym e); absent = tt }
    by (no ne) go = let h = bump_else f d c ne in let z = go (omega arith) in
        record { front = d ∷ z.front; rest = z.rest; is = ap (λ (l : List ℕ). d ∷ l) z.is; absent = (ne, z.absent) }

-- ---- orders

module _ (given : Given) where
  -- the one order can stand for the other
  pub record Same (p : Plan) (s : Outcome) (f : ℕ → ℕ) (xs ys : List ℕ) : Type 0 where
    pub ordered : Ordered p f ys
    pub plays : ValuedPlays given p s ys
    pub ends : valued_play given p s ys ≡ valued_play given p s xs
    pub tally : counts f ys ≡ counts f xs
    pub pairs : Within (ConflictPair (valued_accesses_from given p s ys))
        (ConflictPair (valued_accesses_from given p s xs))
    pub parts : Parts (valued_accesses_from given p s ys) (valued_accesses_from given p s xs)

  pub same_itself : (p : Plan) (s : Outcome) (f : ℕ → ℕ) (xs : List ℕ) → Ordered p f xs → ValuedPlays given p s xs →
      Same p s f xs xs
  same_itself p s f xs o h =
      record { ordered = o; plays = h; ends = refl; tally = refl; pairs = λ x y q. q; parts = λ a q. q }

  pub same_then : (p : Plan) (s : Outcome) (f : ℕ → ℕ) (xs ys zs : List ℕ) → Same p s f xs ys → Same p s f ys zs →
      Same p s f xs zs
  same_then p s f xs ys zs g h = record {
    ordered = h.ordered;
    plays = h.plays;
    ends = h.ends ∙ g.ends;
    tally = h.tally ∙ g.tally;
    pairs = λ x y q. g.pairs x y (h.pairs x y q);
    parts = λ a q. g.parts a (h.parts a q);
  }

  pub same_after : (p : Plan) (s : Outcome) (f : ℕ → ℕ) (d : ℕ) (xs ys : List ℕ) → Ready p f d →
      is_done (need_at p s d) ≡ false →
      Same p (valued_place given p s d) (bump f d) xs ys → Same p s f (d ∷ xs) (d ∷ ys)
  same_after p s f d xs ys ready go h = record {
    ordered = (ready, h.ordered);
    plays = (go, h.plays);
    ends = h.ends;
    tally = h.tally;
    pairs = pairs_after (valued_touch given p s d) (valued_accesses_from given p (valued_place given p s d) ys)
        (valued_accesses_from given p (valued_place given p s d) xs) h.parts h.pairs;
    parts = parts_after (valued_touch given p s d) (valued_accesses_from given p (valued_place given p s d) ys)
        (valued_accesses_from given p (valued_place given p s d) xs) h.parts;
  }

  -- where the log orders the conflicts, the next accesses of two cores that are ready don't conflict
  pub no_clash : (p : Plan) (s : Outcome) (f : ℕ → ℕ) (c d : ℕ) (zs : List ℕ) → Tame p s f → c ≢ d → Ready p f c →
      Ready p f d →
      Suffices (valued_accesses_from given p s (d ∷ c ∷ zs)) (Among p.edges) →
      Clash (valued_use given p s d) (valued_use given p s c) → ⊥
  no_clash p s f c d zs t ne rc rd suf clash =
      let e : core_at (valued_place given p s d) c ≡ core_at s c =
      (place_given_law p s d (given_next given s d)).other_cores c ne in
      let clash_there : Clash (valued_use given p s d) (valued_use given p (valued_place given p s d) c) =
      subst (λ (k : Core). Clash (valued_use given p s d) (use_in given p c k)) (sym e) clash in
      let x : Instr = instr d ((core_at s d).count + 1) in
      let y : Instr = instr c ((core_at (valued_place given p s d) c).count + 1) in
      let meets : Meets (accesses_by (valued_use given p s d) x (valued_old given p s d) (valued_new given p s d))
      (accesses_by (valued_use given p (valued_place given p s d) c) y (valued_old given p (valued_place given p s d) c)
      (valued_new given p (valued_place given p s d) c)) x y =
      clash_meets (valued_use given p s d) (valued_use given p (valued_place given p s d) c) x y
      (valued_old given p s d) (valued_new given p s d) (valued_old given p (valued_place given p s d) c)
      (valued_new given p (valued_place given p s d) c)
      (λ q. ne (sym q)) clash_there in
      let one : StandsIn (valued_touch given p s d) meets.first =
      subst (λ (l : List Access). StandsIn l meets.first) (sym (valued_touch_is given p s d)) meets.first_stands in
      let two : StandsIn (valued_touch given p (valued_place given p s d) c) meets.second =
      subst (λ (l : List Access). StandsIn l meets.second)
      (sym (valued_touch_is given p (valued_place given p s d) c)) meets.second_stands in
      let pair : ConflictPair (valued_accesses_from given p s (d ∷ c ∷ zs)) x y =
      pairs_across_at (valued_touch given p s d)
      (valued_touch given p (valued_place given p s d) c ++ valued_accesses_from given p
      (valued_place given p (valued_place given p s d) c) zs) meets.first meets.second x y one
      (stands_left (valued_touch given p (valued_place given p s d) c)
      (valued_accesses_from given p (valued_place given p (valued_place given p s d) c) zs) meets.second two)
      meets.first_at meets.second_at meets.conflict in
      let fd = counted p s f d t in
      let fc : y.count ≡ f c + 1 = ap (λ (k : Core). k.count + 1) e ∙ ap (λ (n : ℕ). n + 1) (counted p s f c t) in
      let le : (core_at s d).count + 1 ≤ f d = ready_before p f c x y t.closed rc refl fc (suf x y pair) in
      omega arith

  swap : (plan : Plan) (state : Outcome) (come : ℕ → ℕ) (c d : ℕ) (zs : List ℕ) → Tame plan state come → c ≢ d →
      Ready plan come c →
      Ordered plan come (d ∷ c ∷ zs) → ValuedPlays given plan state (d ∷ c ∷ zs) →
      (Clash (valued_use given plan state d) (valued_use given plan state c) → ⊥) →
      Same plan state come (d ∷ c ∷ zs) (c ∷ d ∷ zs)
  swap plan state come c d zs tame differ ready ordered plays free =
      let other : d ≢ c = λ e. differ (sym e) in
      let back : Clash (valued_use given plan state c) (valued_use given plan state d) → ⊥ =
      λ k. free (clash_back (valued_use given plan state c) (valued_use given plan state d) k) in
      let both : bump (bump come d) c ≡ bump (bump come c) d = bump_both come c d differ in
      let mm : valued_place given plan (valued_place given plan state d) c
      ≡ valued_place given plan (valued_place given plan state c) d =
      place_swap given plan state c d differ free in
      let ec : core_at (valued_place given plan state d) c ≡ core_at state c =
      (place_given_law plan state d (given_next given state d)).other_cores c differ in
      let ed : core_at (valued_place given plan state c) d ≡ core_at state d =
      (place_given_law plan state c (given_next given state c)).other_cores d other in
      let tc : valued_touch given plan (valued_place given plan state d) c ≡ valued_touch given plan state c =
      touched_place given plan state c d differ free in
      let td : valued_touch given plan (valued_place given plan state c) d ≡ valued_touch given plan state d =
      touched_place given plan state d c other back in
      let rest : List Access =
      valued_accesses_from given plan (valued_place given plan (valued_place given plan state d) c) zs in
      let from : valued_accesses_from given plan state (d ∷ c ∷ zs)
      ≡ valued_touch given plan state d ++ (valued_touch given plan state c ++ rest) =
      ap (λ (l : List Access). valued_touch given plan state d ++ (l ++ rest)) tc in
      let into : valued_accesses_from given plan state (c ∷ d ∷ zs)
      ≡ valued_touch given plan state c ++ (valued_touch given plan state d ++ rest) =
      ap (λ (l : List Access). valued_touch given plan state c
      ++ (l ++ valued_accesses_from given plan (valued_place given plan (valued_place given plan state c) d) zs)) td
      ∙ ap (λ (x : Outcome). valued_touch given plan state c
      ++ (valued_touch given plan state d ++ valued_accesses_from given plan x zs)) (sym mm) in
      let apart : (a b : Access) → StandsIn (valued_touch given plan state d) a →
      StandsIn (valued_touch given plan state c) b →
      Conflicts b a → ⊥ = λ a b u v k.
      back (conflict_clash (valued_use given plan state c) (valued_use given plan state d) _ _ _ _ _ _ b a
      (subst (λ (l : List Access). StandsIn l b) (valued_touch_is given plan state c) v)
      (subst (λ (l : List Access). StandsIn l a) (valued_touch_is given plan state d) u) k) in
      record {
        ordered = (
          ready,
          (
            ready_else plan come d c other ordered.0,
            subst (λ (g : ℕ → ℕ). Ordered plan g zs) both
                ordered.1.1,
          ),
        );
        plays = (
          subst (λ (k : Core). is_done (need plan.image k) ≡ false) ec plays.1.0,
          (
            subst (λ (k : Core). is_done (need plan.image k) ≡ false) (sym ed) plays.0,
            subst (λ (x : Outcome). ValuedPlays given plan x zs) mm plays.1.1,
          ),
        );
        ends = ap (λ (x : Outcome). valued_play given plan x zs) (sym mm);
        tally = ap (λ (g : ℕ → ℕ). counts g zs) (sym both);
        pairs = λ x y q.
            subst (λ (l : List Access). ConflictPair l x y) (sym from)
            (pairs_swap (valued_touch given plan state d) (valued_touch given plan state c) rest apart x y
            (subst (λ (l : List Access). ConflictPair l x y) into q));
        parts = λ a q.
            subst (λ (l : List Access). StandsIn l a) (sym from)
            (parts_swap (valued_touch given plan state d) (valued_touch given plan state c) rest a
            (subst (λ (l : List Access). StandsIn l a) into q));
      }

  -- a core that is ready goes to the front
  pub to_front : (p : Plan) (xs : List ℕ) (s : Outcome) (f : ℕ → ℕ) (c : ℕ) (ys : List ℕ) → Tame p s f → Ready p f c →
      Absent c xs →
      Ordered p f (xs ++ c ∷ ys) → ValuedPlays given p s (xs ++ c ∷ ys) →
      Suffices (valued_accesses_from given p s (xs ++ c ∷ ys)) (Among p.edges) →
      Same p s f (xs ++ c ∷ ys) (c ∷ (xs ++ ys))
  to_front p [] s f c ys t rc ab o h suf = same_itself p s f (c ∷ ys) o h
  to_front p (d ∷ xs) s f c ys t rc ab o h suf =
      let inner : Suffices (valued_accesses_from given p (valued_place given p s d) (xs ++ c ∷ ys)) (Among p.edges) =
      λ x y q. suf x y
      (pairs_right (valued_touch given p s d) (valued_accesses_from given p (valued_place given p s d) (xs ++ c ∷ ys)) x
      y q) in
      let rest = to_front p xs (valued_place given p s d) (bump f d) c ys
      (tame_given (given_next given s d) p s f d t o.0) (ready_else p f c d ab.0 rc) ab.1 o.1 h.1 inner in
      let one : Same p s f (d ∷ (xs ++ c ∷ ys)) (d ∷ (c ∷ (xs ++ ys))) =
      same_after p s f d (xs ++ c ∷ ys) (c ∷ (xs ++ ys)) o.0 h.0 rest in
      let enough : Suffices (valued_accesses_from given p s (d ∷ c ∷ (xs ++ ys))) (Among p.edges) =
      λ x y q. suf x y (one.pairs x y q) in
      let free = no_clash p s f c d (xs ++ ys) t ab.0 rc o.0 enough in
      same_then p s f (d ∷ (xs ++ c ∷ ys)) (d ∷ (c ∷ (xs ++ ys))) (c ∷ (d ∷ (xs ++ ys))) one
      (swap p s f c d (xs ++ ys) t ab.0 rc one.ordered one.plays free)

  -- each replay order goes on to one that is whole and can stand for the given one
  pub record ValuedFronts (p : Plan) (s : Outcome) (f : ℕ → ℕ) (whole order : List ℕ) : Type 0 where
    pub rest : List ℕ
    pub same : Same p s f whole (order ++ rest)

  pub valued_fronts : (p : Plan) (order : List ℕ) (s : Outcome) (f : ℕ → ℕ) (whole : List ℕ) → Tame p s f →
      Ordered p f whole → Full p (counts f whole) →
      ValuedPlays given p s whole → Suffices (valued_accesses_from given p s whole) (Among p.edges) →
      Ordered p f order → ValuedFronts p s f whole order
  valued_fronts p [] s f whole t o w h suf ord = record { rest = whole; same = same_itself p s f whole o h }
  valued_fronts p (c ∷ cs) s f whole t o w h suf ord =
      let rc : Ready p f c = ord.0 in
      let at : First c whole = first_of_core f c whole (let a = rc.below in let b = w.each c rc.inside in omega arith)
      in
      let o_at : Ordered p f (at.front ++ c ∷ at.rest) = subst (λ (l : List ℕ). Ordered p f l) at.is o in
      let h_at : ValuedPlays given p s (at.front ++ c ∷ at.rest) =
      subst (λ (l : List ℕ). ValuedPlays given p s l) at.is h in
      let suf_at : Suffices (valued_accesses_from given p s (at.front ++ c ∷ at.rest)) (Among p.edges) = subst
      (λ (l : List ℕ). Suffices (valued_accesses_from given p s l) (Among p.edges)) at.is suf in
      let one : Same p s f (at.front ++ c ∷ at.rest) (c ∷ (at.front ++ at.rest)) =
      to_front p at.front s f c at.rest t rc at.absent o_at h_at suf_at in
      let two : Same p s f whole (c ∷ (at.front ++ at.rest)) =
      subst (λ (l : List ℕ). Same p s f l (c ∷ (at.front ++ at.rest))) (sym at.is) one in
      let tail : List ℕ = at.front ++ at.rest in
      let go = valued_fronts p cs (valued_place given p s c) (bump f c) tail
      (tame_given (given_next given s c) p s f c t rc) two.ordered.1
      (record { each = λ i lt. ap (λ (g : ℕ → ℕ). g i) two.tally ∙ w.each i lt }) two.plays.1
      (λ x y q. suf x y (two.pairs x y
      (pairs_right (valued_touch given p s c) (valued_accesses_from given p (valued_place given p s c) tail) x y
      q))) ord.1 in
      record {
        rest = go.rest;
        same = same_then p s f whole (c ∷ tail) (c ∷ (cs ++ go.rest)) two
            (same_after p s f c tail (cs ++ go.rest) rc two.plays.0 go.same);
      }

-- the same without given values
abbrev pub Fronts : Plan → Outcome → (ℕ → ℕ) → (whole order : List ℕ) → Type 0
Fronts p s f whole order = ValuedFronts no_values p s f whole order

pub fronts : (p : Plan) (order : List ℕ) (s : Outcome) (f : ℕ → ℕ) (whole : List ℕ) → Tame p s f → Ordered p f whole →
    Full p (counts f whole) →
    Plays p s whole → Suffices (accesses_from p s whole) (Among p.edges) →
    Ordered p f order → Fronts p s f whole order
fronts p order s f whole t o w h suf ord = valued_fronts no_values p order s f whole t o w h suf ord
