-- Conflicts go forward in the list that is played.
use Rattle.std.proofs.Common.{inl, inr, ◌≡◌, ◌⊎◌, ◌∙◌, ℕ, ◌+◌, ◌<◌, ◌≤◌, List, [], ◌∷◌, ◌++◌, length, sym}
use Rattle.std.proofs.Common.{ap, subst, arith}
use Rattle.std.proofs.Math.Path.{fun_ext}
use Rattle.rtr_types.specs.declared.access.Access.{Access}
use Rattle.rtr_types.specs.declared.instr.Instr.{Instr}
use Rattle.conflict_edge.specs.Conflicts.{ConflictPair, StandsIn}
use Rattle.conflict_edge.proofs.AccessPlaces.{stands_which}
use Rattle.conflict_edge.proofs.NewestFirst.{list_ends}
use Rattle.rv_core.specs.declared.outcome.Outcome.{Outcome}
use Rattle.replay_core.specs.Orders.{bump, counts, nought, counts_in}
use Rattle.replay_core.specs.Plans.{Plan}
use Rattle.replay_core.specs.Play.{Given, core_at, given_next, instr, start}
use Rattle.replay_core.specs.Play.{valued_place, valued_play, valued_touch, valued_accesses_from}
use Rattle.replay_core.proofs.Counts.{bump_here, bump_more, bump_same, counts_more}
use Rattle.replay_core.proofs.Places.{bumped, place_given_law, start_known}
use Rattle.replay_audit.proofs.Pairs.{Apart, both_left, both_right, across, pairs_which}
use Rattle.replay_audit.proofs.Swaps.{one_at, valued_use, valued_old, valued_new, valued_touch_is}
use Rattle.replay_audit.proofs.SettledConflicts.{no-pair}
use Rattle.tso_replay.specs.Laws.{Inside, ConflictsForwardLaw}

-- the outcome has come as far as the counts say
pub record Counted (p : Plan) (f : ℕ → ℕ) (s : Outcome) : Type 0 where
  pub counts_are : counts_in s ≡ f
  pub cores : length s.cores ≡ length p.totals

module _ (given : Given) (p : Plan) where
  counted-place : (f : ℕ → ℕ) (s : Outcome) (c : ℕ) → Counted p f s → c < length p.totals →
      Counted p (bump f c) (valued_place given p s c)
  counted-place f s c h lt =
      let inside : c < length s.cores = let all = h.cores in omega arith in
      record {
        counts_are = fun_ext (bumped (given_next given s c) p f s c h.counts_are inside);
        cores = (place_given_law p s c (given_next given s c)).all_cores ∙ h.cores;
      }

  pub counted_play : (f : ℕ → ℕ) (s : Outcome) (order : List ℕ) → Counted p f s → Inside (length p.totals) order →
      Counted p (counts f order) (valued_play given p s order)
  counted_play f s [] h inside = h
  counted_play f s (c ∷ cs) h inside =
      counted_play (bump f c) (valued_place given p s c) cs (counted-place f s c h inside.0) inside.1

  -- the access of a place is of its core's next instruction
  touch-at : (f : ℕ → ℕ) (s : Outcome) (c : ℕ) (a : Access) → Counted p f s → StandsIn (valued_touch given p s c) a →
      a.at ≡ instr c (f c + 1)
  touch-at f s c a h stands =
      one_at (valued_use given p s c) (instr c ((core_at s c).count + 1)) (valued_old given p s c)
      (valued_new given p s c) a
      (subst (λ (l : List Access). StandsIn l a) (valued_touch_is given p s c) stands)
      ∙ ap (λ (g : ℕ → ℕ). instr c (g c + 1)) h.counts_are

  -- the accesses to come are above the counts
  above : (f : ℕ → ℕ) (s : Outcome) (order : List ℕ) (b : Access) → Counted p f s → Inside (length p.totals) order →
      StandsIn (valued_accesses_from given p s order) b → f b.at.core < b.at.count
  above f s [] b h inside stands = absurd stands
  above f s (c ∷ cs) b h inside stands =
      by (stands_which (valued_touch given p s c) (valued_accesses_from given p (valued_place given p s c) cs) b stands)
      (above (bump f c) (valued_place given p s c) cs b (counted-place f s c h inside.0) inside.1)
    where
      by : StandsIn (valued_touch given p s c) b
          ⊎ StandsIn (valued_accesses_from given p (valued_place given p s c) cs) b →
          (StandsIn (valued_accesses_from given p (valued_place given p s c) cs) b → bump f c b.at.core < b.at.count) →
          f b.at.core < b.at.count
      by (inl here) go = subst (λ (x : Instr). f x.core < x.count) (sym (touch-at f s c b h here)) (omega arith)
      by (inr there) go = let lt = go there in let le = bump_more f c b.at.core in omega arith

  forward : (order : List ℕ) (come : ℕ → ℕ) (state : Outcome) (x y : Instr) → Counted p come state →
      Inside (length p.totals) order →
      ConflictPair (valued_accesses_from given p state order) x y → (front rest : List ℕ) →
      order ≡ front ++ y.core ∷ rest →
      counts come front y.core + 1 ≡ y.count → x.count ≤ counts come front x.core
  forward [] come state x y counted inside pair front rest split at = absurd pair
  forward (c ∷ cs) come state x y counted inside pair front rest split at =
      by front split at (pairs_which (valued_touch given p state c) later x y pair)
      (forward cs (bump come c) (valued_place given p state c) x y next inside.1)
    where
      later : List Access
      later = valued_accesses_from given p (valued_place given p state c) cs

      next : Counted p (bump come c) (valued_place given p state c)
      next = counted-place come state c counted inside.0

      -- the target isn't the instruction of this place, where it is of a later one
      not-here : (b : Access) → StandsIn (valued_accesses_from given p (valued_place given p state c) cs) b → b.at ≡ y →
          c ≡ y.core → come y.core + 1 ≡ y.count → ⊥
      not-here b stands is same count =
          let up = above (bump come c) (valued_place given p state c) cs b next inside.1 stands in
          let there : bump come c y.core < y.count = subst (λ (z : Instr). bump come c z.core < z.count) is up in
          let one = bump_same come c y.core (sym same) in
          omega arith

      by : (front : List ℕ) → c ∷ cs ≡ front ++ y.core ∷ rest → counts come front y.core + 1 ≡ y.count →
          Apart (valued_touch given p state c) (valued_accesses_from given p (valued_place given p state c) cs) x y →
          (ConflictPair (valued_accesses_from given p (valued_place given p state c) cs) x y → (front rest : List ℕ) →
          cs ≡ front ++ y.core ∷ rest →
          counts (bump come c) front y.core + 1 ≡ y.count → x.count ≤ counts (bump come c) front x.core) →
          x.count ≤ counts come front x.core
      by front split at (both_left q) go =
          absurd (no-pair (valued_use given p state c) (instr c ((core_at state c).count + 1)) x y
          (valued_old given p state c)
          (valued_new given p state c)
          (subst (λ (l : List Access). ConflictPair l x y) (valued_touch_is given p state c) q))
      by [] split at (both_right q) go =
          let e = list_ends (valued_accesses_from given p (valued_place given p state c) cs) x y q in
          let head : c ≡ y.core = cc in
          absurd (not-here e.second e.second_stands e.second_at head at)
      by [] split at (across a b one two e g k) go =
          let head : c ≡ y.core = cc in
          absurd (not-here b two g head at)
      by (d ∷ front) split at (both_right q) go =
          let head : d ≡ c = cc in
          let tail : cs ≡ front ++ y.core ∷ rest = cc in
          subst (λ (z : ℕ). x.count ≤ counts (bump come z) front x.core) (sym head)
          (go q front rest tail (subst (λ (z : ℕ). counts (bump come z) front y.core + 1 ≡ y.count) head at))
      by (d ∷ front) split at (across a b one two e g k) go =
          let head : d ≡ c = cc in
          let is : x ≡ instr c (come c + 1) = sym e ∙ touch-at come state c a counted one in
          let more = counts_more (bump come c) front c in
          let here = bump_here come c in
          subst (λ (z : Instr). z.count ≤ counts (bump come d) front z.core) (sym is)
          (subst (λ (z : ℕ). come c + 1 ≤ counts (bump come z) front c) (sym head) (omega arith))

pub counted_start : (p : Plan) → Counted p nought (start p)
counted_start p = let known = start_known p in record { counts_are = known.counts; cores = known.all_cores }

pub conflicts_forward : ConflictsForwardLaw
conflicts_forward given p order edges inside pairs x y edge front rest split at =
    forward given p order nought (start p) x y (counted_start p) inside (pairs x y edge) front rest split at
