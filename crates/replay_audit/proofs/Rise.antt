-- The counts of a replay order's accesses rise.
use Rattle.std.proofs.Common.{inl, inr, ◌≡◌, ℕ, ◌+◌, ◌<◌, List, [], ◌∷◌, ◌++◌, length, refl, sym, ap, ◌∙◌, subst, arith}
use Rattle.std.specs.Prelude.{Option, Some, None}
use Rattle.rtr_types.specs.declared.access.Access.{Access}
use Rattle.rtr_types.specs.declared.pairs.Which.{Which}
use Rattle.conflict_edge.specs.Conflicts.{StandsIn, CountsRise}
use Rattle.rv_core.specs.declared.outcome.Outcome.{Outcome}
use Rattle.race_log.specs.declared.recording.Recording.{Recording}
use Rattle.replay_core.specs.Plans.{Plan, plan_of}
use Rattle.replay_core.specs.Play.{Given, no_values, Use, use_of, uses, need_at, old_at, new_at, old_given, new_given}
use Rattle.replay_core.specs.Play.{accesses_by, touched, touched_given}
use Rattle.replay_core.specs.Play.{given_next, valued_place, accesses_from, valued_accesses_from, instr, core_at, start}
use Rattle.replay_core.specs.Play.{accesses_of}
use Rattle.replay_core.specs.Orders.{bump, nought, Ordered, IsReplayOrder}
use Rattle.replay_core.specs.Laws.{PlayKnown}
use Rattle.replay_core.proofs.Counts.{bump_same, bump_more}
use Rattle.replay_core.proofs.Places.{start_known, given_known}
use Rattle.replay_audit.specs.Laws.{AccessesRiseLaw}

-- accesses above the counts, rising
pub record RiseAbove (n : ℕ) (f : ℕ → ℕ) (list : List Access) : Type 0 where
  pub inside : (b : Access) → StandsIn list b → b.at.core < n
  pub rise : CountsRise list
  pub above : (b : Access) → StandsIn list b → f b.at.core < b.at.count

by_use : (used : Use) (n : ℕ) (f : ℕ → ℕ) (c before after : ℕ) (list : List Access) → c < n →
    RiseAbove n (bump f c) list →
    RiseAbove n f (accesses_by used (instr c (f c + 1)) before after ++ list)
by_use None n f c before after list c_lt h = record {
  inside = h.inside;
  rise = h.rise;
  above = λ b s. let lt = h.above b s in
      let m = bump_more f c b.at.core in omega arith;
}
by_use (Some used) n f c before after list c_lt h =
    record { inside = inside; rise = (omega arith, later, h.rise); above = above }
  where
    a : Access
    a = record { at = instr c (f c + 1); word = used.1; kind = used.0; before = before; after = after }

    inside : (b : Access) → StandsIn
        (record { at = instr c (f c + 1); word = used.1; kind = used.0; before = before; after = after } ∷ list) b →
        b.at.core < n
    inside b (inl e) = subst (λ (d : Access). d.at.core < n) e c_lt
    inside b (inr s) = h.inside b s

    later : (b : Access) → StandsIn list b → c ≡ b.at.core → f c + 1 < b.at.count
    later b s e = let lt = h.above b s in let m = bump_same f c b.at.core (sym e) in let g : f b.at.core ≡ f c =
        ap f (sym e) in omega arith

    above : (b : Access) → StandsIn
        (record { at = instr c (f c + 1); word = used.1; kind = used.0; before = before; after = after } ∷ list) b →
        f b.at.core < b.at.count
    above b (inl e) = subst (λ (d : Access). f d.at.core < d.at.count) e (omega arith)
    above b (inr s) = let lt = h.above b s in let m = bump_more f c b.at.core in omega arith

pub given_touch_is : (given : Option ℕ) (p : Plan) (s : Outcome) (c : ℕ) →
    touched_given p s c given
    ≡ accesses_by (uses p s c given) (instr c ((core_at s c).count + 1)) (old_given p s c given)
    (new_given p s c given)
unfolding touched_given
given_touch_is given p s c = refl

pub touched_is : (p : Plan) (s : Outcome) (c : ℕ) → touched p s c ≡ accesses_by (use_of (need_at p s c)) (instr c
    ((core_at s c).count + 1)) (old_at p s c) (new_at p s c)
touched_is p s c = given_touch_is None p s c

pub valued_rises : (given : Given) (p : Plan) (f : ℕ → ℕ) (s : Outcome) (order : List ℕ) → PlayKnown p f s →
    Ordered p f order →
    RiseAbove (length p.totals) f (valued_accesses_from given p s order)
valued_rises given p f s [] known ordered = record { inside = λ b s. absurd s; rise = tt; above = λ b s. absurd s }
valued_rises given p f s (c ∷ cs) known ordered =
    let g : Option ℕ = given_next given s c in
    let u : Use = uses p s c g in
    let old : ℕ = old_given p s c g in
    let new : ℕ = new_given p s c g in
    let rest = valued_rises given p (bump f c) (valued_place given p s c) cs (given_known g p f s c known ordered.0)
    ordered.1 in
    let n : (core_at s c).count ≡ f c = ap (λ (h : ℕ → ℕ). h c) known.counts in
    let e : touched_given p s c g ≡ accesses_by u (instr c (f c + 1)) old new =
    given_touch_is g p s c ∙ ap (λ (m : ℕ). accesses_by u (instr c (m + 1)) old new) n in
    subst (λ (l : List Access). RiseAbove (length p.totals) f
    (l ++ valued_accesses_from given p (valued_place given p s c) cs)) (sym e)
    (by_use u (length p.totals) f c old new (valued_accesses_from given p (valued_place given p s c) cs)
    ordered.0.inside rest)

pub rises : (p : Plan) (f : ℕ → ℕ) (s : Outcome) (order : List ℕ) → PlayKnown p f s → Ordered p f order →
    RiseAbove (length p.totals) f (accesses_from p s order)
rises p f s order known ordered = valued_rises no_values p f s order known ordered

pub accesses_rise : AccessesRiseLaw
accesses_rise which r order ordered =
    (rises (plan_of which r) nought (start (plan_of which r)) order (start_known (plan_of which r)) ordered).rise

pub accesses_within : (which : Which) (r : Recording) (order : List ℕ) → IsReplayOrder (plan_of which r) order →
    (b : Access) →
    StandsIn (accesses_of (plan_of which r) order) b → b.at.core < length r.totals
accesses_within which r order ordered =
    (rises (plan_of which r) nought (start (plan_of which r)) order (start_known (plan_of which r)) ordered).inside
