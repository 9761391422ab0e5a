-- The edges at an instruction, found core by core.
use Rattle.std.proofs.Common.{inl, inr, ◌≡◌, ◌≢◌, ◌⊎◌, ℕ, ◌+◌, ◌<◌, ◌≤◌, List, [], ◌∷◌, ◌++◌, refl, sym, ap, ◌∙◌}
use Rattle.std.proofs.Common.{subst, arith}
use Rattle.std.specs.Prelude.{Option, Some, None, IfSome, slice_index, nat_eq, true, false, ◌&&◌}
use Rattle.std.specs.Option.{option_eq}
use Rattle.std.proofs.lemmas.Bool.{and_parts, cases_lt, cases_eq}
use Rattle.std.proofs.lemmas.Bool.Decides.{nat_tests}
use Rattle.rtr_types.specs.declared.instr.Instr.{Instr}
use Rattle.rtr_types.specs.declared.pairs.Which.{Which}
use Rattle.rtr_types.proofs.Lists.{some_same}
use Rattle.clock_core.specs.Reach.{IsOneOf}
use Rattle.race_log.specs.declared.recording.Recording.{Recording}
use Rattle.race_log.specs.Sources.{HasEdge}
use Rattle.race_log.specs.Validity.{Valid}
use Rattle.replay_core.specs.Play.{instr}
use Rattle.cut_replay.proofs.Cuts.{has_within}
use Rattle.race_queries.specs.Places.{AreSourcesUpTo, AreTargetsUpTo, IsUpTo}
use Rattle.race_queries.specs.Queries.{AreEdgesInto, AreEdgesOutOf, InstrsRise, Precedes}

-- ---- one more at the end

pushed : (xs : List Instr) (y x : Instr) → IsOneOf (xs ++ y ∷ []) x → IsOneOf xs x ⊎ (y ≡ x)
pushed [] y x (inl e) = inr e
pushed [] y x (inr there) = absurd there
pushed (z ∷ zs) y x (inl e) = inl (inl e)
pushed (z ∷ zs) y x (inr there) = by (pushed zs y x there)
  where
    by : IsOneOf zs x ⊎ (y ≡ x) → IsOneOf (z ∷ zs) x ⊎ (y ≡ x)
    by (inl h) = inl (inr h)
    by (inr e) = inr e

before_push : (xs : List Instr) (y x : Instr) → IsOneOf xs x → IsOneOf (xs ++ y ∷ []) x
before_push [] y x there = absurd there
before_push (z ∷ zs) y x (inl e) = inl e
before_push (z ∷ zs) y x (inr there) = inr (before_push zs y x there)

at_push : (xs : List Instr) (y : Instr) → IsOneOf (xs ++ y ∷ []) y
at_push [] y = inl refl
at_push (z ∷ zs) y = inr (at_push zs y)

rise_push : (xs : List Instr) (y : Instr) → InstrsRise xs → ((x : Instr) → IsOneOf xs x → Precedes x y) →
    InstrsRise (xs ++ y ∷ [])
rise_push [] y rise below = (λ z there. absurd there, tt)
rise_push (x ∷ xs) y rise below = (
  λ z there. by z (pushed xs y z there),
  rise_push xs y rise.1 (λ z there. below z (inr there)),
)
  where
    by : (z : Instr) → IsOneOf xs z ⊎ (y ≡ z) → Precedes x z
    by z (inl there) = rise.0 z there
    by z (inr e) = subst (λ (w : Instr). Precedes x w) e (below x (inl refl))

-- an instruction by its parts
parts_is : (x : Instr) (core count : ℕ) → x.core ≡ core → x.count ≡ count → instr core count ≡ x
parts_is x core count e f = ap (λ (c : ℕ). instr c count) (sym e) ∙ ap (λ (n : ℕ). instr x.core n) (sym f)

-- ---- the edges into it

pub sources_start : (which : Which) (r : Recording) (at : Instr) → AreSourcesUpTo which r at 0 []
sources_start which r at = record {
  each =
      λ x. (λ there. absurd there, λ h. absurd (let lt = h.0 in omega arith));
  rise = tt;
}

module _ (which : Which) (r : Recording) (at : Instr) (core : ℕ) (list : List Instr)
    (h : AreSourcesUpTo which r at core list) where
  pub sources_on : (count : ℕ) → HasEdge which r (instr core count) at →
      ((a : ℕ) → HasEdge which r (instr core a) at → Some count ≡ Some a) →
      AreSourcesUpTo which r at (core + 1) (list ++ instr core count ∷ [])
  sources_on count found only = record {
    each = λ x. (λ there. new x (pushed list (instr core count) x there), λ k. old x k.1 (cases_lt x.core core) k.0);
    rise = rise_push list (instr core count) h.rise (λ x there. inl ((h.each x).0 there).0);
  }
    where
      new : (x : Instr) → IsOneOf list x ⊎ (instr core count ≡ x) → (x.core < core + 1) × HasEdge which r x at
      new x (inl there) = let k = (h.each x).0 there in (let lt = k.0 in omega arith, k.1)
      new x (inr e) = subst (λ (z : Instr). (z.core < core + 1) × HasEdge which r z at) e (omega arith, found)

      old : (x : Instr) → HasEdge which r x at → (x.core < core) ⊎ (core ≤ x.core) → x.core < core + 1 →
          IsOneOf (list ++ instr core count ∷ []) x
      old x edge (inl lt) up = before_push list (instr core count) x ((h.each x).1 (lt, edge))
      old x edge (inr le) up =
          let same : x.core ≡ core = omega arith in
          let count_is = some_same count x.count
          (only x.count (subst (λ (c : ℕ). HasEdge which r (instr c x.count) at) same edge)) in
          subst (λ (z : Instr). IsOneOf (list ++ instr core count ∷ []) z) (parts_is x core count same (sym count_is))
          (at_push list (instr core count))

  pub sources_by : ((a : ℕ) → HasEdge which r (instr core a) at → ⊥) → AreSourcesUpTo which r at (core + 1) list
  sources_by none = record {
    each = λ x. (
      λ there. let k = (h.each x).0 there in (let lt = k.0 in omega arith, k.1),
      λ k. old x k.1
          (cases_lt x.core core) k.0,
    );
    rise = h.rise;
  }
    where
      old : (x : Instr) → HasEdge which r x at → (x.core < core) ⊎ (core ≤ x.core) → x.core < core + 1 → IsOneOf list x
      old x edge (inl lt) up = (h.each x).1 (lt, edge)
      old x edge (inr le) up =
          let same : x.core ≡ core = omega arith in
          absurd (none x.count (subst (λ (c : ℕ). HasEdge which r (instr c x.count) at) same edge))

  pub sources_end : Valid r → r.params.cores ≤ core → AreEdgesInto which r at list
  sources_end valid past = record {
    each = λ x. (
      λ there. ((h.each x).0 there).1,
      λ edge. (h.each x).1 (let w = (has_within which r x at valid edge).pair.source in omega arith, edge),
    );
    rise = h.rise;
  }

-- what was found of one core
pub sources_next : (which : Which) (r : Recording) (at : Instr) (core : ℕ) (list : List Instr) (found : Option ℕ) →
    AreSourcesUpTo which r at core list → found ≡ None →
    ((a : ℕ) → HasEdge which r (instr core a) at → found ≡ Some a) →
    AreSourcesUpTo which r at (core + 1) list
sources_next which r at core list found h none only =
    sources_by which r at core list h (λ a edge. let e = only a edge in let f = none in absurd (cc))

-- ---- the edges out of it

module _ (which : Which) (r : Recording) (valid : Valid r) (at : Instr) where
  none_at_0 : (y : Instr) → HasEdge which r at y → y.count ≤ 0 → ⊥
  none_at_0 y edge le = let s = (has_within which r at y valid edge).some_target in omega arith

  pub targets_start : AreTargetsUpTo which r at 0 0 []
  targets_start = record { each = λ y. (λ there. absurd there, λ k. absurd (by y k.1 k.0)); rise = tt }
    where
      by : (y : Instr) → HasEdge which r at y → IsUpTo 0 0 y → ⊥
      by y edge (inl lt) = omega arith
      by y edge (inr s) = none_at_0 y edge s.1

  module _ (core n : ℕ) (list : List Instr) (h : AreTargetsUpTo which r at core n list) where
    higher : (y : Instr) → IsUpTo core n y → IsUpTo core (n + 1) y
    higher y (inl lt) = inl lt
    higher y (inr s) = inr (s.0, let le = s.1 in omega arith)

    -- the one instruction more, or one of those before
    next_or : (y : Instr) → IsUpTo core (n + 1) y → IsUpTo core n y ⊎ (instr core (n + 1) ≡ y)
    next_or y (inl lt) = inl (inl lt)
    next_or y (inr s) = by (cases_eq y.count (n + 1))
      where
        by : (y.count ≡ n + 1) ⊎ (y.count ≢ n + 1) → IsUpTo core n y ⊎ (instr core (n + 1) ≡ y)
        by (inl e) = inr (parts_is y core (n + 1) s.0 e)
        by (inr ne) = inl (inr (s.0, let le = s.1 in omega arith))

    precedes : (y : Instr) → IsUpTo core n y → Precedes y (instr core (n + 1))
    precedes y (inl lt) = inl lt
    precedes y (inr s) = inr (s.0, let le = s.1 in omega arith)

    pub targets_on : HasEdge which r at (instr core (n + 1)) →
        AreTargetsUpTo which r at core (n + 1) (list ++ instr core (n + 1) ∷ [])
    targets_on edge = record {
      each = λ y. (λ there. new y (pushed list (instr core (n + 1)) y there), λ k. old y k.1 (next_or y k.0));
      rise = rise_push list (instr core (n + 1)) h.rise (λ y there. precedes y ((h.each y).0 there).0);
    }
      where
        new : (y : Instr) → IsOneOf list y ⊎ (instr core (n + 1) ≡ y) → IsUpTo core (n + 1) y × HasEdge which r at y
        new y (inl there) = let k = (h.each y).0 there in (higher y k.0, k.1)
        new y (inr e) = subst (λ (z : Instr). IsUpTo core (n + 1) z × HasEdge which r at z) e
            (inr (refl, omega arith), edge)

        old : (y : Instr) → HasEdge which r at y → IsUpTo core n y ⊎ (instr core (n + 1) ≡ y) →
            IsOneOf (list ++ instr core (n + 1) ∷ []) y
        old y e (inl up) = before_push list (instr core (n + 1)) y ((h.each y).1 (up, e))
        old y e (inr is) = subst (λ (z : Instr). IsOneOf (list ++ instr core (n + 1) ∷ []) z) is
            (at_push list (instr core (n + 1)))

    pub targets_by : (HasEdge which r at (instr core (n + 1)) → ⊥) → AreTargetsUpTo which r at core (n + 1) list
    targets_by none = record {
      each = λ y. (λ there. let k = (h.each y).0 there in (higher y k.0, k.1), λ k. old y k.1 (next_or y k.0));
      rise = h.rise;
    }
      where
        old : (y : Instr) → HasEdge which r at y → IsUpTo core n y ⊎ (instr core (n + 1) ≡ y) → IsOneOf list y
        old y e (inl up) = (h.each y).1 (up, e)
        old y e (inr is) = absurd (none (subst (λ (z : Instr). HasEdge which r at z) (sym is) e))

    -- the next core, where all of this one's were asked
    pub targets_next : slice_index r.totals core ≤ n → AreTargetsUpTo which r at (core + 1) 0 list
    targets_next all = record {
      each = λ y. (λ there. let k = (h.each y).0 there in (up y k.0, k.1), λ k. (h.each y).1 (down y k.1 k.0, k.1));
      rise = h.rise;
    }
      where
        up : (y : Instr) → IsUpTo core n y → IsUpTo (core + 1) 0 y
        up y (inl lt) = inl (omega arith)
        up y (inr s) = inl (let e = s.0 in omega arith)

        down : (y : Instr) → HasEdge which r at y → IsUpTo (core + 1) 0 y → IsUpTo core n y
        down y edge (inr s) = absurd (none_at_0 y edge s.1)
        down y edge (inl lt) = by (cases_lt y.core core)
          where
            by : (y.core < core) ⊎ (core ≤ y.core) → IsUpTo core n y
            by (inl below) = inl below
            by (inr le) =
                let same : y.core ≡ core = omega arith in
                let most = (has_within which r at y valid edge).target_most in
                let total = ap (λ (c : ℕ). slice_index r.totals c) same in
                inr (same, omega arith)

  pub targets_end : (core n : ℕ) (list : List Instr) → AreTargetsUpTo which r at core n list → r.params.cores ≤ core →
      AreEdgesOutOf which r at list
  targets_end core n list h past = record {
    each = λ y. (
      λ there. ((h.each y).0 there).1,
      λ edge. (h.each y).1 (inl (let w = (has_within which r at y valid edge).pair.target in omega arith), edge),
    );
    rise = h.rise;
  }

-- ---- the same edge by other names

pub edge_as : {which other : Which} {r s : Recording} {x y : Instr} → other ≡ which → s ≡ r → HasEdge other s x y →
    HasEdge which r x y
edge_as {which} {other} {r} {s} {x} {y} e f h =
    subst (λ (k : Which). HasEdge k r x y) e (subst (λ (l : Recording). HasEdge other l x y) f h)

pub same_instr : (x y : Instr) → (nat_eq x.core y.core && nat_eq x.count y.count) ≡ true → x ≡ y
same_instr x y t =
    let p = and_parts (nat_eq x.core y.core) (nat_eq x.count y.count) t in
    let a : nat_eq x.core y.core ≡ true = p.0 in
    let b : nat_eq x.count y.count ≡ true = p.1 in
    parts_is y x.core x.count (grind (arith, nat_tests)) (grind (arith, nat_tests))

-- ---- what was found, by a test

pub found_of : (found : Option ℕ) (n : ℕ) (P : ℕ → Type 0) → IfSome found P → option_eq nat_eq found (Some n) ≡ true →
    P n
found_of None n P h t = absurd (cc)
found_of (Some m) n P h t =
    let e : nat_eq m n ≡ true = t in let same : m ≡ n = grind (arith, nat_tests) in subst P same h

pub not_found : (found : Option ℕ) (n : ℕ) → option_eq nat_eq found (Some n) ≡ false → found ≡ Some n → ⊥
not_found found n t e =
    let u : option_eq nat_eq (Some n) (Some n) ≡ false = ap (λ (o : Option ℕ). option_eq nat_eq o (Some n)) (sym e)
    ∙ t in
    let v : nat_eq n n ≡ true = grind (arith, nat_tests) in
    let w : nat_eq n n ≡ false = u in
    cc
