-- Unions and intersections of closed cuts. A count of a union is one of the two counts, so each source of what the
-- union holds is held by the one or the other; likewise of an intersection.
use Rattle.std.proofs.Common.{◌≡◌, ℕ, ◌<◌, ◌≤◌, ◌⊎◌, List, inl, inr, length, get_or, max, min, ap, sym, subst, arith}
use Rattle.std.proofs.Common.{◌∙◌}
use Rattle.std.proofs.lemmas.Bool.{cases_lt}
use Rattle.std.proofs.lemmas.List.{get_or_past}
use Rattle.std.proofs.lemmas.List.FromFn.{fill_by_all, length-map-range_with_len, get_or-map-range_with_len}
use Rattle.std.specs.List.{range_with_len}
use Rattle.std.specs.Prelude.{map, slice_index}
use Rattle.rtr_types.specs.declared.TheConstants.{CORES_MAX}
use Rattle.rtr_types.specs.declared.cut.Cut.{Cut}
use Rattle.rtr_types.specs.declared.instr.Instr.{Instr}
use Rattle.rtr_types.specs.declared.pairs.Which.{Which}
use Rattle.race_log.specs.declared.recording.Recording.{Recording}
use Rattle.race_log.specs.Sources.{HasEdge}
use Rattle.cut_replay.specs.ClosedCuts.{count_in, Holds, IsClosed, IsCutOf}
use Rattle.cut_moves.specs.Unions.{union_of, intersection_of, UnionClosedLaw, UnionLeastLaw, IntersectionClosedLaw}
use Rattle.cut_moves.specs.Unions.{IntersectionGreatestLaw}

-- one of two counts, which is at least both
pub record IsGreater (a b m : ℕ) : Type 0 where
  pub first : a ≤ m
  pub second : b ≤ m
  pub one : (m ≡ a) ⊎ (m ≡ b)

-- or at most
pub record IsLesser (a b m : ℕ) : Type 0 where
  pub first : m ≤ a
  pub second : m ≤ b
  pub one : (m ≡ a) ⊎ (m ≡ b)

one_max : (a b : ℕ) → (max a b ≡ a) ⊎ (max a b ≡ b)
one_max a b = elim (cases_lt a b) [
  | inl lt ↦ inr (omega arith)
  | inr le ↦ inl (omega arith)
]

one_min : (a b : ℕ) → (min a b ≡ a) ⊎ (min a b ≡ b)
one_min a b = elim (cases_lt a b) [
  | inl lt ↦ inl (omega arith)
  | inr le ↦ inr (omega arith)
]

greater_of : (a b : ℕ) → IsGreater a b (max a b)
greater_of a b = record { first = omega arith; second = omega arith; one = one_max a b }

lesser_of : (a b : ℕ) → IsLesser a b (min a b)
lesser_of a b = record { first = omega arith; second = omega arith; one = one_min a b }

-- past the last place a cut has no count
none_past : (r : Recording) (cut : Cut) → IsCutOf r cut → (i : ℕ) → CORES_MAX ≤ i → count_in cut i ≡ 0
none_past r cut is i past = get_or_past cut.counts i 0 (let e = is.places in omega arith)

-- of each core what two counts come to
abbrev pub counts_by : (ℕ → ℕ → ℕ) → Cut → Cut → List ℕ
counts_by of a b = map (λ core. of (count_in a core) (count_in b core)) (range_with_len 0 CORES_MAX)

pub filled_by : (of : ℕ → ℕ → ℕ) (a b : Cut) (counts : List ℕ) → length counts ≡ CORES_MAX →
    ((i : ℕ) → i < CORES_MAX → get_or counts i 0 ≡ of (count_in a i) (count_in b i)) →
    ◌≡◌ {A = Cut} (record { cores = a.cores; counts = counts }) (record { cores = a.cores; counts = counts_by of a b })
filled_by of a b counts wide done = ap with_counts
    (fill_by_all (λ i. of (count_in a i) (count_in b i)) counts CORES_MAX 0 wide done)
  where
    with_counts : List ℕ → Cut
    with_counts counts = record { cores = a.cores; counts = counts }

module _ (r : Recording) (a b : Cut) (h : IsCutOf r a) (k : IsCutOf r b) where
  -- what holds of any two counts and what they come to, and of three zeros, holds of each core
  by_core : (of : ℕ → ℕ → ℕ) (Is : ℕ → ℕ → ℕ → Type 0) → ((x y : ℕ) → Is x y (of x y)) → Is 0 0 0 → (i : ℕ) →
      Is (count_in a i) (count_in b i) (slice_index (counts_by of a b) i)
  by_core of Is is nothing i = elim (cases_lt i CORES_MAX) [
    | inl lt ↦ subst (λ (m : ℕ). Is (count_in a i) (count_in b i) m)
        (sym (get_or-map-range_with_len (λ c. of (count_in a c) (count_in b c)) 0 CORES_MAX i i 0 lt (omega arith)))
        (is (count_in a i) (count_in b i))
    | inr past ↦
        let long = length-map-range_with_len (λ c. of (count_in a c) (count_in b c)) 0 CORES_MAX in
        subst (λ (m : ℕ). Is (count_in a i) (count_in b i) m) (sym (get_or_past (counts_by of a b) i 0 (omega arith)))
        (subst (λ (y : ℕ). Is (count_in a i) y 0) (sym (none_past r b k i past))
        (subst (λ (x : ℕ). Is x 0 0) (sym (none_past r a h i past)) nothing))
  ]

  pub greater : (i : ℕ) → IsGreater (count_in a i) (count_in b i) (count_in (union_of a b) i)
  greater = by_core max IsGreater greater_of
      (record { first = omega arith; second = omega arith; one = inl (omega arith) })

  pub lesser : (i : ℕ) → IsLesser (count_in a i) (count_in b i) (count_in (intersection_of a b) i)
  lesser = by_core min IsLesser lesser_of
      (record { first = omega arith; second = omega arith; one = inl (omega arith) })

one_at_most : {a b m n : ℕ} → (m ≡ a) ⊎ (m ≡ b) → a ≤ n → b ≤ n → m ≤ n
one_at_most (inl e) f s = omega arith
one_at_most (inr e) f s = omega arith

one_at_least : {a b m n : ℕ} → (m ≡ a) ⊎ (m ≡ b) → n ≤ a → n ≤ b → n ≤ m
one_at_least (inl e) f s = omega arith
one_at_least (inr e) f s = omega arith

pub union_least : UnionLeastLaw
union_least r a b h k = record {
  first = λ core. (greater r a b h k core).first;
  second = λ core. (greater r a b h k core).second;
  least = λ c f s core. one_at_most (greater r a b h k core).one (f core) (s core);
}

pub intersection_greatest : IntersectionGreatestLaw
intersection_greatest r a b h k = record {
  first = λ core. (lesser r a b h k core).first;
  second = λ core. (lesser r a b h k core).second;
  greatest = λ c f s core. one_at_least (lesser r a b h k core).one (f core) (s core);
}

module _ (which : Which) (r : Recording) (a b : Cut) (h : IsClosed which r a) (k : IsClosed which r b) where
  abbrev both : Cut
  both = union_of a b

  abbrev common : Cut
  common = intersection_of a b

  up : (core : ℕ) → IsGreater (count_in a core) (count_in b core) (count_in both core)
  up core = greater r a b h.is_cut k.is_cut core

  down : (core : ℕ) → IsLesser (count_in a core) (count_in b core) (count_in common core)
  down core = lesser r a b h.is_cut k.is_cut core

  pub union_is_closed : IsClosed which r (union_of a b)
  union_is_closed = record {
    is_cut = record {
      cores = h.is_cut.cores;
      places = length-map-range_with_len (λ c. max (count_in a c) (count_in b c)) 0 CORES_MAX;
      most = λ core lt. most core lt (up core).one;
      rest = λ core le. rest core le (up core).one;
    };
    sources = λ from to has holds. held from to has holds (up to.core).one;
  }
    where
      most : (core : ℕ) → core < r.params.cores →
          (count_in both core ≡ count_in a core) ⊎ (count_in both core ≡ count_in b core) →
          count_in both core ≤ slice_index r.totals core
      most core lt (inl e) = let x = h.is_cut.most core lt in omega arith
      most core lt (inr e) = let x = k.is_cut.most core lt in omega arith

      rest : (core : ℕ) → r.params.cores ≤ core →
          (count_in both core ≡ count_in a core) ⊎ (count_in both core ≡ count_in b core) → count_in both core ≡ 0
      rest core le (inl e) = e ∙ h.is_cut.rest core le
      rest core le (inr e) = e ∙ k.is_cut.rest core le

      held : (from to : Instr) → HasEdge which r from to → Holds both to →
          (count_in both to.core ≡ count_in a to.core) ⊎ (count_in both to.core ≡ count_in b to.core) → Holds both from
      held from to has le (inl e) =
          let x = h.sources from to has (omega arith) in let y = (up from.core).first in omega arith
      held from to has le (inr e) =
          let x = k.sources from to has (omega arith) in let y = (up from.core).second in omega arith

  pub intersection_is_closed : IsClosed which r (intersection_of a b)
  intersection_is_closed = record {
    is_cut = record {
      cores = h.is_cut.cores;
      places = length-map-range_with_len (λ c. min (count_in a c) (count_in b c)) 0 CORES_MAX;
      most = λ core lt. let x = h.is_cut.most core lt in let y = (down core).first in omega arith;
      rest = λ core le. let x = h.is_cut.rest core le in let y = (down core).first in omega arith;
    };
    sources = λ from to has holds. held from to has holds (down from.core).one;
  }
    where
      held : (from to : Instr) → HasEdge which r from to → Holds common to →
          (count_in common from.core ≡ count_in a from.core) ⊎ (count_in common from.core ≡ count_in b from.core) →
          Holds common from
      held from to has le (inl e) =
          let y = (down to.core).first in let x = h.sources from to has (omega arith) in omega arith
      held from to has le (inr e) =
          let y = (down to.core).second in let x = k.sources from to has (omega arith) in omega arith

pub union_closed : UnionClosedLaw
union_closed which r a b h k = union_is_closed which r a b h k

pub intersection_closed : IntersectionClosedLaw
intersection_closed which r a b h k = intersection_is_closed which r a b h k
