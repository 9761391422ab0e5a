-- The recorded words make a valid recording.
use Rattle.std.proofs.Common.{◌≡◌, ◌∙◌, ℕ, ◌+◌, ◌<◌, ◌≤◌, Bool, cond, List, [], ◌∷◌, length}
use Rattle.std.proofs.Common.{get_or, sym, ap, subst}
use Rattle.std.proofs.Common.{eq-eqb, ne_eqb, arith}
use Rattle.std.specs.Prelude.{slice_index}
use Rattle.std.proofs.lemmas.List.FromFn.{length-map-range_with_len, get_or-map-range_with_len}
use native.Mathlib.Decide.{ℕ_discrete}
use Rattle.rtr_types.specs.Turns.{StandInTurn}
use Rattle.race_log.proofs.InTurn.{places-stand}
use Rattle.replay_core.specs.Orders.{bump, counts, nought}
use Rattle.replay_core.proofs.Counts.{bump_same, bump_more, counts_more}
use Rattle.tso_codec.specs.Validity.{IsTso, ValueStands, AreValues, AreValuesOf, count_of, plain_of}
use Rattle.race_log.specs.Validity.{Valid}
use Rattle.tso_codec.specs.declared.recording.TsoRecording.{TsoRecording}
use Rattle.tso_recordings.specs.Plays.{InProgramOrder}
use Rattle.tso_recordings.specs.Tells.{cores_told}
use Rattle.tso_state.specs.Events.{Told, Alone, Ordered, Logged}
use Rattle.tso_data.specs.Words.{SmallTold}
use Rattle.tso_recordings.proofs.Values.{values_by_core, told_values}

stand : (f : ℕ → ℕ) (list : List Told) (c last total : ℕ) → InProgramOrder f list → last ≤ f c →
    counts f (cores_told list) c ≤ total → SmallTold list →
    StandInTurn (ValueStands total) count_of last (told_values c list)
stand f [] c last total h le most small = tt
stand f (Alone at ∷ list) c last total h le most small =
    stand (bump f at.core) list c last total h.1 (let m = bump_more f at.core c in omega arith) most small
stand f (Ordered a ∷ list) c last total h le most small =
    stand (bump f a.at.core) list c last total h.1 (let m = bump_more f a.at.core c in omega arith) most small
stand f (Logged at word value ∷ list) c last total h le most small = elim (ℕ_discrete at.core c) [
  | yes e ↦
      let same : f at.core ≡ f c = ap f e in
      let one = bump_same f at.core c (sym e) in
      let up = counts_more (bump f at.core) (cores_told list) c in
      let first : ValueStands total last (at.count, value) =
      record { rises = let n = h.0 in omega arith; most = let n = h.0 in omega arith; word = small.0 } in
      let rest = stand (bump f at.core) list c at.count total h.1 (let n = h.0 in omega arith) most small.1 in
      subst (λ (b : Bool). StandInTurn (ValueStands total) count_of last
      (cond b ((at.count, value) ∷ told_values c list) (told_values c list)))
      (sym (eq-eqb at.core c e)) (first, rest)
  | no ne ↦
      subst (λ (b : Bool). StandInTurn (ValueStands total) count_of last
      (cond b ((at.count, value) ∷ told_values c list) (told_values c list)))
      (sym (ne_eqb at.core c ne))
      (stand (bump f at.core) list c last total h.1 (let m = bump_more f at.core c in omega arith) most small.1)
]

-- a recording with these words is valid where its other parts are, and each core is told up to its total
pub values_valid : (r : TsoRecording) (list : List Told) → Valid (plain_of r) → InProgramOrder nought list →
    ((core : ℕ) → core < length r.totals → counts nought (cores_told list) core ≡ slice_index r.totals core) →
    SmallTold list → r.values ≡ values_by_core (length r.totals) list → IsTso r
values_valid r list valid order totals small is = record {
  plain = valid;
  each_core = long ∙ valid.each_core;
  values = places-stand (AreValuesOf r.totals) 0 r.values [] each;
}
  where
    told : List (List (ℕ × ℕ))
    told = values_by_core (length r.totals) list

    long : length r.values ≡ length r.totals
    long =
        ap (λ (l : List (List (ℕ × ℕ))). length l) is
        ∙ length-map-range_with_len (λ core. told_values core list) 0 (length r.totals)

    each : (i : ℕ) → i < length r.values → AreValuesOf r.totals (0 + i) (get_or r.values i [])
    each i lt =
        let n : length r.values ≡ length r.totals = long in
        let inside : i < length r.totals = omega arith in
        let all = totals i inside in
        let none : i ≡ 0 + i = omega arith in
        let at : get_or r.values i [] ≡ told_values i list =
        ap (λ (l : List (List (ℕ × ℕ))). get_or l i []) is
        ∙ get_or-map-range_with_len (λ core. told_values core list) 0 (length r.totals) i i [] inside (omega arith) in
        subst (λ (k : ℕ). AreValuesOf r.totals k (get_or r.values i [])) none
        (subst (λ (l : List (ℕ × ℕ)). AreValues (slice_index r.totals i) l) (sym at)
        (stand nought list i 0 (slice_index r.totals i) order (omega arith) (omega arith) small))
