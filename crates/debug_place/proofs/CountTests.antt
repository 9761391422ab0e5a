-- The first and the last number of which a test is true, one number after the other; and what is noted of a core's next
-- instructions says what a test says of each of its counts.
use Rattle.std.proofs.Common.{inl, inr, ◌≡◌, ℕ, ◌+◌, ◌-◌, ◌<◌, ◌≤◌, Bool, true, false, ◌&&◌, List, refl}
use Rattle.std.proofs.Common.{sym, ap, ◌∙◌, arith}
use Rattle.std.specs.Prelude.{◌||◌, nat_eq, slice_index, None, Option, Some, MatchOption, unwrap_or}
use Rattle.std.proofs.lemmas.Bool.{cases_lt}
use Rattle.std.proofs.lemmas.Bool.Decides.{nat_tests}
use Rattle.std.proofs.Math.Bool.{and-false}
use native.Mathlib.Decide.{ℕ_discrete}
use Rattle.replay_audit.specs.Audits.{Findings}
use Rattle.cut_index.specs.AloneLaws.{next_at}
use Rattle.cut_index.specs.Indexes.{ArePcsOf, AreUsesOf}
use Rattle.replay_core.specs.Play.{Use}
use Rattle.debug_place.specs.Hits.{EndsIn, FirstIn, Hits, IsFirst, IsLast, LastIn, NoneIn, hits_at, pc_hits, stops_behind}
use Rattle.debug_place.specs.Hits.{use_hits}

pub none_more : (at : ℕ → Bool) (from n : ℕ) → NoneIn at from n → at n ≡ false → NoneIn at from (n + 1)
none_more at from n none here m least most = elim (cases_lt m n) [
  | inl before ↦ none m least before
  | inr not_before ↦
      let same : m ≡ n = omega arith in
      ap at same ∙ here
]

pub none_less : (at : ℕ → Bool) (n k past : ℕ) → n ≡ k + 1 → NoneIn at n past → at k ≡ false → NoneIn at k past
none_less at n k past is none here m least most = elim (cases_lt k m) [
  | inl behind ↦ none m (omega arith) most
  | inr not_behind ↦
      let same : m ≡ k = omega arith in
      ap at same ∙ here
]

-- two ranges one after the other
pub first_join : (at : ℕ → Bool) (from mid past : ℕ) (found : Option ℕ) → from ≤ mid → NoneIn at from mid →
    FirstIn at mid past found → FirstIn at from past found
first_join at from mid past None le before none = λ n least below. elim (cases_lt n mid) [
  | inl lt ↦ before n least lt
  | inr more ↦ none n more below
]
first_join at from mid past (Some k) le before is = record {
  least = let l = is.least in omega arith;
  most = is.most;
  here = is.here;
  before = λ n least below. elim (cases_lt n mid) [
    | inl lt ↦ before n least lt
    | inr more ↦ is.before n more below
  ];
}

pub last_join : (at : ℕ → Bool) (from mid past : ℕ) (found : Option ℕ) → mid ≤ past → NoneIn at mid past →
    LastIn at from mid found → LastIn at from past found
last_join at from mid past None le behind none = λ n least below. elim (cases_lt n mid) [
  | inl lt ↦ none n least lt
  | inr more ↦ behind n more below
]
last_join at from mid past (Some k) le behind is = record {
  least = is.least;
  most = let m = is.most in omega arith;
  here = is.here;
  behind = λ n above below. elim (cases_lt n mid) [
    | inl lt ↦ is.behind n above lt
    | inr more ↦ behind n more below
  ];
}

pub none_join : (at : ℕ → Bool) (from mid past : ℕ) → NoneIn at from mid → NoneIn at mid past → NoneIn at from past
none_join at from mid past first second n least below = elim (cases_lt n mid) [
  | inl lt ↦ first n least lt
  | inr more ↦ second n more below
]

or_true : (b : Bool) → (b || true) ≡ true
or_true true = refl
or_true false = refl

-- ---- with the last instruction

module _ (hits : Hits) (a : Findings) (core from past : ℕ) (most : past ≤ slice_index a.recording.totals core) where
  abbrev total : ℕ
  total = slice_index a.recording.totals core

  abbrev behind : ℕ → Bool
  behind count = stops_behind hits a.which a.recording core count

  abbrev each : ℕ → Bool
  each count = hits_at hits a.which a.recording core count

  -- what the test says at a count
  told : (count : ℕ) → count < slice_index a.recording.totals core →
      stops_behind hits a.which a.recording core count
      ≡ (hits.last core && nat_eq (count + 1) (slice_index a.recording.totals core)
      || hits_at hits a.which a.recording core count)
  told count below = refl

  -- a count that isn't the last one's
  told_each : (count : ℕ) → count + 1 < slice_index a.recording.totals core →
      stops_behind hits a.which a.recording core count ≡ hits_at hits a.which a.recording core count
  told_each count less =
      let not_last : nat_eq (count + 1) total ≡ false = grind (arith, nat_tests) in
      told count (omega arith)
      ∙ ap (λ (b : Bool). hits.last core && b || each count) not_last
      ∙ ap (λ (b : Bool). b || each count) (and-false (hits.last core))

  hit_each : (count : ℕ) → count < slice_index a.recording.totals core → hits_at hits a.which a.recording core count ≡ true →
      stops_behind hits a.which a.recording core count ≡ true
  hit_each count below so =
      told count below ∙ ap (λ (b : Bool). hits.last core && nat_eq (count + 1) total || b) so
      ∙ or_true (hits.last core && nat_eq (count + 1) total)

  hit_last : EndsIn hits core (slice_index a.recording.totals core) from past →
      stops_behind hits a.which a.recording core (past - 1) ≡ true
  hit_last ends =
      let some = ends.some in
      let all = ends.all in
      let is_last : nat_eq (past - 1 + 1) total ≡ true =
      ap (λ (n : ℕ). nat_eq (past - 1 + 1) n) (sym all) ∙ same_last in
      told (past - 1) (omega arith) ∙ ap (λ (b : Bool). b && nat_eq (past - 1 + 1) total || each (past - 1)) ends.last
      ∙ ap (λ (b : Bool). b || each (past - 1)) is_last
    where
      same_last : nat_eq (past - 1 + 1) past ≡ true
      same_last = let some = ends.some in let e : past - 1 + 1 ≡ past = omega arith in grind (arith, nat_tests)

  -- the last instruction doesn't stop it
  passed : (EndsIn hits core (slice_index a.recording.totals core) from past → ⊥) → (count : ℕ) → from ≤ count →
      count < past → hits_at hits a.which a.recording core count ≡ false →
      stops_behind hits a.which a.recording core count ≡ false
  passed not_ends count least below not_each = elim (ℕ_discrete (count + 1) total) [
    | yes same ↦
        let quiet : hits.last core ≡ false = by_last same (hits.last core) refl in
        told count (omega arith) ∙ ap (λ (b : Bool). b && nat_eq (count + 1) total || each count) quiet ∙ not_each
    | no other ↦ told_each count (omega arith) ∙ not_each
  ]
    where
      by_last : count + 1 ≡ slice_index a.recording.totals core → (b : Bool) → hits.last core ≡ b →
          hits.last core ≡ false
      by_last same false is = is
      by_last same true is = absurd (not_ends (record { some = omega arith; all = omega arith; last = is }))

  pub first_found : (count : ℕ) → IsFirst (hits_at hits a.which a.recording core) from past count →
      IsFirst (stops_behind hits a.which a.recording core) from past count
  first_found count is = record {
    least = is.least;
    most = is.most;
    here = hit_each count (let m = is.most in omega arith) is.here;
    before = λ n least below. told_each n (let m = is.most in omega arith) ∙ is.before n least below;
  }

  pub first_last : NoneIn (hits_at hits a.which a.recording core) from past →
      EndsIn hits core (slice_index a.recording.totals core) from past →
      IsFirst (stops_behind hits a.which a.recording core) from past (past - 1)
  first_last none ends =
      let some = ends.some in
      let all = ends.all in
      record {
        least = omega arith;
        most = omega arith;
        here = hit_last ends;
        before = λ n least below. told_each n (omega arith) ∙ none n least (omega arith);
      }

  pub none_found : NoneIn (hits_at hits a.which a.recording core) from past →
      (EndsIn hits core (slice_index a.recording.totals core) from past → ⊥) →
      NoneIn (stops_behind hits a.which a.recording core) from past
  none_found none not_ends n least below = passed not_ends n least below (none n least below)

  pub last_last : EndsIn hits core (slice_index a.recording.totals core) from past →
      IsLast (stops_behind hits a.which a.recording core) from past (past - 1)
  last_last ends =
      let some = ends.some in
      record {
        least = omega arith;
        most = omega arith;
        here = hit_last ends;
        behind = λ n above below. absurd (omega arith);
      }

  pub last_found : (EndsIn hits core (slice_index a.recording.totals core) from past → ⊥) → (found : Option ℕ) →
      LastIn (hits_at hits a.which a.recording core) from past found →
      LastIn (stops_behind hits a.which a.recording core) from past found
  last_found not_ends None none = none_found none not_ends
  last_found not_ends (Some count) is = record {
    least = is.least;
    most = is.most;
    here = hit_each count (let m = is.most in omega arith) is.here;
    behind = λ n above below.
        let l = is.least in passed not_ends n (omega arith) below (is.behind n above below);
  }

-- ---- by addresses, and by accesses

module _ (hits : Hits) (a : Findings) (core : ℕ) (pcs uses : List ℕ) (are_pcs : ArePcsOf a core pcs)
    (are_uses : AreUsesOf a core uses) (from past : ℕ) (most : past ≤ slice_index a.recording.totals core) where
  abbrev here : ℕ → Bool
  here count = hits_at hits a.which a.recording core count

  by_lists : (count : ℕ) → count < slice_index a.recording.totals core →
      hits_at hits a.which a.recording core count ≡ (pc_hits hits core pcs count || use_hits hits core uses count)
  by_lists count below =
      ap (λ (pc : ℕ). hits.by_pc core pc || hits.by_use core (next_at a.which a.recording core count).used)
      (sym (are_pcs.each count (let all = are_pcs.all in omega arith)))
      ∙ ap (λ (used : Use). pc_hits hits core pcs count || hits.by_use core used)
      (sym (are_uses.each count (let all = are_uses.all in omega arith)))

  met_pc : (count : ℕ) → count < slice_index a.recording.totals core → pc_hits hits core pcs count ≡ true →
      hits_at hits a.which a.recording core count ≡ true
  met_pc count below so = by_lists count below ∙ ap (λ (b : Bool). b || use_hits hits core uses count) so

  met_use : (count : ℕ) → count < slice_index a.recording.totals core → use_hits hits core uses count ≡ true →
      hits_at hits a.which a.recording core count ≡ true
  met_use count below so =
      by_lists count below ∙ ap (λ (b : Bool). pc_hits hits core pcs count || b) so
      ∙ or_true (pc_hits hits core pcs count)

  met_none : (count : ℕ) → count < slice_index a.recording.totals core → pc_hits hits core pcs count ≡ false →
      use_hits hits core uses count ≡ false → hits_at hits a.which a.recording core count ≡ false
  met_none count below no_pc no_use =
      by_lists count below ∙ ap (λ (b : Bool). b || use_hits hits core uses count) no_pc ∙ no_use

  -- the first of both

  pub first_by_use : (met : Option ℕ) → FirstIn (pc_hits hits core pcs) from past met → (until count : ℕ) →
      until ≡ unwrap_or met past → IsFirst (use_hits hits core uses) from until count →
      IsFirst (hits_at hits a.which a.recording core) from past count
  first_by_use None none until count is first = record {
    least = first.least;
    most = let m = first.most in omega arith;
    here = met_use count (let m = first.most in omega arith) first.here;
    before = λ n least below.
        let m = first.most in
        met_none n (omega arith) (none n least (omega arith)) (first.before n least below);
  }
  first_by_use (Some k) met until count is first = record {
    least = first.least;
    most = let m = first.most in let l = met.most in omega arith;
    here = met_use count (let m = first.most in let l = met.most in omega arith) first.here;
    before = λ n least below.
        let m = first.most in
        let l = met.most in
        met_none n (omega arith) (met.before n least (omega arith)) (first.before n least below);
  }

  pub first_by_pc : (met : Option ℕ) → FirstIn (pc_hits hits core pcs) from past met → (until : ℕ) →
      until ≡ unwrap_or met past → NoneIn (use_hits hits core uses) from until →
      FirstIn (hits_at hits a.which a.recording core) from past met
  first_by_pc None none until is no_use = λ n least below.
      met_none n (omega arith) (none n least below) (no_use n least (omega arith))
  first_by_pc (Some k) met until is no_use = record {
    least = met.least;
    most = met.most;
    here = met_pc k (let l = met.most in omega arith) met.here;
    before = λ n least below.
        let l = met.most in
        met_none n (omega arith) (met.before n least below) (no_use n least (omega arith));
  }

  -- the last of both

  pub last_by_use : (met : Option ℕ) → LastIn (pc_hits hits core pcs) from past met → (since count : ℕ) →
      MatchOption met (since ≡ from) (λ k. since ≡ k + 1) → IsLast (use_hits hits core uses) since past count →
      IsLast (hits_at hits a.which a.recording core) from past count
  last_by_use None none since count is last = record {
    least = let l = last.least in omega arith;
    most = last.most;
    here = met_use count (let m = last.most in omega arith) last.here;
    behind = λ n above below.
        let l = last.least in
        met_none n (omega arith) (none n (omega arith) below) (last.behind n above below);
  }
  last_by_use (Some k) met since count is last = record {
    least = let l = last.least in let m = met.least in omega arith;
    most = last.most;
    here = met_use count (let m = last.most in omega arith) last.here;
    behind = λ n above below.
        let l = last.least in
        met_none n (omega arith) (met.behind n (omega arith) below) (last.behind n above below);
  }

  pub last_by_pc : (met : Option ℕ) → LastIn (pc_hits hits core pcs) from past met → (since : ℕ) →
      MatchOption met (since ≡ from) (λ k. since ≡ k + 1) → NoneIn (use_hits hits core uses) since past →
      LastIn (hits_at hits a.which a.recording core) from past met
  last_by_pc None none since is no_use = λ n least below.
      met_none n (omega arith) (none n least below) (no_use n (omega arith) below)
  last_by_pc (Some k) met since is no_use = record {
    least = met.least;
    most = met.most;
    here = met_pc k (let m = met.most in omega arith) met.here;
    behind = λ n above below.
        met_none n (omega arith) (met.behind n above below) (no_use n (omega arith) below);
  }
