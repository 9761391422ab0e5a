-- Core by core: the first of a core's counts at which a test stops it on a way stands at the first such place of the
-- core, and the last one at the last.
use Rattle.std.proofs.Common.{inl, inr, ◌≡◌, ◌⊎◌, ℕ, ◌+◌, ◌<◌, ◌≤◌, Bool, true, false, ◌&&◌, List, length, take}
use Rattle.std.proofs.Common.{refl, ap, ◌∙◌, arith}
use Rattle.std.specs.Prelude.{slice_index, nat_le, nat_lt, Option, Some, None, MatchOption}
use Rattle.std.proofs.lemmas.Bool.{cases_lt, leb-true, ltb-true}
use native.Mathlib.Decide.{ℕ_discrete}
use Rattle.rtr_types.specs.declared.cut.Cut.{Cut}
use Rattle.rtr_types.specs.declared.pairs.Which.{Which}
use Rattle.race_log.specs.declared.recording.Recording.{Recording}
use Rattle.replay_core.specs.Orders.{counts, nought}
use Rattle.cut_replay.specs.ClosedCuts.{count_in, IsContained}
use Rattle.cut_moves.specs.Seats.{IsSeat}
use Rattle.cut_moves.proofs.Along.{on_is}
use Rattle.cut_moves.proofs.SeatCounts.{among_grows, among_here}
use Rattle.cut_moves.proofs.WayPlaces.{both}
use Rattle.debug_place.specs.Hits.{AreCountsWithin, FirstIn, Hits, IsFirst, IsLast, LastIn, NoneIn, stops_behind}
use Rattle.debug_place.specs.Hits.{stops_on}

-- of the first cores' places from `from` on, before `most`, the first stop was found, and stands at `past`
pub record IsFoundFirst (at : ℕ → Bool) (line : List ℕ) (cores from most past : ℕ) (found : Option ℕ) : Type 0 where
  pub less : past ≤ most
  pub none : (n : ℕ) → from ≤ n → n < past → slice_index line n < cores → at n ≡ false
  pub here : MatchOption found (past ≡ most) (λ n. (n ≡ past) × (from ≤ n) × (n < most) × (at n ≡ true))

-- and of those from `least` on, before `past`, the last one was, and stands just before `from`
pub record IsFoundLast (at : ℕ → Bool) (line : List ℕ) (cores least past from : ℕ) (found : Option ℕ) : Type 0 where
  pub more : least ≤ from
  pub none : (n : ℕ) → from ≤ n → n < past → slice_index line n < cores → at n ≡ false
  pub here : MatchOption found (from ≡ least) (λ n. (from ≡ n + 1) × (least ≤ n) × (n < past) × (at n ≡ true))

pub first_start : (at : ℕ → Bool) (line : List ℕ) (from most : ℕ) → IsFoundFirst at line 0 from most most None
first_start at line from most =
    record { less = omega arith; none = λ n le lt below. absurd (omega arith); here = refl }

pub last_start : (at : ℕ → Bool) (line : List ℕ) (least past : ℕ) → IsFoundLast at line 0 least past least None
last_start at line least past =
    record { more = omega arith; none = λ n le lt below. absurd (omega arith); here = refl }

-- all cores were looked at
pub first_end : (at : ℕ → Bool) (line : List ℕ) (cores from most past : ℕ) (found : Option ℕ) →
    IsFoundFirst at line cores from most past found → most ≤ length line →
    ((n : ℕ) → n < length line → slice_index line n < cores) → FirstIn at from most found
first_end at line cores from most past None h all few =
    λ n least below. let same = h.here in h.none n least (omega arith) (few n (omega arith))
first_end at line cores from most past (Some k) h all few = record {
  least = h.here.1;
  most = h.here.2;
  here = h.here.3;
  before = λ n least below.
      let same = h.here.0 in let inside = h.here.2 in h.none n least (omega arith) (few n (omega arith));
}

pub last_end : (at : ℕ → Bool) (line : List ℕ) (cores least past from : ℕ) (found : Option ℕ) →
    IsFoundLast at line cores least past from found → past ≤ length line →
    ((n : ℕ) → n < length line → slice_index line n < cores) → LastIn at least past found
last_end at line cores least past from None h all few =
    λ n least_n below. let same = h.here in h.none n (omega arith) below (few n (omega arith))
last_end at line cores least past from (Some k) h all few = record {
  least = h.here.1;
  most = h.here.2;
  here = h.here.3;
  behind = λ n above below.
      let same = h.here.0 in h.none n (omega arith) below (few n (omega arith));
}

module _ (hits : Hits) (which : Which) (r : Recording) (low high : Cut) (line : List ℕ) (core : ℕ) where
  abbrev behind : ℕ → Bool
  behind count = stops_behind hits which r core count

  abbrev among : ℕ → ℕ
  among n = counts nought (take n line) core

  abbrev least : ℕ
  least = count_in low core

  abbrev most : ℕ
  most = count_in high core

  -- what the test says of a place of the core
  told : (n : ℕ) → slice_index line n ≡ core → stops_on hits which r low high line n
      ≡ ((nat_le (count_in low core) (counts nought (take n line) core)
      && nat_lt (counts nought (take n line) core) (count_in high core))
      && stops_behind hits which r core (counts nought (take n line) core))
  told n is = ap (λ (c : ℕ). (nat_le (count_in low c) (counts nought (take n line) c)
      && nat_lt (counts nought (take n line) c) (count_in high c))
      && stops_behind hits which r c (counts nought (take n line) c)) is

  -- not at a place of the core, if not at its count there where that is on the way
  not_there : (n : ℕ) → slice_index line n ≡ core →
      (count_in low core ≤ counts nought (take n line) core → counts nought (take n line) core < count_in high core →
      stops_behind hits which r core (counts nought (take n line) core) ≡ false) →
      stops_on hits which r low high line n ≡ false
  not_there n is unless = by (nat_le least (among n) && nat_lt (among n) most) refl
    where
      by : (b : Bool) → (nat_le (count_in low core) (counts nought (take n line) core)
          && nat_lt (counts nought (take n line) core) (count_in high core)) ≡ b →
          stops_on hits which r low high line n ≡ false
      by false out = told n is ∙ ap (λ (b : Bool). b && behind (among n)) out
      by true inside =
          let tests = both (nat_le least (among n)) (nat_lt (among n) most) inside in
          told n is ∙ ap (λ (b : Bool). b && behind (among n)) inside
          ∙ unless (leb-true least (among n) tests.0) (ltb-true (among n) most tests.1)

  there : (n count : ℕ) → slice_index line n ≡ core → counts nought (take n line) core ≡ count →
      count_in low core ≤ count → count < count_in high core → stops_behind hits which r core count ≡ true →
      stops_on hits which r low high line n ≡ true
  there n count is count_is le lt so =
      told n is ∙ ap (λ (k : ℕ). (nat_le least k && nat_lt k most) && behind k) count_is
      ∙ ap (λ (b : Bool). b && behind count) (on_is least most count le lt) ∙ so

  -- ---- the counts that stand between two places

  module _ (from past first last : ℕ) (are : AreCountsWithin which r core low high line from past first last)
      (to : past ≤ length line) where
    -- none of them is one where it stops, so none of the core's places there is
    clear : (start end : ℕ) → from ≤ start → end ≤ past → ((n : ℕ) → start ≤ n → n < end → slice_index line n ≡ core →
        count_in low core ≤ counts nought (take n line) core →
        counts nought (take n line) core < count_in high core → first ≤ counts nought (take n line) core →
        counts nought (take n line) core < last →
        stops_behind hits which r core (counts nought (take n line) core) ≡ false) →
        (n : ℕ) → start ≤ n → n < end → slice_index line n ≡ core → stops_on hits which r low high line n ≡ false
    clear start end le up none n more less is =
        not_there n is (λ least_n most_n.
        let here = among_here line n core (omega arith) is in
        let below = among_grows line from n core (omega arith) in
        let above = among_grows line (n + 1) past core (omega arith) in
        let f = are.least_is in
        let l = are.most_is in
        none n more less is least_n most_n (omega arith) (omega arith))

    module _ (count number : ℕ) (seat : IsSeat line core count number) (some : first ≤ count) (less : count < last)
      where
        seat_from : from ≤ number
        seat_from = by (cases_lt number from)
          where
            by : (number < from) ⊎ (from ≤ number) → from ≤ number
            by (inr le) = le
            by (inl lt) =
                let here = among_here line number core seat.inside seat.core_is in
                let grows = among_grows line (number + 1) from core (omega arith) in
                let b = seat.behind in
                let f = are.least_is in
                let l = are.most_is in
                absurd (omega arith)

        seat_past : number < past
        seat_past = by (cases_lt number past)
          where
            by : (number < past) ⊎ (past ≤ number) → number < past
            by (inl lt) = lt
            by (inr le) =
                let grows = among_grows line past number core le in
                let b = seat.behind in
                let f = are.least_is in
                let l = are.most_is in
                absurd (omega arith)

        stops_there : IsContained low high → stops_behind hits which r core count ≡ true →
            stops_on hits which r low high line number ≡ true
        stops_there within so =
            let f = are.least_is in
            let l = are.most_is in
            let w = within core in
            there number count seat.core_is seat.behind (omega arith) (omega arith) so

  -- ---- the first

  module _ (from end past first last : ℕ) (found : Option ℕ) (within : IsContained low high)
      (h : IsFoundFirst (stops_on hits which r low high line) line core from end past found) (all : end ≤ length line)
      (are : AreCountsWithin which r core low high line from past first last) where
    to : past ≤ length line
    to = let l = h.less in omega arith

    pub passed_first : NoneIn (stops_behind hits which r core) first last →
        IsFoundFirst (stops_on hits which r low high line) line (core + 1) from end past found
    passed_first none = record {
      less = h.less;
      none = λ n le lt below. elim (ℕ_discrete (slice_index line n) core) [
        | yes is ↦ clear from past first last are to from past (omega arith) (omega arith)
            (λ m a b c d e f g. none (among m) f g) n le lt is
        | no other ↦ h.none n le lt (omega arith)
      ];
      here = h.here;
    }

    pub stopped_first : (count number : ℕ) → IsSeat line core count number →
        IsFirst (stops_behind hits which r core) first last count →
        IsFoundFirst (stops_on hits which r low high line) line (core + 1) from end number (Some number)
    stopped_first count number seat is =
        let below = seat_past from past first last are to count number seat is.least is.most in
        let above = seat_from from past first last are to count number seat is.least is.most in
        let less = h.less in
        record {
          less = omega arith;
          none = λ n le lt fewer. elim (ℕ_discrete (slice_index line n) core) [
            | yes same ↦ clear from past first last are to from number (omega arith) (omega arith)
                (λ m a b c d e f g.
                let here = among_here line m core (omega arith) c in
                let grows = among_grows line (m + 1) number core (omega arith) in
                let behind_it = seat.behind in
                is.before (among m) f (omega arith)) n le lt same
            | no other ↦ h.none n le (omega arith) (omega arith)
          ];
          here = (
            refl,
            above,
            omega arith,
            stops_there from past first last are to count number seat is.least is.most within is.here,
          );
        }

  -- ---- the last

  module _ (begin past from first last : ℕ) (found : Option ℕ) (within : IsContained low high)
      (h : IsFoundLast (stops_on hits which r low high line) line core begin past from found)
      (to_end : past ≤ length line) (are : AreCountsWithin which r core low high line from past first last) where
    pub passed_last : NoneIn (stops_behind hits which r core) first last →
        IsFoundLast (stops_on hits which r low high line) line (core + 1) begin past from found
    passed_last none = record {
      more = h.more;
      none = λ n le lt below. elim (ℕ_discrete (slice_index line n) core) [
        | yes is ↦ clear from past first last are to_end from past (omega arith) (omega arith)
            (λ m a b c d e f g. none (among m) f g) n le lt is
        | no other ↦ h.none n le lt (omega arith)
      ];
      here = h.here;
    }

    pub stopped_last : (count number : ℕ) → IsSeat line core count number →
        IsLast (stops_behind hits which r core) first last count →
        IsFoundLast (stops_on hits which r low high line) line (core + 1) begin past (number + 1) (Some number)
    stopped_last count number seat is =
        let below = seat_past from past first last are to_end count number seat is.least is.most in
        let above = seat_from from past first last are to_end count number seat is.least is.most in
        let more = h.more in
        record {
          more = omega arith;
          none = λ n le lt fewer. elim (ℕ_discrete (slice_index line n) core) [
            | yes same ↦ clear from past first last are to_end (number + 1) past (omega arith) (omega arith)
                (λ m a b c d e f g.
                let here = among_here line number core seat.inside seat.core_is in
                let grows = among_grows line (number + 1) m core a in
                let behind_it = seat.behind in
                is.behind (among m) (omega arith) g) n le lt same
            | no other ↦ h.none n (omega arith) lt (omega arith)
          ];
          here = (
            refl,
            omega arith,
            below,
            stops_there from past first last are to_end count number seat is.least is.most within is.here,
          );
        }
