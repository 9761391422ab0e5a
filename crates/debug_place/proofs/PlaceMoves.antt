-- What a place's parts say of a move is said of its recording, since they belong together.
use Rattle.std.proofs.Common.{inl, inr, ◌≡◌, ◌∙◌, ℕ, ◌<◌, ◌≤◌, List, length, take, sym, ap, subst, arith}
use Rattle.std.proofs.lemmas.Bool.{cases_lt}
use Rattle.std.proofs.lemmas.List.{take_all}
use Rattle.std.specs.Prelude.{Option}
use Rattle.rtr_types.specs.declared.TheConstants.{CORES_MAX}
use Rattle.rtr_types.specs.declared.cut.Cut.{Cut}
use Rattle.rtr_types.specs.declared.pairs.Which.{Which}
use Rattle.race_log.specs.declared.recording.Recording.{Recording}
use Rattle.replay_core.specs.Orders.{counts, nought}
use Rattle.replay_audit.specs.Audits.{Findings}
use Rattle.cut_replay.specs.ClosedCuts.{count_in, IsClosed, IsContained}
use Rattle.cut_moves.specs.Rounds.{rounds_of}
use Rattle.cut_moves.specs.Ways.{between, way_before}
use Rattle.cut_moves.proofs.SeatCounts.{among_grows}
use Rattle.debug_place.specs.Hits.{FirstIn, Hits, LastIn, stops_on}
use Rattle.debug_place.specs.Places.{Fits}
use Rattle.debug_place.proofs.StopPlaces.{IsCutBefore, in_line}

module _ (a : Findings) (timeline : List ℕ) (index : Findings) (cut : Cut) (fits : Fits a timeline index cut)
    (low high : Cut) where
  at_rounds : (P : Which → Recording → List ℕ → Type 0) → P index.which index.recording timeline →
      P a.which a.recording (rounds_of a.which a.recording)
  at_rounds P x =
      subst (λ (l : List ℕ). P a.which a.recording l) fits.timeline_is
      (subst (λ (f : Findings). P f.which f.recording timeline) fits.index_is x)

  pub first_there : (hits : Hits) (found : Option ℕ) →
      FirstIn (stops_on hits index.which index.recording low high timeline) 0 (length timeline) found →
      FirstIn (stops_on hits a.which a.recording low high (rounds_of a.which a.recording)) 0
      (length (rounds_of a.which a.recording)) found
  first_there hits found is = at_rounds (λ w r l. FirstIn (stops_on hits w r low high l) 0 (length l) found) is

  pub last_there : (hits : Hits) (found : Option ℕ) →
      LastIn (stops_on hits index.which index.recording low high timeline) 0 (length timeline) found →
      LastIn (stops_on hits a.which a.recording low high (rounds_of a.which a.recording)) 0
      (length (rounds_of a.which a.recording)) found
  last_there hits found is = at_rounds (λ w r l. LastIn (stops_on hits w r low high l) 0 (length l) found) is

  pub most_there : IsContained low high → IsClosed a.which a.recording high → (core : ℕ) → core < CORES_MAX →
      count_in high core ≤ counts nought timeline core
  most_there within closed core few =
      subst (λ (l : List ℕ). count_in high core ≤ counts nought l core) (sym fits.timeline_is)
      (in_line a.which a.recording fits.valid fits.determinate low high within closed core)

  pub before_there : (n : ℕ) (to : Cut) → to.cores ≡ low.cores → length to.counts ≡ CORES_MAX →
      ((core : ℕ) → core < CORES_MAX → count_in to core
      ≡ counts (count_in low) (way_before (count_in low) (count_in high) timeline n) core) →
      IsCutBefore a.which a.recording low high n to
  before_there n to cores places are = record {
    cores = cores;
    places = places;
    counts_are = λ core few. are core few
        ∙ ap (λ (l : List ℕ). counts (count_in low) (way_before (count_in low) (count_in high) l n) core)
        fits.timeline_is;
  }

-- no more of a core's instructions stand among the first places than in all
pub among_most : (line : List ℕ) (number core : ℕ) → counts nought (take number line) core ≤ counts nought line core
among_most line number core = elim (cases_lt number (length line)) [
  | inl inside ↦
      let grows = among_grows line number (length line) core (omega arith) in
      let all : counts nought (take (length line) line) core ≡ counts nought line core =
      ap (λ (l : List ℕ). counts nought l core) (take_all (length line) line (omega arith)) in
      omega arith
  | inr past ↦
      let all : counts nought (take number line) core ≡ counts nought line core =
      ap (λ (l : List ℕ). counts nought l core) (take_all number line past) in
      omega arith
]

-- so many as lie between none and all are as many
pub among_between : (line : List ℕ) (number core total : ℕ) → counts nought line core ≡ total →
    between 0 total (counts nought (take number line) core) ≡ counts nought (take number line) core
among_between line number core total all = let most = among_most line number core in omega arith
