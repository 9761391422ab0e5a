-- The windows that the code makes are those between two cuts.
use Rattle.std.proofs.Common.{◌≡◌, ℕ, ◌+◌, ◌<◌, ◌≤◌, List, [], length, take, refl, sym, ap, ◌∙◌, subst, arith}
use Rattle.std.proofs.lemmas.List.{take_all}
use Rattle.std.specs.Prelude.{slice_index, slice_index_or}
use Rattle.rtr_types.specs.declared.TheConstants.{CORES_MAX}
use Rattle.replay_core.specs.Orders.{counts, nought}
use Rattle.cut_moves.specs.Seats.{AreWindows, HaveSeats, IsWindow, window_at}
use Rattle.cut_moves.specs.declared.seats.Window.{Window}
use Rattle.cut_moves.proofs.SeatCounts.{on_window}

module _ (timeline : List ℕ) (seats : List (List ℕ)) (h : HaveSeats timeline seats) (low high : ℕ → ℕ) where
  -- a core has at least as many seats as a cut within the timeline has of its instructions
  pub enough_seats : ((core : ℕ) → core < CORES_MAX → high core ≤ counts nought timeline core) → (core : ℕ) →
      core < CORES_MAX → high core ≤ length (slice_index_or seats core [])
  enough_seats most core few =
      let all = (h.up_to.each core few).all in
      let whole = ap (λ (l : List ℕ). counts nought l core) (take_all (length timeline) timeline (omega arith)) in
      let m = most core few in
      omega arith

  -- one more than a seat is in range
  pub seats_small : (core : ℕ) → core < CORES_MAX → (count : ℕ) → count < length (slice_index_or seats core []) →
      slice_index (slice_index_or seats core []) count + 1 < 4294967296
  seats_small core few count below =
      let inside = ((h.up_to.each core few).each count below).inside in
      let short = h.short in
      omega arith

  pub are_windows : (windows : List Window) → length windows ≡ CORES_MAX →
      ((core : ℕ) → core < CORES_MAX → high core ≤ counts nought timeline core) →
      ((core : ℕ) → core < CORES_MAX →
      IsWindow (slice_index_or seats core []) (low core) (high core) (window_at windows core)) →
      AreWindows timeline low high windows
  are_windows windows wide most each = record {
    few = h.few;
    wide = wide;
    each = λ core number few inside is.
        on_window timeline (slice_index_or seats core []) core (low core) (high core) number (window_at windows core)
        (h.up_to.each core few) (enough_seats most core few) (each core few) inside is;
  }
