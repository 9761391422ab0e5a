-- What is kept of each core.
use Rattle.std.proofs.Common.{◌≡◌, ◌∙◌, sym, ap, ℕ, ◌<◌, List, length, get_or}
use Rattle.std.specs.Prelude.{map, slice_set}
use Rattle.std.proofs.lemmas.List.{get_or-map, length-map, map-set}
use Rattle.access_times.specs.Riding.{Carrying}
use Rattle.image_mem.specs.Contents.{Contents}
use Rattle.tso_state.specs.States.{BufferedCore, State, buffered_start}
use Rattle.tso_core.specs.declared.standing.Standing.{Standing}
use Rattle.tso_core.specs.Standings.{StandingsFit, standing_at, standing_with}
use Rattle.move_marks.proofs.OnePort.{one_now}
use Rattle.machine_ports.proofs.Elsewhere.{MovedAt}

-- what is kept of a core with its pending accesses
abbrev pub kept_of : Contents → BufferedCore → Standing
kept_of image t = standing_with image t.core

module _ {R K : Type 0} where
  pub standings_long : (s : State R K) (standings : List Standing) → StandingsFit s standings →
      length standings ≡ length s.cores
  standings_long s standings fit = ap length fit ∙ length-map s.cores (kept_of s.image)

  pub stands_at : (s : State R K) (standings : List Standing) (c : ℕ) (d : Standing) → StandingsFit s standings →
      c < length s.cores →
      get_or standings c d ≡ standing_at s c
  stands_at s standings c d fit here =
      ap (λ (xs : List Standing). get_or xs c d) fit ∙ get_or-map (kept_of s.image) s.cores c (buffered_start 0 0) d
      here

  -- the core that moved stands at something else
  pub moved_stands : (carrying : Carrying K) (s t : State R K) (standings : List Standing) (c : ℕ) (kept : Standing) →
      MovedAt s t c →
      StandingsFit s standings → c < length s.cores → kept ≡ standing_at t c →
      StandingsFit t (slice_set standings c kept)
  moved_stands carrying s t standings c kept moved fit here stands =
      (λ i. slice_set (fit i) c (stands i))
      ∙ (λ i. slice_set (map (kept_of (image i)) s.cores) c (kept_of t.image
      (one_now s.cores t.cores c moved.cores (buffered_start 0 0) here i)))
      ∙ sym (map-set (kept_of t.image) s.cores c moved.cores.one)
      ∙ ap (map (kept_of t.image)) (sym moved.cores.is)
    where
      image : s.image ≡ t.image
      image = sym moved.image
