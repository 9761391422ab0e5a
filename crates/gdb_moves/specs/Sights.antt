-- What is looked at: a place of an audited recording, and the recording's image.
use Rattle.std.specs.Prelude.{◌≡◌, ℕ}
use Rattle.image_mem.specs.Contents.{Contents}
use Rattle.replay_core.specs.Plans.{recorded_image}
use Rattle.replay_audit.specs.Audits.{Findings}
use Rattle.cut_replay.specs.ClosedCuts.{count_in}
use Rattle.debug_place.specs.Places.{Placed, cut_at}

-- the place is one of this audited recording
pub record IsOf (a : Findings) (place : Placed) : Type 0 where
  pub recording : a.recording ≡ place.recording
  pub which : a.which ≡ place.which

-- and this is the recording's image
pub record Sees (a : Findings) (image : Contents) (place : Placed) : Type 0 where
  pub run : IsOf a place
  pub image_is : image ≡ recorded_image place.recording

-- nothing is done
abbrev pub IsAtStart : Placed → Type 0
IsAtStart place = (core : ℕ) → count_in (cut_at place) core ≡ 0
