-- What a session shows: where it stands in the run, what the debugger has asked for, the points that are set, and
-- the cuts that are marked.
use Rattle.std.specs.Prelude.{◌≡◌, ℕ, true, false, List, [], None}
use Rattle.image_mem.specs.Contents.{Contents}
use Rattle.replay_audit.specs.Audits.{Findings}
use Rattle.cut_replay.specs.ClosedCuts.{count_in}
use Rattle.debug_place.specs.Places.{Placed, cut_at}
use Rattle.cut_marks.specs.declared.marks.Mark.{Mark}
use Rattle.gdb_moves.specs.declared.points.Point.{Point}
use Rattle.gdb_moves.specs.Sights.{Sees}
use Rattle.gdb_session.specs.declared.wishes.Wishes.{Wishes}
use Rattle.gdb_session.specs.Wishes.{Fit}

pub record Seat : Type 0 where
  pub place : Placed
  pub wishes : Wishes
  pub points : List Point
  pub marks : List Mark

-- the seat of these parts
abbrev pub seat_of : Placed → Wishes → List Point → List Mark → Seat
seat_of place wishes points marks = record { place = place; wishes = wishes; points = points; marks = marks }

-- the parts of a session belong together
pub record Sits (a : Findings) (image : Contents) (seat : Seat) : Type 0 where
  pub sees : Sees a image seat.place
  pub fit : Fit seat.wishes seat.place.recording.params.cores

-- before anything was asked for: core 0 is looked at, and was told
abbrev pub first_wishes : Wishes
first_wishes = record { looked = 0; told = 0; moving = None; lead = None; interrupted = false; extended = false }

-- a session begins before the first instruction
pub record Begins (a : Findings) (seat : Seat) : Type 0 where
  pub recording : seat.place.recording ≡ a.recording
  pub which : seat.place.which ≡ a.which
  pub nothing : (core : ℕ) → count_in (cut_at seat.place) core ≡ 0
  pub wishes : seat.wishes ≡ first_wishes
  pub points : seat.points ≡ []
  pub marks : seat.marks ≡ []

-- an interrupt came
abbrev pub interrupted : Seat → Seat
interrupted seat = record seat { wishes = record seat.wishes { interrupted = true } }
