-- Rule: packets that run the program again: extended_of, RunsAgain
-- What a debugger asks that may run the program again: its run is the recorded one, from the beginning.
use Rattle.std.specs.Prelude.{◌≡◌, ℕ, is_some, List, [], ◌∷◌, codes, Option, Some, None, if◌then◌else◌}
use Rattle.std.specs.Str.{bytes_eq}
use Rattle.gdb_packets.specs.Replies.{spelled}
use Rattle.gdb_packets.specs.Texts.{behind}
use Rattle.gdb_packets.specs.declared.replies.Reply.TheVariants as reply
use Rattle.debug_place.specs.Places.{IsKept}
use Rattle.gdb_moves.specs.Sights.{IsAtStart}
use Rattle.gdb_session.specs.declared.extended.Extended.{Extended}
use Rattle.gdb_session.specs.declared.extended.Extended.TheVariants.{Stay, Restart, Run}
use Rattle.gdb_session.specs.Seats.{Seat}
use Rattle.gdb_session.specs.Told.{told_stop}
use Rattle.gdb_session.specs.Wishes.{outliving, told_wishes}

-- what a packet asks, if it is such a packet
abbrev pub extended_of : (packet : List ℕ) → Option Extended
extended_of packet =
    if bytes_eq packet (codes "!") then Some Stay else
    if is_some (behind packet (codes "vRun")) then Some Run else
    if is_some (behind packet (codes "R")) then Some Restart else None

-- the session outlives the program from here on
pub record Outlives (old new : Seat) (payloads : List (List ℕ)) : Type 0 where
  pub place : new.place ≡ old.place
  pub wishes : new.wishes ≡ outliving old.wishes
  pub points : new.points ≡ old.points
  pub marks : new.marks ≡ old.marks
  pub payloads_are : payloads ≡ spelled reply.Done ∷ []

-- the place comes to the beginning, core 0 is told, and points and marks stay
pub record RunsAgain (old new : Seat) : Type 0 where
  pub kept : IsKept old.place new.place
  pub start : IsAtStart new.place
  pub wishes : new.wishes ≡ told_wishes old.wishes 0
  pub points : new.points ≡ old.points
  pub marks : new.marks ≡ old.marks

-- what is told then
abbrev pub begun_payloads : Extended → List (List ℕ)
begun_payloads Run = spelled (reply.Stopped (told_stop 0)) ∷ []
begun_payloads _ = []

-- and this is told
pub record TellsRun (asked : Extended) (old new : Seat) (payloads : List (List ℕ)) : Type 0 where
  pub runs : RunsAgain old new
  pub payloads_are : payloads ≡ begun_payloads asked

abbrev pub AnswersExtended : Extended → (old new : Seat) → List (List ℕ) → Type 0
AnswersExtended Stay old new payloads = Outlives old new payloads
AnswersExtended Restart old new payloads = TellsRun Restart old new payloads
AnswersExtended Run old new payloads = TellsRun Run old new payloads
