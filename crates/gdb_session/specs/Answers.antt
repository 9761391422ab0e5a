-- Rule: what a packet is answered, and where the debugger stands behind it: Answers, Tells, Moves, Commands, Refuses
-- What a packet is answered, and where the session stands behind it.
use Rattle.std.specs.Prelude.{◌≡◌, List, [], ◌∷◌, Option, Some, None, ℕ, codes}
use Rattle.std.specs.Prelude.{if◌then◌else◌}
use Rattle.gdb_packets.specs.Replies.{spelled}
use Rattle.gdb_commands.specs.Commands.{command_of}
use Rattle.gdb_packets.specs.declared.asks.Ask as asks
use Rattle.gdb_packets.specs.declared.asks.Ask.TheVariants as whole_asks
use Rattle.gdb_packets.specs.declared.asks.Plain.{Plain}
use Rattle.gdb_packets.specs.declared.asks.Plain.TheVariants as plain
use Rattle.gdb_packets.specs.declared.replies.Reply.TheVariants as reply
use Rattle.gdb_packets.specs.declared.replies.Stop as stops
use Rattle.gdb_server.specs.declared.partner.Answer.{Answer}
use Rattle.gdb_server.specs.declared.partner.Next.{Next}
use Rattle.gdb_server.specs.declared.partner.Next.TheVariants.{Listen, StopAcks, End}
use Rattle.gdb_moves.specs.declared.order.Order.{Order}
use Rattle.gdb_moves.specs.declared.points.Point.{Point}
use Rattle.gdb_moves.specs.declared.ranges.Range.{Range}
use Rattle.gdb_monitor.specs.Marking.{marks_after}
use Rattle.gdb_session.specs.Commanded.{IsCommanded}
use Rattle.gdb_moves.specs.Moves.{Obeys}
use Rattle.gdb_session.specs.Orders.{go_back_order, ranged_order, step_back_order}
use Rattle.gdb_moves.specs.Points.{point_of, takes, with_point, without_point}
use Rattle.gdb_session.specs.declared.extended.Extended.{Extended}
use Rattle.gdb_session.specs.declared.ranged.Ranged.{Ranged}
use Rattle.gdb_session.specs.declared.wishes.Wishes.{Wishes}
use Rattle.gdb_session.specs.Extended.{AnswersExtended, extended_of}
use Rattle.gdb_session.specs.Ranged.{asked_in}
use Rattle.gdb_session.specs.Seats.{Seat}
use Rattle.gdb_session.specs.Told.{still_reply, there_reply}
use Rattle.gdb_session.specs.Wishes.{commanded_wishes, told_wishes, wishes_after}

-- ---- packets that move nothing

-- the points behind a packet
abbrev pub points_after : List Point → Plain → List Point
points_after points (plain.SetPoint kind span) = with_point (point_of kind span) points
points_after points (plain.ClearPoint kind span) = without_point (point_of kind span) points
points_after points _ = points

-- how threads can be asked to go on, with steps in a range
abbrev pub kinds_text : List ℕ
kinds_text = codes "vCont;c;C;s;S;r"

-- the payloads that it is answered: none where the debugger leaves and wants none
abbrev pub payloads_of : Seat → Plain → List (List ℕ)
payloads_of seat plain.Quit = []
payloads_of seat plain.ResumeKinds = kinds_text ∷ []
payloads_of seat (plain.SetPoint kind span) = spelled (there_reply (takes (point_of kind span) seat.points)) ∷ []
payloads_of seat (plain.ClearPoint kind span) = spelled reply.Done ∷ []
payloads_of seat other = spelled (still_reply seat.place seat.wishes other) ∷ []

-- the place stays, the rest is what the packet makes of it, and this is answered
pub record Tells (old : Seat) (packet : Plain) (new : Seat) (payloads : List (List ℕ)) : Type 0 where
  pub place : new.place ≡ old.place
  pub wishes : new.wishes ≡ wishes_after old.wishes packet old.place.recording.params.cores
  pub points : new.points ≡ points_after old.points packet
  pub marks : new.marks ≡ old.marks
  pub payloads_are : payloads ≡ payloads_of old packet

-- nothing changes, and it is refused
pub record Refuses (old new : Seat) (payloads : List (List ℕ)) : Type 0 where
  pub seat : new ≡ old
  pub payloads_are : payloads ≡ spelled reply.Refused ∷ []

-- ---- packets that move

-- an order is obeyed, and the stop told
pub record Moves (old : Seat) (order : Order) (new : Seat) (payloads : List (List ℕ)) : Type 0 where
  pub stop : stops.Stop
  pub obeys : Obeys old.points order old.place new.place stop
  pub wishes : new.wishes ≡ told_wishes old.wishes stop.core
  pub points : new.points ≡ old.points
  pub marks : new.marks ≡ old.marks
  pub payloads_are : payloads ≡ spelled (reply.Stopped stop) ∷ []

-- without one it is refused
abbrev pub MovesBy : Option Order → (old new : Seat) → List (List ℕ) → Type 0
MovesBy None old new payloads = Refuses old new payloads
MovesBy (Some order) old new payloads = Moves old order new payloads

-- ---- commands

-- a command is obeyed, and what is told is answered; what the debugger has asked for stays
pub record Commands (old : Seat) (text : List ℕ) (new : Seat) (payloads : List (List ℕ)) : Type 0 where
  pub done : IsCommanded text old.marks old.place new.place payloads
  pub wishes : new.wishes ≡ commanded_wishes old.wishes (command_of text) old.place.recording.params.cores
  pub points : new.points ≡ old.points
  pub marks : new.marks ≡ marks_after (command_of text) old.place old.marks

-- ---- all packets

abbrev pub AnswersPlain : Plain → (old new : Seat) → List (List ℕ) → Type 0
AnswersPlain plain.StepBack old new payloads =
    Moves old (step_back_order old.wishes old.place.recording.params.cores) new payloads
AnswersPlain plain.GoBack old new payloads =
    Moves old (go_back_order old.wishes old.place.recording.params.cores) new payloads
AnswersPlain other old new payloads = Tells old other new payloads

abbrev pub AnswersWith : Option Range → asks.Ask → (old new : Seat) → List (List ℕ) → Type 0
AnswersWith range (whole_asks.Resume actions) old new payloads =
    MovesBy (ranged_order range old.wishes old.place.recording.params.cores actions) old new payloads
AnswersWith range (whole_asks.Command text) old new payloads = Commands old text new payloads
AnswersWith range (whole_asks.Plain packet) old new payloads = AnswersPlain packet old new payloads

-- what is to be done behind the answer: the end of a program ends the session, unless it outlives it
abbrev pub next_after_plain : Wishes → Plain → Next
next_after_plain wishes plain.Detach = End
next_after_plain wishes plain.Kill = if wishes.extended then Listen else End
next_after_plain wishes plain.Quit = End
next_after_plain wishes plain.StopAcks = StopAcks
next_after_plain wishes _ = Listen

abbrev pub next_after : Wishes → asks.Ask → Next
next_after wishes (whole_asks.Resume actions) = Listen
next_after wishes (whole_asks.Command text) = Listen
next_after wishes (whole_asks.Plain packet) = next_after_plain wishes packet

-- the answer to what a packet asks: its payloads, and what is to be done behind them
pub record Answers (old : Seat) (asked : Ranged) (new : Seat) (answer : Answer) : Type 0 where
  pub payloads : AnswersWith asked.range asked.ask old new answer.payloads
  pub next_is : answer.next ≡ next_after old.wishes asked.ask

-- or to what may run the program again
pub record AnswersAgain (old : Seat) (asked : Extended) (new : Seat) (answer : Answer) : Type 0 where
  pub payloads : AnswersExtended asked old new answer.payloads
  pub next_is : answer.next ≡ Listen

abbrev pub AnswersBy : Option Extended → (old : Seat) (packet : List ℕ) (new : Seat) → Answer → Type 0
AnswersBy None old packet new answer = Answers old (asked_in packet) new answer
AnswersBy (Some asked) old packet new answer = AnswersAgain old asked new answer

-- the answer to a packet, by what it asks
abbrev pub AnswersPacket : (old : Seat) (packet : List ℕ) (new : Seat) → Answer → Type 0
AnswersPacket old packet new answer = AnswersBy (extended_of packet) old packet new answer
