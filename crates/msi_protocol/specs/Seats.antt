-- One block with what its copies carry: the home's, and each core's line, and what is under way to and from it.
use Rattle.std.specs.Prelude.{◌≡◌, ℕ, ◌<◌, ◌≤◌, ◌==◌, Bool, true, false, IsTrue, List, ◌∷◌, if◌then◌else◌}
use Rattle.rtr_types.specs.CoreSets.{has}
use Rattle.rtr_types.specs.Accesses.{is_write}
use Rattle.rtr_types.specs.declared.TheConstants.{CORES_MAX}
use Rattle.rtr_types.specs.declared.access.Kind.{Kind}
use Rattle.msi_cache.specs.declared.line.State.{State}
use Rattle.msi_cache.specs.declared.line.State.TheVariants.{S, SmD, SiA}
use Rattle.msi_cache.specs.Table.{Ask, Reply, is_readable, is_writable}
use Rattle.msi_directory.specs.declared.entry.Stage.{Stage}
use Rattle.msi_directory.specs.declared.entry.Stage.TheVariants.{Shared, Owned, Acks, Data}
use Rattle.msi_protocol.specs.Block.{Wish, ToEvict, request_step, response_step}
use Rattle.msi_protocol.specs.Counting.{home_counts, line_counts, sent_counts, reply_counts}
use Rattle.msi_protocol.specs.NextPhases.{after_own, after_other, answered, after_others_response, received, wished}
use Rattle.msi_protocol.specs.Phases.{Role, Out, Owner, Giver, GiveWaiter, role, role_in, StageFits, Phase, picture}
use Rattle.msi_protocol.specs.Phases.{Holds, Fills, Puts, Owns, FillsM, UpgradeFills, PutsM, HoldsTold, FillsTold}
use Rattle.msi_protocol.specs.Phases.{UpgradesTold, PutsTold, AwaitsAcks, UpgradeAwaitsAcks, OwnsTold, FillsMTold}
use Rattle.msi_protocol.specs.Phases.{UpgradeFillsTold, PutsMTold, GaveHolds, GaveUpgrades, GavePuts, GaveAll}
use Rattle.msi_protocol.specs.Phases.{GaveAllAsksS, GaveAllAsksM, GaveAllPuts, AwaitsData}

-- a core's phase, and what its line, its BlockData, its response and its put under way carry
pub record Seat (X : Type 0) : Type 0 where
  pub phase : Phase
  pub line : X
  pub sent : X
  pub reply : X
  pub put : X

-- ---- what counts

-- a put is under way that has what the line has
abbrev pub put_counts : Phase → Bool
put_counts (Puts p) = true
put_counts PutsM = true
put_counts (PutsTold p) = true
put_counts (PutsMTold s) = true
put_counts (GavePuts p) = true
put_counts _ = false

-- each copy that counts has the property, and a put under way is its line's
pub record SeatHas {X : Type 0} (P : X → Type 0) (s : Seat X) : Type 0 where
  pub line : IsTrue (line_counts s.phase) → P s.line
  pub sent : IsTrue (sent_counts s.phase) → P s.sent
  pub reply : IsTrue (reply_counts s.phase) → P s.reply
  pub put : IsTrue (put_counts s.phase) → s.put ≡ s.line

-- ---- a message is received

-- the line takes what was sent, or that with its own absorbed
abbrev pub line_received : {X : Type 0} → (X → X → X) → Phase → X → X → X
line_received absorbed Fills line sent = sent
line_received absorbed FillsM line sent = sent
line_received absorbed FillsTold line sent = sent
line_received absorbed (FillsMTold s) line sent = sent
line_received absorbed UpgradeFills line sent = absorbed sent line
line_received absorbed (UpgradeFillsTold s) line sent = absorbed sent line
line_received absorbed _ line sent = line

abbrev pub reply_received : {X : Type 0} → Phase → X → X → X
reply_received HoldsTold line reply = line
reply_received UpgradesTold line reply = line
reply_received (PutsTold p) line reply = line
reply_received (OwnsTold s) line reply = line
reply_received (PutsMTold s) line reply = line
reply_received _ line reply = reply

abbrev pub seat_received : {X : Type 0} → (X → X → X) → Seat X → Seat X
seat_received absorbed s =
    record {
      phase = received s.phase;
      line = line_received absorbed s.phase s.line s.sent;
      sent = s.sent;
      reply = reply_received s.phase s.line s.reply;
      put = s.put;
    }

-- ---- a wish

abbrev pub put_wished : {X : Type 0} → Wish → Phase → X → X → X
put_wished ToEvict Holds line put = line
put_wished ToEvict Owns line put = line
put_wished ToEvict HoldsTold line put = line
put_wished ToEvict (OwnsTold s) line put = line
put_wished ToEvict GaveHolds line put = line
put_wished w _ line put = put

abbrev pub seat_wished : {X : Type 0} → Wish → Seat X → Seat X
seat_wished w s =
    record {
      phase = wished w s.phase;
      line = s.line;
      sent = s.sent;
      reply = s.reply;
      put = put_wished w s.phase s.line s.put;
    }

-- ---- a request is taken

abbrev pub home_requested : {X : Type 0} → (X → X → X) → Stage → ℕ → Ask → X → X → X
home_requested absorbed (Shared by) c Ask.PutS put home = if has by c then absorbed home put else home
home_requested absorbed (Owned o) c Ask.PutM put home = if c == o then put else home
home_requested absorbed stage c a put home = home

-- the seat of c, whose request it is: what the home has now goes to it
abbrev pub seat_own : {X : Type 0} → Stage → ℕ → X → Seat X → Seat X
seat_own stage c home s =
    record { phase = after_own stage c s.phase; line = s.line; sent = home; reply = s.reply; put = s.put }

abbrev pub seat_other : {X : Type 0} → Stage → ℕ → Ask → ℕ → Seat X → Seat X
seat_other stage c a d s =
    record { phase = after_other stage c a d s.phase; line = s.line; sent = s.sent; reply = s.reply; put = s.put }

-- ---- a response is taken

abbrev pub home_responded : {X : Type 0} → (X → X → X) → Stage → X → X → X
home_responded absorbed (Acks owing r) reply home = absorbed home reply
home_responded absorbed (Data owing r s) reply home = reply
home_responded absorbed stage reply home = home

abbrev pub seat_answered : {X : Type 0} → Seat X → Seat X
seat_answered s = record { phase = answered s.phase; line = s.line; sent = s.sent; reply = s.reply; put = s.put }

abbrev pub sent_served : {X : Type 0} → X → Phase → X → X
sent_served home AwaitsAcks sent = home
sent_served home UpgradeAwaitsAcks sent = home
sent_served home (AwaitsData s) sent = home
sent_served home _ sent = sent

abbrev pub seat_others : {X : Type 0} → Stage → ℕ → X → Seat X → Seat X
seat_others stage c home s =
    record {
      phase = after_others_response stage c s.phase;
      line = s.line;
      sent = sent_served home s.phase s.sent;
      reply = s.reply;
      put = s.put;
    }

-- ---- an access

abbrev pub reads_in : Phase → Bool
reads_in p = is_readable (picture p).line

abbrev pub writes_in : Phase → Bool
writes_in p = is_writable (picture p).line

-- the phase's line allows an access of the kind
abbrev pub allows : Kind → Phase → Bool
allows kind p = if is_write kind then writes_in p else reads_in p

abbrev pub seat_accessed : {X : Type 0} → X → Seat X → Seat X
seat_accessed line s = record { phase = s.phase; line = line; sent = s.sent; reply = s.reply; put = s.put }

-- ---- which copies have the newest reads

-- the copy of the core that owns the block or is to give it
abbrev pub main_in : {X : Type 0} → Phase → X → X → X → X
main_in FillsM line sent reply = sent
main_in UpgradeFills line sent reply = sent
main_in (FillsMTold s) line sent reply = sent
main_in (UpgradeFillsTold s) line sent reply = sent
main_in GaveHolds line sent reply = reply
main_in GaveUpgrades line sent reply = reply
main_in (GavePuts p) line sent reply = reply
main_in GaveAll line sent reply = reply
main_in GaveAllAsksS line sent reply = reply
main_in GaveAllAsksM line sent reply = reply
main_in GaveAllPuts line sent reply = reply
main_in _ line sent reply = line

abbrev pub main_of : {X : Type 0} → Seat X → X
main_of s = main_in s.phase s.line s.sent s.reply

abbrev pub main_at : {X : Type 0} → Stage → X → (ℕ → Seat X) → X
main_at (Owned o) home seats = main_of (seats o)
main_at (Data owing r s) home seats = main_of (seats owing)
main_at _ home seats = home

-- where a core's own reads may be that the main copy lacks
pub data Place : Type 0 where
  Nowhere : Place
  InLine : Place
  InReply : Place

-- a line shares until it gives up its copy: the home absorbs these reads with PutS, or with InvAck
abbrev pub place_in : State → List Ask → List Reply → Place
place_in S asks replies = InLine
place_in SmD asks replies = InLine
place_in SiA (Ask.PutS ∷ rest) replies = InLine
place_in _ asks (Reply.InvAck ∷ rest) = InReply
place_in _ asks replies = Nowhere

abbrev pub place : Phase → Place
place p = let v = picture p in place_in v.line v.requests v.responses

abbrev pub count_at : {X : Type 0} → (X → ℕ) → Place → X → X → ℕ
count_at r Nowhere line reply = 0
count_at r InLine line reply = r line
count_at r InReply line reply = r reply

abbrev pub own_count : {X : Type 0} → (X → ℕ) → Seat X → ℕ
own_count r s = count_at r (place s.phase) s.line s.reply

-- the main copy or the core's own has a read of count n
abbrev pub FoundIn : {X : Type 0} → (X → ℕ) → ℕ → X → Seat X → Type 0
FoundIn r n main own = r main < n → n ≤ own_count r own

-- ---- the whole block

pub record FullBlock (X : Type 0) : Type 0 where
  pub stage : Stage
  pub home : X
  pub seats : ℕ → Seat X

abbrev pub seat_if : {X : Type 0} → Bool → Seat X → Seat X → Seat X
seat_if true s t = s
seat_if false s t = t

abbrev pub main : {X : Type 0} → FullBlock X → X
main b = main_at b.stage b.home b.seats

abbrev pub requested : {X : Type 0} → (X → X → X) → ℕ → Ask → FullBlock X → FullBlock X
requested absorbed c a b =
    let home = home_requested absorbed b.stage c a (b.seats c).put b.home in
    record {
      stage = (request_step b.stage c a).stage;
      home = home;
      seats = λ d. seat_if (d == c) (seat_own b.stage c home (b.seats d)) (seat_other b.stage c a d (b.seats d));
    }

abbrev pub responded : {X : Type 0} → (X → X → X) → ℕ → Reply → FullBlock X → FullBlock X
responded absorbed c a b =
    let home = home_responded absorbed b.stage (b.seats c).reply b.home in
    record {
      stage = (response_step b.stage c a).stage;
      home = home;
      seats = λ d. seat_if (d == c) (seat_answered (b.seats d)) (seat_others b.stage c home (b.seats d));
    }

abbrev pub messaged : {X : Type 0} → (X → X → X) → ℕ → FullBlock X → FullBlock X
messaged absorbed c b = record b { seats = λ d. seat_if (d == c) (seat_received absorbed (b.seats d)) (b.seats d) }

abbrev pub wishing : {X : Type 0} → ℕ → Wish → FullBlock X → FullBlock X
wishing c w b = record b { seats = λ d. seat_if (d == c) (seat_wished w (b.seats d)) (b.seats d) }

abbrev pub accessing : {X : Type 0} → ℕ → X → FullBlock X → FullBlock X
accessing c line b = record b { seats = λ d. seat_if (d == c) (seat_accessed line (b.seats d)) (b.seats d) }

-- the phases fit the stage
pub record PhasesFit {X : Type 0} (b : FullBlock X) : Type 0 where
  pub fits : StageFits b.stage
  pub roles : (d : ℕ) → d < CORES_MAX → role_in (b.seats d).phase ≡ role b.stage d

-- each holder has the property
pub record HoldersHave {X : Type 0} (P : X → Type 0) (b : FullBlock X) : Type 0 where
  pub home : IsTrue (home_counts b.stage) → P b.home
  pub seats : (d : ℕ) → d < CORES_MAX → SeatHas P (b.seats d)

-- a read of d with count n is in the main copy or in d's own
abbrev pub Found : {X : Type 0} → (X → ℕ) → ℕ → ℕ → FullBlock X → Type 0
Found r n d b = FoundIn r n (main b) (b.seats d)

-- the home takes the core for the only one that may write: its copy is the main one
abbrev pub is_main : Role → Bool
is_main Owner = true
is_main (Giver s) = true
is_main _ = false

-- a core that has nothing that counts, and so nothing to read
abbrev pub is_away : Role → Bool
is_away Out = true
is_away (GiveWaiter s) = true
is_away _ = false
