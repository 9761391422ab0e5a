-- No move loses the newest read of a core.
use Rattle.std.proofs.Common.{◌≡◌, ◌≢◌, ◌⊎◌, ℕ, ◌≤◌, Bool, true, false, IsTrue, List, ◌∷◌, arith}
use Rattle.std.proofs.lemmas.Bool.Decides.{nat_tests}
use Rattle.rtr_types.specs.declared.core_set.CoreSet.{CoreSet}
use Rattle.rtr_types.specs.CoreSets.{has}
use Rattle.msi_directory.specs.declared.entry.Stage.{Stage}
use Rattle.msi_directory.specs.declared.entry.Stage.TheVariants.{Owned, Acks, Data}
use Rattle.msi_directory.specs.Table.{is_free}
use Rattle.msi_cache.specs.Table.{Signal, Ask, Reply}
use Rattle.msi_protocol.specs.Block.{Wish, request_step}
use Rattle.msi_protocol.specs.Phases.{Phase, role, role_in, picture}
use Rattle.msi_protocol.specs.NextPhases.{received, wished}
use Rattle.msi_protocol.specs.Counting.{home_counts}
use Rattle.msi_protocol.specs.Seats.{Seat, SeatHas, put_counts, line_received, reply_received, home_requested, seat_own}
use Rattle.msi_protocol.specs.Seats.{seat_other, seat_answered, seat_others}
use Rattle.msi_protocol.specs.Seats.{main_in, main_of, place, count_at, own_count, main, requested, responded, is_main}
use Rattle.msi_protocol.specs.Counting.{line_counts, sent_counts}

-- one that absorbs has what it had, and what the other had
pub record Grows {X : Type 0} (P : X → Type 0) (absorbed : X → X → X) (r : X → ℕ) : Type 0 where
  pub left : (x y : X) → P x → P y → r x ≤ r (absorbed x y)
  pub right : (x y : X) → P x → P y → r y ≤ r (absorbed x y)

-- ---- a message

pub message_main : {X : Type 0} (P : X → Type 0) (absorbed : X → X → X) (r : X → ℕ) →
    ((x y : X) → P x → P y → r x ≤ r (absorbed x y)) →
    (p : Phase) (line sent reply : X) → (IsTrue (line_counts p) → P line) → (IsTrue (sent_counts p) → P sent) →
    is_main (role_in p) ≡ true
    → r (main_in p line sent reply) ≤ r (main_in (received p) (line_received absorbed p line sent) sent
    (reply_received p line reply))
message_main P absorbed r grows p line sent reply l s is = grind arith

pub message_own_main : {X : Type 0} (P : X → Type 0) (absorbed : X → X → X) (r : X → ℕ) →
    ((x y : X) → P x → P y → r y ≤ r (absorbed x y)) →
    (p : Phase) (m : Signal) (rest : List Signal) (line sent reply : X) → (picture p).messages ≡ m ∷ rest →
    (IsTrue (line_counts p) → P line) →
    (IsTrue (sent_counts p) → P sent) → is_main (role_in p) ≡ true
    → count_at r (place p) line reply ≤ r (main_in (received p) (line_received absorbed p line sent) sent
    (reply_received p line reply))
message_own_main P absorbed r grows p m rest line sent reply asks l s is = grind arith

pub message_own_other : {X : Type 0} (absorbed : X → X → X) (r : X → ℕ) (p : Phase) (line sent reply : X) →
    is_main (role_in p) ≡ false
    → count_at r (place p) line reply ≤ count_at r (place (received p)) (line_received absorbed p line sent)
    (reply_received p line reply)
message_own_other absorbed r p line sent reply is = grind arith

-- ---- a wish

pub wish_main : {X : Type 0} (w : Wish) (p : Phase) (line sent reply : X) →
    main_in (wished w p) line sent reply ≡ main_in p line sent reply
wish_main w p line sent reply = grind arith

pub wish_own : {X : Type 0} (r : X → ℕ) (w : Wish) (p : Phase) (line reply : X) →
    count_at r (place p) line reply ≤ count_at r (place (wished w p)) line reply
wish_own r w p line reply = grind arith

-- ---- a request

-- where the home's copy was the main one
pub request_main_home : {X : Type 0} (P : X → Type 0) (absorbed : X → X → X) (r : X → ℕ) →
    ((x y : X) → P x → P y → r x ≤ r (absorbed x y)) →
    (stage : Stage) (c : ℕ) (a : Ask) (rest : List Ask) (home : X) (seats : ℕ → Seat X) → is_free stage ≡ true →
    (picture (seats c).phase).requests
    ≡ a ∷ rest → role_in (seats c).phase ≡ role stage c → home_counts stage ≡ true → P home →
    (IsTrue (line_counts (seats c).phase) → P (seats c).line) →
    (IsTrue (put_counts (seats c).phase) → (seats c).put ≡ (seats c).line)
    → r home ≤ r (main (requested absorbed c a (record { stage = stage; home = home; seats = seats })))
request_main_home P absorbed r grows stage c a rest home seats free asks is counts h l e = grind (arith, nat_tests)

-- where an owner's copy was
pub request_main_owned : {X : Type 0} (absorbed : X → X → X) (o c : ℕ) (a : Ask) (rest : List Ask) (home : X)
    (seats : ℕ → Seat X) →
    (picture (seats c).phase).requests ≡ a ∷ rest → role_in (seats c).phase ≡ role (Owned o) c →
    role_in (seats o).phase ≡ role (Owned o) o →
    (IsTrue (put_counts (seats c).phase) → (seats c).put ≡ (seats c).line)
    → main (requested absorbed c a (record { stage = Owned o; home = home; seats = seats })) ≡ main_of (seats o)
request_main_owned absorbed o c a rest home seats asks is owner e = grind (arith, nat_tests)

pub request_own_mine : {X : Type 0} (P : X → Type 0) (absorbed : X → X → X) (r : X → ℕ) →
    ((x y : X) → P x → P y → r y ≤ r (absorbed x y)) →
    (stage : Stage) (c : ℕ) (a : Ask) (rest : List Ask) (home : X) (s : Seat X) → is_free stage ≡ true →
    (picture s.phase).requests ≡ a ∷ rest →
    role_in s.phase ≡ role stage c → (IsTrue (home_counts stage) → P home) → SeatHas P s
    → (own_count r s ≤ own_count r (seat_own stage c (home_requested absorbed stage c a s.put home) s))
    ⊎ ((home_counts (request_step stage c a).stage ≡ true) × (own_count r s ≤ r (home_requested absorbed stage c a s.put
    home)))
request_own_mine P absorbed r grows stage c a rest home s free asks is h has = grind (arith, nat_tests)

pub request_own_other : {X : Type 0} (r : X → ℕ) (stage : Stage) (c : ℕ) (a : Ask) (d : ℕ) (s : Seat X) →
    own_count r s ≤ own_count r (seat_other stage c a d s)
request_own_other r stage c a d s = grind (arith, nat_tests)

-- ---- a response

-- the home has what it had and what came with the acknowledgement, and sends that on after the last one
pub response_main_acks : {X : Type 0} (absorbed : X → X → X) (owing : CoreSet) (q c : ℕ) (a : Reply) (rest : List Reply)
    (home : X) (seats : ℕ → Seat X) → (picture (seats c).phase).responses ≡ a ∷ rest →
    role_in (seats c).phase ≡ role (Acks owing q) c → has owing q ≡ false →
    role_in (seats q).phase ≡ role (Acks owing q) q
    → main (responded absorbed c a (record { stage = Acks owing q; home = home; seats = seats })) ≡ absorbed home
    (seats c).reply
response_main_acks absorbed owing q c a rest home seats asks is out waits = grind (arith, nat_tests)

pub response_main_awaits : {X : Type 0} (absorbed : X → X → X) (owing q : ℕ) (share : Bool) (c : ℕ) (a : Reply)
    (rest : List Reply) (home : X) (seats : ℕ →
    Seat X) → (picture (seats c).phase).responses ≡ a ∷ rest → role_in (seats c).phase ≡ role (Data owing q
    share) c → owing ≢ q →
    role_in (seats q).phase ≡ role (Data owing q share) q
    → main (responded absorbed c a (record { stage = Data owing q share; home = home; seats = seats })) ≡ main_of
    (seats owing)
response_main_awaits absorbed owing q share c a rest home seats asks is other waits = grind (arith, nat_tests)

pub response_stage : (stage : Stage) (c : ℕ) (a : Reply) (rest : List Reply) (p : Phase) →
    (picture p).responses ≡ a ∷ rest → role_in p ≡ role stage c →
    is_free stage ≡ false
response_stage stage c a rest p asks is = grind (arith, nat_tests)

pub response_own_mine : {X : Type 0} (r : X → ℕ) (s : Seat X) → (r s.reply ≡ r s.reply) →
    (own_count r s ≤ own_count r (seat_answered s))
    ⊎ (own_count r s ≤ r s.reply)
response_own_mine r s e = grind (arith, nat_tests)

pub response_own_other : {X : Type 0} (r : X → ℕ) (stage : Stage) (c : ℕ) (home : X) (s : Seat X) →
    own_count r s ≤ own_count r (seat_others stage c home s)
response_own_other r stage c home s = grind (arith, nat_tests)
