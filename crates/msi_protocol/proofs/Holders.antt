-- Each move keeps a property of all copies that count.
use Rattle.std.proofs.Common.{◌≡◌, ℕ, true, IsTrue, List, ◌∷◌, arith}
use Rattle.std.proofs.lemmas.Bool.Decides.{nat_tests}
use Rattle.rtr_types.specs.CoreSets.{has}
use Rattle.msi_directory.specs.declared.entry.Stage.{Stage}
use Rattle.msi_directory.specs.Table.{is_free}
use Rattle.msi_cache.specs.Table.{Ask, Reply}
use Rattle.msi_protocol.specs.Block.{Wish, request_step}
use Rattle.msi_protocol.specs.Phases.{Phase, role, role_in, picture}
use Rattle.msi_protocol.specs.NextPhases.{after_own, after_other, answered, after_others_response, received, wished}
use Rattle.msi_protocol.specs.Counting.{home_counts}
use Rattle.msi_protocol.specs.Seats.{Seat, SeatHas, put_counts, line_received, reply_received, seat_received}
use Rattle.msi_protocol.specs.Seats.{put_wished, seat_wished, home_requested, seat_own}
use Rattle.msi_protocol.specs.Seats.{seat_other, home_responded, seat_answered, sent_served, seat_others}
use Rattle.msi_protocol.specs.Counting.{line_counts, sent_counts, reply_counts}

abbrev pub Closed : {X : Type 0} → (X → Type 0) → (X → X → X) → Type 0
Closed {X} P absorbed = (x y : X) → P x → P y → P (absorbed x y)

-- ---- a message

received_line : {X : Type 0} (P : X → Type 0) (absorbed : X → X → X) → Closed P absorbed → (p : Phase) (line sent : X) →
    (IsTrue (line_counts p) → P line) →
    (IsTrue (sent_counts p) → P sent) → IsTrue (line_counts (received p)) → P (line_received absorbed p line sent)
received_line P absorbed both p line sent l s counts = grind arith

received_sent : {X : Type 0} (P : X → Type 0) (p : Phase) (sent : X) → (IsTrue (sent_counts p) → P sent) →
    IsTrue (sent_counts (received p)) → P sent
received_sent P p sent s counts = grind arith

received_reply : {X : Type 0} (P : X → Type 0) (p : Phase) (line reply : X) → (IsTrue (line_counts p) → P line) →
    (IsTrue (reply_counts p) → P reply) →
    IsTrue (reply_counts (received p)) → P (reply_received p line reply)
received_reply P p line reply l r counts = grind arith

received_put : {X : Type 0} (absorbed : X → X → X) (p : Phase) (line sent put : X) →
    (IsTrue (put_counts p) → put ≡ line) → IsTrue (put_counts (received p)) →
    put ≡ line_received absorbed p line sent
received_put absorbed p line sent put e counts = grind arith

pub received_has : {X : Type 0} (P : X → Type 0) (absorbed : X → X → X) → Closed P absorbed → (s : Seat X) →
    SeatHas P s → SeatHas P (seat_received absorbed s)
received_has P absorbed both s h =
    record {
      line = λ counts. received_line P absorbed both s.phase s.line s.sent h.line h.sent counts;
      sent = λ counts. received_sent P s.phase s.sent h.sent counts;
      reply = λ counts. received_reply P s.phase s.line s.reply h.line h.reply counts;
      put = λ counts. received_put absorbed s.phase s.line s.sent s.put h.put counts;
    }

-- ---- a wish

wished_line : (w : Wish) (p : Phase) → IsTrue (line_counts (wished w p)) → IsTrue (line_counts p)
wished_line w p counts = grind arith

wished_sent : (w : Wish) (p : Phase) → IsTrue (sent_counts (wished w p)) → IsTrue (sent_counts p)
wished_sent w p counts = grind arith

wished_reply : (w : Wish) (p : Phase) → IsTrue (reply_counts (wished w p)) → IsTrue (reply_counts p)
wished_reply w p counts = grind arith

wished_put : {X : Type 0} (w : Wish) (p : Phase) (line put : X) → (IsTrue (put_counts p) → put ≡ line) →
    IsTrue (put_counts (wished w p)) →
    put_wished w p line put ≡ line
wished_put w p line put e counts = grind arith

pub wished_has : {X : Type 0} (P : X → Type 0) (w : Wish) (s : Seat X) → SeatHas P s → SeatHas P (seat_wished w s)
wished_has P w s h =
    record {
      line = λ counts. h.line (wished_line w s.phase counts);
      sent = λ counts. h.sent (wished_sent w s.phase counts);
      reply = λ counts. h.reply (wished_reply w s.phase counts);
      put = λ counts. wished_put w s.phase s.line s.put h.put counts;
    }

-- ---- a request

-- what the home has after it counts where the home counts, and where it is sent
pub home_requested_has : {X : Type 0} (P : X → Type 0) (absorbed : X → X → X) → Closed P absorbed →
    (stage : Stage) (c : ℕ) (a : Ask) (rest : List Ask) (p : Phase) (home line put : X) → is_free stage ≡ true →
    (picture p).requests ≡ a ∷ rest →
    role_in p ≡ role stage c
    → (IsTrue (home_counts stage) → P home) → (IsTrue (line_counts p) → P line) → (IsTrue (put_counts p) → put ≡ line) →
    IsTrue (home_counts (request_step stage c a).stage) → P (home_requested absorbed stage c a put home)
home_requested_has P absorbed both stage c a rest p home line put free asks is h l e counts = grind (arith, nat_tests)

pub sent_requested_has : {X : Type 0} (P : X → Type 0) (absorbed : X → X → X) (stage : Stage) (c : ℕ) (a : Ask)
    (rest : List Ask) (p : Phase) (home put : X) →
    is_free stage ≡ true → (picture p).requests ≡ a ∷ rest → role_in p ≡ role stage c
    → (IsTrue (home_counts stage) → P home) → IsTrue (sent_counts (after_own stage c p)) →
    P (home_requested absorbed stage c a put home)
sent_requested_has P absorbed stage c a rest p home put free asks is h counts = grind (arith, nat_tests)

own_line : (stage : Stage) (c : ℕ) (p : Phase) → IsTrue (line_counts (after_own stage c p)) → IsTrue (line_counts p)
own_line stage c p counts = grind (arith, nat_tests)

own_reply : (stage : Stage) (c : ℕ) (a : Ask) (rest : List Ask) (p : Phase) → is_free stage ≡ true →
    (picture p).requests ≡ a ∷ rest →
    role_in p ≡ role stage c → IsTrue (reply_counts (after_own stage c p)) → IsTrue (reply_counts p)
own_reply stage c a rest p free asks is counts = grind (arith, nat_tests)

own_put : (stage : Stage) (c : ℕ) (p : Phase) → IsTrue (put_counts (after_own stage c p)) → IsTrue (put_counts p)
own_put stage c p counts = grind (arith, nat_tests)

pub own_has : {X : Type 0} (P : X → Type 0) (absorbed : X → X → X) (stage : Stage) (c : ℕ) (a : Ask) (rest : List Ask)
    (s : Seat X) (home : X) →
    is_free stage ≡ true → (picture s.phase).requests ≡ a ∷ rest → role_in s.phase ≡ role stage c
    → (IsTrue (home_counts stage) → P home) → SeatHas P s →
    SeatHas P (seat_own stage c (home_requested absorbed stage c a s.put home) s)
own_has P absorbed stage c a rest s home free asks is h has =
    record {
      line = λ counts. has.line (own_line stage c s.phase counts);
      sent = λ counts. sent_requested_has P absorbed stage c a rest s.phase home s.put free asks is h counts;
      reply = λ counts. has.reply (own_reply stage c a rest s.phase free asks is counts);
      put = λ counts. has.put (own_put stage c s.phase counts);
    }

other_line : (stage : Stage) (c : ℕ) (a : Ask) (d : ℕ) (p : Phase) → IsTrue (line_counts (after_other stage c a d p)) →
    IsTrue (line_counts p)
other_line stage c a d p counts = grind (arith, nat_tests)

other_sent : (stage : Stage) (c : ℕ) (a : Ask) (d : ℕ) (p : Phase) → IsTrue (sent_counts (after_other stage c a d p)) →
    IsTrue (sent_counts p)
other_sent stage c a d p counts = grind (arith, nat_tests)

other_reply : (stage : Stage) (c : ℕ) (a : Ask) (d : ℕ) (p : Phase) →
    IsTrue (reply_counts (after_other stage c a d p)) → IsTrue (reply_counts p)
other_reply stage c a d p counts = grind (arith, nat_tests)

other_put : (stage : Stage) (c : ℕ) (a : Ask) (d : ℕ) (p : Phase) → IsTrue (put_counts (after_other stage c a d p)) →
    IsTrue (put_counts p)
other_put stage c a d p counts = grind (arith, nat_tests)

pub other_has : {X : Type 0} (P : X → Type 0) (stage : Stage) (c : ℕ) (a : Ask) (d : ℕ) (s : Seat X) → SeatHas P s →
    SeatHas P (seat_other stage c a d s)
other_has P stage c a d s h =
    record {
      line = λ counts. h.line (other_line stage c a d s.phase counts);
      sent = λ counts. h.sent (other_sent stage c a d s.phase counts);
      reply = λ counts. h.reply (other_reply stage c a d s.phase counts);
      put = λ counts. h.put (other_put stage c a d s.phase counts);
    }

-- ---- a response

pub home_responded_has : {X : Type 0} (P : X → Type 0) (absorbed : X → X → X) → Closed P absorbed →
    (stage : Stage) (c : ℕ) (a : Reply) (rest : List Reply) (p : Phase) (home reply : X) →
    (picture p).responses ≡ a ∷ rest → role_in p ≡ role stage c
    → (IsTrue (home_counts stage) → P home) → (IsTrue (reply_counts p) → P reply) →
    P (home_responded absorbed stage reply home)
home_responded_has P absorbed both stage c a rest p home reply asks is h r = grind (arith, nat_tests)

answered_line : (p : Phase) → IsTrue (line_counts (answered p)) → IsTrue (line_counts p)
answered_line p counts = grind arith

answered_sent : (p : Phase) → IsTrue (sent_counts (answered p)) → IsTrue (sent_counts p)
answered_sent p counts = grind arith

answered_reply : (p : Phase) → IsTrue (reply_counts (answered p)) → IsTrue (reply_counts p)
answered_reply p counts = grind arith

answered_put : (p : Phase) → IsTrue (put_counts (answered p)) → IsTrue (put_counts p)
answered_put p counts = grind arith

pub answered_has : {X : Type 0} (P : X → Type 0) (s : Seat X) → SeatHas P s → SeatHas P (seat_answered s)
answered_has P s h =
    record {
      line = λ counts. h.line (answered_line s.phase counts);
      sent = λ counts. h.sent (answered_sent s.phase counts);
      reply = λ counts. h.reply (answered_reply s.phase counts);
      put = λ counts. h.put (answered_put s.phase counts);
    }

others_line : (stage : Stage) (c : ℕ) (p : Phase) → IsTrue (line_counts (after_others_response stage c p)) →
    IsTrue (line_counts p)
others_line stage c p counts = grind (arith, nat_tests)

others_sent : {X : Type 0} (P : X → Type 0) (stage : Stage) (c : ℕ) (p : Phase) (home sent : X) → P home →
    (IsTrue (sent_counts p) → P sent) →
    IsTrue (sent_counts (after_others_response stage c p)) → P (sent_served home p sent)
others_sent P stage c p home sent h s counts = grind (arith, nat_tests)

others_reply : (stage : Stage) (c : ℕ) (p : Phase) → IsTrue (reply_counts (after_others_response stage c p)) →
    IsTrue (reply_counts p)
others_reply stage c p counts = grind (arith, nat_tests)

others_put : (stage : Stage) (c : ℕ) (p : Phase) → IsTrue (put_counts (after_others_response stage c p)) →
    IsTrue (put_counts p)
others_put stage c p counts = grind (arith, nat_tests)

pub others_has : {X : Type 0} (P : X → Type 0) (stage : Stage) (c : ℕ) (s : Seat X) (home : X) → P home → SeatHas P s →
    SeatHas P (seat_others stage c home s)
others_has P stage c s home p h =
    record {
      line = λ counts. h.line (others_line stage c s.phase counts);
      sent = λ counts. others_sent P stage c s.phase home s.sent p h.sent counts;
      reply = λ counts. h.reply (others_reply stage c s.phase counts);
      put = λ counts. h.put (others_put stage c s.phase counts);
    }
