-- What the cache's and the home's tables do is what the seats do.
use Rattle.std.proofs.Common.{◌≡◌, ◌≢◌, ◌∙◌, refl, sym, ℕ, ◌<◌, ◌==◌, true, false, List, [], ◌∷◌, arith}
use Rattle.rtr_types.specs.Accesses.{is_write}
use Rattle.msi_directory.specs.Entries.{entry_for_request, entry_for_response}
use Rattle.rtr_types.specs.declared.TheConstants.{CORES_MAX}
use Rattle.std.specs.Prelude.{map}
use Rattle.std.proofs.lemmas.Bool.Decides.{nat_tests}
use Rattle.access_times.specs.Riding.{Riding}
use Rattle.rtr_types.specs.declared.core_set.CoreSet.{CoreSet}
use Rattle.rtr_types.specs.declared.access.Kind.{Kind}
use Rattle.rtr_types.specs.CoreSets.{has, without_core, is_none}
use Rattle.msi_cache.specs.declared.messages.FromHome.{FromHome}
use Rattle.msi_cache.specs.declared.messages.Response.{Response}
use Rattle.msi_cache.specs.declared.messages.Request.{Request}
use Rattle.msi_cache.specs.Lines.{asks, is_allowed, line_after}
use Rattle.msi_cache.specs.declared.line.Line.{Line}
use Rattle.msi_cache.specs.Table.{is_transient, Ask, Reply}
use Rattle.msi_directory.specs.declared.entry.Entry.{Entry}
use Rattle.msi_directory.specs.Table.{is_free}
use Rattle.rtr_types.proofs.Members.{has-with_same, has-with_other, has-without_same, has-without_other, has-none}
use Rattle.rtr_types.proofs.Members.{has-no_cores}
use Rattle.msi_protocol.specs.Block.{has_reply_row}
use Rattle.msi_protocol.specs.Counting.{line_counts}
use Rattle.msi_protocol.specs.NextPhases.{received}
use Rattle.msi_protocol.specs.Phases.{role, role_in, picture, StageFits}
use Rattle.msi_protocol.specs.Seats.{Seat, FullBlock, seat_received, seat_wished, home_requested, seat_own, seat_other}
use Rattle.msi_protocol.specs.Seats.{home_responded, seat_answered}
use Rattle.msi_protocol.specs.Seats.{seat_others}
use Rattle.msi_protocol.specs.Seats.{requested, responded, seat_accessed}
use Rattle.msi_protocol.specs.Shown.{Payload, payload_absorbed, ask_with, reply_with, line_with, shown, entry_with}
use Rattle.msi_protocol.specs.Shown.{sight_received, sight_asking}
use Rattle.msi_protocol.specs.Shown.{after_request_at}
use Rattle.msi_protocol.specs.Shown.{after_response_at, wish_in, sight_accessed}
use Rattle.msi_cache.specs.declared.line.State.TheVariants.{I}
use Rattle.msi_protocol.specs.Seats.{allows}

-- the copy in a line
abbrev pub copy_in : {R : Type 0} → Line R → Payload R
copy_in l = record { words = l.words; rider = l.rider }

module _ {R : Type 0} where
  -- the seat of a core that took this message, with the copy that its line then has. It differs from the seat that
  -- received in what rides on a copy that has ended
  abbrev pub seat_hearing : Riding R → ℕ → FromHome R → Seat (Payload R) → Seat (Payload R)
  seat_hearing riding b m s =
      record (seat_received (payload_absorbed riding) s) { line = copy_in (line_after riding (line_with b s) m) }

  pub shown_received : (riding : Riding R) (b : ℕ) (s : Seat (Payload R)) (m : FromHome R) (rest : List (FromHome R)) →
      (shown b s).messages ≡ m ∷ rest → sight_received riding m rest (shown b s) ≡ shown b (seat_hearing riding b m s)
  shown_received riding b s m rest is = grind arith

  pub hearing_counts : (riding : Riding R) (b : ℕ) (s : Seat (Payload R)) (m : FromHome R) (rest : List (FromHome R)) →
      (shown b s).messages ≡ m ∷ rest → line_counts (received s.phase) ≡ true →
      (seat_hearing riding b m s).line ≡ (seat_received (payload_absorbed riding) s).line
  hearing_counts riding b s m rest is counts = grind arith

  -- ---- a request

  -- the request at the head is the phase's, with what the put carries
  pub shown_asked : (b : ℕ) (s : Seat (Payload R)) (request : Request R) (rest : List (Request R)) →
      (shown b s).requests ≡ request ∷ rest →
      (a : Ask) × (more : List Ask) × ((picture s.phase).requests ≡ a ∷ more) × (request ≡ ask_with b s.put
      a) × (rest ≡ map (ask_with b s.put) more)
  shown_asked b s request rest is = by (picture s.phase).requests is
    where
      by : (q : List Ask) → map (ask_with b s.put) q ≡ request ∷ rest →
          (a : Ask) × (more : List Ask) × (q ≡ a ∷ more) × (request ≡ ask_with b s.put a)
          × (rest ≡ map (ask_with b s.put) more)
      by [] e = absurd cc
      by (a ∷ more) e = (a, more, refl, cc, cc)

  pub shown_own : (riding : Riding R) (b c : ℕ) (a : Ask) (rest : List Ask) (bl : FullBlock (Payload R)) →
      c < CORES_MAX → is_free bl.stage ≡ true →
      (picture (bl.seats c).phase).requests ≡ a ∷ rest → role_in (bl.seats c).phase ≡ role bl.stage c
      → after_request_at riding (entry_with bl) b c (ask_with b (bl.seats c).put a) (map (ask_with b (bl.seats c).put)
      rest) c (shown b (bl.seats c))
      ≡ shown b (seat_own bl.stage c (home_requested (payload_absorbed riding) bl.stage c a (bl.seats c).put bl.home)
      (bl.seats c))
  shown_own riding b c a rest bl lc free asks is = grind (
    arith,
    nat_tests,
    has-with_same,
    has-without_same,
    has-no_cores,
  )

  pub shown_entry : (riding : Riding R) (b c : ℕ) (a : Ask) (rest : List Ask) (bl : FullBlock (Payload R)) →
      is_free bl.stage ≡ true →
      (picture (bl.seats c).phase).requests ≡ a ∷ rest → role_in (bl.seats c).phase ≡ role bl.stage c
      → entry_for_request riding.absorbed (entry_with bl) c (ask_with b (bl.seats c).put a) ≡ entry_with
      (requested (payload_absorbed riding) c a bl)
  shown_entry riding b c a rest bl free asks is = grind (arith, nat_tests)

  pub shown_other : (riding : Riding R) (b c : ℕ) (a : Ask) (x : Payload R) (rest : List (Request R)) (d : ℕ)
      (e : Entry R) (s : Seat (Payload R)) →
      c < CORES_MAX → d < CORES_MAX → d ≢ c → is_free e.stage ≡ true → role_in s.phase ≡ role e.stage d
      → after_request_at riding e b c (ask_with b x a) rest d (shown b s) ≡ shown b (seat_other e.stage c a d s)
  shown_other riding b c a x rest d e s lc ld other free is =
      grind (arith, nat_tests, has-with_other, has-without_other, has-no_cores, has-none)

  -- ---- a response

  pub shown_replied : (b : ℕ) (s : Seat (Payload R)) (response : Response R) (rest : List (Response R)) →
      (shown b s).responses ≡ response ∷ rest →
      (a : Reply) × (more : List Reply) × ((picture s.phase).responses ≡ a ∷ more) × (response ≡ reply_with b s.reply a)
      × (rest ≡ map (reply_with b s.reply) more)
  shown_replied b s response rest is = by (picture s.phase).responses is
    where
      by : (q : List Reply) → map (reply_with b s.reply) q ≡ response ∷ rest →
          (a : Reply) × (more : List Reply) × (q ≡ a ∷ more)
          × (response ≡ reply_with b s.reply a) × (rest ≡ map (reply_with b s.reply) more)
      by [] e = absurd cc
      by (a ∷ more) e = (a, more, refl, cc, cc)

  pub shown_responder : (riding : Riding R) (b c : ℕ) (a : Reply) (rest : List Reply) (bl : FullBlock (Payload R)) →
      c < CORES_MAX → StageFits bl.stage →
      (picture (bl.seats c).phase).responses ≡ a ∷ rest → role_in (bl.seats c).phase ≡ role bl.stage c
      → after_response_at riding (entry_with bl) b c (reply_with b (bl.seats c).reply a)
      (map (reply_with b (bl.seats c).reply) rest) c (shown b (bl.seats c))
      ≡ shown b (seat_answered (bl.seats c))
  shown_responder riding b c a rest bl lc fits asks is = grind (
    arith,
    nat_tests,
    has-with_same,
    has-without_same,
    has-no_cores,
  )

  pub shown_response_entry : (riding : Riding R) (b c : ℕ) (a : Reply) (rest : List Reply)
      (bl : FullBlock (Payload R)) →
      (picture (bl.seats c).phase).responses ≡ a ∷ rest → role_in (bl.seats c).phase ≡ role bl.stage c
      → entry_for_response riding.absorbed (entry_with bl) c (reply_with b (bl.seats c).reply a) ≡ entry_with
      (responded (payload_absorbed riding) c a bl)
  shown_response_entry riding b c a rest bl asks is = grind (arith, nat_tests)

  pub shown_others : (riding : Riding R) (b c : ℕ) (a : Reply) (rest : List (Response R)) (d : ℕ)
      (bl : FullBlock (Payload R)) → c < CORES_MAX →
      d < CORES_MAX → d ≢ c → StageFits bl.stage → has_reply_row bl.stage c a ≡ true →
      role_in (bl.seats d).phase ≡ role bl.stage d
      → after_response_at riding (entry_with bl) b c (reply_with b (bl.seats c).reply a) rest d (shown b (bl.seats d))
      ≡ shown b (seat_others bl.stage c (home_responded (payload_absorbed riding) bl.stage (bl.seats c).reply bl.home)
      (bl.seats d))
  shown_others riding b c a rest d bl lc ld other fits has_row is =
      let last : (by : CoreSet) → is_none (without_core by c) ≡ true → has by d ≡ false =
      λ (by : CoreSet) (e : is_none (without_core by c) ≡ true). sym (has-without_other by c d lc ld other)
      ∙ has-none (without_core by c) d e in
      grind (arith, nat_tests, has-no_cores, last)

  -- ---- a core's moves

  pub shown_wish : (b block : ℕ) (kind : Kind) (s : Seat (Payload R)) → is_transient (picture s.phase).line ≡ false →
      is_allowed (line_with b s) block kind
      ≡ false → ((picture s.phase).line ≡ I → b ≡ block)
      → sight_asking block kind (shown b s) ≡ shown b (seat_wished (wish_in (picture s.phase).line (b == block)
      (is_write kind)) s)
  shown_wish b block kind s still needed here = grind (arith, nat_tests)

  pub shown_access : (b : ℕ) (words : List ℕ) (rider : R) (s : Seat (Payload R)) →
      sight_accessed words rider (shown b s)
      ≡ shown b (seat_accessed (record { words = words; rider = rider }) s)
  shown_access b words rider s = refl

  -- what the cache allows is what the phase allows
  pub shown_allows : (b : ℕ) (kind : Kind) (s : Seat (Payload R)) → is_allowed (line_with b s) b kind ≡ allows kind
      s.phase
  shown_allows b kind s = grind (arith, nat_tests)
