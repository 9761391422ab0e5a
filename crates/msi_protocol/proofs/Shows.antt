-- Each move of the tables leads from a block that is shown to one that is shown.
use Rattle.std.proofs.Common.{◌≡◌, ◌≢◌, ◌∙◌, ◌⊎◌, inl, inr, ap, refl, sym, subst, ℕ, ◌<◌, ◌==◌, Bool, true, false, List}
use Rattle.std.proofs.Common.{[], ◌∷◌, Option, Some, None, arith}
use Rattle.rtr_types.specs.Accesses.{is_write}
use Rattle.msi_directory.specs.Entries.{entry_after_request, entry_after_response, entry_by, entry_for_request}
use Rattle.msi_directory.specs.Entries.{entry_for_response, entry_left, entry_met, request_rider, request_words}
use Rattle.msi_directory.specs.Entries.{response_rider, response_words}
use Rattle.rtr_types.specs.declared.TheConstants.{CORES_MAX}
use Rattle.std.specs.Prelude.{map, if◌then◌else◌}
use Rattle.std.proofs.lemmas.Bool.{cases_eq}
use Rattle.std.proofs.lemmas.Bool.Decides.{nat_tests}
use Rattle.access_times.specs.Riding.{Riding}
use Rattle.rtr_types.specs.declared.access.Kind.{Kind}
use Rattle.msi_cache.specs.declared.line.Line.{Line}
use Rattle.msi_cache.specs.declared.line.State.{State}
use Rattle.msi_cache.specs.declared.line.State.TheVariants.{I}
use Rattle.msi_cache.specs.declared.messages.FromHome.{FromHome}
use Rattle.msi_cache.specs.declared.messages.Response.{Response}
use Rattle.msi_cache.specs.declared.messages.Request.{Request}
use Rattle.msi_cache.specs.Table.{Signal, is_transient, Ask, Reply}
use Rattle.msi_cache.specs.Lines.{is_allowed}
use Rattle.msi_directory.specs.declared.entry.Entry.{Entry}
use Rattle.msi_cache.specs.Messages.{ask_of, reply_of}
use Rattle.msi_directory.specs.Table.{HomeRow, Send, gives, is_free, request_row, response_row}
use Rattle.msi_directory.specs.declared.entry.Stage.{Stage}
use Rattle.msi_protocol.specs.Block.{Wish, View, view}
use Rattle.msi_protocol.specs.Counting.{home_counts, line_counts}
use Rattle.msi_protocol.specs.Phases.{Phase, picture}
use Rattle.msi_protocol.specs.NextPhases.{after_other, after_others_response}
use Rattle.msi_protocol.proofs.Keeps.{response_has_row}
use Rattle.msi_protocol.specs.Seats.{Seat, FullBlock, seat_if, requested, responded, messaged, wishing, accessing}
use Rattle.msi_protocol.specs.Seats.{seat_own, seat_other, seat_answered}
use Rattle.msi_protocol.specs.Seats.{seat_others, seat_received, seat_wished, seat_accessed, home_requested}
use Rattle.msi_protocol.specs.Seats.{home_responded, sent_served, PhasesFit}
use Rattle.msi_protocol.specs.Shown.{Payload, payload_absorbed, ask_with, reply_with, signal_with, Sight, line_with}
use Rattle.msi_protocol.specs.Shown.{shown, entry_with, sight_received}
use Rattle.msi_protocol.specs.Shown.{sight_asking, sight_accessed, after_request_at, after_response_at, wish_in}
use Rattle.msi_protocol.proofs.NewestReads.{at_core}
use Rattle.msi_protocol.proofs.TablesAndSeats.{copy_in, seat_hearing, shown_received, hearing_counts}
use Rattle.msi_protocol.proofs.TablesAndSeats.{shown_asked, shown_own}
use Rattle.msi_protocol.proofs.TablesAndSeats.{shown_entry, shown_other, shown_replied}
use Rattle.msi_protocol.proofs.TablesAndSeats.{shown_responder, shown_response_entry}
use Rattle.msi_protocol.proofs.TablesAndSeats.{shown_others, shown_wish, shown_allows}
use Rattle.msi_protocol.proofs.PhaseMoves.{stands_request, stands_response, stands_message, stands_wish, stands_access}
use Rattle.msi_protocol.specs.Seats.{allows}
use Rattle.msi_protocol.specs.Showing.{KeptBy, Shows, rehomed, relined}

-- the sights with another one of core c
abbrev pub sight_at : {R : Type 0} → ℕ → Sight R → (ℕ → Sight R) → ℕ → Sight R
sight_at c v sights d = if d == c then v else sights d

-- a sight after a choice by core
at_sight : {R : Type 0} (b c d : ℕ) (s t : Seat (Payload R)) (v : Sight R) → (d ≡ c → shown b s ≡ v) →
    (d ≢ c → shown b t ≡ v) → shown b (seat_if (d == c) s t)
    ≡ v
at_sight {R} b c d s t v here there = at_core (λ (u : Seat (Payload R)). shown b u ≡ v) c d s t here there

-- a row after which the home's copy counts gives nothing away
keeps : (next : Stage) (send : Send) → home_counts next ≡ true → gives next send ≡ false
keeps next send counts = grind arith

module _ {R : Type 0} where
  -- what becomes of a sight by a message, of the same entry, messages and sight
  same_after : (M : Type 0) (after : Entry R → M → List M → Sight R → Sight R) (e f : Entry R) (q r : M)
      (qs rs : List M) (v w : Sight R) → e ≡ f → r ≡ q → rs ≡ qs → v ≡ w → after e q qs v ≡ after f r rs w
  same_after M after e f q r qs rs v w ef qr qrs vw =
      ap (λ (x : Entry R). after x q qs v) ef
      ∙ ap (λ (x : M). after f x qs v) (sym qr)
      ∙ ap (λ (x : List M). after f r x v) (sym qrs)
      ∙ ap (λ (x : Sight R). after f r rs x) vw

  -- the copy at home
  abbrev home_copy : Entry R → Payload R
  home_copy e = record { words = e.words; rider = e.rider }

  -- a block whose home sends its copy so, with what the row leaves of that
  home_left : (fresh : R) (row : Option HomeRow) (bl : FullBlock (Payload R)) (sent : Entry R) → entry_with bl ≡ sent →
      entry_with (rehomed (home_copy (entry_left fresh row sent)) bl) ≡ entry_left fresh row sent
  home_left fresh None bl sent is =
      ap (λ (stage : Stage). (let x : Entry R = record { stage = stage; words = sent.words; rider = sent.rider } in x))
      (ap (λ (e : Entry R). e.stage) is)
  home_left fresh (Some r) bl sent is =
      let left : Entry R = entry_left fresh (Some r) sent in
      ap (λ (stage : Stage). (let x : Entry R = record { stage = stage; words = left.words; rider = left.rider } in x))
      (ap (λ (e : Entry R). e.stage) is)

  left_same : (riding : Riding R) (row : Option HomeRow) (e : Entry R) (words : List ℕ) (rider : R) →
      home_counts (entry_met riding.absorbed row e words rider).stage ≡ true →
      entry_by riding row e words rider ≡ entry_met riding.absorbed row e words rider
  left_same riding None e words rider counts = refl
  left_same riding (Some r) e words rider counts =
      let met : Entry R = entry_met riding.absorbed (Some r) e words rider in
      ap (λ (k : Bool). (let x : Entry R = record met { rider = if k then riding.fresh else met.rider } in x))
      (keeps r.next r.send counts)

  -- where the home's copy counts, the row gave nothing away
  home_stays : (riding : Riding R) (row : Option HomeRow) (e : Entry R) (words : List ℕ) (rider : R)
      (bl : FullBlock (Payload R)) → entry_with bl ≡ entry_met riding.absorbed row e words rider →
      home_counts bl.stage ≡ true → home_copy (entry_by riding row e words rider) ≡ bl.home
  home_stays riding row e words rider bl is counts =
      ap home_copy (left_same riding row e words rider (ap (λ (x : Entry R). home_counts x.stage) (sym is) ∙ counts)
      ∙ sym is)

  -- what the row of a message leaves of the entry shows in the block that took the message
  shows_left : (riding : Riding R) (Q : FullBlock (Payload R) → Type 0) → KeptBy (payload_absorbed riding) Q →
      (b : ℕ) (row : Option HomeRow) (entry : Entry R) (words : List ℕ) (rider : R) (taken : FullBlock (Payload R))
      (sights : ℕ → Sight R) → entry_with taken ≡ entry_met riding.absorbed row entry words rider →
      ((d : ℕ) → d < CORES_MAX → shown b (taken.seats d) ≡ sights d) → PhasesFit taken → Q taken →
      Shows Q b (entry_by riding row entry words rider) sights
  shows_left riding Q well b row entry words rider taken sights is shows fits has =
      let left : Payload R = home_copy (entry_by riding row entry words rider) in
      record {
        block = rehomed left taken;
        entry_is = home_left riding.fresh row taken (entry_met riding.absorbed row entry words rider) is;
        shows = shows;
        fits = record { fits = fits.fits; roles = fits.roles };
        has = well.rehome taken left (home_stays riding row entry words rider taken is) fits has;
      }

  pub for_request : (riding : Riding R) (Q : FullBlock (Payload R) → Type 0) → KeptBy (payload_absorbed riding) Q →
      (b : ℕ) (entry : Entry R)
      (sights : ℕ → Sight R) (c : ℕ) (request : Request R) (rest : List (Request R)) → c < CORES_MAX →
      is_free entry.stage ≡ true → (sights c).requests
      ≡ request ∷ rest →
      Shows Q b entry sights
      → Shows Q b (entry_after_request riding entry c request) (λ d. after_request_at riding entry b c request
      rest d (sights d))
  for_request riding Q well b entry sights c request rest lc free asks f =
      let bl : FullBlock (Payload R) = f.block in
      let s : Seat (Payload R) = bl.seats c in
      let st = f.fits in
      let q = shown_asked b s request rest (ap (λ (v : Sight R). v.requests) (f.shows c lc) ∙ asks) in
      let free' : is_free bl.stage ≡ true = ap (λ (e : Entry R). is_free e.stage) f.entry_is ∙ free in
      let taken : FullBlock (Payload R) = requested (payload_absorbed riding) c q.0 bl in
      let fits : PhasesFit taken = stands_request (payload_absorbed riding) c q.0 q.1 bl lc free' q.2 f.fits in
      let sends : entry_with taken ≡ entry_for_request riding.absorbed entry c request =
      sym (shown_entry riding b c q.0 q.1 bl free' q.2 (st.roles c lc))
      ∙ ap (λ (e : Entry R). (entry_for_request riding.absorbed e c (ask_with b s.put q.0))) f.entry_is
      ∙ ap (λ (r : Request R). (entry_for_request riding.absorbed entry c r)) (sym q.3) in
      shows_left riding Q well b (request_row entry.stage c (ask_of request)) entry (request_words request entry.words)
      (request_rider request entry.rider) taken (λ d. after_request_at riding entry b c request rest d (sights d)) sends
      (λ d ld. seen f.block f.entry_is f.shows q.0 q.1 q.2 q.3 q.4 free' st d ld) fits
      (well.request c q.0 q.1 bl lc free' q.2 f.fits f.has)
    where
      seen : (bl : FullBlock (Payload R)) → entry_with bl ≡ entry →
          ((d : ℕ) → d < CORES_MAX → shown b (bl.seats d) ≡ sights d) → (a : Ask) (more : List Ask) →
          (picture (bl.seats c).phase).requests ≡ a ∷ more → request ≡ ask_with b (bl.seats c).put a →
          rest ≡ map (ask_with b (bl.seats c).put) more →
          is_free bl.stage ≡ true → PhasesFit bl →
          (d : ℕ) → d < CORES_MAX → shown b ((requested (payload_absorbed riding) c a bl).seats d) ≡ after_request_at
          riding entry b c request rest d (sights d)
      seen bl is shows a more asks request_is rest_is free st d ld =
          at_sight b c d (seat_own bl.stage c home (bl.seats d)) (seat_other bl.stage c a d (bl.seats d))
          (after_request_at riding entry b c request rest d
          (sights d))
          (λ (e : d ≡ c). subst (λ (x : ℕ). shown b (seat_own bl.stage c home (bl.seats x)) ≡ after_request_at riding
          entry b c request rest x (sights x))
          (sym e) (sym (shown_own riding b c a more bl lc free asks (st.roles c lc)) ∙ same c lc))
          (λ (n : d ≢ c). sym (shown_other riding b c a (bl.seats c).put (map (ask_with b (bl.seats c).put) more) d
          (entry_with bl) (bl.seats d) lc ld n free
          (st.roles d ld)) ∙ same d ld)
        where
          home : Payload R
          home = home_requested (payload_absorbed riding) bl.stage c a (bl.seats c).put bl.home

          same : (x : ℕ) → x < CORES_MAX → after_request_at riding (entry_with bl) b c (ask_with b (bl.seats c).put a)
              (map (ask_with b (bl.seats c).put) more) x (shown b (bl.seats x)) ≡ after_request_at riding entry b c
              request rest x (sights x)
          same x lx = same_after (Request R) (λ e q qs v. after_request_at riding e b c q qs x v) (entry_with bl) entry
              (ask_with b (bl.seats c).put a) request (map (ask_with b (bl.seats c).put) more) rest
              (shown b (bl.seats x)) (sights x) is request_is rest_is (shows x lx)

  pub for_response : (riding : Riding R) (Q : FullBlock (Payload R) → Type 0) → KeptBy (payload_absorbed riding) Q →
      (b : ℕ) (entry : Entry R)
      (sights : ℕ → Sight R) (c : ℕ) (response : Response R) (rest : List (Response R)) → c < CORES_MAX →
      (sights c).responses ≡ response ∷ rest →
      Shows Q b entry sights
      → Shows Q b (entry_after_response riding entry c response) (λ d. after_response_at riding entry b c
      response rest d (sights d))
  for_response riding Q well b entry sights c response rest lc asks f =
      let bl : FullBlock (Payload R) = f.block in
      let s : Seat (Payload R) = bl.seats c in
      let st = f.fits in
      let q = shown_replied b s response rest (ap (λ (v : Sight R). v.responses) (f.shows c lc) ∙ asks) in
      let taken : FullBlock (Payload R) = responded (payload_absorbed riding) c q.0 bl in
      let fits : PhasesFit taken = stands_response (payload_absorbed riding) c q.0 q.1 bl lc q.2 f.fits in
      let sends : entry_with taken ≡ entry_for_response riding.absorbed entry c response =
      sym (shown_response_entry riding b c q.0 q.1 bl q.2 (st.roles c lc))
      ∙ ap (λ (e : Entry R). (entry_for_response riding.absorbed e c (reply_with b s.reply q.0))) f.entry_is
      ∙ ap (λ (r : Response R). (entry_for_response riding.absorbed entry c r)) (sym q.3) in
      shows_left riding Q well b (response_row entry.stage c (reply_of response)) entry
      (response_words response entry.words) (response_rider response) taken
      (λ d. after_response_at riding entry b c response rest d (sights d)) sends
      (λ d ld. seen f.block f.entry_is f.shows q.0 q.1 q.2 q.3 q.4 st d ld) fits
      (well.response c q.0 q.1 bl lc q.2 f.fits f.has)
    where
      seen : (bl : FullBlock (Payload R)) → entry_with bl ≡ entry →
          ((d : ℕ) → d < CORES_MAX → shown b (bl.seats d) ≡ sights d) →
          (a : Reply) (more : List Reply) → (picture (bl.seats c).phase).responses ≡ a ∷ more →
          response ≡ reply_with b (bl.seats c).reply a →
          rest ≡ map (reply_with b (bl.seats c).reply) more → PhasesFit bl →
          (d : ℕ) → d < CORES_MAX → shown b ((responded (payload_absorbed riding) c a bl).seats d) ≡ after_response_at
          riding entry b c response rest d
          (sights d)
      seen bl is shows a more asks response_is rest_is st d ld =
          at_sight b c d (seat_answered (bl.seats d)) (seat_others bl.stage c home (bl.seats d))
          (after_response_at riding entry b c response rest d (sights d))
          (λ (e : d ≡ c). subst (λ (x : ℕ). shown b (seat_answered (bl.seats x)) ≡ after_response_at riding entry b c
          response rest x (sights x)) (sym e)
          (sym (shown_responder riding b c a more bl lc st.fits asks (st.roles c lc)) ∙ same c lc))
          (λ (n : d ≢ c). sym (shown_others riding b c a (map (reply_with b (bl.seats c).reply) more) d bl lc ld n
          st.fits
          (response_has_row bl.stage c a more (bl.seats c).phase asks (st.roles c lc)) (st.roles d ld)) ∙ same d ld)
        where
          home : Payload R
          home = home_responded (payload_absorbed riding) bl.stage (bl.seats c).reply bl.home

          same : (x : ℕ) → x < CORES_MAX → after_response_at riding (entry_with bl) b c (reply_with b (bl.seats c).reply
              a)
              (map (reply_with b (bl.seats c).reply) more) x (shown b (bl.seats x)) ≡ after_response_at riding entry b c
              response rest x (sights x)
          same x lx = same_after (Response R) (λ e q qs v. after_response_at riding e b c q qs x v) (entry_with bl)
              entry (reply_with b (bl.seats c).reply a) response (map (reply_with b (bl.seats c).reply) more) rest
              (shown b (bl.seats x)) (sights x) is response_is rest_is (shows x lx)

  -- a seat of c alone is another, and so is c's sight
  seen_at : (b c : ℕ) (f : Seat (Payload R) → Seat (Payload R)) (seats : ℕ → Seat (Payload R)) (v : Sight R)
      (sights : ℕ → Sight R) → shown b (f (seats c))
      ≡ v → (d : ℕ) → shown b (seats d) ≡ sights d → shown b (seat_if (d == c) (f (seats d)) (seats d)) ≡ sight_at c v
      sights d
  seen_at b c f seats v sights here d there = by (cases_eq d c)
    where
      by : (d ≡ c) ⊎ (d ≢ c) → shown b (seat_if (d == c) (f (seats d)) (seats d)) ≡ sight_at c v sights d
      by (inl e) = let t : (d == c) ≡ true = grind (arith, nat_tests) in
          rw t (subst (λ (x : ℕ). shown b (f (seats x)) ≡ v) (sym e) here)
      by (inr n) = let t : (d == c) ≡ false = grind (arith, nat_tests) in rw t there

  pub messages_cons : (b : ℕ) (x : Payload R) (m : FromHome R) (rest : List (FromHome R)) (q : List Signal) →
      map (signal_with b x) q ≡ m ∷ rest → (g : Signal)
      × (more : List Signal) × (q ≡ g ∷ more)
  messages_cons b x m rest [] e = absurd cc
  messages_cons b x m rest (g ∷ more) e = (g, more, refl)

  -- and only its line is another than in a seat in which it counts
  line_at : (c d : ℕ) (f g : Seat (Payload R) → Seat (Payload R)) (seats : ℕ → Seat (Payload R)) →
      (line_counts (g (seats c)).phase ≡ true → (f (seats c)).line ≡ (g (seats c)).line) →
      line_counts (seat_if (d == c) (g (seats d)) (seats d)).phase ≡ true →
      (seat_if (d == c) (f (seats d)) (seats d)).line ≡ (seat_if (d == c) (g (seats d)) (seats d)).line
  line_at c d f g seats here = by (cases_eq d c)
    where
      by : (d ≡ c) ⊎ (d ≢ c) → line_counts (seat_if (d == c) (g (seats d)) (seats d)).phase ≡ true →
          (seat_if (d == c) (f (seats d)) (seats d)).line ≡ (seat_if (d == c) (g (seats d)) (seats d)).line
      by (inl e) = let t : (d == c) ≡ true = grind (arith, nat_tests) in
          rw t (subst (λ (x : ℕ). line_counts (g (seats x)).phase ≡ true → (f (seats x)).line ≡ (g (seats x)).line)
          (sym e) here)
      by (inr n) = let t : (d == c) ≡ false = grind (arith, nat_tests) in rw t (λ counts. refl)

  -- a seat with the line of what it then is
  with_line : (riding : Riding R) (b : ℕ) (m : FromHome R) (k : Bool) (s : Seat (Payload R)) →
      ◌≡◌ {A = Seat (Payload R)} (record (seat_if k (seat_received (payload_absorbed riding) s) s) {
        line = (seat_if k (seat_hearing riding b m s) s).line;
      }) (seat_if k (seat_hearing riding b m s) s)
  with_line riding b m true s = refl
  with_line riding b m false s = refl

  pub for_message : (riding : Riding R) (Q : FullBlock (Payload R) → Type 0) → KeptBy (payload_absorbed riding) Q →
      (b : ℕ) (entry : Entry R)
      (sights : ℕ → Sight R) (c : ℕ) (m : FromHome R) (rest : List (FromHome R)) → c < CORES_MAX →
      (sights c).messages ≡ m ∷ rest → Shows Q b entry sights
      → Shows Q b entry (sight_at c (sight_received riding m rest (sights c)) sights)
  for_message riding Q well b entry sights c m rest lc asks f =
      let bl : FullBlock (Payload R) = f.block in
      let s : Seat (Payload R) = bl.seats c in
      let head : (shown b s).messages ≡ m ∷ rest = ap (λ (v : Sight R). v.messages) (f.shows c lc) ∙ asks in
      let q = messages_cons b s.sent m rest (picture s.phase).messages head in
      let here : shown b (seat_hearing riding b m s) ≡ sight_received riding m rest (sights c) =
      sym (shown_received riding b s m rest head)
      ∙ ap (λ (v : Sight R). sight_received riding m rest v) (f.shows c lc) in
      let heard : FullBlock (Payload R) = messaged (payload_absorbed riding) c bl in
      let lines : ℕ → Payload R = λ d. (seat_if (d == c) (seat_hearing riding b m (bl.seats d)) (bl.seats d)).line in
      let fits : PhasesFit heard = stands_message (payload_absorbed riding) c q.0 q.1 bl q.2 f.fits in
      record {
        block = relined lines heard;
        entry_is = f.entry_is;
        shows = λ d ld. ap (λ (u : Seat (Payload R)). shown b u) (with_line riding b m (d == c) (bl.seats d))
            ∙ seen_at b c (seat_hearing riding b m) bl.seats (sight_received riding m rest (sights c)) sights here d
            (f.shows d ld);
        fits = record { fits = fits.fits; roles = fits.roles };
        has = well.reline heard lines (λ d ld. line_at c d (seat_hearing riding b m)
            (seat_received (payload_absorbed riding)) bl.seats (hearing_counts riding b s m rest head)) fits
            (well.message c q.0 q.1 bl lc q.2 f.fits f.has);
      }

  -- a core asks for this block or, where the line has this one, for another
  pub for_wish : (riding : Riding R) (Q : FullBlock (Payload R) → Type 0) → KeptBy (payload_absorbed riding) Q →
      (b block : ℕ) (kind : Kind) (entry : Entry R)
      (sights : ℕ → Sight R) (c : ℕ) → c < CORES_MAX → is_transient (sights c).line.state ≡ false →
      is_allowed (sights c).line block kind ≡ false →
      ((sights c).line.state ≡ I → b ≡ block) → Shows Q b entry sights
      → Shows Q b entry (sight_at c (sight_asking block kind (sights c)) sights)
  for_wish riding Q well b block kind entry sights c lc still needed same f =
      let bl : FullBlock (Payload R) = f.block in
      let s : Seat (Payload R) = bl.seats c in
      let line : line_with b s ≡ (sights c).line = ap (λ (v : Sight R). v.line) (f.shows c lc) in
      let w : Wish = wish_in (picture s.phase).line (b == block) (is_write kind) in
      let here : shown b (seat_wished w s) ≡ sight_asking block kind (sights c) =
      sym (shown_wish b block kind s (ap (λ (l : Line R). is_transient l.state) line
      ∙ still) (ap (λ (l : Line R). is_allowed l block kind) line ∙ needed)
      (λ (e : (picture s.phase).line ≡ I). same (ap (λ (l : Line R). l.state) (sym line) ∙ e)))
      ∙ ap (λ (v : Sight R). sight_asking block kind v) (f.shows c lc) in
      record {
        block = wishing c w bl;
        entry_is = f.entry_is;
        shows = λ d ld. seen_at b c (seat_wished w) bl.seats (sight_asking block kind (sights c)) sights here d
            (f.shows d ld);
        fits = stands_wish c w bl f.fits;
        has = well.wish c w bl f.fits f.has;
      }

-- ---- the same sights, and a core that isn't there

blank_view : (v : View) → v.line ≡ I → v.requests ≡ [] → v.responses ≡ [] → v.messages ≡ [] → v ≡ view I [] [] []
blank_view v l q r m =
    ap (λ (x : State). view x v.requests v.responses v.messages) l
    ∙ ap (λ (x : List Ask). view I x v.responses v.messages) q
    ∙ ap (λ (x : List Reply). view I [] x v.messages) r ∙ ap (λ (x : List Signal). view I [] [] x) m

map_nil : {A B : Type 0} (f : A → B) (q : List A) → map f q ≡ [] → q ≡ []
map_nil f [] e = refl
map_nil f (x ∷ q) e = absurd cc

module _ {R : Type 0} where
  pub same_sights : (Q : FullBlock (Payload R) → Type 0) (b : ℕ) (e f : Entry R) (v w : ℕ → Sight R) → e ≡ f →
      ((d : ℕ) → d < CORES_MAX → v d ≡ w d) →
      Shows Q b e v → Shows Q b f w
  same_sights Q b e f v w ef vw s = record {
    block = s.block;
    entry_is = s.entry_is ∙ ef;
    shows = λ d ld. s.shows d ld
        ∙ vw d ld;
    fits = s.fits;
    has = s.has;
  }

  -- a sight of nothing
  pub record IsBlank (v : Sight R) : Type 0 where
    pub line : v.line.state ≡ I
    pub requests : v.requests ≡ []
    pub responses : v.responses ≡ []
    pub messages : v.messages ≡ []

  pub blank_picture : (b : ℕ) (s : Seat (Payload R)) → IsBlank (shown b s) → picture s.phase ≡ view I [] [] []
  blank_picture b s blank =
      let l : (picture s.phase).line ≡ I = blank.line in
      let q = map_nil (ask_with b s.put) (picture s.phase).requests blank.requests in
      let r = map_nil (reply_with b s.reply) (picture s.phase).responses blank.responses in
      let m = map_nil (signal_with b s.sent) (picture s.phase).messages blank.messages in
      blank_view (picture s.phase) l q r m

  shown_picture : (b : ℕ) (p q : Phase) (s : Seat (Payload R)) → picture p ≡ picture q →
      shown b (record s { phase = p }) ≡ shown b (record s { phase = q })
  shown_picture b p q s e = ap (λ (v : View). (let x : Sight R = record {
    line = record {
      state = v.line;
      block = b;
      words = s.line.words;
      rider = s.line.rider;
    };
    requests = map (ask_with b s.put) v.requests;
    responses = map (reply_with b s.reply) v.responses;
    messages = map
        (signal_with b s.sent) v.messages;
  } in x)) e

idle_stays : (stage : Stage) (c : ℕ) (a : Ask) (d : ℕ) (p : Phase) → picture p ≡ view I [] [] [] →
    picture (after_other stage c a d p) ≡ picture p
idle_stays stage c a d p is = grind arith

idle_others : {X : Type 0} (stage : Stage) (c : ℕ) (home sent : X) (p : Phase) → picture p ≡ view I [] [] [] →
    (picture (after_others_response stage c p) ≡ picture p) × (sent_served home p sent ≡ sent)
idle_others stage c home sent p is = (grind arith, grind arith)

module _ {R : Type 0} where
  pub blank_request : (riding : Riding R) (Q : FullBlock (Payload R) → Type 0) (b : ℕ) (entry : Entry R) (sights : ℕ →
      Sight R) (c : ℕ) (request : Request R)
      (rest : List (Request R)) (d : ℕ) → c < CORES_MAX → d < CORES_MAX → d ≢ c → is_free entry.stage ≡ true →
      (sights c).requests ≡ request ∷ rest →
      IsBlank (sights d) → Shows Q b entry sights
      → after_request_at riding entry b c request rest d (sights d) ≡ sights d
  blank_request riding Q b entry sights c request rest d lc ld other free asks blank f =
      let bl : FullBlock (Payload R) = f.block in
      let s : Seat (Payload R) = bl.seats c in
      let u : Seat (Payload R) = bl.seats d in
      let st = f.fits in
      let q = shown_asked b s request rest (ap (λ (v : Sight R). v.requests) (f.shows c lc) ∙ asks) in
      let free' : is_free bl.stage ≡ true = ap (λ (e : Entry R). is_free e.stage) f.entry_is ∙ free in
      let is = blank_picture b u (subst IsBlank (sym (f.shows d ld)) blank) in
      sym (same_after (Request R) (λ e q qs v. after_request_at riding e b c q qs d v) (entry_with bl) entry
      (ask_with b s.put q.0) request (map (ask_with b s.put) q.1) rest (shown b u)
      (sights d) f.entry_is q.3 q.4 (f.shows d ld))
      ∙ shown_other riding b c q.0 s.put (map (ask_with b s.put) q.1) d (entry_with bl) u lc ld other free'
      (st.roles d ld)
      ∙ shown_picture b (after_other bl.stage c q.0 d u.phase) u.phase u (idle_stays bl.stage c q.0 d u.phase is)
      ∙ f.shows d ld

  pub blank_response : (riding : Riding R) (Q : FullBlock (Payload R) → Type 0) (b : ℕ) (entry : Entry R) (sights : ℕ →
      Sight R) (c : ℕ) (response : Response R)
      (rest : List (Response R)) (d : ℕ) → c < CORES_MAX → d < CORES_MAX → d ≢ c →
      (sights c).responses ≡ response ∷ rest → IsBlank (sights d) →
      Shows Q b entry sights
      → after_response_at riding entry b c response rest d (sights d) ≡ sights d
  blank_response riding Q b entry sights c response rest d lc ld other asks blank f =
      let bl : FullBlock (Payload R) = f.block in
      let s : Seat (Payload R) = bl.seats c in
      let u : Seat (Payload R) = bl.seats d in
      let st = f.fits in
      let q = shown_replied b s response rest (ap (λ (v : Sight R). v.responses) (f.shows c lc) ∙ asks) in
      let home : Payload R = home_responded (payload_absorbed riding) bl.stage s.reply bl.home in
      let is = blank_picture b u (subst IsBlank (sym (f.shows d ld)) blank) in
      let i = idle_others bl.stage c home u.sent u.phase is in
      sym (same_after (Response R) (λ e q qs v. after_response_at riding e b c q qs d v) (entry_with bl) entry
      (reply_with b s.reply q.0) response (map (reply_with b s.reply) q.1) rest (shown b u)
      (sights d) f.entry_is q.3 q.4 (f.shows d ld))
      ∙ shown_others riding b c q.0 (map (reply_with b s.reply) q.1) d bl lc ld other st.fits
      (response_has_row bl.stage c q.0 q.1 s.phase q.2 (st.roles c lc))
      (st.roles d ld)
      ∙ ap (λ (x : Payload R). shown b (record u { phase = after_others_response bl.stage c u.phase; sent = x })) i.1
      ∙ shown_picture b (after_others_response bl.stage c u.phase) u.phase u i.0
      ∙ f.shows d ld

module _ {R : Type 0} where
  -- an access of core c to the block, which finds the old copy in its line and leaves the new one there
  pub for_touch : (Q P : FullBlock (Payload R) → Type 0) (b c : ℕ) (kind : Kind) (old new : Payload R) → c < CORES_MAX →
      ((bl : FullBlock (Payload R)) → PhasesFit bl → (bl.seats c).line ≡ old → allows kind (bl.seats c).phase ≡ true →
      Q bl → P (accessing c new bl))
      → (entry : Entry R) (sights : ℕ → Sight R) → copy_in (sights c).line ≡ old →
      is_allowed (sights c).line b kind ≡ true → Shows Q b entry sights
      → Shows P b entry (sight_at c (sight_accessed new.words new.rider (sights c)) sights)
  for_touch Q P b c kind old new lc gives entry sights is allowed f =
      let bl : FullBlock (Payload R) = f.block in
      let s : Seat (Payload R) = bl.seats c in
      let line : line_with b s ≡ (sights c).line = ap (λ (v : Sight R). v.line) (f.shows c lc) in
      let found : s.line ≡ old = ap copy_in line ∙ is in
      let may : allows kind s.phase ≡ true = sym (shown_allows b kind s) ∙ ap (λ (x : Line R). is_allowed x b kind) line
      ∙ allowed in
      record {
        block = accessing c new bl;
        entry_is = f.entry_is;
        shows = λ d ld. seen_at b c (seat_accessed new) bl.seats (sight_accessed new.words new.rider (sights c)) sights
            (ap (λ (v : Sight R). sight_accessed new.words new.rider v) (f.shows c lc)) d (f.shows d ld);
        fits = stands_access c new bl f.fits;
        has = gives bl f.fits found may f.has;
      }
