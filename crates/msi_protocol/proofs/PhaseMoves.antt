-- Each move keeps the phases to the stage, and a closed property of the holders.
use Rattle.std.proofs.Common.{◌≡◌, ◌≢◌, ◌∙◌, ap, refl, sym, subst, ℕ, ◌<◌, ◌==◌, true, false, List, ◌∷◌, arith}
use Rattle.rtr_types.specs.declared.TheConstants.{CORES_MAX}
use Rattle.std.proofs.lemmas.Bool.Decides.{nat_tests}
use Rattle.msi_directory.specs.Table.{is_free}
use Rattle.msi_directory.specs.declared.entry.Stage.{Stage}
use Rattle.msi_cache.specs.Table.{Signal, Ask, Reply}
use Rattle.msi_protocol.specs.Block.{Wish, request_step, response_step}
use Rattle.msi_protocol.specs.Phases.{Phase, role, role_in, picture}
use Rattle.msi_protocol.proofs.Keeps.{own_role, other_role, message_role, wish_role, response_has_row, responder_role}
use Rattle.msi_protocol.proofs.Keeps.{others_response_role, fits_request}
use Rattle.msi_protocol.proofs.Keeps.{fits_response}
use Rattle.msi_protocol.specs.Counting.{home_counts}
use Rattle.msi_protocol.specs.Seats.{Seat, SeatHas, put_counts, seat_received, seat_wished, home_requested, seat_own}
use Rattle.msi_protocol.specs.Seats.{seat_other, home_responded, seat_answered}
use Rattle.msi_protocol.specs.Seats.{seat_others, seat_accessed, reads_in, writes_in, FullBlock, requested, responded}
use Rattle.msi_protocol.specs.Seats.{messaged, seat_if, wishing, accessing, PhasesFit}
use Rattle.msi_protocol.specs.Seats.{HoldersHave, is_away, allows}
use Rattle.rtr_types.specs.declared.access.Kind.{Kind}
use Rattle.msi_protocol.specs.Counting.{line_counts, sent_counts, reply_counts}
use Rattle.msi_protocol.proofs.Holders.{Closed, received_has, wished_has, home_requested_has, own_has, other_has}
use Rattle.msi_protocol.proofs.Holders.{home_responded_has, answered_has, others_has}
use Rattle.msi_protocol.proofs.NewestReads.{at_core}

abbrev HasRole : {X : Type 0} → Stage → ℕ → Seat X → Type 0
HasRole stage d s = role_in s.phase ≡ role stage d

-- ---- the phases

pub stands_request : {X : Type 0} (absorbed : X → X → X) (c : ℕ) (a : Ask) (rest : List Ask) (b : FullBlock X) →
    c < CORES_MAX → is_free b.stage ≡ true →
    (picture (b.seats c).phase).requests ≡ a ∷ rest → PhasesFit b → PhasesFit (requested absorbed c a b)
stands_request {X} absorbed c a rest b lc free asks st =
    record {
      fits = fits_request b.stage c a rest (b.seats c).phase lc st.fits free asks (st.roles c lc);
      roles = λ d ld. at_core (HasRole (request_step b.stage c a).stage d) c d (seat_own b.stage c home (b.seats d))
          (seat_other b.stage c a d (b.seats d))
          (λ (e : d ≡ c). subst (λ (x : ℕ). HasRole (request_step b.stage c a).stage x
          (seat_own b.stage c home (b.seats x))) (sym e)
          (own_role b.stage c a rest (b.seats c).phase lc free asks (st.roles c lc)))
          (λ (n : d ≢ c). other_role b.stage c a d (b.seats c).phase (b.seats d).phase lc ld n free (st.roles d ld));
    }
  where
    home : X
    home = home_requested absorbed b.stage c a (b.seats c).put b.home

pub stands_response : {X : Type 0} (absorbed : X → X → X) (c : ℕ) (a : Reply) (rest : List Reply) (b : FullBlock X) →
    c < CORES_MAX →
    (picture (b.seats c).phase).responses ≡ a ∷ rest → PhasesFit b → PhasesFit (responded absorbed c a b)
stands_response {X} absorbed c a rest b lc asks st =
    let row = response_has_row b.stage c a rest (b.seats c).phase asks (st.roles c lc) in
    record {
      fits = fits_response b.stage c a lc st.fits row;
      roles = λ d ld. at_core (HasRole (response_step b.stage c a).stage d) c d (seat_answered (b.seats d))
          (seat_others b.stage c home (b.seats d))
          (λ (e : d ≡ c). subst (λ (x : ℕ). HasRole (response_step b.stage c a).stage x (seat_answered (b.seats x)))
          (sym e)
          (responder_role b.stage c a rest (b.seats c).phase lc st.fits asks (st.roles c lc)))
          (λ (n : d ≢ c). others_response_role b.stage c a d (b.seats d).phase lc ld n st.fits row (st.roles d ld));
    }
  where
    home : X
    home = home_responded absorbed b.stage (b.seats c).reply b.home

-- core c's seat alone is another, in the role in which it was
stands_seat : {X : Type 0} (c : ℕ) (seat : Seat X → Seat X) (b : FullBlock X) →
    ((d : ℕ) → d ≡ c → role_in (seat (b.seats d)).phase ≡ role_in (b.seats d).phase) → PhasesFit b →
    PhasesFit (record b { seats = λ d. seat_if (d == c) (seat (b.seats d)) (b.seats d) })
stands_seat c seat b same st =
    record {
      fits = st.fits;
      roles = λ d ld. at_core (HasRole b.stage d) c d (seat (b.seats d)) (b.seats d)
          (λ (e : d ≡ c). same d e ∙ st.roles d ld)
          (λ (n : d ≢ c). st.roles d ld);
    }

pub stands_message : {X : Type 0} (absorbed : X → X → X) (c : ℕ) (m : Signal) (rest : List Signal) (b : FullBlock X) →
    (picture (b.seats c).phase).messages
    ≡ m ∷ rest → PhasesFit b → PhasesFit (messaged absorbed c b)
stands_message absorbed c m rest b asks =
    stands_seat c (seat_received absorbed) b
    (λ d e. message_role (b.seats d).phase m rest (ap (λ (x : ℕ). (picture (b.seats x).phase).messages) e ∙ asks))

pub stands_wish : {X : Type 0} (c : ℕ) (w : Wish) (b : FullBlock X) → PhasesFit b → PhasesFit (wishing c w b)
stands_wish c w b = stands_seat c (seat_wished w) b (λ d e. wish_role (b.seats d).phase w)

pub stands_access : {X : Type 0} (c : ℕ) (line : X) (b : FullBlock X) → PhasesFit b → PhasesFit (accessing c line b)
stands_access c line b = stands_seat c (seat_accessed line) b (λ d e. refl)

-- ---- the holders

pub has_request : {X : Type 0} (P : X → Type 0) (absorbed : X → X → X) → Closed P absorbed →
    (c : ℕ) (a : Ask) (rest : List Ask) (b : FullBlock X) →
    c < CORES_MAX → is_free b.stage ≡ true → (picture (b.seats c).phase).requests ≡ a ∷ rest → PhasesFit b →
    HoldersHave P b →
    HoldersHave P (requested absorbed c a b)
has_request {X} P absorbed both c a rest b lc free asks st h =
    let q = h.seats c lc in
    record {
      home = λ counts. home_requested_has P absorbed both b.stage c a rest (b.seats c).phase b.home (b.seats c).line
          (b.seats c).put free asks
          (st.roles c lc) h.home q.line q.put counts;
      seats = λ d ld. at_core (SeatHas P) c d (seat_own b.stage c home (b.seats d)) (seat_other b.stage c a d
          (b.seats d))
          (λ (e : d ≡ c). subst (λ (x : ℕ). SeatHas P (seat_own b.stage c home (b.seats x))) (sym e)
          (own_has P absorbed b.stage c a rest (b.seats c) b.home free asks (st.roles c lc) h.home q))
          (λ (n : d ≢ c). other_has P b.stage c a d (b.seats d) (h.seats d ld));
    }
  where
    home : X
    home = home_requested absorbed b.stage c a (b.seats c).put b.home

pub has_response : {X : Type 0} (P : X → Type 0) (absorbed : X → X → X) → Closed P absorbed →
    (c : ℕ) (a : Reply) (rest : List Reply) (b : FullBlock X) →
    c < CORES_MAX → (picture (b.seats c).phase).responses ≡ a ∷ rest → PhasesFit b → HoldersHave P b →
    HoldersHave P (responded absorbed c a b)
has_response {X} P absorbed both c a rest b lc asks st h =
    record {
      home = λ counts. after;
      seats = λ d ld. at_core (SeatHas P) c d (seat_answered (b.seats d)) (seat_others b.stage c home (b.seats d))
          (λ (e : d ≡ c). answered_has P (b.seats d) (h.seats d ld))
          (λ (n : d ≢ c). others_has P b.stage c (b.seats d) home after (h.seats d ld));
    }
  where
    home : X
    home = home_responded absorbed b.stage (b.seats c).reply b.home

    after : P home
    after = home_responded_has P absorbed both b.stage c a rest (b.seats c).phase b.home (b.seats c).reply asks
        (st.roles c lc) h.home (h.seats c lc).reply

pub has_message : {X : Type 0} (P : X → Type 0) (absorbed : X → X → X) → Closed P absorbed → (c : ℕ) (b : FullBlock X) →
    HoldersHave P b →
    HoldersHave P (messaged absorbed c b)
has_message P absorbed both c b h =
    record {
      home = h.home;
      seats = λ d ld. at_core (SeatHas P) c d (seat_received absorbed (b.seats d)) (b.seats d)
          (λ (e : d ≡ c). received_has P absorbed both (b.seats d) (h.seats d ld)) (λ (n : d ≢ c). h.seats d ld);
    }

pub has_wish : {X : Type 0} (P : X → Type 0) (c : ℕ) (w : Wish) (b : FullBlock X) → HoldersHave P b →
    HoldersHave P (wishing c w b)
has_wish P c w b h =
    record {
      home = h.home;
      seats = λ d ld. at_core (SeatHas P) c d (seat_wished w (b.seats d)) (b.seats d) (λ (e : d ≡ c). wished_has P w
          (b.seats d) (h.seats d ld))
          (λ (n : d ≢ c). h.seats d ld);
    }

-- ---- an access

pub allows_read : (k : Kind) (p : Phase) → allows k p ≡ true → reads_in p ≡ true
allows_read k p e = grind arith

pub reads_line : (p : Phase) → reads_in p ≡ true → line_counts p ≡ true
reads_line p e = grind arith

pub writes_read : (p : Phase) → writes_in p ≡ true → reads_in p ≡ true
writes_read p e = grind arith

reads_put : (p : Phase) → reads_in p ≡ true → put_counts p ≡ false
reads_put p e = grind arith

accessed_has : {X : Type 0} (P Q : X → Type 0) (line : X) (s : Seat X) → reads_in s.phase ≡ true →
    ((x : X) → P x → Q x) → Q line → SeatHas P s →
    SeatHas Q (seat_accessed line s)
accessed_has P Q line s may each new h =
    record {
      line = λ counts. new;
      sent = λ counts. each s.sent (h.sent counts);
      reply = λ counts. each s.reply (h.reply counts);
      put = λ counts. let e = reads_put s.phase may in absurd cc;
    }

pub still_has : {X : Type 0} (P Q : X → Type 0) (s : Seat X) → ((x : X) → P x → Q x) → SeatHas P s → SeatHas Q s
still_has P Q s each h =
    record {
      line = λ counts. each s.line (h.line counts);
      sent = λ counts. each s.sent (h.sent counts);
      reply = λ counts. each s.reply (h.reply counts);
      put = h.put;
    }

-- a load: what held of each holder gives what then holds
pub has_load : {X : Type 0} (P Q : X → Type 0) (c : ℕ) (line : X) (b : FullBlock X) →
    reads_in (b.seats c).phase ≡ true → ((x : X) → P x → Q x) → Q line →
    HoldersHave P b → HoldersHave Q (accessing c line b)
has_load P Q c line b may each new h =
    record {
      home = λ counts. each b.home (h.home counts);
      seats = λ d ld. at_core (SeatHas Q) c d (seat_accessed line (b.seats d)) (b.seats d)
          (λ (e : d ≡ c). accessed_has P Q line (b.seats d) (ap (λ (x : ℕ). reads_in (b.seats x).phase) e
          ∙ may) each new (h.seats d ld))
          (λ (n : d ≢ c). still_has P Q (b.seats d) each (h.seats d ld));
    }

-- a store: the line is the only holder
writer_home : (stage : Stage) (c : ℕ) (p : Phase) → writes_in p ≡ true → role_in p ≡ role stage c →
    home_counts stage ≡ false
writer_home stage c p may is = grind (arith, nat_tests)

writer_line : (p : Phase) → writes_in p ≡ true →
    (sent_counts p ≡ false) × (reply_counts p ≡ false) × (put_counts p ≡ false)
writer_line p may = grind arith

pub writer_away : (stage : Stage) (c d : ℕ) (p : Phase) → d ≢ c → writes_in p ≡ true → role_in p ≡ role stage c →
    is_away (role stage d) ≡ true
writer_away stage c d p n may is = grind (arith, nat_tests)

pub away_seat : (p : Phase) → is_away (role_in p) ≡ true →
    (line_counts p ≡ false) × (sent_counts p ≡ false) × (reply_counts p ≡ false) × (put_counts p ≡ false)
away_seat p away = grind arith

pub has_store : {X : Type 0} (Q : X → Type 0) (c : ℕ) (line : X) (b : FullBlock X) → c < CORES_MAX →
    writes_in (b.seats c).phase ≡ true → Q line →
    PhasesFit b → HoldersHave Q (accessing c line b)
has_store Q c line b lc may new st =
    record {
      home = λ counts. let e = writer_home b.stage c (b.seats c).phase may (st.roles c lc) in absurd cc;
      seats = λ d ld. at_core (SeatHas Q) c d (seat_accessed line (b.seats d)) (b.seats d)
          (λ (e : d ≡ c). let w = writer_line (b.seats d).phase (ap (λ (x : ℕ). writes_in (b.seats x).phase) e ∙ may) in
          record {
            line = λ counts. new;
            sent = λ counts. absurd (cc (w.0));
            reply = λ counts. absurd (cc (w.1));
            put =
                λ counts. absurd (cc (w.2));
          })
          (λ (n : d ≢ c). let w = away_seat (b.seats d).phase (ap is_away (st.roles d ld)
          ∙ writer_away b.stage c d (b.seats c).phase n may (st.roles c lc)) in
          record {
            line = λ counts. absurd (cc (w.0));
            sent = λ counts. absurd (cc (w.1));
            reply = λ counts. absurd (cc (w.2));
            put = λ counts. absurd (cc (w.3));
          });
    }
