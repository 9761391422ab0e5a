-- Each move keeps each core where the home takes it to be.
use Rattle.std.proofs.Common.{◌≡◌, ◌≢◌, ◌∙◌, ap, refl, sym, subst, ℕ, ◌<◌, ◌==◌, Bool, true, false, nat_lt, inl, inr}
use Rattle.std.proofs.Common.{List, [], ◌∷◌, arith, IsTrue}
use Rattle.std.specs.Prelude.{if◌then◌else◌, is_some}
use Rattle.std.proofs.lemmas.Bool.{cases_eq, ltb-true}
use Rattle.std.proofs.lemmas.Bool.Decides.{nat_tests}
use Rattle.rtr_types.specs.declared.TheConstants.{CORES_MAX}
use Rattle.rtr_types.specs.declared.core_set.CoreSet.{CoreSet}
use Rattle.rtr_types.specs.CoreSets.{has, without_core, is_none}
use Rattle.rtr_types.proofs.Members.{has-with_same, has-with_other, has-without_same, has-without_other, has-none}
use Rattle.rtr_types.proofs.Members.{has-some, has-no_cores, with_nonempty}
use Rattle.rtr_types.proofs.Members.{with_below, without_below}
use Rattle.msi_cache.specs.declared.line.State.{State}
use Rattle.msi_cache.specs.declared.line.State.TheVariants.{M}
use Rattle.msi_cache.specs.Table.{Signal, Ask, Reply, row, is_readable, is_writable}
use Rattle.msi_directory.specs.declared.entry.Stage.{Stage}
use Rattle.msi_directory.specs.declared.entry.Stage.TheVariants.{Unshared, Shared, Owned, Acks, Data}
use Rattle.msi_directory.specs.Table.{is_free}
use Rattle.msi_directory.specs.Fitting.{stage_fits}
use Rattle.msi_protocol.specs.Block.{View, Block, request_step, response_step, has_ask_row, has_reply_row}
use Rattle.msi_protocol.specs.Block.{after_request, after_response, after_message}
use Rattle.msi_protocol.specs.Block.{after_wish, Wish, BlockMove, TakesRequest, TakesResponse, TakesMessage, Wishes}
use Rattle.msi_protocol.specs.Block.{core_of, moved, block_move, block_run}
use Rattle.msi_protocol.specs.Block.{block_start, request_by, response_by, message_by, wish_by, view_if}
use Rattle.msi_protocol.specs.Promises.{Always, OneWriter, HasRows, BusyMoves, is_moving}
use Rattle.msi_protocol.specs.Phases.{Phase, Idle, role, role_in, picture, StageFits, Stands, BlockHolds}
use Rattle.msi_protocol.specs.NextPhases.{after_own, after_other, answered, after_others_response, received, wished}
use Rattle.msi_protocol.specs.NextPhases.{owes}
use Rattle.msi_protocol.specs.Seats.{is_main, is_away}

-- a request that can be taken has a row
pub request_has_row : (stage : Stage) (c : ℕ) (a : Ask) (rest : List Ask) (p : Phase) → is_free stage ≡ true →
    (picture p).requests ≡ a ∷ rest →
    role_in p ≡ role stage c → has_ask_row stage c a ≡ true
request_has_row stage c a rest p free asks is = grind (arith, nat_tests)

-- the core whose request is taken
pub own_role : (stage : Stage) (c : ℕ) (a : Ask) (rest : List Ask) (p : Phase) → c < CORES_MAX → is_free stage ≡ true →
    (picture p).requests ≡ a ∷ rest →
    role_in p ≡ role stage c → role_in (after_own stage c p) ≡ role (request_step stage c a).stage c
own_role stage c a rest p lt free asks is = grind (arith, nat_tests, has-with_same, has-without_same, has-no_cores)

pub own_view : (stage : Stage) (c : ℕ) (a : Ask) (rest : List Ask) (p : Phase) → c < CORES_MAX → is_free stage ≡ true →
    (picture p).requests ≡ a ∷ rest →
    role_in p ≡ role stage c → picture (after_own stage c p) ≡ after_request stage c a rest c (picture p)
own_view stage c a rest p lt free asks is = grind (arith, nat_tests, has-with_same, has-without_same, has-no_cores)

-- another core
pub other_role : (stage : Stage) (c : ℕ) (a : Ask) (d : ℕ) (p q : Phase) → c < CORES_MAX → d < CORES_MAX → d ≢ c →
    is_free stage ≡ true →
    role_in q ≡ role stage d → role_in (after_other stage c a d q) ≡ role (request_step stage c a).stage d
other_role stage c a d p q lc ld other free is =
    let last : (by : CoreSet) → is_none (without_core by c) ≡ true → has by d ≡ false =
    λ (by : CoreSet) (e : is_none (without_core by c) ≡ true). sym (has-without_other by c d lc ld other)
    ∙ has-none (without_core by c) d e in
    grind (arith, nat_tests, has-with_other, has-without_other, has-no_cores, last)

pub other_view : (stage : Stage) (c : ℕ) (a : Ask) (rest : List Ask) (d : ℕ) (q : Phase) → c < CORES_MAX →
    d < CORES_MAX → d ≢ c → is_free stage ≡ true →
    role_in q ≡ role stage d → picture (after_other stage c a d q) ≡ after_request stage c a rest d (picture q)
other_view stage c a rest d q lc ld other free is = grind (
  arith,
  nat_tests,
  has-with_other,
  has-without_other,
  has-no_cores,
  has-none,
)

-- the core that takes its oldest message
pub message_row : (p : Phase) (m : Signal) (rest : List Signal) → (picture p).messages ≡ m ∷ rest →
    is_some (row m (picture p).line) ≡ true
message_row p m rest is = grind arith

pub message_role : (p : Phase) (m : Signal) (rest : List Signal) → (picture p).messages ≡ m ∷ rest →
    role_in (received p) ≡ role_in p
message_role p m rest is = grind arith

pub message_view : (p : Phase) (m : Signal) (rest : List Signal) → (picture p).messages ≡ m ∷ rest →
    picture (received p) ≡ after_message m rest (picture p)
message_view p m rest is = grind arith

-- the core that asks for what it wants
pub wish_role : (p : Phase) (w : Wish) → role_in (wished w p) ≡ role_in p
wish_role p w = grind arith

pub wish_view : (p : Phase) (w : Wish) → picture (wished w p) ≡ after_wish w (picture p)
wish_view p w = grind arith

-- a response has a row
pub response_has_row : (stage : Stage) (c : ℕ) (a : Reply) (rest : List Reply) (p : Phase) →
    (picture p).responses ≡ a ∷ rest → role_in p ≡ role stage c →
    has_reply_row stage c a ≡ true
response_has_row stage c a rest p asks is = grind (arith, nat_tests)

-- the core whose response is taken
pub responder_role : (stage : Stage) (c : ℕ) (a : Reply) (rest : List Reply) (p : Phase) → c < CORES_MAX →
    StageFits stage → (picture p).responses ≡ a ∷ rest →
    role_in p ≡ role stage c → role_in (answered p) ≡ role (response_step stage c a).stage c
responder_role stage c a rest p lt fits asks is = grind (
  arith,
  nat_tests,
  has-with_same,
  has-with_other,
  has-without_same,
  has-no_cores,
)

pub responder_view : (stage : Stage) (c : ℕ) (a : Reply) (rest : List Reply) (p : Phase) → c < CORES_MAX →
    StageFits stage → (picture p).responses ≡ a ∷ rest →
    role_in p ≡ role stage c → picture (answered p) ≡ after_response stage c a rest c (picture p)
responder_view stage c a rest p lt fits asks is = grind (
  arith,
  nat_tests,
  has-with_same,
  has-without_same,
  has-no_cores,
)

-- one that may write is the owner, or is still to give, and then nobody else has a copy
pub writer_role : (p : Phase) → (picture p).line ≡ M → is_main (role_in p) ≡ true
writer_role p is = grind arith

pub reader_role : (p : Phase) → is_away (role_in p) ≡ true → is_readable (picture p).line ≡ false
reader_role p is = grind arith

pub one_role : (stage : Stage) (d e : ℕ) → d ≢ e → is_main (role stage d) ≡ true → is_away (role stage e) ≡ true
one_role stage d e other is = grind (arith, nat_tests)

pub one_writer : (stage : Stage) (d e : ℕ) (p q : Phase) → d ≢ e → role_in p ≡ role stage d → role_in q ≡ role stage e →
    (picture p).line ≡ M →
    is_readable (picture q).line ≡ false
one_writer stage d e p q other is that writes =
    reader_role q (rw that (one_role stage d e other (rw (← is) (writer_role p writes))))

-- another core, at a response
pub others_response_role : (stage : Stage) (c : ℕ) (a : Reply) (d : ℕ) (q : Phase) → c < CORES_MAX → d < CORES_MAX →
    d ≢ c → StageFits stage →
    has_reply_row stage c a ≡ true → role_in q ≡ role stage d → role_in (after_others_response stage c q) ≡ role
    (response_step stage c a).stage d
others_response_role stage c a d q lc ld other fits has_row is =
    let last : (by : CoreSet) → is_none (without_core by c) ≡ true → has by d ≡ false =
    λ (by : CoreSet) (e : is_none (without_core by c) ≡ true). sym (has-without_other by c d lc ld other)
    ∙ has-none (without_core by c) d e in
    grind (arith, nat_tests, has-with_same, has-with_other, has-without_other, has-no_cores, last)

pub others_response_view : (stage : Stage) (c : ℕ) (a : Reply) (rest : List Reply) (d : ℕ) (q : Phase) → c < CORES_MAX →
    d < CORES_MAX → d ≢ c →
    StageFits stage → has_reply_row stage c a ≡ true → role_in q ≡ role stage d →
    picture (after_others_response stage c q)
    ≡ after_response stage c a rest d (picture q)
others_response_view stage c a rest d q lc ld other fits has_row is =
    let last : (by : CoreSet) → is_none (without_core by c) ≡ true → has by d ≡ false =
    λ (by : CoreSet) (e : is_none (without_core by c) ≡ true). sym (has-without_other by c d lc ld other)
    ∙ has-none (without_core by c) d e in
    grind (arith, nat_tests, has-no_cores, last)

-- the stages that follow fit
pub fits_request : (stage : Stage) (c : ℕ) (a : Ask) (rest : List Ask) (p : Phase) → c < CORES_MAX → StageFits stage →
    is_free stage ≡ true →
    (picture p).requests ≡ a ∷ rest → role_in p ≡ role stage c → StageFits (request_step stage c a).stage
fits_request stage c a rest p lc fits free asks is = grind (
  arith,
  nat_tests,
  has-without_same,
  with_nonempty,
  with_below,
  without_below,
)

pub fits_response : (stage : Stage) (c : ℕ) (a : Reply) → c < CORES_MAX → StageFits stage →
    has_reply_row stage c a ≡ true →
    StageFits (response_step stage c a).stage
fits_response stage c a lc fits has_row = grind (
  arith,
  nat_tests,
  has-without_other,
  with_nonempty,
  with_below,
  without_below,
)

-- ---- the whole block

pub first_view : (p : Phase) (v : View) → picture p ≡ v → (picture p).requests ≡ v.requests
first_view p v e = ap (λ (w : View). w.requests) e

pub request_stands_own : (stage : Stage) (c : ℕ) (a : Ask) (rest : List Ask) (v : View) → c < CORES_MAX →
    is_free stage ≡ true → v.requests ≡ a ∷ rest →
    Stands stage c v → Stands (request_step stage c a).stage c (after_request stage c a rest c v)
request_stands_own stage c a rest v lc free asks s =
    let asked : (picture s.phase).requests ≡ a ∷ rest = ap (λ (w : View). w.requests) s.view_is ∙ asks in
    record {
      phase = after_own stage c s.phase;
      role_is = own_role stage c a rest s.phase lc free asked s.role_is;
      view_is = own_view stage c a rest s.phase lc free asked s.role_is
          ∙ ap (λ (w : View). after_request stage c a rest c w) s.view_is;
    }

pub request_stands_other : (stage : Stage) (c : ℕ) (a : Ask) (rest : List Ask) (d : ℕ) (v : View) → c < CORES_MAX →
    d < CORES_MAX → d ≢ c →
    is_free stage ≡ true → Stands stage d v → Stands (request_step stage c a).stage d (after_request stage c a rest d v)
request_stands_other stage c a rest d v lc ld other free s =
    record {
      phase = after_other stage c a d s.phase;
      role_is = other_role stage c a d s.phase s.phase lc ld other free s.role_is;
      view_is = other_view stage c a rest d s.phase lc ld other free s.role_is
          ∙ ap (λ (w : View). after_request stage c a rest d w) s.view_is;
    }

pub response_stands_own : (stage : Stage) (c : ℕ) (a : Reply) (rest : List Reply) (v : View) → c < CORES_MAX →
    StageFits stage → v.responses ≡ a ∷ rest →
    Stands stage c v → Stands (response_step stage c a).stage c (after_response stage c a rest c v)
response_stands_own stage c a rest v lc fits asks s =
    let asked : (picture s.phase).responses ≡ a ∷ rest = ap (λ (w : View). w.responses) s.view_is ∙ asks in
    record {
      phase = answered s.phase;
      role_is = responder_role stage c a rest s.phase lc fits asked s.role_is;
      view_is = responder_view stage c a rest s.phase lc fits asked s.role_is
          ∙ ap (λ (w : View). after_response stage c a rest c w) s.view_is;
    }

pub response_stands_other : (stage : Stage) (c : ℕ) (a : Reply) (rest : List Reply) (d : ℕ) (v : View) → c < CORES_MAX →
    d < CORES_MAX → d ≢ c →
    StageFits stage → has_reply_row stage c a ≡ true → Stands stage d v → Stands (response_step stage c a).stage d
    (after_response stage c a rest d v)
response_stands_other stage c a rest d v lc ld other fits has_row s =
    record {
      phase = after_others_response stage c s.phase;
      role_is = others_response_role stage c a d s.phase lc ld other fits has_row s.role_is;
      view_is = others_response_view stage c a rest d s.phase lc ld other fits has_row s.role_is
          ∙ ap (λ (w : View). after_response stage c a rest d w) s.view_is;
    }

pub message_stands : (stage : Stage) (d : ℕ) (m : Signal) (rest : List Signal) (v : View) → v.messages ≡ m ∷ rest →
    Stands stage d v →
    Stands stage d (after_message m rest v)
message_stands stage d m rest v asks s =
    let asked : (picture s.phase).messages ≡ m ∷ rest = ap (λ (w : View). w.messages) s.view_is ∙ asks in
    record {
      phase = received s.phase;
      role_is = message_role s.phase m rest asked ∙ s.role_is;
      view_is = message_view s.phase m rest asked ∙ ap (λ (w : View). after_message m rest w) s.view_is;
    }

pub wish_stands : (stage : Stage) (d : ℕ) (w : Wish) (v : View) → Stands stage d v → Stands stage d (after_wish w v)
wish_stands stage d w v s =
    record {
      phase = wished w s.phase;
      role_is = wish_role s.phase w ∙ s.role_is;
      view_is = wish_view s.phase w ∙ ap (λ (x : View). after_wish w x) s.view_is;
    }

-- a fact at d, from the cases of d
by_core : (P : ℕ → Type 0) (c d : ℕ) → P c → (d ≢ c → P d) → P d
by_core P c d here other = elim (cases_eq d c) [ inl e ↦ subst P (sym e) here | inr n ↦ other n ]

by_free : (b : Block) (c : ℕ) (a : Ask) (rest : List Ask) → c < CORES_MAX → (b.views c).requests ≡ a ∷ rest →
    BlockHolds b → (free : Bool) →
    is_free b.stage ≡ free →
    BlockHolds (if free then record {
      stage = (request_step b.stage c a).stage;
      views =
          λ d. after_request b.stage c a rest d (b.views d);
    } else b)
by_free b c a rest lc is h false e = h
by_free b c a rest lc is h true e =
    let s = h.stands c lc in
    let asked : (picture s.phase).requests ≡ a ∷ rest = ap (λ (w : View). w.requests) s.view_is ∙ is in
    record {
      fits = fits_request b.stage c a rest s.phase lc h.fits e asked s.role_is;
      stands = λ d ld. by_core (λ (x : ℕ). Stands (request_step b.stage c a).stage x (after_request b.stage c a rest x
          (b.views x))) c d
          (request_stands_own b.stage c a rest (b.views c) lc e is s)
          (λ (n : d ≢ c). request_stands_other b.stage c a rest d (b.views d) lc ld n e (h.stands d ld));
    }

pub keeps_request : (b : Block) (c : ℕ) (q : List Ask) → c < CORES_MAX → (b.views c).requests ≡ q → BlockHolds b →
    BlockHolds (request_by q c b)
keeps_request b c [] lc is h = h
keeps_request b c (a ∷ rest) lc is h = by_free b c a rest lc is h (is_free b.stage) refl

pub keeps_response : (b : Block) (c : ℕ) (q : List Reply) → c < CORES_MAX → (b.views c).responses ≡ q → BlockHolds b →
    BlockHolds (response_by q c b)
keeps_response b c [] lc is h = h
keeps_response b c (a ∷ rest) lc is h =
    let s = h.stands c lc in
    let asked : (picture s.phase).responses ≡ a ∷ rest = ap (λ (w : View). w.responses) s.view_is ∙ is in
    let has_row : has_reply_row b.stage c a ≡ true = response_has_row b.stage c a rest s.phase asked s.role_is in
    record {
      fits = fits_response b.stage c a lc h.fits has_row;
      stands = λ d ld. by_core (λ (x : ℕ). Stands (response_step b.stage c a).stage x (after_response b.stage c a rest x
          (b.views x))) c d
          (response_stands_own b.stage c a rest (b.views c) lc h.fits is s)
          (λ (n : d ≢ c). response_stands_other b.stage c a rest d (b.views d) lc ld n h.fits has_row (h.stands d ld));
    }

view_if_keeps : (stage : Stage) (d : ℕ) (here : Bool) (v w : View) → (here ≡ true → Stands stage d v) →
    Stands stage d w → Stands stage d (view_if here v w)
view_if_keeps stage d true v w f g = f refl
view_if_keeps stage d false v w f g = g

pub keeps_message : (b : Block) (c : ℕ) (q : List Signal) → (b.views c).messages ≡ q → BlockHolds b →
    BlockHolds (message_by q c b)
keeps_message b c [] is h = h
keeps_message b c (m ∷ rest) is h =
    record {
      fits = h.fits;
      stands = λ d ld. view_if_keeps b.stage d (d == c) (after_message m rest (b.views d)) (b.views d)
          (λ (e : (d == c) ≡ true). let same : d
          ≡ c = grind (arith, nat_tests) in message_stands b.stage d m rest (b.views d)
          (ap (λ (x : ℕ). (b.views x).messages) same ∙ is) (h.stands d ld))
          (h.stands d ld);
    }

if_keeps : (here : Bool) (a b : Block) → (here ≡ true → BlockHolds a) → BlockHolds b →
    BlockHolds (if here then a else b)
if_keeps true a b f g = f refl
if_keeps false a b f g = g

pub keeps_wish : (b : Block) (c : ℕ) (w : Wish) → BlockHolds b → BlockHolds (wish_by w c b)
keeps_wish b c w h =
    record {
      fits = h.fits;
      stands = λ d ld. view_if_keeps b.stage d (d == c) (after_wish w (b.views d)) (b.views d)
          (λ (e : (d == c) ≡ true). wish_stands b.stage d w (b.views d) (h.stands d ld)) (h.stands d ld);
    }

keeps_moved : (m : BlockMove) (b : Block) → core_of m < CORES_MAX → BlockHolds b → BlockHolds (moved m b)
keeps_moved (TakesRequest c) b lc h = keeps_request b c (b.views c).requests lc refl h
keeps_moved (TakesResponse c) b lc h = keeps_response b c (b.views c).responses lc refl h
keeps_moved (TakesMessage c) b lc h = keeps_message b c (b.views c).messages refl h
keeps_moved (Wishes c w) b lc h = keeps_wish b c w h

pub keeps_move : (m : BlockMove) (b : Block) → BlockHolds b → BlockHolds (block_move m b)
keeps_move m b h = if_keeps (nat_lt (core_of m) CORES_MAX) (moved m b) b (λ (e : nat_lt (core_of m) CORES_MAX ≡ true).
    keeps_moved m b (ltb-true (core_of m) CORES_MAX e) h) h

pub keeps_run : (ms : List BlockMove) (b : Block) → BlockHolds b → BlockHolds (block_run ms b)
keeps_run [] b h = h
keeps_run (m ∷ ms) b h = keeps_run ms (block_move m b) (keeps_move m b h)

pub start_holds : BlockHolds block_start
start_holds = record { fits = tt; stands = λ d ld. record { phase = Idle; role_is = refl; view_is = refl } }

pub writable_modified : (s : State) → is_writable s ≡ true → s ≡ M
writable_modified s e = grind arith

pub one_writer_holds : (b : Block) → BlockHolds b → OneWriter b
one_writer_holds b h d e ld le other writes =
    let p = h.stands d ld in
    let q = h.stands e le in
    let line : (picture p.phase).line ≡ M = ap (λ (v : View). v.line) p.view_is
    ∙ writable_modified (b.views d).line writes in
    ap (λ (v : View). is_readable v.line) (sym q.view_is) ∙ one_writer b.stage d e p.phase q.phase other p.role_is
    q.role_is line

-- a core that owes has its response or the message that asks for it under way
pub moving_phase : (p : Phase) → owes (role_in p) ≡ true → is_moving (picture p) ≡ true
moving_phase p e = grind arith

pub owing_acks : (awaited : CoreSet) (requester d : ℕ) → has awaited d ≡ true →
    owes (role (Acks awaited requester) d) ≡ true
owing_acks awaited requester d e = grind arith

pub owing_gives : (giver requester : ℕ) (share : Bool) → owes (role (Data giver requester share) giver) ≡ true
owing_gives giver requester share = grind (arith, nat_tests)

pub moving_role : (p : Phase) (v : View) → picture p ≡ v → owes (role_in p) ≡ true → is_moving v ≡ true
moving_role p v is owing = let at : owes (role_in p) ≡ true → is_moving (picture p) ≡ true =
    λ (e : owes (role_in p) ≡ true). moving_phase p e in
    rw (← is) (at owing)

-- where a block is busy, something of it is under way
pub busy_moves : (b : Block) → BlockHolds b → BusyMoves b
busy_moves b h busy = by_stage b.stage refl
  where
    by_stage : (stage : Stage) → b.stage ≡ stage → (d : ℕ) × (d < CORES_MAX) × (is_moving (b.views d) ≡ true)
    by_stage Unshared e = absurd (cc (ap is_free e))
    by_stage (Shared by) e = absurd (cc (ap is_free e))
    by_stage (Owned o) e = absurd (cc (ap is_free e))
    by_stage (Acks awaited requester) e =
        let f : StageFits (Acks awaited requester) = subst StageFits e h.fits in
        let some = has-some awaited f.3 f.2 in
        let s = h.stands some.0 some.1 in (
          some.0,
          some.1,
          moving_role s.phase (b.views some.0) s.view_is (ap owes (s.role_is ∙ ap (λ (x : Stage). role x some.0) e)
              ∙ owing_acks awaited requester some.0 some.2),
        )
    by_stage (Data giver requester share) e =
        let f : StageFits (Data giver requester share) = subst StageFits e h.fits in
        let s = h.stands giver f.2 in (
          giver,
          f.2,
          moving_role s.phase (b.views giver) s.view_is (ap owes (s.role_is ∙ ap (λ (x : Stage). role x giver) e)
              ∙ owing_gives giver requester share),
        )

pub rows_hold : (b : Block) → BlockHolds b → HasRows b
rows_hold b h =
    record {
      request = λ c lc free a rest is.
          let s = h.stands c lc in
          request_has_row b.stage c a rest s.phase free (ap (λ (w : View). w.requests) s.view_is ∙ is) s.role_is;
      response = λ c lc a rest is.
          let s = h.stands c lc in
          response_has_row b.stage c a rest s.phase (ap (λ (w : View). w.responses) s.view_is ∙ is) s.role_is;
      message = λ c lc m rest is.
          let s = h.stands c lc in
          ap (λ (w : View). is_some (row m w.line)) (sym s.view_is)
          ∙ message_row s.phase m rest (ap (λ (w : View). w.messages) s.view_is ∙ is);
    }

pub stage_fits_holds : (stage : Stage) → StageFits stage → IsTrue (stage_fits stage)
stage_fits_holds stage fits = grind (arith, nat_tests)

-- ---- over every list of moves from the start

pub holds_in_runs : (ms : List BlockMove) → BlockHolds (block_run ms block_start)
holds_in_runs ms = keeps_run ms block_start start_holds

pub always : (P : Block → Type 0) → ((b : Block) → BlockHolds b → P b) → Always P
always P holds =
    record { invariant = holds; run = λ moves. holds (block_run moves block_start) (holds_in_runs moves) }
