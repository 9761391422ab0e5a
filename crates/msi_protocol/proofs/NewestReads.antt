-- No move of the block loses the newest read of a core.
use Rattle.std.proofs.Common.{◌≡◌, ◌≢◌, ◌∙◌, ◌⊎◌, inl, inr, ap, refl, sym, subst, ℕ, ◌<◌, ◌≤◌, ◌==◌, Bool, true, false}
use Rattle.std.proofs.Common.{List, ◌∷◌, arith}
use Rattle.rtr_types.specs.declared.TheConstants.{CORES_MAX}
use Rattle.std.proofs.lemmas.Bool.{cases_eq}
use Rattle.std.proofs.lemmas.Bool.Decides.{nat_tests}
use Rattle.msi_directory.specs.declared.entry.Stage.{Stage}
use Rattle.msi_directory.specs.declared.entry.Stage.TheVariants.{Unshared, Shared, Owned, Acks, Data}
use Rattle.msi_directory.specs.Table.{is_free}
use Rattle.msi_cache.specs.Table.{Signal, Ask, Reply}
use Rattle.msi_protocol.specs.Block.{Wish, request_step}
use Rattle.msi_protocol.specs.Phases.{role, role_in, picture, StageFits}
use Rattle.msi_protocol.specs.Counting.{home_counts}
use Rattle.msi_protocol.specs.Seats.{Seat, seat_received, seat_wished, home_requested, seat_own, seat_other}
use Rattle.msi_protocol.specs.Seats.{home_responded, seat_answered, seat_others}
use Rattle.msi_protocol.specs.Seats.{main_of}
use Rattle.msi_protocol.specs.Seats.{main_at, own_count, FoundIn, FullBlock, seat_if, main, requested, responded}
use Rattle.msi_protocol.specs.Seats.{messaged, wishing, PhasesFit, HoldersHave}
use Rattle.msi_protocol.specs.Seats.{Found}
use Rattle.msi_protocol.specs.Seats.{is_main}
use Rattle.msi_protocol.proofs.Newest.{Grows, message_main, message_own_main, message_own_other, wish_main, wish_own}
use Rattle.msi_protocol.proofs.Newest.{request_main_home, request_main_owned}
use Rattle.msi_protocol.proofs.Newest.{request_own_mine, request_own_other, response_main_acks, response_main_awaits}
use Rattle.msi_protocol.proofs.Newest.{response_stage, response_own_mine}
use Rattle.msi_protocol.proofs.Newest.{response_own_other}

-- neither the main copy nor the core's own loses, but that the main copy may take from the own
pub found_in : {X : Type 0} (r : X → ℕ) (n : ℕ) (m k : X) (s t : Seat X) → r m ≤ r k →
    (own_count r s ≤ own_count r t) ⊎ (own_count r s ≤ r k) →
    FoundIn r n m s → FoundIn r n k t
found_in r n m k s t up (inl own) f lt = let le = f (omega arith) in omega arith
found_in r n m k s t up (inr own) f lt = let le = f (omega arith) in omega arith

-- the seat after a choice by core
pub at_core : {X : Type 0} (Q : Seat X → Type 0) (c d : ℕ) (s t : Seat X) → (d ≡ c → Q s) → (d ≢ c → Q t) →
    Q (seat_if (d == c) s t)
at_core Q c d s t here there = elim (cases_eq d c) [
  | inl e ↦ let f : (d == c) ≡ true = grind (arith, nat_tests) in rw f (here e)
  | inr n ↦ let f : (d == c) ≡ false = grind (arith, nat_tests) in rw f (there n)
]

main_home : {X : Type 0} (stage : Stage) (home : X) (seats : ℕ → Seat X) → home_counts stage ≡ true →
    main_at stage home seats ≡ home
main_home stage home seats e = grind arith

-- ---- a request

main_request : {X : Type 0} (P : X → Type 0) (absorbed : X → X → X) (r : X → ℕ) → Grows P absorbed r →
    (stage : Stage) (c : ℕ) (a : Ask) (rest : List Ask) (home : X) (seats : ℕ → Seat X) → c < CORES_MAX →
    is_free stage ≡ true →
    (picture (seats c).phase).requests ≡ a ∷ rest → PhasesFit (record { stage = stage; home = home; seats = seats }) →
    HoldersHave P (record { stage = stage; home = home; seats = seats })
    → r (main_at stage home seats) ≤ r (main (requested absorbed c a (record {
      stage = stage;
      home = home;
      seats =
          seats;
    })))
main_request P absorbed r g Unshared c a rest home seats lc free asks st h =
    let q = h.seats c lc in request_main_home P absorbed r g.left Unshared c a rest home seats free asks (st.roles c lc)
    refl (h.home refl) q.line q.put
main_request P absorbed r g (Shared by) c a rest home seats lc free asks st h =
    let q = h.seats c lc in request_main_home P absorbed r g.left (Shared by) c a rest home seats free asks
    (st.roles c lc) refl (h.home refl) q.line q.put
main_request P absorbed r g (Owned o) c a rest home seats lc free asks st h =
    let e = ap r (request_main_owned absorbed o c a rest home seats asks (st.roles c lc) (st.roles o st.fits)
    (h.seats c lc).put) in
    omega arith
main_request P absorbed r g (Acks owing q) c a rest home seats lc free asks st h = absurd cc
main_request P absorbed r g (Data owing q s) c a rest home seats lc free asks st h = absurd cc

pub found_request : {X : Type 0} (P : X → Type 0) (absorbed : X → X → X) (r : X → ℕ) → Grows P absorbed r →
    (n d c : ℕ) (a : Ask) (rest : List Ask) (b : FullBlock X) → c < CORES_MAX → d < CORES_MAX → is_free b.stage ≡ true →
    (picture (b.seats c).phase).requests
    ≡ a ∷ rest → PhasesFit b → HoldersHave P b → Found r n d b → Found r n d (requested absorbed c a b)
found_request {X} P absorbed r g n d c a rest b lc ld free asks st h f =
    found_in r n (main b) after (b.seats d) ((requested absorbed c a b).seats d) (main_request P absorbed r g b.stage c
    a rest b.home b.seats lc free asks st h)
    (at_core (λ (t : Seat X). (own_count r (b.seats d) ≤ own_count r t) ⊎ (own_count r (b.seats d) ≤ r after)) c d
    (seat_own b.stage c home (b.seats d))
    (seat_other b.stage c a d (b.seats d)) mine other) f
  where
    home : X
    home = home_requested absorbed b.stage c a (b.seats c).put b.home

    after : X
    after = main (requested absorbed c a b)

    at_home : (own_count r (b.seats c) ≤ own_count r (seat_own b.stage c home (b.seats c)))
        ⊎ ((home_counts (request_step b.stage c a).stage ≡ true) × (own_count r (b.seats c) ≤ r home)) →
        (own_count r (b.seats c) ≤ own_count r (seat_own b.stage c home (b.seats c))) ⊎ (own_count r (b.seats c) ≤ r
        after)
    at_home (inl e) = inl e
    at_home (inr e) = inr (let k = ap r (main_home (request_step b.stage c a).stage home
        (requested absorbed c a b).seats e.0) in rw k e.1)

    mine : d ≡ c → (own_count r (b.seats d) ≤ own_count r (seat_own b.stage c home (b.seats d)))
        ⊎ (own_count r (b.seats d) ≤ r after)
    mine e = subst (λ (x : ℕ). (own_count r (b.seats x) ≤ own_count r (seat_own b.stage c home (b.seats x)))
        ⊎ (own_count r (b.seats x) ≤ r after)) (sym e)
        (at_home (request_own_mine P absorbed r g.right b.stage c a rest b.home (b.seats c) free asks (st.roles c lc)
        h.home (h.seats c lc)))

    other : d ≢ c → (own_count r (b.seats d) ≤ own_count r (seat_other b.stage c a d (b.seats d)))
        ⊎ (own_count r (b.seats d) ≤ r after)
    other e = inl (request_own_other r b.stage c a d (b.seats d))

-- ---- a response

replied_awaits : {X : Type 0} (absorbed : X → X → X) (r : X → ℕ) (owing q : ℕ) (share : Bool) (c : ℕ) (a : Reply)
    (rest : List Reply) (home : X) (seats : ℕ → Seat X) → (picture (seats c).phase).responses ≡ a ∷ rest →
    role_in (seats c).phase ≡ role (Data owing q share) c → owing ≢ q →
    role_in (seats q).phase ≡ role (Data owing q share) q
    → r (seats c).reply ≤ r (main (responded absorbed c a (record {
      stage = Data owing q share;
      home = home;
      seats =
          seats;
    })))
replied_awaits absorbed r owing q share c a rest home seats asks is other waits = grind (arith, nat_tests)

-- once the home took a response, the main copy has no less than it had, and no less than the response
record MainAnswered {X : Type 0} (absorbed : X → X → X) (r : X → ℕ) (c : ℕ) (a : Reply) (b : FullBlock X) : Type 0 where
  kept : r (main b) ≤ r (main (responded absorbed c a b))
  replied : r (b.seats c).reply ≤ r (main (responded absorbed c a b))

main_response : {X : Type 0} (P : X → Type 0) (absorbed : X → X → X) (r : X → ℕ) → Grows P absorbed r →
    (stage : Stage) (c : ℕ) (a : Reply) (rest : List Reply) (home : X) (seats : ℕ → Seat X) → c < CORES_MAX →
    (picture (seats c).phase).responses ≡ a ∷ rest →
    PhasesFit (record { stage = stage; home = home; seats = seats }) → HoldersHave P (record {
      stage = stage;
      home =
          home;
      seats = seats;
    })
    → MainAnswered absorbed r c a (record { stage = stage; home = home; seats = seats })
main_response {X} P absorbed r g (Acks owing q) c a rest home seats lc asks st h =
    let e = ap r (response_main_acks absorbed owing q c a rest home seats asks (st.roles c lc) st.fits.0
    (st.roles q st.fits.1)) in
    let replied : P (seats c).reply = (h.seats c lc).reply (rw asks refl) in
    let kept = g.left home (seats c).reply (h.home refl) replied in
    let absorbs = g.right home (seats c).reply (h.home refl) replied in
    record { kept = omega arith; replied = omega arith }
main_response P absorbed r g (Data owing q s) c a rest home seats lc asks st h =
    let e = ap r (response_main_awaits absorbed owing q s c a rest home seats asks (st.roles c lc) st.fits.0
    (st.roles q st.fits.1)) in
    record {
      kept = omega arith;
      replied = replied_awaits absorbed r owing q s c a rest home seats asks (st.roles c lc) st.fits.0
          (st.roles q st.fits.1);
    }
main_response P absorbed r g Unshared c a rest home seats lc asks st h = let e =
    response_stage Unshared c a rest (seats c).phase asks (st.roles c lc) in
    absurd cc
main_response P absorbed r g (Shared by) c a rest home seats lc asks st h = let e =
    response_stage (Shared by) c a rest (seats c).phase asks (st.roles c lc) in
    absurd cc
main_response P absorbed r g (Owned o) c a rest home seats lc asks st h = let e =
    response_stage (Owned o) c a rest (seats c).phase asks (st.roles c lc) in
    absurd cc

pub found_response : {X : Type 0} (P : X → Type 0) (absorbed : X → X → X) (r : X → ℕ) → Grows P absorbed r →
    (n d c : ℕ) (a : Reply) (rest : List Reply) (b : FullBlock X) → c < CORES_MAX → d < CORES_MAX →
    (picture (b.seats c).phase).responses ≡ a ∷ rest →
    PhasesFit b → HoldersHave P b → Found r n d b → Found r n d (responded absorbed c a b)
found_response {X} P absorbed r g n d c a rest b lc ld asks st h f =
    found_in r n (main b) after (b.seats d) ((responded absorbed c a b).seats d) answered.kept
    (at_core (λ (t : Seat X). (own_count r (b.seats d) ≤ own_count r t) ⊎ (own_count r (b.seats d) ≤ r after)) c d
    (seat_answered (b.seats d))
    (seat_others b.stage c home (b.seats d)) mine other) f
  where
    home : X
    home = home_responded absorbed b.stage (b.seats c).reply b.home

    after : X
    after = main (responded absorbed c a b)

    answered : MainAnswered absorbed r c a b
    answered = main_response P absorbed r g b.stage c a rest b.home b.seats lc asks st h

    at_home : (own_count r (b.seats c) ≤ own_count r (seat_answered (b.seats c))) ⊎ (own_count r (b.seats c) ≤ r
        (b.seats c).reply) →
        (own_count r (b.seats c) ≤ own_count r (seat_answered (b.seats c))) ⊎ (own_count r (b.seats c) ≤ r after)
    at_home (inl e) = inl e
    at_home (inr e) = inr (let k = answered.replied in omega arith)

    mine : d ≡ c → (own_count r (b.seats d) ≤ own_count r (seat_answered (b.seats d))) ⊎ (own_count r (b.seats d) ≤ r
        after)
    mine e = subst (λ (x : ℕ). (own_count r (b.seats x) ≤ own_count r (seat_answered (b.seats x)))
        ⊎ (own_count r (b.seats x) ≤ r after)) (sym e)
        (at_home (response_own_mine r (b.seats c) refl))

    other : d ≢ c → (own_count r (b.seats d) ≤ own_count r (seat_others b.stage c home (b.seats d)))
        ⊎ (own_count r (b.seats d) ≤ r after)
    other e = inl (response_own_other r b.stage c home (b.seats d))

-- ---- a message

-- the core whose copy is the main one
main_seat : {X : Type 0} (absorbed : X → X → X) (r : X → ℕ) → (stage : Stage) (c : ℕ) (home : X) (seats : ℕ → Seat X) →
    ((o : ℕ) → is_main (role stage o) ≡ true →
    r (main_of (seats o)) ≤ r (main_of (seat_if (o == c) (seat_received absorbed (seats o)) (seats o))))
    → r (main_at stage home seats) ≤ r (main_at stage home (λ d. seat_if (d == c) (seat_received absorbed (seats d))
    (seats d)))
main_seat absorbed r Unshared c home seats each = omega arith
main_seat absorbed r (Shared by) c home seats each = omega arith
main_seat absorbed r (Acks owing q) c home seats each = omega arith
main_seat absorbed r (Owned o) c home seats each = each o (grind (arith, nat_tests))
main_seat absorbed r (Data owing q s) c home seats each = each owing (grind (arith, nat_tests))

pub main_core : {X : Type 0} (stage : Stage) (c : ℕ) (home : X) (seats : ℕ → Seat X) → is_main (role stage c) ≡ true →
    main_at stage home seats
    ≡ main_of (seats c)
main_core stage c home seats e = grind (arith, nat_tests)

pub main_below : (stage : Stage) (o : ℕ) → StageFits stage → is_main (role stage o) ≡ true → o < CORES_MAX
main_below stage o fits e = grind (arith, nat_tests)

pub found_message : {X : Type 0} (P : X → Type 0) (absorbed : X → X → X) (rank : X → ℕ) → Grows P absorbed rank →
    (count d c : ℕ) (signal : Signal) (rest : List Signal) (block : FullBlock X) → c < CORES_MAX → d < CORES_MAX →
    (picture (block.seats c).phase).messages ≡ signal ∷ rest →
    PhasesFit block → HoldersHave P block → Found rank count d block → Found rank count d (messaged absorbed c block)
found_message {X} P absorbed rank grows count d c signal rest block lc ld asks phases holders found =
    found_in rank count (main block) after (block.seats d) ((messaged absorbed c block).seats d)
    (main_seat absorbed rank block.stage c block.home
    block.seats each)
    (at_core (λ (t : Seat X). (own_count rank (block.seats d) ≤ own_count rank t)
    ⊎ (own_count rank (block.seats d) ≤ rank after)) c d
    (seat_received absorbed (block.seats d))
    (block.seats d) mine (λ (e : d ≢ c). inl (omega arith))) found
  where
    after : X
    after = main (messaged absorbed c block)

    each : (o : ℕ) → is_main (role block.stage o) ≡ true →
        rank (main_of (block.seats o))
        ≤ rank (main_of (seat_if (o == c) (seat_received absorbed (block.seats o)) (block.seats o)))
    each o is = at_core (λ (t : Seat X). rank (main_of (block.seats o)) ≤ rank (main_of t)) c o
        (seat_received absorbed (block.seats o)) (block.seats o)
        (λ (e : o ≡ c). let lo = main_below block.stage o phases.fits is in let q = holders.seats o lo in let s =
        block.seats o in
        message_main P absorbed rank grows.left s.phase s.line s.sent s.reply q.line q.sent
        (ap is_main (phases.roles o lo) ∙ is))
        (λ (e : o ≢ c). omega arith)

    here : Seat X
    here = block.seats c

    at_c : (is : Bool) → is_main (role_in here.phase) ≡ is →
        (own_count rank here ≤ own_count rank (seat_received absorbed here)) ⊎ (own_count rank here ≤ rank after)
    at_c false e = inl (message_own_other absorbed rank here.phase here.line here.sent here.reply e)
    at_c true e =
        let q = holders.seats c lc in
        let le = message_own_main P absorbed rank grows.right here.phase signal rest here.line here.sent here.reply asks
        q.line
        q.sent e in
        let same : (c == c) ≡ true = grind (arith, nat_tests) in
        let k : main (messaged absorbed c block) ≡ main_of (seat_if (c == c) (seat_received absorbed here) here) =
        main_core block.stage c block.home (messaged absorbed c block).seats
        (ap is_main (sym (phases.roles c lc)) ∙ e) in
        let k' : main (messaged absorbed c block) ≡ main_of (seat_received absorbed here) =
        k ∙ ap (λ (t : Bool). main_of (seat_if t (seat_received absorbed here) here)) same in
        inr (rw k' le)

    mine : d ≡ c → (own_count rank (block.seats d) ≤ own_count rank (seat_received absorbed (block.seats d)))
        ⊎ (own_count rank (block.seats d) ≤ rank after)
    mine e = subst (λ (x : ℕ).
        (own_count rank (block.seats x) ≤ own_count rank (seat_received absorbed (block.seats x)))
        ⊎ (own_count rank (block.seats x) ≤ rank after)) (sym e)
        (at_c (is_main (role_in here.phase)) refl)

-- ---- a wish

main_wished : {X : Type 0} (w : Wish) (stage : Stage) (c : ℕ) (home : X) (seats : ℕ → Seat X) →
    ((o : ℕ) → main_of (seat_if (o == c) (seat_wished w (seats o)) (seats o)) ≡ main_of (seats o)) →
    main_at stage home (λ d. seat_if (d == c) (seat_wished w (seats d)) (seats d)) ≡ main_at stage home seats
main_wished w Unshared c home seats each = refl
main_wished w (Shared by) c home seats each = refl
main_wished w (Acks owing q) c home seats each = refl
main_wished w (Owned o) c home seats each = each o
main_wished w (Data owing q s) c home seats each = each owing

pub found_wish : {X : Type 0} (r : X → ℕ) (n d c : ℕ) (w : Wish) (b : FullBlock X) → Found r n d b →
    Found r n d (wishing c w b)
found_wish {X} r n d c w b f =
    let e = ap r (main_wished w b.stage c b.home b.seats
    (λ (o : ℕ). at_core (λ (t : Seat X). main_of t ≡ main_of (b.seats o)) c o (seat_wished w (b.seats o)) (b.seats o)
    (λ (_ : o ≡ c). let s = b.seats o in
    wish_main w s.phase s.line s.sent s.reply) (λ (_ : o ≢ c). refl))) in
    found_in r n (main b) (main (wishing c w b)) (b.seats d) ((wishing c w b).seats d) (omega arith)
    (inl (at_core (λ (t : Seat X). own_count r (b.seats d) ≤ own_count r t) c d (seat_wished w (b.seats d)) (b.seats d)
    (λ (_ : d ≡ c). let s = b.seats d in
    wish_own r w s.phase s.line s.reply) (λ (_ : d ≢ c). omega arith))) f
