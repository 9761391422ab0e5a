-- What a line carries, or the home, whose copy doesn't count doesn't matter to the reads that a block has.
use Rattle.std.proofs.Common.{◌≡◌, ◌∙◌, inl, ap, refl, ℕ, ◌<◌, Bool, true, false, arith}
use Rattle.rtr_types.specs.declared.TheConstants.{CORES_MAX}
use Rattle.std.proofs.lemmas.Bool.Decides.{nat_tests}
use Rattle.msi_directory.specs.declared.entry.Stage.{Stage}
use Rattle.msi_directory.specs.declared.entry.Stage.TheVariants.{Unshared, Shared, Owned, Acks, Data}
use Rattle.msi_protocol.specs.Counting.{home_counts, line_counts}
use Rattle.msi_protocol.specs.Phases.{Phase, role, role_in}
use Rattle.msi_protocol.specs.Seats.{Seat, main_in, main_of, main_at, place, count_at, own_count, FullBlock, PhasesFit}
use Rattle.msi_protocol.specs.Seats.{Found, main, is_main}
use Rattle.msi_protocol.specs.Showing.{rehomed, relined}
use Rattle.msi_protocol.proofs.NewestReads.{main_below, found_in}

main_idle : {X : Type 0} (p : Phase) (x y sent reply : X) → is_main (role_in p) ≡ true → line_counts p ≡ false →
    main_in p x sent reply ≡ main_in p y sent reply
main_idle p x y sent reply is idle = grind arith

place_idle : {X : Type 0} (r : X → ℕ) (p : Phase) (x y reply : X) → line_counts p ≡ false →
    count_at r (place p) x reply ≡ count_at r (place p) y reply
place_idle r p x y reply idle = grind arith

main_relined : {X : Type 0} (stage : Stage) (home : X) (seats : ℕ → Seat X) (lines : ℕ → X) →
    ((o : ℕ) → is_main (role stage o) ≡ true → main_in (seats o).phase (lines o) (seats o).sent
    (seats o).reply ≡ main_of (seats o)) →
    main (relined lines (record { stage = stage; home = home; seats = seats })) ≡ main_at stage home seats
main_relined Unshared home seats lines each = refl
main_relined (Shared by) home seats lines each = refl
main_relined (Acks owing q) home seats lines each = refl
main_relined (Owned o) home seats lines each = each o (grind (arith, nat_tests))
main_relined (Data owing q s) home seats lines each = each owing (grind (arith, nat_tests))

pub found_relined : {X : Type 0} (r : X → ℕ) (n d : ℕ) (b : FullBlock X) (lines : ℕ → X) → d < CORES_MAX →
    ((d : ℕ) → d < CORES_MAX → line_counts (b.seats d).phase ≡ true → lines d ≡ (b.seats d).line) → PhasesFit b →
    Found r n d b →
    Found r n d (relined lines b)
found_relined {X} r n d b lines ld same st f =
    found_in r n (main b) (main (relined lines b)) (b.seats d) ((relined lines b).seats d) (let k = ap r main_same in
    omega arith)
    (inl (let k = own_same (line_counts (b.seats d).phase) refl in omega arith)) f
  where
    own_same : (k : Bool) → line_counts (b.seats d).phase ≡ k →
        own_count r ((relined lines b).seats d) ≡ own_count r (b.seats d)
    own_same false is = let s = b.seats d in place_idle r s.phase (lines d) s.line s.reply is
    own_same true is = let s = b.seats d in ap (λ (x : X). count_at r (place s.phase) x s.reply) (same d ld is)

    by : (o : ℕ) → o < CORES_MAX → is_main (role_in (b.seats o).phase) ≡ true → (k : Bool) →
        line_counts (b.seats o).phase ≡ k →
        main_in (b.seats o).phase (lines o) (b.seats o).sent (b.seats o).reply ≡ main_of (b.seats o)
    by o lo owns false is = let s = b.seats o in main_idle s.phase (lines o) s.line s.sent s.reply owns is
    by o lo owns true is = let s = b.seats o in ap (λ (x : X). main_in s.phase x s.sent s.reply) (same o lo is)

    main_same : main (relined lines b) ≡ main b
    main_same = main_relined b.stage b.home b.seats lines (λ (o : ℕ) (is : is_main (role b.stage o) ≡ true). let lo =
        main_below b.stage o st.fits is in
        by o lo (ap is_main (st.roles o lo) ∙ is) (line_counts (b.seats o).phase) refl)

main_rehomed : {X : Type 0} (stage : Stage) (home other : X) (seats : ℕ → Seat X) →
    (home_counts stage ≡ true → other ≡ home) → main_at stage other seats ≡ main_at stage home seats
main_rehomed Unshared home other seats same = same refl
main_rehomed (Shared by) home other seats same = same refl
main_rehomed (Acks owing q) home other seats same = same refl
main_rehomed (Owned o) home other seats same = refl
main_rehomed (Data owing q s) home other seats same = refl

pub found_rehomed : {X : Type 0} (r : X → ℕ) (n d : ℕ) (b : FullBlock X) (home : X) →
    (home_counts b.stage ≡ true → home ≡ b.home) → Found r n d b → Found r n d (rehomed home b)
found_rehomed r n d b home same f =
    let k = ap r (main_rehomed b.stage b.home home b.seats same) in
    found_in r n (main b) (main (rehomed home b)) (b.seats d) ((rehomed home b).seats d) (omega arith)
    (inl (omega arith)) f
