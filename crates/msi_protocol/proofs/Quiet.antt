-- What else follows where each core is where the home takes it to be.
use Rattle.std.proofs.Common.{◌≡◌, ◌≢◌, ◌∙◌, ap, refl, sym, subst, ℕ, ◌<◌, ◌≤◌, ◌==◌, Bool, true, false, nat_lt, List}
use Rattle.std.proofs.Common.{[], ◌∷◌, length, arith}
use Rattle.std.specs.Prelude.{if◌then◌else◌}
use Rattle.std.proofs.lemmas.Bool.Decides.{nat_tests}
use Rattle.std.proofs.lemmas.Bool.{ltb-true, and_parts}
use Rattle.rtr_types.specs.declared.TheConstants.{CORES_MAX}
use Rattle.msi_cache.specs.declared.line.State.TheVariants.{I}
use Rattle.msi_cache.specs.Table.{Signal, Ask, Reply, is_transient}
use Rattle.msi_directory.specs.declared.entry.Stage.{Stage}
use Rattle.msi_directory.specs.Table.{is_free}
use Rattle.msi_protocol.specs.Block.{View, view, Block, BlockMove, TakesRequest, TakesResponse, TakesMessage, Wishes}
use Rattle.msi_protocol.specs.Block.{Wish, after_request, after_response}
use Rattle.msi_protocol.specs.Block.{core_of, moved, block_move, block_run, block_start, request_by, response_by}
use Rattle.msi_protocol.specs.Block.{message_by, wish_by}
use Rattle.msi_protocol.specs.Phases.{Phase, Idle, Out, role, role_in, picture, BlockHolds}
use Rattle.msi_protocol.specs.NextPhases.{after_other, after_others_response}
use Rattle.msi_protocol.specs.Promises.{NoneForgotten, is_served, FewUnderWay, IsFew, is_quiet, is_moving, settled}
use Rattle.msi_protocol.specs.Promises.{QuietAgrees, moves_below, OnlyBelow}
use Rattle.msi_protocol.proofs.Keeps.{busy_moves, keeps_move, start_holds, other_view}
use Rattle.msi_protocol.proofs.Keeps.{others_response_view, response_has_row}

-- ---- a core that waits

served_phase : (p : Phase) (stage : Stage) (d : ℕ) → is_free stage ≡ true → role_in p ≡ role stage d →
    is_transient (picture p).line ≡ true →
    is_served (picture p) ≡ true
served_phase p stage d free is waits = grind (arith, nat_tests)

pub none_forgotten : (b : Block) → BlockHolds b → NoneForgotten b
none_forgotten b h free d ld waits =
    let s = h.stands d ld in
    ap is_served (sym s.view_is) ∙ served_phase s.phase b.stage d free s.role_is (ap (λ (v : View). is_transient v.line)
    s.view_is ∙ waits)

-- ---- few under way

pub few_requests : (p : Phase) → length (picture p).requests ≤ 1
few_requests p = grind arith

pub few_responses : (p : Phase) → length (picture p).responses ≤ 1
few_responses p = grind arith

few_messages : (p : Phase) → length (picture p).messages ≤ 2
few_messages p = grind arith

pub few_under_way : (b : Block) → BlockHolds b → FewUnderWay b
few_under_way b h d ld =
    let s = h.stands d ld in
    subst IsFew s.view_is (record {
      requests = few_requests s.phase;
      responses = few_responses s.phase;
      messages =
          few_messages s.phase;
    })

-- ---- nothing under way

settled_phase : (p : Phase) (stage : Stage) (d : ℕ) → is_free stage ≡ true → role_in p ≡ role stage d →
    is_quiet (picture p) ≡ true →
    (picture p).line ≡ settled (role_in p)
settled_phase p stage d free is quiet = grind (arith, nat_tests)

quiet_is_still : (v : View) → is_quiet v ≡ true → is_moving v ≡ false
quiet_is_still v quiet = grind arith

quiet_is_free : (b : Block) (free : Bool) → BlockHolds b → ((d : ℕ) → d < CORES_MAX → is_quiet (b.views d) ≡ true) →
    is_free b.stage ≡ free → free ≡ true
quiet_is_free b true h quiet e = refl
quiet_is_free b false h quiet e =
    let some = busy_moves b h e in
    let moves = some.2 in
    let still = quiet_is_still (b.views some.0) (quiet some.0 some.1) in
    cc

pub quiet_agrees : (b : Block) → BlockHolds b → QuietAgrees b
quiet_agrees b h quiet =
    let free : is_free b.stage ≡ true = quiet_is_free b (is_free b.stage) h quiet refl in
    record {
      free = free;
      lines = λ d ld.
          let s = h.stands d ld in
          ap (λ (v : View). v.line) (sym s.view_is) ∙ settled_phase s.phase b.stage d free s.role_is
          (ap is_quiet s.view_is ∙ quiet d ld)
          ∙ ap settled s.role_is;
    }

-- ---- fewer cores

pub idle_out : (p : Phase) → picture p ≡ view I [] [] [] → role_in p ≡ Out
idle_out p is = grind arith

idle_stays : (stage : Stage) (c : ℕ) (a : Ask) (d : ℕ) → after_other stage c a d Idle ≡ Idle
idle_stays stage c a d = grind arith

idle_stays_too : (stage : Stage) (c : ℕ) → after_others_response stage c Idle ≡ Idle
idle_stays_too stage c = grind arith

-- the home takes a core with nothing of the block for out
stands_out : (b : Block) (d : ℕ) → BlockHolds b → d < CORES_MAX → b.views d ≡ view I [] [] [] →
    role_in Idle ≡ role b.stage d
stands_out b d h ld is = let s = h.stands d ld in sym (idle_out s.phase (s.view_is ∙ is)) ∙ s.role_is

out_request : (b : Block) (q : List Ask) (c d : ℕ) → BlockHolds b → c < CORES_MAX → d < CORES_MAX → d ≢ c →
    b.views d ≡ view I [] [] [] →
    (request_by q c b).views d ≡ view I [] [] []
out_request b [] c d h lc ld other is = is
out_request b (a ∷ rest) c d h lc ld other is = by_stage (is_free b.stage) refl
  where
    by_stage : (free : Bool) → is_free b.stage ≡ free → (request_by (a ∷ rest) c b).views d ≡ view I [] [] []
    by_stage false e = rw e is
    by_stage true e =
        let to : after_request b.stage c a rest d (picture Idle) ≡ view I [] [] [] =
        sym (other_view b.stage c a rest d Idle lc ld other e (stands_out b d h ld is))
        ∙ ap picture (idle_stays b.stage c a d) in
        rw e (ap (λ (v : View). after_request b.stage c a rest d v) is ∙ to)

out_response : (b : Block) (q : List Reply) (c d : ℕ) → (b.views c).responses ≡ q → BlockHolds b → c < CORES_MAX →
    d < CORES_MAX → d ≢ c →
    b.views d ≡ view I [] [] [] → (response_by q c b).views d ≡ view I [] [] []
out_response b [] c d its h lc ld other is = is
out_response b (a ∷ rest) c d its h lc ld other is =
    let s = h.stands c lc in
    let has_row = response_has_row b.stage c a rest s.phase (ap (λ (w : View). w.responses) s.view_is
    ∙ its) s.role_is in
    ap (λ (v : View). after_response b.stage c a rest d v) is
    ∙ sym (others_response_view b.stage c a rest d Idle lc ld other h.fits has_row (stands_out b d h ld is))
    ∙ ap picture (idle_stays_too b.stage c)

other_test : (c d : ℕ) → d ≢ c → (d == c) ≡ false
other_test c d other = grind (arith, nat_tests)

out_message : (b : Block) (q : List Signal) (c d : ℕ) → d ≢ c → (message_by q c b).views d ≡ b.views d
out_message b [] c d other = refl
out_message b (m ∷ rest) c d other = rw (other_test c d other)

out_wish : (b : Block) (w : Wish) (c d : ℕ) → d ≢ c → (wish_by w c b).views d ≡ b.views d
out_wish b w c d other = rw (other_test c d other)

out_moved : (m : BlockMove) (b : Block) (d : ℕ) → BlockHolds b → core_of m < CORES_MAX → d < CORES_MAX → d ≢ core_of m →
    b.views d ≡ view I [] [] [] →
    (moved m b).views d ≡ view I [] [] []
out_moved (TakesRequest c) b d h lc ld other is = out_request b (b.views c).requests c d h lc ld other is
out_moved (TakesResponse c) b d h lc ld other is = out_response b (b.views c).responses c d refl h lc ld other is
out_moved (TakesMessage c) b d h lc ld other is = out_message b (b.views c).messages c d other ∙ is
out_moved (Wishes c w) b d h lc ld other is = out_wish b w c d other ∙ is

out_move : (m : BlockMove) (b : Block) (d : ℕ) → BlockHolds b → d < CORES_MAX → d ≢ core_of m →
    b.views d ≡ view I [] [] [] → (block_move m b).views d
    ≡ view I [] [] []
out_move m b d h ld other is = by_core (nat_lt (core_of m) CORES_MAX) refl
  where
    by_core : (here : Bool) → nat_lt (core_of m) CORES_MAX ≡ here →
        (if here then moved m b else b).views d ≡ view I [] [] []
    by_core true e = out_moved m b d h (ltb-true (core_of m) CORES_MAX e) ld other is
    by_core false e = is

apart : (cores c d : ℕ) → nat_lt c cores ≡ true → cores ≤ d → d ≢ c
apart cores c d e above = grind (arith, nat_tests)

only_below_run : (cores : ℕ) (ms : List BlockMove) (b : Block) → BlockHolds b → moves_below cores ms ≡ true →
    OnlyBelow cores b →
    OnlyBelow cores (block_run ms b)
only_below_run cores [] b h below only = only
only_below_run cores (m ∷ ms) b h below only =
    let mine : nat_lt (core_of m) cores ≡ true =
    (and_parts (nat_lt (core_of m) cores) (moves_below cores ms) below).0 in
    only_below_run cores ms (block_move m b) (keeps_move m b h) (and_parts (nat_lt (core_of m) cores)
    (moves_below cores ms) below).1
    (λ d above ld. out_move m b d h ld (apart cores (core_of m) d mine above) (only d above ld))

pub only_below_in_runs : (cores : ℕ) (ms : List BlockMove) → moves_below cores ms ≡ true →
    OnlyBelow cores (block_run ms block_start)
only_below_in_runs cores ms below = only_below_run cores ms block_start start_holds below (λ d above ld. refl)
