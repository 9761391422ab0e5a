-- Where a port stands with a block, and what a message under way says of the line that it is for.
use Rattle.std.proofs.Common.{◌≡◌, ◌≢◌, ◌∙◌, ap, refl, sym, ℕ, ◌<◌, ◌≤◌, ◌==◌, ◌%◌, Bool, true, false, List, [], ◌∷◌}
use Rattle.std.proofs.Common.{length, arith, inl, inr}
use Rattle.std.specs.Prelude.{if◌then◌else◌, is_some}
use Rattle.std.proofs.lemmas.List.{get_or_past}
use Rattle.std.proofs.lemmas.Bool.{cases_lt, eq-eqb}
use Rattle.std.proofs.lemmas.Bool.Decides.{nat_tests}
use Rattle.access_times.specs.Riding.{Riding, Carrying}
use Rattle.rtr_types.specs.declared.TheConstants.{CORES_MAX, LINES}
use Rattle.msi_cache.specs.declared.line.Line.{Line}
use Rattle.msi_cache.specs.declared.line.State.TheVariants.{I}
use Rattle.msi_cache.specs.declared.messages.FromHome.{FromHome}
use Rattle.msi_cache.specs.declared.messages.Request.{Request}
use Rattle.msi_cache.specs.declared.messages.Response.{Response}
use Rattle.msi_cache.specs.Table.{Signal, Ask, row, is_transient}
use Rattle.msi_cache.specs.Messages.{signal, ask_of, reply_of, block_of, request_block, response_block}
use Rattle.msi_cache.specs.Lines.{line_for}
use Rattle.msi_directory.specs.declared.entry.Stage.{Stage}
use Rattle.msi_directory.specs.Blocks.{entry_at, no_entry}
use Rattle.msi_protocol.specs.Block.{View, view, has_reply_row}
use Rattle.msi_protocol.specs.Phases.{Phase, picture, role, Out, Stands}
use Rattle.msi_protocol.specs.Promises.{HasRows}
use Rattle.msi_protocol.proofs.Keeps.{rows_hold}
use Rattle.msi_protocol.proofs.Quiet.{idle_out}
use Rattle.msi_memory.specs.declared.port.Mail.{Mail}
use Rattle.msi_memory.specs.declared.port.Port.{Port}
use Rattle.msi_memory.specs.Memories.{Memory, port_at, no_port}
use Rattle.msi_laws.specs.Holds.{MemoryHolds, port_view, block_in}
use Rattle.msi_laws.specs.Sights.{asks_of, replies_of, signals_of, line_state, cons_if}
use Rattle.msi_laws.proofs.KindsShown.{blocks_hold}
use Rattle.msi_laws.proofs.Lines.{transient_there}

-- a core that asks waits
asks_wait : (p : Phase) (a : Ask) (rest : List Ask) → (picture p).requests ≡ a ∷ rest →
    is_transient (picture p).line ≡ true
asks_wait p a rest is = grind arith

-- the line that waits in a view is that block's
pub view_waits : {R : Type 0} (b : ℕ) (l : Line R) → is_transient (line_state b l) ≡ true →
    (l.block ≡ b) × (is_transient l.state ≡ true)
view_waits b l e = by_test (l.block == b) refl e
  where
    by_test : (t : Bool) → (l.block == b) ≡ t → is_transient (if t then l.state else I) ≡ true →
        (l.block ≡ b) × (is_transient l.state ≡ true)
    by_test true is f = (grind (arith, nat_tests), f)
    by_test false is f = absurd (cc)

-- a line that has a row in a view is that block's
row_place : {R : Type 0} (g : Signal) (b : ℕ) (l : Line R) → is_some (row g (line_state b l)) ≡ true →
    (l.block ≡ b) × (is_some (row g l.state) ≡ true)
row_place g b l e = by_test (l.block == b) refl e
  where
    by_test : (t : Bool) → (l.block == b) ≡ t → is_some (row g (if t then l.state else I)) ≡ true →
        (l.block ≡ b) × (is_some (row g l.state) ≡ true)
    by_test true is f = (grind (arith, nat_tests), f)
    by_test false is f = absurd (grind arith)

module _ {R K : Type 0} where
  no_port_view : (riding : Riding R) (carrying : Carrying K) (b : ℕ) → port_view {R = R} {K =
      K} riding b (no_port carrying) ≡ view I [] [] []
  no_port_view riding carrying b = by_test (0 == b)
    where
      by_test : (t : Bool) → view (if t then I else I) [] [] [] ≡ view I [] [] []
      by_test true = refl
      by_test false = refl

  -- where there is no port, nothing is shown
  pub past_view : (riding : Riding R) (carrying : Carrying K) (ports : List (Port R K)) (b d : ℕ) → length ports ≤ d →
      port_view riding b (port_at carrying ports d) ≡ view I [] [] []
  past_view riding carrying ports b d past = ap (port_view riding b) (get_or_past ports d (no_port carrying) past)
      ∙ no_port_view riding carrying b

  -- a core that the home has in some role is there
  pub there : (riding : Riding R) (carrying : Carrying K) (ports : List (Port R K)) (stage : Stage) (b d : ℕ) →
      Stands stage d (port_view riding b (port_at carrying ports d)) → role stage d ≢ Out → d < length ports
  there riding carrying ports stage b d s some =
      elim (cases_lt d (length ports)) [
        | inl within ↦ within
        | inr past ↦ absurd (some (sym s.role_is ∙ idle_out s.phase (s.view_is
            ∙ past_view riding carrying ports b d past)))
      ]

  -- the heads of links, as a block's view shows them
  pub asked_first : (riding : Riding R) (p : Port R K) (mail : Mail (Request R) K) (rest : List (Mail (Request R) K)) →
      p.requests.items ≡ mail ∷ rest →
      (port_view riding (request_block mail.item) p).requests ≡ ask_of mail.item ∷ asks_of (request_block mail.item)
      rest
  asked_first riding p mail rest is =
      let b : ℕ = request_block mail.item in
      ap (asks_of b) is ∙ ap (λ (t : Bool). cons_if t (ask_of mail.item) (asks_of b rest)) (eq-eqb b b refl)

  pub answered_first : (riding : Riding R) (p : Port R K) (mail : Mail (Response R) K)
      (rest : List (Mail (Response R) K)) → p.responses.items ≡ mail ∷ rest →
      (port_view riding (response_block mail.item) p).responses ≡ reply_of mail.item ∷ replies_of
      (response_block mail.item) rest
  answered_first riding p mail rest is =
      let b : ℕ = response_block mail.item in
      ap (replies_of b) is ∙ ap (λ (t : Bool). cons_if t (reply_of mail.item) (replies_of b rest)) (eq-eqb b b refl)

  pub told_first : (riding : Riding R) (p : Port R K) (mail : Mail (FromHome R) K) (rest : List (Mail (FromHome R) K)) →
      p.messages.items ≡ mail ∷ rest →
      (port_view riding (block_of mail.item) p).messages ≡ signal mail.item ∷ signals_of (block_of mail.item) rest
  told_first riding p mail rest is =
      let b : ℕ = block_of mail.item in
      ap (signals_of b) is ∙ ap (λ (t : Bool). cons_if t (signal mail.item) (signals_of b rest)) (eq-eqb b b refl)

  -- the line of a core's request is for that block, and holds or awaits something
  asks_line : (riding : Riding R) (stage : Stage) (c : ℕ) (p : Port R K) (mail : Mail (Request R) K)
      (rest : List (Mail (Request R) K)) →
      p.requests.items ≡ mail ∷ rest → Stands stage c (port_view riding (request_block mail.item) p) →
      ((line_for riding.fresh p.cache (request_block mail.item)).block ≡ request_block mail.item)
      × ((line_for riding.fresh p.cache (request_block mail.item)).state ≢ I)
  asks_line riding stage c p mail rest is s =
      let b : ℕ = request_block mail.item in
      let asked : (picture s.phase).requests ≡ ask_of mail.item ∷ asks_of b rest =
      ap (λ (w : View). w.requests) s.view_is ∙ asked_first riding p mail rest is in
      let waits : is_transient (port_view riding b p).line ≡ true =
      ap (λ (w : View). is_transient w.line) (sym s.view_is) ∙ asks_wait s.phase (ask_of mail.item) (asks_of b rest)
      asked in
      let at = view_waits b (line_for riding.fresh p.cache b) waits in
      (at.0, transient_there (line_for riding.fresh p.cache b).state at.1)

  pub core_below : (riding : Riding R) (carrying : Carrying K) (m : Memory R K) (c : ℕ) →
      MemoryHolds riding carrying m → c < length m.ports → c < CORES_MAX
  core_below riding carrying m c h lc = let few : length m.ports ≤ CORES_MAX = h.cores in omega arith

  -- where a core that is there is with the block
  pub stands_at : (riding : Riding R) (carrying : Carrying K) (m : Memory R K) (d b : ℕ) → d < length m.ports →
      MemoryHolds riding carrying m →
      Stands (entry_at riding.fresh m.home b).stage d (port_view riding b (port_at carrying m.ports d))
  stands_at riding carrying m d b ld h = (blocks_hold riding carrying m h b).stands d (core_below riding carrying m d h
      ld)

  -- what each receiver takes next of a block has a row
  pub rows_of : (riding : Riding R) (carrying : Carrying K) (m : Memory R K) (b : ℕ) → MemoryHolds riding carrying m →
      HasRows (block_in riding carrying m b)
  rows_of riding carrying m b h = rows_hold (block_in riding carrying m b) (blocks_hold riding carrying m h b)

  -- the block of a request under way is one of the home's
  pub request_within : (riding : Riding R) (carrying : Carrying K) (m : Memory R K) (c : ℕ) (mail : Mail (Request R) K)
      (rest : List (Mail (Request R) K)) →
      MemoryHolds riding carrying m → c < length m.ports → (port_at carrying m.ports c).requests.items ≡ mail ∷ rest →
      request_block mail.item < length m.home
  request_within riding carrying m c mail rest h lc is =
      let b : ℕ = request_block mail.item in
      let at = asks_line riding (entry_at riding.fresh m.home b).stage c (port_at carrying m.ports c) mail rest is
      (stands_at riding carrying m c b lc h) in
      rw (← at.0) (((h.ports c lc).lines (b % LINES)).within at.1)

  -- the home has a row for the response
  pub response_asked : (riding : Riding R) (carrying : Carrying K) (m : Memory R K) (c : ℕ) (mail : Mail (Response R) K)
      (rest : List (Mail (Response R) K)) →
      MemoryHolds riding carrying m → c < length m.ports → (port_at carrying m.ports c).responses.items ≡ mail ∷ rest →
      has_reply_row (entry_at riding.fresh m.home (response_block mail.item)).stage c (reply_of mail.item) ≡ true
  response_asked riding carrying m c mail rest h lc is =
      let b : ℕ = response_block mail.item in
      (rows_of riding carrying m b h).response c (core_below riding carrying m c h lc) (reply_of mail.item)
      (replies_of b rest)
      (answered_first riding (port_at carrying m.ports c) mail rest is)

  -- a response is about a block that the home has
  pub response_within : (riding : Riding R) (carrying : Carrying K) (m : Memory R K) (c : ℕ)
      (mail : Mail (Response R) K) (rest : List (Mail (Response R) K)) →
      MemoryHolds riding carrying m → c < length m.ports → (port_at carrying m.ports c).responses.items ≡ mail ∷ rest →
      response_block mail.item < length m.home
  response_within riding carrying m c mail rest h lc is =
      elim (cases_lt (response_block mail.item) (length m.home)) [
        | inl within ↦ within
        | inr past ↦ absurd (let asked : has_reply_row (entry_at riding.fresh m.home (response_block mail.item)).stage c
            (reply_of mail.item) ≡ true =
            response_asked riding carrying m c mail rest h lc is in
            let none : entry_at riding.fresh m.home (response_block mail.item)
            ≡ no_entry riding.fresh = get_or_past m.home (response_block mail.item) (no_entry riding.fresh) past in
            cc (rw none at asked))
      ]

  -- the line of the message at the head is that block's, and has a row for it
  pub record HasRow (riding : Riding R) (p : Port R K) (m : FromHome R) : Type 0 where
    pub at : (line_for riding.fresh p.cache (block_of m)).block ≡ block_of m
    pub there : is_some (row (signal m) (line_for riding.fresh p.cache (block_of m)).state) ≡ true

  pub message_row : (riding : Riding R) (carrying : Carrying K) (m : Memory R K) (c : ℕ) (mail : Mail (FromHome R) K)
      (rest : List (Mail (FromHome R) K)) →
      c < length m.ports → (port_at carrying m.ports c).messages.items ≡ mail ∷ rest → MemoryHolds riding carrying m →
      HasRow riding (port_at carrying m.ports c) mail.item
  message_row riding carrying m c mail rest lc is h =
      let b : ℕ = block_of mail.item in
      let p : Port R K = port_at carrying m.ports c in
      let seen = (rows_of riding carrying m b h).message c (core_below riding carrying m c h lc) (signal mail.item)
      (signals_of b rest)
      (told_first riding p mail rest is) in
      let found = row_place (signal mail.item) b (line_for riding.fresh p.cache b) seen in
      record { at = found.0; there = found.1 }
