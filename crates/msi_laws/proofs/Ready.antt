-- What the acts of a memory system rest on is there: names and heads fit, each message that an act takes has a row in
-- its
-- table, and each link has room.
use Rattle.std.proofs.Common.{◌≡◌, ◌≢◌, ◌∙◌, ap, refl, sym, subst, ℕ, ◌<◌, ◌==◌, true, false, not, nat_lt, List, []}
use Rattle.std.proofs.Common.{◌∷◌, length, IsTrue, Bool, ◌&&◌}
use Rattle.std.specs.Prelude.{slice_index_or}
use Rattle.std.proofs.lemmas.List.{get_or_default}
use Rattle.std.proofs.lemmas.Bool.Decides.{nat_tests}
use Rattle.std.proofs.lemmas.Bool.{eq-eqb, lt-ltb, and_from}
use Rattle.std.proofs.Common.{arith}
use Rattle.access_times.specs.Riding.{Riding, Carrying}
use Rattle.rtr_types.specs.declared.TheConstants.{CORES_MAX}
use Rattle.rtr_types.proofs.Truths.{is_true}
use Rattle.link_order.specs.Queue.{is_nil}
use Rattle.msi_cache.specs.declared.line.Line.{Line}
use Rattle.msi_cache.specs.declared.messages.Request.{Request}
use Rattle.msi_cache.specs.declared.messages.Response.{Response}
use Rattle.msi_cache.specs.declared.messages.FromHome.{FromHome}
use Rattle.msi_cache.specs.Lines.{line_for, has_row}
use Rattle.msi_cache.specs.Messages.{request_block, response_block, block_of, ask_of}
use Rattle.msi_directory.specs.declared.entry.Entry.{Entry}
use Rattle.msi_directory.specs.declared.entry.Stage.{Stage}
use Rattle.msi_directory.specs.declared.entry.Stage.TheVariants.{Unshared, Shared, Owned, Acks, Data}
use Rattle.msi_directory.specs.Blocks.{entry_at, no_entry}
use Rattle.msi_directory.specs.Entries.{has_request_row, has_response_row}
use Rattle.msi_protocol.specs.Phases.{StageFits, role, Out}
use Rattle.msi_memory.specs.declared.port.Mail.{Mail}
use Rattle.msi_memory.specs.declared.port.Port.{Port}
use Rattle.msi_memory.specs.Memories.{Memory, port_at, no_port}
use Rattle.msi_memory.specs.Acts.{Act, Want, Touch, Retire, TakeRequest, TakeResponse, TakeMessage, can, head_free}
use Rattle.msi_memory.specs.Rests.{names_below, NamesFit, HeadsFit, head_within, has_row_for, can_request_in}
use Rattle.msi_memory.specs.Rests.{can_respond_in, can_hear_in}
use Rattle.msi_laws.specs.Holds.{MemoryHolds}
use Rattle.msi_laws.specs.Ready.{PortLinksHold, ReadyLaw, LinksHoldLaw}
use Rattle.msi_laws.specs.Sights.{asks_of}
use Rattle.msi_laws.proofs.KindsShown.{blocks_hold}
use Rattle.msi_laws.proofs.PortsAndBlocks.{there, core_below, rows_of, asked_first, request_within, response_asked}
use Rattle.msi_laws.proofs.PortsAndBlocks.{response_within, message_row}
use Rattle.msi_laws.proofs.PortsKept.{there_of, can_of}
use Rattle.msi_laws.proofs.Spaces.{rooms_there, port_links_hold}

-- each core that a stage names singly has a role
names_named : (stage : Stage) (n : ℕ) → StageFits stage → ((d : ℕ) → d < CORES_MAX → role stage d ≢ Out → d < n) →
    names_below stage n ≡ true
names_named Unshared n fits here = refl
names_named (Shared by) n fits here = refl
names_named (Owned o) n fits here = lt-ltb o n (here o fits (λ (e : role (Owned o) o ≡ Out).
    absurd (grind (arith, nat_tests))))
names_named (Acks awaited r) n fits here =
    lt-ltb r n (here r fits.1 (λ (e : role (Acks awaited r) r ≡ Out). absurd (let f = fits.0 in
    grind (arith, nat_tests))))
names_named (Data giver r share) n fits here =
    let first : nat_lt giver n ≡ true =
    lt-ltb giver n (here giver fits.2 (λ (e : role (Data giver r share) giver ≡ Out).
    absurd (grind (arith, nat_tests)))) in
    let second : nat_lt r n ≡ true =
    lt-ltb r n (here r fits.1 (λ (e : role (Data giver r share) r ≡ Out). absurd (let f = fits.0 in
    grind (arith, nat_tests)))) in
    rw (first, second)

some_there : {X : Type 0} (q : List X) → not (is_nil q) ≡ true → is_nil q ≡ false
some_there [] f = absurd (cc)
some_there (x ∷ xs) f = refl

module _ {R K : Type 0} where
  names_fit : (riding : Riding R) (carrying : Carrying K) (m : Memory R K) → MemoryHolds riding carrying m → NamesFit m
  names_fit riding carrying m h b d lb =
      let stage : Stage = (entry_at riding.fresh m.home b).stage in
      let block = blocks_hold riding carrying m h b in
      let e : entry_at riding.fresh m.home b ≡ slice_index_or m.home b d =
      get_or_default m.home b (no_entry riding.fresh) d lb in
      is_true (names_below (slice_index_or m.home b d).stage (length m.ports))
      (ap (λ (x : Entry R). names_below x.stage (length m.ports)) (sym e)
      ∙ names_named stage (length m.ports) block.fits (λ c lc some. there riding carrying m.ports stage b c
      (block.stands c lc) some))

  heads_fit : (riding : Riding R) (carrying : Carrying K) (m : Memory R K) → MemoryHolds riding carrying m → HeadsFit m
  heads_fit riding carrying m h c d lc =
      is_true (head_within (slice_index_or m.ports c d).requests.items (length m.home))
      (subst (λ (p : Port R K). head_within p.requests.items (length m.home) ≡ true) (get_or_default m.ports c
      (no_port carrying) d lc)
      (by_items (port_at carrying m.ports c).requests.items refl))
    where
      by_items : (q : List (Mail (Request R) K)) → (port_at carrying m.ports c).requests.items ≡ q →
          head_within q (length m.home) ≡ true
      by_items [] is = refl
      by_items (mail ∷ rest) is = lt-ltb (request_block mail.item) (length m.home) (request_within riding carrying m c
          mail rest h lc is)

  -- the home has the block, and a row for the message
  row_there : (m : Memory R K) (b : ℕ) (row : Bool) → b < length m.home → row ≡ true →
      IsTrue (nat_lt b (length m.home) && row)
  row_there m b row within is = is_true _ (and_from (nat_lt b (length m.home)) row (lt-ltb b (length m.home) within) is)

  request_rows : (riding : Riding R) (carrying : Carrying K) (m : Memory R K) (c : ℕ) → MemoryHolds riding carrying m →
      c < length m.ports →
      (q : List (Mail (Request R) K)) → (port_at carrying m.ports c).requests.items ≡ q →
      head_free q riding m.home ≡ true →
      IsTrue (can_request_in q riding m c)
  request_rows riding carrying m c h lc [] is free = absurd (cc)
  request_rows riding carrying m c h lc (mail ∷ rest) is free =
      let b : ℕ = request_block mail.item in
      row_there m b (has_request_row (entry_at riding.fresh m.home b).stage c mail.item)
      (request_within riding carrying m c mail rest h lc is)
      ((rows_of riding carrying m b h).request c (core_below riding carrying m c h lc) free (ask_of mail.item)
      (asks_of b rest)
      (asked_first riding (port_at carrying m.ports c) mail rest is))

  response_rows : (riding : Riding R) (carrying : Carrying K) (m : Memory R K) (c : ℕ) → MemoryHolds riding carrying m →
      c < length m.ports →
      (q : List (Mail (Response R) K)) → (port_at carrying m.ports c).responses.items ≡ q → is_nil q ≡ false →
      IsTrue (can_respond_in q riding m c)
  response_rows riding carrying m c h lc [] is some = absurd (cc)
  response_rows riding carrying m c h lc (mail ∷ rest) is some =
      row_there m (response_block mail.item)
      (has_response_row (entry_at riding.fresh m.home (response_block mail.item)).stage c mail.item)
      (response_within riding carrying m c mail rest h lc is) (response_asked riding carrying m c mail rest h lc is)

  message_rows : (riding : Riding R) (carrying : Carrying K) (m : Memory R K) (c : ℕ) → MemoryHolds riding carrying m →
      c < length m.ports →
      (q : List (Mail (FromHome R) K)) → (port_at carrying m.ports c).messages.items ≡ q → is_nil q ≡ false →
      IsTrue (can_hear_in q riding (port_at carrying m.ports c))
  message_rows riding carrying m c h lc [] is some = absurd (cc)
  message_rows riding carrying m c h lc (mail ∷ rest) is some =
      let l : Line R = line_for riding.fresh (port_at carrying m.ports c).cache (block_of mail.item) in
      let seen = message_row riding carrying m c mail rest lc is h in
      let same : (l.block == block_of mail.item) ≡ true = eq-eqb l.block (block_of mail.item) seen.at in
      is_true (has_row l mail.item) (rw (same, seen.there) refl)

  rows_there : (riding : Riding R) (carrying : Carrying K) (m : Memory R K) → MemoryHolds riding carrying m →
      (act : Act R) →
      IsTrue (can riding carrying m act) → IsTrue (has_row_for riding carrying m act)
  rows_there riding carrying m h (Want c block kind) e = is_true true refl
  rows_there riding carrying m h (Touch c block slot kind value rider) e = is_true true refl
  rows_there riding carrying m h (Retire c at) e = is_true true refl
  rows_there riding carrying m h (TakeRequest c) e =
      request_rows riding carrying m c h (there_of riding carrying m (TakeRequest c) e)
      (port_at carrying m.ports c).requests.items refl
      (can_of riding carrying m (TakeRequest c) e)
  rows_there riding carrying m h (TakeResponse c) e =
      response_rows riding carrying m c h (there_of riding carrying m (TakeResponse c) e)
      (port_at carrying m.ports c).responses.items refl
      (some_there (port_at carrying m.ports c).responses.items (can_of riding carrying m (TakeResponse c) e))
  rows_there riding carrying m h (TakeMessage c) e =
      message_rows riding carrying m c h (there_of riding carrying m (TakeMessage c) e)
      (port_at carrying m.ports c).messages.items refl
      (some_there (port_at carrying m.ports c).messages.items (can_of riding carrying m (TakeMessage c) e))

  -- all that an act rests on
  pub memory_ready : (riding : Riding R) (carrying : Carrying K) → ReadyLaw riding carrying
  memory_ready riding carrying m h =
      record {
        names = names_fit riding carrying m h;
        heads = heads_fit riding carrying m h;
        rows = rows_there riding carrying m h;
        rooms = rooms_there riding carrying m h;
      }

  -- no link has more on it than it has room for
  pub links_hold : (riding : Riding R) (carrying : Carrying K) → LinksHoldLaw riding carrying
  links_hold riding carrying m h c d lc =
      subst (λ (p : Port R K). PortLinksHold p) (get_or_default m.ports c (no_port carrying) d lc)
      (port_links_hold riding carrying m c h lc)
