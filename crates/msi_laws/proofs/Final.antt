-- Where nothing is under way, the final memory is the memory: each block's copy that it takes counts.
use Rattle.std.proofs.Common.{◌≡◌, ◌∙◌, ap, refl, sym, subst, ℕ, ◌<◌, ◌≤◌, ◌==◌, ◌&&◌, Bool, true, false, List, [], ◌∷◌}
use Rattle.std.proofs.Common.{length, inl, inr, ◌⊎◌, eq-eqb, arith}
use Rattle.std.specs.Prelude.{if◌then◌else◌}
use Rattle.std.proofs.lemmas.Bool.{cases_lt}
use Rattle.std.proofs.lemmas.Bool.Decides.{nat_tests}
use Rattle.std.proofs.lemmas.List.{get_or_past}
use Rattle.std.proofs.lemmas.List.Sums.{AllPass-from_list_all}
use Rattle.access_times.specs.Riding.{Riding, Carrying}
use Rattle.rtr_types.specs.declared.TheConstants.{CORES_MAX}
use Rattle.rtr_types.specs.declared.access.Kind.TheVariants.{Load as IsLoad}
use Rattle.link_order.specs.Queue.{is_nil}
use Rattle.msi_cache.specs.declared.line.Line.{Line}
use Rattle.msi_cache.specs.declared.line.State.TheVariants.{I, M}
use Rattle.msi_cache.specs.declared.messages.FromHome.{FromHome}
use Rattle.msi_cache.specs.declared.messages.Response.{Response}
use Rattle.msi_cache.specs.declared.messages.Request.{Request}
use Rattle.msi_cache.specs.Lines.{empty_line, is_allowed, line_for}
use Rattle.msi_directory.specs.declared.entry.Entry.{Entry}
use Rattle.msi_directory.specs.declared.entry.Stage.{Stage}
use Rattle.msi_directory.specs.declared.entry.Stage.TheVariants.{Unshared, Shared, Owned, Acks, Data}
use Rattle.msi_directory.specs.Table.{is_free}
use Rattle.msi_directory.specs.Blocks.{entry_at}
use Rattle.msi_protocol.specs.Counting.{home_counts}
use Rattle.msi_protocol.specs.Phases.{BlockHolds, StageFits, Out, Owner, role}
use Rattle.msi_protocol.specs.Promises.{is_quiet, Agrees, settled}
use Rattle.msi_protocol.specs.Showing.{Shows}
use Rattle.msi_protocol.proofs.Quiet.{quiet_agrees}
use Rattle.msi_memory.specs.declared.port.Mail.{Mail}
use Rattle.msi_memory.specs.declared.port.Port.{Port}
use Rattle.msi_memory.specs.Finals.{block_words, block_words_in}
use Rattle.msi_memory.specs.Memories.{Memory, port_at, no_port}
use Rattle.msi_laws.specs.Holds.{MemoryHolds, block_in, port_view}
use Rattle.msi_laws.specs.Links.{port_sight}
use Rattle.msi_laws.specs.Moving.{are_links_empty, links_empty}
use Rattle.msi_laws.specs.Sights.{line_state, asks_of, replies_of, signals_of}
use Rattle.msi_laws.specs.Words.{HasWords, HaveWords}
use Rattle.msi_laws.proofs.KindsShown.{blocks_hold}
use Rattle.msi_laws.proofs.Properties.{finds_words}

owned_allows : {R : Type 0} (b : ℕ) (l : Line R) → line_state b l ≡ M → is_allowed l b IsLoad ≡ true
owned_allows b l e = grind (arith, nat_tests)

empty_shows : {R : Type 0} (fresh : R) (b : ℕ) → line_state b (empty_line fresh) ≡ I
empty_shows fresh b = by (0 == b)
  where
    by : (t : Bool) → (if t then I else I) ≡ I
    by true = refl
    by false = refl

module _ {R K : Type 0} where
  nothing_shown : (b : ℕ) (requests : List (Mail (Request R) K)) (responses : List (Mail (Response R) K))
      (messages : List (Mail (FromHome R) K)) →
      (is_nil requests && (is_nil responses && is_nil messages)) ≡ true →
      (is_nil (asks_of b requests) && is_nil (replies_of b responses) && is_nil (signals_of b messages)) ≡ true
  nothing_shown b [] [] [] e = refl
  nothing_shown b [] [] (x ∷ xs) e = absurd (cc)
  nothing_shown b [] (x ∷ xs) messages e = absurd (cc)
  nothing_shown b (x ∷ xs) responses messages e = absurd (cc)

  -- where no link holds anything, nothing of a block is under way
  pub all_quiet : (riding : Riding R) (carrying : Carrying K) (m : Memory R K) (b d : ℕ) → links_empty m ≡ true →
      is_quiet (port_view riding b (port_at carrying m.ports d)) ≡ true
  all_quiet riding carrying m b d empty = by_place (cases_lt d (length m.ports))
    where
      by_place : (d < length m.ports) ⊎ (length m.ports ≤ d) →
          is_quiet (port_view riding b (port_at carrying m.ports d)) ≡ true
      by_place (inl within) =
          let p : Port R K = port_at carrying m.ports d in
          nothing_shown b p.requests.items p.responses.items p.messages.items
          (AllPass-from_list_all are_links_empty m.ports empty d (no_port carrying) within)
      by_place (inr past) = ap (λ (p : Port R K). is_quiet (port_view riding b p))
          (get_or_past m.ports d (no_port carrying) past)

  -- a port whose line for a block is owned is there
  owner_there : (riding : Riding R) (carrying : Carrying K) (m : Memory R K) (b c : ℕ) →
      line_state b (line_for riding.fresh (port_at carrying m.ports c).cache b) ≡ M → c < length m.ports
  owner_there riding carrying m b c owned = by_place (cases_lt c (length m.ports))
    where
      by_place : (c < length m.ports) ⊎ (length m.ports ≤ c) → c < length m.ports
      by_place (inl within) = within
      by_place (inr past) =
          absurd (let none : line_state b (line_for riding.fresh (port_at carrying m.ports c).cache b) ≡ I =
          ap (λ (p : Port R K). line_state b (line_for riding.fresh p.cache b))
          (get_or_past m.ports c (no_port carrying) past)
          ∙ empty_shows riding.fresh b in cc)

  pub final_current : (riding : Riding R) (carrying : Carrying K) (m : Memory R K) (memory : ℕ → List ℕ) →
      MemoryHolds riding carrying m →
      links_empty m ≡ true → HaveWords riding carrying m memory → (b : ℕ) → block_words riding carrying m b ≡ memory b
  final_current riding carrying m memory h empty k b = by_stage stage refl
    where
      stage : Stage
      stage = (entry_at riding.fresh m.home b).stage

      holds : BlockHolds (block_in riding carrying m b)
      holds = blocks_hold riding carrying m h b

      agrees : Agrees (block_in riding carrying m b)
      agrees = quiet_agrees (block_in riding carrying m b) holds (λ d ld. all_quiet riding carrying m b d empty)

      -- the home's copy, where it counts
      at_home : home_counts stage ≡ true → (entry_at riding.fresh m.home b).words ≡ memory b
      at_home counts =
          let s : Shows (HasWords memory b) b (entry_at riding.fresh m.home b)
          (λ d. port_sight riding b (port_at carrying m.ports d)) = k.blocks b in
          ap (λ (e : Entry R). e.words) (sym s.entry_is)
          ∙ s.has.home (ap (λ (e : Entry R). home_counts e.stage) s.entry_is ∙ counts)

      busy : (t : Stage) → stage ≡ t → is_free t ≡ false → block_words_in t riding carrying m b ≡ memory b
      busy t e not_free = absurd (let f : is_free stage ≡ false = ap is_free e ∙ not_free in
          let free = agrees.free in cc)

      by_stage : (t : Stage) → stage ≡ t → block_words_in t riding carrying m b ≡ memory b
      by_stage Unshared e = at_home (ap home_counts e)
      by_stage (Shared by) e = at_home (ap home_counts e)
      by_stage (Acks awaited requester) e = busy (Acks awaited requester) e refl
      by_stage (Data giver requester share) e = busy (Data giver requester share) e refl
      by_stage (Owned owner) e =
          let within : owner < CORES_MAX = subst StageFits e holds.fits in
          let owns : role stage owner ≡ Owner =
          ap (λ (x : Stage). role x owner) e ∙ ap (λ (t : Bool). if t then Owner else Out) (eq-eqb owner owner refl) in
          let line : line_state b (line_for riding.fresh (port_at carrying m.ports owner).cache b) ≡ M =
          agrees.lines owner within ∙ ap settled owns in
          finds_words riding carrying m owner b IsLoad memory h (owner_there riding carrying m b owner line)
          (owned_allows b (line_for riding.fresh (port_at carrying m.ports owner).cache b) line) k
