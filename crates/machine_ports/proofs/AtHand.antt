-- Who may read and write a block's copies; and at the end each block's words are at hand.
use Rattle.std.proofs.Common.{◌≡◌, ◌∙◌, ◌⊎◌, inl, inr, ap, refl, sym, subst, ℕ, ◌<◌, ◌≤◌, ◌==◌, Bool, true, false}
use Rattle.std.proofs.Common.{nat_lt, length, arith}
use Rattle.std.specs.Prelude.{◌&&◌, if◌then◌else◌}
use Rattle.std.proofs.lemmas.Bool.Decides.{nat_tests}
use Rattle.std.proofs.lemmas.Bool.{and_from, cases_lt, lt-ltb}
use Rattle.std.proofs.lemmas.List.{get_or_past}
use Rattle.access_times.specs.Riding.{Riding, Carrying}
use Rattle.rtr_types.specs.declared.TheConstants.{CORES_MAX}
use Rattle.msi_cache.specs.declared.line.Line.{Line}
use Rattle.msi_cache.specs.declared.line.State.{State as LineState}
use Rattle.msi_cache.specs.declared.line.State.TheVariants.{I, M}
use Rattle.msi_cache.specs.Lines.{line_for, can_read, can_write}
use Rattle.msi_cache.specs.Table.{is_readable, is_writable}
use Rattle.msi_directory.specs.Blocks.{entry_at}
use Rattle.msi_directory.specs.declared.entry.Stage.{Stage}
use Rattle.msi_directory.specs.declared.entry.Stage.TheVariants.{Unshared, Shared, Owned, Acks, Data}
use Rattle.msi_protocol.specs.Phases.{StageFits, Owner, role}
use Rattle.msi_protocol.specs.Promises.{settled}
use Rattle.msi_protocol.proofs.Keeps.{one_writer_holds}
use Rattle.msi_protocol.proofs.Quiet.{quiet_agrees}
use Rattle.msi_memory.specs.declared.port.Port.{Port}
use Rattle.msi_memory.specs.Finals.{at_hand, at_hand_in}
use Rattle.msi_memory.specs.Memories.{Memory, no_port, port_at}
use Rattle.msi_laws.specs.Holds.{MemoryHolds, block_in}
use Rattle.msi_laws.specs.Moving.{links_empty}
use Rattle.msi_laws.specs.Sights.{line_state}
use Rattle.msi_laws.proofs.Final.{all_quiet}
use Rattle.msi_laws.proofs.KindsShown.{blocks_hold}
use Rattle.machine_ports.specs.Writers.{OneWriterEach}

-- what a line allows hangs on the state that a block has in it, which is I where the line holds another
seen_in : (allows : LineState → Bool) → allows I ≡ false → (held : Bool) (state : LineState) →
    (held && allows state) ≡ allows (if held then state else I)
seen_in allows none true state = refl
seen_in allows none false state = sym none

writable_seen : {R : Type 0} (b : ℕ) (line : Line R) → can_write line b ≡ is_writable (line_state b line)
writable_seen b line = seen_in is_writable refl (line.block == b) line.state

readable_seen : {R : Type 0} (b : ℕ) (line : Line R) → can_read line b ≡ is_readable (line_state b line)
readable_seen b line = seen_in is_readable refl (line.block == b) line.state

module _ {R K : Type 0} where
  below : (riding : Riding R) (carrying : Carrying K) (m : Memory R K) (c : ℕ) → MemoryHolds riding carrying m →
      c < length m.ports → c < CORES_MAX
  below riding carrying m c h lc = let few = h.cores in omega arith

  pub one_writer : (riding : Riding R) (carrying : Carrying K) (m : Memory R K) → MemoryHolds riding carrying m →
      OneWriterEach riding carrying m
  one_writer riding carrying m h b c d lc ld apart writes =
      readable_seen b (line_for riding.fresh (port_at carrying m.ports d).cache b)
      ∙ one_writer_holds (block_in riding carrying m b) (blocks_hold riding carrying m h b) c d
      (below riding carrying m c h lc)
      (below riding carrying m d h ld) apart (sym
      (writable_seen b (line_for riding.fresh (port_at carrying m.ports c).cache b)) ∙ writes)

  -- a port that isn't there holds no block
  held_there : (riding : Riding R) (carrying : Carrying K) (m : Memory R K) (b c : ℕ) →
      line_state b (line_for riding.fresh (port_at carrying m.ports c).cache b) ≡ M → c < length m.ports
  held_there riding carrying m b c held = by (cases_lt c (length m.ports))
    where
      none : (t : Bool) → (if t then I else I) ≡ I
      none true = refl
      none false = refl

      by : (c < length m.ports) ⊎ (length m.ports ≤ c) → c < length m.ports
      by (inl within) = within
      by (inr past) =
          let out : port_at carrying m.ports c ≡ no_port carrying = get_or_past m.ports c (no_port carrying) past in
          let empty : line_state b (line_for riding.fresh (port_at carrying m.ports c).cache b) ≡ I =
          ap (λ (p : Port R K). line_state b (line_for riding.fresh p.cache b)) out ∙ none _ in
          absurd (cc)

  pub ends_at_hand : (riding : Riding R) (carrying : Carrying K) (m : Memory R K) → MemoryHolds riding carrying m →
      links_empty m ≡ true → (b : ℕ) →
      at_hand riding carrying m b ≡ true
  ends_at_hand riding carrying m h empty b = by_stage (entry_at riding.fresh m.home b).stage refl
    where
      owner_role : (o : ℕ) → role (Owned o) o ≡ Owner
      owner_role o = grind (arith, nat_tests)

      by_stage : (stage : Stage) → (entry_at riding.fresh m.home b).stage ≡ stage →
          at_hand_in stage riding carrying m b ≡ true
      by_stage Unshared is = refl
      by_stage (Shared by) is = refl
      by_stage (Acks awaited requester) is = refl
      by_stage (Data giver requester share) is = refl
      by_stage (Owned o) is =
          let holds = blocks_hold riding carrying m h b in
          let known : o < CORES_MAX = subst StageFits is holds.fits in
          let named : role (entry_at riding.fresh m.home b).stage o ≡ Owner = ap (λ (x : Stage). role x o) is
          ∙ owner_role o in
          let line : line_state b (line_for riding.fresh (port_at carrying m.ports o).cache b) ≡ M =
          (quiet_agrees (block_in riding carrying m b) holds (λ d ld. all_quiet riding carrying m b d empty)).lines o
          known ∙ ap settled named in
          and_from (nat_lt o (length m.ports)) (can_read (line_for riding.fresh (port_at carrying m.ports o).cache b) b)
          (lt-ltb o (length m.ports) (held_there riding carrying m b o line))
          (readable_seen b (line_for riding.fresh (port_at carrying m.ports o).cache b) ∙ ap is_readable line)
