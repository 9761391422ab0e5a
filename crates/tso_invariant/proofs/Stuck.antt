-- Until each core has ended some move is enabled. Some core isn't done. If its cache waits, the memory system has a
-- move. Else its oldest pending access can be ordered, or with an empty queue its next instruction can execute or ask.
use Rattle.std.proofs.Common.{◌≡◌, ◌∙◌, refl, sym, ap, ℕ, ◌*◌, ◌<◌, Bool, true, false, ◌&&◌, ◌||◌, List, [], ◌∷◌}
use Rattle.std.proofs.Common.{length}
use Rattle.std.proofs.Common.{arith}
use Rattle.std.proofs.lemmas.Bool.{lt-ltb}
use Rattle.std.proofs.lemmas.Bool.Decides.{nat_tests}
use Rattle.access_times.specs.Riding.{Riding, Carrying}
use Rattle.link_order.specs.Queue.{is_nil}
use Rattle.rv_core.specs.declared.core_state.Need.{Need}
use Rattle.rv_core.specs.declared.core_state.Need.TheVariants.{Local, Load, Store, Amo, Done}
use Rattle.rv_core.specs.Steps.{need, is_done}
use Rattle.msi_cache.specs.Lines.{waits}
use Rattle.msi_memory.specs.declared.port.Port.{Port}
use Rattle.msi_memory.specs.Acts.{Act, can}
use Rattle.msi_memory.specs.Memories.{port_at}
use Rattle.msi_laws.specs.Moving.{is_take}
use Rattle.msi_laws.proofs.MoveNumbers.{among_some, not_all}
use Rattle.msi_laws.proofs.TakenMessages.{by_take, waiting_moves}
use Rattle.tso_state.specs.declared.moves.Move.{Move}
use Rattle.tso_state.specs.declared.moves.Move.TheVariants.{Core as CoreMove, Order as OrderMove}
use Rattle.tso_state.specs.declared.moves.Move.TheVariants.{Request as RequestMove, Response as ResponseMove}
use Rattle.tso_state.specs.declared.moves.Move.TheVariants.{FromHome as MessageMove}
use Rattle.tso_state.specs.declared.pending.Pending.{Pending}
use Rattle.tso_state.specs.declared.pending.Pending.TheVariants.{Load as PendingLoad, Store as PendingStore}
use Rattle.tso_state.specs.declared.pending.Asker.TheVariants.{Nobody}
use Rattle.tso_state.specs.Moves.{candidate, core_of, number_of}
use Rattle.tso_state.specs.States.{State, BufferedCore, all_done, buffered_start, core_at, has_ended}
use Rattle.tso_state.specs.Steps.{can_execute, can_order, case_holds, enabled, is_fence, moves}
use Rattle.tso_invariant.specs.Holds.{TsoHolds}
use Rattle.tso_invariant.proofs.MoveInvariant.{core_port, enabled_core}
use Rattle.tso_invariant.proofs.Queues.{still_nobody}

-- a move stands at its number among the candidates
number_within : (cores : ℕ) (m : Move) → core_of m < cores → number_of cores m < 5 * cores
number_within cores m lt = grind (arith, nat_tests)

numbered : (cores : ℕ) (m : Move) → core_of m < cores → candidate cores (number_of cores m) ≡ m
numbered cores m lt = grind (arith, nat_tests)

-- one of two tests fails
not_both : (a b : Bool) → (a && b) ≡ false → b ≡ true → a ≡ false
not_both true true e f = absurd (cc)
not_both true false e f = absurd (cc)
not_both false b e f = refl

module _ {R K : Type 0} where
  -- an enabled move is among the moves
  pub move_some : (riding : Riding R) (carrying : Carrying K) (s : State R K) (m : Move) → TsoHolds riding carrying s →
      enabled riding carrying s m ≡ true → 0 < length (moves riding carrying s)
  move_some riding carrying s m h e =
      let lt : core_of m < length s.cores = enabled_core riding carrying s m e h in
      among_some (enabled riding carrying s) (candidate (length s.cores)) (5 * length s.cores)
      (number_of (length s.cores) m) m (number_within (length s.cores) m lt) (numbered (length s.cores) m lt) e

  -- what takes a message is a move
  take_some : (riding : Riding R) (carrying : Carrying K) (s : State R K) (act : Act R) → TsoHolds riding carrying s →
      is_take act ≡ true →
      can riding carrying s.memory act ≡ true → 0 < length (moves riding carrying s)
  take_some riding carrying s act h =
      by_take (λ (a : Act R). can riding carrying s.memory a ≡ true → 0 < length (moves riding carrying s))
      (λ c. move_some riding carrying s (RequestMove c) h) (λ c. move_some riding carrying s (ResponseMove c) h)
      (λ c. move_some riding carrying s (MessageMove c) h) act

  -- at a port that doesn't wait the oldest pending access can be ordered
  order_goes : (riding : Riding R) (p : Port R K) (x : Pending) (rest : List Pending) → waits p.cache ≡ false →
      can_order (x ∷ rest) riding p ≡ true
  order_goes riding p (PendingLoad count word value) rest still = refl
  order_goes riding p (PendingStore count word mask bits) rest still = rw still (either _)
    where
      either : (a : Bool) → (a || true) ≡ true
      either true = refl
      either false = refl

  -- and with none pending the next instruction executes or asks
  case_goes : (needed : Need) (fence : Bool) (riding : Riding R) (p : Port R K) → is_done needed ≡ false →
      waits p.cache ≡ false →
      case_holds needed fence riding [] p ≡ true
  case_goes Local true riding p more still = refl
  case_goes Local false riding p more still = refl
  case_goes (Load word) fence riding p more still = rw still (either _)
    where
      either : (a : Bool) → (a || true) ≡ true
      either true = refl
      either false = refl
  case_goes (Store word whole) fence riding p more still = refl
  case_goes (Amo word) fence riding p more still = rw still refl
  case_goes (Done stop) fence riding p more still = absurd (cc)

  core_goes : (riding : Riding R) (carrying : Carrying K) (s : State R K) (c : ℕ) (t : BufferedCore)
      (queue : List Pending) → TsoHolds riding carrying s →
      c < length s.cores → core_at s.cores c ≡ t → t.queue ≡ queue → has_ended s.image t ≡ false → t.asker ≡ Nobody →
      waits (port_at carrying s.memory.ports c).cache ≡ false → 0 < length (moves riding carrying s)
  core_goes riding carrying s c t [] h within is q more nobody still =
      let p : Port R K = port_at carrying s.memory.ports c in
      let goes : is_done (need s.image t.core) ≡ false = not_both (is_done (need s.image t.core))
      (is_nil t.queue) more (ap is_nil q) in
      let case : case_holds (need s.image t.core) (is_fence s.image t.core) riding t.queue p ≡ true =
      ap (λ (x : List Pending). case_holds (need s.image t.core) (is_fence s.image t.core) riding x p) q
      ∙ case_goes (need s.image t.core) (is_fence s.image t.core) riding p goes still in
      let executes : can_execute s.image riding t p ≡ true = rw (nobody, case) refl in
      move_some riding carrying s (CoreMove c) h (rw (lt-ltb c (length s.cores) within, is, executes) refl)
  core_goes riding carrying s c t (x ∷ rest) h within is q more nobody still =
      let p : Port R K = port_at carrying s.memory.ports c in
      let orders : can_order t.queue riding p ≡ true = rw q (order_goes riding p x rest still) in
      move_some riding carrying s (OrderMove c) h (rw (lt-ltb c (length s.cores) within, is, orders) refl)

  pub some_move : (riding : Riding R) (carrying : Carrying K) (s : State R K) → TsoHolds riding carrying s →
      all_done s ≡ false →
      0 < length (moves riding carrying s)
  some_move riding carrying s h e =
      let m = not_all (λ (t : BufferedCore). has_ended s.image t) s.cores (buffered_start 0 0) e in
      by_waits m.0 m.1 m.2 (waits (port_at carrying s.memory.ports m.0).cache) refl
    where
      by_waits : (c : ℕ) → c < length s.cores → has_ended s.image (core_at s.cores c) ≡ false → (t : Bool) →
          waits (port_at carrying s.memory.ports c).cache ≡ t → 0 < length (moves riding carrying s)
      by_waits c within more false w =
          core_goes riding carrying s c (core_at s.cores c) (core_at s.cores c).queue h within refl refl more
          (still_nobody (core_at s.cores c).asker (sym w ∙ (h.cores c within).waiting)) w
      by_waits c within more true w =
          let take = waiting_moves riding carrying s.memory c h.memory (core_port riding carrying s c h within) w in
          take_some riding carrying s take.0 h take.1 take.2
