-- Once each core has ended, nothing is under way and no move is enabled. Whoever asks at a port has an access to ask
-- for, so at the end nobody asks, no cache waits, and no message is under way for anybody.
use Rattle.std.proofs.Common.{◌≡◌, ◌∙◌, refl, subst, ℕ, ◌*◌, ◌<◌, Bool, true, false, not, ◌&&◌, List, []}
use Rattle.std.proofs.Common.{◌∷◌, length}
use Rattle.std.proofs.lemmas.Bool.{and_parts}
use Rattle.std.proofs.lemmas.List.Sums.{AllPass-from_list_all}
use Rattle.access_times.specs.Riding.{Riding, Carrying}
use Rattle.link_order.specs.Queue.{is_nil}
use Rattle.rv_core.specs.declared.core_state.Need.{Need}
use Rattle.rv_core.specs.declared.core_state.Need.TheVariants.{Local, Load, Store, Amo, Done}
use Rattle.rv_core.specs.Steps.{need, is_done}
use Rattle.msi_cache.specs.Lines.{waits}
use Rattle.msi_memory.specs.declared.port.Port.{Port}
use Rattle.msi_memory.specs.Memories.{port_at}
use Rattle.msi_laws.specs.Moving.{links_empty}
use Rattle.msi_laws.proofs.MoveNumbers.{filter_none, not_enabled}
use Rattle.msi_laws.proofs.TakenMessages.{none_taken, quiet_links}
use Rattle.msi_memory.specs.Acts.{TakeRequest, TakeResponse, TakeMessage}
use Rattle.tso_state.specs.declared.moves.Move.{Move}
use Rattle.tso_state.specs.declared.moves.Move.TheVariants.{Core as CoreMove, Order as OrderMove}
use Rattle.tso_state.specs.declared.moves.Move.TheVariants.{Request as RequestMove, Response as ResponseMove}
use Rattle.tso_state.specs.declared.moves.Move.TheVariants.{FromHome as MessageMove}
use Rattle.tso_state.specs.declared.pending.Pending.{Pending}
use Rattle.tso_state.specs.declared.pending.Asker.{Asker}
use Rattle.tso_state.specs.declared.pending.Asker.TheVariants.{Nobody, Next, Head}
use Rattle.tso_state.specs.Moves.{candidates}
use Rattle.tso_state.specs.States.{State, BufferedCore, all_done, buffered_start, core_at, has_ended}
use Rattle.tso_state.specs.Steps.{can_execute, can_order, case_holds, enabled, is_fence, is_next, moves}
use Rattle.tso_invariant.specs.Holds.{TsoHolds, is_asking, may_ask}

-- who has ended asks nothing
ended_asks : (a : Asker) (needed : Need) (queue : List Pending) → is_done needed ≡ true → is_nil queue ≡ true →
    may_ask a needed queue ≡ true →
    is_asking a ≡ false
ended_asks Nobody needed queue done nil e = refl
ended_asks Next Local queue done nil e = absurd (cc)
ended_asks Next (Load word) queue done nil e = absurd (cc)
ended_asks Next (Store word whole) queue done nil e = absurd (cc)
ended_asks Next (Amo word) queue done nil e = absurd (cc)
ended_asks Next (Done stop) queue done nil e = absurd (cc)
ended_asks Head needed [] done nil e = absurd (cc)
ended_asks Head needed (x ∷ queue) done nil e = absurd (cc)

module _ {R K : Type 0} where
  -- each core has ended
  pub ended_at : (s : State R K) (c : ℕ) → all_done s ≡ true → c < length s.cores →
      (is_done (need s.image (core_at s.cores c).core) ≡ true) × (is_nil (core_at s.cores c).queue ≡ true)
  ended_at s c done within =
      and_parts (is_done (need s.image (core_at s.cores c).core)) (is_nil (core_at s.cores c).queue)
      (AllPass-from_list_all (λ (t : BufferedCore). has_ended s.image t) s.cores done c (buffered_start 0 0) within)

  -- and its port doesn't wait
  pub ended_still : (riding : Riding R) (carrying : Carrying K) (s : State R K) (c : ℕ) → TsoHolds riding carrying s →
      all_done s ≡ true →
      c < length s.cores → waits (port_at carrying s.memory.ports c).cache ≡ false
  ended_still riding carrying s c h done within =
      let t : BufferedCore = core_at s.cores c in
      let ended = ended_at s c done within in
      (h.cores c within).waiting ∙ ended_asks t.asker (need s.image t.core) t.queue ended.0 ended.1
      (h.cores c within).fits.asks

  pub links_left : (riding : Riding R) (carrying : Carrying K) (s : State R K) → TsoHolds riding carrying s →
      all_done s ≡ true →
      links_empty s.memory ≡ true
  links_left riding carrying s h done =
      quiet_links riding carrying s.memory h.memory
      (λ c within. ended_still riding carrying s c h done (subst (λ (n : ℕ). c < n) h.ports_there within))

  none_to_order : (riding : Riding R) (p : Port R K) (queue : List Pending) → is_nil queue ≡ true →
      can_order queue riding p ≡ false
  none_to_order riding p [] e = refl
  none_to_order riding p (x ∷ queue) e = absurd (cc)

  none_to_execute : (a : Bool) (needed : Need) (fence : Bool) (riding : Riding R) (queue : List Pending)
      (p : Port R K) → is_done needed ≡ true →
      (not a && case_holds needed fence riding queue p) ≡ false
  none_to_execute a Local fence riding queue p done = absurd (cc)
  none_to_execute a (Load word) fence riding queue p done = absurd (cc)
  none_to_execute a (Store word whole) fence riding queue p done = absurd (cc)
  none_to_execute a (Amo word) fence riding queue p done = absurd (cc)
  none_to_execute true (Done stop) fence riding queue p done = refl
  none_to_execute false (Done stop) fence riding queue p done = refl

  none_enabled : (riding : Riding R) (carrying : Carrying K) (s : State R K) → TsoHolds riding carrying s →
      all_done s ≡ true → (m : Move) →
      enabled riding carrying s m ≡ false
  none_enabled riding carrying s h done (CoreMove c) =
      let t : BufferedCore = core_at s.cores c in
      let p : Port R K = port_at carrying s.memory.ports c in
      not_enabled c (length s.cores) (can_execute s.image riding t p)
      (λ within. none_to_execute (is_next t.asker) (need s.image t.core)
      (is_fence s.image t.core) riding t.queue p (ended_at s c done within).0)
  none_enabled riding carrying s h done (OrderMove c) =
      let t : BufferedCore = core_at s.cores c in
      let p : Port R K = port_at carrying s.memory.ports c in
      not_enabled c (length s.cores) (can_order t.queue riding p)
      (λ within. none_to_order riding p t.queue (ended_at s c done within).1)
  none_enabled riding carrying s h done (RequestMove c) =
      none_taken riding carrying s.memory (TakeRequest c) refl (links_left riding carrying s h done)
  none_enabled riding carrying s h done (ResponseMove c) =
      none_taken riding carrying s.memory (TakeResponse c) refl (links_left riding carrying s h done)
  none_enabled riding carrying s h done (MessageMove c) =
      none_taken riding carrying s.memory (TakeMessage c) refl (links_left riding carrying s h done)

  pub moves_left : (riding : Riding R) (carrying : Carrying K) (s : State R K) → TsoHolds riding carrying s →
      all_done s ≡ true →
      moves riding carrying s ≡ []
  moves_left riding carrying s h done =
      filter_none (enabled riding carrying s) (candidates (length s.cores) (5 * length s.cores))
      (none_enabled riding carrying s h done)
