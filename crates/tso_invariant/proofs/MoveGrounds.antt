-- What each enabled move rests on: its message has a row, data let the access be made that waited for them, and each
-- link that it pushes to has room. Rows and rooms are the memory system's own. What is new is that the access for which
-- data come is that of who asked.
use Rattle.std.proofs.Common.{◌≡◌, ◌∙◌, refl, sym, ap, ℕ, ◌+◌, ◌<◌, ◌/◌, ◌==◌, Bool, true, false, not, ◌&&◌, ◌||◌, List}
use Rattle.std.proofs.Common.{[], ◌∷◌, length, Option, IsTrue, arith}
use Rattle.std.specs.Prelude.{if◌then◌else◌}
use Rattle.std.proofs.lemmas.Bool.{and_parts, not-true}
use Rattle.access_times.specs.Riding.{Riding, Carrying}
use Rattle.rtr_types.proofs.Truths.{both_true}
use Rattle.rtr_types.specs.declared.TheConstants.{BLOCK_WORDS}
use Rattle.rtr_types.specs.declared.access.Kind.{Kind}
use Rattle.rtr_types.specs.declared.access.Kind.TheVariants.{Load as Loading, Store as Storing}
use Rattle.rv_core.specs.declared.core_state.Need.{Need}
use Rattle.rv_core.specs.declared.core_state.Need.TheVariants.{Local, Load, Store, Amo, Done}
use Rattle.rv_core.specs.Steps.{need}
use Rattle.image_mem.specs.Contents.{Contents}
use Rattle.link_order.specs.Queue.{is_nil}
use Rattle.msi_cache.specs.Lines.{waits}
use Rattle.msi_memory.specs.declared.port.Port.{Port}
use Rattle.msi_memory.specs.Acts.{TakeRequest, TakeResponse, TakeMessage, allows, data_next}
use Rattle.msi_memory.specs.Memories.{port_at, word_at}
use Rattle.msi_laws.specs.Ready.{IsReady}
use Rattle.msi_laws.proofs.Ready.{memory_ready}
use Rattle.msi_laws.proofs.Spaces.{no_requests}
use Rattle.msi_laws.proofs.Awaits.{data_granted}
use Rattle.msi_state.specs.Events.{access_of, next_instr, port_taken}
use Rattle.msi_state.specs.Rests.{may_access}
use Rattle.tso_state.specs.declared.moves.Move.{Move}
use Rattle.tso_state.specs.declared.moves.Move.TheVariants.{Core as CoreMove, Order as OrderMove}
use Rattle.tso_state.specs.declared.moves.Move.TheVariants.{Request as RequestMove, Response as ResponseMove}
use Rattle.tso_state.specs.declared.moves.Move.TheVariants.{FromHome as MessageMove}
use Rattle.tso_state.specs.declared.pending.Pending.{Pending}
use Rattle.tso_state.specs.declared.pending.Pending.TheVariants.{Load as PendingLoad, Store as PendingStore}
use Rattle.tso_state.specs.Events.{Nothing, Buffers, Performs, Drains, Logs, event_executing, event_loading}
use Rattle.tso_state.specs.Events.{event_ordering}
use Rattle.tso_state.specs.Pending.{forwarded, left_by}
use Rattle.tso_state.specs.States.{State, BufferedCore, core_at}
use Rattle.tso_state.specs.Steps.{can_order, case_holds, enabled, has_room, is_fence, is_next}
use Rattle.tso_invariant.specs.Holds.{TsoHolds, wish_by}
use Rattle.tso_invariant.specs.Rests.{HasRoomFor, has_row_for, is_quiet}
use Rattle.tso_invariant.proofs.MoveInvariant.{core_can, core_port, enabled_core, order_can}
use Rattle.tso_invariant.proofs.CoreMoves.{refused_still}

module _ {R K : Type 0} where
  -- an atomic memory operation executes where no access of its core is pending
  pub amo_alone : (image : Contents) (riding : Riding R) (t : BufferedCore) (p : Port R K) (needed : Need)
      (fence : Bool) →
      case_holds needed fence riding t.queue p ≡ true → (word : ℕ) → needed ≡ Amo word → is_nil t.queue ≡ true
  amo_alone image riding t p needed fence e word is =
      (and_parts (is_nil t.queue) (not (waits p.cache))
      (ap (λ (n : Need). case_holds n fence riding t.queue p) (sym is) ∙ e)).0

  -- a load that its port allows executes
  loading_loud : (image : Contents) (riding : Riding R) (t : BufferedCore) (p : Port R K) (word : ℕ) →
      is_quiet (event_loading image riding t p word) ≡ false
  loading_loud image riding t p word = by_nil (is_nil t.queue)
    where
      by_nil : (b : Bool) → is_quiet (if b then Performs (access_of image riding t.core p word Loading)
          else Buffers (next_instr t.core)
          (PendingLoad (t.core.count + 1) word (forwarded t.queue word (word_at riding p word)))) ≡ false
      by_nil true = refl
      by_nil false = refl

  -- a core asks at a port that doesn't wait
  executing_still : (needed : Need) (fence : Bool) (image : Contents) (riding : Riding R) (t : BufferedCore)
      (p : Port R K) →
      case_holds needed fence riding t.queue p ≡ true → is_quiet (event_executing needed image riding t p) ≡ true →
      waits p.cache ≡ false
  executing_still Local fence image riding t p e quiet = absurd (cc)
  executing_still (Store word whole) fence image riding t p e quiet = absurd (cc)
  executing_still (Load word) fence image riding t p e quiet = by_allowed
      (allows riding p (word / BLOCK_WORDS) Loading) refl quiet
    where
      by_allowed : (b : Bool) → allows riding p (word / BLOCK_WORDS) Loading ≡ b →
          is_quiet (if b then event_loading image riding t p word else Nothing) ≡ true → waits p.cache ≡ false
      by_allowed true f q = absurd (let loud = loading_loud image riding t p word in cc (sym q ∙ loud))
      by_allowed false f q =
          refused_still (allows riding p (word / BLOCK_WORDS) Loading) (waits p.cache)
          (and_parts (has_room t.queue) (allows riding p (word / BLOCK_WORDS) Loading || not (waits p.cache)) e).1 f
  executing_still (Amo word) fence image riding t p e quiet = not-true (waits p.cache)
      (and_parts (is_nil t.queue) (not (waits p.cache)) e).1
  executing_still (Done stop) fence image riding t p e quiet = absurd (cc)

  -- and so it does for its oldest pending access
  ordering_still : (queue : List Pending) (riding : Riding R) (core : ℕ) (p : Port R K) →
      can_order queue riding p ≡ true →
      is_quiet (event_ordering queue riding core p) ≡ true → waits p.cache ≡ false
  ordering_still [] riding core p e quiet = absurd (cc)
  ordering_still (PendingLoad count word value ∷ rest) riding core p e quiet =
      by_test (allows riding p (word / BLOCK_WORDS) Loading && (word_at riding p word == value)) quiet
    where
      by_test : (b : Bool) → is_quiet (if b then Drains (record {
        at = record { core = core; count = count };
        word = word;
        kind = Loading;
        before = word_at riding p word;
        after = word_at riding p word;
      }) else Logs (record { core = core; count = count }) word value) ≡ true → waits p.cache ≡ false
      by_test true q = absurd (cc)
      by_test false q = absurd (cc)
  ordering_still (PendingStore count word mask bits ∷ rest) riding core p e quiet =
      by_allowed (allows riding p (word / BLOCK_WORDS) Storing) refl quiet
    where
      by_allowed : (b : Bool) → allows riding p (word / BLOCK_WORDS) Storing ≡ b → is_quiet (if b then Drains (record {
        at = record { core = core; count = count };
        word = word;
        kind = Storing;
        before = word_at riding p word;
        after = left_by (PendingStore count word mask bits) (word_at riding p word);
      }) else Nothing) ≡ true → waits p.cache ≡ false
      by_allowed true f q = absurd (cc)
      by_allowed false f q = refused_still (allows riding p (word / BLOCK_WORDS) Storing) (waits p.cache) e f

  -- a port that doesn't wait has room for a request
  room_there : (riding : Riding R) (carrying : Carrying K) (s : State R K) (c : ℕ) → TsoHolds riding carrying s →
      c < length s.cores →
      waits (port_at carrying s.memory.ports c).cache ≡ false →
      length (port_at carrying s.memory.ports c).requests.items < (port_at carrying s.memory.ports c).requests.room
  room_there riding carrying s c h within still =
      let there = core_port riding carrying s c h within in
      rw (
        no_requests riding carrying s.memory c h.memory there still,
        (h.memory.ports c there).requests_room,
      ) (omega arith)

  -- where data come, the access is allowed that waited for them
  access_waited : (riding : Riding R) (carrying : Carrying K) (s : State R K) (c : ℕ) →
      TsoHolds riding carrying s → c < length s.cores →
      (not (data_next (port_at carrying s.memory.ports c).messages.items) || may_access (wish_by
      (core_at s.cores c).asker (need s.image (core_at s.cores c).core) (core_at s.cores c).queue) riding
      (port_taken riding carrying (port_at carrying s.memory.ports c))) ≡ true
  access_waited riding carrying s c h within =
      by_test (data_next (port_at carrying s.memory.ports c).messages.items) refl
    where
      t : BufferedCore
      t = core_at s.cores c

      wanted : Option (Kind × ℕ)
      wanted = wish_by t.asker (need s.image t.core) t.queue

      by_test : (d : Bool) → data_next (port_at carrying s.memory.ports c).messages.items ≡ d →
          (not d || may_access wanted riding (port_taken riding carrying (port_at carrying s.memory.ports c))) ≡ true
      by_test false e = refl
      by_test true e =
          let g = data_granted riding carrying s.memory c wanted h.memory (core_port riding carrying s c h within) e
          (h.cores c within).awaited in
          ap (λ (x : Option (Kind × ℕ)). may_access x riding
          (port_taken riding carrying (port_at carrying s.memory.ports c))) g.needs ∙ g.allowed

  -- and the memory system is ready for the home's moves and for messages
  home_ready : (riding : Riding R) (carrying : Carrying K) (s : State R K) → TsoHolds riding carrying s →
      IsReady riding carrying s.memory
  home_ready riding carrying s h = memory_ready riding carrying s.memory h.memory

  pub rows_there : (riding : Riding R) (carrying : Carrying K) (s : State R K) (m : Move) → TsoHolds riding carrying s →
      IsTrue (enabled riding carrying s m) → IsTrue (has_row_for riding carrying s m)
  rows_there riding carrying s (CoreMove c) h e = refl
  rows_there riding carrying s (OrderMove c) h e = refl
  rows_there riding carrying s (RequestMove c) h e = (home_ready riding carrying s h).rows (TakeRequest c) e
  rows_there riding carrying s (ResponseMove c) h e = (home_ready riding carrying s h).rows (TakeResponse c) e
  rows_there riding carrying s (MessageMove c) h e =
      both_true _ _ ((home_ready riding carrying s h).rows (TakeMessage c) e)
      (access_waited riding carrying s c h (enabled_core riding carrying s (MessageMove c) e h))

  pub rooms_there : (riding : Riding R) (carrying : Carrying K) (s : State R K) (m : Move) →
      TsoHolds riding carrying s →
      IsTrue (enabled riding carrying s m) → HasRoomFor riding carrying s m
  rooms_there riding carrying s (CoreMove c) h e =
      λ quiet. let t : BufferedCore = core_at s.cores c in
      let p : Port R K = port_at carrying s.memory.ports c in
      let w = core_can riding carrying s c e in
      room_there riding carrying s c h w.0 (executing_still (need s.image t.core)
      (is_fence s.image t.core) s.image riding t p
      (and_parts (not (is_next t.asker))
      (case_holds (need s.image t.core) (is_fence s.image t.core) riding t.queue p) w.1).1 quiet)
  rooms_there riding carrying s (OrderMove c) h e =
      λ quiet. let t : BufferedCore = core_at s.cores c in
      let w = order_can riding carrying s c e in
      room_there riding carrying s c h w.0
      (ordering_still t.queue riding t.core.id (port_at carrying s.memory.ports c) w.1 quiet)
  rooms_there riding carrying s (RequestMove c) h e = (home_ready riding carrying s h).rooms (TakeRequest c) e
  rooms_there riding carrying s (ResponseMove c) h e = (home_ready riding carrying s h).rooms (TakeResponse c) e
  rooms_there riding carrying s (MessageMove c) h e = (home_ready riding carrying s h).rooms (TakeMessage c) e
