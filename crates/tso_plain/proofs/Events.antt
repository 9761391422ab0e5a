-- Forgetting riders and carries leaves what happens in a move, and which moves there are, as they are. Events look at
-- stages, words and queues alone, never at what rides.
use Rattle.std.proofs.Common.{◌≡◌, ◌∙◌, ap, refl, sym, ℕ, ◌+◌, ◌*◌, ◌/◌, ◌%◌, ◌==◌, Bool, not, nat_lt}
use Rattle.std.proofs.Common.{◌&&◌, ◌||◌, List, [], ◌∷◌, length}
use Rattle.std.specs.Prelude.{if◌then◌else◌, slice_index}
use Rattle.access_times.specs.Riding.{Riding, Carrying, none_riding, none_carrying}
use Rattle.image_mem.specs.Contents.{Contents}
use Rattle.link_order.specs.Queue.{is_nil}
use Rattle.rtr_types.specs.declared.TheConstants.{BLOCK_WORDS}
use Rattle.rtr_types.specs.declared.access.Access.{Access}
use Rattle.rtr_types.specs.declared.access.Kind.TheVariants.{Load as Loading, Store as Storing, Amo as Exchanging}
use Rattle.rtr_types.specs.declared.instr.Instr.{Instr}
use Rattle.rtr_types.proofs.Lists.{filter_same}
use Rattle.rv_core.specs.declared.core_state.Need.{Need}
use Rattle.rv_core.specs.declared.core_state.Need.TheVariants.{Local, Load, Store, Amo, Done}
use Rattle.rv_core.specs.Steps.{need}
use Rattle.msi_cache.proofs.Forgets.{plain_line_for, plain_waits}
use Rattle.msi_cache.specs.Lines.{waits}
use Rattle.msi_cache.specs.declared.line.Line.{Line}
use Rattle.msi_memory.specs.declared.port.Port.{Port}
use Rattle.msi_memory.specs.Acts.{TakeRequest, TakeResponse, TakeMessage, allows, data_next}
use Rattle.msi_memory.specs.Memories.{port_at, word_at}
use Rattle.msi_memory.specs.PlainPart.{plain_port}
use Rattle.msi_state.specs.Events.{access_of, next_instr, port_taken}
use Rattle.machine_plain.proofs.ForgetfulSteps.{plain_access, plain_taken}
use Rattle.machine_plain.proofs.PlainActs.{plain_can}
use Rattle.machine_plain.proofs.Plains.{plain_allows, plain_data_next, plain_port_at}
use Rattle.tso_state.specs.declared.moves.Move.{Move}
use Rattle.tso_state.specs.declared.moves.Move.TheVariants.{Core as CoreMove, Order as OrderMove}
use Rattle.tso_state.specs.declared.moves.Move.TheVariants.{Request as RequestMove, Response as ResponseMove}
use Rattle.tso_state.specs.declared.moves.Move.TheVariants.{FromHome as MessageMove}
use Rattle.tso_state.specs.declared.pending.Pending.{Pending}
use Rattle.tso_state.specs.declared.pending.Pending.TheVariants.{Load as PendingLoad, Store as PendingStore}
use Rattle.tso_state.specs.declared.pending.Asker.{Asker}
use Rattle.tso_state.specs.declared.pending.Asker.TheVariants.{Nobody, Next, Head}
use Rattle.tso_state.specs.Moves.{candidates}
use Rattle.tso_state.specs.Pending.{forwarded, left_by}
use Rattle.tso_state.specs.States.{State, BufferedCore, core_at}
use Rattle.tso_state.specs.Events.{Event, Nothing, Buffers, Performs, Drains, Logs, event_executing, event_granted}
use Rattle.tso_state.specs.Events.{event_ordering, event_receiving}
use Rattle.tso_state.specs.Steps.{can_order, case_holds, enabled, event, has_room, is_fence, is_next, moves}
use Rattle.tso_plain.specs.Plain.{plain}

-- a load, by whether its port allows it, the access that it makes at once, and the word that it finds
abbrev loading_by : BufferedCore → (word : ℕ) → Bool → Access → ℕ → Event
loading_by t word allowed a found =
    if allowed then (if is_nil t.queue then Performs a
    else Buffers (next_instr t.core) (PendingLoad (t.core.count + 1) word (forwarded t.queue word found))) else
    Nothing

abbrev exchanging_by : Bool → Access → Event
exchanging_by allowed a = if allowed then Performs a else Nothing

-- a head store, and a head load, by the same
abbrev storing_by : (core count word mask bits : ℕ) → Bool → ℕ → Event
storing_by core count word mask bits allowed found =
    if allowed then Drains (record {
      at = record { core = core; count = count };
      word = word;
      kind = Storing;
      before = found;
      after = left_by (PendingStore count word mask bits) found;
    }) else Nothing

abbrev checking_by : (core count word value : ℕ) → Bool → ℕ → Event
checking_by core count word value allowed found =
    let at : Instr = record { core = core; count = count } in
    if allowed && (found == value) then
    Drains (record { at = at; word = word; kind = Loading; before = found; after = found }) else Logs at word value

module _ {R K : Type 0} where
  plain_word_at : (riding : Riding R) (p : Port R K) (word : ℕ) →
      word_at riding p word ≡ word_at none_riding (plain_port p) word
  plain_word_at riding p word =
      ap (λ (l : Line (Unit {0})). slice_index l.words (word % BLOCK_WORDS))
      (sym (plain_line_for riding.fresh p.cache (word / BLOCK_WORDS)))

  -- ---- what happens in a move

  plain_executing : (needed : Need) (image : Contents) (riding : Riding R) (t : BufferedCore) (p : Port R K) →
      event_executing needed image riding t p ≡ event_executing needed image none_riding t (plain_port p)
  plain_executing Local image riding t p = refl
  plain_executing (Store word whole) image riding t p = refl
  plain_executing (Done stop) image riding t p = refl
  plain_executing (Load word) image riding t p =
      ap (λ (b : Bool). loading_by t word b (access_of image riding t.core p word Loading) (word_at riding p word))
      (plain_allows riding p (word / BLOCK_WORDS) Loading)
      ∙ (ap (λ (a : Access). loading_by t word (allows none_riding (plain_port p) (word / BLOCK_WORDS) Loading) a
      (word_at riding p word))
      (plain_access image riding t.core p word Loading)
      ∙ ap (λ (w : ℕ). loading_by t word (allows none_riding (plain_port p) (word / BLOCK_WORDS) Loading)
      (access_of image none_riding t.core (plain_port p) word Loading) w) (plain_word_at riding p word))
  plain_executing (Amo word) image riding t p =
      ap (λ (b : Bool). exchanging_by b (access_of image riding t.core p word Exchanging))
      (plain_allows riding p (word / BLOCK_WORDS) Exchanging)
      ∙ ap (λ (a : Access). exchanging_by (allows none_riding (plain_port p) (word / BLOCK_WORDS) Exchanging) a)
      (plain_access image riding t.core p word Exchanging)

  plain_ordering : (queue : List Pending) (riding : Riding R) (core : ℕ) (p : Port R K) →
      event_ordering queue riding core p ≡ event_ordering queue none_riding core (plain_port p)
  plain_ordering [] riding core p = refl
  plain_ordering (PendingStore count word mask bits ∷ rest) riding core p =
      ap (λ (b : Bool). storing_by core count word mask bits b (word_at riding p word))
      (plain_allows riding p (word / BLOCK_WORDS) Storing)
      ∙ ap (λ (w : ℕ). storing_by core count word mask bits (allows none_riding (plain_port p)
      (word / BLOCK_WORDS) Storing) w) (plain_word_at riding p word)
  plain_ordering (PendingLoad count word value ∷ rest) riding core p =
      ap (λ (b : Bool). checking_by core count word value b (word_at riding p word))
      (plain_allows riding p (word / BLOCK_WORDS) Loading)
      ∙ ap (λ (w : ℕ). checking_by core count word value (allows none_riding (plain_port p)
      (word / BLOCK_WORDS) Loading) w) (plain_word_at riding p word)

  plain_granted : (a : Asker) (image : Contents) (riding : Riding R) (t : BufferedCore) (p : Port R K) →
      event_granted a image riding t p ≡ event_granted a image none_riding t (plain_port p)
  plain_granted Nobody image riding t p = refl
  plain_granted Next image riding t p = plain_executing (need image t.core) image riding t p
  plain_granted Head image riding t p = plain_ordering t.queue riding t.core.id p

  plain_receiving : (image : Contents) (riding : Riding R) (carrying : Carrying K) (t : BufferedCore) (p : Port R K) →
      event_receiving image riding carrying t p ≡ event_receiving image none_riding none_carrying t (plain_port p)
  plain_receiving image riding carrying t p =
      ap (λ (e : Event). if data_next p.messages.items then e else Nothing)
      (plain_granted t.asker image riding t (port_taken riding carrying p)
      ∙ ap (λ (q : Port (Unit {0}) (Unit {0})). event_granted t.asker image none_riding t q)
      (plain_taken riding carrying p))
      ∙ ap (λ (d : Bool). if d then
      event_granted t.asker image none_riding t (port_taken none_riding none_carrying (plain_port p)) else Nothing)
      (plain_data_next p.messages.items)

  pub plain_event : (riding : Riding R) (carrying : Carrying K) (s : State R K) (m : Move) →
      event riding carrying s m ≡ event none_riding none_carrying (plain s) m
  plain_event riding carrying s (CoreMove c) =
      let t : BufferedCore = core_at s.cores c in
      plain_executing (need s.image t.core) s.image riding t (port_at carrying s.memory.ports c)
      ∙ ap (λ (p : Port (Unit {0}) (Unit {0})). event_executing (need s.image t.core) s.image none_riding t p)
      (sym (plain_port_at carrying s.memory.ports c))
  plain_event riding carrying s (OrderMove c) =
      let t : BufferedCore = core_at s.cores c in
      plain_ordering t.queue riding t.core.id (port_at carrying s.memory.ports c)
      ∙ ap (λ (p : Port (Unit {0}) (Unit {0})). event_ordering t.queue none_riding t.core.id p)
      (sym (plain_port_at carrying s.memory.ports c))
  plain_event riding carrying s (RequestMove c) = refl
  plain_event riding carrying s (ResponseMove c) = refl
  plain_event riding carrying s (MessageMove c) =
      plain_receiving s.image riding carrying (core_at s.cores c) (port_at carrying s.memory.ports c)
      ∙ ap (λ (p : Port (Unit {0}) (Unit {0})). event_receiving s.image none_riding none_carrying (core_at s.cores c) p)
      (sym (plain_port_at carrying s.memory.ports c))

  -- ---- which moves there are

  plain_case : (needed : Need) (fence : Bool) (riding : Riding R) (queue : List Pending) (p : Port R K) →
      case_holds needed fence riding queue p ≡ case_holds needed fence none_riding queue (plain_port p)
  plain_case Local fence riding queue p = refl
  plain_case (Store word whole) fence riding queue p = refl
  plain_case (Done stop) fence riding queue p = refl
  plain_case (Load word) fence riding queue p =
      ap (λ (b : Bool). has_room queue && (b || not (waits p.cache)))
      (plain_allows riding p (word / BLOCK_WORDS) Loading)
      ∙ ap (λ (w : Bool). has_room queue && (allows none_riding (plain_port p) (word / BLOCK_WORDS) Loading || not w))
      (plain_waits p.cache)
  plain_case (Amo word) fence riding queue p = ap (λ (w : Bool). is_nil queue && not w) (plain_waits p.cache)

  plain_order : (queue : List Pending) (riding : Riding R) (p : Port R K) →
      can_order queue riding p ≡ can_order queue none_riding (plain_port p)
  plain_order [] riding p = refl
  plain_order (PendingLoad count word value ∷ rest) riding p = refl
  plain_order (PendingStore count word mask bits ∷ rest) riding p =
      ap (λ (b : Bool). b || not (waits p.cache)) (plain_allows riding p (word / BLOCK_WORDS) Storing)
      ∙ ap (λ (w : Bool). allows none_riding (plain_port p) (word / BLOCK_WORDS) Storing || not w) (plain_waits p.cache)

  pub plain_enabled : (riding : Riding R) (carrying : Carrying K) (s : State R K) (m : Move) →
      enabled riding carrying s m
      ≡ enabled none_riding none_carrying (plain s) m
  plain_enabled riding carrying s (CoreMove c) =
      let t : BufferedCore = core_at s.cores c in
      ap (λ (b : Bool). nat_lt c (length s.cores) && (not (is_next t.asker) && b))
      (plain_case (need s.image t.core) (is_fence s.image t.core) riding t.queue (port_at carrying s.memory.ports c)
      ∙ ap (λ (p : Port (Unit {0}) (Unit {0})). case_holds (need s.image t.core)
      (is_fence s.image t.core) none_riding t.queue p)
      (sym (plain_port_at carrying s.memory.ports c)))
  plain_enabled riding carrying s (OrderMove c) =
      let t : BufferedCore = core_at s.cores c in
      ap (λ (b : Bool). nat_lt c (length s.cores) && b)
      (plain_order t.queue riding (port_at carrying s.memory.ports c)
      ∙ ap (λ (p : Port (Unit {0}) (Unit {0})). can_order t.queue none_riding p)
      (sym (plain_port_at carrying s.memory.ports c)))
  plain_enabled riding carrying s (RequestMove c) = plain_can riding carrying s.memory (TakeRequest c)
  plain_enabled riding carrying s (ResponseMove c) = plain_can riding carrying s.memory (TakeResponse c)
  plain_enabled riding carrying s (MessageMove c) = plain_can riding carrying s.memory (TakeMessage c)

  pub plain_moves : (riding : Riding R) (carrying : Carrying K) (s : State R K) →
      moves riding carrying s ≡ moves none_riding none_carrying (plain s)
  plain_moves riding carrying s =
      filter_same (enabled riding carrying s) (enabled none_riding none_carrying (plain s))
      (plain_enabled riding carrying s)
      (candidates (length s.cores) (5 * length s.cores))
