-- An event of a core is its move: what is done by it, or asked where nothing is, is the step.
use Rattle.std.proofs.Common.{◌≡◌, ◌∙◌, sym, subst, ap, ℕ, ◌<◌, Bool, true, false, List, length}
use Rattle.std.specs.Prelude.{if◌then◌else◌, slice_set}
use Rattle.std.proofs.lemmas.List.{get_or-set_same, set-set}
use Rattle.access_times.specs.Riding.{Riding, Carrying}
use Rattle.msi_cache.specs.Lines.{waits}
use Rattle.msi_memory.specs.declared.port.Port.{Port}
use Rattle.msi_memory.specs.Acts.{after_acts, data_next, take_message}
use Rattle.msi_memory.specs.Memories.{Memory, port_at}
use Rattle.msi_laws.proofs.Waits.{port_there}
use Rattle.msi_state.specs.Events.{port_taken, rider_of_event}
use Rattle.tso_state.specs.declared.moves.Move.TheVariants.{FromHome as MessageMove}
use Rattle.tso_state.specs.declared.pending.Asker.TheVariants.{Nobody}
use Rattle.tso_state.specs.Events.{Event, Nothing, core_after, event_granted, queue_after, tellings}
use Rattle.tso_state.specs.States.{BufferedCore, State, buffered_start, core_at}
use Rattle.tso_state.specs.Steps.{acts_told, event}
use Rattle.tso_data.specs.Orders.{ordering_of}
use Rattle.tso_core.specs.Moving.{StepsTo}
use Rattle.tso_core.specs.Workings.{HasDone, asked_by, core_doing, granting, rider_in}

module _ {R K : Type 0} where
  -- the state after this event alone
  abbrev done_by : Riding R → Carrying K → R → State R K → (c : ℕ) → Event → State R K
  done_by riding carrying rider s c e =
      let t = core_at s.cores c in
      record s {
        cores = slice_set s.cores c (core_doing s.image t e);
        memory = after_acts riding carrying s.memory (acts_told c rider (tellings t e));
      }

  -- the state once core c's port took its oldest message
  abbrev pub taken : Riding R → Carrying K → State R K → (c : ℕ) → State R K
  taken riding carrying s c = record s { memory = take_message riding carrying s.memory c }

  -- the state after the message by which this happened
  abbrev received_by : Riding R → Carrying K → R → State R K → (c : ℕ) → (waiting : Bool) → Event → State R K
  received_by riding carrying rider s c waiting e =
      let t = core_at s.cores c in
      record s {
        cores = slice_set s.cores c (record {
          core = core_after s.image t.core e;
          queue = queue_after t.queue e;
          asker = if waiting then t.asker else Nobody;
        });
        memory = after_acts riding carrying (take_message riding carrying s.memory c)
            (acts_told c rider (tellings t e));
      }

  -- where it had a block's data
  granted_received : (riding : Riding R) (carrying : Carrying K) (rider : R) (s : State R K) (c : ℕ) (waiting : Bool)
      (e : Event) →
      c < length s.cores →
      asked_by (done_by riding carrying rider (taken riding carrying s c) c e) c waiting ≡ received_by riding carrying
      rider s c waiting e
  granted_received riding carrying rider s c waiting e here =
      let d : BufferedCore = core_doing s.image (core_at s.cores c) e in
      let memory : Memory R K = after_acts riding carrying (take_message riding carrying s.memory c)
      (acts_told c rider (tellings (core_at s.cores c) e)) in
      let same : core_at (slice_set s.cores c d) c ≡ d = get_or-set_same s.cores c d (buffered_start 0 0) here in
      ap (λ (t : BufferedCore). record s {
        cores = slice_set (slice_set s.cores c d) c (record t { asker = if waiting then t.asker else Nobody });
        memory = memory;
      }) same
      ∙ ap (λ (cores : List BufferedCore). record s { cores = cores; memory = memory })
      (set-set s.cores c d (record d { asker = if waiting then d.asker else Nobody }))

  -- the event, by whether it had
  event_received : (riding : Riding R) (carrying : Carrying K) (s : State R K) (c : ℕ) (came : Bool) →
      c < length s.memory.ports →
      came ≡ data_next (port_at carrying s.memory.ports c).messages.items →
      (if came then granting riding carrying (taken riding carrying s c) c else Nothing) ≡ event riding carrying s
      (MessageMove c)
  event_received riding carrying s c came port is =
      let t : BufferedCore = core_at s.cores c in
      let p : Port R K = port_taken riding carrying (port_at carrying s.memory.ports c) in
      (λ i. if is i then event_granted t.asker s.image riding t (port_there carrying s.memory c p port i) else Nothing)

  -- the step, by its event and by whether the port still waits
  message_steps : (riding : Riding R) (carrying : Carrying K) (s t : State R K) (c : ℕ) (waiting : Bool) (e : Event) →
      c < length s.memory.ports →
      e ≡ event riding carrying s (MessageMove c) →
      waiting ≡ waits (port_at carrying (take_message riding carrying s.memory c).ports c).cache →
      t ≡ received_by riding carrying (rider_in riding carrying t c e) s c waiting e →
      StepsTo riding carrying s t (MessageMove c)
  message_steps riding carrying s t c waiting e port is still made =
      let p : Port R K = port_taken riding carrying (port_at carrying s.memory.ports c) in
      let after : waiting ≡ waits p.cache = still
      ∙ ap (λ (q : Port R K). waits q.cache) (port_there carrying s.memory c p port) in
      subst (λ (x : Event). t ≡ received_by riding carrying (rider_in riding carrying t c x) s c (waits p.cache) x) is
      (subst (λ (w : Bool). t ≡ received_by riding carrying (rider_in riding carrying t c e) s c w e) after made)

  pub message_granted : (riding : Riding R) (carrying : Carrying K) (s first u t : State R K) (c : ℕ) (waiting : Bool) →
      c < length s.cores →
      c < length s.memory.ports → true ≡ data_next (port_at carrying s.memory.ports c).messages.items →
      waiting ≡ waits (port_at carrying (take_message riding carrying s.memory c).ports c).cache →
      first ≡ taken riding carrying s c → HasDone riding carrying first u c (granting riding carrying first c) →
      t ≡ asked_by u c waiting → StepsTo riding carrying s t (MessageMove c)
  message_granted riding carrying s first u t c waiting here port came still took did made =
      let e : Event = granting riding carrying (taken riding carrying s c) c in
      let rider : R = rider_in riding carrying u c e in
      let memory : t.memory ≡ u.memory = ap (λ (x : State R K). x.memory) made in
      let done : HasDone riding carrying (taken riding carrying s c) u c e =
      subst (λ (x : State R K). HasDone riding carrying x u c (granting riding carrying x c)) took did in
      message_steps riding carrying s t c waiting e port (event_received riding carrying s c true port came) still
      (made ∙ ap (λ (x : State R K). asked_by x c waiting) done ∙ granted_received riding carrying rider s c waiting e
      here
      ∙ ap (λ (m : Memory R K). received_by riding carrying (rider_of_event riding (ordering_of e)
      (port_at carrying m.ports c)) s c waiting e) (sym memory))

  pub message_quiet : (riding : Riding R) (carrying : Carrying K) (s first t : State R K) (c : ℕ) (waiting : Bool) →
      c < length s.memory.ports →
      false ≡ data_next (port_at carrying s.memory.ports c).messages.items →
      waiting ≡ waits (port_at carrying (take_message riding carrying s.memory c).ports c).cache →
      first ≡ taken riding carrying s c → t ≡ asked_by first c waiting → StepsTo riding carrying s t (MessageMove c)
  message_quiet riding carrying s first t c waiting port came still took made =
      message_steps riding carrying s t c waiting Nothing port (event_received riding carrying s c false port came)
      still
      (made ∙ ap (λ (x : State R K). asked_by x c waiting) took)
