-- What each move leaves of cores, ports and what is noted beside them.
use Rattle.std.proofs.Common.{◌≡◌, ◌≢◌, ◌∙◌, ◌⊎◌, inl, inr, refl, sym, subst, ap, ℕ, ◌<◌, ◌≤◌, Bool, true}
use Rattle.std.proofs.Common.{List, [], ◌∷◌, length, get_or, Option, Some, None}
use Rattle.std.specs.Prelude.{is_some, map, slice_set}
use Rattle.std.proofs.lemmas.Bool.{cases_eq}
use Rattle.std.proofs.lemmas.List.{length-map}
use Rattle.access_times.specs.Riding.{Riding, Carrying}
use Rattle.rtr_types.specs.declared.access.Kind.{Kind}
use Rattle.rtr_types.specs.declared.instr.Instr.{Instr}
use Rattle.msi_cache.specs.declared.messages.FromHome.{FromHome}
use Rattle.msi_cache.specs.declared.messages.Response.{Response as ResponseItem}
use Rattle.link_order.specs.Queue.{Queue}
use Rattle.rv_core.specs.Steps.{need, access_of as need_access}
use Rattle.msi_memory.specs.declared.port.Mail.{Mail}
use Rattle.msi_memory.specs.declared.port.Port.{Port}
use Rattle.msi_memory.specs.Acts.{TakeMessage, TakeResponse, answer_to, can, port_answering, port_hearing, port_taking}
use Rattle.msi_memory.specs.Acts.{TakeRequest}
use Rattle.msi_memory.specs.Memories.{Memory, port_at}
use Rattle.msi_memory.specs.Rests.{OthersRoomy, head_roomy, requests_at}
use Rattle.msi_memory.proofs.Roomy.{each_roomy}
use Rattle.msi_state.specs.declared.moves.Move.{Move}
use Rattle.msi_state.specs.declared.moves.Move.TheVariants.{Core as CoreMove, Request as RequestMove}
use Rattle.msi_state.specs.declared.moves.Move.TheVariants.{Response as ResponseMove, FromHome as MessageMove}
use Rattle.msi_state.specs.Events.{Event, Nothing, Retires, Accesses, instr_of, port_taken}
use Rattle.msi_state.specs.Moves.{core_of}
use Rattle.msi_state.specs.Rests.{heads_roomy}
use Rattle.msi_state.specs.States.{Machinery, State, core_at}
use Rattle.msi_state.specs.Steps.{StepsTo, enabled, event, rider_left, step}
use Rattle.machine_invariant.specs.Holds.{MachineHolds}
use Rattle.machine_invariant.proofs.Awaits.{core_port, enabled_core}
use Rattle.machine_invariant.proofs.MoveInvariant.{holds_kept}
use Rattle.machine_invariant.proofs.StepFrame.{core_after, core_memory, message_memory, port_told, port_worked}
use Rattle.msi_machine.specs.declared.marks.Marks.{Marks}
use Rattle.msi_machine.specs.declared.standing.Standing.{Standing}
use Rattle.msi_machine.specs.Marks.{AllMarked, OthersMarked, asker_of}
use Rattle.msi_machine.specs.Standings.{MoveNoted, NotesFit, StandingsFit, may_work, standing_at}
use Rattle.rtr_types.specs.CoreSets.{has}
use Rattle.move_marks.specs.declared.marks.MoveKind.{MoveKind}
use Rattle.move_marks.specs.declared.marks.MoveKind.TheVariants.{Own, Request, Response, FromHome as FromHomeKind}
use Rattle.move_marks.specs.declared.marks.MoveMarks.{MoveMarks}
use Rattle.move_marks.specs.Kinds.{set_of}
use Rattle.rtr_types.specs.declared.TheConstants.{CORES_MAX}
use Rattle.move_marks.specs.Ports.{PortsMarked}
use Rattle.move_marks.proofs.Acts.{can_past, waits_by}
use Rattle.move_marks.proofs.AnswerMarks.{false_true}
use Rattle.move_marks.proofs.TurnMarks.{one_request}
use Rattle.move_marks.proofs.NextMoves.{PortsStay, request_leaves_none, request_stays}
use Rattle.move_marks.proofs.NextMoves.{response_requests, response_stays}
use Rattle.move_marks.proofs.Lateness.{late_marked}
use Rattle.move_marks.proofs.OnePort.{links_marked, port_renewed, request_as_before, requests_same}
use Rattle.move_marks.proofs.OnePort.{same_long}
use Rattle.machine_ports.proofs.Elsewhere.{MovedAt, OthersStay, others_stay}
use Rattle.msi_machine.proofs.MarksAfterMoves.{all_others, own_followed, turn_marked}
use Rattle.msi_machine.proofs.Standings.{moved_stands, stands_at, turned_stands}
use Rattle.machine_bound.proofs.Payments.{cores_set}

module _ {R K : Type 0} where
  -- a move that sets one port, that of its own core
  moved_at : (riding : Riding R) (carrying : Carrying K) (rider : R) (s t : State R K) (m : Move) →
      t ≡ step riding carrying rider s m → (port : Port R K) →
      (step riding carrying rider s m).memory
      ≡ record s.memory { ports = slice_set s.memory.ports (core_of m) port } →
      MovedAt s t (core_of m)
  moved_at riding carrying rider s t m is port memory =
      record {
        image = ap (λ (x : State R K). x.image) is;
        cores = record {
          one = core_after s.image (event riding carrying s m) (core_at s.cores (core_of m));
          is = ap (λ (x : State R K). x.cores) is
              ∙ cores_set s.image (core_of m) (event riding carrying s m) s.cores;
        };
        memory = record {
          ports = record {
            one = port;
            is = ap (λ (x : State R K). x.memory.ports) is
                ∙ ap (λ (m : Memory R K). m.ports) memory;
          };
          home = ap (λ (x : State R K). x.memory.home) is ∙ ap (λ (m : Memory R K). m.home) memory;
        };
      }

  -- a core's own move
  pub core_moves : (riding : Riding R) (carrying : Carrying K) (rider : R) (s t : State R K) (c : ℕ) →
      c < length s.memory.ports →
      t ≡ step riding carrying rider s (CoreMove c) → MovedAt s t c
  core_moves riding carrying rider s t c within is =
      moved_at riding carrying rider s t (CoreMove c) is
      (port_worked riding carrying rider (need_access (need s.image (core_at s.cores c)))
      (event riding carrying s (CoreMove c)) (port_at carrying s.memory.ports c))
      (core_memory riding carrying rider s c within)

  -- it changes neither the port's responses nor its messages
  abbrev links : Port R K → Queue (Mail (ResponseItem R) K) × Queue (Mail (FromHome R) K)
  links p = (p.responses, p.messages)

  worked_links : (riding : Riding R) (carrying : Carrying K) (rider : R) (needed : Option (Kind × ℕ)) (e : Event)
      (p : Port R K) → links (port_worked riding carrying rider needed e p) ≡ links p
  worked_links riding carrying rider None Nothing p = refl
  worked_links riding carrying rider (Some (kind, word)) Nothing p = refl
  worked_links riding carrying rider needed (Retires at) p = refl
  worked_links riding carrying rider needed (Accesses a) p = refl

  pub core_marks : (riding : Riding R) (carrying : Carrying K) (rider : R) (s t : State R K) (old : Marks)
      (new : MoveMarks) (c : ℕ) (kept : Standing) →
      AllMarked riding carrying s old → t ≡ step riding carrying rider s (CoreMove c) → c < length s.cores →
      c < length s.memory.ports →
      kept ≡ standing_at carrying t c → has (set_of Own new) c ≡ may_work kept →
      ((k : MoveKind) (d : ℕ) → (k ≡ Own → d ≢ c) → has (set_of k new) d ≡ has (set_of k old.moves) d) →
      OthersMarked riding carrying t (record old { moves = new }) c
  unfolding core_moves moved_at
  core_marks riding carrying rider s t old new c kept all is here port stands this others =
      let p : Port R K = port_at carrying s.memory.ports c in
      let moved : MovedAt s t c = core_moves riding carrying rider s t c port is in
      let same : links moved.memory.ports.one ≡ links p =
      worked_links riding carrying rider (need_access (need s.image (core_at s.cores c)))
      (event riding carrying s (CoreMove c)) p in
      record {
        cores = all.cores ∙ sym (same_long s.cores t.cores c moved.cores);
        own = own_followed riding carrying s t old.moves new c kept all.own moved here stands this
            (λ d other. others Own d (λ same. other));
        ports = links_marked carrying s.memory t.memory c moved.memory riding old.moves new all.ports port
            (λ i. (same i).0) (λ i. (same i).1)
            (λ k port_kind d. others k d (λ own. λ at. port_kind own));
      }

  -- nor, where an instruction retires, its requests
  worked_requests : (riding : Riding R) (carrying : Carrying K) (rider : R) (needed : Option (Kind × ℕ)) (e : Event)
      (p : Port R K) → is_some (instr_of e) ≡ true →
      (port_worked riding carrying rider needed e p).requests ≡ p.requests
  worked_requests riding carrying rider needed Nothing p some = false_true some
  worked_requests riding carrying rider needed (Retires at) p some = refl
  worked_requests riding carrying rider needed (Accesses a) p some = refl

  request_kept : (riding : Riding R) (carrying : Carrying K) (rider : R) (s t : State R K) (c : ℕ) →
      t ≡ step riding carrying rider s (CoreMove c) → c < length s.memory.ports →
      is_some (instr_of (event riding carrying s (CoreMove c))) ≡ true →
      enabled riding carrying t (RequestMove c) ≡ enabled riding carrying s (RequestMove c)
  unfolding core_moves moved_at
  request_kept riding carrying rider s t c is port some =
      request_as_before carrying s.memory t.memory c (core_moves riding carrying rider s t c port is).memory riding port
      (worked_requests riding carrying rider (need_access (need s.image (core_at s.cores c)))
      (event riding carrying s (CoreMove c)) (port_at carrying s.memory.ports c) some)

  -- so no move is left open then
  pub core_retired_marks : (riding : Riding R) (carrying : Carrying K) (rider : R) (s t : State R K) (old : Marks)
      (new : MoveMarks) (c : ℕ) (kept : Standing) (retired : Option Instr) →
      retired ≡ instr_of (event riding carrying s (CoreMove c)) → is_some retired ≡ true →
      AllMarked riding carrying s old → t ≡ step riding carrying rider s (CoreMove c) → c < length s.cores →
      c < length s.memory.ports →
      kept ≡ standing_at carrying t c → has (set_of Own new) c ≡ may_work kept →
      ((k : MoveKind) (d : ℕ) → (k ≡ Own → d ≢ c) → has (set_of k new) d ≡ has (set_of k old.moves) d) →
      AllMarked riding carrying t (record old { moves = new })
  core_retired_marks riding carrying rider s t old new c kept retired told some all is here port stands this others =
      let but : OthersMarked riding carrying t (record old { moves = new }) c =
      core_marks riding carrying rider s t old new c kept all is here port stands this others in
      record {
        cores = but.cores;
        own = but.own;
        ports = late_marked riding carrying t.memory new c but.ports
            (others Request c (λ (e : Request ≡ Own). cc)
            ∙ all.ports.requests c
            ∙ sym (request_kept riding carrying rider s t c is port
            (subst (λ (o : Option Instr). is_some o ≡ true) told some)));
      }

  -- a core takes a message
  pub message_moves : (riding : Riding R) (carrying : Carrying K) (rider : R) (s t : State R K) (c : ℕ) →
      c < length s.memory.ports →
      t ≡ step riding carrying rider s (MessageMove c) → MovedAt s t c
  message_moves riding carrying rider s t c within is =
      moved_at riding carrying rider s t (MessageMove c) is
      (port_told riding carrying rider (event riding carrying s (MessageMove c))
      (port_taken riding carrying (port_at carrying s.memory.ports c)))
      (message_memory riding carrying rider s c within)

  -- it puts down no request
  answered_requests : (p : Port R K) (answer : Option (ResponseItem R)) →
      (port_answering p answer).requests ≡ p.requests
  answered_requests p None = refl
  answered_requests p (Some response) = refl

  taken_requests : (riding : Riding R) (carrying : Carrying K) (p : Port R K)
      (items : List (Mail (FromHome R) K)) → (port_taking riding carrying p items).requests ≡ p.requests
  taken_requests riding carrying p [] = refl
  taken_requests riding carrying p (mail ∷ rest) =
      answered_requests (port_hearing riding carrying p mail rest) (answer_to riding p mail.item)

  told_requests : (riding : Riding R) (carrying : Carrying K) (rider : R) (e : Event) (p : Port R K) →
      (port_told riding carrying rider e p).requests ≡ p.requests
  told_requests riding carrying rider Nothing p = refl
  told_requests riding carrying rider (Retires at) p = refl
  told_requests riding carrying rider (Accesses a) p = refl

  message_requests : (riding : Riding R) (carrying : Carrying K) (rider : R) (e : Event) (p : Port R K) →
      (port_told riding carrying rider e (port_taken riding carrying p)).requests ≡ p.requests
  message_requests riding carrying rider e p =
      told_requests riding carrying rider e (port_taken riding carrying p)
      ∙ taken_requests riding carrying p p.messages.items

  pub message_marks : (riding : Riding R) (carrying : Carrying K) (rider : R) (s t : State R K) (old : Marks)
      (mid new : MoveMarks) (c : ℕ) (kept : Standing) →
      AllMarked riding carrying s old → t ≡ step riding carrying rider s (MessageMove c) → c < length s.cores →
      c < length s.memory.ports →
      kept ≡ standing_at carrying t c → has (set_of Own mid) c ≡ may_work kept →
      ((k : MoveKind) (d : ℕ) → (k ≡ Own → d ≢ c) → has (set_of k mid) d ≡ has (set_of k old.moves) d) →
      has (set_of Response new) c ≡ can riding carrying t.memory (TakeResponse c) →
      has (set_of FromHomeKind new) c ≡ can riding carrying t.memory (TakeMessage c) →
      ((k : MoveKind) (d : ℕ) → (k ≡ Response → d ≢ c) → (k ≡ FromHomeKind → d ≢ c) →
      has (set_of k new) d ≡ has (set_of k mid) d) → AllMarked riding carrying t (record old { moves = new })
  unfolding message_moves moved_at
  message_marks riding carrying rider s t old mid new c kept all is here port stands own others response message
      same =
      let moved : MovedAt s t c = message_moves riding carrying rider s t c port is in
      let own_same : (d : ℕ) → has (set_of Own new) d ≡ has (set_of Own mid) d =
      λ d. same Own d (λ (e : Own ≡ Response). cc) (λ (e : Own ≡ FromHomeKind). cc) in
      record {
        cores = all.cores ∙ sym (same_long s.cores t.cores c moved.cores);
        own = own_followed riding carrying s t old.moves new c kept all.own moved here stands (own_same c ∙ own)
            (λ d other. own_same d ∙ others Own d (λ one. other));
        ports = late_marked riding carrying t.memory new c
            (port_renewed carrying s.memory t.memory c moved.memory riding old.moves mid new all.ports
            (λ k port_kind d. others k d (λ one. λ at. port_kind one)) response message same)
            (same Request c (λ (e : Request ≡ Response). cc) (λ (e : Request ≡ FromHomeKind). cc)
            ∙ others Request c (λ (e : Request ≡ Own). cc)
            ∙ all.ports.requests c
            ∙ sym (request_as_before carrying s.memory t.memory c moved.memory riding port
            (message_requests riding carrying rider (event riding carrying s (MessageMove c))
            (port_at carrying s.memory.ports c))));
      }

  -- ---- a move changes no requests but those of its own core
  module _ (riding : Riding R) (carrying : Carrying K) (rider : R) (s : State R K) where
    requests_stay : (m : Move) → core_of m < length s.memory.ports →
        OthersStay s (step riding carrying rider s m) (core_of m)
    requests_stay (CoreMove c) within = others_stay carrying (core_moves riding carrying rider s _ c within refl)
    requests_stay (MessageMove c) within = others_stay carrying (message_moves riding carrying rider s _ c within refl)
    requests_stay (RequestMove c) within = (request_stays riding carrying s.memory c).requests
    requests_stay (ResponseMove c) within = (response_stays riding carrying s.memory c).requests

  -- and its own stay, or none is left, but where the core asks
  core_requests : (riding : Riding R) (carrying : Carrying K) (rider : R) (s : State R K) (c : ℕ) →
      c < length s.memory.ports → is_some (instr_of (event riding carrying s (CoreMove c))) ≡ true →
      requests_at (step riding carrying rider s (CoreMove c)).memory.ports c ≡ requests_at s.memory.ports c
  unfolding core_moves moved_at
  core_requests riding carrying rider s c within some =
      requests_same carrying s.memory (step riding carrying rider s (CoreMove c)).memory c
      (core_moves riding carrying rider s (step riding carrying rider s (CoreMove c)) c within refl).memory within
      (worked_requests riding carrying rider (need_access (need s.image (core_at s.cores c)))
      (event riding carrying s (CoreMove c)) (port_at carrying s.memory.ports c) some)

  heard_requests : (riding : Riding R) (carrying : Carrying K) (rider : R) (s : State R K) (c : ℕ) →
      c < length s.memory.ports →
      requests_at (step riding carrying rider s (MessageMove c)).memory.ports c ≡ requests_at s.memory.ports c
  unfolding message_moves moved_at
  heard_requests riding carrying rider s c within =
      requests_same carrying s.memory (step riding carrying rider s (MessageMove c)).memory c
      (message_moves riding carrying rider s (step riding carrying rider s (MessageMove c)) c within refl).memory within
      (message_requests riding carrying rider (event riding carrying s (MessageMove c))
      (port_at carrying s.memory.ports c))

  own_roomy : (riding : Riding R) (carrying : Carrying K) (rider : R) (s : State R K) (m : Move) (rooms : List Bool) →
      MachineHolds riding carrying s → core_of m < length s.memory.ports →
      core_of m ≢ asker_of m (instr_of (event riding carrying s m)) →
      head_roomy (requests_at s.memory.ports (core_of m)) rooms ≡ true →
      head_roomy (requests_at (step riding carrying rider s m).memory.ports (core_of m)) rooms ≡ true
  own_roomy riding carrying rider s (CoreMove c) rooms holds within other roomy =
      by (instr_of (event riding carrying s (CoreMove c))) refl other
    where
      by : (retired : Option Instr) → retired ≡ instr_of (event riding carrying s (CoreMove c)) →
          c ≢ asker_of (CoreMove c) retired →
          head_roomy (requests_at (step riding carrying rider s (CoreMove c)).memory.ports c) rooms ≡ true
      by None told other = absurd (other refl)
      by (Some at) told other =
          ap (λ items. head_roomy items rooms) (core_requests riding carrying rider s c within
          (sym (ap is_some told))) ∙ roomy
  own_roomy riding carrying rider s (MessageMove c) rooms holds within other roomy =
      ap (λ items. head_roomy items rooms) (heard_requests riding carrying rider s c within) ∙ roomy
  own_roomy riding carrying rider s (RequestMove c) rooms holds within other roomy =
      ap (λ items. head_roomy items rooms)
      (request_leaves_none riding carrying s.memory c within
      (one_request riding carrying s.memory c holds.memory within))
  own_roomy riding carrying rider s (ResponseMove c) rooms holds within other roomy =
      ap (λ items. head_roomy items rooms) (response_requests riding carrying s.memory c c) ∙ roomy

  -- so where each head's block had room, only that of a core that asked may have none
  pub others_roomy : (riding : Riding R) (carrying : Carrying K) (rider : R) (old new : Machinery R K) (m : Move) →
      MachineHolds riding carrying old.state → core_of m < length old.state.memory.ports → heads_roomy old ≡ true →
      new.state ≡ step riding carrying rider old.state m → new.rooms ≡ old.rooms →
      OthersRoomy new.state.memory.ports (asker_of m (instr_of (event riding carrying old.state m))) new.rooms
  others_roomy riding carrying rider old new m holds within roomy is same d other =
      (λ i. head_roomy (requests_at (is i).memory.ports d) (same i)) ∙ by d other (cases_eq d (core_of m))
    where
      by : (d : ℕ) → d ≢ asker_of m (instr_of (event riding carrying old.state m)) →
          (d ≡ core_of m) ⊎ (d ≡ core_of m → ⊥) →
          head_roomy (requests_at (step riding carrying rider old.state m).memory.ports d) old.rooms ≡ true
      by d other (inl its) =
          ap (λ (k : ℕ). head_roomy (requests_at (step riding carrying rider old.state m).memory.ports k) old.rooms) its
          ∙ own_roomy riding carrying rider old.state m old.rooms holds within (λ asks. other (its ∙ asks))
          (each_roomy old.state.memory.ports old.rooms roomy (core_of m))
      by d other (inr elsewhere) =
          ap (λ items. head_roomy items old.rooms)
          (requests_stay riding carrying rider old.state m within d elsewhere)
          ∙ each_roomy old.state.memory.ports old.rooms roomy d

  -- ---- what is kept of each core follows a move that can be made
  kept_before : (riding : Riding R) (carrying : Carrying K) (s : State R K) (taken : Move) (standings : List Standing)
      (d : Standing) →
      MachineHolds riding carrying s → enabled riding carrying s taken ≡ true → StandingsFit s standings →
      get_or standings (core_of taken) d ≡ standing_at carrying s (core_of taken)
  kept_before riding carrying s taken standings d holds can_be fit =
      let here : core_of taken < length s.cores = enabled_core riding carrying s taken can_be holds in
      stands_at carrying s standings (core_of taken) d fit here (core_port riding carrying s (core_of taken) holds here)

  pub kept_here : (riding : Riding R) (carrying : Carrying K) (s : State R K) (taken : Move) (c : ℕ)
      (standings : List Standing) (d : Standing) →
      MachineHolds riding carrying s → enabled riding carrying s taken ≡ true → core_of taken ≡ c →
      StandingsFit s standings →
      get_or standings c d ≡ standing_at carrying s c
  kept_here riding carrying s taken c standings d holds can_be at fit =
      subst (λ (k : ℕ). get_or standings k d ≡ standing_at carrying s k) at (kept_before riding carrying s taken
      standings d holds can_be fit)

  -- a move of one core sets what is kept of it
  pub kept_moved : (riding : Riding R) (carrying : Carrying K) (s t : State R K) (taken : Move) (c : ℕ)
      (standings : List Standing) (kept : Standing) → MachineHolds riding carrying s →
      enabled riding carrying s taken ≡ true → core_of taken ≡ c → StandingsFit s standings →
      (c < length s.memory.ports → MovedAt s t c) → kept ≡ standing_at carrying t c →
      StandingsFit t (slice_set standings c kept)
  kept_moved riding carrying s t taken c standings kept holds can_be at fit moved stands =
      let here : c < length s.cores = subst (λ (k : ℕ). k < length s.cores) at
      (enabled_core riding carrying s taken can_be holds) in
      let port : c < length s.memory.ports = core_port riding carrying s c holds here in
      moved_stands carrying s t standings c kept (moved port) fit here port stands

  -- the home moved, and so did the marks at the ports: no core stands at anything else, and no request is late
  pub turn_kept : (riding : Riding R) (carrying : Carrying K) (seen now : Machinery R K) → seen ≡ now →
      MachineHolds riding carrying now.state → {standings : List Standing} → StandingsFit now.state standings →
      {old : Marks} → AllMarked riding carrying now.state old → {n later : Memory R K} → n ≡ later → {c : ℕ} →
      PortsStay seen.state.memory later c → {new : MoveMarks} →
      ((d : ℕ) → has (set_of Own new) d ≡ has (set_of Own old.moves) d) → PortsMarked riding carrying n new →
      MoveNoted riding carrying (record seen.state { memory = n }) standings (record old { moves = new }) CORES_MAX
  turn_kept riding carrying seen now view holds {standings} fit {old} all {n} {later} is stays {new} own ports =
      let marked : AllMarked riding carrying (record seen.state { memory = n }) (record old { moves = new }) =
      turn_marked riding carrying seen.state n old new
      (subst (λ (m : Machinery R K). AllMarked riding carrying m.state old) (sym view) all) caches own ports in
      record {
        stands = turned_stands seen.state n standings (waits_by n.ports seen.state.memory.ports caches)
            (subst (λ (m : Machinery R K). StandingsFit m.state standings) (sym view) fit);
        marked = all_others riding carrying (record seen.state { memory = n }) (record old { moves = new }) marked
            CORES_MAX;
        unmarked = ports.requests CORES_MAX
            ∙ can_past riding carrying n (TakeRequest CORES_MAX)
            (subst (λ (k : ℕ). k ≤ CORES_MAX) (sym long)
            (subst (λ (m : Machinery R K). length m.state.memory.ports ≤ CORES_MAX) (sym view) holds.memory.cores));
      }
    where
      caches : map (λ (p : Port R K). p.cache) n.ports ≡ map (λ (p : Port R K). p.cache) seen.state.memory.ports
      caches = ap (λ (x : Memory R K). map (λ (p : Port R K). p.cache) x.ports) is ∙ stays.caches

      long : length n.ports ≡ length seen.state.memory.ports
      long = sym (length-map n.ports (λ (p : Port R K). p.cache)) ∙ (λ i. length (caches i))
          ∙ length-map seen.state.memory.ports (λ (p : Port R K). p.cache)

  -- a machine's notes follow a move
  pub notes_kept : (riding : Riding R) (carrying : Carrying K) (old new : Machinery R K) (m : Move)
      (standings kept : List Standing) (marks : Marks)
      (asker : ℕ) (retired : Option Instr) → heads_roomy old ≡ true → MachineHolds riding carrying old.state →
      enabled riding carrying old.state m ≡ true →
      StepsTo riding carrying old.state new.state m → new.rooms ≡ old.rooms → standings ≡ kept →
      MoveNoted riding carrying new.state kept marks asker → asker ≡ asker_of m retired →
      retired ≡ instr_of (event riding carrying old.state m) →
      NotesFit riding carrying new standings marks asker
  notes_kept riding carrying old new m standings kept marks asker retired roomy holds can_be is same all noted asks
      told =
      let rider : R = rider_left riding carrying old.state new.state m in
      let here : core_of m < length old.state.memory.ports =
      core_port riding carrying old.state (core_of m) holds (enabled_core riding carrying old.state m can_be holds) in
      let after : MachineHolds riding carrying new.state =
      subst (λ (s : State R K). MachineHolds riding carrying s) (sym is) (holds_kept riding carrying old.state m rider
      can_be holds) in
      record {
        holds = after;
        stands = subst (λ (xs : List Standing). StandingsFit new.state xs) (sym all) noted.stands;
        own = noted.marked.own;
        ports = record {
          long = noted.marked.cores ∙ sym after.ports_there;
          marked = noted.marked.ports;
          past = λ out. noted.unmarked;
          roomy = subst (λ (c : ℕ). OthersRoomy new.state.memory.ports c new.rooms)
              (sym (asks ∙ ap (asker_of m) told))
              (others_roomy riding carrying rider old new m holds here roomy is same);
        };
        unmarked = noted.unmarked;
      }
