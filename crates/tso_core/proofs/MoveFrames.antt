-- What each move leaves of cores, ports and what is noted beside them.
use Rattle.std.proofs.Common.{◌≡◌, ◌≢◌, ◌∙◌, refl, sym, subst, ap, ℕ, ◌<◌, ◌≤◌, true, List, length, get_or}
use Rattle.std.proofs.Common.{◌++◌, arith, Option}
use Rattle.std.specs.Prelude.{slice_set}
use Rattle.std.proofs.lemmas.List.{get_or_read, set-get_or}
use Rattle.access_times.specs.Riding.{Riding, Carrying}
use Rattle.rv_core.specs.Steps.{need, access_of as need_access}
use Rattle.msi_memory.specs.Acts.{TakeMessage, TakeResponse, can}
use Rattle.msi_memory.specs.Memories.{Memory, port_at}
use Rattle.msi_memory.specs.Rests.{OthersRoomy, head_roomy, requests_at}
use Rattle.msi_memory.proofs.Roomy.{each_roomy}
use Rattle.msi_laws.proofs.Spaces.{no_requests}
use Rattle.tso_state.specs.declared.moves.Move.{Move}
use Rattle.tso_state.specs.declared.moves.Move.TheVariants.{Core as CoreMove, Order as OrderMove}
use Rattle.tso_state.specs.declared.moves.Move.TheVariants.{Request as RequestMove, Response as ResponseMove}
use Rattle.tso_state.specs.declared.moves.Move.TheVariants.{FromHome as MessageMove}
use Rattle.tso_state.specs.Moves.{core_of}
use Rattle.tso_state.specs.States.{BufferedCore, State, buffered_start, core_at}
use Rattle.tso_state.specs.Steps.{acts, acts_asking, acts_told, core_left, enabled, event, head_access, step}
use Rattle.tso_state.specs.Steps.{told}
use Rattle.tso_invariant.specs.Holds.{TsoHolds}
use Rattle.tso_invariant.proofs.MoveInvariant.{core_port, enabled_core, holds_kept, step_cores}
use Rattle.tso_core.specs.declared.marks.Marks.{Marks}
use Rattle.tso_core.specs.declared.standing.Standing.{Standing}
use Rattle.tso_core.specs.Machineries.{Machinery, heads_roomy}
use Rattle.tso_core.specs.Marks.{AllMarked, CoresMarked, OthersMarked}
use Rattle.tso_core.specs.Moving.{StepsTo, rider_left}
use Rattle.tso_core.specs.Standings.{IsAtPort, NotesFit, OwnMarked, StandingsFit, standing_at}
use Rattle.tso_core.specs.Workings.{MayAsk}
use Rattle.rtr_types.specs.CoreSets.{has}
use Rattle.rtr_types.specs.declared.TheConstants.{CORES_MAX}
use Rattle.rtr_types.specs.declared.access.Kind.{Kind}
use Rattle.move_marks.specs.declared.marks.MoveKind.{MoveKind}
use Rattle.move_marks.specs.declared.marks.MoveKind.TheVariants.{Own, Response, FromHome}
use Rattle.move_marks.specs.declared.marks.MoveMarks.{MoveMarks}
use Rattle.move_marks.specs.Kinds.{set_of}
use Rattle.move_marks.specs.Ports.{PortsMarkedBut}
use Rattle.move_marks.proofs.TurnMarks.{each}
use Rattle.move_marks.proofs.OnePort.{links_marked, port_renewed, same_long}
use Rattle.move_marks.proofs.NextMoves.{request_stays, response_stays}
use Rattle.tso_core.proofs.AtPort.{AreHere, acts_here, asking_here, here_append, links, own_links, port_acts}
use Rattle.tso_core.proofs.AtPort.{telling_here}
use Rattle.machine_ports.proofs.Elsewhere.{MovedAt, OthersStay, others_stay}
use Rattle.tso_core.proofs.Elsewhere.{order_elsewhere, own_elsewhere}
use Rattle.tso_core.proofs.Heads.{order_standing}
use Rattle.tso_core.proofs.MarksAfterMoves.{order_marked, own_marked}
use Rattle.tso_core.proofs.Standings.{moved_stands, stands_at}

module _ {R K : Type 0} where
  -- ---- a core's own move, the ordering of an access, and a message

  core_here : (riding : Riding R) (carrying : Carrying K) (rider : R) (s : State R K) (c : ℕ) →
      AreHere c (acts riding carrying rider s (CoreMove c))
  core_here riding carrying rider s c =
      let e = event riding carrying s (CoreMove c) in
      here_append c _ (acts_told c rider (told riding carrying s (CoreMove c)))
      (asking_here R c (need_access (need s.image (core_at s.cores c).core)) e)
      (telling_here c rider (told riding carrying s (CoreMove c)))

  order_here : (riding : Riding R) (carrying : Carrying K) (rider : R) (s : State R K) (c : ℕ) →
      AreHere c (acts riding carrying rider s (OrderMove c))
  order_here riding carrying rider s c =
      let e = event riding carrying s (OrderMove c) in
      here_append c _ (acts_told c rider (told riding carrying s (OrderMove c)))
      (asking_here R c (head_access (core_at s.cores c).queue) e)
      (telling_here c rider (told riding carrying s (OrderMove c)))

  message_here : (riding : Riding R) (carrying : Carrying K) (rider : R) (s : State R K) (c : ℕ) →
      AreHere c (acts riding carrying rider s (MessageMove c))
  message_here riding carrying rider s c = (refl, telling_here c rider (told riding carrying s (MessageMove c)))

  -- such acts change their core's port alone
  memory_is : (riding : Riding R) (carrying : Carrying K) (rider : R) (s t : State R K) (m : Move) →
      core_of m < length s.memory.ports →
      AreHere (core_of m) (acts riding carrying rider s m) → t ≡ step riding carrying rider s m →
      t.memory ≡ record s.memory {
        ports = slice_set s.memory.ports (core_of m)
            (port_acts riding carrying (acts riding carrying rider s m) (port_at carrying s.memory.ports (core_of m)));
      }
  memory_is riding carrying rider s t m within here is =
      ap (λ (x : State R K). x.memory) is ∙ acts_here riding carrying s.memory (core_of m)
      (acts riding carrying rider s m) here within

  moves_by : (riding : Riding R) (carrying : Carrying K) (rider : R) (s t : State R K) (m : Move) →
      core_of m < length s.memory.ports →
      AreHere (core_of m) (acts riding carrying rider s m) → t ≡ step riding carrying rider s m →
      (step riding carrying rider s m).cores ≡ slice_set s.cores (core_of m) (core_left riding carrying s m) →
      MovedAt s t (core_of m)
  moves_by riding carrying rider s t m within here is cores =
      let memory = memory_is riding carrying rider s t m within here is in
      record {
        image = ap (λ (x : State R K). x.image) is;
        cores = record { one = core_left riding carrying s m; is = ap (λ (x : State R K). x.cores) is ∙ cores };
        memory = record {
          ports = record {
            one = port_acts riding carrying (acts riding carrying rider s m)
                (port_at carrying s.memory.ports (core_of m));
            is = ap (λ (n : Memory R K). n.ports) memory;
          };
          home = ap (λ (n : Memory R K). n.home) memory;
        };
      }

  pub core_moves : (riding : Riding R) (carrying : Carrying K) (rider : R) (s t : State R K) (c : ℕ) →
      c < length s.memory.ports →
      t ≡ step riding carrying rider s (CoreMove c) → MovedAt s t c
  core_moves riding carrying rider s t c within is = moves_by riding carrying rider s t (CoreMove c) within
      (core_here riding carrying rider s c) is refl

  pub order_moves : (riding : Riding R) (carrying : Carrying K) (rider : R) (s t : State R K) (c : ℕ) →
      c < length s.memory.ports →
      t ≡ step riding carrying rider s (OrderMove c) → MovedAt s t c
  order_moves riding carrying rider s t c within is = moves_by riding carrying rider s t (OrderMove c) within
      (order_here riding carrying rider s c) is refl

  pub message_moves : (riding : Riding R) (carrying : Carrying K) (rider : R) (s t : State R K) (c : ℕ) →
      c < length s.memory.ports →
      t ≡ step riding carrying rider s (MessageMove c) → MovedAt s t c
  message_moves riding carrying rider s t c within is =
      moves_by riding carrying rider s t (MessageMove c) within (message_here riding carrying rider s c) is refl

  -- a core's own move and an ordering change neither the port's responses nor its messages
  pub record OwnMoved (carrying : Carrying K) (s t : State R K) (c : ℕ) : Type 0 where
    pub moved : MovedAt s t c
    pub same : links moved.memory.ports.one ≡ links (port_at carrying s.memory.ports c)

  own_moved : (riding : Riding R) (carrying : Carrying K) (rider : R) (s t : State R K) (m : Move)
      (wanted : Option (Kind × ℕ)) (moved : MovedAt s t (core_of m)) →
      moved.memory.ports.one ≡ port_acts riding carrying (acts_asking (core_of m) wanted (event riding carrying s m)
      ++ acts_told (core_of m) rider (told riding carrying s m)) (port_at carrying s.memory.ports (core_of m)) →
      OwnMoved carrying s t (core_of m)
  own_moved riding carrying rider s t m wanted moved is =
      record {
        moved = moved;
        same = ap links is ∙ own_links riding carrying (core_of m) rider wanted (event riding carrying s m)
            (told riding carrying s m) (port_at carrying s.memory.ports (core_of m));
      }

  pub core_moved : (riding : Riding R) (carrying : Carrying K) (rider : R) (s t : State R K) (c : ℕ) →
      c < length s.memory.ports → t ≡ step riding carrying rider s (CoreMove c) → OwnMoved carrying s t c
  unfolding core_moves moves_by
  core_moved riding carrying rider s t c port is =
      own_moved riding carrying rider s t (CoreMove c) (need_access (need s.image (core_at s.cores c).core))
      (core_moves riding carrying rider s t c port is) refl

  pub order_moved : (riding : Riding R) (carrying : Carrying K) (rider : R) (s t : State R K) (c : ℕ) →
      c < length s.memory.ports → t ≡ step riding carrying rider s (OrderMove c) → OwnMoved carrying s t c
  unfolding order_moves moves_by
  order_moved riding carrying rider s t c port is =
      own_moved riding carrying rider s t (OrderMove c) (head_access (core_at s.cores c).queue)
      (order_moves riding carrying rider s t c port is) refl

  -- ---- a move changes no requests but those of its own core
  module _ (riding : Riding R) (carrying : Carrying K) (rider : R) (s : State R K) where
    requests_stay : (m : Move) → core_of m < length s.memory.ports →
        OthersStay s (step riding carrying rider s m) (core_of m)
    requests_stay (CoreMove c) within = others_stay carrying (core_moves riding carrying rider s _ c within refl)
    requests_stay (OrderMove c) within = others_stay carrying (order_moves riding carrying rider s _ c within refl)
    requests_stay (MessageMove c) within = others_stay carrying (message_moves riding carrying rider s _ c within refl)
    requests_stay (RequestMove c) within = (request_stays riding carrying s.memory c).requests
    requests_stay (ResponseMove c) within = (response_stays riding carrying s.memory c).requests

  -- so where each head's block had room, only the mover's may have none
  pub others_roomy : (riding : Riding R) (carrying : Carrying K) (rider : R) (old new : Machinery R K) (m : Move) →
      core_of m < length old.state.memory.ports → heads_roomy old ≡ true →
      new.state ≡ step riding carrying rider old.state m → new.rooms ≡ old.rooms →
      OthersRoomy new.state.memory.ports (core_of m) new.rooms
  others_roomy riding carrying rider old new m within roomy is same d other =
      (λ i. head_roomy (requests_at (is i).memory.ports d) (same i))
      ∙ (λ i. head_roomy (requests_stay riding carrying rider old.state m within d other i) old.rooms)
      ∙ each_roomy old.state.memory.ports old.rooms roomy d

  -- ---- what is kept of each core follows a move that can be made
  pub kept_here : (riding : Riding R) (carrying : Carrying K) (s : State R K) (taken : Move) (c : ℕ)
      (standings : List Standing) (d : Standing) →
      TsoHolds riding carrying s → enabled riding carrying s taken ≡ true → core_of taken ≡ c →
      StandingsFit s standings →
      get_or standings c d ≡ standing_at s c
  kept_here riding carrying s taken c standings d holds can_be at fit =
      stands_at s standings c d fit (subst (λ (k : ℕ). k < length s.cores) at (enabled_core riding carrying s taken
      can_be holds))

  pub kept_moved : (riding : Riding R) (carrying : Carrying K) (s t : State R K) (taken : Move) (c : ℕ)
      (standings : List Standing) (kept : Standing) → TsoHolds riding carrying s →
      enabled riding carrying s taken ≡ true → core_of taken ≡ c → StandingsFit s standings →
      (c < length s.memory.ports → MovedAt s t c) → kept ≡ standing_at t c →
      StandingsFit t (slice_set standings c kept)
  kept_moved riding carrying s t taken c standings kept holds can_be at fit moved stands =
      let here : c < length s.cores = subst (λ (k : ℕ). k < length s.cores) at (enabled_core riding carrying s taken
      can_be holds) in
      moved_stands carrying s t standings c kept (moved (core_port riding carrying s c holds here)) fit here stands

  -- where a core's oldest access is ordered, what is kept of it stays
  pub order_stands : (riding : Riding R) (carrying : Carrying K) (rider : R) (s t : State R K) (taken : Move) (c : ℕ)
      (standings : List Standing) (d : Standing) → TsoHolds riding carrying s →
      enabled riding carrying s taken ≡ true → core_of taken ≡ c → StandingsFit s standings →
      t ≡ step riding carrying rider s (OrderMove c) → StandingsFit t standings
  order_stands riding carrying rider s t taken c standings d holds can_be at fit is =
      let here : c < length s.cores = subst (λ (k : ℕ). k < length s.cores) at (enabled_core riding carrying s taken
      can_be holds) in
      subst (λ (xs : List Standing). StandingsFit t xs) (set-get_or standings c d)
      (kept_moved riding carrying s t taken c standings (get_or standings c d) holds can_be at fit
      (λ port. order_moves riding carrying rider s t c port is)
      (kept_here riding carrying s taken c standings d holds can_be at fit
      ∙ order_standing riding carrying rider s t c is here))

  -- ---- the core that is seen in its place at its port
  module _ {seen now : Machinery R K} {c : ℕ} (view : seen ≡ now) (here : c < length now.state.cores) {t : BufferedCore}
      (read : t ≡ get_or seen.state.cores c t) where
    core_seen : core_at now.state.cores c ≡ t
    core_seen =
        sym (get_or_read seen.state.cores c t (subst (λ (x : Machinery R K). c < length x.state.cores) (sym view) here)
        read (buffered_start 0 0)
        ∙ ap (λ (x : Machinery R K). core_at x.state.cores c) view)

    pub port_of_seen : {carrying : Carrying K} → IsAtPort carrying now.state.memory (core_at now.state.cores c) c →
        IsAtPort carrying seen.state.memory t c
    port_of_seen {carrying} at =
        subst (λ (u : BufferedCore). IsAtPort carrying seen.state.memory u c) core_seen
        (subst (λ (x : Machinery R K). IsAtPort carrying x.state.memory (core_at now.state.cores c) c) (sym view) at)

    pub marked_of_seen : {riding : Riding R} (carrying : Carrying K) {kept : Standing} {old new : Marks} →
        OwnMarked riding (port_at carrying seen.state.memory.ports c) t kept c old new →
        OwnMarked riding (port_at carrying now.state.memory.ports c) (core_at now.state.cores c) kept c old new
    marked_of_seen {riding} carrying {kept} {old} {new} marked =
        subst (λ (x : Machinery R K). OwnMarked riding (port_at carrying x.state.memory.ports c)
        (core_at now.state.cores c) kept c old new) view
        (subst (λ (u : BufferedCore). OwnMarked riding (port_at carrying seen.state.memory.ports c) u kept c old new)
        (sym core_seen) marked)

  -- ---- the machine after a move that can be made
  module _ {riding : Riding R} {carrying : Carrying K} {s : State R K} {taken m : Move} (now : Machinery R K) {c : ℕ}
      (at : taken ≡ m) (holds : TsoHolds riding carrying s) (was : enabled riding carrying s taken ≡ true)
      (is : StepsTo riding carrying s now.state m) (mine : core_of m ≡ c) where
    can_be : enabled riding carrying s m ≡ true
    can_be = subst (λ (x : Move). enabled riding carrying s x ≡ true) at was

    after : TsoHolds riding carrying now.state
    after = subst (λ (t : State R K). TsoHolds riding carrying t) (sym is)
        (holds_kept riding carrying s m (rider_left riding carrying s now.state m) can_be holds)

    pub core_before : c < length s.cores
    core_before = subst (λ (d : ℕ). d < length s.cores) mine (enabled_core riding carrying s m can_be holds)

    pub port_before : c < length s.memory.ports
    port_before = core_port riding carrying s c holds core_before

    core_few : c < CORES_MAX
    core_few =
        let few : length s.memory.ports ≤ CORES_MAX = holds.memory.cores in
        let there : c < length s.memory.ports = port_before in
        omega arith

    pub core_after : c < length now.state.cores
    core_after = subst (λ (n : ℕ). c < n)
        (sym (ap (λ (t : State R K). length t.cores) is
        ∙ step_cores riding carrying (rider_left riding carrying s now.state m) s m)) core_before

    port_after : c < length now.state.memory.ports
    port_after = core_port riding carrying now.state c after core_after

    pub at_port : IsAtPort carrying now.state.memory (core_at now.state.cores c) c
    at_port = record { few = core_few; here = port_after; asked = (after.cores c core_after).waiting }

    -- what can be done by itself was marked
    module _ {kept : Standing} {old new : Marks} (stands : kept ≡ standing_at now.state c)
        (all : AllMarked riding carrying s old)
        (marked : OwnMarked riding (port_at carrying now.state.memory.ports c) (core_at now.state.cores c) kept c old
        new) where
      cores_marked : MovedAt s now.state c → CoresMarked riding carrying now.state new
      cores_marked moved =
          record {
            cores = marked.cores ∙ all.cores.cores ∙ sym (same_long s.cores now.state.cores c moved.cores);
            own = each (λ d. has (set_of Own new.moves) d) (λ d. enabled riding carrying now.state (CoreMove d)) c
                (marked.own ∙ own_marked riding carrying now.state c kept core_after stands)
                (λ d other. marked.others Own d (λ one. other) ∙ all.cores.own d
                ∙ sym (own_elsewhere riding carrying s now.state c d moved other));
            orders = each (λ d. has new.orders d) (λ d. enabled riding carrying now.state (OrderMove d)) c
                (marked.order ∙ order_marked riding carrying now.state c core_after)
                (λ d other. marked.orders d other ∙ all.cores.orders d
                ∙ sym (order_elsewhere riding carrying s now.state c d moved other));
          }

      pub own_marks : (c < length s.memory.ports → OwnMoved carrying s now.state c) →
          OthersMarked riding carrying now.state new c
      own_marks moved =
          let own : OwnMoved carrying s now.state c = moved port_before in
          record {
            cores = cores_marked own.moved;
            ports = links_marked carrying s.memory now.state.memory c own.moved.memory riding old.moves new.moves
                all.ports port_before (λ i. (own.same i).0) (λ i. (own.same i).1)
                (λ k port d. marked.others k d (λ one. λ here. port one));
          }

      -- where the port's marks are renewed behind them
      pub port_marks : (c < length s.memory.ports → MovedAt s now.state c) → {seen : Machinery R K} → seen ≡ now →
          {later : MoveMarks} →
          has (set_of Response later) c ≡ can riding carrying seen.state.memory (TakeResponse c) →
          has (set_of FromHome later) c ≡ can riding carrying seen.state.memory (TakeMessage c) →
          ((k : MoveKind) (d : ℕ) → (k ≡ Response → d ≢ c) → (k ≡ FromHome → d ≢ c) →
          has (set_of k later) d ≡ has (set_of k new.moves) d) →
          OthersMarked riding carrying now.state (record new { moves = later }) c
      port_marks moves {seen} view {later} response message kept_marks =
          let moved : MovedAt s now.state c = moves port_before in
          let here : CoresMarked riding carrying now.state new = cores_marked moved in
          record {
            cores = record {
              cores = here.cores;
              own = λ d. kept_marks Own d (λ (e : Own ≡ Response). cc) (λ (e : Own ≡ FromHome). cc) ∙ here.own d;
              orders = here.orders;
            };
            ports = port_renewed carrying s.memory now.state.memory c moved.memory riding old.moves new.moves later
                all.ports (λ k port d. marked.others k d (λ one. λ here. port one))
                (response ∙ ap (λ (x : Machinery R K). can riding carrying x.state.memory (TakeResponse c)) view)
                (message ∙ ap (λ (x : Machinery R K). can riding carrying x.state.memory (TakeMessage c)) view)
                kept_marks;
          }

    -- what is seen of its ports
    module _ {seen : Machinery R K} (view : seen ≡ now) where
      pub port_seen : c < length seen.state.memory.ports
      port_seen = subst (λ (x : Machinery R K). c < length x.state.memory.ports) (sym view) port_after

      pub ports_few : length seen.state.memory.ports ≤ CORES_MAX
      ports_few = subst (λ (x : Machinery R K). length x.state.memory.ports ≤ CORES_MAX) (sym view)
          after.memory.cores

  -- a machine's notes follow a move
  pub notes_kept : (riding : Riding R) (carrying : Carrying K) (old new : Machinery R K) (m : Move)
      (standings kept : List Standing) (marks : Marks)
      (mover : ℕ) → heads_roomy old ≡ true → TsoHolds riding carrying old.state →
      enabled riding carrying old.state m ≡ true →
      StepsTo riding carrying old.state new.state m → new.rooms ≡ old.rooms → StandingsFit new.state kept →
      standings ≡ kept →
      OthersMarked riding carrying new.state marks (core_of m) → mover ≡ core_of m →
      NotesFit riding carrying new standings marks mover
  notes_kept riding carrying old new m standings kept marks mover roomy holds can_be is same fit all others mine =
      let later : TsoHolds riding carrying new.state = after new refl holds can_be is refl in
      record {
        holds = later;
        stands = subst (λ (xs : List Standing). StandingsFit new.state xs) (sym all) fit;
        cores = others.cores;
        ports = record {
          long = others.cores.cores ∙ sym later.ports_there;
          marked = subst (λ (c : ℕ). PortsMarkedBut riding carrying new.state.memory marks.moves c) (sym mine)
              others.ports;
          past = λ out. absurd (omega (
            arith,
            out,
            mine,
            later.ports_there,
            core_after new refl holds can_be is refl,
          ));
          roomy = subst (λ (c : ℕ). OthersRoomy new.state.memory.ports c new.rooms) (sym mine)
              (others_roomy riding carrying (rider_left riding carrying old.state new.state m) old new m
              (port_before new refl holds can_be is refl) roomy is same);
        };
      }

  -- a port that doesn't wait has room for a request
  pub room_still : (riding : Riding R) (carrying : Carrying K) (s : State R K) (m : Move) (c : ℕ) →
      TsoHolds riding carrying s →
      enabled riding carrying s m ≡ true → core_of m ≡ c → MayAsk carrying s c
  room_still riding carrying s m c h can_be mine still =
      let within : c < length s.cores = subst (λ (d : ℕ). d < length s.cores) mine (enabled_core riding carrying s m
      can_be h) in
      let there : c < length s.memory.ports = core_port riding carrying s c h within in
      rw (no_requests riding carrying s.memory c h.memory there still, (h.memory.ports c there).requests_room)
      (omega arith)
