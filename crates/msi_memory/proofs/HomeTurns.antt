-- The home's turn with the oldest message of a link: its answer can be delivered, and once it is, the act is done. Both
-- are shown for whatever a message does at the home, and then for requests and for responses.
use Rattle.std.proofs.Common.{◌≡◌, ◌∙◌, sym, ap, subst, refl, ℕ, ◌<◌, ◌≤◌, Bool, IsTrue, List, [], ◌∷◌, length}
use Rattle.std.proofs.Common.{drop, get_or}
use Rattle.std.specs.Prelude.{slice_set}
use Rattle.std.specs.Option.{IfSome}
use Rattle.std.proofs.lemmas.List.{get_or_read_under, length-set}
use Rattle.access_times.specs.Riding.{Riding, Carrying}
use Rattle.link_order.specs.Queue.{Queue}
use Rattle.rtr_types.specs.declared.TheConstants.{CORES_MAX}
use Rattle.msi_cache.specs.Messages.{request_block, response_block}
use Rattle.msi_cache.specs.declared.messages.Request.{Request}
use Rattle.msi_cache.specs.declared.messages.Response.{Response}
use Rattle.msi_directory.specs.Blocks.{Blocks, entry_at}
use Rattle.msi_directory.specs.Deeds.{Deed, request_deed, response_deed}
use Rattle.msi_directory.specs.Entries.{answer_riding}
use Rattle.msi_directory.specs.Table.{is_free}
use Rattle.msi_directory.specs.declared.entry.HomeAnswer.{HomeAnswer}
use Rattle.msi_memory.specs.Acts.{delivered, take_in, take_request_in, take_response_in}
use Rattle.msi_memory.specs.Heads.{OfHead}
use Rattle.msi_memory.specs.Memories.{Memory, System, no_port, port_at}
use Rattle.msi_memory.specs.Rests.{HasRoomTo, NamesFit, can_request_in, can_respond_in, request_answer_in}
use Rattle.msi_memory.specs.Rests.{response_answer_in}
use Rattle.msi_memory.specs.Turns.{IsDone, IsRequestTurn, IsResponseTurn, IsTurn}
use Rattle.msi_memory.specs.declared.port.Mail.{Mail}
use Rattle.msi_memory.specs.declared.port.Port.{Port}
use Rattle.msi_memory.specs.declared.turn.Turn.{Turn}
use Rattle.msi_memory.proofs.ServedAnswers.{below, frees, request_named, response_named}
use Rattle.msi_memory.proofs.ServedAnswers.{room_kept, same_link, same_memory}
use Rattle.msi_memory.proofs.TurnTells.{turn_is}

-- the answer can be delivered to these ports
pub record CanDeliver {R K : Type 0} (carrying : Carrying K) (answer : HomeAnswer R) (ports : List (Port R K)) : Type 0
  where
    pub cores : length ports ≤ CORES_MAX
    pub room : HasRoomTo carrying answer ports
    pub to : IfSome answer.send (λ s. s.0 < length ports)

-- the memory system is as it is to be, and what the turn tells is so
pub record HasTurned {R K : Type 0} (fresh : R) (is next : Memory R K) (roomy were : List Bool)
    (Tells : Turn → Type 0) (told : Turn) : Type 0 where
  pub memory : is ≡ next
  pub rooms : roomy ≡ were
  pub turn : Tells told
  pub free : told.free ≡ is_free (entry_at fresh is.home told.block).stage

module _ {R K : Type 0} where
  -- an answer goes to ports of which one has lost a message that it sent
  deliverable : (carrying : Carrying K) (answer said : HomeAnswer R) (ports after : List (Port R K)) (c : ℕ)
      (port : Port R K) → answer ≡ said → length ports ≤ CORES_MAX → HasRoomTo carrying said ports →
      IfSome said.send (λ s. s.0 < length ports) → after ≡ slice_set ports c port →
      port.messages ≡ (port_at carrying ports c).messages → CanDeliver carrying answer after
  deliverable carrying answer said ports after c port is few rooms named at same =
      let long : length after ≡ length ports = ap length at ∙ length-set ports c port in
      record {
        cores = subst (λ (n : ℕ). n ≤ CORES_MAX) (sym long) few;
        room = room_kept carrying answer ports after c port
            (subst (λ (a : HomeAnswer R). HasRoomTo carrying a ports) (sym is) rooms) at same;
        to = subst (λ (n : ℕ). IfSome answer.send (λ s. s.0 < n)) (sym long)
            (subst (λ (a : HomeAnswer R). IfSome a.send (λ s. s.0 < length ports)) (sym is) named);
      }

  -- the port that was found at a place is the one there
  found_at : (carrying : Carrying K) (ports : List (Port R K)) (c : ℕ) (port : Port R K) →
      port ≡ get_or ports c port → c < length ports → port ≡ port_at carrying ports c
  found_at carrying ports c port found here =
      get_or_read_under ports c (length ports) port (no_port carrying) found here refl

-- the home did this for a message, and its turn tells so
module _ {R K : Type 0} (fresh : R) (carrying : Carrying K) (done : Deed R) (sender : K) (old new : Blocks R)
    (before after : K) (hand : R) (turn : Turn)
    (is : IsDone fresh carrying done sender old new before after hand turn) where
  turned : (ports taken : List (Port R K)) → ports ≡ taken → done.block < length old.entries →
      HasTurned fresh (record {
        ports = delivered carrying (answer_riding hand turn.answer) turn.block after ports;
        home = new.entries;
        carry = after;
      }) (record {
        ports = delivered carrying (done.answer (entry_at fresh old.entries done.block)) done.block
            (carrying.joined before sender) taken;
        home = slice_set old.entries done.block (done.after (entry_at fresh old.entries done.block));
        carry = carrying.joined before sender;
      }) new.rooms old.rooms (IsTurn done.block (done.answer (entry_at fresh old.entries done.block))) turn
  turned ports taken at within =
      let kept : new.entries ≡ slice_set old.entries done.block (done.after (entry_at fresh old.entries done.block)) =
      ap (λ (b : Blocks R). b.entries) is.served.home.blocks in
      record {
        memory = same_memory carrying ports taken (answer_riding hand turn.answer)
            (done.answer (entry_at fresh old.entries done.block)) turn.block done.block after
            (carrying.joined before sender) new.entries _ at is.served.home.answer is.block is.joined kept;
        rooms = ap (λ (b : Blocks R). b.rooms) is.served.home.blocks;
        turn = turn_is hand (done.answer (entry_at fresh old.entries done.block)) done.block turn is.block
            is.served.home.answer;
        free = frees fresh old.entries new.entries done.block turn.block
            (done.after (entry_at fresh old.entries done.block)) turn.free within is.block kept is.served.free;
      }

-- a message that does this comes to the home on this link of core c's
module _ {T R K : Type 0} (riding : Riding R) (carrying : Carrying K) (does : T → Deed R)
    (link : Port R K → Queue (Mail T K)) (with_link : Port R K → Queue (Mail T K) → Port R K) (c : ℕ) where
  -- what it is answered
  abbrev said : T → Memory R K → HomeAnswer R
  said message m = (does message).answer (entry_at riding.fresh m.home (does message).block)

  -- the port with these left on the link
  abbrev port_left : Port R K → List (Mail T K) → Port R K
  port_left p rest = with_link p (record (link p) { items = rest })

  -- the memory system once the home took the message, behind which these lie
  abbrev taken : Mail T K → List (Mail T K) → Memory R K → Memory R K
  taken mail rest m = take_in (λ core message. does message) port_left (mail ∷ rest) riding carrying m c

  -- one of these is the oldest; the act with it leads to next, is answered so, and tells so
  pub record HasOldest (m : Memory R K) (items : List (Mail T K)) (next : Memory R K) (answer : HomeAnswer R)
      (Tells : Turn → Type 0) : Type 0 where
    mail : Mail T K
    rest : List (Mail T K)
    are : items ≡ mail ∷ rest
    within : (does mail.item).block < length m.home
    leads : next ≡ taken mail rest m
    answers : answer ≡ said mail.item m
    to : NamesFit m → c < length m.ports → IfSome answer.send (λ s. s.0 < length m.ports)
    tells : (turn : Turn) → IsTurn (does mail.item).block (said mail.item m) turn → Tells turn

  -- this one, where the act is what is said of it here
  first_of : (mail : Mail T K) (rest : List (Mail T K)) (m : Memory R K) → (does mail.item).block < length m.home →
      (NamesFit m → c < length m.ports → IfSome (said mail.item m).send (λ s. s.0 < length m.ports)) →
      HasOldest m (mail ∷ rest) (taken mail rest m) (said mail.item m)
      (λ turn. IsTurn (does mail.item).block (said mail.item m) turn)
  first_of mail rest m within to =
      record {
        mail = mail;
        rest = rest;
        are = refl;
        within = within;
        leads = refl;
        answers = refl;
        to = to;
        tells = λ turn is. is;
      }

-- the home did what the oldest message of core c's link does; its port was found so, and the link lost the message
module _ {T R K : Type 0} {riding : Riding R} {carrying : Carrying K} {does : T → Deed R}
    {link : Port R K → Queue (Mail T K)} {with_link : Port R K → Queue (Mail T K) → Port R K} {c : ℕ}
    {next : Memory R K} {answer : HomeAnswer R} {Tells : Turn → Type 0} (ports : List (Port R K)) (old new : Blocks R)
    (before after : K) (hand : R) (turn : Turn) (s : System R K) (port : Port R K) (left : Queue (Mail T K))
    (told : List (Port R K))
    (seen : ◌≡◌ {A = System R K} (record {
      memory = record { ports = ports; home = old.entries; carry = before };
      rooms = old.rooms;
    }) s)
    (oldest : HasOldest riding carrying does link with_link c s.memory
    (link (port_at carrying s.memory.ports c)).items next answer Tells) (here : c < length s.memory.ports)
    (found : port ≡ get_or ports c port) (at : told ≡ slice_set ports c (with_link port left))
    (did : OfHead (link port).items (λ mail. IsDone riding.fresh carrying (does mail.item) mail.carry old new before
    after hand turn)) where
  -- the memory system before, of which all holds that holds of what is seen
  abbrev start : System R K
  start = record { memory = record { ports = ports; home = old.entries; carry = before }; rooms = old.rooms }

  at_start : (P : System R K → Type 0) → P s → P start
  at_start P holds = subst P (sym seen) holds

  first : HasOldest riding carrying does link with_link c start.memory (link (port_at carrying ports c)).items next
      answer Tells
  first = at_start (λ x. HasOldest riding carrying does link with_link c x.memory
      (link (port_at carrying x.memory.ports c)).items next answer Tells) oldest

  found_there : port ≡ port_at carrying ports c
  found_there = found_at carrying ports c port found (at_start (λ x. c < length x.memory.ports) here)

  done : IsDone riding.fresh carrying (does first.mail.item) first.mail.carry old new before after hand turn
  done = subst (λ items. OfHead items (λ mail. IsDone riding.fresh carrying (does mail.item) mail.carry old new before
      after hand turn)) (ap (λ (p : Port R K). (link p).items) found_there ∙ first.are) did

  -- the answer can be delivered to the other ports and this one, of which only the link is another
  pub sends : (with_link port left).messages ≡ port.messages → length s.memory.ports ≤ CORES_MAX → NamesFit s.memory →
      HasRoomTo carrying answer s.memory.ports → CanDeliver carrying (answer_riding hand turn.answer) told
  sends same few names room =
      deliverable carrying (answer_riding hand turn.answer) answer ports told c (with_link port left)
      (done.served.home.answer ∙ sym first.answers) (at_start (λ x. length x.memory.ports ≤ CORES_MAX) few)
      (at_start (λ x. HasRoomTo carrying answer x.memory.ports) room)
      (first.to (at_start (λ x. NamesFit x.memory) names) (at_start (λ x. c < length x.memory.ports) here)) at
      (same ∙ ap (λ (p : Port R K). p.messages) found_there)

  -- and once these ports have it, the act is done
  pub took : {answered : List (Port R K)} →
      answered ≡ delivered carrying (answer_riding hand turn.answer) turn.block after told →
      left.room ≡ (link port).room → left.items ≡ drop 1 (link port).items →
      HasTurned riding.fresh (record { ports = answered; home = new.entries; carry = after }) next new.rooms s.rooms
      Tells turn
  took on_its_way room items =
      let is =
      turned riding.fresh carrying (does first.mail.item) first.mail.carry old new before after hand turn done told
      (slice_set ports c (port_left riding carrying does link with_link c (port_at carrying ports c) first.rest))
      (at
      ∙ ap (λ (q : Queue (Mail T K)). slice_set ports c (with_link port q))
      (same_link left (link port) (drop 1 (link port).items) room items)
      ∙ ap (λ (p : Port R K). slice_set ports c (with_link p (record (link p) { items = drop 1 (link p).items })))
      found_there
      ∙ ap (λ (xs : List (Mail T K)). slice_set ports c
      (port_left riding carrying does link with_link c (port_at carrying ports c) (drop 1 xs))) first.are)
      first.within in
      record {
        memory = ap (λ (ps : List (Port R K)). record { ports = ps; home = new.entries; carry = after }) on_its_way
            ∙ is.memory ∙ sym first.leads;
        rooms = is.rooms ∙ ap (λ (x : System R K). x.rooms) seen;
        turn = first.tells turn is.turn;
        free = is.free;
      }

module _ {R K : Type 0} (riding : Riding R) (carrying : Carrying K) (m : Memory R K) (c : ℕ) where
  pub oldest_request : (items : List (Mail (Request R) K)) → IsTrue (can_request_in items riding m c) →
      HasOldest riding carrying (request_deed riding c) (λ p. p.requests) (λ p q. record p { requests = q }) c m items
      (take_request_in items riding carrying m c) (request_answer_in items riding m c) (IsRequestTurn items riding m c)
  oldest_request [] row = absurd cc
  oldest_request (mail ∷ rest) row =
      let within = below (request_block mail.item) (length m.home) _ row in
      first_of riding carrying (request_deed riding c) (λ p. p.requests) (λ p q. record p { requests = q }) c mail rest
      m within (λ names here. request_named riding m.home (length m.ports) c mail.item names within here)

  pub oldest_response : (items : List (Mail (Response R) K)) → IsTrue (can_respond_in items riding m c) →
      HasOldest riding carrying (response_deed riding c) (λ p. p.responses) (λ p q. record p { responses = q }) c m
      items (take_response_in items riding carrying m c) (response_answer_in items riding m c)
      (IsResponseTurn items riding m c)
  oldest_response [] row = absurd cc
  oldest_response (mail ∷ rest) row =
      let within = below (response_block mail.item) (length m.home) _ row in
      first_of riding carrying (response_deed riding c) (λ p. p.responses) (λ p q. record p { responses = q }) c mail
      rest m within (λ names here. response_named riding m.home (length m.ports) c mail.item names within)
