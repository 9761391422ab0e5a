-- One port moved: what stays at the others, on what its own acts hang, and how the marks follow.
use Rattle.std.proofs.Common.{◌≡◌, ◌≢◌, ◌∙◌, ap, sym, subst, ℕ, ◌<◌, List, length, get_or}
use Rattle.std.specs.Prelude.{not, slice_set}
use Rattle.std.proofs.lemmas.List.{get_or-set_other, get_or-set_same, length-set}
use Rattle.access_times.specs.Riding.{Riding, Carrying}
use Rattle.rtr_types.specs.CoreSets.{has}
use Rattle.link_order.specs.Queue.{Queue, is_nil}
use Rattle.msi_cache.specs.declared.messages.Request.{Request}
use Rattle.msi_memory.specs.declared.port.Mail.{Mail}
use Rattle.msi_memory.specs.declared.port.Port.{Port}
use Rattle.msi_memory.specs.Acts.{Act, TakeMessage, TakeRequest, TakeResponse, can, can_at, head_free, port_of}
use Rattle.msi_memory.specs.Memories.{Memory, no_port, port_at}
use Rattle.msi_memory.specs.Rests.{requests_at}
use Rattle.move_marks.specs.declared.marks.MoveKind.{MoveKind}
use Rattle.move_marks.specs.declared.marks.MoveKind.TheVariants.{Own as OwnKind, Request as RequestKind}
use Rattle.move_marks.specs.declared.marks.MoveKind.TheVariants.{Response as ResponseKind, FromHome as MessageKind}
use Rattle.move_marks.specs.declared.marks.MoveMarks.{MoveMarks}
use Rattle.move_marks.specs.Kinds.{set_of}
use Rattle.move_marks.specs.Ports.{PortsMarked, PortsMarkedBut}
use Rattle.move_marks.proofs.Acts.{can_by, requests_within, set_elsewhere}
use Rattle.move_marks.proofs.TurnMarks.{each}

-- the list after one of its places changed, with what is there now
pub record OneSet {A : Type 0} (old new : List A) (c : ℕ) : Type 0 where
  pub one : A
  pub is : new ≡ slice_set old c one

module _ {A : Type 0} (old new : List A) (c : ℕ) (moved : OneSet old new c) where
  pub same_long : length new ≡ length old
  same_long = ap length moved.is ∙ length-set old c moved.one

  pub one_now : (d : A) → c < length old → get_or new c d ≡ moved.one
  one_now d within = ap (λ (xs : List A). get_or xs c d) moved.is ∙ get_or-set_same old c moved.one d within

  pub one_other : (d : A) (k : ℕ) → k ≢ c → get_or new k d ≡ get_or old k d
  one_other d k other = ap (λ (xs : List A). get_or xs k d) moved.is ∙ get_or-set_other old c k moved.one d other

-- the marks of what isn't a core's own are the same
abbrev pub SameAtPorts : (old new : MoveMarks) → Type 0
SameAtPorts old new = (k : MoveKind) → k ≢ OwnKind → (d : ℕ) → has (set_of k new) d ≡ has (set_of k old) d

-- the memory system after something happened at the port of core c alone
pub record PortMoved {R K : Type 0} (m n : Memory R K) (c : ℕ) : Type 0 where
  pub ports : OneSet m.ports n.ports c
  pub home : n.home ≡ m.home

module _ {R K : Type 0} (carrying : Carrying K) (m n : Memory R K) (c : ℕ) (moved : PortMoved m n c) where
  pub ports_long : length n.ports ≡ length m.ports
  ports_long = same_long m.ports n.ports c moved.ports

  pub port_now : c < length m.ports → port_at carrying n.ports c ≡ moved.ports.one
  port_now within = one_now m.ports n.ports c moved.ports (no_port carrying) within

  pub port_other : (d : ℕ) → d ≢ c → port_at carrying n.ports d ≡ port_at carrying m.ports d
  port_other d other = one_other m.ports n.ports c moved.ports (no_port carrying) d other

  pub requests_other : (d : ℕ) → d ≢ c → requests_at n.ports d ≡ requests_at m.ports d
  requests_other d other =
      ap (λ (ports : List (Port R K)). requests_at ports d) moved.ports.is
      ∙ set_elsewhere m.ports c d moved.ports.one other

  -- the port has the requests that it had where its link is what it was
  pub requests_same : c < length m.ports → moved.ports.one.requests ≡ (port_at carrying m.ports c).requests →
      requests_at n.ports c ≡ requests_at m.ports c
  requests_same within same =
      requests_within carrying n.ports c (subst (λ (k : ℕ). c < k) (sym ports_long) within)
      ∙ ap (λ (p : Port R K). p.requests.items) (port_now within)
      ∙ ap (λ (q : Queue (Mail (Request R) K)). q.items) same
      ∙ sym (requests_within carrying m.ports c within)

  can_other : (riding : Riding R) (act : Act R) → port_of act ≢ c → can riding carrying n act ≡ can riding carrying m
      act
  can_other riding act other =
      can_by riding carrying m n act ports_long
      (λ within i. can_at riding (moved.home i) (port_other (port_of act) other i) act)

  -- each act at the port can be made exactly where it could before while its link has what it had
  as_before : {X : Type 0} (link : Port R K → Queue X) → c < length m.ports →
      link moved.ports.one ≡ link (port_at carrying m.ports c) →
      link (port_at carrying n.ports c) ≡ link (port_at carrying m.ports c)
  as_before link within same = ap link (port_now within) ∙ same

  module _ (riding : Riding R) (within : c < length m.ports) where
    pub request_as_before : moved.ports.one.requests ≡ (port_at carrying m.ports c).requests →
        can riding carrying n (TakeRequest c) ≡ can riding carrying m (TakeRequest c)
    request_as_before same =
        can_by riding carrying m n (TakeRequest c) ports_long (λ there. λ i.
        head_free (as_before (λ (p : Port R K). p.requests) within same i).items riding (moved.home i))

    pub response_as_before : moved.ports.one.responses ≡ (port_at carrying m.ports c).responses →
        can riding carrying n (TakeResponse c) ≡ can riding carrying m (TakeResponse c)
    response_as_before same =
        can_by riding carrying m n (TakeResponse c) ports_long (λ there. λ i.
        not (is_nil (as_before (λ (p : Port R K). p.responses) within same i).items))

    pub message_as_before : moved.ports.one.messages ≡ (port_at carrying m.ports c).messages →
        can riding carrying n (TakeMessage c) ≡ can riding carrying m (TakeMessage c)
    message_as_before same =
        can_by riding carrying m n (TakeMessage c) ports_long (λ there. λ i.
        not (is_nil (as_before (λ (p : Port R K). p.messages) within same i).items))

  -- the marks follow where the port's response and message are marked anew; its oldest request is late
  pub port_marked : (riding : Riding R) (old new : MoveMarks) → PortsMarked riding carrying m old →
      ((k : MoveKind) (d : ℕ) → k ≢ OwnKind → d ≢ c → has (set_of k new) d ≡ has (set_of k old) d) →
      has (set_of ResponseKind new) c ≡ can riding carrying n (TakeResponse c) →
      has (set_of MessageKind new) c ≡ can riding carrying n (TakeMessage c) →
      PortsMarkedBut riding carrying n new c
  port_marked riding old new all kept response message =
      record {
        requests = λ d other. kept RequestKind d (λ (e : RequestKind ≡ OwnKind). cc) other ∙ all.requests d
            ∙ sym (can_other riding (TakeRequest d) other);
        responses = each (λ d. has (set_of ResponseKind new) d) (λ d. can riding carrying n (TakeResponse d)) c response
            (λ d other. kept ResponseKind d (λ (e : ResponseKind ≡ OwnKind). cc) other ∙ all.responses d
            ∙ sym (can_other riding (TakeResponse d) other));
        messages = each (λ d. has (set_of MessageKind new) d) (λ d. can riding carrying n (TakeMessage d)) c message
            (λ d other. kept MessageKind d (λ (e : MessageKind ≡ OwnKind). cc) other ∙ all.messages d
            ∙ sym (can_other riding (TakeMessage d) other));
      }

  -- nothing at the ports is marked anew where the port has the responses and the messages that it had
  pub links_marked : (riding : Riding R) (old new : MoveMarks) → PortsMarked riding carrying m old →
      c < length m.ports → moved.ports.one.responses ≡ (port_at carrying m.ports c).responses →
      moved.ports.one.messages ≡ (port_at carrying m.ports c).messages → SameAtPorts old new →
      PortsMarkedBut riding carrying n new c
  links_marked riding old new all within responses messages kept =
      port_marked riding old new all (λ k d port other. kept k port d)
      (kept ResponseKind (λ (e : ResponseKind ≡ OwnKind). cc) c ∙ all.responses c
      ∙ sym (response_as_before riding within responses))
      (kept MessageKind (λ (e : MessageKind ≡ OwnKind). cc) c ∙ all.messages c
      ∙ sym (message_as_before riding within messages))

  -- nothing but the port's response and message is marked anew, once a core's own moves are
  pub port_renewed : (riding : Riding R) (old mid new : MoveMarks) → PortsMarked riding carrying m old →
      SameAtPorts old mid → has (set_of ResponseKind new) c ≡ can riding carrying n (TakeResponse c) →
      has (set_of MessageKind new) c ≡ can riding carrying n (TakeMessage c) →
      ((k : MoveKind) (d : ℕ) → (k ≡ ResponseKind → d ≢ c) → (k ≡ MessageKind → d ≢ c) →
      has (set_of k new) d ≡ has (set_of k mid) d) → PortsMarkedBut riding carrying n new c
  port_renewed riding old mid new all same response message kept =
      port_marked riding old new all
      (λ k d port other. kept k d (λ one. other) (λ one. other) ∙ same k port d) response message
