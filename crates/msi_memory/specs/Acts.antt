-- Rule: the acts, and where they can be made: Act, can, after_act
-- The acts of the memory system, for every type of riders and carries. A core asks at its port for what an access
-- needs, touches a word there, which it reads or writes, and says what it retired; the home takes requests and
-- responses; a port takes what the home sent.
use Rattle.std.specs.Prelude.{ℕ, Bool, true, false, not, ◌&&◌, Option, Some, None, List, [], ◌∷◌, ◌++◌, length}
use Rattle.std.specs.Prelude.{slice_set, if◌then◌else◌, nat_lt, zero, suc}
use Rattle.access_times.specs.Riding.{Riding, Carrying}
use Rattle.rtr_types.specs.Accesses.{is_write}
use Rattle.rtr_types.specs.CoreSets.{has}
use Rattle.rtr_types.specs.declared.access.Kind.{Kind}
use Rattle.rtr_types.specs.declared.core_set.CoreSet.{CoreSet}
use Rattle.rtr_types.specs.declared.instr.Instr.{Instr}
use Rattle.link_order.specs.Queue.{Queue, is_nil}
use Rattle.msi_cache.specs.declared.line.Line.{Line}
use Rattle.msi_cache.specs.declared.messages.FromHome.{FromHome}
use Rattle.msi_cache.specs.declared.messages.FromHome.TheVariants.{BlockData, Inv}
use Rattle.msi_cache.specs.declared.messages.Response.{Response}
use Rattle.msi_cache.specs.declared.messages.Request.{Request}
use Rattle.msi_cache.specs.Messages.{block_of, request_block}
use Rattle.msi_cache.specs.Lines.{line_for, lines_put, lines_riding, lines_after, lines_asking, asks, answer}
use Rattle.msi_cache.specs.Lines.{is_allowed}
pub use Rattle.msi_cache.specs.Lines.{waits}
use Rattle.msi_directory.specs.declared.entry.HomeAnswer.{HomeAnswer}
use Rattle.msi_directory.specs.declared.entry.Entry.{Entry}
use Rattle.msi_directory.specs.Table.{is_free}
use Rattle.msi_directory.specs.Blocks.{entry_at}
use Rattle.msi_directory.specs.Deeds.{Deed, request_deed, response_deed}
use Rattle.msi_memory.specs.declared.port.Mail.{Mail}
use Rattle.msi_memory.specs.declared.port.Port.{Port}
use Rattle.msi_memory.specs.Memories.{Memory, port_at}

-- the link with a message and its sender's carry behind all others
abbrev pub pushed : {T K : Type 0} → Queue (Mail T K) → T → K → Queue (Mail T K)
pushed link item carry = record link { items = link.items ++ (record { item = item; carry = carry }) ∷ [] }

-- the message has a block's data
abbrev pub is_data : {R : Type 0} → FromHome R → Bool
is_data (BlockData block words rider) = true
is_data _ = false

-- the oldest of these messages has a block's data
abbrev pub data_next : {R K : Type 0} → List (Mail (FromHome R) K) → Bool
data_next [] = false
data_next (mail ∷ rest) = is_data mail.item

-- the lines after an access of this kind to a slot of a block, which left this value there if it writes
abbrev pub lines_touched : {R : Type 0} → R → List (Line R) → (block slot : ℕ) → Kind → (value : ℕ) → List (Line R)
lines_touched fresh lines block slot kind value =
    if is_write kind then lines_put fresh lines block slot value else lines

module _ {R K : Type 0} where
  -- ---- what an act does to a port

  -- an access of this kind may be made at the port now
  abbrev pub allows : Riding R → Port R K → (block : ℕ) → Kind → Bool
  allows riding p block kind = is_allowed (line_for riding.fresh p.cache block) block kind

  -- the port after it asked for what an access to the block needs
  abbrev pub port_asking : Riding R → Port R K → (block : ℕ) → Kind → Port R K
  port_asking riding p block kind =
      record p {
        cache = lines_asking riding p.cache block kind;
        requests = pushed p.requests (asks (line_for riding.fresh p.cache block) block kind) p.carry;
      }

  -- the port after an access, which left this value if it writes, and this rider on the block's copy
  abbrev pub port_touched : Riding R → Port R K → (block slot : ℕ) → Kind → (value : ℕ) → R → Port R K
  port_touched riding p block slot kind value rider =
      record p {
        cache = lines_riding riding.fresh (lines_touched riding.fresh p.cache block slot kind value) block rider;
      }

  -- the port after its core retired an instruction
  abbrev pub port_retiring : Carrying K → Port R K → Instr → Port R K
  port_retiring carrying p at = record p { carry = carrying.retired p.carry at }

  -- the port with the oldest of its messages taken off the link and applied to the cache
  abbrev pub port_hearing : Riding R → Carrying K → Port R K → Mail (FromHome R) K → List (Mail (FromHome R) K)
      → Port R K
  port_hearing riding carrying p mail rest =
      record p {
        carry = carrying.joined p.carry mail.carry;
        cache = lines_after riding p.cache mail.item;
        messages = record p.messages { items = rest };
      }

  -- the port after it sends this answer
  abbrev pub port_answering : Port R K → Option (Response R) → Port R K
  port_answering p None = p
  port_answering p (Some response) = record p { responses = pushed p.responses response p.carry }

  -- what the cache answers to a message
  abbrev pub answer_to : Riding R → Port R K → FromHome R → Option (Response R)
  answer_to riding p m = answer (line_for riding.fresh p.cache (block_of m)) m

  -- the port after it took the oldest of these messages, which it may answer; a block's data it never answers
  abbrev pub port_taking : Riding R → Carrying K → Port R K → List (Mail (FromHome R) K) → Port R K
  port_taking riding carrying p [] = p
  port_taking riding carrying p (mail ∷ rest) =
      port_answering (port_hearing riding carrying p mail rest) (answer_to riding p mail.item)

  -- the port with a message from home on its way
  abbrev pub port_sent : Port R K → FromHome R → K → Port R K
  port_sent p m carry = record p { messages = pushed p.messages m carry }

  -- the port with the oldest of its requests taken, and of its responses
  abbrev pub port_requested : Port R K → List (Mail (Request R) K) → Port R K
  port_requested p rest = record p { requests = record p.requests { items = rest } }

  abbrev pub port_responded : Port R K → List (Mail (Response R) K) → Port R K
  port_responded p rest = record p { responses = record p.responses { items = rest } }

  -- ---- what the home sends

  abbrev pub ports_sent : Carrying K → List (Port R K) → ℕ → FromHome R → K → List (Port R K)
  ports_sent carrying ports to m carry = slice_set ports to (port_sent (port_at carrying ports to) m carry)

  -- the ports after each of the first n cores that is in the set is told, by rising number
  abbrev pub ports_told : Carrying K → CoreSet → FromHome R → K → ℕ → List (Port R K) → List (Port R K)
  ports_told carrying set m carry zero ports = ports
  ports_told carrying set m carry (suc n) ports =
      let told = ports_told carrying set m carry n ports in
      if has set n then ports_sent carrying told n m carry else told

  -- the ports after the home's answer is on its way: its one message, or Inv to each core of its set
  -- (no row of the home's table has both)
  abbrev pub delivered_in : Option (ℕ × FromHome R) → Carrying K → CoreSet → ℕ → K → List (Port R K) → List (Port R K)
  delivered_in (Some (to, m)) carrying set block carry ports = ports_sent carrying ports to m carry
  delivered_in None carrying set block carry ports = ports_told carrying set (Inv block) carry (length ports) ports

  abbrev pub delivered : Carrying K → HomeAnswer R → ℕ → K → List (Port R K) → List (Port R K)
  delivered carrying answer block carry ports = delivered_in answer.send carrying answer.invalidate block carry ports

  -- ---- the acts

  -- the memory system with another port of core c
  abbrev pub with_port : Memory R K → ℕ → Port R K → Memory R K
  with_port m c p = record m { ports = slice_set m.ports c p }

  -- core c asks for what an access of this kind to the block needs
  abbrev pub want : Riding R → Carrying K → Memory R K → (c block : ℕ) → Kind → Memory R K
  want riding carrying m c block kind = with_port m c (port_asking riding (port_at carrying m.ports c) block kind)

  -- core c reads or writes a word, and leaves this rider on its copy of the block
  abbrev pub touch : Riding R → Carrying K → Memory R K → (c block slot : ℕ) → Kind → (value : ℕ) → R → Memory R K
  touch riding carrying m c block slot kind value rider =
      with_port m c (port_touched riding (port_at carrying m.ports c) block slot kind value rider)

  -- core c retires an instruction
  abbrev pub retire : Carrying K → Memory R K → (c : ℕ) → Instr → Memory R K
  retire carrying m c at = with_port m c (port_retiring carrying (port_at carrying m.ports c) at)

  -- core c takes the oldest message that the home sent it
  abbrev pub take_message : Riding R → Carrying K → Memory R K → (c : ℕ) → Memory R K
  take_message riding carrying m c =
      let p = port_at carrying m.ports c in
      with_port m c (port_taking riding carrying p p.messages.items)

  -- the home takes the oldest of these messages of core c: it does this, and its port is left so
  abbrev pub take_in : {T : Type 0} → (ℕ → T → Deed R) → (Port R K → List (Mail T K) → Port R K) → List (Mail T K) →
      Riding R → Carrying K → Memory R K → ℕ → Memory R K
  take_in does left [] riding carrying m c = m
  take_in does left (mail ∷ rest) riding carrying m c =
      let carry = carrying.joined m.carry mail.carry in
      let done = does c mail.item in
      let entry = entry_at riding.fresh m.home done.block in
      let ports = slice_set m.ports c (left (port_at carrying m.ports c) rest) in
      record {
        ports = delivered carrying (done.answer entry) done.block carry ports;
        home = slice_set m.home done.block (done.after entry);
        carry = carry;
      }

  -- the home takes the oldest of these requests of core c
  abbrev pub take_request_in : List (Mail (Request R) K) → Riding R → Carrying K → Memory R K → ℕ → Memory R K
  take_request_in items riding = take_in (request_deed riding) port_requested items riding

  abbrev pub take_request : Riding R → Carrying K → Memory R K → ℕ → Memory R K
  take_request riding carrying m c = take_request_in (port_at carrying m.ports c).requests.items riding carrying m c

  -- the home takes the oldest of these responses of core c
  abbrev pub take_response_in : List (Mail (Response R) K) → Riding R → Carrying K → Memory R K → ℕ → Memory R K
  take_response_in items riding = take_in (response_deed riding) port_responded items riding

  abbrev pub take_response : Riding R → Carrying K → Memory R K → ℕ → Memory R K
  take_response riding carrying m c = take_response_in (port_at carrying m.ports c).responses.items riding carrying m c

-- one act of the memory system
pub data Act (R : Type 0) : Type 0 where
  Want : (c block : ℕ) → (kind : Kind) → Act R
  Touch : (c block slot : ℕ) → (kind : Kind) → (value : ℕ) → (rider : R) → Act R
  Retire : (c : ℕ) → (at : Instr) → Act R
  TakeRequest : (c : ℕ) → Act R
  TakeResponse : (c : ℕ) → Act R
  TakeMessage : (c : ℕ) → Act R

module _ {R : Type 0} where
  -- the core whose port it is
  abbrev pub port_of : Act R → ℕ
  port_of (Want c block kind) = c
  port_of (Touch c block slot kind value rider) = c
  port_of (Retire c at) = c
  port_of (TakeRequest c) = c
  port_of (TakeResponse c) = c
  port_of (TakeMessage c) = c

module _ {R K : Type 0} where
  -- the oldest of these requests is one that the home can take: its block isn't busy
  abbrev pub head_free : List (Mail (Request R) K) → Riding R → List (Entry R) → Bool
  head_free [] riding home = false
  head_free (mail ∷ rest) riding home = is_free (entry_at riding.fresh home (request_block mail.item)).stage

  -- the act can be made at its core's port: a cache that doesn't wait is asked for what it doesn't allow yet, of a
  -- block that is there; a word is touched where the cache allows it; the home takes a request for a block that isn't
  -- busy, and a response and a cache a message where there is one
  abbrev pub can_at : Riding R → List (Entry R) → Port R K → Act R → Bool
  can_at riding home p (Want c block kind) =
      not (waits p.cache) && (nat_lt block (length home) && not (allows riding p block kind))
  can_at riding home p (Touch c block slot kind value rider) = allows riding p block kind
  can_at riding home p (Retire c at) = true
  can_at riding home p (TakeRequest c) = head_free p.requests.items riding home
  can_at riding home p (TakeResponse c) = not (is_nil p.responses.items)
  can_at riding home p (TakeMessage c) = not (is_nil p.messages.items)

  abbrev pub can : Riding R → Carrying K → Memory R K → Act R → Bool
  can riding carrying m act =
      nat_lt (port_of act) (length m.ports) && can_at riding m.home (port_at carrying m.ports (port_of act)) act

  -- the memory system after an act
  abbrev pub after_act : Riding R → Carrying K → Memory R K → Act R → Memory R K
  after_act riding carrying m (Want c block kind) = want riding carrying m c block kind
  after_act riding carrying m (Touch c block slot kind value rider) =
      touch riding carrying m c block slot kind value rider
  after_act riding carrying m (Retire c at) = retire carrying m c at
  after_act riding carrying m (TakeRequest c) = take_request riding carrying m c
  after_act riding carrying m (TakeResponse c) = take_response riding carrying m c
  after_act riding carrying m (TakeMessage c) = take_message riding carrying m c

  -- after some, one after the other
  abbrev pub after_acts : Riding R → Carrying K → Memory R K → List (Act R) → Memory R K
  after_acts riding carrying m [] = m
  after_acts riding carrying m (act ∷ later) = after_acts riding carrying (after_act riding carrying m act) later

  -- they can be made, one after the other
  abbrev pub can_all : Riding R → Carrying K → Memory R K → List (Act R) → Bool
  can_all riding carrying m [] = true
  can_all riding carrying m (act ∷ later) =
      can riding carrying m act && can_all riding carrying (after_act riding carrying m act) later
