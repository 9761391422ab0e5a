-- What a turn of the home changes of what can be done next.
use Rattle.std.proofs.Common.{◌≡◌, ◌≢◌, ◌∙◌, ◌⊎◌, inl, inr, refl, sym, subst, ap, ℕ, ◌<◌, ◌≤◌, Bool, true, false, cond}
use Rattle.std.proofs.Common.{List, [], ◌∷◌, arith}
use Rattle.std.proofs.Common.{length, get_or, nat_lt, ◌&&◌, ◌||◌, ◌==◌}
use Rattle.std.specs.Prelude.{map, not, slice_set}
use Rattle.std.proofs.Math.Seq.{map-set_same}
use Rattle.std.proofs.lemmas.Bool.{cases_eq, cases_lt}
use Rattle.std.proofs.lemmas.List.{get_or-set_other, get_or-set_same, length-set}
use Rattle.std.proofs.Math.Bool.{and-false}
use Rattle.access_times.specs.Riding.{Riding, Carrying}
use Rattle.link_order.specs.Queue.{is_nil}
use Rattle.msi_cache.specs.Messages.{request_block, response_block}
use Rattle.msi_cache.specs.declared.messages.Request.{Request}
use Rattle.msi_cache.specs.declared.messages.Response.{Response}
use Rattle.msi_directory.specs.Blocks.{entry_at, no_entry}
use Rattle.msi_directory.specs.Deeds.{Deed, request_deed, response_deed}
use Rattle.msi_directory.specs.Entries.{answer_to_request, answer_to_response, has_response_row}
use Rattle.msi_directory.specs.Table.{is_free}
use Rattle.msi_directory.specs.declared.entry.Stage.{Stage}
use Rattle.msi_directory.specs.declared.entry.Stage.TheVariants.{Unshared, Shared, Owned, Acks, Data}
use Rattle.msi_directory.specs.declared.entry.Entry.{Entry}
use Rattle.msi_directory.specs.declared.entry.HomeAnswer.{HomeAnswer}
use Rattle.msi_memory.specs.declared.port.Mail.{Mail}
use Rattle.msi_memory.specs.declared.port.Port.{Port}
use Rattle.msi_memory.specs.declared.turn.Turn.{Turn}
use Rattle.msi_memory.specs.Acts.{TakeRequest, TakeResponse, TakeMessage, can, delivered, head_free, port_requested}
use Rattle.msi_memory.specs.Acts.{port_responded}
use Rattle.msi_memory.specs.Acts.{take_request, take_request_in, take_response, take_response_in}
use Rattle.msi_memory.specs.Memories.{Memory, no_port, port_at}
use Rattle.msi_memory.specs.Rests.{can_request_in, can_respond_in, head_is, hears, requests_at}
use Rattle.msi_laws.proofs.Views.{length-delivered}
use Rattle.msi_memory.specs.Turns.{IsRequestTurn, IsResponseTurn, IsTurn}
use Rattle.msi_memory.proofs.TurnTells.{turn_heard}
use Rattle.rtr_types.specs.CoreSets.{has}
use Rattle.move_marks.specs.declared.marks.MoveKind.TheVariants.{Request as RequestKind, FromHome as MessageKind}
use Rattle.move_marks.specs.declared.marks.MoveMarks.{MoveMarks}
use Rattle.move_marks.specs.Kinds.{set_of}
use Rattle.move_marks.specs.Turns.{IsAfterTurn, differ}
use Rattle.move_marks.proofs.Acts.{can_by, can_here, can_past, requests_past, requests_within, same_at, set_elsewhere}
use Rattle.move_marks.proofs.AnswerMarks.{and_true, below_is, delivered_same, delivered_silent, eq_is}
use Rattle.move_marks.proofs.AnswerMarks.{false_true}
use Rattle.move_marks.proofs.AnswerMarks.{ne_is, past_is, right_of, silent, told_or}

module _ {R : Type 0} where
  busy_is : (stage : Stage) (c : ℕ) (m : Response R) → has_response_row stage c m ≡ true → is_free stage ≡ false
  busy_is Unshared c m is = false_true is
  busy_is (Shared by) c m is = false_true is
  busy_is (Owned owner) c m is = false_true is
  busy_is (Acks «of» requester) c m is = refl
  busy_is (Data «of» requester share) c m is = refl

-- the memory system before and after the home's turn at core c: which cores hear of it, and which block it is about
record Turned {R K : Type 0} (riding : Riding R) (carrying : Carrying K) (m n : Memory R K) (c block : ℕ) (hearing : ℕ →
    Bool) : Type 0 where
  count : length n.ports ≡ length m.ports
  caches : map (λ (p : Port R K). p.cache) n.ports ≡ map (λ (p : Port R K). p.cache) m.ports
  responses : (d : ℕ) → d ≢ c → is_nil (port_at carrying n.ports d).responses.items ≡ is_nil
      (port_at carrying m.ports d).responses.items
  messages : (d : ℕ) → d < length m.ports → silent carrying n.ports d ≡ cond (hearing d) false
      (silent carrying m.ports d)
  requests : (d : ℕ) → d ≢ c → requests_at n.ports d ≡ requests_at m.ports d
  entries : length n.home ≡ length m.home
  home : (b : ℕ) → b ≢ block → entry_at riding.fresh n.home b ≡ entry_at riding.fresh m.home b

module _ {R K : Type 0} where
  free_after : (riding : Riding R) (old new : List (Entry R)) (block : ℕ) (items : List (Mail (Request R) K)) →
      ((b : ℕ) → b ≢ block → entry_at riding.fresh new b ≡ entry_at riding.fresh old b) →
      cond (head_is block items) (is_free (entry_at riding.fresh new block).stage)
      (head_free items riding old) ≡ head_free items riding new
  free_after riding old new block [] home = refl
  free_after riding old new block (mail ∷ rest) home = by (cases_eq block (request_block mail.item))
    where
      by : (block ≡ request_block mail.item) ⊎ (block ≡ request_block mail.item → ⊥) →
          cond (block == request_block mail.item) (is_free (entry_at riding.fresh new block).stage)
          (is_free (entry_at riding.fresh old
          (request_block mail.item)).stage)
          ≡ is_free (entry_at riding.fresh new (request_block mail.item)).stage
      by (inl same) =
          ap (λ (b : Bool). cond b (is_free (entry_at riding.fresh new block).stage)
          (is_free (entry_at riding.fresh old (request_block mail.item)).stage))
          (eq_is block (request_block mail.item) same)
          ∙ ap (λ (b : ℕ). is_free (entry_at riding.fresh new b).stage) same
      by (inr other) =
          ap (λ (b : Bool). cond b (is_free (entry_at riding.fresh new block).stage)
          (is_free (entry_at riding.fresh old (request_block mail.item)).stage))
          (ne_is block (request_block mail.item) other)
          ∙ ap (λ (e : Entry R). is_free e.stage) (sym (home (request_block mail.item) (λ same. other (sym same))))

  -- where the block is as free as it was, so is each
  free_same : (riding : Riding R) (old new : List (Entry R)) (block : ℕ) (items : List (Mail (Request R) K)) →
      ((b : ℕ) → b ≢ block → entry_at riding.fresh new b ≡ entry_at riding.fresh old b) →
      is_free (entry_at riding.fresh old block).stage ≡ is_free (entry_at riding.fresh new block).stage →
      head_free items riding old ≡ head_free items riding new
  free_same riding old new block [] home same = refl
  free_same riding old new block (mail ∷ rest) home same = by (cases_eq (request_block mail.item) block)
    where
      by : (request_block mail.item ≡ block) ⊎ (request_block mail.item ≡ block → ⊥) →
          is_free (entry_at riding.fresh old (request_block mail.item)).stage
          ≡ is_free (entry_at riding.fresh new (request_block mail.item)).stage
      by (inl at) =
          ap (λ (b : ℕ). is_free (entry_at riding.fresh old b).stage) at ∙ same
          ∙ ap (λ (b : ℕ). is_free (entry_at riding.fresh new b).stage) (sym at)
      by (inr other) = ap (λ (e : Entry R). is_free e.stage) (sym (home (request_block mail.item) other))

  free_by : (riding : Riding R) (old new : List (Entry R)) (block : ℕ) (items : List (Mail (Request R) K))
      (was : Bool) →
      ((b : ℕ) → b ≢ block → entry_at riding.fresh new b ≡ entry_at riding.fresh old b) →
      is_free (entry_at riding.fresh old block).stage ≡ was →
      cond (head_is block items && differ (is_free (entry_at riding.fresh new block).stage) was)
      (is_free (entry_at riding.fresh new block).stage)
      (head_free items riding old) ≡ head_free items riding new
  free_by riding old new block items was home before = by (is_free (entry_at riding.fresh new block).stage) was refl
      before
    where
      by : (free was : Bool) → is_free (entry_at riding.fresh new block).stage ≡ free →
          is_free (entry_at riding.fresh old block).stage ≡ was →
          cond (head_is block items && differ free was) free (head_free items riding old) ≡ head_free items riding new
      by true true is before = ap (λ (b : Bool). cond b true (head_free items riding old))
          (and-false (head_is block items))
          ∙ free_same riding old new block items home (before ∙ sym is)
      by false false is before = ap (λ (b : Bool). cond b false (head_free items riding old))
          (and-false (head_is block items))
          ∙ free_same riding old new block items home (before ∙ sym is)
      by true false is before =
          ap (λ (b : Bool). cond b true (head_free items riding old)) (and_true (head_is block items))
          ∙ ap (λ (f : Bool). cond (head_is block items) f (head_free items riding old)) (sym is)
          ∙ free_after riding old new block items home
      by false true is before =
          ap (λ (b : Bool). cond b false (head_free items riding old)) (and_true (head_is block items))
          ∙ ap (λ (f : Bool). cond (head_is block items) f (head_free items riding old)) (sym is)
          ∙ free_after riding old new block items home

  -- after the turn the oldest request is marked of a core whose requests stay where the home can take it
  request_marked : (riding : Riding R) (carrying : Carrying K) (m n : Memory R K) (c block cores : ℕ)
      (hearing : ℕ → Bool) (turn : Turn) (was : Bool) (old new : MoveMarks) →
      Turned riding carrying m n c block hearing →
      is_free (entry_at riding.fresh m.home block).stage ≡ was →
      turn.block ≡ block → IsAfterTurn riding n cores turn was old new →
      (d : ℕ) → requests_at n.ports d ≡ requests_at m.ports d →
      has (set_of RequestKind old) d ≡ can riding carrying m (TakeRequest d) →
      has (set_of RequestKind new) d ≡ can riding carrying n (TakeRequest d)
  request_marked riding carrying m n c block cores hearing turn was old new turned before about after d same marked =
      after.requests d
      ∙ (λ i. cond (head_is (about i) (requests_at n.ports d) && differ
      (is_free (entry_at riding.fresh n.home (about i)).stage) was)
      (is_free (entry_at riding.fresh n.home (about i)).stage) (marked i))
      ∙ by (cases_lt d (length m.ports))
    where
      by : (d < length m.ports) ⊎ (length m.ports ≤ d) →
          cond (head_is block (requests_at n.ports d)
          && differ (is_free (entry_at riding.fresh n.home block).stage) was)
          (is_free (entry_at riding.fresh n.home block).stage)
          (can riding carrying m (TakeRequest d)) ≡ can riding carrying n (TakeRequest d)
      by (inl within) =
          (λ i. cond (head_is block (requests_at n.ports d) && differ
          (is_free (entry_at riding.fresh n.home block).stage) was)
          (is_free (entry_at riding.fresh n.home block).stage)
          (can_here riding carrying m (TakeRequest d) within i))
          ∙ ap (λ (xs : List (Mail (Request R) K)). cond (head_is block (requests_at n.ports d) && differ (is_free
          (entry_at riding.fresh n.home block).stage) was) (is_free (entry_at riding.fresh n.home block).stage)
          (head_free xs riding m.home)) (sym (requests_within carrying m.ports d within) ∙ sym same)
          ∙ free_by riding m.home n.home block (requests_at n.ports d) was turned.home before
          ∙ ap (λ (xs : List (Mail (Request R) K)). head_free xs riding n.home)
          (requests_within carrying n.ports d (subst (λ (k : ℕ). d < k) (sym turned.count) within))
          ∙ sym (can_here riding carrying n (TakeRequest d) (subst (λ (k : ℕ). d < k) (sym turned.count) within))
      by (inr past) =
          let out : length n.ports ≤ d = subst (λ (k : ℕ). k ≤ d) (sym turned.count) past in
          ap (λ (xs : List (Mail (Request R) K)). cond (head_is block xs && differ
          (is_free (entry_at riding.fresh n.home block).stage) was) (is_free
          (entry_at riding.fresh n.home block).stage) (can riding carrying m (TakeRequest d)))
          (requests_past n.ports d out)
          ∙ can_past riding carrying m (TakeRequest d) past
          ∙ sym (can_past riding carrying n (TakeRequest d) out)

  -- and each message
  message_marked : (riding : Riding R) (carrying : Carrying K) (m n : Memory R K) (c block cores : ℕ)
      (hearing : ℕ → Bool) (turn : Turn) (was : Bool) (old new : MoveMarks) →
      Turned riding carrying m n c block hearing → ((d : ℕ) → hears turn.answer d ≡ hearing d) →
      cores ≡ length m.ports → IsAfterTurn riding n cores turn was old new → (d : ℕ) →
      has (set_of MessageKind old) d ≡ can riding carrying m (TakeMessage d) →
      has (set_of MessageKind new) d ≡ can riding carrying n (TakeMessage d)
  message_marked riding carrying m n c block cores hearing turn was old new turned heard long after d marked =
      after.messages d
      ∙ (λ i. marked i || (heard d i && nat_lt d (long i)))
      ∙ by (cases_lt d (length m.ports))
    where
      by : (d < length m.ports) ⊎ (length m.ports ≤ d) →
          (can riding carrying m (TakeMessage d) || (hearing d && nat_lt d (length m.ports)))
          ≡ can riding carrying n (TakeMessage d)
      by (inl within) =
          (λ i. can_here riding carrying m (TakeMessage d) within i || (hearing d
          && below_is d (length m.ports) within i))
          ∙ ap (λ (b : Bool). not (is_nil (port_at carrying m.ports d).messages.items) || b) (and_true (hearing d))
          ∙ told_or (hearing d) (is_nil (port_at carrying m.ports d).messages.items)
          ∙ ap not (sym (turned.messages d within))
          ∙ sym (can_here riding carrying n (TakeMessage d) (subst (λ (k : ℕ). d < k) (sym turned.count) within))
      by (inr past) =
          (λ i. can_past riding carrying m (TakeMessage d) past i || (hearing d && past_is d (length m.ports) past i))
          ∙ and-false (hearing d)
          ∙ sym (can_past riding carrying n (TakeMessage d) (subst (λ (k : ℕ). k ≤ d) (sym turned.count) past))

  -- the other ports have the responses that they had
  response_kept : (riding : Riding R) (carrying : Carrying K) (m n : Memory R K) (c block : ℕ) (hearing : ℕ → Bool) →
      Turned riding carrying m n c block hearing → (d : ℕ) → d ≢ c →
      can riding carrying m (TakeResponse d) ≡ can riding carrying n (TakeResponse d)
  response_kept riding carrying m n c block hearing turned d other =
      sym (can_by riding carrying m n (TakeResponse d) turned.count (λ within. ap not (turned.responses d other)))

  -- the memory system after the home did this for core c, whose port gave way to this one, and sent its answer
  abbrev after_deed : Riding R → Carrying K → Memory R K → ℕ → Deed R → Port R K → K → Memory R K
  after_deed riding carrying m c done port carry =
      let entry = entry_at riding.fresh m.home done.block in
      record {
        ports = delivered carrying (done.answer entry) done.block carry (slice_set m.ports c port);
        home = slice_set m.home done.block (done.after entry);
        carry = carry;
      }

  -- so the home's turn goes where the port's cache and its messages are as they were
  answered : (riding : Riding R) (carrying : Carrying K) (m : Memory R K) (c : ℕ) (done : Deed R) (port : Port R K)
      (carry : K) → port.cache ≡ (port_at carrying m.ports c).cache →
      is_nil port.messages.items ≡ is_nil (port_at carrying m.ports c).messages.items →
      Turned riding carrying m (after_deed riding carrying m c done port carry) c done.block
      (hears (done.answer (entry_at riding.fresh m.home done.block)))
  answered riding carrying m c done port carry still quiet =
      record {
        count = length-delivered carrying answer done.block carry base ∙ length-set m.ports c port;
        caches = delivered_same (λ (p : Port R K). p.cache) (λ p mail k. refl) carrying answer.send answer.invalidate
            done.block carry base
            ∙ map-set_same (λ (p : Port R K). p.cache) m.ports c port (no_port carrying) still;
        responses = λ d other.
            same_at (λ (p : Port R K). is_nil p.responses.items) carrying
            (delivered carrying answer done.block carry base) base
            (delivered_same (λ (p : Port R K). is_nil p.responses.items) (λ p mail k. refl) carrying answer.send
            answer.invalidate done.block carry base) d
            ∙ ap (λ (p : Port R K). is_nil p.responses.items) (get_or-set_other m.ports c d port (no_port carrying)
            other);
        messages = λ d within.
            delivered_silent answer.send carrying answer.invalidate done.block carry base d
            (subst (λ (k : ℕ). d < k) (sym (length-set m.ports c port)) within)
            ∙ ap (λ (b : Bool). cond (hears answer d) false b) (quiet_at d within (cases_eq d c));
        requests = λ d other.
            ap (λ (xs : List (List (Mail (Request R) K))). get_or xs d [])
            (delivered_same (λ (p : Port R K). p.requests.items) (λ p mail k. refl) carrying answer.send
            answer.invalidate done.block carry base)
            ∙ set_elsewhere m.ports c d port other;
        entries = length-set m.home done.block (done.after entry);
        home = λ b other. get_or-set_other m.home done.block b (done.after entry) (no_entry riding.fresh) other;
      }
    where
      entry : Entry R
      entry = entry_at riding.fresh m.home done.block

      answer : HomeAnswer R
      answer = done.answer entry

      base : List (Port R K)
      base = slice_set m.ports c port

      quiet_at : (d : ℕ) → d < length m.ports → (d ≡ c) ⊎ (d ≡ c → ⊥) →
          silent carrying (slice_set m.ports c port) d ≡ silent carrying m.ports d
      quiet_at d within (inl same) =
          ap (λ (k : ℕ). silent carrying (slice_set m.ports c port) k) same
          ∙ ap (λ (p : Port R K). is_nil p.messages.items) (get_or-set_same m.ports c port (no_port carrying) (subst (λ
          (k : ℕ). k < length m.ports) same within))
          ∙ quiet
          ∙ ap (λ (k : ℕ). silent carrying m.ports k) (sym same)
      quiet_at d within (inr other) = ap (λ (p : Port R K). is_nil p.messages.items) (get_or-set_other m.ports c d port
          (no_port carrying) other)

-- after the home's turn each port has the cache that it had, and the other ports their requests
pub record PortsStay {R K : Type 0} (m n : Memory R K) (c : ℕ) : Type 0 where
  pub caches : map (λ (p : Port R K). p.cache) n.ports ≡ map (λ (p : Port R K). p.cache) m.ports
  pub requests : (d : ℕ) → d ≢ c → requests_at n.ports d ≡ requests_at m.ports d

-- what holds after the home's turn at core c
pub record TurnFits {R K : Type 0} (riding : Riding R) (carrying : Carrying K) (m n : Memory R K) (c : ℕ) (turn : Turn)
    (was : Bool) : Type 0 where
  pub requests : (cores : ℕ) (old new : MoveMarks) → IsAfterTurn riding n cores turn was old new → (d : ℕ) →
      requests_at n.ports d ≡ requests_at m.ports d →
      has (set_of RequestKind old) d ≡ can riding carrying m (TakeRequest d) →
      has (set_of RequestKind new) d ≡ can riding carrying n (TakeRequest d)
  pub others : (d : ℕ) → d ≢ c → requests_at n.ports d ≡ requests_at m.ports d
  pub messages : (cores : ℕ) (old new : MoveMarks) → cores ≡ length m.ports →
      IsAfterTurn riding n cores turn was old new → (d : ℕ) →
      has (set_of MessageKind old) d ≡ can riding carrying m (TakeMessage d) →
      has (set_of MessageKind new) d ≡ can riding carrying n (TakeMessage d)
  pub responses : (d : ℕ) → d ≢ c → can riding carrying m (TakeResponse d) ≡ can riding carrying n (TakeResponse d)

module _ {R K : Type 0} where
  turn_fits : (riding : Riding R) (carrying : Carrying K) (m n : Memory R K) (c about : ℕ)
      (answer : HomeAnswer R) (turn : Turn)
      (was : Bool) → is_free (entry_at riding.fresh m.home about).stage ≡ was →
      Turned riding carrying m n c about (hears answer) →
      IsTurn about answer turn → TurnFits riding carrying m n c turn was
  turn_fits riding carrying m n c about answer turn was before turned is =
      record {
        requests = λ cores old new after d same marked.
            request_marked riding carrying m n c about cores (hears answer) turn was old new turned before is.block
            after d same marked;
        others = turned.requests;
        messages = λ cores old new long after d marked.
            message_marked riding carrying m n c about cores (hears answer) turn was old new turned
            (turn_heard about answer turn is) long after d marked;
        responses = response_kept riding carrying m n c about (hears answer) turned;
      }

  pub request_fits : (riding : Riding R) (carrying : Carrying K) (m : Memory R K) (c : ℕ) (turn : Turn) →
      head_free (port_at carrying m.ports c).requests.items riding m.home ≡ true →
      can_request_in (port_at carrying m.ports c).requests.items riding m c ≡ true →
      IsRequestTurn (port_at carrying m.ports c).requests.items riding m c turn →
      TurnFits riding carrying m (take_request riding carrying m c) c turn true
  request_fits riding carrying m c turn free row is = by (port_at carrying m.ports c).requests.items free row is
    where
      by : (items : List (Mail (Request R) K)) → head_free items riding m.home ≡ true →
          can_request_in items riding m c ≡ true →
          IsRequestTurn items riding m c turn →
          TurnFits riding carrying m (take_request_in items riding carrying m c) c turn true
      by [] free row is = false_true row
      by (mail ∷ rest) free row is =
          let block = request_block mail.item in
          let answer = answer_to_request riding.absorbed (entry_at riding.fresh m.home block) c mail.item in
          turn_fits riding carrying m (take_request_in (mail ∷ rest) riding carrying m c) c block answer turn true free
          (answered riding carrying m c (request_deed riding c mail.item)
          (port_requested (port_at carrying m.ports c) rest) (carrying.joined m.carry mail.carry) refl refl) is

  pub response_fits : (riding : Riding R) (carrying : Carrying K) (m : Memory R K) (c : ℕ) (turn : Turn) →
      can_respond_in (port_at carrying m.ports c).responses.items riding m c ≡ true →
      IsResponseTurn (port_at carrying m.ports c).responses.items riding m c turn →
      TurnFits riding carrying m (take_response riding carrying m c) c turn false
  response_fits riding carrying m c turn row is = by (port_at carrying m.ports c).responses.items row is
    where
      by : (items : List (Mail (Response R) K)) → can_respond_in items riding m c ≡ true →
          IsResponseTurn items riding m c turn →
          TurnFits riding carrying m (take_response_in items riding carrying m c) c turn false
      by [] row is = false_true row
      by (mail ∷ rest) row is =
          let block = response_block mail.item in
          let answer = answer_to_response riding.absorbed (entry_at riding.fresh m.home block) c mail.item in
          turn_fits riding carrying m (take_response_in (mail ∷ rest) riding carrying m c) c block answer turn false
          (busy_is (entry_at riding.fresh m.home block).stage c mail.item
          (right_of (nat_lt block (length m.home)) _ row))
          (answered riding carrying m c (response_deed riding c mail.item)
          (port_responded (port_at carrying m.ports c) rest) (carrying.joined m.carry mail.carry) refl refl) is

  stays : {riding : Riding R} {carrying : Carrying K} {m n : Memory R K} {c block : ℕ} {hearing : ℕ → Bool} →
      Turned riding carrying m n c block hearing → PortsStay m n c
  stays turned = record { caches = turned.caches; requests = turned.requests }

  -- the home takes the oldest of some messages of core c, and none where there is none
  stays_by : {T : Type 0} {m : Memory R K} {c : ℕ} (taken : List (Mail T K) → Memory R K) (items : List (Mail T K)) →
      taken [] ≡ m → ((mail : Mail T K) (rest : List (Mail T K)) → PortsStay m (taken (mail ∷ rest)) c) →
      PortsStay m (taken items) c
  stays_by {T} {m} {c} taken [] none some =
      subst (λ (n : Memory R K). PortsStay m n c) (sym none) (record { caches = refl; requests = λ d other. refl })
  stays_by {T} {m} {c} taken (mail ∷ rest) none some = some mail rest

  module _ (riding : Riding R) (carrying : Carrying K) (m : Memory R K) (c : ℕ) where
    pub request_stays : PortsStay m (take_request riding carrying m c) c
    request_stays =
        stays_by (λ items. take_request_in items riding carrying m c) (port_at carrying m.ports c).requests.items refl
        (λ mail rest. stays (answered riding carrying m c (request_deed riding c mail.item)
        (port_requested (port_at carrying m.ports c) rest) (carrying.joined m.carry mail.carry) refl refl))

    pub response_stays : PortsStay m (take_response riding carrying m c) c
    response_stays =
        stays_by (λ items. take_response_in items riding carrying m c) (port_at carrying m.ports c).responses.items refl
        (λ mail rest. stays (answered riding carrying m c (response_deed riding c mail.item)
        (port_responded (port_at carrying m.ports c) rest) (carrying.joined m.carry mail.carry) refl refl))

  -- a request's core has the responses that it had
  pub same_responses : (riding : Riding R) (carrying : Carrying K) (m : Memory R K) (c : ℕ) →
      can riding carrying (take_request riding carrying m c) (TakeResponse c) ≡ can riding carrying m (TakeResponse c)
  same_responses riding carrying m c = by (port_at carrying m.ports c).requests.items
    where
      by : (items : List (Mail (Request R) K)) →
          can riding carrying (take_request_in items riding carrying m c) (TakeResponse c) ≡ can riding carrying m
          (TakeResponse c)
      by [] = refl
      by (mail ∷ rest) =
          let f = λ (p : Port R K). is_nil p.responses.items in
          let block = request_block mail.item in
          let answer = answer_to_request riding.absorbed (entry_at riding.fresh m.home block) c mail.item in
          let carry = carrying.joined m.carry mail.carry in
          let port = port_requested (port_at carrying m.ports c) rest in
          let base = slice_set m.ports c port in
          can_by riding carrying m (take_request_in (mail ∷ rest) riding carrying m c) (TakeResponse c)
          (length-delivered carrying answer block carry base ∙ length-set m.ports c port)
          (λ within. ap not (same_at f carrying (delivered carrying answer block carry base) m.ports
          (delivered_same f (λ p mail k. refl) carrying answer.send answer.invalidate block carry base
          ∙ map-set_same f m.ports c port (no_port carrying) refl) c))

  -- no core has other requests after the home took a response
  pub response_requests : (riding : Riding R) (carrying : Carrying K) (m : Memory R K) (c d : ℕ) →
      requests_at (take_response riding carrying m c).ports d ≡ requests_at m.ports d
  response_requests riding carrying m c d = by (port_at carrying m.ports c).responses.items
    where
      by : (items : List (Mail (Response R) K)) →
          requests_at (take_response_in items riding carrying m c).ports d ≡ requests_at m.ports d
      by [] = refl
      by (mail ∷ rest) =
          let f = λ (p : Port R K). p.requests.items in
          let block = response_block mail.item in
          let answer = answer_to_response riding.absorbed (entry_at riding.fresh m.home block) c mail.item in
          let port = port_responded (port_at carrying m.ports c) rest in
          ap (λ (xs : List (List (Mail (Request R) K))). get_or xs d [])
          (delivered_same f (λ p mail k. refl) carrying answer.send answer.invalidate block
          (carrying.joined m.carry mail.carry) (slice_set m.ports c port)
          ∙ map-set_same f m.ports c port (no_port carrying) refl)

  -- a core has at most one request under way, so none is left after the home took it
  pub request_leaves_none : (riding : Riding R) (carrying : Carrying K) (m : Memory R K) (c : ℕ) →
      c < length m.ports → length (port_at carrying m.ports c).requests.items ≤ 1 →
      requests_at (take_request riding carrying m c).ports c ≡ []
  request_leaves_none riding carrying m c within one = by (port_at carrying m.ports c).requests.items refl one
    where
      by : (items : List (Mail (Request R) K)) → (port_at carrying m.ports c).requests.items ≡ items →
          length items ≤ 1 → requests_at (take_request_in items riding carrying m c).ports c ≡ []
      by [] is one = requests_within carrying m.ports c within ∙ is
      by (mail ∷ []) is one =
          let f = λ (p : Port R K). p.requests.items in
          let block = request_block mail.item in
          let answer = answer_to_request riding.absorbed (entry_at riding.fresh m.home block) c mail.item in
          let port = port_requested (port_at carrying m.ports c) [] in
          let base = slice_set m.ports c port in
          ap (λ (xs : List (List (Mail (Request R) K))). get_or xs c [])
          (delivered_same f (λ p mail k. refl) carrying answer.send answer.invalidate block
          (carrying.joined m.carry mail.carry) base)
          ∙ requests_within carrying base c (subst (λ (k : ℕ). c < k) (sym (length-set m.ports c port)) within)
          ∙ ap f (get_or-set_same m.ports c port (no_port carrying) within)
      by (mail ∷ next ∷ rest) is one = absurd (omega arith)

  -- where no request is left the home can take none
  pub none_left : (riding : Riding R) (carrying : Carrying K) (m : Memory R K) (c : ℕ) →
      requests_at m.ports c ≡ [] → can riding carrying m (TakeRequest c) ≡ false
  none_left riding carrying m c none = by (cases_lt c (length m.ports))
    where
      by : (c < length m.ports) ⊎ (length m.ports ≤ c) → can riding carrying m (TakeRequest c) ≡ false
      by (inl within) =
          can_here riding carrying m (TakeRequest c) within
          ∙ ap (λ (xs : List (Mail (Request R) K)). head_free xs riding m.home)
          (sym (requests_within carrying m.ports c within) ∙ none)
      by (inr past) = can_past riding carrying m (TakeRequest c) past
