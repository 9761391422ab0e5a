-- A node that took a message shows the port that did.
use Rattle.std.proofs.Common.{◌≡◌, ◌≢◌, ◌∙◌, ◌⊎◌, inl, inr, refl, sym, ap, subst, ℕ, ◌<◌, ◌%◌, true, List, []}
use Rattle.std.proofs.Common.{◌∷◌, ◌++◌, length, map, arith, Option, Some, None}
use Rattle.std.specs.Prelude.{is_some, nat_lt, slice_set}
use Rattle.std.proofs.lemmas.Bool.{and_from, and_parts, cases_eq}
use Rattle.std.proofs.lemmas.List.{append-nil, get_or-set_other, get_or-set_same, length-map, map-append, map-set}
use Rattle.std.proofs.lemmas.List.Folds.{list_all-append}
use Rattle.access_times.specs.Riding.{Carrying, Riding}
use Rattle.image_mem.specs.Contents.{Contents}
use Rattle.link_order.specs.Queue.{Queue}
use Rattle.rtr_types.proofs.Lists.{cons-head, cons-rest}
use Rattle.rtr_types.specs.declared.TheConstants.{LINES}
use Rattle.rv_core.specs.declared.core_state.Core.{Core}
use Rattle.msi_cache.specs.Lines.{answer_by, line_by, line_for, replied, response_of}
use Rattle.msi_cache.specs.Messages.{block_of, reply_of, response_block, signal}
use Rattle.msi_cache.specs.Table.{Reply as Replying, Row, Signal, row}
use Rattle.msi_cache.specs.declared.line.Line.{Line}
use Rattle.msi_cache.specs.declared.line.State.{State as LineState}
use Rattle.msi_cache.specs.declared.line.State.TheVariants.{I, S, M, IsD, ImD, SmD, MiA, SiA, IiA}
use Rattle.msi_cache.specs.declared.messages.FromHome.{FromHome}
use Rattle.msi_cache.specs.declared.messages.Request.{Request}
use Rattle.msi_cache.specs.declared.messages.Response.{Response}
use Rattle.msi_memory.specs.Acts.{port_answering, port_hearing, port_taking}
use Rattle.msi_memory.specs.declared.port.Mail.{Mail}
use Rattle.msi_memory.specs.declared.port.Port.{Port}
use Rattle.flat_state.specs.declared.block.HomeBlock.{HomeBlock}
use Rattle.flat_state.specs.declared.message_ring.Message.{Message}
use Rattle.flat_state.specs.declared.message_ring.Told.{Told}
use Rattle.flat_state.specs.declared.message_ring.Told.TheVariants.{Data, Ack, Inv, FwdS, FwdM}
use Rattle.flat_state.specs.declared.node.KeptLine.{KeptLine}
use Rattle.flat_state.specs.declared.node.Node.{Node}
use Rattle.flat_state.specs.declared.reply_ring.Replied.{Replied}
use Rattle.flat_state.specs.declared.reply_ring.Replied.TheVariants.{InvAck, OwnerData}
use Rattle.flat_state.specs.declared.reply_ring.Reply.{Reply}
use Rattle.flat_state.specs.Shows.{NodeShows, are_replied_placed, are_told_placed, block_at, home_at, kept_line}
use Rattle.flat_state.specs.Shows.{kept_message}
use Rattle.flat_state.specs.Shows.{kept_reply, line_at, no_line, replied_as, seen_line, seen_message, seen_reply}
use Rattle.flat_state.specs.Shows.{seen_request, told_as}
use Rattle.flat_state.proofs.NodeReads.{line_is}
use Rattle.flat_messages.specs.Heard.{answered, heard, hearing, node_heard, with_reply}

-- ---- the table's row

abbrev pub replied_by : Option Replied → Option Replying
replied_by None = None
replied_by (Some r) = Some (replied_as r)

-- a row's state and answer, by what is told and the line's state
pub record IsHeard (told : Told) (state : LineState) (r : Row) : Type 0 where
  pub next : r.next ≡ heard told state
  pub answer : r.answer ≡ replied_by (answered told)
  pub some : state ≢ I

-- the row that there is
pub record Met (told : Told) (state : LineState) : Type 0 where
  pub r : Row
  pub there : row (told_as told) state ≡ Some r
  pub is : IsHeard told state r

row_met : (told : Told) (state : LineState) → is_some (row (told_as told) state) ≡ true → Met told state
row_met Data IsD e = record { r = _; there = refl; is = record { next = refl; answer = refl; some = λ f. absurd (cc) } }
row_met Data ImD e = record { r = _; there = refl; is = record { next = refl; answer = refl; some = λ f. absurd (cc) } }
row_met Data SmD e = record { r = _; there = refl; is = record { next = refl; answer = refl; some = λ f. absurd (cc) } }
row_met Data I e = absurd (cc)
row_met Data S e = absurd (cc)
row_met Data M e = absurd (cc)
row_met Data MiA e = absurd (cc)
row_met Data SiA e = absurd (cc)
row_met Data IiA e = absurd (cc)
row_met Ack MiA e = record { r = _; there = refl; is = record { next = refl; answer = refl; some = λ f. absurd (cc) } }
row_met Ack SiA e = record { r = _; there = refl; is = record { next = refl; answer = refl; some = λ f. absurd (cc) } }
row_met Ack IiA e = record { r = _; there = refl; is = record { next = refl; answer = refl; some = λ f. absurd (cc) } }
row_met Ack I e = absurd (cc)
row_met Ack S e = absurd (cc)
row_met Ack M e = absurd (cc)
row_met Ack IsD e = absurd (cc)
row_met Ack ImD e = absurd (cc)
row_met Ack SmD e = absurd (cc)
row_met Inv S e = record { r = _; there = refl; is = record { next = refl; answer = refl; some = λ f. absurd (cc) } }
row_met Inv SmD e = record { r = _; there = refl; is = record { next = refl; answer = refl; some = λ f. absurd (cc) } }
row_met Inv SiA e = record { r = _; there = refl; is = record { next = refl; answer = refl; some = λ f. absurd (cc) } }
row_met Inv I e = absurd (cc)
row_met Inv M e = absurd (cc)
row_met Inv IsD e = absurd (cc)
row_met Inv ImD e = absurd (cc)
row_met Inv MiA e = absurd (cc)
row_met Inv IiA e = absurd (cc)
row_met FwdS M e = record { r = _; there = refl; is = record { next = refl; answer = refl; some = λ f. absurd (cc) } }
row_met FwdS MiA e = record { r = _; there = refl; is = record { next = refl; answer = refl; some = λ f. absurd (cc) } }
row_met FwdS I e = absurd (cc)
row_met FwdS S e = absurd (cc)
row_met FwdS IsD e = absurd (cc)
row_met FwdS ImD e = absurd (cc)
row_met FwdS SmD e = absurd (cc)
row_met FwdS SiA e = absurd (cc)
row_met FwdS IiA e = absurd (cc)
row_met FwdM M e = record { r = _; there = refl; is = record { next = refl; answer = refl; some = λ f. absurd (cc) } }
row_met FwdM MiA e = record { r = _; there = refl; is = record { next = refl; answer = refl; some = λ f. absurd (cc) } }
row_met FwdM I e = absurd (cc)
row_met FwdM S e = absurd (cc)
row_met FwdM IsD e = absurd (cc)
row_met FwdM ImD e = absurd (cc)
row_met FwdM SmD e = absurd (cc)
row_met FwdM SiA e = absurd (cc)
row_met FwdM IiA e = absurd (cc)

-- ---- replies

-- what is seen of an answer
abbrev pub seen_answer : Option Replying → ℕ → List (Replying × ℕ)
seen_answer None b = []
seen_answer (Some r) b = (r, b) ∷ []

module _ {R : Type 0} where
  reply_kind : (r : Replying) (l : Line R) →
      ◌≡◌ {A = Replying × ℕ} (reply_of (response_of r l), response_block (response_of r l)) (r, l.block)
  reply_kind Replying.InvAck l = refl
  reply_kind Replying.OwnerData l = refl

module _ {R K : Type 0} where
  -- the oldest message on a link is the one that is kept
  pub record OldestMessage (items : List (Mail (FromHome R) K)) (blocks : List ℕ) (m : Message)
      (rest : List Message) : Type 0 where
    pub mail : Mail (FromHome R) K
    pub later : List (Mail (FromHome R) K)
    pub items_are : items ≡ mail ∷ later
    pub kind : signal mail.item ≡ told_as m.told
    pub block_is : block_of mail.item ≡ block_at blocks m.place
    pub left : map (kept_message blocks) rest ≡ map seen_message later

  pub oldest_message : (items : List (Mail (FromHome R) K)) (blocks : List ℕ) (m : Message) (rest : List Message) →
      map (kept_message blocks) (m ∷ rest) ≡ map seen_message items → OldestMessage items blocks m rest
  oldest_message [] blocks m rest seen = absurd (cc)
  oldest_message (mail ∷ later) blocks m rest seen =
      let same = cons-head _ _ _ _ seen in
      record {
        mail = mail;
        later = later;
        items_are = refl;
        kind = sym (ap (λ (x : Signal × ℕ). x.0) same);
        block_is = sym (ap (λ (x : Signal × ℕ). x.1) same);
        left = cons-rest _ _ _ _ seen;
      }

  -- what is seen of the responses after an answer
  answering_seen : (p : Port R K) (answer : Option Replying) (l : Line R) →
      map seen_reply (port_answering p (replied answer l)).responses.items
      ≡ map seen_reply p.responses.items ++ seen_answer answer l.block
  answering_seen p None l = sym (append-nil (map seen_reply p.responses.items))
  answering_seen p (Some r) l =
      map-append seen_reply p.responses.items (record { item = response_of r l; carry = p.carry } ∷ [])
      ∙ ap (λ (x : Replying × ℕ). map seen_reply p.responses.items ++ x ∷ []) (reply_kind r l)

  answering_cache : (p : Port R K) (o : Option (Response R)) → (port_answering p o).cache ≡ p.cache
  answering_cache p None = refl
  answering_cache p (Some r) = refl

  answering_requests : (p : Port R K) (o : Option (Response R)) → (port_answering p o).requests ≡ p.requests
  answering_requests p None = refl
  answering_requests p (Some r) = refl

  answering_messages : (p : Port R K) (o : Option (Response R)) → (port_answering p o).messages ≡ p.messages
  answering_messages p None = refl
  answering_messages p (Some r) = refl

-- what is kept of the responses after an answer about the block at a place
with_reply_kept : (blocks : List ℕ) (o : Option Replied) (place : ℕ) (replies : List Reply) →
    map (kept_reply blocks) (with_reply o place replies)
    ≡ map (kept_reply blocks) replies ++ seen_answer (replied_by o) (block_at blocks place)
with_reply_kept blocks None place replies = sym (append-nil (map (kept_reply blocks) replies))
with_reply_kept blocks (Some r) place replies =
    map-append (kept_reply blocks) replies (record { place = place; replied = r } ∷ [])

with_reply_placed : (blocks : List ℕ) (o : Option Replied) (place : ℕ) (replies : List Reply) →
    nat_lt place (length blocks) ≡ true → are_replied_placed blocks replies ≡ true →
    are_replied_placed blocks (with_reply o place replies) ≡ true
with_reply_placed blocks None place replies lies are = are
with_reply_placed blocks (Some r) place replies lies are =
    list_all-append (λ (m : Reply). nat_lt m.place (length blocks)) replies (record { place = place; replied = r } ∷ [])
    ∙ and_from _ _ are (and_from _ _ lies refl)

-- ---- the node

module _ {R K : Type 0} where
  pub heard_shows : (riding : Riding R) (carrying : Carrying K) (image : Contents) (blocks : List ℕ) (n n' : Node)
      (core : Core) (p : Port R K) (m : Message) (later : List Message) (block : ℕ) →
      block ≡ block_at blocks m.place → n.messages ≡ m ∷ later →
      n' ≡ node_heard n (block % LINES) m later → length p.cache ≡ LINES →
      ((mail : Mail (FromHome R) K) (rest : List (Mail (FromHome R) K)) → p.messages.items ≡ mail ∷ rest →
      ((line_for riding.fresh p.cache (block_of mail.item)).block ≡ block_of mail.item)
      × (is_some (row (signal mail.item) (line_for riding.fresh p.cache (block_of mail.item)).state) ≡ true)) →
      NodeShows image blocks n core p →
      NodeShows image blocks n' core (port_taking riding carrying p p.messages.items)
  heard_shows riding carrying image blocks n n' core p m later block at oldest new long has_row shows =
      subst (λ (x : Node). NodeShows image blocks x core (port_taking riding carrying p p.messages.items)) (sym new)
      (subst (λ (q : List (Mail (FromHome R) K)). NodeShows image blocks (node_heard n index m later) core
      (port_taking riding carrying p q)) (sym first.items_are)
      (record {
        core_is = shows.core_is;
        need = shows.need;
        op = shows.op;
        lines = lines_now;
        requests = shows.requests
            ∙ ap (λ (q : Queue (Mail (Request R) K)).
            map seen_request q.items) (sym (answering_requests hearing answer_is));
        replies = with_reply_kept blocks (answered m.told) m.place n.replies
            ∙ (ap (λ (l : List (Replying × ℕ)). l ++ seen_answer (replied_by (answered m.told)) (block_at blocks
            m.place))
            shows.replies
            ∙ (ap (λ (b : ℕ). map seen_reply p.responses.items ++ seen_answer (replied_by (answered m.told)) b)
            (sym old_block)
            ∙ (ap (λ (a : Option Replying). map seen_reply p.responses.items ++ seen_answer a old.block)
            (sym met.is.answer)
            ∙ (sym (answering_seen hearing met.r.answer old)
            ∙ ap (λ (o : Option Row). map seen_reply (port_answering hearing (answer_by o old)).responses.items)
            (sym row_old)))));
        messages = first.left
            ∙ ap (λ (q : Queue (Mail (FromHome R) K)). map seen_message q.items)
            (sym (answering_messages hearing answer_is));
        placed = λ i within some. placed_at i within some (cases_eq i index);
        asked = shows.asked;
        replied = with_reply_placed blocks (answered m.told) m.place n.replies placed_told.0 shows.replied;
        told = placed_told.1;
      }))
    where
      index : ℕ
      index = block % LINES

      first : OldestMessage p.messages.items blocks m later
      first = oldest_message p.messages.items blocks m later
          (ap (map (kept_message blocks)) (sym oldest) ∙ shows.messages)

      mail : Mail (FromHome R) K
      mail = first.mail

      block_here : block_of mail.item ≡ block
      block_here = first.block_is ∙ sym at

      old : Line R
      old = line_for riding.fresh p.cache (block_of mail.item)

      hearing : Port R K
      hearing = port_hearing riding carrying p mail first.later

      found : (old.block ≡ block_of mail.item) × (is_some (row (signal mail.item) old.state) ≡ true)
      found = has_row mail first.later first.items_are

      old_block : old.block ≡ block_at blocks m.place
      old_block = found.0 ∙ first.block_is

      own : KeptLine
      own = line_at n index

      same : kept_line own ≡ seen_line old
      same = line_is image blocks n core p riding.fresh index shows
          ∙ ap (λ (b : ℕ). seen_line (line_for riding.fresh p.cache b)) (sym block_here)

      met : Met m.told own.state
      met = row_met m.told own.state
          (ap (λ (x : LineState × ℕ). is_some (row (told_as m.told) x.0)) same
          ∙ (ap (λ (k : Signal). is_some (row k old.state)) (sym first.kind) ∙ found.1))

      row_old : row (signal mail.item) old.state ≡ Some met.r
      row_old = ap (λ (k : Signal). row k old.state) first.kind
          ∙ (ap (λ (x : LineState × ℕ). row (told_as m.told) x.0) (sym same) ∙ met.there)

      answer_is : Option (Response R)
      answer_is = answer_by (row (signal mail.item) old.state) old

      new_line : KeptLine
      new_line = record own { state = heard m.told own.state }

      line_now : Line R
      line_now = line_by riding (row (signal mail.item) old.state) mail.item old

      line_same : kept_line new_line ≡ seen_line line_now
      line_same =
          ap (λ (s : LineState). (s, own.block)) (sym met.is.next)
          ∙ (ap (λ (x : LineState × ℕ). (met.r.next, x.1)) same
          ∙ ap (λ (o : Option Row). seen_line (line_by riding o mail.item old)) (sym row_old))

      lines_now : map kept_line (node_heard n index m later).lines ≡ map seen_line (port_answering hearing
          answer_is).cache
      lines_now =
          map-set kept_line n.lines index new_line
          ∙ (ap (λ (ls : List (LineState × ℕ)). slice_set ls index (kept_line new_line)) shows.lines
          ∙ (ap (λ (x : LineState × ℕ). slice_set (map seen_line p.cache) index x) line_same
          ∙ (ap (λ (b : ℕ). slice_set (map seen_line p.cache) (b % LINES) (seen_line line_now)) (sym block_here)
          ∙ (sym (map-set seen_line p.cache (block_of mail.item % LINES) line_now)
          ∙ ap (map seen_line) (sym (answering_cache hearing answer_is))))))

      placed_told : (nat_lt m.place (length blocks) ≡ true) × (are_told_placed blocks later ≡ true)
      placed_told = and_parts _ _ (ap (are_told_placed blocks) (sym oldest) ∙ shows.told)

      lines_long : length n.lines ≡ LINES
      lines_long = sym (length-map n.lines kept_line) ∙ (ap length shows.lines ∙ (length-map p.cache seen_line ∙ long))

      new_node : Node
      new_node = node_heard n index m later

      placed_at : (i : ℕ) → i < LINES → (line_at new_node i).state ≢ I → (i ≡ index) ⊎ (i ≢ index) →
          ((line_at new_node i).place < length blocks)
          × (block_at blocks (line_at new_node i).place ≡ (line_at new_node i).block)
      placed_at i within some (inl here) =
          let is : line_at new_node i ≡ new_line = ap (line_at new_node) here ∙ get_or-set_same n.lines index new_line
          no_line (subst (λ (k : ℕ). index < k) (sym lines_long) (omega arith)) in
          subst (λ (l : KeptLine). (l.place < length blocks) × (block_at blocks l.place ≡ l.block)) (sym is)
          (shows.placed index (omega arith) met.is.some)
      placed_at i within some (inr apart) =
          let is : line_at new_node i ≡ line_at n i = get_or-set_other n.lines index i new_line no_line apart in
          subst (λ (l : KeptLine). (l.place < length blocks) × (block_at blocks l.place ≡ l.block)) (sym is)
          (shows.placed i within (λ none. some (ap (λ (l : KeptLine). l.state) is ∙ none)))

-- ---- the node as code leaves it

pub word_heard : (n : Node) (i : ℕ) (m : Message) (later : List Message) (state : LineState) (replies : List Reply) →
    state ≡ heard m.told (line_at n i).state → replies ≡ with_reply (answered m.told) m.place n.replies →
    ◌≡◌ {A = Node} (record n {
      lines = slice_set n.lines i (record (line_at n i) { state = state });
      replies = replies;
      messages = later;
    }) (node_heard n i m later)
word_heard n i m later state replies is answer =
    ap (λ (x : LineState). node_by x replies) is ∙ ap (node_by (heard m.told (line_at n i).state)) answer
  where
    node_by : LineState → List Reply → Node
    node_by x rs = record n {
      lines = slice_set n.lines i (record (line_at n i) { state = x });
      replies = rs;
      messages = later;
    }

pub data_heard : (n : Node) (i : ℕ) (m : Message) (later : List Message) (state : LineState) → m.told ≡ Data →
    state ≡ heard Data (line_at n i).state →
    ◌≡◌ {A = Node} (record n {
      lines = slice_set n.lines i (record (line_at n i) { state = state });
      messages = later;
    }) (node_heard n i m later)
data_heard n i m later state brings is =
    ap (λ (x : LineState). filled x) is ∙ ap by_told (sym brings)
  where
    filled : LineState → Node
    filled x = record n {
      lines = slice_set n.lines i (record (line_at n i) { state = x });
      messages = later;
    }

    by_told : Told → Node
    by_told t = record n {
      lines = slice_set n.lines i (record (line_at n i) { state = heard t (line_at n i).state });
      replies = with_reply (answered t) m.place n.replies;
      messages = later;
    }

-- the message that was taken was the oldest
pub heard_oldest : (home : List HomeBlock) (n n0 : Node) (m : Message) (later : List Message) (block : ℕ) →
    n ≡ n0 → n.messages ≡ m ∷ later → block ≡ (home_at home m.place).block →
    node_heard n (block % LINES) m later ≡ hearing home n0 n0.messages
heard_oldest home n n0 m later block is oldest at =
    ap (λ (x : Node). node_heard x (block % LINES) m later) is
    ∙ (ap (λ (b : ℕ). node_heard n0 (b % LINES) m later) at
    ∙ ap (hearing home n0) (sym (ap (λ (x : Node). x.messages) (sym is) ∙ oldest)))
