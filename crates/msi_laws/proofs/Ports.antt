-- What a port's own acts show at each block.
use Rattle.std.proofs.Common.{◌≡◌, ◌≢◌, ◌∙◌, ap, refl, sym, subst, ℕ, ◌<◌, ◌==◌, ◌%◌, Bool, true, false, List, [], ◌∷◌}
use Rattle.std.proofs.Common.{◌++◌, length, Option, Some, None, arith}
use Rattle.std.proofs.Common.{inl, inr, ◌⊎◌}
use Rattle.rtr_types.specs.declared.TheConstants.{LINES}
use Rattle.std.specs.Prelude.{if◌then◌else◌, slice_index_or, slice_set}
use Rattle.std.proofs.lemmas.List.{get_or-set_same, get_or-set_other, append-nil}
use Rattle.std.proofs.lemmas.Bool.{cases_eq}
use Rattle.std.proofs.lemmas.Bool.Decides.{nat_tests}
use Rattle.access_times.specs.Riding.{Riding, Carrying}
use Rattle.rtr_types.specs.declared.access.Kind.{Kind}
use Rattle.rtr_types.specs.Accesses.{is_write}
use Rattle.msi_cache.specs.declared.line.Line.{Line}
use Rattle.msi_cache.specs.declared.line.State.TheVariants.{I}
use Rattle.msi_cache.specs.declared.messages.FromHome.{FromHome}
use Rattle.msi_cache.specs.declared.messages.Response.{Response}
use Rattle.msi_cache.specs.declared.messages.Request.{Request}
use Rattle.msi_cache.specs.Table.{is_transient}
use Rattle.msi_cache.specs.Messages.{block_of, request_block, response_block}
use Rattle.msi_cache.specs.Lines.{line_for, line_after, answer, lines_asking, line_asking, asks, is_allowed, empty_line}
use Rattle.msi_cache.specs.Lines.{lines_riding, lines_put}
use Rattle.msi_memory.specs.declared.port.Mail.{Mail}
use Rattle.msi_memory.specs.declared.port.Port.{Port}
use Rattle.msi_memory.specs.Acts.{port_hearing, port_answering, answer_to, port_taking, port_asking, lines_touched}
use Rattle.msi_protocol.specs.Shown.{Sight, sight_received, sight_asking, answers}
use Rattle.msi_protocol.proofs.DeadCopies.{SameSight}
use Rattle.msi_laws.specs.Sights.{cons_if}
use Rattle.msi_laws.specs.Links.{of_block, line_here, line_if, port_sight, words_left}
use Rattle.msi_laws.proofs.Sent.{of_block-snoc}
use Rattle.msi_laws.proofs.Lines.{set_at, touched_long}
use Rattle.msi_cache.proofs.Stays.{after_block}

module _ {R : Type 0} where
  -- two lines that show alike at a block
  pub record SameLine (l m : Line R) : Type 0 where
    pub state : l.state ≡ m.state
    pub block : l.block ≡ m.block
    pub payload : l.state ≢ I → l ≡ m

  pub same_line : (l m : Line R) → l ≡ m → SameLine l m
  same_line l m e = record {
    state = ap (λ (x : Line R). x.state) e;
    block = ap (λ (x : Line R). x.block) e;
    payload =
        λ valid. e;
  }

  -- lines at a place where two blocks can't both be: one shows nothing of the other
  off_block : (b : ℕ) (l m : Line R) → (l.block ≢ b) ⊎ (l.state ≡ I) → (m.block ≢ b) ⊎ (m.state ≡ I) →
      SameLine (line_here b l) (line_here b m)
  off_block b l m p q = record {
    state = state l p ∙ sym (state m q);
    block = block l ∙ sym (block m);
    payload =
        λ valid. absurd (valid (state l p));
  }
    where
      state : (l : Line R) → (l.block ≢ b) ⊎ (l.state ≡ I) → (line_here b l).state ≡ I
      state l (inl other) = let t : (l.block == b) ≡ false = grind (arith, nat_tests) in rw t refl
      state l (inr is) = by (l.block == b)
        where
          by : (t : Bool) → (line_if t b l).state ≡ I
          by true = is
          by false = refl

      block : (l : Line R) → (line_here b l).block ≡ b
      block l = grind (arith, nat_tests)

  -- the lines of two caches that differ at one place
  set_line : (fresh : R) (lines : List (Line R)) (j : ℕ) (l : Line R) (b : ℕ) → j < length lines →
      (b % LINES ≡ j → SameLine (line_here b (line_for fresh lines b)) (line_here b l)) →
      SameLine (line_here b (line_for fresh lines b))
      (line_here b (line_for fresh (slice_set lines j l) b))
  set_line fresh lines j l b within here =
      subst (λ (m : Line R). SameLine (line_here b (line_for fresh lines b)) (line_here b m))
      (sym (set_at lines j (b % LINES) l (empty_line fresh) within)) (by (b % LINES == j) refl)
    where
      by : (t : Bool) → (b % LINES == j) ≡ t → SameLine (line_here b (line_for fresh lines b))
          (line_here b (if t then l else line_for fresh lines b))
      by true e = here (grind (arith, nat_tests))
      by false e = same_line (line_here b (line_for fresh lines b)) (line_here b (line_for fresh lines b)) refl

  set_here : (fresh : R) (lines : List (Line R)) (l : Line R) (b : ℕ) → length lines ≡ LINES →
      line_for fresh (slice_set lines (b % LINES) l) b ≡ l
  set_here fresh lines l b long = get_or-set_same lines (b % LINES) l (empty_line fresh) (omega arith)

  answer_block : (l : Line R) (m : FromHome R) (r : Response R) → answer l m ≡ Some r → response_block r ≡ l.block
  answer_block l m r e = grind arith

module _ {R K : Type 0} where
  -- ---- a message is received

  received_messages : (b : ℕ) (p : Port R K) (mail : Mail (FromHome R) K) (rest : List (Mail (FromHome R) K)) →
      p.messages.items ≡ mail ∷ rest →
      block_of mail.item ≢ b → of_block block_of b p.messages.items ≡ of_block block_of b rest
  received_messages b p mail rest is other = ap (of_block block_of b) is ∙ (let t : (block_of mail.item == b) ≡ false =
      grind (arith, nat_tests) in
      ap (λ (u : Bool). cons_if u mail.item (of_block block_of b rest)) t)

  answered_responses : (riding : Riding R) (carrying : Carrying K) (b : ℕ) (p : Port R K) (mail : Mail (FromHome R) K)
      (rest : List (Mail (FromHome R) K))
      (o : Option (Response R)) → ((r : Response R) → o ≡ Some r → response_block r ≡ b) → of_block response_block b
      (port_answering (port_hearing riding carrying p mail rest) o).responses.items ≡ of_block response_block b
      p.responses.items ++ answers o
  answered_responses riding carrying b p mail rest None at =
      sym (append-nil (of_block response_block b p.responses.items))
  answered_responses riding carrying b p mail rest (Some r) at =
      let t : (response_block r == b) ≡ true = let e = at r refl in grind (arith, nat_tests) in
      of_block-snoc response_block b p.responses.items (record { item = r; carry = carrying.joined p.carry mail.carry })
      ∙ ap (λ (u : Bool). of_block response_block b p.responses.items ++ cons_if u r []) t

  answered_elsewhere : (riding : Riding R) (carrying : Carrying K) (b : ℕ) (p : Port R K) (mail : Mail (FromHome R) K)
      (rest : List (Mail (FromHome R) K))
      (o : Option (Response R)) → ((r : Response R) → o ≡ Some r → response_block r ≢ b) → of_block response_block b
      (port_answering (port_hearing riding carrying p mail rest) o).responses.items ≡ of_block response_block b
      p.responses.items
  answered_elsewhere riding carrying b p mail rest None at = refl
  answered_elsewhere riding carrying b p mail rest (Some r) at =
      let t : (response_block r == b) ≡ false = let e = at r refl in grind (arith, nat_tests) in
      of_block-snoc response_block b p.responses.items (record { item = r; carry = carrying.joined p.carry mail.carry })
      ∙ (ap (λ (u : Bool). of_block response_block b p.responses.items ++ cons_if u r []) t
      ∙ append-nil (of_block response_block b p.responses.items))

  answering_same : (p : Port R K) (o : Option (Response R)) →
      ((port_answering p o).cache ≡ p.cache) × ((port_answering p o).requests ≡ p.requests)
      × ((port_answering p o).messages ≡ p.messages)
  answering_same p None = (refl, refl, refl)
  answering_same p (Some r) = (refl, refl, refl)

  -- the message's block
  pub sight-received : (riding : Riding R) (carrying : Carrying K) (p : Port R K) (mail : Mail (FromHome R) K)
      (rest : List (Mail (FromHome R) K)) →
      length p.cache ≡ LINES → p.messages.items ≡ mail ∷ rest →
      (line_for riding.fresh p.cache (block_of mail.item)).block ≡ block_of mail.item →
      port_sight riding (block_of mail.item) (port_taking riding carrying p (mail ∷ rest)) ≡ sight_received riding
      mail.item
      (of_block block_of (block_of mail.item) rest) (port_sight riding (block_of mail.item) p)
  sight-received riding carrying p mail rest long is at = parts line q responses m
    where
      b : ℕ
      b = block_of mail.item

      l : Line R
      l = line_for riding.fresh p.cache b

      before : line_here b l ≡ l
      before = let t : (l.block == b) ≡ true = grind (arith, nat_tests) in ap (λ (u : Bool). line_if u b l) t

      after : line_here b (line_after riding l mail.item) ≡ line_after riding l mail.item
      after = let k = after_block riding l mail.item in
          let t : ((line_after riding l mail.item).block == b) ≡ true = grind
          (arith, nat_tests) in ap (λ (u : Bool). line_if u b (line_after riding l mail.item)) t

      new : Port R K
      new = port_taking riding carrying p (mail ∷ rest)

      taken : Port R K
      taken = port_hearing riding carrying p mail rest

      line : line_here b (line_for riding.fresh new.cache b) ≡ line_after riding (line_here b l) mail.item
      line = ap (λ (c : List (Line R)). line_here b (line_for riding.fresh c b))
          (answering_same taken (answer_to riding p mail.item)).0
          ∙ (ap (line_here b) (set_here riding.fresh p.cache (line_after riding l mail.item) b long)
          ∙ (after ∙ ap (λ (x : Line R). line_after riding x mail.item) (sym before)))

      q : of_block request_block b new.requests.items ≡ of_block request_block b p.requests.items
      q = ap (λ (x : _). of_block request_block b x.items) (answering_same taken (answer_to riding p mail.item)).1

      responses : of_block response_block b new.responses.items ≡ of_block response_block b p.responses.items ++ answers
          (answer (line_here b l) mail.item)
      responses = answered_responses riding carrying b p mail rest (answer_to riding p mail.item)
          (λ (r : Response R) (e : answer_to riding p mail.item ≡ Some r). answer_block l mail.item r e ∙ at)
          ∙ ap (λ (x : Line R). of_block response_block b p.responses.items ++ answers (answer x mail.item))
          (sym before)

      m : of_block block_of b new.messages.items ≡ of_block block_of b rest
      m = ap (λ (x : _). of_block block_of b x.items) (answering_same taken (answer_to riding p mail.item)).2

      parts : {x y : Line R} {q r : List (Request R)} {p u : List (Response R)} {m k : List (FromHome R)} → x ≡ y →
          q ≡ r → p ≡ u → m ≡ k → ◌≡◌ {A = Sight R}
          (record { line = x; requests = q; responses = p; messages = m }) (record {
            line = y;
            requests = r;
            responses =
                u;
            messages = k;
          })
      parts e f g h = cc

  -- another block
  pub sight-received_other : (riding : Riding R) (carrying : Carrying K) (p : Port R K) (mail : Mail (FromHome R) K)
      (rest : List (Mail (FromHome R) K))
      (b : ℕ) → length p.cache ≡ LINES → p.messages.items ≡ mail ∷ rest →
      (line_for riding.fresh p.cache (block_of mail.item)).block ≡ block_of mail.item →
      block_of mail.item ≢ b →
      SameSight (port_sight riding b p) (port_sight riding b (port_taking riding carrying p (mail ∷ rest)))
  sight-received_other riding carrying p mail rest b long is at other =
      let new = port_taking riding carrying p (mail ∷ rest) in
      let taken = port_hearing riding carrying p mail rest in
      let k = block_of mail.item in
      let l : Line R = line_for riding.fresh p.cache k in
      let same = answering_same taken (answer_to riding p mail.item) in
      let line : SameLine (line_here b (line_for riding.fresh p.cache b))
      (line_here b (line_for riding.fresh new.cache b)) =
      subst (λ (c : List (Line R)). SameLine (line_here b (line_for riding.fresh p.cache b))
      (line_here b (line_for riding.fresh c b))) (sym same.0)
      (set_line riding.fresh p.cache (k % LINES) (line_after riding l mail.item) b (omega arith)
      (λ (place : b % LINES ≡ k % LINES). off_block b
      (line_for riding.fresh p.cache b) (line_after riding l mail.item)
      (inl (λ (e : (line_for riding.fresh p.cache b).block ≡ b). other (sym at
      ∙ ap (λ (i : ℕ). (slice_index_or p.cache i (empty_line riding.fresh)).block)
      (sym place) ∙ e))) (inl (λ (e : (line_after riding l mail.item).block ≡ b). other (sym at
      ∙ sym (after_block riding l mail.item)
      ∙ e))))) in
      record {
        state = line.state;
        block = line.block;
        payload = line.payload;
        requests = ap (λ (x : _). of_block request_block b x.items) (sym same.1);
        responses = sym (answered_elsewhere riding carrying b p mail rest (answer_to riding p mail.item)
            (λ (r : Response R) (e : answer_to riding p mail.item ≡ Some r) (f : response_block r ≡ b). other (sym at
            ∙ sym (answer_block l mail.item r e)
            ∙ f)));
        messages = received_messages b p mail rest is other ∙ ap (λ (x : _). of_block block_of b x.items) (sym same.2);
      }

-- ---- a core asks

module _ {R : Type 0} where
  asked_here : (b : ℕ) (l : Line R) (block : ℕ) (kind : Kind) → is_transient l.state ≡ false →
      is_allowed l block kind ≡ false →
      request_block (asks l block kind) ≡ b → line_here b (line_asking l block kind) ≡ line_asking (line_here b l) block
      kind
  asked_here b l block kind still needed at = grind (arith, nat_tests)

  asked_same : (b : ℕ) (l : Line R) (block : ℕ) (kind : Kind) → is_transient l.state ≡ false →
      is_allowed l block kind ≡ false →
      request_block (asks l block kind) ≡ b → asks l block kind ≡ asks (line_here b l) block kind
  asked_same b l block kind still needed at = grind (arith, nat_tests)

  pub asked_place : (l : Line R) (block : ℕ) (kind : Kind) → (l.state ≢ I → l.block % LINES ≡ block % LINES) →
      is_transient l.state ≡ false →
      request_block (asks l block kind) % LINES ≡ block % LINES
  asked_place l block kind placed still = grind (arith, nat_tests)

  asked_off : (b : ℕ) (l : Line R) (block : ℕ) (kind : Kind) → is_transient l.state ≡ false →
      is_allowed l block kind ≡ false →
      request_block (asks l block kind) ≢ b → ((l.block ≢ b) ⊎ (l.state ≡ I)) × ((line_asking l block kind).block ≢ b)
  asked_off b l block kind still needed other = (grind (arith, nat_tests), grind (arith, nat_tests))

  -- what the sight shows where the line is asked for
  pub asked_needed : (b : ℕ) (l : Line R) (block : ℕ) (kind : Kind) → is_transient l.state ≡ false →
      is_allowed l block kind ≡ false →
      request_block (asks l block kind) ≡ b → (is_transient (line_here b l).state ≡ false) × (is_allowed (line_here b l)
      block kind ≡ false)
      × ((line_here b l).state ≡ I → b ≡ block)
  asked_needed b l block kind still needed at =
      (grind (arith, nat_tests), grind (arith, nat_tests), grind (arith, nat_tests))

module _ {R K : Type 0} where
  -- what is asked for is of the line's block, or of the other one at its place
  pub asked_there : (riding : Riding R) (p : Port R K) (block : ℕ) (kind : Kind) →
      ((line_for riding.fresh p.cache block).state ≢ I →
      (line_for riding.fresh p.cache block).block % LINES ≡ block % LINES) →
      is_transient (line_for riding.fresh p.cache block).state ≡ false →
      line_for riding.fresh p.cache (request_block (asks (line_for riding.fresh p.cache block) block kind))
      ≡ line_for riding.fresh p.cache block
  asked_there riding p block kind placed still =
      ap (λ (i : ℕ). slice_index_or p.cache i (empty_line riding.fresh))
      (asked_place (line_for riding.fresh p.cache block) block kind placed still)

  pub sight-asking : (riding : Riding R) (p : Port R K) (block : ℕ) (kind : Kind) → length p.cache ≡ LINES →
      ((line_for riding.fresh p.cache block).state ≢ I →
      (line_for riding.fresh p.cache block).block % LINES ≡ block % LINES) → is_transient (line_for riding.fresh p.cache
      block).state ≡ false →
      is_allowed (line_for riding.fresh p.cache block) block kind ≡ false →
      port_sight riding (request_block (asks (line_for riding.fresh p.cache block) block kind))
      (port_asking riding p block kind) ≡ sight_asking block kind
      (port_sight riding (request_block (asks (line_for riding.fresh p.cache block) block kind)) p)
  sight-asking riding p block kind long placed still needed = parts line requests
    where
      l : Line R
      l = line_for riding.fresh p.cache block

      b : ℕ
      b = request_block (asks l block kind)

      place : b % LINES ≡ block % LINES
      place = asked_place l block kind placed still

      there : line_for riding.fresh p.cache b ≡ l
      there = asked_there riding p block kind placed still

      new : List (Line R)
      new = lines_asking riding p.cache block kind

      moved : line_for riding.fresh new b ≡ line_asking l block kind
      moved = ap (λ (i : ℕ). slice_index_or new i (empty_line riding.fresh)) place
          ∙ set_here riding.fresh p.cache (line_asking l block kind) block long

      line : line_here b (line_for riding.fresh new b) ≡ line_asking (line_here b (line_for riding.fresh p.cache b))
          block kind
      line = ap (line_here b) moved ∙ (asked_here b l block kind still needed refl
          ∙ ap (λ (x : Line R). line_asking (line_here b x) block kind) (sym there))

      requests : of_block request_block b (port_asking riding p block kind).requests.items ≡ of_block request_block b
          p.requests.items ++ asks
          (line_here b (line_for riding.fresh p.cache b)) block kind ∷ []
      requests =
          of_block-snoc request_block b p.requests.items (record { item = asks l block kind; carry = p.carry })
          ∙ (ap (λ (u : Bool). of_block request_block b p.requests.items ++ cons_if u (asks l block kind) [])
          (let t : (b == b) ≡ true = grind (arith, nat_tests) in t)
          ∙ ap (λ (x : Request R). of_block request_block b p.requests.items ++ x ∷ [])
          (asked_same b l block kind still needed refl ∙ ap (λ (x : Line R). asks (line_here b x) block kind)
          (sym there)))

      parts : {x y : Line R} {q r : List (Request R)} → x ≡ y → q ≡ r → ◌≡◌ {A = Sight R} (record {
        line = x;
        requests = q;
        responses =
            of_block response_block b p.responses.items;
        messages = of_block block_of b p.messages.items;
      }) (record {
        line = y;
        requests = r;
        responses =
            of_block response_block b p.responses.items;
        messages = of_block block_of b p.messages.items;
      })
      parts e f = cc

  pub sight-asking_other : (riding : Riding R) (p : Port R K) (block : ℕ) (kind : Kind) (b : ℕ) →
      length p.cache ≡ LINES →
      is_transient (line_for riding.fresh p.cache block).state ≡ false →
      is_allowed (line_for riding.fresh p.cache block) block kind ≡ false →
      request_block (asks (line_for riding.fresh p.cache block) block kind) ≢ b →
      SameSight (port_sight riding b p) (port_sight riding b (port_asking riding p block kind))
  sight-asking_other riding p block kind b long still needed other =
      let l : Line R = line_for riding.fresh p.cache block in
      let off = asked_off b l block kind still needed other in
      let line = set_line riding.fresh p.cache (block % LINES) (line_asking l block kind) b (omega arith)
      (λ (place : b % LINES ≡ block % LINES). let there : line_for riding.fresh p.cache b ≡ l = ap
      (λ (i : ℕ). slice_index_or p.cache i (empty_line riding.fresh)) place in
      off_block b (line_for riding.fresh p.cache b) (line_asking l block kind)
      (subst (λ (x : Line R). (x.block ≢ b) ⊎ (x.state ≡ I)) (sym there) off.0) (inl off.1)) in
      record {
        state = line.state;
        block = line.block;
        payload = line.payload;
        requests = sym (of_block-snoc request_block b p.requests.items (record {
          item = asks l block kind;
          carry =
              p.carry;
        })
            ∙ (ap (λ (u : Bool). of_block request_block b p.requests.items ++ cons_if u (asks l block kind) [])
            (let t : (request_block (asks l block kind) == b) ≡ false = grind (arith, nat_tests) in t) ∙ append-nil
            (of_block request_block b p.requests.items)));
        responses = refl;
        messages = refl;
      }

-- ---- an access

module _ {R : Type 0} where
  touched_line : (riding : Riding R) (lines : List (Line R)) (block slot : ℕ) (kind : Kind) (value : ℕ) →
      length lines ≡ LINES →
      line_for riding.fresh (lines_touched riding.fresh lines block slot kind value) block
      ≡ record (line_for riding.fresh lines block) {
        words = words_left kind (line_for riding.fresh lines block).words
            slot value;
      }
  touched_line riding lines block slot kind value long = by_write (is_write kind)
    where
      l : Line R
      l = line_for riding.fresh lines block

      by_write : (t : Bool) → line_for riding.fresh (if t then lines_put riding.fresh lines block slot value else lines)
          block
          ≡ record l { words = (if t then slice_set l.words slot value else l.words) }
      by_write true = set_here riding.fresh lines (record l { words = slice_set l.words slot value }) block long
      by_write false = refl

  -- the cache after an access differs at one line
  pub left_line : (riding : Riding R) (lines : List (Line R)) (block slot : ℕ) (kind : Kind) (value : ℕ) (rider : R) →
      length lines ≡ LINES →
      line_for riding.fresh (lines_riding riding.fresh (lines_touched riding.fresh lines block slot kind value) block
      rider) block ≡ record
      (line_for riding.fresh lines block) {
        words = words_left kind (line_for riding.fresh lines block).words slot
            value;
        rider = rider;
      }
  left_line riding lines block slot kind value rider long =
      set_here riding.fresh (lines_touched riding.fresh lines block slot kind value)
      (record (line_for riding.fresh (lines_touched riding.fresh lines block slot kind value) block) { rider = rider })
      block
      (touched_long riding lines block slot kind value ∙ long)
      ∙ ap (λ (x : Line R). (let y : Line R = record x { rider = rider } in y)) (touched_line riding lines block slot
      kind value long)

  pub left_other : (riding : Riding R) (lines : List (Line R)) (block slot : ℕ) (kind : Kind) (value : ℕ) (rider : R)
      (b : ℕ) → length lines ≡ LINES →
      (line_for riding.fresh lines block).block ≢ b → SameLine (line_here b (line_for riding.fresh lines b))
      (line_here b (line_for riding.fresh (lines_riding riding.fresh (lines_touched riding.fresh lines block slot kind
      value) block rider) b))
  left_other riding lines block slot kind value rider b long other = by (cases_eq (b % LINES) (block % LINES))
    where
      new : List (Line R)
      new = lines_riding riding.fresh (lines_touched riding.fresh lines block slot kind value) block rider

      away : (t : Bool) → b % LINES ≢ block % LINES →
          line_for riding.fresh (if t then lines_put riding.fresh lines block slot value else lines) b ≡ line_for
          riding.fresh lines b
      away false p = refl
      away true p = get_or-set_other lines (block % LINES) (b % LINES) _ (empty_line riding.fresh) p

      by : ((b % LINES) ≡ (block % LINES)) ⊎ ((b % LINES) ≢ (block % LINES)) →
          SameLine (line_here b (line_for riding.fresh lines b))
          (line_here b (line_for riding.fresh new b))
      by (inl place) =
          let there : line_for riding.fresh lines b ≡ line_for riding.fresh lines block = ap
          (λ (i : ℕ). slice_index_or lines i (empty_line riding.fresh)) place in
          let moved : line_for riding.fresh new b ≡ record (line_for riding.fresh lines block) {
            words = words_left kind
                (line_for riding.fresh lines block).words slot value;
            rider = rider;
          } = ap (λ (i : ℕ). slice_index_or new i (empty_line riding.fresh)) place
          ∙ left_line riding lines block slot kind value rider long in
          off_block b (line_for riding.fresh lines b) (line_for riding.fresh new b)
          (inl (λ (e : (line_for riding.fresh lines b).block ≡ b). other (ap (λ (x : Line R). x.block) (sym there)
          ∙ e)))
          (inl (λ (e : (line_for riding.fresh new b).block ≡ b). other (ap (λ (x : Line R). x.block) (sym moved) ∙ e)))
      by (inr p) =
          same_line (line_here b (line_for riding.fresh lines b)) (line_here b (line_for riding.fresh new b))
          (ap (line_here b) (sym (get_or-set_other (lines_touched riding.fresh lines block slot kind value)
          (block % LINES) (b % LINES) _
          (empty_line riding.fresh) p ∙ away (is_write kind) p)))
