-- Forgetting riders and carries goes through what an act does to a port.
use Rattle.std.proofs.Common.{◌≡◌, ◌∙◌, ap, refl, sym, rules, ℕ, List, [], ◌∷◌, Bool, true, false, Option, Some, None}
use Rattle.std.specs.Prelude.{map, slice_set, if◌then◌else◌}
use Rattle.std.proofs.lemmas.List.{map-set, map-append}
use Rattle.std.proofs.Math.ListN.{get_or-map}
use Rattle.access_times.specs.Riding.{Riding, Carrying, none_riding, none_carrying}
use Rattle.rtr_types.specs.Accesses.{is_write}
use Rattle.rtr_types.specs.declared.access.Kind.{Kind}
use Rattle.link_order.specs.Queue.{Queue}
use Rattle.msi_cache.proofs.Forgets.{plain_block, plain_line_for, plain_lines_with, plain_on_home, plain_put}
use Rattle.msi_cache.proofs.Forgets.{plain_want}
use Rattle.msi_cache.specs.Lines.{answer, asks, line_for, lines_asking, lines_put, lines_riding, lines_with}
use Rattle.msi_cache.specs.PlainPart.{plain_answer, plain_lines, plain_message, plain_request, plain_response}
use Rattle.msi_cache.specs.declared.line.Line.{Line}
use Rattle.msi_cache.specs.declared.messages.FromHome.{FromHome}
use Rattle.msi_cache.specs.declared.messages.Request.{Request}
use Rattle.msi_cache.specs.declared.messages.Response.{Response}
use Rattle.msi_memory.specs.declared.port.Mail.{Mail}
use Rattle.msi_memory.specs.declared.port.Port.{Port}
use Rattle.msi_memory.specs.Acts.{allows, answer_to, data_next, is_data, lines_touched, port_answering, port_asking}
use Rattle.msi_memory.specs.Acts.{port_hearing, port_taking, port_touched}
use Rattle.msi_memory.specs.Acts.{pushed}
use Rattle.msi_memory.specs.Memories.{no_port, port_at}
use Rattle.msi_memory.specs.PlainPart.{plain_link, plain_mail, plain_port}

pub plain_pushed : {A B K : Type 0} (f : A → B) (link : Queue (Mail A K)) (item : A) (k : K) →
    plain_link f (pushed link item k)
    ≡ pushed (plain_link f link) (f item) tt
plain_pushed f link item k = rw (map-append (plain_mail f) link.items (record { item = item; carry = k } ∷ []))

module _ {R K : Type 0} where
  pub plain_port_at : (carrying : Carrying K) (ports : List (Port R K)) (c : ℕ) →
      port_at none_carrying (map plain_port ports) c
      ≡ plain_port (port_at carrying ports c)
  plain_port_at carrying ports c = get_or-map plain_port ports c (no_port carrying)

  -- setting a core's port, where the plain part of the new one is known
  pub plain_port_set : (ports : List (Port R K)) (c : ℕ) (p : Port R K) (q : Port (Unit {0}) (Unit {0})) →
      plain_port p ≡ q →
      map plain_port (slice_set ports c p) ≡ slice_set (map plain_port ports) c q
  plain_port_set ports c p q same =
      map-set plain_port ports c p ∙ ap (λ (x : Port (Unit {0}) (Unit {0})). slice_set (map plain_port ports) c x) same

module _ {R : Type 0} where
  plain_lines_riding : (fresh : R) (lines : List (Line R)) (block : ℕ) (rider : R) →
      plain_lines (lines_riding fresh lines block rider)
      ≡ lines_riding tt (plain_lines lines) block tt
  plain_lines_riding fresh lines block rider =
      plain_lines_with lines block (record (line_for fresh lines block) { rider = rider })
      ∙ ap (λ (l : Line (Unit {0})). lines_with (plain_lines lines) block (record l { rider = tt }))
      (sym (plain_line_for fresh lines block))

  plain_lines_touched : (riding : Riding R) (lines : List (Line R)) (block slot : ℕ) (kind : Kind) (value : ℕ) →
      plain_lines (lines_touched riding.fresh lines block slot kind value) ≡ lines_touched tt (plain_lines lines) block
      slot kind value
  plain_lines_touched riding lines block slot kind value = by_write (is_write kind)
    where
      by_write : (t : Bool) → plain_lines (if t then lines_put riding.fresh lines block slot value else lines)
          ≡ (if t then lines_put tt (plain_lines lines) block slot value else plain_lines lines)
      by_write true = plain_put riding lines block slot value
      by_write false = refl

  plain_data : (m : FromHome R) → is_data m ≡ is_data (plain_message m)
  plain_data m = search rules

module _ {R K : Type 0} where
  pub plain_allows : (riding : Riding R) (p : Port R K) (block : ℕ) (kind : Kind) →
      allows riding p block kind ≡ allows none_riding (plain_port p) block kind
  plain_allows riding p block kind = (plain_want riding p.cache block kind).same_allowed

  pub plain_data_next : (q : List (Mail (FromHome R) K)) → data_next q ≡ data_next (map (plain_mail plain_message) q)
  plain_data_next [] = refl
  plain_data_next (mail ∷ rest) = plain_data mail.item

  pub plain_asking : (riding : Riding R) (p : Port R K) (block : ℕ) (kind : Kind) →
      plain_port (port_asking riding p block kind)
      ≡ port_asking none_riding (plain_port p) block kind
  plain_asking riding p block kind =
      let want = plain_want riding p.cache block kind in
      let by : List (Line (Unit {0})) → Queue (Mail (Request (Unit {0})) (Unit {0})) → Port (Unit {0}) (Unit {0}) =
      λ (lines : List (Line (Unit {0}))) (link : Queue (Mail (Request (Unit {0})) (Unit {0}))). record (plain_port p)
      { cache = lines; requests = link } in
      ap (λ (lines : List (Line (Unit {0}))).
      by lines (plain_link plain_request (pushed p.requests (asks (line_for riding.fresh p.cache block) block kind)
      p.carry))) want.same_lines
      ∙ ap (λ (link : Queue (Mail (Request (Unit {0})) (Unit {0}))). by (lines_asking none_riding (plain_lines p.cache)
      block kind) link)
      (plain_pushed plain_request p.requests (asks (line_for riding.fresh p.cache block) block kind) p.carry
      ∙ ap (λ (item : Request (Unit {0})). pushed (plain_link plain_request p.requests) item tt) want.same_asks)

  pub plain_touched : (riding : Riding R) (p : Port R K) (block slot : ℕ) (kind : Kind) (value : ℕ) (rider : R) →
      plain_port (port_touched riding p block slot kind value rider) ≡ port_touched none_riding (plain_port p) block
      slot kind value tt
  plain_touched riding p block slot kind value rider =
      ap (λ (lines : List (Line (Unit {0}))). record (plain_port p) { cache = lines })
      (plain_lines_riding riding.fresh (lines_touched riding.fresh p.cache block slot kind value) block rider
      ∙ ap (λ (lines : List (Line (Unit {0}))). lines_riding tt lines block tt) (plain_lines_touched riding p.cache
      block slot kind value))

  plain_hearing : (riding : Riding R) (carrying : Carrying K) (p : Port R K) (mail : Mail (FromHome R) K)
      (rest : List (Mail (FromHome R) K)) →
      plain_port (port_hearing riding carrying p mail rest)
      ≡ port_hearing none_riding none_carrying (plain_port p) (plain_mail plain_message mail)
      (map (plain_mail plain_message) rest)
  plain_hearing riding carrying p mail rest =
      ap (λ (lines : List (Line (Unit {0}))).
      record (plain_port p) {
        cache = lines;
        messages = record (plain_link plain_message p.messages) {
          items =
              map (plain_mail plain_message) rest;
        };
      })
      (plain_on_home riding p.cache mail.item).same_lines

  plain_answering : (p : Port R K) (o : Option (Response R)) → plain_port (port_answering p o) ≡ port_answering
      (plain_port p) (plain_answer o)
  plain_answering p None = refl
  plain_answering p (Some r) =
      ap (λ (q : Queue (Mail (Response (Unit {0})) (Unit {0}))). record (plain_port p) { responses = q })
      (plain_pushed plain_response p.responses r p.carry)

  plain_answer_to : (riding : Riding R) (p : Port R K) (m : FromHome R) → plain_answer (answer_to riding p m)
      ≡ answer_to none_riding (plain_port p) (plain_message m)
  plain_answer_to riding p m =
      (plain_on_home riding p.cache m).same_answer
      ∙ ap (λ (b : ℕ). answer (line_for tt (plain_lines p.cache) b) (plain_message m)) (sym (plain_block m))

  pub plain_taking : (riding : Riding R) (carrying : Carrying K) (p : Port R K) (q : List (Mail (FromHome R) K)) →
      plain_port (port_taking riding carrying p q) ≡ port_taking none_riding none_carrying (plain_port p)
      (map (plain_mail plain_message) q)
  plain_taking riding carrying p [] = refl
  plain_taking riding carrying p (mail ∷ rest) =
      plain_answering (port_hearing riding carrying p mail rest) (answer_to riding p mail.item)
      ∙ ap (λ (x : Port (Unit {0}) (Unit {0})). port_answering x (plain_answer (answer_to riding p mail.item)))
      (plain_hearing riding carrying p mail rest)
      ∙ ap (λ (o : Option (Response (Unit {0}))).
      port_answering (port_hearing none_riding none_carrying (plain_port p) (plain_mail plain_message mail)
      (map (plain_mail plain_message) rest)) o)
      (plain_answer_to riding p mail.item)
