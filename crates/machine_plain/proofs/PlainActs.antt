-- Forgetting riders and carries goes through the acts of the memory system, and leaves those that can be made as they
-- are.
use Rattle.std.proofs.Common.{◌≡◌, ◌∙◌, ap, refl, sym, rules, ℕ, List, [], ◌∷◌, length, Option, Some, None, Bool, true}
use Rattle.std.proofs.Common.{false, nat_lt, zero, suc}
use Rattle.std.specs.Prelude.{map, slice_set, if◌then◌else◌, not, ◌&&◌}
use Rattle.std.proofs.lemmas.List.{length-map}
use Rattle.access_times.specs.Riding.{Riding, Carrying, none_riding, none_carrying}
use Rattle.rtr_types.specs.CoreSets.{has}
use Rattle.rtr_types.specs.declared.core_set.CoreSet.{CoreSet}
use Rattle.link_order.specs.Queue.{Queue, is_nil}
use Rattle.msi_cache.proofs.Forgets.{plain_waits}
use Rattle.msi_cache.specs.Lines.{waits}
use Rattle.msi_cache.specs.Messages.{request_block, response_block}
use Rattle.msi_cache.specs.PlainPart.{plain_message, plain_request, plain_response}
use Rattle.msi_cache.specs.declared.messages.FromHome.{FromHome}
use Rattle.msi_cache.specs.declared.messages.FromHome.TheVariants.{Inv}
use Rattle.msi_cache.specs.declared.messages.Request.{Request}
use Rattle.msi_cache.specs.declared.messages.Response.{Response}
use Rattle.msi_directory.proofs.Forgets.{plain_on_request, plain_on_response}
use Rattle.msi_directory.specs.Blocks.{entry_at}
use Rattle.msi_directory.specs.Deeds.{Deed, request_deed, response_deed}
use Rattle.msi_directory.specs.PlainPart.{IsAlike, plain_entries, plain_home_answer, plain_send}
use Rattle.msi_directory.specs.Table.{is_free}
use Rattle.msi_directory.specs.declared.entry.Entry.{Entry}
use Rattle.msi_directory.specs.declared.entry.HomeAnswer.{HomeAnswer}
use Rattle.msi_directory.specs.declared.entry.Stage.{Stage}
use Rattle.msi_memory.specs.declared.port.Mail.{Mail}
use Rattle.msi_memory.specs.declared.port.Port.{Port}
use Rattle.msi_memory.specs.Acts.{Act, Want, Touch, Retire, TakeRequest, TakeResponse, TakeMessage, after_act}
use Rattle.msi_memory.specs.Acts.{after_acts, allows, can, can_all, can_at}
use Rattle.msi_memory.specs.Acts.{delivered, delivered_in, head_free, port_asking, port_of, port_requested}
use Rattle.msi_memory.specs.Acts.{port_responded, port_retiring, port_sent}
use Rattle.msi_memory.specs.Acts.{port_taking, port_touched, ports_sent, ports_told, take_in, take_request_in}
use Rattle.msi_memory.specs.Acts.{take_response_in, with_port}
use Rattle.msi_memory.specs.Memories.{Memory, port_at}
use Rattle.msi_memory.specs.PlainPart.{plain_act, plain_mail, plain_memory, plain_port}
use Rattle.machine_plain.proofs.Plains.{plain_allows, plain_asking, plain_port_at, plain_port_set, plain_pushed}
use Rattle.machine_plain.proofs.Plains.{plain_taking, plain_touched}

pub plain_request_block : {R : Type 0} (request : Request R) →
    request_block request ≡ request_block (plain_request request)
plain_request_block request = search rules

pub plain_response_block : {R : Type 0} (response : Response R) → response_block response ≡ response_block
    (plain_response response)
plain_response_block response = search rules

is_nil_map : {A B : Type 0} (f : A → B) (xs : List A) → is_nil (map f xs) ≡ is_nil xs
is_nil_map f [] = refl
is_nil_map f (x ∷ xs) = refl

module _ {R : Type 0} where
  plain_port_of : (act : Act R) → port_of (plain_act act) ≡ port_of act
  plain_port_of act = search rules

module _ {R K : Type 0} where
  -- ---- what the home sends

  plain_sent : (carrying : Carrying K) (ports : List (Port R K)) (to : ℕ) (m : FromHome R) (k : K) →
      map plain_port (ports_sent carrying ports to m k)
      ≡ ports_sent none_carrying (map plain_port ports) to (plain_message m) tt
  plain_sent carrying ports to m k =
      let p = port_at carrying ports to in
      plain_port_set ports to (port_sent p m k) (port_sent (plain_port p) (plain_message m) tt)
      (ap (λ (q : Queue (Mail (FromHome (Unit {0})) (Unit {0}))). record (plain_port p) { messages = q })
      (plain_pushed plain_message p.messages m k))
      ∙ ap (λ (x : Port (Unit {0}) (Unit {0})). slice_set (map plain_port ports) to (port_sent x (plain_message m) tt))
      (sym (plain_port_at carrying ports to))

  plain_told : (carrying : Carrying K) (set : CoreSet) (b : ℕ) (k : K) (n : ℕ) (ports : List (Port R K)) →
      map plain_port (ports_told carrying set (Inv b) k n ports) ≡ ports_told none_carrying set (Inv b) tt n
      (map plain_port ports)
  plain_told carrying set b k zero ports = refl
  plain_told carrying set b k (suc n) ports = by_test (has set n) (plain_told carrying set b k n ports)
    where
      by_test : (t : Bool) → map plain_port (ports_told carrying set (Inv b) k n ports) ≡ ports_told none_carrying set
          (Inv b) tt n (map plain_port ports) →
          map plain_port (if t then ports_sent carrying (ports_told carrying set (Inv b) k n ports) n (Inv b) k else
          ports_told carrying set (Inv b) k n ports)
          ≡ (if t then ports_sent none_carrying (ports_told none_carrying set (Inv b) tt n (map plain_port ports)) n
          (Inv b) tt else ports_told none_carrying set (Inv b) tt n (map plain_port ports))
      by_test true ih = plain_sent carrying (ports_told carrying set (Inv b) k n ports) n (Inv b) k
          ∙ ap (λ (xs : List (Port (Unit {0}) (Unit {0}))). ports_sent none_carrying xs n (Inv b) tt) ih
      by_test false ih = ih

  plain_delivered_in : (carrying : Carrying K) (send : Option (ℕ × FromHome R)) (set : CoreSet) (b : ℕ) (k : K)
      (ports : List (Port R K)) →
      map plain_port (delivered_in send carrying set b k ports) ≡ delivered_in (plain_send send) none_carrying set b tt
      (map plain_port ports)
  plain_delivered_in carrying None set b k ports =
      plain_told carrying set b k (length ports) ports
      ∙ ap (λ (n : ℕ). ports_told none_carrying set (Inv b) tt n (map plain_port ports))
      (sym (length-map ports plain_port))
  plain_delivered_in carrying (Some (to, m)) set b k ports = plain_sent carrying ports to m k

  -- the home answers: the ports and the home afterwards, where the plain part of each is known
  plain_answered : (carrying : Carrying K) (given : HomeAnswer R) (block : ℕ) (k : K) (ports : List (Port R K))
      (home : List (Entry R))
      (plain_given : HomeAnswer (Unit {0})) (plain_at : ℕ) (plain_ports : List (Port (Unit {0}) (Unit {0})))
      (plain_home : List (Entry (Unit {0}))) →
      plain_home_answer given ≡ plain_given → block ≡ plain_at → map plain_port ports ≡ plain_ports →
      plain_entries home ≡ plain_home →
      plain_memory (record { ports = delivered carrying given block k ports; home = home; carry = k })
      ≡ record { ports = delivered none_carrying plain_given plain_at tt plain_ports; home = plain_home; carry = tt }
  plain_answered carrying given block k ports home plain_given plain_at plain_ports plain_home answers at there homes =
      let by : List (Port (Unit {0}) (Unit {0})) → List (Entry (Unit {0})) → Memory (Unit {0}) (Unit {0}) =
      λ (xs : List (Port (Unit {0}) (Unit {0}))) (h : List (Entry (Unit {0}))). record {
        ports = xs;
        home = h;
        carry =
            tt;
      } in
      ap (λ (xs : List (Port (Unit {0}) (Unit {0}))). by xs (plain_entries home))
      (plain_delivered_in carrying given.send given.invalidate block k ports)
      ∙ ap (λ (xs : List (Port (Unit {0}) (Unit {0}))). by (delivered none_carrying (plain_home_answer given) block tt
      xs) (plain_entries home)) there
      ∙ ap (λ (a : HomeAnswer (Unit {0})). by (delivered none_carrying a block tt plain_ports) (plain_entries home))
      answers
      ∙ ap (λ (b : ℕ). by (delivered none_carrying plain_given b tt plain_ports) (plain_entries home)) at
      ∙ ap (λ (h : List (Entry (Unit {0}))). by (delivered none_carrying plain_given plain_at tt plain_ports) h) homes

  -- ---- the acts

  plain_with_port : (m : Memory R K) (c : ℕ) (p : Port R K) (q : Port (Unit {0}) (Unit {0})) → plain_port p ≡ q →
      plain_memory (with_port m c p)
      ≡ with_port (plain_memory m) c q
  plain_with_port m c p q same =
      ap (λ (ports : List (Port (Unit {0}) (Unit {0}))). record (plain_memory m) { ports = ports })
      (plain_port_set m.ports c p q same)

-- the home takes the oldest of core c's messages of one kind
module _ {R K : Type 0} (riding : Riding R) (carrying : Carrying K) (m : Memory R K) (c : ℕ) where
  -- what it does and how the port is left go alike for the plain ones
  plain_taken : {T P : Type 0} (plain : T → P) (does : ℕ → T → Deed R) (plain_does : ℕ → P → Deed (Unit {0}))
      (left : Port R K → List (Mail T K) → Port R K)
      (plain_left : Port (Unit {0}) (Unit {0}) → List (Mail P (Unit {0})) → Port (Unit {0}) (Unit {0}))
      (has_row plain_has_row : T → Stage → Bool) →
      ((item : T) → IsAlike riding m.home (does c item) (plain_does c (plain item)) (has_row item)
      (plain_has_row item)) →
      ((item : T) → (does c item).block ≡ (plain_does c (plain item)).block) →
      ((p : Port R K) (rest : List (Mail T K)) →
      plain_port (left p rest) ≡ plain_left (plain_port p) (map (plain_mail plain) rest)) →
      (q : List (Mail T K)) →
      plain_memory (take_in does left q riding carrying m c)
      ≡ take_in plain_does plain_left (map (plain_mail plain) q) none_riding none_carrying (plain_memory m) c
  plain_taken plain does plain_does left plain_left has_row plain_has_row alike about lefts [] = refl
  plain_taken plain does plain_does left plain_left has_row plain_has_row alike about lefts (mail ∷ rest) =
      let done : Deed R = does c mail.item in
      let plain_done : Deed (Unit {0}) = plain_does c (plain mail.item) in
      let same = alike mail.item in
      let to : ℕ → HomeAnswer (Unit {0}) =
      λ (at : ℕ). plain_done.answer (entry_at tt (plain_entries m.home) at) in
      let by : Port (Unit {0}) (Unit {0}) → Port (Unit {0}) (Unit {0}) =
      λ (p : Port (Unit {0}) (Unit {0})). plain_left p (map (plain_mail plain) rest) in
      let entry : Entry R = entry_at riding.fresh m.home done.block in
      plain_answered carrying (done.answer entry) done.block (carrying.joined m.carry mail.carry)
      (slice_set m.ports c (left (port_at carrying m.ports c) rest))
      (slice_set m.home done.block (done.after entry))
      (to plain_done.block) plain_done.block
      (slice_set (map plain_port m.ports) c (by (port_at none_carrying (map plain_port m.ports) c)))
      (slice_set (plain_entries m.home) plain_done.block
      (plain_done.after (entry_at tt (plain_entries m.home) plain_done.block)))
      (same.same_answer ∙ ap to (about mail.item)) (about mail.item)
      (plain_port_set m.ports c (left (port_at carrying m.ports c) rest)
      (by (port_at none_carrying (map plain_port m.ports) c))
      (lefts (port_at carrying m.ports c) rest ∙ ap by (sym (plain_port_at carrying m.ports c))))
      same.same_entries

  plain_request_in : (q : List (Mail (Request R) K)) → plain_memory (take_request_in q riding carrying m c)
      ≡ take_request_in (map (plain_mail plain_request) q) none_riding none_carrying (plain_memory m) c
  plain_request_in q =
      plain_taken plain_request (request_deed riding) (request_deed none_riding) port_requested port_requested _ _
      (plain_on_request riding m.home c) plain_request_block (λ p rest. refl) q

  plain_response_in : (q : List (Mail (Response R) K)) → plain_memory (take_response_in q riding carrying m c)
      ≡ take_response_in (map (plain_mail plain_response) q) none_riding none_carrying (plain_memory m) c
  plain_response_in q =
      plain_taken plain_response (response_deed riding) (response_deed none_riding) port_responded port_responded _ _
      (plain_on_response riding m.home c) plain_response_block (λ p rest. refl) q

module _ {R K : Type 0} where
  -- an act does to the plain part what it does to it where nothing rides
  pub plain_after_act : (riding : Riding R) (carrying : Carrying K) (m : Memory R K) (act : Act R) →
      plain_memory (after_act riding carrying m act)
      ≡ after_act none_riding none_carrying (plain_memory m) (plain_act act)
  plain_after_act riding carrying m (Want c block kind) =
      plain_with_port m c (port_asking riding (port_at carrying m.ports c) block kind)
      (port_asking none_riding (port_at none_carrying (map plain_port m.ports) c) block kind)
      (plain_asking riding (port_at carrying m.ports c) block kind
      ∙ ap (λ (p : Port (Unit {0}) (Unit {0})). port_asking none_riding p block kind)
      (sym (plain_port_at carrying m.ports c)))
  plain_after_act riding carrying m (Touch c block slot kind value rider) =
      plain_with_port m c (port_touched riding (port_at carrying m.ports c) block slot kind value rider)
      (port_touched none_riding (port_at none_carrying (map plain_port m.ports) c) block slot kind value tt)
      (plain_touched riding (port_at carrying m.ports c) block slot kind value rider
      ∙ ap (λ (p : Port (Unit {0}) (Unit {0})). port_touched none_riding p block slot kind value tt)
      (sym (plain_port_at carrying m.ports c)))
  plain_after_act riding carrying m (Retire c at) =
      plain_with_port m c (port_retiring carrying (port_at carrying m.ports c) at)
      (port_retiring none_carrying (port_at none_carrying (map plain_port m.ports) c) at)
      (ap (λ (p : Port (Unit {0}) (Unit {0})). port_retiring none_carrying p at)
      (sym (plain_port_at carrying m.ports c)))
  plain_after_act riding carrying m (TakeRequest c) =
      plain_request_in riding carrying m c (port_at carrying m.ports c).requests.items
      ∙ ap (λ (p : Port (Unit {0}) (Unit {0})). take_request_in p.requests.items none_riding none_carrying
      (plain_memory m) c)
      (sym (plain_port_at carrying m.ports c))
  plain_after_act riding carrying m (TakeResponse c) =
      plain_response_in riding carrying m c (port_at carrying m.ports c).responses.items
      ∙ ap (λ (p : Port (Unit {0}) (Unit {0})). take_response_in p.responses.items none_riding none_carrying
      (plain_memory m) c)
      (sym (plain_port_at carrying m.ports c))
  plain_after_act riding carrying m (TakeMessage c) =
      let p = port_at carrying m.ports c in
      plain_with_port m c (port_taking riding carrying p p.messages.items)
      (port_taking none_riding none_carrying (port_at none_carrying (map plain_port m.ports) c)
      (port_at none_carrying (map plain_port m.ports) c).messages.items)
      (plain_taking riding carrying p p.messages.items
      ∙ ap (λ (q : Port (Unit {0}) (Unit {0})). port_taking none_riding none_carrying q q.messages.items)
      (sym (plain_port_at carrying m.ports c)))

  pub plain_after_acts : (riding : Riding R) (carrying : Carrying K) (m : Memory R K) (acts : List (Act R)) →
      plain_memory (after_acts riding carrying m acts) ≡ after_acts none_riding none_carrying (plain_memory m)
      (map plain_act acts)
  plain_after_acts riding carrying m [] = refl
  plain_after_acts riding carrying m (act ∷ later) =
      plain_after_acts riding carrying (after_act riding carrying m act) later
      ∙ ap (λ (x : Memory (Unit {0}) (Unit {0})). after_acts none_riding none_carrying x (map plain_act later))
      (plain_after_act riding carrying m act)

  -- ---- which can be made

  plain_head_free : (riding : Riding R) (home : List (Entry R)) (q : List (Mail (Request R) K)) →
      head_free q riding home ≡ head_free (map (plain_mail plain_request) q) none_riding (plain_entries home)
  plain_head_free riding home [] = refl
  plain_head_free riding home (mail ∷ rest) =
      ap (λ (e : Entry (Unit {0})). is_free e.stage) (plain_on_request riding home 0 mail.item).same_entry
      ∙ ap (λ (b : ℕ). is_free (entry_at tt (plain_entries home) b).stage) (plain_request_block mail.item)

  plain_can_at : (riding : Riding R) (home : List (Entry R)) (p : Port R K) (act : Act R) → can_at riding home p act
      ≡ can_at none_riding (plain_entries home) (plain_port p) (plain_act act)
  plain_can_at riding home p (Want c block kind) =
      ap (λ (w : Bool). not w && (nat_lt block (length home) && not (allows riding p block kind))) (plain_waits p.cache)
      ∙ ap (λ (n : ℕ). not (waits (plain_port p).cache) && (nat_lt block n && not (allows riding p block kind)))
      (sym (length-map home _))
      ∙ ap (λ (t : Bool). not (waits (plain_port p).cache) && (nat_lt block (length (plain_entries home)) && not t))
      (plain_allows riding p block kind)
  plain_can_at riding home p (Touch c block slot kind value rider) = plain_allows riding p block kind
  plain_can_at riding home p (Retire c at) = refl
  plain_can_at riding home p (TakeRequest c) = plain_head_free riding home p.requests.items
  plain_can_at riding home p (TakeResponse c) = ap not (sym (is_nil_map (plain_mail plain_response) p.responses.items))
  plain_can_at riding home p (TakeMessage c) = ap not (sym (is_nil_map (plain_mail plain_message) p.messages.items))

  pub plain_can : (riding : Riding R) (carrying : Carrying K) (m : Memory R K) (act : Act R) → can riding carrying m act
      ≡ can none_riding none_carrying (plain_memory m) (plain_act act)
  plain_can riding carrying m act =
      let c : ℕ = port_of act in
      let by : ℕ → Bool = λ (d : ℕ). nat_lt d (length (map plain_port m.ports))
      && can_at none_riding (plain_entries m.home) (port_at none_carrying (map plain_port m.ports) d) (plain_act act) in
      ap (λ (n : ℕ). nat_lt c n && can_at riding m.home (port_at carrying m.ports c) act)
      (sym (length-map m.ports plain_port))
      ∙ ap (λ (t : Bool). nat_lt c (length (map plain_port m.ports)) && t)
      (plain_can_at riding m.home (port_at carrying m.ports c) act
      ∙ ap (λ (p : Port (Unit {0}) (Unit {0})). can_at none_riding (plain_entries m.home) p (plain_act act))
      (sym (plain_port_at carrying m.ports c)))
      ∙ ap by (sym (plain_port_of act))

  pub plain_can_all : (riding : Riding R) (carrying : Carrying K) (m : Memory R K) (acts : List (Act R)) →
      can_all riding carrying m acts
      ≡ can_all none_riding none_carrying (plain_memory m) (map plain_act acts)
  plain_can_all riding carrying m [] = refl
  plain_can_all riding carrying m (act ∷ later) =
      ap (λ (t : Bool). t && can_all riding carrying (after_act riding carrying m act) later)
      (plain_can riding carrying m act)
      ∙ ap (λ (t : Bool). can none_riding none_carrying (plain_memory m) (plain_act act) && t)
      (plain_can_all riding carrying (after_act riding carrying m act) later
      ∙ ap (λ (x : Memory (Unit {0}) (Unit {0})). can_all none_riding none_carrying x (map plain_act later))
      (plain_after_act riding carrying m act))
