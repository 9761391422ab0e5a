-- What a move does to the carries of a state is what its event says.
use Rattle.std.proofs.Common.{◌≡◌, ◌≢◌, ◌∙◌, ap, refl, sym, subst, ℕ, ◌<◌, ◌≤◌, ◌==◌, ◌⊎◌, inl, inr, Bool, true, false}
use Rattle.std.proofs.Common.{nat_lt, ◌&&◌, IsTrue, Option, Some}
use Rattle.std.proofs.Common.{None, List, [], ◌∷◌, ◌++◌, drop, length, arith}
use Rattle.std.specs.Prelude.{if◌then◌else◌, map, not, slice_set}
use Rattle.std.proofs.lemmas.Bool.{cases_eq, cases_lt, and_parts, ltb-true}
use Rattle.std.proofs.lemmas.Bool.Decides.{nat_tests}
use Rattle.std.proofs.lemmas.List.{drop-map, length-map, map-append, set_past}
use Rattle.access_times.specs.Riding.{Riding, Carrying}
use Rattle.rtr_types.specs.CoreSets.{has}
use Rattle.rtr_types.specs.declared.instr.Instr.{Instr}
use Rattle.rv_core.specs.Steps.{need, access_of as need_access}
use Rattle.link_order.specs.Queue.{is_nil}
use Rattle.msi_cache.specs.PlainPart.{plain_message, plain_request, plain_response}
use Rattle.msi_cache.specs.declared.messages.FromHome.{FromHome}
use Rattle.msi_cache.specs.declared.messages.FromHome.TheVariants.{Inv}
use Rattle.msi_cache.specs.declared.messages.Request.{Request}
use Rattle.msi_cache.specs.declared.messages.Response.{Response}
use Rattle.msi_directory.specs.Blocks.{entry_at}
use Rattle.msi_directory.specs.Deeds.{Deed, request_deed, response_deed}
use Rattle.msi_directory.specs.declared.entry.Entry.{Entry}
use Rattle.msi_directory.specs.declared.entry.HomeAnswer.{HomeAnswer}
use Rattle.know_history.specs.Happenings.{Actor, AtCore, AtHome, Channel, Messages, Requests, Responses, is_channel}
use Rattle.know_history.specs.Happenings.{left_on, with_sent}
use Rattle.know_history.specs.Knowing.{CarriesFollow, carry_retired, carry_taken, joined_oldest}
use Rattle.msi_memory.specs.declared.port.Mail.{Mail}
use Rattle.msi_memory.specs.declared.port.Port.{Port}
use Rattle.msi_memory.specs.Acts.{TakeMessage, TakeRequest, TakeResponse, delivered, delivered_in, head_free}
use Rattle.msi_memory.specs.Acts.{port_requested, port_responded}
use Rattle.msi_memory.specs.Acts.{port_sent, ports_sent, take_in, with_port}
use Rattle.msi_memory.specs.Memories.{Memory, port_at}
use Rattle.msi_memory.specs.PlainPart.{plain_mail, plain_port}
use Rattle.msi_state.specs.declared.moves.Move.{Move}
use Rattle.msi_state.specs.declared.moves.Move.TheVariants.{Core as CoreMove, Request as RequestMove}
use Rattle.msi_state.specs.declared.moves.Move.TheVariants.{Response as ResponseMove, FromHome as MessageMove}
use Rattle.msi_state.specs.Events.{instr_of, port_taken}
use Rattle.msi_state.specs.Moves.{core_of}
use Rattle.msi_state.specs.Runs.{plain_event, plain_step}
use Rattle.msi_state.specs.States.{PlainState, State, core_at}
use Rattle.msi_state.specs.Steps.{enabled, event, step}
use Rattle.machine_plain.specs.Plain.{plain}
use Rattle.machine_plain.proofs.Plains.{plain_port_at}
use Rattle.machine_plain.proofs.ForgetfulSteps as forgetting
use Rattle.machine_known.specs.Events.{actor_of, carries_at, carries_of, count_at, happening_of, own_carry, port_of}
use Rattle.machine_known.specs.Events.{taken_from, under_way}
use Rattle.machine_known.specs.Known.{PortsThere}
use Rattle.msi_laws.proofs.PortsKept.{there_of}
use Rattle.msi_laws.proofs.Views.{port_at-sent, port_at-told}
use Rattle.msi_laws.proofs.Waits.{port_there}
use Rattle.machine_invariant.proofs.ActLists.{port_elsewhere}
use Rattle.machine_invariant.proofs.StepFrame.{core_memory, message_memory, port_told, port_worked}
use Rattle.machine_known.proofs.CarryLists.{Goes, goes_sent}
use Rattle.machine_known.proofs.CarryActs.{PortActs, received_acts, worked_acts}

goes_left : {K : Type 0} (b : Bool) (before : List K) (k : K) → Goes b before k (if b then drop 1 before else before)
goes_left true before k = refl
goes_left false before k = inl refl

-- a move takes no message from another core's links
elsewhere : (taken link : Channel) → port_of link ≢ port_of taken → is_channel (Some taken) link ≡ false
elsewhere (Requests c) (Requests d) apart = grind (arith, nat_tests)
elsewhere (Requests c) (Responses d) apart = refl
elsewhere (Requests c) (Messages d) apart = refl
elsewhere (Responses c) (Requests d) apart = refl
elsewhere (Responses c) (Responses d) apart = grind (arith, nat_tests)
elsewhere (Responses c) (Messages d) apart = refl
elsewhere (Messages c) (Requests d) apart = refl
elsewhere (Messages c) (Responses d) apart = refl
elsewhere (Messages c) (Messages d) apart = grind (arith, nat_tests)

-- the carries of a link from which the oldest message was taken
own_left : {T K : Type 0} (c d : ℕ) (items : List (Mail T K)) → d ≡ c →
    map (λ (mail : Mail T K). mail.carry) (drop 1 items)
    ≡ (if c == d then drop 1 (map (λ (mail : Mail T K). mail.carry) items)
    else map (λ (mail : Mail T K). mail.carry) items)
own_left c d items here =
    let same : (c == d) ≡ true = grind (arith, nat_tests) in
    rw same (sym (drop-map (λ (mail : Mail _ _). mail.carry) 1 items))

module _ {R K : Type 0} where
  -- the number of messages on a port's link is that of their carries, and that of the plain port's link
  counted_port : (link : Channel) (p : Port R K) → count_at link (plain_port p) ≡ length (carries_at link p)
  counted_port (Requests c) p = length-map p.requests.items (plain_mail plain_request)
      ∙ sym (length-map p.requests.items (λ (x : Mail (Request R) K). x.carry))
  counted_port (Responses c) p = length-map p.responses.items (plain_mail plain_response)
      ∙ sym (length-map p.responses.items (λ (x : Mail (Response R) K). x.carry))
  counted_port (Messages c) p = length-map p.messages.items (plain_mail plain_message)
      ∙ sym (length-map p.messages.items (λ (x : Mail (FromHome R) K). x.carry))

  pub counted : (carrying : Carrying K) (s : State R K) (link : Channel) → under_way (plain s) link
      ≡ length (carries_at link (port_at carrying s.memory.ports (port_of link)))
  counted carrying s link =
      ap (count_at link) (plain_port_at carrying s.memory.ports (port_of link))
      ∙ counted_port link (port_at carrying s.memory.ports (port_of link))

  -- a state before and after a move of the actor
  pub record StateActs (carrying : Carrying K) (takes : Option Channel) (o : Option Instr) (actor : Actor)
      (s t : State R K) : Type 0 where
    pub acting : own_carry carrying t actor ≡ carry_retired carrying o (carry_taken carrying takes
        (carries_of carrying s).sent (own_carry carrying s actor))
    pub resting : (other : Actor) → (other ≡ actor → ⊥) → own_carry carrying t other ≡ own_carry carrying s other
    pub links : (link : Channel) →
        Goes (is_channel takes link) ((carries_of carrying s).sent link) (own_carry carrying t actor)
        ((carries_of carrying t).sent link)

  follows : (riding : Riding R) (carrying : Carrying K) (s : State R K) (m : Move) (rider : R) →
      StateActs carrying (taken_from m) (instr_of (event riding carrying s m)) (actor_of m) s
      (step riding carrying rider s m) →
      CarriesFollow carrying (happening_of (plain s) m) (actor_of m) (carries_of carrying s)
      (carries_of carrying (step riding carrying rider s m))
  follows riding carrying s m rider h =
      record {
        acting = h.acting
            ∙ ap (λ (o : Option Instr).
            carry_retired carrying o (carry_taken carrying (taken_from m) (carries_of carrying s).sent
            (own_carry carrying s (actor_of m)))) retires;
        resting = h.resting;
        sent = sent;
      }
    where
      t : State R K
      t = step riding carrying rider s m

      retires : instr_of (event riding carrying s m) ≡ instr_of (plain_event (plain s) m)
      retires = ap instr_of (forgetting.plain_event riding carrying s m)

      tests : (link : Channel) → nat_lt (length ((carries_of carrying s).sent link))
          (length ((carries_of carrying t).sent link))
          ≡ nat_lt (under_way (plain s) link) (under_way (plain_step (plain s) m) link)
      tests link =
          ap (λ (n : ℕ). nat_lt n (length ((carries_of carrying t).sent link))) (sym (counted carrying s link))
          ∙ ap (λ (n : ℕ). nat_lt (under_way (plain s) link) n)
          (sym (ap (λ (p : PlainState). under_way p link) (sym (forgetting.plain_step riding carrying rider s m))
          ∙ counted carrying t link))

      sent : (link : Channel) → (carries_of carrying t).sent link
          ≡ with_sent (nat_lt (under_way (plain s) link) (under_way (plain_step (plain s) m) link))
          (own_carry carrying t (actor_of m))
          (left_on (taken_from m) link ((carries_of carrying s).sent link))
      sent link =
          goes_sent (is_channel (taken_from m) link) ((carries_of carrying s).sent link)
          (own_carry carrying t (actor_of m))
          ((carries_of carrying t).sent link) (h.links link)
          ∙ ap (λ (b : Bool). with_sent b (own_carry carrying t (actor_of m)) (left_on (taken_from m) link
          ((carries_of carrying s).sent link))) (tests link)

  -- a core's own move, or the receipt of a message, which change one port
  port_moved : (carrying : Carrying K) (before after : State R K) (c : ℕ) (takes : Option Channel)
      (retired : Option Instr)
      (port : Port R K) → c < length before.memory.ports →
      after.memory ≡ with_port before.memory c port → carry_taken carrying takes
      (λ link. carries_at link (port_at carrying before.memory.ports c))
      (port_at carrying before.memory.ports c).carry
      ≡ carry_taken carrying takes (carries_of carrying before).sent (port_at carrying before.memory.ports c).carry →
      ((link : Channel) → port_of link ≢ c → is_channel takes link ≡ false) →
      PortActs carrying c takes retired (port_at carrying before.memory.ports c) port →
      StateActs carrying takes retired (AtCore c) before after
  port_moved carrying before after c takes retired port lc is taken_here elsewhere acts =
      record {
        acting = mine ∙ (acts.carry ∙ ap (carry_retired carrying retired) taken_here);
        resting = resting;
        links = λ link. by_core link (cases_eq (port_of link) c);
      }
    where
      here : port_at carrying after.memory.ports c ≡ port
      here = ap (λ (m : Memory R K). port_at carrying m.ports c) is ∙ port_there carrying before.memory c port lc

      there : (d : ℕ) → d ≢ c → port_at carrying after.memory.ports d ≡ port_at carrying before.memory.ports d
      there d apart =
          ap (λ (m : Memory R K). port_at carrying m.ports d) is
          ∙ (let other : (d == c) ≡ false =
          grind (arith, nat_tests) in port_elsewhere carrying before.memory c port d other lc)

      mine : own_carry carrying after (AtCore c) ≡ port.carry
      mine = ap (λ (p : Port R K). p.carry) here

      resting : (other : Actor) → (other ≡ AtCore c → ⊥) →
          own_carry carrying after other ≡ own_carry carrying before other
      resting AtHome apart = ap (λ (m : Memory R K). m.carry) is
      resting (AtCore d) apart = ap (λ (p : Port R K). p.carry) (there d (λ (e : d ≡ c). apart (ap AtCore e)))

      by_core : (link : Channel) → (port_of link ≡ c) ⊎ (port_of link ≢ c) →
          Goes (is_channel takes link) (carries_at link (port_at carrying before.memory.ports (port_of link)))
          (own_carry carrying after (AtCore c))
          (carries_at link (port_at carrying after.memory.ports (port_of link)))
      by_core link (inl e) =
          subst (λ (k : K). Goes (is_channel takes link)
          (carries_at link (port_at carrying before.memory.ports (port_of link))) k
          (carries_at link (port_at carrying after.memory.ports (port_of link)))) (sym mine)
          (subst (λ (ks : List K). Goes (is_channel takes link)
          (carries_at link (port_at carrying before.memory.ports (port_of link))) port.carry ks)
          (sym (ap (λ (d : ℕ). carries_at link (port_at carrying after.memory.ports d)) e ∙ ap (carries_at link) here))
          (subst (λ (ks : List K). Goes (is_channel takes link) ks port.carry (carries_at link port))
          (ap (λ (d : ℕ). carries_at link (port_at carrying before.memory.ports d)) (sym e)) (acts.links link e)))
      by_core link (inr apart) =
          subst (λ (b : Bool). Goes b (carries_at link (port_at carrying before.memory.ports (port_of link)))
          (own_carry carrying after (AtCore c))
          (carries_at link (port_at carrying after.memory.ports (port_of link)))) (sym (elsewhere link apart))
          (inl (ap (carries_at link) (there (port_of link) apart)))

  core_acts : (riding : Riding R) (carrying : Carrying K) (s : State R K) (c : ℕ) (rider : R) →
      c < length s.memory.ports →
      StateActs carrying None (instr_of (event riding carrying s (CoreMove c))) (AtCore c) s
      (step riding carrying rider s (CoreMove c))
  core_acts riding carrying s c rider lc =
      let p = port_at carrying s.memory.ports c in
      let needed = need_access (need s.image (core_at s.cores c)) in
      let e = event riding carrying s (CoreMove c) in
      port_moved carrying s (step riding carrying rider s (CoreMove c)) c None (instr_of e)
      (port_worked riding carrying rider needed e p) lc
      (core_memory riding carrying rider s c lc) refl (λ link apart. refl) (worked_acts riding carrying c rider needed e
      p)

  message_acts : (riding : Riding R) (carrying : Carrying K) (s : State R K) (c : ℕ) (rider : R) →
      c < length s.memory.ports →
      StateActs carrying (Some (Messages c)) (instr_of (event riding carrying s (MessageMove c))) (AtCore c) s
      (step riding carrying rider s (MessageMove c))
  message_acts riding carrying s c rider lc =
      let p = port_at carrying s.memory.ports c in
      let e = event riding carrying s (MessageMove c) in
      port_moved carrying s (step riding carrying rider s (MessageMove c)) c (Some (Messages c)) (instr_of e)
      (port_told riding carrying rider e (port_taken riding carrying p)) lc (message_memory riding carrying rider s c
      lc) refl (elsewhere (Messages c))
      (received_acts riding carrying rider s c)

  -- the home's answer leaves each port as it was, or with one message more
  abbrev pub IsTold : K → Port R K → Port R K → Type 0
  IsTold k x y = (y ≡ x) ⊎ ((m : FromHome R) × (y ≡ port_sent x m k))

  told_if : (k : K) (t : Bool) (x y : Port R K) (m : FromHome R) → y ≡ (if t then port_sent x m k else x) → IsTold k x y
  told_if k true x y m e = inr (m, e)
  told_if k false x y m e = inl e

  delivered_tells : (carrying : Carrying K) (answer : HomeAnswer R) (block : ℕ) (k : K) (ns : List (Port R K)) (d : ℕ) →
      IsTold k (port_at carrying ns d) (port_at carrying (delivered carrying answer block k ns) d)
  delivered_tells carrying answer block k ns d = by answer.send
    where
      sent : (to : ℕ) (m : FromHome R) → (to < length ns) ⊎ (length ns ≤ to) →
          IsTold k (port_at carrying ns d) (port_at carrying (ports_sent carrying ns to m k) d)
      sent to m (inr past) = inl (ap (λ (xs : List (Port R K)). port_at carrying xs d)
          (set_past ns to (port_sent (port_at carrying ns to) m k) past))
      sent to m (inl lt) =
          told_if k (d == to) (port_at carrying ns d) (port_at carrying (ports_sent carrying ns to m k) d) m
          (port_at-sent carrying ns to m k d lt)

      by : (send : Option (ℕ × FromHome R)) → IsTold k (port_at carrying ns d)
          (port_at carrying (delivered_in send carrying answer.invalidate block k ns) d)
      by None = told_if k (nat_lt d (length ns) && has answer.invalidate d) (port_at carrying ns d) _ (Inv block)
          (port_at-told carrying answer.invalidate (Inv block) k (length ns) ns d (omega arith))
      by (Some (to, m)) = sent to m (cases_lt to (length ns))

  told_carry : (k : K) (x y : Port R K) → IsTold k x y → y.carry ≡ x.carry
  told_carry k x y (inl e) = ap (λ (p : Port R K). p.carry) e
  told_carry k x y (inr f) = ap (λ (p : Port R K). p.carry) f.1

  told_goes : (takes : Option Channel) (link : Channel) (before : List K) (k : K) (x y : Port R K) →
      ((d : ℕ) → is_channel takes (Messages d) ≡ false) →
      carries_at link x ≡ left_on takes link before → IsTold k x y →
      Goes (is_channel takes link) before k (carries_at link y)
  told_goes takes link before k x y quiet e (inl f) =
      subst (λ (ks : List K). Goes (is_channel takes link) before k ks) (sym (ap (carries_at link) f ∙ e))
      (goes_left (is_channel takes link) before k)
  told_goes takes (Requests d) before k x y quiet e (inr f) =
      subst (λ (ks : List K). Goes (is_channel takes (Requests d)) before k ks) (sym (ap (carries_at (Requests d)) f.1
      ∙ e))
      (goes_left (is_channel takes (Requests d)) before k)
  told_goes takes (Responses d) before k x y quiet e (inr f) =
      subst (λ (ks : List K). Goes (is_channel takes (Responses d)) before k ks) (sym (ap (carries_at (Responses d)) f.1
      ∙ e))
      (goes_left (is_channel takes (Responses d)) before k)
  told_goes takes (Messages d) before k x y quiet e (inr f) =
      subst (λ (b : Bool). Goes b before k (carries_at (Messages d) y)) (sym (quiet d))
      (inr (ap (carries_at (Messages d)) f.1
      ∙ (map-append _ _ _ ∙ ap (λ (ks : List K). ks ++ k ∷ []) (e
      ∙ ap (λ (b : Bool). if b then drop 1 before else before) (quiet d)))))

  -- the home took a message of core c, whose port it left so, and answered
  home_moved : (carrying : Carrying K) (before after : State R K) (c : ℕ) (takes : Option Channel) (port : Port R K)
      (answer : HomeAnswer R) (block : ℕ)
      (home : List (Entry R)) (carry_left : K) → c < length before.memory.ports →
      after.memory ≡ record {
        ports = delivered carrying answer block carry_left (with_port before.memory c port).ports;
        home = home;
        carry =
            carry_left;
      } →
      carry_left ≡ carry_taken carrying takes (carries_of carrying before).sent before.memory.carry →
      port.carry ≡ (port_at carrying before.memory.ports c).carry →
      ((link : Channel) → port_of link ≡ c → carries_at link port ≡ left_on takes link
      (carries_at link (port_at carrying before.memory.ports c))) →
      ((link : Channel) → port_of link ≢ c → is_channel takes link ≡ false) →
      ((d : ℕ) → is_channel takes (Messages d) ≡ false) →
      StateActs carrying takes None AtHome before after
  home_moved carrying before after c takes port answer block home carry_left lc is joins same left elsewhere quiet =
      record {
        acting = mine ∙ joins;
        resting = resting;
        links = λ link. subst (λ (own : K).
            Goes (is_channel takes link) (carries_at link (port_at carrying before.memory.ports (port_of link))) own
            (carries_at link (port_at carrying after.memory.ports (port_of link)))) (sym mine)
            (told_goes takes link (carries_at link (port_at carrying before.memory.ports (port_of link))) carry_left
            (port_at carrying ns (port_of link))
            (port_at carrying after.memory.ports (port_of link)) quiet (taken link (cases_eq (port_of link) c))
            (told (port_of link)));
      }
    where
      ns : List (Port R K)
      ns = (with_port before.memory c port).ports

      mine : own_carry carrying after AtHome ≡ carry_left
      mine = ap (λ (m : Memory R K). m.carry) is

      told : (d : ℕ) → IsTold carry_left (port_at carrying ns d) (port_at carrying after.memory.ports d)
      told d = subst (λ (m : Memory R K). IsTold carry_left (port_at carrying ns d) (port_at carrying m.ports d))
          (sym is)
          (delivered_tells carrying answer block carry_left ns d)

      here : port_at carrying ns c ≡ port
      here = port_there carrying before.memory c port lc

      there : (d : ℕ) → d ≢ c → port_at carrying ns d ≡ port_at carrying before.memory.ports d
      there d apart = let other : (d == c) ≡ false = grind (arith, nat_tests) in
          port_elsewhere carrying before.memory c port d other lc

      carry_same : (d : ℕ) → (d ≡ c) ⊎ (d ≢ c) →
          (port_at carrying ns d).carry ≡ (port_at carrying before.memory.ports d).carry
      carry_same d (inl e) =
          ap (λ (x : ℕ). (port_at carrying ns x).carry) e
          ∙ (ap (λ (p : Port R K). p.carry) here
          ∙ (same ∙ ap (λ (x : ℕ). (port_at carrying before.memory.ports x).carry)
          (sym e)))
      carry_same d (inr apart) = ap (λ (p : Port R K). p.carry) (there d apart)

      resting : (other : Actor) → (other ≡ AtHome → ⊥) →
          own_carry carrying after other ≡ own_carry carrying before other
      resting AtHome apart = absurd (apart refl)
      resting (AtCore d) apart = told_carry carry_left (port_at carrying ns d) (port_at carrying after.memory.ports d)
          (told d)
          ∙ carry_same d (cases_eq d c)

      taken : (link : Channel) → (port_of link ≡ c) ⊎ (port_of link ≢ c) →
          carries_at link (port_at carrying ns (port_of link))
          ≡ left_on takes link (carries_at link (port_at carrying before.memory.ports (port_of link)))
      taken link (inl e) =
          ap (λ (d : ℕ). carries_at link (port_at carrying ns d)) e
          ∙ (ap (carries_at link) here ∙ (left link e
          ∙ ap (λ (d : ℕ). left_on takes link (carries_at link (port_at carrying before.memory.ports d))) (sym e)))
      taken link (inr apart) =
          ap (carries_at link) (there (port_of link) apart)
          ∙ ap (λ (b : Bool). if b then drop 1
          (carries_at link (port_at carrying before.memory.ports (port_of link))) else
          carries_at link
          (port_at carrying before.memory.ports (port_of link))) (sym (elsewhere link apart))

  -- where the home can take the oldest of these requests, there is one
  free_there : (riding : Riding R) (home : List (Entry R)) (q : List (Mail (Request R) K)) →
      head_free q riding home ≡ true → not (is_nil q) ≡ true
  free_there riding home [] free = absurd (grind arith)
  free_there riding home (mail ∷ rest) free = refl

  -- a port without the oldest message of a link
  abbrev port_left : Channel → Port R K → Port R K
  port_left (Requests c) p = port_requested p (drop 1 p.requests.items)
  port_left (Responses c) p = port_responded p (drop 1 p.responses.items)
  port_left (Messages c) p = record p { messages = record p.messages { items = drop 1 p.messages.items } }

  left_carry : (taken : Channel) (p : Port R K) → (port_left taken p).carry ≡ p.carry
  left_carry (Requests c) p = refl
  left_carry (Responses c) p = refl
  left_carry (Messages c) p = refl

  left_links : (taken link : Channel) (p : Port R K) → port_of link ≡ port_of taken →
      carries_at link (port_left taken p) ≡ left_on (Some taken) link (carries_at link p)
  left_links (Requests c) (Requests d) p here = own_left c d p.requests.items here
  left_links (Requests c) (Responses d) p here = refl
  left_links (Requests c) (Messages d) p here = refl
  left_links (Responses c) (Requests d) p here = refl
  left_links (Responses c) (Responses d) p here = own_left c d p.responses.items here
  left_links (Responses c) (Messages d) p here = refl
  left_links (Messages c) (Requests d) p here = refl
  left_links (Messages c) (Responses d) p here = refl
  left_links (Messages c) (Messages d) p here = own_left c d p.messages.items here

  -- the home took the oldest message of one of a port's links, and answered
  home_took : {T : Type 0} (does : ℕ → T → Deed R) (left : Port R K → List (Mail T K) → Port R K)
      (items : List (Mail T K)) (riding : Riding R) (carrying : Carrying K) (s t : State R K) (taken : Channel) →
      port_of taken < length s.memory.ports → not (is_nil items) ≡ true →
      t.memory ≡ take_in does left items riding carrying s.memory (port_of taken) →
      carries_at taken (port_at carrying s.memory.ports (port_of taken))
      ≡ map (λ (mail : Mail T K). mail.carry) items →
      left (port_at carrying s.memory.ports (port_of taken)) (drop 1 items)
      ≡ port_left taken (port_at carrying s.memory.ports (port_of taken)) →
      ((d : ℕ) → is_channel (Some taken) (Messages d) ≡ false) → StateActs carrying (Some taken) None AtHome s t
  home_took does left [] riding carrying s t taken lc some is carries lost quiet = absurd (grind arith)
  home_took does left (mail ∷ rest) riding carrying s t taken lc some is carries lost quiet =
      let p = port_at carrying s.memory.ports (port_of taken) in
      let done = does (port_of taken) mail.item in
      let entry = entry_at riding.fresh s.memory.home done.block in
      home_moved carrying s t (port_of taken) (Some taken) (left p rest) (done.answer entry) done.block
      (slice_set s.memory.home done.block (done.after entry)) (carrying.joined s.memory.carry mail.carry) lc is
      (ap (λ (ks : List K). joined_oldest carrying ks s.memory.carry) (sym carries))
      (ap (λ (q : Port R K). q.carry) lost ∙ left_carry taken p)
      (λ link here. ap (carries_at link) lost ∙ left_links taken link p here) (elsewhere taken) quiet

  -- the move's core has a port
  pub at_port : (riding : Riding R) (carrying : Carrying K) (s : State R K) (m : Move) →
      IsTrue (enabled riding carrying s m) → PortsThere s →
      core_of m < length s.memory.ports
  at_port riding carrying s (CoreMove c) e ports =
      rw ports (ltb-true c (length s.cores) (and_parts (nat_lt c (length s.cores)) _ e).0)
  at_port riding carrying s (RequestMove c) e ports = there_of riding carrying s.memory (TakeRequest c) e
  at_port riding carrying s (ResponseMove c) e ports = there_of riding carrying s.memory (TakeResponse c) e
  at_port riding carrying s (MessageMove c) e ports = there_of riding carrying s.memory (TakeMessage c) e

  state_acts : (riding : Riding R) (carrying : Carrying K) (s : State R K) (m : Move) (rider : R) →
      IsTrue (enabled riding carrying s m) →
      core_of m < length s.memory.ports →
      StateActs carrying (taken_from m) (instr_of (event riding carrying s m)) (actor_of m) s
      (step riding carrying rider s m)
  state_acts riding carrying s (CoreMove c) rider e lc = core_acts riding carrying s c rider lc
  state_acts riding carrying s (RequestMove c) rider e lc =
      let p = port_at carrying s.memory.ports c in
      home_took (request_deed riding) port_requested p.requests.items riding carrying s
      (step riding carrying rider s (RequestMove c)) (Requests c) lc
      (free_there riding s.memory.home p.requests.items (and_parts (nat_lt c (length s.memory.ports)) _ e).1)
      refl refl refl (λ d. refl)
  state_acts riding carrying s (ResponseMove c) rider e lc =
      let p = port_at carrying s.memory.ports c in
      home_took (response_deed riding) port_responded p.responses.items riding carrying s
      (step riding carrying rider s (ResponseMove c)) (Responses c) lc
      (and_parts (nat_lt c (length s.memory.ports)) _ e).1 refl refl refl (λ d. refl)
  state_acts riding carrying s (MessageMove c) rider e lc = message_acts riding carrying s c rider lc

  -- each move changes the carries as its event says
  pub carries_follow : (riding : Riding R) (carrying : Carrying K) (s : State R K) (m : Move) (rider : R) →
      IsTrue (enabled riding carrying s m) →
      PortsThere s → CarriesFollow carrying (happening_of (plain s) m) (actor_of m) (carries_of carrying s)
      (carries_of carrying (step riding carrying rider s m))
  carries_follow riding carrying s m rider e ports =
      follows riding carrying s m rider (state_acts riding carrying s m rider e (at_port riding carrying s m e ports))
