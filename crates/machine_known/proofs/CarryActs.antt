-- What an event and a message do to a port's carry and links, and an event to its core's count.
use Rattle.std.proofs.Common.{◌≡◌, ◌∙◌, ap, refl, sym, subst, ℕ, ◌+◌, ◌==◌, ◌⊎◌, inl, inr, Bool, true, false, Option}
use Rattle.std.proofs.Common.{Some, None, List, [], ◌∷◌, drop, arith}
use Rattle.std.specs.Prelude.{if◌then◌else◌, map}
use Rattle.std.proofs.lemmas.Bool.Decides.{nat_tests}
use Rattle.std.proofs.lemmas.List.{map-append}
use Rattle.std.proofs.lemmas.Option.{same_Some}
use Rattle.access_times.specs.Riding.{Riding, Carrying}
use Rattle.image_mem.specs.Contents.{Contents}
use Rattle.rtr_types.specs.declared.access.Kind.{Kind}
use Rattle.rtr_types.specs.declared.instr.Instr.{Instr}
use Rattle.rv_core.specs.declared.core_state.Core.{Core}
use Rattle.rv_core.proofs.LawLemmas.{count_law, number_law}
use Rattle.msi_cache.specs.Lines.{answer, line_for}
use Rattle.msi_cache.specs.Messages.{block_of}
use Rattle.msi_cache.specs.declared.line.Line.{Line}
use Rattle.msi_cache.specs.declared.messages.FromHome.{FromHome}
use Rattle.msi_cache.specs.declared.messages.Response.{Response}
use Rattle.know_history.specs.Happenings.{Channel, Messages, Requests, Responses, is_channel}
use Rattle.know_history.specs.Knowing.{carry_retired, carry_taken, joined_oldest}
use Rattle.know_history.proofs.LastSteps.{none_some}
use Rattle.msi_memory.specs.declared.port.Mail.{Mail}
use Rattle.msi_memory.specs.declared.port.Port.{Port}
use Rattle.msi_memory.specs.Acts.{answer_to, data_next, is_data, port_answering, port_hearing, port_taking}
use Rattle.msi_memory.specs.Memories.{port_at}
use Rattle.msi_state.specs.declared.moves.Move.{Move}
use Rattle.msi_state.specs.declared.moves.Move.TheVariants.{Core as CoreMove, Request as RequestMove}
use Rattle.msi_state.specs.declared.moves.Move.TheVariants.{Response as ResponseMove, FromHome as MessageMove}
use Rattle.msi_state.specs.Events.{Accesses, Event, Nothing, Retires, access_of, event_working, instr_of, next_instr}
use Rattle.msi_state.specs.Events.{port_taken}
use Rattle.msi_state.specs.Moves.{core_of}
use Rattle.msi_state.specs.States.{State, core_at}
use Rattle.msi_state.specs.Steps.{event}
use Rattle.machine_known.specs.Events.{carries_at, port_of}
use Rattle.machine_invariant.proofs.CoreEvents.{receiving_cases, working_cases}
use Rattle.machine_invariant.proofs.StepFrame.{core_after, port_told, port_wanting, port_worked}
use Rattle.machine_known.proofs.CarryLists.{Goes, Grows}

-- core c's port before and after its actor's event, in which it took the oldest message from the link that is named, if
-- one is,
-- and this instruction retired, if one did
pub record PortActs {R K : Type 0} (carrying : Carrying K) (c : ℕ) (takes : Option Channel) (o : Option Instr)
    (p q : Port R K) : Type 0 where
  pub carry : q.carry ≡ carry_retired carrying o (carry_taken carrying takes (λ link. carries_at link p) p.carry)
  pub links : (link : Channel) → port_of link ≡ c → Goes (is_channel takes link) (carries_at link p) q.carry
      (carries_at link q)

-- nothing retired and the core is the same, or its next instruction retired
pub record CoreCounts (o : Option Instr) (old new : Core) : Type 0 where
  pub number : new.id ≡ old.id
  pub count : ((o ≡ None) × (new.count ≡ old.count)) ⊎ ((o ≡ Some (next_instr old)) × (new.count ≡ old.count + 1))

-- a block's data are never answered
data_silent : {R : Type 0} (line : Line R) (m : FromHome R) → is_data m ≡ true → answer line m ≡ None
data_silent line m brings = grind arith

-- ---- ports

module _ {R K : Type 0} where
  still_acts : (carrying : Carrying K) (c : ℕ) (p : Port R K) → PortActs carrying c None None p p
  still_acts carrying c p = record { carry = refl; links = λ link here. inl refl }

  -- an instruction retired, and its access, if it has one, changed the cache alone
  told_acts : (riding : Riding R) (carrying : Carrying K) (c : ℕ) (rider : R) (e : Event) (p : Port R K) →
      PortActs carrying c None (instr_of e) p (port_told riding carrying rider e p)
  told_acts riding carrying c rider Nothing p = still_acts carrying c p
  told_acts riding carrying c rider (Retires at) p = record { carry = refl; links = λ link here. links link }
    where
      links : (link : Channel) →
          Grows (carries_at link p) (carrying.retired p.carry at)
          (carries_at link (port_told riding carrying rider (Retires at) p))
      links (Requests d) = inl refl
      links (Responses d) = inl refl
      links (Messages d) = inl refl
  told_acts riding carrying c rider (Accesses a) p = record { carry = refl; links = λ link here. links link }
    where
      links : (link : Channel) →
          Grows (carries_at link p) (carrying.retired p.carry a.at)
          (carries_at link (port_told riding carrying rider (Accesses a) p))
      links (Requests d) = inl refl
      links (Responses d) = inl refl
      links (Messages d) = inl refl

  told_same : (riding : Riding R) (carrying : Carrying K) (rider : R) (e : Event) (p : Port R K) →
      (port_told riding carrying rider e p).messages.items
      ≡ p.messages.items
  told_same riding carrying rider Nothing p = refl
  told_same riding carrying rider (Retires at) p = refl
  told_same riding carrying rider (Accesses a) p = refl

  wanting_acts : (riding : Riding R) (carrying : Carrying K) (c : ℕ) (needed : Option (Kind × ℕ)) (p : Port R K) →
      PortActs carrying c None None p (port_wanting riding needed p)
  wanting_acts riding carrying c None p = still_acts carrying c p
  wanting_acts riding carrying c (Some (kind, word)) p = record { carry = refl; links = λ link here. links link }
    where
      links : (link : Channel) → Grows (carries_at link p) p.carry
          (carries_at link (port_wanting riding (Some (kind, word)) p))
      links (Requests d) = inr (map-append _ _ _)
      links (Responses d) = inl refl
      links (Messages d) = inl refl

  -- a core's own move
  pub worked_acts : (riding : Riding R) (carrying : Carrying K) (c : ℕ) (rider : R) (needed : Option (Kind × ℕ))
      (e : Event) (p : Port R K) →
      PortActs carrying c None (instr_of e) p (port_worked riding carrying rider needed e p)
  worked_acts riding carrying c rider needed Nothing p = wanting_acts riding carrying c needed p
  worked_acts riding carrying c rider needed (Retires at) p = told_acts riding carrying c rider (Retires at) p
  worked_acts riding carrying c rider needed (Accesses a) p = told_acts riding carrying c rider (Accesses a) p

  -- a port took a message, after which this was done
  acts_after : (riding : Riding R) (carrying : Carrying K) (c : ℕ) (p : Port R K) (mail : Mail (FromHome R) K)
      (rest : List (Mail (FromHome R) K))
      (o : Option Instr) (q : Port R K) → p.messages.items ≡ mail ∷ rest →
      PortActs carrying c None o (port_hearing riding carrying p mail rest) q → q.messages.items ≡ rest →
      PortActs carrying c (Some (Messages c)) o p q
  acts_after riding carrying c p mail rest o q is acts messages =
      record {
        carry = acts.carry ∙ ap (λ (ks : List K). carry_retired carrying o (joined_oldest carrying ks p.carry))
            (sym (ap (λ (xs : List (Mail (FromHome R) K)). map (λ (x : Mail (FromHome R) K). x.carry) xs) is));
        links = links;
      }
    where
      same_core : (d : ℕ) → d ≡ c → (c == d) ≡ true
      same_core d e = grind (arith, nat_tests)

      links : (link : Channel) → port_of link ≡ c → Goes (is_channel (Some (Messages c)) link) (carries_at link p)
          q.carry (carries_at link q)
      links (Requests d) e = acts.links (Requests d) e
      links (Responses d) e = acts.links (Responses d) e
      links (Messages d) e =
          subst (λ (t : Bool). Goes t (carries_at (Messages d) p) q.carry (carries_at (Messages d) q))
          (sym (same_core d e))
          (ap (λ (xs : List (Mail (FromHome R) K)). map (λ (x : Mail (FromHome R) K). x.carry) xs) messages
          ∙ ap (λ (xs : List (Mail (FromHome R) K)). drop 1 (map (λ (x : Mail (FromHome R) K). x.carry) xs)) (sym is))

  answered_acts : (carrying : Carrying K) (c : ℕ) (p : Port R K) (o : Option (Response R)) →
      PortActs carrying c None None p (port_answering p o)
  answered_acts carrying c p None = still_acts carrying c p
  answered_acts carrying c p (Some response) = record { carry = refl; links = λ link here. links link }
    where
      links : (link : Channel) → Grows (carries_at link p) p.carry (carries_at link (port_answering p (Some response)))
      links (Requests d) = inl refl
      links (Responses d) = inr (map-append _ _ _)
      links (Messages d) = inl refl

  answered_same : (p : Port R K) (o : Option (Response R)) → (port_answering p o).messages.items ≡ p.messages.items
  answered_same p None = refl
  answered_same p (Some response) = refl

  answered_carry : (p : Port R K) (o : Option (Response R)) → (port_answering p o).carry ≡ p.carry
  answered_carry p None = refl
  answered_carry p (Some response) = refl

  -- the carry of a port that took the oldest of its messages
  pub taken_carry : (riding : Riding R) (carrying : Carrying K) (p : Port R K) (q : List (Mail (FromHome R) K)) →
      (port_taking riding carrying p q).carry ≡ joined_oldest carrying (map (λ (x : Mail (FromHome R) K). x.carry) q)
      p.carry
  taken_carry riding carrying p [] = refl
  taken_carry riding carrying p (mail ∷ rest) = answered_carry (port_hearing riding carrying p mail rest)
      (answer_to riding p mail.item)

  -- a port took a message, and its core's instruction retired after a block's data
  received_in : (image : Contents) (riding : Riding R) (carrying : Carrying K) (c : ℕ) (rider : R) (core : Core)
      (p : Port R K)
      (q : List (Mail (FromHome R) K)) → p.messages.items ≡ q →
      PortActs carrying c (Some (Messages c)) (instr_of (if data_next q then event_working image riding core
      (port_taking riding carrying p q) else Nothing)) p
      (port_told riding carrying rider (if data_next q then event_working image riding core
      (port_taking riding carrying p q) else Nothing)
      (port_taking riding carrying p q))
  received_in image riding carrying c rider core p [] is = record { carry = carry; links = links }
    where
      none : map (λ (x : Mail (FromHome R) K). x.carry) p.messages.items ≡ []
      none = ap (λ (xs : List (Mail (FromHome R) K)). map (λ (x : Mail (FromHome R) K). x.carry) xs) is

      carry : p.carry ≡ joined_oldest carrying (map (λ (x : Mail (FromHome R) K). x.carry) p.messages.items) p.carry
      carry = ap (λ (ks : List K). joined_oldest carrying ks p.carry) (sym none)

      same_core : (d : ℕ) → d ≡ c → (c == d) ≡ true
      same_core d e = grind (arith, nat_tests)

      links : (link : Channel) → port_of link ≡ c → Goes (is_channel (Some (Messages c)) link) (carries_at link p)
          p.carry (carries_at link p)
      links (Requests d) e = inl refl
      links (Responses d) e = inl refl
      links (Messages d) e =
          subst (λ (t : Bool). Goes t (carries_at (Messages d) p) p.carry (carries_at (Messages d) p))
          (sym (same_core d e))
          (none ∙ ap (λ (ks : List K). drop 1 ks) (sym none))
  received_in image riding carrying c rider core p (mail ∷ rest) is = by_data (is_data mail.item) refl
    where
      heard : Port R K
      heard = port_hearing riding carrying p mail rest

      taken : Port R K
      taken = port_answering heard (answer_to riding p mail.item)

      silent : is_data mail.item ≡ true → heard ≡ taken
      silent brings =
          ap (λ (o : Option (Response R)). port_answering heard o)
          (sym (data_silent (line_for riding.fresh p.cache (block_of mail.item)) mail.item brings))

      by_data : (t : Bool) → is_data mail.item ≡ t →
          PortActs carrying c (Some (Messages c)) (instr_of (if t then event_working image riding core taken else
          Nothing)) p
          (port_told riding carrying rider (if t then event_working image riding core taken else Nothing) taken)
      by_data true brings =
          subst (λ (x : Port R K).
          PortActs carrying c (Some (Messages c)) (instr_of (event_working image riding core x)) p
          (port_told riding carrying rider (event_working image riding core x) x)) (silent brings)
          (acts_after riding carrying c p mail rest (instr_of (event_working image riding core heard))
          (port_told riding carrying rider (event_working image riding core heard) heard) is
          (told_acts riding carrying c rider (event_working image riding core heard) heard)
          (told_same riding carrying rider (event_working image riding core heard) heard))
      by_data false brings =
          acts_after riding carrying c p mail rest None taken is (answered_acts carrying c heard
          (answer_to riding p mail.item))
          (answered_same heard (answer_to riding p mail.item))

  pub received_acts : (riding : Riding R) (carrying : Carrying K) (rider : R) (s : State R K) (c : ℕ) →
      PortActs carrying c (Some (Messages c)) (instr_of (event riding carrying s (MessageMove c)))
      (port_at carrying s.memory.ports c)
      (port_told riding carrying rider (event riding carrying s (MessageMove c)) (port_taken riding carrying
      (port_at carrying s.memory.ports c)))
  received_acts riding carrying rider s c =
      let p = port_at carrying s.memory.ports c in
      received_in s.image riding carrying c rider (core_at s.cores c) p p.messages.items refl

  -- ---- cores

  worked_counts : (image : Contents) (riding : Riding R) (core : Core) (p : Port R K) →
      CoreCounts (instr_of (event_working image riding core p)) core
      (core_after image (event_working image riding core p) core)
  worked_counts image riding core p =
      working_cases image riding core p (λ (needed : Option (Kind × ℕ)) (e : Event). CoreCounts (instr_of e) core
      (core_after image e core))
      (λ done none. idle) (λ goes none. record {
        number = number_law image core 0;
        count =
            inr (refl, count_law image core 0);
      })
      (λ kind word is denied. idle) (λ kind word is allowed. (let old : ℕ =
      (access_of image riding core p word kind).before in
      record { number = number_law image core old; count = inr (refl, count_law image core old) }))
    where
      idle : CoreCounts None core core
      idle = record { number = refl; count = inl (refl, refl) }

  pub event_counts : (riding : Riding R) (carrying : Carrying K) (s : State R K) (m : Move) →
      CoreCounts (instr_of (event riding carrying s m)) (core_at s.cores (core_of m))
      (core_after s.image (event riding carrying s m) (core_at s.cores (core_of m)))
  event_counts riding carrying s (CoreMove c) = worked_counts s.image riding (core_at s.cores c)
      (port_at carrying s.memory.ports c)
  event_counts riding carrying s (RequestMove c) = record { number = refl; count = inl (refl, refl) }
  event_counts riding carrying s (ResponseMove c) = record { number = refl; count = inl (refl, refl) }
  event_counts riding carrying s (MessageMove c) =
      let core = core_at s.cores c in
      receiving_cases s.image riding carrying core (port_at carrying s.memory.ports c)
      (λ (e : Event). CoreCounts (instr_of e) core (core_after s.image e core)) (λ quiet. record {
        number =
            refl;
        count = inl (refl, refl);
      })
      (λ comes. worked_counts s.image riding core (port_taken riding carrying (port_at carrying s.memory.ports c)))

  -- what retires is the next instruction of the move's core
  pub retired_next : (riding : Riding R) (carrying : Carrying K) (s : State R K) (m : Move) (y : Instr) →
      instr_of (event riding carrying s m) ≡ Some y →
      next_instr (core_at s.cores (core_of m)) ≡ y
  retired_next riding carrying s m y is =
      by (core_after s.image (event riding carrying s m) (core_at s.cores (core_of m)))
      (event_counts riding carrying s m).count
    where
      o : Option Instr
      o = instr_of (event riding carrying s m)

      core : Core
      core = core_at s.cores (core_of m)

      by : (new : Core) → ((o ≡ None) × (new.count ≡ core.count))
          ⊎ ((o ≡ Some (next_instr core)) × (new.count ≡ core.count + 1)) → next_instr core ≡ y
      by new (inl f) = none_some o y f.0 is
      by new (inr f) = same_Some (next_instr core) y (sym f.0 ∙ is)
