-- Each act of the memory system pays for itself, but for the taking of a block's data. The potential is by line, and
-- never looks at who asks: two accesses of a core can want the same line one after the other. A Put is paid for by the
-- Get that fills the line again. Each act balances by itself (`Balance`): asking, and each message taken but data,
-- earns one; data take what the Get was worth; touching and retiring take nothing.
use Rattle.std.proofs.Common.{◌≡◌, ◌∙◌, ap, refl, sym, ℕ, ◌+◌, ◌*◌, ◌<◌, ◌≤◌, Bool, true, false, not, List, [], ◌∷◌}
use Rattle.std.proofs.Common.{length}
use Rattle.std.proofs.Common.{Option, Some, None, IsTrue, zero, suc, arith}
use Rattle.std.specs.Prelude.{slice_set, if◌then◌else◌, nat_lt}
use Rattle.std.specs.List.{sum_by, list_all}
use Rattle.std.proofs.lemmas.List.{length-set}
use Rattle.std.proofs.lemmas.List.Sums.{sum_by-set}
use Rattle.access_times.specs.Riding.{Riding, Carrying}
use Rattle.rtr_types.proofs.Truths.{true_is, second_true}
use Rattle.rtr_types.specs.CoreSets.{has}
use Rattle.rtr_types.specs.declared.core_set.CoreSet.{CoreSet}
use Rattle.rtr_types.specs.declared.access.Kind.{Kind}
use Rattle.link_order.specs.Queue.{is_nil}
use Rattle.msi_cache.specs.declared.messages.FromHome.{FromHome}
use Rattle.msi_cache.specs.declared.messages.FromHome.TheVariants.{Inv}
use Rattle.msi_cache.specs.declared.messages.Request.{Request}
use Rattle.msi_cache.specs.declared.messages.Response.{Response}
use Rattle.msi_cache.specs.Messages.{ask_of, reply_of, request_block, response_block}
use Rattle.msi_directory.specs.declared.entry.Entry.{Entry}
use Rattle.msi_directory.specs.declared.entry.HomeAnswer.{HomeAnswer}
use Rattle.msi_directory.specs.Table.{is_free}
use Rattle.msi_directory.specs.Entries.{answer_to_request, answer_to_response}
use Rattle.msi_directory.specs.Blocks.{entry_at, entries_after_request, entries_after_response}
use Rattle.msi_protocol.specs.Block.{request_step, response_step}
use Rattle.msi_protocol.specs.Controllers.{RequestAsMoved, ResponseAsMoved}
use Rattle.msi_protocol.proofs.Controllers.{request_makes_step, response_makes_step}
use Rattle.msi_memory.specs.declared.port.Mail.{Mail}
use Rattle.msi_memory.specs.declared.port.Port.{Port}
use Rattle.msi_memory.specs.Memories.{Memory, port_at, no_port}
use Rattle.msi_memory.specs.Acts.{Act, Want, Touch, Retire, TakeRequest, TakeResponse, TakeMessage, can, can_at}
use Rattle.msi_memory.specs.Acts.{can_all, after_act, after_acts, data_next}
use Rattle.msi_memory.specs.Acts.{delivered, delivered_in, head_free, port_asking, port_requested, port_responded}
use Rattle.msi_memory.specs.Acts.{port_retiring, port_sent, port_taking, port_touched}
use Rattle.msi_memory.specs.Acts.{ports_sent, ports_told, take_request_in, take_response_in, with_port}
use Rattle.msi_laws.specs.Holds.{MemoryHolds}
use Rattle.msi_laws.proofs.PortsKept.{can_want, there_of, touched_lines}
use Rattle.msi_laws.proofs.PortsAndBlocks.{HasRow, message_row}
use Rattle.machine_bound.specs.Bound.{owed}
use Rattle.machine_bound.proofs.OwedSums.{answer_debt, owed_delivered}
use Rattle.machine_bound.proofs.Requests.{answer_debt_is, asked_line, request_alone, response_debt, step_debt}
use Rattle.machine_bound.proofs.Sums.{sum_kept}
use Rattle.msi_laws.proofs.ActsInTurn.{acts_keep}
use Rattle.tso_bound.specs.Bound.{memory_owed, memory_worth, port_worth}
use Rattle.tso_bound.proofs.Ports.{asking_worth, data_takes, requested_worth, same_worth, taking_earns}

-- an act that touches a word, or tells of an instruction
abbrev pub is_telling : {R : Type 0} → Act R → Bool
is_telling (Touch c block slot kind value rider) = true
is_telling (Retire c at) = true
is_telling _ = false

module _ {R K : Type 0} where
  -- from m to n the lines earn this more than what is owed, or take that
  abbrev pub Balance : (cores : ℕ) → Memory R K → Memory R K → (more less : ℕ) → Type 0
  Balance cores m n more less = memory_worth cores m + memory_owed n + more ≤ memory_worth cores
      n + memory_owed m + less

  -- where one port is set
  set_balance : (carrying : Carrying K) (cores : ℕ) (m : Memory R K) (c : ℕ) (q : Port R K) (more less : ℕ) →
      c < length m.ports →
      port_worth cores (port_at carrying m.ports c) + owed q + more ≤ port_worth cores q + owed
      (port_at carrying m.ports c) + less →
      Balance cores m (with_port m c q) more less
  set_balance carrying cores m c q more less there le =
      let e = sum_by-set (port_worth {R = R} {K = K} cores) m.ports c q (no_port carrying) there in
      let f = sum_by-set (owed {R = R} {K = K}) m.ports c q
      (no_port carrying) there in omega arith

  -- ---- acts that cost nothing

  -- the lines are worth this, and this is owed
  record Stands (cores worth owes : ℕ) (m : Memory R K) : Type 0 where
    worth_is : memory_worth cores m ≡ worth
    owes_is : memory_owed m ≡ owes

  telling_stands : (riding : Riding R) (carrying : Carrying K) (cores worth owes : ℕ) (m : Memory R K) (act : Act R) →
      IsTrue (can riding carrying m act) →
      is_telling act ≡ true → MemoryHolds riding carrying m → Stands cores worth owes m →
      Stands cores worth owes (after_act riding carrying m act)
  telling_stands riding carrying cores worth owes m (Want c block kind) e tells h s = absurd (cc)
  telling_stands riding carrying cores worth owes m (Touch c block slot kind value rider) e tells h s =
      let there = there_of riding carrying m (Touch c block slot kind value rider) e in
      let p : Port R K = port_at carrying m.ports c in
      let q : Port R K = port_touched riding p block slot kind value rider in
      record {
        worth_is = sum_kept (port_worth {R = R} {K = K} cores) m.ports c q (no_port carrying)
            (same_worth riding cores p q
            (touched_lines riding (length m.home) p block slot kind value rider
            (h.ports c there)) refl) ∙ s.worth_is;
        owes_is = sum_kept (owed {R = R} {K = K}) m.ports c q (no_port carrying) refl ∙ s.owes_is;
      }
  telling_stands riding carrying cores worth owes m (Retire c at) e tells h s =
      let q : Port R K = port_retiring carrying (port_at carrying m.ports c) at in
      record {
        worth_is = sum_kept (port_worth {R = R} {K = K} cores) m.ports c q (no_port carrying) refl ∙ s.worth_is;
        owes_is = sum_kept (owed {R = R} {K = K}) m.ports c q (no_port carrying) refl ∙ s.owes_is;
      }
  telling_stands riding carrying cores worth owes m (TakeRequest c) e tells h s = absurd (cc)
  telling_stands riding carrying cores worth owes m (TakeResponse c) e tells h s = absurd (cc)
  telling_stands riding carrying cores worth owes m (TakeMessage c) e tells h s = absurd (cc)

  pub told_balance : (riding : Riding R) (carrying : Carrying K) (cores : ℕ) (m : Memory R K) (todo : List (Act R)) →
      can_all riding carrying m todo ≡ true → list_all is_telling todo ≡ true → MemoryHolds riding carrying m →
      Balance cores m (after_acts riding carrying m todo) 0 0
  told_balance riding carrying cores m todo can_them tells h =
      let s = acts_keep riding carrying
      (λ (x : Memory R K). Stands cores (memory_worth cores m) (memory_owed m) x) is_telling
      (telling_stands riding carrying cores (memory_worth cores m) (memory_owed m)) m todo can_them tells h
      (record { worth_is = refl; owes_is = refl }) in
      let a = s.worth_is in
      let b = s.owes_is in
      omega arith

  -- ---- the port's own

  pub want_balance : (riding : Riding R) (carrying : Carrying K) (cores : ℕ) (m : Memory R K) (c block : ℕ)
      (kind : Kind) → MemoryHolds riding carrying m →
      can riding carrying m (Want c block kind) ≡ true →
      Balance cores m (after_act riding carrying m (Want c block kind)) 1 0
  want_balance riding carrying cores m c block kind h e =
      let there = there_of riding carrying m (Want c block kind) e in
      let p : Port R K = port_at carrying m.ports c in
      let asks = can_want riding carrying m c block kind e in
      let rises = asking_worth riding cores p block kind (h.ports c there).all_lines asks.still asks.needed in
      set_balance carrying cores m c (port_asking riding p block kind) 1 0 there (omega arith)

  pub message_balance : (riding : Riding R) (carrying : Carrying K) (cores : ℕ) (m : Memory R K) (c : ℕ) →
      MemoryHolds riding carrying m →
      can riding carrying m (TakeMessage c) ≡ true → 1 ≤ cores → (d : Bool) →
      data_next (port_at carrying m.ports c).messages.items ≡ d →
      Balance cores m (after_act riding carrying m (TakeMessage c)) (if d then 0 else 1)
      (if d then 3 + 2 * cores else 0)
  message_balance riding carrying cores m c h e some d is =
      by_items p.messages.items refl
      (true_is _ (second_true (nat_lt c (length m.ports)) (can_at riding m.home p (TakeMessage c)) e)) d is
    where
      p : Port R K
      p = port_at carrying m.ports c

      there : c < length m.ports
      there = there_of riding carrying m (TakeMessage c) e

      by_items : (q : List (Mail (FromHome R) K)) → p.messages.items ≡ q → not (is_nil q) ≡ true → (d : Bool) →
          data_next p.messages.items ≡ d →
          Balance cores m (with_port m c (port_taking riding carrying p q)) (if d then 0 else 1)
          (if d then 3 + 2 * cores else 0)
      by_items [] items more d is = absurd (cc)
      by_items (mail ∷ rest) items more true is =
          let le = data_takes riding carrying cores p mail rest items (h.ports c there).all_lines some
          (sym (ap data_next items) ∙ is) in
          set_balance carrying cores m c (port_taking riding carrying p (mail ∷ rest)) 0
          (3 + 2 * cores) there (omega arith)
      by_items (mail ∷ rest) items more false is =
          let row : HasRow riding p mail.item = message_row riding carrying m c mail rest there items h in
          let le = taking_earns riding carrying cores p mail rest items (h.ports c there).all_lines row.there
          (sym (ap data_next items) ∙ is) in
          set_balance carrying cores m c (port_taking riding carrying p (mail ∷ rest)) 1 0 there (omega arith)

  -- ---- the home's

  sent_worth : (carrying : Carrying K) (cores : ℕ) (ports : List (Port R K)) (to : ℕ) (m : FromHome R) (k : K) →
      sum_by (port_worth cores) (ports_sent carrying ports to m k) ≡ sum_by (port_worth cores) ports
  sent_worth carrying cores ports to m k =
      sum_kept (port_worth {R = R} {K = K} cores) ports to (port_sent (port_at carrying ports to) m k)
      (no_port carrying) refl

  told_worth : (carrying : Carrying K) (cores : ℕ) (set : CoreSet) (m : FromHome R) (k : K) (n : ℕ)
      (ports : List (Port R K)) →
      sum_by (port_worth cores) (ports_told carrying set m k n ports) ≡ sum_by (port_worth cores) ports
  told_worth carrying cores set m k zero ports = refl
  told_worth carrying cores set m k (suc n) ports = by_test (has set n) (told_worth carrying cores set m k n ports)
    where
      told : List (Port R K)
      told = ports_told carrying set m k n ports

      by_test : (t : Bool) → sum_by (port_worth cores) told ≡ sum_by (port_worth cores) ports →
          sum_by (port_worth cores) (if t then ports_sent carrying told n m k else told) ≡ sum_by
          (port_worth cores) ports
      by_test true same = sent_worth carrying cores told n m k ∙ same
      by_test false same = same

  delivered_worth : (carrying : Carrying K) (cores : ℕ) (answer : HomeAnswer R) (block : ℕ) (k : K)
      (ports : List (Port R K)) →
      sum_by (port_worth cores) (delivered carrying answer block k ports) ≡ sum_by (port_worth cores) ports
  delivered_worth carrying cores answer block k ports = by_send answer.send
    where
      by_send : (o : Option (ℕ × FromHome R)) →
          sum_by (port_worth cores) (delivered_in o carrying answer.invalidate block k ports) ≡ sum_by
          (port_worth cores) ports
      by_send None = told_worth carrying cores answer.invalidate (Inv block) k (length ports) ports
      by_send (Some (to, m)) = sent_worth carrying cores ports to m k

  -- the home's answer pays for itself where the port whose message it took has earned what it brings to others
  home_balance : (carrying : Carrying K) (cores : ℕ) (m : Memory R K) (c : ℕ) (p : Port R K) (answer : HomeAnswer R)
      (block : ℕ) (k : K)
      (home : List (Entry R)) (brings : ℕ) → c < length m.ports →
      answer_debt answer.send answer.invalidate (length m.ports) ≡ brings →
      port_worth cores (port_at carrying m.ports c) + owed p + brings + 1 ≤ port_worth cores p + owed
      (port_at carrying m.ports c) →
      Balance cores m (record {
        ports = delivered carrying answer block k (slice_set m.ports c p);
        home = home;
        carry =
            k;
      }) 1 0
  home_balance carrying cores m c p answer block k home brings there is le =
      let ports : List (Port R K) = slice_set m.ports c p in
      let e = sum_by-set (port_worth {R = R} {K = K} cores) m.ports c p (no_port carrying) there in
      let f = sum_by-set (owed {R = R} {K = K}) m.ports c p (no_port carrying) there in
      let kept = delivered_worth carrying cores answer block k ports in
      let owes = owed_delivered carrying answer block k ports in
      let debt : answer_debt answer.send answer.invalidate (length ports) ≡ brings =
      ap (λ (x : ℕ). answer_debt answer.send answer.invalidate x)
      (length-set m.ports c p) ∙ is in omega arith

  pub request_balance : (riding : Riding R) (carrying : Carrying K) (m : Memory R K) (c : ℕ) →
      MemoryHolds riding carrying m →
      can riding carrying m (TakeRequest c) ≡ true →
      Balance (length m.ports) m (after_act riding carrying m (TakeRequest c)) 1 0
  request_balance riding carrying m c h e =
      by_items p.requests.items refl
      (true_is _ (second_true (nat_lt c (length m.ports)) (can_at riding m.home p (TakeRequest c)) e))
    where
      p : Port R K
      p = port_at carrying m.ports c

      there : c < length m.ports
      there = there_of riding carrying m (TakeRequest c) e

      by_rest : (mail : Mail (Request R) K) (rest : List (Mail (Request R) K)) → p.requests.items ≡ mail ∷ rest →
          is_free (entry_at riding.fresh m.home (request_block mail.item)).stage ≡ true → rest ≡ [] →
          Balance (length m.ports) m (take_request_in (mail ∷ rest) riding carrying m c) 1 0
      by_rest mail (x ∷ xs) is free alone = absurd (cc)
      by_rest mail [] is free alone =
          let b : ℕ = request_block mail.item in
          let entry : Entry R = entry_at riding.fresh m.home b in
          let made : RequestAsMoved riding entry c mail.item = request_makes_step riding entry c mail.item in
          let answer : HomeAnswer R = answer_to_request riding.absorbed entry c mail.item in
          let brings : ℕ = step_debt (request_step entry.stage c (ask_of mail.item)) (length m.ports) in
          let debt_is = answer_debt_is answer (request_step entry.stage c (ask_of mail.item))
          (length m.ports) made.send made.invalidate in
          let rises = requested_worth riding (length m.home) (length m.ports) brings p mail (h.ports c there) is
          (asked_line riding carrying m c mail h there is free) in
          home_balance carrying (length m.ports) m c (port_requested p []) answer b (carrying.joined m.carry mail.carry)
          (entries_after_request riding m.home c mail.item) brings there debt_is (omega arith)

      by_items : (q : List (Mail (Request R) K)) → p.requests.items ≡ q → head_free q riding m.home ≡ true →
          Balance (length m.ports) m (take_request_in q riding carrying m c) 1 0
      by_items [] is free = absurd (cc)
      by_items (mail ∷ rest) is free =
          by_rest mail rest is free (request_alone riding carrying m c mail rest h there is)

  pub response_balance : (riding : Riding R) (carrying : Carrying K) (cores : ℕ) (m : Memory R K) (c : ℕ) →
      MemoryHolds riding carrying m →
      can riding carrying m (TakeResponse c) ≡ true → Balance cores m (after_act riding carrying m (TakeResponse c)) 1 0
  response_balance riding carrying cores m c h e =
      by_items p.responses.items refl
      (true_is _ (second_true (nat_lt c (length m.ports)) (can_at riding m.home p (TakeResponse c)) e))
    where
      p : Port R K
      p = port_at carrying m.ports c

      by_items : (q : List (Mail (Response R) K)) → p.responses.items ≡ q → not (is_nil q) ≡ true →
          Balance cores m (take_response_in q riding carrying m c) 1 0
      by_items [] is some = absurd (cc)
      by_items (mail ∷ rest) is some =
          let b : ℕ = response_block mail.item in
          let entry : Entry R = entry_at riding.fresh m.home b in
          let made : ResponseAsMoved riding entry c mail.item = response_makes_step riding entry c mail.item in
          let answer : HomeAnswer R = answer_to_response riding.absorbed entry c mail.item in
          let debt_is : answer_debt answer.send answer.invalidate (length m.ports) ≡ 0 =
          answer_debt_is answer (response_step entry.stage c (reply_of mail.item))
          (length m.ports) made.send made.invalidate
          ∙ response_debt entry.stage c (reply_of mail.item) (length m.ports) in
          let owes : owed p ≡ owed (port_responded p rest) + 1 =
          let f : length p.responses.items ≡ length rest + 1 = ap length is ∙ omega arith in omega arith in
          home_balance carrying cores m c (port_responded p rest) answer b (carrying.joined m.carry mail.carry)
          (entries_after_response riding m.home c mail.item) 0
          (there_of riding carrying m (TakeResponse c) e) debt_is (omega arith)
