-- Each step pays for itself.
use Rattle.std.proofs.Common.{◌≡◌, ◌∙◌, ap, refl, sym, subst, ℕ, ◌+◌, ◌*◌, ◌<◌, ◌≤◌, Bool, true, false, List, [], ◌∷◌}
use Rattle.std.proofs.Common.{length, Option, Some, None, arith}
use Rattle.std.proofs.Common.{IsTrue}
use Rattle.std.specs.Prelude.{slice_set, nat_lt, not}
use Rattle.std.specs.List.{sum_by, zip}
use Rattle.std.proofs.lemmas.List.{length-set, set-get_or}
use Rattle.std.proofs.lemmas.List.Sums.{sum_by-set}
use Rattle.access_times.specs.Riding.{Riding, Carrying}
use Rattle.image_mem.specs.Contents.{Contents}
use Rattle.rtr_types.proofs.Truths.{true_is, second_true}
use Rattle.rtr_types.specs.declared.access.Kind.{Kind}
use Rattle.rv_core.specs.declared.core_state.Core.{Core}
use Rattle.rv_core.specs.States.{starting}
use Rattle.rv_core.specs.Steps.{need, is_done, access_of as need_access}
use Rattle.rv_core.proofs.LawLemmas.{count_law}
use Rattle.link_order.specs.Queue.{is_nil}
use Rattle.msi_cache.specs.declared.messages.FromHome.{FromHome}
use Rattle.msi_cache.specs.declared.messages.Request.{Request}
use Rattle.msi_cache.specs.declared.messages.Response.{Response}
use Rattle.msi_cache.specs.Messages.{ask_of, reply_of, request_block, response_block}
use Rattle.msi_directory.specs.declared.entry.Entry.{Entry}
use Rattle.msi_directory.specs.declared.entry.HomeAnswer.{HomeAnswer}
use Rattle.msi_directory.specs.Table.{is_free}
use Rattle.msi_directory.specs.Entries.{answer_to_request, answer_to_response}
use Rattle.msi_directory.specs.Blocks.{entry_at, entries_after_request, entries_after_response}
use Rattle.msi_protocol.specs.Block.{request_step, response_step}
use Rattle.msi_protocol.specs.Controllers.{RequestAsMoved, ResponseAsMoved}
use Rattle.msi_protocol.proofs.Controllers.{request_makes_step, response_makes_step}
use Rattle.msi_memory.specs.declared.port.Mail.{Mail}
use Rattle.msi_memory.specs.declared.port.Port.{Port}
use Rattle.msi_memory.specs.Memories.{Memory, port_at, no_port}
use Rattle.msi_memory.specs.Acts.{TakeRequest, TakeResponse, TakeMessage, can_at, data_next, delivered, port_sent}
use Rattle.msi_memory.specs.Acts.{port_requested, port_responded}
use Rattle.msi_memory.specs.Acts.{head_free, port_taking, take_request_in, take_response_in, with_port}
use Rattle.msi_memory.specs.Rests.{can_hear_in}
use Rattle.msi_laws.specs.Holds.{PortHolds}
use Rattle.msi_state.specs.declared.moves.Move.{Move}
use Rattle.msi_state.specs.declared.moves.Move.TheVariants.{Core as CoreMove, Request as RequestMove}
use Rattle.msi_state.specs.declared.moves.Move.TheVariants.{Response as ResponseMove, FromHome as MessageMove}
use Rattle.msi_state.specs.States.{State, core_at}
use Rattle.msi_state.specs.Events.{Event, Nothing, Retires, Accesses, access_of, next_instr, port_taken}
use Rattle.msi_state.specs.Steps.{enabled, event, cores_after, step}
use Rattle.machine_invariant.specs.Holds.{MachineHolds}
use Rattle.machine_bound.specs.Bound.{owed, base_in, earned, total_owed, total_earned, Earns}
use Rattle.machine_invariant.proofs.Awaits.{core_enabled, enabled_core, core_port, core_cases}
use Rattle.machine_invariant.proofs.StepFrame.{core_after, port_told, port_worked, core_memory, message_memory}
use Rattle.machine_invariant.proofs.Awaits.{CanWork, message_cases}
use Rattle.msi_laws.proofs.Ready.{memory_ready}
use Rattle.machine_bound.proofs.Sums.{sum_set, sum_set_second}
use Rattle.machine_bound.proofs.OwedSums.{answer_debt, owed_delivered, sum_delivered}
use Rattle.machine_bound.proofs.PortEarns.{retiring_earns, asking_earns, data_owes, taking_earns}
use Rattle.machine_bound.proofs.Requests.{step_debt, answer_debt_is, request_alone, request_need, response_debt}

pub cores_set : (image : Contents) (c : ℕ) (e : Event) (cores : List Core) → cores_after image c e cores
    ≡ slice_set cores c (core_after image e (core_at cores c))
cores_set image c Nothing cores = sym (set-get_or cores c (starting 0 0))
cores_set image c (Retires at) cores = refl
cores_set image c (Accesses a) cores = refl

module _ {R K : Type 0} where
  -- ---- moves of a core

  -- what a core with its port and what becomes of the two must meet
  abbrev Pays : Riding R → Carrying K → State R K → (c : ℕ) → Core → Port R K → Type 0
  Pays riding carrying s c core p =
      earned s.image riding (length s.cores) (core_at s.cores c, port_at carrying s.memory.ports c) + owed p + 1
      ≤ earned s.image riding (length s.cores) (core, p) + owed (port_at carrying s.memory.ports c)

  set_earns : (riding : Riding R) (carrying : Carrying K) (s : State R K) (c : ℕ) (core : Core) (p : Port R K) →
      MachineHolds riding carrying s →
      c < length s.cores → Pays riding carrying s c core p →
      Earns riding s (record s { cores = slice_set s.cores c core; memory = with_port s.memory c p })
  set_earns riding carrying s c core p h lc le =
      let e = sum_set (earned s.image riding (length s.cores)) s.cores s.memory.ports c core (starting 0 0) p
      (no_port carrying) lc h.ports_there in
      let f = sum_by-set (owed {R = R} {K = K}) s.memory.ports c p (no_port carrying) (core_port riding carrying s c h
      lc) in
      subst (λ (cores : ℕ). total_earned riding s + sum_by owed (slice_set s.memory.ports c p) + 1
      ≤ sum_by (earned s.image riding cores) (zip (slice_set s.cores c core) (slice_set s.memory.ports c p)) +
      total_owed s)
      (sym (length-set s.cores c core)) (omega arith)

  own_earns : (riding : Riding R) (carrying : Carrying K) (s : State R K) (c : ℕ) (e : Event) (p : Port R K)
      (m : Memory R K) → MachineHolds riding carrying s →
      c < length s.cores → m ≡ with_port s.memory c p →
      Pays riding carrying s c (core_after s.image e (core_at s.cores c)) p →
      Earns riding s (record s { cores = cores_after s.image c e s.cores; memory = m })
  own_earns riding carrying s c e p m h lc is le =
      subst (λ (x : Memory R K). Earns riding s (record s { cores = cores_after s.image c e s.cores; memory = x }))
      (sym is)
      (subst (λ (cores : List Core). Earns riding s (record s { cores = cores; memory = with_port s.memory c p }))
      (sym (cores_set s.image c e s.cores))
      (set_earns riding carrying s c (core_after s.image e (core_at s.cores c)) p h lc le))

  core_pays : (riding : Riding R) (carrying : Carrying K) (s : State R K) (c : ℕ) (rider : R) →
      IsTrue (enabled riding carrying s (CoreMove c)) →
      MachineHolds riding carrying s →
      Pays riding carrying s c (core_after s.image (event riding carrying s (CoreMove c)) (core_at s.cores c))
      (port_worked riding carrying rider (need_access (need s.image (core_at s.cores c)))
      (event riding carrying s (CoreMove c))
      (port_at carrying s.memory.ports c))
  core_pays riding carrying s c rider e h =
      core_cases riding carrying s c
      (λ needed x. Pays riding carrying s c (core_after s.image x core) (port_worked riding carrying rider needed x p))
      e
      (λ is. let le = retired (core_after s.image (Retires (next_instr core)) core) (port_worked riding carrying rider
      None (Retires (next_instr core)) p)
      (count_law s.image core 0) in omega arith)
      (λ kind word is denied. let le = asking_earns s.image riding (length s.cores) core p word kind is
      (h.memory.ports c there).all_lines can.still denied in
      omega arith)
      (λ kind word is allowed. let a = access_of s.image riding core p word kind in
      let le = retired (core_after s.image (Accesses a) core) (port_worked riding carrying rider (Some (kind, word))
      (Accesses a) p)
      (count_law s.image core a.before) in omega arith)
    where
      core : Core
      core = core_at s.cores c

      p : Port R K
      p = port_at carrying s.memory.ports c

      can : CanWork riding carrying s c
      can = core_enabled riding carrying s c e

      there : c < length s.memory.ports
      there = core_port riding carrying s c h can.core

      retired : (x : Core) (q : Port R K) → x.count ≡ core.count + 1 →
          earned s.image riding (length s.cores) (core, p) + 1 ≤ earned s.image riding (length s.cores) (x, q)
      retired x q more = retiring_earns s.image riding (length s.cores) core x p q (let lt = can.core in
          omega arith) more

  core_earns : (riding : Riding R) (carrying : Carrying K) (s : State R K) (c : ℕ) (rider : R) →
      IsTrue (enabled riding carrying s (CoreMove c)) →
      MachineHolds riding carrying s → Earns riding s (step riding carrying rider s (CoreMove c))
  core_earns riding carrying s c rider e h =
      let lc = (core_enabled riding carrying s c e).core in
      own_earns riding carrying s c (event riding carrying s (CoreMove c)) _ _ h lc
      (core_memory riding carrying rider s c (core_port riding carrying s c h lc)) (core_pays riding carrying s c rider
      e h)

  message_pays : (riding : Riding R) (carrying : Carrying K) (s : State R K) (c : ℕ) (rider : R) →
      IsTrue (enabled riding carrying s (MessageMove c)) →
      MachineHolds riding carrying s →
      Pays riding carrying s c (core_after s.image (event riding carrying s (MessageMove c)) (core_at s.cores c))
      (port_told riding carrying rider (event riding carrying s (MessageMove c)) (port_taken riding carrying
      (port_at carrying s.memory.ports c)))
  message_pays riding carrying s c rider e h =
      by_items p.messages.items refl ((memory_ready riding carrying s.memory h.memory).rows (TakeMessage c) e)
    where
      core : Core
      core = core_at s.cores c

      p : Port R K
      p = port_at carrying s.memory.ports c

      lc : c < length s.cores
      lc = enabled_core riding carrying s (MessageMove c) e h

      holds : PortHolds riding (length s.memory.home) p
      holds = h.memory.ports c (core_port riding carrying s c h lc)

      by_items : (q : List (Mail (FromHome R) K)) → p.messages.items ≡ q → IsTrue (can_hear_in q riding p) →
          Pays riding carrying s c (core_after s.image (event riding carrying s (MessageMove c)) core)
          (port_told riding carrying rider (event riding carrying s (MessageMove c)) (port_taken riding carrying p))
      by_items [] is row = absurd (cc)
      by_items (mail ∷ rest) is row =
          let at : port_taken riding carrying p ≡ port_taking riding carrying p (mail ∷ rest) =
          ap (port_taking riding carrying p) is in
          message_cases riding carrying s c
          (λ x. Pays riding carrying s c (core_after s.image x core) (port_told riding carrying rider x
          (port_taken riding carrying p))) h lc
          (λ quiet. subst (λ (x : Port R K). Pays riding carrying s c core x) (sym at)
          (taking_earns s.image riding carrying (length s.cores) (length s.memory.home) core p mail rest is
          (true_is _ row) (sym (ap data_next is) ∙ quiet)
          holds (h.cores c lc).awaited))
          (λ kind word comes needs allowed still. let a = access_of s.image riding core (port_taken riding carrying p)
          word kind in
          let same = ap owed at ∙ data_owes riding carrying p mail rest is (sym (ap data_next is) ∙ comes) in
          let le = retiring_earns s.image riding (length s.cores) core (core_after s.image (Accesses a) core) p
          (port_told riding carrying rider (Accesses a) (port_taken riding carrying p)) (let lt = lc in
          omega arith) (count_law s.image core a.before) in
          omega arith)

  message_earns : (riding : Riding R) (carrying : Carrying K) (s : State R K) (c : ℕ) (rider : R) →
      IsTrue (enabled riding carrying s (MessageMove c)) →
      MachineHolds riding carrying s → Earns riding s (step riding carrying rider s (MessageMove c))
  message_earns riding carrying s c rider e h =
      let lc = enabled_core riding carrying s (MessageMove c) e h in
      own_earns riding carrying s c (event riding carrying s (MessageMove c)) _ _ h lc
      (message_memory riding carrying rider s c (core_port riding carrying s c h lc)) (message_pays riding carrying s c
      rider e h)

  -- ---- moves of the home

  base_sent : (used : Option (Kind × ℕ)) (done : Bool) (riding : Riding R) (cores : ℕ) (p : Port R K) (g : FromHome R)
      (k : K) →
      base_in used done riding cores (port_sent p g k) ≡ base_in used done riding cores p
  base_sent (Some (kind, word)) done riding cores p g k = refl
  base_sent None true riding cores p g k = refl
  base_sent None false riding cores p g k = refl

  earned_sent : (image : Contents) (riding : Riding R) (cores : ℕ) (core : Core) (p : Port R K) (g : FromHome R)
      (k : K) →
      earned image riding cores (core, port_sent p g k) ≡ earned image riding cores (core, p)
  earned_sent image riding cores core p g k =
      ap (λ (b : ℕ). (2 * cores + 4) * core.count + b) (base_sent (need_access (need image core))
      (is_done (need image core)) riding cores p g k)

  -- the home's answer pays for itself where the core whose message it took has earned what it brings to others
  home_earns : (riding : Riding R) (carrying : Carrying K) (s : State R K) (c : ℕ) (p : Port R K)
      (answer : HomeAnswer R) (block : ℕ) (k : K)
      (home : List (Entry R)) (debt : ℕ) → MachineHolds riding carrying s → c < length s.cores →
      answer_debt answer.send answer.invalidate (length s.memory.ports) ≡ debt →
      earned s.image riding (length s.cores) (core_at s.cores c, port_at carrying s.memory.ports c) + owed p + debt + 1
      ≤ earned s.image riding (length s.cores) (core_at s.cores c, p) + owed (port_at carrying s.memory.ports c) →
      Earns riding s (record s {
        memory = record {
          ports = delivered carrying answer block k (slice_set s.memory.ports c p);
          home = home;
          carry = k;
        };
      })
  home_earns riding carrying s c p answer block k home debt h lc is le =
      let ports : List (Port R K) = slice_set s.memory.ports c p in
      let long : length ports ≡ length s.memory.ports = length-set s.memory.ports c p in
      let e = sum_set_second (earned s.image riding (length s.cores)) s.cores s.memory.ports c (starting 0 0) p
      (no_port carrying) lc h.ports_there in
      let f = sum_by-set (owed {R = R} {K = K}) s.memory.ports c p (no_port carrying) (core_port riding carrying s c h
      lc) in
      let kept = sum_delivered (earned s.image riding (length s.cores)) (earned_sent s.image riding (length s.cores))
      carrying answer block k s.cores ports in
      let owes = owed_delivered carrying answer block k ports in
      let brings : answer_debt answer.send answer.invalidate (length ports) ≡ debt =
      ap (λ (x : ℕ). answer_debt answer.send answer.invalidate x) long ∙ is in
      omega arith

  request_earns : (riding : Riding R) (carrying : Carrying K) (s : State R K) (c : ℕ) (rider : R) →
      IsTrue (enabled riding carrying s (RequestMove c)) →
      MachineHolds riding carrying s → Earns riding s (step riding carrying rider s (RequestMove c))
  request_earns riding carrying s c rider e h =
      by_items p.requests.items refl (true_is _ (second_true (nat_lt c (length s.memory.ports))
      (can_at riding s.memory.home p (TakeRequest c)) e))
    where
      p : Port R K
      p = port_at carrying s.memory.ports c

      lc : c < length s.cores
      lc = enabled_core riding carrying s (RequestMove c) e h

      taken : (mail : Mail (Request R) K) → p.requests.items ≡ mail ∷ [] →
          is_free (entry_at riding.fresh s.memory.home (request_block mail.item)).stage ≡ true →
          Earns riding s (record s { memory = take_request_in (mail ∷ []) riding carrying s.memory c })
      taken mail is free =
          let b : ℕ = request_block mail.item in
          let entry : Entry R = entry_at riding.fresh s.memory.home b in
          let made : RequestAsMoved riding entry c mail.item = request_makes_step riding entry c mail.item in
          let answer : HomeAnswer R = answer_to_request riding.absorbed entry c mail.item in
          let debt : ℕ = step_debt (request_step entry.stage c (ask_of mail.item)) (length s.memory.ports) in
          let debt_is = answer_debt_is answer (request_step entry.stage c (ask_of mail.item)) (length s.memory.ports)
          made.send made.invalidate in
          let need_it = request_need riding carrying s.memory c mail h.memory (core_port riding carrying s c h lc) is
          free
          (need_access (need s.image (core_at s.cores c))) (is_done (need s.image (core_at s.cores c)))
          (h.cores c lc).awaited in
          let base : base_in (need_access (need s.image (core_at s.cores c)))
          (is_done (need s.image (core_at s.cores c))) riding (length s.cores) p + debt + 1
          ≤ base_in (need_access (need s.image (core_at s.cores c))) (is_done (need s.image (core_at s.cores c))) riding
          (length s.cores)
          (port_requested p []) =
          subst (λ (n : ℕ). base_in (need_access (need s.image (core_at s.cores c)))
          (is_done (need s.image (core_at s.cores c))) riding n p + debt + 1
          ≤ base_in (need_access (need s.image (core_at s.cores c))) (is_done (need s.image (core_at s.cores c))) riding
          n (port_requested p []))
          h.ports_there need_it in
          home_earns riding carrying s c (port_requested p []) answer b (carrying.joined s.memory.carry mail.carry)
          (entries_after_request riding s.memory.home c mail.item) debt h lc debt_is (omega arith)

      by_rest : (mail : Mail (Request R) K) (rest : List (Mail (Request R) K)) → p.requests.items ≡ mail ∷ rest →
          is_free (entry_at riding.fresh s.memory.home (request_block mail.item)).stage ≡ true → rest ≡ [] →
          Earns riding s (record s { memory = take_request_in (mail ∷ rest) riding carrying s.memory c })
      by_rest mail [] is free alone = taken mail is free
      by_rest mail (x ∷ xs) is free alone = absurd (cc)

      by_items : (q : List (Mail (Request R) K)) → p.requests.items ≡ q → head_free q riding s.memory.home ≡ true →
          Earns riding s (record s { memory = take_request_in q riding carrying s.memory c })
      by_items [] is free = absurd (cc)
      by_items (mail ∷ rest) is free =
          by_rest mail rest is free (request_alone riding carrying s.memory c mail rest h.memory
          (core_port riding carrying s c h lc) is)

  base_responded : (used : Option (Kind × ℕ)) (done : Bool) (riding : Riding R) (cores : ℕ) (p : Port R K)
      (rest : List (Mail (Response R) K)) →
      base_in used done riding cores (port_responded p rest) ≡ base_in used done riding cores p
  base_responded (Some (kind, word)) done riding cores p rest = refl
  base_responded None true riding cores p rest = refl
  base_responded None false riding cores p rest = refl

  -- the home takes the oldest of these responses of a port
  responses_earn : (riding : Riding R) (carrying : Carrying K) (s : State R K) (c : ℕ) →
      MachineHolds riding carrying s →
      c < length s.cores → (q : List (Mail (Response R) K)) → (port_at carrying s.memory.ports c).responses.items ≡ q →
      not (is_nil q) ≡ true → Earns riding s (record s { memory = take_response_in q riding carrying s.memory c })
  responses_earn riding carrying s c h lc [] is some = absurd (cc)
  responses_earn riding carrying s c h lc (mail ∷ rest) is some =
      let p : Port R K = port_at carrying s.memory.ports c in
      let b : ℕ = response_block mail.item in
      let entry : Entry R = entry_at riding.fresh s.memory.home b in
      let made : ResponseAsMoved riding entry c mail.item = response_makes_step riding entry c mail.item in
      let answer : HomeAnswer R = answer_to_response riding.absorbed entry c mail.item in
      let debt_is : answer_debt answer.send answer.invalidate (length s.memory.ports) ≡ 0 =
      answer_debt_is answer (response_step entry.stage c (reply_of mail.item)) (length s.memory.ports) made.send
      made.invalidate
      ∙ response_debt entry.stage c (reply_of mail.item) (length s.memory.ports) in
      let base = base_responded (need_access (need s.image (core_at s.cores c)))
      (is_done (need s.image (core_at s.cores c))) riding
      (length s.cores) p rest in
      let owes : owed p ≡ owed (port_responded p rest) + 1 =
      let f : length p.responses.items ≡ length rest + 1 = ap length is ∙ omega arith in omega arith in
      home_earns riding carrying s c (port_responded p rest) answer b (carrying.joined s.memory.carry mail.carry)
      (entries_after_response riding s.memory.home c mail.item) 0 h lc debt_is (omega arith)

  response_earns : (riding : Riding R) (carrying : Carrying K) (s : State R K) (c : ℕ) (rider : R) →
      IsTrue (enabled riding carrying s (ResponseMove c)) →
      MachineHolds riding carrying s → Earns riding s (step riding carrying rider s (ResponseMove c))
  response_earns riding carrying s c rider e h =
      responses_earn riding carrying s c h (enabled_core riding carrying s (ResponseMove c) e h)
      (port_at carrying s.memory.ports c).responses.items refl
      (true_is _ (second_true (nat_lt c (length s.memory.ports))
      (can_at riding s.memory.home (port_at carrying s.memory.ports c) (TakeResponse c)) e))

  -- each step pays for itself
  pub earns : (riding : Riding R) (carrying : Carrying K) (s : State R K) (m : Move) (rider : R) →
      IsTrue (enabled riding carrying s m) →
      MachineHolds riding carrying s → Earns riding s (step riding carrying rider s m)
  earns riding carrying s (CoreMove c) rider e h = core_earns riding carrying s c rider e h
  earns riding carrying s (RequestMove c) rider e h = request_earns riding carrying s c rider e h
  earns riding carrying s (ResponseMove c) rider e h = response_earns riding carrying s c rider e h
  earns riding carrying s (MessageMove c) rider e h = message_earns riding carrying s c rider e h
