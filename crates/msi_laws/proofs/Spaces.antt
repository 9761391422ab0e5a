-- No link that an act pushes to is full, and no link has more on it than it has room for.
use Rattle.std.proofs.Common.{◌≡◌, ◌∙◌, ap, refl, sym, subst, ℕ, ◌<◌, ◌≤◌, ◌==◌, ◌%◌, Bool, true, false, List, [], ◌∷◌}
use Rattle.std.proofs.Common.{length, Option, Some, None}
use Rattle.std.proofs.Common.{suc, arith, IsTrue, inl}
use Rattle.std.proofs.lemmas.Bool.{eq-eqb}
use Rattle.std.proofs.lemmas.Bool.Decides.{nat_tests}
use Rattle.access_times.specs.Riding.{Riding, Carrying}
use Rattle.rtr_types.specs.declared.core_set.CoreSet.{CoreSet}
use Rattle.rtr_types.specs.CoreSets.{has, no_cores}
use Rattle.rtr_types.proofs.Members.{has-no_cores}
use Rattle.rtr_types.specs.declared.TheConstants.{LINES}
use Rattle.msi_cache.specs.declared.messages.Request.{Request}
use Rattle.msi_cache.specs.declared.messages.Response.{Response}
use Rattle.msi_cache.specs.declared.messages.FromHome.{FromHome}
use Rattle.msi_cache.specs.Table.{Signal, Ask, Reply, is_transient}
use Rattle.msi_cache.specs.Lines.{line_for, waits}
use Rattle.msi_cache.specs.Messages.{request_block, response_block, signal, ask_of, reply_of}
use Rattle.msi_directory.specs.declared.entry.Entry.{Entry}
use Rattle.msi_directory.specs.declared.entry.Stage.{Stage}
use Rattle.msi_directory.specs.declared.entry.HomeAnswer.{HomeAnswer}
use Rattle.msi_directory.specs.Blocks.{entry_at}
use Rattle.msi_directory.specs.Entries.{answer_to_response}
use Rattle.msi_protocol.specs.Block.{View, has_reply_row, response_step}
use Rattle.msi_protocol.specs.Controllers.{kind_sent}
use Rattle.msi_protocol.specs.Phases.{StageFits, picture, role}
use Rattle.msi_protocol.proofs.Controllers.{response_makes_step}
use Rattle.msi_protocol.proofs.Quiet.{few_under_way}
use Rattle.msi_memory.specs.declared.port.Mail.{Mail}
use Rattle.msi_memory.specs.Memories.{Memory, port_at}
use Rattle.msi_memory.specs.Acts.{Act, Want, Touch, Retire, TakeRequest, TakeResponse, TakeMessage, can, head_free}
use Rattle.msi_memory.specs.Rests.{HasRoomFor, HasRoomTo, hears_in, request_answer_in, response_answer_in}
use Rattle.msi_laws.specs.Sights.{asks_of, cons_if}
use Rattle.msi_laws.specs.Holds.{MemoryHolds, port_view, block_in}
use Rattle.msi_laws.specs.Ready.{PortLinksHold}
use Rattle.msi_laws.proofs.KindsShown.{blocks_hold}
use Rattle.msi_laws.proofs.Lines.{waits_at}
use Rattle.msi_laws.proofs.PortsAndBlocks.{view_waits, core_below, response_asked, stands_at}
use Rattle.msi_laws.proofs.PortsKept.{there_of, can_of, can_want}
use Rattle.msi_laws.proofs.Pigeons.{owns, Free}
use Rattle.msi_laws.proofs.MessageWants.{items_of, owns_items, own_count, requester, Wants, wants_one, own_wants}
use Rattle.msi_laws.proofs.MessageWants.{others_owe, owed_to, messages_few}
use Rattle.msi_laws.proofs.MessageWants.{messages_fewer, answers_fewer, phase_asks, phase_awaits, awaiting}

-- the home answers a response where some core waits for that
response_awaits : (stage : Stage) (c : ℕ) (a : Reply) (to : ℕ) (g : Signal) → StageFits stage →
    has_reply_row stage c a ≡ true → (response_step stage c a).send
    ≡ Some (to, g) → awaiting (role stage to) ≡ true
response_awaits stage c a to g fits has_row is = grind (arith, nat_tests)

response_tells_none : (stage : Stage) (c : ℕ) (a : Reply) → (response_step stage c a).invalidate ≡ no_cores
response_tells_none stage c a = grind (arith, nat_tests)

longer : (t : Bool) (a : Ask) (xs : List Ask) → length xs ≤ length (cons_if t a xs)
longer true a xs = omega arith
longer false a xs = omega arith

module _ {R K : Type 0} where
  asked_more : (b : ℕ) (mail : Mail (Request R) K) (rest : List (Mail (Request R) K)) → request_block mail.item ≡ b →
      length (asks_of b (mail ∷ rest))
      ≡ suc (length (asks_of b rest))
  asked_more b mail rest at = ap (λ (t : Bool). length (cons_if t (ask_of mail.item) (asks_of b rest)))
      (ap (λ (x : ℕ). x == b) at ∙ eq-eqb b b refl)

  -- a core some request of which is under way waits for its block, and the home has not begun on it
  asked_waits : (riding : Riding R) (carrying : Carrying K) (m : Memory R K) (c b : ℕ) → MemoryHolds riding carrying m →
      c < length m.ports →
      1 ≤ length (asks_of b (port_at carrying m.ports c).requests.items) →
      Wants riding carrying m c b × (own_count (port_view riding b (port_at carrying m.ports c)).messages ≡ 0)
      × (awaiting (role (entry_at riding.fresh m.home b).stage c) ≡ false)
  asked_waits riding carrying m c b h lc asked =
      let st = stands_at riding carrying m c b lc h in
      let some : 1 ≤ length (picture st.phase).requests = subst (λ (v : View). 1 ≤ length v.requests) (sym st.view_is)
      asked in
      let p = phase_asks st.phase some in (
        record { core = lc; waits = ap (λ (v : View). is_transient v.line) (sym st.view_is) ∙ p.0 },
        ap (λ (v : View). own_count v.messages) (sym st.view_is)
            ∙ p.1,
        ap awaiting (sym st.role_is) ∙ p.2,
      )

  asked_head : (riding : Riding R) (carrying : Carrying K) (m : Memory R K) (c : ℕ) (mail : Mail (Request R) K)
      (rest : List (Mail (Request R) K)) →
      (port_at carrying m.ports c).requests.items ≡ mail ∷ rest →
      1 ≤ length (asks_of (request_block mail.item) (port_at carrying m.ports c).requests.items)
  asked_head riding carrying m c mail rest is = rw is (let e = asked_more (request_block mail.item) mail rest refl in
      omega arith)

  -- so it is with the block of the request that was sent first
  pub request_waits : (riding : Riding R) (carrying : Carrying K) (m : Memory R K) (c : ℕ) (mail : Mail (Request R) K)
      (rest : List (Mail (Request R) K)) →
      MemoryHolds riding carrying m → c < length m.ports → (port_at carrying m.ports c).requests.items ≡ mail ∷ rest →
      Wants riding carrying m c (request_block mail.item) × (own_count (port_view riding (request_block mail.item)
      (port_at carrying m.ports c)).messages ≡ 0)
      × (awaiting (role (entry_at riding.fresh m.home (request_block mail.item)).stage c) ≡ false)
  request_waits riding carrying m c mail rest h lc is =
      asked_waits riding carrying m c (request_block mail.item) h lc (asked_head riding carrying m c mail rest is)

  -- a core has one request under way
  one_request : (riding : Riding R) (carrying : Carrying K) (m : Memory R K) (c : ℕ) → MemoryHolds riding carrying m →
      c < length m.ports →
      length (port_at carrying m.ports c).requests.items ≤ 1
  one_request riding carrying m c h lc = by_items (port_at carrying m.ports c).requests.items refl
    where
      by_items : (q : List (Mail (Request R) K)) → (port_at carrying m.ports c).requests.items ≡ q → length q ≤ 1
      by_items [] is = omega arith
      by_items (mail ∷ []) is = omega arith
      by_items (mail ∷ next ∷ rest) is =
          let b : ℕ = request_block mail.item in
          let e : ℕ = request_block next.item in
          let second : length (asks_of e (next ∷ rest)) ≡ suc (length (asks_of e rest)) = asked_more e next rest refl in
          let more : length (asks_of e (next ∷ rest)) ≤ length (asks_of e (mail ∷ next ∷ rest)) =
          longer (request_block mail.item == e) (ask_of mail.item) (asks_of e (next ∷ rest)) in
          let wants = asked_waits riding carrying m c e h lc (rw is (omega arith)) in
          let same : b ≡ e = wants_one riding carrying m h c b e (request_waits riding carrying m c mail (next ∷ rest) h
          lc is).0 wants.0 in
          let both : length (asks_of e (mail ∷ next ∷ rest)) ≡ suc (length (asks_of e (next ∷ rest))) =
          asked_more e mail (next ∷ rest) same in
          let few : length (asks_of e (port_at carrying m.ports c).requests.items) ≤ 1 =
          (few_under_way (block_in riding carrying m e) (blocks_hold riding carrying m h e) c
          (core_below riding carrying m c h lc)).requests in
          let few_of : length (asks_of e (mail ∷ next ∷ rest)) ≤ 1 =
          subst (λ (q : List (Mail (Request R) K)). length (asks_of e q) ≤ 1) is few in
          absurd (omega arith)

  -- a core that asks has no message for its own want
  request_free : (riding : Riding R) (carrying : Carrying K) (m : Memory R K) (c : ℕ) (mail : Mail (Request R) K)
      (rest : List (Mail (Request R) K)) →
      MemoryHolds riding carrying m → c < length m.ports → (port_at carrying m.ports c).requests.items ≡ mail ∷ rest →
      (d : ℕ) → d < length m.ports →
      Free (requester riding m) d c (items_of (port_at carrying m.ports d).messages.items)
  request_free riding carrying m c mail rest h lc is d ld =
      let q = request_waits riding carrying m c mail rest h lc is in
      record {
        own = λ b e same.
            let here : 1 ≤ owns b (items_of (port_at carrying m.ports c).messages.items) =
            subst (λ (x : ℕ). 1 ≤ owns b (items_of (port_at carrying m.ports x).messages.items)) same e in
            let at : b ≡ request_block mail.item =
            wants_one riding carrying m h c b (request_block mail.item) (own_wants riding carrying m c b lc h here)
            q.0 in
            let none : owns b (items_of (port_at carrying m.ports c).messages.items) ≡ 0 =
            owns_items b (port_at carrying m.ports c).messages.items
            ∙ (ap (λ (x : ℕ). own_count (port_view riding x (port_at carrying m.ports c)).messages) at ∙ q.1) in
            absurd (omega arith);
        other = λ b e same.
            let owed = owed_to riding carrying m d b h (others_owe riding carrying m d b ld h (inl e)) in
            let at : b ≡ request_block mail.item =
            wants_one riding carrying m h c b (request_block mail.item) (subst (λ (x : ℕ). Wants riding carrying m x b)
            same owed.0) q.0 in
            let awaits : awaiting (role (entry_at riding.fresh m.home (request_block mail.item)).stage c) ≡ true =
            subst (λ (x : ℕ). awaiting (role (entry_at riding.fresh m.home (request_block mail.item)).stage x) ≡ true)
            same
            (subst (λ (x : ℕ). awaiting (role (entry_at riding.fresh m.home x).stage (requester riding m b)) ≡ true) at
            owed.2) in
            absurd (let f = q.2 in cc);
      }

  -- while a core'm request isn't taken, each core has room for a message
  request_room : (riding : Riding R) (carrying : Carrying K) (m : Memory R K) (c : ℕ) (answer : HomeAnswer R)
      (mail : Mail (Request R) K)
      (rest : List (Mail (Request R) K)) → MemoryHolds riding carrying m → c < length m.ports →
      (port_at carrying m.ports c).requests.items ≡ mail ∷ rest →
      HasRoomTo carrying answer m.ports
  request_room riding carrying m c answer mail rest h lc is d ld heard =
      let lt = messages_fewer riding carrying m d c ld lc h (request_free riding carrying m c mail rest h lc is d ld) in
      let room = (h.ports d ld).messages_room in
      let few = h.cores in
      omega arith

  -- a core that the home answers after a response has no message for its own want yet
  response_free : (riding : Riding R) (carrying : Carrying K) (m : Memory R K) (to b0 : ℕ) →
      MemoryHolds riding carrying m → to < length m.ports →
      awaiting (role (entry_at riding.fresh m.home b0).stage to) ≡ true →
      Free (requester riding m) to to (items_of (port_at carrying m.ports to).messages.items)
  response_free riding carrying m to b0 h lt awaits =
      let st = stands_at riding carrying m to b0 lt h in
      let p = phase_awaits st.phase (ap awaiting st.role_is ∙ awaits) in
      let wants : Wants riding carrying m to b0 = record {
        core = lt;
        waits =
            ap (λ (v : View). is_transient v.line) (sym st.view_is) ∙ p.0;
      } in
      let none : own_count (port_view riding b0 (port_at carrying m.ports to)).messages ≡ 0 =
      ap (λ (v : View). own_count v.messages) (sym st.view_is)
      ∙ ap own_count p.1 in
      record {
        own = λ b e.
            let at : b ≡ b0 = wants_one riding carrying m h to b b0 (own_wants riding carrying m to b lt h e) wants in
            let zero_it : owns b (items_of (port_at carrying m.ports to).messages.items) ≡ 0 =
            owns_items b (port_at carrying m.ports to).messages.items
            ∙ (ap (λ (x : ℕ). own_count (port_view riding x (port_at carrying m.ports to)).messages) at ∙ none) in
            absurd (omega arith);
        other = λ b e. (owed_to riding carrying m to b h (others_owe riding carrying m to b lt h (inl e))).1;
      }

  response_room : (riding : Riding R) (carrying : Carrying K) (m : Memory R K) (c : ℕ) (mail : Mail (Response R) K)
      (rest : List (Mail (Response R) K)) →
      MemoryHolds riding carrying m → c < length m.ports → (port_at carrying m.ports c).responses.items ≡ mail ∷ rest →
      HasRoomTo carrying (answer_to_response riding.absorbed (entry_at riding.fresh m.home (response_block mail.item)) c
      mail.item) m.ports
  response_room riding carrying m c mail rest h lc is d ld heard = by_send answer.send refl heard
    where
      entry : Entry R
      entry = entry_at riding.fresh m.home (response_block mail.item)

      answer : HomeAnswer R
      answer = answer_to_response riding.absorbed entry c mail.item

      -- what the home answers is what the step of one block says
      invalidates : answer.invalidate ≡ (response_step entry.stage c (reply_of mail.item)).invalidate
      invalidates = (response_makes_step riding entry c mail.item).invalidate

      sends : kind_sent answer.send ≡ (response_step entry.stage c (reply_of mail.item)).send
      sends = (response_makes_step riding entry c mail.item).send

      by_send : (o : Option (ℕ × FromHome R)) → answer.send ≡ o → hears_in o answer.invalidate d ≡ true →
          length (port_at carrying m.ports d).messages.items < (port_at carrying m.ports d).messages.room
      by_send None e f = absurd (let g : has answer.invalidate d
          ≡ false = ap (λ (set : CoreSet). has set d) (invalidates
          ∙ response_tells_none entry.stage c (reply_of mail.item)) ∙ has-no_cores d in cc)
      by_send (Some (to, g)) e f =
          let same : d ≡ to = grind (arith, nat_tests) in
          let sent : (response_step entry.stage c (reply_of mail.item)).send ≡ Some (to, signal g) = sym sends
          ∙ ap kind_sent e in
          let row : has_reply_row entry.stage c (reply_of mail.item) ≡ true =
          response_asked riding carrying m c mail rest h lc is in
          let awaits : awaiting (role entry.stage to) ≡ true =
          response_awaits entry.stage c (reply_of mail.item) to (signal g) (blocks_hold riding carrying m h
          (response_block mail.item)).fits row sent in
          let lt = messages_fewer riding carrying m d d ld ld h
          (response_free riding carrying m d (response_block mail.item) h ld
          (subst (λ (x : ℕ). awaiting (role entry.stage x) ≡ true) (sym same) awaits)) in
          let room = (h.ports d ld).messages_room in
          let few = h.cores in
          omega arith

  -- a core whose cache doesn't wait has no request under way
  pub no_requests : (riding : Riding R) (carrying : Carrying K) (m : Memory R K) (c : ℕ) →
      MemoryHolds riding carrying m → c < length m.ports →
      waits (port_at carrying m.ports c).cache ≡ false → (port_at carrying m.ports c).requests.items ≡ []
  no_requests riding carrying m c h lc none = by_items (port_at carrying m.ports c).requests.items refl
    where
      by_items : (q : List (Mail (Request R) K)) → (port_at carrying m.ports c).requests.items ≡ q → q ≡ []
      by_items [] is = refl
      by_items (mail ∷ rest) is =
          let w = request_waits riding carrying m c mail rest h lc is in
          let at = view_waits (request_block mail.item) (line_for riding.fresh (port_at carrying m.ports c).cache
          (request_block mail.item)) w.0.waits in
          absurd (let e = waits_at (port_at carrying m.ports c).cache riding.fresh (request_block mail.item % LINES)
          at.1 in cc)

  pub rooms_there : (riding : Riding R) (carrying : Carrying K) (m : Memory R K) → MemoryHolds riding carrying m →
      (act : Act R) →
      IsTrue (can riding carrying m act) → HasRoomFor riding carrying m act
  rooms_there riding carrying m h (Want c block kind) e =
      let lc = there_of riding carrying m (Want c block kind) e in
      let none = no_requests riding carrying m c h lc (can_want riding carrying m c block kind e).still in
      let room = (h.ports c lc).requests_room in
      rw (none, room) (omega arith)
  rooms_there riding carrying m h (Touch c block slot kind value rider) e = tt
  rooms_there riding carrying m h (Retire c at) e = tt
  rooms_there riding carrying m h (TakeRequest c) e =
      by_items (port_at carrying m.ports c).requests.items refl (there_of riding carrying m (TakeRequest c) e)
      (can_of riding carrying m (TakeRequest c) e)
    where
      by_items : (q : List (Mail (Request R) K)) → (port_at carrying m.ports c).requests.items ≡ q →
          c < length m.ports → head_free q riding m.home ≡ true →
          HasRoomTo carrying (request_answer_in q riding m c) m.ports
      by_items [] is lc free = absurd (cc)
      by_items (mail ∷ rest) is lc free = request_room riding carrying m c (request_answer_in (mail ∷ rest) riding m c)
          mail rest h lc is
  rooms_there riding carrying m h (TakeResponse c) e =
      by_items (port_at carrying m.ports c).responses.items refl (there_of riding carrying m (TakeResponse c) e)
    where
      by_items : (q : List (Mail (Response R) K)) → (port_at carrying m.ports c).responses.items ≡ q →
          c < length m.ports →
          HasRoomTo carrying (response_answer_in q riding m c) m.ports
      by_items [] is lc = λ d ld heard. absurd (let g = has-no_cores d in cc)
      by_items (mail ∷ rest) is lc = response_room riding carrying m c mail rest h lc is
  rooms_there riding carrying m h (TakeMessage c) e =
      let lc = there_of riding carrying m (TakeMessage c) e in
      let lt = answers_fewer riding carrying m c lc h in
      let room = (h.ports c lc).responses_room in
      let few = h.cores in
      rw room (omega arith)

  pub port_links_hold : (riding : Riding R) (carrying : Carrying K) (m : Memory R K) (c : ℕ) →
      MemoryHolds riding carrying m → c < length m.ports →
      PortLinksHold (port_at carrying m.ports c)
  port_links_hold riding carrying m c h lc =
      let holds = h.ports c lc in
      let few = h.cores in
      let one = one_request riding carrying m c h lc in
      let answers = answers_fewer riding carrying m c lc h in
      let messages = messages_few riding carrying m c lc h in
      record {
        requests = rw holds.requests_room one;
        responses = rw holds.responses_room (omega arith);
        messages = rw holds.messages_room (omega arith);
      }
