-- Whom a message under way is for: each is for one core's want, which waits until it is served. So no
-- link has more messages than there are cores.
use Rattle.std.proofs.Common.{◌≡◌, ◌≢◌, ◌∙◌, ap, refl, sym, subst, ℕ, ◌+◌, ◌<◌, ◌≤◌, ◌==◌, ◌%◌, Bool, true, false, not}
use Rattle.std.proofs.Common.{cond, ◌&&◌, List, [], ◌∷◌, length, suc}
use Rattle.std.proofs.Common.{arith, inl, inr, ◌⊎◌}
use Rattle.std.specs.Prelude.{slice_index_or}
use Rattle.std.proofs.lemmas.Bool.Decides.{nat_tests}
use Rattle.access_times.specs.Riding.{Riding, Carrying}
use Rattle.rtr_types.specs.declared.TheConstants.{CORES_MAX, LINES}
use Rattle.msi_cache.specs.declared.messages.Response.{Response}
use Rattle.msi_cache.specs.declared.messages.FromHome.{FromHome}
use Rattle.msi_cache.specs.Table.{Signal, is_transient}
use Rattle.msi_cache.specs.Lines.{line_for, empty_line}
use Rattle.msi_cache.specs.Messages.{response_block, block_of, signal, reply_of}
use Rattle.msi_directory.specs.declared.entry.Stage.{Stage}
use Rattle.msi_directory.specs.declared.entry.Stage.TheVariants.{Acks, Data}
use Rattle.msi_directory.specs.Blocks.{entry_at}
use Rattle.msi_protocol.specs.Block.{View}
use Rattle.msi_protocol.specs.Phases.{Stands, StageFits, Phase, picture, role, role_in, Role, Out, AckWaiter}
use Rattle.msi_protocol.specs.Phases.{GiveWaiter}
use Rattle.msi_protocol.specs.NextPhases.{owes}
use Rattle.msi_protocol.proofs.Quiet.{few_responses}
use Rattle.msi_memory.specs.declared.port.Mail.{Mail}
use Rattle.msi_memory.specs.declared.port.Port.{Port}
use Rattle.msi_memory.specs.Memories.{Memory, port_at}
use Rattle.msi_memory.specs.Waiting.{ends_wait}
use Rattle.msi_laws.specs.Sights.{replies_of, signals_of, cons_if}
use Rattle.msi_laws.specs.Holds.{MemoryHolds, port_view}
use Rattle.msi_laws.proofs.KindsShown.{blocks_hold}
use Rattle.msi_laws.proofs.PortsAndBlocks.{there, view_waits, stands_at}
use Rattle.msi_laws.proofs.Pigeons.{Item, owns, others, Apart, Free, Below, fewer_than_cores, at_most_cores}

-- how many of the messages end their receiver's own want, and how many don't
abbrev pub own_count : List Signal → ℕ
own_count [] = 0
own_count (m ∷ ms) = cond (ends_wait m) 1 0 + own_count ms

abbrev pub other_count : List Signal → ℕ
other_count [] = 0
other_count (m ∷ ms) = cond (not (ends_wait m)) 1 0 + other_count ms

-- the home is at work for the core, and has nothing for it yet
abbrev pub awaiting : Role → Bool
awaiting AckWaiter = true
awaiting (GiveWaiter s) = true
awaiting _ = false

-- the core for which the block is busy
abbrev pub requester_of : Stage → ℕ
requester_of (Acks awaited requester) = requester
requester_of (Data giver requester share) = requester
requester_of _ = 0

-- ---- what the phases say

pub phase_own_once : (p : Phase) → own_count (picture p).messages ≤ 1
phase_own_once p = grind arith

pub phase_other_once : (p : Phase) → other_count (picture p).messages ≤ 1
phase_other_once p = grind arith

pub phase_own : (p : Phase) → 1 ≤ own_count (picture p).messages → is_transient (picture p).line ≡ true
phase_own p e = grind arith

pub phase_other : (p : Phase) → 1 ≤ other_count (picture p).messages → owes (role_in p) ≡ true
phase_other p e = grind arith

pub phase_reply : (p : Phase) → 1 ≤ length (picture p).responses → owes (role_in p) ≡ true
phase_reply p e = grind arith

pub phase_asks : (p : Phase) → 1 ≤ length (picture p).requests →
    (is_transient (picture p).line ≡ true) × (own_count (picture p).messages ≡ 0)
    × (awaiting (role_in p) ≡ false)
phase_asks p e = (grind arith, grind arith, grind arith)

pub phase_awaits : (p : Phase) → awaiting (role_in p) ≡ true →
    (is_transient (picture p).line ≡ true) × ((picture p).messages ≡ [])
    × ((picture p).responses ≡ [])
phase_awaits p e = (grind arith, grind arith, grind arith)

-- where one owes, another waits
pub owing_for : (stage : Stage) (d : ℕ) → StageFits stage → owes (role stage d) ≡ true → (requester_of stage ≢ d)
    × (awaiting (role stage (requester_of stage)) ≡ true) × (requester_of stage < CORES_MAX)
owing_for stage d fits e = (
  λ (same : requester_of stage ≡ d). grind (arith, nat_tests),
  grind (arith, nat_tests),
  grind (arith, nat_tests),
)

pub awaiting_named : (r : Role) → awaiting r ≡ true → r ≢ Out
awaiting_named r e is = absurd (grind arith)

module _ {R K : Type 0} where
  -- ---- the messages on a link, by block and by whether each ends its receiver'm own want

  abbrev pub items_of : List (Mail (FromHome R) K) → List Item
  items_of [] = []
  items_of (mail ∷ rest) = record { block = block_of mail.item; own = ends_wait (signal mail.item) } ∷ items_of rest

  abbrev pub answers_of : List (Mail (Response R) K) → List Item
  answers_of [] = []
  answers_of (mail ∷ rest) = record { block = response_block mail.item; own = false } ∷ answers_of rest

  pub length-items : (xs : List (Mail (FromHome R) K)) → length (items_of xs) ≡ length xs
  length-items [] = refl
  length-items (x ∷ xs) = ap suc (length-items xs)

  pub length-answers : (xs : List (Mail (Response R) K)) → length (answers_of xs) ≡ length xs
  length-answers [] = refl
  length-answers (x ∷ xs) = ap suc (length-answers xs)

  pub owns_items : (b : ℕ) (xs : List (Mail (FromHome R) K)) → owns b (items_of xs) ≡ own_count (signals_of b xs)
  owns_items b [] = refl
  owns_items b (x ∷ xs) = one (ends_wait (signal x.item)) (block_of x.item == b) (owns_items b xs) refl
    where
      one : (t u : Bool) → owns b (items_of xs) ≡ own_count (signals_of b xs) → ends_wait (signal x.item) ≡ t →
          cond (t && u) 1 0 + owns b (items_of xs)
          ≡ own_count (cons_if u (signal x.item) (signals_of b xs))
      one true true ih e = rw e (omega arith)
      one false true ih e = rw e (omega arith)
      one true false ih e = omega arith
      one false false ih e = omega arith

  pub others_items : (b : ℕ) (xs : List (Mail (FromHome R) K)) → others b (items_of xs) ≡ other_count (signals_of b xs)
  others_items b [] = refl
  others_items b (x ∷ xs) = one (ends_wait (signal x.item)) (block_of x.item == b) (others_items b xs) refl
    where
      one : (t u : Bool) → others b (items_of xs) ≡ other_count (signals_of b xs) → ends_wait (signal x.item) ≡ t →
          cond (not t && u) 1 0 + others b (items_of xs)
          ≡ other_count (cons_if u (signal x.item) (signals_of b xs))
      one true true ih e = rw e (omega arith)
      one false true ih e = rw e (omega arith)
      one true false ih e = omega arith
      one false false ih e = omega arith

  pub owns_answers : (b : ℕ) (xs : List (Mail (Response R) K)) → owns b (answers_of xs) ≡ 0
  owns_answers b [] = refl
  owns_answers b (x ∷ xs) = let ih = owns_answers b xs in omega arith

  pub others_answers : (b : ℕ) (xs : List (Mail (Response R) K)) → others b (answers_of xs) ≡ length (replies_of b xs)
  others_answers b [] = refl
  others_answers b (x ∷ xs) = one (response_block x.item == b) (others_answers b xs)
    where
      one : (u : Bool) → others b (answers_of xs) ≡ length (replies_of b xs) → cond u 1 0 + others b (answers_of xs)
          ≡ length (cons_if u (reply_of x.item) (replies_of b xs))
      one true ih = omega arith
      one false ih = omega arith

  -- ---- wants

  -- the core waits for the block
  pub record Wants (riding : Riding R) (carrying : Carrying K) (m : Memory R K) (c b : ℕ) : Type 0 where
    pub core : c < length m.ports
    pub waits : is_transient (port_view riding b (port_at carrying m.ports c)).line ≡ true

  -- a core waits for one block
  pub wants_one : (riding : Riding R) (carrying : Carrying K) (m : Memory R K) → MemoryHolds riding carrying m →
      (c b e : ℕ) → Wants riding carrying m c b →
      Wants riding carrying m c e → b ≡ e
  wants_one riding carrying m h c b e p q =
      let n : Port R K = port_at carrying m.ports c in
      let holds = h.ports c p.core in
      let l = view_waits b (line_for riding.fresh n.cache b) p.waits in
      let k = view_waits e (line_for riding.fresh n.cache e) q.waits in
      sym l.0 ∙ (ap (λ (i : ℕ). (slice_index_or n.cache i (empty_line riding.fresh)).block) (holds.one_waits (b % LINES)
      (e % LINES) l.1 k.1) ∙ k.0)

  abbrev pub requester : Riding R → Memory R K → ℕ → ℕ
  requester riding m b = requester_of (entry_at riding.fresh m.home b).stage

  phase_line : (riding : Riding R) (b : ℕ) (n : Port R K) (stage : Stage) (d : ℕ)
      (st : Stands stage d (port_view riding b n)) →
      is_transient (picture st.phase).line ≡ true → is_transient (port_view riding b n).line ≡ true
  phase_line riding b n stage d st e = ap (λ (v : View). is_transient v.line) (sym st.view_is) ∙ e

  -- a core that owes an answer owes it to one that waits
  pub owed_to : (riding : Riding R) (carrying : Carrying K) (m : Memory R K) (d b : ℕ) → MemoryHolds riding carrying m →
      owes (role (entry_at riding.fresh m.home b).stage d) ≡ true →
      Wants riding carrying m (requester riding m b) b × (requester riding m b ≢ d)
      × (awaiting (role (entry_at riding.fresh m.home b).stage (requester riding m b)) ≡ true)
  owed_to riding carrying m d b h e =
      let block = blocks_hold riding carrying m h b in
      let stage : Stage = (entry_at riding.fresh m.home b).stage in
      let for_it = owing_for stage d block.fits e in
      let st = block.stands (requester riding m b) for_it.2 in
      let lt : requester riding m b < length m.ports =
      there riding carrying m.ports stage b (requester riding m b) st
      (awaiting_named (role stage (requester riding m b)) for_it.1) in (
        record {
          core = lt;
          waits = phase_line riding b (port_at carrying m.ports (requester riding m b)) stage (requester riding m b) st
              (phase_awaits st.phase (ap awaiting st.role_is ∙ for_it.1)).0;
        },
        for_it.0,
        for_it.1,
      )

  -- what the messages to a core, and its responses, are for
  pub own_wants : (riding : Riding R) (carrying : Carrying K) (m : Memory R K) (d b : ℕ) → d < length m.ports →
      MemoryHolds riding carrying m →
      1 ≤ owns b (items_of (port_at carrying m.ports d).messages.items) → Wants riding carrying m d b
  own_wants riding carrying m d b ld h e =
      let n : Port R K = port_at carrying m.ports d in
      let st = stands_at riding carrying m d b ld h in
      let same : owns b (items_of n.messages.items) ≡ own_count (picture st.phase).messages =
      owns_items b n.messages.items ∙ ap (λ (v : View). own_count v.messages) (sym st.view_is) in
      record {
        core = ld;
        waits = phase_line riding b n (entry_at riding.fresh m.home b).stage d st
            (phase_own st.phase (omega arith));
      }

  -- where a message to a core is for another, and where it responds, it owes
  pub others_owe : (riding : Riding R) (carrying : Carrying K) (m : Memory R K) (d b : ℕ) → d < length m.ports →
      MemoryHolds riding carrying m →
      (1 ≤ others b (items_of (port_at carrying m.ports d).messages.items))
      ⊎ (1 ≤ others b (answers_of (port_at carrying m.ports d).responses.items)) →
      owes (role (entry_at riding.fresh m.home b).stage d) ≡ true
  others_owe riding carrying m d b ld h e =
      let n : Port R K = port_at carrying m.ports d in
      let st = stands_at riding carrying m d b ld h in
      let sent : others b (items_of n.messages.items) ≡ other_count (picture st.phase).messages =
      others_items b n.messages.items ∙ ap (λ (v : View). other_count v.messages) (sym st.view_is) in
      let answered : others b (answers_of n.responses.items) ≡ length (picture st.phase).responses =
      others_answers b n.responses.items ∙ ap (λ (v : View). length v.responses) (sym st.view_is) in
      sym (ap owes st.role_is) ∙ elim e [
        | inl some ↦ phase_other st.phase (omega arith)
        | inr some ↦ phase_reply st.phase (omega arith)
      ]

  -- ---- how many there are

  messages_apart : (riding : Riding R) (carrying : Carrying K) (m : Memory R K) (d : ℕ) → d < length m.ports →
      MemoryHolds riding carrying m →
      Apart (requester riding m) d (Wants riding carrying m) (items_of (port_at carrying m.ports d).messages.items)
  messages_apart riding carrying m d ld h =
      record {
        once_own = λ b. let st = stands_at riding carrying m d b ld h in
            rw (owns_items b (port_at carrying m.ports d).messages.items)
            (subst (λ (v : View). own_count v.messages ≤ 1) st.view_is (phase_own_once st.phase));
        once_other = λ b. let st = stands_at riding carrying m d b ld h in
            rw (others_items b (port_at carrying m.ports d).messages.items)
            (subst (λ (v : View). other_count v.messages ≤ 1) st.view_is (phase_other_once st.phase));
        own = λ b e. own_wants riding carrying m d b ld h e;
        other = λ b e. (owed_to riding carrying m d b h (others_owe riding carrying m d b ld h (inl e))).0;
        not_own = λ b e. (owed_to riding carrying m d b h (others_owe riding carrying m d b ld h (inl e))).1;
      }

  messages_below : (riding : Riding R) (carrying : Carrying K) (m : Memory R K) (d : ℕ) → d < length m.ports →
      MemoryHolds riding carrying m →
      Below (requester riding m) d (length m.ports) (items_of (port_at carrying m.ports d).messages.items)
  messages_below riding carrying m d ld h =
      record {
        own = λ b e. ld;
        other = λ b e. (owed_to riding carrying m d b h (others_owe riding carrying m d b ld h (inl e))).0.core;
      }

  -- the messages to a core are at most as many as the cores
  pub messages_few : (riding : Riding R) (carrying : Carrying K) (m : Memory R K) (d : ℕ) → d < length m.ports →
      MemoryHolds riding carrying m →
      length (port_at carrying m.ports d).messages.items ≤ length m.ports
  messages_few riding carrying m d ld h =
      let few = at_most_cores (requester riding m) d (length m.ports) (Wants riding carrying m)
      (wants_one riding carrying m h)
      (items_of (port_at carrying m.ports d).messages.items) (messages_apart riding carrying m d ld h)
      (messages_below riding carrying m d ld h) in
      let long = length-items (port_at carrying m.ports d).messages.items in
      omega arith

  -- and fewer where there is a core for whose want none of them is
  pub messages_fewer : (riding : Riding R) (carrying : Carrying K) (m : Memory R K) (d who : ℕ) → d < length m.ports →
      who < length m.ports →
      MemoryHolds riding carrying m → Free (requester riding m) d who
      (items_of (port_at carrying m.ports d).messages.items) →
      length (port_at carrying m.ports d).messages.items < length m.ports
  messages_fewer riding carrying m d who ld lw h free =
      let lt = fewer_than_cores (requester riding m) d who (length m.ports) (Wants riding carrying m)
      (wants_one riding carrying m h)
      (items_of (port_at carrying m.ports d).messages.items) lw (messages_apart riding carrying m d ld h) free
      (messages_below riding carrying m d ld h) in
      let long = length-items (port_at carrying m.ports d).messages.items in
      omega arith

  -- the responses of a core are fewer than the cores, since none is for its own want
  pub answers_fewer : (riding : Riding R) (carrying : Carrying K) (m : Memory R K) (d : ℕ) → d < length m.ports →
      MemoryHolds riding carrying m →
      length (port_at carrying m.ports d).responses.items < length m.ports
  answers_fewer riding carrying m d ld h =
      let n : Port R K = port_at carrying m.ports d in
      let xs : List Item = answers_of n.responses.items in
      let apart : Apart (requester riding m) d (Wants riding carrying m) xs =
      record {
        once_own = λ b. let z = owns_answers b n.responses.items in omega arith;
        once_other = λ b. let st = stands_at riding carrying m d b ld h in
            rw (others_answers b n.responses.items) (subst (λ (v : View). length v.responses ≤ 1) st.view_is
            (few_responses st.phase));
        own = λ b e. absurd (let z = owns_answers b n.responses.items in omega arith);
        other = λ b e. (owed_to riding carrying m d b h (others_owe riding carrying m d b ld h (inr e))).0;
        not_own = λ b e. (owed_to riding carrying m d b h (others_owe riding carrying m d b ld h (inr e))).1;
      } in
      let free : Free (requester riding m) d d xs =
      record {
        own = λ b e. absurd (let z = owns_answers b n.responses.items in omega arith);
        other = λ b e. (owed_to riding carrying m d b h (others_owe riding carrying m d b ld h (inr e))).1;
      } in
      let lt = fewer_than_cores (requester riding m) d d (length m.ports) (Wants riding carrying m)
      (wants_one riding carrying m h) xs ld apart free
      (record {
        own = λ b e. ld;
        other = λ b e. (owed_to riding carrying m d b h (others_owe riding carrying m d b ld h (inr e))).0.core;
      }) in
      let long = length-answers n.responses.items in
      omega arith
