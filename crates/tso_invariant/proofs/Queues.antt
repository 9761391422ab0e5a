-- The pending accesses of a core as they come and go. An access joins with the core's next count, and the oldest
-- leaves: both keep counts in order, and at most sixteen and four of them. Who asks still has an access to ask for.
use Rattle.std.proofs.Common.{◌≡◌, ◌∙◌, ap, refl, sym, subst, ℕ, ◌+◌, ◌<◌, ◌≤◌, nat_lt, Bool, true, false, cond, List}
use Rattle.std.proofs.Common.{[], ◌∷◌, ◌++◌, length}
use Rattle.std.proofs.Common.{arith, length-append}
use Rattle.std.specs.Prelude.{is_some}
use Rattle.std.specs.List.{list_all}
use Rattle.std.proofs.lemmas.Bool.{and_parts, ltb-true, lt-ltb}
use Rattle.std.proofs.lemmas.Bool.Decides.{nat_tests}
use Rattle.image_mem.specs.Contents.{Contents}
use Rattle.rv_core.specs.declared.core_state.Need.{Need}
use Rattle.rv_core.specs.declared.core_state.Need.TheVariants.{Local, Load, Store, Amo, Done}
use Rattle.rv_core.specs.Steps.{need, after, is_done}
use Rattle.rv_core.proofs.LawLemmas.{count_law, limit_law, number_law, room_law}
use Rattle.tso_state.specs.declared.pending.Pending.{Pending}
use Rattle.tso_state.specs.declared.pending.Pending.TheVariants.{Load as PendingLoad, Store as PendingStore}
use Rattle.tso_state.specs.declared.pending.Asker.{Asker}
use Rattle.tso_state.specs.declared.pending.Asker.TheVariants.{Nobody, Next, Head}
use Rattle.tso_state.specs.declared.pending.TheConstants.{PENDING_MAX, STORES_MAX}
use Rattle.tso_state.specs.Pending.{count_of, word_of, is_store, stores_in}
use Rattle.tso_state.specs.States.{BufferedCore}
use Rattle.tso_state.specs.Steps.{head_access, has_room, has_store_room, is_next}
use Rattle.tso_invariant.specs.Holds.{BufferedFits, QueueHolds, in_order, is_asking, may_ask, next_may_ask, wish_by}

-- ---- counts

in_order-push : (last : ℕ) (queue : List Pending) (x : Pending) (count : ℕ) → in_order last queue count ≡ true →
    count_of x ≡ count + 1 →
    in_order last (queue ++ x ∷ []) (count + 1) ≡ true
in_order-push last [] x count e is = grind (arith, nat_tests)
in_order-push last (p ∷ queue) x count e is =
    let parts = and_parts (nat_lt last (count_of p)) (in_order (count_of p) queue count) e in
    rw (parts.0, in_order-push (count_of p) queue x count parts.1 is) refl

in_order-more : (last : ℕ) (queue : List Pending) (count : ℕ) → in_order last queue count ≡ true →
    in_order last queue (count + 1) ≡ true
in_order-more last [] count e = grind (arith, nat_tests)
in_order-more last (p ∷ queue) count e =
    let parts = and_parts (nat_lt last (count_of p)) (in_order (count_of p) queue count) e in
    rw (parts.0, in_order-more (count_of p) queue count parts.1) refl

in_order-lower : (last lower : ℕ) (queue : List Pending) (count : ℕ) → lower ≤ last → in_order last queue count ≡ true →
    in_order lower queue count ≡ true
in_order-lower last lower [] count le e = grind (arith, nat_tests)
in_order-lower last lower (p ∷ queue) count le e =
    let parts = and_parts (nat_lt last (count_of p)) (in_order (count_of p) queue count) e in
    let first : nat_lt lower (count_of p) ≡ true = let lt = ltb-true last (count_of p) parts.0 in
    lt-ltb lower (count_of p) (omega arith) in
    rw (first, parts.1) refl

-- ---- stores

stores-push : (queue : List Pending) (x : Pending) →
    stores_in (queue ++ x ∷ []) ≡ stores_in queue + cond (is_store x) 1 0
stores-push [] (PendingLoad count word value) = refl
stores-push [] (PendingStore count word mask bits) = refl
stores-push (PendingLoad count word value ∷ queue) x = stores-push queue x
stores-push (PendingStore count word mask bits ∷ queue) x = let ih = stores-push queue x in omega arith

stores-pop : (x : Pending) (queue : List Pending) → stores_in queue ≤ stores_in (x ∷ queue)
stores-pop (PendingLoad count word value) queue = omega arith
stores-pop (PendingStore count word mask bits) queue = omega arith

all-push : (words : ℕ) (queue : List Pending) (x : Pending) → list_all (λ p. nat_lt (word_of p) words) queue ≡ true →
    word_of x < words →
    list_all (λ p. nat_lt (word_of p) words) (queue ++ x ∷ []) ≡ true
all-push words [] x e lt = rw (lt-ltb (word_of x) words lt) refl
all-push words (p ∷ queue) x e lt =
    let parts = and_parts (nat_lt (word_of p) words) (list_all (λ y. nat_lt (word_of y) words) queue) e in
    rw (parts.0, all-push words queue x parts.1 lt) refl

-- ---- the queue

-- what the queue must have room for
abbrev pub room_for : Pending → List Pending → Bool
room_for (PendingLoad count word value) queue = has_room queue
room_for (PendingStore count word mask bits) queue = has_store_room queue

room_few : (x : Pending) (queue : List Pending) → room_for x queue ≡ true → length queue < PENDING_MAX
room_few (PendingLoad count word value) queue e = ltb-true (length queue) PENDING_MAX e
room_few (PendingStore count word mask bits) queue e =
    ltb-true (length queue) PENDING_MAX (and_parts (has_room queue) (nat_lt (stores_in queue) STORES_MAX) e).0

room_stores : (x : Pending) (queue : List Pending) → room_for x queue ≡ true → stores_in queue ≤ STORES_MAX →
    stores_in queue + cond (is_store x) 1 0 ≤ STORES_MAX
room_stores (PendingLoad count word value) queue e le = omega arith
room_stores (PendingStore count word mask bits) queue e le =
    let lt = ltb-true (stores_in queue) STORES_MAX
    (and_parts (has_room queue) (nat_lt (stores_in queue) STORES_MAX) e).1 in omega arith

pub queue_pushed : (words count : ℕ) (queue : List Pending) (x : Pending) → QueueHolds words count queue →
    room_for x queue ≡ true →
    count_of x ≡ count + 1 → word_of x < words → QueueHolds words (count + 1) (queue ++ x ∷ [])
queue_pushed words count queue x h room is within =
    record {
      few = let lt = room_few x queue room in let e = length-append queue (x ∷ []) in omega arith;
      few_stores = let le = room_stores x queue room h.few_stores in let e = stores-push queue x in omega arith;
      within = all-push words queue x h.within within;
      ordered = in_order-push 0 queue x count h.ordered is;
    }

pub queue_executed : (words count : ℕ) (queue : List Pending) → QueueHolds words count queue →
    QueueHolds words (count + 1) queue
queue_executed words count queue h =
    record {
      few = h.few;
      few_stores = h.few_stores;
      within = h.within;
      ordered =
          in_order-more 0 queue count h.ordered;
    }

pub queue_popped : (words count : ℕ) (x : Pending) (rest : List Pending) → QueueHolds words count (x ∷ rest) →
    QueueHolds words count rest
queue_popped words count x rest h =
    record {
      few = let le = h.few in omega arith;
      few_stores = let le = h.few_stores in let e = stores-pop x rest in omega arith;
      within = (and_parts (nat_lt (word_of x) words) (list_all (λ y. nat_lt (word_of y) words) rest) h.within).1;
      ordered = in_order-lower (count_of x) 0 rest count (omega arith)
          (and_parts (nat_lt 0 (count_of x)) (in_order (count_of x) rest count) h.ordered).1;
    }

-- the oldest is within the memory
pub head_within : (words count : ℕ) (x : Pending) (rest : List Pending) → QueueHolds words count (x ∷ rest) →
    word_of x < words
head_within words count x rest h =
    ltb-true (word_of x) words (and_parts (nat_lt (word_of x) words)
    (list_all (λ y. nat_lt (word_of y) words) rest) h.within).0

-- ---- who asks

-- where the next instruction doesn't ask, it may be any
pub asks_past : (a : Asker) (n m : Need) (queue : List Pending) → is_next a ≡ false → may_ask a n queue ≡ true →
    may_ask a m queue ≡ true
asks_past Nobody n m queue e f = refl
asks_past Next n m queue e f = absurd (cc)
asks_past Head n m queue e f = f

pub wish_past : (a : Asker) (n m : Need) (queue : List Pending) → is_next a ≡ false →
    wish_by a n queue ≡ wish_by a m queue
wish_past Nobody n m queue e = refl
wish_past Next n m queue e = absurd (cc)
wish_past Head n m queue e = refl

head-push : (queue xs : List Pending) → is_some (head_access queue) ≡ true →
    head_access (queue ++ xs) ≡ head_access queue
head-push [] xs e = absurd (cc)
head-push (PendingLoad count word value ∷ queue) xs e = refl
head-push (PendingStore count word mask bits ∷ queue) xs e = refl

pub wish_pushed : (a : Asker) (n m : Need) (queue xs : List Pending) → is_next a ≡ false → may_ask a n queue ≡ true →
    wish_by a m (queue ++ xs) ≡ wish_by a n queue
wish_pushed Nobody n m queue xs e f = refl
wish_pushed Next n m queue xs e f = absurd (cc)
wish_pushed Head n m queue xs e f = head-push queue xs f

pub asks_pushed : (a : Asker) (n m : Need) (queue xs : List Pending) → is_next a ≡ false → may_ask a n queue ≡ true →
    may_ask a m (queue ++ xs) ≡ true
asks_pushed Nobody n m queue xs e f = refl
asks_pushed Next n m queue xs e f = absurd (cc)
asks_pushed Head n m queue xs e f = ap is_some (head-push queue xs f) ∙ f

abbrev pub is_head : Asker → Bool
is_head Head = true
is_head _ = false

pub wish_popped : (a : Asker) (n : Need) (x : Pending) (rest : List Pending) → is_head a ≡ false →
    wish_by a n rest ≡ wish_by a n (x ∷ rest)
wish_popped Nobody n x rest e = refl
wish_popped Next n x rest e = refl
wish_popped Head n x rest e = absurd (cc)

next-pop : (n : Need) (x : Pending) (rest : List Pending) → next_may_ask n (x ∷ rest) ≡ true →
    next_may_ask n rest ≡ true
next-pop Local x rest f = absurd (cc)
next-pop (Load word) x rest f = let lt = ltb-true (length (x ∷ rest)) PENDING_MAX f in
    lt-ltb (length rest) PENDING_MAX (omega arith)
next-pop (Store word whole) x rest f = absurd (cc)
next-pop (Amo word) x rest f = absurd (cc)
next-pop (Done stop) x rest f = absurd (cc)

pub asks_popped : (a : Asker) (n : Need) (x : Pending) (rest : List Pending) → is_head a ≡ false →
    may_ask a n (x ∷ rest) ≡ true → may_ask a n rest ≡ true
asks_popped Nobody n x rest e f = refl
asks_popped Next n x rest e f = next-pop n x rest f
asks_popped Head n x rest e f = absurd (cc)

-- with an empty queue, where the next instruction doesn't ask, nobody does
pub nobody_asks : (a : Asker) (n : Need) → is_next a ≡ false → may_ask a n [] ≡ true → a ≡ Nobody
nobody_asks Nobody n e f = refl
nobody_asks Next n e f = absurd (cc)
nobody_asks Head n e f = absurd (cc)

-- a head load doesn't ask
pub load_asks_not : (a : Asker) (n : Need) (count word value : ℕ) (rest : List Pending) →
    may_ask a n (PendingLoad count word value ∷ rest) ≡ true →
    is_head a ≡ false
load_asks_not Nobody n count word value rest f = refl
load_asks_not Next n count word value rest f = refl
load_asks_not Head n count word value rest f = absurd (cc)

-- nobody asks at a port that doesn't wait
pub still_nobody : (a : Asker) → false ≡ is_asking a → a ≡ Nobody
still_nobody Nobody e = refl
still_nobody Next e = absurd (cc)
still_nobody Head e = absurd (cc)

-- ---- the core

-- an instruction executes, and the queue stays
pub fits_executed : (image : Contents) (c : ℕ) (t : BufferedCore) (v : ℕ) (a : Asker) →
    is_done (need image t.core) ≡ false → BufferedFits image c t →
    may_ask a (need image (after image t.core v)) t.queue ≡ true →
    BufferedFits image c (record { core = after image t.core v; queue = t.queue; asker = a })
fits_executed image c t v a more h asks =
    record {
      number = number_law image t.core v ∙ h.number;
      count_fits = let room = room_law image t.core more in rw (count_law image t.core v, limit_law image t.core v)
          (omega arith);
      limit_fits = rw (limit_law image t.core v) h.limit_fits;
      queue = subst (λ (n : ℕ). QueueHolds image.words n t.queue) (sym (count_law image t.core v))
          (queue_executed image.words t.core.count t.queue h.queue);
      asks = asks;
    }

-- it executes and joins the queue
pub fits_pushed : (image : Contents) (c : ℕ) (t : BufferedCore) (v : ℕ) (x : Pending) (a : Asker) →
    is_done (need image t.core) ≡ false →
    BufferedFits image c t → room_for x t.queue ≡ true → count_of x ≡ t.core.count + 1 → word_of x < image.words →
    may_ask a (need image (after image t.core v)) (t.queue ++ x ∷ []) ≡ true →
    BufferedFits image c (record { core = after image t.core v; queue = t.queue ++ x ∷ []; asker = a })
fits_pushed image c t v x a more h room is within asks =
    record {
      number = number_law image t.core v ∙ h.number;
      count_fits = let r = room_law image t.core more in rw (count_law image t.core v, limit_law image t.core v)
          (omega arith);
      limit_fits = rw (limit_law image t.core v) h.limit_fits;
      queue = subst (λ (n : ℕ). QueueHolds image.words n (t.queue ++ x ∷ [])) (sym (count_law image t.core v))
          (queue_pushed image.words t.core.count t.queue x h.queue room is within);
      asks = asks;
    }

-- the oldest leaves the queue
pub fits_popped : (image : Contents) (c : ℕ) (t : BufferedCore) (x : Pending) (rest : List Pending) (a : Asker) →
    BufferedFits image c t →
    t.queue ≡ x ∷ rest → may_ask a (need image t.core) rest ≡ true →
    BufferedFits image c (record { core = t.core; queue = rest; asker = a })
fits_popped image c t x rest a h is asks =
    record {
      number = h.number;
      count_fits = h.count_fits;
      limit_fits = h.limit_fits;
      queue = queue_popped image.words t.core.count x rest
          (subst (λ (q : List Pending). QueueHolds image.words t.core.count q) is h.queue);
      asks = asks;
    }

-- for somebody else's access
pub fits_asking : (image : Contents) (c : ℕ) (t : BufferedCore) (a : Asker) → BufferedFits image c t →
    may_ask a (need image t.core) t.queue ≡ true →
    BufferedFits image c (record { core = t.core; queue = t.queue; asker = a })
fits_asking image c t a h asks =
    record { number = h.number; count_fits = h.count_fits; limit_fits = h.limit_fits; queue = h.queue; asks = asks }
