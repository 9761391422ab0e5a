-- The marks after a turn of the home.
use Rattle.std.proofs.Common.{◌≡◌, ◌≢◌, ◌∙◌, ◌⊎◌, inl, inr, refl, sym, ap, subst, ℕ, ◌<◌, ◌≤◌, ◌==◌, Bool, true, false}
use Rattle.std.proofs.Common.{List, [], ◌∷◌, ◌++◌, length, get_or}
use Rattle.std.specs.Prelude.{◌&&◌, ◌||◌, if◌then◌else◌, not, nat_lt, slice_set}
use Rattle.std.proofs.lemmas.Bool.{cases_eq, cases_lt}
use Rattle.std.proofs.lemmas.List.{get_or-set_other, get_or-set_same, get_or_past, length-set}
use Rattle.std.proofs.Math.ListN.{get_or-map}
use Rattle.std.proofs.Math.Seq.{map-set_same}
use Rattle.link_order.specs.Queue.{is_nil}
use Rattle.rtr_types.specs.CoreSets.{has}
use Rattle.rtr_types.specs.declared.core_set.CoreSet.{CoreSet}
use Rattle.rv_core.specs.Steps.{is_done}
use Rattle.rv_core.specs.declared.core_state.Need.{Need}
use Rattle.move_marks.specs.Kinds.{set_of}
use Rattle.move_marks.specs.declared.marks.MoveKind.{MoveKind}
use Rattle.move_marks.specs.declared.marks.MoveKind.TheVariants.{Own, Request, Response, FromHome}
use Rattle.move_marks.specs.declared.marks.MoveMarks.{MoveMarks}
use Rattle.move_marks.proofs.AnswerMarks.{below_is, eq_is, ne_is, past_is}
use Rattle.move_marks.proofs.TurnMarks.{each}
use Rattle.flat_state.specs.declared.block.HomeBlock.{HomeBlock}
use Rattle.flat_state.specs.declared.flat.Flat.{Flat}
use Rattle.flat_state.specs.declared.message_ring.Message.{Message}
use Rattle.flat_state.specs.declared.message_ring.Told.{Told}
use Rattle.flat_state.specs.declared.node.Node.{Node}
use Rattle.flat_state.specs.Shows.{home_at, no_node, node_at}
use Rattle.flat_home.specs.Tellings.{HasTurned, node_answered, node_served, tells, told_of, with_message}
use Rattle.flat_home.specs.declared.tellings.HomeTurn.{HomeTurn}
use Rattle.flat_laws.specs.Marks.{node_waits, own_mark, request_mark}
use Rattle.flat_laws.proofs.Followed.{marks_follow}
use Rattle.flat_marks.specs.Kept.{HasAsker, IsMarked, is_free_held}
use Rattle.flat_marks.proofs.AskMarks.{asker_free}
use Rattle.flat_marks.proofs.NodeMarks.{and_false as and_none, request_is}

-- ---- a node that is told of a turn

told_same : {X : Type 0} (g : Node → X) (hears : Bool) (place : ℕ) (told : Told) (n : Node) →
    g (record n { messages = n.messages ++ record { place = place; told = told } ∷ [] }) ≡ g n →
    g (with_message hears place told n) ≡ g n
told_same g true place told n same = same
told_same g false place told n same = refl

some_after : (messages : List Message) (m : Message) → is_nil (messages ++ m ∷ []) ≡ false
some_after [] m = refl
some_after (x ∷ xs) m = refl

or_true : (t : Bool) → (t || true) ≡ true
or_true true = refl
or_true false = refl

or_false : (t : Bool) → (t || false) ≡ t
or_false true = refl
or_false false = refl

told_messages : (hears : Bool) (place : ℕ) (told : Told) (n : Node) →
    not (is_nil (with_message hears place told n).messages) ≡ (not (is_nil n.messages) || hears)
told_messages true place told n =
    ap not (some_after n.messages (record { place = place; told = told })) ∙ sym (or_true (not (is_nil n.messages)))
told_messages false place told n = sym (or_false (not (is_nil n.messages)))

-- what is read of each node, where one node of which the same is read took a node's place
set_same : {X : Type 0} (g : Node → X) (nodes : List Node) (c d : ℕ) (left : Node) → g left ≡ g (node_at nodes c) →
    g (node_at (slice_set nodes c left) d) ≡ g (node_at nodes d)
set_same {X} g nodes c d left same =
    sym (get_or-map g (slice_set nodes c left) d no_node)
    ∙ (ap (λ (l : List X). get_or l d (g no_node)) (map-set_same g nodes c left no_node same)
    ∙ get_or-map g nodes d no_node)

module _ (f f' : Flat) (c : ℕ) (left : Node) (turn : HomeTurn) (within : c < length f.nodes.items)
    (turned : HasTurned f f' c left turn) where
  abbrev hears : ℕ → Bool
  hears d = tells turn.telling d && nat_lt d (length f.nodes.items)

  abbrev nodes_left : List Node
  nodes_left = slice_set f.nodes.items c left

  and_true : (t : Bool) → t ≡ (t && true)
  and_true true = refl
  and_true false = refl

  and_false : (t : Bool) → (t && false) ≡ false
  and_false true = refl
  and_false false = refl

  -- each node, also where there is none
  node_now : (d : ℕ) → node_at f'.nodes.items d
      ≡ with_message (hears d) turn.place (told_of turn.telling) (node_at nodes_left d)
  node_now d = by (cases_lt d (length f.nodes.items))
    where
      by : (d < length f.nodes.items) ⊎ (length f.nodes.items ≤ d) → node_at f'.nodes.items d
          ≡ with_message (hears d) turn.place (told_of turn.telling) (node_at nodes_left d)
      by (inl lies) =
          turned.nodes d lies
          ∙ ap (λ (t : Bool). with_message t turn.place (told_of turn.telling) (node_at nodes_left d))
          (and_true (tells turn.telling d) ∙ ap (λ (t : Bool). tells turn.telling d && t)
          (sym (below_is d (length f.nodes.items) lies)))
      by (inr past) =
          get_or_past f'.nodes.items d no_node (subst (λ (k : ℕ). k ≤ d) (sym turned.long) past)
          ∙ (sym (get_or_past nodes_left d no_node
          (subst (λ (k : ℕ). k ≤ d) (sym (length-set f.nodes.items c left)) past))
          ∙ ap (λ (t : Bool). with_message t turn.place (told_of turn.telling) (node_at nodes_left d))
          (sym (ap (λ (t : Bool). tells turn.telling d && t) (past_is d (length f.nodes.items) past)
          ∙ and_false (tells turn.telling d))))

  -- what stays of each node, but perhaps for what was taken of core c's
  read_now : {X : Type 0} (g : Node → X) (d : ℕ) →
      g (record (node_at nodes_left d) {
        messages = (node_at nodes_left d).messages
            ++ record { place = turn.place; told = told_of turn.telling } ∷ [];
      }) ≡ g (node_at nodes_left d) →
      g (node_at f'.nodes.items d) ≡ g (node_at nodes_left d)
  read_now g d same = ap g (node_now d)
      ∙ told_same g (hears d) turn.place (told_of turn.telling) (node_at nodes_left d) same

  left_here : node_at nodes_left c ≡ left
  left_here = get_or-set_same f.nodes.items c left no_node within

  module _ (marks marks' : MoveMarks) (kept : IsMarked f marks) (need : left.need ≡ (node_at f.nodes.items c).need)
      (waits : node_waits left ≡ node_waits (node_at f.nodes.items c))
      (sent : left.messages ≡ (node_at f.nodes.items c).messages) where
    pub own_turned : ((d : ℕ) → has (set_of Own marks') d ≡ has (set_of Own marks) d) → (d : ℕ) →
        has (set_of Own marks') d ≡ (nat_lt d (length f'.nodes.items) && own_mark (node_at f'.nodes.items d))
    own_turned same d =
        same d ∙ (kept.own d
        ∙ (ap (λ (k : ℕ). nat_lt d k && own_mark (node_at f.nodes.items d)) (sym turned.long)
        ∙ ap (λ (t : Bool). nat_lt d (length f'.nodes.items) && t) (sym (read_now own_mark d refl
        ∙ set_same own_mark f.nodes.items c d left
        (ap (λ (w : Bool). not (is_done left.need) && not w) waits
        ∙ ap (λ (x : Need). not (is_done x) && not (node_waits (node_at f.nodes.items c))) need)))))

    pub messages_turned : ((d : ℕ) → has (set_of FromHome marks') d
        ≡ (has (set_of FromHome marks) d || (tells turn.telling d && nat_lt d (length f.nodes.items)))) → (d : ℕ) →
        has (set_of FromHome marks') d ≡ not (is_nil (node_at f'.nodes.items d).messages)
    messages_turned marked d =
        marked d
        ∙ (ap (λ (t : Bool). t || hears d) (kept.messages d
        ∙ sym (set_same (λ (n : Node). not (is_nil n.messages)) f.nodes.items c d left
        (ap (λ (l : List Message). not (is_nil l)) sent)))
        ∙ (sym (told_messages (hears d) turn.place (told_of turn.telling) (node_at nodes_left d))
        ∙ ap (λ (n : Node). not (is_nil n.messages)) (sym (node_now d))))

  -- who asks, and for what
  pub asks_now : (d : ℕ) → (node_at f'.nodes.items d).asks ≡ (node_at nodes_left d).asks
  asks_now d = read_now (λ (n : Node). n.asks) d refl

  pub place_now : (d : ℕ) → (node_at f'.nodes.items d).place ≡ (node_at nodes_left d).place
  place_now d = read_now (λ (n : Node). n.place) d refl

  pub replies_now : (d : ℕ) → not (is_nil (node_at f'.nodes.items d).replies)
      ≡ not (is_nil (node_at nodes_left d).replies)
  replies_now d = read_now (λ (n : Node). not (is_nil n.replies)) d refl

  -- The requests' marks, where before the marks of the askers of the block were changed they were those of the nodes
  -- without what was taken.
  pub requests_turned : (f2 : Flat) (marks marks' : MoveMarks) →
      f2.nodes.items ≡ f'.nodes.items →
      ((i : ℕ) → i ≢ turn.place → is_free_held (home_at f2.home.items i).held
      ≡ is_free_held (home_at f.home.items i).held) →
      ((d : ℕ) → has (home_at f2.home.items turn.place).askers d
      ≡ ((node_at nodes_left d).asks && ((node_at nodes_left d).place == turn.place))) →
      ((d : ℕ) → has (set_of Request marks) d ≡ request_mark f.home.items (node_at nodes_left d)) →
      ((d : ℕ) → has (set_of Request marks') d ≡ (if is_free_held (home_at f2.home.items turn.place).held
      then has (set_of Request marks) d || has (home_at f2.home.items turn.place).askers d
      else has (set_of Request marks) d && not (has (home_at f2.home.items turn.place).askers d))) →
      (d : ℕ) → has (set_of Request marks') d ≡ request_mark f2.home.items (node_at f2.nodes.items d)
  requests_turned f2 marks marks' nodes others asker before marked d =
      marked d
      ∙ (marks_follow (has (set_of Request marks) d) (has (home_at f2.home.items turn.place).askers d) m.asks
      (m.place == turn.place) (is_free_held (home_at f.home.items turn.place).held)
      (is_free_held (home_at f2.home.items turn.place).held) (is_free_held (home_at f.home.items m.place).held)
      (asker d) (before d ∙ (request_is f.home.items m
      ∙ ap (λ (t : Bool). m.asks && t) (was (cases_eq m.place turn.place))))
      ∙ (ap (λ (t : Bool). m.asks && t) (sym (is (cases_eq m.place turn.place)))
      ∙ (sym (request_is f2.home.items m)
      ∙ (by_fields (node_at f2.nodes.items d)
      (sym (ap (λ (l : List Node). (node_at l d).asks) nodes ∙ asks_now d))
      (sym (ap (λ (l : List Node). (node_at l d).place) nodes ∙ place_now d))))))
    where
      m : Node
      m = node_at (slice_set f.nodes.items c left) d

      was : (m.place ≡ turn.place) ⊎ (m.place ≢ turn.place) → is_free_held (home_at f.home.items m.place).held
          ≡ (if m.place == turn.place then is_free_held (home_at f.home.items turn.place).held
          else is_free_held (home_at f.home.items m.place).held)
      was (inl same) =
          ap (λ (p : ℕ). is_free_held (home_at f.home.items p).held) same
          ∙ ap (λ (t : Bool). if t then is_free_held (home_at f.home.items turn.place).held
          else is_free_held (home_at f.home.items m.place).held) (sym (eq_is m.place turn.place same))
      was (inr apart) =
          ap (λ (t : Bool). if t then is_free_held (home_at f.home.items turn.place).held
          else is_free_held (home_at f.home.items m.place).held) (sym (ne_is m.place turn.place apart))

      is : (m.place ≡ turn.place) ⊎ (m.place ≢ turn.place) → is_free_held (home_at f2.home.items m.place).held
          ≡ (if m.place == turn.place then is_free_held (home_at f2.home.items turn.place).held
          else is_free_held (home_at f.home.items m.place).held)
      is (inl same) =
          ap (λ (p : ℕ). is_free_held (home_at f2.home.items p).held) same
          ∙ ap (λ (t : Bool). if t then is_free_held (home_at f2.home.items turn.place).held
          else is_free_held (home_at f.home.items m.place).held) (sym (eq_is m.place turn.place same))
      is (inr apart) =
          others m.place apart
          ∙ ap (λ (t : Bool). if t then is_free_held (home_at f2.home.items turn.place).held
          else is_free_held (home_at f.home.items m.place).held) (sym (ne_is m.place turn.place apart))

      by_fields : (n : Node) → m.asks ≡ n.asks → m.place ≡ n.place →
          request_mark f2.home.items m ≡ request_mark f2.home.items n
      by_fields n asks place =
          request_is f2.home.items m
          ∙ (ap (λ (t : Bool). t && is_free_held (home_at f2.home.items m.place).held) asks
          ∙ (ap (λ (p : ℕ). n.asks && is_free_held (home_at f2.home.items p).held) place
          ∙ sym (request_is f2.home.items n)))

-- ---- all marks

module _ (f f1 f2 : Flat) (c : ℕ) (left : Node) (turn : HomeTurn) (within : c < length f.nodes.items)
    (turned : HasTurned f f1 c left turn) (marks m1 m2 : MoveMarks) (kept : IsMarked f marks)
    (nodes : f2.nodes.items ≡ f1.nodes.items) (homes : length f2.home.items ≡ length f.home.items)
    (messages2 : (d : ℕ) → has (set_of FromHome m2) d
    ≡ (has (set_of FromHome m1) d || (tells turn.telling d && nat_lt d (length f2.nodes.items))))
    (requests2 : (d : ℕ) → has (set_of Request m2) d ≡ (if is_free_held (home_at f2.home.items turn.place).held
    then has (set_of Request m1) d || has (home_at f2.home.items turn.place).askers d
    else has (set_of Request m1) d && not (has (home_at f2.home.items turn.place).askers d)))
    (others2 : (k : MoveKind) (d : ℕ) → k ≢ FromHome → k ≢ Request
    → has (set_of k m2) d ≡ has (set_of k m1) d) where
  turn_marked : left.need ≡ (node_at f.nodes.items c).need →
      node_waits left ≡ node_waits (node_at f.nodes.items c) → left.messages ≡ (node_at f.nodes.items c).messages →
      ((i : ℕ) → i ≢ turn.place → is_free_held (home_at f2.home.items i).held
      ≡ is_free_held (home_at f.home.items i).held) →
      ((i d : ℕ) → i < length f.home.items → has (home_at f2.home.items i).askers d
      ≡ ((node_at (slice_set f.nodes.items c left) d).asks
      && ((node_at (slice_set f.nodes.items c left) d).place == i))) →
      ((d : ℕ) → has (set_of Request m1) d
      ≡ request_mark f.home.items (node_at (slice_set f.nodes.items c left) d)) →
      ((d : ℕ) → has (set_of Own m1) d ≡ has (set_of Own marks) d) →
      ((d : ℕ) → has (set_of FromHome m1) d ≡ has (set_of FromHome marks) d) →
      ((d : ℕ) → has (set_of Response m1) d ≡ not (is_nil (node_at f1.nodes.items d).replies)) → IsMarked f2 m2
  turn_marked need waits sent frees asker before own1 messages1 responses1 =
      record {
        own = λ d. own_turned f f1 c left turn within turned marks m2 kept need waits sent
            (λ e. others2 Own e (λ (x : Own ≡ FromHome). absurd (cc)) (λ (x : Own ≡ Request). absurd (cc)) ∙ own1 e) d
            ∙ ap (λ (l : List Node). nat_lt d (length l) && own_mark (node_at l d)) (sym nodes);
        requests = requests_turned f f1 c left turn within turned f2 m1 m2 nodes frees
            (λ d. asker turn.place d turned.lies) before requests2;
        responses = λ d. others2 Response d (λ (x : Response ≡ FromHome). absurd (cc))
            (λ (x : Response ≡ Request). absurd (cc))
            ∙ (responses1 d ∙ ap (λ (l : List Node). not (is_nil (node_at l d).replies)) (sym nodes));
        messages = λ d. messages_turned f f1 c left turn within turned marks m2 kept need waits sent
            (λ e. messages2 e ∙ (ap (λ (t : Bool). t || (tells turn.telling e && nat_lt e (length f2.nodes.items)))
            (messages1 e) ∙ ap (λ (k : ℕ). has (set_of FromHome marks) e || (tells turn.telling e && nat_lt e k))
            (ap length nodes ∙ turned.long))) d
            ∙ ap (λ (l : List Node). not (is_nil (node_at l d).messages)) (sym nodes);
        askers = λ i d lies. asker i d (subst (λ (k : ℕ). i < k) homes lies)
            ∙ by_fields i (sym (ap (λ (l : List Node). (node_at l d).asks) nodes
            ∙ asks_now f f1 c left turn within turned d))
            (sym (ap (λ (l : List Node). (node_at l d).place) nodes ∙ place_now f f1 c left turn within turned d));
      }
    where
      by_fields : {asks asks' : Bool} {place place' : ℕ} (i : ℕ) → asks ≡ asks' → place ≡ place' →
          (asks && (place == i)) ≡ (asks' && (place' == i))
      by_fields {asks} {asks'} {place} {place'} i a p =
          ap (λ (t : Bool). t && (place == i)) a ∙ ap (λ (k : ℕ). asks' && (k == i)) p

  -- the turn itself changed no askers
  askers_same : (i d : ℕ) → (i ≡ turn.place) ⊎ (i ≢ turn.place) → has (home_at f1.home.items i).askers d
      ≡ has (home_at f.home.items i).askers d
  askers_same i d (inl same) =
      ap (λ (k : ℕ). has (home_at f1.home.items k).askers d) same
      ∙ (ap (λ (set : CoreSet). has set d) turned.askers
      ∙ ap (λ (k : ℕ). has (home_at f.home.items k).askers d) (sym same))
  askers_same i d (inr apart) = ap (λ (b : HomeBlock). has b.askers d) (turned.others i apart)

  -- a request was taken
  pub served_marked : left ≡ node_served f c → turn.place ≡ (node_at f.nodes.items c).place →
      HasAsker f1 f2 c turn.place false → has (set_of Request m1) c ≡ false →
      ((k : MoveKind) (d : ℕ) → (k ≡ Request → d ≢ c) → has (set_of k m1) d ≡ has (set_of k marks) d) → IsMarked f2 m2
  served_marked is at changed this others =
      turn_marked (ap (λ (n : Node). n.need) is) (ap node_waits is) (ap (λ (n : Node). n.messages) is)
      (λ i apart. asker_free f1 f2 c turn.place false changed i
      ∙ ap (λ (b : HomeBlock). is_free_held b.held) (turned.others i apart))
      (λ i d lies. asker i d lies (cases_eq d c) (cases_eq i turn.place))
      (λ d. before d (cases_eq d c))
      (λ d. others Own d (λ (e : Own ≡ Request). absurd (cc)))
      (λ d. others FromHome d (λ (e : FromHome ≡ Request). absurd (cc)))
      (λ d. others Response d (λ (e : Response ≡ Request). absurd (cc)) ∙ (kept.responses d
      ∙ (sym (set_same (λ (n : Node). not (is_nil n.replies)) f.nodes.items c d left
      (ap (λ (n : Node). not (is_nil n.replies)) is)) ∙ sym (replies_now f f1 c left turn within turned d))))
    where
      nodes_left : List Node
      nodes_left = slice_set f.nodes.items c left

      left_asks : (node_at nodes_left c).asks ≡ false
      left_asks = ap (λ (n : Node). n.asks) (left_here f f1 c left turn within turned ∙ is)

      apart_left : (d : ℕ) → d ≢ c → node_at nodes_left d ≡ node_at f.nodes.items d
      apart_left d apart = get_or-set_other f.nodes.items c d left no_node apart

      before : (d : ℕ) → (d ≡ c) ⊎ (d ≢ c) → has (set_of Request m1) d
          ≡ request_mark f.home.items (node_at nodes_left d)
      before d (inl same) =
          ap (λ (k : ℕ). has (set_of Request m1) k) same
          ∙ (this ∙ (sym (request_is f.home.items (node_at nodes_left c)
          ∙ ap (λ (t : Bool). t && is_free_held (home_at f.home.items (node_at nodes_left c).place).held) left_asks)
          ∙ ap (λ (k : ℕ). request_mark f.home.items (node_at nodes_left k)) (sym same)))
      before d (inr apart) =
          others Request d (λ e. apart) ∙ (kept.requests d ∙ ap (request_mark f.home.items) (sym (apart_left d apart)))

      was : (i d : ℕ) → i < length f.home.items → (i ≡ turn.place → d ≢ c) →
          has (home_at f2.home.items i).askers d
          ≡ ((node_at f.nodes.items d).asks && ((node_at f.nodes.items d).place == i))
      was i d lies not_here = changed.others i d not_here ∙ (askers_same i d (cases_eq i turn.place)
          ∙ kept.askers i d lies)

      none : (i d : ℕ) → d ≡ c → false ≡ ((node_at nodes_left d).asks && ((node_at nodes_left d).place == i))
      none i d same =
          sym (ap (λ (k : ℕ). (node_at nodes_left k).asks && ((node_at nodes_left k).place == i)) same
          ∙ ap (λ (t : Bool). t && ((node_at nodes_left c).place == i)) left_asks)

      asker : (i d : ℕ) → i < length f.home.items → (d ≡ c) ⊎ (d ≢ c) → (i ≡ turn.place) ⊎ (i ≢ turn.place) →
          has (home_at f2.home.items i).askers d
          ≡ ((node_at nodes_left d).asks && ((node_at nodes_left d).place == i))
      asker i d lies (inr apart) place =
          was i d lies (λ e. apart) ∙ ap (λ (n : Node). n.asks && (n.place == i)) (sym (apart_left d apart))
      asker i d lies (inl same) (inl here) =
          ap (λ (k : ℕ). has (home_at f2.home.items k).askers d) here
          ∙ (ap (λ (k : ℕ). has (home_at f2.home.items turn.place).askers k) same
          ∙ (changed.this ∙ none i d same))
      asker i d lies (inl same) (inr there) =
          was i d lies (λ e. absurd (there e))
          ∙ (ap (λ (k : ℕ). (node_at f.nodes.items k).asks && ((node_at f.nodes.items k).place == i)) same
          ∙ (ap (λ (t : Bool). (node_at f.nodes.items c).asks && t)
          (ne_is (node_at f.nodes.items c).place i (λ e. there (sym e ∙ sym at)))
          ∙ (and_none (node_at f.nodes.items c).asks ∙ none i d same)))

  -- a response was taken
  pub received_marked : left ≡ node_answered f c → f2.home.items ≡ f1.home.items →
      has (set_of Response m1) c ≡ not (is_nil (node_at f1.nodes.items c).replies) →
      ((k : MoveKind) (d : ℕ) → (k ≡ Response → d ≢ c) → has (set_of k m1) d ≡ has (set_of k marks) d) →
      IsMarked f2 m2
  received_marked is home this others =
      turn_marked (ap (λ (n : Node). n.need) is) (ap node_waits is) (ap (λ (n : Node). n.messages) is)
      (λ i apart. ap (λ (l : List HomeBlock). is_free_held (home_at l i).held) home
      ∙ ap (λ (b : HomeBlock). is_free_held b.held) (turned.others i apart))
      (λ i d lies. ap (λ (l : List HomeBlock). has (home_at l i).askers d) home
      ∙ (askers_same i d (cases_eq i turn.place) ∙ (kept.askers i d lies
      ∙ sym (set_same (λ (n : Node). n.asks && (n.place == i)) f.nodes.items c d left
      (ap (λ (n : Node). n.asks && (n.place == i)) is)))))
      (λ d. others Request d (λ (e : Request ≡ Response). absurd (cc)) ∙ (kept.requests d
      ∙ sym (set_same (request_mark f.home.items) f.nodes.items c d left (ap (request_mark f.home.items) is))))
      (λ d. others Own d (λ (e : Own ≡ Response). absurd (cc)))
      (λ d. others FromHome d (λ (e : FromHome ≡ Response). absurd (cc)))
      (each (λ d. has (set_of Response m1) d) (λ d. not (is_nil (node_at f1.nodes.items d).replies)) c this
      (λ d apart. others Response d (λ e. apart) ∙ (kept.responses d
      ∙ (ap (λ (n : Node). not (is_nil n.replies))
      (sym (get_or-set_other f.nodes.items c d left no_node apart))
      ∙ sym (replies_now f f1 c left turn within turned d)))))
