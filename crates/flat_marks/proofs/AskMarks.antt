-- A core is put among those that ask for a block: the flat state stands where it stood; and the marks after a core asked.
use Rattle.std.proofs.Common.{◌≡◌, ◌≢◌, ◌∙◌, ◌⊎◌, inl, inr, refl, sym, ap, subst, ℕ, ◌<◌, ◌==◌, Bool, true, false}
use Rattle.std.proofs.Common.{List, [], length, map, arith}
use Rattle.std.specs.Prelude.{◌&&◌, not, nat_lt, slice_set}
use Rattle.std.proofs.lemmas.Bool.{cases_eq}
use Rattle.std.proofs.lemmas.List.{length-map}
use Rattle.std.proofs.lemmas.List.{ext_get_or}
use Rattle.std.proofs.Math.ListN.{get_or-map}
use Rattle.access_times.specs.Riding.{none_riding, none_carrying}
use Rattle.link_order.specs.Queue.{is_nil}
use Rattle.rtr_types.specs.CoreSets.{has}
use Rattle.rtr_types.specs.declared.TheConstants.{LINES}
use Rattle.rv_core.specs.Steps.{is_done}
use Rattle.rv_core.specs.declared.core_state.Need.{Need}
use Rattle.msi_cache.specs.declared.line.State.{State as LineState}
use Rattle.msi_cache.specs.Table.{is_transient}
use Rattle.msi_directory.specs.Blocks.{entry_at}
use Rattle.msi_laws.proofs.Spaces.{no_requests}
use Rattle.msi_memory.specs.Memories.{port_at}
use Rattle.msi_memory.specs.declared.port.Mail.{Mail}
use Rattle.msi_cache.specs.declared.messages.Request.{Request as Asking}
use Rattle.msi_cache.specs.Lines.{waits}
use Rattle.move_marks.specs.Kinds.{set_of}
use Rattle.move_marks.specs.declared.marks.MoveKind.{MoveKind}
use Rattle.move_marks.specs.declared.marks.MoveKind.TheVariants.{Own, Request, Response, FromHome}
use Rattle.move_marks.specs.declared.marks.MoveMarks.{MoveMarks}
use Rattle.move_marks.proofs.AnswerMarks.{eq_is, ne_is}
use Rattle.move_marks.proofs.TurnMarks.{each}
use Rattle.msi_state.specs.States.{PlainState, core_at}
use Rattle.flat_state.specs.declared.block.Held.{Held}
use Rattle.flat_state.specs.declared.block.Held.TheVariants.{Unshared, Shared, Owned, Acks, ToShare, ToOwn}
use Rattle.flat_state.specs.declared.block.HomeBlock.{HomeBlock}
use Rattle.flat_state.specs.declared.flat.Flat.{Flat}
use Rattle.flat_state.specs.declared.node.Ask.{Ask}
use Rattle.flat_state.specs.declared.node.KeptLine.{KeptLine}
use Rattle.flat_state.specs.declared.node.Node.{Node}
use Rattle.flat_state.specs.Shows.{NodeShows, Stands, blocks_of, held_as, home_at}
use Rattle.flat_state.specs.Shows.{kept_requests, no_block, node_at, seen_request}
use Rattle.flat_state.proofs.HomeBlocks.{place_within}
use Rattle.flat_state.proofs.NodeReads.{own_node}
use Rattle.flat_cores.specs.Needs.{getting, leaving, node_asked}
use Rattle.flat_laws.proofs.MarkedMoves.{node_waits_is}
use Rattle.flat_laws.specs.Marks.{node_waits, own_mark, request_mark}
use Rattle.flat_marks.specs.Kept.{HasAsker, IsMarked, but_askers, is_free_held}
use Rattle.flat_marks.proofs.OneNode.{elsewhere, here, long, still_there}
use Rattle.flat_marks.proofs.NodeMarks.{and_false, own_still, request_is}
use Rattle.flat_marks.proofs.Waiting.{begun}

-- ---- askers alone

held_asked : (h : Held) (b : HomeBlock) → held_as h (but_askers b) ≡ held_as h b
held_asked Unshared b = refl
held_asked Shared b = refl
held_asked Owned b = refl
held_asked Acks b = refl
held_asked ToShare b = refl
held_asked ToOwn b = refl

held_same : (b b' : HomeBlock) → but_askers b' ≡ but_askers b → held_as b'.held b' ≡ held_as b.held b
held_same b b' same =
    sym (held_asked b'.held b')
    ∙ (ap (λ (x : HomeBlock). held_as x.held x) same ∙ held_asked b.held b)

module _ (f f' : Flat) (core place : ℕ) (asks : Bool) (changed : HasAsker f f' core place asks) where
  lies_too : (i : ℕ) → i < length f'.home.items → i < length f.home.items
  lies_too i lies = subst (λ (k : ℕ). i < k) changed.long lies

  lies_now : (i : ℕ) → i < length f.home.items → i < length f'.home.items
  lies_now i lies = subst (λ (k : ℕ). i < k) (sym changed.long) lies

  block_same : (i : ℕ) → (home_at f'.home.items i).block ≡ (home_at f.home.items i).block
  block_same i = ap (λ (b : HomeBlock). b.block) (changed.home i)

  pub asker_blocks : blocks_of f'.home.items ≡ blocks_of f.home.items
  asker_blocks =
      ext_get_or 0 (blocks_of f'.home.items) (blocks_of f.home.items)
      (length-map f'.home.items (λ (b : HomeBlock). b.block)
      ∙ (changed.long ∙ sym (length-map f.home.items (λ (b : HomeBlock). b.block))))
      (λ i lies. get_or-map (λ (b : HomeBlock). b.block) f'.home.items i no_block
      ∙ (block_same i ∙ sym (get_or-map (λ (b : HomeBlock). b.block) f.home.items i no_block)))

  pub asker_stands : (s : PlainState) (memory : ℕ → List ℕ) → Stands f s memory → Stands f' s memory
  asker_stands s memory stands =
      record {
        holds = stands.holds;
        shows = record {
          image = changed.program ∙ stands.shows.image;
          long = ap length changed.nodes ∙ stands.shows.long;
          nodes = λ c lies. subst (λ (bs : List ℕ). NodeShows s.image bs (node_at f'.nodes.items c)
              (core_at s.cores c) (port_at none_carrying s.memory.ports c)) (sym asker_blocks)
              (subst (λ (l : List Node). NodeShows s.image (blocks_of f.home.items) (node_at l c) (core_at s.cores c)
              (port_at none_carrying s.memory.ports c)) (sym changed.nodes) (stands.shows.nodes c lies));
          home = record {
            blocks = λ i lies. let old = stands.shows.home.blocks i (lies_too i lies) in record {
              stage = held_same (home_at f.home.items i) (home_at f'.home.items i) (changed.home i)
                  ∙ (old.stage ∙ ap (λ (b : ℕ). (entry_at tt s.memory.home b).stage) (sym (block_same i)));
              empty = λ free. ap (λ (b : HomeBlock). b.set) (changed.home i)
                  ∙ old.empty (sym (ap (λ (b : HomeBlock). b.held) (changed.home i)) ∙ free);
            };
            within = λ i lies. subst (λ (b : ℕ). b < length s.memory.home) (sym (block_same i))
                (stands.shows.home.within i (lies_too i lies));
            once = λ i j at_i at_j same. stands.shows.home.once i j (lies_too i at_i) (lies_too j at_j)
                (sym (block_same i) ∙ (same ∙ block_same j));
            others = λ b none. stands.shows.home.others b
                (λ i lies at. none i (lies_now i lies) (block_same i ∙ at));
          };
        };
        words = record {
          here = λ i lies. ap (λ (b : HomeBlock). b.words) (changed.home i)
              ∙ (stands.words.here i (lies_too i lies) ∙ ap memory (sym (block_same i)));
          others = λ b none. stands.words.others b (λ i lies at. none i (lies_now i lies) (block_same i ∙ at));
        };
        coherent = stands.coherent;
      }

  pub asker_free : (i : ℕ) → is_free_held (home_at f'.home.items i).held ≡ is_free_held (home_at f.home.items i).held
  asker_free i = ap (λ (b : HomeBlock). is_free_held b.held) (changed.home i)

-- ---- an ask

-- a core of which no line waits asks for nothing
no_request : (blocks : List ℕ) (asks : Bool) (ask : Ask) (place : ℕ)
    (items : List (Mail (Asking (Unit {0})) (Unit {0}))) → kept_requests blocks asks ask place ≡ map seen_request items →
    items ≡ [] → asks ≡ false
no_request blocks true ask place items same none =
    let e = same ∙ ap (λ (l : List (Mail (Asking (Unit {0})) (Unit {0}))). map seen_request l) none in absurd (cc)
no_request blocks false ask place items same none = refl

still_asks : (f : Flat) (s : PlainState) (memory : ℕ → List ℕ) (c : ℕ) → Stands f s memory →
    c < length f.nodes.items → node_waits (node_at f.nodes.items c) ≡ false → (node_at f.nodes.items c).asks ≡ false
still_asks f s memory c stands within still =
    let n = node_at f.nodes.items c in
    let own = own_node f s c stands.shows within in
    let there = subst (λ (k : ℕ). c < k) (stands.shows.long ∙ sym stands.holds.ports_there) within in
    no_request (blocks_of f.home.items) n.asks n.ask n.place (port_at none_carrying s.memory.ports c).requests.items
    own.requests
    (no_requests none_riding none_carrying s.memory c stands.holds.memory there
    (sym (node_waits_is n (port_at none_carrying s.memory.ports c) own.lines) ∙ still))

-- the place of what a node asks for is an entry's
pub asked_place : (f : Flat) (s : PlainState) (memory : ℕ → List ℕ) (c : ℕ) → Stands f s memory →
    c < length f.nodes.items → (node_at f.nodes.items c).asks ≡ true →
    (node_at f.nodes.items c).place < length f.home.items
asked_place f s memory c stands within asks =
    place_within f.home.items (node_at f.nodes.items c).place ((own_node f s c stands.shows within).asked asks)

module _ (f f1 f2 : Flat) (marks marks' : MoveMarks) (c i : ℕ) (line : KeptLine) (ask : Ask)
    (kept : IsMarked f marks) (within : c < length f.nodes.items)
    (can : has (set_of Own marks) c ≡ true) (lies : i < LINES) (waits : is_transient line.state ≡ true)
    (nodes : f1.nodes.items ≡ slice_set f.nodes.items c (node_asked (node_at f.nodes.items c) i line ask))
    (home : f1.home.items ≡ f.home.items)
    (changed : HasAsker f1 f2 c line.place true)
    (own : has (set_of Own marks') c ≡ false)
    (request : has (set_of Request marks') c ≡ is_free_held (home_at f2.home.items line.place).held)
    (others : (k : MoveKind) (d : ℕ) → (k ≡ Own → d ≢ c) → (k ≡ Request → d ≢ c)
    → has (set_of k marks') d ≡ has (set_of k marks) d) where
  abbrev asking : Node
  asking = node_asked (node_at f.nodes.items c) i line ask

  now : node_at f2.nodes.items c ≡ asking
  now = ap (λ (l : List Node). node_at l c) changed.nodes ∙ here f f1 c asking within nodes

  apart_now : (d : ℕ) → d ≢ c → node_at f2.nodes.items d ≡ node_at f.nodes.items d
  apart_now d apart = ap (λ (l : List Node). node_at l d) changed.nodes ∙ elsewhere f f1 c asking within nodes d apart

  long_now : length f2.nodes.items ≡ length f.nodes.items
  long_now = ap length changed.nodes ∙ long f f1 c asking within nodes

  free_now : (j : ℕ) → is_free_held (home_at f2.home.items j).held ≡ is_free_held (home_at f.home.items j).held
  free_now j = asker_free f1 f2 c line.place true changed j
      ∙ ap (λ (l : List HomeBlock). is_free_held (home_at l j).held) home

  request_same : (n : Node) → request_mark f2.home.items n ≡ request_mark f.home.items n
  request_same n = request_is f2.home.items n
      ∙ (ap (λ (t : Bool). n.asks && t) (free_now n.place) ∙ sym (request_is f.home.items n))

  other : (k : MoveKind) (d : ℕ) → d ≢ c → has (set_of k marks') d ≡ has (set_of k marks) d
  other k d apart = others k d (λ e. apart) (λ e. apart)

  -- whoever asks is among the askers of what it asks for
  asker_is : (s : PlainState) (memory : ℕ → List ℕ) → Stands f s memory → (j d : ℕ) → j < length f2.home.items →
      has (home_at f2.home.items j).askers d
      ≡ ((node_at f2.nodes.items d).asks && ((node_at f2.nodes.items d).place == j))
  asker_is s memory stands j d there = by (cases_eq d c)
    where
      there_too : j < length f.home.items
      there_too = subst (λ (k : ℕ). j < k) (changed.long ∙ ap length home) there

      before : (j ≡ line.place → d ≢ c) → has (home_at f2.home.items j).askers d
          ≡ ((node_at f.nodes.items d).asks && ((node_at f.nodes.items d).place == j))
      before not_here = changed.others j d not_here
          ∙ (ap (λ (l : List HomeBlock). has (home_at l j).askers d) home ∙ kept.askers j d there_too)

      by_place : d ≡ c → (j ≡ line.place) ⊎ (j ≢ line.place) → has (home_at f2.home.items j).askers c
          ≡ (line.place == j)
      by_place at (inl same) =
          ap (λ (k : ℕ). has (home_at f2.home.items k).askers c) same
          ∙ (changed.this ∙ sym (eq_is line.place j (sym same)))
      by_place at (inr apart) =
          ap (λ (k : ℕ). has (home_at f2.home.items j).askers k) (sym at)
          ∙ (before (λ e. absurd (apart e))
          ∙ (ap (λ (k : ℕ). (node_at f.nodes.items k).asks && ((node_at f.nodes.items k).place == j)) at
          ∙ (ap (λ (t : Bool). t && ((node_at f.nodes.items c).place == j))
          (still_asks f s memory c stands within (own_still f marks c kept can))
          ∙ sym (ne_is line.place j (λ e. apart (sym e))))))

      by : (d ≡ c) ⊎ (d ≢ c) → has (home_at f2.home.items j).askers d
          ≡ ((node_at f2.nodes.items d).asks && ((node_at f2.nodes.items d).place == j))
      by (inl at) =
          ap (λ (k : ℕ). has (home_at f2.home.items j).askers k) at
          ∙ (by_place at (cases_eq j line.place)
          ∙ (ap (λ (n : Node). n.asks && (n.place == j)) (sym now)
          ∙ ap (λ (k : ℕ). (node_at f2.nodes.items k).asks && ((node_at f2.nodes.items k).place == j)) (sym at)))
      by (inr apart) =
          before (λ e. apart) ∙ ap (λ (n : Node). n.asks && (n.place == j)) (sym (apart_now d apart))

  pub ask_marked : (s : PlainState) (memory : ℕ → List ℕ) → Stands f s memory → IsMarked f2 marks'
  ask_marked s memory stands =
      record {
        own = each (λ d. has (set_of Own marks') d)
            (λ d. nat_lt d (length f2.nodes.items) && own_mark (node_at f2.nodes.items d)) c
            (own ∙ sym (ap (λ (n : Node). nat_lt c (length f2.nodes.items) && own_mark n) now
            ∙ (ap (λ (t : Bool). nat_lt c (length f2.nodes.items) && (not (is_done asking.need) && not t))
            (begun f s memory c within stands i line lies waits)
            ∙ (ap (λ (t : Bool). nat_lt c (length f2.nodes.items) && t) (and_false (not (is_done asking.need)))
            ∙ and_false (nat_lt c (length f2.nodes.items))))))
            (λ d apart. other Own d apart ∙ (kept.own d
            ∙ (ap (λ (k : ℕ). nat_lt d k && own_mark (node_at f.nodes.items d)) (sym long_now)
            ∙ ap (λ (n : Node). nat_lt d (length f2.nodes.items) && own_mark n) (sym (apart_now d apart)))));
        requests = each (λ d. has (set_of Request marks') d)
            (λ d. request_mark f2.home.items (node_at f2.nodes.items d)) c
            (request ∙ (sym (request_is f2.home.items asking) ∙ ap (request_mark f2.home.items) (sym now)))
            (λ d apart. other Request d apart ∙ (kept.requests d
            ∙ (sym (request_same (node_at f.nodes.items d))
            ∙ ap (request_mark f2.home.items) (sym (apart_now d apart)))));
        responses = each (λ d. has (set_of Response marks') d)
            (λ d. not (is_nil (node_at f2.nodes.items d).replies)) c
            (others Response c (λ (e : Response ≡ Own). absurd (cc)) (λ (e : Response ≡ Request). absurd (cc))
            ∙ (kept.responses c ∙ ap (λ (n : Node). not (is_nil n.replies)) (sym now)))
            (λ d apart. other Response d apart ∙ (kept.responses d
            ∙ ap (λ (n : Node). not (is_nil n.replies)) (sym (apart_now d apart))));
        messages = each (λ d. has (set_of FromHome marks') d)
            (λ d. not (is_nil (node_at f2.nodes.items d).messages)) c
            (others FromHome c (λ (e : FromHome ≡ Own). absurd (cc)) (λ (e : FromHome ≡ Request). absurd (cc))
            ∙ (kept.messages c ∙ ap (λ (n : Node). not (is_nil n.messages)) (sym now)))
            (λ d apart. other FromHome d apart ∙ (kept.messages d
            ∙ ap (λ (n : Node). not (is_nil n.messages)) (sym (apart_now d apart))));
        askers = asker_is s memory stands;
      }

-- so it is where what was noted is read from the node
pub noted_marked : (f f1 f2 : Flat) (marks marks' : MoveMarks) (c i : ℕ) (line : KeptLine) (ask : Ask)
    (s : PlainState) (memory : ℕ → List ℕ) → IsMarked f marks → c < length f.nodes.items →
    has (set_of Own marks) c ≡ true → i < LINES → is_transient line.state ≡ true →
    f1.nodes.items ≡ slice_set f.nodes.items c (node_asked (node_at f.nodes.items c) i line ask) →
    f1.home.items ≡ f.home.items → HasAsker f1 f2 c (node_at f1.nodes.items c).place true →
    has (set_of Own marks') c ≡ false →
    has (set_of Request marks') c ≡ is_free_held (home_at f2.home.items (node_at f1.nodes.items c).place).held →
    ((k : MoveKind) (d : ℕ) → (k ≡ Own → d ≢ c) → (k ≡ Request → d ≢ c) →
    has (set_of k marks') d ≡ has (set_of k marks) d) → Stands f s memory → IsMarked f2 marks'
noted_marked f f1 f2 marks marks' c i line ask s memory kept within can lies waits nodes home changed own request
    others stands =
    let at : (node_at f1.nodes.items c).place ≡ line.place = ap (λ (n : Node). n.place)
    (here f f1 c (node_asked (node_at f.nodes.items c) i line ask) within nodes) in
    ask_marked f f1 f2 marks marks' c i line ask kept within can lies waits nodes home
    (subst (λ (p : ℕ). HasAsker f1 f2 c p true) at changed) own
    (request ∙ ap (λ (p : ℕ). is_free_held (home_at f2.home.items p).held) at) others s memory stands

-- and what it asks for then has an entry
pub noted_place : (f f1 : Flat) (c i : ℕ) (line : KeptLine) (ask : Ask) (s : PlainState) (memory : ℕ → List ℕ) →
    c < length f.nodes.items →
    f1.nodes.items ≡ slice_set f.nodes.items c (node_asked (node_at f.nodes.items c) i line ask) →
    Stands f1 s memory → (node_at f1.nodes.items c).place < length f1.home.items
noted_place f f1 c i line ask s memory within nodes stands =
    let asking = node_asked (node_at f.nodes.items c) i line ask in
    asked_place f1 s memory c stands (still_there f f1 c asking within nodes)
    (ap (λ (n : Node). n.asks) (here f f1 c asking within nodes))

-- a line waits once its block is asked for, and once its copy is given back
pub getting_waits : (x : Need) → is_transient (getting x) ≡ true
getting_waits x = grind arith

pub leaving_waits : (state : LineState) → is_transient (leaving state) ≡ true
leaving_waits state = grind arith
