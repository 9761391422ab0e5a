-- The home's turns, all at once: a request or a response of core c is taken, whatever row it meets and whoever hears of
-- it. The node of core c is the one without it, each node that hears of it has one message more, and one block is
-- another.
use Rattle.std.proofs.Common.{◌≡◌, ◌∙◌, refl, sym, ap, ℕ, ◌<◌, ◌==◌, Bool, true, false, List, [], ◌∷◌, ◌++◌, length}
use Rattle.std.proofs.Common.{map, subst}
use Rattle.std.proofs.Common.{arith, Option, Some, None}
use Rattle.std.specs.Prelude.{◌&&◌, if◌then◌else◌, nat_lt, slice_set}
use Rattle.std.proofs.lemmas.Bool.Decides.{nat_tests}
use Rattle.std.proofs.lemmas.Bool.{and_from, lt-ltb}
use Rattle.std.proofs.lemmas.List.{length-set, map-append}
use Rattle.std.proofs.lemmas.List.Folds.{list_all-append}
use Rattle.access_times.specs.Riding.{Carrying, Riding}
use Rattle.image_mem.specs.Contents.{Contents}
use Rattle.rtr_types.specs.CoreSets.{has}
use Rattle.rv_core.specs.declared.core_state.Core.{Core}
use Rattle.msi_cache.specs.Messages.{block_of, signal}
use Rattle.msi_cache.specs.Table.{Signal}
use Rattle.msi_cache.specs.declared.messages.FromHome.{FromHome}
use Rattle.msi_cache.specs.declared.messages.FromHome.TheVariants.{Inv}
use Rattle.msi_directory.specs.declared.entry.HomeAnswer.{HomeAnswer}
use Rattle.msi_memory.specs.Acts.{delivered_in, port_sent}
use Rattle.msi_memory.specs.Memories.{port_at}
use Rattle.msi_memory.specs.Rests.{hears, hears_in}
use Rattle.msi_memory.specs.declared.port.Port.{Port}
use Rattle.msi_laws.proofs.HomeMessages.{Taken, after_taken}
use Rattle.msi_laws.proofs.Views.{port_at-sent, port_at-set, port_at-told}
use Rattle.msi_state.specs.States.{State, core_at}
use Rattle.flat_state.specs.declared.block.HomeBlock.{HomeBlock}
use Rattle.flat_state.specs.declared.flat.Flat.{Flat}
use Rattle.flat_state.specs.declared.message_ring.Message.{Message}
use Rattle.flat_state.specs.declared.node.Node.{Node}
use Rattle.flat_state.specs.Shows.{BlockShows, HomeShows, NodeShows, Shows, are_told_placed, block_at, blocks_of}
use Rattle.flat_state.specs.Shows.{home_at}
use Rattle.flat_state.specs.Shows.{kept_message, node_at, seen_message, told_as}
use Rattle.flat_state.proofs.Frames.{node_same}
use Rattle.flat_state.proofs.HomeBlocks.{blocks_same, home_set}

module _ {R : Type 0} where
  -- what is told to each: the one message that is sent, or else that its copy is to be given up
  abbrev pub told_message : Option (ℕ × FromHome R) → ℕ → FromHome R
  told_message (Some (to, m)) block = m
  told_message None block = Inv block

-- the node with one message more
abbrev pub node_told : Message → Node → Node
node_told kept n = record n { messages = n.messages ++ kept ∷ [] }

told_more : (blocks : List ℕ) (messages : List Message) (kept : Message) → kept.place < length blocks →
    are_told_placed blocks messages ≡ true → are_told_placed blocks (messages ++ kept ∷ []) ≡ true
told_more blocks messages kept lies are =
    list_all-append (λ (m : Message). nat_lt m.place (length blocks)) messages (kept ∷ [])
    ∙ and_from _ _ are (and_from _ _ (lt-ltb kept.place (length blocks) lies) refl)

module _ {R K : Type 0} where
  -- who hears the answer has one message more, and no other port is another
  pub port_delivered : (carrying : Carrying K) (send : Option (ℕ × FromHome R)) (answer : HomeAnswer R) (block : ℕ)
      (k : K) (ports : List (Port R K)) (d : ℕ) → d < length ports →
      ((to : ℕ) (m : FromHome R) → send ≡ Some (to, m) → to < length ports) →
      port_at carrying (delivered_in send carrying answer.invalidate block k ports) d
      ≡ (if hears_in send answer.invalidate d then port_sent (port_at carrying ports d) (told_message send block) k
      else port_at carrying ports d)
  port_delivered carrying (Some (to, m)) answer block k ports d within there =
      port_at-sent carrying ports to m k d (there to m refl)
  port_delivered carrying None answer block k ports d within there =
      port_at-told carrying answer.invalidate (Inv block) k (length ports) ports d (omega arith)
      ∙ ap (λ (t : Bool). if t && has answer.invalidate d then port_sent (port_at carrying ports d) (Inv block) k else
      port_at carrying ports d) (lt-ltb d (length ports) within)

  -- and so has its node
  node_hears : (image : Contents) (blocks : List ℕ) (n : Node) (core : Core) (p : Port R K) (kept : Message)
      (message : FromHome R) (k : K) → told_as kept.told ≡ signal message → kept.place < length blocks →
      block_at blocks kept.place ≡ block_of message → NodeShows image blocks n core p →
      NodeShows image blocks (node_told kept n) core (port_sent p message k)
  node_hears image blocks n core p kept message k kind lies block shows =
      record {
        core_is = shows.core_is;
        need = shows.need;
        op = shows.op;
        lines = shows.lines;
        requests = shows.requests;
        replies = shows.replies;
        messages = map-append (kept_message blocks) n.messages (kept ∷ [])
            ∙ (ap (λ (l : List (Signal × ℕ)). l ++ kept_message blocks kept ∷ []) shows.messages
            ∙ (ap (λ (x : Signal). map seen_message p.messages.items ++ (x, block_at blocks kept.place) ∷ []) kind
            ∙ (ap (λ (x : ℕ). map seen_message p.messages.items ++ (signal message, x) ∷ []) block
            ∙ sym (map-append seen_message p.messages.items (record { item = message; carry = k } ∷ [])))));
        placed = shows.placed;
        asked = shows.asked;
        replied = shows.replied;
        told = told_more blocks n.messages kept lies shows.told;
      }

  heard_by : (heard : Bool) (image : Contents) (blocks : List ℕ) (n : Node) (core : Core) (p : Port R K) (kept :
      Message)
      (message : FromHome R) (k : K) → told_as kept.told ≡ signal message → kept.place < length blocks →
      block_at blocks kept.place ≡ block_of message → NodeShows image blocks n core p →
      NodeShows image blocks (if heard then node_told kept n else n) core (if heard then port_sent p message k else p)
  heard_by true image blocks n core p kept message k kind lies block shows =
      node_hears image blocks n core p kept message k kind lies block shows
  heard_by false image blocks n core p kept message k kind lies block shows = shows

  left_by : (same : Bool) (image : Contents) (blocks : List ℕ) (n m : Node) (core : Core) (p q : Port R K) →
      (same ≡ true → NodeShows image blocks m core q) → NodeShows image blocks n core p →
      NodeShows image blocks (if same then m else n) core (if same then q else p)
  left_by true image blocks n m core p q left shows = left refl
  left_by false image blocks n m core p q left shows = shows

-- the node of core d: without what was taken, where it is core c's, and with one message more, where it hears of it
abbrev pub node_turned : (nodes : List Node) (c : ℕ) (left : Node) (kept : Message) (heard : Bool) (d : ℕ) → Node
node_turned nodes c left kept heard d =
    if heard then node_told kept (if d == c then left else node_at nodes d)
    else (if d == c then left else node_at nodes d)

module _ {R K : Type 0} where
  pub shows_taken : (riding : Riding R) (carrying : Carrying K) (f f' : Flat) (s : State R K) (c place : ℕ)
      (t : Taken R K) (left : Node) (b' : HomeBlock) (kept : Message) →
      c < length s.cores → length s.memory.ports ≡ length s.cores →
      f'.program ≡ f.program → length f'.nodes.items ≡ length f.nodes.items →
      place < length f.home.items → t.block ≡ (home_at f.home.items place).block →
      f'.home.items ≡ slice_set f.home.items place b' → b'.block ≡ (home_at f.home.items place).block →
      BlockShows b' t.entry →
      NodeShows s.image (blocks_of f.home.items) left (core_at s.cores c) t.left →
      ((d : ℕ) → d < length f.nodes.items → node_at f'.nodes.items d
      ≡ node_turned f.nodes.items c left kept (hears t.answer d) d) →
      told_as kept.told ≡ signal (told_message t.answer.send t.block) →
      kept.place < length (blocks_of f.home.items) →
      block_at (blocks_of f.home.items) kept.place ≡ block_of (told_message t.answer.send t.block) →
      ((to : ℕ) (m : FromHome R) → t.answer.send ≡ Some (to, m) → to < length s.memory.ports) →
      Shows riding carrying f s → Shows riding carrying f' (record s { memory = after_taken carrying s.memory c t })
  shows_taken riding carrying f f' s c place t left b' kept within ports program long lies at home same block_now
      node_now
      nodes kind kept_lies about there shows =
      record {
        image = program ∙ shows.image;
        long = long ∙ shows.long;
        nodes = λ d lies. at_node d lies;
        home = subst (λ (x : ℕ). HomeShows riding.fresh f'.home.items (slice_set s.memory.home x t.entry)) (sym at)
            (home_set riding.fresh f.home.items f'.home.items s.memory.home place b' t.entry lies home same block_now
            shows.home);
      }
    where
      ports_left : List (Port R K)
      ports_left = slice_set s.memory.ports c t.left

      inside : c < length s.memory.ports
      inside = subst (λ (n : ℕ). c < n) (sym ports) within

      is_core : (d : ℕ) → (d == c) ≡ true → d ≡ c
      is_core d e = grind (arith, nat_tests)

      at_node : (d : ℕ) → d < length s.cores →
          NodeShows s.image (blocks_of f'.home.items) (node_at f'.nodes.items d) (core_at s.cores d)
          (port_at carrying (after_taken carrying s.memory c t).ports d)
      at_node d lies =
          let port_is = port_delivered carrying t.answer.send t.answer t.block t.carry ports_left d
          (subst (λ (n : ℕ). d < n) (sym (length-set s.memory.ports c t.left ∙ ports)) lies)
          (λ to m is. subst (λ (n : ℕ). to < n) (sym (length-set s.memory.ports c t.left)) (there to m is)) in
          let left_is = port_at-set carrying s.memory.ports c t.left d inside in
          let before = left_by (d == c) s.image (blocks_of f.home.items) (node_at f.nodes.items d) left (core_at s.cores
          d)
          (port_at carrying s.memory.ports d) t.left
          (λ (e : (d == c) ≡ true). subst (λ (x : ℕ). NodeShows s.image (blocks_of f.home.items) left (core_at s.cores
          x)
          t.left) (sym (is_core d e)) node_now) (shows.nodes d lies) in
          node_same _ _ _ _ _ _ _ _ _ (blocks_same f.home.items f'.home.items place b' home same)
          (nodes d (subst (λ (n : ℕ). d < n) (sym shows.long) lies)) refl
          (port_is ∙ ap (λ (x : Port R K). if hears t.answer d then port_sent x (told_message t.answer.send t.block)
          t.carry else x) left_is)
          (heard_by (hears t.answer d) s.image (blocks_of f.home.items) _ (core_at s.cores d) _ kept
          (told_message t.answer.send t.block) t.carry kind kept_lies about before)
