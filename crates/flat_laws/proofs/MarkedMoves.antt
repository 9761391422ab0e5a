-- Which moves can be made, by the nodes and the home's blocks alone.
use Rattle.std.proofs.Common.{◌≡◌, ◌∙◌, refl, sym, ap, subst, ℕ, ◌<◌, Bool, true, false, List, [], ◌∷◌, length, map}
use Rattle.std.specs.Prelude.{◌&&◌, ◌||◌, not, nat_lt}
use Rattle.std.specs.List.{list_any}
use Rattle.std.proofs.lemmas.Bool.{lt-ltb}
use Rattle.access_times.specs.Riding.{none_riding, none_carrying}
use Rattle.link_order.specs.Queue.{is_nil}
use Rattle.rv_core.specs.Steps.{is_done, need}
use Rattle.rv_core.specs.declared.core_state.Need.{Need}
use Rattle.msi_cache.specs.Lines.{waits}
use Rattle.msi_cache.specs.Messages.{request_block}
use Rattle.msi_cache.specs.Table.{Ask as Asking, is_transient}
use Rattle.msi_cache.specs.declared.line.State.{State as LineState}
use Rattle.msi_cache.specs.declared.messages.Request.{Request}
use Rattle.msi_directory.specs.Blocks.{entry_at}
use Rattle.msi_directory.specs.Table.{is_free}
use Rattle.msi_memory.specs.Acts.{head_free}
use Rattle.msi_memory.specs.Memories.{port_at}
use Rattle.msi_memory.specs.declared.port.Mail.{Mail}
use Rattle.msi_memory.specs.declared.port.Port.{Port}
use Rattle.msi_state.specs.States.{PlainState, core_at}
use Rattle.msi_state.specs.Steps.{enabled}
use Rattle.msi_state.specs.declared.moves.Move.TheVariants.{Core as CoreMove, Request as RequestMove}
use Rattle.msi_state.specs.declared.moves.Move.TheVariants.{Response as ResponseMove, FromHome as MessageMove}
use Rattle.flat_state.specs.declared.flat.Flat.{Flat}
use Rattle.flat_state.specs.declared.node.Node.{Node}
use Rattle.flat_state.specs.Shows.{NodeShows, Stands, asked_as, block_at, blocks_of, held_as, home_at}
use Rattle.flat_state.specs.Shows.{kept_line, kept_message, kept_reply, kept_requests, node_at, seen_line, seen_message}
use Rattle.flat_state.specs.Shows.{seen_reply}
use Rattle.flat_state.specs.Shows.{seen_request}
use Rattle.flat_state.proofs.HomeBlocks.{block_is, place_within}
use Rattle.flat_laws.specs.Marks.{node_waits, own_mark, request_mark}

any_map : {X Y : Type 0} (f : X → Y) (test : Y → Bool) (xs : List X) →
    list_any (λ x. test (f x)) xs ≡ list_any test (map f xs)
any_map f test [] = refl
any_map f test (x ∷ xs) = ap (λ (t : Bool). test (f x) || t) (any_map f test xs)

-- two lists of which the same is seen are empty alike
nil_alike : {X Y Z : Type 0} (f : X → Z) (g : Y → Z) (xs : List X) (ys : List Y) → map f xs ≡ map g ys →
    is_nil xs ≡ is_nil ys
nil_alike f g [] [] same = refl
nil_alike f g (x ∷ xs) (y ∷ ys) same = refl
nil_alike f g [] (y ∷ ys) same = absurd (cc)
nil_alike f g (x ∷ xs) [] same = absurd (cc)

module _ {R K : Type 0} where
  pub node_waits_is : (n : Node) (p : Port R K) → map kept_line n.lines ≡ map seen_line p.cache →
      node_waits n ≡ waits p.cache
  node_waits_is n p same =
      any_map kept_line (λ (x : LineState × ℕ). is_transient x.0) n.lines
      ∙ (ap (λ (l : List (LineState × ℕ)). list_any (λ (x : LineState × ℕ). is_transient x.0) l) same
      ∙ sym (any_map seen_line (λ (x : LineState × ℕ). is_transient x.0) p.cache))

  -- the head of the link of a core that asks for this
  head_is_free : (items : List (Mail (Request R) K)) (asking : Asking) (block : ℕ)
      (free : ℕ → Bool) (head : List (Mail (Request R) K) → Bool) →
      ((mail : Mail (Request R) K) (rest : List (Mail (Request R) K)) →
      head (mail ∷ rest) ≡ free (request_block mail.item)) →
      (asking, block) ∷ [] ≡ map seen_request items → head items ≡ free block
  head_is_free [] asking block free head some seen = absurd (cc)
  head_is_free (mail ∷ rest) asking block free head some seen =
      some mail rest ∙ ap free (sym (ap (λ (l : List (Asking × ℕ)). second l) seen))
    where
      second : List (Asking × ℕ) → ℕ
      second [] = 0
      second (x ∷ xs) = x.1

  nil_seen : (items : List (Mail (Request R) K)) → [] ≡ map seen_request items → items ≡ []
  nil_seen [] seen = refl
  nil_seen (mail ∷ rest) seen = absurd (cc)

module _ (f : Flat) (s : PlainState) (memory : ℕ → List ℕ) (c : ℕ) (stands : Stands f s memory)
    (within : c < length f.nodes.items) where
  abbrev n : Node
  n = node_at f.nodes.items c

  abbrev p : Port (Unit {0}) (Unit {0})
  p = port_at none_carrying s.memory.ports c

  inside : c < length s.cores
  inside = subst (λ (k : ℕ). c < k) stands.shows.long within

  there : nat_lt c (length s.memory.ports) ≡ true
  there = lt-ltb c (length s.memory.ports) (subst (λ (k : ℕ). c < k) (sym stands.holds.ports_there) inside)

  own : NodeShows s.image (blocks_of f.home.items) n (core_at s.cores c) p
  own = stands.shows.nodes c inside

  pub own_marked : enabled none_riding none_carrying s (CoreMove c) ≡ own_mark (node_at f.nodes.items c)
  own_marked =
      ap (λ (t : Bool). t && (not (is_done (need s.image (core_at s.cores c))) && not (waits p.cache)))
      (lt-ltb c (length s.cores) inside)
      ∙ (ap (λ (x : Need). not (is_done x) && not (waits p.cache)) (sym own.need)
      ∙ ap (λ (t : Bool). not (is_done n.need) && not t) (sym (node_waits_is n p own.lines)))

  pub request_marked : enabled none_riding none_carrying s (RequestMove c)
      ≡ request_mark f.home.items (node_at f.nodes.items c)
  request_marked = ap (λ (t : Bool). t && head_free p.requests.items none_riding s.memory.home) there ∙ by n.asks refl
    where
      by : (t : Bool) → n.asks ≡ t → head_free p.requests.items none_riding s.memory.home
          ≡ request_mark f.home.items n
      by false is =
          ap (λ (l : List (Mail (Request (Unit {0})) (Unit {0}))). head_free l none_riding s.memory.home)
          (nil_seen p.requests.items
          (ap (λ (t : Bool). kept_requests (blocks_of f.home.items) t n.ask n.place) (sym is) ∙ own.requests))
          ∙ ap (λ (t : Bool). t && free) (sym is)
        where
          free : Bool
          free = is_free (held_as (home_at f.home.items n.place).held
              (home_at f.home.items n.place))
      by true is =
          head_is_free p.requests.items (asked_as n.ask) (block_at (blocks_of f.home.items) n.place)
          (λ (b : ℕ). is_free (entry_at tt s.memory.home b).stage)
          (λ l. head_free l none_riding s.memory.home) (λ mail rest. refl)
          (ap (λ (t : Bool). kept_requests (blocks_of f.home.items) t n.ask n.place) (sym is) ∙ own.requests)
          ∙ (ap (λ (b : ℕ). is_free (entry_at tt s.memory.home b).stage) (block_is f.home.items n.place)
          ∙ (ap is_free (sym (stands.shows.home.blocks n.place (place_within f.home.items n.place (own.asked
          is))).stage)
          ∙ ap (λ (t : Bool). t && free) (sym is)))
        where
          free : Bool
          free = is_free (held_as (home_at f.home.items n.place).held
              (home_at f.home.items n.place))

  pub response_marked : enabled none_riding none_carrying s (ResponseMove c)
      ≡ not (is_nil (node_at f.nodes.items c).replies)
  response_marked =
      ap (λ (t : Bool). t && not (is_nil p.responses.items)) there
      ∙ ap not (sym (nil_alike (kept_reply (blocks_of f.home.items)) seen_reply n.replies p.responses.items
      own.replies))

  pub message_marked : enabled none_riding none_carrying s (MessageMove c)
      ≡ not (is_nil (node_at f.nodes.items c).messages)
  message_marked =
      ap (λ (t : Bool). t && not (is_nil p.messages.items)) there
      ∙ ap not (sym (nil_alike (kept_message (blocks_of f.home.items)) seen_message n.messages p.messages.items
      own.messages))
