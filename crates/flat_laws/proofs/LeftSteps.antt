-- How many steps may be left is read off the nodes.
use Rattle.std.proofs.Common.{◌≡◌, ◌∙◌, refl, sym, ap, ℕ, suc, ◌+◌, ◌*◌, ◌-◌, ◌<◌, ◌==◌, ◌/◌, ◌%◌, Bool, true, false}
use Rattle.std.proofs.Common.{List, [], ◌∷◌, length, map, arith, Option, Some, None, get_or}
use Rattle.std.specs.Prelude.{not}
use Rattle.std.specs.List.{sum_by, zip}
use Rattle.std.proofs.lemmas.List.{length-map}
use Rattle.std.proofs.lemmas.List.Sums.{sum_by-cons}
use Rattle.access_times.specs.Riding.{none_riding, none_carrying}
use Rattle.image_mem.specs.Contents.{Contents}
use Rattle.link_order.specs.Queue.{is_nil}
use Rattle.rtr_types.proofs.Lists.{cons-head, cons-rest}
use Rattle.rtr_types.specs.declared.TheConstants.{BLOCK_WORDS, LINES}
use Rattle.rtr_types.specs.declared.access.Kind.{Kind}
use Rattle.rv_core.specs.Steps.{is_done, need, access_of as need_access}
use Rattle.rv_core.specs.declared.core_state.Core.{Core}
use Rattle.rv_core.specs.declared.core_state.Need.{Need}
use Rattle.msi_cache.specs.Lines.{empty_line}
use Rattle.msi_cache.specs.Messages.{signal}
use Rattle.msi_cache.specs.Table.{Signal}
use Rattle.msi_cache.specs.declared.line.State.{State as LineState}
use Rattle.msi_cache.specs.declared.messages.FromHome.{FromHome}
use Rattle.msi_cache.specs.declared.messages.FromHome.TheVariants.{BlockData, FwdGetM, FwdGetS, Inv as Invalidate}
use Rattle.msi_cache.specs.declared.messages.FromHome.TheVariants.{PutAck}
use Rattle.msi_cache.specs.declared.messages.Request.{Request}
use Rattle.msi_memory.specs.Memories.{port_at}
use Rattle.msi_memory.specs.declared.port.Mail.{Mail}
use Rattle.msi_memory.specs.declared.port.Port.{Port}
use Rattle.machine_bound.specs.Bound.{base_in, capacity, debt, debts, earned, left, line_base, owed}
use Rattle.msi_state.specs.States.{PlainState, core_at}
use Rattle.flat_state.specs.declared.flat.Flat.{Flat}
use Rattle.flat_state.specs.declared.message_ring.Message.{Message}
use Rattle.flat_state.specs.declared.message_ring.Told.{Told}
use Rattle.flat_state.specs.declared.message_ring.Told.TheVariants.{Data, Ack, Inv, FwdS, FwdM}
use Rattle.flat_state.specs.declared.node.Ask.{Ask}
use Rattle.flat_state.specs.declared.node.Node.{Node}
use Rattle.flat_state.specs.Shows.{NodeShows, Stands, blocks_of, kept_message, kept_reply, kept_requests}
use Rattle.flat_state.specs.Shows.{node_at, seen_line, seen_message, seen_reply, seen_request, told_as}
use Rattle.flat_state.proofs.NodeReads.{line_is}
use Rattle.flat_laws.specs.StepsLeft.{left_kept, node_base, node_earned, node_owed, told_debt}

-- ---- one node

signal_debt : Signal → ℕ
signal_debt Signal.FwdGetS = 2
signal_debt Signal.FwdGetM = 2
signal_debt Signal.Inv = 2
signal_debt Signal.PutAck = 0
signal_debt Signal.BlockData = 0

told_debt_is : (t : Told) → told_debt t ≡ signal_debt (told_as t)
unfolding signal_debt
told_debt_is Data = refl
told_debt_is Ack = refl
told_debt_is Inv = refl
told_debt_is FwdS = refl
told_debt_is FwdM = refl

debt_is : (m : FromHome (Unit {0})) → signal_debt (signal m) ≡ debt m
unfolding signal_debt
debt_is (BlockData block words rider) = refl
debt_is (FwdGetS block) = refl
debt_is (FwdGetM block) = refl
debt_is (Invalidate block) = refl
debt_is (PutAck block) = refl

debts_are : (blocks : List ℕ) (messages : List Message) (items : List (Mail (FromHome (Unit {0})) (Unit {0}))) →
    map (kept_message blocks) messages ≡ map seen_message items →
    sum_by (λ (m : Message). told_debt m.told) messages ≡ debts items
debts_are blocks [] [] same = refl
debts_are blocks [] (mail ∷ items) same = absurd (cc)
debts_are blocks (m ∷ messages) [] same = absurd (cc)
debts_are blocks (m ∷ messages) (mail ∷ items) same =
    let kind : told_as m.told ≡ signal mail.item = ap (λ (x : Signal × ℕ). x.0) (cons-head _ _ _ _ same) in
    let here : told_debt m.told ≡ debt mail.item = told_debt_is m.told ∙ (ap signal_debt kind ∙ debt_is mail.item) in
    let rest = debts_are blocks messages items (cons-rest _ _ _ _ same) in
    sum_by-cons (λ (y : Message). told_debt y.told) m messages
    ∙ (ap (λ (x : ℕ). x + sum_by (λ (y : Message). told_debt y.told) messages) here
    ∙ ap (λ (x : ℕ). debt mail.item + x) rest)

no_request : (blocks : List ℕ) (asks : Bool) (ask : Ask) (place : ℕ)
    (items : List (Mail (Request (Unit {0})) (Unit {0}))) →
    kept_requests blocks asks ask place ≡ map seen_request items → not asks ≡ is_nil items
no_request blocks true ask place [] same = absurd (cc)
no_request blocks true ask place (mail ∷ items) same = refl
no_request blocks false ask place [] same = refl
no_request blocks false ask place (mail ∷ items) same = absurd (cc)

abbrev pub base_by : Bool → LineState × ℕ → (block cores : ℕ) → ℕ
base_by taken l block cores = line_base l.0 (l.1 == block) taken cores

module _ (image : Contents) (blocks : List ℕ) (n : Node) (core : Core) (p : Port (Unit {0}) (Unit {0}))
    (shows : NodeShows image blocks n core p) where
  owed_is : node_owed n ≡ owed p
  owed_is =
      let long : length n.replies ≡ length p.responses.items = sym (length-map n.replies (kept_reply blocks))
      ∙ (ap length shows.replies ∙ length-map p.responses.items seen_reply) in
      ap (λ (x : ℕ). x + length n.replies) (debts_are blocks n.messages p.messages.items shows.messages)
      ∙ ap (λ (x : ℕ). debts p.messages.items + x) long

  base_is : (needed : Option (Kind × ℕ)) (done : Bool) (cores : ℕ) →
      node_base needed done cores n ≡ base_in needed done none_riding cores p
  base_is None true cores = refl
  base_is None false cores = refl
  base_is (Some (kind, word)) done cores =
      ap (λ (l : LineState × ℕ). base_by (not n.asks) l (word / BLOCK_WORDS) cores)
      (line_is image blocks n core p tt (word / BLOCK_WORDS % LINES) shows)
      ∙ ap (λ (t : Bool). base_by t (seen_line (get_or p.cache (word / BLOCK_WORDS % LINES)
      (empty_line tt))) (word / BLOCK_WORDS) cores)
      (no_request blocks n.asks n.ask n.place p.requests.items shows.requests)

  earned_is : (cores : ℕ) → node_earned cores n ≡ earned image none_riding cores (core, p)
  earned_is cores =
      ap (λ (k : Core). (2 * cores + 4) * k.count + node_base (need_access n.need) (is_done n.need) cores n)
      shows.core_is
      ∙ (ap (λ (x : Need). (2 * cores + 4) * core.count + node_base (need_access x) (is_done x) cores n) shows.need
      ∙ ap (λ (x : ℕ). (2 * cores + 4) * core.count + x)
      (base_is (need_access (need image core)) (is_done (need image core)) cores))

-- ---- all of them

cons_alike : {X Y : Type 0} (f : X → ℕ) (g : Y → ℕ) (x : X) (xs : List X) (y : Y) (ys : List Y) → f x ≡ g y →
    sum_by f xs ≡ sum_by g ys → sum_by f (x ∷ xs) ≡ sum_by g (y ∷ ys)
cons_alike f g x xs y ys first rest =
    sum_by-cons f x xs
    ∙ (ap (λ (k : ℕ). k + sum_by f xs) first ∙ (ap (λ (k : ℕ). g y + k) rest ∙ sym (sum_by-cons g y ys)))

module _ (image : Contents) (blocks : List ℕ) (k : ℕ) where
  sums : (nodes : List Node) (cores : List Core) (ports : List (Port (Unit {0}) (Unit {0}))) →
      length nodes ≡ length cores → length ports ≡ length cores →
      ((c : ℕ) → c < length cores → NodeShows image blocks (node_at nodes c) (core_at cores c)
      (port_at none_carrying ports c)) →
      (sum_by (λ (n : Node). capacity k n.core) nodes ≡ sum_by (capacity k) cores)
      × (sum_by node_owed nodes ≡ sum_by owed ports)
      × (sum_by (node_earned k) nodes ≡ sum_by (earned image none_riding k) (zip cores ports))
  sums [] [] [] e f shows = (refl, refl, refl)
  sums [] [] (p ∷ ports) e f shows = absurd (omega (arith, f))
  sums [] (core ∷ cores) ports e f shows = absurd (omega (arith, e))
  sums (n ∷ nodes) [] ports e f shows = absurd (omega (arith, e))
  sums (n ∷ nodes) (core ∷ cores) [] e f shows = absurd (omega (arith, f))
  sums (n ∷ nodes) (core ∷ cores) (p ∷ ports) e f shows =
      let own : NodeShows image blocks n core p = shows 0 (omega arith) in
      let rest = sums nodes cores ports (omega (arith, e)) (omega (arith, f))
      (λ c lies. shows (suc c) (omega (arith, lies))) in (
        cons_alike (λ (y : Node). capacity k y.core) (capacity k) n nodes core cores (ap (capacity k) own.core_is)
            rest.0,
        cons_alike node_owed owed n nodes p ports (owed_is image blocks n core p own) rest.1,
        cons_alike (node_earned k) (earned image none_riding k) n nodes (core, p) (zip cores ports)
            (earned_is image blocks n core p own k) rest.2,
      )

pub left_shown : (f : Flat) (s : PlainState) (memory : ℕ → List ℕ) → Stands f s memory →
    left_kept f.nodes.items ≡ left none_riding s
left_shown f s memory stands =
    let all = sums s.image (blocks_of f.home.items) (length s.cores) f.nodes.items s.cores s.memory.ports
    stands.shows.long stands.holds.ports_there stands.shows.nodes in
    ap (λ (k : ℕ). sum_by (λ (n : Node). capacity k n.core) f.nodes.items + sum_by node_owed f.nodes.items
    - sum_by (node_earned k) f.nodes.items) stands.shows.long
    ∙ (ap (λ (x : ℕ). x + sum_by node_owed f.nodes.items - sum_by (node_earned (length s.cores)) f.nodes.items) all.0
    ∙ (ap (λ (x : ℕ). sum_by (capacity (length s.cores)) s.cores + x
    - sum_by (node_earned (length s.cores)) f.nodes.items) all.1
    ∙ ap (λ (x : ℕ). sum_by (capacity (length s.cores)) s.cores + sum_by owed s.memory.ports - x) all.2))
