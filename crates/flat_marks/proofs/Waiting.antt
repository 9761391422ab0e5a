-- Which lines of a node wait: one at most. After a message that ends its waiting none does, and after any other as many
-- as before.
use Rattle.std.proofs.Common.{◌≡◌, ◌≢◌, ◌∙◌, ◌⊎◌, inl, inr, refl, sym, ap, subst, ℕ, zero, suc, ◌<◌, ◌%◌, Bool, true}
use Rattle.std.proofs.Common.{false, List, [], ◌∷◌, length, map, get_or, arith}
use Rattle.std.specs.Prelude.{◌||◌, is_some, slice_set}
use Rattle.std.specs.List.{list_any}
use Rattle.std.proofs.lemmas.Bool.{cases_eq}
use Rattle.std.proofs.lemmas.List.{get_or-set_other, get_or-set_same, length-map}
use Rattle.std.proofs.Math.Seq.{map-set_same}
use Rattle.access_times.specs.Riding.{none_riding, none_carrying}
use Rattle.rtr_types.specs.declared.TheConstants.{LINES}
use Rattle.msi_cache.specs.Lines.{empty_line}
use Rattle.msi_cache.specs.Messages.{block_of}
use Rattle.msi_cache.specs.Table.{Signal, is_transient, row}
use Rattle.msi_cache.specs.declared.line.State.{State as LineState}
use Rattle.msi_memory.specs.Memories.{port_at}
use Rattle.msi_memory.specs.declared.port.Port.{Port}
use Rattle.msi_laws.proofs.PortsAndBlocks.{message_row}
use Rattle.msi_state.specs.States.{PlainState, core_at}
use Rattle.flat_state.specs.declared.flat.Flat.{Flat}
use Rattle.flat_state.specs.declared.message_ring.Message.{Message}
use Rattle.flat_state.specs.declared.message_ring.Told.{Told}
use Rattle.flat_state.specs.declared.message_ring.Told.TheVariants.{Data, Ack}
use Rattle.flat_state.specs.declared.node.KeptLine.{KeptLine}
use Rattle.flat_state.specs.declared.node.Node.{Node}
use Rattle.flat_state.specs.Shows.{NodeShows, Stands, blocks_of, home_at, kept_line, line_at, no_line, node_at}
use Rattle.flat_state.specs.Shows.{seen_line, told_as}
use Rattle.flat_state.proofs.HomeBlocks.{block_is}
use Rattle.flat_state.proofs.NodeReads.{line_is}
use Rattle.flat_laws.specs.Marks.{node_waits}
use Rattle.flat_messages.specs.Heard.{heard, node_heard}
use Rattle.flat_messages.proofs.WordMoves.{first_mail, own_shows, port_inside}

-- ---- lists

abbrev line_waits : KeptLine → Bool
line_waits l = is_transient l.state

any_map : {X : Type 0} (test : X → Bool) (xs : List X) → list_any test xs ≡ list_any (λ t. t) (map test xs)
any_map test [] = refl
any_map test (x ∷ xs) = ap (λ (t : Bool). test x || t) (any_map test xs)

any_none : (lines : List KeptLine) → ((i : ℕ) → line_waits (get_or lines i no_line) ≡ false) →
    list_any (λ l. is_transient l.state) lines ≡ false
any_none [] none = refl
any_none (l ∷ ls) none =
    ap (λ (t : Bool). t || list_any (λ l. is_transient l.state) ls) (none 0)
    ∙ any_none ls (λ i. none (suc i))

or_true : (t : Bool) → (t || true) ≡ true
or_true true = refl
or_true false = refl

any_here : (lines : List KeptLine) (i : ℕ) (l : KeptLine) → i < length lines → line_waits l ≡ true →
    list_any (λ x. is_transient x.state) (slice_set lines i l) ≡ true
any_here [] i l lies waits = absurd (omega (arith, lies))
any_here (x ∷ xs) zero l lies waits = ap (λ (t : Bool). t || list_any (λ x. is_transient x.state) xs) waits
any_here (x ∷ xs) (suc i) l lies waits =
    ap (λ (t : Bool). line_waits x || t) (any_here xs i l (omega (arith, lies)) waits) ∙ or_true (line_waits x)

any_same : (lines : List KeptLine) (i : ℕ) (l : KeptLine) → line_waits l ≡ line_waits (get_or lines i no_line) →
    list_any (λ x. is_transient x.state) (slice_set lines i l) ≡ list_any (λ x. is_transient x.state) lines
any_same lines i l same =
    any_map line_waits (slice_set lines i l)
    ∙ (ap (λ (ts : List Bool). list_any (λ t. t) ts) (map-set_same line_waits lines i l no_line same)
    ∙ sym (any_map line_waits lines))

-- ---- one node

module _ (f : Flat) (s : PlainState) (memory : ℕ → List ℕ) (c : ℕ) (within : c < length f.nodes.items)
    (stands : Stands f s memory) where
  abbrev n : Node
  n = node_at f.nodes.items c

  abbrev p : Port (Unit {0}) (Unit {0})
  p = port_at none_carrying s.memory.ports c

  inside : c < length s.cores
  inside = subst (λ (k : ℕ). c < k) stands.shows.long within

  there : c < length s.memory.ports
  there = subst (λ (k : ℕ). c < k) (sym stands.holds.ports_there) inside

  own : NodeShows s.image (blocks_of f.home.items) n (core_at s.cores c) p
  own = stands.shows.nodes c inside

  line_seen : (i : ℕ) → line_waits (line_at n i) ≡ is_transient (get_or p.cache i (empty_line tt)).state
  line_seen i = ap (λ (x : LineState × ℕ). is_transient x.0)
      (line_is s.image (blocks_of f.home.items) n (core_at s.cores c) p tt i own)

  pub sixteen : length (node_at f.nodes.items c).lines ≡ LINES
  sixteen = sym (length-map n.lines kept_line) ∙ (ap length own.lines ∙ (length-map p.cache seen_line
      ∙ (stands.holds.memory.ports c there).all_lines))

  one_waits : (i j : ℕ) → line_waits (line_at n i) ≡ true → line_waits (line_at n j) ≡ true → i ≡ j
  one_waits i j here other =
      (stands.holds.memory.ports c there).one_waits i j (sym (line_seen i) ∙ here) (sym (line_seen j) ∙ other)

  -- where one line waited and no longer does, none waits
  ended : (i : ℕ) (l : KeptLine) → i < LINES → line_waits (line_at n i) ≡ true → line_waits l ≡ false →
      list_any (λ x. is_transient x.state) (slice_set n.lines i l) ≡ false
  ended i l lies was is = any_none (slice_set n.lines i l) (λ j. at j (cases_eq j i))
    where
      other : (j : ℕ) → j ≢ i → (t : Bool) → line_waits (line_at n j) ≡ t → line_waits (line_at n j) ≡ false
      other j apart true waits = absurd (apart (one_waits j i waits was))
      other j apart false still = still

      at : (j : ℕ) → (j ≡ i) ⊎ (j ≢ i) → line_waits (get_or (slice_set n.lines i l) j no_line) ≡ false
      at j (inl same) =
          ap (λ (k : ℕ). line_waits (get_or (slice_set n.lines i l) k no_line)) same
          ∙ (ap line_waits (get_or-set_same n.lines i l no_line (subst (λ (k : ℕ). i < k) (sym sixteen) lies)) ∙ is)
      at j (inr apart) =
          ap line_waits (get_or-set_other n.lines i j l no_line apart)
          ∙ other j apart (line_waits (line_at n j)) refl

  -- where a line begins to wait, one does
  pub begun : (i : ℕ) (l : KeptLine) → i < LINES → is_transient l.state ≡ true →
      list_any (λ x. is_transient x.state) (slice_set (node_at f.nodes.items c).lines i l) ≡ true
  begun i l lies waits = any_here n.lines i l (subst (λ (k : ℕ). i < k) (sym sixteen) lies) waits

-- ---- messages

-- a message of this kind ends what its receiver waits for
abbrev pub ends : Told → Bool
ends Data = true
ends Ack = true
ends _ = false

waited : (told : Told) (state : LineState) → is_some (row (told_as told) state) ≡ true → ends told ≡ true →
    is_transient state ≡ true
waited told state there e = grind arith

stable : (told : Told) (state : LineState) → ends told ≡ true → is_transient (heard told state) ≡ false
stable told state e = grind arith

as_before : (told : Told) (state : LineState) → is_some (row (told_as told) state) ≡ true → ends told ≡ false →
    is_transient (heard told state) ≡ is_transient state
as_before told state there e = grind arith

module _ (f : Flat) (s : PlainState) (memory : ℕ → List ℕ) (c : ℕ) (m : Message) (later : List Message)
    (within : c < length f.nodes.items) (oldest : (node_at f.nodes.items c).messages ≡ m ∷ later)
    (stands : Stands f s memory) where
  abbrev place : ℕ
  place = (home_at f.home.items m.place).block % LINES

  abbrev old : KeptLine
  old = line_at (node_at f.nodes.items c) place

  -- the line has a row for what is told
  told_row : is_some (row (told_as m.told) old.state) ≡ true
  told_row =
      let first = first_mail f s memory c (node_at f.nodes.items c) m later within refl oldest stands in
      let seen = message_row none_riding none_carrying s.memory c first.mail first.later
      (port_inside f s memory c (node_at f.nodes.items c) m later within refl oldest stands) first.items_are
      stands.holds.memory in
      let at : block_of first.mail.item ≡ (home_at f.home.items m.place).block =
      first.block_is ∙ block_is f.home.items m.place in
      let same = line_is s.image (blocks_of f.home.items) (node_at f.nodes.items c) (core_at s.cores c)
      (port_at none_carrying s.memory.ports c) tt (block_of first.mail.item % LINES)
      (own_shows f s memory c (node_at f.nodes.items c) m later within refl oldest stands) in
      ap (λ (b : ℕ). is_some (row (told_as m.told) (line_at (node_at f.nodes.items c) (b % LINES)).state)) (sym at)
      ∙ (ap (λ (x : LineState × ℕ). is_some (row (told_as m.told) x.0)) same
      ∙ (ap (λ (k : Signal). is_some (row k (get_or (port_at none_carrying s.memory.ports c).cache
      (block_of first.mail.item % LINES) (empty_line tt)).state)) (sym first.kind) ∙ seen.there))

  pub waits_ended : ends m.told ≡ true →
      node_waits (node_heard (node_at f.nodes.items c) ((home_at f.home.items m.place).block % LINES) m later) ≡ false
  waits_ended e =
      ended f s memory c within stands place (record old { state = heard m.told old.state }) (omega arith)
      (waited m.told old.state told_row e) (stable m.told old.state e)

  pub waits_on : ends m.told ≡ false →
      node_waits (node_heard (node_at f.nodes.items c) ((home_at f.home.items m.place).block % LINES) m later)
      ≡ node_waits (node_at f.nodes.items c)
  waits_on e =
      any_same (node_at f.nodes.items c).lines place (record old { state = heard m.told old.state })
      (as_before m.told old.state told_row e)
