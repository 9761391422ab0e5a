-- A store or an atomic memory operation that hits: the core's node is another, and one word of its block's entry.
use Rattle.std.proofs.Common.{◌≡◌, ◌≢◌, ◌∙◌, ◌⊎◌, inl, inr, refl, sym, ap, subst, ℕ, ◌<◌, ◌==◌, ◌/◌, ◌%◌, Bool, true}
use Rattle.std.proofs.Common.{false}
use Rattle.std.proofs.Common.{List, length, map, get_or, arith, Option, Some, None}
use Rattle.std.specs.Prelude.{slice_set, slice_index, ◌&&◌, if◌then◌else◌}
use Rattle.std.proofs.lemmas.Bool.{cases_eq}
use Rattle.std.proofs.lemmas.Bool.Decides.{nat_tests}
use Rattle.std.proofs.lemmas.List.{set-get_or}
use Rattle.std.proofs.Math.ListN.{get_or-map}
use Rattle.std.proofs.Math.Seq.{map-set_same}
use Rattle.access_times.specs.Riding.{none_riding, none_carrying}
use Rattle.image_mem.specs.Contents.{Contents}
use Rattle.rtr_types.specs.Accesses.{is_write}
use Rattle.rtr_types.specs.declared.TheConstants.{BLOCK_WORDS, LINES}
use Rattle.rtr_types.specs.declared.access.Access.{Access}
use Rattle.rtr_types.specs.declared.access.Kind.{Kind}
use Rattle.rtr_types.specs.declared.access.Kind.TheVariants.{Store as Storing, Amo as Exchanging}
use Rattle.rtr_types.specs.declared.instr.Instr.{Instr}
use Rattle.rv_core.specs.Steps.{after, is_done, need, wrote, access_of as need_access}
use Rattle.rv_core.specs.declared.core_state.Core.{Core}
use Rattle.rv_core.specs.declared.core_state.Need.{Need}
use Rattle.rv_core.specs.declared.core_state.Need.TheVariants.{Local, Load, Store, Amo, Done}
use Rattle.msi_cache.specs.Lines.{line_for}
use Rattle.msi_cache.specs.Table.{is_readable, is_writable}
use Rattle.msi_cache.specs.declared.line.State.{State as LineState}
use Rattle.msi_cache.specs.declared.line.State.TheVariants.{I}
use Rattle.msi_directory.specs.Blocks.{entry_at, no_entry}
use Rattle.msi_directory.specs.declared.entry.Entry.{Entry}
use Rattle.msi_memory.specs.Acts.{allows}
use Rattle.msi_memory.specs.Memories.{port_at}
use Rattle.msi_memory.specs.declared.port.Port.{Port}
use Rattle.msi_laws.proofs.Properties.{finds_words}
use Rattle.msi_laws.specs.Words.{memory_by}
use Rattle.msi_state.specs.declared.moves.Move.TheVariants.{Core as CoreMove}
use Rattle.msi_state.specs.Events.{Nothing, Accesses, access_of, event_working_in, next_instr}
use Rattle.msi_state.specs.Runs.{plain_event, plain_step}
use Rattle.msi_state.specs.States.{PlainState, core_at}
use Rattle.msi_state.specs.Steps.{enabled}
use Rattle.machine_data.specs.Coherent.{memory_after}
use Rattle.flat_state.specs.declared.block.Held.{Held}
use Rattle.flat_state.specs.declared.block.Held.TheVariants.{Unshared as NotHeld, Shared as IsShared, Owned as IsOwned}
use Rattle.flat_state.specs.declared.block.Held.TheVariants.{Acks as InAcks, ToShare, ToOwn}
use Rattle.flat_state.specs.declared.block.HomeBlock.{HomeBlock}
use Rattle.flat_state.specs.declared.flat.Flat.{Flat}
use Rattle.flat_state.specs.declared.node.KeptLine.{KeptLine}
use Rattle.flat_state.specs.declared.node.Node.{Node}
use Rattle.flat_state.specs.Shows.{HomeShows, NodeShows, Stands, WordsKept, block_at, blocks_of, held_as, home_at}
use Rattle.flat_state.specs.Shows.{kept_line, line_at, no_block, node_after, node_at, owns}
use Rattle.flat_state.proofs.HomeBlocks.{block_is, block_same, blocks_same, elsewhere_now, here_now, home_set, longer}
use Rattle.flat_state.proofs.HomeBlocks.{place_within, shorter}
use Rattle.flat_state.proofs.NodeReads.{core_within, line_is, own_node}
use Rattle.flat_cores.specs.Needs.{but_words, kind_of, written}
use Rattle.flat_cores.proofs.Hits.{block_of_hit, told_access, worked_stands}

-- the block with other words
abbrev pub block_with : HomeBlock → List ℕ → HomeBlock
block_with b words = record b { words = words }

held_with : (h : Held) (b : HomeBlock) (words : List ℕ) → held_as h (block_with b words) ≡ held_as h b
held_with NotHeld b words = refl
held_with IsShared b words = refl
held_with IsOwned b words = refl
held_with InAcks b words = refl
held_with ToShare b words = refl
held_with ToOwn b words = refl

-- an entry that has other words is the same but for them
pub but_words_same : (home home' : List HomeBlock) (place : ℕ) (b' : HomeBlock) → home' ≡ slice_set home place b' →
    but_words b' ≡ but_words (home_at home place) → (i : ℕ) →
    but_words (home_at home' i) ≡ but_words (home_at home i)
but_words_same home home' place b' is same i =
    sym (get_or-map but_words home' i no_block)
    ∙ (ap (λ (l : List HomeBlock). get_or (map but_words l) i (but_words no_block)) is
    ∙ (ap (λ (l : List HomeBlock). get_or l i (but_words no_block)) (map-set_same but_words home place b' no_block same)
    ∙ get_or-map but_words home i no_block))

-- its words are no part of what the home shows
pub home_words : {R : Type 0} (fresh : R) (home home' : List HomeBlock) (entries : List (Entry R)) (place : ℕ)
    (words : List ℕ) → place < length home → home' ≡ slice_set home place (block_with (home_at home place) words) →
    HomeShows fresh home entries → HomeShows fresh home' entries
home_words {R} fresh home home' entries place words lies is shows =
    subst (λ (l : List (Entry R)). HomeShows fresh home' l)
    (set-get_or entries (home_at home place).block (no_entry fresh))
    (home_set fresh home home' entries place (block_with (home_at home place) words)
    (entry_at fresh entries (home_at home place).block) lies is refl
    (record {
      stage = held_with (home_at home place).held (home_at home place) words ∙ (shows.blocks place lies).stage;
      empty = (shows.blocks place lies).empty;
    }) shows)

-- the entries have the memory's words after a write in one of them
pub words_stored : {R : Type 0} (fresh : R) (image : Contents) (home home' : List HomeBlock) (entries : List (Entry R))
    (place slot value : ℕ) (kind : Kind) (memory : ℕ → List ℕ) → is_write kind ≡ true → place < length home →
    home' ≡ slice_set home place (block_with (home_at home place) (slice_set (home_at home place).words slot value)) →
    HomeShows fresh home entries → WordsKept image home memory →
    WordsKept image home' (memory_by (home_at home place).block slot kind value memory)
words_stored fresh image home home' entries place slot value kind memory writes lies is shows words =
    record {
      here = λ i within. at_place i (longer home home' place b' is refl i within) (cases_eq i place);
      others = λ b none. elsewhere b (λ (at : b ≡ block). none place (shorter home home' place b' is refl place lies)
          (kept place ∙ sym at)) ∙ words.others b (λ i within at. none i (shorter home home' place b' is refl i within)
          (kept i ∙ at));
    }
  where
    b' : HomeBlock
    b' = block_with (home_at home place) (slice_set (home_at home place).words slot value)

    block : ℕ
    block = (home_at home place).block

    left : ℕ → List ℕ
    left = memory_by block slot kind value memory

    kept : (i : ℕ) → (home_at home' i).block ≡ (home_at home i).block
    kept i = block_same home home' place b' is refl i

    by_test : (b : ℕ) (t : Bool) → (b == block) ≡ t →
        left b ≡ (if t then slice_set (memory b) slot value else memory b)
    by_test b t test =
        ap (λ (w : Bool). if w && (b == block) then slice_set (memory b) slot value else memory b) writes
        ∙ ap (λ (u : Bool). if u then slice_set (memory b) slot value else memory b) test

    elsewhere : (b : ℕ) → b ≢ block → left b ≡ memory b
    elsewhere b apart = by_test b false (differs b apart)
      where
        differs : (b : ℕ) → b ≢ block → (b == block) ≡ false
        differs b apart = grind (arith, nat_tests)

    there : left block ≡ slice_set (memory block) slot value
    there = by_test block true (same block)
      where
        same : (b : ℕ) → (b == b) ≡ true
        same b = grind (arith, nat_tests)

    at_place : (i : ℕ) → i < length home → (i ≡ place) ⊎ (i ≢ place) →
        (home_at home' i).words ≡ left (home_at home' i).block
    at_place i within (inl at) =
        ap (λ (x : ℕ). (home_at home' x).words) at
        ∙ (ap (λ (x : HomeBlock). x.words) (here_now home home' place b' is refl lies)
        ∙ (ap (λ (l : List ℕ). slice_set l slot value) (words.here place lies)
        ∙ (sym there ∙ ap left (sym (kept i ∙ ap (λ (x : ℕ). (home_at home x).block) at)))))
    at_place i within (inr apart) =
        ap (λ (x : HomeBlock). x.words) (elsewhere_now home home' place b' is refl i apart)
        ∙ (words.here i within
        ∙ (sym (elsewhere (home_at home i).block (λ eq. apart (shows.once i place within lies eq)))
        ∙ ap left (sym (kept i))))

-- ---- the core's move

-- the core may write the block
abbrev pub hit_by : Bool → ℕ → LineState × ℕ → Bool
hit_by write block l = if write then (l.1 == block) && is_writable l.0 else (l.1 == block) && is_readable l.0

writable_holds : (state : LineState) (t : Bool) → (t && is_writable state) ≡ true → state ≢ I
writable_holds state false both none = absurd (cc)
writable_holds state true both none =
    let now : false ≡ true = subst (λ (x : LineState). is_writable x ≡ true) none both in
    absurd (cc)

-- an instruction that writes needs an access of such a kind
pub write_needed : (x : Need) (word : ℕ) → written x ≡ Some word →
    (need_access x ≡ Some (kind_of x, word)) × (is_write (kind_of x) ≡ true)
write_needed Local word is = absurd (cc)
write_needed (Load at) word is = absurd (cc)
write_needed (Store at whole) word is = (ap kinded is, refl)
  where
    kinded : Option ℕ → Option (Kind × ℕ)
    kinded None = None
    kinded (Some w) = Some (Storing, w)
write_needed (Amo at) word is = (ap kinded is, refl)
  where
    kinded : Option ℕ → Option (Kind × ℕ)
    kinded None = None
    kinded (Some w) = Some (Exchanging, w)
write_needed (Done stop) word is = absurd (cc)

module _ (f : Flat) (s : PlainState) (memory : ℕ → List ℕ) (c word before value : ℕ) (kind : Kind)
    (n : Node) (b : HomeBlock) (writes : is_write kind ≡ true) (within : c < length f.nodes.items)
    (is : n ≡ node_at f.nodes.items c) (put : value ≡ wrote f.program n.core before)
    (found : b ≡ home_at f.home.items (line_at n (word / BLOCK_WORDS % LINES)).place)
    (read : before ≡ slice_index b.words (word % BLOCK_WORDS))
    (store : need_access (node_at f.nodes.items c).need ≡ Some (kind, word))
    (hit : owns (node_at f.nodes.items c) (word / BLOCK_WORDS) ≡ true) (stands : Stands f s memory) where
  abbrev block : ℕ
  block = word / BLOCK_WORDS

  abbrev slot : ℕ
  slot = word % BLOCK_WORDS

  abbrev m : Node
  m = node_at f.nodes.items c

  inside : c < length s.cores
  inside = core_within f s c stands.shows within

  there : c < length s.memory.ports
  there = subst (λ (k : ℕ). c < k) (sym stands.holds.ports_there) inside

  abbrev core : Core
  core = core_at s.cores c

  abbrev p : Port (Unit {0}) (Unit {0})
  p = port_at none_carrying s.memory.ports c

  own : NodeShows s.image (blocks_of f.home.items) m core p
  own = stands.shows.nodes c inside

  abbrev a : Access
  a = access_of s.image none_riding core p word kind

  abbrev line : KeptLine
  line = line_at m (block % LINES)

  abbrev b0 : HomeBlock
  b0 = home_at f.home.items line.place

  needed : need_access (need s.image core) ≡ Some (kind, word)
  needed = ap need_access (sym own.need) ∙ store

  allowed : allows none_riding p block kind ≡ true
  allowed = ap (hit_by (is_write kind) block)
      (sym (line_is s.image (blocks_of f.home.items) m core p tt (block % LINES) own))
      ∙ (ap (λ (w : Bool). hit_by w block (kept_line line)) writes ∙ hit)

  event_is : plain_event s (CoreMove c) ≡ Accesses a
  event_is = ap (λ (x : Option (Kind × ℕ)). event_working_in x (is_done (need s.image core)) s.image none_riding core
      p) needed ∙ ap (λ (t : Bool). if t then Accesses a else Nothing) allowed

  placed : (line.place < length (blocks_of f.home.items)) × (block_at (blocks_of f.home.items) line.place ≡
      line.block)
  placed = own.placed (block % LINES) (omega arith) (writable_holds line.state (line.block == block) hit)

  lies : line.place < length f.home.items
  lies = place_within f.home.items line.place placed.0

  block_there : b0.block ≡ block
  block_there = sym (block_is f.home.items line.place) ∙ (placed.1 ∙ block_of_hit line.block block
      (is_writable line.state) hit)

  b_is : b ≡ b0
  b_is = found ∙ ap (λ (x : Node). home_at f.home.items (line_at x (block % LINES)).place) is

  words : b0.words ≡ (line_for tt p.cache block).words
  words = stands.words.here line.place lies ∙ (ap memory block_there ∙ sym (finds_words none_riding none_carrying
      s.memory c block kind memory stands.holds.memory there allowed stands.coherent))

  before_is : before ≡ a.before
  before_is = read ∙ (ap (λ (x : HomeBlock). slice_index x.words slot) b_is
      ∙ ap (λ (l : List ℕ). slice_index l slot) words)

  value_is : value ≡ a.after
  value_is = put ∙ (ap (λ (x : Node). wrote f.program x.core before) is
      ∙ (ap (λ (i : Contents). wrote i m.core before) stands.shows.image
      ∙ (ap (λ (k : Core). wrote s.image k before) own.core_is ∙ ap (wrote s.image core) before_is)))

  pub write_stands : (f' : Flat) (n' : Node) → n' ≡ node_after f.program n n.core before →
      f'.program ≡ f.program →
      f'.home.items ≡ slice_set f.home.items (line_at n (word / BLOCK_WORDS % LINES)).place
      (block_with b (slice_set b.words (word % BLOCK_WORDS) value)) →
      f'.nodes.items ≡ slice_set f.nodes.items c n' → enabled none_riding none_carrying s (CoreMove c) ≡ true →
      Stands f' (plain_step s (CoreMove c)) (memory_after (plain_event s (CoreMove c)) memory)
  write_stands f' n' new program home nodes on =
      worked_stands f f' s memory c before n n' (Accesses a) within is new program same_blocks
      (home_words tt f.home.items f'.home.items s.memory.home line.place (slice_set b0.words slot a.after) lies home_is
      stands.shows.home)
      (subst (λ (x : ℕ). WordsKept s.image f'.home.items (memory_by x slot kind a.after memory)) block_there
      (words_stored tt s.image f.home.items f'.home.items s.memory.home line.place slot a.after kind memory writes lies
      home_is stands.shows.home stands.words))
      nodes event_is (ap (after s.image core) (sym before_is)) (λ needed p. refl) on stands
    where
      home_is : f'.home.items ≡ slice_set f.home.items line.place (block_with b0 (slice_set b0.words slot a.after))
      home_is = home ∙ (ap (λ (x : Node). slice_set f.home.items (line_at x (block % LINES)).place (block_with b
          (slice_set
          b.words slot value))) is
          ∙ (ap (λ (x : HomeBlock). slice_set f.home.items line.place (block_with x (slice_set x.words slot value)))
          b_is
          ∙ ap (λ (v : ℕ). slice_set f.home.items line.place (block_with b0 (slice_set b0.words slot v))) value_is))

      same_blocks : blocks_of f'.home.items ≡ blocks_of f.home.items
      same_blocks = blocks_same f.home.items f'.home.items line.place (block_with b0 (slice_set b0.words slot a.after))
          home_is refl

  -- its access is told
  pub write_told : (at : Instr) → at ≡ next_instr n.core → plain_event s (CoreMove c)
      ≡ Accesses (record { at = at; word = word; kind = kind; before = before; after = value })
  write_told at at_is =
      event_is ∙ ap Accesses (told_access f.program s.image n.core core word kind before a.before value at
      stands.shows.image (ap (λ (x : Node). x.core) is ∙ own.core_is) before_is at_is put)

-- a core that writes isn't done
pub write_going : (x : Need) (word : ℕ) → written x ≡ Some word → is_done x ≡ false
write_going Local word is = refl
write_going (Load at) word is = refl
write_going (Store at whole) word is = refl
write_going (Amo at) word is = refl
write_going (Done stop) word is = absurd (cc)

pub write_placed : (f : Flat) (s : PlainState) (memory : ℕ → List ℕ) (c word : ℕ) (n : Node) →
    c < length f.nodes.items → n ≡ node_at f.nodes.items c →
    owns (node_at f.nodes.items c) (word / BLOCK_WORDS) ≡ true → Stands f s memory →
    (line_at n (word / BLOCK_WORDS % LINES)).place < length f.home.items
write_placed f s memory c word n within is hit stands =
    let own = own_node f s c stands.shows within in
    let l = line_at (node_at f.nodes.items c) (word / BLOCK_WORDS % LINES) in
    let placed = own.placed (word / BLOCK_WORDS % LINES) (omega arith)
    (writable_holds l.state (l.block == word / BLOCK_WORDS) hit) in
    subst (λ (x : Node). (line_at x (word / BLOCK_WORDS % LINES)).place < length f.home.items) (sym is)
    (place_within f.home.items l.place placed.0)
