-- A core's own move in which an instruction retires leads to where the new flat state stands.
use Rattle.std.proofs.Common.{◌≡◌, ◌≢◌, ◌∙◌, refl, sym, ap, subst, ℕ, ◌<◌, ◌==◌, ◌/◌, ◌%◌, Bool, true, false, List}
use Rattle.std.proofs.Common.{length, arith, get_or}
use Rattle.std.proofs.Common.{Option}
use Rattle.std.specs.Prelude.{slice_set, slice_index, ◌&&◌, if◌then◌else◌}
use Rattle.std.proofs.lemmas.Bool.Decides.{nat_tests}
use Rattle.access_times.specs.Riding.{none_riding, none_carrying}
use Rattle.image_mem.specs.Contents.{Contents}
use Rattle.rtr_types.specs.declared.TheConstants.{BLOCK_WORDS, LINES}
use Rattle.rtr_types.specs.declared.access.Access.{Access}
use Rattle.rtr_types.specs.declared.access.Kind.{Kind}
use Rattle.rtr_types.specs.declared.access.Kind.TheVariants.{Load as Loading}
use Rattle.rtr_types.specs.declared.instr.Instr.{Instr}
use Rattle.rv_core.specs.Steps.{after, is_done, need, wrote, access_of as need_access}
use Rattle.rv_core.specs.declared.core_state.Core.{Core}
use Rattle.rv_core.specs.declared.core_state.Need.{Need}
use Rattle.rv_core.specs.declared.core_state.Need.TheVariants.{Local, Load}
use Rattle.msi_cache.specs.Lines.{line_for}
use Rattle.msi_cache.specs.Table.{is_readable}
use Rattle.msi_cache.specs.declared.line.State.{State as LineState}
use Rattle.msi_cache.specs.declared.line.State.TheVariants.{I}
use Rattle.msi_memory.specs.Acts.{allows}
use Rattle.msi_memory.specs.Memories.{port_at}
use Rattle.msi_memory.specs.declared.port.Port.{Port}
use Rattle.msi_laws.proofs.Properties.{finds_words}
use Rattle.msi_state.specs.declared.moves.Move.TheVariants.{Core as CoreMove}
use Rattle.msi_state.specs.Events.{Event, Nothing, Retires, Accesses, access_of, event_working_in, next_instr}
use Rattle.msi_state.specs.Runs.{plain_event, plain_step}
use Rattle.msi_state.specs.States.{PlainState, core_at}
use Rattle.msi_state.specs.Steps.{enabled}
use Rattle.machine_data.specs.Coherent.{memory_after}
use Rattle.machine_invariant.proofs.StepFrame.{core_after, port_told, port_worked}
use Rattle.flat_state.specs.declared.block.HomeBlock.{HomeBlock}
use Rattle.flat_state.specs.declared.flat.Flat.{Flat}
use Rattle.flat_state.specs.declared.node.KeptLine.{KeptLine}
use Rattle.flat_state.specs.declared.node.Node.{Node}
use Rattle.flat_state.specs.Shows.{HomeShows, NodeShows, Shows, Stands, WordsKept, block_at, blocks_of, hits, home_at}
use Rattle.flat_state.specs.Shows.{line_at, node_after, node_at}
use Rattle.flat_state.proofs.Frames.{moved_stands, node_same, shows_core}
use Rattle.flat_state.proofs.HomeBlocks.{block_is, in_home, place_within}
use Rattle.flat_state.proofs.NodeReads.{core_within, line_is, own_node}
use Rattle.flat_state.proofs.Retired.{node_retired}

-- its node is another, and the words of the home's blocks may be
pub worked_stands : (f f' : Flat) (s : PlainState) (memory : ℕ → List ℕ) (c before : ℕ) (n n' : Node) (e : Event) →
    c < length f.nodes.items → n ≡ node_at f.nodes.items c →
    n' ≡ node_after f.program n n.core before →
    f'.program ≡ f.program → blocks_of f'.home.items ≡ blocks_of f.home.items →
    HomeShows tt f'.home.items s.memory.home → WordsKept s.image f'.home.items (memory_after e memory) →
    f'.nodes.items ≡ slice_set f.nodes.items c n' →
    plain_event s (CoreMove c) ≡ e →
    core_after s.image e (core_at s.cores c) ≡ after s.image (core_at s.cores c) before →
    ((needed : Option (Kind × ℕ)) (p : Port (Unit {0}) (Unit {0})) →
    port_worked none_riding none_carrying tt needed e p ≡ port_told none_riding none_carrying tt e p) →
    enabled none_riding none_carrying s (CoreMove c) ≡ true → Stands f s memory →
    Stands f' (plain_step s (CoreMove c)) (memory_after (plain_event s (CoreMove c)) memory)
worked_stands f f' s memory c before n n' e within is new program same home words nodes event_is later worked on stands
    =
    moved_stands f f' s memory (CoreMove c) on stands
    (shows_core none_riding none_carrying tt f f' s c n' inside stands.holds.ports_there program same home nodes own_now
    stands.shows)
    (subst (λ (m : ℕ → List ℕ). WordsKept s.image f'.home.items m)
    (ap (λ (x : Event). memory_after x memory) (sym event_is)) words)
  where
    inside : c < length s.cores
    inside = core_within f s c stands.shows within

    blocks : List ℕ
    blocks = blocks_of f.home.items

    m : Node
    m = node_at f.nodes.items c

    core : Core
    core = core_at s.cores c

    p : Port (Unit {0}) (Unit {0})
    p = port_at none_carrying s.memory.ports c

    own : NodeShows s.image blocks m core p
    own = stands.shows.nodes c inside

    new_is : n' ≡ node_after s.image m core before
    new_is = new ∙ (ap (λ (x : Node). node_after f.program x x.core before) is
        ∙ (ap (λ (i : Contents). node_after i m m.core before) stands.shows.image
        ∙ ap (λ (k : Core). node_after s.image m k before) own.core_is))

    own_now : NodeShows s.image blocks n' (core_after s.image (plain_event s (CoreMove c)) core)
        (port_worked none_riding none_carrying tt (need_access (need s.image core)) (plain_event s (CoreMove c)) p)
    own_now = node_same _ _ _ _ _ _ _ _ _ refl refl (ap (λ (x : Event). core_after s.image x core) event_is ∙ later)
        (ap (λ (x : Event). port_worked none_riding none_carrying tt (need_access (need s.image core)) x p) event_is
        ∙ worked (need_access (need s.image core)) p)
        (node_retired none_riding none_carrying tt s.image blocks m n' core before e p new_is own)

-- one that writes nothing
pub retired_stands : (f f' : Flat) (s : PlainState) (memory : ℕ → List ℕ) (c before : ℕ) (n n' : Node) (e : Event) →
    c < length f.nodes.items → n ≡ node_at f.nodes.items c →
    n' ≡ node_after f.program n n.core before →
    f'.program ≡ f.program → f'.home.items ≡ f.home.items → f'.nodes.items ≡ slice_set f.nodes.items c n' →
    plain_event s (CoreMove c) ≡ e →
    core_after s.image e (core_at s.cores c) ≡ after s.image (core_at s.cores c) before →
    ((needed : Option (Kind × ℕ)) (p : Port (Unit {0}) (Unit {0})) →
    port_worked none_riding none_carrying tt needed e p ≡ port_told none_riding none_carrying tt e p) →
    memory_after e memory ≡ memory →
    enabled none_riding none_carrying s (CoreMove c) ≡ true → Stands f s memory →
    Stands f' (plain_step s (CoreMove c)) (memory_after (plain_event s (CoreMove c)) memory)
retired_stands f f' s memory c before n n' e within is new program home nodes event_is later worked kept on stands =
    worked_stands f f' s memory c before n n' e within is new program (ap blocks_of home)
    (subst (λ (l : List HomeBlock). HomeShows tt l s.memory.home) (sym home) stands.shows.home)
    (rw (home, kept) stands.words) nodes event_is later worked on stands

-- the access as it is told, by parts that are the definition's
pub told_access : (image image' : Contents) (core core' : Core) (word : ℕ) (kind : Kind) (before before' value : ℕ)
    (at : Instr) → image ≡ image' → core ≡ core' → before ≡ before' → at ≡ next_instr core →
    value ≡ wrote image core before → ◌≡◌ {A = Access} (record {
      at = next_instr core';
      word = word;
      kind = kind;
      before = before';
      after = wrote image' core' before';
    }) (record { at = at; word = word; kind = kind; before = before; after = value })
told_access image image' core core' word kind before before' value at images cores befores at_is value_is =
    let at_now : at ≡ next_instr core' = at_is ∙ ap next_instr cores in
    let value_now : value ≡ wrote image' core' before' =
    value_is ∙ (λ i. wrote (images i) (cores i) (befores i)) in
    sym (λ i. record { at = at_now i; word = word; kind = kind; before = befores i; after = value_now i })

-- an instruction that looks at no data
local_event : (f : Flat) (s : PlainState) (c : ℕ) → c < length f.nodes.items →
    (node_at f.nodes.items c).need ≡ Local → Shows none_riding none_carrying f s →
    plain_event s (CoreMove c) ≡ Retires (next_instr (core_at s.cores c))
local_event f s c within local shows =
    ap (λ (x : Need). event_working_in (need_access x) (is_done x) s.image none_riding (core_at s.cores c)
    (port_at none_carrying s.memory.ports c)) (sym (own_node f s c shows within).need ∙ local)

pub local_told : (f : Flat) (s : PlainState) (c : ℕ) (n : Node) (at : Instr) → c < length f.nodes.items →
    n ≡ node_at f.nodes.items c → at ≡ next_instr n.core → (node_at f.nodes.items c).need ≡ Local →
    Shows none_riding none_carrying f s → plain_event s (CoreMove c) ≡ Retires at
local_told f s c n at within is at_is local shows =
    local_event f s c within local shows
    ∙ ap (λ (k : Core). Retires (next_instr k)) (sym (ap (λ (x : Node). x.core) is
    ∙ (own_node f s c shows within).core_is))
    ∙ ap Retires (sym at_is)

pub local_stands : (f f' : Flat) (s : PlainState) (memory : ℕ → List ℕ) (c : ℕ) (n n' : Node) →
    c < length f.nodes.items → n ≡ node_at f.nodes.items c → n' ≡ node_after f.program n n.core 0 →
    f'.program ≡ f.program → f'.home.items ≡ f.home.items → f'.nodes.items ≡ slice_set f.nodes.items c n' →
    (node_at f.nodes.items c).need ≡ Local →
    Stands f s memory → enabled none_riding none_carrying s (CoreMove c) ≡ true →
    Stands f' (plain_step s (CoreMove c)) (memory_after (plain_event s (CoreMove c)) memory)
local_stands f f' s memory c n n' within is new program home nodes local stands on =
    retired_stands f f' s memory c 0 n n' (Retires (next_instr (core_at s.cores c))) within is new program home nodes
    (local_event f s c within local stands.shows) refl (λ needed p. refl) refl on stands

-- ---- a load that hits

abbrev pub allowed_by : ℕ → LineState × ℕ → Bool
allowed_by block l = (l.1 == block) && is_readable l.0

pub block_of_hit : (b block : ℕ) (t : Bool) → ((b == block) && t) ≡ true → b ≡ block
block_of_hit b block t both = grind (arith, nat_tests)

pub readable_holds : (state : LineState) (t : Bool) → (t && is_readable state) ≡ true → state ≢ I
readable_holds state false both none = absurd (cc)
readable_holds state true both none =
    let now : false ≡ true = subst (λ (x : LineState). is_readable x ≡ true) none both in
    absurd (cc)

module _ (f : Flat) (s : PlainState) (memory : ℕ → List ℕ) (c word before : ℕ)
    (within : c < length f.nodes.items) (load : (node_at f.nodes.items c).need ≡ Load word)
    (hit : hits (node_at f.nodes.items c) (word / BLOCK_WORDS) ≡ true)
    (read : before ≡ slice_index (home_at f.home.items (line_at (node_at f.nodes.items c) (word / BLOCK_WORDS %
    LINES)).place).words (word % BLOCK_WORDS))
    (stands : Stands f s memory) where
  abbrev block : ℕ
  block = word / BLOCK_WORDS

  abbrev m : Node
  m = node_at f.nodes.items c

  inside : c < length s.cores
  inside = core_within f s c stands.shows within

  there : c < length s.memory.ports
  there = subst (λ (k : ℕ). c < k) (sym stands.holds.ports_there) inside

  abbrev core : Core
  core = core_at s.cores c

  abbrev p : Port (Unit {0}) (Unit {0})
  p = port_at none_carrying s.memory.ports c

  own : NodeShows s.image (blocks_of f.home.items) m core p
  own = stands.shows.nodes c inside

  abbrev a : Access
  a = access_of s.image none_riding core p word Loading

  needed : need s.image core ≡ Load word
  needed = sym own.need ∙ load

  allowed : allows none_riding p block Loading ≡ true
  allowed = ap (allowed_by block) (sym (line_is s.image (blocks_of f.home.items) m core p tt (block % LINES) own)) ∙
      hit

  event_is : plain_event s (CoreMove c) ≡ Accesses a
  event_is = ap (λ (x : Need). event_working_in (need_access x) (is_done x) s.image none_riding core p) needed
      ∙ ap (λ (t : Bool). if t then Accesses a else Nothing) allowed

  abbrev line : KeptLine
  line = line_at m (block % LINES)

  placed : (line.place < length (blocks_of f.home.items)) × (block_at (blocks_of f.home.items) line.place ≡
      line.block)
  placed = own.placed (block % LINES) (omega arith) (readable_holds line.state (line.block == block) hit)

  lies : line.place < length f.home.items
  lies = place_within f.home.items line.place placed.0

  block_there : (home_at f.home.items line.place).block ≡ block
  block_there = sym (block_is f.home.items line.place) ∙ (placed.1 ∙ block_of_hit line.block block
      (is_readable line.state) hit)

  words : (home_at f.home.items line.place).words ≡ (line_for tt p.cache block).words
  words = stands.words.here line.place lies ∙ (ap memory block_there ∙ sym (finds_words none_riding none_carrying
      s.memory c block Loading memory stands.holds.memory there allowed stands.coherent))

  before_is : before ≡ a.before
  before_is = read ∙ ap (λ (l : List ℕ). slice_index l (word % BLOCK_WORDS)) words

  pub load_stands : (f' : Flat) (n n' : Node) → n ≡ node_at f.nodes.items c →
      n' ≡ node_after f.program n n.core before →
      f'.program ≡ f.program → f'.home.items ≡ f.home.items → f'.nodes.items ≡ slice_set f.nodes.items c n' →
      enabled none_riding none_carrying s (CoreMove c) ≡ true →
      Stands f' (plain_step s (CoreMove c)) (memory_after (plain_event s (CoreMove c)) memory)
  load_stands f' n n' is new program home nodes on =
      retired_stands f f' s memory c before n n' (Accesses a) within is new program home nodes
      event_is (ap (after s.image core) (sym before_is)) (λ needed p. refl) refl on stands

  -- its access is told
  pub load_told : (n : Node) (at : Instr) (value : ℕ) → n ≡ node_at f.nodes.items c → at ≡ next_instr n.core →
      value ≡ wrote f.program n.core before → plain_event s (CoreMove c)
      ≡ Accesses (record { at = at; word = word; kind = Loading; before = before; after = value })
  load_told n at value is at_is value_is =
      event_is ∙ ap Accesses (told_access f.program s.image n.core core word Loading before a.before value at
      stands.shows.image (ap (λ (x : Node). x.core) is ∙ own.core_is) before_is at_is value_is)

-- what is looked at lies where it is looked for
pub load_placed : (f : Flat) (s : PlainState) (memory : ℕ → List ℕ) (c word : ℕ) (n : Node) →
    c < length f.nodes.items → n ≡ node_at f.nodes.items c →
    hits (node_at f.nodes.items c) (word / BLOCK_WORDS) ≡ true → Stands f s memory →
    (line_at n (word / BLOCK_WORDS % LINES)).place < length f.home.items
load_placed f s memory c word n within is hit stands =
    let own = own_node f s c stands.shows within in
    let l = line_at (node_at f.nodes.items c) (word / BLOCK_WORDS % LINES) in
    let placed = own.placed (word / BLOCK_WORDS % LINES) (omega arith)
    (readable_holds l.state (l.block == word / BLOCK_WORDS) hit) in
    subst (λ (x : Node). (line_at x (word / BLOCK_WORDS % LINES)).place < length f.home.items) (sym is)
    (place_within f.home.items l.place placed.0)

-- what is read there is the word of the block's entry
pub load_read : (f : Flat) (s : PlainState) (memory : ℕ → List ℕ) (c word : ℕ) (n : Node) (b : HomeBlock) →
    c < length f.nodes.items → n ≡ node_at f.nodes.items c →
    b ≡ get_or f.home.items (line_at n (word / BLOCK_WORDS % LINES)).place b →
    hits (node_at f.nodes.items c) (word / BLOCK_WORDS) ≡ true → Stands f s memory →
    slice_index b.words (word % BLOCK_WORDS)
    ≡ slice_index (home_at f.home.items (line_at (node_at f.nodes.items c) (word / BLOCK_WORDS % LINES)).place).words
    (word % BLOCK_WORDS)
load_read f s memory c word n b within is found hit stands =
    let place : Node → ℕ = λ (x : Node). (line_at x (word / BLOCK_WORDS % LINES)).place in
    ap (λ (x : HomeBlock). slice_index x.words (word % BLOCK_WORDS))
    (in_home f.home.items (place n) b (load_placed f s memory c word n within is hit stands) found)
    ∙ ap (λ (x : Node). slice_index (home_at f.home.items (place x)).words (word % BLOCK_WORDS)) is
