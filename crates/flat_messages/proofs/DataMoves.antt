-- A core takes a block's data and retires the instruction that waited for them: its node is another, and one word of
-- the block's entry may be.
use Rattle.std.proofs.Common.{◌≡◌, ◌∙◌, refl, sym, ap, subst, ℕ, ◌<◌, ◌==◌, ◌/◌, ◌%◌, Bool, true, false}
use Rattle.std.proofs.Common.{List, ◌∷◌, length, arith, Option, Some}
use Rattle.std.specs.Prelude.{◌&&◌, if◌then◌else◌, is_some, not, slice_index, slice_set}
use Rattle.std.proofs.lemmas.Bool.Decides.{nat_tests}
use Rattle.std.proofs.lemmas.List.{set-get_or}
use Rattle.access_times.specs.Riding.{none_riding, none_carrying}
use Rattle.image_mem.specs.Contents.{Contents}
use Rattle.rtr_types.proofs.Lists.{some_same}
use Rattle.rtr_types.specs.Accesses.{is_write}
use Rattle.rtr_types.specs.declared.TheConstants.{BLOCK_WORDS, LINES}
use Rattle.rtr_types.specs.declared.access.Access.{Access}
use Rattle.rtr_types.specs.declared.access.Kind.{Kind}
use Rattle.rtr_types.specs.declared.instr.Instr.{Instr}
use Rattle.rv_core.specs.Steps.{after, is_done, need, wrote, access_of as need_access}
use Rattle.rv_core.specs.declared.core_state.Core.{Core}
use Rattle.rv_core.specs.declared.core_state.Need.{Need}
use Rattle.rv_core.specs.declared.core_state.Need.TheVariants.{Local, Load, Store, Amo, Done}
use Rattle.msi_cache.specs.Lines.{line_for}
use Rattle.msi_cache.specs.Messages.{block_of}
use Rattle.msi_cache.specs.Table.{Signal, row}
use Rattle.msi_cache.specs.declared.line.State.{State as LineState}
use Rattle.msi_cache.specs.declared.line.State.TheVariants.{I, S, M, IsD, ImD, SmD, MiA, SiA, IiA}
use Rattle.msi_memory.specs.Memories.{port_at}
use Rattle.msi_memory.specs.declared.port.Port.{Port}
use Rattle.msi_laws.proofs.Awaits.{Granted, data_granted}
use Rattle.msi_laws.proofs.PortsAndBlocks.{message_row}
use Rattle.msi_laws.specs.Waits.{Awaited, serves}
use Rattle.msi_laws.specs.Words.{memory_by}
use Rattle.msi_state.specs.declared.moves.Move.TheVariants.{FromHome as MessageMove}
use Rattle.msi_state.specs.Events.{Accesses, Event, Nothing, access_of, event_working_in, next_instr, port_taken}
use Rattle.msi_state.specs.Runs.{plain_event, plain_step}
use Rattle.msi_state.specs.States.{PlainState, core_at}
use Rattle.msi_state.specs.Steps.{enabled}
use Rattle.machine_data.specs.Coherent.{Finds, memory_after}
use Rattle.machine_data.proofs.WordSteps.{step_works}
use Rattle.machine_invariant.proofs.StepFrame.{core_after, port_told}
use Rattle.flat_state.specs.declared.block.HomeBlock.{HomeBlock}
use Rattle.flat_state.specs.declared.flat.Flat.{Flat}
use Rattle.flat_state.specs.declared.message_ring.Message.{Message}
use Rattle.flat_state.specs.declared.message_ring.Told.TheVariants.{Data}
use Rattle.flat_state.specs.declared.node.Node.{Node}
use Rattle.flat_state.specs.Shows.{HomeShows, NodeShows, Stands, WordsKept, blocks_of, home_at, no_block, node_after}
use Rattle.flat_state.specs.Shows.{node_at}
use Rattle.flat_state.specs.Shows.{told_as}
use Rattle.flat_state.proofs.Frames.{moved_stands, node_same, shows_message}
use Rattle.flat_state.proofs.HomeBlocks.{block_is, blocks_same}
use Rattle.flat_state.proofs.NodeReads.{core_within}
use Rattle.flat_state.proofs.Retired.{node_retired}
use Rattle.flat_cores.specs.Needs.{kind_of}
use Rattle.flat_cores.proofs.Hits.{told_access}
use Rattle.flat_cores.proofs.Writes.{block_with, home_words, words_stored}
use Rattle.flat_messages.specs.Heard.{is_data, left_by, node_heard, word_of, writes}
use Rattle.flat_messages.proofs.WordMoves.{can_hear, data_comes, first_mail, heard_event, own_shows, port_inside}
use Rattle.flat_messages.proofs.WordMoves.{taken_shows, told_lies}

-- a need that is an access is to this word, and writes as its kind does
needed_word : (x : Need) (kind : Kind) (word : ℕ) → need_access x ≡ Some (kind, word) →
    (word_of x ≡ word) × (writes x ≡ is_write kind) × (is_done x ≡ false) × (kind_of x ≡ kind)
needed_word Local kind word is = absurd (cc)
needed_word (Load at) kind word is =
    let same = some_same _ _ is in (
      ap (λ (k : Kind × ℕ). k.1) same,
      ap (λ (k : Kind × ℕ). is_write k.0) same,
      refl,
      ap (λ (k : Kind × ℕ). k.0) same,
    )
needed_word (Store at whole) kind word is =
    let same = some_same _ _ is in (
      ap (λ (k : Kind × ℕ). k.1) same,
      ap (λ (k : Kind × ℕ). is_write k.0) same,
      refl,
      ap (λ (k : Kind × ℕ). k.0) same,
    )
needed_word (Amo at) kind word is =
    let same = some_same _ _ is in (
      ap (λ (k : Kind × ℕ). k.1) same,
      ap (λ (k : Kind × ℕ). is_write k.0) same,
      refl,
      ap (λ (k : Kind × ℕ). k.0) same,
    )
needed_word (Done stop) kind word is = absurd (cc)

and_second : (a b : Bool) → (a && b) ≡ true → b ≡ true
and_second true b e = e
and_second false b e = absurd (cc)

-- a line that data come for is that of the block which its access needs
filled_block : (state : LineState) (write : Bool) (l i b : ℕ) → is_some (row Signal.BlockData state) ≡ true →
    serves state write l i b ≡ true → l ≡ b
filled_block IsD write l i b there serve = same l b (and_second (not write) (l == b) serve)
  where
    same : (x y : ℕ) → (x == y) ≡ true → x ≡ y
    same x y e = grind (arith, nat_tests)
filled_block ImD write l i b there serve = same l b (and_second write (l == b) serve)
  where
    same : (x y : ℕ) → (x == y) ≡ true → x ≡ y
    same x y e = grind (arith, nat_tests)
filled_block SmD write l i b there serve = same l b (and_second write (l == b) serve)
  where
    same : (x y : ℕ) → (x == y) ≡ true → x ≡ y
    same x y e = grind (arith, nat_tests)
filled_block I write l i b there serve = absurd (cc)
filled_block S write l i b there serve = absurd (cc)
filled_block M write l i b there serve = absurd (cc)
filled_block MiA write l i b there serve = absurd (cc)
filled_block SiA write l i b there serve = absurd (cc)
filled_block IiA write l i b there serve = absurd (cc)

-- the words after an access in one entry, which may write there
words_left : (image : Contents) (f f' : Flat) (s : PlainState) (place slot before value : ℕ) (kind : Kind)
    (memory : ℕ → List ℕ) → place < length f.home.items →
    before ≡ slice_index (home_at f.home.items place).words slot →
    f'.home.items ≡ slice_set f.home.items place (block_with (home_at f.home.items place)
    (slice_set (home_at f.home.items place).words slot (left_by (is_write kind) before value))) →
    HomeShows tt f.home.items s.memory.home → WordsKept image f.home.items memory →
    WordsKept image f'.home.items (memory_by (home_at f.home.items place).block slot kind value memory)
words_left image f f' s place slot before value kind memory lies read is shows kept = by (is_write kind) refl
  where
    b : HomeBlock
    b = home_at f.home.items place

    at : Bool → List HomeBlock
    at t = slice_set f.home.items place (block_with b (slice_set b.words slot (left_by t before value)))

    by : (t : Bool) → is_write kind ≡ t →
        WordsKept image f'.home.items (memory_by b.block slot kind value memory)
    by true writing =
        words_stored tt image f.home.items f'.home.items s.memory.home place slot value kind memory writing lies
        (is ∙ ap at writing) shows kept
    by false writing =
        let same : f'.home.items ≡ f.home.items =
        is ∙ (ap at writing
        ∙ (ap (λ (v : ℕ). slice_set f.home.items place (block_with b (slice_set b.words slot v))) read
        ∙ (ap (λ (ws : List ℕ). slice_set f.home.items place (block_with b ws)) (set-get_or b.words slot 0)
        ∙ set-get_or f.home.items place no_block))) in
        let by_write : Bool → ℕ → List ℕ = λ w x. if w && (x == b.block) then slice_set (memory x) slot value else
        memory x in
        let still : memory_by b.block slot kind value memory ≡ memory = ap by_write writing in
        subst (λ (m : ℕ → List ℕ). WordsKept image f'.home.items m) (sym still)
        (subst (λ (l : List HomeBlock). WordsKept image l memory) (sym same) kept)

module _ (f : Flat) (s : PlainState) (memory : ℕ → List ℕ) (c : ℕ) (n : Node) (m : Message) (later : List Message)
    (within : c < length f.nodes.items) (is : n ≡ node_at f.nodes.items c) (oldest : n.messages ≡ m ∷ later)
    (brings : m.told ≡ Data) (stands : Stands f s memory) where
  abbrev core : Core
  core = core_at s.cores c

  abbrev p : Port (Unit {0}) (Unit {0})
  p = port_at none_carrying s.memory.ports c

  abbrev taken : Port (Unit {0}) (Unit {0})
  taken = port_taken none_riding none_carrying p

  abbrev b0 : HomeBlock
  b0 = home_at f.home.items m.place

  there : c < length s.memory.ports
  there = port_inside f s memory c n m later within is oldest stands

  own : NodeShows s.image (blocks_of f.home.items) n core p
  own = own_shows f s memory c n m later within is oldest stands

  inside : c < length s.cores
  inside = core_within f s c stands.shows within

  awaited : Awaited (need_access (need s.image core)) none_riding p
  awaited = (stands.holds.cores c inside).awaited

  granted : Granted none_riding (need_access (need s.image core)) taken
  granted = data_granted none_riding none_carrying s.memory c (need_access (need s.image core)) stands.holds.memory
      there
      (data_comes f s memory c n m later within is oldest stands brings) awaited

  abbrev kind : Kind
  kind = granted.kind

  abbrev word : ℕ
  word = granted.word

  abbrev a : Access
  a = access_of s.image none_riding core taken word kind

  needs_it : need_access n.need ≡ Some (granted.kind, granted.word)
  needs_it = ap need_access own.need ∙ granted.needs

  pub need_going : is_done n.need ≡ false
  need_going = (needed_word n.need kind word needs_it).2

  event_is : plain_event s (MessageMove c) ≡ Accesses a
  event_is = heard_event f s memory c n m later within is oldest stands
      ∙ (ap (λ (t : Bool). if t then event_working_in (need_access (need s.image core)) (is_done (need s.image core))
      s.image none_riding core taken else Nothing) (ap is_data brings)
      ∙ (ap (λ (x : Option (Kind × ℕ)). event_working_in x (is_done (need s.image core)) s.image none_riding core taken)
      granted.needs
      ∙ ap (λ (t : Bool). if t then Accesses a else Nothing) granted.allowed))

  -- the data are those of the block that the access needs
  block_there : b0.block ≡ word / BLOCK_WORDS
  block_there =
      let first = first_mail f s memory c n m later within is oldest stands in
      let seen = message_row none_riding none_carrying s.memory c first.mail first.later there first.items_are
      stands.holds.memory in
      let old = line_for tt p.cache (block_of first.mail.item) in
      let waits : Awaited (Some (kind, word)) none_riding p =
      subst (λ (x : Option (Kind × ℕ)). Awaited x none_riding p) granted.needs awaited in
      sym (block_is f.home.items m.place) ∙ (sym first.block_is ∙ (sym seen.at
      ∙ filled_block old.state (is_write kind) old.block (block_of first.mail.item % LINES) (word / BLOCK_WORDS)
      (ap (λ (k : Signal). is_some (row k old.state)) (sym (first.kind ∙ ap told_as brings))
      ∙ seen.there) (waits (block_of first.mail.item % LINES))))

  on : enabled none_riding none_carrying s (MessageMove c) ≡ true
  on = can_hear f s memory c n m later within is oldest stands

  lies : m.place < length f.home.items
  lies = told_lies f s memory c n m later within is oldest stands

  abbrev slot : ℕ
  slot = word % BLOCK_WORDS

  word_is : word_of n.need ≡ word
  word_is = (needed_word n.need kind word needs_it).0

  -- what is read in the entry is what the access finds
  read_here : (b : HomeBlock) (before : ℕ) → b ≡ home_at f.home.items m.place →
      before ≡ slice_index b.words (word_of n.need % BLOCK_WORDS) → before ≡ slice_index b0.words slot
  read_here b before found read =
      read ∙ (ap (λ (x : HomeBlock). slice_index x.words (word_of n.need % BLOCK_WORDS)) found
      ∙ ap (λ (w : ℕ). slice_index b0.words (w % BLOCK_WORDS)) word_is)

  found_before : (b : HomeBlock) (before : ℕ) → b ≡ home_at f.home.items m.place →
      before ≡ slice_index b.words (word_of n.need % BLOCK_WORDS) → before ≡ a.before
  found_before b before found read =
      let finds : Finds (Accesses a) memory = subst (λ (e : Event). Finds e memory) event_is
      (step_works none_riding none_carrying s (MessageMove c) tt memory on stands.holds stands.coherent).finds in
      read_here b before found read ∙ (ap (λ (ws : List ℕ). slice_index ws slot) (stands.words.here m.place lies
      ∙ ap memory block_there) ∙ sym finds)

  -- the access is told
  pub data_told : (b : HomeBlock) (before value : ℕ) (at : Instr) → b ≡ home_at f.home.items m.place →
      before ≡ slice_index b.words (word_of n.need % BLOCK_WORDS) → value ≡ wrote f.program n.core before →
      at ≡ next_instr n.core → plain_event s (MessageMove c) ≡ Accesses (record {
        at = at;
        word = word_of n.need;
        kind = kind_of n.need;
        before = before;
        after = value;
      })
  data_told b before value at found read put at_is =
      event_is ∙ (ap Accesses (told_access f.program s.image n.core core word kind before a.before value at
      stands.shows.image own.core_is (found_before b before found read) at_is put)
      ∙ (λ i. Accesses (record {
        at = at;
        word = sym word_is i;
        kind = sym (needed_word n.need kind word needs_it).3 i;
        before = before;
        after = value;
      })))

  pub data_stands : (f' : Flat) (n1 n' : Node) (b : HomeBlock) (before value : ℕ) →
      b ≡ home_at f.home.items m.place → n1 ≡ node_heard n (b.block % LINES) m later →
      before ≡ slice_index b.words (word_of n.need % BLOCK_WORDS) →
      n' ≡ node_after f.program n1 n1.core before → value ≡ wrote f.program n1.core before →
      f'.program ≡ f.program →
      f'.home.items ≡ slice_set f.home.items m.place (block_with b (slice_set b.words (word_of n.need % BLOCK_WORDS)
      (left_by (writes n.need) before value))) →
      f'.nodes.items ≡ slice_set f.nodes.items c n' →
      Stands f' (plain_step s (MessageMove c)) (memory_after (plain_event s (MessageMove c)) memory)
  data_stands f' n1 n' b before value found heard_is read new put program home nodes =
      moved_stands f f' s memory (MessageMove c) on stands
      (shows_message none_riding none_carrying tt f f' s c n' inside stands.holds.ports_there program
      (blocks_same f.home.items f'.home.items m.place (block_with b0 words_now) home_is refl)
      (home_words tt f.home.items f'.home.items s.memory.home m.place words_now lies home_is stands.shows.home)
      nodes own_now stands.shows)
      (subst (λ (e : Event). WordsKept s.image f'.home.items (memory_after e memory)) (sym event_is)
      (subst (λ (x : ℕ). WordsKept s.image f'.home.items (memory_by x slot kind a.after memory)) block_there
      (words_left s.image f f' s m.place slot before a.after kind memory lies before_here home_is stands.shows.home
      stands.words)))
    where
      writes_is : writes n.need ≡ is_write kind
      writes_is = (needed_word n.need kind word needs_it).1

      before_here : before ≡ slice_index b0.words slot
      before_here = read_here b before found read

      before_is : before ≡ a.before
      before_is = found_before b before found read

      core_is : n1.core ≡ core
      core_is = ap (λ (x : Node). x.core) heard_is ∙ own.core_is

      value_is : value ≡ a.after
      value_is = put ∙ (ap (λ (i : Contents). wrote i n1.core before) stands.shows.image
          ∙ (ap (λ (k : Core). wrote s.image k before) core_is ∙ ap (wrote s.image core) before_is))

      words_now : List ℕ
      words_now = slice_set b0.words slot (left_by (is_write kind) before a.after)

      home_is : f'.home.items ≡ slice_set f.home.items m.place (block_with b0 words_now)
      home_is = home
          ∙ (ap (λ (x : HomeBlock). slice_set f.home.items m.place (block_with x (slice_set x.words
          (word_of n.need % BLOCK_WORDS) (left_by (writes n.need) before value)))) found
          ∙ (ap (λ (w : ℕ). slice_set f.home.items m.place (block_with b0 (slice_set b0.words (w % BLOCK_WORDS)
          (left_by (writes n.need) before value)))) word_is
          ∙ (ap (λ (t : Bool). slice_set f.home.items m.place (block_with b0 (slice_set b0.words slot
          (left_by t before value)))) writes_is
          ∙ ap (λ (v : ℕ). slice_set f.home.items m.place (block_with b0 (slice_set b0.words slot
          (left_by (is_write kind) before v)))) value_is)))

      heard_shown : NodeShows s.image (blocks_of f.home.items) n1 core taken
      heard_shown = taken_shows f s memory c n m later within is oldest stands n1 b.block
          (ap (λ (x : HomeBlock). x.block) found) heard_is

      new_is : n' ≡ node_after s.image n1 core before
      new_is = new ∙ (ap (λ (i : Contents). node_after i n1 n1.core before) stands.shows.image
          ∙ ap (λ (k : Core). node_after s.image n1 k before) core_is)

      own_now : NodeShows s.image (blocks_of f.home.items) n'
          (core_after s.image (plain_event s (MessageMove c)) core)
          (port_told none_riding none_carrying tt (plain_event s (MessageMove c)) taken)
      own_now = node_same _ _ _ _ _ _ _ _ _ refl refl
          (ap (λ (e : Event). core_after s.image e core) event_is ∙ ap (after s.image core) (sym before_is))
          (ap (λ (e : Event). port_told none_riding none_carrying tt e taken) event_is)
          (node_retired none_riding none_carrying tt s.image (blocks_of f.home.items) n1 n' core before (Accesses a)
          taken
          new_is heard_shown)
