-- A core's own move in which it asks for what its next instruction needs: only its node is another.
use Rattle.std.proofs.Common.{◌≡◌, ◌≢◌, ◌∙◌, ◌⊎◌, inl, inr, refl, sym, ap, subst, ℕ, ◌<◌, ◌==◌, ◌/◌, ◌%◌, Bool, true}
use Rattle.std.proofs.Common.{false}
use Rattle.std.proofs.Common.{List, [], ◌∷◌, ◌++◌, length, map, arith, Option, Some, None}
use Rattle.std.specs.Prelude.{slice_set, ◌&&◌, if◌then◌else◌}
use Rattle.std.proofs.lemmas.Bool.{cases_eq, eq-eqb}
use Rattle.std.proofs.lemmas.List.{get_or-set_same, get_or-set_other, length-map, map-set}
use Rattle.access_times.specs.Riding.{Riding, none_riding, none_carrying}
use Rattle.image_mem.specs.Contents.{Contents}
use Rattle.rtr_types.proofs.Truths.{first_true}
use Rattle.rtr_types.specs.Accesses.{is_write}
use Rattle.rtr_types.specs.declared.TheConstants.{BLOCK_WORDS, LINES}
use Rattle.rtr_types.specs.declared.access.Kind.{Kind}
use Rattle.rtr_types.specs.declared.access.Kind.TheVariants.{Load as Loading, Store as Storing, Amo as Exchanging}
use Rattle.rv_core.specs.Steps.{is_done, need, access_of as need_access}
use Rattle.rv_core.specs.declared.core_state.Core.{Core}
use Rattle.rv_core.specs.declared.core_state.Need.{Need}
use Rattle.rv_core.specs.declared.core_state.Need.TheVariants.{Local, Load, Store, Amo, Done}
use Rattle.msi_cache.specs.Lines.{block_asking, line_asking_by, line_for, asks_by, request_of, wanted}
use Rattle.msi_cache.specs.Messages.{ask_of, request_block}
use Rattle.msi_cache.specs.Table.{Ask as Asking, WantRow, is_readable, is_writable, want_row}
use Rattle.msi_cache.specs.declared.line.Line.{Line}
use Rattle.msi_cache.specs.declared.line.State.{State as LineState}
use Rattle.msi_cache.specs.declared.line.State.TheVariants.{I, S, M, IsD, ImD, SmD, MiA, SiA, IiA}
use Rattle.msi_memory.specs.Acts.{Act, Want, allows, can, can_all, port_asking}
use Rattle.msi_memory.specs.Memories.{port_at}
use Rattle.msi_memory.specs.declared.port.Mail.{Mail}
use Rattle.msi_memory.specs.declared.port.Port.{Port}
use Rattle.msi_cache.specs.declared.messages.Request.{Request}
use Rattle.msi_laws.proofs.Ready.{memory_ready}
use Rattle.msi_state.specs.declared.moves.Move.TheVariants.{Core as CoreMove}
use Rattle.msi_state.specs.Events.{Event, Nothing, Accesses, access_of, event_working_in}
use Rattle.msi_state.specs.Runs.{plain_event, plain_step}
use Rattle.msi_state.specs.States.{PlainState, core_at}
use Rattle.msi_state.specs.Steps.{acts_working, enabled}
use Rattle.machine_data.specs.Coherent.{memory_after}
use Rattle.machine_invariant.proofs.MoveInvariant.{acts_can}
use Rattle.machine_invariant.proofs.StepFrame.{core_after, port_worked}
use Rattle.flat_state.specs.declared.block.HomeBlock.{HomeBlock}
use Rattle.flat_state.specs.declared.flat.Flat.{Flat}
use Rattle.flat_state.specs.declared.node.Ask.{Ask}
use Rattle.flat_state.specs.declared.node.Ask.TheVariants.{GetS, GetM, PutS, PutM}
use Rattle.flat_state.specs.declared.node.KeptLine.{KeptLine}
use Rattle.flat_state.specs.declared.node.Node.{Node}
use Rattle.flat_state.specs.Shows.{HomeShows, NodeShows, Stands, WordsKept, asked_as, block_at, blocks_of, home_at}
use Rattle.flat_state.specs.Shows.{kept_line, line_at, no_line, node_at, seen_line, seen_request}
use Rattle.flat_state.proofs.Frames.{moved_stands, node_same, shows_core}
use Rattle.flat_state.proofs.HomeBlocks.{block_is}
use Rattle.flat_state.proofs.NodeReads.{core_within, line_is, own_node}
use Rattle.flat_cores.specs.Needs.{kind_of, get_of, getting, is_copy, leaving, looked, node_asked, put_of, written}
use Rattle.flat_cores.proofs.Writes.{hit_by, write_needed}

-- the block that a line of this block is for, once this is asked for it
abbrev pub asking_block : Asking → (own block : ℕ) → ℕ
asking_block Asking.GetS own block = block
asking_block Asking.GetM own block = block
asking_block Asking.PutS own block = own
asking_block Asking.PutM own block = own

abbrev pub row_of : Asking → LineState → WantRow
row_of ask next = record { ask = ask; next = next }

module _ {R : Type 0} where
  asked_block : (ask : Asking) (l : Line R) (block : ℕ) → block_asking ask l block ≡ asking_block ask l.block block
  asked_block Asking.GetS l block = refl
  asked_block Asking.GetM l block = refl
  asked_block Asking.PutS l block = refl
  asked_block Asking.PutM l block = refl

  asked_request : (ask : Asking) (l : Line R) (block : ℕ) →
      ◌≡◌ {A = Asking × ℕ} (ask_of (request_of ask l block), request_block (request_of ask l block))
      (ask, asking_block ask l.block block)
  asked_request Asking.GetS l block = refl
  asked_request Asking.GetM l block = refl
  asked_request Asking.PutS l block = refl
  asked_request Asking.PutM l block = refl

module _ {R K : Type 0} where
  -- the node shows the port that asked
  pub asked_shows : (riding : Riding R) (image : Contents) (blocks : List ℕ) (n : Node) (core : Core) (p : Port R K)
      (block : ℕ) (kind : Kind) (line : KeptLine) (ask : Ask) → length p.cache ≡ LINES → p.requests.items ≡ [] →
      want_row (line_at n (block % LINES)).state ((line_at n (block % LINES)).block == block) (is_write kind)
      ≡ Some (row_of (asked_as ask) line.state) →
      line.block ≡ asking_block (asked_as ask) (line_at n (block % LINES)).block block →
      line.place < length blocks → block_at blocks line.place ≡ line.block →
      NodeShows image blocks n core p →
      NodeShows image blocks (node_asked n (block % LINES) line ask) core (port_asking riding p block kind)
  asked_shows riding image blocks n core p block kind line ask long none row about lies there shows =
      record {
        core_is = shows.core_is;
        need = shows.need;
        op = shows.op;
        lines = map-set kept_line n.lines index line
            ∙ (ap (λ (ls : List (LineState × ℕ)). slice_set ls index (line.state, line.block)) shows.lines
            ∙ (ap (λ (x : LineState × ℕ). slice_set (map seen_line p.cache) index x) new_line
            ∙ sym (map-set seen_line p.cache index (line_asking_by (wanted old block kind) old block))));
        requests = ap (λ (b : ℕ). (asked_as ask, b) ∷ []) (there ∙ about_old)
            ∙ (ap (λ (x : Asking × ℕ). x ∷ []) (sym (asked_request (asked_as ask) old block))
            ∙ (ap (λ (w : Option WantRow). seen_request (record { item = asks_by w old block; carry = p.carry }) ∷ [])
            (sym row_old)
            ∙ ap (λ (items : List (Mail (Request R) K)). map seen_request (items ++ record {
              item = asks_by (wanted old block kind) old block;
              carry = p.carry;
            } ∷ [])) (sym none)));
        replies = shows.replies;
        messages = shows.messages;
        placed = λ i within some. placed_at i within some (cases_eq i index);
        asked = λ e. lies;
        replied = shows.replied;
        told = shows.told;
      }
    where
      index : ℕ
      index = block % LINES

      own : KeptLine
      own = line_at n index

      old : Line R
      old = line_for riding.fresh p.cache block

      same : kept_line own ≡ seen_line old
      same = line_is image blocks n core p riding.fresh index shows

      row_old : wanted old block kind ≡ Some (row_of (asked_as ask) line.state)
      row_old = ap (λ (x : LineState × ℕ). want_row x.0 (x.1 == block) (is_write kind)) (sym same) ∙ row

      about_old : line.block ≡ asking_block (asked_as ask) old.block block
      about_old = about ∙ ap (λ (x : LineState × ℕ). asking_block (asked_as ask) x.1 block) same

      new_line : ◌≡◌ {A = LineState × ℕ} (line.state, line.block)
          (seen_line (line_asking_by (wanted old block kind) old block))
      new_line =
          ap (λ (b : ℕ). (line.state, b)) (about_old ∙ sym (asked_block (asked_as ask) old block))
          ∙ ap (λ (w : Option WantRow). seen_line (line_asking_by w old block)) (sym row_old)

      lines_long : length n.lines ≡ LINES
      lines_long = sym (length-map n.lines kept_line) ∙ (ap length shows.lines ∙ (length-map p.cache seen_line ∙ long))

      new : Node
      new = node_asked n index line ask

      placed_at : (i : ℕ) → i < LINES → (line_at new i).state ≢ I → (i ≡ index) ⊎ (i ≢ index) →
          ((line_at new i).place < length blocks) × (block_at blocks (line_at new i).place ≡ (line_at new i).block)
      placed_at i within some (inl at) =
          let here : line_at new i ≡ line = ap (line_at new) at ∙ get_or-set_same n.lines index line no_line
          (subst (λ (k : ℕ). index < k) (sym lines_long) (omega arith)) in
          subst (λ (l : KeptLine). (l.place < length blocks) × (block_at blocks l.place ≡ l.block)) (sym here)
          (lies, there)
      placed_at i within some (inr apart) =
          let here : line_at new i ≡ line_at n i = get_or-set_other n.lines index i line no_line apart in
          subst (λ (l : KeptLine). (l.place < length blocks) × (block_at blocks l.place ≡ l.block)) (sym here)
          (shows.placed i within (λ none. some (ap (λ (l : KeptLine). l.state) here ∙ none)))

-- ---- the machine

no_items : {X : Type 0} (xs : List X) (room : ℕ) → length xs < room → room ≡ 1 → xs ≡ []
no_items [] room few one = refl
no_items (x ∷ xs) room few one = absurd (omega (arith, few, one))

module _ (f : Flat) (s : PlainState) (memory : ℕ → List ℕ) (c word : ℕ) (kind : Kind)
    (within : c < length f.nodes.items)
    (needs : need_access (node_at f.nodes.items c).need ≡ Some (kind, word))
    (missed : hit_by (is_write kind) (word / BLOCK_WORDS)
    (kept_line (line_at (node_at f.nodes.items c) (word / BLOCK_WORDS % LINES))) ≡ false)
    (stands : Stands f s memory) (on : enabled none_riding none_carrying s (CoreMove c) ≡ true) where
  abbrev block : ℕ
  block = word / BLOCK_WORDS

  inside : c < length s.cores
  inside = core_within f s c stands.shows within

  there : c < length s.memory.ports
  there = subst (λ (k : ℕ). c < k) (sym stands.holds.ports_there) inside

  abbrev core : Core
  core = core_at s.cores c

  abbrev p : Port (Unit {0}) (Unit {0})
  p = port_at none_carrying s.memory.ports c

  own : NodeShows s.image (blocks_of f.home.items) (node_at f.nodes.items c) core p
  own = stands.shows.nodes c inside

  needed : need_access (need s.image core) ≡ Some (kind, word)
  needed = ap need_access (sym own.need) ∙ needs

  not_allowed : allows none_riding p block kind ≡ false
  not_allowed = ap (hit_by (is_write kind) block)
      (sym (line_is s.image (blocks_of f.home.items) (node_at f.nodes.items c) core p tt (block % LINES) own)) ∙ missed

  pub nothing_told : plain_event s (CoreMove c) ≡ Nothing
  nothing_told = ap (λ (x : Option (Kind × ℕ)). event_working_in x (is_done (need s.image core)) s.image none_riding
      core
      p) needed
      ∙ ap (λ (t : Bool). if t then Accesses (access_of s.image none_riding core p word kind) else Nothing) not_allowed

  -- the memory system can be asked for it
  can_ask : can none_riding none_carrying s.memory (Want c block kind) ≡ true
  can_ask = first_true (can none_riding none_carrying s.memory (Want c block kind)) true
      (subst (λ (acts : List (Act (Unit {0}))). can_all none_riding none_carrying s.memory acts ≡ true)
      (ap (λ (e : Event). acts_working c tt (need_access (need s.image core)) e) nothing_told
      ∙ ap (λ (x : Option (Kind × ℕ)). acts_working c tt x Nothing) needed)
      (acts_can none_riding none_carrying s (CoreMove c) tt on stands.holds))

  no_request : p.requests.items ≡ []
  no_request = no_items p.requests.items p.requests.room ((memory_ready none_riding none_carrying s.memory
      stands.holds.memory).rooms (Want c block kind) can_ask) (stands.holds.memory.ports c there).requests_room

  pub asked_stands : (f' : Flat) (n n' : Node) (line : KeptLine) (ask : Ask) → n ≡ node_at f.nodes.items c →
      n' ≡ node_asked n (word / BLOCK_WORDS % LINES) line ask →
      want_row (line_at (node_at f.nodes.items c) (word / BLOCK_WORDS % LINES)).state
      ((line_at (node_at f.nodes.items c) (word / BLOCK_WORDS % LINES)).block == (word / BLOCK_WORDS)) (is_write kind)
      ≡ Some (row_of (asked_as ask) line.state) →
      line.block ≡ asking_block (asked_as ask)
      (line_at (node_at f.nodes.items c) (word / BLOCK_WORDS % LINES)).block (word / BLOCK_WORDS) →
      line.place < length (blocks_of f.home.items) → block_at (blocks_of f.home.items) line.place ≡ line.block →
      f'.program ≡ f.program → f'.home.items ≡ f.home.items → f'.nodes.items ≡ slice_set f.nodes.items c n' →
      Stands f' (plain_step s (CoreMove c)) (memory_after (plain_event s (CoreMove c)) memory)
  asked_stands f' n n' line ask is new row about lies placed program home nodes =
      moved_stands f f' s memory (CoreMove c) on stands
      (shows_core none_riding none_carrying tt f f' s c n' inside stands.holds.ports_there program (ap blocks_of home)
      (subst (λ (l : List HomeBlock). HomeShows tt l s.memory.home) (sym home) stands.shows.home) nodes own_now
      stands.shows)
      (subst (λ (e : Event). WordsKept s.image f'.home.items (memory_after e memory)) (sym nothing_told)
      (subst (λ (l : List HomeBlock). WordsKept s.image l memory) (sym home) stands.words))
    where
      new_is : n' ≡ node_asked (node_at f.nodes.items c) (block % LINES) line ask
      new_is = new ∙ ap (λ (x : Node). node_asked x (block % LINES) line ask) is

      own_now : NodeShows s.image (blocks_of f.home.items) n' (core_after s.image (plain_event s (CoreMove c)) core)
          (port_worked none_riding none_carrying tt (need_access (need s.image core)) (plain_event s (CoreMove c)) p)
      own_now = node_same _ _ _ _ _ _ _ _ _ refl new_is
          (ap (λ (e : Event). core_after s.image e core) nothing_told)
          (ap (λ (e : Event). port_worked none_riding none_carrying tt (need_access (need s.image core)) e p)
          nothing_told
          ∙ ap (λ (x : Option (Kind × ℕ)). port_worked none_riding none_carrying tt x Nothing p) needed)
          (asked_shows none_riding s.image (blocks_of f.home.items) (node_at f.nodes.items c) core p block kind line ask
          (stands.holds.memory.ports c there).all_lines no_request row about lies placed own)

-- ---- the rows

abbrev looked_kind : Kind → Option ℕ → Option (Kind × ℕ)
looked_kind kind None = None
looked_kind kind (Some w) = Some (kind, w)

-- an instruction that looks at a word needs an access to it, which writes where the block is to be owned
pub look_needed : (x : Need) (word : ℕ) → looked x ≡ Some word →
    (kind : Kind) × (need_access x ≡ Some (kind, word)) × ((same : Bool) → want_row I same (is_write kind)
    ≡ Some (row_of (asked_as (get_of x)) (getting x)))
look_needed Local word is = absurd (cc)
look_needed (Load at) word is = (Loading, ap (looked_kind Loading) is, λ same. refl)
look_needed (Store at whole) word is = (Storing, ap (looked_kind Storing) is, λ same. refl)
look_needed (Amo at) word is = (Exchanging, ap (looked_kind Exchanging) is, λ same. refl)
look_needed (Done stop) word is = absurd (cc)

pub get_block : (x : Need) (own block : ℕ) → asking_block (asked_as (get_of x)) own block ≡ block
get_block Local mine b = refl
get_block (Load at) mine b = refl
get_block (Store at whole) mine b = refl
get_block (Amo at) mine b = refl
get_block (Done stop) mine b = refl

pub put_row : (state : LineState) (writes : Bool) → is_copy state ≡ true →
    want_row state false writes ≡ Some (row_of (asked_as (put_of state)) (leaving state))
put_row S writes is = refl
put_row M writes is = refl
put_row I writes is = absurd (cc)
put_row IsD writes is = absurd (cc)
put_row ImD writes is = absurd (cc)
put_row SmD writes is = absurd (cc)
put_row MiA writes is = absurd (cc)
put_row SiA writes is = absurd (cc)
put_row IiA writes is = absurd (cc)

pub put_block : (state : LineState) (own block : ℕ) → asking_block (asked_as (put_of state)) own block ≡ own
put_block S mine b = refl
put_block M mine b = refl
put_block I mine b = refl
put_block IsD mine b = refl
put_block ImD mine b = refl
put_block SmD mine b = refl
put_block MiA mine b = refl
put_block SiA mine b = refl
put_block IiA mine b = refl

pub copy_holds : (state : LineState) → is_copy state ≡ true → state ≢ I
copy_holds state is none = let now : false ≡ true = subst (λ (x : LineState). is_copy x ≡ true) none is in absurd (cc)

-- ---- where nothing may be looked at

and_false : (t u : Bool) → u ≡ false → (t && u) ≡ false
and_false true u is = is
and_false false u is = refl

pub missed_empty : (write : Bool) (block : ℕ) (l : KeptLine) → l.state ≡ I →
    hit_by write block (kept_line l) ≡ false
missed_empty true b l is = and_false (l.block == b) (is_writable l.state) (ap is_writable is)
missed_empty false b l is = and_false (l.block == b) (is_readable l.state) (ap is_readable is)

pub missed_shared : (write : Bool) (block : ℕ) (l : KeptLine) → write ≡ true → l.state ≡ S →
    hit_by write block (kept_line l) ≡ false
missed_shared true b l writes is = and_false (l.block == b) (is_writable l.state) (ap is_writable is)
missed_shared false b l writes is = absurd (cc)

pub missed_other : (write : Bool) (block : ℕ) (l : KeptLine) → (l.block == block) ≡ false →
    hit_by write block (kept_line l) ≡ false
missed_other true b l other = ap (λ (t : Bool). t && is_writable l.state) other
missed_other false b l other = ap (λ (t : Bool). t && is_readable l.state) other

-- ---- the three ways to ask

pub ask_for_stands : (f f' : Flat) (s : PlainState) (memory : ℕ → List ℕ) (c word place : ℕ) (n n' : Node)
    (line : KeptLine) (ask : Ask) → c < length f.nodes.items → n ≡ node_at f.nodes.items c →
    looked (node_at f.nodes.items c).need ≡ Some word →
    (line_at (node_at f.nodes.items c) (word / BLOCK_WORDS % LINES)).state ≡ I →
    place < length f.home.items → (home_at f.home.items place).block ≡ word / BLOCK_WORDS →
    line.block ≡ word / BLOCK_WORDS → line.place ≡ place → line.state ≡ getting n.need → ask ≡ get_of n.need →
    n' ≡ node_asked n (word / BLOCK_WORDS % LINES) line ask →
    f'.program ≡ f.program → f'.home.items ≡ f.home.items → f'.nodes.items ≡ slice_set f.nodes.items c n' →
    Stands f s memory → enabled none_riding none_carrying s (CoreMove c) ≡ true →
    Stands f' (plain_step s (CoreMove c)) (memory_after (plain_event s (CoreMove c)) memory)
ask_for_stands f f' s memory c word place n n' line ask within is looks missing lies there about placed state asked new
    program home nodes stands on =
    asked_stands f s memory c word need_is.0 within need_is.1
    (missed_empty (is_write need_is.0) (word / BLOCK_WORDS) own missing) stands on f' n n' line ask is new row
    (about ∙ sym (ap (λ (a : Ask). asking_block (asked_as a) own.block (word / BLOCK_WORDS)) ask_is
    ∙ get_block m.need own.block (word / BLOCK_WORDS)))
    (subst (λ (k : ℕ). line.place < k) (sym (length-map f.home.items (λ (x : HomeBlock). x.block)))
    (subst (λ (k : ℕ). k < length f.home.items) (sym placed) lies))
    (ap (block_at (blocks_of f.home.items)) placed ∙ (block_is f.home.items place ∙ (there ∙ sym about)))
    program home nodes
  where
    m : Node
    m = node_at f.nodes.items c

    own : KeptLine
    own = line_at m (word / BLOCK_WORDS % LINES)

    need_is : (kind : Kind) × (need_access m.need ≡ Some (kind, word)) × ((same : Bool) → want_row I same (is_write
        kind)
        ≡ Some (row_of (asked_as (get_of m.need)) (getting m.need)))
    need_is = look_needed m.need word looks

    ask_is : ask ≡ get_of m.need
    ask_is = asked ∙ ap (λ (x : Node). get_of x.need) is

    row : want_row own.state (own.block == (word / BLOCK_WORDS)) (is_write need_is.0)
        ≡ Some (row_of (asked_as ask) line.state)
    row = ap (λ (x : LineState). want_row x (own.block == (word / BLOCK_WORDS)) (is_write need_is.0)) missing
        ∙ (need_is.2 (own.block == (word / BLOCK_WORDS))
        ∙ (ap (λ (x : Ask). Some (row_of (asked_as x) (getting m.need))) (sym ask_is)
        ∙ ap (λ (x : LineState). Some (row_of (asked_as ask) x))
        (sym (state ∙ ap (λ (x : Node). getting x.need) is))))

-- the place of a line that isn't in I is its block's
own_placed : (f : Flat) (s : PlainState) (memory : ℕ → List ℕ) (c i : ℕ) → c < length f.nodes.items → i < LINES →
    (line_at (node_at f.nodes.items c) i).state ≢ I → Stands f s memory →
    ((line_at (node_at f.nodes.items c) i).place < length (blocks_of f.home.items))
    × (block_at (blocks_of f.home.items) (line_at (node_at f.nodes.items c) i).place
    ≡ (line_at (node_at f.nodes.items c) i).block)
own_placed f s memory c i within inside some stands = (own_node f s c stands.shows within).placed i inside some

shared_holds : (state : LineState) → state ≡ S → state ≢ I
shared_holds state is none = let e : S ≡ I = sym is ∙ none in absurd (cc)

pub upgrade_stands : (f f' : Flat) (s : PlainState) (memory : ℕ → List ℕ) (c word : ℕ) (n n' : Node)
    (line : KeptLine) → c < length f.nodes.items → n ≡ node_at f.nodes.items c →
    written (node_at f.nodes.items c).need ≡ Some word →
    (line_at (node_at f.nodes.items c) (word / BLOCK_WORDS % LINES)).state ≡ S →
    (line_at (node_at f.nodes.items c) (word / BLOCK_WORDS % LINES)).block ≡ word / BLOCK_WORDS →
    line ≡ record (line_at n (word / BLOCK_WORDS % LINES)) { state = SmD } →
    n' ≡ node_asked n (word / BLOCK_WORDS % LINES) line GetM →
    f'.program ≡ f.program → f'.home.items ≡ f.home.items → f'.nodes.items ≡ slice_set f.nodes.items c n' →
    Stands f s memory → enabled none_riding none_carrying s (CoreMove c) ≡ true →
    Stands f' (plain_step s (CoreMove c)) (memory_after (plain_event s (CoreMove c)) memory)
upgrade_stands f f' s memory c word n n' line within is writes shared same line_eq new program home nodes stands on =
    asked_stands f s memory c word (kind_of m.need) within need_is.0
    (missed_shared (is_write (kind_of m.need)) (word / BLOCK_WORDS) own need_is.1 shared) stands on f' n n' line GetM is
    new row
    (ap (λ (l : KeptLine). l.block) line_own ∙ same)
    (subst (λ (l : KeptLine). l.place < length (blocks_of f.home.items)) (sym line_own) placed.0)
    (subst (λ (l : KeptLine). block_at (blocks_of f.home.items) l.place ≡ l.block) (sym line_own) placed.1)
    program home nodes
  where
    m : Node
    m = node_at f.nodes.items c

    own : KeptLine
    own = line_at m (word / BLOCK_WORDS % LINES)

    line_own : line ≡ record own { state = SmD }
    line_own = line_eq ∙ ap (λ (x : Node). record (line_at x (word / BLOCK_WORDS % LINES)) { state = SmD }) is

    placed : (own.place < length (blocks_of f.home.items)) × (block_at (blocks_of f.home.items) own.place ≡ own.block)
    placed = own_placed f s memory c (word / BLOCK_WORDS % LINES) within (omega arith) (shared_holds own.state shared)
        stands

    need_is : (need_access m.need ≡ Some (kind_of m.need, word)) × (is_write (kind_of m.need) ≡ true)
    need_is = write_needed m.need word writes

    here : (own.block == (word / BLOCK_WORDS)) ≡ true
    here = eq-eqb own.block (word / BLOCK_WORDS) same

    row : want_row own.state (own.block == (word / BLOCK_WORDS)) (is_write (kind_of m.need))
        ≡ Some (row_of (asked_as GetM) line.state)
    row = ap (λ (x : LineState). want_row x (own.block == (word / BLOCK_WORDS)) (is_write (kind_of m.need))) shared
        ∙ (ap (λ (t : Bool). want_row S t (is_write (kind_of m.need))) here
        ∙ (ap (λ (t : Bool). want_row S true t) need_is.1
        ∙ ap (λ (l : KeptLine). Some (row_of Asking.GetM l.state)) (sym line_own)))

pub give_back_stands : (f f' : Flat) (s : PlainState) (memory : ℕ → List ℕ) (c word : ℕ) (n n' : Node)
    (line : KeptLine) (ask : Ask) (state : LineState) → c < length f.nodes.items → n ≡ node_at f.nodes.items c →
    looked (node_at f.nodes.items c).need ≡ Some word →
    is_copy (line_at (node_at f.nodes.items c) (word / BLOCK_WORDS % LINES)).state ≡ true →
    ((line_at (node_at f.nodes.items c) (word / BLOCK_WORDS % LINES)).block == (word / BLOCK_WORDS)) ≡ false →
    line ≡ record (line_at n (word / BLOCK_WORDS % LINES)) { state = state } →
    state ≡ leaving (line_at n (word / BLOCK_WORDS % LINES)).state →
    ask ≡ put_of (line_at n (word / BLOCK_WORDS % LINES)).state →
    n' ≡ node_asked n (word / BLOCK_WORDS % LINES) line ask →
    f'.program ≡ f.program → f'.home.items ≡ f.home.items → f'.nodes.items ≡ slice_set f.nodes.items c n' →
    Stands f s memory → enabled none_riding none_carrying s (CoreMove c) ≡ true →
    Stands f' (plain_step s (CoreMove c)) (memory_after (plain_event s (CoreMove c)) memory)
give_back_stands f f' s memory c word n n' line ask state within is looks copy other line_eq state_eq ask_eq new program
    home nodes stands on =
    asked_stands f s memory c word need_is.0 within need_is.1
    (missed_other (is_write need_is.0) (word / BLOCK_WORDS) own other) stands on f' n n' line ask is new row
    (ap (λ (l : KeptLine). l.block) line_own ∙ sym (ap (λ (a : Ask). asking_block (asked_as a) own.block
    (word / BLOCK_WORDS)) ask_own ∙ put_block own.state own.block (word / BLOCK_WORDS)))
    (subst (λ (l : KeptLine). l.place < length (blocks_of f.home.items)) (sym line_own) placed.0)
    (subst (λ (l : KeptLine). block_at (blocks_of f.home.items) l.place ≡ l.block) (sym line_own) placed.1)
    program home nodes
  where
    m : Node
    m = node_at f.nodes.items c

    own : KeptLine
    own = line_at m (word / BLOCK_WORDS % LINES)

    line_own : line ≡ record own { state = leaving own.state }
    line_own = line_eq
        ∙ (ap (λ (x : LineState). record (line_at n (word / BLOCK_WORDS % LINES)) { state = x }) state_eq
        ∙ ap (λ (x : Node). record (line_at x (word / BLOCK_WORDS % LINES)) {
          state = leaving (line_at x (word / BLOCK_WORDS % LINES)).state;
        }) is)

    ask_own : ask ≡ put_of own.state
    ask_own = ask_eq ∙ ap (λ (x : Node). put_of (line_at x (word / BLOCK_WORDS % LINES)).state) is

    placed : (own.place < length (blocks_of f.home.items)) × (block_at (blocks_of f.home.items) own.place ≡ own.block)
    placed = own_placed f s memory c (word / BLOCK_WORDS % LINES) within (omega arith) (copy_holds own.state copy)
        stands

    need_is : (kind : Kind) × (need_access m.need ≡ Some (kind, word)) × ((same : Bool) → want_row I same (is_write
        kind)
        ≡ Some (row_of (asked_as (get_of m.need)) (getting m.need)))
    need_is = look_needed m.need word looks

    row : want_row own.state (own.block == (word / BLOCK_WORDS)) (is_write need_is.0)
        ≡ Some (row_of (asked_as ask) line.state)
    row = ap (λ (t : Bool). want_row own.state t (is_write need_is.0)) other
        ∙ (put_row own.state (is_write need_is.0) copy
        ∙ (ap (λ (x : Ask). Some (row_of (asked_as x) (leaving own.state))) (sym ask_own)
        ∙ ap (λ (l : KeptLine). Some (row_of (asked_as ask) l.state)) (sym line_own)))

-- ---- an ask tells nothing

module _ (f : Flat) (s : PlainState) (memory : ℕ → List ℕ) (c word : ℕ) (within : c < length f.nodes.items)
    (stands : Stands f s memory) (on : enabled none_riding none_carrying s (CoreMove c) ≡ true) where
  abbrev asker : Node
  asker = node_at f.nodes.items c

  abbrev asked_line : KeptLine
  asked_line = line_at (node_at f.nodes.items c) (word / BLOCK_WORDS % LINES)

  pub ask_for_told : looked (node_at f.nodes.items c).need ≡ Some word →
      (line_at (node_at f.nodes.items c) (word / BLOCK_WORDS % LINES)).state ≡ I →
      plain_event s (CoreMove c) ≡ Nothing
  ask_for_told looks missing =
      let need_is = look_needed asker.need word looks in
      nothing_told f s memory c word need_is.0 within need_is.1
      (missed_empty (is_write need_is.0) (word / BLOCK_WORDS) asked_line missing) stands on

  pub upgrade_told : written (node_at f.nodes.items c).need ≡ Some word →
      (line_at (node_at f.nodes.items c) (word / BLOCK_WORDS % LINES)).state ≡ S →
      plain_event s (CoreMove c) ≡ Nothing
  upgrade_told writes shared =
      let need_is = write_needed asker.need word writes in
      nothing_told f s memory c word (kind_of asker.need) within need_is.0
      (missed_shared (is_write (kind_of asker.need)) (word / BLOCK_WORDS) asked_line need_is.1 shared) stands on

  pub give_back_told : looked (node_at f.nodes.items c).need ≡ Some word →
      ((line_at (node_at f.nodes.items c) (word / BLOCK_WORDS % LINES)).block == (word / BLOCK_WORDS)) ≡ false →
      plain_event s (CoreMove c) ≡ Nothing
  give_back_told looks other =
      let need_is = look_needed asker.need word looks in
      nothing_told f s memory c word need_is.0 within need_is.1
      (missed_other (is_write need_is.0) (word / BLOCK_WORDS) asked_line other) stands on
