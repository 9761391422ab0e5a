-- What the table does to a line and to the lines of a cache, for every type of riders.
use Rattle.std.specs.Prelude.{◌≡◌, ◌≢◌, ℕ, ◌%◌, ◌==◌, Bool, ◌&&◌, Option, Some, None, is_some, List, [], ◌∷◌}
use Rattle.std.specs.Prelude.{slice_index_or, slice_set, if◌then◌else◌}
use Rattle.std.specs.List.{list_any}
use Rattle.access_times.specs.Riding.{Riding}
use Rattle.rtr_types.specs.Accesses.{is_write}
use Rattle.rtr_types.specs.declared.access.Kind.{Kind}
use Rattle.msi_cache.specs.Table.{Effect, Keep, Take, TakeAbsorbing, Give, Row, row, Reply, Ask, WantRow, want_row}
use Rattle.msi_cache.specs.Table.{is_readable, is_writable, is_transient}
use Rattle.msi_cache.specs.Messages.{signal, block_of}
use Rattle.rtr_types.specs.declared.TheConstants.{LINES}
use Rattle.msi_cache.specs.declared.line.State.TheVariants.{I}
use Rattle.msi_cache.specs.declared.line.Line.{Line}
use Rattle.msi_cache.specs.declared.messages.FromHome.{FromHome}
use Rattle.msi_cache.specs.declared.messages.FromHome.TheVariants.{BlockData}
use Rattle.msi_cache.specs.declared.messages.Response.{Response}
use Rattle.msi_cache.specs.declared.messages.Response.TheVariants.{InvAck, OwnerData}
use Rattle.msi_cache.specs.declared.messages.Request.{Request}
use Rattle.msi_cache.specs.declared.messages.Request.TheVariants.{GetS, GetM, PutS, PutM}

module _ {R : Type 0} where
  -- the message is about the line's block, and the table has a row for the pair
  abbrev pub has_row : Line R → FromHome R → Bool
  has_row line m = (line.block == block_of m) && is_some (row (signal m) line.state)

  -- the words that a message brings, or else these
  abbrev pub words_of : FromHome R → List ℕ → List ℕ
  words_of (BlockData block words rider) old = words
  words_of _ old = old

  -- the rider that a message brings, or else this one
  abbrev pub rider_of : FromHome R → R → R
  rider_of (BlockData block words rider) old = rider
  rider_of _ old = old

  abbrev pub words_after : Effect → FromHome R → List ℕ → List ℕ
  words_after Keep m old = old
  words_after Take m old = words_of m old
  words_after TakeAbsorbing m old = words_of m old
  words_after Give m old = old

  abbrev pub rider_after : Riding R → Effect → FromHome R → R → R
  rider_after riding Keep m old = old
  rider_after riding Take m old = rider_of m old
  rider_after riding TakeAbsorbing m old = riding.absorbed (rider_of m old) old
  rider_after riding Give m old = riding.fresh

  abbrev pub line_by : Riding R → Option Row → FromHome R → Line R → Line R
  line_by riding None m line = line
  line_by riding (Some r) m line =
      record {
        state = r.next;
        block = line.block;
        words = words_after r.effect m line.words;
        rider = rider_after riding r.effect m line.rider;
      }

  -- the line after a message: another state, words and rider, and the same block
  abbrev pub line_after : Riding R → Line R → FromHome R → Line R
  line_after riding line m = line_by riding (row (signal m) line.state) m line

  -- a response has the words and the rider that the line had before the message
  abbrev pub response_of : Reply → Line R → Response R
  response_of Reply.InvAck line = InvAck line.block line.rider
  response_of Reply.OwnerData line = OwnerData line.block line.words line.rider

  abbrev pub replied : Option Reply → Line R → Option (Response R)
  replied None line = None
  replied (Some reply) line = Some (response_of reply line)

  abbrev pub answer_by : Option Row → Line R → Option (Response R)
  answer_by None line = None
  answer_by (Some r) line = replied r.answer line

  -- what the line before a message answers to it
  abbrev pub answer : Line R → FromHome R → Option (Response R)
  answer line m = answer_by (row (signal m) line.state) line

  -- the line holds the block's copy, and it may be read
  abbrev pub can_read : Line R → ℕ → Bool
  can_read line block = (line.block == block) && is_readable line.state

  -- the line holds the block's copy, and it may be written
  abbrev pub can_write : Line R → ℕ → Bool
  can_write line block = (line.block == block) && is_writable line.state

  -- an access of this kind may be made at the line now
  abbrev pub is_allowed : Line R → ℕ → Kind → Bool
  is_allowed line block kind = if is_write kind then can_write line block else can_read line block

  -- a Put is about the line's own block and has its copy with it; a Get is about the wanted block
  abbrev pub request_of : Ask → Line R → ℕ → Request R
  request_of Ask.GetS line block = GetS block
  request_of Ask.GetM line block = GetM block
  request_of Ask.PutS line block = PutS line.block line.rider
  request_of Ask.PutM line block = PutM line.block line.words line.rider

  -- a line that asks for a block is from then on that block's
  abbrev pub block_asking : Ask → Line R → ℕ → ℕ
  block_asking Ask.GetS line block = block
  block_asking Ask.GetM line block = block
  block_asking Ask.PutS line block = line.block
  block_asking Ask.PutM line block = line.block

  abbrev pub asks_by : Option WantRow → Line R → ℕ → Request R
  asks_by None line block = GetS block
  asks_by (Some r) line block = request_of r.ask line block

  abbrev pub line_asking_by : Option WantRow → Line R → ℕ → Line R
  line_asking_by None line block = line
  line_asking_by (Some r) line block = record line { state = r.next; block = block_asking r.ask line block }

  -- the row for an access that isn't allowed yet
  abbrev pub wanted : Line R → ℕ → Kind → Option WantRow
  wanted line block kind = want_row line.state (line.block == block) (is_write kind)

  -- what is asked of home, and what the line then is
  abbrev pub asks : Line R → ℕ → Kind → Request R
  asks line block kind = asks_by (wanted line block kind) line block

  abbrev pub line_asking : Line R → ℕ → Kind → Line R
  line_asking line block kind = line_asking_by (wanted line block kind) line block

  -- a line that holds nothing
  abbrev pub empty_line : R → Line R
  empty_line fresh = record { state = I; block = 0; words = 0 ∷ 0 ∷ 0 ∷ 0 ∷ []; rider = fresh }

  -- the line where a block's copy goes
  abbrev pub line_for : R → List (Line R) → ℕ → Line R
  line_for fresh lines block = slice_index_or lines (block % LINES) (empty_line fresh)

  -- the lines with another one where the block's copy goes
  abbrev pub lines_with : List (Line R) → ℕ → Line R → List (Line R)
  lines_with lines block line = slice_set lines (block % LINES) line

  -- some line waits for a message
  abbrev pub waits : List (Line R) → Bool
  waits lines = list_any (λ line. is_transient line.state) lines

  -- the lines after a message from home
  abbrev pub lines_after : Riding R → List (Line R) → FromHome R → List (Line R)
  lines_after riding lines m =
      lines_with lines (block_of m) (line_after riding (line_for riding.fresh lines (block_of m)) m)

  -- the lines after a request for the block was made
  abbrev pub lines_asking : Riding R → List (Line R) → ℕ → Kind → List (Line R)
  lines_asking riding lines block kind =
      lines_with lines block (line_asking (line_for riding.fresh lines block) block kind)

  -- the lines after a word of the block was written
  abbrev pub lines_put : R → List (Line R) → ℕ → ℕ → ℕ → List (Line R)
  lines_put fresh lines block slot value =
      let line = line_for fresh lines block in
      lines_with lines block (record line { words = slice_set line.words slot value })

  -- the lines with another rider on the block's copy
  abbrev pub lines_riding : R → List (Line R) → ℕ → R → List (Line R)
  lines_riding fresh lines block rider =
      lines_with lines block (record (line_for fresh lines block) { rider = rider })

  -- the two caches differ at most at the line where the block's copy goes
  abbrev pub SameElsewhere : R → List (Line R) → List (Line R) → ℕ → Type 0
  SameElsewhere fresh old new block =
      (other : ℕ) → other % LINES ≢ block % LINES → line_for fresh new other ≡ line_for fresh old other
