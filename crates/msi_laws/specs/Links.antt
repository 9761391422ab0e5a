-- What the memory system shows of each block, with whole messages, and that this is the picture of a block of which a
-- property holds.
use Rattle.std.specs.Prelude.{◌≡◌, ◌≢◌, ℕ, ◌<◌, ◌==◌, Bool, true, false, List, [], ◌∷◌, slice_set, if◌then◌else◌}
use Rattle.access_times.specs.Riding.{Riding, Carrying}
use Rattle.rtr_types.specs.Accesses.{is_write}
use Rattle.rtr_types.specs.declared.TheConstants.{CORES_MAX}
use Rattle.rtr_types.specs.declared.access.Kind.{Kind}
use Rattle.msi_cache.specs.declared.line.Line.{Line}
use Rattle.msi_cache.specs.declared.line.State.TheVariants.{I}
use Rattle.msi_cache.specs.Lines.{line_for}
use Rattle.msi_cache.specs.Messages.{block_of, request_block, response_block}
use Rattle.msi_directory.specs.Blocks.{entry_at}
use Rattle.msi_protocol.specs.Seats.{FullBlock, PhasesFit, accessing, allows}
use Rattle.msi_protocol.specs.Showing.{Shows}
use Rattle.msi_protocol.specs.Shown.{Payload, Sight}
use Rattle.msi_memory.specs.declared.port.Mail.{Mail}
use Rattle.msi_memory.specs.declared.port.Port.{Port}
use Rattle.msi_memory.specs.Memories.{Memory, port_at}
use Rattle.msi_laws.specs.Sights.{cons_if}

-- those of the messages that are about the block, oldest first
abbrev pub of_block : {T K : Type 0} → (T → ℕ) → ℕ → List (Mail T K) → List T
of_block block b [] = []
of_block block b (mail ∷ rest) = cons_if (block mail.item == b) mail.item (of_block block b rest)

-- a line as it is for a block: one that holds another block holds nothing of it
abbrev pub line_if : {R : Type 0} → Bool → ℕ → Line R → Line R
line_if true b l = l
line_if false b l = record { state = I; block = b; words = l.words; rider = l.rider }

abbrev pub line_here : {R : Type 0} → ℕ → Line R → Line R
line_here b l = line_if (l.block == b) b l

module _ {R K : Type 0} where
  -- what a port shows of a block: its line for it, and the whole messages about it
  abbrev pub port_sight : Riding R → ℕ → Port R K → Sight R
  port_sight riding b p =
      record {
        line = line_here b (line_for riding.fresh p.cache b);
        requests = of_block request_block b p.requests.items;
        responses = of_block response_block b p.responses.items;
        messages = of_block block_of b p.messages.items;
      }

  -- the copy of a block that a port has
  abbrev pub payload_at : Riding R → Port R K → ℕ → Payload R
  payload_at riding p b =
      record {
        words = (line_for riding.fresh p.cache b).words;
        rider = (line_for riding.fresh p.cache b).rider;
      }

-- each block of the memory system shows one that has the property; the property may speak of its number
pub record AllShow {R K : Type 0} (riding : Riding R) (carrying : Carrying K) (Q : ℕ → FullBlock (Payload R) → Type 0)
    (m : Memory R K) : Type 0 where
  pub blocks : (b : ℕ) → Shows (Q b) b (entry_at riding.fresh m.home b)
      (λ d. port_sight riding b (port_at carrying m.ports d))

-- a line's words after an access of this kind, which left this value in the slot if it writes
abbrev pub words_left : Kind → List ℕ → (slot value : ℕ) → List ℕ
words_left kind words slot value = if is_write kind then slice_set words slot value else words

-- where blocks have the property Q, they have P after an access of core c to the block that its line allows,
-- which finds the old copy there and leaves the new one
pub record TouchGives {R : Type 0} (Q P : ℕ → FullBlock (Payload R) → Type 0) (c block : ℕ) (kind : Kind)
    (old new : Payload R) : Type 0 where
  pub here : (bl : FullBlock (Payload R)) → c < CORES_MAX → PhasesFit bl → (bl.seats c).line ≡ old
      → allows kind (bl.seats c).phase ≡ true → Q block bl → P block (accessing c new bl)
  pub elsewhere : (b : ℕ) (bl : FullBlock (Payload R)) → b ≢ block → Q b bl → P b bl
