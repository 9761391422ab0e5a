-- What holds of a core's steps whatever the instructions are: the layers above know a step by these laws.
-- An image, a core and a word's old value are any at all where nothing else is said.
use Rattle.std.specs.Prelude.{◌≡◌, ◌≢◌, ◌<◌, ℕ, ◌+◌, ◌^◌, true, false, Some}
use Rattle.rtr_types.specs.declared.access.Kind.{Kind}
use Rattle.rtr_types.specs.Accesses.{is_read, is_write}
use Rattle.image_mem.specs.Contents.{Contents}
use Rattle.rv_core.specs.declared.core_state.Core.{Core}
use Rattle.rv_core.specs.declared.core_state.Need.{Need}
use Rattle.rv_core.specs.declared.core_state.Need.TheVariants.{Local, Done}
use Rattle.rv_core.specs.declared.core_state.Stop.TheVariants.{Total}
use Rattle.rv_core.specs.Needs.{is_reading, is_writing}
use Rattle.rv_core.specs.States.{starting}
use Rattle.rv_core.specs.Steps.{need, after, wrote, is_done, is_whole, access_of}

-- a core starts with its number and limit and with no retired instruction
abbrev pub StartLaw : Type 0
StartLaw = (id limit : ℕ) →
    ((starting id limit).id ≡ id) × ((starting id limit).limit ≡ limit) × ((starting id limit).count ≡ 0)

-- a step counts one instruction more, and keeps the core's number and limit
abbrev pub CountLaw : Type 0
CountLaw = (image : Contents) (core : Core) (old : ℕ) → (after image core old).count ≡ core.count + 1

abbrev pub NumberLaw : Type 0
NumberLaw = (image : Contents) (core : Core) (old : ℕ) → (after image core old).id ≡ core.id

abbrev pub LimitLaw : Type 0
LimitLaw = (image : Contents) (core : Core) (old : ℕ) → (after image core old).limit ≡ core.limit

-- a core that isn't done is below its limit
abbrev pub RoomLaw : Type 0
RoomLaw = (image : Contents) (core : Core) → is_done (need image core) ≡ false → core.count < core.limit

-- the word of an access is one of the memory's
abbrev pub WithinLaw : Type 0
WithinLaw = (image : Contents) (core : Core) (kind : Kind) (word : ℕ) → access_of (need image core) ≡ Some (kind, word)
    → word < image.words

-- the core after a local instruction, and after an access that doesn't read, doesn't depend on what a word held
abbrev pub LocalLaw : Type 0
LocalLaw = (image : Contents) (core : Core) (one other : ℕ) → need image core ≡ Local
    → after image core one ≡ after image core other

abbrev pub UnreadLaw : Type 0
UnreadLaw = (image : Contents) (core : Core) (kind : Kind) (word one other : ℕ)
    → access_of (need image core) ≡ Some (kind, word) → is_read kind ≡ false
    → after image core one ≡ after image core other

-- a store of a whole word writes the same whatever the word held
abbrev pub WholeLaw : Type 0
WholeLaw = (image : Contents) (core : Core) (one other : ℕ) → is_whole (need image core) ≡ true
    → wrote image core one ≡ wrote image core other

-- and it writes and doesn't read
abbrev pub WholeStoreLaw : Type 0
WholeStoreLaw = (need : Need) → is_whole need ≡ true → (is_writing need ≡ true) × (is_reading need ≡ false)

-- a local instruction answers 0, and an access that doesn't write leaves its word as it was
abbrev pub LocalValueLaw : Type 0
LocalValueLaw = (image : Contents) (core : Core) (old : ℕ) → need image core ≡ Local → wrote image core old ≡ 0

abbrev pub UnwrittenLaw : Type 0
UnwrittenLaw = (image : Contents) (core : Core) (kind : Kind) (word old : ℕ)
    → access_of (need image core) ≡ Some (kind, word) → is_write kind ≡ false → wrote image core old ≡ old

-- a word stays a word
abbrev pub ValueLaw : Type 0
ValueLaw = (image : Contents) (core : Core) (old : ℕ) → old < 2 ^ 32 → wrote image core old < 2 ^ 32

-- a need never stops at the total
abbrev pub TotalLaw : Type 0
TotalLaw = (image : Contents) (core : Core) → need image core ≢ Done Total
