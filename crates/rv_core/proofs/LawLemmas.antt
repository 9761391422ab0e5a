-- The laws of a core's steps.
use Rattle.std.proofs.Common.{◌≡◌, ◌<◌, ℕ, ◌+◌, ◌^◌, Option, Some, None, refl, sym, ◌∙◌, ap, lit<}
use Rattle.rtr_types.specs.declared.access.Kind.{Kind}
use Rattle.rv_decode.specs.declared.op.Op.{Op}
use Rattle.image_mem.specs.Contents.{Contents}
use Rattle.rv_core.specs.declared.core_state.Core.{Core}
use Rattle.rv_core.specs.States.{starting, retired, word_after}
use Rattle.rv_core.specs.Steps.{need, after, wrote, is_done, access_of, instruction_at, after_instruction}
use Rattle.rv_core.specs.Steps.{word_after_instruction}
use Rattle.rv_core.specs.Laws.{StartLaw, CountLaw, NumberLaw, LimitLaw, RoomLaw, WithinLaw, LocalLaw, UnreadLaw}
use Rattle.rv_core.specs.Laws.{WholeLaw, WholeStoreLaw, LocalValueLaw}
use Rattle.rv_core.specs.Laws.{UnwrittenLaw, ValueLaw}
use Rattle.rv_core.proofs.StepLemmas.{GoesOnBy, goes_on}
use Rattle.rv_core.proofs.OpLemmas.{Accessing, access_goes, accessing, whole_store, covering, staying, word_after-below}

pub start_law : StartLaw
unfolding starting
start_law id limit = (refl, refl, refl)

count_by : (core : Core) (op : Option Op) (old : ℕ) → (after_instruction core op old).count ≡ core.count + 1
unfolding retired
count_by core None old = refl
count_by core (Some op) old = refl

number_by : (core : Core) (op : Option Op) (old : ℕ) → (after_instruction core op old).id ≡ core.id
unfolding retired
number_by core None old = refl
number_by core (Some op) old = refl

limit_by : (core : Core) (op : Option Op) (old : ℕ) → (after_instruction core op old).limit ≡ core.limit
unfolding retired
limit_by core None old = refl
limit_by core (Some op) old = refl

pub count_law : CountLaw
unfolding after
count_law image core old = count_by core (instruction_at image core.pc) old

pub number_law : NumberLaw
unfolding after
number_law image core old = number_by core (instruction_at image core.pc) old

pub limit_law : LimitLaw
unfolding after
limit_law image core old = limit_by core (instruction_at image core.pc) old

pub room_law : RoomLaw
room_law image core h = (goes_on image core h).1.room

-- the step by the instruction at pc
pub after-op : (image : Contents) (core : Core) (op : Op) (old : ℕ) → instruction_at image core.pc ≡ Some op
    → after image core old ≡ retired core op old
unfolding after
after-op image core op old e = rw e refl

pub wrote-op : (image : Contents) (core : Core) (op : Op) (old : ℕ) → instruction_at image core.pc ≡ Some op
    → wrote image core old ≡ word_after core op old
unfolding wrote
wrote-op image core op old e = rw e refl

-- the instruction by which a core makes an access
accesses_by : (image : Contents) (core : Core) (kind : Kind) (word : ℕ) → access_of (need image core) ≡ Some (
  kind,
  word,
)
    → (op : Op) × GoesOnBy image core op × Accessing image.words core op kind word
accesses_by image core kind word h =
    let (op, goes) = goes_on image core (access_goes _ kind word h) in
    (op, goes, accessing image.words core op kind word (sym (ap access_of goes.needs) ∙ h))

pub within_law : WithinLaw
within_law image core kind word h = (accesses_by image core kind word h).2.within

pub local_law : LocalLaw
local_law image core one other h =
    let (op, goes) = goes_on image core (ap is_done h) in
    let stays = staying image.words core op (sym goes.needs ∙ h) in
    after-op image core op one goes.at_pc ∙ stays.same one other ∙ sym (after-op image core op other goes.at_pc)

pub unread_law : UnreadLaw
unread_law image core kind word one other h blind =
    let (op, goes, accesses) = accesses_by image core kind word h in
    after-op image core op one goes.at_pc ∙ accesses.unread blind one other
    ∙ sym (after-op image core op other goes.at_pc)

pub whole_law : WholeLaw
whole_law image core one other h =
    let (word, stores) = whole_store (need image core) h in
    let (op, goes) = goes_on image core (ap is_done stores) in
    let same = covering image.words core op word (sym goes.needs ∙ stores) one other in
    wrote-op image core op one goes.at_pc ∙ same ∙ sym (wrote-op image core op other goes.at_pc)

pub whole_store_law : WholeStoreLaw
whole_store_law need h =
    let (word, stores) = whole_store need h in
    rw stores (refl, refl)

pub local_value_law : LocalValueLaw
local_value_law image core old h =
    let (op, goes) = goes_on image core (ap is_done h) in
    let stays = staying image.words core op (sym goes.needs ∙ h) in
    wrote-op image core op old goes.at_pc ∙ stays.nothing old

pub unwritten_law : UnwrittenLaw
unwritten_law image core kind word old h keeps =
    let (op, goes, accesses) = accesses_by image core kind word h in
    wrote-op image core op old goes.at_pc ∙ accesses.unwritten keeps old

value_by : (core : Core) (op : Option Op) (old : ℕ) → old < 2 ^ 32 → word_after_instruction core op old < 2 ^ 32
value_by core None old h = lit< tt
value_by core (Some op) old h = word_after-below core op old h

pub value_law : ValueLaw
unfolding wrote
value_law image core old h = value_by core (instruction_at image core.pc) old h
