-- Rule: the home's table: request_row, response_row
-- The home controller's table, as data. It stands beside the directory's table of the Primer's
-- chapter 8 (Nagarajan, Sorin, Hill and Wood, 2nd edition), in the profile in which the home blocks
-- while it collects the acknowledgements or the owner's data, and then sends one BlockData. No rider
-- is in it. What becomes of the home's words and rider is the column of effects.
use Rattle.std.specs.Prelude.{ℕ, ◌==◌, Bool, true, false, Option, Some, None, if◌then◌else◌}
use Rattle.rtr_types.specs.declared.core_set.CoreSet.{CoreSet}
use Rattle.rtr_types.specs.CoreSets.{has, with_core, without_core, is_none, no_cores}
use Rattle.msi_cache.specs.Table.{Ask, Reply}
use Rattle.msi_directory.specs.declared.entry.Stage.{Stage}
use Rattle.msi_directory.specs.declared.entry.Stage.TheVariants.{Unshared, Shared, Owned, Acks, Data}

-- the one message that is sent, and to which core
pub data Send : Type 0 where
  NoMessage : Send
  FwdGetS : ℕ → Send
  FwdGetM : ℕ → Send
  PutAck : ℕ → Send
  BlockData : ℕ → Send

-- what a message does to the home's words and rider: nothing; the home's rider absorbs the message's;
-- or both are replaced by the message's
pub data HomeEffect : Type 0 where
  Keep : HomeEffect
  Absorb : HomeEffect
  Take : HomeEffect

-- the stage after the message, the cores to which Inv goes, what else is sent, and the effect
pub record HomeRow : Type 0 where
  pub next : Stage
  pub invalidate : CoreSet
  pub send : Send
  pub effect : HomeEffect

abbrev pub sending : Stage → Send → HomeEffect → Option HomeRow
sending next send effect = Some (record { next = next; invalidate = no_cores; send = send; effect = effect })

abbrev pub invalidating : CoreSet → Stage → Option HomeRow
invalidating set next = Some (record { next = next; invalidate = set; send = NoMessage; effect = Keep })

-- the stage in which these share the block
abbrev pub shared_by : CoreSet → Stage
shared_by set = if is_none set then Unshared else Shared set

-- core c is to own a block that these others share
abbrev pub own_from : CoreSet → ℕ → Option HomeRow
own_from others c =
    if is_none others then sending (Owned c) (BlockData c) Keep else invalidating others (Acks others c)

-- what a request from core c does, by the block's stage. A pair with no row never comes in a run, and
-- while the block is busy no request is taken.
abbrev pub request_row : Stage → ℕ → Ask → Option HomeRow
request_row Unshared c Ask.GetS = sending (Shared (with_core no_cores c)) (BlockData c) Keep
request_row Unshared c Ask.GetM = sending (Owned c) (BlockData c) Keep
request_row Unshared c Ask.PutS = sending Unshared (PutAck c) Keep
request_row Unshared c Ask.PutM = sending Unshared (PutAck c) Keep
request_row (Shared by) c Ask.GetS = sending (Shared (with_core by c)) (BlockData c) Keep
request_row (Shared by) c Ask.GetM = own_from (without_core by c) c
request_row (Shared by) c Ask.PutS =
    if has by c
    then sending (shared_by (without_core by c)) (PutAck c) Absorb
    else sending (Shared by) (PutAck c) Keep
request_row (Shared by) c Ask.PutM =
    if has by c
    then sending (shared_by (without_core by c)) (PutAck c) Keep
    else sending (Shared by) (PutAck c) Keep
request_row (Owned owner) c Ask.GetS = sending (Data owner c true) (FwdGetS owner) Keep
request_row (Owned owner) c Ask.GetM = sending (Data owner c false) (FwdGetM owner) Keep
request_row (Owned owner) c Ask.PutS =
    if c == owner then None else sending (Owned owner) (PutAck c) Keep
request_row (Owned owner) c Ask.PutM =
    if c == owner then sending Unshared (PutAck c) Take else sending (Owned owner) (PutAck c) Keep
request_row _ c ask = None

-- the acknowledgement of core c is counted: at the last one the requester owns the block
abbrev pub acknowledged : CoreSet → ℕ → Option HomeRow
acknowledged left requester =
    if is_none left
    then sending (Owned requester) (BlockData requester) Absorb
    else sending (Acks left requester) NoMessage Absorb

-- who has the block once its owner c has given its data for the requester
abbrev pub given : Bool → ℕ → ℕ → Stage
given true c requester = Shared (with_core (with_core no_cores c) requester)
given false c requester = Owned requester

-- what a response from core c does, by the block's stage. A pair with no row never comes in a run.
abbrev pub response_row : Stage → ℕ → Reply → Option HomeRow
response_row (Acks «of» requester) c Reply.InvAck =
    if has «of» c then acknowledged (without_core «of» c) requester else None
response_row (Data «of» requester share) c Reply.OwnerData =
    if c == «of» then sending (given share c requester) (BlockData requester) Take else None
response_row _ c reply = None

-- the block isn't busy: a request for it can be taken
abbrev pub is_free : Stage → Bool
is_free (Acks «of» requester) = false
is_free (Data «of» requester share) = false
is_free _ = true

-- the home's copy of a block that a cache owns is an old one, and nothing rides on it: a row that sends the block's
-- data to its new owner gives the home's rider away with them
abbrev pub gives : Stage → Send → Bool
gives (Owned owner) (BlockData core) = true
gives stage send = false

-- the core that owns the block
abbrev pub owner_of : Stage → Option ℕ
owner_of (Owned owner) = Some owner
owner_of _ = None
