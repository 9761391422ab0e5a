-- The messages' kinds and blocks, for every type of riders.
use Rattle.std.specs.Prelude.{ℕ, Option, Some, None}
use Rattle.std.specs.Borrow.{Bor}
use Rattle.msi_cache.specs.Table.{Signal, Ask, Reply}
use Rattle.msi_cache.specs.declared.messages.FromHome.{FromHome}
use Rattle.msi_cache.specs.declared.messages.FromHome.TheVariants.{FwdGetS, FwdGetM, Inv, PutAck, BlockData}
use Rattle.msi_cache.specs.declared.messages.Response.{Response}
use Rattle.msi_cache.specs.declared.messages.Response.TheVariants.{InvAck, OwnerData}
use Rattle.msi_cache.specs.declared.messages.Request.{Request}
use Rattle.msi_cache.specs.declared.messages.Request.TheVariants.{GetS, GetM, PutS, PutM}

module _ {R : Type 0} where
  -- the kind of a message from home
  abbrev pub signal : FromHome R → Signal
  signal (FwdGetS block) = Signal.FwdGetS
  signal (FwdGetM block) = Signal.FwdGetM
  signal (Inv block) = Signal.Inv
  signal (PutAck block) = Signal.PutAck
  signal (BlockData block words rider) = Signal.BlockData

  -- the kind of a request
  abbrev pub ask_of : Request R → Ask
  ask_of (GetS block) = Ask.GetS
  ask_of (GetM block) = Ask.GetM
  ask_of (PutS block rider) = Ask.PutS
  ask_of (PutM block words rider) = Ask.PutM

  -- the kind of a response
  abbrev pub reply_of : Response R → Reply
  reply_of (InvAck block rider) = Reply.InvAck
  reply_of (OwnerData block words rider) = Reply.OwnerData

  -- the block that a message from home is about
  abbrev pub block_of : FromHome R → ℕ
  block_of (FwdGetS block) = block
  block_of (FwdGetM block) = block
  block_of (Inv block) = block
  block_of (PutAck block) = block
  block_of (BlockData block words rider) = block

  -- the block that a request is about
  abbrev pub request_block : Request R → ℕ
  request_block (GetS block) = block
  request_block (GetM block) = block
  request_block (PutS block rider) = block
  request_block (PutM block words rider) = block

  -- the block that a response is about
  abbrev pub response_block : Response R → ℕ
  response_block (InvAck block rider) = block
  response_block (OwnerData block words rider) = block

module _ {A B : Type 0} where
  -- the request with another rider, made of its own
  abbrev pub request_with : (A → B) → Request A → Request B
  request_with f (GetS block) = GetS block
  request_with f (GetM block) = GetM block
  request_with f (PutS block rider) = PutS block (f rider)
  request_with f (PutM block words rider) = PutM block words (f rider)

  -- the response with another rider
  abbrev pub response_with : (A → B) → Response A → Response B
  response_with f (InvAck block rider) = InvAck block (f rider)
  response_with f (OwnerData block words rider) = OwnerData block words (f rider)

  -- the message from home with another rider
  abbrev pub message_with : (A → B) → FromHome A → FromHome B
  message_with f (FwdGetS block) = FwdGetS block
  message_with f (FwdGetM block) = FwdGetM block
  message_with f (Inv block) = Inv block
  message_with f (PutAck block) = PutAck block
  message_with f (BlockData block words rider) = BlockData block words (f rider)

module _ {R : Type 0} where
  -- a message whose rider is lent, as it is to be read: with the rider itself
  abbrev pub request_seen : Request (Bor R) → Request R
  request_seen request = request_with (λ rider. rider.now) request

  abbrev pub response_seen : Response (Bor R) → Response R
  response_seen response = response_with (λ rider. rider.now) response

  abbrev pub message_seen : FromHome (Bor R) → FromHome R
  message_seen message = message_with (λ rider. rider.now) message

  abbrev pub answer_seen : Option (Response (Bor R)) → Option (Response R)
  answer_seen None = None
  answer_seen (Some response) = Some (response_seen response)
