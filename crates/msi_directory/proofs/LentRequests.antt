-- A request whose rider is lent is about the block that it is about as it is to be read.
use Rattle.std.proofs.Common.{rules, ◌≡◌}
use Rattle.std.specs.Borrow.{Bor}
use Rattle.msi_cache.specs.Messages.{request_block, request_seen}
use Rattle.msi_cache.specs.declared.messages.Request.{Request}

module _ {R : Type 0} where
  pub seen_request_block : (request : Request (Bor R)) → request_block request ≡ request_block (request_seen request)
  seen_request_block request = search rules
