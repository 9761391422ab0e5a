-- What a port shows of one block: the state of its line, and the kinds of the messages under way.
use Rattle.std.specs.Prelude.{ℕ, ◌==◌, Bool, true, false, List, [], ◌∷◌, if◌then◌else◌}
use Rattle.msi_cache.specs.declared.line.Line.{Line}
use Rattle.msi_cache.specs.declared.line.State.{State as LineState}
use Rattle.msi_cache.specs.declared.line.State.TheVariants.{I}
use Rattle.msi_cache.specs.declared.messages.FromHome.{FromHome}
use Rattle.msi_cache.specs.declared.messages.Response.{Response}
use Rattle.msi_cache.specs.declared.messages.Request.{Request}
use Rattle.msi_cache.specs.Table.{Signal, Ask, Reply}
use Rattle.msi_cache.specs.Messages.{signal, ask_of, reply_of, block_of, request_block, response_block}
use Rattle.msi_memory.specs.declared.port.Mail.{Mail}

abbrev pub cons_if : {X : Type 0} → Bool → X → List X → List X
cons_if true x xs = x ∷ xs
cons_if false x xs = xs

module _ {R K : Type 0} where
  -- the kinds of those of the requests that are about the block
  abbrev pub asks_of : (block : ℕ) → List (Mail (Request R) K) → List Ask
  asks_of block [] = []
  asks_of block (mail ∷ rest) = cons_if (request_block mail.item == block) (ask_of mail.item) (asks_of block rest)

  -- the kinds of those of the responses that are about the block
  abbrev pub replies_of : (block : ℕ) → List (Mail (Response R) K) → List Reply
  replies_of block [] = []
  replies_of block (mail ∷ rest) =
      cons_if (response_block mail.item == block) (reply_of mail.item) (replies_of block rest)

  -- the kinds of those of the messages from home that are about the block
  abbrev pub signals_of : (block : ℕ) → List (Mail (FromHome R) K) → List Signal
  signals_of block [] = []
  signals_of block (mail ∷ rest) = cons_if (block_of mail.item == block) (signal mail.item) (signals_of block rest)

-- the state of a line for the block: a line that is another block's holds nothing of it
abbrev pub line_state : {R : Type 0} → (block : ℕ) → Line R → LineState
line_state block line = if line.block == block then line.state else I
