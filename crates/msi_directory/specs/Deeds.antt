-- What a message does at the home: to its block's entry, and by what it is answered.
use Rattle.std.specs.Prelude.{◌≡◌, ℕ, Option, slice_set}
use Rattle.access_times.specs.Riding.{Riding}
use Rattle.msi_cache.specs.Messages.{request_block, response_block}
use Rattle.msi_cache.specs.declared.messages.Request.{Request}
use Rattle.msi_cache.specs.declared.messages.Response.{Response}
use Rattle.msi_directory.specs.Blocks.{Blocks, SameElsewhere, entry_at}
use Rattle.msi_directory.specs.Entries.{answer_by, answer_riding, answer_to_request, answer_to_response}
use Rattle.msi_directory.specs.Entries.{entry_after_request, entry_after_response, entry_left, entry_met}
use Rattle.msi_directory.specs.Table.{HomeRow, is_free}
use Rattle.msi_directory.specs.declared.entry.Entry.{Entry}
use Rattle.msi_directory.specs.declared.entry.HomeAnswer.{HomeAnswer}
use Rattle.msi_directory.specs.declared.entry.Served.{Served}
use Rattle.msi_directory.specs.declared.entry.Stage.{Stage}

-- the message's block, what becomes of its entry, and the answer
pub record Deed (R : Type 0) : Type 0 where
  pub block : ℕ
  pub after : Entry R → Entry R
  pub answer : Entry R → HomeAnswer R

module _ {R : Type 0} where
  abbrev pub deed : ℕ → (Entry R → Entry R) → (Entry R → HomeAnswer R) → Deed R
  deed block after answer = record { block = block; after = after; answer = answer }

  -- what a request from core c does
  abbrev pub request_deed : Riding R → ℕ → Request R → Deed R
  request_deed riding c request =
      deed (request_block request) (λ e. entry_after_request riding e c request)
      (λ e. answer_to_request riding.absorbed e c request)

  -- what a response from core c does
  abbrev pub response_deed : Riding R → ℕ → Response R → Deed R
  response_deed riding c response =
      deed (response_block response) (λ e. entry_after_response riding e c response)
      (λ e. answer_to_response riding.absorbed e c response)

  -- what a row does to an entry that has the message's words and rider already
  abbrev pub row_deed : R → (Stage → Option HomeRow) → ℕ → Deed R
  row_deed fresh row block =
      deed block (λ e. entry_left fresh (row e.stage) (entry_met (λ old other. old) (row e.stage) e e.words e.rider))
      (λ e. answer_by (row e.stage) block (entry_met (λ old other. old) (row e.stage) e e.words e.rider))

-- this was done to an entry, and the answer has the rider in hand where it has data
pub record IsDoneTo {R : Type 0} (done : Deed R) (before after : Entry R) (hand : R) (given : HomeAnswer (Unit {0})) :
    Type 0 where
  pub entry : after ≡ done.after before
  pub answer : answer_riding hand given ≡ done.answer before

-- the home did this and gave this answer: only the block's entry is another
pub record IsAnswered {R : Type 0} (fresh : R) (done : Deed R) (old new : Blocks R) (given : HomeAnswer R) : Type 0
  where
    pub blocks : new ≡ record old {
      entries = slice_set old.entries done.block (done.after (entry_at fresh old.entries done.block));
    }
    pub elsewhere : SameElsewhere fresh old.entries new.entries done.block
    pub answer : given ≡ done.answer (entry_at fresh old.entries done.block)

-- The home did this, its answer has the rider in hand where it has data, and it tells whether the block is free.
pub record IsServed {R : Type 0} (fresh : R) (done : Deed R) (old new : Blocks R) (hand : R) (served : Served) : Type 0
  where
    pub home : IsAnswered fresh done old new (answer_riding hand served.answer)
    pub free : served.free ≡ is_free (done.after (entry_at fresh old.entries done.block)).stage
