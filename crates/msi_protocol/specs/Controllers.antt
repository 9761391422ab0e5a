-- The controllers make the moves of one block: what a cache and the home do with a whole message, seen by
-- kinds alone, is what the moves say.
use Rattle.std.specs.Prelude.{◌≡◌, ◌≢◌, ℕ, Bool, true, false, IsTrue, Option, Some, None, List, [], ◌∷◌, ◌++◌}
use Rattle.access_times.specs.Riding.{Riding}
use Rattle.rtr_types.specs.CoreSets.{no_cores}
use Rattle.msi_cache.specs.declared.line.State.{State}
use Rattle.msi_cache.specs.declared.line.State.TheVariants.{I}
use Rattle.msi_cache.specs.declared.line.Line.{Line}
use Rattle.msi_cache.specs.declared.messages.FromHome.{FromHome}
use Rattle.msi_cache.specs.declared.messages.Request.{Request}
use Rattle.msi_cache.specs.declared.messages.Response.{Response}
use Rattle.msi_cache.specs.Table.{Signal, Ask, Reply, want_row}
use Rattle.msi_cache.specs.Messages.{signal, ask_of, reply_of, block_of, request_block, response_block}
use Rattle.msi_cache.specs.Lines.{has_row, line_after, answer}
use Rattle.msi_directory.specs.declared.entry.Entry.{Entry}
use Rattle.msi_directory.specs.declared.entry.HomeAnswer.{HomeAnswer}
use Rattle.msi_directory.specs.Entries.{entry_after_request, answer_to_request, entry_after_response}
use Rattle.msi_directory.specs.Entries.{answer_to_response}
use Rattle.msi_protocol.specs.Block.{HomeStep, request_step, response_step, view, after_message, Wish, ToLoad, ToStore}
use Rattle.msi_protocol.specs.Block.{ToEvict, wish_row}

module _ {R : Type 0} where
  abbrev pub kind_sent : Option (ℕ × FromHome R) → Option (ℕ × Signal)
  kind_sent None = None
  kind_sent (Some (to, m)) = Some (to, signal m)

  -- with the one message that the home sends no Inv goes, and it is about this block
  abbrev pub SendsAlone : ℕ → HomeAnswer R → Type 0
  SendsAlone block answered =
      (to : ℕ) (m : FromHome R) → answered.send ≡ Some (to, m) → (answered.invalidate ≡ no_cores) × (block_of m ≡ block)

  -- the home, which has this entry of the block then, has made the step
  pub record MakesStep (step : HomeStep) (block : ℕ) (e : Entry R) (answered : HomeAnswer R) : Type 0 where
    pub stage : e.stage ≡ step.stage
    pub invalidate : answered.invalidate ≡ step.invalidate
    pub send : kind_sent answered.send ≡ step.send
    pub alone : SendsAlone block answered

  -- a request from core c does at home what the step of its kind says
  abbrev pub RequestAsMoved : Riding R → Entry R → ℕ → Request R → Type 0
  RequestAsMoved riding e c request =
      MakesStep (request_step e.stage c (ask_of request)) (request_block request)
      (entry_after_request riding e c request) (answer_to_request riding.absorbed e c request)

  -- a response from core c does at home what the step of its kind says
  abbrev pub ResponseAsMoved : Riding R → Entry R → ℕ → Response R → Type 0
  ResponseAsMoved riding e c response =
      MakesStep (response_step e.stage c (reply_of response)) (response_block response)
      (entry_after_response riding e c response) (answer_to_response riding.absorbed e c response)

  abbrev pub kind_replied : Option (Response R) → List Reply
  kind_replied None = []
  kind_replied (Some response) = reply_of response ∷ []

  -- where the table has a row for it, a message makes of the line and its answer what the move makes of
  -- the view
  abbrev pub TakesAsMoved : Riding R → Line R → FromHome R → Type 0
  TakesAsMoved riding line m =
      (requests : List Ask) (responses : List Reply) (rest : List Signal) → IsTrue (has_row line m)
      → after_message (signal m) rest (view line.state requests responses (signal m ∷ rest))
      ≡ view (line_after riding line m).state requests (responses ++ kind_replied (answer line m)) rest

-- an access wants to write or to read
abbrev pub access_wish : Bool → Wish
access_wish true = ToStore
access_wish false = ToLoad

-- an access of the line's own block, or of one whose line holds nothing, asks as its wish does; an access
-- of another block whose line holds something asks for the line's place
pub record AsksAsWished (state : State) (writes : Bool) : Type 0 where
  pub own : want_row state true writes ≡ wish_row state (access_wish writes)
  pub empty : state ≡ I → want_row state false writes ≡ wish_row state (access_wish writes)
  pub other : state ≢ I → want_row state false writes ≡ wish_row state ToEvict
