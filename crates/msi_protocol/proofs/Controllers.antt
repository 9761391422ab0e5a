-- The controllers make the moves of one block.
use Rattle.std.proofs.Common.{◌≡◌, ◌≢◌, refl, ℕ, Bool, true, false, IsTrue, Option, Some, None, List, ◌∷◌, ◌++◌, arith}
use Rattle.std.specs.Prelude.{is_some, ◌&&◌, ◌==◌}
use Rattle.std.proofs.lemmas.Bool.Decides.{nat_tests}
use Rattle.access_times.specs.Riding.{Riding}
use Rattle.rtr_types.specs.CoreSets.{no_cores}
use Rattle.msi_cache.specs.declared.line.State.{State}
use Rattle.msi_cache.specs.declared.line.State.TheVariants.{I}
use Rattle.msi_cache.specs.declared.line.Line.{Line}
use Rattle.msi_cache.specs.declared.messages.FromHome.{FromHome}
use Rattle.msi_cache.specs.declared.messages.Request.{Request}
use Rattle.msi_cache.specs.declared.messages.Response.{Response}
use Rattle.msi_cache.specs.Table.{Signal, Ask, Reply, Row, row, want_row}
use Rattle.msi_cache.specs.Messages.{signal, ask_of, reply_of, block_of, request_block, response_block}
use Rattle.msi_cache.specs.Lines.{has_row, line_by, answer_by}
use Rattle.msi_directory.specs.declared.entry.Stage.{Stage}
use Rattle.msi_directory.specs.declared.entry.Entry.{Entry}
use Rattle.msi_directory.specs.Table.{Send, HomeRow, request_row, response_row}
use Rattle.msi_directory.specs.Entries.{entry_by, entry_met, sent, answer_by as home_answer_by, request_words}
use Rattle.msi_directory.specs.Entries.{request_rider, response_words, response_rider}
use Rattle.msi_protocol.specs.Block.{home_step, signalled, view, message_row_taken, ToEvict, wish_row}
use Rattle.msi_protocol.specs.Controllers.{RequestAsMoved, ResponseAsMoved, kind_sent, MakesStep, kind_replied}
use Rattle.msi_protocol.specs.Controllers.{TakesAsMoved, access_wish, AsksAsWished}

-- a row that sends one message sends no Inv
abbrev InvAlone : Option HomeRow → Type 0
InvAlone None = Unit {0}
InvAlone (Some r) = r.send ≢ Send.NoMessage → r.invalidate ≡ no_cores

pub request_alone : (stage : Stage) (c : ℕ) (a : Ask) → InvAlone (request_row stage c a)
request_alone stage c a = grind (arith, nat_tests)

pub response_alone : (stage : Stage) (c : ℕ) (a : Reply) → InvAlone (response_row stage c a)
response_alone stage c a = grind (arith, nat_tests)

module _ {R : Type 0} where
  pub sent_kind : (send : Send) (block : ℕ) (e : Entry R) → kind_sent (sent send block e) ≡ signalled send
  sent_kind Send.NoMessage block e = refl
  sent_kind (Send.FwdGetS core) block e = refl
  sent_kind (Send.FwdGetM core) block e = refl
  sent_kind (Send.PutAck core) block e = refl
  sent_kind (Send.BlockData core) block e = refl

  pub sent_block : (send : Send) (block : ℕ) (e : Entry R) (to : ℕ) (m : FromHome R) →
      sent send block e ≡ Some (to, m) → (send ≢ Send.NoMessage)
      × (block_of m ≡ block)
  sent_block send block e to m is = grind arith

  makes_step : (riding : Riding R) (row : Option HomeRow) (e : Entry R) (block : ℕ) (words : List ℕ) (rider : R) →
      InvAlone row →
      MakesStep (home_step e.stage row) block (entry_by riding row e words rider) (home_answer_by row block
      (entry_met riding.absorbed row e words rider))
  makes_step riding None e block words rider alone = record {
    stage = refl;
    invalidate = refl;
    send = refl;
    alone =
        λ to m is. grind arith;
  }
  makes_step riding (Some r) e block words rider alone =
      record {
        stage = refl;
        invalidate = refl;
        send = sent_kind r.send block (entry_met riding.absorbed (Some r) e words rider);
        alone = λ to m is.
            let one = sent_block r.send block (entry_met riding.absorbed (Some r) e words rider) to m is in
            (alone one.0, one.1);
      }

  pub request_makes_step : (riding : Riding R) (e : Entry R) (c : ℕ) (request : Request R) →
      RequestAsMoved riding e c request
  request_makes_step riding e c request =
      makes_step riding (request_row e.stage c (ask_of request)) e (request_block request)
      (request_words request e.words)
      (request_rider request e.rider) (request_alone e.stage c (ask_of request))

  pub response_makes_step : (riding : Riding R) (e : Entry R) (c : ℕ) (response : Response R) →
      ResponseAsMoved riding e c response
  response_makes_step riding e c response =
      makes_step riding (response_row e.stage c (reply_of response)) e (response_block response)
      (response_words response e.words)
      (response_rider response) (response_alone e.stage c (reply_of response))

  row_moves : (riding : Riding R) (r : Option Row) (line : Line R) (m : FromHome R) (requests : List Ask)
      (responses : List Reply) (rest : List Signal) →
      is_some r ≡ true → message_row_taken r rest (view line.state requests responses (signal m ∷ rest))
      ≡ view (line_by riding r m line).state requests (responses ++ kind_replied (answer_by r line)) rest
  row_moves riding r line m requests responses rest some = grind arith

  row_there : (line : Line R) (m : FromHome R) → IsTrue (has_row line m) → is_some (row (signal m) line.state) ≡ true
  row_there line m has = both (line.block == block_of m) (is_some (row (signal m) line.state)) has
    where
      both : (x y : Bool) → IsTrue (x && y) → y ≡ true
      both x y e = grind arith

  pub takes_as_moved : (riding : Riding R) (line : Line R) (m : FromHome R) → TakesAsMoved riding line m
  takes_as_moved riding line m requests responses rest has =
      row_moves riding (row (signal m) line.state) line m requests responses rest (row_there line m has)

own_wish : (s : State) (writes : Bool) → want_row s true writes ≡ wish_row s (access_wish writes)
own_wish s writes = grind arith

empty_wish : (s : State) (writes : Bool) → s ≡ I → want_row s false writes ≡ wish_row s (access_wish writes)
empty_wish s writes is = grind arith

other_wish : (s : State) (writes : Bool) → s ≢ I → want_row s false writes ≡ wish_row s ToEvict
other_wish s writes is = grind arith

pub asks_as_wished : (s : State) (writes : Bool) → AsksAsWished s writes
asks_as_wished s writes = record { own = own_wish s writes; empty = empty_wish s writes; other = other_wish s writes }
