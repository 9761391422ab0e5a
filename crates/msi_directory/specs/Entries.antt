-- What the table does to a block's entry, for every type of riders.
use Rattle.std.specs.Prelude.{ℕ, Bool, Option, Some, None, is_some, List, if◌then◌else◌}
use Rattle.access_times.specs.Riding.{Riding}
use Rattle.rtr_types.specs.CoreSets.{no_cores}
use Rattle.msi_cache.specs.Messages.{ask_of, reply_of, request_block, response_block, message_with}
use Rattle.msi_cache.specs.declared.messages.FromHome.{FromHome}
use Rattle.msi_cache.specs.declared.messages.Response.{Response}
use Rattle.msi_cache.specs.declared.messages.Response.TheVariants.{InvAck, OwnerData}
use Rattle.msi_cache.specs.declared.messages.Request.{Request}
use Rattle.msi_cache.specs.declared.messages.Request.TheVariants.{PutS, PutM}
use Rattle.msi_directory.specs.Table.{Send, NoMessage, HomeEffect, Keep, Absorb, Take, HomeRow, gives}
use Rattle.msi_directory.specs.Table.{request_row, response_row}
use Rattle.msi_directory.specs.declared.entry.Stage.{Stage}
use Rattle.msi_directory.specs.declared.entry.Entry.{Entry}
use Rattle.msi_directory.specs.declared.entry.HomeAnswer.{HomeAnswer}

-- the words after a row, of the old ones and those of the message
abbrev pub words_by : HomeEffect → List ℕ → List ℕ → List ℕ
words_by Keep old words = old
words_by Absorb old words = old
words_by Take old words = words

module _ {R : Type 0} where
  -- the table has a row for a request from core c
  abbrev pub has_request_row : Stage → ℕ → Request R → Bool
  has_request_row stage c request = is_some (request_row stage c (ask_of request))

  -- the table has a row for a response from core c
  abbrev pub has_response_row : Stage → ℕ → Response R → Bool
  has_response_row stage c response = is_some (response_row stage c (reply_of response))

  -- the rider after a row, of the old one and that of the message
  abbrev pub rider_by : (R → R → R) → HomeEffect → R → R → R
  rider_by absorbed Keep old rider = old
  rider_by absorbed Absorb old rider = absorbed old rider
  rider_by absorbed Take old rider = rider

  -- an entry as a row sends it, for a message that has these words and this rider
  abbrev pub entry_met : (R → R → R) → Option HomeRow → Entry R → List ℕ → R → Entry R
  entry_met absorbed None e words rider = e
  entry_met absorbed (Some r) e words rider =
      record {
        stage = r.next;
        words = words_by r.effect e.words words;
        rider = rider_by absorbed r.effect e.rider rider;
      }

  -- what a row leaves of such an entry: all but a rider that it gives away
  abbrev pub entry_left : R → Option HomeRow → Entry R → Entry R
  entry_left fresh None e = e
  entry_left fresh (Some r) e = record e { rider = if gives r.next r.send then fresh else e.rider }

  -- an entry after a row, for a message that has these words and this rider
  abbrev pub entry_by : Riding R → Option HomeRow → Entry R → List ℕ → R → Entry R
  entry_by riding row e words rider = entry_left riding.fresh row (entry_met riding.absorbed row e words rider)

  -- the one message that a row sends; data are the entry's as the row sends it
  abbrev pub sent : Send → ℕ → Entry R → Option (ℕ × FromHome R)
  sent NoMessage block e = None
  sent (Send.FwdGetS core) block e = Some (core, FromHome.FwdGetS block)
  sent (Send.FwdGetM core) block e = Some (core, FromHome.FwdGetM block)
  sent (Send.PutAck core) block e = Some (core, FromHome.PutAck block)
  sent (Send.BlockData core) block e = Some (core, FromHome.BlockData block e.words e.rider)

  -- what is answered by a row that sends the entry so
  abbrev pub answer_by : Option HomeRow → ℕ → Entry R → HomeAnswer R
  answer_by None block e = record { invalidate = no_cores; send = None }
  answer_by (Some r) block e = record { invalidate = r.invalidate; send = sent r.send block e }

  -- a message that is sent, with this rider where it has data
  abbrev pub sent_riding : R → Option (ℕ × FromHome (Unit {0})) → Option (ℕ × FromHome R)
  sent_riding rider None = None
  sent_riding rider (Some (core, m)) = Some (core, message_with (λ own. rider) m)

  -- the answer with this rider on the message that it sends, where that message has data
  abbrev pub answer_riding : R → HomeAnswer (Unit {0}) → HomeAnswer R
  answer_riding rider answer = record { invalidate = answer.invalidate; send = sent_riding rider answer.send }

  -- the words that a request brings, or else these
  abbrev pub request_words : Request R → List ℕ → List ℕ
  request_words (PutM block words rider) old = words
  request_words _ old = old

  -- the rider that a request brings, or else this one
  abbrev pub request_rider : Request R → R → R
  request_rider (PutS block rider) old = rider
  request_rider (PutM block words rider) old = rider
  request_rider _ old = old

  -- the words that a response brings, or else these
  abbrev pub response_words : Response R → List ℕ → List ℕ
  response_words (InvAck block rider) old = old
  response_words (OwnerData block words rider) old = words

  -- the rider that a response brings
  abbrev pub response_rider : Response R → R
  response_rider (InvAck block rider) = rider
  response_rider (OwnerData block words rider) = rider

  -- a block's entry after a request from core c
  abbrev pub entry_after_request : Riding R → Entry R → ℕ → Request R → Entry R
  entry_after_request riding e c request =
      entry_by riding (request_row e.stage c (ask_of request)) e (request_words request e.words)
      (request_rider request e.rider)

  -- the entry as the home sends it in answer to a request from core c
  abbrev pub entry_for_request : (R → R → R) → Entry R → ℕ → Request R → Entry R
  entry_for_request absorbed e c request =
      entry_met absorbed (request_row e.stage c (ask_of request)) e (request_words request e.words)
      (request_rider request e.rider)

  -- what the home answers to a request from core c
  abbrev pub answer_to_request : (R → R → R) → Entry R → ℕ → Request R → HomeAnswer R
  answer_to_request absorbed e c request =
      answer_by (request_row e.stage c (ask_of request)) (request_block request)
      (entry_for_request absorbed e c request)

  -- a block's entry after a response from core c
  abbrev pub entry_after_response : Riding R → Entry R → ℕ → Response R → Entry R
  entry_after_response riding e c response =
      entry_by riding (response_row e.stage c (reply_of response)) e (response_words response e.words)
      (response_rider response)

  -- the entry as the home sends it in answer to a response from core c
  abbrev pub entry_for_response : (R → R → R) → Entry R → ℕ → Response R → Entry R
  entry_for_response absorbed e c response =
      entry_met absorbed (response_row e.stage c (reply_of response)) e (response_words response e.words)
      (response_rider response)

  -- what the home answers to a response from core c
  abbrev pub answer_to_response : (R → R → R) → Entry R → ℕ → Response R → HomeAnswer R
  answer_to_response absorbed e c response =
      answer_by (response_row e.stage c (reply_of response)) (response_block response)
      (entry_for_response absorbed e c response)
