-- Forgetting riders goes through each step of a home.
use Rattle.std.proofs.Common.{rules, ◌≡◌, ◌∙◌, ap, refl, ℕ, Bool, true, false, List, Option, Some, None}
use Rattle.std.specs.Prelude.{is_some, slice_set, if◌then◌else◌}
use Rattle.std.proofs.lemmas.List.{map-set}
use Rattle.std.proofs.Math.ListN.{get_or-map}
use Rattle.access_times.specs.Riding.{Riding, none_riding}
use Rattle.msi_cache.specs.Messages.{request_block, response_block, ask_of, reply_of}
use Rattle.msi_cache.specs.PlainPart.{plain_request, plain_response}
use Rattle.msi_cache.specs.declared.messages.Request.{Request}
use Rattle.msi_cache.specs.declared.messages.Response.{Response}
use Rattle.msi_directory.specs.Table.{HomeRow, Send, gives, request_row, response_row}
use Rattle.msi_directory.specs.Entries.{entry_by, entry_left, entry_met, sent, answer_by, request_words, request_rider}
use Rattle.msi_directory.specs.Entries.{response_words, response_rider}
use Rattle.msi_directory.specs.Blocks.{entry_at, no_entry}
use Rattle.msi_directory.specs.Deeds.{Deed, deed}
use Rattle.msi_directory.specs.PlainPart.{IsAlike, PlainRequest, PlainResponse, plain_entry, plain_entries, plain_send}
use Rattle.msi_directory.specs.PlainPart.{plain_home_answer}
use Rattle.msi_directory.specs.declared.entry.Entry.{Entry}
use Rattle.msi_directory.specs.declared.entry.Stage.{Stage}

module _ {R : Type 0} where
  plain_entry_at : (fresh : R) (entries : List (Entry R)) (block : ℕ) →
      entry_at tt (plain_entries entries) block ≡ plain_entry (entry_at fresh entries block)
  plain_entry_at fresh entries block = get_or-map plain_entry entries block (no_entry fresh)

  plain_set : (entries : List (Entry R)) (block : ℕ) (e : Entry R) → plain_entries (slice_set entries block e)
      ≡ slice_set (plain_entries entries) block (plain_entry e)
  plain_set entries block e = map-set plain_entry entries block e

  plain_request_block : (request : Request R) → request_block (plain_request request) ≡ request_block request
  plain_request_block request = search rules

  plain_response_block : (response : Response R) → response_block (plain_response response) ≡ response_block response
  plain_response_block response = search rules

  plain_ask : (request : Request R) → ask_of (plain_request request) ≡ ask_of request
  plain_ask request = search rules

  plain_reply : (response : Response R) → reply_of (plain_response response) ≡ reply_of response
  plain_reply response = search rules

  plain_request_words : (request : Request R) (old : List ℕ) → request_words (plain_request request) old ≡ request_words
      request old
  plain_request_words request old = search rules

  plain_response_words : (response : Response R) (old : List ℕ) →
      response_words (plain_response response) old ≡ response_words response old
  plain_response_words response old = search rules

  plain_entry_met : (absorbed : R → R → R) (row : Option HomeRow) (e : Entry R) (words : List ℕ) (rider : R) →
      plain_entry (entry_met absorbed row e words rider)
      ≡ entry_met none_riding.absorbed row (plain_entry e) words tt
  plain_entry_met absorbed row e words rider = search rules

  plain_entry_left : (fresh : R) (row : Option HomeRow) (e : Entry R) →
      plain_entry (entry_left fresh row e) ≡ entry_left tt row (plain_entry e)
  plain_entry_left fresh None e = refl
  plain_entry_left fresh (Some r) e = by (gives r.next r.send)
    where
      by : (given : Bool) →
          plain_entry (record e { rider = if given then fresh else e.rider })
          ≡ record (plain_entry e) { rider = if given then tt else tt }
      by true = refl
      by false = refl

  plain_entry_by : (riding : Riding R) (row : Option HomeRow) (e : Entry R) (words : List ℕ) (rider : R) →
      plain_entry (entry_by riding row e words rider) ≡ entry_by none_riding row (plain_entry e) words tt
  plain_entry_by riding row e words rider =
      plain_entry_left riding.fresh row (entry_met riding.absorbed row e words rider)
      ∙ ap (λ (x : Entry (Unit {0})). entry_left tt row x) (plain_entry_met riding.absorbed row e words rider)

  plain_sent : (send : Send) (block : ℕ) (e : Entry R) → plain_send (sent send block e) ≡ sent send block
      (plain_entry e)
  plain_sent send block e = search rules

  plain_answer_by : (row : Option HomeRow) (block : ℕ) (e : Entry R) →
      plain_home_answer (answer_by row block e) ≡ answer_by row block (plain_entry e)
  plain_answer_by None block e = refl
  plain_answer_by (Some r) block e = rw (plain_sent r.send block e)

-- A message of some kind is about a block, comes with these words and this rider, and meets at each stage the row of
-- its kind. So does the plain one, which is of the same kind, about the same block, with the same words.
module _ {Kind R : Type 0} (riding : Riding R) (entries : List (Entry R)) (row : Kind → Stage → Option HomeRow) where
  -- what a message does
  abbrev met : {X : Type 0} → Riding X → Kind → ℕ → (List ℕ → List ℕ) → (X → X) → Deed X
  met rides kind block words rider =
      deed block (λ e. entry_by rides (row kind e.stage) e (words e.words) (rider e.rider))
      (λ e. answer_by (row kind e.stage) block
      (entry_met rides.absorbed (row kind e.stage) e (words e.words) (rider e.rider)))

  forgets : (kind kind' : Kind) → kind' ≡ kind → (block block' : ℕ) → block' ≡ block →
      (words words' : List ℕ → List ℕ) → ((old : List ℕ) → words' old ≡ words old) → (rider : R → R) →
      IsAlike riding entries (met riding kind block words rider) (met none_riding kind' block' words' (λ own. tt))
      (λ stage. is_some (row kind stage)) (λ stage. is_some (row kind' stage))
  forgets kind kind' as_kind block block' as_block words words' as_words rider =
      let e : Entry R = entry_at riding.fresh entries block in
      record {
        same_entry = rw (plain_entry_at riding.fresh entries block);
        same_row = rw (plain_entry_at riding.fresh entries block, as_kind);
        same_entries = rw (
          as_block,
          as_kind,
          plain_entry_at riding.fresh entries block,
          as_words e.words,
          plain_set entries block (entry_by riding (row kind e.stage) e (words e.words) (rider e.rider)),
          plain_entry_by riding (row kind e.stage) e (words e.words) (rider e.rider),
        );
        same_answer = rw (
          as_block,
          as_kind,
          plain_entry_at riding.fresh entries block,
          as_words e.words,
          plain_answer_by (row kind e.stage) block
              (entry_met riding.absorbed (row kind e.stage) e (words e.words) (rider e.rider)),
          plain_entry_met riding.absorbed (row kind e.stage) e (words e.words) (rider e.rider),
        );
      }

module _ {R : Type 0} (riding : Riding R) (entries : List (Entry R)) (c : ℕ) where
  pub plain_on_request : (request : Request R) → PlainRequest riding entries c request
  plain_on_request request =
      forgets riding entries (λ kind stage. request_row stage c kind) (ask_of request) _ (plain_ask request)
      (request_block request) _ (plain_request_block request) (request_words request)
      (request_words (plain_request request)) (plain_request_words request) (request_rider request)

  pub plain_on_response : (response : Response R) → PlainResponse riding entries c response
  plain_on_response response =
      forgets riding entries (λ kind stage. response_row stage c kind) (reply_of response) _ (plain_reply response)
      (response_block response) _ (plain_response_block response) (response_words response)
      (response_words (plain_response response)) (plain_response_words response) (λ own. response_rider response)
