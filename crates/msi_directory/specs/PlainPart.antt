-- The plain part of a home and of its answers: what is left where the riders are forgotten.
use Rattle.std.specs.Prelude.{◌≡◌, ℕ, Bool, List, Option, Some, None, map, slice_set}
use Rattle.access_times.specs.Riding.{Riding, none_riding}
use Rattle.msi_cache.specs.PlainPart.{plain_request, plain_response, plain_message}
use Rattle.msi_cache.specs.declared.messages.FromHome.{FromHome}
use Rattle.msi_cache.specs.declared.messages.Response.{Response}
use Rattle.msi_cache.specs.declared.messages.Request.{Request}
use Rattle.msi_directory.specs.Entries.{has_request_row, has_response_row}
use Rattle.msi_directory.specs.Blocks.{entry_at}
use Rattle.msi_directory.specs.Deeds.{Deed, request_deed, response_deed}
use Rattle.msi_directory.specs.declared.entry.Entry.{Entry}
use Rattle.msi_directory.specs.declared.entry.HomeAnswer.{HomeAnswer}
use Rattle.msi_directory.specs.declared.entry.Stage.{Stage}

module _ {R : Type 0} where
  abbrev pub plain_entry : Entry R → Entry (Unit {0})
  plain_entry e = record { stage = e.stage; words = e.words; rider = tt }

  abbrev pub plain_entries : List (Entry R) → List (Entry (Unit {0}))
  plain_entries entries = map plain_entry entries

  abbrev pub plain_send : Option (ℕ × FromHome R) → Option (ℕ × FromHome (Unit {0}))
  plain_send None = None
  plain_send (Some (core, m)) = Some (core, plain_message m)

  abbrev pub plain_home_answer : HomeAnswer R → HomeAnswer (Unit {0})
  plain_home_answer answer = record { invalidate = answer.invalidate; send = plain_send answer.send }

  -- what this message does to a home, the plain one does to its plain part, where nothing rides: it finds the entry
  -- there, has a row where these tests say so, and is answered alike
  pub record IsAlike (riding : Riding R) (entries : List (Entry R)) (done : Deed R) (plain : Deed (Unit {0}))
      (has_row plain_has_row : Stage → Bool) : Type 0 where
    pub same_entry : plain_entry (entry_at riding.fresh entries done.block)
        ≡ entry_at tt (plain_entries entries) done.block
    pub same_row : has_row (entry_at riding.fresh entries done.block).stage
        ≡ plain_has_row (entry_at tt (plain_entries entries) done.block).stage
    pub same_entries : plain_entries
        (slice_set entries done.block (done.after (entry_at riding.fresh entries done.block)))
        ≡ slice_set (plain_entries entries) plain.block (plain.after (entry_at tt (plain_entries entries) plain.block))
    pub same_answer : plain_home_answer (done.answer (entry_at riding.fresh entries done.block))
        ≡ plain.answer (entry_at tt (plain_entries entries) done.block)

  -- a request does to the plain part what it does where nothing rides, and is answered as there
  abbrev pub PlainRequest : Riding R → List (Entry R) → ℕ → Request R → Type 0
  PlainRequest riding entries c request =
      IsAlike riding entries (request_deed riding c request) (request_deed none_riding c (plain_request request))
      (λ stage. has_request_row stage c request) (λ stage. has_request_row stage c (plain_request request))

  -- and so does a response
  abbrev pub PlainResponse : Riding R → List (Entry R) → ℕ → Response R → Type 0
  PlainResponse riding entries c response =
      IsAlike riding entries (response_deed riding c response) (response_deed none_riding c (plain_response response))
      (λ stage. has_response_row stage c response) (λ stage. has_response_row stage c (plain_response response))
