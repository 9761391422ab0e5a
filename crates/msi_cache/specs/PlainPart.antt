-- The plain part of a cache and of its messages: what is left where the riders are forgotten.
use Rattle.std.specs.Prelude.{◌≡◌, ℕ, List, Option, Some, None, map}
use Rattle.access_times.specs.Riding.{Riding, none_riding}
use Rattle.rtr_types.specs.declared.access.Kind.{Kind}
use Rattle.msi_cache.specs.Lines.{has_row, answer, asks, is_allowed, waits, lines_after, lines_asking, lines_put}
use Rattle.msi_cache.specs.Lines.{lines_riding, line_for}
use Rattle.msi_cache.specs.Messages.{block_of, message_with, request_with, response_with}
use Rattle.msi_cache.specs.declared.line.Line.{Line}
use Rattle.msi_cache.specs.declared.messages.FromHome.{FromHome}
use Rattle.msi_cache.specs.declared.messages.Response.{Response}
use Rattle.msi_cache.specs.declared.messages.Request.{Request}

module _ {R : Type 0} where
  abbrev pub plain_line : Line R → Line (Unit {0})
  plain_line line = record { state = line.state; block = line.block; words = line.words; rider = tt }

  abbrev pub plain_lines : List (Line R) → List (Line (Unit {0}))
  plain_lines lines = map plain_line lines

  abbrev pub plain_message : FromHome R → FromHome (Unit {0})
  plain_message m = message_with (λ rider. tt) m

  abbrev pub plain_response : Response R → Response (Unit {0})
  plain_response response = response_with (λ rider. tt) response

  abbrev pub plain_request : Request R → Request (Unit {0})
  plain_request request = request_with (λ rider. tt) request

  abbrev pub plain_answer : Option (Response R) → Option (Response (Unit {0}))
  plain_answer None = None
  plain_answer (Some response) = Some (plain_response response)

  -- a message does to the plain part what it does where nothing rides, and is answered as there
  pub record PlainOnHome (riding : Riding R) (lines : List (Line R)) (m : FromHome R) : Type 0 where
    pub same_line : plain_line (line_for riding.fresh lines (block_of m)) ≡ line_for tt (plain_lines lines) (block_of m)
    pub same_row : has_row (line_for riding.fresh lines (block_of m)) m
        ≡ has_row (line_for tt (plain_lines lines) (block_of m)) (plain_message m)
    pub same_lines : plain_lines (lines_after riding lines m)
        ≡ lines_after none_riding (plain_lines lines) (plain_message m)
    pub same_answer : plain_answer (answer (line_for riding.fresh lines (block_of m)) m)
        ≡ answer (line_for tt (plain_lines lines) (block_of m)) (plain_message m)

  -- a request is made in the plain part exactly as it is where nothing rides
  pub record PlainWant (riding : Riding R) (lines : List (Line R)) (block : ℕ) (kind : Kind) : Type 0 where
    pub same_waits : waits lines ≡ waits (plain_lines lines)
    pub same_allowed : is_allowed (line_for riding.fresh lines block) block kind
        ≡ is_allowed (line_for tt (plain_lines lines) block) block kind
    pub same_lines : plain_lines (lines_asking riding lines block kind)
        ≡ lines_asking none_riding (plain_lines lines) block kind
    pub same_asks : plain_request (asks (line_for riding.fresh lines block) block kind)
        ≡ asks (line_for tt (plain_lines lines) block) block kind

  -- a word is written in the plain part exactly as it is where nothing rides
  abbrev pub PlainPut : Riding R → List (Line R) → ℕ → ℕ → ℕ → Type 0
  PlainPut riding lines block slot value =
      plain_lines (lines_put riding.fresh lines block slot value) ≡ lines_put tt (plain_lines lines) block slot value

  -- another rider on a block's copy changes nothing of the plain part
  abbrev pub PlainRider : Riding R → List (Line R) → ℕ → R → Type 0
  PlainRider riding lines block rider =
      plain_lines (lines_riding riding.fresh lines block rider) ≡ plain_lines lines
