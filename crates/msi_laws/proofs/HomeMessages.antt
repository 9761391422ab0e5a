-- What the home does with a message that it takes, be it a request or a response: it leaves the sender's port so, gives
-- the block this entry, and sends this answer.
use Rattle.std.proofs.Common.{◌≡◌, ◌∙◌, ℕ, List, [], ◌∷◌, length}
use Rattle.std.specs.Prelude.{slice_set}
use Rattle.std.proofs.lemmas.List.{length-set}
use Rattle.access_times.specs.Riding.{Riding, Carrying}
use Rattle.msi_cache.specs.declared.messages.Request.{Request}
use Rattle.msi_cache.specs.declared.messages.Response.{Response}
use Rattle.msi_cache.specs.Messages.{request_block, response_block}
use Rattle.msi_directory.specs.Blocks.{entry_at}
use Rattle.msi_directory.specs.Entries.{entry_after_request, entry_after_response, answer_to_request}
use Rattle.msi_directory.specs.Entries.{answer_to_response}
use Rattle.msi_directory.specs.declared.entry.Entry.{Entry}
use Rattle.msi_directory.specs.declared.entry.HomeAnswer.{HomeAnswer}
use Rattle.msi_memory.specs.declared.port.Mail.{Mail}
use Rattle.msi_memory.specs.declared.port.Port.{Port}
use Rattle.msi_memory.specs.Memories.{Memory, port_at}
use Rattle.msi_memory.specs.Acts.{delivered, port_requested, port_responded, take_request_in, take_response_in}
use Rattle.msi_laws.proofs.Views.{length-delivered}

pub record Taken (R K : Type 0) : Type 0 where
  pub left : Port R K
  pub answer : HomeAnswer R
  pub block : ℕ
  pub entry : Entry R
  pub carry : K

-- for the oldest message of core c and those behind it
abbrev pub Takes : (R K T : Type 0) → Type 0
Takes R K T = Riding R → Carrying K → Memory R K → (c : ℕ) → Mail T K → List (Mail T K) → Taken R K

module _ {R K : Type 0} where
  abbrev taken : Port R K → HomeAnswer R → ℕ → Entry R → K → Taken R K
  taken left answer block entry carry =
      record { left = left; answer = answer; block = block; entry = entry; carry = carry }

  -- with a request of core c, and with a response
  abbrev pub request_taken : Takes R K (Request R)
  request_taken riding carrying m c mail rest =
      let e = entry_at riding.fresh m.home (request_block mail.item) in
      taken (port_requested (port_at carrying m.ports c) rest) (answer_to_request riding.absorbed e c mail.item)
      (request_block mail.item) (entry_after_request riding e c mail.item) (carrying.joined m.carry mail.carry)

  abbrev pub response_taken : Takes R K (Response R)
  response_taken riding carrying m c mail rest =
      let e = entry_at riding.fresh m.home (response_block mail.item) in
      taken (port_responded (port_at carrying m.ports c) rest) (answer_to_response riding.absorbed e c mail.item)
      (response_block mail.item) (entry_after_response riding e c mail.item) (carrying.joined m.carry mail.carry)

  -- the memory system after it
  abbrev pub after_taken : Carrying K → Memory R K → ℕ → Taken R K → Memory R K
  after_taken carrying m c t =
      record {
        ports = delivered carrying t.answer t.block t.carry (slice_set m.ports c t.left);
        home = slice_set m.home t.block t.entry;
        carry = t.carry;
      }

  -- no port comes or goes
  pub length_taken : (carrying : Carrying K) (m : Memory R K) (c : ℕ) (t : Taken R K) →
      length (after_taken carrying m c t).ports ≡ length m.ports
  length_taken carrying m c t =
      length-delivered carrying t.answer t.block t.carry (slice_set m.ports c t.left) ∙ length-set m.ports c t.left

  -- what holds now, and would after anything that the home takes, holds after it took a request, or a response
  pub each_request : (P : Memory R K → Type 0) (riding : Riding R) (carrying : Carrying K) (m : Memory R K) (c : ℕ)
      (q : List (Mail (Request R) K)) → P m → ((t : Taken R K) → P (after_taken carrying m c t)) →
      P (take_request_in q riding carrying m c)
  each_request P riding carrying m c [] now each = now
  each_request P riding carrying m c (mail ∷ rest) now each = each (request_taken riding carrying m c mail rest)

  pub each_response : (P : Memory R K → Type 0) (riding : Riding R) (carrying : Carrying K) (m : Memory R K) (c : ℕ)
      (q : List (Mail (Response R) K)) → P m → ((t : Taken R K) → P (after_taken carrying m c t)) →
      P (take_response_in q riding carrying m c)
  each_response P riding carrying m c [] now each = now
  each_response P riding carrying m c (mail ∷ rest) now each = each (response_taken riding carrying m c mail rest)
