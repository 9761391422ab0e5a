-- What the home answers goes to cores that are there, whose links have room, and is what the step delivers.
use Rattle.std.proofs.Common.{arith, ◌≡◌, ◌∙◌, refl, sym, ap, subst, ℕ, ◌<◌, ◌==◌, ◌&&◌, Bool, true, false, IsTrue}
use Rattle.std.proofs.Common.{Option, Some, None, List, ◌++◌, length}
use Rattle.std.proofs.Common.{inl, inr, take}
use Rattle.std.specs.Prelude.{if◌then◌else◌, nat_lt, slice_set, All}
use Rattle.std.specs.Option.{IfSome}
use Rattle.std.proofs.lemmas.Bool.{cases_eq}
use Rattle.std.proofs.lemmas.Bool.Decides.{nat_tests}
use Rattle.std.proofs.lemmas.List.{get_or-set_other, get_or-set_same, length-set}
use Rattle.std.proofs.lemmas.List.Elements.{All-get_or}
use Rattle.std.proofs.Math.Seq.{take-append_seam}
use Rattle.access_times.specs.Riding.{Riding, Carrying}
use Rattle.link_order.specs.Queue.{Queue}
use Rattle.rtr_types.specs.CoreSets.{has, without_core, is_none}
use Rattle.rtr_types.proofs.Truths.{second_true}
use Rattle.msi_cache.specs.Table.{Ask, Reply}
use Rattle.msi_cache.specs.Messages.{ask_of, reply_of, request_block, response_block}
use Rattle.msi_cache.specs.declared.messages.FromHome.{FromHome}
use Rattle.msi_cache.specs.declared.messages.Request.{Request}
use Rattle.msi_cache.specs.declared.messages.Response.{Response}
use Rattle.msi_directory.specs.Blocks.{no_entry, entry_at}
use Rattle.msi_directory.specs.Entries.{answer_by, answer_to_request, answer_to_response}
use Rattle.msi_directory.specs.Entries.{entry_for_request, entry_for_response}
use Rattle.msi_directory.specs.Entries.{sent}
use Rattle.msi_directory.specs.Table.{Send, NoMessage, HomeRow, is_free, request_row, response_row}
use Rattle.msi_directory.specs.declared.entry.Stage.TheVariants.{Unshared, Shared, Owned, Acks, Data}
use Rattle.msi_directory.specs.declared.entry.Stage.{Stage}
use Rattle.msi_directory.specs.declared.entry.Entry.{Entry}
use Rattle.msi_directory.specs.declared.entry.HomeAnswer.{HomeAnswer}
use Rattle.msi_memory.specs.declared.port.Mail.{Mail}
use Rattle.msi_memory.specs.declared.port.Port.{Port}
use Rattle.msi_memory.specs.Rests.{HasRoomTo, names_below}
use Rattle.msi_memory.specs.Memories.{Memory, no_port, port_at}
use Rattle.msi_memory.specs.Acts.{delivered}

-- what is sent goes to one of the first n cores
abbrev send_below : Send → ℕ → Bool
send_below NoMessage n = true
send_below (Send.FwdGetS core) n = nat_lt core n
send_below (Send.FwdGetM core) n = nat_lt core n
send_below (Send.PutAck core) n = nat_lt core n
send_below (Send.BlockData core) n = nat_lt core n

abbrev row_below : Option HomeRow → ℕ → Bool
row_below None n = true
row_below (Some r) n = send_below r.send n

-- a fact of a choice holds where it holds of both branches
chosen : (n : ℕ) (b : Bool) (x y : Option HomeRow) → IsTrue (row_below x n) → IsTrue (row_below y n) →
    IsTrue (row_below (if b then x else y) n)
chosen n true x y f g = f
chosen n false x y f g = g

is_below : (c n : ℕ) → c < n → IsTrue (nat_lt c n)
is_below c n h = grind (arith, nat_tests)

-- the front of a list, of its length
pub take_front : {X : Type 0} (n : ℕ) (front rest : List X) → n ≡ length front → take n (front ++ rest) ≡ front
take_front n front rest is = rw is (take-append_seam front rest)

pub below : (a b : ℕ) (more : Bool) → IsTrue (nat_lt a b && more) → a < b
below a b more h = grind (arith, nat_tests)

request_below : (stage : Stage) (c : ℕ) (ask : Ask) (n : ℕ) → c < n → IsTrue (names_below stage n) →
    IsTrue (row_below (request_row stage c ask) n)
request_below Unshared c Ask.GetS n h names = is_below c n h
request_below Unshared c Ask.GetM n h names = is_below c n h
request_below Unshared c Ask.PutS n h names = is_below c n h
request_below Unshared c Ask.PutM n h names = is_below c n h
request_below (Shared by) c Ask.GetS n h names = is_below c n h
request_below (Shared by) c Ask.GetM n h names = chosen n (is_none (without_core by c)) _ _ (is_below c n h) refl
request_below (Shared by) c Ask.PutS n h names = chosen n (has by c) _ _ (is_below c n h) (is_below c n h)
request_below (Shared by) c Ask.PutM n h names = chosen n (has by c) _ _ (is_below c n h) (is_below c n h)
request_below (Owned owner) c Ask.GetS n h names = names
request_below (Owned owner) c Ask.GetM n h names = names
request_below (Owned owner) c Ask.PutS n h names = chosen n (c == owner) _ _ refl (is_below c n h)
request_below (Owned owner) c Ask.PutM n h names = chosen n (c == owner) _ _ (is_below c n h) (is_below c n h)
request_below (Acks «of» requester) c ask n h names = refl
request_below (Data «of» requester share) c ask n h names = refl

response_below : (stage : Stage) (c : ℕ) (reply : Reply) (n : ℕ) → IsTrue (names_below stage n) →
    IsTrue (row_below (response_row stage c reply) n)
response_below (Acks «of» requester) c Reply.InvAck n names =
    chosen n (has «of» c) _ _ (chosen n (is_none (without_core «of» c)) _ _ names refl) refl
response_below (Data «of» requester share) c Reply.OwnerData n names =
    chosen n (c == «of») _ _ (second_true (nat_lt «of» n) (nat_lt requester n) names) refl
response_below _ c reply n names = refl

module _ {R : Type 0} where
  sent_below : (send : Send) (block : ℕ) (e : Entry R) (n : ℕ) → IsTrue (send_below send n) →
      IfSome (sent send block e) (λ s. s.0 < n)
  sent_below NoMessage block e n is = tt
  sent_below (Send.FwdGetS core) block e n is = grind (arith, nat_tests)
  sent_below (Send.FwdGetM core) block e n is = grind (arith, nat_tests)
  sent_below (Send.PutAck core) block e n is = grind (arith, nat_tests)
  sent_below (Send.BlockData core) block e n is = grind (arith, nat_tests)

  answer_below : (row : Option HomeRow) (block : ℕ) (e : Entry R) (n : ℕ) → IsTrue (row_below row n) →
      IfSome (answer_by row block e).send (λ s. s.0 < n)
  answer_below None block e n is = tt
  answer_below (Some r) block e n is = sent_below r.send block e n is

  names_at : (fresh : R) (home : List (Entry R)) (n block : ℕ) → All (λ x. IsTrue (names_below x.stage n)) home →
      block < length home →
      IsTrue (names_below (entry_at fresh home block).stage n)
  names_at fresh home n block names within = All-get_or (λ (x : Entry R). IsTrue (names_below x.stage n)) home block
      (no_entry fresh) within names

  pub request_named : (riding : Riding R) (home : List (Entry R)) (n c : ℕ) (request : Request R) →
      All (λ x. IsTrue (names_below x.stage n)) home → request_block request < length home → c < n →
      IfSome (answer_to_request riding.absorbed (entry_at riding.fresh home (request_block request)) c request).send
      (λ s. s.0 < n)
  request_named riding home n c request names within h =
      let e : Entry R = entry_at riding.fresh home (request_block request) in
      answer_below (request_row e.stage c (ask_of request)) (request_block request)
      (entry_for_request riding.absorbed e c request) n
      (request_below e.stage c (ask_of request) n h (names_at riding.fresh home n (request_block request) names within))

  pub response_named : (riding : Riding R) (home : List (Entry R)) (n c : ℕ) (response : Response R) →
      All (λ x. IsTrue (names_below x.stage n)) home → response_block response < length home →
      IfSome (answer_to_response riding.absorbed (entry_at riding.fresh home (response_block response)) c response).send
      (λ s. s.0 < n)
  response_named riding home n c response names within =
      let e : Entry R = entry_at riding.fresh home (response_block response) in
      answer_below (response_row e.stage c (reply_of response)) (response_block response)
      (entry_for_response riding.absorbed e c response) n
      (response_below e.stage c (reply_of response) n (names_at riding.fresh home n (response_block response) names
      within))

  -- whether the block is free then is whether its new stage is
  pub frees : (fresh : R) (entries home : List (Entry R)) (at block : ℕ) (e : Entry R) (free : Bool) →
      at < length entries → block ≡ at → home ≡ slice_set entries at e → free ≡ is_free e.stage →
      free ≡ is_free (entry_at fresh home block).stage
  frees fresh entries home at block e free within about kept is =
      rw (about, kept, get_or-set_same entries at e (no_entry fresh) within) is

module _ {R K : Type 0} where
  messages_kept : (carrying : Carrying K) (ports : List (Port R K)) (c d : ℕ) (port : Port R K) → d < length ports →
      port.messages ≡ (port_at carrying ports c).messages →
      (port_at carrying (slice_set ports c port) d).messages ≡ (port_at carrying ports d).messages
  messages_kept carrying ports c d port there same =
      elim (cases_eq d c) [
        | inl is ↦
            ap (λ (k : ℕ). (port_at carrying (slice_set ports c port) k).messages) is
            ∙ ap (λ (n : Port R K). n.messages) (get_or-set_same ports c port (no_port carrying)
            (subst (λ (k : ℕ). k < length ports) is there))
            ∙ same
            ∙ ap (λ (k : ℕ). (port_at carrying ports k).messages) (sym is)
        | inr other ↦ ap (λ (n : Port R K). n.messages) (get_or-set_other ports c d port (no_port carrying) other)
      ]

  -- a change of one port that leaves its messages alone leaves room for the answer
  pub room_kept : (carrying : Carrying K) (answer : HomeAnswer R) (ports after : List (Port R K)) (c : ℕ)
      (port : Port R K) →
      HasRoomTo carrying answer ports → after ≡ slice_set ports c port →
      port.messages ≡ (port_at carrying ports c).messages → HasRoomTo carrying answer after
  room_kept carrying answer ports after c port rooms is same d within heard =
      let there : d < length ports = subst (λ (k : ℕ). d < k) (ap length is ∙ length-set ports c port) within in
      let messages : (port_at carrying after d).messages ≡ (port_at carrying ports d).messages =
      ap (λ (ns : List (Port R K)). (port_at carrying ns d).messages) is
      ∙ messages_kept carrying ports c d port there same in
      subst (λ (q : Queue (Mail (FromHome R) K)). length q.items < q.room) (sym messages) (rooms d there heard)

  -- the memory system whose parts are these
  pub same_memory : (carrying : Carrying K) (ports taken : List (Port R K)) (answer said : HomeAnswer R)
      (block about : ℕ) (carry joined : K) (home kept : List (Entry R)) →
      ports ≡ taken → answer ≡ said → block ≡ about → carry ≡ joined → home ≡ kept →
      ◌≡◌ {A = Memory R K}
      (record { ports = delivered carrying answer block carry ports; home = home; carry = carry })
      (record { ports = delivered carrying said about joined taken; home = kept; carry = joined })
  same_memory carrying ports taken answer said block about carry joined home kept at answered is with_its put =
      rw (at, answered, is, with_its, put) refl

-- a link of which nothing but its items is another's
pub same_link : {X : Type 0} (link old : Queue X) (items : List X) → link.room ≡ old.room → link.items ≡ items →
    link ≡ record old { items = items }
same_link {X} link old items room is =
    ap (λ (n : ℕ). record { room = n; items = link.items }) room
    ∙ ap (λ (xs : List X). record { room = old.room; items = xs }) is
