-- Room at the home for the blocks of request links' heads.
use Rattle.std.proofs.Common.{◌≡◌, ◌≢◌, ◌∙◌, ◌⊎◌, inl, inr, refl, ap, ℕ, zero, suc, ◌<◌, ◌≤◌, Bool, true, false}
use Rattle.std.proofs.Common.{List, [], ◌∷◌, length, eq-eqb}
use Rattle.std.proofs.Common.{get_or, arith}
use Rattle.std.specs.Prelude.{map, slice_set}
use Rattle.std.proofs.lemmas.Bool.{cases_eq}
use Rattle.std.proofs.lemmas.Bool.Decides.{nat_tests}
use Rattle.std.proofs.lemmas.Grind.{common_steps}
use Rattle.std.proofs.lemmas.List.{get_or-map, get_or_past, length-map}
use Rattle.std.proofs.lemmas.List.Folds.{list_any_at}
use Rattle.rtr_types.proofs.Truths.{both_true, first_true, second_true}
use Rattle.msi_cache.specs.declared.messages.Request.{Request}
use Rattle.msi_cache.specs.Messages.{request_block}
use Rattle.msi_directory.specs.Blocks.{Blocks, has_room}
use Rattle.msi_memory.specs.declared.port.Mail.{Mail}
use Rattle.msi_memory.specs.declared.port.Port.{Port}
use Rattle.msi_memory.specs.Rests.{OthersRoomy, RoomsMade, are_heads_roomy, head_roomy, head_is, is_head, requests_at}

room_kept : (rooms : List Bool) (block b : ℕ) → has_room rooms b ≡ true → has_room (slice_set rooms block true) b ≡ true
room_kept rooms block b is = grind (arith, nat_tests, common_steps)

room_elsewhere : (rooms : List Bool) (block b : ℕ) → b ≢ block → has_room (slice_set rooms block true) b ≡ has_room
    rooms b
room_elsewhere rooms block b other = grind (arith, nat_tests, common_steps)

module _ {R K : Type 0} where
  head_more : (requests : List (Mail (Request R) K)) (old new : List Bool) → ((b : ℕ) → has_room old b ≡ true →
      has_room new b ≡ true) →
      head_roomy requests old ≡ true → head_roomy requests new ≡ true
  head_more [] old new grows is = refl
  head_more (mail ∷ rest) old new grows is = grows (request_block mail.item) is

  -- all heads' blocks have room exactly where each core's has
  pub each_roomy : (ports : List (Port R K)) (rooms : List Bool) → are_heads_roomy ports rooms ≡ true → (c : ℕ) →
      head_roomy (requests_at ports c) rooms ≡ true
  each_roomy [] rooms all c = refl
  each_roomy (n ∷ ns) rooms all zero = first_true (head_roomy n.requests.items rooms) (are_heads_roomy ns rooms) all
  each_roomy (n ∷ ns) rooms all (suc c) = each_roomy ns rooms (second_true (head_roomy n.requests.items rooms)
      (are_heads_roomy ns rooms) all) c

  all_roomy : (ports : List (Port R K)) (rooms : List Bool) →
      ((c : ℕ) → head_roomy (requests_at ports c) rooms ≡ true) → are_heads_roomy ports rooms ≡ true
  all_roomy [] rooms each = refl
  all_roomy (n ∷ ns) rooms each = both_true (head_roomy n.requests.items rooms) (are_heads_roomy ns rooms) (each zero)
      (all_roomy ns rooms (λ c. each (suc c)))

  with_its : (ports : List (Port R K)) (core : ℕ) (rooms : List Bool) → OthersRoomy ports core rooms →
      head_roomy (requests_at ports core) rooms ≡ true →
      are_heads_roomy ports rooms ≡ true
  with_its ports core rooms others its = all_roomy ports rooms (λ c. by c (cases_eq c core))
    where
      by : (c : ℕ) → (c ≡ core) ⊎ (c ≡ core → ⊥) → head_roomy (requests_at ports c) rooms ≡ true
      by c (inl same) = ap (λ (k : ℕ). head_roomy (requests_at ports k) rooms) same ∙ its
      by c (inr other) = others c other

  requests_within : (ports : List (Port R K)) (c : ℕ) (n : Port R K) → c < length ports → get_or ports c n ≡ n →
      requests_at ports c ≡ n.requests.items
  requests_within ports c n within at = get_or-map (λ (x : Port R K). x.requests.items) ports c n [] within
      ∙ ap (λ (x : Port R K). x.requests.items) at

  head_is_at : (requests rest : List (Mail (Request R) K)) (mail : Mail (Request R) K) → requests ≡ mail ∷ rest →
      head_is (request_block mail.item) requests
      ≡ true
  head_is_at requests rest mail is = ap (head_is (request_block mail.item)) is ∙ eq-eqb (request_block mail.item)
      (request_block mail.item) refl

  not_head : (ports : List (Port R K)) (i b block : ℕ) (d : Port R K) → i < length ports →
      head_is block (get_or ports i d).requests.items ≡ true →
      is_head ports b ≡ false → b ≢ block
  not_head ports i b block d within is out same =
      absurd (apart (ap (λ (x : ℕ). is_head ports x) same
      ∙ list_any_at (λ (n : Port R K). head_is block n.requests.items) ports i d within is) out)
    where
      apart : {x : Bool} → x ≡ true → x ≡ false → ⊥
      apart is_true is_false = grind arith

-- room was made, or not, for the block of one core's oldest request
pub record MadeFor {R K : Type 0} (ports : List (Port R K)) (core : ℕ) (old new : List Bool) : Type 0 where
  pub made : RoomsMade ports old new
  pub others : OthersRoomy ports core new
  pub all : are_heads_roomy ports new ≡ true

module _ {R K : Type 0} where
  pub nothing_made : (ports : List (Port R K)) (rooms : List Bool) → RoomsMade ports rooms rooms
  nothing_made ports rooms = record { kept = λ b is. is; elsewhere = λ b out. refl }

  -- the core has no request
  pub none_made : (ports : List (Port R K)) (core : ℕ) (rooms : List Bool) → OthersRoomy ports core rooms →
      requests_at ports core ≡ [] →
      MadeFor ports core rooms rooms
  none_made ports core rooms others none =
      record {
        made = nothing_made ports rooms;
        others = others;
        all = with_its ports core rooms others (ap (λ (xs : List (Mail (Request R) K)). head_roomy xs rooms) none);
      }

  pub past_ports : (ports : List (Port R K)) (core : ℕ) → length ports ≤ core → requests_at ports core ≡ []
  past_ports ports core past =
      get_or_past (map (λ (n : Port R K). n.requests.items) ports) core []
      (rw (length-map ports (λ (n : Port R K). n.requests.items)) past)

  pub no_head : (ports : List (Port R K)) (core : ℕ) (n : Port R K) → core < length ports → get_or ports core n ≡ n →
      n.requests.items ≡ [] →
      requests_at ports core ≡ []
  no_head ports core n within at none = requests_within ports core n within at ∙ none

  -- room was made for the block of its oldest request
  pub one_made : (ports : List (Port R K)) (core : ℕ) (n : Port R K) (mail : Mail (Request R) K)
      (rest : List (Mail (Request R) K)) (home new : Blocks R)
      (block : ℕ)
      → OthersRoomy ports core home.rooms → core < length ports → get_or ports core n ≡ n →
      n.requests.items ≡ mail ∷ rest → block ≡ request_block mail.item
      → new ≡ record home { rooms = slice_set home.rooms block true } → has_room new.rooms block ≡ true →
      MadeFor ports core home.rooms new.rooms
  one_made ports core n mail rest home new block others within at head about made roomy =
      let rooms_are : new.rooms ≡ slice_set home.rooms block true = ap (λ (h : Blocks R). h.rooms) made in
      let its : (get_or ports core n).requests.items ≡ mail ∷ rest = ap (λ (x : Port R K). x.requests.items) at
      ∙ head in
      let here : head_is block (get_or ports core n).requests.items ≡ true =
      rw about (head_is_at (get_or ports core n).requests.items rest mail its) in
      let grows : (b : ℕ) → has_room home.rooms b ≡ true → has_room new.rooms b ≡ true =
      λ b is. rw rooms_are (room_kept home.rooms block b is) in
      let others_after : OthersRoomy ports core new.rooms =
      λ c other. head_more (requests_at ports c) home.rooms new.rooms grows (others c other) in
      record {
        made = record {
          kept = grows;
          elsewhere = λ b out. rw rooms_are (room_elsewhere home.rooms block b (not_head ports core b block n within
              here out));
        };
        others = others_after;
        all = with_its ports core new.rooms others_after (rw (requests_within ports core n within at, head, ← about)
            roomy);
      }
