-- A frame is read back. A body has no `$` and no `#`, so the reader goes through it and stands behind it; what it
-- spells is the payload, and its digits are those of its sum.
use Rattle.std.proofs.Common.{◌≡◌, ℕ, ◌+◌, ◌*◌, ◌/◌, ◌%◌, ◌≤◌, ◌==◌, ◌&&◌, inl, inr, not, true, false}
use Rattle.std.proofs.Common.{List, [], ◌∷◌, ◌++◌, Option, Some, None, length, slice_index, refl, sym, ap, subst, ◌∙◌}
use Rattle.std.proofs.Common.{arith}
use Rattle.std.proofs.Common.{append_assoc, eq-eqb}
use Rattle.std.specs.Prelude.{bit_xor, nat_le, ◌||◌}
use Rattle.std.proofs.lemmas.Bool.{and_from, cases_Bool, eqb-true, le-leb, or_cases, or_parts}
use Rattle.std.proofs.lemmas.List.{append-nil}
use Rattle.hex.specs.Hex.{hex_digit_value, lower_digits}
use Rattle.hex.proofs.HexLemmas.{IsDigits-lower_digits}
use Rattle.gdb_packets.specs.Bytes.{dollar, hash, brace, star}
use Rattle.gdb_packets.specs.Frames.{Standing, Between, Body, Packet, PiecesLaw, ReadBackLaw, after}
use Rattle.gdb_packets.specs.Frames.{are_digits_of, body_of, checksum, events, follow, is_cut}
use Rattle.gdb_packets.specs.Frames.{is_special}
use Rattle.gdb_packets.specs.Frames.{is_taken, noted, sum_digits, tells, unescaped}
use Rattle.gdb_packets.specs.declared.TheConstants.{PAYLOAD_MAX}

-- what is used of the four bytes that a body may not have
record IsChanged (b : ℕ) : Type 0 where
  no_dollar : (bit_xor b 32 == dollar) ≡ false
  no_hash : (bit_xor b 32 == hash) ≡ false
  back : bit_xor (bit_xor b 32) 32 ≡ b

changed : (b : ℕ) → is_special b ≡ true → IsChanged b
changed b h =
    elim (or_cases ((b == dollar) || (b == hash) || (b == brace)) (b == star) h) [
      | inr last ↦
          subst IsChanged (sym (eqb-true b star last)) (record { no_dollar = refl; no_hash = refl; back = refl })
      | inl three ↦
          elim (or_cases ((b == dollar) || (b == hash)) (b == brace) three) [
            | inr third ↦
                subst IsChanged (sym (eqb-true b brace third))
                (record { no_dollar = refl; no_hash = refl; back = refl })
            | inl two ↦
                elim (or_cases (b == dollar) (b == hash) two) [
                  | inr second ↦
                      subst IsChanged (sym (eqb-true b hash second))
                      (record { no_dollar = refl; no_hash = refl; back = refl })
                  | inl first ↦
                      subst IsChanged (sym (eqb-true b dollar first))
                      (record { no_dollar = refl; no_hash = refl; back = refl })
                ]
          ]
    ]

-- a byte that is no end goes into the body
into_body : (front rest : List ℕ) (b : ℕ) → (b == dollar) ≡ false → (b == hash) ≡ false →
    events (Body front) (b ∷ rest) ≡ events (Body (front ++ b ∷ [])) rest
into_body front rest b no_dollar no_hash = rw (no_dollar, no_hash)

-- the reader goes through a body
through_body : (front payload rest : List ℕ) →
    events (Body front) (body_of payload ++ rest) ≡ events (Body (front ++ body_of payload)) rest
through_body front [] rest = ap (λ body. events (Body body) rest) (sym (append-nil front))
through_body front (b ∷ payload) rest = elim (cases_Bool (is_special b)) [
  | inl special ↦
      let facts = changed b special in
      let x = bit_xor b 32 in
      let flat = body_of payload in
      rw special (
      into_body front (x ∷ flat ++ rest) brace refl refl
      ∙ into_body (front ++ brace ∷ []) (flat ++ rest) x facts.no_dollar facts.no_hash
      ∙ through_body ((front ++ brace ∷ []) ++ x ∷ []) payload rest
      ∙ ap (λ body. events (Body body) rest) (simp append_assoc)
      )
  | inr ordinary ↦
      let flat = body_of payload in
      let three = or_parts ((b == dollar) || (b == hash) || (b == brace)) (b == star) ordinary in
      let two = or_parts ((b == dollar) || (b == hash)) (b == brace) three.0 in
      let one = or_parts (b == dollar) (b == hash) two.0 in
      rw ordinary (
      into_body front (flat ++ rest) b one.0 one.1
      ∙ through_body (front ++ b ∷ []) payload rest
      ∙ ap (λ body. events (Body body) rest) (simp append_assoc)
      )
]

-- a byte other than `}` stands for itself
unescaped_plain : (b : ℕ) (rest : List ℕ) → (b == brace) ≡ false → unescaped (b ∷ rest) ≡ b ∷ unescaped rest
unfolding unescaped
unescaped_plain b [] h = rw h refl
unescaped_plain b (c ∷ rest) h = rw h refl

is_cut_plain : (b : ℕ) (rest : List ℕ) → (b == brace) ≡ false → is_cut (b ∷ rest) ≡ is_cut rest
unfolding is_cut
is_cut_plain b [] h = h
is_cut_plain b (c ∷ rest) h = rw h refl

unescaped_pair : (c : ℕ) (rest : List ℕ) → unescaped (brace ∷ c ∷ rest) ≡ bit_xor c 32 ∷ unescaped rest
unfolding unescaped
unescaped_pair c rest = refl

is_cut_pair : (c : ℕ) (rest : List ℕ) → is_cut (brace ∷ c ∷ rest) ≡ is_cut rest
unfolding is_cut
is_cut_pair c rest = refl

unescaped_nil : unescaped [] ≡ []
unfolding unescaped
unescaped_nil = refl

is_cut_nil : is_cut [] ≡ false
unfolding is_cut
is_cut_nil = refl

-- a body spells its payload, and isn't cut
spells : (payload : List ℕ) → (unescaped (body_of payload) ≡ payload) × (is_cut (body_of payload) ≡ false)
spells [] = (unescaped_nil, is_cut_nil)
spells (b ∷ payload) = elim (cases_Bool (is_special b)) [
  | inl special ↦
      let facts = changed b special in
      let x = bit_xor b 32 in
      let more = spells payload in
      rw special (
        unescaped_pair x (body_of payload) ∙ rw (facts.back, more.0) refl,
        is_cut_pair x (body_of payload) ∙ more.1,
      )
  | inr ordinary ↦
      let more = spells payload in
      let three = or_parts ((b == dollar) || (b == hash) || (b == brace)) (b == star) ordinary in
      let two = or_parts ((b == dollar) || (b == hash)) (b == brace) three.0 in
      rw ordinary (
        unescaped_plain b (body_of payload) two.1 ∙ rw more.0 refl,
        is_cut_plain b (body_of payload) two.1 ∙ more.1,
      )
]

-- nothing is not something
not_both : (o : Option ℕ) (k : ℕ) → o ≡ None → o ≡ Some k → ⊥
not_both o k none some = let wrong : Some k ≡ None = sym some ∙ none in cc

-- a digit isn't `$`
some_digit : (x k : ℕ) → hex_digit_value x ≡ Some k → (x == dollar) ≡ false
some_digit x k h = elim (cases_Bool (x == dollar)) [
  | inl is_so ↦
      let at_dollar : hex_digit_value dollar ≡ Some k =
      subst (λ (y : ℕ). hex_digit_value y ≡ Some k) (eqb-true x dollar is_so) h in
      absurd (not_both (hex_digit_value dollar) k refl at_dollar)
  | inr is_not ↦ is_not
]

-- the digits of a sum are its digits
digits_of : (s high low : ℕ) → hex_digit_value high ≡ Some (s / 16) → hex_digit_value low ≡ Some (s % 16) →
    are_digits_of s high low ≡ true
digits_of s high low h l = rw (h, l) (eq-eqb (16 * (s / 16) + s % 16) s (omega arith))

-- what `#` and the two digits tell
ends : (body rest : List ℕ) (high low : ℕ) → (high == dollar) ≡ false → (low == dollar) ≡ false →
    is_taken body high low ≡ true →
    events (Body body) (hash ∷ high ∷ low ∷ rest) ≡ Packet (unescaped body) ∷ events Between rest
ends body rest high low no_high no_low right = rw (no_high, no_low, right)

-- behind the body
behind_body : (body rest : List ℕ) → is_cut body ≡ false → length (unescaped body) ≤ PAYLOAD_MAX →
    events (Body body) (hash ∷ (sum_digits (checksum body) ++ rest)) ≡ Packet (unescaped body) ∷ events Between rest
behind_body body rest whole short =
    let s = checksum body in
    let high = slice_index lower_digits (s / 16) in
    let low = slice_index lower_digits (s % 16) in
    let h = IsDigits-lower_digits (s / 16) (omega arith) in
    let l = IsDigits-lower_digits (s % 16) (omega arith) in
    let high_no = some_digit high (s / 16) h in
    let low_no = some_digit low (s % 16) l in
    let right : is_taken body high low ≡ true =
    and_from (are_digits_of s high low && not (is_cut body)) (nat_le (length (unescaped body)) PAYLOAD_MAX)
    (and_from (are_digits_of s high low) (not (is_cut body)) (digits_of s high low h l) (rw whole refl))
    (le-leb (length (unescaped body)) PAYLOAD_MAX short) in
    ends body rest high low high_no low_no right

pub read_back : ReadBackLaw
read_back at payload rest short =
    let body = body_of payload in
    let said = spells payload in
    let close = hash ∷ sum_digits (checksum body) in
    ap (λ bytes. events (Body []) bytes) (append_assoc body close rest)
    ∙ through_body [] payload (close ++ rest)
    ∙ behind_body body rest said.1 (rw said.0 short)
    ∙ ap (λ p. Packet p ∷ events Between rest) said.0

led : (at : Standing) (front rest : List ℕ) → after at (front ++ rest) ≡ after (after at front) rest
led at [] rest = refl
led at (b ∷ front) rest = led (follow at b) front rest

told : (at : Standing) (front rest : List ℕ) →
    events at (front ++ rest) ≡ events at front ++ events (after at front) rest
told at [] rest = refl
told at (b ∷ front) rest =
    ap (λ es. noted (tells at b) ++ es) (told (follow at b) front rest)
    ∙ sym (append_assoc (noted (tells at b)) (events (follow at b) front) (events (after (follow at b) front) rest))

pub pieces : PiecesLaw
pieces = record { told = told; led = led }
