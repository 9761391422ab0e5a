-- The reader holds what has to be known of one byte more, and where it stands is what its stage says.
use Rattle.std.proofs.Common.{◌≡◌, ℕ, ◌+◌, ◌%◌, ◌<◌, ◌≤◌, ◌==◌, ◌&&◌, not, true, false, List, [], ◌∷◌}
use Rattle.std.proofs.Common.{◌++◌, length, take}
use Rattle.std.proofs.Common.{refl, sym, ap, subst, ◌∙◌, arith, eq-eqb, length-append}
use Rattle.std.specs.Prelude.{bit_xor, nat_le, nat_lt}
use Rattle.std.proofs.lemmas.Bool.{and_from, le-leb, le-ltb, lt-ltb, ltb-false, ne_eqb}
use Rattle.std.proofs.lemmas.List.{length-take, take-append-le, take_all}
use Rattle.gdb_packets.specs.Bytes.{brace}
use Rattle.gdb_packets.specs.Frames.{Standing, Between, Body, Sum, Digit, Packet, are_digits_of, checksum, is_cut}
use Rattle.gdb_packets.specs.Frames.{is_taken}
use Rattle.gdb_packets.specs.Frames.{told, unescaped}
use Rattle.gdb_packets.specs.Readers.{Holds, IsAt, Keeps}
use Rattle.gdb_packets.specs.declared.TheConstants.{PAYLOAD_MAX}
use Rattle.gdb_packets.specs.declared.reader.Reader.{Reader}
use Rattle.gdb_packets.specs.declared.reader.Stage.TheVariants as stages
use Rattle.gdb_packets.proofs.BodyBytes.{added, checksum_more, is_cut_more, unescaped_more}

-- there is room, so the byte is taken
pub take_room : (m : ℕ) (xs : List ℕ) (b : ℕ) → length (take m xs) < m → take m (xs ++ b ∷ []) ≡ take m xs ++ b ∷ []
take_room m xs b room =
    let few : length xs < m = omega (arith, length-take m xs) in
    take_all m (xs ++ b ∷ []) (omega (arith, length-append xs (b ∷ [])))
    ∙ ap (λ ys. ys ++ b ∷ []) (sym (take_all m xs (omega arith)))

-- there is none
pub take_full : (m : ℕ) (xs : List ℕ) (b : ℕ) → m ≤ length (take m xs) → take m (xs ++ b ∷ []) ≡ take m xs
take_full m xs b full = take-append-le m xs (b ∷ []) (omega (arith, length-take m xs))

pub long_room : (m : ℕ) (xs : List ℕ) (b : ℕ) → length (take m xs) < m →
    nat_lt m (length (xs ++ b ∷ [])) ≡ nat_lt m (length xs)
long_room m xs b room =
    le-ltb m (length (xs ++ b ∷ [])) (omega (arith, length-take m xs, length-append xs (b ∷ [])))
    ∙ sym (le-ltb m (length xs) (omega (arith, length-take m xs)))

pub long_full : (m : ℕ) (xs : List ℕ) (b : ℕ) → m ≤ length (take m xs) → nat_lt m (length (xs ++ b ∷ [])) ≡ true
long_full m xs b full =
    lt-ltb m (length (xs ++ b ∷ [])) (omega (arith, length-take m xs, length-append xs (b ∷ [])))

-- the payload with a byte more, where there is room and where there is none
pub keeps_room : (xs : List ℕ) (b : ℕ) (old new : Reader) → Keeps xs old → length old.payload.items < PAYLOAD_MAX →
    new.payload.items ≡ old.payload.items ++ b ∷ [] → new.long ≡ old.long → Keeps (xs ++ b ∷ []) new
keeps_room xs b old new h room more same =
    let room' : length (take PAYLOAD_MAX xs) < PAYLOAD_MAX = subst (λ ys. length ys < PAYLOAD_MAX) h.front room in
    record {
      front = more ∙ ap (λ ys. ys ++ b ∷ []) h.front ∙ sym (take_room PAYLOAD_MAX xs b room');
      long = same ∙ h.long ∙ sym (long_room PAYLOAD_MAX xs b room');
    }

pub keeps_full : (xs : List ℕ) (b : ℕ) (old new : Reader) → Keeps xs old → PAYLOAD_MAX ≤ length old.payload.items →
    new.payload.items ≡ old.payload.items → new.long ≡ true → Keeps (xs ++ b ∷ []) new
keeps_full xs b old new h full same long =
    let full' : PAYLOAD_MAX ≤ length (take PAYLOAD_MAX xs) = subst (λ ys. PAYLOAD_MAX ≤ length ys) h.front full in
    record {
      front = same ∙ h.front ∙ sym (take_full PAYLOAD_MAX xs b full');
      long = long ∙ sym (long_full PAYLOAD_MAX xs b full');
    }

-- nothing has come of a body
pub holds_nothing : (reader : Reader) → reader.sum ≡ 0 → reader.cut ≡ false → reader.long ≡ false →
    reader.payload.items ≡ [] → Holds [] reader
unfolding is_cut unescaped
holds_nothing reader sum cut long items =
    record {
      sum = sum;
      cut = cut;
      payload = record { front = items ∙ sym (take_all PAYLOAD_MAX [] (omega arith)); long = long };
    }

-- a body with a byte more, by what the byte adds to the payload
holds_more : (body : List ℕ) (b : ℕ) (old new : Reader) → Holds body old → new.sum ≡ (old.sum + b) % 256 →
    new.cut ≡ (not (is_cut body) && b == brace) →
    Keeps (added (is_cut body) (b == brace) b (unescaped body)) new → Holds (body ++ b ∷ []) new
holds_more body b old new h sum cut keeps =
    record {
      sum = sum ∙ ap (λ s. (s + b) % 256) h.sum ∙ sym (checksum_more body b);
      cut = cut ∙ sym (is_cut_more body b);
      payload = subst (λ xs. Keeps xs new) (sym (unescaped_more body b)) keeps;
    }

-- behind a `}`
pub holds_changed : (body : List ℕ) (b : ℕ) (old new : Reader) → Holds body old → old.cut ≡ true →
    new.sum ≡ (old.sum + b) % 256 → new.cut ≡ false → Keeps (unescaped body ++ bit_xor b 32 ∷ []) new →
    Holds (body ++ b ∷ []) new
holds_changed body b old new h was sum cut keeps =
    let open_end : is_cut body ≡ true = sym h.cut ∙ was in
    holds_more body b old new h sum (cut ∙ ap (λ t. not t && b == brace) (sym open_end))
    (subst (λ t. Keeps (added t (b == brace) b (unescaped body)) new) (sym open_end) keeps)

-- at a `}`
pub holds_brace : (body : List ℕ) (b : ℕ) (old new : Reader) → Holds body old → old.cut ≡ false → b ≡ brace →
    new.sum ≡ (old.sum + b) % 256 → new.cut ≡ true → Keeps (unescaped body) new → Holds (body ++ b ∷ []) new
holds_brace body b old new h was is sum cut keeps =
    let whole : is_cut body ≡ false = sym h.cut ∙ was in
    let test : (b == brace) ≡ true = eq-eqb b brace is in
    holds_more body b old new h sum (cut ∙ sym (rw (whole, test) refl))
    (subst (λ t. Keeps (added t (b == brace) b (unescaped body)) new) (sym whole)
    (subst (λ t. Keeps (added false t b (unescaped body)) new) (sym test) keeps))

-- at any other byte
pub holds_plain : (body : List ℕ) (b : ℕ) (old new : Reader) → Holds body old → old.cut ≡ false → (b ≡ brace → ⊥) →
    new.sum ≡ (old.sum + b) % 256 → new.cut ≡ old.cut → Keeps (unescaped body ++ b ∷ []) new →
    Holds (body ++ b ∷ []) new
holds_plain body b old new h was is_not sum cut keeps =
    let whole : is_cut body ≡ false = sym h.cut ∙ was in
    let test : (b == brace) ≡ false = ne_eqb b brace is_not in
    holds_more body b old new h sum (cut ∙ was ∙ sym (rw (whole, test) refl))
    (subst (λ t. Keeps (added t (b == brace) b (unescaped body)) new) (sym whole)
    (subst (λ t. Keeps (added false t b (unescaped body)) new) (sym test) keeps))

-- a frame is taken that the reader holds so
pub taken : (body : List ℕ) (high low : ℕ) (reader : Reader) → Holds body reader →
    are_digits_of reader.sum high low ≡ true → reader.cut ≡ false → reader.long ≡ false →
    Packet reader.payload.items ≡ told (Digit body high) low
taken body high low reader h digits whole short =
    let u = unescaped body in
    let fits : length u ≤ PAYLOAD_MAX = ltb-false PAYLOAD_MAX (length u) (sym h.payload.long ∙ short) in
    let right : is_taken body high low ≡ true =
    and_from (are_digits_of (checksum body) high low && not (is_cut body)) (nat_le (length u) PAYLOAD_MAX)
    (and_from (are_digits_of (checksum body) high low) (not (is_cut body))
    (subst (λ s. are_digits_of s high low ≡ true) h.sum digits) (ap not (sym h.cut ∙ whole)))
    (le-leb (length u) PAYLOAD_MAX fits) in
    rw right (ap Packet (h.payload.front ∙ take_all PAYLOAD_MAX u fits))

-- where a reader stands is what its stage says
pub at_between : (at : Standing) (reader : Reader) → IsAt at reader → reader.stage ≡ stages.Between → at ≡ Between
at_between Between reader h e = refl
at_between (Body body) reader h e = let wrong = h.0 in cc
at_between (Sum body) reader h e = let wrong = h.0 in cc
at_between (Digit body high) reader h e = let wrong = h.0 in cc

pub at_body : (at : Standing) (reader : Reader) → IsAt at reader → reader.stage ≡ stages.Body →
    (body : List ℕ) × (at ≡ Body body) × Holds body reader
at_body Between reader h e = absurd (let wrong = h in cc)
at_body (Body body) reader h e = (body, refl, h.1)
at_body (Sum body) reader h e = absurd (let wrong = h.0 in cc)
at_body (Digit body high) reader h e = absurd (let wrong = h.0 in cc)

pub at_sum : (at : Standing) (reader : Reader) → IsAt at reader → reader.stage ≡ stages.Sum →
    (body : List ℕ) × (at ≡ Sum body) × Holds body reader
at_sum Between reader h e = absurd (let wrong = h in cc)
at_sum (Body body) reader h e = absurd (let wrong = h.0 in cc)
at_sum (Sum body) reader h e = (body, refl, h.1)
at_sum (Digit body high) reader h e = absurd (let wrong = h.0 in cc)

pub at_digit : (at : Standing) (reader : Reader) (digit : ℕ) → IsAt at reader → reader.stage ≡ stages.Digit digit →
    (body : List ℕ) × (at ≡ Digit body digit) × Holds body reader
at_digit Between reader digit h e = absurd (let wrong = h in cc)
at_digit (Body body) reader digit h e = absurd (let wrong = h.0 in cc)
at_digit (Sum body) reader digit h e = absurd (let wrong = h.0 in cc)
at_digit (Digit body high) reader digit h e =
    let same : stages.Digit high ≡ stages.Digit digit = sym h.0 ∙ e in
    let one : high ≡ digit = cc in
    (body, ap (λ d. Digit body d) one, h.1)
