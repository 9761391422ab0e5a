use Rattle.std.proofs.Common.{arith, ◌∙◌, ◌≡◌, ◌≤◌, cond, drop, length, nat_lt, Err, List, ℕ}
use Rattle.std.proofs.lemmas.Bool.{lt-ltb, le-ltb}
use Rattle.varint_core.specs.declared.Varint.TheVariants.{Short, Over}
use Rattle.varint_core.specs.Leb128.{reading}
use Rattle.varint_core.proofs.ByteReading.{at_five, at_small, at_end, reading_is, read_on}
use Rattle.varint_core.proofs.take_u32.Goals as goal

-- bytes that end before their number does are short or over, by how many they are
ended : (bytes : List ℕ) (i scale value : ℕ) → length bytes ≤ i →
    read_on i scale value (drop i bytes) ≡ read_on 0 1 0 bytes →
    cond (nat_lt i 5) (Err Short) (Err Over) ≡ reading bytes
ended bytes i scale value end rest = at_end bytes i scale value _ end rest ∙ reading_is bytes

pub returns-then-i-eq-BYTES_MAX-clause-value : goal.returns-then-i-eq-BYTES_MAX-clause-value
returns-then-i-eq-BYTES_MAX-clause-value c =
    at_five c.args.bytes.now c.loop-i.i c.loop-i.scale c.loop-i.value _ c.if-i-eq-BYTES_MAX.true c.loop-i-test.true
    c.loop-i.invariant.rest
    ∙ reading_is c.args.bytes.now

pub returns-then-b-lt128-clause-value : goal.returns-then-b-lt128-clause-value
returns-then-b-lt128-clause-value c =
    c.ended.ensures.value
    ∙ at_small c.args.bytes.now c.loop-i.i c.loop-i.scale c.loop-i.value _ c.if-i-eq-BYTES_MAX.false c.loop-i-test.true
    c.if-b-lt128.true
    c.loop-i.invariant.rest ∙ reading_is c.args.bytes.now

pub returns-then-bytes-lt-BYTES_MAX-clause-value : goal.returns-then-bytes-lt-BYTES_MAX-clause-value
returns-then-bytes-lt-BYTES_MAX-clause-value c =
    rw (lt-ltb c.loop-i.i 5 (omega arith)) at (ended c.args.bytes.now c.loop-i.i c.loop-i.scale c.loop-i.value
    c.loop-i-test.false c.loop-i.invariant.rest)

pub returns-else-bytes-lt-BYTES_MAX-clause-value : goal.returns-else-bytes-lt-BYTES_MAX-clause-value
returns-else-bytes-lt-BYTES_MAX-clause-value c =
    rw (le-ltb c.loop-i.i 5 (omega arith)) at (ended c.args.bytes.now c.loop-i.i c.loop-i.scale c.loop-i.value
    c.loop-i-test.false c.loop-i.invariant.rest)
