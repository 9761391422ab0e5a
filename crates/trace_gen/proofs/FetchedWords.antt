-- What is fetched from an image is the word of the program's instruction.
use Rattle.std.proofs.Common.{◌≡◌, ℕ, zero, suc, ◌+◌, ◌*◌, ◌%◌, ◌<◌, ◌≤◌, arith, ap}
use Rattle.std.proofs.Common.{sym, ◌∙◌, List, [], ◌∷◌, ◌++◌, length, Some, All, IsTrue, subst, flat_map}
use Rattle.std.specs.Prelude.{slice_get}
use Rattle.std.specs.Int.{to_le_bytes, from_le_bytes, w32}
use Rattle.std.proofs.lemmas.Nat.{from_le_bytes-to_le_bytes_4}
use Rattle.std.proofs.lemmas.List.Elements.{All-head, All-tail}
use Rattle.image_mem.specs.Contents.{word_from}
use Rattle.image_mem.proofs.WordLemmas.{little_from-drop, fetched-some}
use Rattle.rv_decode.specs.declared.op.Op.{Op}
use Rattle.rv_decode.specs.Ranges.{Fits}
use Rattle.rv_decode.specs.Words.{encoding}
use Rattle.rv_decode.proofs.RoundTrip.{back}
use Rattle.trace_gen.specs.declared.shape.Shape.{Shape}
use Rattle.trace_gen.specs.Laws.{Fetches}
use Rattle.trace_gen.specs.Programs.{program, instruction_bytes, takes}
use Rattle.trace_gen.proofs.FitLemmas.{program_fits}
use Rattle.trace_gen.proofs.Lengths.{bytes_length}
use Rattle.trace_gen.proofs.WordBounds.{word_below}

found_fits : (ops : List Op) (k : ℕ) (op : Op) → All Fits ops → slice_get ops k ≡ Some op → Fits op
found_fits [] k op fits found = absurd (cc)
found_fits (x ∷ ops) zero op fits found =
    let same : x ≡ op = cc in
    subst Fits same (All-head Fits x ops fits)
found_fits (x ∷ ops) (suc k) op fits found = found_fits ops k op (All-tail Fits x ops fits) found

found_within : (ops : List Op) (k : ℕ) (op : Op) → slice_get ops k ≡ Some op → k < length ops
found_within [] k op found = absurd (cc)
found_within (x ∷ ops) zero op found = omega arith
found_within (x ∷ ops) (suc k) op found =
    let within = found_within ops k op found in
    omega arith

-- the first word
first_word : (op : Op) (rest : List ℕ) → Fits op → word_from (instruction_bytes op ++ rest) 0 ≡ encoding op
first_word op rest fits =
    let again : from_le_bytes w32 (to_le_bytes w32 (encoding op)) ≡ encoding op =
    from_le_bytes-to_le_bytes_4 (encoding op) (word_below op fits) in
    omega arith

-- the words after it
later_word : (op : Op) (rest : List ℕ) (k : ℕ) → word_from (instruction_bytes op ++ rest) (4 * suc k) ≡ word_from rest
    (4 * k)
later_word op rest k =
    let place : 4 + 4 * k ≡ 4 * suc k = omega arith in
    let moved : word_from rest (4 * k) ≡ word_from (instruction_bytes op ++ rest) (4 + 4 * k) =
    little_from-drop 4 (4 * k) 4 (instruction_bytes op ++ rest) in
    sym (moved ∙ ap (λ (i : ℕ). word_from (instruction_bytes op ++ rest) i) place)

word_at : (ops : List Op) (k : ℕ) (op : Op) → All Fits ops → slice_get ops k ≡ Some op
    → word_from (flat_map instruction_bytes ops) (4 * k) ≡ encoding op
word_at [] k op fits found = absurd (cc)
word_at (x ∷ ops) zero op fits found =
    let same : x ≡ op = cc in
    first_word x (flat_map instruction_bytes ops) (All-head Fits x ops fits) ∙ ap encoding same
word_at (x ∷ ops) (suc k) op fits found =
    later_word x (flat_map instruction_bytes ops) k ∙ word_at ops k op (All-tail Fits x ops fits) found

pub fetches : (shape : Shape) (number words k : ℕ) (op : Op) → IsTrue (takes shape number)
    → slice_get (program shape number) k ≡ Some op → Fetches shape number words k op
fetches shape number words k op taken found =
    let ops = program shape number in
    let bytes = flat_map instruction_bytes ops in
    let fits : All Fits ops = program_fits shape number taken in
    let within : 4 * k + 4 ≤ length bytes = omega (arith, found_within ops k op found, bytes_length ops) in
    let aligned : 4 * k % 4 ≡ 0 = omega arith in
    record {
      word = fetched-some (record { bytes = bytes; words = words }) (4 * k) aligned within
          ∙ ap Some (word_at ops k op fits found);
      meaning = back op (found_fits ops k op fits found);
    }
