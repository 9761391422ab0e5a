-- A word of the memory is what the last write to it left.
use Rattle.std.proofs.Common.{◌≡◌, ◌∙◌, refl, ℕ, ◌<◌, ◌==◌, ◌%◌, ◌/◌, Bool, true, false, ◌&&◌, List, length, arith}
use Rattle.std.specs.Prelude.{if◌then◌else◌, slice_index, slice_set}
use Rattle.std.proofs.lemmas.List.{length-set, get_or-set_same, get_or-set_other}
use Rattle.std.proofs.lemmas.Bool.Decides.{nat_tests}
use Rattle.rtr_types.specs.declared.TheConstants.{BLOCK_WORDS}
use Rattle.rtr_types.specs.Accesses.{is_write}
use Rattle.rtr_types.specs.declared.access.Access.{Access}
use Rattle.msi_state.specs.Events.{Nothing, Retires, Accesses}
use Rattle.machine_data.specs.Coherent.{memory_after, WordsFit, word_of, LastWrite}

same_place : (x y : ℕ) → x / BLOCK_WORDS ≡ y / BLOCK_WORDS → x % BLOCK_WORDS ≡ y % BLOCK_WORDS → x ≡ y
same_place x y q r = omega arith

set_word : (xs : List ℕ) (i j v : ℕ) → length xs ≡ BLOCK_WORDS → j < BLOCK_WORDS →
    slice_index (slice_set xs i v) j ≡ (if j == i then v else slice_index xs j)
set_word xs i j v long lt = grind (arith, nat_tests, get_or-set_same xs i v 0, get_or-set_other xs i j v 0)

written_fits : (a : Access) (memory : ℕ → List ℕ) → WordsFit memory → WordsFit (memory_after (Accesses a) memory)
written_fits a memory h b = by_test (is_write a.kind && (b == a.word / BLOCK_WORDS))
  where
    by_test : (t : Bool) → length (if t then slice_set (memory b) (a.word % BLOCK_WORDS) a.after else memory
        b) ≡ BLOCK_WORDS
    by_test true = length-set (memory b) (a.word % BLOCK_WORDS) a.after ∙ h b
    by_test false = h b

written_word : (a : Access) (memory : ℕ → List ℕ) → WordsFit memory → (word : ℕ) →
    word_of (memory_after (Accesses a) memory) word
    ≡ (if is_write a.kind && (a.word == word) then a.after else word_of memory word)
written_word a memory h word = by_write (is_write a.kind)
  where
    by_test : (t : Bool) → (word / BLOCK_WORDS == a.word / BLOCK_WORDS) ≡ t →
        slice_index (if t then slice_set (memory (word / BLOCK_WORDS)) (a.word % BLOCK_WORDS) a.after else memory
        (word / BLOCK_WORDS)) (word % BLOCK_WORDS)
        ≡ (if a.word == word then a.after else word_of memory word)
    by_test true e =
        let block : word / BLOCK_WORDS ≡ a.word / BLOCK_WORDS = grind (arith, nat_tests) in
        let same : (word % BLOCK_WORDS ≡ a.word % BLOCK_WORDS) → word ≡ a.word =
        λ (r : word % BLOCK_WORDS ≡ a.word % BLOCK_WORDS). same_place word a.word block r in
        set_word (memory (word / BLOCK_WORDS)) (a.word % BLOCK_WORDS) (word % BLOCK_WORDS) a.after
        (h (word / BLOCK_WORDS)) (omega arith)
        ∙ by_slot (word % BLOCK_WORDS == a.word % BLOCK_WORDS) refl same
      where
        by_slot : (u : Bool) → (word % BLOCK_WORDS == a.word % BLOCK_WORDS) ≡ u →
            (word % BLOCK_WORDS ≡ a.word % BLOCK_WORDS → word ≡ a.word) →
            (if u then a.after else word_of memory word) ≡ (if a.word == word then a.after else word_of memory word)
        by_slot true f same = let at : (a.word == word) ≡ true = let w : word ≡ a.word =
            same (grind (arith, nat_tests)) in grind (arith, nat_tests) in
            rw at refl
        by_slot false f same = let at : (a.word == word) ≡ false = grind (arith, nat_tests) in rw at refl
    by_test false e = let at : (a.word == word) ≡ false = grind (arith, nat_tests) in rw at refl

    by_write : (t : Bool) →
        slice_index (if t && (word / BLOCK_WORDS == a.word / BLOCK_WORDS) then slice_set (memory (word / BLOCK_WORDS))
        (a.word % BLOCK_WORDS) a.after else memory (word / BLOCK_WORDS)) (word % BLOCK_WORDS)
        ≡ (if t && (a.word == word) then a.after else word_of memory word)
    by_write true = by_test (word / BLOCK_WORDS == a.word / BLOCK_WORDS) refl
    by_write false = refl

pub last_write_found : LastWrite
last_write_found Nothing memory h = (h, λ word. refl)
last_write_found (Retires at) memory h = (h, λ word. refl)
last_write_found (Accesses a) memory h = (written_fits a memory h, written_word a memory h)
