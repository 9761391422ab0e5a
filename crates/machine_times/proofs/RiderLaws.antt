-- The laws of the rider that records times.
use Rattle.std.proofs.Common.{◌≡◌, ◌∙◌, ap, refl, sym, ℕ, ◌<◌, ◌==◌, ◌%◌, ◌/◌, Bool, true, false, ◌&&◌, Option, Some}
use Rattle.std.proofs.Common.{None, arith, eq-eqb}
use Rattle.access_times.specs.Times.{is_same_write, read_in, no_reads, no_times, missing_slot, slot_at, slot_absorbed}
use Rattle.access_times.specs.Times.{reads_absorbed}
use Rattle.access_times.specs.Times.{times_absorbed, fresh_times, write_at, read_at, slot_loaded, times_loaded}
use Rattle.access_times.specs.Times.{times_stored, times_noted}
use Rattle.rtr_types.specs.declared.TheConstants.{BLOCK_WORDS, CORES_MAX}
use Rattle.std.specs.Prelude.{if◌then◌else◌, slice_index_or, map}
use Rattle.std.specs.List.{range_with_len}
use Rattle.std.specs.Str.{bytes_eq}
use Rattle.std.proofs.lemmas.Slice.Eq.{bytes_eq-Decides}
use Rattle.std.proofs.lemmas.List.{get_or-replicate}
use Rattle.std.proofs.lemmas.List.FromFn.{get_or-map-range_with_len}
use Rattle.std.proofs.lemmas.Bool.Decides.{nat_tests}
use Rattle.rtr_types.specs.declared.instr.Instr.{Instr}
use Rattle.rtr_types.specs.declared.access.Access.{Access}
use Rattle.clock_core.specs.declared.clock.Clock.{Clock}
use Rattle.access_times.specs.declared.times.SlotTimes.{SlotTimes}
use Rattle.access_times.specs.declared.times.Times.{Times}
use Rattle.access_times.proofs.KeptReads.{absorbed_at}
use Rattle.rtr_types.specs.Accesses.{is_write}
use Rattle.machine_times.specs.StandsFor.{word_number, AbsorbsAll}
use Rattle.machine_times.proofs.NewMachine.{IsFresh}
use Rattle.machine_times.specs.Retirements.{RiderNotes}
use Rattle.machine_times.specs.TimedSteps.{times_parts}

slot_of : (f : ℕ → SlotTimes) (s : ℕ) → s < BLOCK_WORDS → slice_index_or (map f (range_with_len 0 BLOCK_WORDS)) s
    missing_slot ≡ f s
slot_of f s lt = get_or-map-range_with_len f 0 BLOCK_WORDS s s missing_slot lt (omega arith)

read_of : (f : ℕ → Option (ℕ × Clock)) (d : ℕ) → d < CORES_MAX → read_in (map f (range_with_len 0 CORES_MAX)) d ≡ f d
read_of f d lt = get_or-map-range_with_len f 0 CORES_MAX d d None lt (omega arith)

absorbed_slot : (x y : Times) (s : ℕ) → s < BLOCK_WORDS → slot_at (times_absorbed x y) s ≡ slot_absorbed (slot_at x s)
    (slot_at y s)
unfolding times_absorbed
absorbed_slot x y s lt = slot_of (λ k. slot_absorbed (slot_at x k) (slot_at y k)) s lt

same_self : (w : Option (Instr × Clock)) → is_same_write w w ≡ true
same_self None = refl
same_self (Some w) =
    both3 (w.0.core == w.0.core) (w.0.count == w.0.count) (bytes_eq w.1 w.1) (eq-eqb w.0.core w.0.core refl)
    (eq-eqb w.0.count w.0.count refl)
    ((bytes_eq-Decides w.1 w.1).1 refl)
  where
    both3 : (p q r : Bool) → p ≡ true → q ≡ true → r ≡ true → (p && (q && r)) ≡ true
    both3 p q r e f g = rw (e, f, g) refl

slot_write : (a b : SlotTimes) → (slot_absorbed a b).write ≡ a.write
slot_write a b = by (is_same_write a.write b.write)
  where
    by : (t : Bool) → (if t then record a { reads = reads_absorbed a.reads b.reads } else a).write ≡ a.write
    by true = refl
    by false = refl

slot_reads : (a b : SlotTimes) → a.write ≡ b.write → slot_absorbed a b ≡ record a {
  reads =
      reads_absorbed a.reads b.reads;
}
slot_reads a b e = ap (λ (t : Bool). if t then record a { reads = reads_absorbed a.reads b.reads } else a)
    (ap (is_same_write a.write) (sym e)
    ∙ same_self a.write)

pub times_absorb : AbsorbsAll times_parts
times_absorb slot ls =
    record {
      write = λ x y e. ap (λ (k : SlotTimes). k.write) (absorbed_slot x.rider y.rider slot ls)
          ∙ slot_write (slot_at x.rider slot) (slot_at y.rider slot);
      read = λ x y d ld e.
          ap (λ (k : SlotTimes). read_in k.reads d) (absorbed_slot x.rider y.rider slot ls
          ∙ slot_reads (slot_at x.rider slot) (slot_at y.rider slot) e)
          ∙ absorbed_at (slot_at x.rider slot).reads (slot_at y.rider slot).reads d ld;
    }

-- ---- the start

fresh_at : (slot : ℕ) → slot < BLOCK_WORDS → slot_at fresh_times slot ≡ no_times
unfolding fresh_times
fresh_at slot lt = get_or-replicate BLOCK_WORDS slot no_times missing_slot lt

pub times_fresh : IsFresh times_parts
times_fresh =
    record {
      write = λ slot ls. ap (λ (k : SlotTimes). k.write) (fresh_at slot ls);
      read = λ slot d ls ld. ap (λ (k : SlotTimes). read_in k.reads d) (fresh_at slot ls)
          ∙ get_or-replicate CORES_MAX d None None ld;
    }

-- ---- an access noted

loaded_slot : (t : Times) (s : ℕ) (at : Instr) (clock : Clock) (k : ℕ) → k < BLOCK_WORDS →
    slot_at (times_loaded t s at clock) k
    ≡ (if k == s then slot_loaded (slot_at t k) at clock else slot_at t k)
unfolding times_loaded
loaded_slot t s at clock k lt = slot_of (λ k. if k == s then slot_loaded (slot_at t k) at clock else slot_at t k) k lt

stored_slot : (t : Times) (s : ℕ) (at : Instr) (clock : Clock) (k : ℕ) → k < BLOCK_WORDS →
    slot_at (times_stored t s at clock) k
    ≡ (if k == s then record { write = Some (at, clock); reads = no_reads } else slot_at t k)
unfolding times_stored
stored_slot t s at clock k lt = slot_of (λ k. if k == s then record {
  write = Some (at, clock);
  reads =
      no_reads;
} else slot_at t k) k lt

loaded_write : (a : SlotTimes) (at : Instr) (clock : Clock) → (slot_loaded a at clock).write ≡ a.write
unfolding slot_loaded
loaded_write a at clock = refl

loaded_read : (a : SlotTimes) (at : Instr) (clock : Clock) (d : ℕ) → d < CORES_MAX →
    read_in (slot_loaded a at clock).reads d
    ≡ (if d == at.core then Some (at.count, clock) else read_in a.reads d)
unfolding slot_loaded
loaded_read a at clock d lt = read_of (λ d. if d == at.core then Some (at.count, clock) else read_in a.reads d) d lt

same_word : (w slot : ℕ) → slot < BLOCK_WORDS → (w == word_number (w / BLOCK_WORDS) slot) ≡ (slot == w % BLOCK_WORDS)
same_word w slot lt = grind (arith, nat_tests)

flip : (c d : ℕ) → (c == d) ≡ (d == c)
flip c d = grind (arith, nat_tests)

-- the parts of a slot after an access, by whether it's the access's slot
load_write : (t : Bool) (a : SlotTimes) (at : Instr) (clock : Clock) →
    (if t then slot_loaded a at clock else a).write ≡ a.write
load_write true a at clock = loaded_write a at clock
load_write false a at clock = refl

load_read : (t : Bool) (a : SlotTimes) (at : Instr) (clock : Clock) (d : ℕ) → d < CORES_MAX →
    read_in (if t then slot_loaded a at clock else a).reads d
    ≡ (if t then (if at.core == d then Some (at.count, clock) else read_in a.reads d) else read_in a.reads d)
load_read true a at clock d lt = loaded_read a at clock d lt
    ∙ ap (λ (u : Bool). if u then Some (at.count, clock) else read_in a.reads d) (flip d at.core)
load_read false a at clock d lt = refl

store_write : (t : Bool) (a : SlotTimes) (at : Instr) (clock : Clock) →
    (if t then record { write = Some (at, clock); reads = no_reads } else a).write
    ≡ (if t && true then Some (at, clock) else a.write)
store_write true a at clock = refl
store_write false a at clock = refl

store_read : (t : Bool) (a : SlotTimes) (at : Instr) (clock : Clock) (d : ℕ) → d < CORES_MAX →
    read_in (if t then record { write = Some (at, clock); reads = no_reads } else a).reads
    d ≡ (if t then None else read_in a.reads d)
store_read true a at clock d lt = get_or-replicate CORES_MAX d None None lt
store_read false a at clock d lt = refl

and_false : {X : Type 0} (t : Bool) (x y : X) → y ≡ (if t && false then x else y)
and_false true x y = refl
and_false false x y = refl

pub times_notes : (a : Access) (clock : Clock) (t : Times) → RiderNotes times_parts (record {
  access = a;
  clock =
      clock;
}) t (times_noted a t clock)
times_notes a clock t = record {
  write = λ slot ls. write slot ls (is_write a.kind);
  read =
      λ slot d ls ld. read slot d ls ld (is_write a.kind);
}
  where
    write : (slot : ℕ) → slot < BLOCK_WORDS → (w : Bool) →
        write_at (if w then times_stored t (a.word % BLOCK_WORDS) a.at clock else times_loaded t (a.word % BLOCK_WORDS)
        a.at clock) slot
        ≡ (if (a.word == word_number (a.word / BLOCK_WORDS) slot) && w then Some (a.at, clock) else write_at t slot)
    write slot ls false =
        ap (λ (s : SlotTimes). s.write) (loaded_slot t (a.word % BLOCK_WORDS) a.at clock slot ls)
        ∙ load_write (slot == a.word % BLOCK_WORDS) (slot_at t slot) a.at clock
        ∙ and_false (a.word == word_number (a.word / BLOCK_WORDS) slot) (Some (a.at, clock)) (write_at t slot)
    write slot ls true =
        ap (λ (s : SlotTimes). s.write) (stored_slot t (a.word % BLOCK_WORDS) a.at clock slot ls)
        ∙ store_write (slot == a.word % BLOCK_WORDS) (slot_at t slot) a.at clock
        ∙ ap (λ (u : Bool). if u && true then Some (a.at, clock) else write_at t slot) (sym (same_word a.word slot ls))

    read : (slot d : ℕ) → slot < BLOCK_WORDS → d < CORES_MAX → (w : Bool) →
        read_at (if w then times_stored t (a.word % BLOCK_WORDS) a.at clock else times_loaded t (a.word % BLOCK_WORDS)
        a.at clock) slot d
        ≡ (if a.word == word_number (a.word / BLOCK_WORDS) slot then
        (if w then None else if a.at.core == d then Some (a.at.count, clock) else read_at t slot d) else read_at t slot
        d)
    read slot d ls ld false =
        ap (λ (s : SlotTimes). read_in s.reads d) (loaded_slot t (a.word % BLOCK_WORDS) a.at clock slot ls)
        ∙ load_read (slot == a.word % BLOCK_WORDS) (slot_at t slot) a.at clock d ld
        ∙ ap (λ (u : Bool). if u then (if a.at.core == d then Some (a.at.count, clock) else read_at t slot d) else
        read_at t slot d)
        (sym (same_word a.word slot ls))
    read slot d ls ld true =
        ap (λ (s : SlotTimes). read_in s.reads d) (stored_slot t (a.word % BLOCK_WORDS) a.at clock slot ls)
        ∙ store_read (slot == a.word % BLOCK_WORDS) (slot_at t slot) a.at clock d ld
        ∙ ap (λ (u : Bool). if u then None else read_at t slot d) (sym (same_word a.word slot ls))
