-- What the loops and the writes that fill the parts of times leave.
use Rattle.std.proofs.Common.{◌≡◌, ◌∙◌, ap, sym, ℕ, ◌<◌, ◌≤◌, length, List, Option, Some, None, arith}
use Rattle.std.specs.Prelude.{map, slice_set, slice_index_or}
use Rattle.std.proofs.lemmas.List.{ext_get_or, get_or-set_same, get_or-set_other, length-set}
use Rattle.std.proofs.lemmas.Bool.Decides.{nat_tests}
use Rattle.std.specs.List.{range_with_len}
use Rattle.std.proofs.lemmas.List.FromFn.{fill_by_all}
use Rattle.rtr_types.specs.declared.instr.Instr.{Instr}
use Rattle.clock_core.specs.declared.clock.Clock.{Clock}
use Rattle.rtr_types.specs.declared.TheConstants.{BLOCK_WORDS, CORES_MAX}
use Rattle.access_times.specs.declared.times.SlotTimes.{SlotTimes}
use Rattle.access_times.specs.declared.times.Times.{Times}
use Rattle.access_times.specs.Times.{read_noted, slot_loaded, slot_stored, slot_set, times_loaded, times_stored}
use Rattle.access_times.specs.Times.{slot_absorbed, slot_at, missing_slot, times_absorbed}

-- times are the others where each slot is
pub slots_same : (x t : Times) (slot : ℕ) → length x.slots ≡ BLOCK_WORDS → length t.slots ≡ BLOCK_WORDS →
    BLOCK_WORDS ≤ slot → ((k : ℕ) → k < slot → slot_at x k ≡ slot_at t k) →
    x ≡ t
slots_same x t slot long same end done =
    ap (λ (y : List SlotTimes). (let u : Times = record { slots = y } in u))
    (ext_get_or missing_slot x.slots t.slots (long ∙ sym same) (λ k lt. done k (omega arith)))

pub slots_filled : (a b x : Times) (slot : ℕ) → length x.slots ≡ BLOCK_WORDS → BLOCK_WORDS ≤ slot →
    ((k : ℕ) → k < slot → slot_at x k ≡ slot_absorbed (slot_at a k) (slot_at b k)) → x ≡ times_absorbed a b
unfolding times_absorbed
slots_filled a b x slot long end done =
    ap (λ (y : List SlotTimes). (let t : Times = record { slots = y } in t))
    (fill_by_all (λ k. slot_absorbed (slot_at a k) (slot_at b k)) x.slots BLOCK_WORDS missing_slot long
    (λ k lt. done k (omega arith)))

-- a list with one place set is the list of what is at each place
set_filled : {X : Type 0} (xs : List X) (n j : ℕ) (x d : X) (f : ℕ → X) → length xs ≡ n → j < n → f j ≡ x →
    ((k : ℕ) → (k ≡ j → ⊥) → f k ≡ slice_index_or xs k d) → slice_set xs j x ≡ map f (range_with_len 0 n)
set_filled xs n j x d f long lt here there =
    fill_by_all f (slice_set xs j x) n d (length-set xs j x ∙ long)
    (λ k lk. grind (
      arith,
      get_or-set_same xs j x d (let e = long in omega arith),
      get_or-set_other xs j k x d,
      there,
      here,
    ))

pub read_set : (a : SlotTimes) (at : Instr) (clock : Clock) → length a.reads ≡ CORES_MAX → at.core < CORES_MAX →
    ◌≡◌ {A = SlotTimes} (record { write = a.write; reads = slice_set a.reads at.core (Some (at.count, clock)) })
    (slot_loaded a at clock)
unfolding slot_loaded
read_set a at clock long lt =
    ap (λ (r : List (Option (ℕ × Clock))). (let s : SlotTimes = record { write = a.write; reads = r } in s))
    (set_filled a.reads CORES_MAX at.core (Some (at.count, clock)) None (λ core. read_noted a at clock core) long lt
    (grind (arith, nat_tests))
    (λ k other. grind (arith, nat_tests)))

pub load_set : (t : Times) (slot : ℕ) (at : Instr) (clock : Clock) (x : SlotTimes) → length t.slots ≡ BLOCK_WORDS →
    slot < BLOCK_WORDS → x ≡ slot_loaded (slot_at t slot) at clock →
    ◌≡◌ {A = Times} (record { slots = slice_set t.slots slot x }) (times_loaded t slot at clock)
unfolding times_loaded
load_set t slot at clock x long lt e =
    ap (λ (y : List SlotTimes). (let u : Times = record { slots = y } in u))
    (set_filled t.slots BLOCK_WORDS slot x missing_slot (λ k. slot_set t slot (λ a. slot_loaded a at clock) k) long lt
    (grind (arith, nat_tests))
    (λ k other. grind (arith, nat_tests)))

pub store_set : (t : Times) (slot : ℕ) (at : Instr) (clock : Clock) (x : SlotTimes) → length t.slots ≡ BLOCK_WORDS →
    slot < BLOCK_WORDS → x ≡ slot_stored at clock →
    ◌≡◌ {A = Times} (record { slots = slice_set t.slots slot x }) (times_stored t slot at clock)
unfolding times_stored
store_set t slot at clock x long lt e =
    ap (λ (y : List SlotTimes). (let u : Times = record { slots = y } in u))
    (set_filled t.slots BLOCK_WORDS slot x missing_slot (λ k. slot_set t slot (λ a. slot_stored at clock) k) long lt
    (grind (arith, nat_tests))
    (λ k other. grind (arith, nat_tests)))
