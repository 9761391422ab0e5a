-- The times hold the access that was noted last.
use Rattle.std.proofs.Common.{◌≡◌, ℕ, ◌%◌, ◌<◌, ◌∙◌, ap, arith, true, false, Bool, ◌==◌, Some, None, eq-eqb, refl}
use Rattle.std.specs.Prelude.{if◌then◌else◌}
use Rattle.std.proofs.lemmas.List.FromFn.{get_or-map-range_with_len}
use Rattle.rtr_types.specs.Accesses.{is_write}
use Rattle.rtr_types.specs.declared.instr.Instr.{Instr}
use Rattle.rtr_types.specs.declared.access.Access.{Access}
use Rattle.rtr_types.specs.declared.access.Kind.{Kind}
use Rattle.clock_core.specs.declared.clock.Clock.{Clock}
use Rattle.rtr_types.specs.declared.TheConstants.{BLOCK_WORDS, CORES_MAX}
use Rattle.access_times.specs.declared.times.SlotTimes.{SlotTimes}
use Rattle.access_times.specs.declared.times.Times.{Times}
use Rattle.access_times.specs.Times.{write_at, read_at, read_in, slot_at, missing_slot, no_reads, slot_loaded}
use Rattle.access_times.specs.Times.{times_loaded, times_stored, times_noted_as}
use Rattle.access_times.specs.Times.{times_noted}
use Rattle.online_reduce.specs.Exact.{IsHeld}

stored_slot : (t : Times) (slot : ℕ) (at : Instr) (clock : Clock) → slot < BLOCK_WORDS
    → slot_at (times_stored t slot at clock) slot
    ≡ record { write = Some (at, clock); reads = no_reads }
unfolding times_stored
stored_slot t slot at clock lt =
    get_or-map-range_with_len (λ (k : ℕ). if k == slot then record { write = Some (at, clock); reads = no_reads } else
    slot_at t k) 0 BLOCK_WORDS slot slot
    missing_slot lt (omega arith)
    ∙ ap (λ (b : Bool). if b then record { write = Some (at, clock); reads = no_reads } else slot_at t slot)
    (eq-eqb slot slot refl)

loaded_slot : (t : Times) (slot : ℕ) (at : Instr) (clock : Clock) → slot < BLOCK_WORDS
    → slot_at (times_loaded t slot at clock) slot
    ≡ slot_loaded (slot_at t slot) at clock
unfolding times_loaded
loaded_slot t slot at clock lt =
    get_or-map-range_with_len (λ (k : ℕ). if k == slot then slot_loaded (slot_at t k) at clock else slot_at t k) 0
    BLOCK_WORDS slot slot missing_slot lt
    (omega arith)
    ∙ ap (λ (b : Bool). if b then slot_loaded (slot_at t slot) at clock else slot_at t slot) (eq-eqb slot slot refl)

loaded_read : (s : SlotTimes) (at : Instr) (clock : Clock) → at.core < CORES_MAX
    → read_in (slot_loaded s at clock).reads at.core ≡ Some (at.count, clock)
unfolding slot_loaded
loaded_read s at clock lt =
    get_or-map-range_with_len (λ (core : ℕ). if core == at.core then Some (at.count, clock) else read_in s.reads core)
    0 CORES_MAX at.core at.core None lt
    (omega arith)
    ∙ ap (λ (b : Bool). if b then Some (at.count, clock) else read_in s.reads at.core) (eq-eqb at.core at.core refl)

held_as : (kind : Kind) (t : Times) (slot : ℕ) (at : Instr) (clock : Clock) → slot < BLOCK_WORDS → at.core < CORES_MAX →
    (is_write kind ≡ true → write_at (times_noted_as kind t slot at clock) slot ≡ Some (at, clock))
    × (is_write kind ≡ false → read_at (times_noted_as kind t slot at clock) slot at.core ≡ Some (at.count, clock))
held_as kind t slot at clock lt fits = (
  (λ e. ap (λ (x : Times). write_at x slot) (noted true e) ∙ ap (λ (s : SlotTimes). s.write)
      (stored_slot t slot at clock lt)),
  λ e. ap (λ (x : Times). read_at x slot at.core) (noted false e)
      ∙ ap (λ (s : SlotTimes). read_in s.reads at.core) (loaded_slot t slot at clock lt)
      ∙ loaded_read (slot_at t slot) at clock fits,
)
  where
    noted : (writes : Bool) → is_write kind ≡ writes → times_noted_as kind t slot at clock
        ≡ (if writes then times_stored t slot at clock else times_loaded t slot at clock)
    noted writes e = ap (λ (b : Bool). if b then times_stored t slot at clock else times_loaded t slot at clock) e

pub held : (a : Access) (t : Times) (clock : Clock) → a.at.core < CORES_MAX → IsHeld a (times_noted a t clock) clock
held a t clock fits =
    let both = held_as a.kind t (a.word % BLOCK_WORDS) a.at clock (omega arith) fits in
    record { write_is = both.0; read_is = both.1 }
