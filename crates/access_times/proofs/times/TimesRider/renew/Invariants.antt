use Rattle.std.proofs.Common.{◌≡◌, ℕ, ◌<◌, ◌≤◌, length}
use Rattle.rtr_types.specs.declared.TheConstants.{BLOCK_WORDS}
use Rattle.access_times.specs.Times.{slot_absorbed, slot_at}
use Rattle.access_times.proofs.times.TimesRider.renew.Given as goal

abbrev pub invariant-loop-slot : goal.invariant-loop-slot
invariant-loop-slot l = record {
  long : length l.self.slots ≡ BLOCK_WORDS;
  done : (k : ℕ) → k < l.slot → slot_at l.self k ≡ slot_absorbed (slot_at l.other k) (slot_at l.fn.self k);
  rest : (k : ℕ) → l.slot ≤ k → slot_at l.self k ≡ slot_at l.fn.self k;
}
