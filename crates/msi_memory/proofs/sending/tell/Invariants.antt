use Rattle.std.proofs.Common.{◌≡◌, ◌≤◌, ◌<◌, ℕ, List, length, slice_index_or, true}
use Rattle.rtr_types.specs.CoreSets.{has}
use Rattle.msi_memory.specs.Acts.{ports_told}
use Rattle.msi_cache.specs.Messages.{message_seen}
use Rattle.msi_memory.proofs.sending.tell.Given as goal

pub record Told {X : Type 0} (room : ℕ → X → Type 0) (ports so_far : List X) (n : ℕ) : Type 0 where
  pub told : ports ≡ so_far
  pub room_above : (k : ℕ) (d : X) → n ≤ k → k < length ports → room k (slice_index_or ports k d)

abbrev pub invariant-loop-n : goal.invariant-loop-n
invariant-loop-n g l =
    Told (λ k n. has l.set k ≡ true → length n.messages.items < n.messages.room) l.ports
    (ports_told g.K.Carry.carrying l.set (message_seen l.message) l.carry l.n l.fn.ports) l.n
