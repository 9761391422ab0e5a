-- What a pending load is when it leaves its queue.
use Rattle.std.proofs.Common.{◌≡◌, ap, refl, ℕ, ◌==◌, ◌/◌, Bool, true, false, ◌&&◌, List, ◌∷◌}
use Rattle.std.proofs.Common.{eqb-true}
use Rattle.std.specs.Prelude.{if◌then◌else◌}
use Rattle.access_times.specs.Riding.{Riding}
use Rattle.rtr_types.specs.declared.TheConstants.{BLOCK_WORDS}
use Rattle.rtr_types.specs.declared.access.Access.{Access}
use Rattle.rtr_types.specs.declared.access.Kind.TheVariants.{Load as Loading}
use Rattle.rtr_types.specs.declared.instr.Instr.{Instr}
use Rattle.msi_memory.specs.declared.port.Port.{Port}
use Rattle.msi_memory.specs.Acts.{allows}
use Rattle.msi_memory.specs.Memories.{word_at}
use Rattle.tso_state.specs.declared.pending.Pending.{Pending}
use Rattle.tso_state.specs.declared.pending.Pending.TheVariants.{Load as PendingLoad}
use Rattle.tso_state.specs.Events.{Drains, Logs, event_ordering, still_there}
use Rattle.tso_data.specs.Orders.{LoadLeaves}

module _ {R K : Type 0} where
  pub load_leaves : (riding : Riding R) (core count word value : ℕ) (rest : List Pending) (p : Port R K) →
      LoadLeaves core count word value (still_there riding p word value)
      (event_ordering (PendingLoad count word value ∷ rest) riding core p)
  load_leaves riding core count word value rest p = by_tests (allows riding p (word / BLOCK_WORDS) Loading)
      (word_at riding p word == value) refl
    where
      at : Instr
      at = record { core = core; count = count }

      a : Access
      a = record { at = at; word = word; kind = Loading; before = word_at riding p word; after = word_at riding p word }

      by_tests : (b same : Bool) → (word_at riding p word == value) ≡ same →
          LoadLeaves core count word value (b && same) (if b && same then Drains a else Logs at word value)
      by_tests true true e =
          let v : word_at riding p word ≡ value = eqb-true (word_at riding p word) value e in
          ap (λ (x : ℕ). Drains (record { at = at; word = word; kind = Loading; before = x; after = x })) v
      by_tests true false e = refl
      by_tests false same e = refl
