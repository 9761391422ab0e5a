-- What a core's move tells, by cases of what the core needs and of what its port allows.
use Rattle.std.proofs.Common.{◌≡◌, refl, ℕ, ◌/◌, Bool, true, false, Option, Some, None}
use Rattle.std.specs.Prelude.{if◌then◌else◌}
use Rattle.access_times.specs.Riding.{Riding, Carrying}
use Rattle.image_mem.specs.Contents.{Contents}
use Rattle.rtr_types.specs.declared.TheConstants.{BLOCK_WORDS}
use Rattle.rtr_types.specs.declared.access.Kind.{Kind}
use Rattle.rv_core.specs.declared.core_state.Core.{Core}
use Rattle.rv_core.specs.Steps.{need, is_done, access_of as need_access}
use Rattle.msi_memory.specs.declared.port.Port.{Port}
use Rattle.msi_memory.specs.Acts.{allows, data_next}
use Rattle.msi_state.specs.Events.{Event, Nothing, Retires, Accesses, access_of, next_instr, event_working}
use Rattle.msi_state.specs.Events.{event_working_in, event_receiving, port_taken}

module _ {R K : Type 0} where
  -- a core moves at its port: its program is done, or an instruction without an access retires, or an access is made
  -- where the port allows it, or it waits
  pub working_cases : (image : Contents) (riding : Riding R) (core : Core) (p : Port R K) (P : Option (Kind × ℕ) →
      Event → Type 0) →
      (is_done (need image core) ≡ true → need_access (need image core) ≡ None → P None Nothing) →
      (is_done (need image core) ≡ false → need_access (need image core) ≡ None → P None (Retires (next_instr core))) →
      ((kind : Kind) (word : ℕ) → need_access (need image core) ≡ Some (kind, word) →
      allows riding p (word / BLOCK_WORDS) kind ≡ false →
      P (Some (kind, word)) Nothing) →
      ((kind : Kind) (word : ℕ) → need_access (need image core) ≡ Some (kind, word) →
      allows riding p (word / BLOCK_WORDS) kind ≡ true →
      P (Some (kind, word)) (Accesses (access_of image riding core p word kind))) →
      P (need_access (need image core)) (event_working image riding core p)
  working_cases image riding core p P done retires waits accesses =
      by_need (need_access (need image core)) (is_done (need image core)) refl refl
    where
      by_need : (needed : Option (Kind × ℕ)) (spent : Bool) → need_access (need image core) ≡ needed →
          is_done (need image core) ≡ spent →
          P needed (event_working_in needed spent image riding core p)
      by_need (Some (kind, word)) spent is e = by_leave (allows riding p (word / BLOCK_WORDS) kind) refl
        where
          by_leave : (t : Bool) → allows riding p (word / BLOCK_WORDS) kind ≡ t →
              P (Some (kind, word)) (if t then Accesses (access_of image riding core p word kind) else Nothing)
          by_leave true f = accesses kind word is f
          by_leave false f = waits kind word is f
      by_need None true is e = done e is
      by_need None false is e = retires e is

  -- what a message tells: nothing, or what the core does once its port took a block's data
  pub receiving_cases : (image : Contents) (riding : Riding R) (carrying : Carrying K) (core : Core) (p : Port R K)
      (P : Event → Type 0) →
      (data_next p.messages.items ≡ false → P Nothing) →
      (data_next p.messages.items ≡ true → P (event_working image riding core (port_taken riding carrying p))) →
      P (event_receiving image riding carrying core p)
  receiving_cases image riding carrying core p P quiet comes = by_data (data_next p.messages.items) refl
    where
      by_data : (t : Bool) → data_next p.messages.items ≡ t →
          P (if t then event_working image riding core (port_taken riding carrying p) else Nothing)
      by_data true e = comes e
      by_data false e = quiet e
