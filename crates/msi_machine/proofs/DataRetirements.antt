-- A block's data retire the instruction that waited for them, and other messages none.
use Rattle.std.proofs.Common.{◌≡◌, ◌∙◌, ◌⊎◌, inl, inr, ap, sym, ℕ, ◌<◌, ◌≤◌, Bool, true, false, not, ◌||◌, List, ◌∷◌}
use Rattle.std.proofs.Common.{length, Option, Some, None, IsTrue}
use Rattle.std.specs.Prelude.{if◌then◌else◌, nat_lt}
use Rattle.std.proofs.lemmas.List.{get_or_past}
use Rattle.std.proofs.lemmas.Bool.{cases_lt}
use Rattle.access_times.specs.Riding.{Riding, Carrying}
use Rattle.image_mem.specs.Contents.{Contents}
use Rattle.rtr_types.proofs.Truths.{both_true}
use Rattle.rtr_types.specs.declared.access.Kind.{Kind}
use Rattle.rv_core.specs.declared.core_state.Core.{Core}
use Rattle.rv_core.specs.Steps.{need, is_done, access_of as need_access}
use Rattle.link_order.specs.Queue.{is_nil}
use Rattle.msi_cache.specs.declared.messages.FromHome.{FromHome}
use Rattle.msi_cache.specs.declared.messages.FromHome.TheVariants.{BlockData, PutAck, Inv, FwdGetS, FwdGetM}
use Rattle.msi_memory.specs.declared.port.Mail.{Mail}
use Rattle.msi_memory.specs.declared.port.Port.{Port}
use Rattle.msi_memory.specs.Acts.{TakeMessage, data_next, is_data}
use Rattle.msi_memory.specs.Memories.{no_port, port_at}
use Rattle.msi_memory.specs.Rests.{has_row_for as has_act_row}
use Rattle.msi_state.specs.declared.moves.Move.TheVariants.{FromHome as MessageMove}
use Rattle.msi_state.specs.Events.{Accesses, Nothing, access_of, event_working, event_working_in, instr_of, next_instr}
use Rattle.msi_state.specs.Events.{port_taken}
use Rattle.msi_state.specs.Rests.{may_access}
use Rattle.msi_state.specs.States.{State, core_at}
use Rattle.msi_state.specs.Steps.{enabled, event}
use Rattle.machine_invariant.specs.Holds.{MachineHolds}
use Rattle.machine_invariant.proofs.MoveGrounds.{rows_there}
use Rattle.msi_machine.specs.Delivering.{MessagesRetire, retires_with}
use Rattle.move_marks.proofs.AnswerMarks.{below_is, false_true, right_of}

module _ {R K : Type 0} where
  -- an access that may be made retires its instruction
  access_retires : (riding : Riding R) (image : Contents) (core : Core) (p : Port R K) (needed : Option (Kind × ℕ))
      (done : Bool) →
      may_access needed riding p ≡ true → instr_of (event_working_in needed done image riding core p) ≡ Some
      (next_instr core)
  access_retires riding image core p (Some (kind, word)) done allowed =
      ap (λ (b : Bool). instr_of (if b then Accesses (access_of image riding core p word kind) else Nothing)) allowed
  access_retires riding image core p None done allowed = false_true allowed

  -- a port with a message is there
  port_there : (carrying : Carrying K) (ports : List (Port R K)) (c : ℕ) (mail : Mail (FromHome R) K)
      (rest : List (Mail (FromHome R) K)) →
      (port_at carrying ports c).messages.items ≡ mail ∷ rest → c < length ports
  port_there carrying ports c mail rest is = by (cases_lt c (length ports))
    where
      by : (c < length ports) ⊎ (length ports ≤ c) → c < length ports
      by (inl here) = here
      by (inr past) =
          false_true (sym (ap (λ (items : List (Mail (FromHome R) K)). is_nil items) is)
          ∙ ap (λ (p : Port R K). is_nil p.messages.items) (get_or_past ports c (no_port carrying) past))

  pub messages_retire : (riding : Riding R) (carrying : Carrying K) (s : State R K) → MachineHolds riding carrying s →
      MessagesRetire riding carrying s
  messages_retire riding carrying s h c mail rest is =
      by mail.item (ap (λ (items : List (Mail (FromHome R) K)). data_next items) is)
    where
      p : Port R K
      p = port_at carrying s.memory.ports c

      core : Core
      core = core_at s.cores c

      can_take : IsTrue (enabled riding carrying s (MessageMove c))
      can_take =
          both_true (nat_lt c (length s.memory.ports)) (not (is_nil p.messages.items))
          (below_is c (length s.memory.ports) (port_there carrying s.memory.ports c mail rest is))
          (ap (λ (items : List (Mail (FromHome R) K)). not (is_nil items)) is)

      allowed : data_next p.messages.items ≡ true → may_access (need_access (need s.image core)) riding
          (port_taken riding carrying p) ≡ true
      allowed came =
          let may = may_access (need_access (need s.image core)) riding (port_taken riding carrying p) in
          ap (λ (b : Bool). not b || may) (sym came)
          ∙ right_of (has_act_row riding carrying s.memory (TakeMessage c)) (not (data_next p.messages.items) || may)
          (rows_there riding carrying s (MessageMove c) h can_take)

      told : (came : Bool) → data_next p.messages.items ≡ came → instr_of (event riding carrying s (MessageMove c))
          ≡ instr_of (if came then event_working s.image riding core (port_taken riding carrying p) else Nothing)
      told came e = ap (λ (b : Bool). instr_of (if b then event_working s.image riding core
          (port_taken riding carrying p) else Nothing)) e

      by : (item : FromHome R) → data_next p.messages.items ≡ is_data item →
          instr_of (event riding carrying s (MessageMove c)) ≡ retires_with item core
      by (BlockData block words rider) came =
          told true came
          ∙ access_retires riding s.image core (port_taken riding carrying p) (need_access (need s.image core))
          (is_done (need s.image core)) (allowed came)
      by (PutAck block) came = told false came
      by (Inv block) came = told false came
      by (FwdGetS block) came = told false came
      by (FwdGetM block) came = told false came
