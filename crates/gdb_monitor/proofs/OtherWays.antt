-- What is told where the order of two instructions was open, and where it wasn't.
use Rattle.std.proofs.Common.{◌≡◌, ℕ, List, ap, subst, ◌∙◌}
use Rattle.rtr_types.specs.declared.cut.Cut.{Cut}
use Rattle.rtr_types.specs.declared.instr.Instr.{Instr}
use Rattle.race_log.specs.declared.recording.Recording.{Recording}
use Rattle.replay_audit.specs.Audits.{Findings, IsInstrOf}
use Rattle.cut_replay.specs.ClosedCuts.{IsGreatestWithout}
use Rattle.cut_replay.proofs.Unique.{one_greatest}
use Rattle.what_if.specs.Told.{other_text}
use Rattle.gdb_monitor.specs.Moves.{BothComeNext, decided_text}
use Rattle.gdb_monitor.specs.Ordering.{AreBoth}
use Rattle.gdb_monitor.specs.OtherWay.{IsOtherTold}

module _ (a : Findings) (at next : Instr) (told : List ℕ) (r : Recording) (same : r ≡ a.recording)
    (both : AreBoth r at next) (to : Cut) (greatest : IsGreatestWithout a.which a.recording at to) where
  one_is : IsInstrOf a.recording at
  one_is = subst (λ (q : Recording). IsInstrOf q at) same both.one

  two_is : IsInstrOf a.recording next
  two_is = subst (λ (q : Recording). IsInstrOf q next) same both.two

  pub other_there : BothComeNext to at next → told ≡ other_text a to next.core → IsOtherTold a at next told
  other_there come is = record {
    there = λ cut _ decision. is
        ∙ ap (λ (k : Cut). other_text a k next.core)
        (one_greatest a.which a.recording at to cut greatest decision.greatest);
    decided = λ _ none. absurd (none to (record { greatest = greatest; both = come }));
    missing = λ no. absurd (no one_is);
    next_missing = λ _ no. absurd (no two_is);
  }

  pub other_decided : (BothComeNext to at next → ⊥) → told ≡ decided_text → IsOtherTold a at next told
  other_decided not is = record {
    there = λ cut _ decision. absurd (not (subst (λ (k : Cut). BothComeNext k at next)
        (one_greatest a.which a.recording at cut to decision.greatest greatest) decision.both));
    decided = λ _ _. is;
    missing = λ no. absurd (no one_is);
    next_missing = λ _ no. absurd (no two_is);
  }
