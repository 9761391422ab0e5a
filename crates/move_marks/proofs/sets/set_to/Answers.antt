use Rattle.std.proofs.Common.{◌∙◌, sym, ap, arith}
use Rattle.rtr_types.specs.CoreSets.{has}
use Rattle.rtr_types.specs.declared.core_set.CoreSet.{CoreSet}
use Rattle.rtr_types.proofs.Members.{has-with_other, has-with_same, has-without_same}
use Rattle.move_marks.proofs.SetBits.{others_left}
use Rattle.move_marks.proofs.sets.set_to.Goals as goal

pub returns-then-is_in : goal.returns-then-is_in
returns-then-is_in c = record {
  this = ap (λ (s : CoreSet). has s c.args.core) c.with.ensures
      ∙ has-with_same c.args.set c.args.core c.requires ∙ sym c.if-is_in.true;
  others = λ k other.
      ap (λ (s : CoreSet). has s k) c.with.ensures ∙ has-with_other c.args.set c.args.core k c.requires other;
}

pub returns-else-is_in : goal.returns-else-is_in
returns-else-is_in c = record {
  this = ap (λ (s : CoreSet). has s c.args.core) c.without.ensures
      ∙ has-without_same c.args.set c.args.core c.requires ∙ sym c.if-is_in.false;
  others = λ k other.
      ap (λ (s : CoreSet). has s k) c.without.ensures
      ∙ others_left c.args.set c.args.core k (omega arith)
      (omega (arith, ap (λ (s : CoreSet). s.bits) c.without.ensures)) c.requires other;
}
