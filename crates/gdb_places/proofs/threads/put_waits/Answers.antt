use Rattle.std.proofs.Common.{◌≡◌, ℕ, List, ◌++◌, sym, subst, ◌∙◌, string_bytes}
use Rattle.std.specs.Prelude.{OnOk}
use Rattle.gdb_places.proofs.WaitTexts.{waits_some}
use Rattle.gdb_places.proofs.threads.put_waits.Goals as goal

pub returns : goal.returns
returns c =
    subst (λ (l : List ℕ). OnOk c.put_some.result
    (string_bytes c.put_some.new.text ≡ string_bytes c.args.text.now ++ l))
    (sym (waits_some c.args.waits.now (sym c.is_empty.ensures ∙ c.if-is_empty.false))) c.put_some.ensures
