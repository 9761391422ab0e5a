use Rattle.std.proofs.Common.{◌≡◌, ◌++◌, ◌∙◌, ℕ, List, ap, append_assoc, sym}
use Rattle.std.specs.Prelude.{Result, Ok, Err, OnOk, codes, decimal}
use Rattle.race_answers.proofs.decision_rows.put_times.Goals as goal

-- two pieces behind a text, and two more
put_behind : {T E : Type 0} (answer : Result T E) (text first new pieces one two : List ℕ) →
    first ≡ text ++ pieces → OnOk answer (new ≡ first ++ (one ++ two)) →
    OnOk answer (new ≡ text ++ ((pieces ++ one) ++ two))
put_behind (Ok x) text first new pieces one two is put =
    put ∙ ap (λ (l : List ℕ). l ++ (one ++ two)) is ∙ append_assoc text pieces (one ++ two)
    ∙ ap (λ (l : List ℕ). text ++ l) (sym (append_assoc pieces one two))
put_behind (Err e) text first new pieces one two is put = tt

pub returns : goal.returns
returns c =
    put_behind c.write-2.result _ _ _ (decimal c.args.decision.times ++ codes " this way, ")
    (decimal c.args.decision.turned) (codes " the other: ") c.in_ok-write.ensures.bytes c.write-2.ensures.bytes
