use Rattle.std.proofs.Common.{◌≡◌, ◌∙◌, ap, ℕ, List, ◌++◌, string_bytes}
use Rattle.hunt_cli.specs.declared.exits.Answer.{Answer}
use Rattle.hunt_cli.proofs.firsts.found.Goals as goal

pub returns-clause-out : goal.returns-clause-out
returns-clause-out g c =
    let put = c.in_ok-put_found.ensures in
    let value = c.into_bytes.ensures.value in
    let items : c.into_bytes.result.items ≡ string_bytes c.put_found.new.text = λ i. (value i).items in (
      put.0,
      put.1,
      ap (λ (a : Answer). a.out.items) c.breaks.ensures ∙ items ∙ put.2
          ∙ ap (λ (t : List ℕ). t ++ put.0) c.in_ok-text.ensures,
    )
