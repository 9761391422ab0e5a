-- the pieces that are written, grouped as the definition has them
use Rattle.std.proofs.Common.{◌≡◌, ◌++◌, List, ℕ, ap, ◌∙◌, append_assoc, string_bytes}
use Rattle.std.specs.Prelude.{codes}
use Rattle.state_text.proofs.logs.put_vector_start.Goals as goal

regrouped : (from to n a b : List ℕ)
    → codes "vector " ++ (from ++ (codes " " ++ (to ++ (codes " " ++ (n ++ (codes " " ++ (a ++ (codes " " ++ b))))))))
    ≡ codes "vector " ++ from ++ codes " " ++ to ++ codes " " ++ n ++ codes " " ++ a ++ codes " " ++ b
regrouped from to n a b = simp append_assoc

pub returns : goal.returns
returns c = c.in_ok-write.ensures.bytes ∙ ap (λ (bs : List ℕ). string_bytes c.args.text.now ++ bs) (regrouped _ _ _ _ _)
