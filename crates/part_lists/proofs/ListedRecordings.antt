-- A recording and a list that goes with it, as they were read.
use Rattle.std.proofs.Common.{◌≡◌, ℕ, List, Result, Ok, ap, ◌∙◌}
use Rattle.race_log.specs.declared.recording.Recording.{Recording}
use Rattle.log_codec.specs.Faults.{◌>>=◌}
use Rattle.log_codec.proofs.ReadingSteps.{bind_ok, ok_is}
use Rattle.part_lists.specs.Listed.{with_list}

-- what was read first, what was read after it, and what was made of the two
pub record HasList {X A : Type 0} (front : List ℕ → Result (Recording × List ℕ) ℕ)
    (list : Recording → List ℕ → Result (List X × List ℕ) ℕ) (made : Recording → List X → A) (bytes : List ℕ) (a : A)
    (rest : List ℕ) : Type 0 where
  pub recording : Recording
  pub items : List X
  pub middle : List ℕ
  pub first : front bytes ≡ Ok (recording, middle)
  pub then : list recording middle ≡ Ok (items, rest)
  pub made_is : made recording items ≡ a

pub has_list : {X A : Type 0} (front : List ℕ → Result (Recording × List ℕ) ℕ)
    (list : Recording → List ℕ → Result (List X × List ℕ) ℕ) (made : Recording → List X → A) (bytes : List ℕ) (a : A)
    (rest : List ℕ) → with_list front list made bytes ≡ Ok (a, rest) → HasList front list made bytes a rest
has_list {X} {A} front list made bytes a rest e =
    let f = bind_ok (front bytes) (λ p. list p.0 p.1 >>= λ items. Ok (made p.0 items.0, items.1)) (a, rest) e in
    let k = bind_ok (list f.0.0 f.0.1) (λ items. Ok (made f.0.0 items.0, items.1)) (a, rest) f.2 in
    let same = ok_is (made f.0.0 k.0.0, k.0.1) (a, rest) k.2 in
    record {
      recording = f.0.0;
      items = k.0.0;
      middle = f.0.1;
      first = f.1;
      then = k.1 ∙ ap (λ (y : A × List ℕ). Ok (k.0.0, y.1)) same;
      made_is = ap (λ (y : A × List ℕ). y.0) same;
    }
