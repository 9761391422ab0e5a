-- What is told of cores is in program order.
use Rattle.std.proofs.Common.{◌≡◌, ◌∙◌, sym, ap, subst, ℕ, ◌+◌, ◌<◌, List, [], ◌∷◌, length, arith}
use native.Mathlib.Decide.{ℕ_discrete}
use Rattle.rv_core.specs.States.{starting}
use Rattle.rv_core.proofs.LawLemmas.{start_law}
use Rattle.replay_core.specs.Orders.{bump, counts, nought}
use Rattle.replay_core.proofs.Counts.{bump_here, bump_else}
use Rattle.tso_state.specs.Events.{Told, instr_told}
use Rattle.tso_told.specs.Played.{AreInside, told_of}
use Rattle.tso_replay.specs.Laws.{Inside}
use Rattle.tso_recordings.specs.Tells.{cores_told}
use Rattle.tso_recordings.specs.Plays.{InOrderLaw, InProgramOrder}
use Rattle.tso_told.proofs.InOrder.{CountFrom, counts_from, first_own, first_else}

module _ (cores : ℕ) where
  ordered : (f : ℕ → ℕ) (list : List Told) → AreInside cores list →
      ((c : ℕ) → c < cores → CountFrom (f c) (told_of c list)) →
      InProgramOrder f list × Inside cores (cores_told list)
  ordered f [] inside counts = (tt, tt)
  ordered f (e ∷ list) inside counts =
      let d = (instr_told e).core in
      let own : CountFrom (f d) (e ∷ told_of d list) = subst (CountFrom (f d)) (first_own e list) (counts d inside.0) in
      let rest = ordered (bump f d) list inside.1 (λ c lt. later c lt) in
      ((own.0, rest.0), (inside.0, rest.1))
    where
      later : (c : ℕ) → c < cores → CountFrom (bump f (instr_told e).core c) (told_of c list)
      later c lt = elim (ℕ_discrete c (instr_told e).core) [
        | yes same ↦
            let own : CountFrom (f (instr_told e).core) (e ∷ told_of (instr_told e).core list) =
            subst (CountFrom (f (instr_told e).core)) (first_own e list) (counts (instr_told e).core inside.0) in
            subst (λ (x : ℕ). CountFrom (bump f (instr_told e).core x) (told_of x list)) (sym same)
            (subst (λ (n : ℕ). CountFrom n (told_of (instr_told e).core list))
            (sym (bump_here f (instr_told e).core)) own.1)
        | no ne ↦
            subst (λ (n : ℕ). CountFrom n (told_of c list)) (sym (bump_else f (instr_told e).core c ne))
            (subst (CountFrom (f c)) (first_else c e list (λ is. ne (sym is))) (counts c lt))
      ]

pub in_order : InOrderLaw
in_order image limit cores list h =
    ordered cores nought list h.inside (λ c lt.
    subst (λ (n : ℕ). CountFrom n (told_of c list)) (start_law c limit).2
    (counts_from image (starting c limit) (told_of c list) (h.next c lt)))

-- a core's count after them is the number of its own
pub told_counts : (f : ℕ → ℕ) (list : List Told) (c : ℕ) →
    counts f (cores_told list) c ≡ f c + length (told_of c list)
told_counts f [] c = let same : f c ≡ f c + 0 = omega arith in same
told_counts f (e ∷ list) c =
    told_counts (bump f (instr_told e).core) list c
    ∙ elim (ℕ_discrete c (instr_told e).core) [
      | yes same ↦
          let d = (instr_told e).core in
          let one = bump_here f d in
          let longer : length (told_of d (e ∷ list)) ≡ length (e ∷ told_of d list) = ap length (first_own e list) in
          let here : bump f d d + length (told_of d list) ≡ f d + length (told_of d (e ∷ list)) = omega arith in
          subst (λ (x : ℕ). bump f (instr_told e).core x + length (told_of x list)
          ≡ f x + length (told_of x (e ∷ list)))
          (sym same) here
      | no ne ↦
          ap (λ (n : ℕ). n + length (told_of c list)) (bump_else f (instr_told e).core c ne)
          ∙ ap (λ (l : List Told). f c + length l) (sym (first_else c e list (λ is. ne (sym is))))
    ]
