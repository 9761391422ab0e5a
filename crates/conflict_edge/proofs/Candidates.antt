-- What the candidates of an access stand for.
use Rattle.std.proofs.Common.{◌≡◌, ◌≢◌, ℕ, ◌⊎◌, List, [], ◌∷◌, ◌++◌, reverse, refl, sym, ◌∙◌, ap, subst, inl, inr}
use Rattle.std.proofs.Common.{arith, true, Some, None, Option}
use Rattle.rtr_types.specs.Accesses.{is_write}
use Rattle.rtr_types.specs.declared.instr.Instr.{Instr}
use Rattle.rtr_types.specs.declared.access.Access.{Access}
use Rattle.clock_core.specs.Order.{Before, Among, previous}
use Rattle.clock_core.specs.declared.clock.Clock.{Clock}
use Rattle.clock_core.proofs.Paths.{joined, one, mapped}
use Rattle.conflict_edge.specs.Clocks.{last_write, last_read, Candidate, CandidatesLaw}
use Rattle.conflict_edge.specs.Times.{IsNoteOf, IsNoted, TimesLaw}
use Rattle.conflict_edge.proofs.History.{Pair, Rising}
use Rattle.conflict_edge.proofs.Online.{Leads, itself, onward, by_own, source_leads, some_is, none_some}
use Rattle.conflict_edge.proofs.NewestFirst.{pair_back, pair_forth, reverse-next}
use Rattle.conflict_edge.proofs.Reach.{rising_next}

pub candidates_law : CandidatesLaw
candidates_law list a edges rise suffices before x y p =
    by (subst (λ (g : List Access). Pair g x y) (reverse-next list a) (pair_forth (list ++ (a ∷ [])) x y p))
  where
    rising : Rising (a ∷ reverse list)
    rising = rising_next list a rise

    through : (u v : Instr) → Before (Pair (reverse list)) u v → Before (Among edges) u v
    through u v q = mapped (Pair (reverse list)) (Among edges) (λ s t r. suffices s t (pair_back list s t r)) u v q

    -- the step along a's core
    last : Before (Among edges) (previous a.at) a.at
    last = let pos = rising.0 in one (Among edges) (previous a.at) a.at (inl (refl, omega arith))

    onto : Leads (reverse list) a x → Before (Among edges) x a.at
    onto (itself c) = before x c
    onto (onward c candidate q) = joined (Among edges) x c a.at (through x c q) (before c candidate)
    onto (by_own (inl e)) = subst (λ (v : Instr). Before (Among edges) v a.at) (sym e) last
    onto (by_own (inr q)) = joined (Among edges) x (previous a.at) a.at (through x (previous a.at) q) last

    by : Pair (a ∷ reverse list) x y → Before (Among edges) x y
    by (inl s) = subst (λ (v : Instr). Before (Among edges) x v) s.0 (onto (source_leads (reverse list) a x rising s.1))
    by (inr s) = suffices x y (pair_back list x y s)

-- ---- times

-- a note of an access is of its instruction
noted : (list : List Access) (here : Option Access) (note : Option (Instr × Clock)) (b : Access) →
    IsNoteOf list here note → here ≡ Some b → IsNoted note b.at
noted list None None b is e = absurd (none_some b e)
noted list None (Some n) b is e = absurd is
noted list (Some d) None b is e = absurd is
noted list (Some d) (Some n) b is e = ap (λ (v : Instr). Some v) (is.0 ∙ ap (λ (v : Access). v.at) (some_is d b e))

-- what is noted is of an access
noted_from : (list : List Access) (here : Option Access) (note : Option (Instr × Clock)) (z : Instr) →
    IsNoteOf list here note → IsNoted note z → (b : Access)
    × (here ≡ Some b) × (b.at ≡ z)
noted_from list None None z is e = absurd (no_instr z e)
  where
    no_instr : (v : Instr) → None ≡ Some v → ⊥
    no_instr v f = cc
noted_from list None (Some n) z is e = absurd is
noted_from list (Some d) None z is e = absurd is
noted_from list (Some d) (Some n) z is e = (d, refl, sym is.0 ∙ same n.0 z e)
  where
    same : (u v : Instr) → Some u ≡ Some v → u ≡ v
    same u v f = cc

pub times_law : TimesLaw
times_law list a write read exact z fits = (λ c. to c.0 c.1 c.2 c.3, λ q. back q.0 q.1)
  where
    to : (b : Access) → (last_write (reverse list) a.word ≡ Some b)
        ⊎ ((is_write a.kind ≡ true) × (last_read (reverse list) a.word b.at.core ≡ Some b)) →
        b.at.core ≢ a.at.core → b.at ≡ z →
        (z.core ≢ a.at.core) × (IsNoted write z ⊎ ((is_write a.kind ≡ true) × IsNoted (read z.core) z))
    to b here other e = (subst (λ (v : Instr). v.core ≢ a.at.core) e other, by here)
      where
        core : b.at.core ≡ z.core
        core = ap (λ (v : Instr). v.core) e

        by : (last_write (reverse list) a.word ≡ Some b) ⊎ ((is_write a.kind ≡ true) × (last_read (reverse list) a.word
            b.at.core ≡ Some b)) → IsNoted write z
            ⊎ ((is_write a.kind ≡ true) × IsNoted (read z.core) z)
        by (inl w) = inl (subst (IsNoted write) e (noted list (last_write (reverse list) a.word) write b exact.write_is
            w))
        by (inr r) =
            let last = subst (λ (k : ℕ). last_read (reverse list) a.word k ≡ Some b) core r.1 in
            inr (
              r.0,
              subst (IsNoted (read z.core)) e (noted list (last_read (reverse list) a.word z.core) (read z.core)
                  b (exact.read_is z.core fits) last),
            )

    back : z.core ≢ a.at.core → IsNoted write z ⊎ ((is_write a.kind ≡ true) × IsNoted (read z.core) z) →
        Candidate (reverse list) a z
    back other (inl w) =
        let q = noted_from list (last_write (reverse list) a.word) write z exact.write_is w in
        (q.0, inl q.1, subst (λ (v : Instr). v.core ≢ a.at.core) (sym q.2) other, q.2)
    back other (inr r) =
        let q = noted_from list (last_read (reverse list) a.word z.core) (read z.core) z (exact.read_is z.core fits)
        r.1 in
        let core : z.core ≡ q.0.at.core = ap (λ (v : Instr). v.core) (sym q.2) in (
          q.0,
          inr (r.0, subst (λ (k : ℕ). last_read (reverse list) a.word k ≡ Some q.0) core q.1),
          subst (λ (v : Instr). v.core ≢ a.at.core) (sym q.2) other,
          q.2,
        )
