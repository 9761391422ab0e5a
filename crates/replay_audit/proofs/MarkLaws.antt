-- Marks, and what they are enough for.
use Rattle.std.proofs.Common.{inl, inr, ◌≡◌, ◌≢◌, ◌⊎◌, ℕ, zero, suc, ◌<◌, ◌≤◌, true, false, List, [], ◌∷◌, length}
use Rattle.std.proofs.Common.{refl, sym, ap, ◌∙◌, subst, arith}
use Rattle.std.specs.Prelude.{replicate, slice_index, slice_index_or}
use Rattle.std.proofs.lemmas.Bool.{cases_eq}
use Rattle.std.proofs.Math.Nat.{eq-zero-or-pos}
use native.Mathlib.Decide.{ℕ_discrete}
use Rattle.rtr_types.specs.Accesses.{is_write}
use Rattle.rtr_types.specs.declared.TheConstants.{CORES_MAX}
use Rattle.rtr_types.specs.declared.access.Access.{Access}
use Rattle.rtr_types.specs.declared.instr.Edge.{Edge}
use Rattle.rtr_types.specs.declared.instr.Instr.{Instr}
use Rattle.clock_core.specs.Order.{Relation, Before, IsOrLeads, Among}
use Rattle.clock_core.specs.Reach.{IsClock}
use Rattle.clock_core.proofs.Paths.{joined}
use Rattle.conflict_edge.specs.Clocks.{last_write, last_read, Candidate}
use Rattle.conflict_edge.proofs.Online.{cases_kind, last_write-at, last_write-word, last_write-load, last_read-word}
use Rattle.conflict_edge.proofs.Online.{last_read-store, last_read-at}
use Rattle.conflict_edge.proofs.Online.{last_read-core, none_some, some_is}
use Rattle.replay_audit.specs.declared.marks.Mark.{Mark}
use Rattle.replay_audit.specs.Marks.{AreMarked, AreMarksCovered, IsLastRead, IsMarked, IsMarkOf}
use Rattle.replay_audit.specs.Marks.{AreSound, IsMark, IsReadNext, IsReader, IsStoodFor, Marked, first_mark, mark_at}

-- each candidate is covered
abbrev pub AreCandidatesCovered : List Access → Access → List ℕ → Type 0
AreCandidatesCovered earlier a clock = (z : Instr) → Candidate earlier a z → z.count ≤ slice_index clock z.core

or_joined : (E : Relation) (x y z : Instr) → IsOrLeads E x y → IsOrLeads E y z → IsOrLeads E x z
or_joined E x y z (inl e) q = subst (λ (w : Instr). IsOrLeads E w z) (sym e) q
or_joined E x y z (inr p) (inl e) = inr (subst (λ (w : Instr). Before E x w) e p)
or_joined E x y z (inr p) (inr q) = inr (joined E x y z p q)

module _ (edges : List Edge) (earlier : List Access) (marks : Marked) (a : Access) (clock : List ℕ)
    (is : IsClock (Among edges) a.at (λ i. slice_index clock i)) where
  -- a clock that covers what stands for a read covers the read
  stood_covered : (w : ℕ) (z : Instr) → IsStoodFor edges marks w z →
      ((x : Instr) → x.core < CORES_MAX → IsReader marks w x → x.count ≤ slice_index clock x.core) →
      z.count ≤ slice_index clock z.core
  stood_covered w z s covered = by (eq-zero-or-pos z.count)
    where
      by : (z.count ≡ 0) ⊎ (1 ≤ z.count) → z.count ≤ slice_index clock z.core
      by (inl none) = omega arith
      by (inr some) = (is z some).1 (or_joined (Among edges) z s.by a.at s.leads
          ((is s.by s.some).0 (covered s.by s.core s.reader)))

  pub covered_marks : AreMarked edges earlier marks → AreMarksCovered marks a clock →
      AreCandidatesCovered earlier a clock
  covered_marks marked s z (b, inl w, ne, e) =
      let m = (marked.each a.word s.inside).write b w ∙ e in
      subst (λ (x : Instr). x.count ≤ slice_index clock x.core) m s.write
  covered_marks marked s z (b, inr r, ne, e) = stood_covered a.word z
      ((marked.each a.word s.inside).reads z (b.at.core, b, r.1, e)) (s.reads r.0)

-- ---- one access more

-- a last read after a read is it, or was one before
after_read : (earlier : List Access) (a : Access) (z : Instr) → is_write a.kind ≡ false →
    IsLastRead (a ∷ earlier) a.word z → (a.at ≡ z) ⊎ IsLastRead earlier a.word z
after_read earlier a z reads (core, b, is, at) = by (cases_eq a.at.core core)
  where
    by : (a.at.core ≡ core) ⊎ (a.at.core ≡ core → ⊥) → (a.at ≡ z) ⊎ IsLastRead earlier a.word z
    by (inl e) =
        let same : a ≡ b = some_is a b (sym (last_read-at a earlier a.word core refl reads e) ∙ is) in
        inl (ap (λ (x : Access). x.at) same ∙ at)
    by (inr ne) = inr (core, b, sym (last_read-core a earlier a.word core refl reads ne) ∙ is, at)

module _ (edges : List Edge) (h : List Access) (old new : Marked) (a : Access) (clock : List ℕ)
    (few : a.at.core < CORES_MAX) (some : 1 ≤ a.at.count)
    (is : IsClock (Among edges) a.at (λ i. slice_index clock i)) (m : IsMarked old a clock new) where
  mark_else : (w : ℕ) → w ≢ a.word → IsMarkOf edges h old w → IsMarkOf edges (a ∷ h) new w
  mark_else w ne s = record {
    write = λ b e. m.elsewhere.write w ne ∙ s.write b (sym (last_write-word a h w (λ q. ne (sym q))) ∙ e);
    reads = λ z r. stands z (s.reads z (was z r));
  }
    where
      was : (z : Instr) → IsLastRead (a ∷ h) w z → IsLastRead h w z
      was z (core, b, is_last, at) = (core, b, sym (last_read-word a h w core (λ q. ne (sym q))) ∙ is_last, at)

      stands : (z : Instr) → IsStoodFor edges old w z → IsStoodFor edges new w z
      stands z o = record {
        by = o.by;
        core = o.core;
        some = o.some;
        reader = m.elsewhere.reads w o.by ne o.reader;
        leads = o.leads;
      }

  mark_write : a.word < length old.marks → is_write a.kind ≡ true → IsMarkOf edges (a ∷ h) new a.word
  mark_write lt s = record {
    write = λ b e. m.written lt s ∙ ap (λ (x : Access). x.at) (some_is a b (sym (last_write-at a h a.word refl s) ∙ e));
    reads = λ z (core, b, is_last, at).
        absurd (none_some b (sym (last_read-store a h a.word core refl s) ∙ is_last));
  }

  mark_read : a.word < length old.marks → is_write a.kind ≡ false → IsMarkOf edges h old a.word →
      IsMarkOf edges (a ∷ h) new a.word
  mark_read lt s o = record {
    write = λ b e. next.write ∙ o.write b (sym (last_write-load a h a.word refl s) ∙ e);
    reads = λ z r. by z (after_read h a z s r);
  }
    where
      next : IsReadNext old a.word a.at clock new
      next = m.read lt s

      here : (z : Instr) → IsOrLeads (Among edges) z a.at → IsStoodFor edges new a.word z
      here z leads = record { by = a.at; core = few; some = some; reader = next.now; leads = leads }

      stands : (z : Instr) (t : IsStoodFor edges old a.word z) →
          IsReader new a.word t.by ⊎ (t.by.count ≤ slice_index clock t.by.core) → IsStoodFor edges new a.word z
      stands z t (inl still) = record {
        by = t.by;
        core = t.core;
        some = t.some;
        reader = still;
        leads = t.leads;
      }
      stands z t (inr covered) =
          here z (or_joined (Among edges) z t.by a.at t.leads ((is t.by t.some).0 covered))

      by : (z : Instr) → (a.at ≡ z) ⊎ IsLastRead h a.word z → IsStoodFor edges new a.word z
      by z (inl e) = here z (inl (sym e))
      by z (inr before) = let t = o.reads z before in stands z t (next.before t.by t.reader)

  pub marked_next : AreMarked edges h old → AreMarked edges (a ∷ h) new
  marked_next marked = record { each = λ w lt. at w (let e = m.elsewhere.all in omega arith) (ℕ_discrete w a.word) }
    where
      here : a.word < length old.marks → (is_write a.kind ≡ false) ⊎ (is_write a.kind ≡ true) →
          IsMarkOf edges (a ∷ h) new a.word
      here lt (inl s) = mark_read lt s (marked.each a.word lt)
      here lt (inr s) = mark_write lt s

      at : (w : ℕ) → w < length old.marks → Dec (w ≡ a.word) → IsMarkOf edges (a ∷ h) new w
      at w lt (yes e) = subst (λ (x : ℕ). IsMarkOf edges (a ∷ h) new x) (sym e)
          (here (subst (λ (x : ℕ). x < length old.marks) e lt) (cases_kind a.kind))
      at w lt (no ne) = mark_else w ne (marked.each w lt)

-- ---- the start

pub marked_start : (edges : List Edge) (marks : Marked) → AreMarked edges [] marks
unfolding last_write last_read
marked_start edges marks = record {
  each = λ w lt. record {
    write = λ b e. absurd (none_some b e);
    reads = λ z (core, b, is, at). absurd (none_some b is);
  };
}

firsts : (n w : ℕ) → slice_index_or (replicate n first_mark) w first_mark ≡ first_mark
firsts zero w = refl
firsts (suc n) zero = refl
firsts (suc n) (suc w) = firsts n w

pub sound_start : (n : ℕ) (marks : List Mark) (crowds : List (List ℕ)) → marks ≡ replicate n first_mark →
    AreSound (record { marks = marks; crowds = crowds })
sound_start n marks crowds is = record {
  each = λ w. subst (λ (m : Mark). IsMark crowds m) (sym (at w))
      (record { core = omega arith; reads = tt; crowd = omega arith });
  apart = λ v w some e. let none : (mark_at (record { marks = marks; crowds = crowds }) v).crowd ≡ 0 =
      ap (λ (m : Mark). m.crowd) (at v) in absurd (omega arith);
}
  where
    at : (w : ℕ) → slice_index_or marks w first_mark ≡ first_mark
    at w = ap (λ (l : List Mark). slice_index_or l w first_mark) is ∙ firsts n w
