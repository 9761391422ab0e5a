-- Clocks merged source by source.
use Rattle.std.proofs.Common.{◌≡◌, ◌≢◌, ℕ, ◌+◌, List, max, sym, ap, ◌∙◌, arith}
use Rattle.std.specs.Prelude.{slice_index}
use native.Mathlib.Decide.{ℕ_discrete}
use Rattle.rtr_types.specs.declared.instr.Instr.{Instr}
use Rattle.clock_core.specs.Reach.{merged_over, with_own}
use Rattle.clock_core.proofs.Reach.{own_same, own_other}
use Rattle.replay_core.specs.Play.{instr}
use Rattle.replay_core.specs.Sources.{listed}
use Rattle.replay_audit.specs.Clocks.{Kept, clock_at}
use Rattle.replay_core.proofs.InstructionSources.{listed_none, listed_some}

max_other : (m n : ℕ) → max m n ≡ max n m
max_other m n = grind arith

-- a source's clock is taken over by its last one and its own count
pub merged_own : (from : Instr) (old last joined new : List ℕ) (i : ℕ) →
    ((j : ℕ) → slice_index joined j ≡ max (slice_index old j) (slice_index last j)) →
    slice_index new from.core ≡ max (slice_index old from.core) from.count →
    ((j : ℕ) → j ≢ from.core → slice_index new j ≡ slice_index joined j) →
    slice_index new i ≡ max (slice_index old i) (with_own from (λ j. slice_index last j) i)
merged_own from old last joined new i join here others = by (ℕ_discrete i from.core)
  where
    by : Dec (i ≡ from.core) → slice_index new i ≡ max (slice_index old i) (with_own from (λ j. slice_index last j) i)
    by (yes e) = ap (λ (j : ℕ). slice_index new j) e ∙ here
        ∙ ap (λ (j : ℕ). max (slice_index old j) from.count) (sym e)
        ∙ ap (λ (n : ℕ). max (slice_index old i) n) (sym (own_same from (λ j. slice_index last j) i e))
    by (no ne) = others i ne ∙ join i
        ∙ ap (λ (n : ℕ). max (slice_index old i) n) (sym (own_other from (λ j. slice_index last j) i ne))

module _ (k : Kept) (base : ℕ → ℕ) (sources : List ℕ) (n : ℕ) (clock : List ℕ) where
  pub merged_over_none : (count i : ℕ) → count ≡ slice_index sources n → count ≡ 0 →
      ((j : ℕ) → slice_index clock j ≡ merged_over base (clock_at k) (listed sources n) j) →
      slice_index clock i ≡ merged_over base (clock_at k) (listed sources (n + 1)) i
  merged_over_none count i is e h =
      h i ∙ ap (λ (l : List Instr). merged_over base (clock_at k) l i) (sym (listed_none sources n (sym is ∙ e)))

  pub merged_over_some : (new : List ℕ) (count i : ℕ) → count ≡ slice_index sources n → count ≢ 0 →
      ((j : ℕ) → slice_index clock j ≡ merged_over base (clock_at k) (listed sources n) j) →
      ((j : ℕ) → slice_index new j ≡ max (slice_index clock j) (clock_at k (instr n count) j)) →
      slice_index new i ≡ merged_over base (clock_at k) (listed sources (n + 1)) i
  merged_over_some new count i is ne h m =
      m i
      ∙ max_other (slice_index clock i) (clock_at k (instr n count) i)
      ∙ ap (λ (c : ℕ). max (clock_at k (instr n c) i) (slice_index clock i)) is
      ∙ ap (λ (x : ℕ). max (clock_at k (instr n (slice_index sources n)) i) x) (h i)
      ∙ ap (λ (l : List Instr). merged_over base (clock_at k) l i) (sym (listed_some sources n (λ e. ne (is ∙ e))))

module _ (k : Kept) (before : Instr) (sources : List ℕ) (n : ℕ) (clock : List ℕ) where
  pub merged_none : (count i : ℕ) → count ≡ slice_index sources n → count ≡ 0 →
      ((j : ℕ) → slice_index clock j ≡ merged_over (clock_at k before) (clock_at k) (listed sources n) j) →
      slice_index clock i ≡ merged_over (clock_at k before) (clock_at k) (listed sources (n + 1)) i
  merged_none count i is e h = merged_over_none k (clock_at k before) sources n clock count i is e h

  pub merged_some : (other new : List ℕ) (count i : ℕ) → count ≡ slice_index sources n → count ≢ 0 →
      ((j : ℕ) → slice_index clock j ≡ merged_over (clock_at k before) (clock_at k) (listed sources n) j) →
      ((j : ℕ) → slice_index other j ≡ clock_at k (instr n count) j) →
      ((j : ℕ) → slice_index new j ≡ max (slice_index clock j) (slice_index other j)) →
      slice_index new i ≡ merged_over (clock_at k before) (clock_at k) (listed sources (n + 1)) i
  merged_some other new count i is ne h o m =
      merged_over_some k (clock_at k before) sources n clock new count i is ne h
      (λ j. m j ∙ ap (λ (x : ℕ). max (slice_index clock j) x) (o j))
