-- How many retirements of each core a history has.
use Rattle.std.proofs.Common.{◌≡◌, ◌∙◌, ℕ, ◌+◌, ◌<◌, List, [], length, sym, ap, subst, arith}
use Rattle.std.proofs.Common.{length-set, get_or-set_same, get_or-set_other}
use Rattle.std.specs.Prelude.{replicate, slice_index, slice_set}
use Rattle.std.proofs.lemmas.List.{get_or-replicate, length-replicate}
use native.Mathlib.Decide.{ℕ_discrete}
use Rattle.rtr_types.specs.declared.TheConstants.{CORES_MAX}
use Rattle.rtr_types.specs.declared.instr.Instr.{Instr}
use Rattle.clock_core.specs.declared.clock.Clock.{Clock}
use Rattle.know_history.specs.declared.known.Known.{Known}
use Rattle.know_history.specs.Notes.{Notes, IsNoted, no_notes, noted_count}
use Rattle.recorder_examples.specs.Dense.{AreCounted}

pub begun : (notes : Notes) (counts : List ℕ) → notes ≡ no_notes 8 → counts ≡ replicate CORES_MAX 0 →
    AreCounted notes counts
begun notes counts notes_is counts_is = record {
  cores = ap (λ (h : Notes). length h) notes_is;
  all = ap (λ (l : List ℕ). length l) counts_is ∙ length-replicate {A = ℕ} CORES_MAX 0;
  each = λ c below.
      ap (λ (h : Notes). noted_count h c) notes_is ∙ ap (λ (l : List Clock). length l) (get_or-replicate {A =
      List Clock} 8 c [] [] below)
      ∙ sym (ap (λ (l : List ℕ). slice_index l c) counts_is ∙ get_or-replicate {A = ℕ} CORES_MAX c 0 0 (omega arith));
}

module _ (old : Notes) (counts : List ℕ) (at : Instr) (h : AreCounted old counts) (inside : at.core < 8) where
  pub next_one : (count : ℕ) → count ≡ slice_index counts at.core → at.count ≡ count + 1 →
      at.count ≡ noted_count old at.core + 1
  next_one count is next = let e = h.each at.core inside in omega arith

  pub noted : (new : Notes) (known : Known) → IsNoted old at known new →
      AreCounted new (slice_set counts at.core at.count)
  noted new known n = record {
    cores = n.cores ∙ h.cores;
    all = length-set counts at.core at.count ∙ h.all;
    each = each;
  }
    where
      here : slice_index (slice_set counts at.core at.count) at.core ≡ at.count
      here = get_or-set_same counts at.core at.count 0 (let a = h.all in omega arith)

      each : (c : ℕ) → c < 8 → noted_count new c ≡ slice_index (slice_set counts at.core at.count) c
      each c below = elim (ℕ_discrete c at.core) [
        | yes e ↦
            subst (λ (x : ℕ). noted_count new x ≡ slice_index (slice_set counts at.core at.count) x) (sym e) (n.count
            ∙ sym here)
        | no ne ↦ n.others c ne ∙ h.each c below ∙ sym (get_or-set_other counts at.core c at.count 0 ne)
      ]
