-- Cells without a byte are addresses that no range has.
use Rattle.std.proofs.Common.{◌≡◌, ℕ, Bool, true, false, List, sym, ◌∙◌}
use Rattle.std.specs.Prelude.{Option, MatchBool, not}
use Rattle.image_elf.specs.Cells.{HasSome, HoldFirst, IsFree}
use Rattle.image_elf.specs.Faults.{is_taken}
use Rattle.image_elf.proofs.RangeLemmas.{free, taken}

pub taken_is : (file : List ℕ) (n : ℕ) (cells : List (Option ℕ)) (first end : ℕ) → HoldFirst file n cells
    → (r : Bool) → MatchBool r (IsFree cells first end) (HasSome cells first end) → is_taken file n first end ≡ not r
taken_is file n cells first end holds true none =
    free file n first end (λ address after before. sym (holds.bytes address) ∙ none address after before)
taken_is file n cells first end holds false some =
    taken file n first end some.address some.after some.before (rw (holds.bytes some.address) at some.there)
