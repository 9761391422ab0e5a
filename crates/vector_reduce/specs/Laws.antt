-- Laws of thinning, and of what is written of it.
use Rattle.std.specs.Prelude.{◌≡◌, ℕ, ◌↔◌, List, ◌++◌, Ok}
use Rattle.rtr_types.specs.declared.instr.Instr.{Instr}
use Rattle.clock_core.specs.Order.{Before, Among}
use Rattle.race_log.specs.declared.recording.Recording.{Recording}
use Rattle.log_codec.specs.Laws.{IsBytes}
use Rattle.race_log.specs.Validity.{Valid}
use Rattle.vector_reduce.specs.declared.pair_vector.PairVector.{PairVector}
use Rattle.vector_reduce.specs.declared.thinned.Shown.{Shown}
use Rattle.vector_reduce.specs.declared.thinned.Thinned.{Thinned}
use Rattle.vector_reduce.specs.Answers.{HaveSameBefore, HaveSameOrders, IsSameButLog}
use Rattle.vector_reduce.specs.Reading.{thinned_at}
use Rattle.vector_reduce.specs.Showing.{IsShown}
use Rattle.vector_reduce.specs.Spelling.{Spells, spelling}
use Rattle.vector_reduce.specs.Thinning.{EachNeeded, IsNeeded, IsThinned}
use Rattle.vector_reduce.specs.Validity.{IsThin}
use Rattle.vector_reduce.specs.Vectors.{edges_of_all}

-- ---- of vectors

-- thinning changes nothing of what is before
abbrev pub ThinnedIsSameLaw : Type 0
ThinnedIsSameLaw = (vectors left : List PairVector) (x y : Instr) → IsThinned vectors left →
    Before (Among (edges_of_all vectors)) x y ↔ Before (Among (edges_of_all left)) x y

-- and leaves needed vectors alone
abbrev pub ThinnedIsNeededLaw : Type 0
ThinnedIsNeededLaw = (vectors left : List PairVector) → IsThinned vectors left → EachNeeded left

-- vectors have one thinning
abbrev pub OneThinningLaw : Type 0
OneThinningLaw = (vectors left other : List PairVector) → IsThinned vectors left → IsThinned vectors other →
    left ≡ other

-- where each vector is needed, none is left out
abbrev pub NeededStaysLaw : Type 0
NeededStaysLaw = (vectors left : List PairVector) → EachNeeded vectors → IsThinned vectors left → left ≡ vectors

-- what is shown to be needed is
abbrev pub ShownIsNeededLaw : Type 0
ShownIsNeededLaw = (others : List PairVector) (v : PairVector) (s : Shown) → IsShown others v s → IsNeeded others v

-- ---- of recordings

-- logs by which the same is before have the same replay orders
abbrev pub SameOrdersLaw : Type 0
SameOrdersLaw = (r s : Recording) → Valid r → Valid s → IsSameButLog r s → HaveSameBefore r s → HaveSameOrders r s

-- ---- of bytes

-- what is read is spelled so
abbrev pub ReadIsSpelled : Type 0
ReadIsSpelled = (bytes : List ℕ) (t : Thinned) → IsBytes bytes → thinned_at bytes ≡ Ok t → IsThin t × Spells bytes t

-- what is spelled is read
abbrev pub SpelledIsRead : Type 0
SpelledIsRead = (t : Thinned) → IsThin t → thinned_at (spelling t) ≡ Ok t

-- no spelling begins another
abbrev pub PrefixFree : Type 0
PrefixFree = (t u : Thinned) (x y : List ℕ) → IsThin t → IsThin u → spelling t ++ x ≡ spelling u ++ y →
    (t ≡ u) × (x ≡ y)
