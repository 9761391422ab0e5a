-- The laws of faults.
use Rattle.std.proofs.Common.{◌≡◌, ◌⊎◌, inl, inr, ℕ, zero, suc, ◌<◌, ◌≤◌, Bool, true, false, List, refl, arith, Some}
use Rattle.std.proofs.Common.{None, ◌∙◌}
use Rattle.std.specs.Prelude.{Option, max}
use Rattle.std.specs.Option.{option_or}
use Rattle.std.proofs.Math.Nat.{le-max_right}
use Rattle.std.proofs.lemmas.Bool.{or_left, or_right}
use Rattle.image_elf.specs.declared.elf_fault.ElfFault.{ElfFault}
use Rattle.image_elf.specs.declared.elf_fault.ElfFault.TheVariants.{OutOfMemory}
use Rattle.image_elf.specs.Headers.{header, has, has_some}
use Rattle.image_elf.specs.Faults.{first_header_fault, header_fault, is_taken}
use Rattle.image_elf.specs.Laws.{HasAddress, TakenLaw, IsFirstFault, FirstFaultLaw}
use Rattle.image_elf.proofs.RangeLemmas.{has_some_at, has_first, first_before}
use Rattle.image_elf.proofs.CaseLemmas.{no_fault_below}
use Rattle.rtr_types.proofs.Ranges.{below_suc}

-- one more header
more : (file : List ℕ) (n first end : ℕ) → HasAddress file n first end → HasAddress file (suc n) first end
more file n first end a = record {
  number = a.number;
  address = a.address;
  there = let h = a.there in omega arith;
  has = a.has;
  after = a.after;
  before = a.before;
}

taken_to_by : (file : List ℕ) (n first end : ℕ) → (is_taken file n first end ≡ true → HasAddress file n first end)
    → (b : Bool) → has_some (header file n) first end ≡ b → is_taken file (suc n) first end ≡ true →
    HasAddress file (suc n) first end
taken_to_by file n first end earlier true e t = record {
  number = n;
  address = max (header file n).vaddr first;
  there = omega arith;
  has = has_first (header file n) first end e;
  after = le-max_right (header file n).vaddr first;
  before = first_before (header file n) first end e;
}
taken_to_by file n first end earlier false e t = more file n first end (earlier (rw e at t))

taken_to : (file : List ℕ) (n first end : ℕ) → is_taken file n first end ≡ true → HasAddress file n first end
taken_to file zero first end t = absurd (cc)
taken_to file (suc n) first end t =
    taken_to_by file n first end (taken_to file n first end) (has_some (header file n) first end) refl t

taken_from : (file : List ℕ) (n first end number address : ℕ) → number < n → has (header file number) address ≡ true
    → first ≤ address → address < end → is_taken file n first end ≡ true
taken_from file zero first end number address there e after before = absurd (omega arith)
taken_from file (suc n) first end number address there e after before = elim (below_suc number n there) [
  | inl below ↦ or_right (has_some (header file n) first end) _ (taken_from file n first end number address below e
      after before)
  | inr same ↦ or_left _ _ (has_some_at (header file n) first end address after before (rw same at e))
]

pub is_taken_where : TakenLaw
is_taken_where = λ file n first end. (
  taken_to file n first end,
  λ a. taken_from file n first end a.number a.address a.there a.has a.after a.before,
)

first_to_by : (file : List ℕ) (words n : ℕ) (fault : ElfFault)
    → (first_header_fault file words n ≡ Some fault → IsFirstFault file words n fault)
    → (earlier : Option ElfFault) → first_header_fault file words n ≡ earlier
    → option_or earlier (header_fault file words n) ≡ Some fault → IsFirstFault file words (suc n) fault
first_to_by file words n fault before None e f = record {
  number = n;
  there = omega arith;
  faulty = f;
  earlier = no_fault_below file words n e;
}
first_to_by file words n fault before (Some other) e f =
    let found = before (e ∙ f) in
    record {
      number = found.number;
      there = let h = found.there in omega arith;
      faulty = found.faulty;
      earlier = found.earlier;
    }

first_to : (file : List ℕ) (words n : ℕ) (fault : ElfFault) → first_header_fault file words n ≡ Some fault →
    IsFirstFault file words n fault
first_to file words zero fault f = absurd (cc)
first_to file words (suc n) fault f =
    first_to_by file words n fault (first_to file words n fault) (first_header_fault file words n) refl f

none_first : (file : List ℕ) (words n : ℕ) → ((k : ℕ) → k < n → header_fault file words k ≡ None) →
    first_header_fault file words n ≡ None
none_first file words zero none = refl
none_first file words (suc n) none =
    rw (none_first file words n (λ k h. none k (omega arith))) (none n (omega arith))

first_from : (file : List ℕ) (words n : ℕ) (fault : ElfFault) (number : ℕ) → number < n →
    header_fault file words number ≡ Some fault
    → ((k : ℕ) → k < number → header_fault file words k ≡ None) → first_header_fault file words n ≡ Some fault
first_from file words zero fault number there e earlier = absurd (omega arith)
first_from file words (suc n) fault number there e earlier = elim (below_suc number n there) [
  | inl below ↦ rw (first_from file words n fault number below e earlier) refl
  | inr same ↦ rw (none_first file words n (rw same at earlier)) (rw same at e)
]

pub first_fault : FirstFaultLaw
first_fault = λ file words n fault. (
  first_to file words n fault,
  λ f. first_from file words n fault f.number f.there f.faulty f.earlier,
)

-- the fault of a header before which none has one is the first, unless memory ran out
pub first_here : (file : List ℕ) (words n count : ℕ) (fault : ElfFault) → n < count →
    first_header_fault file words n ≡ None
    → (fault ≡ OutOfMemory) ⊎ (header_fault file words n ≡ Some fault)
    → (fault ≡ OutOfMemory) ⊎ (first_header_fault file words count ≡ Some fault)
first_here file words n count fault there none (inl memory) = inl memory
first_here file words n count fault there none (inr here) =
    inr (first_from file words count fault n there here (no_fault_below file words n none))
