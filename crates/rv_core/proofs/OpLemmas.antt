-- What each instruction does, by what it needs.
use Rattle.std.proofs.Common.{◌≡◌, ◌<◌, ℕ, ◌/◌, ◌%◌, ◌^◌, true, false, Some, None, refl, sym, ◌∙◌, ap, arith, lit<}
use Rattle.std.proofs.Common.{mod-lt}
use Rattle.std.proofs.lemmas.Bool.Decides.{nat_tests}
use Rattle.std.proofs.lemmas.Nat.{pow_pos}
use Rattle.std.proofs.lemmas.Option.{some_pair_parts}
use Rattle.rtr_types.specs.declared.access.Kind.{Kind}
use Rattle.rtr_types.specs.declared.access.Kind.TheVariants.{Load as Loading, Store as Storing, Amo as Exchanging}
use Rattle.rtr_types.specs.Accesses.{is_read, is_write}
use Rattle.rv_decode.specs.declared.op.Op.{Op}
use Rattle.rv_decode.specs.declared.op.Op.TheVariants.{Jal, Jalr, Branch, Load as Loads, Store as Stores, Amo as Amos}
use Rattle.rv_decode.specs.declared.op.Width.{Width}
use Rattle.rv_decode.specs.declared.op.Width.TheVariants.{Byte, Half, Word, ByteU, HalfU}
use Rattle.image_mem.specs.Lanes.{merged}
use Rattle.image_mem.proofs.LaneLemmas.{merged-below, merged-whole}
use Rattle.rv_core.specs.declared.core_state.Core.{Core}
use Rattle.rv_core.specs.declared.core_state.Need.{Need}
use Rattle.rv_core.specs.declared.core_state.Need.TheVariants.{Local, Load, Store, Amo, Done}
use Rattle.rv_core.specs.Atomics.{exchanged, combined}
use Rattle.rv_core.specs.Operations.{size_of, moved}
use Rattle.rv_core.specs.States.{register, address_of, register_target, branches, retired, result_of, word_after}
use Rattle.rv_core.specs.States.{stores_aligned}
use Rattle.rv_core.specs.Steps.{is_done, is_whole, is_word, access_of, need_of}
use Rattle.rv_core.proofs.StepLemmas.{access_parts, jump_accesses, branch_accesses}

-- a store that may be made is aligned
pub store_aligned : (words : ℕ) (core : Core) (op : Op) → is_done (need_of words core op) ≡ false →
    stores_aligned core op ≡ true
unfolding need_of
store_aligned words core (Stores width rs1 rs2 immediate) h =
    let placed = access_parts words (address_of core rs1 immediate) (size_of width)
    (Store (address_of core rs1 immediate / 4) (is_word width)) h in
    let aligned = placed.aligned in
    grind (arith, nat_tests)
store_aligned words core _ h = refl

-- a core that makes an access goes on
pub access_goes : (need : Need) (kind : Kind) (word : ℕ) → access_of need ≡ Some (kind, word) → is_done need ≡ false
access_goes Local kind word h = cc
access_goes (Load at) kind word h = refl
access_goes (Store at whole) kind word h = refl
access_goes (Amo at) kind word h = refl
access_goes (Done stop) kind word h = cc

-- an instruction that makes an access
pub record Accessing (words : ℕ) (core : Core) (op : Op) (kind : Kind) (word : ℕ) : Type 0 where
  pub within : word < words
  pub unread : is_read kind ≡ false → (one other : ℕ) → retired core op one ≡ retired core op other
  pub unwritten : is_write kind ≡ false → (old : ℕ) → word_after core op old ≡ old

none : {A : Type 0} (need : Need) (kind : Kind) (word : ℕ) → access_of need ≡ None →
    access_of need ≡ Some (kind, word) → A
none need kind word nothing h = let both = sym nothing ∙ h in cc

pub accessing : (words : ℕ) (core : Core) (op : Op) (kind : Kind) (word : ℕ) → access_of (need_of words core op) ≡ Some
    (kind, word)
    → Accessing words core op kind word
unfolding need_of retired result_of word_after
accessing words core (Jal rd offset) kind word h = none _ kind word (jump_accesses (moved core.pc offset)) h
accessing words core (Jalr rd rs1 immediate) kind word h =
    none _ kind word (jump_accesses (register_target core rs1 immediate)) h
accessing words core (Branch cond rs1 rs2 offset) kind word h =
    none _ kind word (branch_accesses (branches core cond rs1 rs2) (moved core.pc offset)) h
accessing words core (Loads width rd rs1 immediate) kind word h =
    let address = address_of core rs1 immediate in
    let placed = access_parts words address (size_of width) (Load (address / 4)) (access_goes _ kind word h) in
    let (loads, number) = some_pair_parts Loading kind (address / 4) word (sym (ap access_of placed.needs) ∙ h) in
    record {
      within = rw (← number) placed.within;
      unread = λ blind. let reads = ap is_read loads ∙ blind in cc;
      unwritten = λ keeps old. refl;
    }
accessing words core (Stores width rs1 rs2 immediate) kind word h =
    let address = address_of core rs1 immediate in
    let placed = access_parts words address (size_of width) (Store (address / 4) (is_word width))
    (access_goes _ kind word h) in
    let (stores, number) = some_pair_parts Storing kind (address / 4) word (sym (ap access_of placed.needs) ∙ h) in
    record {
      within = rw (← number) placed.within;
      unread = λ blind one other. refl;
      unwritten = λ keeps. let writes = ap is_write stores ∙ keeps in cc;
    }
accessing words core (Amos op rd rs1 rs2) kind word h =
    let address = register core rs1 in
    let placed = access_parts words address 4 (Amo (address / 4)) (access_goes _ kind word h) in
    let (both, number) = some_pair_parts Exchanging kind (address / 4) word (sym (ap access_of placed.needs) ∙ h) in
    record {
      within = rw (← number) placed.within;
      unread = λ blind. let reads = ap is_read both ∙ blind in cc;
      unwritten = λ keeps. let writes = ap is_write both ∙ keeps in cc;
    }
accessing words core _ kind word h = cc

-- only a store is whole
pub whole_store : (need : Need) → is_whole need ≡ true → (word : ℕ) × (need ≡ Store word true)
whole_store Local h = cc
whole_store (Load word) h = cc
whole_store (Store word whole) h = (word, ap (Store word) h)
whole_store (Amo word) h = cc
whole_store (Done stop) h = cc

word_size : (width : Width) → is_word width ≡ true → width ≡ Word
word_size Byte h = cc
word_size Half h = cc
word_size Word h = refl
word_size ByteU h = cc
word_size HalfU h = cc

covered_by : (width : Width) (address one other value : ℕ) → address % size_of width ≡ 0 → width ≡ Word
    → merged one value (address % 4) (size_of width) ≡ merged other value (address % 4) (size_of width)
covered_by Word address one other value aligned h = rw aligned (merged-whole one other value)
covered_by _ address one other value aligned h = cc

-- an instruction that stores a whole word leaves nothing of what it held
pub covering : (words : ℕ) (core : Core) (op : Op) (word : ℕ) → need_of words core op ≡ Store word true
    → (one other : ℕ) → word_after core op one ≡ word_after core op other
unfolding need_of word_after
covering words core (Jal rd offset) word h = λ one other. refl
covering words core (Jalr rd rs1 immediate) word h = λ one other. refl
covering words core (Branch cond rs1 rs2 offset) word h = λ one other. refl
covering words core (Loads width rd rs1 immediate) word h =
    let address = address_of core rs1 immediate in
    let placed = access_parts words address (size_of width) (Load (address / 4)) (ap is_done h) in
    let same : Load (address / 4) ≡ Store word true = sym placed.needs ∙ h in
    cc
covering words core (Stores width rs1 rs2 immediate) word h =
    let address = address_of core rs1 immediate in
    let placed = access_parts words address (size_of width) (Store (address / 4) (is_word width)) (ap is_done h) in
    let same : Store (address / 4) (is_word width) ≡ Store word true = sym placed.needs ∙ h in
    let all : is_word width ≡ true = cc in
    λ one other. covered_by width address one other (register core rs2) placed.aligned (word_size width all)
covering words core (Amos op rd rs1 rs2) word h =
    let address = register core rs1 in
    let placed = access_parts words address 4 (Amo (address / 4)) (ap is_done h) in
    let same : Amo (address / 4) ≡ Store word true = sym placed.needs ∙ h in
    cc
covering words core _ word h = cc

-- an instruction that needs no word
pub record Staying (core : Core) (op : Op) : Type 0 where
  pub same : (one other : ℕ) → retired core op one ≡ retired core op other
  pub nothing : (old : ℕ) → word_after core op old ≡ 0

pub staying : (words : ℕ) (core : Core) (op : Op) → need_of words core op ≡ Local → Staying core op
unfolding need_of retired result_of word_after
staying words core (Loads width rd rs1 immediate) h =
    let address = address_of core rs1 immediate in
    let placed = access_parts words address (size_of width) (Load (address / 4)) (ap is_done h) in
    let same : Load (address / 4) ≡ Local = sym placed.needs ∙ h in
    cc
staying words core (Stores width rs1 rs2 immediate) h =
    let address = address_of core rs1 immediate in
    let placed = access_parts words address (size_of width) (Store (address / 4) (is_word width)) (ap is_done h) in
    let same : Store (address / 4) (is_word width) ≡ Local = sym placed.needs ∙ h in
    cc
staying words core (Amos op rd rs1 rs2) h =
    let address = register core rs1 in
    let placed = access_parts words address 4 (Amo (address / 4)) (ap is_done h) in
    let same : Amo (address / 4) ≡ Local = sym placed.needs ∙ h in
    cc
staying words core _ h = record { same = λ one other. refl; nothing = λ old. refl }

-- a word stays a word
pub word_after-below : (core : Core) (op : Op) (old : ℕ) → old < 2 ^ 32 → word_after core op old < 2 ^ 32
unfolding word_after exchanged
word_after-below core (Loads width rd rs1 immediate) old h = h
word_after-below core (Stores width rs1 rs2 immediate) old h =
    merged-below old (register core rs2) (address_of core rs1 immediate % 4) (size_of width)
word_after-below core (Amos op rd rs1 rs2) old h = mod-lt (combined op old (register core rs2)) (pow_pos 32)
word_after-below core _ old h = lit< tt
