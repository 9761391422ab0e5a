-- From what was told of a core to what it has executed: its pending accesses, and behind each the instructions that
-- touch no data. `Arrives base queue now`: from the core as it was told, executing each pending access and some
-- instructions behind it that touch no data leads to the core as it is.
use Rattle.std.proofs.Common.{◌≡◌, ◌∙◌, ap, refl, sym, subst, ℕ, ◌+◌, ◌-◌, Bool, List, [], ◌∷◌}
use Rattle.std.proofs.Common.{◌++◌, Some, zero, suc, arith}
use Rattle.std.specs.Prelude.{map}
use Rattle.std.specs.List.{range_with_len}
use Rattle.image_mem.specs.Contents.{Contents}
use Rattle.rtr_types.specs.declared.access.Kind.TheVariants.{Load as Loading, Store as Storing}
use Rattle.rtr_types.specs.declared.instr.Instr.{Instr}
use Rattle.rtr_types.proofs.Instrs.{instr_eq}
use Rattle.rv_core.specs.declared.core_state.Core.{Core}
use Rattle.rv_core.specs.declared.core_state.Need.TheVariants.{Local, Load, Store}
use Rattle.rv_core.specs.Steps.{need, after, wrote, access_of as need_access}
use Rattle.rv_core.proofs.LawLemmas.{count_law, number_law, unread_law, unwritten_law}
use Rattle.msi_state.specs.Events.{next_instr}
use Rattle.rv_core.specs.StoreMask.{StoreMaskLaw, masked, store_mask}
use Rattle.tso_state.specs.declared.pending.Pending.{Pending}
use Rattle.tso_state.specs.declared.pending.Pending.TheVariants.{Load as PendingLoad, Store as PendingStore}
use Rattle.tso_state.specs.Pending.{count_of, left_by, value_of}
use Rattle.tso_state.specs.Events.{Told, Alone, Ordered, Logged, count_before, locals_behind}
use Rattle.tso_told.specs.Played.{AreNext, IsNext, found_by, told_core}

-- ---- instructions that touch no data

abbrev pub locals_run : Contents → Core → ℕ → Core
locals_run image core zero = core
locals_run image core (suc n) = locals_run image (after image core 0) n

abbrev pub Locals : Contents → Core → ℕ → Type 0
Locals image core zero = Unit {0}
Locals image core (suc n) = (need image core ≡ Local) × Locals image (after image core 0) n

locals_more : (image : Contents) (core : Core) (n : ℕ) → Locals image core n →
    need image (locals_run image core n) ≡ Local → Locals image core (suc n)
locals_more image core zero l is = (is, tt)
locals_more image core (suc n) l is = (l.0, locals_more image (after image core 0) n l.1 is)

run_more : (image : Contents) (core : Core) (n : ℕ) →
    locals_run image core (suc n) ≡ after image (locals_run image core n) 0
run_more image core zero = refl
run_more image core (suc n) = run_more image (after image core 0) n

run_count : (image : Contents) (core : Core) (n : ℕ) → (locals_run image core n).count ≡ core.count + n
run_count image core zero = omega arith
run_count image core (suc n) =
    let ih = run_count image (after image core 0) n in
    let one = count_law image core 0 in
    omega arith

run_id : (image : Contents) (core : Core) (n : ℕ) → (locals_run image core n).id ≡ core.id
run_id image core zero = refl
run_id image core (suc n) = run_id image (after image core 0) n ∙ number_law image core 0

-- ---- pending accesses

-- the access is that of the core's next instruction
abbrev pub IsPending : Contents → Core → Pending → Type 0
IsPending image core (PendingLoad count word value) = (count ≡ core.count + 1) × (need image core ≡ Load word)
IsPending image core (PendingStore count word mask bits) =
    (count ≡ core.count + 1) × ((whole : Bool) × (need image core ≡ Store word whole))
    × (mask ≡ (store_mask image core).0) × (bits ≡ (store_mask image core).1)

pending_count : (image : Contents) (core : Core) (x : Pending) → IsPending image core x → count_of x ≡ core.count + 1
pending_count image core (PendingLoad count word value) h = h.0
pending_count image core (PendingStore count word mask bits) h = h.0

-- executing these pending accesses, and behind each some instructions that touch no data, leads from one core to the
-- other
abbrev pub Arrives : Contents → Core → List Pending → Core → Type 0
Arrives image core [] now = core ≡ now
Arrives image core (x ∷ rest) now =
    IsPending image core x
    × ((n : ℕ) × Locals image (after image core (value_of x)) n
    × Arrives image (locals_run image (after image core (value_of x)) n) rest now)

-- one more, with the queue empty or not
pub arrives_local : (image : Contents) (core : Core) (x : Pending) (rest : List Pending) (now : Core) →
    need image now ≡ Local →
    Arrives image core (x ∷ rest) now → Arrives image core (x ∷ rest) (after image now 0)
arrives_local image core x [] now is a =
    let n : ℕ = a.1.0 in
    let k : Core = after image core (value_of x) in (
      a.0,
      (
        suc n,
        locals_more image k n a.1.1 (ap (need image) a.1.2 ∙ is),
        run_more image k n ∙ ap (λ (y : Core). after image y 0) a.1.2,
      ),
    )
arrives_local image core x (y ∷ rest) now is a = (
  a.0,
  (
    a.1.0,
    a.1.1,
    arrives_local image (locals_run image (after image core (value_of x))
        a.1.0) y rest now is a.1.2,
  ),
)

pub arrives_pushed : (image : Contents) (core : Core) (queue : List Pending) (x : Pending) (now : Core) →
    IsPending image now x →
    Arrives image core queue now → Arrives image core (queue ++ x ∷ []) (after image now (value_of x))
arrives_pushed image core [] x now is a =
    (subst (λ (k : Core). IsPending image k x) (sym a) is, (0, tt, ap (λ (k : Core). after image k (value_of x)) a))
arrives_pushed image core (y ∷ rest) x now is a = (
  a.0,
  (
    a.1.0,
    a.1.1,
    arrives_pushed image (locals_run image (after image core (value_of y))
        a.1.0) rest x now is a.1.2,
  ),
)

-- nothing has been executed that wasn't told, but what is pending
pub arrives_id : (image : Contents) (core : Core) (queue : List Pending) (now : Core) → Arrives image core queue now →
    now.id ≡ core.id
arrives_id image core [] now a = ap (λ (k : Core). k.id) (sym a)
arrives_id image core (x ∷ rest) now a =
    let k : Core = after image core (value_of x) in
    arrives_id image (locals_run image k a.1.0) rest now a.1.2
    ∙ (run_id image k a.1.0 ∙ number_law image core (value_of x))

-- ---- what is told of those behind an access

-- the instructions of a core with these counts, as they are told
abbrev pub locals_from : (c from n : ℕ) → List Told
locals_from c from n = map (λ i. Alone (record { core = c; count = i })) (range_with_len from n)

locals_next : (image : Contents) (core : Core) (c from n : ℕ) → Locals image core n → core.id ≡ c →
    from ≡ core.count + 1 →
    AreNext image core (locals_from c from n)
locals_next image core c from zero l id at = tt
locals_next image core c from (suc n) l id at =
    let one = count_law image core 0 in (
      (instr_eq (record { core = c; count = from }) (next_instr core) (sym id) at, l.0),
      locals_next image (after image core 0) c (from + 1) n l.1 (number_law image core 0 ∙ id) (omega arith),
    )

locals_core : (image : Contents) (core : Core) (c from n : ℕ) →
    told_core image core (locals_from c from n) ≡ locals_run image core n
locals_core image core c from zero = refl
locals_core image core c from (suc n) = locals_core image (after image core 0) c (from + 1) n

-- how many there are
behind_many : (image : Contents) (k : Core) (count n : ℕ) (rest : List Pending) (now : Core) → k.count ≡ count →
    Arrives image (locals_run image k n) rest now → count_before now rest - count ≡ n
behind_many image k count n [] now is a =
    let e : (locals_run image k n).count ≡ now.count = ap (λ (x : Core). x.count) a in
    let f = run_count image k n in
    omega arith
behind_many image k count n (y ∷ rest) now is a =
    let e = pending_count image (locals_run image k n) y a.0 in
    let f = run_count image k n in
    omega arith

-- ---- what an event tells

-- what is told follows from the core as it was told, and what the queue then has follows from that
pub record Tells (image : Contents) (base : Core) (list : List Told) (queue : List Pending) (now : Core) : Type 0 where
  pub right : AreNext image base list
  pub arrives : Arrives image (told_core image base list) queue now

-- the oldest pending access leaves, as the core's next instruction
pub leaves : (image : Contents) (base : Core) (x : Pending) (rest : List Pending) (now : Core) (e : Told) →
    Arrives image base (x ∷ rest) now →
    IsNext image base e → after image base (found_by e) ≡ after image base (value_of x) →
    Tells image base (e ∷ locals_behind now (count_of x) rest) rest now
leaves image base x rest now e a next same =
    record {
      right = (
        next,
        subst (λ (n : ℕ). AreNext image (after image base (found_by e))
            (locals_from now.id (count_of x + 1) n)) (sym many)
            (subst (λ (k : Core). AreNext image k (locals_from now.id (count_of x + 1) n)) (sym same)
            (locals_next image k now.id (count_of x + 1) n a.1.1 (sym ids) (ap (λ (m : ℕ). m + 1) (sym counted)))),
      );
      arrives = subst (λ (m : ℕ). Arrives image (told_core image (after image base (found_by e))
          (locals_from now.id (count_of x + 1) m)) rest now) (sym many)
          (subst (λ (y : Core). Arrives image
          (told_core image y (locals_from now.id (count_of x + 1) n)) rest now) (sym same)
          (subst (λ (y : Core). Arrives image y rest now) (sym (locals_core image k now.id (count_of x + 1) n)) a.1.2));
    }
  where
    n : ℕ
    n = a.1.0

    k : Core
    k = after image base (value_of x)

    counted : k.count ≡ count_of x
    counted = count_law image base (value_of x) ∙ sym (pending_count image base x a.0)

    many : count_before now rest - count_of x ≡ n
    many = behind_many image k (count_of x) n rest now counted a.1.2

    ids : now.id ≡ k.id
    ids = arrives_id image (locals_run image k n) rest now a.1.2 ∙ run_id image k n

-- a pending load, with the word that it found
pub load_leaves : (image : Contents) (base : Core) (count word value : ℕ) (rest : List Pending) (now : Core) →
    Arrives image base (PendingLoad count word value ∷ rest) now →
    (let at : Instr = record { core = now.id; count = count } in
    IsNext image base (Ordered (record { at = at; word = word; kind = Loading; before = value; after = value }))
    × IsNext image base (Logged at word value))
load_leaves image base count word value rest now a =
    ((at, access, sym (unwritten_law image base Loading word value access refl)), (at, access))
  where
    at : (let i : Instr = record { core = now.id; count = count } in i ≡ next_instr base)
    at = instr_eq (record { core = now.id; count = count }) (next_instr base)
        (arrives_id image base (PendingLoad count word value ∷ rest) now a) a.0.0

    access : need_access (need image base) ≡ Some (Loading, word)
    access = ap need_access a.0.1

-- a pending store
pub store_leaves : StoreMaskLaw → (image : Contents) (base : Core) (count word mask bits old : ℕ) (rest : List Pending)
    (now : Core) →
    Arrives image base (PendingStore count word mask bits ∷ rest) now →
    IsNext image base (Ordered (record {
      at = record { core = now.id; count = count };
      word = word;
      kind = Storing;
      before = old;
      after = left_by (PendingStore count word mask bits) old;
    })) × (after image base old ≡ after image base 0)
store_leaves law image base count word mask bits old rest now a =
    ((at, access, writes), unread_law image base Storing word old 0 access refl)
  where
    at : (let i : Instr = record { core = now.id; count = count } in i ≡ next_instr base)
    at = instr_eq (record { core = now.id; count = count }) (next_instr base)
        (arrives_id image base (PendingStore count word mask bits ∷ rest) now a) a.0.0

    access : need_access (need image base) ≡ Some (Storing, word)
    access = ap need_access a.0.1.1

    writes : masked old mask bits ≡ wrote image base old
    writes = ap (λ (m : ℕ). masked old m bits) a.0.2 ∙ (ap (λ (b : ℕ). masked old (store_mask image base).0 b) a.0.3
        ∙ sym (law image base word a.0.1.0 old a.0.1.1))
