-- A store at the head of the queue that its port allows is written, and one that it doesn't is asked for. No ordering
-- changes the core itself.
use Rattle.std.proofs.Common.{◌≡◌, ◌∙◌, refl, ap, ℕ, ◌<◌, ◌/◌, ◌==◌, ◌&&◌, Bool, true, false, Some, List, [], ◌∷◌}
use Rattle.std.proofs.Common.{length, arith}
use Rattle.std.proofs.Common.{sym}
use Rattle.std.specs.Prelude.{if◌then◌else◌, slice_set}
use Rattle.std.proofs.lemmas.List.{get_or-set_same}
use Rattle.access_times.specs.Riding.{Riding, Carrying}
use Rattle.image_mem.specs.Contents.{Contents}
use Rattle.rtr_types.specs.declared.TheConstants.{BLOCK_WORDS}
use Rattle.rtr_types.specs.declared.access.Access.{Access}
use Rattle.rtr_types.specs.declared.access.Kind.TheVariants.{Load as Loading, Store as Storing}
use Rattle.rtr_types.specs.declared.instr.Instr.{Instr}
use Rattle.rv_core.specs.declared.core_state.Core.{Core}
use Rattle.msi_memory.specs.declared.port.Port.{Port}
use Rattle.msi_memory.specs.Acts.{allows}
use Rattle.msi_memory.specs.Memories.{port_at, word_at}
use Rattle.tso_state.specs.declared.pending.Pending.{Pending}
use Rattle.tso_state.specs.declared.pending.Pending.TheVariants.{Load as PendingLoad, Store as PendingStore}
use Rattle.tso_state.specs.Events.{Drains, Event, Logs, Nothing, core_after, event_ordering}
use Rattle.tso_state.specs.Pending.{left_by}
use Rattle.tso_state.specs.declared.moves.Move.TheVariants.{Order as OrderMove}
use Rattle.tso_state.specs.States.{BufferedCore, State, buffered_start, core_at}
use Rattle.tso_state.specs.Steps.{core_left, step}
use Rattle.tso_core.specs.Queues.{oldest}
use Rattle.tso_core.specs.Standings.{standing_at, standing_with}
use Rattle.tso_core.specs.Workings.{HasDone, core_doing, ordering}

some_same : (x y : Pending) → Some x ≡ Some y → x ≡ y
some_same x y e = grind arith

drained_core : (image : Contents) (core : Core) (b : Bool) (e : Event) → core_after image core e ≡ core → (a : Access) →
    core_after image core (if b then Drains a else e) ≡ core
drained_core image core true e same a = refl
drained_core image core false e same a = same

-- the access by which a store is ordered
abbrev pub written : {R K : Type 0} → Riding R → (core : ℕ) → Port R K → (count word mask bits : ℕ) → Access
written riding core p count word mask bits =
    let at : Instr = record { core = core; count = count } in
    record {
      at = at;
      word = word;
      kind = Storing;
      before = word_at riding p word;
      after = left_by (PendingStore count word mask bits) (word_at riding p word);
    }

module _ {R K : Type 0} where
  store_orders : (queue : List Pending) (riding : Riding R) (core : ℕ) (p : Port R K) (count word mask bits : ℕ)
      (allowed : Bool) →
      oldest queue ≡ Some (PendingStore count word mask bits) → allows riding p (word / BLOCK_WORDS) Storing ≡ allowed →
      event_ordering queue riding core p ≡ (if allowed then Drains (written riding core p count word mask bits) else
      Nothing)
  store_orders [] riding core p count word mask bits allowed is may = absurd (cc)
  store_orders (x ∷ rest) riding core p count word mask bits allowed is may =
      ap (λ (y : Pending). event_ordering (y ∷ rest) riding core p) (some_same x (PendingStore count word mask bits) is)
      ∙ ap (λ (b : Bool). if b then Drains (written riding core p count word mask bits) else Nothing) may

  pub store_drains : (queue : List Pending) (riding : Riding R) (core : ℕ) (p : Port R K) (count word mask bits : ℕ) →
      oldest queue ≡ Some (PendingStore count word mask bits) → allows riding p (word / BLOCK_WORDS) Storing ≡ true →
      event_ordering queue riding core p ≡ Drains (written riding core p count word mask bits)
  store_drains queue riding core p count word mask bits is may =
      store_orders queue riding core p count word mask bits true is may

  pub store_asks : (queue : List Pending) (riding : Riding R) (core : ℕ) (p : Port R K) (count word mask bits : ℕ) →
      oldest queue ≡ Some (PendingStore count word mask bits) → allows riding p (word / BLOCK_WORDS) Storing ≡ false →
      event_ordering queue riding core p ≡ Nothing
  store_asks queue riding core p count word mask bits is may =
      store_orders queue riding core p count word mask bits false is may

  -- ---- no ordering changes the core itself
  ordered_core : (image : Contents) (core : Core) (queue : List Pending) (riding : Riding R) (id : ℕ) (p : Port R K) →
      core_after image core (event_ordering queue riding id p) ≡ core
  ordered_core image core [] riding id p = refl
  ordered_core image core (PendingStore count word mask bits ∷ rest) riding id p =
      drained_core image core (allows riding p (word / BLOCK_WORDS) Storing) Nothing refl
      (written riding id p count word mask bits)
  ordered_core image core (PendingLoad count word value ∷ rest) riding id p =
      let at : Instr = record { core = id; count = count } in
      let old : ℕ = word_at riding p word in
      drained_core image core (allows riding p (word / BLOCK_WORDS) Loading && (old == value)) (Logs at word value) refl
      (record { at = at; word = word; kind = Loading; before = old; after = old })

  -- so the core stands as it did
  same_standing : (image : Contents) (s t : State R K) (c : ℕ) (core : BufferedCore) → t.image ≡ s.image →
      t.cores ≡ slice_set s.cores c core →
      core.core ≡ (core_at s.cores c).core → c < length s.cores → standing_at s c ≡ standing_at t c
  same_standing image s t c core images cores same here =
      (λ i. standing_with (sym images i) (sym (ap (λ (xs : List BufferedCore). (core_at xs c).core) cores
      ∙ ap (λ (x : BufferedCore). x.core) (get_or-set_same s.cores c core (buffered_start 0 0) here) ∙ same) i))

  pub granted_standing : (riding : Riding R) (carrying : Carrying K) (s t : State R K) (c : ℕ) →
      HasDone riding carrying s t c (ordering riding carrying s c) →
      c < length s.cores → standing_at s c ≡ standing_at t c
  granted_standing riding carrying s t c done here =
      let u : BufferedCore = core_at s.cores c in
      let e : Event = ordering riding carrying s c in
      same_standing s.image s t c (core_doing s.image u e) (ap (λ (x : State R K). x.image) done)
      (ap (λ (x : State R K). x.cores) done)
      (ordered_core s.image u.core u.queue riding u.core.id (port_at carrying s.memory.ports c)) here

  pub order_standing : (riding : Riding R) (carrying : Carrying K) (rider : R) (s t : State R K) (c : ℕ) →
      t ≡ step riding carrying rider s (OrderMove c) →
      c < length s.cores → standing_at s c ≡ standing_at t c
  order_standing riding carrying rider s t c is here =
      let u : BufferedCore = core_at s.cores c in
      same_standing s.image s t c (core_left riding carrying s (OrderMove c)) (ap (λ (x : State R K). x.image) is)
      (ap (λ (x : State R K). x.cores) is)
      (ordered_core s.image u.core u.queue riding u.core.id (port_at carrying s.memory.ports c)) here
