-- A core's own move, and the taking of a message at its port, pay for themselves.
use Rattle.std.proofs.Common.{◌≡◌, ap, refl, sym, subst, ℕ, ◌+◌, ◌*◌, ◌≤◌, ◌==◌, ◌%◌, ◌/◌, Bool, true, false, List}
use Rattle.std.proofs.Common.{◌∷◌, length, Option}
use Rattle.std.proofs.Common.{Some, None, arith, inl, inr, ◌⊎◌}
use Rattle.std.proofs.Math.Nat.{mul-add}
use Rattle.std.specs.Prelude.{if◌then◌else◌, slice_index_or, is_some}
use Rattle.std.proofs.lemmas.List.{get_or-set_same}
use Rattle.std.proofs.lemmas.Bool.Decides.{nat_tests}
use Rattle.std.proofs.lemmas.Bool.{and_parts}
use Rattle.access_times.specs.Riding.{Riding, Carrying}
use Rattle.rtr_types.specs.Accesses.{is_write}
use Rattle.rtr_types.specs.declared.TheConstants.{BLOCK_WORDS, LINES}
use Rattle.rtr_types.specs.declared.access.Kind.{Kind}
use Rattle.image_mem.specs.Contents.{Contents}
use Rattle.rv_core.specs.declared.core_state.Core.{Core}
use Rattle.rv_core.specs.declared.core_state.Need.{Need}
use Rattle.rv_core.specs.Steps.{need, is_done, access_of as need_access}
use Rattle.rv_core.proofs.OpLemmas.{access_goes}
use Rattle.link_order.specs.Queue.{is_nil}
use Rattle.link_order.proofs.Queues.{more_nil}
use Rattle.msi_cache.specs.declared.line.Line.{Line}
use Rattle.msi_cache.specs.declared.line.State.{State as LineState}
use Rattle.msi_cache.specs.declared.messages.FromHome.{FromHome}
use Rattle.msi_cache.specs.declared.messages.Response.{Response}
use Rattle.msi_cache.specs.Table.{row, is_transient}
use Rattle.msi_cache.specs.Messages.{block_of, signal}
use Rattle.msi_cache.specs.Lines.{line_for, line_asking, line_after, is_allowed, empty_line, answer_by, has_row, waits}
use Rattle.msi_cache.proofs.Stays.{after_block}
use Rattle.msi_memory.specs.declared.port.Mail.{Mail}
use Rattle.msi_memory.specs.declared.port.Port.{Port}
use Rattle.msi_memory.specs.Acts.{allows, is_data, port_asking, port_hearing, port_answering, port_taking, answer_to}
use Rattle.msi_laws.specs.Holds.{PortHolds}
use Rattle.msi_laws.specs.Waits.{WaitsFor}
use Rattle.msi_laws.specs.Waits.{Awaited}
use Rattle.machine_bound.specs.Bound.{debt, debts, owed, line_base, block_base, base_in, earned}
use Rattle.msi_laws.proofs.Lines.{set_at, waits_none}
use Rattle.msi_laws.proofs.PortWaits.{waiting_place}
use Rattle.machine_bound.proofs.OwedSums.{answers, owed_answering}

retire_pays : (cores c b e : ℕ) → b ≤ 2 * cores + 3 → (2 * cores + 4) * c + b + 1 ≤ (2 * cores + 4) * (c + 1) + e
retire_pays cores c b e le = let f : (2 * cores + 4) * (c + 1) ≡ (2 * cores + 4) * c + (2 * cores + 4) * 1 =
    mul-add (2 * cores + 4) c 1 in omega arith

line_base_le : (s : LineState) (same taken : Bool) (cores : ℕ) → 1 ≤ cores →
    line_base s same taken cores ≤ 2 * cores + 3
line_base_le s same taken cores some = grind (arith, nat_tests)

module _ {R K : Type 0} where
  -- an instruction that hasn't retired has paid for fewer steps than one that has
  pub base_le : (used : Option (Kind × ℕ)) (done : Bool) (riding : Riding R) (cores : ℕ) (p : Port R K) → 1 ≤ cores →
      base_in used done riding cores p ≤ 2 * cores + 3
  base_le (Some (kind, word)) done riding cores p some = line_base_le _ _ _ cores some
  base_le None true riding cores p some = omega arith
  base_le None false riding cores p some = omega arith

  -- nor has one whose program is done paid for any
  pub done_base : (needed : Need) (riding : Riding R) (cores : ℕ) (p : Port R K) → is_done needed ≡ true →
      base_in (need_access needed) (is_done needed) riding cores p ≡ 0
  done_base needed riding cores p is = by_access (need_access needed) (λ kind word e. access_goes needed kind word e)
    where
      by_access : (used : Option (Kind × ℕ)) → ((kind : Kind) (word : ℕ) → used ≡ Some (kind, word) →
          is_done needed ≡ false) →
          base_in used (is_done needed) riding cores p ≡ 0
      by_access None more = rw is refl
      by_access (Some (kind, word)) more = absurd (let goes = more kind word refl in cc)

  -- so that a retirement pays for itself, whatever becomes of the port
  pub retiring_earns : (image : Contents) (riding : Riding R) (cores : ℕ) (core after : Core) (p q : Port R K) →
      1 ≤ cores → after.count ≡ core.count + 1 →
      earned image riding cores (core, p) + 1 ≤ earned image riding cores (after, q)
  retiring_earns image riding cores core after p q some e =
      let base = base_in (need_access (need image after)) (is_done (need image after)) riding cores q in
      let f = retire_pays cores core.count (base_in (need_access (need image core)) (is_done (need image core)) riding
      cores p) base
      (base_le (need_access (need image core)) (is_done (need image core)) riding cores p some) in
      subst (λ (c : ℕ). earned image riding cores (core, p) + 1 ≤ (2 * cores + 4) * c + base) (sym e) f

-- ---- a core's own move

asks_base : {R : Type 0} (l : Line R) (block : ℕ) (kind : Kind) (taken : Bool) (cores : ℕ) →
    is_transient l.state ≡ false → is_allowed l block kind ≡ false →
    line_base l.state (l.block == block) taken cores + 1 ≤ line_base (line_asking l block kind).state
    ((line_asking l block kind).block == block) false cores
asks_base l block kind taken cores still needs = grind (arith, nat_tests)

module _ {R K : Type 0} where
  asking_block : (riding : Riding R) (cores : ℕ) (p : Port R K) (block : ℕ) (kind : Kind) → length p.cache ≡ LINES →
      waits p.cache ≡ false →
      allows riding p block kind ≡ false →
      block_base (line_for riding.fresh p.cache block) block (is_nil p.requests.items) cores + 1
      ≤ block_base (line_for riding.fresh (port_asking riding p block kind).cache block) block
      (is_nil (port_asking riding p block kind).requests.items) cores
  asking_block riding cores p block kind long still needs =
      let l : Line R = line_for riding.fresh p.cache block in
      let here : line_for riding.fresh (port_asking riding p block kind).cache block ≡ line_asking l block kind =
      get_or-set_same p.cache (block % LINES) (line_asking l block kind) (empty_line riding.fresh)
      (rw long (omega arith)) in
      rw (here, more_nil p.requests.items _)
      (asks_base l block kind (is_nil p.requests.items) cores (waits_none p.cache riding.fresh still (block % LINES))
      needs)

  -- a core that asks for its access pays for that
  pub asking_earns : (image : Contents) (riding : Riding R) (cores : ℕ) (core : Core) (p : Port R K) (word : ℕ)
      (kind : Kind) →
      need_access (need image core) ≡ Some (kind, word) → length p.cache ≡ LINES → waits p.cache ≡ false →
      allows riding p (word / BLOCK_WORDS) kind ≡ false →
      earned image riding cores (core, p) + 1 ≤ earned image riding cores (
        core,
        port_asking riding p (word / BLOCK_WORDS) kind,
      )
  asking_earns image riding cores core p word kind is long still needs =
      let base : base_in (need_access (need image core)) (is_done (need image core)) riding cores p + 1
      ≤ base_in (need_access (need image core)) (is_done (need image core)) riding cores
      (port_asking riding p (word / BLOCK_WORDS) kind) =
      rw is (asking_block riding cores p (word / BLOCK_WORDS) kind long still needs) in
      omega arith

-- ---- the taking of a message

pub data_debt : {R : Type 0} (m : FromHome R) → is_data m ≡ true → debt m ≡ 0
data_debt m e = grind arith

pub data_silent : {R : Type 0} (l : Line R) (m : FromHome R) → is_data m ≡ true →
    answers (answer_by (row (signal m) l.state) l) ≡ 0
data_silent l m d = grind arith

-- at the line that is needed
message_base : {R : Type 0} (riding : Riding R) (l : Line R) (m : FromHome R) (same taken : Bool) (cores : ℕ) →
    is_data m ≡ false →
    is_some (row (signal m) l.state) ≡ true →
    line_base l.state same taken cores + answers (answer_by (row (signal m) l.state) l) + 1 ≤ line_base
    (line_after riding l m).state same taken cores + debt m
message_base riding l m same taken cores d e = grind (arith, nat_tests)

-- at another line, unless it is an acknowledgement
message_debt : {R : Type 0} (l : Line R) (m : FromHome R) → is_data m ≡ false →
    is_some (row (signal m) l.state) ≡ true → is_transient l.state ≡ false →
    answers (answer_by (row (signal m) l.state) l) + 1 ≤ debt m
message_debt l m d e still = grind (arith, nat_tests)

message_debt_or : {R : Type 0} (l : Line R) (m : FromHome R) → is_data m ≡ false →
    is_some (row (signal m) l.state) ≡ true →
    (answers (answer_by (row (signal m) l.state) l) + 1 ≤ debt m) ⊎ (is_transient l.state ≡ true)
message_debt_or l m d e = by_test (is_transient l.state) refl
  where
    by_test : (t : Bool) → is_transient l.state ≡ t → (answers (answer_by (row (signal m) l.state) l) + 1 ≤ debt m)
        ⊎ (is_transient l.state ≡ true)
    by_test true is = inr is
    by_test false is = inl (message_debt l m d e is)

module _ {R K : Type 0} where
  answering_base : (used : Option (Kind × ℕ)) (done : Bool) (riding : Riding R) (cores : ℕ) (p : Port R K)
      (o : Option (Response R)) →
      base_in used done riding cores (port_answering p o) ≡ base_in used done riding cores p
  answering_base used done riding cores p None = refl
  answering_base (Some (kind, word)) done riding cores p (Some r) = refl
  answering_base None true riding cores p (Some r) = refl
  answering_base None false riding cores p (Some r) = refl

  hearing_block : (riding : Riding R) (carrying : Carrying K) (cores blocks : ℕ) (p : Port R K)
      (mail : Mail (FromHome R) K)
      (rest : List (Mail (FromHome R) K)) (block : ℕ) (kind : Kind) → is_data mail.item ≡ false →
      is_some (row (signal mail.item) (line_for riding.fresh p.cache (block_of mail.item)).state) ≡ true →
      PortHolds riding blocks p →
      WaitsFor riding p block kind →
      block_base (line_for riding.fresh p.cache block) block (is_nil p.requests.items) cores + answers
      (answer_to riding p mail.item) + 1
      ≤ block_base (line_for riding.fresh (port_hearing riding carrying p mail rest).cache block) block
      (is_nil p.requests.items) cores + debt mail.item
  hearing_block riding carrying cores blocks p mail rest block kind d there h awaited =
      rw (set_at p.cache (block_of mail.item % LINES) (block % LINES) (line_after riding l mail.item)
      (empty_line riding.fresh)
      (rw h.all_lines (omega arith))) (by_place (block % LINES == block_of mail.item % LINES) refl)
    where
      l : Line R
      l = line_for riding.fresh p.cache (block_of mail.item)

      by_place : (t : Bool) → (block % LINES == block_of mail.item % LINES) ≡ t →
          block_base (line_for riding.fresh p.cache block) block (is_nil p.requests.items) cores + answers
          (answer_to riding p mail.item) + 1 ≤ block_base
          (if t then line_after riding l mail.item else line_for riding.fresh p.cache block) block
          (is_nil p.requests.items) cores + debt mail.item
      by_place true e =
          let place : block % LINES ≡ block_of mail.item % LINES = grind (arith, nat_tests) in
          let same : line_for riding.fresh p.cache block ≡ l =
          ap (λ (i : ℕ). slice_index_or p.cache i (empty_line riding.fresh)) place in
          let kept = after_block riding l mail.item in
          rw (same, kept) (message_base riding l mail.item (l.block == block) (is_nil p.requests.items) cores d
          there)
      by_place false e =
          elim (message_debt_or l mail.item d there) [
            | inl le ↦ omega arith
            | inr wait ↦ absurd (let at : block_of mail.item % LINES ≡ block % LINES =
                waiting_place l.state (is_write kind) l.block (block_of mail.item % LINES) block
                (awaited (block_of mail.item % LINES)) wait
                (h.lines (block_of mail.item % LINES)).place in grind (arith, nat_tests))
          ]

  hearing_elsewhere : (riding : Riding R) (p : Port R K) (m : FromHome R) → is_data m ≡ false →
      is_some (row (signal m) (line_for riding.fresh p.cache (block_of m)).state) ≡ true → waits p.cache ≡ false →
      answers (answer_to riding p m) + 1 ≤ debt m
  hearing_elsewhere riding p m d there still =
      message_debt (line_for riding.fresh p.cache (block_of m)) m d there (waits_none p.cache riding.fresh still
      (block_of m % LINES))

  hearing_base : (riding : Riding R) (carrying : Carrying K) (cores blocks : ℕ) (p : Port R K)
      (mail : Mail (FromHome R) K)
      (rest : List (Mail (FromHome R) K)) (used : Option (Kind × ℕ)) (done : Bool) → is_data mail.item ≡ false →
      is_some (row (signal mail.item) (line_for riding.fresh p.cache (block_of mail.item)).state) ≡ true →
      PortHolds riding blocks p →
      Awaited used riding p →
      base_in used done riding cores p + answers (answer_to riding p mail.item) + 1
      ≤ base_in used done riding cores (port_hearing riding carrying p mail rest) + debt mail.item
  hearing_base riding carrying cores blocks p mail rest (Some (kind, word)) done d there h awaited =
      hearing_block riding carrying cores blocks p mail rest (word / BLOCK_WORDS) kind d there h awaited
  hearing_base riding carrying cores blocks p mail rest None true d there h awaited =
      let le = hearing_elsewhere riding p mail.item d there awaited in omega arith
  hearing_base riding carrying cores blocks p mail rest None false d there h awaited =
      let le = hearing_elsewhere riding p mail.item d there awaited in omega arith

  -- what is owed after a message was taken
  taking_owes : (riding : Riding R) (carrying : Carrying K) (p : Port R K) (mail : Mail (FromHome R) K)
      (rest : List (Mail (FromHome R) K)) →
      p.messages.items ≡ mail ∷ rest →
      owed p + answers (answer_to riding p mail.item) ≡ debt mail.item + owed (port_taking riding carrying p
      (mail ∷ rest))
  taking_owes riding carrying p mail rest is =
      let e : debts p.messages.items ≡ debt mail.item + debts rest = ap debts is in
      let f = owed_answering (port_hearing riding carrying p mail rest) (answer_to riding p mail.item) in
      omega arith

  -- a block's data leave it as it was
  pub data_owes : (riding : Riding R) (carrying : Carrying K) (p : Port R K) (mail : Mail (FromHome R) K)
      (rest : List (Mail (FromHome R) K)) →
      p.messages.items ≡ mail ∷ rest → is_data mail.item ≡ true →
      owed (port_taking riding carrying p (mail ∷ rest)) ≡ owed p
  data_owes riding carrying p mail rest is e =
      let before = taking_owes riding carrying p mail rest is in
      let free = data_debt mail.item e in
      let silent : answers (answer_to riding p mail.item) ≡ 0 =
      data_silent (line_for riding.fresh p.cache (block_of mail.item)) mail.item e in
      omega arith

  -- the taking of another message pays for itself
  pub taking_earns : (image : Contents) (riding : Riding R) (carrying : Carrying K) (cores blocks : ℕ) (core : Core)
      (p : Port R K)
      (mail : Mail (FromHome R) K) (rest : List (Mail (FromHome R) K)) → p.messages.items ≡ mail ∷ rest →
      has_row (line_for riding.fresh p.cache (block_of mail.item)) mail.item ≡ true → is_data mail.item ≡ false →
      PortHolds riding blocks p →
      Awaited (need_access (need image core)) riding p →
      earned image riding cores (core, p) + owed (port_taking riding carrying p (mail ∷ rest)) + 1
      ≤ earned image riding cores (core, port_taking riding carrying p (mail ∷ rest)) + owed p
  taking_earns image riding carrying cores blocks core p mail rest is has e h awaited =
      let l : Line R = line_for riding.fresh p.cache (block_of mail.item) in
      let there = (and_parts (l.block == block_of mail.item) (is_some (row (signal mail.item) l.state)) has).1 in
      let before = taking_owes riding carrying p mail rest is in
      let base = hearing_base riding carrying cores blocks p mail rest (need_access (need image core))
      (is_done (need image core)) e there h awaited in
      let kept = answering_base (need_access (need image core)) (is_done (need image core)) riding cores
      (port_hearing riding carrying p mail rest)
      (answer_to riding p mail.item) in
      omega arith
