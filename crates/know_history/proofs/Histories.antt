-- A history that notes what is known at each retirement holds what is known.
use Rattle.std.proofs.Common.{◌≡◌, ◌≢◌, ◌∙◌, ap, refl, sym, subst, ℕ, zero, suc, ◌-◌, ◌<◌, ◌≤◌, ◌⊎◌, inl, inr, ◌↔◌}
use Rattle.std.proofs.Common.{List, [], length, max, arith}
use Rattle.std.specs.Prelude.{replicate, slice_index_or}
use Rattle.std.proofs.lemmas.Bool.{cases_eq}
use Rattle.rtr_types.specs.declared.TheConstants.{CORES_MAX}
use Rattle.rtr_types.specs.declared.instr.Instr.{Instr}
use Rattle.rtr_types.proofs.Instrs.{instr_eq}
use Rattle.clock_core.specs.declared.clock.Clock.{Clock}
use Rattle.clock_core.proofs.Reach.{reached_by}
use Rattle.know_history.specs.Knowledge.{count_in}
use Rattle.know_history.specs.Happenings.{Happening, IsKnownAt}
use Rattle.know_history.specs.Laws.{HistoryKnows, HistoryLaw, HistoryStartLaw, SameHistoryLaw}
use Rattle.know_history.specs.Notes.{Notes, known_at, noted_count}
use Rattle.know_history.proofs.CarryCounts.{zero_at}
use Rattle.know_history.proofs.KnownAt.{known_stays_law}

pub none_noted : (cores core : ℕ) → length (slice_index_or {A = List Clock} (replicate cores []) core []) ≤ 0
none_noted zero core = omega arith
none_noted (suc cores) zero = omega arith
none_noted (suc cores) (suc core) = none_noted cores core

pub history_start_law : HistoryStartLaw
history_start_law event h cores is x y some noted place other pos =
    absurd (let e : noted_count h y.core
    ≡ length (slice_index_or {A = List Clock} (replicate cores []) y.core []) =
    ap (λ (lists : Notes). length (slice_index_or lists y.core [])) is in
    let none = none_noted cores y.core in omega arith)

pub none_before : (h : Notes) (core of : ℕ) → known_at h core 0 «of» ≤ 0
none_before h core «of» = zero_at CORES_MAX «of»

pub history_law : HistoryLaw
history_law event time y known old new orderly retires next counts noted told x z some within place other pos =
    by (cases_eq z.core y.core)
  where
    -- the greater of the two counts is the one that is known
    greater : (n m a b : ℕ) → m ≡ max a b → n ≤ b → n ≤ m
    greater n m a b e le = grind arith

    before : Instr
    before = record { core = y.core; count = y.count - 1 }

    stays : x.core ≢ y.core → x.count ≤ known_at old y.core (y.count - 1) x.core → IsKnownAt event x y
    stays apart le = from (cases_eq (y.count - 1) 0)
      where
        from : (y.count - 1 ≡ 0) ⊎ (y.count - 1 ≢ 0) → IsKnownAt event x y
        from (inl e) = absurd (let f : known_at old y.core (y.count - 1) x.core
            ≡ known_at old y.core 0 x.core = ap (λ (n : ℕ). known_at old y.core n x.core) e in let none =
            none_before old y.core x.core in omega arith)
        from (inr f) = known_stays_law event x before y time orderly
            ((told x before (grind arith) (omega arith) place apart pos).0 le) refl (grind arith) retires

    here : x.core ≢ y.core → (x.count ≤ known_at new y.core y.count x.core) ↔ IsKnownAt event x y
    here apart = (
      λ le. to (reached_by x.count (known_at old y.core (y.count - 1) x.core) (count_in known x.core) (let e =
          noted.greater x.core apart in
          omega arith)),
      λ k. greater x.count (known_at new y.core y.count x.core) (known_at old y.core (y.count - 1) x.core)
          (count_in known x.core)
          (noted.greater x.core apart) ((counts.others x place apart pos).1 k),
    )
      where
        to : (x.count ≤ known_at old y.core (y.count - 1) x.core) ⊎ (x.count ≤ count_in known x.core) →
            IsKnownAt event x y
        to (inl le) = stays apart le
        to (inr le) = (counts.others x place apart pos).0 le

    kept : z.count ≤ noted_count old z.core → (x.count ≤ known_at new z.core z.count x.core) ↔ IsKnownAt event x z
    kept le = subst (λ (n : ℕ). (x.count ≤ n) ↔ IsKnownAt event x z) (sym (noted.kept z.core z.count x.core other le))
        (told x z some le place other pos)

    same : z ≡ y → (x.count ≤ known_at new z.core z.count x.core) ↔ IsKnownAt event x z
    same e = subst (λ (i : Instr). (x.count ≤ known_at new i.core i.count x.core) ↔ IsKnownAt event x i) (sym e)
        (here (λ f. other (f ∙ ap (λ (i : Instr). i.core) (sym e))))

    of_core : z.core ≡ y.core → (z.count ≡ y.count) ⊎ (z.count ≢ y.count) →
        (x.count ≤ known_at new z.core z.count x.core) ↔ IsKnownAt event x z
    of_core e (inl f) = same (instr_eq z y e f)
    of_core e (inr apart) =
        kept (let g : noted_count new z.core ≡ noted_count new y.core = ap (noted_count new) e in
        let g2 : noted_count old z.core ≡ noted_count old y.core = ap (noted_count old) e in let c = noted.count in
        grind arith)

    by : (z.core ≡ y.core) ⊎ (z.core ≢ y.core) → (x.count ≤ known_at new z.core z.count x.core) ↔ IsKnownAt event x z
    by (inl e) = of_core e (cases_eq z.count y.count)
    by (inr apart) = kept (let e = noted.others z.core apart in omega arith)

no_more : (event : ℕ → Happening) (h g : Notes) (core count of : ℕ) → HistoryKnows event h → HistoryKnows event g →
    1 ≤ count → count ≤ noted_count h core →
    count ≤ noted_count g core → «of» < CORES_MAX → «of» ≢ core → known_at h core count «of» ≤ known_at g core count
    «of»
no_more event h g core count «of» one two some here there place other = by (cases_eq (known_at h core count «of») 0)
  where
    x : Instr
    x = record { core = «of»; count = known_at h core count «of» }

    y : Instr
    y = record { core = core; count = count }

    by : (known_at h core count «of» ≡ 0) ⊎ (known_at h core count «of» ≢ 0) →
        known_at h core count «of» ≤ known_at g core count «of»
    by (inl none) = omega arith
    by (inr few) = (two x y some there place other (grind arith)).1 ((one x y some here place other (grind arith)).0
        (omega arith))

pub same_history_law : SameHistoryLaw
same_history_law event h g core count «of» one two some here there place other =
    let up = no_more event h g core count «of» one two some here there place other in
    let down = no_more event g h core count «of» two one some there here place other in
    omega arith
