-- What is told along a run, core by core. By induction on the number of choices, from `Arrives` of each core; at the
-- end no access is pending, so what was told is all that the core did.
use Rattle.std.proofs.Common.{◌≡◌, ◌∙◌, ap, refl, sym, subst, ℕ, ◌<◌, ◌≤◌, ◌==◌, ◌^◌, Bool, true, false}
use Rattle.std.proofs.Common.{List, [], ◌∷◌, ◌++◌, length, Some, None, Option, zero, suc, arith, zero-add}
use Rattle.std.specs.List.{list_all}
use Rattle.std.proofs.lemmas.Bool.{and_parts}
use Rattle.std.proofs.lemmas.Bool.Decides.{nat_tests}
use Rattle.std.proofs.lemmas.List.{append-nil, append_assoc}
use Rattle.std.proofs.lemmas.List.Elements.{filter-append}
use Rattle.std.proofs.lemmas.List.FromFn.{length-map-range_with_len, get_or-map-range_with_len}
use Rattle.access_times.specs.Riding.{none_riding, none_carrying}
use Rattle.image_mem.specs.Contents.{Contents}
use Rattle.link_order.specs.Queue.{is_nil}
use Rattle.rtr_types.specs.declared.TheConstants.{CORES_MAX}
use Rattle.rtr_types.specs.declared.instr.Instr.{Instr}
use Rattle.rtr_types.specs.declared.params.Params.{Params}
use Rattle.rv_core.specs.declared.core_state.Core.{Core}
use Rattle.rv_core.specs.declared.outcome.LoadNote.{LoadNote}
use Rattle.rv_core.specs.States.{starting}
use Rattle.rv_core.specs.Steps.{after}
use Rattle.rv_core.proofs.LawLemmas.{number_law, start_law}
use Rattle.tso_state.specs.declared.moves.Move.{Move}
use Rattle.tso_state.specs.declared.pending.Pending.{Pending}
use Rattle.tso_state.specs.Moves.{core_of}
use Rattle.tso_state.specs.States.{PlainState, BufferedCore, all_done, buffered_start, core_at}
use Rattle.tso_state.specs.Events.{Event, Nothing, Told, core_after, instr_told, queue_after}
use Rattle.tso_state.specs.Events.{tellings}
use Rattle.tso_state.specs.Steps.{cores_after, core_left, enabled, event, step, told}
use Rattle.tso_state.specs.Runs.{all_told, chosen, event_by, opening_state, read_in, reads, run, stepped_by, told_by}
use Rattle.tso_invariant.specs.Holds.{TsoHolds}
use Rattle.tso_invariant.proofs.StartInvariant.{chosen_enabled, holds_run}
pub use Rattle.tso_invariant.proofs.StartInvariant.{run_cores}
use Rattle.tso_invariant.proofs.DoneMachine.{ended_at}
use Rattle.tso_invariant.proofs.MoveInvariant.{core_elsewhere, core_there, enabled_core, step_cores}
use Rattle.rv_core.proofs.Masks.{mask_law}
use Rattle.tso_told.specs.Played.{AreInside, AreNext, found_by, reads_pending, reads_told, told_core, told_of}
use Rattle.tso_told.proofs.ToldAndExecuted.{Arrives, Tells}
use Rattle.tso_told.proofs.NotedLoads.{IsOwn, move_own, move_reads, others_read, own_read, reads-append}
use Rattle.tso_told.proofs.ToldMoves.{move_told}
use Rattle.tso_told.proofs.InOrder.{next_told}

-- ---- lists that are told

next-append : (image : Contents) (core : Core) (xs ys : List Told) → AreNext image core xs →
    AreNext image (told_core image core xs) ys →
    AreNext image core (xs ++ ys)
next-append image core [] ys a b = b
next-append image core (x ∷ xs) ys a b = (a.0, next-append image (after image core (found_by x)) xs ys a.1 b)

core-append : (image : Contents) (core : Core) (xs ys : List Told) →
    told_core image core (xs ++ ys) ≡ told_core image (told_core image core xs) ys
core-append image core [] ys = refl
core-append image core (x ∷ xs) ys = core-append image (after image core (found_by x)) xs ys

told_id : (image : Contents) (core : Core) (xs : List Told) → (told_core image core xs).id ≡ core.id
told_id image core [] = refl
told_id image core (x ∷ xs) = told_id image (after image core (found_by x)) xs ∙ number_law image core (found_by x)

-- they are that core's
all_own : (image : Contents) (core : Core) (c : ℕ) (xs : List Told) → AreNext image core xs → core.id ≡ c →
    list_all (λ e. (instr_told e).core == c) xs ≡ true
all_own image core c [] a id = refl
all_own image core c (x ∷ xs) a id =
    let here : (instr_told x).core ≡ c = ap (λ (i : Instr). i.core) (next_told image core x a.0) ∙ id in
    let first : ((instr_told x).core == c) ≡ true = grind (arith, nat_tests) in
    rw (first, all_own image (after image core (found_by x)) c xs a.1 (number_law image core (found_by x) ∙ id)) refl

own_told : (c : ℕ) (xs : List Told) → list_all (λ e. (instr_told e).core == c) xs ≡ true → told_of c xs ≡ xs
own_told c [] e = refl
own_told c (x ∷ xs) e =
    let parts = and_parts ((instr_told x).core == c) (list_all (λ y. (instr_told y).core == c) xs) e in
    rw (parts.0, own_told c xs parts.1) refl

-- and no other's
others_told : (c d : ℕ) (xs : List Told) → (d == c) ≡ false → list_all (λ e. (instr_told e).core == c) xs ≡ true →
    told_of d xs ≡ []
others_told c d [] other e = refl
others_told c d (x ∷ xs) other e =
    let parts = and_parts ((instr_told x).core == c) (list_all (λ y. (instr_told y).core == c) xs) e in
    let here = parts.0 in
    let not_here : ((instr_told x).core == d) ≡ false = grind (arith, nat_tests) in
    rw (not_here, others_told c d xs other parts.1) refl

-- they are of one of the cores
inside_append : (n : ℕ) (xs ys : List Told) → AreInside n xs → AreInside n ys → AreInside n (xs ++ ys)
inside_append n [] ys a b = b
inside_append n (x ∷ xs) ys a b = (a.0, inside_append n xs ys a.1 b)

own_inside : (image : Contents) (core : Core) (n : ℕ) (xs : List Told) → AreNext image core xs → core.id < n →
    AreInside n xs
own_inside image core n [] a lt = tt
own_inside image core n (x ∷ xs) a lt = (
  subst (λ (c : ℕ). c < n) (sym (ap (λ (i : Instr). i.core) (next_told image core x a.0))) lt,
  own_inside image (after image core (found_by x)) n xs a.1
      (subst (λ (c : ℕ). c < n) (sym (number_law image core (found_by x))) lt),
)

-- ---- along a run

-- core c stands where what was told of it, and what is pending, leads from its start
record Stands (image : Contents) (limit c : ℕ) (list : List Told) (notes : List LoadNote)
    (t : BufferedCore) : Type 0 where
  right : AreNext image (starting c limit) (told_of c list)
  arrives : Arrives image (told_core image (starting c limit) (told_of c list)) t.queue t.core
  reads : notes ≡ reads_told (told_of c list) ++ reads_pending t.queue

stands_own : (image : Contents) (limit c : ℕ) (list more : List Told) (notes read : List LoadNote)
    (t left : BufferedCore) →
    Stands image limit c list notes t →
    Tells image (told_core image (starting c limit) (told_of c list)) more left.queue left.core →
    reads_told more ++ reads_pending left.queue ≡ reads_pending t.queue ++ read →
    Stands image limit c (list ++ more) (notes ++ read) left
stands_own image limit c list more notes read t left h tells reads =
    record {
      right = subst (λ (xs : List Told). AreNext image (starting c limit) xs) (sym both)
          (next-append image (starting c limit) (told_of c list) more h.right tells.right);
      arrives = subst (λ (xs : List Told). Arrives image (told_core image (starting c limit) xs)
          left.queue left.core) (sym both)
          (subst (λ (k : Core). Arrives image k left.queue left.core)
          (sym (core-append image (starting c limit) (told_of c list) more)) tells.arrives);
      reads = ap (λ (l : List LoadNote). l ++ read) h.reads
          ∙ (append_assoc (reads_told (told_of c list)) (reads_pending t.queue) read
          ∙ (ap (λ (l : List LoadNote). reads_told (told_of c list) ++ l) (sym reads)
          ∙ (sym (append_assoc (reads_told (told_of c list)) (reads_told more) (reads_pending left.queue))
          ∙ (ap (λ (l : List LoadNote). l ++ reads_pending left.queue) (sym (reads-append (told_of c list) more))
          ∙ ap (λ (xs : List Told). reads_told xs ++ reads_pending left.queue) (sym both)))));
    }
  where
    base : Core
    base = told_core image (starting c limit) (told_of c list)

    own : told_of c more ≡ more
    own = own_told c more
        (all_own image base c more tells.right (told_id image (starting c limit) (told_of c list)
        ∙ (start_law c limit).0))

    both : told_of c (list ++ more) ≡ told_of c list ++ more
    both = filter-append (λ (e : Told). (instr_told e).core == c) list more
        ∙ ap (λ (xs : List Told). told_of c list ++ xs) own

stands_other : (image : Contents) (limit d : ℕ) (list more : List Told) (notes read : List LoadNote)
    (t : BufferedCore) → told_of d more ≡ [] → read ≡ [] →
    Stands image limit d list notes t → Stands image limit d (list ++ more) (notes ++ read) t
stands_other image limit d list more notes read t none unread h =
    let same : told_of d (list ++ more) ≡ told_of d list =
    filter-append (λ (e : Told). (instr_told e).core == d) list more
    ∙ (ap (λ (xs : List Told). told_of d list ++ xs) none ∙ append-nil (told_of d list)) in
    record {
      right = subst (λ (xs : List Told). AreNext image (starting d limit) xs) (sym same) h.right;
      arrives = subst (λ (xs : List Told). Arrives image (told_core image (starting d limit) xs) t.queue t.core)
          (sym same) h.arrives;
      reads = ap (λ (l : List LoadNote). notes ++ l) unread
          ∙ (append-nil notes ∙ (h.reads ∙ ap (λ (xs : List Told). reads_told xs ++ reads_pending t.queue) (sym same)));
    }

-- each core does
record All (image : Contents) (limit : ℕ) (list : List Told) (notes : ℕ → List LoadNote) (s : PlainState) : Type 0 where
  image_is : s.image ≡ image
  inside : AreInside (length s.cores) list
  each : (c : ℕ) → c < length s.cores → Stands image limit c list (notes c) (core_at s.cores c)

-- what each core read, with what it reads now
abbrev noted : (ℕ → List LoadNote) → Event → ℕ → List LoadNote
noted notes e c = notes c ++ read_in c e

all_step : (image : Contents) (limit : ℕ) (list : List Told) (notes : ℕ → List LoadNote) (s : PlainState) (m : Move) →
    enabled none_riding none_carrying s m ≡ true → TsoHolds none_riding none_carrying s → All image limit list notes s →
    All image limit (list ++ told none_riding none_carrying s m) (noted notes (event none_riding none_carrying s m))
    (step none_riding none_carrying tt s m)
all_step image limit list notes s m e h all =
    record {
      image_is = all.image_is;
      inside = subst (λ (n : ℕ). AreInside n (list ++ told none_riding none_carrying s m))
          (sym (step_cores none_riding none_carrying tt s m))
          (inside_append (length s.cores) list (told none_riding none_carrying s m) all.inside
          (own_inside image base (length s.cores) (told none_riding none_carrying s m) tells.right
          (subst (λ (d : ℕ). d < length s.cores)
          (sym (told_id image (starting c limit) (told_of c list) ∙ (start_law c limit).0)) there)));
      each = λ d within. by_core d (subst (λ (n : ℕ). d < n) (step_cores none_riding none_carrying tt s m) within)
          (d == core_of m) refl;
    }
  where
    c : ℕ
    c = core_of m

    now : Event
    now = event none_riding none_carrying s m

    there : c < length s.cores
    there = enabled_core none_riding none_carrying s m e h

    t : BufferedCore
    t = core_at s.cores c

    own : Stands image limit c list (notes c) t
    own = all.each c there

    is_own : IsOwn c now
    is_own = move_own none_riding none_carrying s m (h.cores c there).fits.number

    base : Core
    base = told_core image (starting c limit) (told_of c list)

    tells : Tells image base (tellings t now) (queue_after t.queue now) (core_after s.image t.core now)
    tells = subst (λ (i : Contents). Tells i base (tellings t now) (queue_after t.queue now)
        (core_after s.image t.core now)) all.image_is
        (move_told mask_law none_riding none_carrying s m base e h
        (subst (λ (i : Contents). Arrives i base t.queue t.core) (sym all.image_is) own.arrives))

    by_core : (d : ℕ) → d < length s.cores → (b : Bool) → (d == core_of m) ≡ b →
        Stands image limit d (list ++ told none_riding none_carrying s m) (noted notes now d)
        (core_at (cores_after none_riding none_carrying s m) d)
    by_core d within true f =
        let same : c ≡ d = grind (arith, nat_tests) in
        subst (λ (x : ℕ). Stands image limit x (list ++ told none_riding none_carrying s m) (noted notes now x)
        (core_at (cores_after none_riding none_carrying s m) x)) same
        (subst (λ (x : BufferedCore). Stands image limit c (list ++ told none_riding none_carrying s m)
        (noted notes now c) x)
        (sym (core_there none_riding none_carrying s m there))
        (stands_own image limit c list (told none_riding none_carrying s m) (notes c)
        (read_in c now) t (core_left none_riding none_carrying s m) own tells
        (move_reads none_riding none_carrying s m e h ∙ ap (λ (l : List LoadNote). reads_pending t.queue ++ l)
        (sym (own_read c now is_own)))))
    by_core d within false f =
        subst (λ (x : BufferedCore). Stands image limit d (list ++ told none_riding none_carrying s m)
        (noted notes now d) x)
        (sym (core_elsewhere none_riding none_carrying s m d f))
        (stands_other image limit d list (told none_riding none_carrying s m) (notes d) (read_in d now)
        (core_at s.cores d)
        (others_told c d (told none_riding none_carrying s m) f
        (all_own image base c (told none_riding none_carrying s m) tells.right
        (told_id image (starting c limit) (told_of c list) ∙ (start_law c limit).0)))
        (others_read c d now f is_own) (all.each d within))

all_same : (image : Contents) (limit : ℕ) (list : List Told) (notes more : ℕ → List LoadNote) (s : PlainState) →
    ((c : ℕ) → notes c ≡ more c) →
    All image limit list notes s → All image limit list more s
all_same image limit list notes more s same all =
    record {
      image_is = all.image_is;
      inside = all.inside;
      each = λ c within. subst (λ (l : List LoadNote). Stands image limit c list l (core_at s.cores c)) (same c)
          (all.each c within);
    }

all_stepped : (image : Contents) (limit : ℕ) (list : List Told) (notes : ℕ → List LoadNote) (s : PlainState)
    (taken : Option Move) →
    ((m : Move) → taken ≡ Some m → enabled none_riding none_carrying s m ≡ true) →
    TsoHolds none_riding none_carrying s → All image limit list notes s →
    All image limit (list ++ told_by s taken) (noted notes (event_by s taken)) (stepped_by s taken)
all_stepped image limit list notes s None is_enabled h all =
    subst (λ (xs : List Told). All image limit xs (noted notes Nothing) s) (sym (append-nil list))
    (all_same image limit list notes (noted notes Nothing) s (λ c. sym (append-nil (notes c))) all)
all_stepped image limit list notes s (Some m) is_enabled h all = all_step image limit list notes s m (is_enabled m refl)
    h all

all_start : (image : Contents) (params : Params) → All image params.limit [] (λ c. []) (opening_state image params)
all_start image params =
    record {
      image_is = refl;
      inside = tt;
      each = λ c within. at c
          (subst (λ (n : ℕ). c < n)
          (length-map-range_with_len (λ (id : ℕ). buffered_start id params.limit) 0 params.cores) within);
    }
  where
    at : (c : ℕ) → c < params.cores → Stands image params.limit c [] [] (core_at (opening_state image params).cores c)
    at c within =
        subst (λ (t : BufferedCore). Stands image params.limit c [] [] t)
        (sym (get_or-map-range_with_len (λ (id : ℕ). buffered_start id params.limit) 0 params.cores c c
        (buffered_start 0 0) within (zero-add c)))
        (record { right = tt; arrives = refl; reads = refl })

all_run : (image : Contents) (params : Params) (choices : ℕ → ℕ) (t : ℕ) → params.cores ≤ CORES_MAX →
    params.limit < 2 ^ 32 →
    All image params.limit (all_told image params choices t) (λ c. reads image params choices t c)
    (run image params choices t)
all_run image params choices zero few small = all_start image params
all_run image params choices (suc t) few small =
    let s : PlainState = run image params choices t in
    all_stepped image params.limit (all_told image params choices t)
    (λ c. reads image params choices t c) s (chosen s (choices t))
    (λ m is. chosen_enabled s (choices t) m is) (holds_run image params choices t few small)
    (all_run image params choices t few small)

stands_at : (image : Contents) (params : Params) (choices : ℕ → ℕ) (t c : ℕ) → params.cores ≤ CORES_MAX →
    params.limit < 2 ^ 32 → c < params.cores →
    Stands image params.limit c (all_told image params choices t) (reads image params choices t c)
    (core_at (run image params choices t).cores c)
stands_at image params choices t c few small within =
    (all_run image params choices t few small).each c
    (subst (λ (n : ℕ). c < n) (sym (run_cores image params choices t)) within)

pub told_right : (image : Contents) (params : Params) (choices : ℕ → ℕ) (t c : ℕ) → params.cores ≤ CORES_MAX →
    params.limit < 2 ^ 32 →
    c < params.cores → AreNext image (starting c params.limit) (told_of c (all_told image params choices t))
told_right image params choices t c few small within = (stands_at image params choices t c few small within).right

pub told_reads : (image : Contents) (params : Params) (choices : ℕ → ℕ) (t c : ℕ) → params.cores ≤ CORES_MAX →
    params.limit < 2 ^ 32 →
    c < params.cores → reads image params choices t c
    ≡ reads_told (told_of c (all_told image params choices t)) ++ reads_pending
    (core_at (run image params choices t).cores c).queue
told_reads image params choices t c few small within = (stands_at image params choices t c few small within).reads

arrived : (image : Contents) (core : Core) (queue : List Pending) (now : Core) → is_nil queue ≡ true →
    Arrives image core queue now → core ≡ now
arrived image core [] now e a = a
arrived image core (x ∷ rest) now e a = absurd (cc)

pub told_whole : (image : Contents) (params : Params) (choices : ℕ → ℕ) (t c : ℕ) → params.cores ≤ CORES_MAX →
    params.limit < 2 ^ 32 →
    c < params.cores → all_done (run image params choices t) ≡ true →
    told_core image (starting c params.limit)
    (told_of c (all_told image params choices t)) ≡ (core_at (run image params choices t).cores c).core
told_whole image params choices t c few small within done =
    let s : PlainState = run image params choices t in
    let there : c < length s.cores = subst (λ (n : ℕ). c < n) (sym (run_cores image params choices t)) within in
    arrived image (told_core image (starting c params.limit) (told_of c (all_told image params choices t)))
    (core_at s.cores c).queue (core_at s.cores c).core
    (ended_at s c done there).1 (stands_at image params choices t c few small within).arrives

pub told_all_reads : (image : Contents) (params : Params) (choices : ℕ → ℕ) (t c : ℕ) → params.cores ≤ CORES_MAX →
    params.limit < 2 ^ 32 →
    c < params.cores → all_done (run image params choices t) ≡ true →
    reads image params choices t c ≡ reads_told (told_of c (all_told image params choices t))
told_all_reads image params choices t c few small within done =
    let s : PlainState = run image params choices t in
    let there : c < length s.cores = subst (λ (n : ℕ). c < n) (sym (run_cores image params choices t)) within in
    let list : List LoadNote = reads_told (told_of c (all_told image params choices t)) in
    told_reads image params choices t c few small within
    ∙ (ap (λ (l : List LoadNote). list ++ l) (none (core_at s.cores c).queue (ended_at s c done there).1)
    ∙ append-nil list)
  where
    none : (queue : List Pending) → is_nil queue ≡ true → reads_pending queue ≡ []
    none [] e = refl
    none (x ∷ queue) e = absurd (cc)

pub told_inside : (image : Contents) (params : Params) (choices : ℕ → ℕ) (t : ℕ) → params.cores ≤ CORES_MAX →
    params.limit < 2 ^ 32 →
    AreInside params.cores (all_told image params choices t)
told_inside image params choices t few small =
    subst (λ (n : ℕ). AreInside n (all_told image params choices t)) (run_cores image params choices t)
    (all_run image params choices t few small).inside
