-- Every replay order agrees with a whole one that decides.
use Rattle.std.proofs.Common.{inl, inr, ◌≡◌, ◌⊎◌, ℕ, subst, ◌+◌, ◌<◌, ◌≤◌, ◌≢◌, false, true, Bool, cond, List, [], ◌∷◌}
use Rattle.std.proofs.Common.{◌++◌, length, sym, refl, ap, ◌∙◌, arith}
use Rattle.std.proofs.Common.{append_assoc, append-nil}
use Rattle.std.specs.Prelude.{slice_index, Option, Some, None}
use Rattle.std.proofs.lemmas.List.{get_or_past}
use Rattle.std.proofs.lemmas.Bool.{cases_lt}
use native.Mathlib.Decide.{ℕ_discrete}
use Rattle.rtr_types.specs.Accesses.{is_read}
use Rattle.rtr_types.specs.declared.instr.Instr.{Instr}
use Rattle.rtr_types.specs.declared.access.Access.{Access}
use Rattle.rtr_types.specs.declared.pairs.Which.{Which}
use Rattle.clock_core.specs.Order.{Within, Among}
use Rattle.conflict_edge.specs.Conflicts.{ConflictPair, StandsIn}
use Rattle.conflict_edge.specs.Least.{Suffices}
use Rattle.conflict_edge.proofs.AccessPlaces.{one_access, stands_left}
use Rattle.rv_core.specs.declared.outcome.LoadNote.{LoadNote}
use Rattle.rv_core.specs.declared.outcome.Outcome.{Outcome}
use Rattle.race_log.specs.declared.recording.Recording.{Recording}
use Rattle.race_log.specs.Validity.{Valid}
use Rattle.replay_core.specs.Plans.{Plan, plan_of}
use Rattle.replay_core.specs.Play.{Given, no_values, Use, loads_after, instr, core_at, loads_at, old_at, new_at}
use Rattle.replay_core.specs.Play.{old_given, touched, start, play, accesses_from}
use Rattle.replay_core.specs.Play.{played, accesses_of, place_given, given_next, valued_place, valued_play}
use Rattle.replay_core.specs.Play.{valued_played, valued_accesses, valued_accesses_from}
use Rattle.replay_core.specs.Play.{ValuedPlays}
use Rattle.replay_core.specs.Orders.{counts, nought, Ready, Ordered, IsReplayOrder, IsWhole, low_order}
use Rattle.replay_core.proofs.Lists.{accesses_on, valued_accesses_on, valued_plays_on, ordered_on, ordered_join}
use Rattle.replay_core.proofs.Lists.{valued_on}
use Rattle.replay_core.proofs.Low.{low_order_law}
use Rattle.replay_core.specs.Laws.{PlaceGiven}
use Rattle.replay_core.proofs.Places.{place_given_law, start_known}
use Rattle.replay_core.specs.Laws.{Lowest}
use Rattle.replay_core.specs.Orders.{bump}
use Rattle.replay_audit.specs.Determinate.{Decides, DecidesValued, IsDeterminate}
use Rattle.replay_audit.specs.Laws.{Clash, GoesOn, GoesOnValued, Agrees, AgreesValued, EveryOrderLaw, EveryValuedLaw}
use Rattle.replay_audit.specs.Laws.{OneAccessLaw, NeverBothLaw, AnyWholeLaw}
use Rattle.replay_audit.proofs.Pairs.{pairs_left, pairs_right}
use Rattle.replay_audit.proofs.Logs.{Closed, closed_none, closed_log}
use Rattle.replay_audit.proofs.Rise.{touched_is, accesses_rise}
use Rattle.replay_audit.proofs.Swaps.{use_at, clash_back, conflict_clash, one_at}
use Rattle.replay_audit.proofs.Front.{Tame, tame_given, ready_else, no_clash, ValuedFronts, valued_fronts}

-- ---- the start and the end

pub tame_start : (which : Which) (r : Recording) → Valid r → Tame (plan_of which r) (start (plan_of which r)) nought
tame_start which r valid = record { known = start_known (plan_of which r); closed = closed_none which r valid }

pub valued_tame : (given : Given) (p : Plan) (s : Outcome) (f : ℕ → ℕ) (order : List ℕ) → Tame p s f →
    Ordered p f order →
    Tame p (valued_play given p s order) (counts f order)
valued_tame given p s f [] t o = t
valued_tame given p s f (c ∷ cs) t o =
    valued_tame given p (valued_place given p s c) (bump f c) cs (tame_given (given_next given s c) p s f c t o.0) o.1

pub tame_play : (p : Plan) (s : Outcome) (f : ℕ → ℕ) (order : List ℕ) → Tame p s f → Ordered p f order →
    Tame p (play p s order) (counts f order)
tame_play p s f order t o = valued_tame no_values p s f order t o

pub lowest_ordered : (p : Plan) (f : ℕ → ℕ) (order : List ℕ) → Lowest p f order → Ordered p f order
lowest_ordered p f [] h = tt
lowest_ordered p f (c ∷ cs) h = (h.0, lowest_ordered p (bump f c) cs h.2)

-- no core is ready at the end of the low order
pub lowest_stuck : (p : Plan) (f : ℕ → ℕ) (order : List ℕ) → Lowest p f order → (c : ℕ) → Ready p (counts f order) c → ⊥
lowest_stuck p f [] h c ready = h c ready
lowest_stuck p f (d ∷ ds) h c ready = lowest_stuck p (bump f d) ds h.2 c ready

pub low_ordered : (p : Plan) → IsReplayOrder p (low_order p)
low_ordered p = lowest_ordered p nought (low_order p) (low_order_law p)

-- ---- loads only grow

abbrev LoadsGrow : List LoadNote → List LoadNote → Type 0
LoadsGrow old new = (later : List LoadNote) × (new ≡ old ++ later)

notes-grow : (used : Use) (old : List LoadNote) (count value : ℕ) → LoadsGrow old (loads_after used old count value)
notes-grow None old count value = ([], sym (append-nil old))
notes-grow (Some used) old count value = by (is_read used.0)
  where
    by : (b : Bool) → LoadsGrow old (cond b (old ++ record { count = count; word = used.1; value = value } ∷ []) old)
    by true = (record { count = count; word = used.1; value = value } ∷ [], refl)
    by false = ([], sym (append-nil old))

place-grows : (g : Option ℕ) (p : Plan) (s : Outcome) (c i : ℕ) →
    LoadsGrow (loads_at s i) (loads_at (place_given p s c g) i)
place-grows g p s c i = elim (ℕ_discrete i c) [
  | yes e ↦ subst (λ (x : ℕ). LoadsGrow (loads_at s x) (loads_at (place_given p s c g) x)) (sym e)
      (here (cases_lt c (length s.loads)))
  | no ne ↦ ([], law.other_loads i ne ∙ sym (append-nil (loads_at s i)))
]
  where
    law : PlaceGiven p s c g
    law = place_given_law p s c g

    here : (c < length s.loads) ⊎ (length s.loads ≤ c) → LoadsGrow (loads_at s c) (loads_at (place_given p s c g) c)
    here (inl lt) =
        let more = notes-grow (use_at p s c) (loads_at s c) ((core_at s c).count + 1) (old_given p s c g) in
        (more.0, law.loads lt ∙ more.1)
    here (inr le) =
        let all = law.all_loads in
        let past : loads_at (place_given p s c g) c ≡ [] = get_or_past (place_given p s c g).loads c [] (omega arith) in
        let was : loads_at s c ≡ [] = get_or_past s.loads c [] le in
        ([], past ∙ sym was ∙ sym (append-nil (loads_at s c)))

pub valued_loads_grow : (given : Given) (p : Plan) (s : Outcome) (order : List ℕ) (i : ℕ) →
    LoadsGrow (loads_at s i) (loads_at (valued_play given p s order) i)
valued_loads_grow given p s [] i = ([], sym (append-nil (loads_at s i)))
valued_loads_grow given p s (c ∷ cs) i =
    let one = place-grows (given_next given s c) p s c i in
    let rest = valued_loads_grow given p (valued_place given p s c) cs i in
    (one.0 ++ rest.0, rest.1 ∙ ap (λ (l : List LoadNote). l ++ rest.0) one.1 ∙ append_assoc (loads_at s i) one.0 rest.0)

pub loads_grow : (p : Plan) (s : Outcome) (order : List ℕ) (i : ℕ) →
    LoadsGrow (loads_at s i) (loads_at (play p s order) i)
loads_grow p s order i = valued_loads_grow no_values p s order i

-- ---- confluence

-- where no logged source counts 0
pub valued_agrees : (given : Given) (p : Plan) (whole order : List ℕ) → Closed p.edges nought →
    DecidesValued given p whole → IsReplayOrder p order →
    AgreesValued given p whole order
valued_agrees given p whole order closed d ord = record {
  plays = ((valued_plays_on given p (start p) order rest).0 f.same.plays).0;
  suffices = λ x y q. d.suffices x y (pairs x y q);
  accesses = λ a q. f.same.parts a
      (subst (λ (l : List Access). StandsIn l a) (sym all) (stands_left (valued_accesses given p order) later a q));
  pairs = pairs;
  loads = λ c.
      let g = valued_loads_grow given p (valued_played given p order) rest c in
      (g.0, ap (λ (x : Outcome). loads_at x c) (sym f.same.ends ∙ valued_on given p (start p) order rest) ∙ g.1);
  further = by rest f.same.ordered f.same.plays (λ c lt. ap (λ (g : ℕ → ℕ). g c) f.same.tally ∙ d.whole.each c lt);
  outcome = λ w. last w rest f.same.ordered f.same.ends;
}
  where
    f : ValuedFronts given p (start p) nought whole order
    f = valued_fronts given p order (start p) nought whole (record { known = start_known p; closed = closed }) d.ordered
        d.whole d.plays d.suffices ord

    rest : List ℕ
    rest = f.rest

    later : List Access
    later = valued_accesses_from given p (valued_played given p order) rest

    all : valued_accesses given p (order ++ rest) ≡ valued_accesses given p order ++ later
    all = valued_accesses_on given p (start p) order rest

    pairs : Within (ConflictPair (valued_accesses given p order)) (ConflictPair (valued_accesses given p whole))
    pairs x y q = f.same.pairs x y
        (subst (λ (l : List Access). ConflictPair l x y) (sym all)
        (pairs_left (valued_accesses given p order) later x y q))

    by : (rest : List ℕ) → Ordered p nought (order ++ rest) → ValuedPlays given p (start p) (order ++ rest) →
        ((c : ℕ) → c < length p.totals → counts nought (order ++ rest) c ≡ slice_index p.totals c) →
        IsWhole p order ⊎ GoesOnValued given p order
    by [] o h w = inl (record
        { each = λ c lt. ap (λ (l : List ℕ). counts nought l c) (sym (append-nil order)) ∙ w c lt })
    by (c ∷ cs) o h w = inr (
      c,
      ((ordered_on p nought order (c ∷ cs)).0 o).1.0,
      ((valued_plays_on given p (start p) order (c ∷ cs)).0 h).1.0,
    )

    last : IsWhole p order → (rest : List ℕ) → Ordered p nought (order ++ rest) →
        valued_played given p (order ++ rest) ≡ valued_played given p whole →
        valued_played given p order ≡ valued_played given p whole
    last w [] o e = ap (λ (l : List ℕ). valued_played given p l) (sym (append-nil order)) ∙ e
    last w (c ∷ cs) o e = let ready : Ready p (counts nought order) c =
        ((ordered_on p nought order (c ∷ cs)).0 o).1.0 in let a = ready.below in
        let b = w.each c ready.inside in absurd (omega arith)

pub every_valued_law : EveryValuedLaw
every_valued_law given p whole order log d ord = valued_agrees given p whole order (closed_log p.edges log) d ord

pub every_order_law : EveryOrderLaw
every_order_law which r whole order valid d ord =
    valued_agrees no_values (plan_of which r) whole order (closed_none which r valid) d ord

-- ---- one access for each instruction

pub one_access_law : OneAccessLaw
one_access_law which r whole order other a b h s t e =
    one_access (accesses_of (plan_of which r) whole) a b (accesses_rise which r whole h.decides.ordered)
    ((every_order_law which r whole order h.valid h.decides h.ordered).accesses a s)
    ((every_order_law which r whole other h.valid h.decides h.others).accesses b t) e

-- ---- any whole order

-- a whole order decides where another does
pub carried : (which : Which) (r : Recording) (whole order : List ℕ) → Valid r → Decides (plan_of which r) whole →
    IsReplayOrder (plan_of which r) order →
    IsWhole (plan_of which r) order → Decides (plan_of which r) order
carried which r whole order valid d ord w = let a = every_order_law which r whole order valid d ord in
    record { ordered = ord; whole = w; plays = a.plays; suffices = a.suffices }

pub any_whole_law : AnyWholeLaw
any_whole_law which r order valid ord w = (λ d. carried which r (low_order p) order valid d ord w, back)
  where
    p : Plan
    p = plan_of which r

    by : IsWhole p (low_order p) ⊎ GoesOn p (low_order p) → IsWhole p (low_order p)
    by (inl h) = h
    by (inr g) = absurd (lowest_stuck p nought (low_order p) (low_order_law p) g.0 g.1)

    back : Decides p order → IsDeterminate which r
    back d = carried which r order (low_order p) valid d (low_ordered p)
        (by (every_order_law which r order (low_order p) valid d (low_ordered p)).further)

-- ---- two that are ready

pub touched_at : (p : Plan) (s : Outcome) (c : ℕ) (a : Access) → StandsIn (touched p s c) a →
    a.at ≡ instr c ((core_at s c).count + 1)
touched_at p s c a q = one_at (use_at p s c) (instr c ((core_at s c).count + 1)) (old_at p s c) (new_at p s c) a
    (subst (λ (l : List Access). StandsIn l a) (touched_is p s c) q)

at_core : (p : Plan) (s : Outcome) (c : ℕ) (a : Access) → StandsIn (touched p s c) a → a.at.core ≡ c
at_core p s c a q = ap (λ (x : Instr). x.core) (touched_at p s c a q)

-- two cores that are ready don't use one word that one of them writes
pub never_clash : (which : Which) (r : Recording) (whole order : List ℕ) (c d : ℕ) → Valid r →
    Decides (plan_of which r) whole →
    IsReplayOrder (plan_of which r) order → c ≢ d →
    Ready (plan_of which r) (counts nought order) c → Ready (plan_of which r) (counts nought order) d →
    Clash (use_at (plan_of which r) (played (plan_of which r) order) c)
    (use_at (plan_of which r) (played (plan_of which r) order) d) → ⊥
never_clash which r whole order c d valid dec ord ne rc rd clash =
    let p : Plan = plan_of which r in
    let s : Outcome = played p order in
    let f : ℕ → ℕ = counts nought order in
    let longer : IsReplayOrder p (order ++ d ∷ c ∷ []) =
    ordered_join p nought order (d ∷ c ∷ []) ord (rd, (ready_else p f c d ne rc, tt)) in
    let agrees : Agrees p whole (order ++ d ∷ c ∷ []) =
    every_order_law which r whole (order ++ d ∷ c ∷ []) valid dec longer in
    let suf : Suffices (accesses_from p s (d ∷ c ∷ [])) (Among p.edges) = λ x y q. agrees.suffices x y
    (subst (λ (l : List Access). ConflictPair l x y) (sym (accesses_on p (start p) order (d ∷ c ∷ [])))
    (pairs_right (accesses_of p order) (accesses_from p s (d ∷ c ∷ [])) x y q)) in
    no_clash no_values p s f c d [] (tame_play p (start p) nought order (tame_start which r valid) ord) ne rc rd suf
    (clash_back (use_at p s c) (use_at p s d) clash)

pub never_both_law : NeverBothLaw
never_both_law which r whole order c d a b valid dec ord (rc, sa) (rd, sb) k =
    let p : Plan = plan_of which r in
    let s : Outcome = played p order in
    let at_c : a.at.core ≡ c = at_core p s c a sa in
    let at_d : b.at.core ≡ d = at_core p s d b sb in
    let ne : c ≢ d = λ e. k.0 (at_c ∙ e ∙ sym at_d) in
    never_clash which r whole order c d valid dec ord ne rc rd
    (conflict_clash (use_at p s c) (use_at p s d) _ _ _ _ _ _ a b
    (subst (λ (l : List Access). StandsIn l a) (touched_is p s c) sa)
    (subst (λ (l : List Access). StandsIn l b) (touched_is p s d) sb) k)
