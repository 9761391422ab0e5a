-- Wherever a replay order has come, each core stands where its own instructions and its own loads have brought it: from
-- place to place, since every order gives each load what the whole low order gives it.
use Rattle.std.proofs.Common.{◌≡◌, ◌≢◌, ℕ, suc, ◌+◌, ◌<◌, false, List, [], ◌∷◌, ◌++◌, length}
use Rattle.std.proofs.Common.{refl, sym, ap, ◌∙◌, subst, add-one, append_assoc, append-nil, arith}
use Rattle.std.specs.Prelude.{slice_index}
use native.Mathlib.Decide.{ℕ_discrete}
use Rattle.rtr_types.specs.declared.pairs.Which.{Which}
use Rattle.rv_core.specs.declared.core_state.Core.{Core}
use Rattle.rv_core.specs.declared.outcome.LoadNote.{LoadNote}
use Rattle.rv_core.specs.declared.outcome.Outcome.{Outcome}
use Rattle.rv_core.specs.States.{starting}
use Rattle.rv_core.specs.Steps.{is_done, need}
use Rattle.race_log.specs.declared.recording.Recording.{Recording}
use Rattle.race_log.specs.Validity.{Valid}
use Rattle.replay_core.specs.Laws.{PlaceOf}
use Rattle.replay_core.specs.Orders.{counts, nought, IsReplayOrder}
use Rattle.replay_core.specs.Plans.{Plan, plan_of, recorded_image}
use Rattle.replay_core.specs.Play.{Plays, core_at, loads_after, loads_at, need_at, old_for, place, played, start}
use Rattle.replay_core.specs.Play.{use_of}
use Rattle.replay_core.proofs.Counts.{bump_else, bump_here, counts_on, place_of}
use Rattle.replay_core.proofs.Lists.{ordered_on, play_on, plays_on}
use Rattle.replay_core.proofs.Places.{place_law, play_law, play_start_law}
use Rattle.replay_audit.specs.Determinate.{IsDeterminate, low_order_of}
use Rattle.replay_audit.proofs.OrdersAgree.{every_order_law}
use Rattle.cut_index.specs.Alone.{goes_on}
use Rattle.cut_index.specs.AloneLaws.{AloneAtLaw, AloneLaw, GoesOnLaw, NextAtLaw, alone_at, own_loads}
use Rattle.cut_index.specs.declared.alone.Alone.{Alone}
use Rattle.cut_index.proofs.OwnLoads.{alike}

abbrev made : Core → ℕ → Alone
made core read = record { core = core; read = read }

module _ (which : Which) (r : Recording) (c : ℕ) (valid : Valid r) (determinate : IsDeterminate which r)
    (inside : c < length r.totals) where
  abbrev p : Plan
  p = plan_of which r

  -- behind these places the core stands as it does on its own
  pub record Stands (order : List ℕ) : Type 0 where
    pub alone : made (core_at (played (plan_of which r) order) c) (length (loads_at (played (plan_of which r) order) c))
        ≡ alone_at which r c (counts nought order c)

  first : Stands []
  first =
      let law = play_start_law p in
      record {
        alone = ap (λ (k : Core). made k (length (loads_at (start p) c))) (law.core c inside)
            ∙ ap (λ (l : List LoadNote). made (starting c p.limit) (length l)) (law.loads c);
      }

  -- the place of another core
  by_other : (front : List ℕ) (d : ℕ) → c ≢ d → Stands front → Stands (front ++ d ∷ [])
  by_other front d ne so_far =
      let s : Outcome = played p front in
      let law = place_law p s d in
      let on : played p (front ++ d ∷ []) ≡ place p s d = play_on p (start p) front (d ∷ []) in
      let count : counts nought (front ++ d ∷ []) c ≡ counts nought front c =
      ap (λ (g : ℕ → ℕ). g c) (counts_on nought front (d ∷ [])) ∙ bump_else (counts nought front) d c ne in
      record {
        alone = ap (λ (t : Outcome). made (core_at t c) (length (loads_at t c))) on
            ∙ ap (λ (k : Core). made k (length (loads_at (place p s d) c))) (law.other_cores c ne)
            ∙ ap (λ (l : List LoadNote). made (core_at s c) (length l)) (law.other_loads c ne)
            ∙ so_far.alone ∙ ap (λ (n : ℕ). alone_at which r c n) (sym count);
      }

  -- its own
  by_own : (front : List ℕ) → IsReplayOrder (plan_of which r) (front ++ c ∷ []) → Stands front →
      Stands (front ++ c ∷ [])
  by_own front ordered so_far =
      let s : Outcome = played p front in
      let law = place_law p s c in
      let known = play_law p front ((ordered_on p nought front (c ∷ [])).0 ordered).0 in
      let core_there : c < length s.cores = let all = known.all_cores in omega arith in
      let loads_there : c < length s.loads = let all = known.all_loads in omega arith in
      let on : played p (front ++ c ∷ []) ≡ place p s c = play_on p (start p) front (c ∷ []) in
      let used = use_of (need_at p s c) in
      let mine : List LoadNote = loads_at s c in
      let at : ℕ = (core_at s c).count + 1 in
      let more = (every_order_law which r (low_order_of which r) (front ++ c ∷ []) valid determinate ordered).loads c in
      let split : own_loads which r c ≡ loads_after used mine at (old_for used s.words) ++ more.0 =
      more.1 ∙ ap (λ (t : Outcome). loads_at t c ++ more.0) on
      ∙ ap (λ (l : List LoadNote). l ++ more.0) (law.loads loads_there) in
      let same = alike p.image (core_at s c) mine more.0 at s.words used (own_loads which r c) refl split in
      let count : counts nought (front ++ c ∷ []) c ≡ suc (counts nought front c) =
      ap (λ (g : ℕ → ℕ). g c) (counts_on nought front (c ∷ [])) ∙ bump_here (counts nought front) c
      ∙ add-one (counts nought front c) in
      let next : Alone = goes_on p.image (own_loads which r c) (made (core_at s c) (length mine)) in
      record {
        alone = ap (λ (t : Outcome). made (core_at t c) (length (loads_at t c))) on
            ∙ ap (λ (k : Core). made k (length (loads_at (place p s c) c))) (law.core core_there ∙ same.value)
            ∙ ap (λ (l : List LoadNote). made next.core (length l)) (law.loads loads_there)
            ∙ ap (λ (n : ℕ). made next.core n) (sym same.read)
            ∙ ap (λ (a : Alone). goes_on p.image (own_loads which r c) a) so_far.alone
            ∙ ap (λ (n : ℕ). alone_at which r c n) (sym count);
      }

  by_any : (front : List ℕ) (d : ℕ) → IsReplayOrder (plan_of which r) (front ++ d ∷ []) → Stands front →
      Stands (front ++ d ∷ [])
  by_any front d ordered so_far = elim (ℕ_discrete c d) [
    | yes same ↦ subst (λ (e : ℕ). Stands (front ++ e ∷ [])) same
        (by_own front (subst (λ (e : ℕ). IsReplayOrder p (front ++ e ∷ [])) (sym same) ordered) so_far)
    | no other ↦ by_other front d other so_far
  ]

  -- from a front on
  along : (front rest : List ℕ) → IsReplayOrder (plan_of which r) (front ++ rest) → Stands front →
      Stands (front ++ rest)
  along front [] ordered so_far = subst (λ (l : List ℕ). Stands l) (sym (append-nil front)) so_far
  along front (d ∷ rest) ordered so_far =
      let longer : (front ++ d ∷ []) ++ rest ≡ front ++ d ∷ rest = append_assoc front (d ∷ []) rest in
      let all : IsReplayOrder p ((front ++ d ∷ []) ++ rest) = subst (λ (l : List ℕ). IsReplayOrder p l) (sym longer)
      ordered in
      let one = ((ordered_on p nought (front ++ d ∷ []) rest).0 all).0 in
      subst (λ (l : List ℕ). Stands l) longer (along (front ++ d ∷ []) rest all (by_any front d one so_far))

  pub stands : (order : List ℕ) → IsReplayOrder (plan_of which r) order → Stands order
  stands order ordered = along [] order ordered first

  -- before its total it goes on: the low order has its place
  going : (count : ℕ) → PlaceOf (low_order_of which r) nought c (count + 1) →
      is_done (need (recorded_image r) (alone_at which r c count).core) ≡ false
  going count here =
      let plays = (plays_on p (start p) here.front (c ∷ here.rest)).0
      (subst (λ (l : List ℕ). Plays p (start p) l) here.split determinate.plays) in
      let ordered = (ordered_on p nought here.front (c ∷ here.rest)).0
      (subst (λ (l : List ℕ). IsReplayOrder p l) here.split determinate.ordered) in
      let before : counts nought here.front c ≡ count = let b = here.before in omega arith in
      let there : core_at (played p here.front) c ≡ (alone_at which r c count).core =
      ap (λ (a : Alone). a.core) ((stands here.front ordered.0).alone ∙ ap (λ (n : ℕ). alone_at which r c n) before) in
      ap (λ (k : Core). is_done (need (recorded_image r) k)) (sym there) ∙ plays.1.0

  pub goes_further : (count : ℕ) → count < slice_index r.totals c →
      is_done (need (recorded_image r) (alone_at which r c count).core) ≡ false
  goes_further count below =
      let whole = determinate.whole.each c inside in
      going count (place_of (low_order_of which r) nought c (count + 1) (omega arith) (omega arith))

-- ---- the laws

core_inside : (r : Recording) (c : ℕ) → Valid r → c < r.params.cores → c < length r.totals
core_inside r c valid lt = let all = valid.each_core in omega arith

pub alone_law : AloneLaw
alone_law which r order c valid determinate ordered inside =
    ap (λ (a : Alone). a.core) (stands which r c valid determinate (core_inside r c valid inside) order ordered).alone

pub alone_at_law : AloneAtLaw
alone_at_law which r cut outcome c valid determinate at inside =
    let order = at.some_order.0 in
    let reaches = at.some_order.1 in
    ap (λ (s : Outcome). core_at s c) (at.every_order order reaches).outcome_is
    ∙ alone_law which r order c valid determinate reaches.ordered inside
    ∙ ap (λ (n : ℕ). (alone_at which r c n).core) (reaches.counts_are c)

pub next_at_law : NextAtLaw
next_at_law which r cut outcome c valid determinate at inside =
    ap (λ (k : Core). need (recorded_image r) k) (alone_at_law which r cut outcome c valid determinate at inside)

pub goes_on_law : GoesOnLaw
goes_on_law which r c count valid determinate inside below =
    goes_further which r c valid determinate (core_inside r c valid inside) count below
