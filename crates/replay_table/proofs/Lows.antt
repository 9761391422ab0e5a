-- The value that a load has in the low order, where the recording is determinate.
use Rattle.std.proofs.Common.{◌≡◌, ℕ, ◌+◌, true, false, Bool, cond, List, [], ◌∷◌, ◌++◌, refl, sym, ap, subst, ◌∙◌}
use Rattle.std.specs.Prelude.{Option, Some, None}
use Rattle.std.specs.List.{Contains}
use Rattle.std.proofs.lemmas.List.Elements.{Contains-push, Contains-append_left}
use Rattle.std.proofs.lemmas.Option.{same_Some}
use Rattle.rtr_types.specs.declared.pairs.Which.{Which}
use Rattle.rtr_types.specs.Accesses.{is_read}
use Rattle.rv_core.specs.declared.core_state.Core.{Core}
use Rattle.rv_core.specs.declared.core_state.Need.{Need}
use Rattle.rv_core.specs.declared.core_state.Need.TheVariants.{Local, Load, Store, Amo, Done}
use Rattle.rv_core.specs.declared.outcome.LoadNote.{LoadNote}
use Rattle.rv_core.specs.Needs.{is_of_kind, is_reading}
use Rattle.rv_core.specs.Steps.{need}
use Rattle.rv_core.proofs.LawLemmas.{number_law}
use Rattle.race_log.specs.declared.recording.Recording.{Recording}
use Rattle.race_log.specs.Validity.{Valid}
use Rattle.replay_core.specs.Plans.{Plan, plan_of}
use Rattle.replay_core.specs.Play.{Use, use_of, loads_after, loads_at, played}
use Rattle.replay_core.specs.Orders.{low_order}
use Rattle.replay_audit.proofs.OrdersAgree.{every_order_law}
use Rattle.replay_table.specs.declared.view.Own.{Own}
use Rattle.replay_table.specs.declared.view.View.{View}
use Rattle.replay_table.specs.Accesses.{is_load, is_change, word_by, word_of}
use Rattle.replay_table.specs.Rule.{seen_of, Reached}
use Rattle.replay_table.specs.Kinds.{retired}
use Rattle.replay_table.specs.Told.{ToldLoad, ToldExchange}
use Rattle.replay_table.specs.Seats.{IsLowValue, Past, Tied}
use Rattle.replay_table.proofs.Ties.{at_same, load_is, change_is}

noted : (u : Use) (loads : List LoadNote) (count value : ℕ) → is_of_kind is_read u ≡ true
    → loads_after u loads count value ≡ loads ++ record { count = count; word = word_by u; value = value } ∷ []
noted None loads count value e = absurd cc
noted (Some used) loads count value e
    = ap (λ (b : Bool). cond b (loads ++ record { count = count; word = used.1; value = value } ∷ []) loads) e

-- some replay order plays to the instruction, and each agrees with the low order
pub low_value : (which : Which) (r : Recording) (f : ℕ → ℕ) (own : Own) (at k : Core) (found : ℕ) → Valid r
    → Reached (plan_of which r) f (retired (plan_of which r) own at found) → at ≡ k
    → is_reading (need (plan_of which r).image k) ≡ true → IsLowValue which r k found
low_value which r f own at k found valid reached same reads determinate =
    let p : Plan = plan_of which r in
    let agrees = every_order_law which r (low_order p) reached.order valid determinate reached.ordered in
    let more = agrees.loads k.id in
    let note : LoadNote = record { count = k.count + 1; word = word_of (need p.image k); value = found } in
    let id : (retired p own at found).core.id ≡ k.id = number_law p.image at found ∙ ap (λ (x : Core). x.id) same in
    let here : loads_at (played p reached.order) k.id ≡ own.loads
    ++ note ∷ [] = ap (λ (i : ℕ). loads_at (played p reached.order) i) (sym id)
    ∙ reached.agrees.loads
    ∙ ap (λ (x : Core). loads_after (use_of (need p.image x)) own.loads (x.count + 1) found) same
    ∙ noted (use_of (need p.image k)) own.loads (k.count + 1) found reads in
    let all : loads_at (played p (low_order p)) k.id ≡ (own.loads ++ note ∷ []) ++ more.0 = more.1
    ∙ ap (λ (l : List LoadNote). l ++ more.0) here in
    subst (λ (l : List LoadNote). Contains l note) (sym all)
    (Contains-append_left (own.loads ++ note ∷ []) more.0 note (Contains-push own.loads note))

pub load_reads : (n : Need) → is_load n ≡ true → is_reading n ≡ true
load_reads Local t = absurd (cc)
load_reads (Load w) t = refl
load_reads (Store w b) t = absurd (cc)
load_reads (Amo w) t = absurd (cc)
load_reads (Done stop) t = absurd (cc)

-- what a load answered
pub loaded_low : (which : Which) (r : Recording) (past : Past) (sees : List ℕ) (holds : Option ℕ) (v w : View)
    (word found : ℕ) → Valid r
    → Tied (plan_of which r) past sees holds v → ToldLoad (plan_of which r) v word found w
    → is_load (need (plan_of which r).image past.core) ≡ true → IsLowValue which r past.core found
loaded_low which r past sees holds v w word found valid t told ask =
    let step = told.step in
    let p : Plan = plan_of which r in
    let n : Need = need p.image past.core in
    let same = at_same p past sees holds v step.own step.at word false false false false (word_of n) t step.next
    step.access (load_is n ask) in
    low_value which r (seen_of v) step.own step.at past.core found valid told.reached same.1 (load_reads n ask)

-- what was held for an atomic memory operation
pub exchanged_low : (which : Which) (r : Recording) (past : Past) (sees : List ℕ) (holds : Option ℕ) (v w : View)
    (word held new found : ℕ) → Valid r
    → Tied (plan_of which r) past sees holds v
    → ToldExchange (plan_of which r) v word held new found w → is_change (need (plan_of which r).image past.core) ≡ true
    → is_reading (need (plan_of which r).image past.core) ≡ true
    → (u : ℕ) → v.held ≡ Some u → IsLowValue which r past.core u
exchanged_low which r past sees holds v w word held new found valid t told ask reads u e determinate =
    let step = told.step in
    let p : Plan = plan_of which r in
    let n : Need = need p.image past.core in
    let same = at_same p past sees holds v step.own step.at word true false true false (word_of n) t step.next
    step.access (change_is n ask) in
    let is : held ≡ u = same_Some held u (sym step.held ∙ e) in
    subst (λ (x : ℕ). IsLowValue which r past.core x) is
    (low_value which r (seen_of v) step.own step.at past.core held valid
    (told.reached (told.sure determinate)) same.1 reads) determinate
