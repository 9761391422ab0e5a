-- What a seat keeps of its core's next instruction.
use Rattle.std.proofs.Common.{◌≡◌, ℕ, ◌+◌, ◌<◌, ◌≤◌, List, length, refl, sym, ap, subst, ◌∙◌, arith}
use Rattle.std.specs.Prelude.{Option, slice_index}
use Rattle.image_mem.specs.Contents.{Contents}
use Rattle.rtr_types.specs.declared.pairs.Which.{Which}
use Rattle.clock_core.proofs.EdgeLists.{among_contains, contains_among}
use Rattle.rv_core.specs.declared.core_state.Core.{Core}
use Rattle.rv_core.specs.Steps.{after}
use Rattle.rv_core.proofs.LawLemmas.{number_law}
use Rattle.race_log.specs.declared.recording.Recording.{Recording}
use Rattle.race_log.specs.Sources.{log_edges}
use Rattle.race_log.specs.Validity.{Valid}
use Rattle.replay_core.specs.Plans.{plan_of, recorded_image}
use Rattle.replay_core.specs.Coming.{IsComing}
use Rattle.replay_core.specs.Play.{instr}
use Rattle.replay_core.specs.Sources.{sources_in}
use Rattle.replay_core.proofs.Ready.{within_sourced}
use Rattle.replay_core.proofs.Sources.{apart}
use Rattle.replay_table.specs.declared.upcoming.Upcoming.{Upcoming}
use Rattle.replay_table.specs.declared.view.View.{View}
use Rattle.replay_table.specs.Aheads.{Due}
use Rattle.replay_table.specs.Rule.{seen_of}
use Rattle.replay_table.specs.Seats.{CanBegin, CanLook, IsUpcoming, IsUnmet, Past, SeatHolds, Sitting, Tied}

-- what was looked up is of the job's recording and log
pub upcoming_is : (w w' : Which) (r r' : Recording) (k l : Core) (u : Upcoming) → w' ≡ w → r' ≡ r → l ≡ k
    → IsUpcoming w' r' l u → IsUpcoming w r k u
upcoming_is w w' r r' k l u e q same h =
    subst (λ (x : Which). IsUpcoming x r k u) e
    (subst (λ (x : Recording). IsUpcoming w' x k u) q (subst (λ (x : Core). IsUpcoming w' r' x u) same h))

-- a seat whose core has gone on, and which has looked up what the core needs next
pub gone_on : (w w' : Which) (r r' : Recording) (past new : Past) (l : Core) (next u : Upcoming) (sees sees' : List ℕ)
    (holds holds' : Option ℕ) (v v' : View) → SeatHolds w r past next sees holds v → w' ≡ w → r' ≡ r → l ≡ new.core
    → IsUpcoming w' r' l u → Tied (plan_of w r) new sees' holds' v' → SeatHolds w r new u sees' holds' v'
gone_on w w' r r' past new l next u sees sees' holds holds' v v' h e q same upcoming tied =
    record { valid = h.valid; upcoming = upcoming_is w w' r r' new.core l u e q same upcoming; tied = tied }

-- and one whose core stands where it stood
pub stayed : (w : Which) (r : Recording) (past : Past) (next : Upcoming) (sees sees' : List ℕ)
    (holds holds' : Option ℕ) (v v' : View) → SeatHolds w r past next sees holds v
    → Tied (plan_of w r) past sees' holds' v' → SeatHolds w r past next sees' holds' v'
stayed w r past next sees sees' holds holds' v v' h tied =
    record { valid = h.valid; upcoming = h.upcoming; tied = tied }

-- a core all of whose sources were seen is ready
pub due_by : (which : Which) (r : Recording) (f : ℕ → ℕ) (k : Core) (u : Upcoming) → Valid r → IsUpcoming which r k u
    → k.count < slice_index r.totals k.id
    → ((i : ℕ) → i < length r.totals → slice_index (sources_in u.sources) i ≤ f i) → Due (plan_of which r) f k
due_by which r f k u valid h below met = record {
  below = below;
  sourced = within_sourced (log_edges which r) f k.id (k.count + 1)
      (λ from has.
      let at = h.sources.each from (contains_among (log_edges which r) from (instr k.id (k.count + 1)) has) in
      let inside = (apart which r (plan_of which r) valid refl from (instr k.id (k.count + 1)) has).0 in
      let seen = met from.core inside in
      omega arith);
}

-- and its seat is due
pub due_seat : (which : Which) (r : Recording) (x s : Sitting) (u : Upcoming) → x ≡ s → Valid r
    → IsUpcoming which r x.core u → s.core.count < slice_index r.totals s.core.id
    → ((i : ℕ) → i < length r.totals → slice_index (sources_in u.sources) i ≤ seen_of x.view i)
    → Due (plan_of which r) (seen_of s.view) s.core
due_seat which r x s u is valid h below met =
    subst (λ (y : Sitting). Due (plan_of which r) (seen_of y.view) y.core) is
    (due_by which r (seen_of x.view) x.core u valid h
    (subst (λ (y : Sitting). y.core.count < slice_index r.totals y.core.id) (sym is) below) met)

-- a source that wasn't seen
pub unmet_is : (which : Which) (r : Recording) (v : View) (k : Core) (u : Upcoming) (of : ℕ) → IsUpcoming which r k u
    → of < length r.totals
    → seen_of v of < slice_index (sources_in u.sources) of
    → IsUnmet which r v k (instr of (slice_index (sources_in u.sources) of))
unmet_is which r v k u of h inside unseen = record {
  inside = inside;
  unseen = unseen;
  logged = among_contains (log_edges which r) (instr of (slice_index (sources_in u.sources) of))
      (instr k.id (k.count + 1)) (h.sources.only of (omega arith));
}

-- what a first look-up asks
pub can_begin : (r r' : Recording) (image : Contents) (k l : Core) → Valid r → r' ≡ r → image ≡ recorded_image r
    → l ≡ k → k.id < length r.totals
    → k.count ≤ slice_index r.totals k.id → CanBegin r' image l
can_begin r r' image k l valid q image_is same inside within =
    subst (λ (x : Core). CanBegin r' image x) (sym same)
    (subst (λ (x : Recording). CanBegin x image k) (sym q)
    (record { valid = valid; image_is = image_is; inside = inside; within = within }))

-- the core k has gone on to m, which the code has as l
pub can_look : (w w' : Which) (r r' : Recording) (image : Contents) (k m l : Core) (u : Upcoming) → Valid r → w' ≡ w
    → r' ≡ r → image ≡ recorded_image r
    → l ≡ m → m.id < length r.totals → m.count ≤ slice_index r.totals m.id → l.id ≡ k.id
    → IsComing (log_edges w r) k.id r.params.cores u.coming → CanLook w' r' image l u
can_look w w' r r' image k m l u valid e q image_is same inside within id coming =
    subst (λ (x : Which). CanLook x r' image l u) (sym e)
    (subst (λ (x : Recording). CanLook w x image l u) (sym q) (record {
      valid = valid;
      image_is = image_is;
      inside = subst (λ (x : Core). x.id < length r.totals) (sym same) inside;
      within = subst (λ (x : Core). x.count ≤ slice_index r.totals x.id) (sym same) within;
      coming = subst (λ (i : ℕ). IsComing (log_edges w r) i r.params.cores u.coming) (sym id) coming;
    }))

-- so of a seat whose core has retired an instruction
pub look_on : (w w' : Which) (r r' : Recording) (image : Contents) (past new : Past) (l : Core) (next : Upcoming)
    (sees sees' : List ℕ) (holds holds' : Option ℕ) (v v' : View) (old : ℕ) → SeatHolds w r past next sees holds v
    → w' ≡ w → r' ≡ r → image ≡ recorded_image r → l ≡ new.core → new.core ≡ after (recorded_image r) past.core old
    → Tied (plan_of w r) new sees' holds' v' → CanLook w' r' image l next
look_on w w' r r' image past new l next sees sees' holds holds' v v' old h e q image_is same made tied =
    can_look w w' r r' image past.core new.core l next h.valid e q image_is same tied.inside tied.within
    (ap (λ (x : Core). x.id) (same ∙ made) ∙ number_law (recorded_image r) past.core old) h.upcoming.coming
