-- Each row of the table leaves a stage that fits.
use Rattle.std.proofs.Common.{◌≡◌, ℕ, ◌<◌, arith, refl, ap, not, Bool, true, false, IsTrue, Option, Some, None, List}
use Rattle.std.specs.Prelude.{if◌then◌else◌, ◌==◌}
use Rattle.std.proofs.lemmas.Bool.Decides.{nat_tests}
use Rattle.access_times.specs.Riding.{Riding}
use Rattle.rtr_types.proofs.Members.{no_cores_below, with_nonempty, with_below, without_below}
use Rattle.rtr_types.specs.declared.TheConstants.{CORES_MAX}
use Rattle.rtr_types.specs.declared.core_set.CoreSet.{CoreSet}
use Rattle.rtr_types.specs.CoreSets.{has, with_core, without_core, is_below, is_none, no_cores}
use Rattle.rtr_types.proofs.Truths.{both_true, first_true, second_true}
use Rattle.msi_cache.specs.Table.{Ask, Reply}
use Rattle.msi_cache.specs.Messages.{ask_of, reply_of}
use Rattle.msi_cache.specs.declared.messages.Request.{Request}
use Rattle.msi_cache.specs.declared.messages.Response.{Response}
use Rattle.msi_directory.specs.Table.{HomeRow, request_row, response_row, own_from, acknowledged, shared_by, given}
use Rattle.msi_directory.specs.Entries.{entry_by, entry_after_request, entry_after_response, request_words}
use Rattle.msi_directory.specs.Entries.{request_rider, response_words, response_rider}
use Rattle.msi_directory.specs.Fitting.{set_fits, core_fits, stage_fits}
use Rattle.msi_directory.specs.declared.entry.Stage.{Stage}
use Rattle.msi_directory.specs.declared.entry.Stage.TheVariants.{Unshared, Shared, Owned, Acks, Data}
use Rattle.msi_directory.specs.declared.entry.Entry.{Entry}

-- a set that is known to be in range fits where it isn't empty
fits_some : (s : CoreSet) → IsTrue (is_below s) → is_none s ≡ false → IsTrue (set_fits s)
fits_some s low some = both_true (not (is_none s)) (is_below s) (ap not some) low

in_range : (s : CoreSet) → IsTrue (set_fits s) → IsTrue (is_below s)
in_range s h = second_true (not (is_none s)) (is_below s) h

fits_with : (s : CoreSet) (c : ℕ) → c < CORES_MAX → IsTrue (is_below s) → IsTrue (set_fits (with_core s c))
fits_with s c h low = fits_some (with_core s c) (with_below s c low) (with_nonempty s c h)

core_below : (c : ℕ) → c < CORES_MAX → IsTrue (core_fits c)
core_below c h = grind (arith, nat_tests)

-- the stage of a row fits, if there is a row
abbrev row_fits : Option HomeRow → Bool
row_fits None = true
row_fits (Some r) = stage_fits r.next

-- a fact of a choice holds where it holds of both_true branches
chosen : {X : Type 0} (P : X → Type 0) (b : Bool) (x y : X) → (b ≡ true → P x) → (b ≡ false → P y) →
    P (if b then x else y)
chosen P true x y f g = f refl
chosen P false x y f g = g refl

shared_fits : (s : CoreSet) → IsTrue (is_below s) → IsTrue (stage_fits (shared_by s))
shared_fits s low = chosen (λ t. IsTrue (stage_fits t)) (is_none s) Unshared (Shared s) (λ e. refl)
    (λ e. fits_some s low e)

left_fits : (left : CoreSet) (requester : ℕ) → IsTrue (is_below left) → IsTrue (core_fits requester) →
    is_none left ≡ false →
    IsTrue (stage_fits (Acks left requester))
left_fits left requester low h e = both_true (set_fits left) (core_fits requester) (fits_some left low e) h

own_fits : (others : CoreSet) (c : ℕ) → IsTrue (is_below others) → c < CORES_MAX → IsTrue (row_fits (own_from others c))
own_fits others c low h = chosen (λ r. IsTrue (row_fits r)) (is_none others) _ _ (λ e. core_below c h)
    (λ e. left_fits others c low (core_below c h) e)

acknowledged_fits : (left : CoreSet) (requester : ℕ) → IsTrue (is_below left) → IsTrue (core_fits requester) →
    IsTrue (row_fits (acknowledged left requester))
acknowledged_fits left requester low h = chosen (λ r. IsTrue (row_fits r)) (is_none left) _ _ (λ e. h)
    (λ e. left_fits left requester low h e)

given_fits : (share : Bool) (c requester : ℕ) → c < CORES_MAX → IsTrue (core_fits requester) →
    IsTrue (stage_fits (given share c requester))
given_fits true c requester h k = fits_with (with_core no_cores c) requester (grind (arith, nat_tests))
    (with_below no_cores c no_cores_below)
given_fits false c requester h k = k

request_fits : (stage : Stage) (c : ℕ) (ask : Ask) → c < CORES_MAX → IsTrue (stage_fits stage) →
    IsTrue (row_fits (request_row stage c ask))
request_fits Unshared c Ask.GetS h fits = fits_with no_cores c h no_cores_below
request_fits Unshared c Ask.GetM h fits = core_below c h
request_fits Unshared c Ask.PutS h fits = refl
request_fits Unshared c Ask.PutM h fits = refl
request_fits (Shared by) c Ask.GetS h fits = fits_with by c h (in_range by fits)
request_fits (Shared by) c Ask.GetM h fits = own_fits (without_core by c) c (without_below by c (in_range by fits)) h
request_fits (Shared by) c Ask.PutS h fits =
    chosen (λ r. IsTrue (row_fits r)) (has by c) _ _ (λ e. shared_fits (without_core by c)
    (without_below by c (in_range by fits))) (λ e. fits)
request_fits (Shared by) c Ask.PutM h fits =
    chosen (λ r. IsTrue (row_fits r)) (has by c) _ _ (λ e. shared_fits (without_core by c)
    (without_below by c (in_range by fits))) (λ e. fits)
request_fits (Owned owner) c Ask.GetS h fits = both_true (core_fits owner) (core_fits c) fits (core_below c h)
request_fits (Owned owner) c Ask.GetM h fits = both_true (core_fits owner) (core_fits c) fits (core_below c h)
request_fits (Owned owner) c Ask.PutS h fits = chosen (λ r. IsTrue (row_fits r)) (c == owner) _ _ (λ e. refl)
    (λ e. fits)
request_fits (Owned owner) c Ask.PutM h fits = chosen (λ r. IsTrue (row_fits r)) (c == owner) _ _ (λ e. refl)
    (λ e. fits)
request_fits (Acks «of» requester) c ask h fits = refl
request_fits (Data «of» requester share) c ask h fits = refl

response_fits : (stage : Stage) (c : ℕ) (reply : Reply) → c < CORES_MAX → IsTrue (stage_fits stage) →
    IsTrue (row_fits (response_row stage c reply))
response_fits (Acks «of» requester) c Reply.InvAck h fits =
    let range = in_range «of» (first_true (set_fits «of») (core_fits requester) fits) in
    chosen (λ r. IsTrue (row_fits r)) (has «of» c) _ _
    (λ e. acknowledged_fits (without_core «of» c) requester (without_below «of» c range) (second_true (set_fits «of»)
    (core_fits requester) fits))
    (λ e. refl)
response_fits (Data «of» requester share) c Reply.OwnerData h fits =
    chosen (λ r. IsTrue (row_fits r)) (c == «of») _ _
    (λ e. given_fits share c requester h (second_true (core_fits «of») (core_fits requester) fits))
    (λ e. refl)
response_fits Unshared c reply h fits = refl
response_fits (Shared by) c reply h fits = refl
response_fits (Owned owner) c reply h fits = refl
response_fits (Acks «of» requester) c Reply.OwnerData h fits = refl
response_fits (Data «of» requester share) c Reply.InvAck h fits = refl

module _ {R : Type 0} where
  entry_by_fits : (riding : Riding R) (row : Option HomeRow) (e : Entry R) (words : List ℕ) (rider : R) →
      IsTrue (row_fits row) →
      IsTrue (stage_fits e.stage) → IsTrue (stage_fits (entry_by riding row e words rider).stage)
  entry_by_fits riding None e words rider fits old = old
  entry_by_fits riding (Some r) e words rider fits old = fits

  pub request_keeps_fit : (riding : Riding R) (e : Entry R) (c : ℕ) (request : Request R) → c < CORES_MAX →
      IsTrue (stage_fits e.stage) →
      IsTrue (stage_fits (entry_after_request riding e c request).stage)
  request_keeps_fit riding e c request h fits =
      entry_by_fits riding (request_row e.stage c (ask_of request)) e (request_words request e.words)
      (request_rider request e.rider)
      (request_fits e.stage c (ask_of request) h fits) fits

  pub response_keeps_fit : (riding : Riding R) (e : Entry R) (c : ℕ) (response : Response R) → c < CORES_MAX →
      IsTrue (stage_fits e.stage) →
      IsTrue (stage_fits (entry_after_response riding e c response).stage)
  response_keeps_fit riding e c response h fits =
      entry_by_fits riding (response_row e.stage c (reply_of response)) e (response_words response e.words)
      (response_rider response)
      (response_fits e.stage c (reply_of response) h fits) fits
