-- What the first edge that fails, or none, says of the log.
use Rattle.std.proofs.Common.{inl, inr, ◌≡◌, ◌≢◌, ◌⊎◌, ◌↔◌, ℕ, ◌≤◌, List, [], ◌∷◌, ◌++◌, refl, sym, ap, ◌∙◌, subst}
use Rattle.std.proofs.Common.{arith, Some, None}
use Rattle.std.specs.Prelude.{Option, MatchOption}
use Rattle.rtr_types.specs.declared.instr.Instr.{Instr}
use Rattle.rtr_types.specs.declared.instr.Edge.{Edge}
use Rattle.rtr_types.specs.declared.access.Access.{Access}
use Rattle.rtr_types.specs.declared.pairs.Which.{Which}
use Rattle.rtr_types.specs.declared.pairs.Which.TheVariants.{Reduced}
use Rattle.clock_core.specs.Order.{Among, previous}
use Rattle.clock_core.proofs.EdgeLists.{among_left}
use Rattle.conflict_edge.specs.Conflicts.{CountsRise}
use Rattle.conflict_edge.proofs.Independent.{cases_instr}
use Rattle.conflict_edge.proofs.TwoForms.{least_independent}
use Rattle.race_log.specs.declared.recording.Recording.{Recording}
use Rattle.race_log.specs.Validity.{Valid}
use Rattle.clock_entries.specs.Ends.{Clocks, instr}
use Rattle.clock_entries.specs.Entries.{IsKnownOtherwise, Entry}
use Rattle.clock_entries.proofs.Exact.{needed_or_known}
use Rattle.clock_entries.proofs.Least.{pair_decided}
use Rattle.replay_audit.specs.declared.audit_fault.AuditFault.{AuditFault}
use Rattle.replay_audit.specs.declared.audit_fault.AuditFault.TheVariants as audits
use Rattle.replay_audit.specs.Audits.{Findings, Passed, PassesOf, IsAuditOf, AuditRefuses}
use Rattle.replay_audit.specs.Determinate.{IsDeterminate, low_accesses}
use Rattle.certificate_codec.specs.declared.certificate.Certificate.{Certificate}
use Rattle.certificate_codec.specs.Ends.{reduced_edges}
use Rattle.min_certificate.specs.declared.answers.CertFault.TheVariants as certs
use Rattle.min_certificate.specs.declared.answers.CheckFailure.{CheckFailure}
use Rattle.min_certificate.specs.declared.answers.CheckFailure.TheVariants as failures
use Rattle.min_certificate.specs.declared.answers.CheckFault.TheVariants as checks
use Rattle.min_certificate.specs.Answers.{Certifies, IsFirstAmiss, Checks, CheckFails, PassedIsAcceptedLaw}
use Rattle.min_certificate.specs.Answers.{LeastIsCertifiedLaw}
use Rattle.min_certificate.specs.Clocks.{HasClocks}
use Rattle.least_lists.specs.LeastLists.{AreOf}
use Rattle.min_certificate.specs.Conflicting.{BothConflict}
use Rattle.min_certificate.specs.Faults.{fault_of_audit}
use Rattle.min_certificate.specs.Firsts.{IsFirst, FailsFirst, FirstWithout}
use Rattle.min_certificate.specs.Laws.{IsConflictIn, AllConflict, IsLeastIn, IsAmissIn, Passes}
use Rattle.min_certificate.specs.Places.{entry_in, AreExactIn, IsNeededIn, IsKnownOtherwiseIn}
use Rattle.min_certificate.specs.Sound.{IsSound}
use Rattle.min_certificate.proofs.AccessPlaces.{conflict_is_pair}
use Rattle.min_certificate.proofs.Exactly.{exact_in, is_certificate}
use Rattle.min_certificate.proofs.Lows.{low_acyclic, low_cores, low_rise, every_order_is_least}
use Rattle.min_certificate.proofs.CertifiedRecordings.{not_least, amiss_by_entries, least_passes, passed_is_least}
use Rattle.replay_audit.proofs.RefusedLogs.{refused_law}

-- ---- known otherwise or not

abbrev HasKnowing : List Edge → Entry → Instr → Instr → Type 0
HasKnowing es entry x y = (z : Instr) × Among es z y × (z ≢ x) × (x.count ≤ entry z x.core)

at_least_decided : (m n : ℕ) → (m ≤ n) ⊎ (m ≤ n → ⊥)
at_least_decided m n = grind arith

sources_decided : (es : List Edge) (entry : Entry) (x y : Instr) →
    HasKnowing es entry x y ⊎ (HasKnowing es entry x y → ⊥)
sources_decided [] entry x y = inr (λ q. absurd q.1)
sources_decided (e ∷ es) entry x y =
    by (sources_decided es entry x y) (cases_instr e.to y) (cases_instr e.from x)
    (at_least_decided x.count (entry e.from x.core))
  where
    none : ((e.to ≡ y) → (e.from ≢ x) → x.count ≤ entry e.from x.core → ⊥) → (HasKnowing es entry x y → ⊥) →
        HasKnowing (e ∷ es) entry x y → ⊥
    none f g (z, inl a, ne, le) =
        f a.1 (λ q. ne (sym a.0 ∙ q)) (subst (λ (w : Instr). x.count ≤ entry w x.core) (sym a.0) le)
    none f g (z, inr a, ne, le) = g (z, a, ne, le)

    by : HasKnowing es entry x y ⊎ (HasKnowing es entry x y → ⊥) → (e.to ≡ y) ⊎ (e.to ≢ y) →
        (e.from ≡ x) ⊎ (e.from ≢ x) → (x.count ≤ entry e.from x.core)
        ⊎ (x.count ≤ entry e.from x.core → ⊥) →
        HasKnowing (e ∷ es) entry x y ⊎ (HasKnowing (e ∷ es) entry x y → ⊥)
    by (inl q) _ _ _ = inl (q.0, inr q.1, q.2, q.3)
    by (inr g) (inl p) (inr ne) (inl le) = inl (e.from, inl (refl, p), ne, le)
    by (inr g) (inr np) _ _ = inr (none (λ p _ _. np p) g)
    by (inr g) (inl p) (inl s) _ = inr (none (λ _ ne _. ne s) g)
    by (inr g) (inl p) (inr ne) (inr no_le) = inr (none (λ _ _ le. no_le le) g)

pub known_decided : (edges : List Edge) (entry : Entry) (x y : Instr) →
    IsKnownOtherwise edges entry x y ⊎ (IsKnownOtherwise edges entry x y → ⊥)
known_decided edges entry x y =
    by (at_least_decided x.count (entry (previous y) x.core)) (sources_decided edges entry x y)
  where
    none : (x.count ≤ entry (previous y) x.core → ⊥) → (HasKnowing edges entry x y → ⊥) →
        IsKnownOtherwise edges entry x y → ⊥
    none f g (inl le) = f le
    none f g (inr q) = g q

    by : (x.count ≤ entry (previous y) x.core) ⊎ (x.count ≤ entry (previous y) x.core → ⊥) →
        HasKnowing edges entry x y ⊎ (HasKnowing edges entry x y → ⊥) →
        IsKnownOtherwise edges entry x y ⊎ (IsKnownOtherwise edges entry x y → ⊥)
    by (inl le) _ = inl (inl le)
    by (inr f) (inl q) = inl (inr q)
    by (inr f) (inr g) = inr (none f g)

-- ---- edges that are sound, and amiss

among_mid : (front : List Edge) (e : Edge) (rest : List Edge) → Among (front ++ e ∷ rest) e.from e.to
among_mid [] e rest = inl (refl, refl)
among_mid (f ∷ front) e rest = inr (among_mid front e rest)

-- a first edge for other tests, that say the same of the edges of the list
first_for : (P Q R S : Instr → Instr → Type 0) (edges : List Edge) (e : Edge) →
    ((x y : Instr) → Among edges x y → P x y → R x y) →
    ((x y : Instr) → Among edges x y → Q x y → S x y) → IsFirst P Q edges e → IsFirst R S edges e
first_for P Q R S edges e before here f = record {
  front = f.front;
  rest = f.rest;
  split = f.split;
  before = λ x y a. before x y
      (subst (λ (l : List Edge). Among l x y) (sym f.split) (among_left f.front (e ∷ f.rest) x y a)) (f.before x y a);
  here = here e.from e.to (subst (λ (l : List Edge). Among l e.from e.to) (sym f.split) (among_mid f.front e f.rest))
      f.here;
}

-- the recording of the certificate is determinate, and the accesses are those of its low order
pub record Judges (c : Certificate) (list : List Access) : Type 0 where
  pub valid : Valid c.recording
  pub determinate : IsDeterminate Reduced c.recording
  pub list_is : list ≡ low_accesses Reduced c.recording

pair_law : (c : Certificate) (list : List Access) (x y : Instr) → Judges c list →
    Among (reduced_edges c.recording) x y → BothConflict list x y
    ↔ IsConflictIn c.recording x y
pair_law c list x y h a =
    subst (λ (l : List Access). BothConflict l x y ↔ IsConflictIn c.recording x y) (sym h.list_is)
    (conflict_is_pair (low_accesses Reduced c.recording) (reduced_edges c.recording) x y h.determinate.suffices
    (low_acyclic c.recording h.valid h.determinate) a)

sound_not_amiss : (c : Certificate) (list : List Access) (x y : Instr) → Judges c list → AreExactIn c →
    Among (reduced_edges c.recording) x y →
    IsSound c list x y → IsAmissIn c.recording x y → ⊥
sound_not_amiss c list x y h exact a s m = by ((amiss_by_entries c x y h.valid h.determinate exact a).0 m)
  where
    by : (IsConflictIn c.recording x y → ⊥) ⊎ IsKnownOtherwiseIn c x y → ⊥
    by (inl f) = f ((pair_law c list x y h a).0 s.conflict)
    by (inr k) = (needed_or_known (reduced_edges c.recording) (entry_in c) x y).0 s.needed k

not_sound_amiss : (c : Certificate) (list : List Access) (x y : Instr) → Judges c list → AreExactIn c →
    Among (reduced_edges c.recording) x y →
    (IsSound c list x y → ⊥) → IsAmissIn c.recording x y
not_sound_amiss c list x y h exact a unsound =
    by (pair_decided (low_accesses Reduced c.recording) x y)
    (known_decided (reduced_edges c.recording) (entry_in c) x y)
  where
    by : IsConflictIn c.recording x y ⊎ (IsConflictIn c.recording x y → ⊥) →
        IsKnownOtherwiseIn c x y ⊎ (IsKnownOtherwiseIn c x y → ⊥) →
        IsAmissIn c.recording x y
    by (inr f) _ = inl f
    by (inl p) (inl k) = (amiss_by_entries c x y h.valid h.determinate exact a).1 (inr k)
    by (inl p) (inr f) =
        absurd (unsound (record {
          conflict = (pair_law c list x y h a).1 p;
          needed =
              (needed_or_known (reduced_edges c.recording) (entry_in c) x y).1 f;
        }))

pub first_is_amiss : (c : Certificate) (list : List Access) (e : Edge) → Judges c list → AreExactIn c →
    FailsFirst (IsSound c list) (reduced_edges c.recording) e → IsFirstAmiss c.recording e
first_is_amiss c list e h exact f =
    first_for (IsSound c list) (λ x y. IsSound c list x y → ⊥) (λ x y. IsAmissIn c.recording x y → ⊥)
    (IsAmissIn c.recording) (reduced_edges c.recording) e
    (λ x y a s. sound_not_amiss c list x y h exact a s) (λ x y a u. not_sound_amiss c list x y h exact a u) f

pub none_is_least : (c : Certificate) (list : List Access) → Judges c list → AreExactIn c →
    ((x y : Instr) → Among (reduced_edges c.recording) x y → IsSound c list x y) → IsLeastIn c.recording
none_is_least c list h exact all =
    (not_least c.recording h.valid h.determinate).1 (λ x y a. sound_not_amiss c list x y h exact a (all x y a))

-- ---- checking

pub first_no_conflict : (c : Certificate) (list : List Access) (e : Edge) → Judges c list →
    FailsFirst (BothConflict list) (reduced_edges c.recording) e →
    FailsFirst (IsConflictIn c.recording) (reduced_edges c.recording) e
first_no_conflict c list e h f =
    first_for (BothConflict list) (λ x y. BothConflict list x y → ⊥) (IsConflictIn c.recording)
    (λ x y. IsConflictIn c.recording x y → ⊥)
    (reduced_edges c.recording) e
    (λ x y a b. (pair_law c list x y h a).0 b) (λ x y a n p. n ((pair_law c list x y h a).1 p)) f

pub all_conflict : (c : Certificate) (list : List Access) → Judges c list →
    ((x y : Instr) → Among (reduced_edges c.recording) x y → BothConflict list x y) →
    AllConflict c.recording
all_conflict c list h all x y a = (pair_law c list x y h a).0 (all x y a)

pub first_known : (c : Certificate) (e : Edge) → FailsFirst (IsNeededIn c) (reduced_edges c.recording) e →
    IsFirst (IsNeededIn c) (IsKnownOtherwiseIn c) (reduced_edges c.recording) e
first_known c e f = first_for (IsNeededIn c) (λ x y. IsNeededIn c x y → ⊥) (IsNeededIn c) (IsKnownOtherwiseIn c)
    (reduced_edges c.recording) e (λ x y a n. n)
    (λ x y a n. known x y n) f
  where
    known : (x y : Instr) → (IsNeededIn c x y → ⊥) → IsKnownOtherwiseIn c x y
    known x y n = by (known_decided (reduced_edges c.recording) (entry_in c) x y)
      where
        by : IsKnownOtherwiseIn c x y ⊎ (IsKnownOtherwiseIn c x y → ⊥) → IsKnownOtherwiseIn c x y
        by (inl k) = k
        by (inr g) = absurd (n ((needed_or_known (reduced_edges c.recording) (entry_in c) x y).1 g))

-- ---- what was certified

fails_not : (c : Certificate) (f : CheckFailure) → Passes c → CheckFails c f → ⊥
fails_not c (failures.NotConflict e) p f =
    f.first.here (p.conflicts e.from e.to
    (subst (λ (l : List Edge). Among l e.from e.to) (sym f.first.split) (among_mid f.first.front e f.first.rest)))
fails_not c (failures.BadClock core entry) p f =
    f.first.of_core.bad (p.good (instr core f.first.of_core.count) f.first.of_core.is_end)
fails_not c (failures.NotNeeded e) p f =
    (needed_or_known (reduced_edges c.recording) (entry_in c) e.from e.to).0
    (p.needed e.from e.to (subst (λ (l : List Edge). Among l e.from e.to) (sym f.first.split)
    (among_mid f.first.front e f.first.rest))) f.first.here
fails_not c (failures.NotLeast e) p f = f

-- an audit of a determinate recording is refused for want of memory alone
pub audit_complete : (r : Recording) (fault : AuditFault) → IsDeterminate Reduced r → AuditRefuses Reduced r fault →
    fault_of_audit fault ≡ checks.OutOfMemory
audit_complete r (audits.Stuck cut) d h = absurd (refused_law Reduced r (audits.Stuck cut) h (λ e. absurd (cc)) d)
audit_complete r (audits.Short core count) d h =
    absurd (refused_law Reduced r (audits.Short core count) h (λ e. absurd (cc)) d)
audit_complete r (audits.Undetermined first second) d h =
    absurd (refused_law Reduced r (audits.Undetermined first second) h (λ e. absurd (cc)) d)
audit_complete r audits.OutOfMemory d h = refl

pub passed_is_accepted : PassedIsAcceptedLaw
passed_is_accepted c (checks.Audit fault) d p f =
    absurd (refused_law Reduced c.recording fault f.0 f.1 d)
passed_is_accepted c (checks.Failed failure) d p f = absurd (fails_not c failure p f)
passed_is_accepted c checks.OutOfMemory d p f = refl

pub least_is_certified : LeastIsCertifiedLaw
least_is_certified r (certs.NotLeast e) l f = absurd (by f.here)
  where
    edge : Among (reduced_edges r) e.from e.to
    edge = subst (λ (es : List Edge). Among es e.from e.to) (sym f.split) (among_mid f.front e f.rest)

    by : IsAmissIn r e.from e.to → ⊥
    by (inl n) = n (l.conflict e.from e.to edge)
    by (inr p) = least_independent (low_accesses Reduced r) (reduced_edges r) l e.from e.to edge p
least_is_certified r certs.OutOfMemory l f = refl

-- ---- as code puts them together

pub same_certificate : (c d : Certificate) → d.recording ≡ c.recording → d.clocks ≡ c.clocks → d ≡ c
same_certificate c d e f = ap (λ (r : Recording). made_of r d.clocks) e ∙ ap (λ (k : Clocks). made_of c.recording k) f
  where
    made_of : Recording → Clocks → Certificate
    made_of r k = record { recording = r; clocks = k }

-- the accesses that an audit by the reduced log answers
pub record IsLow (r : Recording) (list : List Access) : Type 0 where
  pub determinate : IsDeterminate Reduced r
  pub list_is : list ≡ low_accesses Reduced r

pub audited_low : (a : Findings) → a.which ≡ Reduced → PassesOf a → IsLow a.recording a.accesses
audited_low a which p = let q : Passed Reduced a.recording a.outcome a.accesses =
    subst (λ (w : Which). Passed w a.recording a.outcome a.accesses) which p in
    record { determinate = q.determinate; list_is = q.accesses_is }

pub audit_low : (r : Recording) (a : Findings) → IsAuditOf Reduced r a → IsLow r a.accesses
audit_low r a h = subst (λ (q : Recording). IsLow q a.accesses) h.recording_is (audited_low a h.which_is h.passed)

pub low_below : (r : Recording) (list : List Access) → Valid r → IsLow r list → AreOf r.params.cores list
low_below r list valid h =
    subst (λ (l : List Access). AreOf r.params.cores l) (sym h.list_is) (low_cores r valid)

pub low_rises : (r : Recording) (list : List Access) → IsLow r list → CountsRise list
low_rises r list h = subst CountsRise (sym h.list_is) (low_rise r)

judges_of : (r : Recording) (d : Certificate) (list : List Access) → Valid r → IsLow r list → d.recording ≡ r →
    Judges d list
judges_of r d list valid low same = record {
  valid = subst Valid (sym same) valid;
  determinate = subst (λ (q : Recording). IsDeterminate Reduced q) (sym same) low.determinate;
  list_is = subst (λ (q : Recording). list ≡ low_accesses Reduced q) (sym same) low.list_is;
}

exact_of : (r : Recording) (d : Certificate) → Valid r → HasClocks r d.clocks → d.recording ≡ r → AreExactIn d
exact_of r d valid clocks same =
    exact_in d (subst Valid (sym same) valid) (subst (λ (q : Recording). HasClocks q d.clocks) (sym same) clocks)

pub amiss_of : (r : Recording) (d : Certificate) (list : List Access) (e : Edge) → Valid r → IsLow r list →
    HasClocks r d.clocks → d.recording ≡ r →
    FailsFirst (IsSound d list) (reduced_edges d.recording) e → IsFirstAmiss r e
amiss_of r d list e valid low clocks same f =
    subst (λ (q : Recording). IsFirstAmiss q e) same
    (first_is_amiss d list e (judges_of r d list valid low same) (exact_of r d valid clocks same) f)

pub least_of : (r : Recording) (d : Certificate) (list : List Access) → Valid r → IsLow r list → HasClocks r d.clocks →
    d.recording ≡ r →
    FirstWithout (IsSound d list) (reduced_edges d.recording) None → IsLeastIn r
least_of r d list valid low clocks same all =
    subst IsLeastIn same (none_is_least d list (judges_of r d list valid low same) (exact_of r d valid clocks same) all)

pub amiss_found : (r : Recording) (d : Certificate) (list : List Access) (o : Option Edge) → Valid r → IsLow r list →
    HasClocks r d.clocks → d.recording ≡ r →
    FirstWithout (IsSound d list) (reduced_edges d.recording) o → MatchOption o (IsLeastIn r) (IsFirstAmiss r)
amiss_found r d list None valid low clocks same f = least_of r d list valid low clocks same f
amiss_found r d list (Some e) valid low clocks same f = amiss_of r d list e valid low clocks same f

pub certifies : (r : Recording) (c : Certificate) → Valid r → IsDeterminate Reduced r → HasClocks r c.clocks →
    c.recording ≡ r → IsLeastIn r → Certifies r c
certifies r c valid d clocks same l =
    let v : Valid c.recording = subst Valid (sym same) valid in
    let k : HasClocks c.recording c.clocks = subst (λ (q : Recording). HasClocks q c.clocks) (sym same) clocks in
    record {
      recording = same;
      certificate = is_certificate c v k;
      least = l;
      exact = exact_in c v k;
      passes = least_passes c v (subst (λ (q : Recording). IsDeterminate Reduced q) (sym same) d)
          (subst IsLeastIn (sym same) l) (exact_in c v k);
    }

pub checks_of : (c : Certificate) → Valid c.recording → IsDeterminate Reduced c.recording → Passes c → Checks c
checks_of c valid d p = let l = passed_is_least c valid d p in
    record { determinate = d; least = l; every_order = every_order_is_least c.recording valid d l; passes = p }
