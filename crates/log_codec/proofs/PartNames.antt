-- Each part's reader names that part alone.
use Rattle.std.proofs.Common.{◌≡◌, ℕ, zero, suc, ◌+◌, inl, inr, ◌⊎◌, Bool, true, false, cond, ◌&&◌, nat_lt, nat_le, ◌*◌}
use Rattle.std.proofs.Common.{◌≤◌, arith}
use Rattle.std.proofs.Common.{List, [], ◌∷◌, length, take, drop}
use Rattle.std.proofs.Common.{Result, Ok, Err, refl, ap}
use Rattle.std.specs.List.{starts_with}
use Rattle.std.proofs.Common.{nat_eq}
use Rattle.rtr_types.specs.Pairs.{pair_count}
use Rattle.rtr_types.specs.declared.params.Params.{Params}
use Rattle.stride_vector.specs.declared.StrideVector.{StrideVector}
use Rattle.varint_core.specs.declared.Varint.{Varint}
use Rattle.varint_core.specs.Leb128.{reading}
use Rattle.log_codec.specs.declared.codec_fault.TheConstants.{HEADER, IMAGE, TOTALS, REDUCED, REGULATED}
use Rattle.log_codec.specs.declared.incoming.Incoming.{Incoming}
use Rattle.log_codec.specs.declared.version.Version.{Version}
use Rattle.log_codec.specs.declared.version.Version.TheVariants.{One, Two}
use Rattle.log_codec.specs.Faults.{◌>>=◌}
use Rattle.log_codec.specs.Incoming.{incoming_stands, last_source, last_target, remember, target_count}
use Rattle.log_codec.specs.Reading.{after_number, number_at, version_at, params_of, sizes_at, header_at, image_at}
use Rattle.log_codec.specs.Reading.{total_at, totals_at, edge_at}
use Rattle.log_codec.specs.Reading.{edges_at}
use Rattle.log_codec.specs.Reading.{incoming_at, into_at, targets_at, reduced_at, two_strides, strides_at, vector_at}
use Rattle.log_codec.specs.Reading.{vectors_at}
use Rattle.log_codec.specs.Reading.{regulated_at}
use Rattle.rtr_types.specs.Turns.{stay, follow, count_up}
use Rattle.log_codec.specs.Turns.{read_in_turn}
use Rattle.race_log.specs.Validity.{bound_at, end_of, vector_stands}
use Rattle.log_codec.specs.Versions.{magic, fits_in}

-- whatever a reading names is this part
abbrev pub Names : {A : Type 0} → ℕ → Result A ℕ → Type 0
Names k r = (p : ℕ) → r ≡ Err p → p ≡ k

pub bind-names : {A B : Type 0} (k : ℕ) (r : Result A ℕ) (f : A → Result B ℕ) → Names k r → ((x : A) → Names k (f x)) →
    Names k (r >>= f)
bind-names k (Ok x) f one two p e = two x p e
bind-names {A} {B} k (Err q) f one two p e = let same : q ≡ p = cc in one p (ap (λ (n : ℕ). Err n) same)

pub guard-names : {A : Type 0} (k : ℕ) (b : Bool) (x : A) → Names k (cond b (Ok x) (Err k))
guard-names k true x p e = absurd cc
guard-names k false x p e = cc

-- of six parts, numbered from 1, the one with this number is missing: what is so then is said for each
abbrev pub Missing : (header image totals reduced last end : Type 0) → (part : ℕ) → Type 0
Missing header image totals reduced last end zero = ⊥
Missing header image totals reduced last end (suc zero) = header
Missing header image totals reduced last end (suc (suc zero)) = image
Missing header image totals reduced last end (suc (suc (suc zero))) = totals
Missing header image totals reduced last end (suc (suc (suc (suc zero)))) = reduced
Missing header image totals reduced last end (suc (suc (suc (suc (suc zero))))) = last
Missing header image totals reduced last end (suc (suc (suc (suc (suc (suc zero)))))) = end
Missing header image totals reduced last end (suc (suc (suc (suc (suc (suc (suc more))))))) = ⊥

pub missing_within : (header image totals reduced last end : Type 0) (part : ℕ)
    → Missing header image totals reduced last end part → (1 ≤ part) × (part ≤ 6)
missing_within header image totals reduced last end zero it = absurd it
missing_within header image totals reduced last end (suc zero) it = (omega arith, omega arith)
missing_within header image totals reduced last end (suc (suc zero)) it = (omega arith, omega arith)
missing_within header image totals reduced last end (suc (suc (suc zero))) it = (omega arith, omega arith)
missing_within header image totals reduced last end (suc (suc (suc (suc zero)))) it = (omega arith, omega arith)
missing_within header image totals reduced last end (suc (suc (suc (suc (suc zero))))) it = (omega arith, omega arith)
missing_within header image totals reduced last end (suc (suc (suc (suc (suc (suc zero)))))) it =
    (omega arith, omega arith)
missing_within header image totals reduced last end (suc (suc (suc (suc (suc (suc (suc more))))))) it = absurd it

-- the step that failed, or that went on
pub bind-err : {A B : Type 0} (r : Result A ℕ) (f : A → Result B ℕ) (p : ℕ) → (r >>= f) ≡ Err p →
    (r ≡ Err p) ⊎ ((x : A) × (r ≡ Ok x) × (f x ≡ Err p))
bind-err (Ok x) f p e = inr (x, refl, e)
bind-err (Err q) f p e = let same : q ≡ p = cc in inl (ap (λ (n : ℕ). Err n) same)

pub turns-name : {S X : Type 0} (k : ℕ) (item : S → List ℕ → Result (X × List ℕ) ℕ) (next : S → X → S) →
    ((s : S) (b : List ℕ) → Names k (item s b)) →
    (n : ℕ) (s : S) (b : List ℕ) → Names k (read_in_turn item next n s b)
unfolding read_in_turn
turns-name k item next one zero s b p e = absurd cc
turns-name k item next one (suc n) s b p e =
    bind-names k (item s b) (λ first. read_in_turn item next n (next s first.0) first.1 >>= λ others. Ok
    (first.0 ∷ others.0, others.1)) (one s b)
    (λ first. bind-names k (read_in_turn item next n (next s first.0) first.1)
    (λ others. Ok (first.0 ∷ others.0, others.1))
    (turns-name k item next one n (next s first.0) first.1) (λ others q f. absurd cc)) p e

pub number-names : (part : ℕ) (bytes : List ℕ) → Names part (number_at part bytes)
unfolding number_at
number-names part bytes p e = by (reading bytes) e
  where
    by : (r : Result (ℕ × ℕ) Varint) → after_number part bytes r ≡ Err p → p ≡ part
    by (Ok r) f = absurd cc
    by (Err x) f = cc

-- ---- the first three parts

version-names : (bytes : List ℕ) → Names HEADER (version_at bytes)
unfolding version_at
version-names bytes p e = first (starts_with nat_eq bytes (magic One)) (starts_with nat_eq bytes (magic Two)) e
  where
    first : (a b : Bool) → cond {A = Result (Version × List ℕ) ℕ} a (Ok (One, drop 4 bytes))
        (cond b (Ok (Two, drop 4 bytes)) (Err HEADER)) ≡ Err p → p ≡ HEADER
    first true b f = absurd cc
    first false true f = absurd cc
    first false false f = cc

params-names : (v : Version) (cores limit words len : ℕ) → Names HEADER (params_of v cores limit words len)
unfolding params_of
params-names v cores limit words len = let made : Params = record { cores = cores; limit = limit; words = words } in
    guard-names HEADER (fits_in v made && nat_le len (4 * words)) made

pub sizes-name : (v : Version) (bytes : List ℕ) → Names HEADER (sizes_at v bytes)
unfolding sizes_at
sizes-name v bytes =
    bind-names HEADER (number_at HEADER bytes) _ (number-names HEADER bytes) (λ cores.
    bind-names HEADER (number_at HEADER cores.1) _ (number-names HEADER cores.1) (λ limit.
    bind-names HEADER (number_at HEADER limit.1) _ (number-names HEADER limit.1) (λ words.
    bind-names HEADER (number_at HEADER words.1) _ (number-names HEADER words.1) (λ len.
    bind-names HEADER (params_of v cores.0 limit.0 words.0 len.0) _ (params-names v cores.0 limit.0 words.0 len.0)
    (λ params p e. absurd cc)))))

pub header-names : (bytes : List ℕ) → Names HEADER (header_at bytes)
unfolding header_at
header-names bytes =
    bind-names HEADER (version_at bytes) _ (version-names bytes) (λ v.
    bind-names HEADER (sizes_at v.0 v.1) _ (sizes-name v.0 v.1) (λ sizes p e. absurd cc))

pub image-names : (len : ℕ) (bytes : List ℕ) → Names IMAGE (image_at len bytes)
unfolding image_at
image-names len bytes p e = by (nat_lt (length bytes) len) e
  where
    by : (t : Bool) → cond {A = Result (List ℕ × List ℕ) ℕ} t (Err IMAGE) (Ok (take len bytes, drop len bytes))
        ≡ Err p → p ≡ IMAGE
    by true f = cc
    by false f = absurd cc

total-names : (limit : ℕ) (bytes : List ℕ) → Names TOTALS (total_at limit bytes)
unfolding total_at
total-names limit bytes =
    bind-names TOTALS (number_at TOTALS bytes) _ (number-names TOTALS bytes)
    (λ total. guard-names TOTALS (nat_le total.0 limit) total)

pub totals-name : (limit cores : ℕ) (bytes : List ℕ) → Names TOTALS (totals_at limit cores bytes)
totals-name limit cores bytes =
    turns-name TOTALS (λ (s : Unit {0}). total_at limit) stay (λ s b. total-names limit b) cores tt bytes

-- ---- the reduced log

edge-names : (most last : ℕ × ℕ) (bytes : List ℕ) → Names REDUCED (edge_at most last bytes)
unfolding edge_at
edge-names most last bytes =
    bind-names REDUCED (number_at REDUCED bytes) _ (number-names REDUCED bytes) (λ b.
    bind-names REDUCED (number_at REDUCED b.1) _ (number-names REDUCED b.1) (λ a.
    guard-names REDUCED ((nat_lt 0 a.0 && nat_lt 0 b.0) &&
    (nat_le (last.0 + a.0) most.0 && nat_le (last.1 + b.0) most.1)) ((last.0 + a.0, last.1 + b.0), a.1)))

edges-name : (most : ℕ × ℕ) (bytes : List ℕ) → Names REDUCED (edges_at most bytes)
unfolding edges_at
edges-name most bytes =
    bind-names REDUCED (number_at REDUCED bytes) _ (number-names REDUCED bytes)
    (λ count. turns-name REDUCED (edge_at most) follow (λ s b. edge-names most s b) count.0 (0, 0) count.1)

incoming-names : (totals : List ℕ) (target : ℕ) (before : List Incoming) (bytes : List ℕ) →
    Names REDUCED (incoming_at totals target before bytes)
unfolding incoming_at
incoming-names totals target before bytes =
    bind-names REDUCED (number_at REDUCED bytes) _ (number-names REDUCED bytes) (λ b.
    bind-names REDUCED (number_at REDUCED b.1) _ (number-names REDUCED b.1) (λ source.
    bind-names REDUCED (number_at REDUCED source.1) _ (number-names REDUCED source.1) (λ a.
    let e : Incoming = record {
      source = source.0;
      counts =
          (last_source source.0 before + a.0, last_target before + b.0);
    } in
    guard-names REDUCED (incoming_stands totals target before e) (e, a.1))))

into-names : (totals : List ℕ) (target : ℕ) (bytes : List ℕ) → Names REDUCED (into_at totals target bytes)
unfolding into_at
into-names totals target bytes =
    bind-names REDUCED (number_at REDUCED bytes) _ (number-names REDUCED bytes)
    (λ count. turns-name REDUCED (incoming_at totals target) remember (λ s b. incoming-names totals target s b) count.0
    [] count.1)

targets-name : (totals bytes : List ℕ) → Names REDUCED (targets_at totals bytes)
unfolding targets_at
targets-name totals bytes =
    bind-names REDUCED (read_in_turn (into_at totals) count_up (target_count (length totals)) 0 bytes) _
    (turns-name REDUCED (into_at totals) count_up (λ s b. into-names totals s b) (target_count (length totals)) 0 bytes)
    (λ into p e. absurd cc)

pub reduced-names : (v : Version) (totals bytes : List ℕ) → Names REDUCED (reduced_at v totals bytes)
reduced-names One totals bytes =
    turns-name REDUCED (λ place. edges_at (bound_at totals place)) count_up (λ s b. edges-name (bound_at totals s) b)
    (pair_count (length totals)) 0 bytes
reduced-names Two totals bytes = targets-name totals bytes

-- ---- the regulated log

strides-name : (n : ℕ) (bytes : List ℕ) → Names REGULATED (strides_at n bytes)
unfolding strides_at
strides-name n bytes p e = by (nat_lt 1 n) e
  where
    two : Names REGULATED (two_strides bytes)
    two = bind-names REGULATED (number_at REGULATED bytes) _ (number-names REGULATED bytes)
        (λ a. bind-names REGULATED (number_at REGULATED a.1) _ (number-names REGULATED a.1) (λ b q f. absurd cc))

    by : (t : Bool) → cond {A = Result (ℕ × ℕ × List ℕ) ℕ} t (two_strides bytes) (Ok (0, 0, bytes)) ≡ Err p →
        p ≡ REGULATED
    by true f = two p f
    by false f = absurd cc

vector-names : (most last : ℕ × ℕ) (bytes : List ℕ) → Names REGULATED (vector_at most last bytes)
unfolding vector_at
vector-names most last bytes =
    bind-names REGULATED (number_at REGULATED bytes) _ (number-names REGULATED bytes) (λ n.
    bind-names REGULATED (number_at REGULATED n.1) _ (number-names REGULATED n.1) (λ a.
    bind-names REGULATED (number_at REGULATED a.1) _ (number-names REGULATED a.1) (λ b.
    bind-names REGULATED (strides_at n.0 b.1) _ (strides-name n.0 b.1) (λ strides.
    let v : StrideVector = record { n = n.0; a0 = a.0; b0 = b.0; sa = strides.0; sb = strides.1 } in
    guard-names REGULATED (vector_stands most last v) (v, strides.2)))))

vectors-name : (most : ℕ × ℕ) (bytes : List ℕ) → Names REGULATED (vectors_at most bytes)
unfolding vectors_at
vectors-name most bytes =
    bind-names REGULATED (number_at REGULATED bytes) _ (number-names REGULATED bytes)
    (λ count. turns-name REGULATED (vector_at most) end_of (λ s b. vector-names most s b) count.0 (0, 0) count.1)

pub regulated-names : (totals bytes : List ℕ) → Names REGULATED (regulated_at totals bytes)
regulated-names totals bytes =
    turns-name REGULATED (λ place. vectors_at (bound_at totals place)) count_up
    (λ s b. vectors-name (bound_at totals s) b) (pair_count (length totals)) 0 bytes
