-- What the code of one place does is the definition's place.
use Rattle.std.proofs.Common.{inl, inr, ◌≡◌, ℕ, ◌+◌, ◌<◌, ◌≤◌, true, false, cond, List, length, get_or, refl, sym, ap}
use Rattle.std.proofs.Common.{◌∙◌, arith}
use Rattle.std.specs.Prelude.{nat_lt, slice_set, Option, Some, None}
use Rattle.std.proofs.lemmas.Bool.{cases_lt}
use Rattle.std.proofs.lemmas.Bool.Decides.{nat_tests}
use Rattle.std.proofs.lemmas.List.FromFn.{fill_by_all}
use Rattle.rtr_types.specs.declared.TheConstants.{CORES_MAX}
use Rattle.rtr_types.specs.declared.cut.Cut.{Cut}
use Rattle.rtr_types.specs.declared.access.Access.{Access}
use Rattle.image_mem.specs.Contents.{Contents}
use Rattle.rv_core.specs.declared.core_state.Core.{Core}
use Rattle.rv_core.specs.declared.outcome.LoadNote.{LoadNote}
use Rattle.rv_core.specs.declared.outcome.Outcome.{Outcome}
use Rattle.rv_core.specs.Steps.{need, after, wrote, is_done, access_of}
use Rattle.rv_core.proofs.LawLemmas.{count_law, within_law}
use Rattle.replay_core.specs.declared.answers.Advanced.{Advanced}
use Rattle.replay_core.specs.declared.answers.Advanced.TheVariants as advanced
use Rattle.replay_core.specs.Plans.{Plan}
use Rattle.replay_core.specs.Play.{Use, use_of, words_after, loads_after, accesses_by, core_at, loads_at, instr}
use Rattle.replay_core.specs.Play.{need_at, heeded, heeds, shared, found_for}
use Rattle.replay_core.specs.Play.{uses, old_given, new_given, place_given, touched_given}
use Rattle.replay_core.specs.Answers.{told, RetiresGiven, AdvancesGiven, UsesWithin, AreNoted, cut_of}

-- the word that a need uses is one of the memory's
pub used_within : (image : Contents) (core : Core) (used : Use) (words : ℕ) → used ≡ access_of (need image core) →
    words ≡ image.words → UsesWithin used words
used_within image core None words is all = tt
used_within image core (Some used) words is all = let within = within_law image core used.0 used.1 (sym is) in
    omega arith

-- the calls of one place, by what each answers
pub record Called (p : Plan) (s : Outcome) (c : ℕ) (given : Option ℕ) (new_core : Core) (used mine : Use)
    (old value count : ℕ) (words : List ℕ)
    (loads : List (List LoadNote)) (access : Option Access) : Type 0 where
  pub going : is_done (need_at p s c) ≡ false
  pub used_is : used ≡ use_of (need_at p s c)
  pub mine_is : mine ≡ uses p s c given
  pub old_is : old ≡ old_given p s c given
  pub new_core_is : new_core ≡ after p.image (core_at s c) old
  pub value_is : value ≡ wrote p.image (core_at s c) old
  pub count_is : count ≡ new_core.count
  pub words_is : words ≡ words_after mine s.words value
  pub loads_is : AreNoted s.loads c used count old loads
  pub access_is : told access ≡ accesses_by mine (instr c count) old value

abbrev pub made : List Core → List ℕ → List (List LoadNote) → Outcome
made cores words loads = record { cores = cores; words = words; loads = loads }

pub made-same : (a b : List Core) (u v : List ℕ) (x y : List (List LoadNote)) → a ≡ b → u ≡ v → x ≡ y →
    made a u x ≡ made b v y
made-same a b u v x y cores words loads =
    ap (λ (z : List Core). made z u x) cores ∙ ap (λ (z : List ℕ). made b z x) words
    ∙ ap (λ (z : List (List LoadNote)). made b v z) loads

pub called_retires : (p : Plan) (s : Outcome) (c : ℕ) (given : Option ℕ) (new_core : Core) (used mine : Use)
    (old value count : ℕ) (words : List ℕ)
    (loads : List (List LoadNote)) (access : Option Access) →
    Called p s c given new_core used mine old value count words loads access →
    RetiresGiven p s c given access (record { cores = slice_set s.cores c new_core; words = words; loads = loads })
unfolding place_given touched_given
called_retires p s c given new_core used mine old value count words loads access h =
    let u = use_of (need_at p s c) in
    let m = uses p s c given in
    let o = old_given p s c given in
    let n = new_given p s c given in
    let found : old ≡ o = h.old_is in
    let core : new_core ≡ after p.image (core_at s c) o =
    h.new_core_is ∙ ap (λ (x : ℕ). after p.image (core_at s c) x) found in
    let left : value ≡ n = h.value_is ∙ ap (λ (x : ℕ). wrote p.image (core_at s c) x) found in
    let counted : count ≡ (core_at s c).count + 1 =
    h.count_is ∙ ap (λ (x : Core). x.count) core ∙ count_law p.image (core_at s c) o in
    let memory : words ≡ words_after m s.words n = h.words_is ∙ ap (λ (x : Use). words_after x s.words value) h.mine_is
    ∙ ap (λ (v : ℕ). words_after m s.words v) left in
    let notes : loads ≡ slice_set s.loads c (loads_after u (loads_at s c) ((core_at s c).count + 1) o) =
    h.loads_is ∙ ap (λ (x : Use). slice_set s.loads c (loads_after x (loads_at s c) count old)) h.used_is
    ∙ ap (λ (k : ℕ). slice_set s.loads c (loads_after u (loads_at s c) k old)) counted
    ∙ ap (λ (x : ℕ). slice_set s.loads c (loads_after u (loads_at s c) ((core_at s c).count + 1) x)) found in
    record {
      going = h.going;
      state = made-same (slice_set s.cores c new_core) (slice_set s.cores c (after p.image (core_at s c) o)) words
          (words_after m s.words n) loads
          (slice_set s.loads c (loads_after u (loads_at s c) ((core_at s c).count + 1) o))
          (ap (λ (x : Core). slice_set s.cores c x) core) memory notes;
      access_is = h.access_is ∙ ap (λ (x : Use). accesses_by x (instr c count) old value) h.mine_is
          ∙ ap (λ (k : ℕ). accesses_by m (instr c k) old value) counted
          ∙ ap (λ (x : ℕ). accesses_by m (instr c ((core_at s c).count + 1)) x value) found
          ∙ ap (λ (v : ℕ). accesses_by m (instr c ((core_at s c).count + 1)) o v) left;
    }

-- the same where the image and the core are known by other names
pub retires_by : (image : Contents) (p : Plan) (s : Outcome) (c : ℕ) (given taken : Option ℕ) (k l new_core : Core)
    (used mine : Use) (old value count : ℕ)
    (words : List ℕ) (loads : List (List LoadNote)) (access : Option Access) →
    image ≡ p.image → k ≡ core_at s c → l ≡ core_at s c → is_done (need image k) ≡ false →
    used ≡ access_of (need image k) → taken ≡ heeded given used →
    mine ≡ shared taken used → old ≡ found_for taken used s.words →
    new_core ≡ after image l old → value ≡ wrote image l old →
    count ≡ new_core.count → words ≡ words_after mine s.words value → AreNoted s.loads c used count old loads →
    told access ≡ accesses_by mine (instr c count) old value →
    RetiresGiven p s c given access (record { cores = slice_set s.cores c new_core; words = words; loads = loads })
retires_by image p s c given taken k l new_core used mine old value count words loads access image_is k_is l_is going
    used_is taken_is mine_is old_is core_is
    value_is count_is words_is loads_is access_is =
    let need_is : need image k ≡ need_at p s c =
    ap (λ (i : Contents). need i k) image_is ∙ ap (λ (x : Core). need p.image x) k_is in
    let use_is : used ≡ use_of (need_at p s c) = used_is ∙ ap access_of need_is in
    let heeds_is : taken ≡ heeds p s c given = taken_is ∙ ap (λ (x : Use). heeded given x) use_is in
    called_retires p s c given new_core used mine old value count words loads access (record {
      going = ap is_done (sym need_is) ∙ going;
      used_is = use_is;
      mine_is = mine_is ∙ ap (λ (x : Option ℕ). shared x used) heeds_is
          ∙ ap (λ (x : Use). shared (heeds p s c given) x) use_is;
      old_is = old_is ∙ ap (λ (x : Option ℕ). found_for x used s.words) heeds_is
          ∙ ap (λ (x : Use). found_for (heeds p s c given) x s.words) use_is;
      new_core_is = core_is ∙ ap (λ (i : Contents). after i l old) image_is
          ∙ ap (λ (x : Core). after p.image x old) l_is;
      value_is = value_is ∙ ap (λ (i : Contents). wrote i l old) image_is ∙ ap (λ (x : Core). wrote p.image x old) l_is;
      count_is = count_is;
      words_is = words_is;
      loads_is = loads_is;
      access_is = access_is;
    })

-- what an instruction shares of the memory is one of its words
pub shared_within : (given : Option ℕ) (used : Use) (words : ℕ) → UsesWithin used words →
    UsesWithin (shared given used) words
shared_within None used words h = h
shared_within (Some value) used words h = tt

-- what `advance` answers, case by case
pub goes : (p : Plan) (s : Outcome) (c : ℕ) (given : Option ℕ) (answer : Advanced) (t : Outcome) →
    AdvancesGiven p s c given answer t →
    (answer ≡ advanced.Short → ⊥) →
    (is_done (need_at p s c) ≡ false) × (t ≡ place_given p s c given)
goes p s c given (advanced.Retired access) t h not_short = (h.going, h.state)
goes p s c given advanced.Short t h not_short = absurd (not_short refl)

-- ---- the cut

-- a list of the counts of the cores, and of 0 at the other places
pub cut_made : (p : Plan) (f : ℕ → ℕ) (cores last : ℕ) (counts : List ℕ) → cores ≡ length p.totals → cores ≤ last →
    length counts ≡ CORES_MAX →
    ((c : ℕ) → c < last → get_or counts c 0 ≡ f c) → ((c : ℕ) → last ≤ c → get_or counts c 0 ≡ 0) →
    last ≤ cores → ◌≡◌ {A = Cut} (record { cores = cores; counts = counts }) (cut_of p f)
cut_made p f cores last counts is past wide done rest most =
    ap (λ (n : ℕ). cut n counts) is
    ∙ ap (λ (l : List ℕ). cut (length p.totals) l)
    (fill_by_all (λ c. cond (nat_lt c (length p.totals)) (f c) 0) counts CORES_MAX 0 wide each)
  where
    cut : ℕ → List ℕ → Cut
    cut n l = record { cores = n; counts = l }

    each : (k : ℕ) → k < CORES_MAX → get_or counts k 0 ≡ cond (nat_lt k (length p.totals)) (f k) 0
    each k below = elim (cases_lt k (length p.totals)) [
      | inl inside ↦ let t : nat_lt k (length p.totals) ≡ true = grind (arith, nat_tests) in rw t (done k (omega arith))
      | inr outside ↦ let t : nat_lt k (length p.totals) ≡ false = grind (arith, nat_tests) in
          rw t (rest k (omega arith))
    ]
