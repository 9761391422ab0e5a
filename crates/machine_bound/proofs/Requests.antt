-- What a request and a response bring to other cores' accesses, and what the request's own access pays for it.
use Rattle.std.proofs.Common.{◌≡◌, ◌≢◌, ◌∙◌, ap, refl, sym, subst, ℕ, ◌+◌, ◌*◌, ◌<◌, ◌≤◌, ◌==◌, ◌%◌, ◌/◌, Bool, true}
use Rattle.std.proofs.Common.{false, List, [], ◌∷◌, length, Option}
use Rattle.std.proofs.Common.{Some, None, arith, inl, inr}
use Rattle.std.specs.Prelude.{if◌then◌else◌, slice_index_or}
use Rattle.std.proofs.lemmas.List.{get_or_past}
use Rattle.std.proofs.lemmas.Bool.{cases_lt, eq-eqb}
use Rattle.std.proofs.lemmas.Bool.Decides.{nat_tests}
use Rattle.access_times.specs.Riding.{Riding, Carrying}
use Rattle.rtr_types.specs.declared.TheConstants.{BLOCK_WORDS, CORES_MAX, LINES}
use Rattle.rtr_types.specs.declared.access.Kind.{Kind}
use Rattle.rtr_types.specs.declared.core_set.CoreSet.{CoreSet}
use Rattle.rtr_types.specs.Accesses.{is_write}
use Rattle.rtr_types.specs.CoreSets.{without_core, is_none}
use Rattle.rtr_types.proofs.Members.{has-without_same}
use Rattle.rtr_types.proofs.Truths.{true_is}
use Rattle.msi_cache.specs.declared.line.Line.{Line}
use Rattle.msi_cache.specs.declared.line.State.{State as LineState}
use Rattle.msi_cache.specs.declared.line.State.TheVariants.{I}
use Rattle.msi_cache.specs.declared.messages.FromHome.{FromHome}
use Rattle.msi_cache.specs.declared.messages.Request.{Request}
use Rattle.msi_cache.specs.Table.{Signal, Ask, Reply, is_transient}
use Rattle.msi_cache.specs.Messages.{signal, ask_of, request_block}
use Rattle.msi_cache.specs.Lines.{line_for, empty_line}
use Rattle.msi_directory.specs.declared.entry.Entry.{Entry}
use Rattle.msi_directory.specs.declared.entry.HomeAnswer.{HomeAnswer}
use Rattle.msi_directory.specs.declared.entry.Stage.{Stage}
use Rattle.msi_directory.specs.declared.entry.Stage.TheVariants.{Unshared, Shared, Owned, Acks, Data}
use Rattle.msi_directory.specs.Table.{is_free}
use Rattle.msi_directory.specs.Blocks.{entry_at, no_entry}
use Rattle.msi_protocol.specs.Block.{View, HomeStep, request_step, response_step}
use Rattle.msi_protocol.specs.Controllers.{kind_sent}
use Rattle.msi_protocol.specs.Phases.{Phase, picture, role, role_in}
use Rattle.msi_memory.specs.declared.port.Mail.{Mail}
use Rattle.msi_memory.specs.declared.port.Port.{Port}
use Rattle.msi_memory.specs.Memories.{Memory, port_at, no_port}
use Rattle.msi_memory.specs.Rests.{names_below}
use Rattle.msi_memory.specs.Acts.{port_requested}
use Rattle.msi_laws.specs.Holds.{MemoryHolds}
use Rattle.msi_laws.specs.Sights.{asks_of, cons_if}
use Rattle.msi_laws.specs.Waits.{WaitsFor}
use Rattle.msi_laws.specs.Waits.{Awaited}
use Rattle.machine_bound.specs.Bound.{debt, line_base, block_base, base_in}
use Rattle.msi_laws.proofs.KindsShown.{blocks_hold}
use Rattle.msi_laws.proofs.Lines.{waits_none}
use Rattle.msi_laws.proofs.Ready.{memory_ready, links_hold}
use Rattle.msi_laws.proofs.PortsAndBlocks.{view_waits}
use Rattle.msi_laws.proofs.MessageWants.{phase_asks}
use Rattle.msi_laws.proofs.PortWaits.{waiting_place}
use Rattle.machine_bound.proofs.OwedSums.{members, answer_debt, members-without, no_members}

-- ---- what an answer brings to others, by its kind alone

abbrev signal_debt : Signal → ℕ
signal_debt Signal.FwdGetS = 2
signal_debt Signal.FwdGetM = 2
signal_debt Signal.Inv = 2
signal_debt Signal.PutAck = 0
signal_debt Signal.BlockData = 0

abbrev kind_debt : Option (ℕ × Signal) → CoreSet → ℕ → ℕ
kind_debt (Some (to, g)) set cores = signal_debt g
kind_debt None set cores = members set cores * 2

abbrev pub step_debt : HomeStep → ℕ → ℕ
step_debt step cores = kind_debt step.send step.invalidate cores

debt_of_signal : {R : Type 0} (m : FromHome R) → debt m ≡ signal_debt (signal m)
debt_of_signal m = grind arith

by_kind : {R : Type 0} (o : Option (ℕ × FromHome R)) (set : CoreSet) (cores : ℕ) →
    answer_debt o set cores ≡ kind_debt (kind_sent o) set cores
by_kind None set cores = refl
by_kind (Some (to, m)) set cores = debt_of_signal m

pub answer_debt_is : {R : Type 0} (answer : HomeAnswer R) (step : HomeStep) (cores : ℕ) →
    kind_sent answer.send ≡ step.send →
    answer.invalidate ≡ step.invalidate → answer_debt answer.send answer.invalidate cores ≡ step_debt step cores
answer_debt_is answer step cores send invalidate = by_kind answer.send answer.invalidate cores
    ∙ rw (send, invalidate) refl

abbrev is_put : Ask → Bool
is_put Ask.PutS = true
is_put Ask.PutM = true
is_put _ = false

put_debt : (stage : Stage) (c : ℕ) (a : Ask) (cores : ℕ) → is_free stage ≡ true → is_put a ≡ true →
    step_debt (request_step stage c a) cores ≡ 0
put_debt stage c a cores free is = grind (arith, nat_tests, no_members cores)

owner_other : (o c : ℕ) (a : Ask) (rest : List Ask) (p : Phase) → is_put a ≡ false → (picture p).requests ≡ a ∷ rest →
    role_in p ≡ role (Owned o) c → o ≢ c
owner_other o c a rest p get asks is same = absurd (grind (arith, nat_tests))

owner_below : (o cores : ℕ) → names_below (Owned o) cores ≡ true → o < cores
owner_below o cores named = grind (arith, nat_tests)

-- a Get brings at most two steps of each other core
get_debt : (stage : Stage) (c : ℕ) (a : Ask) (rest : List Ask) (p : Phase) (cores : ℕ) → is_free stage ≡ true →
    is_put a ≡ false →
    (picture p).requests ≡ a ∷ rest → role_in p ≡ role stage c → c < CORES_MAX → c < cores →
    names_below stage cores ≡ true →
    step_debt (request_step stage c a) cores + 2 ≤ 2 * cores
get_debt Unshared c a rest p cores free get asks is lc within named = grind (arith, nat_tests)
get_debt (Shared by) c Ask.GetS rest p cores free get asks is lc within named = omega arith
get_debt (Shared by) c Ask.GetM rest p cores free get asks is lc within named =
    by_test (is_none (without_core by c)) refl
  where
    by_test : (t : Bool) → is_none (without_core by c) ≡ t → step_debt (request_step (Shared by) c Ask.GetM) cores + 2
        ≤ 2 * cores
    by_test true e = rw e (omega arith)
    by_test false e = rw e (let lt = members-without (without_core by c) c cores within (has-without_same by c lc) in
        omega arith)
get_debt (Shared by) c Ask.PutS rest p cores free get asks is lc within named = absurd (cc)
get_debt (Shared by) c Ask.PutM rest p cores free get asks is lc within named = absurd (cc)
get_debt (Owned o) c a rest p cores free get asks is lc within named =
    by_ask a get (owner_other o c a rest p get asks is) (owner_below o cores named)
  where
    by_ask : (a : Ask) → is_put a ≡ false → o ≢ c → o < cores → step_debt (request_step (Owned o) c a) cores + 2 ≤ 2 *
        cores
    by_ask Ask.GetS g other lo = omega arith
    by_ask Ask.GetM g other lo = omega arith
    by_ask Ask.PutS g other lo = absurd (cc)
    by_ask Ask.PutM g other lo = absurd (cc)
get_debt (Acks awaited r) c a rest p cores free get asks is lc within named = absurd (cc)
get_debt (Data giver r share) c a rest p cores free get asks is lc within named = absurd (cc)

-- what the line of one that asks is worth, before and after the home takes its request
put_base : (p : Phase) (a : Ask) (rest : List Ask) (same : Bool) (cores : ℕ) → (picture p).requests ≡ a ∷ rest →
    is_put a ≡ true →
    line_base (picture p).line same false cores + 1 ≤ line_base (picture p).line same true cores
put_base p a rest same cores asks is = grind arith

get_base : (p : Phase) (a : Ask) (rest : List Ask) (same : Bool) (cores : ℕ) → (picture p).requests ≡ a ∷ rest →
    is_put a ≡ false →
    line_base (picture p).line same false cores + 2 * cores ≤ line_base (picture p).line same true cores + 1
get_base p a rest same cores asks is = grind arith

asked_base : (stage : Stage) (c : ℕ) (a : Ask) (p : Phase) (same : Bool) (cores : ℕ) → is_free stage ≡ true →
    (picture p).requests ≡ a ∷ [] →
    role_in p ≡ role stage c → c < CORES_MAX → c < cores → names_below stage cores ≡ true →
    line_base (picture p).line same false cores + step_debt (request_step stage c a) cores + 1 ≤ line_base
    (picture p).line same true cores
asked_base stage c a p same cores free asked is lc within named = by_put (is_put a) refl
  where
    by_put : (t : Bool) → is_put a ≡ t →
        line_base (picture p).line same false cores + step_debt (request_step stage c a) cores + 1 ≤ line_base
        (picture p).line same true cores
    by_put true e =
        let none = put_debt stage c a cores free e in
        let base = put_base p a [] same cores asked e in
        omega arith
    by_put false e =
        let some = get_debt stage c a [] p cores free e asked is lc within named in
        let base = get_base p a [] same cores asked e in
        omega arith

-- a response brings nothing to others
pub response_debt : (stage : Stage) (c : ℕ) (a : Reply) (cores : ℕ) → step_debt (response_step stage c a) cores ≡ 0
response_debt stage c a cores = grind (arith, nat_tests, no_members cores)

-- ---- the one request of a core

module _ {R K : Type 0} where
  -- a core has at most one request under way
  pub request_alone : (riding : Riding R) (carrying : Carrying K) (m : Memory R K) (c : ℕ) (mail : Mail (Request R) K)
      (rest : List (Mail (Request R) K)) →
      MemoryHolds riding carrying m → c < length m.ports → (port_at carrying m.ports c).requests.items ≡ mail ∷ rest →
      rest ≡ []
  request_alone riding carrying m c mail [] h lc is = refl
  request_alone riding carrying m c mail (next ∷ rest) h lc is =
      let few = (links_hold riding carrying m h c (no_port carrying) lc).requests in
      let room = (h.ports c lc).requests_room in
      let long : length (port_at carrying m.ports c).requests.items ≡ length (mail ∷ next ∷ rest) = ap length is in
      absurd (omega arith)

  -- the cores that the home's entry of a block names are there
  named_below : (riding : Riding R) (carrying : Carrying K) (m : Memory R K) (b : ℕ) → MemoryHolds riding carrying m →
      names_below (entry_at riding.fresh m.home b).stage (length m.ports) ≡ true
  named_below riding carrying m b h =
      elim (cases_lt b (length m.home)) [
        | inr past ↦ ap (λ (e : Entry R). names_below e.stage (length m.ports))
            (get_or_past m.home b (no_entry riding.fresh) past)
        | inl within ↦ true_is _ ((memory_ready riding carrying m h).names b (no_entry riding.fresh) within)
      ]

-- the line of a request that is under way waits, and pays for what the request brings to others and for one step more
pub record AskedLine {R : Type 0} (l : Line R) (cores debt : ℕ) : Type 0 where
  pub waits : is_transient l.state ≡ true
  pub pays : (same : Bool) → line_base l.state same false cores + debt + 1 ≤ line_base l.state same true cores

module _ {R K : Type 0} where
  pub asked_line : (riding : Riding R) (carrying : Carrying K) (m : Memory R K) (c : ℕ) (mail : Mail (Request R) K) →
      MemoryHolds riding carrying m →
      c < length m.ports → (port_at carrying m.ports c).requests.items ≡ mail ∷ [] →
      is_free (entry_at riding.fresh m.home (request_block mail.item)).stage ≡ true →
      AskedLine (line_for riding.fresh (port_at carrying m.ports c).cache (request_block mail.item)) (length m.ports)
      (step_debt (request_step (entry_at riding.fresh m.home (request_block mail.item)).stage c (ask_of mail.item))
      (length m.ports))
  asked_line riding carrying m c mail h lc is free =
      let b : ℕ = request_block mail.item in
      let p : Port R K = port_at carrying m.ports c in
      let stage : Stage = (entry_at riding.fresh m.home b).stage in
      let l : Line R = line_for riding.fresh p.cache b in
      let lc_max : c < CORES_MAX = let few = h.cores in omega arith in
      let st = (blocks_hold riding carrying m h b).stands c lc_max in
      let asked : (picture st.phase).requests ≡ ask_of mail.item ∷ [] =
      ap (λ (v : View). v.requests) st.view_is ∙ (ap (asks_of b) is ∙ ap (λ (t : Bool). cons_if t (ask_of mail.item) [])
      (eq-eqb b b refl)) in
      let some : 1 ≤ length (picture st.phase).requests = rw asked (omega arith) in
      let at = view_waits b l (ap (λ (v : View). is_transient v.line) (sym st.view_is)
      ∙ (phase_asks st.phase some).0) in
      let line : (picture st.phase).line ≡ l.state =
      ap (λ (v : View). v.line) st.view_is ∙ (ap (λ (t : Bool). if t then l.state else I) (ap (λ (x : ℕ). x == b) at.0
      ∙ eq-eqb b b refl)) in
      record {
        waits = at.1;
        pays = λ same.
            subst (λ (x : LineState). line_base x same false (length m.ports) + step_debt
            (request_step stage c (ask_of mail.item)) (length m.ports) + 1
            ≤ line_base x same true (length m.ports)) line
            (asked_base stage c (ask_of mail.item) st.phase same (length m.ports) free asked st.role_is lc_max lc
            (named_below riding carrying m b h));
      }

  -- the base rises by what the request brings to others, and one
  request_base : (riding : Riding R) (p : Port R K) (b cores debt block : ℕ) (kind : Kind) →
      AskedLine (line_for riding.fresh p.cache b) cores debt → ((line_for riding.fresh p.cache b).state ≢ I →
      (line_for riding.fresh p.cache b).block % LINES
      ≡ b % LINES) → WaitsFor riding p block kind →
      block_base (line_for riding.fresh p.cache block) block false cores + debt + 1 ≤ block_base
      (line_for riding.fresh p.cache block) block true cores
  request_base riding p b cores debt block kind asked placed awaited =
      let l : Line R = line_for riding.fresh p.cache b in
      let place : b % LINES ≡ block % LINES =
      waiting_place l.state (is_write kind) l.block (b % LINES) block (awaited (b % LINES)) asked.waits placed in
      let same : line_for riding.fresh p.cache block ≡ l =
      ap (λ (i : ℕ). slice_index_or p.cache i (empty_line riding.fresh)) (sym place) in
      rw same (asked.pays (l.block == block))

  -- a core whose request is under way needs an access, which pays for the request's delivery and for what
  -- that brings to others
  pub request_need : (riding : Riding R) (carrying : Carrying K) (m : Memory R K) (c : ℕ) (mail : Mail (Request R) K) →
      MemoryHolds riding carrying m →
      c < length m.ports → (port_at carrying m.ports c).requests.items ≡ mail ∷ [] →
      is_free (entry_at riding.fresh m.home (request_block mail.item)).stage ≡ true →
      (used : Option (Kind × ℕ)) (done : Bool) →
      Awaited used riding (port_at carrying m.ports c) →
      base_in used done riding (length m.ports) (port_at carrying m.ports c)
      + step_debt (request_step (entry_at riding.fresh m.home (request_block mail.item)).stage c (ask_of mail.item))
      (length m.ports) + 1
      ≤ base_in used done riding (length m.ports) (port_requested (port_at carrying m.ports c) [])
  request_need riding carrying m c mail h lc is free (Some (kind, word)) done awaited =
      let p : Port R K = port_at carrying m.ports c in
      rw is (request_base riding p (request_block mail.item) (length m.ports) _ (word / BLOCK_WORDS) kind
      (asked_line riding carrying m c mail h lc is free) ((h.ports c lc).lines (request_block mail.item % LINES)).place
      awaited)
  request_need riding carrying m c mail h lc is free None done awaited =
      absurd (let asked = asked_line riding carrying m c mail h lc is free in
      let still = waits_none (port_at carrying m.ports c).cache riding.fresh awaited
      (request_block mail.item % LINES) in
      let waits = asked.waits in cc)
