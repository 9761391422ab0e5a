-- What the lines of a port are worth before and after each act there, and what is owed on its links. By the line's
-- state and whether the home has taken the request, on each side of an act.
use Rattle.std.proofs.Common.{◌≡◌, ◌≢◌, ◌∙◌, ap, refl, ℕ, ◌+◌, ◌*◌, ◌≤◌, ◌%◌, Bool, true, false, List, [], ◌∷◌}
use Rattle.std.proofs.Common.{length}
use Rattle.std.proofs.Common.{Option, Some, None, arith}
use Rattle.std.specs.Prelude.{slice_set, is_some}
use Rattle.std.proofs.lemmas.Bool.Decides.{nat_tests}
use Rattle.std.proofs.lemmas.List.Sums.{sum_by-set}
use Rattle.access_times.specs.Riding.{Riding, Carrying}
use Rattle.rtr_types.specs.declared.access.Kind.{Kind}
use Rattle.link_order.specs.Queue.{is_nil}
use Rattle.link_order.proofs.Queues.{more_nil}
use Rattle.msi_cache.specs.declared.line.Line.{Line}
use Rattle.msi_cache.specs.declared.line.State.{State as LineState}
use Rattle.rtr_types.specs.declared.TheConstants.{LINES}
use Rattle.msi_cache.specs.declared.messages.FromHome.{FromHome}
use Rattle.msi_cache.specs.declared.messages.Request.{Request}
use Rattle.msi_cache.specs.declared.messages.Response.{Response}
use Rattle.msi_cache.specs.Table.{row, is_transient}
use Rattle.msi_cache.specs.Messages.{block_of, request_block, signal}
use Rattle.msi_cache.specs.Lines.{line_for, line_asking, line_after, is_allowed, empty_line, answer_by, waits}
use Rattle.msi_memory.specs.declared.port.Mail.{Mail}
use Rattle.msi_memory.specs.declared.port.Port.{Port}
use Rattle.msi_memory.specs.Acts.{allows, is_data, port_asking, port_hearing, port_answering, port_requested}
use Rattle.msi_memory.specs.Acts.{port_taking, answer_to}
use Rattle.msi_laws.specs.Holds.{PortHolds, place_at}
use Rattle.msi_laws.proofs.Lines.{SameLines, waits_none, waits_some}
use Rattle.machine_bound.specs.Bound.{debt, debts, owed, line_base}
use Rattle.machine_bound.proofs.OwedSums.{answers, owed_answering}
use Rattle.machine_bound.proofs.Requests.{AskedLine}
use Rattle.machine_bound.proofs.PortEarns.{data_debt, data_silent}
use Rattle.tso_bound.specs.Bound.{empty_worth, line_worth, lines_worth, port_worth}
use Rattle.tso_bound.proofs.Sums.{sum_at_most, sum_at_most_but, sums_agree, sums_agree_but, sums_same}

-- ---- lines

-- a line that doesn't wait is worth the same whether the home has taken a request or not
still_worth : (s : LineState) (a b : Bool) (cores : ℕ) → is_transient s ≡ false →
    line_worth s a cores ≡ line_worth s b cores
still_worth s a b cores still = grind arith

still_worth_le : (s : LineState) (taken : Bool) (cores : ℕ) → is_transient s ≡ false → line_worth s taken cores ≤ 3
still_worth_le s taken cores still = grind (arith, nat_tests)

worth_le : (s : LineState) (taken : Bool) (cores : ℕ) → 1 ≤ cores → line_worth s taken cores ≤ 3 + 2 * cores
worth_le s taken cores some = grind (arith, nat_tests)

worth_base : (s : LineState) (taken : Bool) (cores : ℕ) → line_worth s taken cores ≡ line_base s false taken cores
worth_base s taken cores = grind arith

asks_worth : {R : Type 0} (l : Line R) (block : ℕ) (kind : Kind) (cores : ℕ) → is_transient l.state ≡ false →
    is_allowed l block kind ≡ false →
    line_worth l.state false cores + 1 ≤ line_worth (line_asking l block kind).state false cores
asks_worth l block kind cores still needs = grind (arith, nat_tests)

message_worth : {R : Type 0} (riding : Riding R) (l : Line R) (m : FromHome R) (taken : Bool) (cores : ℕ) →
    is_data m ≡ false →
    is_some (row (signal m) l.state) ≡ true →
    line_worth l.state taken cores + answers (answer_by (row (signal m) l.state) l) + 1 ≤ line_worth
    (line_after riding l m).state taken cores + debt m
message_worth riding l m taken cores d e = grind (arith, nat_tests)

-- what a line is worth
abbrev worth_of : {R : Type 0} → (taken : Bool) (cores : ℕ) → Line R → ℕ
worth_of taken cores l = line_worth l.state taken cores

module _ {R K : Type 0} where
  -- ---- the port asks

  pub asking_worth : (riding : Riding R) (cores : ℕ) (p : Port R K) (block : ℕ) (kind : Kind) → length p.cache ≡ LINES →
      waits p.cache ≡ false →
      allows riding p block kind ≡ false → port_worth cores p + 1 ≤ port_worth cores (port_asking riding p block kind)
  asking_worth riding cores p block kind long still needs =
      let l : Line R = line_for riding.fresh p.cache block in
      let e = sum_by-set (worth_of false cores) p.cache (block % LINES) (line_asking l block kind)
      (empty_line riding.fresh) (rw long (omega arith)) in
      let same : lines_worth (is_nil p.requests.items) cores p.cache ≡ lines_worth false cores p.cache =
      sums_agree (worth_of (is_nil p.requests.items) cores) (worth_of false cores) p.cache (empty_line riding.fresh)
      (λ i. still_worth (place_at riding p i).state (is_nil p.requests.items) false cores
      (waits_none p.cache riding.fresh still i)) in
      let rises = asks_worth l block kind cores (waits_none p.cache riding.fresh still (block % LINES)) needs in
      let sent : port_worth cores (port_asking riding p block kind) ≡ lines_worth false cores
      (slice_set p.cache (block % LINES) (line_asking l block kind)) =
      rw (more_nil p.requests.items _) refl in
      omega arith

  -- ---- the port is touched

  pub same_worth : (riding : Riding R) (cores : ℕ) (p q : Port R K) → SameLines riding p q →
      q.requests.items ≡ p.requests.items →
      port_worth cores q ≡ port_worth cores p
  same_worth riding cores p q s same =
      ap (λ (items : List (Mail (Request R) K)). lines_worth (is_nil items) cores q.cache) same
      ∙ sums_same (worth_of (is_nil p.requests.items) cores) p.cache q.cache (empty_line riding.fresh) s.long
      (λ i. ap (λ (x : LineState). line_worth x (is_nil p.requests.items) cores) (s.same i).state)

  -- ---- the port takes a message

  answering_worth : (cores : ℕ) (p : Port R K) (o : Option (Response R)) →
      port_worth cores (port_answering p o) ≡ port_worth cores p
  answering_worth cores p None = refl
  answering_worth cores p (Some r) = refl

  heard_worth : (riding : Riding R) (carrying : Carrying K) (cores : ℕ) (p : Port R K) (mail : Mail (FromHome R) K)
      (rest : List (Mail (FromHome R) K)) →
      length p.cache ≡ LINES →
      port_worth cores (port_taking riding carrying p (mail ∷ rest))
      + line_worth (line_for riding.fresh p.cache (block_of mail.item)).state (is_nil p.requests.items) cores
      ≡ port_worth cores p
      + line_worth (line_after riding (line_for riding.fresh p.cache (block_of mail.item)) mail.item).state
      (is_nil p.requests.items) cores
  heard_worth riding carrying cores p mail rest long =
      let l : Line R = line_for riding.fresh p.cache (block_of mail.item) in
      let e = sum_by-set (worth_of (is_nil p.requests.items) cores) p.cache (block_of mail.item % LINES)
      (line_after riding l mail.item)
      (empty_line riding.fresh) (rw long (omega arith)) in
      let same : port_worth cores (port_taking riding carrying p (mail ∷ rest)) ≡ port_worth cores
      (port_hearing riding carrying p mail rest) =
      answering_worth cores (port_hearing riding carrying p mail rest)
      (answer_to riding p mail.item) in omega arith

  taking_owes : (riding : Riding R) (carrying : Carrying K) (p : Port R K) (mail : Mail (FromHome R) K)
      (rest : List (Mail (FromHome R) K)) →
      p.messages.items ≡ mail ∷ rest →
      owed p + answers (answer_to riding p mail.item) ≡ debt mail.item + owed
      (port_taking riding carrying p (mail ∷ rest))
  taking_owes riding carrying p mail rest is =
      let e : debts p.messages.items ≡ debt mail.item + debts rest = ap debts is in
      let f = owed_answering (port_hearing riding carrying p mail rest)
      (answer_to riding p mail.item) in omega arith

  -- the taking of a message pays for itself, but for a block's data
  pub taking_earns : (riding : Riding R) (carrying : Carrying K) (cores : ℕ) (p : Port R K) (mail : Mail (FromHome R) K)
      (rest : List (Mail (FromHome R) K)) → p.messages.items ≡ mail ∷ rest → length p.cache ≡ LINES →
      is_some (row (signal mail.item) (line_for riding.fresh p.cache (block_of mail.item)).state) ≡ true →
      is_data mail.item ≡ false →
      port_worth cores p + owed (port_taking riding carrying p (mail ∷ rest)) + 1
      ≤ port_worth cores (port_taking riding carrying p (mail ∷ rest)) + owed p
  taking_earns riding carrying cores p mail rest is long there d =
      let l : Line R = line_for riding.fresh p.cache (block_of mail.item) in
      let owes = taking_owes riding carrying p mail rest is in
      let worth = heard_worth riding carrying cores p mail rest long in
      let rises = message_worth riding l mail.item (is_nil p.requests.items)
      cores d there in omega arith

  -- data take what the line may have cost
  pub data_takes : (riding : Riding R) (carrying : Carrying K) (cores : ℕ) (p : Port R K) (mail : Mail (FromHome R) K)
      (rest : List (Mail (FromHome R) K)) → p.messages.items ≡ mail ∷ rest → length p.cache ≡ LINES → 1 ≤ cores →
      is_data mail.item ≡ true →
      port_worth cores p + owed (port_taking riding carrying p (mail ∷ rest))
      ≤ port_worth cores (port_taking riding carrying p (mail ∷ rest)) + owed p + (3 + 2 * cores)
  data_takes riding carrying cores p mail rest is long some d =
      let l : Line R = line_for riding.fresh p.cache (block_of mail.item) in
      let owes = taking_owes riding carrying p mail rest is in
      let worth = heard_worth riding carrying cores p mail rest long in
      let none = data_debt mail.item d in
      let silent : answers (answer_to riding p mail.item) ≡ 0 = data_silent l mail.item d in
      let most = worth_le l.state (is_nil p.requests.items) cores some in
      omega arith

  -- ---- the home takes a request

  pub requested_worth : (riding : Riding R) (blocks cores brings : ℕ) (p : Port R K) (mail : Mail (Request R) K) →
      PortHolds riding blocks p →
      p.requests.items ≡ mail ∷ [] → AskedLine (line_for riding.fresh p.cache (request_block mail.item)) cores brings →
      port_worth cores p + brings + 1 ≤ port_worth cores (port_requested p [])
  requested_worth riding blocks cores brings p mail h is asked =
      let j : ℕ = request_block mail.item % LINES in
      let l : Line R = line_for riding.fresh p.cache (request_block mail.item) in
      let e = sums_agree_but (worth_of false cores) (worth_of true cores) p.cache j (empty_line riding.fresh)
      (rw h.all_lines (omega arith))
      (λ i other. still_worth (place_at riding p i).state false true cores
      (others i other (is_transient (place_at riding p i).state) refl)) in
      let pays : line_worth l.state false cores + brings + 1 ≤ line_worth l.state true cores =
      let a = worth_base l.state false cores in
      let b = worth_base l.state true cores in
      let c = asked.pays false in
      omega arith in
      let before : port_worth cores p ≡ lines_worth false cores p.cache =
      ap (λ (items : List (Mail (Request R) K)). lines_worth (is_nil items) cores
      p.cache) is in omega arith
    where
      others : (i : ℕ) → i ≢ request_block mail.item % LINES → (t : Bool) →
          is_transient (place_at riding p i).state ≡ t →
          is_transient (place_at riding p i).state ≡ false
      others i other true w = absurd (other (h.one_waits i (request_block mail.item % LINES) w asked.waits))
      others i other false w = w

  -- ---- how much it is

  -- a port that doesn't wait
  pub still_port : (riding : Riding R) (cores : ℕ) (p : Port R K) → length p.cache ≡ LINES → waits p.cache ≡ false →
      port_worth cores p ≤ empty_worth
  still_port riding cores p long still =
      let le = sum_at_most (worth_of (is_nil p.requests.items) cores) 3 p.cache (empty_line riding.fresh)
      (λ i. still_worth_le (place_at riding p i).state (is_nil p.requests.items) cores
      (waits_none p.cache riding.fresh still i)) in
      let e : 3 * length p.cache ≡ 3 * LINES = ap (λ (n : ℕ). 3 * n) long in
      omega arith

  -- one that does
  pub waiting_port : (riding : Riding R) (blocks cores : ℕ) (p : Port R K) → PortHolds riding blocks p → 1 ≤ cores →
      waits p.cache ≡ true →
      port_worth cores p ≤ empty_worth + 2 * cores
  waiting_port riding blocks cores p h some w =
      let one = waits_some p.cache riding.fresh w in
      let le = sum_at_most_but (worth_of (is_nil p.requests.items) cores) 3 (2 * cores) p.cache one.0
      (empty_line riding.fresh)
      (λ i other. still_worth_le (place_at riding p i).state (is_nil p.requests.items) cores
      (others one.0 one.1 i other (is_transient (place_at riding p i).state) refl))
      (worth_le (place_at riding p one.0).state (is_nil p.requests.items) cores some) in
      let e : 3 * length p.cache ≡ 3 * LINES = ap (λ (n : ℕ). 3 * n) h.all_lines in
      omega arith
    where
      others : (j : ℕ) → is_transient (place_at riding p j).state ≡ true → (i : ℕ) → i ≢ j → (t : Bool) →
          is_transient (place_at riding p i).state ≡ t →
          is_transient (place_at riding p i).state ≡ false
      others j waits i other true e = absurd (other (h.one_waits i j e waits))
      others j waits i other false e = e
