-- The lines of a port's cache: which of them wait, and what each act does to them.
use Rattle.std.proofs.Common.{◌≡◌, ◌≢◌, ◌∙◌, ap, refl, sym, subst, ℕ, ◌<◌, ◌==◌, ◌%◌, Bool, true, false, ◌||◌, List, []}
use Rattle.std.proofs.Common.{◌∷◌, length, get_or, Option}
use Rattle.std.proofs.Common.{Some, None, zero, suc, arith}
use Rattle.std.specs.Prelude.{if◌then◌else◌, slice_index_or, slice_set, is_some}
use Rattle.std.proofs.lemmas.List.{get_or-set_same, get_or-set_other, length-set}
use Rattle.std.proofs.lemmas.Bool.Decides.{nat_tests}
use Rattle.access_times.specs.Riding.{Riding, Carrying}
use Rattle.rtr_types.specs.Accesses.{is_write}
use Rattle.rtr_types.specs.declared.access.Kind.{Kind}
use Rattle.msi_cache.specs.declared.line.Line.{Line}
use Rattle.msi_cache.specs.declared.line.State.{State as LineState}
use Rattle.msi_cache.specs.declared.line.State.TheVariants.{I}
use Rattle.rtr_types.specs.declared.TheConstants.{LINES}
use Rattle.msi_cache.specs.declared.messages.FromHome.{FromHome}
use Rattle.msi_cache.specs.declared.messages.Response.{Response}
use Rattle.msi_cache.specs.Table.{row, is_transient}
use Rattle.msi_cache.specs.Messages.{signal, block_of}
use Rattle.msi_cache.specs.Lines.{line_for, line_after, line_asking, lines_put, lines_riding, empty_line, is_allowed}
use Rattle.msi_cache.specs.Lines.{waits}
use Rattle.msi_memory.specs.declared.port.Mail.{Mail}
use Rattle.msi_memory.specs.declared.port.Port.{Port}
use Rattle.msi_memory.specs.Acts.{is_data, lines_touched, allows, port_asking, port_hearing, port_answering}
use Rattle.msi_laws.specs.Holds.{LineHolds, PortHolds, place_at}
use Rattle.msi_laws.specs.Waits.{serves, WaitsFor}

pub set_at : {X : Type 0} (xs : List X) (j i : ℕ) (x d : X) → j < length xs →
    get_or (slice_set xs j x) i d ≡ (if i == j then x else get_or xs i d)
set_at xs j i x d within = grind (arith, nat_tests, get_or-set_same xs j x d within, get_or-set_other xs j i x d)

-- ---- which lines wait

-- no line waits
pub waits_none : {R : Type 0} (lines : List (Line R)) (fresh : R) → waits lines ≡ false → (i : ℕ) →
    is_transient (get_or lines i (empty_line fresh)).state ≡ false
waits_none [] fresh e i = refl
waits_none (l ∷ ls) fresh e zero = grind arith
waits_none (l ∷ ls) fresh e (suc i) = waits_none ls fresh (grind arith) i

-- one that does
pub waits_some : {R : Type 0} (lines : List (Line R)) (fresh : R) → waits lines ≡ true →
    (i : ℕ) × (is_transient (get_or lines i (empty_line fresh)).state ≡ true)
waits_some [] fresh e = absurd (cc)
waits_some (l ∷ ls) fresh e = by_test (is_transient l.state) refl e (λ (f : waits ls ≡ true). waits_some ls fresh f)
  where
    by_test : (t : Bool) → is_transient l.state ≡ t → (t || waits ls) ≡ true →
        (waits ls ≡ true → (i : ℕ) × (is_transient (get_or ls i (empty_line fresh)).state ≡ true)) →
        (i : ℕ) × (is_transient (get_or (l ∷ ls) i (empty_line fresh)).state ≡ true)
    by_test true is f rest = (0, is)
    by_test false is f rest = let w = rest f in (suc w.0, w.1)

pub waits_at : {R : Type 0} (lines : List (Line R)) (fresh : R) (i : ℕ) →
    is_transient (get_or lines i (empty_line fresh)).state ≡ true → waits lines ≡ true
waits_at [] fresh i e = absurd (cc)
waits_at (l ∷ ls) fresh zero e = grind arith
waits_at (l ∷ ls) fresh (suc i) e = let ih = waits_at ls fresh i e in grind arith

-- where no place waits, the cache doesn't
pub none_waits : {R : Type 0} (lines : List (Line R)) (fresh : R) →
    ((i : ℕ) → is_transient (slice_index_or lines i (empty_line fresh)).state ≡ false) → waits lines ≡ false
none_waits lines fresh still = by_test (waits lines) refl
  where
    by_test : (t : Bool) → waits lines ≡ t → t ≡ false
    by_test true e = absurd (let w = waits_some lines fresh e in let f = still w.0 in cc (sym w.1 ∙ f))
    by_test false e = refl

pub transient_there : (s : LineState) → is_transient s ≡ true → s ≢ I
transient_there s e is = absurd (grind arith)

-- the same line but for words and rider
pub record Same {R : Type 0} (l m : Line R) : Type 0 where
  pub state : l.state ≡ m.state
  pub block : l.block ≡ m.block

-- a port that holds and of which no line waits
pub record PortStill {R K : Type 0} (riding : Riding R) (blocks : ℕ) (p : Port R K) : Type 0 where
  pub holds : PortHolds riding blocks p
  pub still : (i : ℕ) → is_transient (place_at riding p i).state ≡ false

-- ---- a touch changes words and riders only

set_same : {R : Type 0} (lines : List (Line R)) (j : ℕ) (l e : Line R) → j < length lines → Same l (get_or lines j e) →
    (i : ℕ) →
    Same (get_or (slice_set lines j l) i e) (get_or lines i e)
set_same lines j l e within same i = subst (λ (x : Line _). Same x (get_or lines i e))
    (sym (set_at lines j i l e within)) (by_test (i == j) refl)
  where
    by_test : (t : Bool) → (i == j) ≡ t → Same (if t then l else get_or lines i e) (get_or lines i e)
    by_test true is = let at : i ≡ j = grind (arith, nat_tests) in
        subst (λ (k : ℕ). Same l (get_or lines k e)) (sym at) same
    by_test false is = record { state = refl; block = refl }

module _ {R : Type 0} where
  pub touched_long : (riding : Riding R) (lines : List (Line R)) (block slot : ℕ) (kind : Kind) (value : ℕ) →
      length (lines_touched riding.fresh lines block slot kind value) ≡ length lines
  touched_long riding lines block slot kind value = by_write (is_write kind)
    where
      by_write : (t : Bool) → length (if t then lines_put riding.fresh lines block slot value else lines) ≡ length lines
      by_write true = length-set lines (block % LINES) _
      by_write false = refl

  written_same : (riding : Riding R) (lines : List (Line R)) (block slot : ℕ) (kind : Kind) (value : ℕ) →
      length lines ≡ LINES → (i : ℕ) →
      Same (get_or (lines_touched riding.fresh lines block slot kind value) i (empty_line riding.fresh))
      (get_or lines i (empty_line riding.fresh))
  written_same riding lines block slot kind value long i = by_write (is_write kind)
    where
      by_write : (t : Bool) → Same (get_or (if t then lines_put riding.fresh lines block slot value else lines) i
          (empty_line riding.fresh))
          (get_or lines i (empty_line riding.fresh))
      by_write true = set_same lines (block % LINES) _ (empty_line riding.fresh) (omega arith) (record {
        state =
            refl;
        block = refl;
      }) i
      by_write false = record { state = refl; block = refl }

  same_trans : {a b c : Line R} → Same a b → Same b c → Same a c
  same_trans p q = record { state = p.state ∙ q.state; block = p.block ∙ q.block }

  pub touched_same : (riding : Riding R) (lines : List (Line R)) (block slot : ℕ) (kind : Kind) (value : ℕ) (r : R) →
      length lines ≡ LINES → (i : ℕ) →
      Same (get_or (lines_riding riding.fresh (lines_touched riding.fresh lines block slot kind value) block r) i
      (empty_line riding.fresh))
      (get_or lines i (empty_line riding.fresh))
  touched_same riding lines block slot kind value r long i =
      let longer : length (lines_touched riding.fresh lines block slot kind value) ≡ LINES =
      touched_long riding lines block slot kind value ∙ long in
      same_trans (set_same (lines_touched riding.fresh lines block slot kind value) (block % LINES) _
      (empty_line riding.fresh) (omega arith)
      (record { state = refl; block = refl }) i) (written_same riding lines block slot kind value long i)

  pub length_touched : (riding : Riding R) (lines : List (Line R)) (block slot : ℕ) (kind : Kind) (value : ℕ) (r : R) →
      length (lines_riding riding.fresh (lines_touched riding.fresh lines block slot kind value) block r) ≡ length lines
  length_touched riding lines block slot kind value r =
      length-set (lines_touched riding.fresh lines block slot kind value) (block % LINES) _
      ∙ touched_long riding lines block slot kind value

-- two ports with the same lines but for words and riders, and the same rooms
pub record SameLines {R K : Type 0} (riding : Riding R) (p q : Port R K) : Type 0 where
  pub long : length q.cache ≡ length p.cache
  pub same : (i : ℕ) → Same (place_at riding q i) (place_at riding p i)
  pub requests : q.requests.room ≡ p.requests.room
  pub responses : q.responses.room ≡ p.responses.room
  pub messages : q.messages.room ≡ p.messages.room

-- two ports that differ in one line alone, and have the same rooms
pub record OneLine {R K : Type 0} (riding : Riding R) (p q : Port R K) (j : ℕ) (l : Line R) : Type 0 where
  pub within : j < LINES
  pub lines : q.cache ≡ slice_set p.cache j l
  pub requests : q.requests.room ≡ p.requests.room
  pub responses : q.responses.room ≡ p.responses.room
  pub messages : q.messages.room ≡ p.messages.room

module _ {R K : Type 0} where
  pub same_lines_fit : (riding : Riding R) (blocks : ℕ) (p q : Port R K) → SameLines riding p q →
      PortHolds riding blocks p → PortHolds riding blocks q
  same_lines_fit riding blocks p q s h =
      record {
        all_lines = s.long ∙ h.all_lines;
        lines = λ i. record {
          place = λ some. rw (s.same i).block ((h.lines i).place (λ (e : (place_at riding p i).state ≡ I). some
              ((s.same i).state ∙ e)));
          within = λ some. rw (s.same i).block ((h.lines i).within (λ (e : (place_at riding p i).state ≡ I). some
              ((s.same i).state ∙ e)));
        };
        one_waits = λ i j e f. h.one_waits i j (ap is_transient (sym (s.same i).state)
            ∙ e) (ap is_transient (sym (s.same j).state) ∙ f);
        requests_room = s.requests ∙ h.requests_room;
        responses_room = s.responses ∙ h.responses_room;
        messages_room = s.messages ∙ h.messages_room;
      }

  pub same_lines_wait : (riding : Riding R) (p q : Port R K) (block : ℕ) (kind : Kind) → SameLines riding p q →
      WaitsFor riding p block kind →
      WaitsFor riding q block kind
  same_lines_wait riding p q block kind s h = λ i. rw ((s.same i).state, (s.same i).block) (h i)

  -- the line at a place, where one was set
  pub one_line_at : (riding : Riding R) (p q : Port R K) (j : ℕ) (l : Line R) (i : ℕ) → OneLine riding p q j l →
      length p.cache ≡ LINES →
      place_at riding q i ≡ (if i == j then l else place_at riding p i)
  one_line_at riding p q j l i o long = ap (λ (lines : List (Line R)). get_or lines i (empty_line riding.fresh)) o.lines
      ∙ set_at p.cache j i l (empty_line riding.fresh) (rw long o.within)

  -- a port still holds where the new line does, and where that waits no other line waited
  pub one_line_fits : (riding : Riding R) (blocks : ℕ) (p q : Port R K) (j : ℕ) (l : Line R) → OneLine riding p q j l →
      LineHolds blocks j l →
      (is_transient l.state ≡ true → (i : ℕ) → is_transient (place_at riding p i).state ≡ true → i ≡ j) →
      PortHolds riding blocks p →
      PortHolds riding blocks q
  one_line_fits riding blocks p q j l o holds alone h =
      record {
        all_lines = ap length o.lines ∙ (length-set p.cache j l ∙ h.all_lines);
        lines = λ i. subst (λ (x : Line R). LineHolds blocks i x) (sym (one_line_at riding p q j l i o h.all_lines))
            (by_test i (i == j) refl);
        one_waits = λ i k e f. both i k (i == j) (k == j) refl refl
            (ap (λ (x : Line R). is_transient x.state) (sym (one_line_at riding p q j l i o h.all_lines)) ∙ e)
            (ap (λ (x : Line R). is_transient x.state) (sym (one_line_at riding p q j l k o h.all_lines)) ∙ f);
        requests_room = o.requests ∙ h.requests_room;
        responses_room = o.responses ∙ h.responses_room;
        messages_room = o.messages ∙ h.messages_room;
      }
    where
      by_test : (i : ℕ) (t : Bool) → (i == j) ≡ t → LineHolds blocks i (if t then l else place_at riding p i)
      by_test i true e = let at : i ≡ j = grind (arith, nat_tests) in
          subst (λ (k : ℕ). LineHolds blocks k l) (sym at) holds
      by_test i false e = h.lines i

      both : (i k : ℕ) (t u : Bool) → (i == j) ≡ t → (k == j) ≡ u →
          is_transient (if t then l else place_at riding p i).state ≡ true →
          is_transient (if u then l else place_at riding p k).state ≡ true → i ≡ k
      both i k true true e f g w = grind (arith, nat_tests)
      both i k true false e f g w = let at : k ≡ j = alone g k w in grind (arith, nat_tests)
      both i k false true e f g w = let at : i ≡ j = alone w i g in grind (arith, nat_tests)
      both i k false false e f g w = h.one_waits i k g w

  -- what waits does so for the same access, where the new line does
  pub one_line_waits : (riding : Riding R) (p q : Port R K) (j : ℕ) (l : Line R) (block : ℕ) (kind : Kind) →
      OneLine riding p q j l → length p.cache ≡ LINES →
      serves l.state (is_write kind) l.block j block ≡ true →
      ((i : ℕ) → i ≢ j → serves (place_at riding p i).state (is_write kind) (place_at riding p i).block i
      block ≡ true) → WaitsFor riding q block kind
  one_line_waits riding p q j l block kind o long here others i =
      ap (λ (x : Line R). serves x.state (is_write kind) x.block i block) (one_line_at riding p q j l i o long)
      ∙ by_test (i == j) refl
    where
      by_test : (t : Bool) → (i == j) ≡ t → serves (if t then l else place_at riding p i).state (is_write kind)
          (if t then l else place_at riding p i).block i block ≡ true
      by_test true e = let at : i ≡ j = grind (arith, nat_tests) in rw at here
      by_test false e = others i (grind (arith, nat_tests))

-- ---- the port asks

asked_fits : {R : Type 0} (blocks : ℕ) (l : Line R) (block : ℕ) (kind : Kind) → block < blocks →
    LineHolds blocks (block % LINES) l →
    is_transient l.state ≡ false → is_allowed l block kind ≡ false →
    LineHolds blocks (block % LINES) (line_asking l block kind)
asked_fits blocks l block kind within h still needed = record {
  place = grind (arith, nat_tests, h.place);
  within =
      grind (arith, nat_tests, h.within);
}

asked_serves : {R : Type 0} (l : Line R) (block : ℕ) (kind : Kind) → is_transient l.state ≡ false →
    is_allowed l block kind ≡ false →
    serves (line_asking l block kind).state (is_write kind) (line_asking l block kind).block (block % LINES)
    block ≡ true
asked_serves l block kind still needed = grind (arith, nat_tests)

pub still_serves : (s : LineState) (writes : Bool) (l i b : ℕ) → is_transient s ≡ false → serves s writes l i b ≡ true
still_serves s writes l i b e = grind arith

module _ {R K : Type 0} where
  asking_one_line : (riding : Riding R) (p : Port R K) (block : ℕ) (kind : Kind) →
      OneLine riding p (port_asking riding p block kind) (block % LINES)
      (line_asking (line_for riding.fresh p.cache block) block kind)
  asking_one_line riding p block kind = record {
    within = omega arith;
    lines = refl;
    requests = refl;
    responses =
        refl;
    messages = refl;
  }

  pub asking_fits : (riding : Riding R) (blocks : ℕ) (p : Port R K) (block : ℕ) (kind : Kind) → block < blocks →
      is_allowed (line_for riding.fresh p.cache block) block kind ≡ false → PortStill riding blocks p →
      PortHolds riding blocks (port_asking riding p block kind)
  asking_fits riding blocks p block kind within needed h =
      one_line_fits riding blocks p (port_asking riding p block kind) (block % LINES)
      (line_asking (line_for riding.fresh p.cache block) block kind)
      (asking_one_line riding p block kind)
      (asked_fits blocks (line_for riding.fresh p.cache block) block kind within (h.holds.lines (block % LINES))
      (h.still (block % LINES)) needed)
      (λ waits i e. absurd (let f = h.still i in cc))
      h.holds

  pub asking_waits : (riding : Riding R) (blocks : ℕ) (p : Port R K) (block : ℕ) (kind : Kind) →
      is_allowed (line_for riding.fresh p.cache block) block kind ≡ false → PortStill riding blocks p →
      WaitsFor riding (port_asking riding p block kind) block kind
  asking_waits riding blocks p block kind needed h =
      one_line_waits riding p (port_asking riding p block kind) (block % LINES)
      (line_asking (line_for riding.fresh p.cache block) block kind) block kind
      (asking_one_line riding p block kind) h.holds.all_lines
      (asked_serves (line_for riding.fresh p.cache block) block kind (h.still (block % LINES)) needed)
      (λ i other. still_serves (place_at riding p i).state (is_write kind) (place_at riding p i).block i block
      (h.still i))

  pub fits_still : (riding : Riding R) (blocks : ℕ) (p : Port R K) → waits p.cache ≡ false → PortHolds riding blocks p →
      PortStill riding blocks p
  fits_still riding blocks p none h = record { holds = h; still = waits_none p.cache riding.fresh none }

-- ---- the port takes a message

received_fits : {R : Type 0} (riding : Riding R) (blocks : ℕ) (i : ℕ) (l : Line R) (m : FromHome R) →
    is_some (row (signal m) l.state) ≡ true →
    LineHolds blocks i l → LineHolds blocks i (line_after riding l m)
received_fits riding blocks i l m e h = record {
  place = grind (arith, nat_tests, h.place);
  within =
      grind (arith, nat_tests, h.within);
}

-- a line that waits after a message waited before it
received_waits : {R : Type 0} (riding : Riding R) (l : Line R) (m : FromHome R) →
    is_some (row (signal m) l.state) ≡ true →
    is_transient (line_after riding l m).state ≡ true → is_transient l.state ≡ true
received_waits riding l m e f = grind arith

-- and for the same access
received_serves : {R : Type 0} (riding : Riding R) (l : Line R) (m : FromHome R) (writes : Bool) (i b : ℕ) →
    is_some (row (signal m) l.state) ≡ true →
    serves l.state writes l.block i b ≡ true → serves (line_after riding l m).state writes
    (line_after riding l m).block i b ≡ true
received_serves riding l m writes i b e f = grind (arith, nat_tests)

-- data come to a line that waits for them, which then waits no more
data_transient : {R : Type 0} (l : Line R) (m : FromHome R) → is_data m ≡ true →
    is_some (row (signal m) l.state) ≡ true → is_transient l.state ≡ true
data_transient l m d e = grind arith

data_still : {R : Type 0} (riding : Riding R) (l : Line R) (m : FromHome R) → is_data m ≡ true →
    is_some (row (signal m) l.state) ≡ true →
    is_transient (line_after riding l m).state ≡ false
data_still riding l m d e = grind arith

data_serves : {R : Type 0} (l : Line R) (m : FromHome R) (writes : Bool) (i b : ℕ) → is_data m ≡ true →
    is_some (row (signal m) l.state) ≡ true →
    serves l.state writes l.block i b ≡ true → l.block ≡ b
data_serves l m writes i b d e f = grind (arith, nat_tests)

data_allows : {R : Type 0} (riding : Riding R) (l : Line R) (m : FromHome R) (kind : Kind) (i b : ℕ) →
    is_data m ≡ true →
    is_some (row (signal m) l.state) ≡ true → serves l.state (is_write kind) l.block i b ≡ true →
    is_allowed (line_after riding l m) b kind ≡ true
data_allows riding l m kind i b d e f = grind (arith, nat_tests)

module _ {R K : Type 0} where
  pub taking_fits : (riding : Riding R) (carrying : Carrying K) (blocks : ℕ) (p : Port R K) (mail : Mail (FromHome R) K)
      (rest : List (Mail (FromHome R) K)) →
      is_some (row (signal mail.item) (line_for riding.fresh p.cache (block_of mail.item)).state) ≡ true →
      PortHolds riding blocks p →
      PortHolds riding blocks (port_hearing riding carrying p mail rest)
  taking_fits riding carrying blocks p mail rest there h =
      one_line_fits riding blocks p (port_hearing riding carrying p mail rest) (block_of mail.item % LINES)
      (line_after riding (line_for riding.fresh p.cache (block_of mail.item)) mail.item)
      (record { within = omega arith; lines = refl; requests = refl; responses = refl; messages = refl })
      (received_fits riding blocks (block_of mail.item % LINES) (line_for riding.fresh p.cache
      (block_of mail.item)) mail.item there
      (h.lines (block_of mail.item % LINES)))
      (λ waits i e. h.one_waits i (block_of mail.item % LINES) e
      (received_waits riding (line_for riding.fresh p.cache (block_of mail.item)) mail.item there waits))
      h

  pub taking_waits : (riding : Riding R) (carrying : Carrying K) (p : Port R K) (mail : Mail (FromHome R) K)
      (rest : List (Mail (FromHome R) K)) (block : ℕ)
      (kind : Kind) → length p.cache ≡ LINES →
      is_some (row (signal mail.item) (line_for riding.fresh p.cache (block_of mail.item)).state) ≡ true →
      WaitsFor riding p block kind → WaitsFor riding (port_hearing riding carrying p mail rest) block kind
  taking_waits riding carrying p mail rest block kind long there h =
      one_line_waits riding p (port_hearing riding carrying p mail rest) (block_of mail.item % LINES)
      (line_after riding (line_for riding.fresh p.cache (block_of mail.item)) mail.item) block kind
      (record { within = omega arith; lines = refl; requests = refl; responses = refl; messages = refl }) long
      (received_serves riding (line_for riding.fresh p.cache (block_of mail.item)) mail.item (is_write kind)
      (block_of mail.item % LINES) block there
      (h (block_of mail.item % LINES)))
      (λ i other. h i)

  -- after data no line waits
  pub taking_still : (riding : Riding R) (carrying : Carrying K) (blocks : ℕ) (p : Port R K)
      (mail : Mail (FromHome R) K) (rest : List (Mail (FromHome R) K)) →
      is_data mail.item ≡ true → is_some (row (signal mail.item) (line_for riding.fresh p.cache
      (block_of mail.item)).state) ≡ true →
      PortHolds riding blocks p → (i : ℕ) → is_transient (place_at riding (port_hearing riding carrying p mail rest)
      i).state ≡ false
  taking_still riding carrying blocks p mail rest d there h i =
      ap (λ (x : Line R). is_transient x.state) (one_line_at riding p (port_hearing riding carrying p mail rest)
      (block_of mail.item % LINES)
      (line_after riding (line_for riding.fresh p.cache (block_of mail.item)) mail.item) i
      (record { within = omega arith; lines = refl; requests = refl; responses = refl; messages = refl }) h.all_lines)
      ∙ by_test (i == block_of mail.item % LINES) refl (is_transient (place_at riding p i).state) refl
    where
      by_test : (t : Bool) → (i == block_of mail.item % LINES) ≡ t → (u : Bool) →
          is_transient (place_at riding p i).state ≡ u →
          is_transient (if t then line_after riding (line_for riding.fresh p.cache (block_of mail.item))
          mail.item else place_at riding p i).state
          ≡ false
      by_test true e u f = data_still riding (line_for riding.fresh p.cache (block_of mail.item)) mail.item d
          there
      by_test false e false f = f
      by_test false e true f = absurd (let at : i ≡ block_of mail.item % LINES =
          h.one_waits i (block_of mail.item % LINES) f
          (data_transient (line_for riding.fresh p.cache (block_of mail.item)) mail.item d there) in
          grind (arith, nat_tests))

  -- and the access that was waited for is allowed
  pub taking_allows : (riding : Riding R) (carrying : Carrying K) (p : Port R K) (mail : Mail (FromHome R) K)
      (rest : List (Mail (FromHome R) K)) (block : ℕ)
      (kind : Kind) → is_data mail.item ≡ true → length p.cache ≡ LINES →
      (line_for riding.fresh p.cache (block_of mail.item)).block ≡ block_of mail.item →
      is_some (row (signal mail.item) (line_for riding.fresh p.cache (block_of mail.item)).state) ≡ true →
      WaitsFor riding p block kind →
      allows riding (port_hearing riding carrying p mail rest) block kind ≡ true
  taking_allows riding carrying p mail rest block kind d long at there h =
      let old : Line R = line_for riding.fresh p.cache (block_of mail.item) in
      let same : block ≡ block_of mail.item = sym
      (data_serves old mail.item (is_write kind) (block_of mail.item % LINES) block d there
      (h (block_of mail.item % LINES))) ∙ at in
      let here : line_for riding.fresh (port_hearing riding carrying p mail rest).cache block ≡ line_after
      riding old mail.item =
      ap (λ (x : ℕ). line_for riding.fresh (port_hearing riding carrying p mail rest).cache x) same
      ∙ get_or-set_same p.cache (block_of mail.item % LINES) (line_after riding old mail.item)
      (empty_line riding.fresh) (rw long (omega arith)) in
      ap (λ (x : Line R). is_allowed x block kind) here ∙ data_allows riding old mail.item kind
      (block_of mail.item % LINES) block d there
      (h (block_of mail.item % LINES))

  pub answering_same : (riding : Riding R) (p : Port R K) (o : Option (Response R)) →
      SameLines riding p (port_answering p o)
  answering_same riding p None = record {
    long = refl;
    same = λ i. record { state = refl; block = refl };
    requests =
        refl;
    responses = refl;
    messages = refl;
  }
  answering_same riding p (Some r) =
      record {
        long = refl;
        same = λ i. record { state = refl; block = refl };
        requests = refl;
        responses =
            refl;
        messages = refl;
      }
