-- What the kept reads of a word are to contracts, and what the writes and loops over their places leave.
use Rattle.std.proofs.Common.{◌≡◌, ◌≢◌, ◌∙◌, refl, sym, ap, subst, ℕ, ◌<◌, ◌≤◌, length, List, Option, Some, None, Bool}
use Rattle.std.proofs.Common.{true, false, arith, ◌*◌, ◌%◌, ◌^◌}
use Rattle.std.specs.Prelude.{◌==◌, if◌then◌else◌, slice_index_or, slice_set}
use Rattle.std.proofs.lemmas.Bool.Decides.{nat_tests}
use Rattle.std.specs.Int.{bit_not, trailing_zeros}
use Rattle.std.proofs.lemmas.Nat.Bits.{bit_at-trailing_zeros}
use Rattle.std.specs.Option.{is_some}
use Rattle.std.proofs.lemmas.Nat.{and_le_l}
use Rattle.std.proofs.lemmas.List.{get_or-set_same, get_or-set_other, length-set, get_or-replicate, length-replicate}
use Rattle.std.proofs.lemmas.List.{get_or_default}
use Rattle.std.proofs.lemmas.List.FromFn.{fill_by_all, get_or-map-range_with_len, length-map-range_with_len}
use Rattle.rtr_types.specs.CoreSets.{has, with_core, without_core, is_none, no_cores, set_width}
use Rattle.rtr_types.specs.declared.TheConstants.{CORES_MAX}
use Rattle.rtr_types.specs.declared.core_set.CoreSet.{CoreSet}
use Rattle.rtr_types.proofs.Members.{has-with_same, has-with_other, has-without_same, has-without_other, has-none}
use Rattle.rtr_types.proofs.Members.{has-no_cores}
use Rattle.clock_core.specs.Counts.{no_counts}
use Rattle.clock_core.specs.declared.clock.Clock.{Clock}
use Rattle.access_times.specs.Reads.{read_if, read_kept, reads_kept}
use Rattle.access_times.specs.declared.reads.Reads.TheInside.{Inside}
use Rattle.access_times.specs.Times.{newer_by, newer_read, no_reads, read_in, reads_absorbed, reads_by}

pub length-kept : (readers : CoreSet) (places : List (ℕ × Clock)) → length (reads_kept readers places) ≡ CORES_MAX
unfolding reads_kept
length-kept readers places = length-map-range_with_len (read_kept readers places) 0 CORES_MAX

pub read_in-kept : (readers : CoreSet) (places : List (ℕ × Clock)) (core : ℕ) → core < CORES_MAX →
    read_in (reads_kept readers places) core ≡ read_kept readers places core
unfolding reads_kept
read_in-kept readers places core lt =
    get_or-map-range_with_len (read_kept readers places) 0 CORES_MAX core core None lt (omega arith)

-- reads that are kept so at each place are these
pub kept_by_places : (readers : CoreSet) (places : List (ℕ × Clock)) (reads : List (Option (ℕ × Clock))) →
    length reads ≡ CORES_MAX → ((k : ℕ) → k < CORES_MAX → read_kept readers places k ≡ read_in reads k) →
    reads_kept readers places ≡ reads
unfolding reads_kept
kept_by_places readers places reads long same =
    sym (fill_by_all (read_kept readers places) reads CORES_MAX None long (λ k lt. sym (same k lt)))

pub kept_none : (places : List (ℕ × Clock)) → reads_kept no_cores places ≡ no_reads
kept_none places =
    kept_by_places no_cores places no_reads (length-replicate {A = Option (ℕ × Clock)} CORES_MAX None)
    (λ k lt. rw (has-no_cores k) (sym (get_or-replicate {A = Option (ℕ × Clock)} CORES_MAX k None None lt)))

set_here : (readers : CoreSet) (places : List (ℕ × Clock)) (core : ℕ) (read : ℕ × Clock) → length places ≡ CORES_MAX →
    core < CORES_MAX → read_kept (with_core readers core) (slice_set places core read) core ≡ Some read
set_here readers places core read long lt = grind (arith, has-with_same, get_or-set_same)

set_there : (readers : CoreSet) (places : List (ℕ × Clock)) (core k : ℕ) (read : ℕ × Clock) → core < CORES_MAX →
    k ≢ core → read_kept (with_core readers core) (slice_set places core read) k ≡ read_kept readers places k
set_there readers places core k read lt other =
    rw (has-with_other readers core k lt other, get_or-set_other places core k read (0, no_counts) other) refl

pub kept_set : (readers : CoreSet) (places : List (ℕ × Clock)) (core : ℕ) (read : ℕ × Clock) →
    length places ≡ CORES_MAX → core < CORES_MAX →
    reads_kept (with_core readers core) (slice_set places core read)
    ≡ slice_set (reads_kept readers places) core (Some read)
kept_set readers places core read long lt =
    let old = reads_kept readers places in
    kept_by_places (with_core readers core) (slice_set places core read) (slice_set old core (Some read))
    (length-set old core (Some read) ∙ length-kept readers places)
    (λ k lk. by k lk (k == core) refl)
  where
    here : (k : ℕ) → k ≡ core →
        read_kept (with_core readers core) (slice_set places core read) k
        ≡ read_in (slice_set (reads_kept readers places) core (Some read)) k
    here k e = rw e (set_here readers places core read long lt
        ∙ sym (get_or-set_same (reads_kept readers places) core (Some read) None
        (let e = length-kept readers places in omega arith)))

    by : (k : ℕ) → k < CORES_MAX → (b : Bool) → (k == core) ≡ b →
        read_kept (with_core readers core) (slice_set places core read) k
        ≡ read_in (slice_set (reads_kept readers places) core (Some read)) k
    by k lk true t = here k (grind (arith, nat_tests))
    by k lk false f =
        let other : k ≢ core = grind (arith, nat_tests) in
        set_there readers places core k read lt other
        ∙ sym (get_or-set_other (reads_kept readers places) core k (Some read) None other
        ∙ read_in-kept readers places k lk)

pub read_there : (readers : CoreSet) (places : List (ℕ × Clock)) (core : ℕ) (d : ℕ × Clock) → has readers core ≡ true →
    core < CORES_MAX → length places ≡ CORES_MAX →
    Some (slice_index_or places core d) ≡ read_in (reads_kept readers places) core
read_there readers places core d is lt long =
    ap (λ (read : ℕ × Clock). Some read) (get_or_default places core d (0, no_counts) (omega arith))
    ∙ sym (read_in-kept readers places core lt ∙ rw is refl)

pub read_absent : (readers : CoreSet) (places : List (ℕ × Clock)) (core : ℕ) → has readers core ≡ false →
    core < CORES_MAX → None ≡ read_in (reads_kept readers places) core
read_absent readers places core isnt lt = sym (read_in-kept readers places core lt ∙ rw isnt refl)

-- the read that the fields have for a core
abbrev pub read_of : Inside → ℕ → Option (ℕ × Clock)
read_of a core = read_kept a.readers a.places core

-- While the reads of the cores that are left are still to be looked at, `is_done` holds of each other core, and
-- `is_left` of these.
pub record Filling (left : CoreSet) (is_done is_left : ℕ → Type 0) : Type 0 where
  pub done : (k : ℕ) → k < CORES_MAX → has left k ≡ false → is_done k
  pub rest : (k : ℕ) → k < CORES_MAX → has left k ≡ true → is_left k

module _ {left : CoreSet} {is_done is_left : ℕ → Type 0} where
  -- this core's read was looked at
  pub looked_at : (core : ℕ) (done_now left_now : ℕ → Type 0) → Filling left is_done is_left → core < CORES_MAX →
      done_now core → ((k : ℕ) → k ≢ core → is_done k → done_now k) → ((k : ℕ) → k ≢ core → is_left k → left_now k) →
      Filling (without_core left core) done_now left_now
  looked_at core done_now left_now f lt here keeps_done keeps_left =
      record {
        done = λ k lk isnt. done k lk isnt (k == core) refl;
        rest = λ k lk is. rest k lk is (k == core) refl;
      }
    where
      done : (k : ℕ) → k < CORES_MAX → has (without_core left core) k ≡ false → (b : Bool) → (k == core) ≡ b →
          done_now k
      done k lk isnt true e = let same : core ≡ k = grind (arith, nat_tests) in subst done_now same here
      done k lk isnt false e =
          let other : k ≢ core = grind (arith, nat_tests) in
          keeps_done k other (f.done k lk (sym (has-without_other left core k lt lk other) ∙ isnt))

      rest : (k : ℕ) → k < CORES_MAX → has (without_core left core) k ≡ true → (b : Bool) → (k == core) ≡ b → left_now k
      rest k lk is true e =
          let same : k ≡ core = grind (arith, nat_tests) in
          let isnt : has (without_core left core) k ≡ false =
          ap (has (without_core left core)) same ∙ has-without_same left core lt in
          absurd (grind (arith, nat_tests))
      rest k lk is false e =
          let other : k ≢ core = grind (arith, nat_tests) in
          keeps_left k other (f.rest k lk (sym (has-without_other left core k lt lk other) ∙ is))

  pub all_seen : Filling left is_done is_left → is_none left ≡ true → (k : ℕ) → k < CORES_MAX → is_done k
  all_seen f none k lk = f.done k lk (has-none left k none)

at_most : (s : CoreSet) (c : ℕ) → (without_core s c).bits ≤ s.bits
unfolding without_core
at_most s c = and_le_l s.bits (bit_not set_width (1 * 2 ^ c % 2 ^ CORES_MAX))

-- the core of the lowest bit is in a set that is not empty
pub first_there : (s : CoreSet) → s.bits < 2 ^ CORES_MAX → is_none s ≡ false →
    has s (trailing_zeros set_width s.bits) ≡ true
unfolding has
first_there s within some =
    let more : 0 < s.bits = grind (arith, nat_tests) in
    rw ((bit_at-trailing_zeros set_width s.bits more within).1) refl

-- a set gets smaller as a number where a core of it is taken out
pub fewer : (s : CoreSet) (c : ℕ) → c < CORES_MAX → has s c ≡ true → (without_core s c).bits < s.bits
fewer s c lt is = by (◌==◌ (without_core s c).bits s.bits) refl
  where
    by : (b : Bool) → ◌==◌ (without_core s c).bits s.bits ≡ b → (without_core s c).bits < s.bits
    by true e =
        let same : (without_core s c).bits ≡ s.bits = grind (arith, nat_tests) in
        let out : has (without_core s c) c ≡ false = has-without_same s c lt in
        let in_it : has (without_core s c) c ≡ true = ap (λ (n : ℕ). has (record { bits = n }) c) same ∙ is in
        absurd (grind (arith, nat_tests))
    by false e =
        let other : (without_core s c).bits ≢ s.bits = grind (arith, nat_tests) in
        let most = at_most s c in omega (arith, other, most)

pub view_by_places : (own : Inside) (reads : List (Option (ℕ × Clock))) → length reads ≡ CORES_MAX →
    ((k : ℕ) → k < CORES_MAX → read_of own k ≡ read_in reads k) → reads_kept own.readers own.places ≡ reads
view_by_places own reads long same = kept_by_places own.readers own.places reads long same

-- the reads are the others where each core's read is
pub view_same : (own other : Inside) → ((k : ℕ) → k < CORES_MAX → read_of own k ≡ read_of other k) →
    reads_kept own.readers own.places ≡ reads_kept other.readers other.places
view_same own other same =
    view_by_places own (reads_kept other.readers other.places) (length-kept other.readers other.places)
    (λ k lk. same k lk ∙ sym (read_in-kept other.readers other.places k lk))

pub absorbed_at : (a b : List (Option (ℕ × Clock))) (k : ℕ) → k < CORES_MAX →
    read_in (reads_absorbed a b) k ≡ newer_read (read_in a k) (read_in b k)
unfolding reads_absorbed
absorbed_at a b k lk =
    get_or-map-range_with_len (λ core. newer_read (read_in a core) (read_in b core)) 0 CORES_MAX k k None lk
    (omega arith)

length-absorbed : (a b : List (Option (ℕ × Clock))) → length (reads_absorbed a b) ≡ CORES_MAX
unfolding reads_absorbed
length-absorbed a b = length-map-range_with_len (λ core. newer_read (read_in a core) (read_in b core)) 0 CORES_MAX

-- the reads are what the first have once they absorbed the second
pub view_absorbed : (own first second : Inside) →
    ((k : ℕ) → k < CORES_MAX → read_of own k ≡ newer_read (read_of first k) (read_of second k)) →
    reads_kept own.readers own.places
    ≡ reads_absorbed (reads_kept first.readers first.places) (reads_kept second.readers second.places)
view_absorbed own first second same =
    let a = reads_kept first.readers first.places in
    let b = reads_kept second.readers second.places in
    view_by_places own (reads_absorbed a b) (length-absorbed a b)
    (λ k lk. same k lk ∙ sym (absorbed_at a b k lk
    ∙ ap (λ (r : Option (ℕ × Clock)). newer_read r (read_in b k)) (read_in-kept first.readers first.places k lk)
    ∙ ap (newer_read (read_of first k)) (read_in-kept second.readers second.places k lk)))

-- the same where a tie goes to the one or the other
pub view_by : (ties : Bool) (own mine theirs : Inside) →
    ((k : ℕ) → k < CORES_MAX → read_of own k ≡ newer_by ties (read_of mine k) (read_of theirs k)) →
    reads_kept own.readers own.places
    ≡ reads_by ties (reads_kept mine.readers mine.places) (reads_kept theirs.readers theirs.places)
view_by true own mine theirs same = view_absorbed own theirs mine same
view_by false own mine theirs same = view_absorbed own mine theirs same

-- the fields with a read in the core's place
abbrev pub inside_with : Inside → ℕ → ℕ × Clock → Inside
inside_with a core read = record { readers = with_core a.readers core; places = slice_set a.places core read }

pub with_here : (a : Inside) (core : ℕ) (read : ℕ × Clock) → length a.places ≡ CORES_MAX → core < CORES_MAX →
    read_of (inside_with a core read) core ≡ Some read
with_here a core read long lt = set_here a.readers a.places core read long lt

pub with_there : (a : Inside) (core k : ℕ) (read : ℕ × Clock) → core < CORES_MAX → k ≢ core →
    read_of (inside_with a core read) k ≡ read_of a k
with_there a core k read lt other = set_there a.readers a.places core k read lt other

-- a core's read was taken over from the others, and it is what the core ends with
pub taken : (old own other : Inside) (ends : ℕ → Option (ℕ × Clock)) (left : CoreSet) (core : ℕ) (read : ℕ × Clock) →
    length own.places ≡ CORES_MAX → core < CORES_MAX → Some read ≡ ends core →
    Filling left (λ k. read_of own k ≡ ends k) (λ k. (has other.readers k ≡ true) × (read_of own k ≡ read_of old k)) →
    Filling (without_core left core) (λ k. read_of (inside_with own core read) k ≡ ends k)
    (λ k. (has other.readers k ≡ true) × (read_of (inside_with own core read) k ≡ read_of old k))
taken old own other ends left core read long lt e f =
    looked_at core (λ k. read_of (inside_with own core read) k ≡ ends k)
    (λ k. (has other.readers k ≡ true) × (read_of (inside_with own core read) k ≡ read_of old k)) f lt
    (with_here own core read long lt ∙ e)
    (λ k n d. with_there own core k read lt n ∙ d) (λ k n l. (l.0, with_there own core k read lt n ∙ l.1))

-- a core's read stays, and it is what the core ends with
pub stays : (is_done is_left : ℕ → Type 0) (left : CoreSet) (core : ℕ) → core < CORES_MAX → is_done core →
    Filling left is_done is_left → Filling (without_core left core) is_done is_left
stays is_done is_left left core lt here f = looked_at core is_done is_left f lt here (λ k n d. d) (λ k n l. l)

-- a core's read was copied
pub copied : (own other : Inside) (left : CoreSet) (core : ℕ) (d : ℕ × Clock) → length own.places ≡ CORES_MAX →
    length other.places ≡ CORES_MAX → core < CORES_MAX → own.readers ≡ other.readers →
    Filling left (λ k. read_of own k ≡ read_of other k) (λ k. k ≡ k) →
    Filling (without_core left core)
    (λ k. read_kept own.readers (slice_set own.places core (slice_index_or other.places core d)) k ≡ read_of other k)
    (λ k. k ≡ k)
copied own other left core d long other_long lt same f =
    let read = slice_index_or other.places core d in
    looked_at core (λ k. read_kept own.readers (slice_set own.places core read) k ≡ read_of other k) (λ k. k ≡ k) f lt
    (ap (read_if (has own.readers core))
    (get_or-set_same own.places core read (0, no_counts) (let e = long in omega arith)
    ∙ get_or_default other.places core d (0, no_counts) (let e = other_long in omega arith))
    ∙ ap (λ (r : CoreSet). read_kept r other.places core) same)
    (λ k n e. ap (read_if (has own.readers k)) (get_or-set_other own.places core k read (0, no_counts) n) ∙ e)
    (λ k n l. l)

-- what a core ends with where its own and the other read are compared, in either order
module _ (old own other : Inside) (core : ℕ) (d e : ℕ × Clock) (h : Bool) (chosen : Option (ℕ × Clock)) where
  abbrev pub mine : Option (ℕ × Clock)
  mine = read_if h (slice_index_or own.places core d)

  abbrev pub theirs : ℕ × Clock
  theirs = slice_index_or other.places core e

  pub is_mine : length own.places ≡ CORES_MAX → core < CORES_MAX → h ≡ has own.readers core →
      read_of own core ≡ read_of old core → mine ≡ read_of old core
  is_mine long lt has_own same =
      ap (read_if h) (get_or_default own.places core d (0, no_counts) (let l = long in omega arith))
      ∙ ap (λ (b : Bool). read_if b (slice_index_or own.places core (0, no_counts))) has_own ∙ same

  is_theirs : length other.places ≡ CORES_MAX → core < CORES_MAX → has other.readers core ≡ true →
      Some theirs ≡ read_of other core
  is_theirs long lt is =
      ap (λ (r : ℕ × Clock). Some r) (get_or_default other.places core e (0, no_counts) (let l = long in omega arith))
      ∙ sym (ap (λ (b : Bool). read_if b (slice_index_or other.places core (0, no_counts))) is)

  pub ends_by : (ties : Bool) → length own.places ≡ CORES_MAX → length other.places ≡ CORES_MAX → core < CORES_MAX →
      h ≡ has own.readers core → (has other.readers core ≡ true) × (read_of own core ≡ read_of old core) →
      newer_by ties mine (Some theirs) ≡ chosen → chosen ≡ newer_by ties (read_of old core) (read_of other core)
  ends_by ties long other_long lt has_own rest e =
      sym e ∙ ap (λ (r : Option (ℕ × Clock)). newer_by ties r (Some theirs)) (is_mine long lt has_own rest.1)
      ∙ ap (newer_by ties (read_of old core)) (is_theirs other_long lt rest.0)

pub if_true : (b : Bool) (x y : Option (ℕ × Clock)) → b ≡ true → (if b then x else y) ≡ x
if_true b x y e = rw e refl

pub if_false : (b : Bool) (x y : Option (ℕ × Clock)) → b ≡ false → (if b then x else y) ≡ y
if_false b x y e = rw e refl

-- a core's read is there exactly where the set has the core
pub reader_of : (readers : CoreSet) (places : List (ℕ × Clock)) (core : ℕ) → core < CORES_MAX →
    has readers core ≡ is_some (read_in (reads_kept readers places) core)
reader_of readers places core lt =
    sym (ap (λ (r : Option (ℕ × Clock)). is_some r) (read_in-kept readers places core lt) ∙ by (has readers core))
  where
    by : (b : Bool) → is_some (read_if b (slice_index_or places core (0, no_counts))) ≡ b
    by true = refl
    by false = refl

-- nothing is taken over from none
pub absorbs_none : (own other : Inside) → is_none other.readers ≡ true →
    reads_absorbed (reads_kept own.readers own.places) (reads_kept other.readers other.places)
    ≡ reads_kept own.readers own.places
absorbs_none own other none =
    sym (view_absorbed own own other
    (λ k lk.
    sym (ap (newer_read (read_of own k))
    (ap (λ (b : Bool). read_if b (slice_index_or other.places k (0, no_counts))) (has-none other.readers k none))
    ∙ newer_none (read_of own k))))
  where
    newer_none : (r : Option (ℕ × Clock)) → newer_read r None ≡ r
    newer_none None = refl
    newer_none (Some a) = refl
