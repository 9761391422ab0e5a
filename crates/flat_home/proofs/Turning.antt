-- An entry that was turned as a row says is the row's, and what is told of it is what the row sends.
use Rattle.std.proofs.Common.{◌≡◌, ◌∙◌, refl, sym, ap, subst, ℕ, ◌≢◌, ◌<◌, Option, Some, None, List, length}
use Rattle.std.specs.Prelude.{slice_set}
use Rattle.std.proofs.lemmas.List.{length-set}
use Rattle.access_times.specs.Riding.{Riding}
use Rattle.rtr_types.proofs.Lists.{some_same}
use Rattle.rtr_types.proofs.Members.{has-no_cores}
use Rattle.msi_cache.specs.Messages.{block_of, signal}
use Rattle.msi_cache.specs.declared.messages.FromHome.{FromHome}
use Rattle.msi_directory.specs.Entries.{answer_by, entry_by, sent}
use Rattle.msi_directory.specs.Table.{HomeRow, Send}
use Rattle.msi_directory.specs.declared.entry.Entry.{Entry}
use Rattle.msi_directory.specs.declared.entry.HomeAnswer.{HomeAnswer}
use Rattle.msi_memory.specs.Rests.{hears}
use Rattle.rtr_types.specs.declared.core_set.CoreSet.{CoreSet}
use Rattle.flat_state.specs.declared.block.HomeBlock.{HomeBlock}
use Rattle.flat_state.specs.declared.flat.Flat.{Flat}
use Rattle.flat_state.specs.declared.node.Node.{Node}
use Rattle.flat_state.specs.Shows.{BlockShows, home_at, node_at, told_as}
use Rattle.flat_state.proofs.HomeBlocks.{elsewhere_now, here_now}
use Rattle.flat_state.proofs.HomeTurns.{told_message}
use Rattle.flat_home.specs.Tellings.{HasTurned, IsTurned, Turn, addressee, invalidates, sends, tells, told_of}
use Rattle.flat_home.specs.Tellings.{turn_of, turned, with_message}
use Rattle.flat_home.specs.declared.tellings.Telling.{Telling}
use Rattle.flat_home.specs.declared.tellings.Telling.TheVariants.{Data, Ack, FwdS, FwdM, Each, Nobody}

-- the row that is there
pub record IsRow (row : Option HomeRow) (b : HomeBlock) (telling : Telling) : Type 0 where
  pub r : HomeRow
  pub there : row ≡ Some r
  pub next : r.next ≡ (turned b telling).next
  pub invalidate : r.invalidate ≡ invalidates telling
  pub send : r.send ≡ sends telling

pub row_there : (row : Option HomeRow) (b : HomeBlock) (telling : Telling) →
    turn_of row ≡ Some (turned b telling) → IsRow row b telling
row_there None b telling is = absurd (cc)
row_there (Some r) b telling is =
    let same = some_same _ _ is in
    record {
      r = r;
      there = refl;
      next = ap (λ (t : Turn). t.next) same;
      invalidate = ap (λ (t : Turn). t.invalidate) same;
      send = ap (λ (t : Turn). t.send) same;
    }

module _ {R : Type 0} where
  -- the entry after the row is shown
  pub entry_shown : (riding : Riding R) (row : Option HomeRow) (old new : HomeBlock) (telling : Telling) (e : Entry R)
      (words : List ℕ) (rider : R) → IsTurned row old new telling → BlockShows new (entry_by riding row e words rider)
  entry_shown riding row old new telling e words rider turn =
      let is = row_there row new telling turn.row_is in
      record {
        stage = sym (ap (λ (x : Option HomeRow). (entry_by riding x e words rider).stage) is.there ∙ is.next);
        empty = turn.empty;
      }

  -- what the row answers, by what is told
  abbrev pub answer_told : Telling → ℕ → Entry R → HomeAnswer R
  answer_told telling block e = record { invalidate = invalidates telling; send = sent (sends telling) block e }

  pub answer_is : (row : Option HomeRow) (old new : HomeBlock) (telling : Telling) (block : ℕ) (e : Entry R) →
      IsTurned row old new telling → answer_by row block e ≡ answer_told telling block e
  answer_is row old new telling block e turn =
      let is = row_there row new telling turn.row_is in
      ap (λ (x : Option HomeRow). answer_by x block e) is.there
      ∙ (ap (λ (x : CoreSet). record { invalidate = x; send = sent is.r.send block e }) is.invalidate
      ∙ ap (λ (x : Send). record { invalidate = invalidates telling; send = sent x block e }) is.send)

  -- who hears it, and what
  pub tells_is : (telling : Telling) (block : ℕ) (e : Entry R) (d : ℕ) →
      hears (answer_told telling block e) d ≡ tells telling d
  tells_is (Data to) block e d = refl
  tells_is (Ack to) block e d = refl
  tells_is (FwdS to) block e d = refl
  tells_is (FwdM to) block e d = refl
  tells_is (Each set) block e d = refl
  tells_is Nobody block e d = has-no_cores d

  pub kind_is : (telling : Telling) (block : ℕ) (e : Entry R) →
      told_as (told_of telling) ≡ signal (told_message (answer_told telling block e).send block)
  kind_is (Data to) block e = refl
  kind_is (Ack to) block e = refl
  kind_is (FwdS to) block e = refl
  kind_is (FwdM to) block e = refl
  kind_is (Each set) block e = refl
  kind_is Nobody block e = refl

  pub about_is : (telling : Telling) (block : ℕ) (e : Entry R) →
      block ≡ block_of (told_message (answer_told telling block e).send block)
  about_is (Data to) block e = refl
  about_is (Ack to) block e = refl
  about_is (FwdS to) block e = refl
  about_is (FwdM to) block e = refl
  about_is (Each set) block e = refl
  about_is Nobody block e = refl

  -- the addressee is whom the one message goes to
  pub to_there : (telling : Telling) (block : ℕ) (e : Entry R) (n to : ℕ) →
      ((k : ℕ) (m : FromHome R) → (answer_told telling block e).send ≡ Some (k, m) → k < n) →
      addressee telling ≡ Some to → to < n
  to_there (Data k) block e n to there is = subst (λ (x : ℕ). x < n) (some_same _ _ is) (there k _ refl)
  to_there (Ack k) block e n to there is = subst (λ (x : ℕ). x < n) (some_same _ _ is) (there k _ refl)
  to_there (FwdS k) block e n to there is = subst (λ (x : ℕ). x < n) (some_same _ _ is) (there k _ refl)
  to_there (FwdM k) block e n to there is = subst (λ (x : ℕ). x < n) (some_same _ _ is) (there k _ refl)
  to_there (Each set) block e n to there is = absurd (cc)
  to_there Nobody block e n to there is = absurd (cc)

-- ---- the flat state once an entry was turned and the nodes were told

pub has_turned : (f f' : Flat) (row : Option HomeRow) (c place : ℕ) (left left' : Node) (b0 b' : HomeBlock)
    (telling : Telling) → place < length f.home.items → b0 ≡ home_at f.home.items place → left ≡ left' →
    IsTurned row b0 b' telling →
    ((to : ℕ) → addressee telling ≡ Some to → to < length (slice_set f.nodes.items c left)) →
    f'.home.items ≡ slice_set f.home.items place b' →
    length f'.nodes.items ≡ length (slice_set f.nodes.items c left) →
    ((d : ℕ) → d < length (slice_set f.nodes.items c left) → node_at f'.nodes.items d
    ≡ with_message (tells telling d) place (told_of telling) (node_at (slice_set f.nodes.items c left) d)) →
    HasTurned f f' c left' (record { place = place; telling = telling })
has_turned f f' row c place left left' b0 b' telling lies found is turn there home long nodes =
    record {
      lies = lies;
      there = λ to at. subst (λ (k : ℕ). to < k) (length-set f.nodes.items c left) (there to at);
      long = long ∙ length-set f.nodes.items c left;
      nodes = λ d within. nodes d (subst (λ (k : ℕ). d < k) (sym (length-set f.nodes.items c left)) within)
          ∙ ap (λ (x : Node). with_message (tells telling d) place (told_of telling)
          (node_at (slice_set f.nodes.items c x) d)) is;
      others = λ i apart. elsewhere_now f.home.items f'.home.items place b' home same i apart;
      askers = ap (λ (x : HomeBlock). x.askers) (here_now f.home.items f'.home.items place b' home same lies)
          ∙ (turn.askers ∙ ap (λ (x : HomeBlock). x.askers) found);
    }
  where
    same : b'.block ≡ (home_at f.home.items place).block
    same = turn.block ∙ ap (λ (x : HomeBlock). x.block) found
