-- What holds of each kind of step, for all words and views that keep the rule: it keeps the rule, the rule tells
-- more of
-- it, and whichever order stood before, that order stands afterwards with the step's piece at its end. And what
-- holds of
-- the table before the first step.
use Rattle.std.specs.Prelude.{◌≡◌, ◌≢◌, ℕ, ◌+◌, List, [], ◌∷◌, ◌++◌, length, replicate, slice_index, slice_set}
use mathlib.Core.Option.{some}
use lib.ListN.{get_elem?}
use Rattle.atomic_table.specs.Table.{State}
use Rattle.rtr_types.specs.declared.pairs.Which.{Which}
use Rattle.image_mem.specs.Contents.{opening_words}
use Rattle.race_log.specs.declared.recording.Recording.{Recording}
use Rattle.replay_core.specs.Plans.{Plan, plan_of}
use Rattle.replay_audit.specs.Touches.{ArePlayed}
use Rattle.replay_table.specs.declared.view.Own.{Own}
use Rattle.replay_table.specs.declared.view.View.{View}
use Rattle.replay_table.specs.Rule.{Owns, IsRecorded, OrderStands, TableRule}
use Rattle.replay_table.specs.Kinds.{SeesDone, LoadsWord, HoldsWord, StoresWord, ExchangesWord, PublishesCount}
use Rattle.replay_table.specs.Kinds.{SplitsView, JoinsViews, first_view}
use Rattle.replay_table.specs.Told.{ToldDone, ToldLoad, ToldHold, ToldStore, ToldExchange, ToldPublish}
use Rattle.replay_table.specs.Seats.{Ended, IsEnd, Opening}

-- ---- what a step leaves of the table

-- these words, and the view w of seat number id
abbrev pub left_by : State ℕ View → (words : List ℕ) → (id : ℕ) → View → State ℕ View
left_by s words id w = record { words = words; homes = s.homes; views = slice_set s.views id w }

-- a step that reads a word
abbrev pub looked : State ℕ View → (id : ℕ) → View → State ℕ View
looked s id w = left_by s s.words id w

-- a step that writes one
abbrev pub written : State ℕ View → (word new : ℕ) → (id : ℕ) → View → State ℕ View
written s word new id w = left_by s (slice_set s.words word new) id w

-- a split, after which a new seat has the right view
abbrev pub split : State ℕ View → (id : ℕ) → (left right : View) → State ℕ View
split s id left right = record {
  words = s.words;
  homes = s.homes;
  views = slice_set s.views id left ++ right ∷ [];
}

-- a join
abbrev pub joined : State ℕ View → (id : ℕ) → View → (other : ℕ) → (left : View) → State ℕ View
joined s id both other left = record {
  words = s.words;
  homes = s.homes;
  views = slice_set (slice_set s.views id both) other left;
}

-- ---- the rule is kept

-- the rule holds, and seat number id has the view
pub record Sits (p : Plan) (s : State ℕ View) (id : ℕ) (v : View) : Type 0 where
  pub rule : TableRule p s
  pub view : get_elem? s.views id ≡ some v

abbrev pub SeeKeeps : Type 0
SeeKeeps = (p : Plan) (s : State ℕ View) (id : ℕ) (v w : View) (word : ℕ) → Sits p s id v →
    SeesDone p v word (slice_index s.words word) w → TableRule p (looked s id w)

abbrev pub LoadKeeps : Type 0
LoadKeeps = (p : Plan) (s : State ℕ View) (id : ℕ) (v w : View) (word : ℕ) → Sits p s id v →
    LoadsWord p v word (slice_index s.words word) w → TableRule p (looked s id w)

abbrev pub HoldKeeps : Type 0
HoldKeeps = (p : Plan) (s : State ℕ View) (id : ℕ) (v w : View) (word : ℕ) → Sits p s id v →
    HoldsWord p v word (slice_index s.words word) w → TableRule p (looked s id w)

abbrev pub StoreKeeps : Type 0
StoreKeeps = (p : Plan) (s : State ℕ View) (id : ℕ) (v w : View) (word new : ℕ) → Sits p s id v →
    StoresWord p v word new w → TableRule p (written s word new id w)

-- an exchange that finds the held word
abbrev pub ExchangeKeeps : Type 0
ExchangeKeeps = (p : Plan) (s : State ℕ View) (id : ℕ) (v w : View) (word old new : ℕ) → Sits p s id v →
    slice_index s.words word ≡ old → ExchangesWord p v word old new old w → TableRule p (written s word new id w)

-- and one that finds another
abbrev pub FailKeeps : Type 0
FailKeeps = (p : Plan) (s : State ℕ View) (id : ℕ) (v w : View) (word old new found : ℕ) → Sits p s id v →
    found ≢ old → ExchangesWord p v word old new found w → TableRule p (looked s id w)

abbrev pub PublishKeeps : Type 0
PublishKeeps = (p : Plan) (s : State ℕ View) (id : ℕ) (v w : View) (word new : ℕ) → Sits p s id v →
    PublishesCount p v word new w → TableRule p (written s word new id w)

abbrev pub SplitKeeps : Type 0
SplitKeeps = (p : Plan) (s : State ℕ View) (id : ℕ) (v left right : View) → Sits p s id v →
    SplitsView v left right → TableRule p (split s id left right)

abbrev pub JoinKeeps : Type 0
JoinKeeps = (p : Plan) (s : State ℕ View) (id other : ℕ) (v w both left : View) → Sits p s id v →
    other ≢ id → get_elem? s.views other ≡ some w → JoinsViews v w both left →
    TableRule p (joined s id both other left)

-- ---- what rule and step tell

-- of a step that reads a word, the word that was there
abbrev pub SeeTells : Type 0
SeeTells = (p : Plan) (s : State ℕ View) (id : ℕ) (v w : View) (word : ℕ) → Sits p s id v →
    SeesDone p v word (slice_index s.words word) w → ToldDone p v word (slice_index s.words word) w

abbrev pub LoadTells : Type 0
LoadTells = (p : Plan) (s : State ℕ View) (id : ℕ) (v w : View) (word : ℕ) → Sits p s id v →
    LoadsWord p v word (slice_index s.words word) w → ToldLoad p v word (slice_index s.words word) w

abbrev pub HoldTells : Type 0
HoldTells = (p : Plan) (s : State ℕ View) (id : ℕ) (v w : View) (word : ℕ) → Sits p s id v →
    HoldsWord p v word (slice_index s.words word) w → ToldHold p v word (slice_index s.words word) w

abbrev pub StoreTells : Type 0
StoreTells = (p : Plan) (s : State ℕ View) (id : ℕ) (v w : View) (word new : ℕ) → Sits p s id v →
    StoresWord p v word new w → ToldStore p v word new w

abbrev pub ExchangeTells : Type 0
ExchangeTells = (p : Plan) (s : State ℕ View) (id : ℕ) (v w : View) (word old new : ℕ) → Sits p s id v →
    ExchangesWord p v word old new (slice_index s.words word) w →
    ToldExchange p v word old new (slice_index s.words word) w

abbrev pub PublishTells : Type 0
PublishTells = (p : Plan) (s : State ℕ View) (id : ℕ) (v w : View) (word new : ℕ) → Sits p s id v →
    PublishesCount p v word new w → ToldPublish p v word new w

-- ---- steps that append a piece

-- a core's local instructions, as places of an order
abbrev pub local_piece : Own → (locals : ℕ) → List ℕ
local_piece o locals = replicate locals o.core.id

-- and its access after them
abbrev pub piece : Own → (locals : ℕ) → List ℕ
piece o locals = local_piece o locals ++ o.core.id ∷ []

-- the rule holds, seat number id has the view, and the order stands
pub record At (p : Plan) (s : State ℕ View) (id : ℕ) (v : View) (order : List ℕ) : Type 0 where
  pub rule : TableRule p s
  pub view : get_elem? s.views id ≡ some v
  pub stands : OrderStands p s.words s.views order

-- the order stands for this table
abbrev pub StandsFor : Plan → State ℕ View → List ℕ → Type 0
StandsFor p s order = OrderStands p s.words s.views order

abbrev pub LoadLaw : Type 0
LoadLaw = (p : Plan) (s : State ℕ View) (id : ℕ) (v w : View) (order : List ℕ) (word : ℕ) → At p s id v order →
    (step : LoadsWord p v word (slice_index s.words word) w) →
    StandsFor p (looked s id w) (order ++ piece step.own step.next.locals)

abbrev pub StoreLaw : Type 0
StoreLaw = (p : Plan) (s : State ℕ View) (id : ℕ) (v w : View) (order : List ℕ) (word new : ℕ) → At p s id v order →
    (step : StoresWord p v word new w) →
    StandsFor p (written s word new id w) (order ++ piece step.own step.next.locals)

-- the word is the held one
abbrev pub ExchangeLaw : Type 0
ExchangeLaw = (p : Plan) (s : State ℕ View) (id : ℕ) (v w : View) (order : List ℕ) (word old new : ℕ) →
    At p s id v order → slice_index s.words word ≡ old → (step : ExchangesWord p v word old new old w) →
    StandsFor p (written s word new id w) (order ++ piece step.own step.next.locals)

abbrev pub PublishLaw : Type 0
PublishLaw = (p : Plan) (s : State ℕ View) (id : ℕ) (v w : View) (order : List ℕ) (word new : ℕ) →
    At p s id v order → (step : PublishesCount p v word new w) →
    StandsFor p (written s word new id w) (order ++ local_piece step.own step.locals)

-- ---- steps that keep each order

abbrev pub SeeLaw : Type 0
SeeLaw = (p : Plan) (s : State ℕ View) (id : ℕ) (v w : View) (order : List ℕ) (word found : ℕ) →
    At p s id v order → SeesDone p v word found w → StandsFor p (looked s id w) order

abbrev pub HoldLaw : Type 0
HoldLaw = (p : Plan) (s : State ℕ View) (id : ℕ) (v w : View) (order : List ℕ) (word found : ℕ) →
    At p s id v order → HoldsWord p v word found w → StandsFor p (looked s id w) order

-- the word is another than the held one
abbrev pub FailLaw : Type 0
FailLaw = (p : Plan) (s : State ℕ View) (id : ℕ) (v w : View) (order : List ℕ) (word old new found : ℕ) →
    At p s id v order → found ≢ old → ExchangesWord p v word old new found w → StandsFor p (looked s id w) order

abbrev pub SplitLaw : Type 0
SplitLaw = (p : Plan) (s : State ℕ View) (id : ℕ) (v left right : View) (order : List ℕ) → At p s id v order →
    SplitsView v left right → StandsFor p (split s id left right) order

abbrev pub JoinLaw : Type 0
JoinLaw = (p : Plan) (s : State ℕ View) (id other : ℕ) (v w both left : View) (order : List ℕ) →
    At p s id v order → other ≢ id → get_elem? s.views other ≡ some w → JoinsViews v w both left →
    StandsFor p (joined s id both other left) order

-- ---- executed counts

-- the view's one core has executed n instructions more
pub record Rises (v w : View) (n : ℕ) : Type 0 where
  pub old : Own
  pub new : Own
  pub before : v.owned ≡ old ∷ []
  pub now : w.owned ≡ new ∷ []
  pub core : new.core.id ≡ old.core.id
  pub count : new.core.count ≡ old.core.count + n

abbrev pub LoadRises : Type 0
LoadRises = (p : Plan) (v w : View) (word found : ℕ) → (step : LoadsWord p v word found w) →
    Rises v w (step.next.locals + 1)

abbrev pub StoreRises : Type 0
StoreRises = (p : Plan) (v w : View) (word new : ℕ) → (step : StoresWord p v word new w) →
    Rises v w (step.next.locals + 1)

abbrev pub ExchangeRises : Type 0
ExchangeRises = (p : Plan) (v w : View) (word old new : ℕ) → (step : ExchangesWord p v word old new old w) →
    Rises v w (step.next.locals + 1)

abbrev pub PublishRises : Type 0
PublishRises = (p : Plan) (v w : View) (word new : ℕ) → (step : PublishesCount p v word new w) →
    Rises v w step.locals

-- ---- the start

-- a table with these words, before its first view has given a core to another
abbrev pub opened : Plan → (words : List ℕ) → State ℕ View
opened p words = record { words = words; homes = []; views = first_view p ∷ [] }

-- the opening memory, and a done word of 0 for each core, keep the rule
abbrev pub OpeningLaw : Type 0
OpeningLaw = (p : Plan) (words : List ℕ) → IsRecorded p →
    Opening (opening_words p.image) (length p.totals) words → TableRule p (opened p words)

-- no core that the views own has executed an instruction
abbrev pub AreIdle : List View → Type 0
AreIdle views = (id k : ℕ) (o : Own) → Owns views id k o → o.core.count ≡ 0

-- and where none has, the rule leaves the words no choice
abbrev pub FreshLaw : Type 0
FreshLaw = (p : Plan) (s : State ℕ View) → TableRule p s → AreIdle s.views →
    Opening (opening_words p.image) (length p.totals) s.words

-- ---- the end

-- the accesses of a closed table are by core, and by rising count, those of the play of a whole replay order
abbrev pub EndPlayedLaw : Type 0
EndPlayedLaw = (which : Which) (r : Recording) (e : Ended) → IsEnd (plan_of which r) e → ArePlayed which r e.touched
