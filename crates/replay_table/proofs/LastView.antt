-- What the last view knows, and what the play of its order leaves.
use Rattle.std.proofs.Common.{◌≡◌, ℕ, subst, zero, suc, ◌+◌, ◌<◌, ◌⊎◌, inl, inr, ⊎_elim, List, [], ◌∷◌, ◌++◌, length}
use Rattle.std.proofs.Common.{map, reverse, sym, refl, ap, ◌∙◌, arith, append_assoc}
use Rattle.std.proofs.lemmas.List.{reverse-append}
use Rattle.std.proofs.lemmas.List.FromFn.{length-map-range_with_len, get_or-map-range_with_len}
use Rattle.std.specs.Prelude.{slice_get, Some, slice_index, slice_index_or}
use Rattle.std.specs.List.{range_with_len}
use mathlib.Core.Option.{some, some-injective, some-ne-none}
use lib.ListN.{get_elem?}
use native.Mathlib.Decide.{dec_lt}
use Rattle.atomic_table.specs.Table.{State}
use Rattle.atomic_table.specs.Seated.{TableId}
use Rattle.atomic_table.proofs.Lists.{at_longer}
use Rattle.rv_core.specs.declared.core_state.Core.{Core}
use Rattle.rv_core.specs.declared.outcome.LoadNote.{LoadNote}
use Rattle.rv_core.specs.States.{starting}
use Rattle.rv_core.proofs.Outcomes.{outcome_eq}
use Rattle.replay_core.specs.Plans.{Plan}
use Rattle.replay_core.specs.Play.{core_at, loads_at, played, accesses_of}
use Rattle.replay_core.specs.Orders.{counts, nought}
use Rattle.replay_core.proofs.Places.{play_law}
use Rattle.replay_table.specs.declared.view.Own.{Own}
use Rattle.replay_audit.specs.declared.touch.Touch.{Touch}
use Rattle.replay_table.specs.declared.view.View.{View}
use Rattle.replay_table.specs.Accesses.{touches_by}
use Rattle.replay_table.specs.Rule.{Agrees, TableRule}
use Rattle.replay_table.specs.Kinds.{both}
use Rattle.replay_table.specs.Seats.{Sitting, AllAt, AllEnded, Finished, Has, Gathered, Adds, Taken, Ended, IsEnd}
use Rattle.replay_table.proofs.ViewCuts.{at_later}
use Rattle.replay_table.proofs.FirstView.{get_end}
use Rattle.replay_table.proofs.Openings.{index_before, index_end}

-- ---- lists

get-last : {A : Type 0} → (xs : List A) (a : A) → slice_get (xs ++ a ∷ []) (length xs) ≡ Some a
get-last [] a = refl
get-last (x ∷ xs) a = get-last xs a

get-longer : {A : Type 0} → (xs : List A) (a x : A) (k : ℕ) → slice_get xs k ≡ Some x → slice_get (xs ++ a ∷ []) k ≡
    Some x
get-longer [] a x k e = absurd cc
get-longer (y ∷ ys) a x zero e = e
get-longer (y ∷ ys) a x (suc k) e = get-longer ys a x k e

pub get-none : {A : Type 0} → (x : A) (k : ℕ) → slice_get [] k ≡ Some x → ⊥
get-none x k e = cc

get-some : {A : Type 0} → (xs : List A) (k : ℕ) → k < length xs → (x : A) × (slice_get xs k ≡ Some x)
get-some [] k h = absurd (omega arith)
get-some (x ∷ xs) zero h = (x, refl)
get-some (x ∷ xs) (suc k) h = get-some xs k (omega arith)

map-get : {A B : Type 0} → (f : A → B) (xs : List A) (k : ℕ) (x : A) (d : B) → slice_get xs k ≡ Some x
    → slice_index_or (map f xs) k d ≡ f x
map-get f [] k x d e = absurd cc
map-get f (y ∷ ys) zero x d e = let q : y ≡ x = cc in ap f q
map-get f (y ∷ ys) (suc k) x d e = map-get f ys k x d e

length-map' : {A B : Type 0} → (f : A → B) (xs : List A) → length (map f xs) ≡ length xs
length-map' f [] = refl
length-map' f (x ∷ xs) = ap suc (length-map' f xs)

map-end : {A B : Type 0} → (f : A → B) (xs : List A) (a : A) → map f (xs ++ a ∷ []) ≡ map f xs ++ f a ∷ []
map-end f [] a = refl
map-end f (x ∷ xs) a = ap (λ (l : List _). f x ∷ l) (map-end f xs a)

-- lists that have the same at each place
same-list : {A : Type 0} → (xs ys : List A) (d : A) → length xs ≡ length ys
    → ((k : ℕ) → k < length xs → slice_index_or xs k d ≡ slice_index_or ys k d)
    → xs ≡ ys
same-list [] [] d e h = refl
same-list [] (y ∷ ys) d e h = absurd (omega arith)
same-list (x ∷ xs) [] d e h = absurd (omega arith)
same-list (x ∷ xs) (y ∷ ys) d e h =
    ap (λ (a : _). a ∷ xs) (h zero (omega arith)) ∙ ap (λ (l : List _). y ∷ l)
    (same-list xs ys d (omega arith) (λ k lt. h (suc k) (omega arith)))

-- ---- the views that are taken in

has-left : (v w : View) (o : Own) → Has v o → Has (both v w) o
has-left v w o h = (h.0, at_longer v.owned w.owned h.0 o h.1)

has-right : (v w : View) (o : Own) → Has w o → Has (both v w) o
has-right v w o h = (length v.owned + h.0, at_later v.owned w.owned h.0 o h.1)

pub gather_table : (t : TableId) (xs rest : List Sitting) (y : Sitting) → xs ≡ rest ++ y ∷ [] → AllAt t xs
    → y.table_id ≡ t
gather_table t xs rest y e all = all (length rest) y (subst (λ (l : List Sitting). slice_get l (length rest) ≡ Some y)
    (sym e) (get-last rest y))

pub gather_rest : (t : TableId) (xs rest : List Sitting) (y : Sitting) → xs ≡ rest ++ y ∷ [] → AllAt t xs → AllAt t rest
gather_rest t xs rest y e all k x h = all k x
    (subst (λ (l : List Sitting). slice_get l k ≡ Some x) (sym e) (get-longer rest y x k h))

pub gather_kept : (v0 v w : View) → ((o : Own) → Has v0 o → Has v o) → (o : Own) → Has v0 o → Has (both v w) o
gather_kept v0 v w h o ow = has-left v w o (h o ow)

pub gather_joined : (xs0 xs rest : List Sitting) (y : Sitting) (v : View) → xs ≡ rest ++ y ∷ []
    → ((k : ℕ) (x : Sitting) (o : Own) → slice_get xs0 k ≡ Some x → Has x.view o → (slice_get xs k ≡ Some x) ⊎ Has v o)
    → (k : ℕ) (x : Sitting) (o : Own) → slice_get xs0 k ≡ Some x → Has x.view o → (slice_get rest k ≡ Some x)
    ⊎ Has (both v y.view) o
gather_joined xs0 xs rest y v e h k x o is ow =
    ⊎_elim
    (λ t. ⊎_elim
    (λ u. inl u)
    (λ u. inr (has-right v y.view o (subst (λ (z : Sitting). Has z.view o) (sym u.1) ow)))
    (get_end rest y x k (subst (λ (l : List Sitting). slice_get l k ≡ Some x) e t)))
    (λ t. inr (has-left v y.view o t))
    (h k x o is ow)

pub gather_done : (v0 v : View) (xs0 xs : List Sitting) → xs ≡ [] → ((o : Own) → Has v0 o → Has v o)
    → ((k : ℕ) (x : Sitting) (o : Own) → slice_get xs0 k ≡ Some x → Has x.view o → (slice_get xs k ≡ Some x)
    ⊎ Has v o) → Gathered v0 xs0 v
gather_done v0 v xs0 xs e kept joined = record {
  kept = kept;
  each = λ k x o is ow. ⊎_elim (λ t. absurd (get-none x k (subst (λ (l : List Sitting). slice_get l k ≡ Some x) e t)))
      (λ t. t) (joined k x o is ow);
}

-- a seat that is left has ended as all have
pub gather_ended : (p : Plan) (xs rest : List Sitting) (y : Sitting) → xs ≡ rest ++ y ∷ [] → AllEnded p xs
    → (y.core.count ≡ slice_index p.totals y.core.id) × AllEnded p rest
gather_ended p xs rest y e all = (
  all (length rest) y (subst (λ (l : List Sitting). slice_get l (length rest) ≡ Some y) (sym e) (get-last rest y)),
  λ k x h. all k x (subst (λ (l : List Sitting). slice_get l k ≡ Some x) (sym e) (get-longer rest y x k h)),
)

pub all_ended : (p : Plan) (table : TableId) (seats : List Sitting) → Finished p table seats → AllEnded p seats
all_ended p table seats f k x h = f.totals k x h ∙ ap (λ (i : ℕ). slice_index p.totals i) (sym (f.ids k x h))

pub none_left : {A : Type 0} (xs : List A) → length xs ≡ 0 → xs ≡ []
none_left [] e = refl
none_left (x ∷ xs) e = absurd (omega arith)

-- ---- the parts that are taken

-- the seats that are left, and the parts of the others
abbrev pub Left : List Sitting → List Sitting → Taken → Taken → Type 0
Left all left old new =
    (map (λ (x : Sitting). x.core) left ++ reverse new.cores ≡ map (λ (x : Sitting). x.core) all ++ reverse old.cores)
    × (map (λ (x : Sitting). x.loads) left ++ reverse new.loads ≡ map (λ (x : Sitting). x.loads) all
    ++ reverse old.loads)
    × (map (λ (x : Sitting). x.touched) left ++ reverse new.touched ≡ map (λ (x : Sitting). x.touched) all
    ++ reverse old.touched)

left-one : {A B : Type 0} → (f : A → B) (xs rest : List A) (y : A) (b : B) (zs zs' : List B) → xs ≡ rest ++ y ∷ []
    → b ≡ f y → zs' ≡ zs ++ b ∷ []
    → map f rest ++ reverse zs' ≡ map f xs ++ reverse zs
left-one f xs rest y b zs zs' e same put =
    ap (λ (l : List _). map f rest ++ reverse l) put ∙ ap (λ (l : List _). map f rest ++ l) (reverse-append zs (b ∷ []))
    ∙ sym (append_assoc (map f rest) (b ∷ []) (reverse zs))
    ∙ ap (λ (z : _). (map f rest ++ z ∷ []) ++ reverse zs) same
    ∙ ap (λ (l : List _). l ++ reverse zs) (sym (map-end f rest y) ∙ ap (λ (l : List _). map f l) (sym e))

pub left_more : (all xs rest : List Sitting) (y : Sitting) (core : Core) (notes : List LoadNote) (ts : List Touch)
    (old new new' : Taken)
    → xs ≡ rest ++ y ∷ [] → core ≡ y.core → notes ≡ y.loads → ts ≡ y.touched
    → new'.cores ≡ new.cores ++ core ∷ [] → new'.loads ≡ new.loads ++ notes ∷ [] → new'.touched ≡ new.touched
    ++ ts ∷ [] → Left all xs old new
    → Left all rest old new'
left_more all xs rest y core notes ts old new new' e a b d cores loads touched h = (
  left-one (λ (x : Sitting). x.core) xs rest y core new.cores new'.cores e a cores ∙ h.0,
  left-one (λ (x : Sitting). x.loads) xs rest y notes new.loads new'.loads e b loads ∙ h.1,
  left-one (λ (x : Sitting). x.touched) xs rest y ts new.touched new'.touched e d touched ∙ h.2,
)

pub left_none : (all xs : List Sitting) (old new : Taken) → xs ≡ [] → Left all xs old new → Adds all old new
left_none all xs old new e h =
    let q : Left all [] old new = subst (λ (l : List Sitting). Left all l old new) e h in
    record { cores = q.0; loads = q.1; touched = q.2 }

-- ---- the end

-- the parts of all seats
pub record Whole (seats : List Sitting) (e : Ended) : Type 0 where
  pub cores : e.outcome.cores ≡ map (λ (x : Sitting). x.core) seats
  pub loads : e.outcome.loads ≡ map (λ (x : Sitting). x.loads) seats
  pub touched : e.touched ≡ map (λ (x : Sitting). x.touched) seats

-- what the order that stood leaves of a seat's core
record AtEnd (p : Plan) (order : List ℕ) (k : ℕ) (x : Sitting) : Type 0 where
  pub count : counts nought order k ≡ x.core.count
  pub core : core_at (played p order) k ≡ x.core
  pub loads : loads_at (played p order) k ≡ x.loads
  pub touched : touches_by k (accesses_of p order) ≡ x.touched

at-end : (p : Plan) (table : TableId) (seats rest : List Sitting) (last : Sitting) (v : View) (id : ℕ)
    (s : State ℕ View) → Finished p table seats
    → seats ≡ rest ++ last ∷ [] → Gathered last.view rest v → (h : TableRule p s) → get_elem? s.views id ≡ some v
    → (k : ℕ) (x : Sitting) → slice_get seats k ≡ Some x → AtEnd p h.order.0 k x
at-end p table seats rest last v id s f split g h at k x has =
    let r = f.rest k x has in
    let order = h.order.0 in
    let mine : Has x.view r.own = (0, subst (λ (l : List Own). get_elem? l 0 ≡ some r.own) (sym r.owned) refl) in
    let all : Has v r.own = ⊎_elim (λ u. g.each k x r.own u mine)
    (λ u. g.kept r.own (subst (λ (z : Sitting). Has z.view r.own) (sym u.1) mine))
    (get_end rest last x k (subst (λ (l : List Sitting). slice_get l k ≡ Some x) split has)) in
    let a : Agrees p order r.own = h.order.1.cores id all.0 r.own (v, at, all.1) in
    let here : k ≡ r.own.core.id = sym (f.ids k x has) ∙ ap (λ (c : Core). c.id) (sym r.core) in
    record {
      count = ap (λ (i : ℕ). counts nought order i) here ∙ a.count ∙ ap (λ (c : Core). c.count) r.core;
      core = ap (λ (i : ℕ). core_at (played p order) i) here ∙ a.core ∙ r.core;
      loads = ap (λ (i : ℕ). loads_at (played p order) i) here ∙ a.loads ∙ r.loads;
      touched = ap (λ (i : ℕ). touches_by i (accesses_of p order)) here ∙ a.touched ∙ r.touched;
    }

get-below : {A : Type 0} → (xs : List A) (k : ℕ) (x : A) → slice_get xs k ≡ Some x → {n : ℕ} → length xs ≡ n → k < n
get-below [] k x e len = absurd (get-none x k e)
get-below (y ∷ ys) zero x e len = omega arith
get-below (y ∷ ys) (suc k) x e len = let b = get-below ys k x e refl in omega arith

-- the same in each list of parts
parts-same : {B : Type 0} → (f : Sitting → B) (seats : List Sitting) (ys : List B) (d : B) → length seats ≡ length ys
    → ((k : ℕ) (x : Sitting) → slice_get seats k ≡ Some x → slice_index_or ys k d ≡ f x) → map f seats ≡ ys
parts-same f seats ys d all same =
    let n = length-map' f seats in
    same-list (map f seats) ys d (n ∙ all) (λ k lt. let x = get-some seats k (omega arith) in
    map-get f seats k x.0 d x.1 ∙ sym (same k x.0 x.1))

pub end_is : (plan : Plan) (table : TableId) (seats rest : List Sitting) (last : Sitting) (view : View) (words : List ℕ)
    (id : ℕ) (state : State ℕ View) (ended : Ended)
    → Finished plan table seats → seats ≡ rest ++ last ∷ [] → Gathered last.view rest view → TableRule plan state
    → get_elem? state.views id ≡ some view → state.words ≡ words
    → Whole seats ended → length ended.outcome.words ≡ plan.image.words
    → ((i : ℕ) → i < plan.image.words → slice_index ended.outcome.words i ≡ slice_index words i)
    → IsEnd plan ended
end_is plan table seats rest last view words id state ended finished split gathered holds at is parts wide same =
    let st = holds.order.1 in
    let order = holds.order.0 in
    let known = play_law plan order st.ordered in
    let n = finished.all in
    let ends : (k : ℕ) (x : Sitting) → slice_get seats k ≡ Some x → AtEnd plan order k x =
    at-end plan table seats rest last
    view id state finished split gathered holds at in
    let accesses : ℕ → List Touch = λ c. touches_by c (accesses_of plan order) in
    let wide' = length-map-range_with_len accesses 0 (length plan.totals) in
    record {
      order = order;
      play = record {
        ordered = st.ordered;
        plays = st.plays;
        whole = record {
          each = λ c lt. let x = get-some seats c (omega arith) in
              (ends c x.0 x.1).count ∙ finished.totals c x.0 x.1;
        };
      };
      outcome = outcome_eq ended.outcome (played plan order)
          (parts.cores ∙ parts-same (λ (x : Sitting). x.core) seats (played plan order).cores (starting 0 0)
          (n ∙ sym known.all_cores)
          (λ k x has. (ends k x has).core))
          (same-list ended.outcome.words (played plan order).words 0 (wide ∙ sym known.all_words)
          (λ i lt. let below : i < plan.image.words = omega arith in
          same i below ∙ ap (λ (l : List ℕ). slice_index l i) (sym is) ∙ st.memory i below))
          (parts.loads ∙ parts-same (λ (x : Sitting). x.loads) seats (played plan order).loads []
          (n ∙ sym known.all_loads) (λ k x has. (ends k x has).loads));
      touched = parts.touched ∙ parts-same (λ (x : Sitting). x.touched) seats
          (map accesses (range_with_len 0 (length plan.totals))) [] (n ∙ sym wide')
          (λ k x has. let lt : k < length plan.totals = get-below seats k x has n in
          get_or-map-range_with_len accesses 0 (length plan.totals) k k [] lt
          (omega arith) ∙ (ends k x has).touched);
    }

-- ---- the words that are read

pub index_of : (l : List ℕ) (i x : ℕ) → get_elem? l i ≡ some x → slice_index l i ≡ x
index_of [] i x e = absurd (some-ne-none x (sym e))
index_of (y ∷ ys) zero x e = some-injective y x e
index_of (y ∷ ys) (suc i) x e = index_of ys i x e

pub index_more : (xs ys l : List ℕ) (n a : ℕ) → ys ≡ xs ++ a ∷ [] → length xs ≡ n
    → ((i : ℕ) → i < n → slice_index xs i ≡ slice_index l i) → slice_index l n ≡ a
    → (i : ℕ) → i < n + 1 → slice_index ys i ≡ slice_index l i
index_more xs ys l n a e len same at i h =
    let q = ap (λ (z : List ℕ). slice_index z i) e in
    elim (dec_lt i n) [
      | yes lt ↦ q ∙ index_before xs a i (omega arith) ∙ same i lt
      | no ge ↦ let is : i ≡ length xs = omega arith in let is' : i ≡ n = omega arith in
          q ∙ ap (λ (j : ℕ). slice_index (xs ++ a ∷ []) j) is ∙ index_end xs a ∙ sym at
          ∙ ap (λ (j : ℕ). slice_index l j) (sym is')
    ]

-- ---- the parts of all seats, the last seat's put first

pub whole_by : {A B : Type 0} → (f : A → B) (seats rest : List A) (last : A) (old put new : List B) (b : B)
    → seats ≡ rest ++ last ∷ [] → old ≡ []
    → put ≡ old ++ b ∷ [] → b ≡ f last → reverse new ≡ map f rest ++ reverse put → reverse new ≡ map f seats
whole_by f seats rest last old put new b split none is same h =
    h ∙ ap (λ (l : List _). map f rest ++ reverse l) (is ∙ ap (λ (l : List _). l ++ b ∷ []) none)
    ∙ ap (λ (z : _). map f rest ++ z ∷ []) same ∙ sym (map-end f rest last) ∙ ap (λ (l : List _). map f l) (sym split)
