-- Turns of picks have these picked again, by the policy of turns too.
use Rattle.std.proofs.Common.{◌≡◌, ◌∙◌, refl, sym, ap, subst, ℕ, zero, suc, ◌<◌, ◌≤◌, ◌+◌, ◌-◌, Bool, true, false}
use Rattle.std.proofs.Common.{List, [], ◌∷◌, ◌++◌, append_assoc, arith, get_or, drop, length}
use Rattle.std.specs.Prelude.{◌&&◌, nat_lt, replicate, if◌then◌else◌}
use Rattle.std.proofs.lemmas.Bool.{eqb-true, lt-ltb}
use Rattle.std.proofs.lemmas.List.{at_drop_all, at_drop_more, replicate_more}
use Rattle.rtr_types.proofs.Lists.{cons-head, cons-rest}
use Rattle.turn_lists.specs.Actors.{is_same}
use Rattle.turn_lists.specs.declared.actor.Actor.{Actor}
use Rattle.turn_lists.specs.declared.actor.Actor.TheVariants.{Buffer, Core}
use Rattle.turn_lists.specs.declared.actor.TheConstants.{COUNT_MAX}
use Rattle.turn_lists.specs.declared.actor.Turn.{Turn}
use Rattle.turn_policies.specs.Listed.{is_listed}
use Rattle.turn_policies.specs.PickedTurns.{one_pick, picks_of, takes_in, turns_behind, turns_of_picks}
use Rattle.turn_policies.specs.TurnByTurn.{TurnsLeft, turn_pick, turn_picked, turns_going}
use Rattle.turn_policies.specs.declared.actor_set.ActorSet.{ActorSet}

-- two that are one actor are the same
pub same_is : (a b : Actor) → is_same a b ≡ true → a ≡ b
same_is (Core c) (Core d) is = ap Core (eqb-true c d is)
same_is (Core c) (Buffer d) is = absurd cc
same_is (Buffer c) (Core d) is = absurd cc
same_is (Buffer c) (Buffer d) is = ap Buffer (eqb-true c d is)

-- ---- one pick on

behind_in : (t : Turn) (a : Actor) (bs : List Actor) → takes_in t a ≡ true →
    turns_behind t (a ∷ bs) ≡ turns_behind (record t { count = t.count + 1 }) bs
behind_in t a bs takes = rw takes refl

behind_out : (t : Turn) (a : Actor) (bs : List Actor) → takes_in t a ≡ false →
    turns_behind t (a ∷ bs) ≡ t ∷ turns_behind (one_pick a) bs
behind_out t a bs over = rw over refl

pub one_in : (turns : List Turn) (last new : Turn) (rest : List Actor) (i : ℕ) (d : Actor) → i < length rest →
    takes_in last (get_or rest i d) ≡ true → new ≡ record last { count = last.count + 1 } →
    turns ++ turns_behind last (drop i rest) ≡ turns ++ turns_behind new (drop (i + 1) rest)
one_in turns last new rest i d within takes is =
    ap (λ (ts : List Turn). turns ++ ts) (at_drop_more (turns_behind last) rest i d within
    ∙ behind_in last (get_or rest i d) (drop (i + 1) rest) takes
    ∙ ap (λ (t : Turn). turns_behind t (drop (i + 1) rest)) (sym is))

pub one_out : (turns : List Turn) (last : Turn) (rest : List Actor) (i : ℕ) (d : Actor) → i < length rest →
    takes_in last (get_or rest i d) ≡ false →
    turns ++ turns_behind last (drop i rest)
    ≡ (turns ++ last ∷ []) ++ turns_behind (one_pick (get_or rest i d)) (drop (i + 1) rest)
one_out turns last rest i d within over =
    ap (λ (ts : List Turn). turns ++ ts) (at_drop_more (turns_behind last) rest i d within
    ∙ behind_out last (get_or rest i d) (drop (i + 1) rest) over)
    ∙ sym (append_assoc turns (last ∷ []) (turns_behind (one_pick (get_or rest i d)) (drop (i + 1) rest)))

pub none_behind : (turns : List Turn) (last : Turn) (rest : List Actor) (i : ℕ) → length rest ≤ i →
    turns ++ turns_behind last (drop i rest) ≡ turns ++ last ∷ []
none_behind turns last rest i past = ap (λ (ts : List Turn). turns ++ ts) (at_drop_all (turns_behind last) rest i past)

-- ---- the same picks again

-- one more, and then others
one_more : (n : ℕ) (a b : Actor) (bs : List Actor) → a ≡ b → replicate (n + 1) a ++ bs ≡ replicate n a ++ b ∷ bs
one_more n a b bs is =
    ap (λ (l : List Actor). l ++ bs) (sym (replicate_more n a)) ∙ append_assoc (replicate n a) (a ∷ []) bs
    ∙ ap (λ (x : Actor). replicate n a ++ x ∷ bs) is

first_test : (p q : Bool) → (p && q) ≡ true → p ≡ true
first_test true q both = refl
first_test false q both = absurd cc

picked_behind : (t : Turn) (bs : List Actor) → picks_of (turns_behind t bs) ≡ replicate t.count t.actor ++ bs
picked_behind t [] = refl
picked_behind t (a ∷ bs) =
    by (takes_in t a) refl (picked_behind (record t { count = t.count + 1 }) bs) (picked_behind (one_pick a) bs)
  where
    by : (b : Bool) → takes_in t a ≡ b →
        picks_of (turns_behind (record t { count = t.count + 1 }) bs) ≡ replicate (t.count + 1) t.actor ++ bs →
        picks_of (turns_behind (one_pick a) bs) ≡ a ∷ bs →
        picks_of (turns_behind t (a ∷ bs)) ≡ replicate t.count t.actor ++ a ∷ bs
    by true takes longer next =
        ap picks_of (behind_in t a bs takes) ∙ longer
        ∙ one_more t.count t.actor a bs
        (same_is t.actor a (first_test (is_same t.actor a) (nat_lt t.count COUNT_MAX) takes))
    by false over longer next =
        ap picks_of (behind_out t a bs over) ∙ ap (λ (l : List Actor). replicate t.count t.actor ++ l) next

pub picked_again : (bs : List Actor) → picks_of (turns_of_picks bs) ≡ bs
picked_again [] = refl
picked_again (a ∷ bs) = picked_behind (one_pick a) bs

-- ---- by the policy of turns

going_by : (set : ActorSet) (t : Turn) (ts : List Turn) (b : Bool) →
    (nat_lt 0 t.count && is_listed set t.actor) ≡ b →
    turns_going set (t ∷ ts) ≡ (if b then t ∷ ts else turns_going set ts)
going_by set t ts b is = ap (λ (c : Bool). if c then t ∷ ts else turns_going set ts) is

-- of the turns that go on this actor is picked, and then these are left to be picked
abbrev IsPicked : TurnsLeft → ActorSet → Actor → List Actor → List Turn → Type 0
IsPicked s set a bs going = (turn_pick s set going ≡ a) × (picks_of (turn_picked s set going).turns ≡ bs)

-- the next of the turns' picks may act: it is picked, and then the others are left
goes : (set : ActorSet) (t : Turn) (a : Actor) → 0 < t.count → t.actor ≡ a → is_listed set a ≡ true →
    (nat_lt 0 t.count && is_listed set t.actor) ≡ true
goes set t a some is may = rw (lt-ltb 0 t.count some, is, may) refl

-- the next of the turns' picks may act: it is picked, and then the others are left
pub picks_next : (s : TurnsLeft) (set : ActorSet) (a : Actor) (bs : List Actor) (ts : List Turn) →
    picks_of ts ≡ a ∷ bs → is_listed set a ≡ true → IsPicked s set a bs (turns_going set ts)
picks_next s set a bs [] is may = absurd (omega (arith, ap length is))
picks_next s set a bs (t ∷ ts) is may = by t.count refl (λ rest. picks_next s set a bs ts rest may)
  where
    by : (n : ℕ) → t.count ≡ n → (picks_of ts ≡ a ∷ bs → IsPicked s set a bs (turns_going set ts)) →
        IsPicked s set a bs (turns_going set (t ∷ ts))
    by zero none later =
        let off : (nat_lt 0 t.count && is_listed set t.actor) ≡ false =
        ap (λ (n : ℕ). nat_lt 0 n && is_listed set t.actor) none in
        let rest : picks_of ts ≡ a ∷ bs =
        ap (λ (n : ℕ). replicate n t.actor ++ picks_of ts) (sym none) ∙ is in
        subst (IsPicked s set a bs) (sym (going_by set t ts false off)) (later rest)
    by (suc n) some later =
        let whole : t.actor ∷ (replicate n t.actor ++ picks_of ts) ≡ a ∷ bs =
        ap (λ (k : ℕ). replicate k t.actor ++ picks_of ts) (sym some) ∙ is in
        let head : t.actor ≡ a = cons-head t.actor a (replicate n t.actor ++ picks_of ts) bs whole in
        let rest : replicate n t.actor ++ picks_of ts ≡ bs =
        cons-rest t.actor a (replicate n t.actor ++ picks_of ts) bs whole in
        let one : t.count - 1 ≡ n = omega (arith, some) in
        let left : replicate (t.count - 1) t.actor ++ picks_of ts ≡ replicate n t.actor ++ picks_of ts =
        ap (λ (k : ℕ). replicate k t.actor ++ picks_of ts) one in
        subst (IsPicked s set a bs) (sym (going_by set t ts true (goes set t a (omega (arith, some)) head may)))
        (head, left ∙ rest)
