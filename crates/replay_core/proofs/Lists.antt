-- What a longer list does, by what its front does.
use Rattle.std.proofs.Common.{◌≡◌, ◌↔◌, ℕ, Bool, true, false, List, [], ◌∷◌, ◌++◌, append_assoc, refl, sym, ap, subst}
use Rattle.std.proofs.Common.{◌∙◌}
use Rattle.std.specs.Prelude.{cond, Option, Some, None}
use Rattle.rtr_types.specs.declared.access.Access.{Access}
use Rattle.rv_core.specs.declared.outcome.Outcome.{Outcome}
use Rattle.rv_core.specs.Steps.{is_done}
use Rattle.replay_core.specs.Plans.{Plan}
use Rattle.replay_core.specs.Play.{Given, no_values, core_at, need_at, play, Plays, first_short, valued_place}
use Rattle.replay_core.specs.Play.{valued_touch, valued_play, valued_accesses_from}
use Rattle.replay_core.specs.Play.{ValuedPlays, valued_short}
use Rattle.replay_core.specs.Orders.{bump, counts, nought, Ready, Ordered}
use Rattle.replay_core.specs.Laws.{PlayOnLaw, AccessesOnLaw, PlaysOnLaw, OrderedOnLaw, PlacesLaw, OneMoreLaw, ShortLaw}

pub valued_on : (given : Given) (p : Plan) (s : Outcome) (xs ys : List ℕ) →
    valued_play given p s (xs ++ ys) ≡ valued_play given p (valued_play given p s xs) ys
valued_on given p s [] ys = refl
valued_on given p s (c ∷ xs) ys = valued_on given p (valued_place given p s c) xs ys

pub play_on : PlayOnLaw
play_on p s xs ys = valued_on no_values p s xs ys

pub valued_accesses_on : (given : Given) (p : Plan) (s : Outcome) (xs ys : List ℕ) →
    valued_accesses_from given p s (xs ++ ys)
    ≡ valued_accesses_from given p s xs ++ valued_accesses_from given p (valued_play given p s xs) ys
valued_accesses_on given p s [] ys = refl
valued_accesses_on given p s (c ∷ xs) ys =
    ap (λ (l : List Access). valued_touch given p s c ++ l)
    (valued_accesses_on given p (valued_place given p s c) xs ys)
    ∙ sym (append_assoc (valued_touch given p s c) (valued_accesses_from given p (valued_place given p s c) xs)
    (valued_accesses_from given p (valued_play given p (valued_place given p s c) xs) ys))

pub accesses_on : AccessesOnLaw
accesses_on p s xs ys = valued_accesses_on no_values p s xs ys

-- ---- plays

plays-front : (given : Given) (p : Plan) (s : Outcome) (xs ys : List ℕ) → ValuedPlays given p s (xs ++ ys) →
    ValuedPlays given p s xs × ValuedPlays given p (valued_play given p s xs) ys
plays-front given p s [] ys h = (tt, h)
plays-front given p s (c ∷ xs) ys h = let rest = plays-front given p (valued_place given p s c) xs ys h.1 in
    ((h.0, rest.0), rest.1)

pub valued_join : (given : Given) (p : Plan) (s : Outcome) (xs ys : List ℕ) → ValuedPlays given p s xs →
    ValuedPlays given p (valued_play given p s xs) ys →
    ValuedPlays given p s (xs ++ ys)
valued_join given p s [] ys front rest = rest
valued_join given p s (c ∷ xs) ys front rest =
    (front.0, valued_join given p (valued_place given p s c) xs ys front.1 rest)

pub plays_join : (p : Plan) (s : Outcome) (xs ys : List ℕ) → Plays p s xs → Plays p (play p s xs) ys →
    Plays p s (xs ++ ys)
plays_join p s xs ys front rest = valued_join no_values p s xs ys front rest

pub valued_plays_on : (given : Given) (p : Plan) (s : Outcome) (xs ys : List ℕ) →
    ValuedPlays given p s (xs ++ ys) ↔ (ValuedPlays given p s xs × ValuedPlays given p (valued_play given p s xs) ys)
valued_plays_on given p s xs ys = (λ h. plays-front given p s xs ys h, λ h. valued_join given p s xs ys h.0 h.1)

pub plays_on : PlaysOnLaw
plays_on p s xs ys = valued_plays_on no_values p s xs ys

-- where no place falls short before, the first that does is that of the rest
pub valued_short_on : (given : Given) (p : Plan) (s : Outcome) (xs ys : List ℕ) → ValuedPlays given p s xs →
    valued_short given p s (xs ++ ys) ≡ valued_short given p (valued_play given p s xs) ys
valued_short_on given p s [] ys h = refl
valued_short_on given p s (c ∷ xs) ys h = rw h.0 (valued_short_on given p (valued_place given p s c) xs ys h.1)

pub short_on : (p : Plan) (s : Outcome) (xs ys : List ℕ) → Plays p s xs →
    first_short p s (xs ++ ys) ≡ first_short p (play p s xs) ys
short_on p s xs ys h = valued_short_on no_values p s xs ys h

none-short : (given : Given) (p : Plan) (s : Outcome) (order : List ℕ) → ValuedPlays given p s order →
    valued_short given p s order ≡ None
none-short given p s [] h = refl
none-short given p s (c ∷ cs) h = rw h.0 (none-short given p (valued_place given p s c) cs h.1)

-- a choice that is none is of a test that fails
none-left : {A : Type 0} (b : Bool) (a : A) (o : Option A) → cond b (Some a) o ≡ None → (b ≡ false) × (o ≡ None)
none-left true a o e = absurd (cc)
none-left false a o e = (refl, e)

short-none : (given : Given) (p : Plan) (s : Outcome) (order : List ℕ) → valued_short given p s order ≡ None →
    ValuedPlays given p s order
short-none given p s [] e = tt
short-none given p s (c ∷ cs) e =
    let left = none-left (is_done (need_at p s c)) (c, (core_at s c).count)
    (valued_short given p (valued_place given p s c) cs) e in
    (left.0, short-none given p (valued_place given p s c) cs left.1)

pub valued_short_law : (given : Given) (p : Plan) (s : Outcome) (order : List ℕ) → ValuedPlays given p s order ↔
    (valued_short given p s order ≡ None)
valued_short_law given p s order = (none-short given p s order, short-none given p s order)

pub short_law : ShortLaw
short_law p s order = valued_short_law no_values p s order

-- ---- replay orders

ordered-front : (p : Plan) (f : ℕ → ℕ) (xs ys : List ℕ) → Ordered p f (xs ++ ys) → Ordered p f xs ×
    Ordered p (counts f xs) ys
ordered-front p f [] ys h = (tt, h)
ordered-front p f (c ∷ xs) ys h = let rest = ordered-front p (bump f c) xs ys h.1 in ((h.0, rest.0), rest.1)

pub ordered_join : (p : Plan) (f : ℕ → ℕ) (xs ys : List ℕ) → Ordered p f xs → Ordered p (counts f xs) ys →
    Ordered p f (xs ++ ys)
ordered_join p f [] ys front rest = rest
ordered_join p f (c ∷ xs) ys front rest = (front.0, ordered_join p (bump f c) xs ys front.1 rest)

pub ordered_on : OrderedOnLaw
ordered_on p f xs ys = (λ h. ordered-front p f xs ys h, λ h. ordered_join p f xs ys h.0 h.1)

pub one_more : OneMoreLaw
one_more p order c h = (
  λ more. (ordered-front p nought order (c ∷ []) more).1.0,
  λ ready. ordered_join p nought order (c ∷ []) h (ready, tt),
)

each-ready : (p : Plan) (f : ℕ → ℕ) (order front : List ℕ) (c : ℕ) (rest : List ℕ) → Ordered p f order →
    order ≡ front ++ c ∷ rest → Ready p (counts f front) c
each-ready p f order front c rest h split =
    (ordered-front p f front (c ∷ rest) (subst (λ (l : List ℕ). Ordered p f l) split h)).1.0

ready-each : (p : Plan) (f : ℕ → ℕ) (order : List ℕ) →
    ((front : List ℕ) (c : ℕ) (rest : List ℕ) → order ≡ front ++ c ∷ rest → Ready p (counts f front) c) →
    Ordered p f order
ready-each p f [] each = tt
ready-each p f (c ∷ cs) each = (
  each [] c cs refl,
  ready-each p (bump f c) cs
      (λ front d rest split. each (c ∷ front) d rest (ap (λ (l : List ℕ). c ∷ l) split)),
)

pub places_law : PlacesLaw
places_law p order = (λ h front c rest split. each-ready p nought order front c rest h split, ready-each p nought order)
