-- Ranks that change, step by step.
use Rattle.std.proofs.Common.{◌≡◌, ◌∙◌, refl, sym, ap, subst, ℕ, zero, suc, ◌<◌, ◌≤◌, ◌+◌, ◌-◌, Bool, true, false}
use Rattle.std.proofs.Common.{List, [], ◌∷◌, ◌++◌, length, get_or, set, take, drop, arith}
use Rattle.std.specs.Prelude.{map}
use Rattle.std.proofs.lemmas.List.{append_assoc, at_drop_more, drop_at, drop_more, get_or_at, length-append, length-map}
use Rattle.std.proofs.lemmas.List.{length-take-le, map_more, set_at, take-append-drop, take_at, take_more}
use Rattle.rand_pcg.specs.Lcg.{Lcg}
use Rattle.turn_lists.specs.Actors.{is_same}
use Rattle.turn_lists.specs.declared.actor.Actor.{Actor}
use Rattle.turn_lists.specs.declared.actor.Actor.TheVariants.{Core}
use Rattle.turn_policies.specs.declared.actor_set.ActorSet.{ActorSet}
use Rattle.turn_policies.specs.Ranked.{drawn_points, exchanged, greatest_of, lowered, lowered_times, shuffled}
use Rattle.turn_policies.specs.Walks.{after_word, drawn}

-- ---- a list changed item by item

module _ {X : Type 0} (f : X → X) (xs : List X) (i : ℕ) (d : X) (within : i < length xs) where
  front_long : length (map f (take i xs)) ≡ i
  front_long = length-map (take i xs) f ∙ length-take-le i xs (omega (arith, within))

  split : (ys : List X) → ys ≡ map f (take i xs) ++ drop i xs →
      ys ≡ map f (take i xs) ++ get_or xs i d ∷ drop (i + 1) xs
  split ys is = is ∙ ap (λ (zs : List X). map f (take i xs) ++ zs) (drop_more xs i d within)

  pub changed_at : (ys : List X) (e : X) → ys ≡ map f (take i xs) ++ drop i xs → get_or ys i e ≡ get_or xs i d
  changed_at ys e is =
      ap (λ (zs : List X). get_or zs i e) (split ys is)
      ∙ get_or_at (map f (take i xs)) (get_or xs i d) (drop (i + 1) xs) e i front_long

  pub changed_on : (ys : List X) (new : X) → ys ≡ map f (take i xs) ++ drop i xs → new ≡ f (get_or xs i d) →
      set ys i new ≡ map f (take (i + 1) xs) ++ drop (i + 1) xs
  changed_on ys new is made =
      (λ j. set (split ys is j) i (made j))
      ∙ set_at (map f (take i xs)) (get_or xs i d) (drop (i + 1) xs) (f (get_or xs i d)) i front_long
      ∙ sym (append_assoc (map f (take i xs)) (f (get_or xs i d) ∷ []) (drop (i + 1) xs))
      ∙ ap (λ (zs : List X). zs ++ drop (i + 1) xs) (sym (map_more f xs i d within))

-- ---- counting down

pub shuffled_step : (actors : List Actor) (k j : ℕ) (words : Lcg) (order : List Actor) → k ≡ suc j →
    shuffled actors k words order
    ≡ shuffled actors j (after_word words)
    (exchanged (get_or actors k (Core 0)) (get_or actors (drawn (k + 1) words) (Core 0)) order)
shuffled_step actors k j words order is =
    let P : ℕ → Type 0 = λ n. shuffled actors n words order
    ≡ shuffled actors j (after_word words)
    (exchanged (get_or actors n (Core 0)) (get_or actors (drawn (n + 1) words) (Core 0)) order) in
    subst P (sym is) refl

pub points_step : (k j x : ℕ) (words : Lcg) → k ≡ suc j →
    drawn_points k x words ≡ (drawn x words + 1) ∷ drawn_points j x (after_word words)
points_step k j x words is = ap (λ (n : ℕ). drawn_points n x words) is

pub lowered_step : (k j : ℕ) (actors : ActorSet) (order : List Actor) → k ≡ suc j →
    lowered_times k actors order ≡ lowered_times j actors (lowered (greatest_of order actors) order)
lowered_step k j actors order is = ap (λ (n : ℕ). lowered_times n actors order) is

-- ---- one actor lowered

lowered_same : (actor a : Actor) (order : List Actor) → is_same a actor ≡ true →
    lowered actor (a ∷ order) ≡ order ++ a ∷ []
lowered_same actor a order same = rw same refl

-- it stands at place i and changes places with the next one
pub lower_past : (actor : Actor) (order new : List Actor) (i j : ℕ) (d : Actor) → j ≡ i + 1 → j < length order →
    is_same (get_or order i d) actor ≡ true →
    new ≡ set (set order i (get_or order j d)) j (get_or order i d) →
    take i order ++ lowered actor (drop i order) ≡ take j new ++ lowered actor (drop j new)
lower_past actor order new i j d next within same is =
    let x = get_or order i d in
    let y = get_or order j d in
    let p = take i order in
    let ys = drop (j + 1) order in
    let long : length p ≡ i = length-take-le i order (omega arith) in
    let tail : drop (i + 1) order ≡ y ∷ ys = ap (λ (n : ℕ). drop n order) (sym next) ∙ drop_more order j d within in
    let rest : drop i order ≡ x ∷ y ∷ ys =
    drop_more order i d (omega arith) ∙ ap (λ (zs : List Actor). x ∷ zs) tail in
    let whole : order ≡ p ++ x ∷ y ∷ ys =
    sym (take-append-drop i order) ∙ ap (λ (zs : List Actor). p ++ zs) rest in
    let one : set order i y ≡ p ++ y ∷ y ∷ ys =
    ap (λ (zs : List Actor). set zs i y) whole ∙ set_at p x (y ∷ ys) y i long in
    let more = length-append p (y ∷ []) in
    let longer : length (p ++ y ∷ []) ≡ j = omega (arith, more, long, next) in
    let two : new ≡ (p ++ y ∷ []) ++ x ∷ ys =
    is ∙ ap (λ (zs : List Actor). set zs j x) (one ∙ sym (append_assoc p (y ∷ []) (y ∷ ys)))
    ∙ set_at (p ++ y ∷ []) y ys x j longer in
    let front : take j new ≡ p ++ y ∷ [] =
    ap (λ (zs : List Actor). take j zs) two ∙ take_at (p ++ y ∷ []) (x ∷ ys) j longer in
    let back : drop j new ≡ x ∷ ys =
    ap (λ (zs : List Actor). drop j zs) two ∙ drop_at (p ++ y ∷ []) (x ∷ ys) j longer in
    ap (λ (zs : List Actor). p ++ lowered actor zs) rest
    ∙ ap (λ (zs : List Actor). p ++ zs) (lowered_same actor x (y ∷ ys) same)
    ∙ sym (append_assoc p (y ∷ []) (ys ++ x ∷ []))
    ∙ ap (λ (zs : List Actor). (p ++ y ∷ []) ++ zs) (sym (lowered_same actor x ys same))
    ∙ sym (λ k. front k ++ lowered actor (back k))

-- another one stands there
pub lower_over : (actor : Actor) (order : List Actor) (i j : ℕ) (d : Actor) → j ≡ i + 1 → j < length order →
    is_same (get_or order i d) actor ≡ false →
    take i order ++ lowered actor (drop i order) ≡ take j order ++ lowered actor (drop j order)
lower_over actor order i j d next within other =
    let here : i < length order = omega arith in
    ap (λ (zs : List Actor). take i order ++ zs) (at_drop_more (lowered actor) order i d here ∙ (rw other refl))
    ∙ sym (append_assoc (take i order) (get_or order i d ∷ []) (lowered actor (drop (i + 1) order)))
    ∙ ap (λ (zs : List Actor). zs ++ lowered actor (drop (i + 1) order)) (sym (take_more order i d here))
    ∙ ap (λ (n : ℕ). take n order ++ lowered actor (drop n order)) (sym next)

lowered_last : (actor a : Actor) → lowered actor (a ∷ []) ≡ a ∷ []
lowered_last actor a = by (is_same a actor) refl
  where
    by : (b : Bool) → is_same a actor ≡ b → lowered actor (a ∷ []) ≡ a ∷ []
    by true is = rw is refl
    by false is = rw is refl

-- it's the last one at most that stands there
pub lower_end : (actor : Actor) (order : List Actor) (i : ℕ) → length order ≤ i + 1 →
    take i order ++ lowered actor (drop i order) ≡ order
lower_end actor [] zero past = refl
lower_end actor [] (suc i) past = refl
lower_end actor (a ∷ []) zero past = lowered_last actor a
lower_end actor (a ∷ b ∷ order) zero past = absurd (omega arith)
lower_end actor (a ∷ order) (suc i) past =
    ap (λ (zs : List Actor). a ∷ zs) (lower_end actor order i (omega arith))
