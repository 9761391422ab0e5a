-- The carries that count what is known go on doing so.
use Rattle.std.proofs.Common.{◌≡◌, ◌≢◌, ◌∙◌, ap, refl, sym, subst, ℕ, suc, ◌+◌, ◌<◌, ◌≤◌, ◌⊎◌, inl, inr, Bool, true}
use Rattle.std.proofs.Common.{false, Option, Some, None, List, [], ◌∷◌}
use Rattle.std.proofs.Common.{◌++◌, drop, length, nat_lt, arith}
use Rattle.std.specs.Prelude.{if◌then◌else◌, slice_set}
use Rattle.std.proofs.lemmas.Bool.{cases_eq}
use Rattle.std.proofs.lemmas.Bool.Decides.{nat_tests}
use Rattle.std.proofs.lemmas.List.{get_or-set_same, get_or-set_other, length-set}
use Rattle.std.proofs.lemmas.Option.{same_Some}
use Rattle.rtr_types.specs.declared.TheConstants.{CORES_MAX}
use Rattle.rtr_types.specs.declared.instr.Instr.{Instr}
use Rattle.rtr_types.proofs.Instrs.{instr_eq}
use Rattle.know_history.specs.declared.known.Known.{Known}
use Rattle.know_history.specs.Knowledge.{count_in, known_carrying, known_joined, known_retired}
use Rattle.know_history.specs.Happenings.{Actor, AtCore, AtHome, Channel, Happening, Leads, is_channel, left_on}
use Rattle.know_history.specs.Happenings.{on_link, with_sent}
use Rattle.know_history.specs.Knowing.{AllCount, AllKnow, Carries, CarriesFollow, Counts, CountsTo, HasReached, IsNext}
use Rattle.know_history.specs.Knowing.{IsOrderly, IsOrLeads, RetiresIn}
use Rattle.know_history.specs.Knowing.{carry_left, carry_retired, carry_taken, retired_in}
use Rattle.know_history.proofs.LastSteps.{IsBrought, brought_leads, leads_before, leads_cases, none_some, reached_leads}
use Rattle.know_history.proofs.CarryCounts.{counts_joined, counts_same, retired_below, retired_there}

-- an actor's carry once it took a message counts what had reached it or comes with the message
counts_taken : (event : ℕ → Happening) (n : ℕ) (actor : Actor) (c : Carries Known) (takes : Option Channel) →
    Counts event (HasReached event n actor) (c.own actor) →
    ((link : Channel) → AllCount event (on_link event n link) (c.sent link)) →
    Counts event (λ t. HasReached event n actor t ⊎ IsBrought event takes n t) (carry_taken known_carrying takes c.sent
    (c.own actor))
counts_taken event n actor c None own sent =
    counts_same event (HasReached event n actor) (λ t. HasReached event n actor t ⊎ IsBrought event None n t)
    (c.own actor) (λ t h. inl h) (λ t h. by t h) own
  where
    by : (t : ℕ) → HasReached event n actor t ⊎ IsBrought event None n t → HasReached event n actor t
    by t (inl h) = h
    by t (inr b) = absurd b
counts_taken event n actor c (Some link) own sent = by (on_link event n link) (c.sent link) refl refl (sent link)
  where
    Set : ℕ → Type 0
    Set t = HasReached event n actor t ⊎ IsBrought event (Some link) n t

    nothing : on_link event n link ≡ [] → (t : ℕ) → HasReached event n actor t ⊎ IsBrought event (Some link) n t →
        HasReached event n actor t
    nothing is t (inl h) = h
    nothing is t (inr b) = absurd (let e : on_link event n link ≡ b.0 ∷ b.1 = b.2 in cc)

    oldest : (u : ℕ) (us : List ℕ) → on_link event n link ≡ u ∷ us → (t : ℕ) → IsBrought event (Some link) n t →
        IsOrLeads event t u
    oldest u us is t b = let same : b.0 ≡ u = (let e : on_link event n link ≡ b.0 ∷ b.1 = b.2 in cc) in
        subst (λ (v : ℕ). IsOrLeads event t v) same b.3

    to : (u : ℕ) (us : List ℕ) → on_link event n link ≡ u ∷ us → (t : ℕ) →
        HasReached event n actor t ⊎ IsOrLeads event t u → HasReached event n actor t
        ⊎ IsBrought event (Some link) n t
    to u us is t (inl h) = inl h
    to u us is t (inr h) = inr (u, us, is, h)

    back : (u : ℕ) (us : List ℕ) → on_link event n link ≡ u ∷ us → (t : ℕ) →
        HasReached event n actor t ⊎ IsBrought event (Some link) n t →
        HasReached event n actor t ⊎ IsOrLeads event t u
    back u us is t (inl h) = inl h
    back u us is t (inr b) = inr (oldest u us is t b)

    by : (us : List ℕ) (ks : List Known) → on_link event n link ≡ us → c.sent link ≡ ks → AllCount event us ks →
        Counts event (λ t. HasReached event n actor t ⊎ IsBrought event (Some link) n t) (carry_taken known_carrying
        (Some link) c.sent (c.own actor))
    by [] [] is are all =
        rw are (counts_same event (HasReached event n actor) (λ t. HasReached event n actor t ⊎ IsBrought event
        (Some link) n t) (c.own actor) (λ t h. inl h)
        (nothing is) own)
    by [] (k ∷ ks) is are all = absurd all
    by (u ∷ us) [] is are all = absurd all
    by (u ∷ us) (k ∷ ks) is are all =
        rw are (counts_same event (λ t. HasReached event n actor t ⊎ IsOrLeads event t u)
        (λ t. HasReached event n actor t ⊎ IsBrought event (Some link) n t)
        (known_joined (c.own actor) k) (to u us is) (back u us is)
        (counts_joined event (HasReached event n actor) (λ t. IsOrLeads event t u) (c.own actor) k own all.0))

-- that is what leads to the event
counts_led : (event : ℕ → Happening) (n : ℕ) (actor : Actor) (c : Carries Known) → (event n).actor ≡ Some actor →
    AllKnow event n c →
    Counts event (λ t. Leads event t n) (carry_taken known_carrying (event n).takes c.sent (c.own actor))
counts_led event n actor c own h =
    counts_same event (λ t. HasReached event n actor t ⊎ IsBrought event (event n).takes n t) (λ t. Leads event t n)
    (carry_taken known_carrying (event n).takes c.sent (c.own actor)) to (λ t p. leads_cases event n actor own t p)
    (counts_taken event n actor c (event n).takes (h.own actor) h.sent)
  where
    to : (t : ℕ) → HasReached event n actor t ⊎ IsBrought event (event n).takes n t → Leads event t n
    to t (inl r) = reached_leads event n actor own t r
    to t (inr b) = brought_leads event n t (event n).takes refl b

own_count : (k : Known) (y : Instr) → y.core < CORES_MAX → length k.counts ≡ CORES_MAX →
    count_in (known_retired k y) y.core ≡ y.count
own_count k y core long = let t : nat_lt y.core CORES_MAX ≡ true = grind (arith, nat_tests) in
    rw t (get_or-set_same k.counts y.core y.count 0 (omega arith))

other_count : (k : Known) (y : Instr) (core : ℕ) → core ≢ y.core → count_in (known_retired k y) core ≡ count_in k core
other_count k y core other = by (nat_lt y.core CORES_MAX)
  where
    by : (t : Bool) → count_in (if t then record { counts = slice_set k.counts y.core y.count } else k) core ≡ count_in
        k core
    by true = get_or-set_other k.counts y.core core y.count 0 other
    by false = refl

places_kept : (k : Known) (y : Instr) → length (known_retired k y).counts ≡ length k.counts
places_kept k y = by (nat_lt y.core CORES_MAX)
  where
    by : (t : Bool) → length (let r : Known = if t then record { counts = slice_set k.counts y.core y.count } else k in
        r.counts) ≡ length k.counts
    by true = length-set k.counts y.core y.count
    by false = refl

-- with what retires in the event itself
counts_retired : (event : ℕ → Happening) (n : ℕ) (k : Known) → ((u : ℕ) → u < suc n → IsOrderly event u) →
    Counts event (λ t. Leads event t n) k →
    (o : Option Instr) → (event n).retires ≡ o → CountsTo event n (carry_retired known_carrying o k)
counts_retired event n k orderly h None is =
    record {
      places = h.places;
      at = λ x core pos. (
        λ le. (let r = (h.at x core pos).0 le in (r.0, r.1, inr r.2)),
        λ r. (h.at x core pos).1 (back x r.0 r.1 r.2),
      );
    }
  where
    back : (x : Instr) (t : ℕ) → (event t).retires ≡ Some x → IsOrLeads event t n →
        RetiresIn event (λ t. Leads event t n) x
    back x t at (inl e) = none_some (event n).retires x is (ap (λ (u : ℕ). (event u).retires) (sym e) ∙ at)
    back x t at (inr p) = (t, at, p)
counts_retired event n k orderly h (Some y) is =
    record {
      places = places_kept k y ∙ h.places;
      at = λ x core pos. elim
          (cases_eq x.core y.core) [
            | inl e ↦ (to_own x core pos e, back_own x e)
            | inr other ↦
                (to_other x core pos other, back_other x core pos other)
          ];
    }
  where
    next : IsNext event n y
    next = orderly n (omega arith) y is

    own : count_in (known_retired k y) y.core ≡ y.count
    own = own_count k y next.core h.places

    -- an earlier one of the same core leads there, by its core
    earlier : (x : Instr) → x.core ≡ y.core → (t : ℕ) → t < n → (event t).retires ≡ Some x → Leads event t n
    earlier x e t lt at =
        let before = orderly t (omega arith) x at in
        reached_leads event n (AtCore y.core) next.own t
        (record { last = t; within = lt; of_it = before.own ∙ ap (λ (c : ℕ). Some (AtCore c)) e; reaches = inl refl })

    to_own : (x : Instr) → x.core < CORES_MAX → 1 ≤ x.count → x.core ≡ y.core →
        x.count ≤ count_in (known_retired k y) x.core →
        RetiresIn event (λ t. IsOrLeads event t n) x
    to_own x core pos e le = by (cases_eq x.count y.count)
      where
        within : x.count ≤ y.count
        within = let same : count_in (known_retired k y) x.core ≡ count_in (known_retired k y) y.core =
            ap (count_in (known_retired k y)) e in let f = own in
            omega arith

        by : (x.count ≡ y.count) ⊎ (x.count ≢ y.count) → RetiresIn event (λ t. IsOrLeads event t n) x
        by (inl f) = (n, is ∙ ap (λ (z : Instr). Some z) (sym (instr_eq x y e f)), inl refl)
        by (inr other) =
            let f : y.count ≡ retired_in event n x.core + 1 = next.count
            ∙ ap (λ (c : ℕ). retired_in event n c + 1) (sym e) in
            let lt : x.count < y.count = (let le2 = within in grind arith) in
            let r = retired_there event n (λ u lt2. orderly u (omega arith)) x pos (omega arith) in
            (r.0, r.2, inr (earlier x e r.0 r.1 r.2))

    back_own : (x : Instr) → x.core ≡ y.core → RetiresIn event (λ t. IsOrLeads event t n) x →
        x.count ≤ count_in (known_retired k y) x.core
    back_own x e r = let le = by r.2 in
        let same : count_in (known_retired k y) x.core ≡ count_in (known_retired k y) y.core =
        ap (count_in (known_retired k y)) e in let f = own in omega arith
      where
        by : IsOrLeads event r.0 n → x.count ≤ y.count
        by (inl f) = let same : x ≡ y = same_Some x y (sym r.1 ∙ (ap (λ (u : ℕ). (event u).retires) f ∙ is)) in
            let g : x.count ≡ y.count = ap (λ (z : Instr). z.count) same in omega arith
        by (inr p) =
            let lt = leads_before event r.0 n p in
            let below = retired_below event r.0 n x r.1 (orderly r.0 (omega arith) x r.1) lt in
            let f : y.count ≡ retired_in event n x.core + 1 = next.count
            ∙ ap (λ (c : ℕ). retired_in event n c + 1) (sym e) in
            omega arith

    to_other : (x : Instr) → x.core < CORES_MAX → 1 ≤ x.count → x.core ≢ y.core →
        x.count ≤ count_in (known_retired k y) x.core →
        RetiresIn event (λ t. IsOrLeads event t n) x
    to_other x core pos other le =
        let same = other_count k y x.core other in
        let r = (h.at x core pos).0 (omega arith) in
        (r.0, r.1, inr r.2)

    back_other : (x : Instr) → x.core < CORES_MAX → 1 ≤ x.count → x.core ≢ y.core →
        RetiresIn event (λ t. IsOrLeads event t n) x →
        x.count ≤ count_in (known_retired k y) x.core
    back_other x core pos other r = let le = (h.at x core pos).1 (by r.2) in let same = other_count k y x.core other in
        omega arith
      where
        by : IsOrLeads event r.0 n → RetiresIn event (λ t. Leads event t n) x
        by (inl f) = absurd (other (ap (λ (z : Instr). z.core) (same_Some x y (sym r.1
            ∙ (ap (λ (u : ℕ). (event u).retires) f ∙ is)))))
        by (inr p) = (r.0, r.1, p)

-- so what the actor carries after its event counts what is the event or leads to it
pub counts_left : (event : ℕ → Happening) (n : ℕ) (actor : Actor) (c : Carries Known) → (event n).actor ≡ Some actor →
    ((u : ℕ) → u < suc n → IsOrderly event u) → AllKnow event n c →
    CountsTo event n (carry_left known_carrying (event n) c actor)
counts_left event n actor c own orderly h =
    counts_retired event n (carry_taken known_carrying (event n).takes c.sent (c.own actor)) orderly
    (counts_led event n actor c own h) (event n).retires refl

all_dropped : (event : ℕ → Happening) (us : List ℕ) (ks : List Known) → AllCount event us ks →
    AllCount event (drop 1 us) (drop 1 ks)
all_dropped event [] [] h = tt
all_dropped event [] (k ∷ ks) h = absurd h
all_dropped event (u ∷ us) [] h = absurd h
all_dropped event (u ∷ us) (k ∷ ks) h = h.1

all_pushed : (event : ℕ → Happening) (us : List ℕ) (ks : List Known) (u : ℕ) (k : Known) → CountsTo event u k →
    AllCount event us ks →
    AllCount event (us ++ u ∷ []) (ks ++ k ∷ [])
all_pushed event [] [] u k new h = (new, tt)
all_pushed event [] (l ∷ ks) u k new h = absurd h
all_pushed event (v ∷ us) [] u k new h = absurd h
all_pushed event (v ∷ us) (l ∷ ks) u k new h = (h.0, all_pushed event us ks u k new h.1)

all_sent : (event : ℕ → Happening) (sent taken : Bool) (us : List ℕ) (ks : List Known) (u : ℕ) (k : Known) →
    CountsTo event u k → AllCount event us ks →
    AllCount event (with_sent sent u (if taken then drop 1 us else us))
    (with_sent sent k (if taken then drop 1 ks else ks))
all_sent event true true us ks u k new h = all_pushed event (drop 1 us) (drop 1 ks) u k new (all_dropped event us ks h)
all_sent event true false us ks u k new h = all_pushed event us ks u k new h
all_sent event false true us ks u k new h = all_dropped event us ks h
all_sent event false false us ks u k new h = h

-- what has reached an actor still has one event later
still_reached : (event : ℕ → Happening) (n : ℕ) (actor : Actor) (t : ℕ) → HasReached event n actor t →
    HasReached event (suc n) actor t
still_reached event n actor t r =
    let lt = r.within in record { last = r.last; within = omega arith; of_it = r.of_it; reaches = r.reaches }

last_cases : (n m : ℕ) → m < suc n → (m ≡ n) ⊎ (m < n)
last_cases n m lt = grind arith

-- after an actor's event all carries count again what reached them
pub all_know_more : (event : ℕ → Happening) (n : ℕ) (actor : Actor) (c d : Carries Known) →
    (event n).actor ≡ Some actor →
    ((u : ℕ) → u < suc n → IsOrderly event u) → CarriesFollow known_carrying (event n) actor c d → AllKnow event n c →
    AllKnow event (suc n) d
all_know_more event n actor c d own orderly follows h =
    record {
      own = λ other. by other (which other actor);
      sent = λ link. rw (follows.sent link)
          (all_sent event ((event n).sends link) (is_channel (event n).takes link) (on_link event n link) (c.sent link)
          n (d.own actor) left (h.sent link));
    }
  where
    left : CountsTo event n (d.own actor)
    left = rw follows.acting (counts_left event n actor c own orderly h)

    same_core : (a b : ℕ) → (a ≡ b) ⊎ (a ≡ b → ⊥) → (AtCore a ≡ AtCore b) ⊎ (AtCore a ≡ AtCore b → ⊥)
    same_core a b (inl e) = inl (ap AtCore e)
    same_core a b (inr f) = inr (λ e. f (cc))

    which : (a b : Actor) → (a ≡ b) ⊎ (a ≡ b → ⊥)
    which AtHome AtHome = inl refl
    which AtHome (AtCore b) = inr (λ e. cc)
    which (AtCore a) AtHome = inr (λ e. cc)
    which (AtCore a) (AtCore b) = same_core a b (cases_eq a b)

    to_actor : (t : ℕ) → IsOrLeads event t n → HasReached event (suc n) actor t
    to_actor t r = record { last = n; within = omega arith; of_it = own; reaches = r }

    back_actor : (t : ℕ) → HasReached event (suc n) actor t → IsOrLeads event t n
    back_actor t r = at (last_cases n r.last r.within)
      where
        at : (r.last ≡ n) ⊎ (r.last < n) → IsOrLeads event t n
        at (inl e) = subst (λ (u : ℕ). IsOrLeads event t u) e r.reaches
        at (inr lt) = inr (reached_leads event n actor own t (record {
          last = r.last;
          within = lt;
          of_it =
              r.of_it;
          reaches = r.reaches;
        }))

    back_other : (other : Actor) → (other ≡ actor → ⊥) → (t : ℕ) → HasReached event (suc n) other t →
        HasReached event n other t
    back_other other apart t r = at (last_cases n r.last r.within)
      where
        at : (r.last ≡ n) ⊎ (r.last < n) → HasReached event n other t
        at (inl e) = absurd (apart (same_Some other actor (sym r.of_it ∙ (ap (λ (u : ℕ). (event u).actor) e ∙ own))))
        at (inr lt) = record { last = r.last; within = lt; of_it = r.of_it; reaches = r.reaches }

    by : (other : Actor) → (other ≡ actor) ⊎ (other ≡ actor → ⊥) → Counts event (HasReached event (suc n) other)
        (d.own other)
    by other (inl e) = rw e (counts_same event (λ t. IsOrLeads event t n) (HasReached event (suc n) actor) (d.own actor)
        to_actor back_actor left)
    by other (inr apart) =
        rw (follows.resting other apart)
        (counts_same event (HasReached event n other) (HasReached event (suc n) other) (c.own other)
        (λ t. still_reached event n other t) (back_other other apart)
        (h.own other))

-- where nothing happens they go on as they are
pub all_know_idle : (event : ℕ → Happening) (n : ℕ) (c : Carries Known) → (event n).actor ≡ None →
    (event n).takes ≡ None →
    ((link : Channel) → (event n).sends link ≡ false) → AllKnow event n c → AllKnow event (suc n) c
all_know_idle event n c nobody nothing none h =
    record {
      own = λ actor. counts_same event (HasReached event n actor) (HasReached event (suc n) actor) (c.own actor)
          (λ t. still_reached event n actor t) (back actor) (h.own actor);
      sent = λ link. subst (λ (us : List ℕ). AllCount event us (c.sent link)) (sym (kept link)) (h.sent link);
    }
  where
    kept : (link : Channel) → on_link event (suc n) link ≡ on_link event n link
    kept link =
        ap (λ (b : Bool). with_sent b n (left_on (event n).takes link (on_link event n link))) (none link)
        ∙ ap (λ (named : Option Channel). left_on named link (on_link event n link)) nothing

    back : (actor : Actor) (t : ℕ) → HasReached event (suc n) actor t → HasReached event n actor t
    back actor t r = at (last_cases n r.last r.within)
      where
        at : (r.last ≡ n) ⊎ (r.last < n) → HasReached event n actor t
        at (inl e) = none_some (event n).actor actor nobody (ap (λ (u : ℕ). (event u).actor) (sym e) ∙ r.of_it)
        at (inr lt) = record { last = r.last; within = lt; of_it = r.of_it; reaches = r.reaches }
