-- The run of the turns in which a policy picks is the policy's run.
use Rattle.std.proofs.Common.{◌≡◌, ◌∙◌, ◌⊎◌, inl, inr, refl, sym, ap, subst, ℕ, zero, suc, ◌+◌, ◌<◌, ◌≤◌, true, false}
use Rattle.std.proofs.Common.{List, [], ◌∷◌, ◌++◌, append_assoc, append-nil, length, arith, Some, None}
use Rattle.std.specs.Prelude.{Bool, ◌||◌, Option, map, if◌then◌else◌}
use Rattle.std.proofs.lemmas.Bool.{lt-ltb}
use Rattle.std.proofs.lemmas.List.{length-append}
use Rattle.schedule_pick.specs.Choices.{choices_of}
use Rattle.turn_lists.specs.Few.{few}
use Rattle.turn_lists.specs.declared.actor.Actor.{Actor}
use Rattle.turn_policies.specs.Listed.{is_nobody}
use Rattle.turn_policies.specs.Named.{is_by_seed}
use Rattle.turn_policies.specs.PickedTurns.{picks_of, turns_of_picks}
use Rattle.turn_policies.specs.Policies.{PicksWhoMay, PolicyOf}
use Rattle.turn_policies.specs.Ranked.{ranked_begun, ranked_policy}
use Rattle.turn_policies.specs.TurnByTurn.{TurnsLeft, turn_pick, turn_picked, turns_begun, turns_going, turns_policy}
use Rattle.turn_policies.specs.Walks.{walk_policy, words_of}
use Rattle.turn_policies.specs.declared.actor_set.ActorSet.{ActorSet}
use Rattle.turn_policies.specs.declared.named.Numbered.{Numbered}
use Rattle.turn_policies.specs.declared.named.Numbered.TheVariants.{Few, Ranked, Seed, Walk}
use Rattle.turn_policies.proofs.PickedAgain.{picked_again, picks_next}
use Rattle.turn_policies.proofs.PicksListed.{ranked_listed, turns_listed, walk_listed}
use Rattle.hunt_runs.specs.Counted.{Picks}
use Rattle.hunt_runs.specs.Courses.{Course, Gone, gone_from, run_by, stepped}
use Rattle.hunt_runs.specs.Directing.{Directed, acted_or_settled, core_at_work, decided, delivered_or_acted}
use Rattle.hunt_runs.specs.Directing.{has_made, list_at, noticed, picked, settled_or_picked, step_of, to_settle}
use Rattle.hunt_runs.specs.Directing.{told_of}
use Rattle.hunt_runs.specs.Jumping.{Jumped, jumps_after, no_jumps, spot_of}
use Rattle.hunt_runs.specs.Noted.{Noted, noting, with_note}
use Rattle.hunt_runs.specs.Numbering.{choices_numbered}
use Rattle.hunt_runs.specs.Picked.{PicksMakeTheRun, picks_of_run}
use Rattle.hunt_runs.specs.Seen.{Seen, core_in, last_message}
use Rattle.hunt_runs.specs.declared.decision.Decision.{Decision}
use Rattle.hunt_runs.proofs.RunCourses.{goes_on, stays}

-- what is kept in mind beside the policy
record Mind : Type 0 where
  turn : Option Actor
  made : Bool
  jumps : Jumped

abbrev minded : {S : Type 0} → Mind → S → Directed S
minded m s = record { policy = s; turn = m.turn; made = m.made; jumps = m.jumps }

-- these choices were made so far
abbrev gone_by : {S : Type 0} → List ℕ → Mind → S → Gone S
gone_by choices m s = record { choices = choices; directed = minded m s }

-- the actor is picked
abbrev picked_mind : Mind → Actor → Mind
picked_mind m actor = record { turn = Some actor; made = false; jumps = m.jumps }

-- the list from which is picked
abbrev list_of : Mind → Seen → ActorSet
list_of m seen = list_at m.jumps.round seen.actors

module _ (course : Course) where
  -- what is kept in mind once this step was taken
  abbrev mind_after : List ℕ → Decision → Mind → Mind
  mind_after choices next m =
      let before = course.seen choices in
      let after = course.seen (choices ++ next.number ∷ []) in
      record {
        turn = m.turn;
        made = m.made
            || has_made m.turn (core_in before next.core).count (core_in after next.core).count
            (before.stores next.core) (after.stores next.core);
        jumps = jumps_after next.core (spot_of (core_in before next.core)) (core_in after next.core)
            (after.stores next.core) (course.changes choices next.number) m.jumps;
      }

  abbrev moved : {S : Type 0} → List ℕ → Decision × Directed S → Gone S
  moved choices pair = record {
    choices = choices ++ pair.0.number ∷ [];
    directed = noticed pair.0.core (course.changes choices pair.0.number) (course.seen choices)
        (course.seen (choices ++ pair.0.number ∷ [])) pair.1;
  }

as_long : (n : ℕ) → n ≤ n
as_long n = omega arith

module _ {S : Type 0} (course : Course) (policy : PolicyOf S) where
  -- a run that goes on takes the step that is decided on
  on_by : (most : ℕ) (choices : List ℕ) (m n : Mind) (s t : S) (next : Decision) →
      (course.seen choices).ended ≡ false → decided policy (minded m s) (course.seen choices) ≡ (next, minded n t) →
      gone_from course policy (suc most) (gone_by choices m s)
      ≡ gone_from course policy most (gone_by (choices ++ next.number ∷ []) (mind_after course choices next n) t)
  on_by most choices m n s t next going is =
      goes_on course policy most (gone_by choices m s) going
      ∙ ap (λ (pair : Decision × Directed S). gone_from course policy most (moved course choices pair)) is

  -- no choice is taken back
  grows : (most : ℕ) (gone : Gone S) → length gone.choices ≤ length (gone_from course policy most gone).choices
  grows zero gone = as_long (length gone.choices)
  grows (suc most) gone = by (course.seen gone.choices).ended refl (grows most (stepped course policy gone))
    where
      by : (b : Bool) → (course.seen gone.choices).ended ≡ b →
          length (stepped course policy gone).choices
          ≤ length (gone_from course policy most (stepped course policy gone)).choices →
          length gone.choices ≤ length (gone_from course policy (suc most) gone).choices
      by true ended more =
          subst (λ (g : Gone S). length gone.choices ≤ length g.choices)
          (sym (stays course policy (suc most) gone ended)) (as_long (length gone.choices))
      by false going more =
          let one = length-append gone.choices
          ((decided policy gone.directed (course.seen gone.choices)).0.number ∷ []) in
          subst (λ (g : Gone S). length gone.choices ≤ length g.choices)
          (sym (goes_on course policy most gone going)) (omega (arith, more, one))

-- ---- two policies at one moment

-- whom the policy picks from this list, and what is decided on
abbrev heard : {S : Type 0} → PolicyOf S → Mind → S → S
heard policy m s = told_of policy s m.jumps.round m.turn

abbrev one_picked : {S : Type 0} → PolicyOf S → Mind → Seen → S → Decision × Directed S
one_picked policy m seen s =
    let list = list_of m seen in
    (step_of seen.actors (policy.pick s list), minded (picked_mind m (policy.pick s list)) (policy.after_pick s list))

-- either both take one step, and neither policy knows of it, or each picks from one list, in which somebody is
abbrev Both : {S T : Type 0} → (S → Decision × Directed S) → (T → Decision × Directed T) → PolicyOf S → PolicyOf T →
    Mind → Seen → Type 0
Both {S} {T} one other a b m seen =
    ((next : Decision) × ((s : S) → one s ≡ (next, minded m s)) × ((t : T) → other t ≡ (next, minded m t)))
    ⊎ ((is_nobody (list_of m seen) ≡ false) × ((s : S) → one s ≡ one_picked a m seen (heard a m s))
    × ((t : T) → other t ≡ one_picked b m seen (heard b m t)))

module _ {S T : Type 0} (a : PolicyOf S) (b : PolicyOf T) (m : Mind) (seen : Seen) where
  by_list : (none : Bool) → is_nobody (list_of m seen) ≡ none →
      Both (λ s. picked a (minded m s) seen.actors) (λ t. picked b (minded m t) seen.actors) a b m seen
  by_list true is = inl (
    record { number = 0; core = 0 },
    (λ s. ap (λ (none : Bool). if none then (record { number = 0; core = 0 }, minded m s)
        else one_picked a m seen (heard a m s)) is),
    (λ t. ap (λ (none : Bool). if none then (record { number = 0; core = 0 }, minded m t)
        else one_picked b m seen (heard b m t)) is),
  )
  by_list false is = inr (
    is,
    (λ s. ap (λ (none : Bool). if none then (record { number = 0; core = 0 }, minded m s)
        else one_picked a m seen (heard a m s)) is),
    (λ t. ap (λ (none : Bool). if none then (record { number = 0; core = 0 }, minded m t)
        else one_picked b m seen (heard b m t)) is),
  )

  by_settling : (found : Option Actor) →
      Both (λ s. settled_or_picked a (minded m s) seen found) (λ t. settled_or_picked b (minded m t) seen found) a b m
      seen
  by_settling (Some actor) = inl (step_of seen.actors actor, (λ s. refl), (λ t. refl))
  by_settling None = by_list (is_nobody (list_of m seen)) refl

  by_act : (found : Option Actor) →
      Both (λ s. acted_or_settled a (minded m s) seen found) (λ t. acted_or_settled b (minded m t) seen found) a b m
      seen
  by_act (Some actor) = inl (step_of seen.actors actor, (λ s. refl), (λ t. refl))
  by_act None = by_settling (to_settle m.turn seen)

  by_message : (found : Option ℕ) →
      Both (λ s. delivered_or_acted a (minded m s) seen found) (λ t. delivered_or_acted b (minded m t) seen found) a b
      m seen
  by_message (Some number) = inl (record { number = number; core = core_at_work m.turn }, (λ s. refl), (λ t. refl))
  by_message None = by_act (if m.made then None else m.turn)

  both : Both (λ s. decided a (minded m s) seen) (λ t. decided b (minded m t) seen) a b m seen
  both = by_message (last_message seen.actors seen.steps)

-- ---- a policy, and the same one noting whom it picks

abbrev noted : {P : Type 0} → (room : ℕ) → List Actor → P → Noted P
noted room picks s = record { policy = s; picks = picks; room = room }

module _ {P : Type 0} (course : Course) (policy : PolicyOf P) where
  heard_noted : (m : Mind) (s : P) (picks : List Actor) (room : ℕ) →
      heard (noting policy) m (noted room picks s) ≡ noted room picks (heard policy m s)
  heard_noted m s picks room = by m.turn
    where
      by : (turn : Option Actor) →
          told_of (noting policy) (noted room picks s) m.jumps.round turn
          ≡ noted room picks (told_of policy s m.jumps.round turn)
      by None = refl
      by (Some actor) = refl

  -- what noting decides on, where the policy picks
  noting_picks : (m : Mind) (seen : Seen) (s : P) (picks : List Actor) (room : ℕ)
      (found : Decision × Directed (Noted P)) →
      found ≡ one_picked (noting policy) m seen (heard (noting policy) m (noted room picks s)) →
      found ≡ one_picked (noting policy) m seen (noted room picks (heard policy m s))
  noting_picks m seen s picks room found is =
      is ∙ ap (one_picked (noting policy) m seen) (heard_noted m s picks room)

  abbrev IsSame : (most : ℕ) → List ℕ → Mind → P → List Actor → (room : ℕ) → Type 0
  IsSame most choices m s picks room =
      (gone_from course (noting policy) most (gone_by choices m (noted room picks s))).choices
      ≡ (gone_from course policy most (gone_by choices m s)).choices

  module _ (most : ℕ) (choices : List ℕ) (m : Mind) (s : P) (picks : List Actor) (room : ℕ)
      (going : (course.seen choices).ended ≡ false)
      (rest : (c : List ℕ) (n : Mind) (t : P) (ks : List Actor) → IsSame most c n t ks room) where
    step_same : (next : Decision) →
        ((t : Noted P) → decided (noting policy) (minded m t) (course.seen choices) ≡ (next, minded m t)) →
        ((t : P) → decided policy (minded m t) (course.seen choices) ≡ (next, minded m t)) →
        IsSame (suc most) choices m s picks room
    step_same next one other =
        ap (λ (g : Gone (Noted P)). g.choices) (on_by course (noting policy) most choices m m (noted room picks s)
        (noted room picks s) next going (one (noted room picks s)))
        ∙ rest (choices ++ next.number ∷ []) (mind_after course choices next m) s picks
        ∙ sym (ap (λ (g : Gone P). g.choices) (on_by course policy most choices m m s s next going (other s)))

    pick_same :
        ((t : Noted P) → decided (noting policy) (minded m t) (course.seen choices)
        ≡ one_picked (noting policy) m (course.seen choices) (heard (noting policy) m t)) →
        ((t : P) → decided policy (minded m t) (course.seen choices)
        ≡ one_picked policy m (course.seen choices) (heard policy m t)) →
        IsSame (suc most) choices m s picks room
    pick_same one other =
        let seen = course.seen choices in
        let x = heard policy m s in
        let actor = policy.pick x (list_of m seen) in
        let state = policy.after_pick x (list_of m seen) in
        let next = step_of seen.actors actor in
        let n = picked_mind m actor in
        let ks = with_note room actor picks in
        ap (λ (g : Gone (Noted P)). g.choices) (on_by course (noting policy) most choices m n (noted room picks s)
        (noted room ks state) next going
        (noting_picks m seen s picks room (decided (noting policy) (minded m (noted room picks s)) seen)
        (one (noted room picks s))))
        ∙ rest (choices ++ next.number ∷ []) (mind_after course choices next n) state ks
        ∙ sym (ap (λ (g : Gone P). g.choices) (on_by course policy most choices m n s state next going (other s)))

  same_noted : (most : ℕ) (choices : List ℕ) (m : Mind) (s : P) (picks : List Actor) (room : ℕ) →
      IsSame most choices m s picks room
  same_noted zero choices m s picks room = refl
  same_noted (suc most) choices m s picks room =
      by (course.seen choices).ended refl (λ c n t ks. same_noted most c n t ks room)
    where
      by : (b : Bool) → (course.seen choices).ended ≡ b →
          ((c : List ℕ) (n : Mind) (t : P) (ks : List Actor) → IsSame most c n t ks room) →
          IsSame (suc most) choices m s picks room
      by true ended rest =
          ap (λ (g : Gone (Noted P)). g.choices)
          (stays course (noting policy) (suc most) (gone_by choices m (noted room picks s)) ended)
          ∙ sym (ap (λ (g : Gone P). g.choices) (stays course policy (suc most) (gone_by choices m s) ended))
      by false going rest =
          elim (both (noting policy) policy m (course.seen choices)) [
            | inl it ↦ step_same most choices m s picks room going rest it.0 it.1 it.2
            | inr it ↦ pick_same most choices m s picks room going rest it.1 it.2
          ]

-- ---- the policy's run, noted, and the run of turns

heard_turns : (m : Mind) (q : TurnsLeft) → heard turns_policy m q ≡ q
heard_turns m q = by m.turn
  where
    by : (turn : Option Actor) → told_of turns_policy q m.jumps.round turn ≡ q
    by None = refl
    by (Some actor) = refl

-- what turns decide on, whose next pick is this actor
turns_pick : (m : Mind) (seen : Seen) (q : TurnsLeft) (actor : Actor) (found : Decision × Directed TurnsLeft) →
    turn_pick q (list_of m seen) (turns_going (list_of m seen) q.turns) ≡ actor →
    found ≡ one_picked turns_policy m seen (heard turns_policy m q) →
    found
    ≡ (
      step_of seen.actors actor,
      minded (picked_mind m actor) (turn_picked q (list_of m seen) (turns_going (list_of m seen) q.turns)),
    )
turns_pick m seen q actor found pick is =
    let state = turn_picked q (list_of m seen) (turns_going (list_of m seen) q.turns) in
    is ∙ ap (one_picked turns_policy m seen) (heard_turns m q)
    ∙ ap (λ (x : Actor). (step_of seen.actors x, minded (picked_mind m x) state)) pick

with_room : (room : ℕ) (actor : Actor) (picks : List Actor) → length picks < room →
    with_note room actor picks ≡ picks ++ actor ∷ []
with_room room actor picks less =
    ap (λ (b : Bool). if b then picks ++ actor ∷ [] else picks) (lt-ltb (length picks) room less)

abbrev noting_run : {P : Type 0} → Course → PolicyOf P → (most : ℕ) → List ℕ → Mind → Noted P → Gone (Noted P)
noting_run course policy most choices m s = gone_from course (noting policy) most (gone_by choices m s)

-- from here on these are picked, and turns that have them picked make the same choices
record Follows {P : Type 0} (course : Course) (policy : PolicyOf P) (most : ℕ) (choices : List ℕ) (m : Mind) (s : P)
    (picks : List Actor) (room : ℕ) : Type 0 where
  later : List Actor
  picks_are : (noting_run course policy most choices m (noted room picks s)).directed.policy.picks ≡ picks ++ later
  choices_are : (q : TurnsLeft) → picks_of q.turns ≡ later →
      (gone_from course turns_policy most (gone_by choices m q)).choices
      ≡ (noting_run course policy most choices m (noted room picks s)).choices

module _ {P : Type 0} (course : Course) (policy : PolicyOf P) where
  -- where there is room for the picks
  abbrev FollowsWithin : (most : ℕ) → List ℕ → Mind → P → List Actor → (room : ℕ) → Type 0
  FollowsWithin most choices m s picks room =
      length (noting_run course policy most choices m (noted room picks s)).choices ≤ room →
      length picks ≤ length choices → Follows course policy most choices m s picks room

  ended_follows : (most : ℕ) (choices : List ℕ) (m : Mind) (s : P) (picks : List Actor) (room : ℕ) →
      (course.seen choices).ended ≡ true → Follows course policy most choices m s picks room
  ended_follows most choices m s picks room ended =
      let one = stays course (noting policy) most (gone_by choices m (noted room picks s)) ended in
      record {
        later = [];
        picks_are = ap (λ (g : Gone (Noted P)). g.directed.policy.picks) one ∙ sym (append-nil picks);
        choices_are = λ q none.
            ap (λ (g : Gone TurnsLeft). g.choices) (stays course turns_policy most (gone_by choices m q) ended)
            ∙ sym (ap (λ (g : Gone (Noted P)). g.choices) one);
      }

  module _ (most : ℕ) (choices : List ℕ) (m : Mind) (s : P) (picks : List Actor) (room : ℕ)
      (going : (course.seen choices).ended ≡ false)
      (rest : (c : List ℕ) (n : Mind) (t : P) (ks : List Actor) → FollowsWithin most c n t ks room)
      (within : length (noting_run course policy (suc most) choices m (noted room picks s)).choices ≤ room)
      (few : length picks ≤ length choices) where
    -- both take one step, and neither policy knows of it
    step_follows : (next : Decision) →
        ((t : Noted P) → decided (noting policy) (minded m t) (course.seen choices) ≡ (next, minded m t)) →
        ((q : TurnsLeft) → decided turns_policy (minded m q) (course.seen choices) ≡ (next, minded m q)) →
        Follows course policy (suc most) choices m s picks room
    step_follows next one other =
        let more : List ℕ = choices ++ next.number ∷ [] in
        let n : Mind = mind_after course choices next m in
        let on : noting_run course policy (suc most) choices m (noted room picks s)
        ≡ noting_run course policy most more n (noted room picks s) =
        on_by course (noting policy) most choices m m (noted room picks s) (noted room picks s) next going
        (one (noted room picks s)) in
        let left : length (noting_run course policy most more n (noted room picks s)).choices ≤ room =
        subst (λ (g : Gone (Noted P)). length g.choices ≤ room) on within in
        let longer : length picks ≤ length more = omega (arith, few, length-append choices (next.number ∷ [])) in
        let it : Follows course policy most more n s picks room = rest more n s picks left longer in
        record {
          later = it.later;
          picks_are = ap (λ (g : Gone (Noted P)). g.directed.policy.picks) on ∙ it.picks_are;
          choices_are = λ q are.
              ap (λ (g : Gone TurnsLeft). g.choices)
              (on_by course turns_policy most choices m m q q next going (other q))
              ∙ it.choices_are q are ∙ sym (ap (λ (g : Gone (Noted P)). g.choices) on);
        }

    -- the policy picks
    pick_follows : PicksWhoMay policy → is_nobody (list_of m (course.seen choices)) ≡ false →
        ((t : Noted P) → decided (noting policy) (minded m t) (course.seen choices)
        ≡ one_picked (noting policy) m (course.seen choices) (heard (noting policy) m t)) →
        ((q : TurnsLeft) → decided turns_policy (minded m q) (course.seen choices)
        ≡ one_picked turns_policy m (course.seen choices) (heard turns_policy m q)) →
        Follows course policy (suc most) choices m s picks room
    pick_follows may some one other =
        let seen = course.seen choices in
        let list = list_of m seen in
        let x = heard policy m s in
        let actor : Actor = policy.pick x list in
        let state : P = policy.after_pick x list in
        let next : Decision = step_of seen.actors actor in
        let more : List ℕ = choices ++ next.number ∷ [] in
        let n : Mind = mind_after course choices next (picked_mind m actor) in
        let ks : List Actor = with_note room actor picks in
        let on : noting_run course policy (suc most) choices m (noted room picks s)
        ≡ noting_run course policy most more n (noted room ks state) =
        on_by course (noting policy) most choices m (picked_mind m actor) (noted room picks s) (noted room ks state)
        next going (noting_picks course policy m seen s picks room
        (decided (noting policy) (minded m (noted room picks s)) seen) (one (noted room picks s))) in
        let left : length (noting_run course policy most more n (noted room ks state)).choices ≤ room =
        subst (λ (g : Gone (Noted P)). length g.choices ≤ room) on within in
        let reach : length more ≤ length (noting_run course policy most more n (noted room ks state)).choices =
        grows course (noting policy) most (gone_by more n (noted room ks state)) in
        let long : length more ≡ length choices + 1 =
        omega (arith, length-append choices (next.number ∷ [])) in
        let noted_is : ks ≡ picks ++ actor ∷ [] =
        with_room room actor picks (omega (arith, few, long, reach, left)) in
        let one_more : length ks ≡ length picks + 1 =
        omega (arith, ap length noted_is, length-append picks (actor ∷ [])) in
        let longer : length ks ≤ length more = omega (arith, few, long, one_more) in
        let it : Follows course policy most more n state ks room = rest more n state ks left longer in
        record {
          later = actor ∷ it.later;
          picks_are = ap (λ (g : Gone (Noted P)). g.directed.policy.picks) on ∙ it.picks_are
              ∙ ap (λ (l : List Actor). l ++ it.later) noted_is ∙ append_assoc picks (actor ∷ []) it.later;
          choices_are = λ q are.
              let turn = picks_next q list actor it.later q.turns are (may x list some) in
              let after : TurnsLeft = turn_picked q list (turns_going list q.turns) in
              ap (λ (g : Gone TurnsLeft). g.choices)
              (on_by course turns_policy most choices m (picked_mind m actor) q after next going
              (turns_pick m seen q actor (decided turns_policy (minded m q) seen) turn.0 (other q)))
              ∙ it.choices_are after turn.1 ∙ sym (ap (λ (g : Gone (Noted P)). g.choices) on);
        }

  follows : PicksWhoMay policy → (most : ℕ) (choices : List ℕ) (m : Mind) (s : P) (picks : List Actor) (room : ℕ) →
      FollowsWithin most choices m s picks room
  follows may zero choices m s picks room = λ within few.
      record { later = []; picks_are = sym (append-nil picks); choices_are = λ q none. refl }
  follows may (suc most) choices m s picks room =
      by (course.seen choices).ended refl (λ c n t ks. follows may most c n t ks room)
    where
      by : (b : Bool) → (course.seen choices).ended ≡ b →
          ((c : List ℕ) (n : Mind) (t : P) (ks : List Actor) → FollowsWithin most c n t ks room) →
          FollowsWithin (suc most) choices m s picks room
      by true ended rest = λ within few. ended_follows (suc most) choices m s picks room ended
      by false going rest = λ within few.
          elim (both (noting policy) turns_policy m (course.seen choices)) [
            | inl it ↦ step_follows most choices m s picks room going rest within few it.0 it.1 it.2
            | inr it ↦ pick_follows most choices m s picks room going rest within few may it.0 it.1 it.2
          ]

  -- the turns in which the policy picks make its choices
  pub turns_make : PicksWhoMay policy → (state : P) (cores most room : ℕ) →
      room ≡ length (run_by course policy state cores most).choices →
      (run_by course turns_policy (turns_begun (turns_of_picks (picks_of_run course policy state room cores most)))
      cores most).choices
      ≡ (run_by course policy state cores most).choices
  turns_make may state cores most room is =
      let m : Mind = record { turn = None; made = false; jumps = no_jumps cores } in
      let same : IsSame course policy most [] m state [] room = same_noted course policy most [] m state [] room in
      let long : room ≡ length (gone_from course policy most (gone_by [] m state)).choices = is in
      let room_for : length (noting_run course policy most [] m (noted room [] state)).choices ≤ room =
      omega (arith, long, ap length same) in
      let all : Follows course policy most [] m state [] room =
      follows may most [] m state [] room room_for (as_long 0) in
      let picks : List Actor = picks_of_run course policy state room cores most in
      all.choices_are (turns_begun (turns_of_picks picks)) (picked_again picks ∙ all.picks_are) ∙ same

-- so it is of the run of each number, but for those of a seed, in which no policy picks
pub numbered_make : (course : Course) (picks : Picks) (number : Numbered) (cores most : ℕ) →
    is_by_seed number ≡ false → PicksMakeTheRun course picks number cores most
numbered_make course picks (Seed n) cores most by_seed = absurd cc
numbered_make course picks (Few n) cores most led =
    ap (λ (l : List ℕ). choices_of l 0)
    (turns_make course turns_policy turns_listed (turns_begun (few picks.each n)) cores most
    (length (choices_numbered course picks (Few n) cores most).bytes) refl)
numbered_make course picks (Walk n) cores most led =
    ap (λ (l : List ℕ). choices_of l 0)
    (turns_make course walk_policy walk_listed (words_of n) cores most
    (length (choices_numbered course picks (Walk n) cores most).bytes) refl)
numbered_make course picks (Ranked depth n) cores most led =
    ap (λ (l : List ℕ). choices_of l 0)
    (turns_make course ranked_policy ranked_listed
    (ranked_begun (map (λ t. t.actor) picks.each) picks.all depth n) cores most
    (length (choices_numbered course picks (Ranked depth n) cores most).bytes) refl)
