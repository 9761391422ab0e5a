-- Rule: whom a policy picks in a run: noting
-- A policy that notes whom it picks.
use Rattle.std.specs.Prelude.{ℕ, nat_lt, List, [], ◌∷◌, ◌++◌, length, if◌then◌else◌}
use Rattle.turn_lists.specs.declared.actor.Actor.{Actor}
use Rattle.turn_policies.specs.Policies.{PolicyOf}

-- a policy's state, whom it picked, in order, and for how many picks there is room
pub record Noted (P : Type 0) : Type 0 where
  pub policy : P
  pub picks : List Actor
  pub room : ℕ

-- nobody was picked yet
abbrev pub noted_begun : {P : Type 0} → (room : ℕ) → P → Noted P
noted_begun room policy = record { policy = policy; picks = []; room = room }

-- one more pick, where there is room for it
abbrev pub with_note : (room : ℕ) → Actor → List Actor → List Actor
with_note room actor picks = if nat_lt (length picks) room then picks ++ actor ∷ [] else picks

-- it picks as the policy does, and notes whom
abbrev pub noting : {P : Type 0} → PolicyOf P → PolicyOf (Noted P)
noting policy = record {
  pick = λ s set. policy.pick s.policy set;
  after_pick = λ s set. record s {
    policy = policy.after_pick s.policy set;
    picks = with_note s.room (policy.pick s.policy set) s.picks;
  };
  told = λ s actor goes_round. record s { policy = policy.told s.policy actor goes_round };
}
