-- An order of which those cores are kept that can go on plays; and the timeline as far as a cut is kept whole.
use Rattle.std.proofs.Common.{◌≡◌, ℕ, ◌+◌, ◌<◌, ◌≤◌, Bool, true, false, List, [], ◌∷◌, ◌++◌, length, get_or, replicate}
use Rattle.std.proofs.Common.{refl, sym, ap, subst, ◌∙◌, arith}
use Rattle.std.proofs.lemmas.List.{get_or-replicate, length-replicate}
use Rattle.std.specs.Prelude.{not, ◌&&◌, if◌then◌else◌, slice_index}
use Rattle.rtr_types.specs.declared.cut.Cut.{Cut}
use Rattle.rtr_types.specs.declared.pairs.Which.{Which}
use Rattle.race_log.specs.declared.recording.Recording.{Recording}
use Rattle.race_log.specs.Validity.{Valid}
use Rattle.rv_core.specs.declared.outcome.Outcome.{Outcome}
use Rattle.rv_core.specs.Steps.{is_done}
use Rattle.replay_core.specs.Plans.{Plan, plan_of}
use Rattle.replay_core.specs.Orders.{Ordered, Ready, bump, counts_in, is_ready}
use Rattle.replay_core.specs.Play.{Plays, need_at, place, play, start}
use Rattle.what_if.specs.Others.{free_plan, goes_on, left_by, tried}
use Rattle.what_if.specs.Laws.{PlaysTaken, TakenPlaysLaw, taken}
use Rattle.what_if.proofs.Tries.{tried_goes, tried_stays}

-- ---- what is kept plays

not_done : (ready done : Bool) → (ready && not done) ≡ true → done ≡ false
not_done true true goes = sym goes
not_done true false goes = refl
not_done false done goes = absurd (cc)

module _ (p : Plan) (s : Outcome) (c : ℕ) (cs : List ℕ) where
  pub taken_by : (b : Bool) → goes_on p s c ≡ b →
      taken p s (c ∷ cs) ≡ (if b then c ∷ taken p (tried p s c) cs else taken p (tried p s c) cs)
  unfolding taken
  taken_by b is = ap (λ (t : Bool). if t then c ∷ taken p (tried p s c) cs else taken p (tried p s c) cs) is

  left_cons : left_by p s (c ∷ cs) ≡ left_by p (tried p s c) cs
  unfolding left_by
  left_cons = refl

  by_core : PlaysTaken p (tried p s c) cs → (b : Bool) → goes_on p s c ≡ b → PlaysTaken p s (c ∷ cs)
  by_core rest true goes =
      let there : tried p s c ≡ place p s c = tried_goes p s c goes in
      let list : taken p s (c ∷ cs) ≡ c ∷ taken p (tried p s c) cs = taken_by true goes in
      record {
        plays = subst (λ (l : List ℕ). Plays p s l) (sym list) (
          not_done (is_ready p (counts_in s) c) (is_done (need_at p s c)) goes,
          subst (λ (t : Outcome). Plays p t (taken p (tried p s c) cs)) there rest.plays,
        );
        same = left_cons ∙ rest.same
            ∙ ap (λ (t : Outcome). play p t (taken p (tried p s c) cs)) there
            ∙ ap (λ (l : List ℕ). play p s l) (sym list);
      }
  by_core rest false stays =
      let there : tried p s c ≡ s = tried_stays p s c stays in
      let list : taken p s (c ∷ cs) ≡ taken p (tried p s c) cs = taken_by false stays in
      record {
        plays = subst (λ (l : List ℕ). Plays p s l) (sym list)
            (subst (λ (t : Outcome). Plays p t (taken p (tried p s c) cs)) there rest.plays);
        same = left_cons ∙ rest.same
            ∙ ap (λ (t : Outcome). play p t (taken p (tried p s c) cs)) there
            ∙ ap (λ (l : List ℕ). play p s l) (sym list);
      }

pub plays_taken : TakenPlaysLaw
unfolding left_by taken
plays_taken p s [] = record { plays = tt; same = refl }
plays_taken p s (c ∷ cs) = by_core p s c cs (plays_taken p (tried p s c) cs) (goes_on p s c) refl
