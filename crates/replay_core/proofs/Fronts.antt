-- Fronts of the low order, and what a run along it comes to.
use Rattle.std.proofs.Common.{inl, inr, ◌≡◌, ◌⊎◌, ℕ, ◌<◌, true, false, List, [], ◌∷◌, ◌++◌, length, refl, sym, ap, ◌∙◌}
use Rattle.std.proofs.Common.{subst, arith, append-nil, append_assoc}
use Rattle.std.specs.Prelude.{Option, Some, None}
use Rattle.std.proofs.lemmas.Bool.{cases_order}
use Rattle.rtr_types.specs.declared.cut.Cut.{Cut}
use Rattle.rv_core.specs.declared.outcome.Outcome.{Outcome}
use Rattle.rv_core.specs.Steps.{is_done}
use Rattle.replay_core.specs.Plans.{Plan}
use Rattle.replay_core.specs.Play.{Given, no_values, need_at, start, valued_place, ValuedPlays}
use Rattle.replay_core.specs.Play.{valued_short}
use Rattle.replay_core.specs.Play.{valued_played}
use Rattle.replay_core.specs.Orders.{bump, counts, nought, counts_in, Ready, Ordered, Full, lowest_ready, low_order}
use Rattle.replay_core.specs.Answers.{cut_of, ReplaysValued, EndsAtValued}
use Rattle.replay_core.specs.Laws.{Lowest, LowFront, LowFrontLaw, LowEndLaw}
use Rattle.replay_core.proofs.Lists.{valued_on, valued_join, valued_short_on, valued_short_law}
use Rattle.replay_core.proofs.Low.{IsLowest, lowest_is, low_order_law}
use Rattle.replay_core.proofs.Places.{valued_play_law}

pub front_ordered : (p : Plan) (f : ℕ → ℕ) (xs : List ℕ) → LowFront p f xs → Ordered p f xs
front_ordered p f [] h = tt
front_ordered p f (c ∷ cs) h = (h.0, front_ordered p (bump f c) cs h.2)

pub front_more : (p : Plan) (f : ℕ → ℕ) (xs : List ℕ) (c : ℕ) → LowFront p f xs → Ready p (counts f xs) c →
    ((d : ℕ) → d < c → Ready p (counts f xs) d → ⊥) →
    LowFront p f (xs ++ c ∷ [])
front_more p f [] c h ready no_lower = (ready, no_lower, tt)
front_more p f (x ∷ xs) c h ready no_lower = (h.0, h.1, front_more p (bump f x) xs c h.2 ready no_lower)

front-of : (p : Plan) (f : ℕ → ℕ) (xs ys : List ℕ) → LowFront p f xs → Lowest p f ys → (rest : List ℕ) ×
    (ys ≡ xs ++ rest)
front-of p f [] ys h l = (ys, refl)
front-of p f (c ∷ cs) [] h l = absurd (l c h.0)
front-of p f (c ∷ cs) (d ∷ ds) h l = by (cases_order c d) (front-of p (bump f c) cs ds h.2)
  where
    by : (c ≡ d) ⊎ (c < d) ⊎ (d < c) → (Lowest p (bump f c) ds → (rest : List ℕ) × (ds ≡ cs ++ rest)) →
        (rest : List ℕ) × (d ∷ ds ≡ c ∷ cs ++ rest)
    by (inl e) go =
        let g = go (subst (λ (x : ℕ). Lowest p (bump f x) ds) (sym e) l.2) in
        (g.0, ap (λ (x : ℕ). x ∷ ds) (sym e) ∙ ap (λ (z : List ℕ). c ∷ z) g.1)
    by (inr (inl lt)) go = absurd (l.1 c lt h.0)
    by (inr (inr lt)) go = absurd (h.1 d lt l.0)

pub low_front : LowFrontLaw
low_front p front h = front-of p nought front (low_order p) h (low_order_law p)

lowest-rest : (p : Plan) (f : ℕ → ℕ) (xs ys : List ℕ) → Lowest p f (xs ++ ys) → Lowest p (counts f xs) ys
lowest-rest p f [] ys l = l
lowest-rest p f (x ∷ xs) ys l = lowest-rest p (bump f x) xs ys l.2

pub low_end : LowEndLaw
low_end p xs h none = let g = low_front p xs h in
    by g.0 g.1 (subst (λ (l : List ℕ). Lowest p nought l) g.1 (low_order_law p))
  where
    by : (rest : List ℕ) → low_order p ≡ xs ++ rest → Lowest p nought (xs ++ rest) → low_order p ≡ xs
    by [] e l = e ∙ append-nil xs
    by (c ∷ cs) e l = absurd (none c (lowest-rest p nought xs (c ∷ cs) l).0)

-- ---- a run along the low order

-- the outcome is that of a front of the low order
pub record ValuedGoing (given : Given) (p : Plan) (order : List ℕ) (s : Outcome) : Type 0 where
  pub low : LowFront p nought order
  pub plays : ValuedPlays given p (start p) order
  pub state : s ≡ valued_played given p order

pub valued_start : (given : Given) (p : Plan) (s : Outcome) → s ≡ start p → ValuedGoing given p [] s
valued_start given p s is = record { low = tt; plays = tt; state = is }

abbrev pub Going : Plan → List ℕ → Outcome → Type 0
Going p order s = ValuedGoing no_values p order s

pub going_start : (p : Plan) (s : Outcome) → s ≡ start p → Going p [] s
going_start p s is = valued_start no_values p s is

-- the cores have come as far as the order says
pub valued_tally : (given : Given) (p : Plan) (order : List ℕ) (s : Outcome) → ValuedGoing given p order s →
    counts_in s ≡ counts nought order
valued_tally given p order s going =
    ap (λ (t : Outcome). counts_in t) going.state
    ∙ (valued_play_law given p order (front_ordered p nought order going.low)).counts

pub tally : (p : Plan) (order : List ℕ) (s : Outcome) → Going p order s → counts_in s ≡ counts nought order
tally p order s going = valued_tally no_values p order s going

-- the next core
pub record Chosen (p : Plan) (order : List ℕ) (s : Outcome) (c : ℕ) : Type 0 where
  pub ready : Ready p (counts_in s) c
  pub next : Ready p (counts nought order) c
  pub no_lower : (d : ℕ) → d < c → Ready p (counts nought order) d → ⊥

pub chosen : (given : Given) (p : Plan) (order : List ℕ) (s : Outcome) (c : ℕ) → ValuedGoing given p order s →
    lowest_ready p (counts_in s) ≡ Some c → Chosen p order s c
chosen given p order s c going is =
    let known = subst (λ (o : Option ℕ). IsLowest p (counts_in s) 0 (length p.totals) o) is
    (lowest_is p (counts_in s) 0 (length p.totals)) in
    let same = valued_tally given p order s going in
    record {
      ready = known.0;
      next = subst (λ (f : ℕ → ℕ). Ready p f c) same known.0;
      no_lower = λ d lt ready. known.1 d (omega arith) lt (subst (λ (f : ℕ → ℕ). Ready p f d) (sym same) ready);
    }

pub none_chosen : (given : Given) (p : Plan) (order : List ℕ) (s : Outcome) → ValuedGoing given p order s →
    lowest_ready p (counts_in s) ≡ None → low_order p ≡ order
none_chosen given p order s going is =
    let known = subst (λ (o : Option ℕ). IsLowest p (counts_in s) 0 (length p.totals) o) is
    (lowest_is p (counts_in s) 0 (length p.totals)) in
    let same = valued_tally given p order s going in
    low_end p order going.low
    (λ c ready. known c (omega arith) (let inside = ready.inside in omega arith)
    (subst (λ (f : ℕ → ℕ). Ready p f c) (sym same) ready))

pub going_on : (given : Given) (p : Plan) (order : List ℕ) (s t : Outcome) (c : ℕ) → ValuedGoing given p order s →
    Chosen p order s c → is_done (need_at p s c) ≡ false → t ≡ valued_place given p s c →
    ValuedGoing given p (order ++ c ∷ []) t
going_on given p order s t c going choice goes is =
    let here : is_done (need_at p (valued_played given p order) c) ≡ false =
    subst (λ (o : Outcome). is_done (need_at p o c) ≡ false) going.state goes in
    record {
      low = front_more p nought order c going.low choice.next choice.no_lower;
      plays = valued_join given p (start p) order (c ∷ []) going.plays (here, tt);
      state = is ∙ ap (λ (o : Outcome). valued_place given p o c) going.state
          ∙ sym (valued_on given p (start p) order (c ∷ []));
    }

-- ---- what the run answers

pub falls_short : (given : Given) (p : Plan) (order : List ℕ) (s : Outcome) (c : ℕ) → ValuedGoing given p order s →
    Chosen p order s c → is_done (need_at p s c) ≡ true →
    valued_short given p (start p) (low_order p) ≡ Some (c, counts_in s c)
falls_short given p order s c going choice done =
    let front = low_front p (order ++ c ∷ []) (front_more p nought order c going.low choice.next choice.no_lower) in
    let split : low_order p ≡ order ++ c ∷ front.0 = front.1 ∙ append_assoc order (c ∷ []) front.0 in
    let here : is_done (need_at p (valued_played given p order) c) ≡ true =
    subst (λ (o : Outcome). is_done (need_at p o c) ≡ true) going.state done in
    let first : valued_short given p (valued_played given p order) (c ∷ front.0)
    ≡ Some (c, counts_in (valued_played given p order) c) = rw here refl in
    ap (λ (l : List ℕ). valued_short given p (start p) l) split
    ∙ valued_short_on given p (start p) order (c ∷ front.0) going.plays ∙ first
    ∙ ap (λ (o : Outcome). Some (c, counts_in o c)) (sym going.state)

plays-low : (given : Given) (p : Plan) (order : List ℕ) (s : Outcome) → ValuedGoing given p order s →
    low_order p ≡ order → valued_short given p (start p) (low_order p) ≡ None
plays-low given p order s going is =
    (valued_short_law given p (start p) (low_order p)).0
    (subst (λ (l : List ℕ). ValuedPlays given p (start p) l) (sym is) going.plays)

pub replays : (given : Given) (p : Plan) (order : List ℕ) (s outcome : Outcome) → ValuedGoing given p order s →
    low_order p ≡ order → Full p (counts_in s) → outcome ≡ s → ReplaysValued given p outcome
replays given p order s outcome going is full same = record {
  plays = plays-low given p order s going is;
  whole = subst (λ (l : List ℕ). Full p (counts nought l)) (sym is)
      (subst (Full p) (valued_tally given p order s going) full);
  outcome_is = same ∙ going.state ∙ ap (λ (l : List ℕ). valued_played given p l) (sym is);
}

pub ends_at : (given : Given) (p : Plan) (order : List ℕ) (s : Outcome) (cut : Cut) → ValuedGoing given p order s →
    low_order p ≡ order → (Full p (counts_in s) → ⊥) →
    cut ≡ cut_of p (counts_in s) → EndsAtValued given p cut
ends_at given p order s cut going is not_full same = record {
  plays = plays-low given p order s going is;
  not_whole = λ whole. not_full
      (subst (Full p) (sym (valued_tally given p order s going))
      (subst (λ (l : List ℕ). Full p (counts nought l)) is whole));
  cut_is = same ∙ ap (λ (f : ℕ → ℕ). cut_of p f) (valued_tally given p order s going)
      ∙ ap (λ (l : List ℕ). cut_of p (counts nought l)) (sym is);
}
