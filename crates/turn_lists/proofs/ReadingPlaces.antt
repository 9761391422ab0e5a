-- Where a reading of turns stands, and how it goes on.
use Rattle.std.proofs.Common.{◌≡◌, ◌≢◌, ◌∙◌, refl, sym, ap, ℕ, ◌<◌, List, [], ◌∷◌, ◌++◌, arith, length, get_or}
use Rattle.std.proofs.Common.{Bool, true, false}
use Rattle.std.specs.Prelude.{◌&&◌, codes, flat_map}
use Rattle.std.proofs.lemmas.List.{append-nil, append_assoc}
use Rattle.std.proofs.lemmas.List.Concat.{flat_map-append}
use Rattle.std.proofs.lemmas.List.Folds.{list_all-append}
use Rattle.turn_lists.specs.declared.actor.Turn.{Turn}
use Rattle.turn_lists.specs.Texts.{are_turns, is_turn, spelled_more, spelled_turn, spelled_turns}
use Rattle.turn_lists.proofs.TextLemmas.{first_cut, lacks_at, no_cut, turn_lacks}

-- the turns so far, each before a comma
abbrev pub fronts : List Turn → List ℕ
fronts ts = flat_map (λ t. spelled_turn t ++ 44 ∷ []) ts

-- some turns, of which there is one at least, are spelled so
pub record Goes (left : List ℕ) : Type 0 where
  pub first : Turn
  pub more : List Turn
  pub first_fits : is_turn first ≡ true
  pub more_fit : are_turns more ≡ true
  pub spelled : left ≡ spelled_turn first ++ spelled_more more

-- the turns that were read, and the text that is left
pub record StandsAt (text : List ℕ) (turns : List Turn) (left : List ℕ) : Type 0 where
  pub fit : are_turns turns ≡ true
  pub read : text ≡ fronts turns ++ left
  pub goes : (ts : List Turn) → are_turns ts ≡ true → text ≡ spelled_turns ts → Goes left

pub and_left : (a b : Bool) → (a && b) ≡ true → a ≡ true
and_left true b h = refl
and_left false b h = h

pub and_right : (a b : Bool) → (a && b) ≡ true → b ≡ true
and_right true b h = h
and_right false b h = absurd (cc)

pub more_fit : (turns : List Turn) (t : Turn) → are_turns turns ≡ true → is_turn t ≡ true →
    are_turns (turns ++ t ∷ []) ≡ true
more_fit turns t fit fits = list_all-append is_turn turns (t ∷ []) ∙ rw (fit, fits) refl

pub stands_first : (text : List ℕ) → text ≢ codes "-" → StandsAt text [] text
unfolding spelled_turns
stands_first text some = record { fit = refl; read = refl; goes = λ ts fit is. by ts fit is }
  where
    by : (ts : List Turn) → are_turns ts ≡ true → text ≡ spelled_turns ts → Goes text
    by [] fit is = absurd (some is)
    by (t ∷ ts) fit is = record {
      first = t;
      more = ts;
      first_fits = and_left (is_turn t) (are_turns ts) fit;
      more_fit = and_right (is_turn t) (are_turns ts) fit;
      spelled = is;
    }

-- what stands before the first comma is a turn, if turns are spelled so
pub goes_on : (left front more : List ℕ) → Goes left → left ≡ front ++ 44 ∷ more →
    ((i : ℕ) → i < length front → get_or front i 0 ≢ 44) →
    (u : Turn) × (is_turn u ≡ true) × (front ≡ spelled_turn u) × Goes more
goes_on left front more g cut lacking = by g.more g.more_fit g.spelled
  where
    plain : (i : ℕ) → i < length (spelled_turn g.first) → get_or (spelled_turn g.first) i 0 ≢ 44
    plain = lacks_at 44 (spelled_turn g.first) (turn_lacks 44 g.first (omega arith) (omega arith) g.first_fits)

    by : (vs : List Turn) → are_turns vs ≡ true → left ≡ spelled_turn g.first ++ spelled_more vs →
        (u : Turn) × (is_turn u ≡ true) × (front ≡ spelled_turn u) × Goes more
    by [] fit is =
        absurd (no_cut 44 (spelled_turn g.first) front more plain
        (sym (append-nil (spelled_turn g.first)) ∙ sym is ∙ cut))
    by (v ∷ vs) fit is =
        let parts =
        first_cut 44 front more (spelled_turn g.first) (spelled_turn v ++ spelled_more vs) (sym cut ∙ is) lacking
        plain in (
          g.first,
          g.first_fits,
          parts.0,
          record {
            first = v;
            more = vs;
            first_fits = and_left (is_turn v) (are_turns vs) fit;
            more_fit = and_right (is_turn v) (are_turns vs) fit;
            spelled = parts.1;
          },
        )

-- without a comma, a turn is what is left
pub goes_out : (left : List ℕ) → Goes left → ((i : ℕ) → i < length left → get_or left i 0 ≢ 44) →
    (u : Turn) × (is_turn u ≡ true) × (left ≡ spelled_turn u)
goes_out left g lacking = by g.more g.spelled
  where
    by : (vs : List Turn) → left ≡ spelled_turn g.first ++ spelled_more vs →
        (u : Turn) × (is_turn u ≡ true) × (left ≡ spelled_turn u)
    by [] is = (g.first, g.first_fits, is ∙ append-nil (spelled_turn g.first))
    by (v ∷ vs) is =
        absurd (no_cut 44 left (spelled_turn g.first) (spelled_turn v ++ spelled_more vs) lacking is)

pub stands_more : (text : List ℕ) (turns : List Turn) (left front more : List ℕ) (t : Turn) → StandsAt text turns left →
    left ≡ front ++ 44 ∷ more → ((i : ℕ) → i < length front → get_or front i 0 ≢ 44) → is_turn t ≡ true →
    front ≡ spelled_turn t →
    StandsAt text (turns ++ t ∷ []) more
stands_more text turns left front more t s cut lacking fits is = record {
  fit = more_fit turns t s.fit fits;
  read = s.read ∙ ap (λ (bs : List ℕ). fronts turns ++ bs) (cut ∙ ap (λ (bs : List ℕ). bs ++ 44 ∷ more) is ∙ regrouped)
      ∙ sym (append_assoc (fronts turns) (fronts (t ∷ [])) more)
      ∙ ap (λ (bs : List ℕ). bs ++ more) (sym (flat_map-append (λ u. spelled_turn u ++ 44 ∷ []) turns (t ∷ [])));
  goes = λ ts fit spelled. (goes_on left front more (s.goes ts fit spelled) cut lacking).3;
}
  where
    regrouped : spelled_turn t ++ 44 ∷ more ≡ fronts (t ∷ []) ++ more
    regrouped =
        sym (append_assoc (spelled_turn t) (44 ∷ []) more)
        ∙ ap (λ (bs : List ℕ). bs ++ more) (sym (append-nil (spelled_turn t ++ 44 ∷ [])))

pub stands_none : (text : List ℕ) (turns : List Turn) (left front more : List ℕ) → StandsAt text turns left →
    left ≡ front ++ 44 ∷ more → ((i : ℕ) → i < length front → get_or front i 0 ≢ 44) →
    ((t : Turn) → is_turn t ≡ true → front ≢ spelled_turn t) →
    (ts : List Turn) → are_turns ts ≡ true → text ≢ spelled_turns ts
stands_none text turns left front more s cut lacking none ts fit is =
    let on = goes_on left front more (s.goes ts fit is) cut lacking in none on.0 on.1 on.2

more_last : (us : List Turn) (t : Turn) → spelled_more (us ++ t ∷ []) ≡ 44 ∷ spelled_turns (us ++ t ∷ [])
unfolding spelled_turns
more_last [] t = refl
more_last (v ∷ vs) t = refl

fronts_last : (turns : List Turn) (t : Turn) → fronts turns ++ spelled_turn t ≡ spelled_turns (turns ++ t ∷ [])
unfolding spelled_turns
fronts_last [] t = sym (append-nil (spelled_turn t))
fronts_last (u ∷ us) t =
    append_assoc (spelled_turn u ++ 44 ∷ []) (fronts us) (spelled_turn t)
    ∙ ap (λ (bs : List ℕ). (spelled_turn u ++ 44 ∷ []) ++ bs) (fronts_last us t)
    ∙ append_assoc (spelled_turn u) (44 ∷ []) (spelled_turns (us ++ t ∷ []))
    ∙ ap (λ (bs : List ℕ). spelled_turn u ++ bs) (sym (more_last us t))

pub stands_last : (text : List ℕ) (turns : List Turn) (left : List ℕ) (t : Turn) → StandsAt text turns left →
    left ≡ spelled_turn t →
    text ≡ spelled_turns (turns ++ t ∷ [])
stands_last text turns left t s is =
    s.read ∙ ap (λ (bs : List ℕ). fronts turns ++ bs) is ∙ fronts_last turns t

pub stands_out : (text : List ℕ) (turns : List Turn) (left : List ℕ) → StandsAt text turns left →
    ((i : ℕ) → i < length left → get_or left i 0 ≢ 44) → ((t : Turn) → is_turn t ≡ true → left ≢ spelled_turn t) →
    (ts : List Turn) → are_turns ts ≡ true → text ≢ spelled_turns ts
stands_out text turns left s lacking none ts fit is =
    let out = goes_out left (s.goes ts fit is) lacking in none out.0 out.1 out.2
