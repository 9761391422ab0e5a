-- The actions of a text, piece by piece.
use Rattle.std.proofs.Common.{◌≡◌, ℕ, List, [], ◌∷◌, ◌++◌, Option, Some, None, refl, sym, ap, ◌∙◌, append_assoc}
use Rattle.std.specs.Option.{option_and_then, option_map}
use Rattle.gdb_packets.specs.Asks.{action_of, actions_in}
use Rattle.gdb_packets.specs.Texts.{cut_at, pieces_at}
use Rattle.gdb_packets.specs.declared.asks.Action.{Action}
use Rattle.gdb_packets.proofs.TextLemmas.{cut_pieces, pieces_are}

-- what the text has, with these before
abbrev pub with_actions : List Action → Option (List Action) → Option (List Action)
with_actions actions others = option_map (λ more. actions ++ more) others

pieces_cut : (rest : List ℕ) (parts : Option (List ℕ × List ℕ)) → parts ≡ cut_at 59 rest →
    actions_in (pieces_at 59 rest) ≡ actions_in (cut_pieces 59 rest parts)
pieces_cut rest parts e = ap actions_in (pieces_are 59 rest ∙ ap (cut_pieces 59 rest) (sym e))

more_before : (actions : List Action) (action : Action) (others : Option (List Action)) →
    with_actions actions (option_map (λ more. action ∷ more) others) ≡ with_actions (actions ++ action ∷ []) others
more_before actions action None = refl
more_before actions action (Some more) = ap (λ all. Some all) (sym (append_assoc actions (action ∷ []) more))

-- a piece that is an action
pub piece_acts : (actions : List Action) (rest front more : List ℕ) (action : Action) →
    Some (front, more) ≡ cut_at 59 rest → action_of front ≡ Some action →
    with_actions actions (actions_in (pieces_at 59 rest))
    ≡ with_actions (actions ++ action ∷ []) (actions_in (pieces_at 59 more))
piece_acts actions rest front more action cut acts =
    ap (with_actions actions) (
    pieces_cut rest (Some (front, more)) cut
    ∙ ap (option_and_then (λ a. option_map (λ others. a ∷ others) (actions_in (pieces_at 59 more)))) acts
    )
    ∙ more_before actions action (actions_in (pieces_at 59 more))

-- a piece that is none
pub piece_fails : (actions : List Action) (rest front more : List ℕ) → Some (front, more) ≡ cut_at 59 rest →
    action_of front ≡ None → with_actions actions (actions_in (pieces_at 59 rest)) ≡ None
piece_fails actions rest front more cut fails =
    ap (with_actions actions) (
    pieces_cut rest (Some (front, more)) cut
    ∙ ap (option_and_then (λ a. option_map (λ others. a ∷ others) (actions_in (pieces_at 59 more)))) fails
    )

-- the last piece
pub last_acts : (actions : List Action) (rest : List ℕ) (action : Action) → None ≡ cut_at 59 rest →
    action_of rest ≡ Some action → with_actions actions (actions_in (pieces_at 59 rest)) ≡ Some (actions ++ action ∷ [])
last_acts actions rest action cut acts =
    ap (with_actions actions) (
    pieces_cut rest None cut
    ∙ ap (option_and_then (λ a. option_map (λ others. a ∷ others) (Some []))) acts
    )

pub last_fails : (actions : List Action) (rest : List ℕ) → None ≡ cut_at 59 rest → action_of rest ≡ None →
    with_actions actions (actions_in (pieces_at 59 rest)) ≡ None
last_fails actions rest cut fails =
    ap (with_actions actions) (
    pieces_cut rest None cut
    ∙ ap (option_and_then (λ a. option_map (λ others. a ∷ others) (Some []))) fails
    )
