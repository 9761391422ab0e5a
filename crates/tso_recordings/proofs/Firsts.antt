-- The ordered accesses, by what is told first.
use Rattle.std.proofs.Common.{◌≡◌, sym, ap, List, [], ◌∷◌, ◌++◌, append-nil, append_assoc}
use Rattle.rtr_types.specs.declared.access.Access.{Access}
use Rattle.tso_state.specs.Events.{Told, Alone, Ordered, Logged}
use Rattle.tso_told.specs.Played.{ordered_told}

pub ordered_first : (earlier : List Access) (e : Told) (list : List Told) →
    earlier ++ ordered_told (e ∷ list) ≡ (earlier ++ ordered_told (e ∷ [])) ++ ordered_told list
ordered_first earlier (Alone at) list = ap (λ (l : List Access). l ++ ordered_told list) (sym (append-nil earlier))
ordered_first earlier (Ordered a) list = sym (append_assoc earlier (a ∷ []) (ordered_told list))
ordered_first earlier (Logged at word value) list =
    ap (λ (l : List Access). l ++ ordered_told list) (sym (append-nil earlier))
