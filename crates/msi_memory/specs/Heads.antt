-- What holds of the oldest message of a link.
use Rattle.std.specs.Prelude.{List, [], ◌∷◌}

-- this holds of the oldest of these, if there is one
abbrev pub OfHead : {X : Type 0} → List X → (X → Type 0) → Type 0
OfHead [] holds = Unit {0}
OfHead (x ∷ rest) holds = holds x
