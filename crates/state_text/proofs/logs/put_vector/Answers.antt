-- the two parts and the line feed make the line
use Rattle.std.proofs.Common.{◌≡◌, ◌++◌, ◌∷◌, [], List, ℕ, append_assoc, string_bytes}
use Rattle.state_text.specs.Pieces.{line}
use Rattle.state_text.specs.Logs.{vector_start, strides_text}
use Rattle.state_text.proofs.logs.put_vector.Goals as goal

line_of_parts : {full two one : List ℕ} (before start strides : List ℕ) → full ≡ two ++ 10 ∷ [] → two ≡ one ++ strides
    → one ≡ before ++ start
    → full ≡ before ++ line (start ++ strides)
line_of_parts before start strides last second first = rw (last, second, first) (simp append_assoc)

pub returns : goal.returns
returns c =
    line_of_parts (string_bytes c.args.text.now) (vector_start c.args.from c.args.to c.args.vector.now)
    (strides_text c.args.vector.now)
    c.in_ok-writeln.ensures.bytes c.in_ok-put_strides.ensures c.in_ok-put_vector_start.ensures
