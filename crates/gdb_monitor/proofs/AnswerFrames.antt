-- What an answer has, carried over to what is made of it.
use Rattle.std.specs.Prelude.{Result, Ok, Err, IfOk}

pub if_ok : {T E : Type 0} (answer : Result T E) {P Q : T → Type 0} → ((x : T) → P x → Q x) → IfOk answer P →
    IfOk answer Q
if_ok (Ok x) f h = f x h
if_ok (Err e) f h = tt
