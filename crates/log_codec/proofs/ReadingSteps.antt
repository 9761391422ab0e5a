-- One step of a reading after the other.
use Rattle.std.proofs.Common.{◌≡◌, ℕ, suc, zero, ◌<◌, Bool, true, false, cond, List, [], ◌∷◌, ◌++◌, get_or, drop}
use Rattle.std.proofs.Common.{Result, Ok, Err, refl, sym, ap, ◌∙◌}
use Rattle.std.proofs.Common.{append_assoc}
use Rattle.log_codec.specs.Faults.{◌>>=◌}
use Rattle.log_codec.specs.Laws.{IsBytes}

-- the value of a step that didn't fail
pub bind_ok : {A B : Type 0} (r : Result A ℕ) (f : A → Result B ℕ) (y : B) → (r >>= f) ≡ Ok y → (x : A) × (r ≡ Ok x) ×
    (f x ≡ Ok y)
bind_ok (Ok x) f y e = (x, refl, e)
bind_ok (Err p) f y e = absurd cc

-- a test that didn't fail
pub guard_ok : {A : Type 0} (b : Bool) (p : ℕ) (x y : A) → cond b (Ok x) (Err p) ≡ Ok y → (b ≡ true) × (x ≡ y)
guard_ok true p x y e = (refl, cc)
guard_ok false p x y e = absurd cc

-- a test that would have failed
pub refuse_ok : {A : Type 0} (b : Bool) (p : ℕ) (x y : A) → cond b (Err p) (Ok x) ≡ Ok y → (b ≡ false) × (x ≡ y)
refuse_ok true p x y e = absurd cc
refuse_ok false p x y e = (refl, cc)

abbrev done : {A : Type 0} → A → Result A ℕ
done x = Ok x

pub ok_is : {A : Type 0} (x y : A) → done x ≡ done y → x ≡ y
ok_is x y e = cc

pub bytes-drop : (n : ℕ) (bytes : List ℕ) → IsBytes bytes → IsBytes (drop n bytes)
bytes-drop zero bytes f = f
bytes-drop (suc n) [] f = f
bytes-drop (suc n) (b ∷ bytes) f = bytes-drop n bytes f.1

pub bytes-from_index : (bytes : List ℕ) → ((i : ℕ) → get_or bytes i 0 < 256) → IsBytes bytes
bytes-from_index [] f = tt
bytes-from_index (b ∷ bytes) f = (f 0, bytes-from_index bytes (λ i. f (suc i)))

-- what a reader took from the front
pub record Takes (bytes text rest : List ℕ) : Type 0 where
  pub parts : bytes ≡ text ++ rest
  pub rest_fits : IsBytes rest

pub Takes-then : (a x b y c : List ℕ) → Takes a x b → Takes b y c → Takes a (x ++ y) c
Takes-then a x b y c p q =
    record { parts = p.parts ∙ ap (λ (t : List ℕ). x ++ t) q.parts ∙ sym (append_assoc x y c); rest_fits = q.rest_fits }

pub Takes-none : (a : List ℕ) → IsBytes a → Takes a [] a
Takes-none a fits = record { parts = refl; rest_fits = fits }
