-- Accesses made one after the other: each finds the last value of its word, which the memory then has.
use Rattle.std.proofs.Common.{◌≡◌, ◌∙◌, ap, refl, sym, subst, ℕ, ◌<◌, ◌==◌, ◌&&◌, Bool, true, false, List, [], ◌∷◌}
use Rattle.std.proofs.Common.{◌++◌, inl, inr, ◌⊎◌, eqb-true}
use Rattle.std.specs.Prelude.{All, if◌then◌else◌}
use Rattle.std.proofs.lemmas.List.Elements.{All-push, All-nil}
use Rattle.std.proofs.lemmas.List.{append-nil}
use Rattle.image_mem.specs.Contents.{Contents, opening_word}
use Rattle.rtr_types.specs.Accesses.{is_write}
use Rattle.rtr_types.specs.declared.access.Access.{Access}
use Rattle.rtr_types.proofs.Lists.{cons-head, cons-rest}
use Rattle.msi_state.specs.Events.{Event, Nothing, Retires, Accesses}
use Rattle.machine_data.specs.Coherent.{memory_after, Finds, WordsFit, word_of}
use Rattle.msi_state.specs.Runs.{accesses_in}
use Rattle.machine_data.specs.LastValues.{last_value, EachFindsLast}
use Rattle.machine_data.proofs.Memory.{last_write_found}
use Rattle.machine_data.proofs.OpeningWords.{home_memory, home_fits, opening_at}

-- the last value with one access more
pub last_value-snoc : (opening word : ℕ) (list : List Access) (a : Access) → last_value opening word (list ++ a ∷ [])
    ≡ (if a.word == word then a.after else last_value opening word list)
last_value-snoc opening word [] a = refl
last_value-snoc opening word (b ∷ list) a = last_value-snoc (if b.word == word then b.after else opening) word list a

-- ---- where an element stands in a list with one more behind it

none_there : {X : Type 0} (earlier later : List X) (x : X) → [] ≡ earlier ++ x ∷ later → ⊥
none_there [] later x is = cc
none_there (y ∷ earlier) later x is = cc

split-snoc : {X : Type 0} (list earlier later : List X) (a x : X) → list ++ a ∷ [] ≡ earlier ++ x ∷ later →
    ((earlier ≡ list) × (x ≡ a))
    ⊎ ((rest : List X) × (list ≡ earlier ++ x ∷ rest))
split-snoc [] [] later a x is = inl (refl, sym (cons-head a x [] later is))
split-snoc [] (y ∷ earlier) later a x is =
    absurd (none_there earlier later x (cons-rest a y [] (earlier ++ x ∷ later) is))
split-snoc (z ∷ list) [] later a x is = inr (list, ap (λ w. w ∷ list) (cons-head z x (list ++ a ∷ []) later is))
split-snoc (z ∷ list) (y ∷ earlier) later a x is =
    elim (split-snoc list earlier later a x (cons-rest z y (list ++ a ∷ []) (earlier ++ x ∷ later) is)) [
      | inl p ↦ inl (
        ap (λ xs. y ∷ xs) p.0 ∙ sym (ap (λ w. w ∷ list) (cons-head z y (list ++ a ∷ [])
            (earlier ++ x ∷ later) is)),
        p.1,
      )
      | inr p ↦ inr (
        p.0,
        ap (λ w. w ∷ list) (cons-head z y (list ++ a ∷ []) (earlier ++ x ∷ later) is)
            ∙ ap (λ xs. y ∷ xs) p.1,
      )
    ]

-- ---- one event more

-- the memory that these accesses left of what the image has, each of which found what it was
pub record Found (image : Contents) (memory : ℕ → List ℕ) (list : List Access) : Type 0 where
  pub fits : WordsFit memory
  pub values : (word : ℕ) → word < image.words → word_of memory word ≡ last_value (opening_word image word) word list
  pub found : EachFindsLast image list
  pub within : All (λ a. a.word < image.words) list

-- the event's access is to a word of the memory, and if it doesn't write it leaves the value that it found
abbrev pub Honest : (words : ℕ) → Event → Type 0
Honest words (Accesses a) = (a.word < words) × (is_write a.kind ≡ false → a.after ≡ a.before)
Honest words _ = Unit {0}

pub found_none : {R : Type 0} (fresh : R) (image : Contents) → Found image (home_memory fresh image) []
found_none fresh image =
    record {
      fits = home_fits fresh image;
      values = λ word within. opening_at fresh image word within;
      found = λ earlier later a is. absurd (none_there earlier later a is);
      within = All-nil (λ a. a.word < image.words);
    }

found_access : (image : Contents) (memory : ℕ → List ℕ) (list : List Access) (a : Access) → Found image memory list →
    a.before ≡ word_of memory a.word →
    a.word < image.words → (is_write a.kind ≡ false → a.after ≡ a.before) →
    Found image (memory_after (Accesses a) memory) (list ++ a ∷ [])
found_access image memory list a h finds within reads =
    record {
      fits = (last_write_found (Accesses a) memory h.fits).0;
      values = λ word lt. (last_write_found (Accesses a) memory h.fits).1 word
          ∙ (left word lt (is_write a.kind) (a.word == word) refl refl
          ∙ sym (last_value-snoc (opening_word image word) word list a));
      found = λ earlier later x is. elim (split-snoc list earlier later a x is) [
        | inl p ↦ subst (λ (e : List Access). x.before ≡ last_value (opening_word image x.word) x.word e) (sym p.0)
            (subst (λ (y : Access). y.before ≡ last_value (opening_word image y.word) y.word list) (sym p.1) (finds
            ∙ h.values a.word within))
        | inr p ↦ h.found earlier p.0 x p.1
      ];
      within = All-push (λ (x : Access). x.word < image.words) list a h.within within;
    }
  where
    left : (word : ℕ) → word < image.words → (writes here : Bool) → is_write a.kind ≡ writes → (a.word == word) ≡ here →
        (if writes && here then a.after else word_of memory word) ≡ (if here then a.after else last_value
        (opening_word image word) word list)
    left word lt true true w e = refl
    left word lt true false w e = h.values word lt
    left word lt false true w e = ap (λ (x : ℕ). word_of memory x) (sym (eqb-true a.word word e))
        ∙ (sym finds ∙ sym (reads w))
    left word lt false false w e = h.values word lt

pub found_more : (image : Contents) (memory : ℕ → List ℕ) (list : List Access) (e : Event) → Found image memory list →
    Finds e memory → Honest image.words e →
    Found image (memory_after e memory) (list ++ accesses_in e)
found_more image memory list Nothing h finds honest = subst (λ (l : List Access). Found image memory l)
    (sym (append-nil list)) h
found_more image memory list (Retires at) h finds honest = subst (λ (l : List Access). Found image memory l)
    (sym (append-nil list)) h
found_more image memory list (Accesses a) h finds honest = found_access image memory list a h finds honest.0 honest.1
