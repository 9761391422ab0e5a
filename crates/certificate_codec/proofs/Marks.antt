-- Marks at the counts of a core.
use Rattle.std.proofs.Common.{◌≡◌, ℕ, suc, ◌+◌, ◌<◌, List, [], ◌∷◌, ◌++◌, get_or, length, take, refl, sym, ap, ◌∙◌}
use Rattle.std.proofs.Common.{arith, Bool, true, false, ◌||◌, ◌≢◌, nat_eq}
use Rattle.std.specs.Prelude.{map}
use Rattle.std.proofs.Math.Seq.{take-suc}
use Rattle.std.proofs.lemmas.List.{get_or_default, map-append}
use Rattle.rtr_types.specs.declared.instr.Instr.{Instr}
use Rattle.rtr_types.specs.declared.instr.Edge.{Edge}
use Rattle.std.proofs.lemmas.Bool.Decides.{nat_tests}
use Rattle.race_log.specs.Sources.{edge_between}
use Rattle.clock_entries.specs.Ends.{instr, is_same, is_end}

abbrev ends_here : Edge → Instr → Bool
ends_here e x = is_same e.from x || is_same e.to x

or_none : (a : Bool) → a || false ≡ a
or_none true = refl
or_none false = refl

or_last : (a b c : Bool) → a || (b || c) ≡ b || (a || c)
or_last true true c = refl
or_last true false c = refl
or_last false true c = refl
or_last false false c = refl

is_end-push : (edges : List Edge) (e : Edge) (x : Instr) → is_end (edges ++ e ∷ []) x ≡ ends_here e x || is_end edges x
is_end-push [] e x = refl
is_end-push (f ∷ edges) e x =
    ap (λ (b : Bool). ends_here f x || b) (is_end-push edges e x)
    ∙ or_last (ends_here f x) (ends_here e x) (is_end edges x)

pub one_more : (edges : List Edge) (i : ℕ) (d : Edge) → i < length edges →
    take (i + 1) edges ≡ take i edges ++ get_or edges i d ∷ []
one_more edges i d lt = let e : i + 1 ≡ suc i = omega arith in ap (λ (k : ℕ). take k edges) e ∙ take-suc edges i d lt

or_four : (a b c d : Bool) → b || (a || (c || d)) ≡ ((a || b) || c) || d
or_four true true c d = refl
or_four true false c d = refl
or_four false true c d = refl
or_four false false c d = refl

-- ---- the edges of a pair

module _ (from to : ℕ) where
  -- both ends of one edge more are marked
  pub marked_more : (counts : List (ℕ × ℕ)) (i : ℕ) (item d : ℕ × ℕ) (x : Instr) (before old first second : Bool) →
      i < length counts → item ≡ get_or counts i d →
      old ≡ is_end (map (edge_between from to) (take i counts)) x || before →
      first ≡ is_same (edge_between from to item).from x || old →
      second ≡ is_same (edge_between from to item).to x || first →
      second ≡ is_end (map (edge_between from to) (take (i + 1) counts)) x || before
  marked_more counts i item d x before old first second lt is was one two =
      let edge = edge_between from to in
      let e : Edge = edge item in
      let so_far = map edge (take i counts) in
      let next : i + 1 ≡ suc i = omega arith in
      let more : map edge (take (i + 1) counts) ≡ so_far ++ e ∷ [] =
      ap (λ (k : ℕ). map edge (take k counts)) next ∙ ap (map edge) (take-suc counts i d lt)
      ∙ map-append edge (take i counts) (get_or counts i d ∷ [])
      ∙ ap (λ (p : ℕ × ℕ). so_far ++ edge p ∷ []) (sym is) in
      two ∙ ap (λ (b : Bool). is_same e.to x || b) (one ∙ ap (λ (b : Bool). is_same e.from x || b) was)
      ∙ or_four (is_same e.from x) (is_same e.to x) (is_end so_far x) before
      ∙ ap (λ (b : Bool). b || before) (sym (is_end-push so_far e x) ∙ ap (λ (l : List Edge). is_end l x) (sym more))

  -- an instruction of another core is the end of none
  pub none_there : (counts : List (ℕ × ℕ)) (core n : ℕ) → from ≢ core → to ≢ core →
      is_end (map (edge_between from to) counts) (instr core n) ≡ false
  none_there [] core n not_from not_to = refl
  none_there (p ∷ counts) core n not_from not_to =
      let one : nat_eq from core ≡ false = grind (arith, nat_tests) in
      let two : nat_eq to core ≡ false = grind (arith, nat_tests) in
      rw (one, two) (none_there counts core n not_from not_to)

-- ---- all edges

is_end-append : (xs ys : List Edge) (x : Instr) → is_end (xs ++ ys) x ≡ is_end ys x || is_end xs x
is_end-append [] ys x = sym (or_none (is_end ys x))
is_end-append (e ∷ xs) ys x =
    ap (λ (b : Bool). ends_here e x || b) (is_end-append xs ys x) ∙ or_last (ends_here e x) (is_end ys x) (is_end xs x)

-- the ends of one pair more are marked
pub pair_marked : (old pair new : List Edge) (x : Instr) (before after : Bool) → before ≡ is_end old x →
    after ≡ is_end pair x || before → new ≡ old ++ pair →
    after ≡ is_end new x
pair_marked old pair new x before after was more is =
    more ∙ ap (λ (b : Bool). is_end pair x || b) was ∙ sym (is_end-append old pair x)
    ∙ ap (λ (l : List Edge). is_end l x) (sym is)

-- a mark that is looked up
pub mark_at : (items marks : List Bool) (n : ℕ) (b : Bool) → items ≡ marks → b ≡ get_or items n b → n < length marks →
    b ≡ get_or marks n false
mark_at items marks n b is at lt = at ∙ ap (λ (l : List Bool). get_or l n b) is ∙ get_or_default marks n b false lt
