use Rattle.std.proofs.Common.{◌≡◌, ◌∙◌, refl, ap, Bool, true, false, None, Some, cond}
use Rattle.std.specs.Prelude.{Option}
use Rattle.std.specs.Option.{option_or}
use Rattle.gdb_packets.specs.declared.asks.Plain.{Plain}
use Rattle.gdb_packets.proofs.plain.word_asks.Goals as goal

-- a word, or else what the rest of the table says
first : (w rest : Option Plain) (x : Plain) (b : Bool) → w ≡ cond b (Some x) None →
    option_or w rest ≡ cond b (Some x) rest
first w rest x b is = ap (λ (o : Option Plain). option_or o rest) is ∙ by b
  where
    by : (b : Bool) → option_or (cond b (Some x) None) rest ≡ cond b (Some x) rest
    by true = refl
    by false = refl

-- and so behind other words
next : (o both w rest : Option Plain) (x : Plain) (b : Bool) → both ≡ option_or o w → w ≡ cond b (Some x) None →
    option_or both rest ≡ option_or o (cond b (Some x) rest)
next o both w rest x b is word =
    ap (λ (p : Option Plain). option_or p rest) (is ∙ ap (λ (p : Option Plain). option_or o p) word) ∙ by o b
  where
    by : (o : Option Plain) (b : Bool) →
        option_or (option_or o (cond b (Some x) None)) rest ≡ option_or o (cond b (Some x) rest)
    by (Some y) b = refl
    by None true = refl
    by None false = refl

pub returns : goal.returns
returns c =
    c.or-10.ensures
    ∙ ap (λ (o : Option Plain). option_or c.or-9.result o) c.word-11.ensures
    ∙ next _ _ _ _ _ _ c.or-9.ensures c.word-10.ensures
    ∙ next _ _ _ _ _ _ c.or-8.ensures c.word-9.ensures
    ∙ next _ _ _ _ _ _ c.or-7.ensures c.word-8.ensures
    ∙ next _ _ _ _ _ _ c.or-6.ensures c.word-7.ensures
    ∙ next _ _ _ _ _ _ c.or-5.ensures c.word-6.ensures
    ∙ next _ _ _ _ _ _ c.or-4.ensures c.word-5.ensures
    ∙ next _ _ _ _ _ _ c.or-3.ensures c.word-4.ensures
    ∙ next _ _ _ _ _ _ c.or-2.ensures c.word-3.ensures
    ∙ next _ _ _ _ _ _ c.or.ensures c.word-2.ensures
    ∙ first _ _ _ _ c.word.ensures
