-- What follows from the access that an instruction makes.
use Rattle.std.proofs.Common.{◌≡◌, ◌≢◌, ℕ, ◌+◌, ◌<◌, Bool, true, false, cond, eqb, eq-eqb, ne_eqb, List, [], ◌∷◌}
use Rattle.std.proofs.Common.{◌++◌, sym, refl, ap, subst, ◌∙◌, append-nil}
use Rattle.std.specs.Prelude.{Option, Some, None, slice_set}
use Rattle.rtr_types.specs.declared.access.Access.{Access}
use Rattle.rtr_types.specs.declared.access.Kind.{Kind}
use Rattle.rtr_types.specs.Accesses.{is_read, is_write}
use Rattle.image_mem.specs.Contents.{Contents}
use Rattle.rv_core.specs.declared.core_state.Core.{Core}
use Rattle.rv_core.specs.declared.core_state.Need.{Need}
use Rattle.rv_core.specs.declared.core_state.Need.TheVariants.{Local, Load, Store, Amo, Done}
use Rattle.rv_core.specs.Needs.{is_of_kind}
use Rattle.rv_core.specs.Steps.{need, after, wrote, is_done}
use Rattle.rv_core.proofs.LawLemmas.{unread_law, whole_law, whole_store_law}
use Rattle.rv_core.specs.declared.outcome.LoadNote.{LoadNote}
use Rattle.replay_core.specs.Plans.{Plan}
use Rattle.replay_core.specs.Play.{Use, use_of, words_after, loads_after, instr, accesses_by}
use Rattle.replay_core.specs.Answers.{UsesWithin}
use Rattle.replay_core.proofs.PlaceSteps.{used_within}
use Rattle.replay_table.specs.declared.view.Own.{Own}
use Rattle.replay_audit.specs.declared.touch.Touch.{Touch}
use Rattle.replay_table.specs.Kinds.{retired}
use Rattle.replay_audit.specs.Touches.{as_touch}
use Rattle.replay_table.specs.Accesses.{Accesses, Stores, touched_after, touches_by}

some_none : {A : Type 0} (a : A) → ◌≡◌ {A = Option A} None (Some a) → ⊥
some_none a e = cc

going-by : (n : Need) (used : Kind × ℕ) → use_of n ≡ Some used → is_done n ≡ false
going-by Local used e = refl
going-by (Load w) used e = refl
going-by (Store w b) used e = refl
going-by (Amo w) used e = refl
going-by (Done stop) used e = absurd (some_none used e)

-- an instruction that makes an access isn't done
pub going : (n : Need) (word : ℕ) (writes whole : Bool) → Accesses n word writes whole → is_done n ≡ false
going n word writes whole h = going-by n (h.kind, word) h.used

-- and isn't local
pub not_local : (n : Need) (word : ℕ) (writes whole : Bool) → Accesses n word writes whole → n ≡ Local → ⊥
not_local n word writes whole h e = some_none (h.kind, word) (sym (ap use_of e) ∙ h.used)

-- its word is one of the memory's
pub word_within : (image : Contents) (k : Core) (word : ℕ) (writes whole : Bool) → Accesses (need image k) word writes
    whole → word < image.words
word_within image k word writes whole h =
    subst (λ (u : Use). UsesWithin u image.words) h.used
    (used_within image k (use_of (need image k)) image.words refl refl)

-- two descriptions of one access agree
pub record Same (word word' : ℕ) (writes writes' whole whole' : Bool) : Type 0 where
  pub word_is : word ≡ word'
  pub writes_is : writes ≡ writes'
  pub whole_is : whole ≡ whole'

pub one_access : (n : Need) (word word' : ℕ) (writes writes' whole whole' : Bool) → Accesses n word writes whole
    → Accesses n word' writes' whole'
    → Same word word' writes writes' whole whole'
one_access n word word' writes writes' whole whole' h g =
    let e : ◌≡◌ {A = Option (Kind × ℕ)} (Some (h.kind, word)) (Some (g.kind, word')) = sym h.used ∙ g.used in
    let pair : ◌≡◌ {A = Kind × ℕ} (h.kind, word) (g.kind, word') = cc in
    let kinds : h.kind ≡ g.kind = ap (λ (x : Kind × ℕ). x.0) pair in
    record {
      word_is = ap (λ (x : Kind × ℕ). x.1) pair;
      writes_is = sym h.writes_is ∙ ap is_write kinds ∙ g.writes_is;
      whole_is = sym h.whole_is ∙ g.whole_is;
    }

-- what the word holds afterwards
pub words_left : (n : Need) (word : ℕ) (whole : Bool) (words : List ℕ) (value : ℕ) → Accesses n word false whole
    → words_after (use_of n) words value ≡ words
words_left n word whole words value h = ap (λ (u : Use). words_after u words value) h.used
    ∙ ap (λ (b : Bool). cond b (slice_set words word value) words) h.writes_is

pub words_written : (n : Need) (word : ℕ) (whole : Bool) (words : List ℕ) (value : ℕ) → Accesses n word true whole
    → words_after (use_of n) words value ≡ slice_set words word value
words_written n word whole words value h = ap (λ (u : Use). words_after u words value) h.used
    ∙ ap (λ (b : Bool). cond b (slice_set words word value) words) h.writes_is

-- a store of a whole word is the same whatever the word held: it doesn't read
unread : (n : Need) (word : ℕ) → (h : Stores n word) → is_read h.kind ≡ false
unread n word h = sym (ap (λ (u : Use). is_of_kind is_read u) h.used) ∙ (whole_store_law n h.whole_is).1

pub whole_after : (image : Contents) (k : Core) (word one other : ℕ) → Stores (need image k) word → after image k one
    ≡ after image k other
whole_after image k word one other h = unread_law image k h.kind word one other h.used (unread (need image k) word h)

pub whole_wrote : (image : Contents) (k : Core) (word one other : ℕ) → Stores (need image k) word → wrote image k one
    ≡ wrote image k other
whole_wrote image k word one other h = whole_law image k one other h.whole_is

-- nor does it note what it found
whole-loads : (n : Need) (word : ℕ) (list : List LoadNote) (count one other : ℕ) → Stores n word
    → loads_after (use_of n) list count one ≡ loads_after (use_of n) list count other
whole-loads n word list count one other h = noted one ∙ sym (noted other)
  where
    noted : (value : ℕ) → loads_after (use_of n) list count value ≡ list
    noted value = ap (λ (u : Use). loads_after u list count value) h.used
        ∙ ap (λ (b : Bool). cond b (list ++ record { count = count; word = word; value = value } ∷ []) list)
        (unread n word h)

pub whole_retired : (p : Plan) (o : Own) (at : Core) (word one other : ℕ) → Stores (need p.image at) word
    → retired p o at one ≡ retired p o at other
whole_retired p o at word one other h =
    let u = use_of (need p.image at) in
    let own : Core → List LoadNote → Own = λ k l. record o
    { core = k; loads = l; touched = touched_after u o.touched at.id (at.count + 1) } in
    ap (λ (k : Core). own k (loads_after u o.loads (at.count + 1) one)) (whole_after p.image at word one other h)
    ∙ ap (λ (l : List LoadNote). own (after p.image at other) l)
    (whole-loads (need p.image at) word o.loads (at.count + 1) one other h)

-- ---- the accesses of one core

pub touches_on : (c : ℕ) (xs ys : List Access) → touches_by c (xs ++ ys) ≡ touches_by c xs ++ touches_by c ys
touches_on c [] ys = refl
touches_on c (a ∷ xs) ys = by (eqb a.at.core c) (touches_on c xs ys)
  where
    by : (b : Bool) → touches_by c (xs ++ ys) ≡ touches_by c xs ++ touches_by c ys
        → cond b (as_touch a ∷ touches_by c (xs ++ ys)) (touches_by c (xs ++ ys)) ≡ cond b
        (as_touch a ∷ touches_by c xs) (touches_by c xs) ++ touches_by c ys
    by true e = ap (λ (l : List Touch). as_touch a ∷ l) e
    by false e = e

pub touches_here : (used : Use) (list : List Touch) (c count before value : ℕ)
    → list ++ touches_by c (accesses_by used (instr c count) before value) ≡ touched_after used list c count
touches_here None list c count before value = append-nil list
touches_here (Some used) list c count before value = rw (eq-eqb c c refl) refl

pub touches_else : (used : Use) (c i count before value : ℕ) → i ≢ c
    → touches_by i (accesses_by used (instr c count) before value) ≡ []
touches_else None c i count before value ne = refl
touches_else (Some used) c i count before value ne = rw (ne_eqb c i (λ e. ne (sym e))) refl
