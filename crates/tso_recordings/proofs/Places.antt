-- One place of what is told: what it plays, and what it leaves of its core and of the words.
use Rattle.std.proofs.Common.{◌≡◌, ◌∙◌, refl, sym, ap, ℕ, ◌+◌, ◌<◌, false, List, [], ◌∷◌, ◌++◌, length}
use Rattle.std.proofs.Common.{append-nil, arith}
use Rattle.std.specs.Prelude.{Option, Some, None, slice_index}
use Rattle.std.proofs.lemmas.List.FromFn.{get_or-map-range_with_len}
use Rattle.image_mem.specs.Contents.{opening_word}
use Rattle.machine_data.specs.LastValues.{last_value, memory_left}
use Rattle.rtr_types.specs.declared.access.Access.{Access}
use Rattle.rtr_types.specs.declared.access.Kind.{Kind}
use Rattle.rtr_types.specs.declared.access.Kind.TheVariants.{Load as Loading}
use Rattle.rtr_types.specs.declared.instr.Instr.{Instr}
use Rattle.rv_core.specs.declared.core_state.Need.{Need}
use Rattle.rv_core.specs.declared.core_state.Need.TheVariants.{Local, Load, Store, Amo, Done}
use Rattle.rv_core.specs.declared.outcome.Outcome.{Outcome}
use Rattle.rv_core.specs.Steps.{need, after, wrote, is_done}
use Rattle.rv_core.proofs.LawLemmas.{unwritten_law}
use Rattle.msi_state.specs.Events.{next_instr}
use Rattle.replay_core.specs.Plans.{Plan}
use Rattle.replay_core.specs.Play.{Given, Use, use_of, old_for, heeded, shared, found_for, words_after, uses}
use Rattle.replay_core.specs.Play.{old_given, new_given, given_next, instr, core_at}
use Rattle.replay_core.specs.Play.{valued_place}
use Rattle.replay_core.proofs.Places.{place_given_law}
use Rattle.replay_core.proofs.PlaceSteps.{used_within}
use Rattle.tso_state.specs.Events.{Told, Alone, Ordered, Logged, instr_told}
use Rattle.tso_told.specs.Played.{IsNext, found_by, ordered_told}
use Rattle.tso_recordings.specs.Tells.{TellsAt}
use Rattle.tso_recordings.specs.Plays.{IsGiven}
use Rattle.tso_recordings.proofs.Tells.{shared-none}
use Rattle.machine_data.proofs.OneMore.{words_more}

-- a core that makes an access isn't done
some-none : (used : Kind × ℕ) → ◌≡◌ {A = Use} (Some used) None → ⊥
some-none used e = absurd cc

going-by : (n : Need) (u : Use) → use_of n ≡ u → (u ≡ None → ⊥) → is_done n ≡ false
going-by Local u e some = refl
going-by (Load word) u e some = refl
going-by (Store word whole) u e some = refl
going-by (Amo word) u e some = refl
going-by (Done stop) u e some = absurd (some (sym e))

found-none : (g : Option ℕ) (words : List ℕ) → found_for (heeded g None) None words ≡ 0
found-none None words = refl
found-none (Some value) words = refl

-- what is told of the next instruction of core c plays, and leaves this of the core and of the words
pub record Placed (given : Given) (p : Plan) (earlier : List Access) (s : Outcome) (e : Told) : Type 0 where
  pub tells : TellsAt given p s e
  pub core : core_at (valued_place given p s (instr_told e).core) (instr_told e).core
      ≡ after p.image (core_at s (instr_told e).core) (found_by e)
  pub words : (valued_place given p s (instr_told e).core).words
      ≡ memory_left p.image (earlier ++ ordered_told (e ∷ []))

-- an ordered access finds what the earlier ones left
abbrev pub FindsLeft : Plan → List Access → Told → Type 0
FindsLeft p earlier (Alone at) = Unit {0}
FindsLeft p earlier (Ordered a) = a.before ≡ last_value (opening_word p.image a.word) a.word earlier
FindsLeft p earlier (Logged at word value) = Unit {0}

module _ (given : Given) (p : Plan) (earlier : List Access) (s : Outcome)
    (words_are : s.words ≡ memory_left p.image earlier) where
  -- by its use, what it finds and what it leaves
  left : (c : ℕ) (u : Use) (old : ℕ) → c < length s.cores → uses p s c (given_next given s c) ≡ u →
      old_given p s c (given_next given s c) ≡ old →
      (core_at (valued_place given p s c) c ≡ after p.image (core_at s c) old)
      × ((valued_place given p s c).words ≡ words_after u s.words (wrote p.image (core_at s c) old))
  left c u old lt use_is old_is =
      let law = place_given_law p s c (given_next given s c) in (
        law.core lt ∙ ap (after p.image (core_at s c)) old_is,
        law.words
            ∙ ap (λ (x : Use). words_after x s.words (new_given p s c (given_next given s c))) use_is
            ∙ ap (λ (x : ℕ). words_after u s.words (wrote p.image (core_at s c) x)) old_is,
      )

  at-next : (at : Instr) → (core_at s at.core).id ≡ at.core → at ≡ next_instr (core_at s at.core) →
      at ≡ instr at.core ((core_at s at.core).count + 1)
  at-next at id is = is ∙ ap (λ (i : ℕ). instr i ((core_at s at.core).count + 1)) id

  same-words : s.words ≡ memory_left p.image (earlier ++ [])
  same-words = words_are ∙ ap (memory_left p.image) (sym (append-nil earlier))

  alone_placed : (at : Instr) → at.core < length s.cores → (core_at s at.core).id ≡ at.core →
      IsNext p.image (core_at s at.core) (Alone at) → Placed given p earlier s (Alone at)
  alone_placed at lt id next =
      let c = at.core in
      let g = given_next given s c in
      let use_is : uses p s c g ≡ None =
      ap (λ (n : Need). shared (heeded g (use_of n)) (use_of n)) next.1 ∙ shared-none g in
      let old_is : old_given p s c g ≡ 0 =
      ap (λ (n : Need). found_for (heeded g (use_of n)) (use_of n) s.words) next.1 ∙ found-none g s.words in
      let it = left c None 0 lt use_is old_is in
      record {
        tells = record {
          next = record { is = at-next at id next.0; going = ap is_done next.1 };
          uses = ap use_of next.1;
        };
        core = it.0;
        words = it.1 ∙ same-words;
      }

  ordered_placed : (a : Access) → a.at.core < length s.cores → (core_at s a.at.core).id ≡ a.at.core →
      IsNext p.image (core_at s a.at.core) (Ordered a) → FindsLeft p earlier (Ordered a) → IsGiven given (Ordered a) →
      Placed given p earlier s (Ordered a)
  ordered_placed a lt id next finds none =
      let c = a.at.core in
      let k = core_at s c in
      let g = given_next given s c in
      let u : Use = Some (a.kind, a.word) in
      let at = at-next a.at id next.0 in
      let count : k.count + 1 ≡ a.at.count = sym (ap (λ (x : Instr). x.count) at) in
      let own : heeded (given c a.at.count) u ≡ None = ap (λ (x : Option ℕ). heeded x u) none in
      let heeds_is : heeded g (use_of (need p.image k)) ≡ None =
      ap (λ (v : Use). heeded g v) next.1 ∙ ap (λ (n : ℕ). heeded (given c n) u) count ∙ own in
      let use_is : uses p s c g ≡ u = ap (λ (x : Option ℕ). shared x (use_of (need p.image k))) heeds_is ∙ next.1 in
      let within = used_within p.image k u p.image.words (sym next.1) refl in
      let found : slice_index (memory_left p.image earlier) a.word ≡ a.before =
      get_or-map-range_with_len (λ word. last_value (opening_word p.image word) word earlier) 0 p.image.words a.word
      a.word 0 within (omega arith)
      ∙ sym finds in
      let before : a.before ≡ slice_index s.words a.word =
      sym found ∙ ap (λ (w : List ℕ). slice_index w a.word) (sym words_are) in
      let old_is : old_given p s c g ≡ a.before =
      ap (λ (x : Option ℕ). found_for x (use_of (need p.image k)) s.words) heeds_is
      ∙ ap (λ (v : Use). old_for v s.words) next.1 ∙ sym before in
      let it = left c u a.before lt use_is old_is in
      let more = words_more p.image earlier a finds
      (λ keeps. next.2 ∙ unwritten_law p.image k a.kind a.word a.before next.1 keeps) in
      record {
        tells = record {
          next = record { is = at; going = going-by (need p.image k) u next.1 (some-none (a.kind, a.word)) };
          uses = next.1;
          before = before;
          after = next.2;
          own = own;
        };
        core = it.0;
        words = it.1
            ∙ ap (λ (x : ℕ). words_after u s.words x) (sym next.2)
            ∙ ap (λ (w : List ℕ). words_after u w a.after) words_are
            ∙ more;
      }

  logged_placed : (at : Instr) (word value : ℕ) → at.core < length s.cores → (core_at s at.core).id ≡ at.core →
      IsNext p.image (core_at s at.core) (Logged at word value) → IsGiven given (Logged at word value) →
      Placed given p earlier s (Logged at word value)
  logged_placed at word value lt id next given_is =
      let c = at.core in
      let k = core_at s c in
      let g = given_next given s c in
      let u : Use = Some (Loading, word) in
      let is = at-next at id next.0 in
      let count : k.count + 1 ≡ at.count = sym (ap (λ (x : Instr). x.count) is) in
      let g_is : g ≡ Some value = ap (λ (n : ℕ). given c n) count ∙ given_is in
      let heeds_is : heeded g (use_of (need p.image k)) ≡ Some value =
      ap (λ (v : Use). heeded g v) next.1 ∙ ap (λ (x : Option ℕ). heeded x u) g_is in
      let use_is : uses p s c g ≡ None = ap (λ (x : Option ℕ). shared x (use_of (need p.image k))) heeds_is in
      let old_is : old_given p s c g ≡ value =
      ap (λ (x : Option ℕ). found_for x (use_of (need p.image k)) s.words) heeds_is in
      let it = left c None value lt use_is old_is in
      record {
        tells = record {
          next = record { is = is; going = going-by (need p.image k) u next.1 (some-none (Loading, word)) };
          uses = next.1;
          given_is = given_is;
        };
        core = it.0;
        words = it.1 ∙ same-words;
      }

  pub is_placed : (e : Told) → (instr_told e).core < length s.cores →
      (core_at s (instr_told e).core).id ≡ (instr_told e).core → IsNext p.image (core_at s (instr_told e).core) e →
      FindsLeft p earlier e → IsGiven given e → Placed given p earlier s e
  is_placed (Alone at) lt id next finds given_is = alone_placed at lt id next
  is_placed (Ordered a) lt id next finds given_is = ordered_placed a lt id next finds given_is
  is_placed (Logged at word value) lt id next finds given_is = logged_placed at word value lt id next given_is
