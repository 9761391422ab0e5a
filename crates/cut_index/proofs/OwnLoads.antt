-- What an instruction does to a core is what its own next load does: no other value matters.
use Rattle.std.proofs.Common.{◌≡◌, ℕ, ◌+◌, Bool, true, false, cond, List, [], ◌∷◌, ◌++◌, length, refl, sym, ap, ◌∙◌}
use Rattle.std.proofs.Common.{append_assoc, length-append}
use Rattle.std.specs.Prelude.{slice_index_or, Some, None}
use Rattle.std.proofs.Math.Seq.{get_or-append_seam}
use Rattle.rtr_types.specs.Accesses.{is_read}
use Rattle.rtr_types.specs.declared.access.Kind.{Kind}
use Rattle.image_mem.specs.Contents.{Contents}
use Rattle.rv_core.specs.declared.core_state.Core.{Core}
use Rattle.rv_core.specs.declared.outcome.LoadNote.{LoadNote}
use Rattle.rv_core.specs.Steps.{access_of, after, need}
use Rattle.rv_core.proofs.LawLemmas.{unread_law}
use Rattle.replay_core.specs.Play.{Use, loads_after, old_for}
use Rattle.cut_index.specs.Alone.{no_load, own_read, own_value}

-- what an instruction by this use does to a core that has read these loads, where more are to come
module _ (image : Contents) (core : Core) (mine later : List LoadNote) (count : ℕ) (words : List ℕ) where
  pub record Alike (used : Use) (all : List LoadNote) : Type 0 where
    pub value : after image core (old_for used words) ≡ after image core (own_value used all (length mine))
    pub read : own_read used (length mine) ≡ length (loads_after used mine count (old_for used words))

  module _ (used : Kind × ℕ) (all : List LoadNote) (is : access_of (need image core) ≡ Some used) where
    abbrev old : ℕ
    old = old_for (Some used) words

    abbrev note : LoadNote
    note = record { count = count; word = used.1; value = old_for (Some used) words }

    abbrev Goal : Bool → Type 0
    Goal b = (after image core (old_for (Some used) words)
        ≡ after image core (cond b (slice_index_or all (length mine) no_load).value 0))
        × (cond b (length mine + 1) (length mine) ≡ length (cond b (mine ++ note ∷ []) mine))

    found : all ≡ (mine ++ note ∷ []) ++ later → slice_index_or all (length mine) no_load ≡ note
    found e = ap (λ (l : List LoadNote). slice_index_or l (length mine) no_load)
        (e ∙ append_assoc mine (note ∷ []) later)
        ∙ get_or-append_seam mine note later no_load

    goal : (b : Bool) → is_read used.0 ≡ b → all ≡ cond b (mine ++ note ∷ []) mine ++ later → Goal b
    goal true t e = (
      ap (λ (n : LoadNote). after image core n.value) (sym (found e)),
      sym (length-append mine (note ∷ [])),
    )
    goal false t e = (unread_law image core used.0 used.1 old 0 is t, refl)

    by_kind : all ≡ loads_after (Some used) mine count (old_for (Some used) words) ++ later → Alike (Some used) all
    by_kind split = let g = goal (is_read used.0) refl split in record { value = g.0; read = g.1 }

  pub alike : (used : Use) (all : List LoadNote) → access_of (need image core) ≡ used →
      all ≡ loads_after used mine count (old_for used words) ++ later → Alike used all
  alike None all is split = record { value = refl; read = refl }
  alike (Some used) all is split = by_kind used all is split
