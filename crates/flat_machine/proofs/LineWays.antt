-- What a way says of the line, where none waits.
use Rattle.std.proofs.Common.{◌≡◌, ◌≢◌, ◌∙◌, refl, sym, ap, subst, ℕ, ◌<◌, ◌*◌, ◌/◌, ◌%◌, ◌==◌, Bool, true, false, List, []}
use Rattle.std.proofs.Common.{◌∷◌, length, zero, suc, arith, get_or, Some}
use Rattle.std.specs.Prelude.{◌&&◌, ◌||◌, is_some}
use Rattle.std.specs.List.{list_any}
use Rattle.rtr_types.specs.declared.TheConstants.{BLOCK_WORDS, LINES}
use Rattle.rtr_types.specs.declared.access.Kind.{Kind}
use Rattle.image_mem.specs.Contents.{Contents}
use Rattle.rv_core.specs.Steps.{access_of as need_access}
use Rattle.rv_core.specs.declared.core_state.Need.{Need}
use Rattle.rv_core.specs.declared.core_state.Need.TheVariants.{Local, Load, Store, Amo, Done}
use Rattle.rv_core.proofs.LawLemmas.{within_law}
use Rattle.rtr_types.proofs.Lists.{some_same}
use Rattle.msi_cache.specs.Table.{is_readable, is_transient, is_writable}
use Rattle.msi_cache.specs.declared.line.State.{State as LineState}
use Rattle.msi_cache.specs.declared.line.State.TheVariants.{I, S, M, IsD, ImD, SmD, MiA, SiA, IiA}
use Rattle.msi_state.specs.States.{PlainState, core_at}
use Rattle.flat_state.specs.declared.flat.Flat.{Flat}
use Rattle.flat_state.specs.declared.node.KeptLine.{KeptLine}
use Rattle.flat_state.specs.declared.node.Node.{Node}
use Rattle.flat_state.specs.Shows.{Stands, hits, line_at, no_line, node_at, owns}
use Rattle.flat_state.proofs.NodeReads.{own_node}
use Rattle.flat_cores.specs.Needs.{is_copy, looked, written}
use Rattle.flat_laws.specs.Marks.{node_waits}
use Rattle.flat_machine.specs.Ways.{way_by, way_of}
use Rattle.flat_machine.specs.declared.ways.Way.{Way}
use Rattle.flat_machine.specs.declared.ways.Way.TheVariants.{Hit, Ask, Upgrade, GiveBack}

-- ---- the line waits for nothing

left_none : (a b : Bool) → (a || b) ≡ false → a ≡ false
left_none false b e = refl
left_none true b e = e

right_none : (a b : Bool) → (a || b) ≡ false → b ≡ false
right_none false b e = e
right_none true b e = absurd (cc)

none_waits : (lines : List KeptLine) (i : ℕ) → list_any (λ l. is_transient l.state) lines ≡ false →
    is_transient (get_or lines i no_line).state ≡ false
none_waits [] i e = refl
none_waits (l ∷ ls) zero e = left_none (is_transient l.state) (list_any (λ x. is_transient x.state) ls) e
none_waits (l ∷ ls) (suc i) e =
    none_waits ls i (right_none (is_transient l.state) (list_any (λ x. is_transient x.state) ls) e)

pub line_still : (n : Node) (i : ℕ) → node_waits n ≡ false → is_transient (line_at n i).state ≡ false
line_still n i e = none_waits n.lines i e

-- ---- ways

hit_reads : (state : LineState) (same : Bool) → way_by state same false ≡ Hit → (same && is_readable state) ≡ true
hit_reads I same e = absurd (cc)
hit_reads S true e = refl
hit_reads S false e = absurd (cc)
hit_reads M true e = refl
hit_reads M false e = absurd (cc)
hit_reads IsD same e = absurd (cc)
hit_reads ImD same e = absurd (cc)
hit_reads SmD same e = absurd (cc)
hit_reads MiA same e = absurd (cc)
hit_reads SiA same e = absurd (cc)
hit_reads IiA same e = absurd (cc)

hit_writes : (state : LineState) (same : Bool) → way_by state same true ≡ Hit → (same && is_writable state) ≡ true
hit_writes I same e = absurd (cc)
hit_writes S true e = absurd (cc)
hit_writes S false e = absurd (cc)
hit_writes M true e = refl
hit_writes M false e = absurd (cc)
hit_writes IsD same e = absurd (cc)
hit_writes ImD same e = absurd (cc)
hit_writes SmD same e = absurd (cc)
hit_writes MiA same e = absurd (cc)
hit_writes SiA same e = absurd (cc)
hit_writes IiA same e = absurd (cc)

pub read_hits : (n : Node) (block : ℕ) → way_of (line_at n (block % LINES)) block false ≡ Hit → hits n block ≡ true
read_hits n block e = hit_reads (line_at n (block % LINES)).state ((line_at n (block % LINES)).block == block) e

pub write_hits : (n : Node) (block : ℕ) → way_of (line_at n (block % LINES)) block true ≡ Hit → owns n block ≡ true
write_hits n block e = hit_writes (line_at n (block % LINES)).state ((line_at n (block % LINES)).block == block) e

pub ask_empty : (state : LineState) (same writes : Bool) → way_by state same writes ≡ Ask → state ≡ I
ask_empty I same writes e = refl
ask_empty S true true e = absurd (cc)
ask_empty S true false e = absurd (cc)
ask_empty S false writes e = absurd (cc)
ask_empty M true writes e = absurd (cc)
ask_empty M false writes e = absurd (cc)
ask_empty IsD same writes e = absurd (cc)
ask_empty ImD same writes e = absurd (cc)
ask_empty SmD same writes e = absurd (cc)
ask_empty MiA same writes e = absurd (cc)
ask_empty SiA same writes e = absurd (cc)
ask_empty IiA same writes e = absurd (cc)

pub record Upgraded (state : LineState) (same writes : Bool) : Type 0 where
  pub state_is : state ≡ S
  pub same_is : same ≡ true
  pub writes_is : writes ≡ true

pub upgrade_shared : (state : LineState) (same writes : Bool) → way_by state same writes ≡ Upgrade →
    Upgraded state same writes
upgrade_shared S true true e = record { state_is = refl; same_is = refl; writes_is = refl }
upgrade_shared S true false e = absurd (cc)
upgrade_shared S false writes e = absurd (cc)
upgrade_shared I same writes e = absurd (cc)
upgrade_shared M true writes e = absurd (cc)
upgrade_shared M false writes e = absurd (cc)
upgrade_shared IsD same writes e = absurd (cc)
upgrade_shared ImD same writes e = absurd (cc)
upgrade_shared SmD same writes e = absurd (cc)
upgrade_shared MiA same writes e = absurd (cc)
upgrade_shared SiA same writes e = absurd (cc)
upgrade_shared IiA same writes e = absurd (cc)

pub give_copy : (state : LineState) (same writes : Bool) → is_transient state ≡ false →
    way_by state same writes ≡ GiveBack → (is_copy state ≡ true) × (same ≡ false)
give_copy S false writes still e = (refl, refl)
give_copy M false writes still e = (refl, refl)
give_copy S true true still e = absurd (cc)
give_copy S true false still e = absurd (cc)
give_copy M true writes still e = absurd (cc)
give_copy I same writes still e = absurd (cc)
give_copy IsD same writes still e = absurd (grind arith)
give_copy ImD same writes still e = absurd (grind arith)
give_copy SmD same writes still e = absurd (grind arith)
give_copy MiA same writes still e = absurd (grind arith)
give_copy SiA same writes still e = absurd (grind arith)
give_copy IiA same writes still e = absurd (grind arith)

-- what is left
pub left_way : (w : Way) → w ≢ Hit → w ≢ Ask → w ≢ Upgrade → w ≡ GiveBack
left_way Hit hit ask upgrade = absurd (hit refl)
left_way Ask hit ask upgrade = absurd (ask refl)
left_way Upgrade hit ask upgrade = absurd (upgrade refl)
left_way GiveBack hit ask upgrade = refl

-- ---- needs

pub load_looks : (x : Need) (word : ℕ) → x ≡ Load word → looked x ≡ Some word
load_looks x word is = ap looked is

pub load_no_write : (x : Need) (word : ℕ) → x ≡ Load word → is_some (written x) ≡ false
load_no_write x word is = ap (λ (y : Need). is_some (written y)) is

pub write_looks : (x : Need) (word : ℕ) → written x ≡ Some word → looked x ≡ Some word
write_looks (Store w whole) word is = is
write_looks (Amo w) word is = is
write_looks Local word is = absurd (cc)
write_looks (Load w) word is = absurd (cc)
write_looks (Done stop) word is = absurd (cc)

pub some_written : (x : Need) (word : ℕ) → looked x ≡ Some word → is_some (written x) ≡ true → written x ≡ Some word
some_written (Store w whole) word is some = is
some_written (Amo w) word is some = is
some_written Local word is some = absurd (cc)
some_written (Load w) word is some = absurd (cc)
some_written (Done stop) word is some = absurd (cc)

-- what an instruction looks at lies in the memory
looks_kind : (x : Need) (word : ℕ) → looked x ≡ Some word → (kind : Kind) × (need_access x ≡ Some (kind, word))
looks_kind (Load w) word is = (_, ap (λ (y : ℕ). need_access (Load y)) (some_same _ _ is))
looks_kind (Store w whole) word is = (_, ap (λ (y : ℕ). need_access (Store y whole)) (some_same _ _ is))
looks_kind (Amo w) word is = (_, ap (λ (y : ℕ). need_access (Amo y)) (some_same _ _ is))
looks_kind Local word is = absurd (cc)
looks_kind (Done stop) word is = absurd (cc)

pub looks_within : (f : Flat) (s : PlainState) (memory : ℕ → List ℕ) (c word : ℕ) → Stands f s memory →
    c < length f.nodes.items → looked (node_at f.nodes.items c).need ≡ Some word →
    word / BLOCK_WORDS * BLOCK_WORDS < f.program.words
looks_within f s memory c word stands within looks =
    let own = own_node f s c stands.shows within in
    let kind = looks_kind (node_at f.nodes.items c).need word looks in
    let lies : word < s.image.words = within_law s.image (core_at s.cores c) kind.0 word
    (ap need_access (sym own.need) ∙ kind.1) in
    subst (λ (image : Contents). word / BLOCK_WORDS * BLOCK_WORDS < image.words) (sym stands.shows.image)
    (below word s.image.words lies)
  where
    below : (w n : ℕ) → w < n → w / BLOCK_WORDS * BLOCK_WORDS < n
    below w n lies = omega (arith, lies)
