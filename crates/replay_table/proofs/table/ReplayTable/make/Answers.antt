-- The words open as the memory has them, and each turn hands out one seat more, with its own part of the rule.
use Rattle.std.proofs.Common.{arith, ◌≡◌, ◌<◌, ◌-◌, length, ℕ, List, [], ap, ◌∙◌, refl, sym, subst}
use Rattle.std.specs.Prelude.{slice_get, Some}
use Rattle.std.proofs.lemmas.List.FromFn.{length-map-range_with_len}
use Rattle.image_mem.specs.Contents.{Contents, opening_word, opening_words}
use Rattle.atomic_table.specs.Table.{Me}
use Rattle.race_log.specs.declared.recording.Recording.{Recording}
use Rattle.replay_core.specs.Plans.{Plan, plan_of, recorded_image}
use Rattle.replay_table.specs.declared.view.Own.{Own}
use Rattle.replay_table.specs.declared.view.View.{View}
use Rattle.replay_table.specs.Kinds.{first_view, without_first, first_alone, own_from}
use Rattle.replay_table.specs.Seats.{IsFresh, Opening, Sitting}
use Rattle.replay_table.proofs.FirstView.{cores_are, first_rule, drop_own, rest_splits, dealt_more, longer}
use Rattle.replay_table.proofs.LastView.{get-none}
use Rattle.replay_table.proofs.ViewCuts.{splits}
use Rattle.replay_table.proofs.table.ReplayTable.make.Goals as goal

pub of_words-requires : goal.of_words-requires
of_words-requires g c =
    let p : Plan = plan_of g.J.Job.which g.J.Job.recording in
    let r : Recording = c.args.recording.now in
    let cores : r.params.cores ≡ length p.totals = cores_are c.requires.recording c.requires.valid in
    let image : recorded_image r ≡ p.image = ap (λ (x : Recording). recorded_image x) c.requires.recording in
    let first : Opening (opening_words p.image) r.params.cores c.in_ok-program.words.items =
    subst (λ (i : Contents). Opening (opening_words i) r.params.cores c.in_ok-program.words.items) image
    c.in_ok-program.ensures.words in
    let words : Opening (opening_words p.image) (length p.totals) c.in_ok-program.words.items =
    subst (λ (n : ℕ). Opening (opening_words p.image) n c.in_ok-program.words.items) cores first in
    first_rule p c.as_slice.result.now []
    (record { which = g.J.Job.which; recording = g.J.Job.recording; valid = c.requires.valid; plan_is = refl })
    (subst (λ (l : List ℕ). Opening (opening_words p.image) (length p.totals) l) (sym c.as_slice.ensures.value) words)

pub loop-id-init : goal.loop-id-init
loop-id-init g c =
    let p : Plan = plan_of g.J.Job.which g.J.Job.recording in
    let r : Recording = c.args.recording.now in
    let e = c.in_ok-table.ensures in
    let none = c.new-seats.ensures.items in
    let all : length p.totals ≡ length p.totals - 0 = omega arith in
    let cores : r.params.cores ≡ length p.totals = cores_are c.requires.recording c.requires.valid in
    let same : r.params.words ≡ g.J.Job.recording.params.words = ap (λ (x : Recording). x.params.words)
    c.requires.recording in
    let wide = c.in_ok-program.ensures.words.wide in
    let memory = length-map-range_with_len (opening_word (recorded_image r)) 0 r.params.words in
    let given : length c.as_slice.result.now ≡ length c.in_ok-program.words.items =
    ap (λ (l : List ℕ). length l) c.as_slice.ensures.value in
    let words = e.0 in
    record {
      first = e.4 ∙ ap (λ (n : ℕ). (record (first_view p) { owned = own_from p 0 n }, [])) all;
      table = e.2;
      words = omega arith;
      slots = e.1;
      count = ap (λ (l : List Sitting). length l) none;
      tables = λ k x has. absurd (get-none x k (subst (λ (l : List Sitting). slice_get l k ≡ Some x) none has));
      fresh = λ k x has. absurd (get-none x k (subst (λ (l : List Sitting). slice_get l k ≡ Some x) none has));
    }

pub split_seat-seat-requires : goal.split_seat-seat-requires
split_seat-seat-requires g c =
    let p : Plan = plan_of g.J.Job.which g.J.Job.recording in
    let i = c.loop-id.invariant in
    let lt : c.loop-id.id < c.args.recording.now.params.cores = c.loop-id-test.true in
    let cores = cores_are c.requires.recording c.requires.valid in
    let words = i.words in (
      i.table,
      omega arith,
      splits p c.loop-id.clerk.id c.loop-id.clerk.me.0
          (rest_splits p c.loop-id.id c.loop-id.clerk.me.0 (ap (λ (m : Me ℕ View). m.0) i.first)),
    )

pub fresh_seat-requires-clause-program : goal.fresh_seat-requires-clause-program
fresh_seat-requires-clause-program g c = c.in_ok-program.ensures.program
    ∙ ap (λ (x : Recording). recorded_image x) c.requires.recording

pub fresh_seat-requires-clause-core : goal.fresh_seat-requires-clause-core
fresh_seat-requires-clause-core g c =
    let cores : c.args.recording.now.params.cores ≡ length g.J.Job.recording.totals =
    cores_are c.requires.recording c.requires.valid in
    let lt : c.loop-id.id < c.args.recording.now.params.cores = c.loop-id-test.true in omega arith

pub fresh_seat-requires-clause-seat : goal.fresh_seat-requires-clause-seat
fresh_seat-requires-clause-seat g c = c.split_seat-seat.ensures.4
    ∙ ap (λ (m : Me ℕ View). (first_alone m.0, [])) c.loop-id.invariant.first

pub loop-id-preserved : goal.loop-id-preserved
loop-id-preserved g c =
    let p : Plan = plan_of g.J.Job.which g.J.Job.recording in
    let i = c.loop-id.invariant in
    let e = c.split_seat-seat.ensures in
    let f = c.in_ok-fresh_seat.ensures in
    let cores : c.args.recording.now.params.cores ≡ length p.totals = cores_are c.requires.recording c.requires.valid in
    let inside : c.loop-id.id < length p.totals = omega (arith, c.loop-id-test.true) in
    record {
      first = e.2 ∙ ap (λ (m : Me ℕ View). (without_first m.0, m.1)) i.first
          ∙ ap (λ (l : List Own). (record (first_view p) { owned = l }, []))
          (drop_own p (length p.totals) c.loop-id.id inside);
      table = e.0 ∙ i.table;
      words = i.words;
      slots = i.slots;
      count = longer c.loop-id.seats.items c.push.new.self.items _ c.loop-id.id c.in_ok-push.ensures.items i.count;
      tables = dealt_more {A = Sitting} (λ k x. x.table_id ≡ c.in_ok-table.table.shared.table_id) c.loop-id.id
          c.loop-id.seats.items c.push.new.self.items
          _ c.in_ok-push.ensures.items i.count i.tables (f.table ∙ e.3 ∙ i.table);
      fresh = dealt_more {A = Sitting} (IsFresh p) c.loop-id.id c.loop-id.seats.items c.push.new.self.items _
          c.in_ok-push.ensures.items i.count i.fresh f.fresh;
    }
