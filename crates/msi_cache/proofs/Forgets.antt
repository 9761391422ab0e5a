-- Forgetting riders goes through each step of a cache.
use Rattle.std.proofs.Common.{rules, ◌≡◌, refl, ℕ, ◌%◌, List, [], ◌∷◌}
use Rattle.std.specs.Prelude.{slice_set}
use Rattle.std.proofs.lemmas.List.{map-set, set-get_or}
use Rattle.std.proofs.Math.ListN.{get_or-map}
use Rattle.access_times.specs.Riding.{Riding, none_riding}
use Rattle.rtr_types.specs.declared.access.Kind.{Kind}
use Rattle.msi_cache.specs.Messages.{block_of}
use Rattle.msi_cache.specs.Lines.{has_row, line_after, line_asking, answer, asks, line_for, empty_line, waits}
use Rattle.msi_cache.specs.Lines.{lines_with}
use Rattle.msi_cache.specs.PlainPart.{plain_line, plain_lines, plain_message, plain_answer, plain_request, PlainOnHome}
use Rattle.msi_cache.specs.PlainPart.{PlainWant, PlainPut, PlainRider}
use Rattle.msi_cache.specs.declared.line.Line.{Line}
use Rattle.rtr_types.specs.declared.TheConstants.{LINES}
use Rattle.msi_cache.specs.declared.messages.FromHome.{FromHome}

module _ {R : Type 0} where
  pub plain_line_for : (fresh : R) (lines : List (Line R)) (block : ℕ) →
      line_for tt (plain_lines lines) block ≡ plain_line (line_for fresh lines block)
  plain_line_for fresh lines block = get_or-map plain_line lines (block % LINES) (empty_line fresh)

  pub plain_lines_with : (lines : List (Line R)) (block : ℕ) (line : Line R) → plain_lines (lines_with lines block line)
      ≡ lines_with (plain_lines lines) block (plain_line line)
  plain_lines_with lines block line = map-set plain_line lines (block % LINES) line

  pub plain_block : (m : FromHome R) → block_of (plain_message m) ≡ block_of m
  plain_block m = search rules

  pub plain_line_after : (riding : Riding R) (line : Line R) (m : FromHome R) →
      plain_line (line_after riding line m)
      ≡ line_after none_riding (plain_line line) (plain_message m)
  plain_line_after riding line m = search rules

  pub plain_row : (line : Line R) (m : FromHome R) → has_row line m ≡ has_row (plain_line line) (plain_message m)
  plain_row line m = search rules

  pub plain_answers : (line : Line R) (m : FromHome R) → plain_answer (answer line m) ≡ answer (plain_line line)
      (plain_message m)
  plain_answers line m = search rules

  pub plain_line_asking : (line : Line R) (block : ℕ) (kind : Kind) →
      plain_line (line_asking line block kind) ≡ line_asking (plain_line line) block kind
  plain_line_asking line block kind = search rules

  pub plain_asks : (line : Line R) (block : ℕ) (kind : Kind) → plain_request (asks line block kind) ≡ asks
      (plain_line line) block kind
  plain_asks line block kind = search rules

  pub plain_waits : (lines : List (Line R)) → waits lines ≡ waits (plain_lines lines)
  plain_waits [] = refl
  plain_waits (line ∷ lines) = rw (plain_waits lines)

  pub plain_on_home : (riding : Riding R) (lines : List (Line R)) (m : FromHome R) → PlainOnHome riding lines m
  plain_on_home riding lines m = record {
    same_line = rw (plain_line_for riding.fresh lines (block_of m));
    same_row = rw (plain_line_for riding.fresh lines (block_of m)) (plain_row (line_for riding.fresh lines (block_of m))
        m);
    same_lines = rw (
      plain_lines_with lines (block_of m) (line_after riding (line_for riding.fresh lines (block_of m)) m),
      plain_block m,
      plain_line_for riding.fresh lines (block_of m),
      plain_line_after riding (line_for riding.fresh lines (block_of m)) m,
    );
    same_answer = rw (plain_line_for riding.fresh lines (block_of m))
        (plain_answers (line_for riding.fresh lines (block_of m)) m);
  }

  pub plain_want : (riding : Riding R) (lines : List (Line R)) (block : ℕ) (kind : Kind) →
      PlainWant riding lines block kind
  plain_want riding lines block kind = record {
    same_waits = plain_waits lines;
    same_allowed = rw (plain_line_for riding.fresh lines block);
    same_lines = rw (
      plain_lines_with lines block (line_asking (line_for riding.fresh lines block) block kind),
      plain_line_for riding.fresh lines block,
      plain_line_asking (line_for riding.fresh lines block) block kind,
    );
    same_asks = rw (plain_line_for riding.fresh lines block) (plain_asks (line_for riding.fresh lines block) block
        kind);
  }

  pub plain_put : (riding : Riding R) (lines : List (Line R)) (block slot value : ℕ) →
      PlainPut riding lines block slot value
  plain_put riding lines block slot value =
      let line = line_for riding.fresh lines block in
      rw (
        plain_lines_with lines block (record line { words = slice_set line.words slot value }),
        plain_line_for riding.fresh lines block,
      )

  pub plain_rider : (riding : Riding R) (lines : List (Line R)) (block : ℕ) (rider : R) →
      PlainRider riding lines block rider
  plain_rider riding lines block rider =
      let line = line_for riding.fresh lines block in
      rw (plain_lines_with lines block (record line { rider = rider }), ← plain_line_for riding.fresh lines block)
      (set-get_or (plain_lines lines) (block % LINES) (empty_line tt))
