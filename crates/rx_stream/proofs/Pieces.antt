-- Walks over a piece of a text, whatever follows it.
use Rattle.rx_spec.proofs.Prelude.{common_steps, ◌≡◌, ℕ, suc, zero, ◌+◌, ◌-◌, ◌<◌, ◌≤◌, ◌==◌, Bool, true, false}
use Rattle.rx_spec.proofs.Prelude.{if◌then◌else◌, Some, None, List, ◌∷◌, ◌++◌, length, drop, refl, ap, sym, ◌∙◌, subst}
use Rattle.rx_spec.proofs.Prelude.{arith, length-drop, drop-length, false_from_ne_true, eqb-true, slice_index, AreBytes}
use Rattle.rx_spec.proofs.Prelude.{row_of, Label, IsWord, OverlappingMatches, Ending, none_left, at_item_label, Table}
use Rattle.rx_spec.proofs.Prelude.{is_match}
use Rattle.rx_spec.specs.declared.Direction.{Direction}
use Rattle.rx_lemmas.proofs.Overlapping.{overlapping-cons, overlapping_silent}
use Rattle.rx_lemmas.proofs.SilentRows.{zero_is_silent}
use Rattle.rx_lemmas.proofs.Tables.{match_alive}
use Rattle.rx_search.specs.Labels.{is_quit}
use Rattle.rx_search.specs.Needles.{is_nil, is_needle, IsFirstNeedle, is_read}
use Rattle.rx_search.proofs.Standing.{Standing, match_label, quit_label, plain_label}
use Rattle.rx_search.proofs.Overlaps.{patterns_left}
use Rattle.rx_search.specs.Passing.{row_on, Leads}
use Rattle.rx_search.specs.Starts.{IsId}
use Rattle.rx_search.proofs.Walks.{IsQuiet, Turn, loops, ordinary, quiet, unread_quiet}
use Rattle.rx_stream.specs.Pieces.{walked, HaltsAt, IsMetBy, IsPassedBy, IsQuietWalk, IsSkip, MeetsMatch, MeetsQuit}
use Rattle.rx_stream.specs.declared.walk.Halt.{Halt}

-- ---- a unit

pub turn_to : {t : Table} {row unit next : ℕ} → next ≡ t.machine.next row unit → Standing t next
    → Turn t row unit next
turn_to leads s = record { leads = leads; standing = s }

-- what a unit that leads to a row with a label makes of what is told
abbrev pub on_label : Table → (next unit offset : ℕ) → List ℕ → Label → Bool → OverlappingMatches
on_label t next unit offset units label dead =
    at_item_label label Direction.Forward unit offset
    (if dead then none_left Ending.Ended else walked t next (offset + 1) units)

pub walk_turns : {t : Table} {row unit next : ℕ} → Turn t row unit next → (offset : ℕ) (units : List ℕ)
    {label : Label} {dead : Bool} → t.machine.label next ≡ label → t.machine.is_dead next ≡ dead
    → walked t row offset (unit ∷ units) ≡ on_label t next unit offset units label dead
walk_turns {t} {row} {unit} {next} turn offset units {label} {dead} e f = grind (arith, common_steps, overlapping-cons)

-- ---- walks that tell nothing

pub walk_begins : (t : Table) (row : ℕ) (piece : List ℕ) (from : ℕ) → from ≤ length piece
    → IsQuietWalk t row piece from row from
walk_begins t row piece from h = grind (arith, common_steps)

-- what the next byte of the piece makes of one
module _ {t : Table} {row : ℕ} {piece : List ℕ} {from here at next : ℕ} (walk : IsQuietWalk t row piece from here at)
    (h : at < length piece) (turn : Turn t here (slice_index piece at) next) where
  tells_by : {label : Label} {dead : Bool} → t.machine.label next ≡ label → t.machine.is_dead next ≡ dead
      → (offset : ℕ) (more : List ℕ) → IsWord more
      → walked t row offset (drop from piece ++ more)
      ≡ on_label t next (slice_index piece at) (offset + (at - from)) (drop (at + 1) piece ++ more) label dead
  tells_by e f offset more w =
      walk.goes_on offset more w
      ∙ ap (λ (units : List ℕ). walked t here (offset + (at - from)) (units ++ more)) (patterns_left piece at h)
      ∙ walk_turns turn (offset + (at - from)) (drop (at + 1) piece ++ more) e f

  pub walk_goes_on : IsQuiet t next → IsQuietWalk t row piece from next (at + 1)
  walk_goes_on is = record {
    low = (let l = walk.low in omega arith);
    high = omega arith;
    quiet = λ m. let no = sym (match_label (t.machine.label next) m) ∙ is.plain in absurd (cc);
    goes_on = λ offset more w.
        let there : offset + (at - from) + 1 ≡ offset + (at + 1 - from) = omega arith in
        tells_by is.plain is.alive offset more w
        ∙ ap (λ (o : ℕ). walked t next o (drop (at + 1) piece ++ more)) there;
  }

  pub walk_meets_match : is_match t next ≡ true → MeetsMatch t row piece from next at
  walk_meets_match is =
      let label = match_label (t.machine.label next) is in
      record {
        low = walk.low;
        high = h;
        is_match = is;
        tells = tells_by label (match_alive turn.standing.sound.is_table next turn.standing.below label);
      }

  pub walk_meets_quit : is_quit t next ≡ true → MeetsQuit t row piece from next (slice_index piece at) at
  walk_meets_quit is = record {
    low = walk.low;
    high = h;
    is_quit = is;
    tells = tells_by (quit_label (t.machine.label next) is) refl;
  }

  -- At dead nothing is told of the rest, so the piece counts as read.
  pub walk_ends : is_match t next ≡ false → is_quit t next ≡ false → (next == 0) ≡ true
      → IsQuietWalk t row piece from next (length piece)
  walk_ends no_match no_quit dead = record {
    low = (let l = walk.low in omega arith);
    high = omega arith;
    quiet = λ m. let no : true ≡ false = sym m ∙ no_match in absurd (cc);
    goes_on = λ offset more w.
        tells_by (plain_label (t.machine.label next) no_match no_quit)
        (turn.standing.sound.is_table.dead_only next turn.standing.below ∙ dead) offset more w
        ∙ sym (ap (λ (r : ℕ). walked t r (offset + (length piece - from)) (drop (length piece) piece ++ more))
        (eqb-true next 0 dead)
        ∙ ap (λ (xs : List ℕ). walked t 0 (offset + (length piece - from)) (xs ++ more)) (drop-length piece)
        ∙ overlapping_silent t.machine Direction.Forward 0 (offset + (length piece - from)) more w
        (zero_is_silent t turn.standing.sound.is_table));
  }

-- ---- skips

module _ {t : Table} {row : ℕ} {piece : List ℕ} {from here : ℕ} (bytes : AreBytes piece) (s : Standing t here)
    (no_match : is_match t here ≡ false) where
  skips_bytes : (n at : ℕ) → IsQuietWalk t row piece from here at → at + n ≤ length piece
      → ((k : ℕ) → at ≤ k → k < at + n → is_read t here (slice_index piece k) ≡ false)
      → IsQuietWalk t row piece from here (at + n)
  skips_bytes zero at walk h unread =
      let same : at ≡ at + 0 = omega arith in subst (IsQuietWalk t row piece from here) same walk
  skips_bytes (suc n) at walk h unread =
      let byte = slice_index piece at in
      let below : byte < 256 = bytes at 0 (omega arith) in
      let first = unread at (omega arith) (omega arith) in
      let turn : Turn t here byte here = record { leads = sym (loops s byte below first); standing = s } in
      let there : at + 1 + n ≡ at + suc n = omega arith in
      subst (IsQuietWalk t row piece from here) there
      (skips_bytes n (at + 1) (walk_goes_on walk (omega arith) turn (unread_quiet s byte below no_match first))
      (omega arith) (λ k low high. unread k (omega arith) (omega arith)))

  pub walk_skips : {at to : ℕ} → IsQuietWalk t row piece from here at → IsSkip t here piece at to
      → IsQuietWalk t row piece from here to
  walk_skips {at} {to} walk skip =
      let there : at + (to - at) ≡ to = omega arith in
      subst (IsQuietWalk t row piece from here) there
      (skips_bytes (to - at) at walk (omega arith) (λ k l h. skip.skipped k l (omega arith)))

-- ---- stretches of bytes that lead to ordinary rows

module _ {t : Table} {row : ℕ} {piece : List ℕ} {from here at : ℕ} (bytes : AreBytes piece) (s : Standing t here)
    (walk : IsQuietWalk t row piece from here at) where
  abbrev row_after : ℕ → ℕ
  row_after n = row_on t.machine Direction.Forward piece here at n

  ordinary_bytes : (n : ℕ) → at + n ≤ length piece
      → ((k : ℕ) → k < n → t.is_special (row_after (k + 1)) ≡ false)
      → IsQuietWalk t row piece from (row_after n) (at + n) × Standing t (row_after n)
  unfolding row_on
  ordinary_bytes zero h plain =
      let same : at ≡ at + 0 = omega arith in (subst (IsQuietWalk t row piece from here) same walk, s)
  ordinary_bytes (suc n) h plain =
      let before = ordinary_bytes n (omega arith) (λ k low. plain k (omega arith)) in
      let byte = slice_index piece (at + n) in
      let below : byte < 256 = bytes (at + n) 0 (omega arith) in
      let next = t.machine.next (row_after n) byte in
      let size = s.sound.is_table.nexts (row_after n) byte before.1.below (omega arith) in
      let stands : Standing t next = record { sound = s.sound; below = size } in
      let turn : Turn t (row_after n) byte next = record { leads = refl; standing = stands } in
      let one : n + 1 ≡ suc n = omega arith in
      let plain_next = ap (λ (i : ℕ). t.is_special (row_after i)) (sym one) ∙ plain n (omega arith) in
      let there : at + n + 1 ≡ at + suc n = omega arith in (
        subst (IsQuietWalk t row piece from next) there
            (walk_goes_on before.0 (omega arith) turn (ordinary stands plain_next)),
        stands,
      )

  pub walk_passes : {next count : ℕ} → Leads t Direction.Forward piece here at next count
      → at + count ≤ length piece → IsQuietWalk t row piece from next (at + count)
  walk_passes {next} {count} leads h =
      subst (λ (r : ℕ). IsQuietWalk t row piece from r (at + count)) (sym leads.next_is)
      (ordinary_bytes count h leads.ordinary).0

-- ---- rows at which a walk halts

module _ {t : Table} {row from here at : ℕ} {piece : List ℕ} (ids : List ℕ) (id : ℕ)
    (walk : IsQuietWalk t row piece from here at) (h : at < length piece)
    (turn : Turn t here (slice_index piece at) (row_of ids id)) where
  pub walk_halts : IsId ids id → (halt : Halt) → IsMetBy t ids id (slice_index piece at) at halt
      → HaltsAt t ids row piece from halt
  walk_halts is_id (Halt.Match next place) met = rw (met.0, met.1) (is_id, walk_meets_match walk h turn met.2)
  walk_halts is_id (Halt.Quit next byte place) met = rw (met.0, met.1, met.2) (is_id, walk_meets_quit walk h turn met.3)
  walk_halts is_id (Halt.End next) met = rw met.0 (is_id, walk_ends walk h turn met.1 met.2 met.3)

  -- a row from which a walk goes on, once it has skipped
  pub walk_passes_by : {to : ℕ} → AreBytes piece → IsPassedBy t (row_of ids id)
      → IsSkip t (row_of ids id) piece (at + 1) to → IsQuietWalk t row piece from (row_of ids id) to
  walk_passes_by bytes by skip =
      walk_skips bytes turn.standing by.no_match
      (walk_goes_on walk h turn (quiet turn.standing by.no_match by.no_quit by.alive)) skip

-- a byte of it that is no needle may be skipped
unread : (t : Table) (row : ℕ) (piece : List ℕ) {needles : List ℕ} {from : ℕ} → needles ≡ t.needles row
    → is_nil (t.needles row) ≡ false → (k : ℕ) → from ≤ k
    → is_needle needles (slice_index (drop from piece) (k - from)) ≡ false
    → is_read t row (slice_index piece k) ≡ false
unread t row piece {needles} {from} same some k low e = grind (arith, common_steps)

-- a skip, as the next needle is found in the rest of a piece
module _ {t : Table} {row : ℕ} {needles piece : List ℕ} {from : ℕ} (same : needles ≡ t.needles row)
    (some : is_nil (t.needles row) ≡ false) (within : from ≤ length piece) where
  pub skip_found : (at : ℕ) → IsFirstNeedle needles (drop from piece) (Some at)
      → IsSkip t row piece from (from + at)
  skip_found at first = record {
    low = omega arith;
    high = omega (arith, length-drop from piece);
    skipped = λ k low high.
        unread t row piece same some k low
        (false_from_ne_true _ (first.0.before (k - from) (omega arith) (omega arith)));
  }

  pub skip_none : IsFirstNeedle needles (drop from piece) None → IsSkip t row piece from (length piece)
  skip_none none = record {
    low = within;
    high = omega arith;
    skipped = λ k low high.
        unread t row piece same some k low
        (false_from_ne_true _
        (none (k - from) (omega arith) (omega (arith, low, length-drop from piece))));
  }
