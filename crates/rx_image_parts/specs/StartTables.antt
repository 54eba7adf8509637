-- The start table of an image: the start kind, the start context of each byte, the number of patterns with start rows
-- of their own, the universal starts, and the ids of the start rows.
use Rattle.std.specs.Prelude.{◌≡◌, ℕ, ◌≤◌, ◌==◌, nat_lt, nat_le, if◌then◌else◌, Option, Some, None, List, ◌++◌}
use Rattle.std.specs.Prelude.{length, map, Result, Ok, Err}
use Rattle.std.specs.List.{list_all}
use Rattle.std.specs.Int.{w32}
use Rattle.rx_wire.specs.declared.order.Order.{Order}
use Rattle.rx_wire.specs.Kinds.{Kind, ◌>>=◌}
use Rattle.rx_wire.specs.Fields.{bytes_at, field, number_at}
use Rattle.rx_spec.specs.Causes.{id_count, max_id}
use Rattle.rx_spec.specs.declared.Start.{Start}
use Rattle.rx_spec.specs.declared.StartKind.{StartKind}
use Rattle.rx_dense.specs.Layouts.{context_number, start_entries}
use Rattle.rx_image_parts.specs.Words.{words_at, words_text}

pub record StartTable : Type 0 where
  pub start_kind : StartKind
  pub contexts : List Start
  pub pattern_starts : Option ℕ
  pub universal_unanchored : Option ℕ
  pub universal_anchored : Option ℕ
  pub starts : List ℕ

-- a number that stands for none
abbrev pub no_number : ℕ
no_number = 0xFFFFFFFF

abbrev pub number_or_none : Option ℕ → ℕ
number_or_none None = no_number
number_or_none (Some n) = n

abbrev pub kind_number : StartKind → ℕ
kind_number StartKind.Both = 0
kind_number StartKind.Unanchored = 1
kind_number StartKind.Anchored = 2

-- how many contexts there are, which an image names too
abbrev pub context_count : ℕ
context_count = 6

abbrev pub start_table_text : Order → StartTable → List ℕ
start_table_text order table =
    field order w32 (kind_number table.start_kind)
    ++ (map context_number table.contexts
    ++ (field order w32 context_count
    ++ (field order w32 (number_or_none table.pattern_starts)
    ++ (field order w32 (number_or_none table.universal_unanchored)
    ++ (field order w32 (number_or_none table.universal_anchored) ++ words_text order table.starts)))))

-- ---- reading

abbrev pub start_kind_of : ℕ → Result StartKind Kind
start_kind_of n =
    if n == 0 then Ok StartKind.Both
    else (if n == 1 then Ok StartKind.Unanchored
    else (if n == 2 then Ok StartKind.Anchored else Err Kind.Generic))

unfoldable pub start_kind_at : Order → List ℕ → Result (StartKind × List ℕ) Kind
start_kind_at order bytes = do
  n ← number_at order w32 bytes
  kind ← start_kind_of n.0
  Ok (kind, n.1)

abbrev pub context_of : ℕ → Start
context_of n =
    if n == 0 then Start.NonWordByte
    else (if n == 1 then Start.WordByte
    else (if n == 2 then Start.Text
    else (if n == 3 then Start.LineLF else (if n == 4 then Start.LineCR else Start.CustomLineTerminator))))

unfoldable pub contexts_at : List ℕ → Result (List Start × List ℕ) Kind
contexts_at bytes = do
  front ← bytes_at 256 bytes
  if list_all (λ byte. nat_lt byte context_count) front.0 then Ok (map context_of front.0, front.1)
      else Err Kind.Generic

unfoldable pub context_count_at : Order → List ℕ → Result (ℕ × List ℕ) Kind
context_count_at order bytes = do
  n ← number_at order w32 bytes
  if n.0 == context_count then Ok n else Err Kind.Generic

abbrev pub pattern_starts_of : ℕ → Result (Option ℕ) Kind
pattern_starts_of n =
    if n == no_number then Ok None else (if nat_le n id_count then Ok (Some n) else Err Kind.Generic)

unfoldable pub pattern_starts_at : Order → List ℕ → Result (Option ℕ × List ℕ) Kind
pattern_starts_at order bytes = do
  n ← number_at order w32 bytes
  patterns ← pattern_starts_of n.0
  Ok (patterns, n.1)

abbrev pub universal_of : ℕ → Result (Option ℕ) Kind
universal_of n =
    if n == no_number then Ok None else (if nat_le n max_id then Ok (Some n) else Err (Kind.StateID n))

unfoldable pub universal_at : Order → List ℕ → Result (Option ℕ × List ℕ) Kind
universal_at order bytes = do
  n ← number_at order w32 bytes
  start ← universal_of n.0
  Ok (start, n.1)

-- what a table says before its ids
unfoldable pub start_kinds_at : Order → List ℕ → Result ((StartKind × List Start) × List ℕ) Kind
start_kinds_at order bytes = do
  kind ← start_kind_at order bytes
  contexts ← contexts_at kind.1
  count ← context_count_at order contexts.1
  Ok ((kind.0, contexts.0), count.1)

unfoldable pub start_table_at : Order → List ℕ → Result (StartTable × List ℕ) Kind
start_table_at order bytes = do
  kinds ← start_kinds_at order bytes
  patterns ← pattern_starts_at order kinds.1
  unanchored ← universal_at order patterns.1
  anchored ← universal_at order unanchored.1
  starts ← words_at order (start_entries patterns.0) anchored.1
  Ok (
    record {
      start_kind = kinds.0.0;
      contexts = kinds.0.1;
      pattern_starts = patterns.0;
      universal_unanchored = unanchored.0;
      universal_anchored = anchored.0;
      starts = starts.0;
    },
    starts.1,
  )

-- what is true of a start table that was read
abbrev pub IsAtMost : ℕ → Option ℕ → Type 0
IsAtMost most None = Unit {0}
IsAtMost most (Some n) = n ≤ most

pub record IsReadStartTable (table : StartTable) : Type 0 where
  pub contexts : length table.contexts ≡ 256
  pub patterns : IsAtMost id_count table.pattern_starts
  pub unanchored : IsAtMost max_id table.universal_unanchored
  pub anchored : IsAtMost max_id table.universal_anchored
  pub count : length table.starts ≡ start_entries table.pattern_starts
