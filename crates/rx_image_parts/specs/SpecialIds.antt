-- The special ids of an image, and the rows that they name.
use Rattle.std.specs.Prelude.{ℕ, ◌==◌, ◌&&◌, ◌||◌, nat_lt, nat_le, Bool, not, if◌then◌else◌, List, ◌++◌, Result}
use Rattle.std.specs.Prelude.{Ok, Err}
use Rattle.std.specs.Int.{w32}
use Rattle.rx_wire.specs.declared.order.Order.{Order}
use Rattle.rx_wire.specs.Kinds.{Kind, ◌>>=◌}
use Rattle.rx_wire.specs.Fields.{bytes_at, field, id_at}
use Rattle.rx_dense.specs.declared.special.Special.{Special}
use Rattle.rx_dense.specs.Specials.{greatest, is_accel_id, is_match_id, is_start_id}

abbrev pub special_text : Order → Special → List ℕ
special_text order s =
    field order w32 s.max
    ++ (field order w32 s.quit
    ++ (field order w32 s.min_match
    ++ (field order w32 s.max_match
    ++ (field order w32 s.min_accel
    ++ (field order w32 s.max_accel ++ (field order w32 s.min_start ++ field order w32 s.max_start))))))

-- Both ends of a range are 0, and it is empty; or neither is, and the first is at most the last.
abbrev pub is_range : (first last : ℕ) → Bool
is_range first last = if first == 0 then last == 0 else nat_le first last

-- where a range isn't empty, it begins past the quit row
abbrev pub is_past_quit : (quit first : ℕ) → Bool
is_past_quit quit first = (first == 0) || nat_lt quit first

-- where neither range is empty, one begins no sooner than the other
abbrev pub begins_after : (first other : ℕ) → Bool
begins_after first other = (first == 0) || (other == 0) || nat_le other first

abbrev pub are_ranges : Special → Bool
are_ranges s =
    is_range s.min_match s.max_match && is_range s.min_accel s.max_accel && is_range s.min_start s.max_start

abbrev pub are_past_quit : Special → Bool
are_past_quit s =
    is_past_quit s.quit s.min_match && is_past_quit s.quit s.min_accel && is_past_quit s.quit s.min_start

abbrev pub begin_in_order : Special → Bool
begin_in_order s =
    begins_after s.min_accel s.min_match && begins_after s.min_start s.min_match
    && begins_after s.min_start s.min_accel

-- what special ids must be among themselves
abbrev pub are_special : Special → Bool
are_special s = are_ranges s && are_past_quit s && begin_in_order s && nat_le (greatest s) s.max

abbrev pub state_id_at : Order → List ℕ → Result (ℕ × List ℕ) Kind
state_id_at order bytes = id_at Kind.StateID order bytes

-- the two ends of a range, or two ids beside each other
unfoldable pub id_pair_at : Order → List ℕ → Result ((ℕ × ℕ) × List ℕ) Kind
id_pair_at order bytes = do
  first ← state_id_at order bytes
  last ← state_id_at order first.1
  Ok ((first.0, last.0), last.1)

abbrev pub special_of : (greatest matches accels starts : ℕ × ℕ) → Special
special_of greatest matches accels starts = record {
  max = greatest.0;
  quit = greatest.1;
  min_match = matches.0;
  max_match = matches.1;
  min_accel = accels.0;
  max_accel = accels.1;
  min_start = starts.0;
  max_start = starts.1;
}

unfoldable pub special_ids_at : Order → List ℕ → Result (Special × List ℕ) Kind
special_ids_at order bytes = do
  greatest ← id_pair_at order bytes
  matches ← id_pair_at order greatest.1
  accels ← id_pair_at order matches.1
  starts ← id_pair_at order accels.1
  Ok (special_of greatest.0 matches.0 accels.0 starts.0, starts.1)

-- first what they must be among themselves, then that the greatest stands within the rows' words
abbrev pub tested_special : ℕ → Special → Result Special Kind
tested_special word_len s =
    if not (are_special s) then Err Kind.Generic
    else (if nat_lt s.max word_len then Ok s else Err Kind.Generic)

-- the 32 bytes are there before any id is tested
unfoldable pub special_at : Order → ℕ → List ℕ → Result (Special × List ℕ) Kind
special_at order word_len bytes = do
  front ← bytes_at 32 bytes
  ids ← special_ids_at order front.0
  special ← tested_special word_len ids.0
  Ok (special, front.1)

-- dead, quit, or in a range
abbrev pub is_named : Special → ℕ → Bool
is_named s id = (id == 0) || (id == s.quit) || is_match_id s id || is_accel_id s id || is_start_id s id
