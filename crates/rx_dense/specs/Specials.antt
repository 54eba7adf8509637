-- Special rows, told by ranges of ids.
use Rattle.std.specs.Prelude.{ℕ, ◌==◌, ◌&&◌, Bool, not, nat_le, max}
use Rattle.rx_dense.specs.declared.special.Special.{Special}

-- no special rows but the dead one
abbrev pub no_rows : Special
no_rows = record {
  max = 0;
  quit = 0;
  min_match = 0;
  max_match = 0;
  min_accel = 0;
  max_accel = 0;
  min_start = 0;
  max_start = 0;
}

-- row 0, the dead row, is in no range
abbrev pub is_in_range : (first last id : ℕ) → Bool
is_in_range first last id = nat_le first id && nat_le id last && not (id == 0)

abbrev pub is_match_id : Special → ℕ → Bool
is_match_id s id = is_in_range s.min_match s.max_match id

abbrev pub is_accel_id : Special → ℕ → Bool
is_accel_id s id = is_in_range s.min_accel s.max_accel id

abbrev pub is_start_id : Special → ℕ → Bool
is_start_id s id = is_in_range s.min_start s.max_start id

abbrev pub is_quit_id : Special → ℕ → Bool
is_quit_id s id = (id == s.quit) && not (id == 0)

-- the greatest id that is named
abbrev pub greatest : Special → ℕ
greatest s = max (max (max s.quit s.max_match) s.max_accel) s.max_start
