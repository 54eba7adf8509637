-- States as keys: lists of numbers that spell them.
use Rattle.std.specs.Prelude.{ℕ, ◌^◌, ◌==◌, ◌&&◌, nat_le, nat_lt, Bool, true, false, List, ◌∷◌, ◌++◌, length}
use Rattle.std.specs.Prelude.{take, drop, slice_index}
use Rattle.std.specs.List.{list_all}
use Rattle.std.specs.Str.{bytes_eq}
use Rattle.rx_spec.specs.Causes.{max_id}
use Rattle.rx_spec.specs.Rows.{Row}
use Rattle.rx_spec.specs.States.{State, row_at, firsts}
use Rattle.rx_base.specs.FactBits.{bit, bits_of, facts_with}
use Rattle.rx_stepper.specs.Leads.{rows_by, written}

-- a state's key: the number of its context, how many patterns its label has, whether the lead-in's other rows are left
-- out, the label, and the rows that are written
abbrev pub key_of : List ℕ → State → List ℕ
key_of lead s =
    let w = written lead s.rows in
    bits_of s.context ∷ (length s.label ∷ (bit w.is_led ∷ (s.label ++ w.own)))

-- a key's label, by its numbers alone
unfoldable pub label_of : List ℕ → List ℕ
label_of key = take (slice_index key 1) (drop 3 key)

-- its rows that are written, and whether the lead-in's others follow
abbrev pub own_of : List ℕ → List ℕ
own_of key = drop (slice_index key 1) (drop 3 key)

abbrev pub led_of : List ℕ → Bool
led_of key = slice_index key 2 == 1

-- the state that a list of numbers spells
abbrev pub spelled : List ℕ → List ℕ → State
spelled lead key = record {
  rows = rows_by lead (led_of key) (own_of key);
  context = facts_with (slice_index key 0);
  label = label_of key;
}

-- a row at which a closure ends: it reads a byte, matches or asserts
abbrev pub stands : Row → Bool
stands (Row.Split first second) = false
stands Row.Fail = false
stands _ = true

-- rows at which closures end, each once, all of them ids
abbrev pub are_closed : List Row → List ℕ → Bool
are_closed rows qs = list_all (λ q. stands (row_at rows q) && nat_le q max_id) qs && bytes_eq (firsts qs) qs

-- closed rows, and a label of patterns, all of them ids
abbrev pub is_closed : List Row → State → Bool
is_closed rows s = are_closed rows s.rows && (list_all (λ k. nat_le k max_id) s.label
    && nat_lt (length s.label) (2 ^ 32))

-- a key spells its state, and spells it in the one way
abbrev pub is_key : List Row → List ℕ → List ℕ → Bool
is_key rows lead key = bytes_eq (key_of lead (spelled lead key)) key && is_closed rows (spelled lead key)
