-- What the command `gen` replies: the number of matches of generated literals in a generated haystack, and the sum of
-- their pattern numbers.
use Rattle.std.specs.Prelude.{ℕ, ◌≡◌, ◌+◌, ◌*◌, ◌/◌, ◌%◌, false, Ok, List, [], ◌∷◌, ◌++◌, length, map, sum_by, codes}
use Rattle.std.specs.List.{flat_map, range_with_len}
use Rattle.std.specs.Fmt.{decimal}
use Rattle.rx_spec.specs.Expressions.{Expression}
use Rattle.rx_spec.specs.Found.{found}
use Rattle.rx_spec.specs.Iterating.{iterate}
use Rattle.rx_spec.specs.Queries.{Anchored, Query, Match}
use Rattle.rx_expr.specs.Expr.{literal_of}
use Rattle.rx_plan.specs.Plan.{plan_of, usual}
use Rattle.rx_transfer.specs.Words.{newline}
use Rattle.rx_main.specs.Lines.{Reply}
use Rattle.rx_main.specs.Scripts.{PlanReplies}

-- ---- what is searched

-- four decimal digits of a number below 10000
abbrev pub four_digits : ℕ → List ℕ
four_digits i = (48 + i / 1000) ∷ ((48 + i / 100 % 10) ∷ ((48 + i / 10 % 10) ∷ ((48 + i % 10) ∷ [])))

-- `k`, the number in four digits, `;`
abbrev pub gen_literal : ℕ → List ℕ
gen_literal i = codes "k" ++ (four_digits i ++ codes ";")

abbrev pub gen_patterns : ℕ → List Expression
gen_patterns count = map (λ i. literal_of (gen_literal i)) (range_with_len 0 count)

-- one literal and a dash
abbrev pub gen_piece : ℕ → ℕ → List ℕ
gen_piece count j = gen_literal ((7 * j + 3) % count) ++ codes "-"

-- twenty of them for each pattern
abbrev pub gen_haystack : ℕ → List ℕ
gen_haystack count = flat_map (gen_piece count) (range_with_len 0 (20 * count))

abbrev pub gen_query : ℕ → Query
gen_query count = record {
  haystack = gen_haystack count;
  start = 0;
  end = length (gen_haystack count);
  mode = Anchored.No;
  earliest = false;
}

-- ---- what is found

-- what the usual plan finds
abbrev pub gen_matches : ℕ → List Match
gen_matches count = (iterate (λ q. Ok (found (gen_patterns count) usual.line_terminator q)) (gen_query count)).matches

-- their number and the sum of their pattern numbers, after the number of patterns
abbrev pub counts_reply : ℕ → ℕ → ℕ → Reply
counts_reply count matches sum = record {
  text =
      codes "gen "
      ++ (decimal count ++ (codes " " ++ (decimal matches ++ (codes " " ++ (decimal sum ++ newline)))));
  status = 0;
}

abbrev pub gen_reply : ℕ → List Match → Reply
gen_reply count matches = counts_reply count (length matches) (sum_by (λ m. m.pattern) matches)

abbrev pub GenReplies : ℕ → Reply → Type 0
GenReplies count reply =
    PlanReplies (plan_of usual) (gen_patterns count) (λ r. r ≡ gen_reply count (gen_matches count)) reply
