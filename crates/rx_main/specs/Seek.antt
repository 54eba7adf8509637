-- Images that search for one literal.
use Rattle.std.specs.Prelude.{ℕ, ◌≡◌, ◌<◌, List, length, Option, Ok, option_map}
use Rattle.rx_spec.specs.Bytes.{AreBytes}
use Rattle.rx_spec.specs.Queries.{Anchored, IsFit, Query}
use Rattle.rx_image.specs.Pairs.{Pair, reads}
use Rattle.rx_prefilter.specs.OnlyLiterals.{IsFirstPlace, literal_match}
use Rattle.rx_regex.specs.Pairs.{joined}

-- The image of a pair of tables that search for one literal and for nothing else: a search that may begin anywhere
-- answers where it first lies in the span.
pub record IsLiteralImage (image literal : List ℕ) (pattern : ℕ) : Type 0 where
  pub pair : Pair
  pub size : ℕ
  pub read : reads image ≡ Ok (pair, size)
  pub some : 0 < length literal
  pub answers : (q : Query) → IsFit q → AreBytes q.haystack → q.mode ≡ Anchored.No → (place : Option ℕ)
      → IsFirstPlace q.haystack literal q.start q.end place
      → joined pair q ≡ Ok (option_map (literal_match pattern (length literal)) place)
