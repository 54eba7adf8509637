-- Tokens: a text is cut at the longest match that begins where the last one ended, of the lowest pattern that matches
-- so far.
use Rattle.std.specs.Prelude.{ℕ, zero, suc, ◌≡◌, ◌<◌, ◌≤◌, ◌+◌, ◌-◌, Bool, true, false, ◌==◌, ◌&&◌, ◌||◌, nat_lt}
use Rattle.std.specs.Prelude.{if◌then◌else◌, Option, Some, None, MatchOption, IfSome, Ok, Err, List, [], ◌∷◌, length}
use Rattle.std.specs.Prelude.{All, ◌↔◌}
use Rattle.std.specs.Iterator.{YieldsFirst}
use Rattle.rx_spec.specs.Bytes.{AreBytes}
use Rattle.rx_spec.specs.Looks.{after, is_byte}
use Rattle.rx_spec.specs.Queries.{HalfMatch, MatchError}
use Rattle.rx_spec.specs.HalfSearches.{HalfAnswer}
use Rattle.rx_spec.specs.Overlapping.{Item, Ending, OverlappingMatches}
use Rattle.rx_spec.specs.Tables.{Table}
use Rattle.rx_spec.specs.Expressions.{Expression, IsLoopSafe}
use Rattle.rx_plan.specs.Plans.{Plan}
use Rattle.rx_meaning.specs.AllBuilds.{all_build}
use Rattle.rx_meaning.specs.AllMatches.{MatchesTo, ServesAll, told_at}
use Rattle.rx_scan.specs.Meanings.{IsLongestMatch}
use Rattle.rx_scan.specs.declared.token.Token.{Token}
use Rattle.rx_scan.specs.declared.token.ScanEnd.{ScanEnd}

-- ---- lines

-- how many line feeds stand before a place, and the place after the last of them
unfoldable pub line_feeds : List ℕ → ℕ → ℕ
line_feeds text zero = 0
line_feeds text (suc i) = line_feeds text i + (if is_byte (after text i) 10 then 1 else 0)

unfoldable pub line_start : List ℕ → ℕ → ℕ
line_start text zero = 0
line_start text (suc i) = if is_byte (after text i) 10 then suc i else line_start text i

-- ---- the longest match

-- a match comes before another that ends earlier, or that ends with it and is of a higher pattern
abbrev pub comes_before : HalfMatch → HalfMatch → Bool
comes_before m n = nat_lt n.offset m.offset || ((n.offset == m.offset) && nat_lt m.pattern n.pattern)

abbrev pub first_of_two : HalfMatch → Option HalfMatch → Option HalfMatch
first_of_two m None = Some m
first_of_two m (Some n) = if comes_before n m then Some n else Some m

-- the first of those that end past a place
unfoldable pub longest : ℕ → List Item → Option HalfMatch
longest p [] = None
longest p (Item.Skipped ∷ items) = longest p items
longest p (Item.Reported m ∷ items) = if nat_lt p m.offset then first_of_two m (longest p items) else longest p items

-- none where the walk quits, or doesn't start
abbrev pub unless_ended : Ending → Option HalfMatch → HalfAnswer
unless_ended Ending.Ended m = Ok m
unless_ended (Ending.Quits byte offset) m = Err (MatchError.Quit byte offset)
unless_ended (Ending.Refused error) m = Err error

abbrev pub longest_of : ℕ → OverlappingMatches → HalfAnswer
longest_of p matches = unless_ended matches.ending (longest p matches.items)

-- ---- tokens

pub record Tokens : Type 0 where
  pub tokens : List Token
  pub end : ScanEnd

abbrev pub token_at : List ℕ → ℕ → HalfMatch → Token
token_at text p m = record {
  pattern = m.pattern;
  span = record { start = p; end = m.offset };
  line = line_feeds text p + 1;
  column = p - line_start text p + 1;
}

abbrev pub no_more : ScanEnd → Tokens
no_more end = record { tokens = []; end = end }

abbrev pub error_end : MatchError → ScanEnd
error_end (MatchError.Quit byte offset) = ScanEnd.Quit byte offset
error_end _ = ScanEnd.Unsupported

-- what the longest match at a place makes of the tokens behind it
abbrev pub then_tokens : List ℕ → ℕ → HalfAnswer → (ℕ → Tokens) → Tokens
then_tokens text p (Ok (Some m)) behind =
    record { tokens = token_at text p m ∷ (behind m.offset).tokens; end = (behind m.offset).end }
then_tokens text p (Ok None) behind = no_more (ScanEnd.Stuck p)
then_tokens text p (Err error) behind = no_more (error_end error)

-- the tokens from a place on, of which no more come than bytes are left
unfoldable pub tokens_from : Table → List ℕ → ℕ → ℕ → Tokens
tokens_from t text zero p = no_more ScanEnd.Done
tokens_from t text (suc n) p =
    if nat_lt p (length text)
    then then_tokens text p (longest_of p (told_at t text p)) (λ next. tokens_from t text n next)
    else no_more ScanEnd.Done

abbrev pub tokens_left : Table → List ℕ → ℕ → Tokens
tokens_left t text p = tokens_from t text (length text - p) p

abbrev pub tokens : Table → List ℕ → Tokens
tokens t text = tokens_left t text 0

-- ---- what they cover

-- each begins where the one before it ended, and is never empty
abbrev pub AreJoined : ℕ → List Token → ℕ → Type 0
AreJoined from [] to = from ≡ to
AreJoined from (token ∷ tokens) to =
    (token.span.start ≡ from) × (from < token.span.end) × AreJoined token.span.end tokens to

-- From a place on they cover the text up to a stop, and all of it exactly where the scan is done.
pub record Cover (text : List ℕ) (from : ℕ) (all : Tokens) : Type 0 where
  pub stop : ℕ
  pub joined : AreJoined from all.tokens stop
  pub within : stop ≤ length text
  pub whole : (all.end ≡ ScanEnd.Done) ↔ (stop ≡ length text)

-- ---- a scanner

-- what is scanned, what is left to be told, and whether it was told that nothing is
pub record Scan : Type 0 where
  pub table : Table
  pub text : List ℕ
  pub left : Tokens
  pub is_over : Bool

-- the longest match of some expressions from where the token starts, and of those that are as long that of the lowest
abbrev pub IsLongestToken : List Expression → ℕ → List ℕ → Token → Type 0
IsLongestToken es t text token =
    IsLongestMatch es t text token.span.start (record { pattern = token.pattern; offset = token.span.end })

-- A token of a table that tells every match of some expressions is the longest match there.
abbrev pub IsMeant : Table → List ℕ → Token → Type 0
IsMeant t text token = (plan : Plan) (es : List Expression) → All IsLoopSafe es → ServesAll t (all_build plan es)
    → IsLongestToken es plan.line_terminator text token

-- Where a scan is stuck, no pattern has an end past that place.
abbrev pub IsMeantEnd : Table → List ℕ → ScanEnd → Type 0
IsMeantEnd t text (ScanEnd.Stuck p) = (plan : Plan) (es : List Expression) → All IsLoopSafe es
    → ServesAll t (all_build plan es) → (k q : ℕ) → MatchesTo es plan.line_terminator text p k q → q ≤ p
IsMeantEnd t text _ = Unit {0}

-- the first call that tells no token
abbrev pub EndsNow : Scan → Option Token → Type 0
EndsNow s None = s.is_over ≡ false
EndsNow s (Some token) = ⊥

-- Each call tells the first token that is left, and where none is, that the scan is over. All else stays.
pub record NextToken (s : Scan) (told : Option Token) (t : Scan) : Type 0 where
  pub first : YieldsFirst (λ (x : Scan). x.left.tokens) s told t
  pub end : t.left.end ≡ s.left.end
  pub over : MatchOption told (t.is_over ≡ true) (λ token. t.is_over ≡ false)
  pub table : t.table ≡ s.table
  pub text : t.text ≡ s.text
  pub meant : IfSome told (IsMeant s.table s.text)
  pub meant_end : EndsNow s told → IsMeantEnd s.table s.text s.left.end

abbrev pub end_told : Scan → Option ScanEnd
end_told s = if s.is_over then Some s.left.end else None

-- ---- the law

-- all tokens of such a table are the longest matches
abbrev pub TokensAreLongest : Type 0
TokensAreLongest = (t : Table) (plan : Plan) (es : List Expression) (text : List ℕ) → ServesAll t (all_build plan es)
    → All IsLoopSafe es → AreBytes text
    → All (IsLongestToken es plan.line_terminator text) (tokens t text).tokens
