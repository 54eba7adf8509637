-- Command lines: the words after the program's name.
use Rattle.std.specs.Prelude.{ℕ, ◌≡◌, ◌≤◌, ◌<◌, ◌^◌, List, [], ◌∷◌, codes}
use Rattle.std.specs.Fmt.{decimal}
use Rattle.rx_spec.specs.Causes.{max_id}
use Rattle.rx_spec.specs.Queries.{Anchored}
use Rattle.rx_spec.specs.declared.Form.{Form}
use Rattle.rx_base.specs.Search.{mode_of}
use Rattle.rx_regex.specs.declared.plan_table.PlanTable.{PlanTable}
use Rattle.rx_wire.specs.declared.order.Order.{Order}
use Rattle.rx_transfer.specs.Words.{mode_name}
use Rattle.rx_main.specs.declared.command.Command.{Command}
use Rattle.rx_main.specs.declared.command.ReadCommand.{ReadCommand}
use Rattle.rx_main.specs.declared.command.Equal.{Equal}
use Rattle.rx_main.specs.declared.command.Feed.{Feed}
use Rattle.rx_main.specs.declared.command.Search.{Search}

-- a table of a plan, an order of the bytes of a number, and a form of tables
abbrev pub table_word : PlanTable → List ℕ
table_word PlanTable.Forward = codes "fwd"
table_word PlanTable.Reverse = codes "rev"
table_word PlanTable.All = codes "all"

abbrev pub order_word : Order → List ℕ
order_word Order.Little = codes "le"
order_word Order.Big = codes "be"

abbrev pub form_word : Form → List ℕ
form_word Form.Dense = codes "dense"
form_word Form.Sparse = codes "sparse"

-- the two that are searched together
abbrev pub pair_word : List ℕ
pair_word = codes "pair"

-- the words by which a command is asked for
abbrev pub search_words : Search → List (List ℕ)
search_words s =
    codes "search"
    ∷ (decimal s.start ∷ (decimal s.end ∷ (mode_name (mode_of s.mode) ∷ (decimal s.image_len ∷ []))))

abbrev pub equal_words : Equal → List (List ℕ)
equal_words e = codes "equal" ∷ (form_word e.form ∷ (form_word e.other ∷ (decimal e.image_len ∷ [])))

abbrev pub read_words : ReadCommand → List (List ℕ)
read_words ReadCommand.Find = codes "find" ∷ []
read_words ReadCommand.Each = codes "each" ∷ []
read_words (ReadCommand.Image table order) = codes "image" ∷ (table_word table ∷ (order_word order ∷ []))
read_words (ReadCommand.ImagePair order) = codes "image" ∷ (pair_word ∷ (order_word order ∷ []))
read_words (ReadCommand.Check form) = codes "check" ∷ (form_word form ∷ [])
read_words ReadCommand.CheckPair = codes "check" ∷ (pair_word ∷ [])
read_words (ReadCommand.Search s) = search_words s
read_words (ReadCommand.Scan form) = codes "scan" ∷ (form_word form ∷ [])
read_words (ReadCommand.Equal e) = equal_words e

abbrev pub feed_words : Feed → List (List ℕ)
feed_words f =
    codes "feed" ∷ (form_word f.form ∷ (mode_name (mode_of f.mode) ∷ (decimal f.image_len ∷ [])))

abbrev pub words_of : Command → List (List ℕ)
words_of (Command.Read command) = read_words command
words_of (Command.Gen count) = codes "gen" ∷ (decimal count ∷ [])
words_of (Command.Feed f) = feed_words f

-- the most bytes that are read
abbrev pub most_bytes : ℕ
most_bytes = 16777216

-- patterns are generated from one to a thousand
abbrev pub most_patterns : ℕ
most_patterns = 1000

-- a mode that can be named
abbrev pub IsMode : Anchored → Type 0
IsMode Anchored.No = Unit {0}
IsMode Anchored.Yes = Unit {0}
IsMode (Anchored.Pattern k) = k ≤ max_id

-- a span by numbers below 2^32, and an image part of some of the bytes that are read
pub record IsSearch (s : Search) : Type 0 where
  pub start : s.start < 2 ^ 32
  pub end : s.end < 2 ^ 32
  pub mode : IsMode (mode_of s.mode)
  pub some : 1 ≤ s.image_len
  pub few : s.image_len ≤ most_bytes

-- a first image of some of the bytes that are read
pub record IsEqual (e : Equal) : Type 0 where
  pub some : 1 ≤ e.image_len
  pub few : e.image_len ≤ most_bytes

-- an image that isn't longer than what a command reads that keeps it
pub record IsFeed (f : Feed) : Type 0 where
  pub mode : IsMode (mode_of f.mode)
  pub some : 1 ≤ f.image_len
  pub few : f.image_len ≤ most_bytes

abbrev pub IsInRange : Command → Type 0
IsInRange (Command.Gen count) = (1 ≤ count) × (count ≤ most_patterns)
IsInRange (Command.Read (ReadCommand.Search s)) = IsSearch s
IsInRange (Command.Read (ReadCommand.Equal e)) = IsEqual e
IsInRange (Command.Read command) = Unit {0}
IsInRange (Command.Feed f) = IsFeed f

-- the words are this command
pub record Says (words : List (List ℕ)) (command : Command) : Type 0 where
  pub in_range : IsInRange command
  pub spelled : words ≡ words_of command

-- they are none
abbrev pub SaysNothing : List (List ℕ) → Type 0
SaysNothing words = (command : Command) → Says words command → ⊥
