-- The words of a command line are at most one command.
use Rattle.rx_spec.proofs.Prelude.{common_steps, ◌≡◌, ℕ, ◌==◌, if◌then◌else◌, List, [], ◌∷◌, get_or, refl, ap, sym, ◌∙◌}
use Rattle.rx_spec.proofs.Prelude.{arith}
use Rattle.std.specs.Str.Parse.{digits_value}
use Rattle.std.proofs.lemmas.Fmt.{digits_value-decimal}
use Rattle.rx_spec.specs.declared.Form.{Form}
use Rattle.rx_regex.specs.declared.plan_table.PlanTable.{PlanTable}
use Rattle.rx_wire.specs.declared.order.Order.{Order}
use Rattle.rx_base.specs.Search.{mode_of}
use Rattle.rx_base.specs.declared.search.Anchored.{Anchored as Mode}
use Rattle.rx_transfer.specs.Words.{mode_name}
use Rattle.rx_main.specs.Commands.{IsMode, Says, form_word, words_of}
use Rattle.rx_main.specs.declared.command.Command.{Command}
use Rattle.rx_main.specs.declared.command.Equal.{Equal}
use Rattle.rx_main.specs.declared.command.Feed.{Feed}
use Rattle.rx_main.specs.declared.command.ReadCommand.{ReadCommand}
use Rattle.rx_main.specs.declared.command.Search.{Search}
use Rattle.rx_main.proofs.Counts.{own}

-- the first byte of a word
abbrev first_of : List (List ℕ) → ℕ → ℕ
first_of words i = get_or (get_or words i []) 0 0

abbrev table_by : ℕ → PlanTable
table_by byte = if byte == 102 then PlanTable.Forward else (if byte == 97 then PlanTable.All else PlanTable.Reverse)

abbrev order_by : ℕ → Order
order_by byte = if byte == 108 then Order.Little else Order.Big

abbrev form_by : ℕ → Form
form_by byte = if byte == 100 then Form.Dense else Form.Sparse

-- the tables of a pair have the word pair
abbrev image_by : ℕ → Order → ReadCommand
image_by byte order = if byte == 112 then ReadCommand.ImagePair order else ReadCommand.Image (table_by byte) order

abbrev check_by : ℕ → ReadCommand
check_by byte = if byte == 112 then ReadCommand.CheckPair else ReadCommand.Check (form_by byte)

abbrev mode_by : List ℕ → Mode
mode_by (byte ∷ digits) =
    if byte == 110 then Mode.No else (if byte == 121 then Mode.Yes else Mode.Pattern (digits_value 10 digits))
mode_by [] = Mode.No

abbrev number_by : List (List ℕ) → ℕ → ℕ
number_by words i = digits_value 10 (get_or words i [])

abbrev searched : ℕ → ℕ → Mode → ℕ → Search
searched start end mode image_len = record { start = start; end = end; mode = mode; image_len = image_len }

abbrev search_by : List (List ℕ) → Search
search_by words = searched (number_by words 1) (number_by words 2) (mode_by (get_or words 3 [])) (number_by words 4)

-- two commands begin with the same byte
abbrev cut_by : ℕ → List (List ℕ) → ReadCommand
cut_by byte words =
    if byte == 99 then ReadCommand.Scan (form_by (first_of words 1)) else ReadCommand.Search (search_by words)

abbrev fed : Form → Mode → ℕ → Feed
fed form mode image_len = record { form = form; mode = mode; image_len = image_len }

abbrev feed_by : List (List ℕ) → Feed
feed_by words = fed (form_by (first_of words 1)) (mode_by (get_or words 2 [])) (number_by words 3)

-- `feed` and `find` begin alike
abbrev feed_or_find : ℕ → List (List ℕ) → Command
feed_or_find byte words = if byte == 101 then Command.Feed (feed_by words) else Command.Read ReadCommand.Find

abbrev compared : Form → Form → ℕ → Equal
compared form other image_len = record { form = form; other = other; image_len = image_len }

abbrev equal_by : List (List ℕ) → Equal
equal_by words = compared (form_by (first_of words 1)) (form_by (first_of words 2)) (number_by words 3)

-- `each` and `equal` begin alike
abbrev each_or_equal : ℕ → List (List ℕ) → ReadCommand
each_or_equal byte words = if byte == 97 then ReadCommand.Each else ReadCommand.Equal (equal_by words)

-- A command is told by the first bytes of its first word, and by its other words.
abbrev command_by : ℕ → List (List ℕ) → Command
command_by byte words =
    if byte == 102 then feed_or_find (get_or (get_or words 0 []) 1 0) words
    else (if byte == 101 then Command.Read (each_or_equal (get_or (get_or words 0 []) 1 0) words)
    else (if byte == 105 then Command.Read (image_by (first_of words 1) (order_by (first_of words 2)))
    else (if byte == 99 then Command.Read (check_by (first_of words 1))
    else (if byte == 115 then Command.Read (cut_by (get_or (get_or words 0 []) 1 0) words)
    else Command.Gen (number_by words 1)))))

abbrev told_by : List (List ℕ) → Command
told_by words = command_by (first_of words 0) words

same_search : (s other : Search) → s.start ≡ other.start → s.end ≡ other.end → s.mode ≡ other.mode
    → s.image_len ≡ other.image_len → s ≡ other
same_search s other e f g h = grind (arith, common_steps)

same_feed : (f other : Feed) → f.form ≡ other.form → f.mode ≡ other.mode → f.image_len ≡ other.image_len → f ≡ other
same_feed f other e g h = grind (arith, common_steps)

same_equal : (e other : Equal) → e.form ≡ other.form → e.other ≡ other.other → e.image_len ≡ other.image_len
    → e ≡ other
same_equal e other f g h = grind (arith, common_steps)

form_told : (form : Form) → form_by (get_or (form_word form) 0 0) ≡ form
form_told Form.Dense = refl
form_told Form.Sparse = refl

mode_told : (mode : Mode) → IsMode (mode_of mode) → mode_by (mode_name (mode_of mode)) ≡ mode
mode_told Mode.No is = refl
mode_told Mode.Yes is = refl
mode_told (Mode.Pattern k) is = ap Mode.Pattern (digits_value-decimal own k (omega (arith, is)))

told : (command : Command) (words : List (List ℕ)) → Says words command → told_by (words_of command) ≡ command
told (Command.Read ReadCommand.Find) words says = refl
told (Command.Read ReadCommand.Each) words says = refl
told (Command.Read (ReadCommand.Image PlanTable.Forward Order.Little)) words says = refl
told (Command.Read (ReadCommand.Image PlanTable.Forward Order.Big)) words says = refl
told (Command.Read (ReadCommand.Image PlanTable.Reverse Order.Little)) words says = refl
told (Command.Read (ReadCommand.Image PlanTable.Reverse Order.Big)) words says = refl
told (Command.Read (ReadCommand.Image PlanTable.All Order.Little)) words says = refl
told (Command.Read (ReadCommand.Image PlanTable.All Order.Big)) words says = refl
told (Command.Read (ReadCommand.ImagePair Order.Little)) words says = refl
told (Command.Read (ReadCommand.ImagePair Order.Big)) words says = refl
told (Command.Read ReadCommand.CheckPair) words says = refl
told (Command.Read (ReadCommand.Scan Form.Dense)) words says = refl
told (Command.Read (ReadCommand.Scan Form.Sparse)) words says = refl
told (Command.Read (ReadCommand.Search s)) words says =
    grind (arith, common_steps, digits_value-decimal, own, same_search, mode_told)
told (Command.Read (ReadCommand.Equal e)) words says =
    grind (arith, common_steps, digits_value-decimal, own, same_equal, form_told)
told (Command.Read (ReadCommand.Check Form.Dense)) words says = refl
told (Command.Read (ReadCommand.Check Form.Sparse)) words says = refl
told (Command.Feed f) words says =
    grind (arith, common_steps, digits_value-decimal, own, same_feed, form_told, mode_told)
told (Command.Gen count) words says = grind (arith, common_steps, digits_value-decimal, own)

pub spelled_once : (command other : Command) (words : List (List ℕ)) → Says words command → Says words other
    → command ≡ other
spelled_once command other words h k =
    sym (told command words h) ∙ ap told_by (sym h.spelled ∙ k.spelled) ∙ told other words k
