-- The sizes that limits are compared with.
use Rattle.std.specs.Prelude.{ℕ, ◌+◌, ◌*◌, ◌^◌, ◌==◌, ◌&&◌, ◌||◌, not, nat_lt, nat_le, Bool, true, false, if◌then◌else◌}
use Rattle.std.specs.Prelude.{List, [], ◌∷◌, length, map, filter, sum_by}
use Rattle.std.specs.List.{range_with_len, list_any}
use Rattle.std.specs.Str.{bytes_eq}
use Rattle.rx_spec.specs.Looks.{differ}
use Rattle.rx_spec.specs.Contexts.{Facts}
use Rattle.rx_spec.specs.Classes.{ends_class, alphabet_by, representatives, stride2_of}
use Rattle.rx_spec.specs.Nfas.{Nfa}
use Rattle.rx_spec.specs.States.{State}
use Rattle.rx_spec.specs.Builds.{Build, Node, dead, is_dead, next_node, node_label}
use Rattle.rx_spec.specs.Machines.{Label}

-- an NFA, in bytes: 40 for each row
abbrev pub nfa_size : Nfa → ℕ
nfa_size nfa = 40 * length nfa.rows

-- a state, in bytes: 8, and 4 for each row and each pattern
abbrev pub state_size : State → ℕ
state_size s = 8 + 4 * length s.rows + 4 * length s.label

-- of the states that are reached: the size of all, and how many patterns their labels name
abbrev pub determinizer_size : List State → ℕ
determinizer_size reached = sum_by state_size reached

abbrev pub label_total : List State → ℕ
label_total reached = sum_by (λ s. length s.label) reached

-- ---- dense tables

-- six start entries for No, six for Yes, and six for each pattern with starts of its own
abbrev pub start_entries : Build → ℕ
start_entries b = 12 + (if b.pattern_starts then 6 * length b.nfa.start_patterns else 0)

-- the columns of a build's table, and its stride, with byte classes or without
abbrev pub build_alphabet : Build → Bool → ℕ
build_alphabet b byte_classes = alphabet_by (ends_class b.nfa b.quit byte_classes)

abbrev pub build_stride : Build → Bool → ℕ
build_stride b byte_classes = 2 ^ stride2_of (build_alphabet b byte_classes)

-- a table, in bytes: the rows of dead, quit and the reached states, the start entries, and one number more
abbrev pub table_size : ℕ → ℕ → ℕ → ℕ
table_size reached stride entries = 4 * ((reached + 2) * stride + entries + 1)

-- the greatest id in it
abbrev pub last_id : ℕ → ℕ → ℕ
last_id reached stride = (reached + 1) * stride

-- ---- sparse tables

-- whether two nodes are one
abbrev pub same_facts : Facts → Facts → Bool
same_facts x y =
    not (differ x.text y.text || differ x.line_terminator y.line_terminator || differ x.lf y.lf || differ x.cr y.cr
    || differ x.word y.word)

abbrev pub same_state : State → State → Bool
same_state s t = bytes_eq s.rows t.rows && same_facts s.context t.context && bytes_eq s.label t.label

abbrev pub same_node : Node → Node → Bool
same_node Node.Quit Node.Quit = true
same_node (Node.Running s) (Node.Running t) = same_state s t
same_node _ _ = false

-- how many runs of nodes there are that follow one another and are one, other than dead, after a first node
unfoldable pub runs_after : Node → List Node → ℕ
runs_after last [] = 0
runs_after last (node ∷ nodes) = (if is_dead node || same_node last node then 0 else 1) + runs_after node nodes

-- the ranges of a row: of classes that lead to one node other than dead
abbrev pub range_count : Build → Bool → Node → ℕ
range_count b byte_classes node =
    runs_after dead (map (λ byte. next_node b node byte) (representatives (ends_class b.nfa b.quit byte_classes)))

-- the bytes that lead a node elsewhere, where it may be skipped from: one to three, and no space
abbrev pub leaving_bytes : Build → Node → List ℕ
leaving_bytes b node = filter (λ byte. not (same_node (next_node b node byte) node)) (range_with_len 0 256)

abbrev pub is_skippable_node : Build → Node → Bool
is_skippable_node b node =
    nat_le 1 (length (leaving_bytes b node)) && nat_le (length (leaving_bytes b node)) 3
    && not (list_any (λ byte. byte == 32) (leaving_bytes b node))

-- A table of two rows has no row to skip from.
abbrev pub needle_count : Build → Bool → List State → Node → ℕ
needle_count b accelerate reached node =
    if accelerate && nat_lt 0 (length reached) && is_skippable_node b node then length (leaving_bytes b node) else 0

-- a match row's patterns, with their number
abbrev pub patterns_size : Label → ℕ
patterns_size (Label.Matches ks) = 4 + 4 * length ks
patterns_size _ = 0

-- a row, in bytes: the number of its ranges, these with that of the end mark, the patterns, the needles
abbrev pub sparse_row_size : Build → Bool → Bool → List State → Node → ℕ
sparse_row_size b byte_classes accelerate reached node =
    2 + 6 * (range_count b byte_classes node + 1) + patterns_size (node_label node)
    + 1 + needle_count b accelerate reached node

-- the rows of a sparse table that isn't minimized
abbrev pub sparse_size : Build → Bool → Bool → List State → ℕ
sparse_size b byte_classes accelerate reached =
    sum_by (sparse_row_size b byte_classes accelerate reached) (dead ∷ Node.Quit ∷ map (λ s. Node.Running s) reached)

-- and a bound of them where it is
abbrev pub sparse_bound : Build → Bool → List State → ℕ
sparse_bound b byte_classes reached =
    (length reached + 2) * (6 * build_alphabet b byte_classes + 10) + 4 * label_total reached
