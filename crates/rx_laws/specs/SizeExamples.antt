-- The sizes that limits are compared with.
use Rattle.std.specs.Prelude.{◌≡◌, ℕ, true, false, List, [], ◌∷◌, length, map, codes}
use Rattle.rx_spec.specs.States.{State}
use Rattle.rx_spec.specs.Builds.{Build, Node, dead}
use Rattle.rx_plan.specs.Plans.{plan_build}
use Rattle.rx_spec.specs.Sizes.{nfa_size, state_size, determinizer_size, label_total, start_entries, build_stride}
use Rattle.rx_spec.specs.Sizes.{table_size, sparse_row_size, sparse_size}
use Rattle.rx_laws.specs.Samples.{byte, text, plain, forward_build, letter_forward, state}
use Rattle.rx_laws.specs.StateExamples.{five_states}
use Rattle.rx_spec.specs.declared.Direction.{Direction}

-- of the machine of a: four rows of its NFA, the five states that are reached
abbrev pub SizeOfRows : Type 0
SizeOfRows = nfa_size letter_forward.nfa ≡ 160

abbrev pub SizeOfStates : Type 0
SizeOfStates =
    (map state_size five_states ≡ 12 ∷ 16 ∷ 12 ∷ 20 ∷ 12 ∷ []) × (determinizer_size five_states ≡ 72)
    × (label_total five_states ≡ 1)

-- the start entries of a table, and where two patterns have starts of their own
abbrev pub two_patterns : Build
two_patterns = plan_build (record plain { pattern_starts = true }) Direction.Forward (byte 97 ∷ byte 98 ∷ [])

abbrev pub StartEntries : Type 0
StartEntries = (start_entries letter_forward ≡ 12) × (start_entries two_patterns ≡ 24)

-- its dense table, with byte classes and without
abbrev pub dense_size : ℕ → ℕ
dense_size stride = table_size (length five_states) stride (start_entries letter_forward)

abbrev pub SizeOfTable : Type 0
SizeOfTable = (build_stride letter_forward true ≡ 4) × (dense_size (build_stride letter_forward true) ≡ 164)

abbrev pub SizeWithoutClasses : Type 0
SizeWithoutClasses =
    (build_stride letter_forward false ≡ 512) × (dense_size (build_stride letter_forward false) ≡ 14388)

-- The machine of abc: anchored, four states that wait for what is left of it; unanchored, the same beside a new
-- start; and the match.
abbrev pub abc : Build
abc = forward_build (text (codes "abc") ∷ [])

abbrev pub nine_states : List State
nine_states =
    state (3 ∷ []) [] ∷ state (3 ∷ 5 ∷ []) [] ∷ state (2 ∷ []) [] ∷ state (2 ∷ 3 ∷ 5 ∷ []) []
    ∷ state (1 ∷ []) [] ∷ state (1 ∷ 3 ∷ 5 ∷ []) [] ∷ state (0 ∷ []) [] ∷ state (0 ∷ 3 ∷ 5 ∷ []) []
    ∷ state [] (0 ∷ []) ∷ []

-- its sparse rows of dead, quit and the match, and all of them
abbrev pub SparseRows : Type 0
SparseRows =
    map (sparse_row_size abc true true nine_states) (dead ∷ Node.Quit ∷ Node.Running (state [] (0 ∷ [])) ∷ [])
    ≡ 9 ∷ 9 ∷ 17 ∷ []

abbrev pub SparseSize : Type 0
SparseSize = sparse_size abc true true nine_states ≡ 210
