-- The rows that are reached without reading a byte: the step of one row, and all that some rows reach.
use Rattle.std.specs.Prelude.{ℕ, if◌then◌else◌, List, [], ◌∷◌}
use Rattle.std.specs.List.{flat_map}
use Rattle.rx_spec.specs.Rows.{Row}
use Rattle.rx_spec.specs.States.{Passing, Standing, Tested, closure, firsts}
use Rattle.rx_spec.specs.declared.Look.{Look}

-- what a row lists of itself
abbrev pub own_of_look : Passing → ℕ → List ℕ
own_of_look Standing q = q ∷ []
own_of_look (Tested holds) q = []

abbrev pub own_by : Passing → ℕ → Row → List ℕ
own_by pass q (Row.Bytes set next) = q ∷ []
own_by pass q (Row.Split first second) = []
own_by pass q (Row.Look look next) = own_of_look pass q
own_by pass q (Row.Match pattern) = q ∷ []
own_by pass q Row.Fail = []

-- the rows behind it that it gives way to, the preferred first
abbrev pub branches_of_look : Passing → Look → ℕ → List ℕ
branches_of_look Standing look next = []
branches_of_look (Tested holds) look next = if holds look then next ∷ [] else []

abbrev pub branches_by : Passing → Row → List ℕ
branches_by pass (Row.Bytes set next) = []
branches_by pass (Row.Split first second) = first ∷ second ∷ []
branches_by pass (Row.Look look next) = branches_of_look pass look next
branches_by pass (Row.Match pattern) = []
branches_by pass Row.Fail = []

-- all that some rows reach, the preferred first, and each once
abbrev pub closed_rows : List Row → Passing → List ℕ → List ℕ
closed_rows rows pass from = firsts (flat_map (λ q. closure rows pass q) from)
