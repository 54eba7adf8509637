-- The places of some haystacks at which each assertion holds, lines ending in \n.
use Rattle.std.specs.Prelude.{◌≡◌, ℕ, ◌+◌, List, [], ◌∷◌, length, map, filter, codes}
use Rattle.std.specs.List.{range_with_len}
use Rattle.rx_spec.specs.Looks.{holds_at}
use Rattle.rx_spec.specs.Queries.{reading}
use Rattle.rx_spec.specs.declared.Direction.{Direction}
use Rattle.rx_spec.specs.declared.Look.{Look}

abbrev pub places : Look → List ℕ → List ℕ
places look haystack =
    filter (λ i. holds_at (reading Direction.Forward 10 haystack) look i) (range_with_len 0 (length haystack + 1))

-- "", "\n", "a", "\na", "a\na"
abbrev pub in_lines : Look → List (List ℕ)
in_lines look = map (places look) ([] ∷ (10 ∷ []) ∷ codes "a" ∷ (10 ∷ 97 ∷ []) ∷ (97 ∷ 10 ∷ 97 ∷ []) ∷ [])

abbrev pub StartPlaces : Type 0
StartPlaces = in_lines Look.Start ≡ (0 ∷ []) ∷ (0 ∷ []) ∷ (0 ∷ []) ∷ (0 ∷ []) ∷ (0 ∷ []) ∷ []

abbrev pub EndPlaces : Type 0
EndPlaces = in_lines Look.End ≡ (0 ∷ []) ∷ (1 ∷ []) ∷ (1 ∷ []) ∷ (2 ∷ []) ∷ (3 ∷ []) ∷ []

abbrev pub StartLFPlaces : Type 0
StartLFPlaces = in_lines Look.StartLF ≡ (0 ∷ []) ∷ (0 ∷ 1 ∷ []) ∷ (0 ∷ []) ∷ (0 ∷ 1 ∷ []) ∷ (0 ∷ 2 ∷ []) ∷ []

abbrev pub EndLFPlaces : Type 0
EndLFPlaces = in_lines Look.EndLF ≡ (0 ∷ []) ∷ (0 ∷ 1 ∷ []) ∷ (1 ∷ []) ∷ (0 ∷ 2 ∷ []) ∷ (1 ∷ 3 ∷ []) ∷ []

-- never between \r and \n
abbrev pub StartCRLFPlaces : Type 0
StartCRLFPlaces = places Look.StartCRLF (13 ∷ 10 ∷ []) ≡ 0 ∷ 2 ∷ []

abbrev pub EndCRLFPlaces : Type 0
EndCRLFPlaces = places Look.EndCRLF (13 ∷ 10 ∷ []) ≡ 0 ∷ 2 ∷ []

-- "", "a", "ab", " a ", "a ", and a b after and before a letter of four bytes, none of which is a word byte
abbrev pub script_b : List ℕ
script_b = 240 ∷ 157 ∷ 155 ∷ 131 ∷ 98 ∷ []

abbrev pub b_script : List ℕ
b_script = 98 ∷ 240 ∷ 157 ∷ 155 ∷ 131 ∷ []

abbrev pub in_words : Look → List (List ℕ)
in_words look =
    map (places look) ([] ∷ codes "a" ∷ codes "ab" ∷ codes " a " ∷ codes "a " ∷ script_b ∷ b_script ∷ [])

abbrev pub WordPlaces : Look → Type 0
WordPlaces look =
    in_words look
    ≡ [] ∷ (0 ∷ 1 ∷ []) ∷ (0 ∷ 2 ∷ []) ∷ (1 ∷ 2 ∷ []) ∷ (0 ∷ 1 ∷ []) ∷ (4 ∷ 5 ∷ []) ∷ (0 ∷ 1 ∷ []) ∷ []

abbrev pub WordNegatePlaces : Look → Type 0
WordNegatePlaces look =
    in_words look
    ≡ (0 ∷ []) ∷ [] ∷ (1 ∷ []) ∷ (0 ∷ 3 ∷ []) ∷ (2 ∷ []) ∷ (0 ∷ 1 ∷ 2 ∷ 3 ∷ []) ∷ (2 ∷ 3 ∷ 4 ∷ 5 ∷ []) ∷ []

abbrev pub WordStartPlaces : Look → Type 0
WordStartPlaces look =
    in_words look ≡ [] ∷ (0 ∷ []) ∷ (0 ∷ []) ∷ (1 ∷ []) ∷ (0 ∷ []) ∷ (4 ∷ []) ∷ (0 ∷ []) ∷ []

abbrev pub WordEndPlaces : Look → Type 0
WordEndPlaces look =
    in_words look ≡ [] ∷ (1 ∷ []) ∷ (2 ∷ []) ∷ (2 ∷ []) ∷ (1 ∷ []) ∷ (5 ∷ []) ∷ (1 ∷ []) ∷ []

abbrev pub WordStartHalfPlaces : Look → Type 0
WordStartHalfPlaces look =
    in_words look
    ≡ (0 ∷ []) ∷ (0 ∷ []) ∷ (0 ∷ []) ∷ (0 ∷ 1 ∷ 3 ∷ []) ∷ (0 ∷ 2 ∷ []) ∷ (0 ∷ 1 ∷ 2 ∷ 3 ∷ 4 ∷ [])
    ∷ (0 ∷ 2 ∷ 3 ∷ 4 ∷ 5 ∷ []) ∷ []

abbrev pub WordEndHalfPlaces : Look → Type 0
WordEndHalfPlaces look =
    in_words look
    ≡ (0 ∷ []) ∷ (1 ∷ []) ∷ (2 ∷ []) ∷ (0 ∷ 2 ∷ 3 ∷ []) ∷ (1 ∷ 2 ∷ []) ∷ (0 ∷ 1 ∷ 2 ∷ 3 ∷ 5 ∷ [])
    ∷ (1 ∷ 2 ∷ 3 ∷ 4 ∷ 5 ∷ []) ∷ []
