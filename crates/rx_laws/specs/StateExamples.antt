-- Labels, and which states are reached.
use Rattle.std.specs.Prelude.{◌≡◌, ℕ, List, [], ◌∷◌}
use Rattle.rx_spec.specs.Bytes.{eoi}
use Rattle.rx_spec.specs.Expressions.{Expression}
use Rattle.rx_spec.specs.Queries.{Anchored}
use Rattle.rx_spec.specs.States.{State}
use Rattle.rx_spec.specs.Machines.{Label}
use Rattle.rx_spec.specs.Builds.{node_label, node_after, AreReached}
use Rattle.rx_laws.specs.Samples.{forward_build, letter_forward, letter_reverse, state}
use Rattle.rx_laws.specs.RowExamples.{last_a}
use Rattle.rx_laws.specs.ClassExamples.{word_a}
use Rattle.rx_spec.specs.declared.Start.{Start}

-- A label is known once the next unit is read: a$ after the end mark, and a\b after a space.
abbrev pub label_of_word : Expression → List ℕ → Label
label_of_word e word = node_label (node_after (forward_build (e ∷ [])) Anchored.Yes Start.Text word)

abbrev pub NoLabelYet : Type 0
NoLabelYet = label_of_word last_a (97 ∷ []) ≡ Label.Plain

abbrev pub LabelAfterEnd : Type 0
LabelAfterEnd = label_of_word last_a (97 ∷ eoi ∷ []) ≡ Label.Matches (0 ∷ [])

abbrev pub NoLabelAfterByte : Type 0
NoLabelAfterByte = label_of_word last_a (97 ∷ 97 ∷ []) ≡ Label.Plain

abbrev pub LabelAfterSpace : Type 0
LabelAfterSpace = label_of_word word_a (97 ∷ 32 ∷ []) ≡ Label.Matches (0 ∷ [])

abbrev pub NoLabelInWord : Type 0
NoLabelInWord = label_of_word word_a (97 ∷ 95 ∷ []) ≡ Label.Plain

-- The machine of a. Forward five states are reached: the two starts, what is left after an a from each, and
-- the match.
abbrev pub five_states : List State
five_states =
    state (1 ∷ []) [] ∷ state (1 ∷ 3 ∷ []) [] ∷ state (0 ∷ []) [] ∷ state (0 ∷ 1 ∷ 3 ∷ []) []
    ∷ state [] (0 ∷ []) ∷ []

abbrev pub ReachedForward : Type 0
ReachedForward = AreReached letter_forward five_states

-- in reverse three: the anchored start, what is left after an a, and the match
abbrev pub three_states : List State
three_states = state (1 ∷ []) [] ∷ state (0 ∷ []) [] ∷ state [] (0 ∷ []) ∷ []

abbrev pub ReachedInReverse : Type 0
ReachedInReverse = AreReached letter_reverse three_states
