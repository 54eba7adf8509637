-- What the words of a plan line set.
use Rattle.std.specs.Prelude.{ℕ, Bool, true, false, List, [], ◌∷◌, Option, Some, None, option_map}
use Rattle.std.specs.Prelude.{option_and_then, length, replicate, slice_index_or, slice_set}
use Rattle.std.specs.List.{position_or_len}
use Rattle.std.specs.Str.{bytes_eq}
use Rattle.rx_spec.specs.declared.Form.{Form}
use Rattle.rx_plan.specs.Plan.{usual}
use Rattle.rx_plan.specs.declared.Passage.{Passage}
use Rattle.rx_script.specs.declared.names.PlanName.{PlanName}
use Rattle.rx_script.specs.declared.plan_words.PlanWord.{PlanWord}
use Rattle.rx_script.specs.declared.plan_words.Choices.{Choices}
use Rattle.rx_script.specs.Pieces.{cut}
use Rattle.rx_script.specs.Names.{plan_name, all_plan_names, plan_name_of, start_of}
use Rattle.rx_script.specs.Tokens.{number_of, one_byte, set_of_word}

-- without a plan line
abbrev pub unplanned : Choices
unplanned = record { plan = usual; rows = false }

-- the name of a word
abbrev pub name_of : PlanWord → PlanName
name_of (PlanWord.Start kind) = PlanName.Start
name_of PlanWord.Patterns = PlanName.Patterns
name_of PlanWord.NoClasses = PlanName.NoClasses
name_of (PlanWord.Quit set) = PlanName.Quit
name_of PlanWord.UnicodeWord = PlanName.UnicodeWord
name_of (PlanWord.LineTerminator byte) = PlanName.LineTerminator
name_of (PlanWord.NfaLimit bytes) = PlanName.NfaLimit
name_of (PlanWord.DfaLimit bytes) = PlanName.DfaLimit
name_of (PlanWord.DeterminizeLimit bytes) = PlanName.DeterminizeLimit
name_of PlanWord.Minimize = PlanName.Minimize
name_of PlanWord.NoAccelerate = PlanName.NoAccelerate
name_of PlanWord.Mark = PlanName.Mark
name_of PlanWord.Sparse = PlanName.Sparse
name_of PlanWord.Bytes = PlanName.Bytes
name_of PlanWord.Pair = PlanName.Pair
name_of PlanWord.Rows = PlanName.Rows

-- What a word chooses, by a name: each thing is chosen at most once. Bytes and pair choose the same thing.
abbrev pub chosen_by : PlanWord → PlanName
chosen_by PlanWord.Pair = PlanName.Bytes
chosen_by word = name_of word

-- what it changes
abbrev pub with_word : PlanWord → Choices → Choices
with_word (PlanWord.Start kind) c = record c { plan = record c.plan { start_kind = kind } }
with_word PlanWord.Patterns c = record c { plan = record c.plan { pattern_starts = true } }
with_word PlanWord.NoClasses c = record c { plan = record c.plan { byte_classes = false } }
with_word (PlanWord.Quit set) c = record c { plan = record c.plan { quit = set } }
with_word PlanWord.UnicodeWord c = record c { plan = record c.plan { unicode_word = true } }
with_word (PlanWord.LineTerminator byte) c = record c { plan = record c.plan { line_terminator = byte } }
with_word (PlanWord.NfaLimit bytes) c = record c { plan = record c.plan { nfa_limit = Some bytes } }
with_word (PlanWord.DfaLimit bytes) c = record c { plan = record c.plan { dfa_limit = Some bytes } }
with_word (PlanWord.DeterminizeLimit bytes) c = record c { plan = record c.plan { determinize_limit = Some bytes } }
with_word PlanWord.Minimize c = record c { plan = record c.plan { minimize = true } }
with_word PlanWord.NoAccelerate c = record c { plan = record c.plan { accelerate = false } }
with_word PlanWord.Mark c = record c { plan = record c.plan { mark_starts = true } }
with_word PlanWord.Sparse c = record c { plan = record c.plan { form = Form.Sparse } }
with_word PlanWord.Bytes c = record c { plan = record c.plan { passage = Passage.Bytes } }
with_word PlanWord.Pair c = record c { plan = record c.plan { passage = Passage.Pair } }
with_word PlanWord.Rows c = record c { rows = true }

-- ---- one word

-- a name without a value
abbrev pub bare_word : PlanName → Option PlanWord
bare_word PlanName.Patterns = Some PlanWord.Patterns
bare_word PlanName.NoClasses = Some PlanWord.NoClasses
bare_word PlanName.UnicodeWord = Some PlanWord.UnicodeWord
bare_word PlanName.Minimize = Some PlanWord.Minimize
bare_word PlanName.NoAccelerate = Some PlanWord.NoAccelerate
bare_word PlanName.Mark = Some PlanWord.Mark
bare_word PlanName.Sparse = Some PlanWord.Sparse
bare_word PlanName.Bytes = Some PlanWord.Bytes
bare_word PlanName.Pair = Some PlanWord.Pair
bare_word PlanName.Rows = Some PlanWord.Rows
bare_word _ = None

-- a name with a value
abbrev pub valued_word : PlanName → List ℕ → Option PlanWord
valued_word PlanName.Start value = option_map (λ kind. PlanWord.Start kind) (start_of value)
valued_word PlanName.Quit value = option_map (λ set. PlanWord.Quit set) (set_of_word value)
valued_word PlanName.LineTerminator value = option_map (λ byte. PlanWord.LineTerminator byte) (one_byte value)
valued_word PlanName.NfaLimit value = option_map (λ bytes. PlanWord.NfaLimit bytes) (number_of value)
valued_word PlanName.DfaLimit value = option_map (λ bytes. PlanWord.DfaLimit bytes) (number_of value)
valued_word PlanName.DeterminizeLimit value = option_map (λ bytes. PlanWord.DeterminizeLimit bytes) (number_of value)
valued_word _ value = None

abbrev pub with_value : Option (List ℕ) → PlanName → Option PlanWord
with_value None name = bare_word name
with_value (Some value) name = valued_word name value

-- a word with an equals sign has its name before it, and its value after it
unfoldable pub plan_word : List ℕ → Option PlanWord
plan_word word = option_and_then (with_value (cut 61 word).1) (plan_name_of (cut 61 word).0)

-- ---- the line

-- the number of a name: its place in the list of names
unfoldable pub number_of_name : PlanName → ℕ
number_of_name name = position_or_len (λ other. bytes_eq (plan_name name) (plan_name other)) all_plan_names

abbrev pub place_of : PlanWord → ℕ
place_of word = number_of_name (chosen_by word)

-- the words one after another; a word refuses that chooses what was chosen before it
abbrev pub unless_seen : Bool → Option Choices → Option Choices
unless_seen true rest = None
unless_seen false rest = rest

abbrev pub plan_from : Choices → List Bool → List (List ℕ) → Option Choices
plan_from choices seen [] = Some choices
plan_from choices seen (text ∷ texts) =
    option_and_then
    (λ word. unless_seen
    (slice_index_or seen (place_of word) false)
    (plan_from (with_word word choices) (slice_set seen (place_of word) true) texts))
    (plan_word text)

abbrev pub none_seen : List Bool
none_seen = replicate (length all_plan_names) false

-- what the words after plan say
abbrev pub plan_of : List (List ℕ) → Option Choices
plan_of texts = plan_from unplanned none_seen texts
