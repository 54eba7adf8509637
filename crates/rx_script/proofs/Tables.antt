-- Words and names: what a word names has that name, and each name is found.
use Rattle.rx_spec.proofs.Prelude.{◌≡◌, ◌≢◌, inl, inr, ℕ, Bool, true, false, List, [], ◌∷◌, Some, refl, ap, ◌∙◌}
use Rattle.rx_spec.proofs.Prelude.{bytes_eq, bytes_eq-Decides, cases_Bool, false_from_ne_true, same_Some}
use Rattle.rx_spec.proofs.Prelude.{arith, ◌<◌, length, get_or, sym}
use Rattle.std.specs.List.{position}
use Rattle.rx_spec.specs.declared.Look.{Look}
use Rattle.rx_spec.specs.declared.StartKind.{StartKind}
use Rattle.rx_script.specs.declared.names.LineKind.{LineKind}
use Rattle.rx_script.specs.declared.names.Head.{Head}
use Rattle.rx_script.specs.declared.names.PlanName.{PlanName}
use Rattle.rx_script.specs.Names.{named, line_name, all_lines, line_kind, head_name, all_heads, head_of, look_name}
use Rattle.rx_script.specs.Names.{all_looks, look_of, greed_name, truths, greed_of, anchored_name, anchored_of}
use Rattle.rx_script.specs.Names.{plan_name, all_plan_names, plan_name_of, start_name, all_starts, start_of}
use Rattle.rx_script.specs.Plans.{number_of_name}

-- a word that is another, and one that isn't
pub same_word : (word other : List ℕ) → bytes_eq word other ≡ true → word ≡ other
same_word word other e = (bytes_eq-Decides word other).0 e

pub other_word : (word other : List ℕ) → word ≢ other → bytes_eq word other ≡ false
other_word word other ne = false_from_ne_true (bytes_eq word other) (λ e. ne (same_word word other e))

named_is : {A : Type 0} (name : A → List ℕ) (things : List A) (word : List ℕ) (thing : A)
    → named name things word ≡ Some thing → word ≡ name thing
named_is name [] word thing e = absurd cc
named_is name (x ∷ xs) word thing e = elim (cases_Bool (bytes_eq word (name x))) [
  | inl h ↦ same_word word (name x) h ∙ ap name (same_Some x thing (rw h at e))
  | inr h ↦ named_is name xs word thing (rw h at e)
]

-- ---- what a word names has that name

pub line_spelled : (word : List ℕ) (kind : LineKind) → line_kind word ≡ Some kind → word ≡ line_name kind
unfolding line_kind
line_spelled word kind e = named_is line_name all_lines word kind e

pub head_spelled : (word : List ℕ) (head : Head) → head_of word ≡ Some head → word ≡ head_name head
unfolding head_of
head_spelled word head e = named_is head_name all_heads word head e

pub look_spelled : (word : List ℕ) (look : Look) → look_of word ≡ Some look → word ≡ look_name look
unfolding look_of
look_spelled word look e = named_is look_name all_looks word look e

pub greed_spelled : (word : List ℕ) (greedy : Bool) → greed_of word ≡ Some greedy → word ≡ greed_name greedy
unfolding greed_of
greed_spelled word greedy e = named_is greed_name truths word greedy e

pub anchored_spelled : (word : List ℕ) (truth : Bool) → anchored_of word ≡ Some truth → word ≡ anchored_name truth
unfolding anchored_of
anchored_spelled word truth e = named_is anchored_name truths word truth e

pub plan_name_spelled : (word : List ℕ) (name : PlanName) → plan_name_of word ≡ Some name → word ≡ plan_name name
unfolding plan_name_of
plan_name_spelled word name e = named_is plan_name all_plan_names word name e

pub start_spelled : (word : List ℕ) (kind : StartKind) → start_of word ≡ Some kind → word ≡ start_name kind
unfolding start_of
start_spelled word kind e = named_is start_name all_starts word kind e

-- ---- each name is found

pub line_read : (kind : LineKind) → line_kind (line_name kind) ≡ Some kind
unfolding line_kind
line_read LineKind.Plan = refl
line_read _ = refl

pub head_read : (head : Head) → head_of (head_name head) ≡ Some head
unfolding head_of
head_read Head.Empty = refl
head_read _ = refl

pub look_read : (look : Look) → look_of (look_name look) ≡ Some look
unfolding look_of
look_read Look.Start = refl
look_read _ = refl

pub greed_read : (greedy : Bool) → greed_of (greed_name greedy) ≡ Some greedy
unfolding greed_of
greed_read true = refl
greed_read false = refl

pub anchored_read : (truth : Bool) → anchored_of (anchored_name truth) ≡ Some truth
unfolding anchored_of
anchored_read true = refl
anchored_read false = refl

pub plan_name_read : (name : PlanName) → plan_name_of (plan_name name) ≡ Some name
unfolding plan_name_of
plan_name_read PlanName.Start = refl
plan_name_read _ = refl

pub start_read : (kind : StartKind) → start_of (start_name kind) ≡ Some kind
unfolding start_of
start_read StartKind.Both = refl
start_read _ = refl

-- ---- each name of a plan word has a place of its own in the list

abbrev pub has_name : PlanName → PlanName → Bool
has_name name other = bytes_eq (plan_name name) (plan_name other)

pub name_found : (name : PlanName) → position (has_name name) all_plan_names ≡ Some (number_of_name name)
unfolding number_of_name
name_found PlanName.Start = refl
name_found _ = refl

pub place_small : (name : PlanName) → number_of_name name < length all_plan_names
unfolding number_of_name
place_small PlanName.Start = omega arith
place_small _ = omega arith

at_its_place : (name : PlanName) → get_or all_plan_names (number_of_name name) PlanName.Start ≡ name
unfolding number_of_name
at_its_place PlanName.Start = refl
at_its_place _ = refl

pub same_place : (name other : PlanName) → number_of_name name ≡ number_of_name other → name ≡ other
same_place name other e =
    sym (at_its_place name) ∙ ap (λ (place : ℕ). get_or all_plan_names place PlanName.Start) e ∙ at_its_place other
