-- The words of a plan line: what is read is spelled so, and what is spelled so is read.
use Rattle.rx_spec.proofs.Prelude.{common_steps, ◌≡◌, ◌≢◌, ℕ, ◌<◌, Bool, true, false, not, eqb, List, [], ◌∷◌}
use Rattle.rx_spec.proofs.Prelude.{◌++◌, length, get_or, set, Option, Some, None, refl, sym, ap, subst, ◌∙◌, append-nil}
use Rattle.rx_spec.proofs.Prelude.{arith, inl, inr, option_map, option_and_then, AllByRecursion, list_all, cases_Bool}
use Rattle.rx_spec.proofs.Prelude.{eqb-true, not-true, and_parts, same_Some, none-some, get_or-set_same}
use Rattle.rx_spec.proofs.Prelude.{get_or-set_other}
use Rattle.std.proofs.lemmas.Bool.{both_ways}
use Rattle.std.proofs.lemmas.List.{length-set}
use Rattle.rx_script.specs.declared.names.PlanName.{PlanName}
use Rattle.rx_script.specs.declared.plan_words.PlanWord.{PlanWord}
use Rattle.rx_script.specs.declared.plan_words.Choices.{Choices}
use Rattle.rx_script.specs.Pieces.{cut}
use Rattle.rx_script.specs.Names.{plan_name, all_plan_names, plan_name_of, start_of}
use Rattle.rx_script.specs.Plans.{unplanned, name_of, chosen_by, with_word, bare_word, valued_word, with_value}
use Rattle.rx_script.specs.Plans.{plan_word, number_of_name, place_of, unless_seen, plan_from, none_seen, plan_of}
use Rattle.rx_script.specs.Grammar.{SpellsValue, SpellsWord, SpellsWords, AreDistinct, with_words, SpellsPlan}
use Rattle.rx_script.proofs.Tables.{plan_name_spelled, plan_name_read, start_spelled, start_read, place_small}
use Rattle.rx_script.proofs.Tables.{same_place}
use Rattle.rx_script.proofs.Numbers.{number_spelled, number_read}
use Rattle.rx_script.proofs.Bytes.{byte_spelled, byte_read}
use Rattle.rx_script.proofs.Sets.{set_spelled, set_read}

-- ---- one word

-- what a text is made of that was cut
abbrev joined : ℕ → List ℕ × Option (List ℕ) → List ℕ
joined c (before, None) = before
joined c (before, Some after) = before ++ c ∷ after

cut_joined : (c : ℕ) (text : List ℕ) → text ≡ joined c (cut c text)
cut_joined c [] = refl
cut_joined c (b ∷ bs) = elim (cases_Bool (eqb b c)) [
  | inl h ↦ rw h (ap (λ (x : ℕ). x ∷ bs) (eqb-true b c h))
  | inr h ↦ rw h (ap (λ (xs : List ℕ). b ∷ xs) (cut_joined c bs) ∙ on (cut c bs).0 (cut c bs).1)
] where
  on : (before : List ℕ) (after : Option (List ℕ)) → b ∷ joined c (before, after) ≡ joined c (b ∷ before, after)
  on before None = refl
  on before (Some after) = refl

-- the word has this name, and this after it
abbrev IsNamed : PlanName → List ℕ → PlanWord → Type 0
IsNamed name after word = (name_of word ≡ name) × SpellsValue word after

bare_spelled : (name : PlanName) (word : PlanWord) → bare_word name ≡ Some word → IsNamed name [] word
bare_spelled name word e = grind (arith, common_steps)

-- a value that was read, and the word of it
valued : {A : Type 0} (name : PlanName) (value : List ℕ) (o : Option A) (make : A → PlanWord) (word : PlanWord)
    → ((x : A) → o ≡ Some x → IsNamed name (61 ∷ value) (make x)) → option_map make o ≡ Some word
    → IsNamed name (61 ∷ value) word
valued name value None make word is e = absurd cc
valued name value (Some x) make word is e = subst (IsNamed name (61 ∷ value)) (same_Some (make x) word e) (is x refl)

valued_spelled : (name : PlanName) (value : List ℕ) (word : PlanWord) → valued_word name value ≡ Some word
    → IsNamed name (61 ∷ value) word
valued_spelled PlanName.Start value word e =
    valued _ value _ _ word (λ kind is. (refl, (value, start_spelled value kind is, refl))) e
valued_spelled PlanName.Quit value word e =
    valued _ value _ _ word (λ bytes is. (refl, (value, set_spelled value bytes is, refl))) e
valued_spelled PlanName.LineTerminator value word e =
    valued _ value _ _ word (λ byte is. (refl, (value, byte_spelled value byte is, refl))) e
valued_spelled PlanName.NfaLimit value word e =
    valued _ value _ _ word (λ bytes is. (refl, (value, number_spelled value bytes is, refl))) e
valued_spelled PlanName.DfaLimit value word e =
    valued _ value _ _ word (λ bytes is. (refl, (value, number_spelled value bytes is, refl))) e
valued_spelled PlanName.DeterminizeLimit value word e =
    valued _ value _ _ word (λ bytes is. (refl, (value, number_spelled value bytes is, refl))) e
valued_spelled _ value word e = absurd cc

-- a name, and what stands after it
abbrev tail_of : Option (List ℕ) → List ℕ
tail_of None = []
tail_of (Some value) = 61 ∷ value

tail_spelled : (name : PlanName) (value : Option (List ℕ)) (word : PlanWord) → with_value value name ≡ Some word
    → IsNamed name (tail_of value) word
tail_spelled name None word e = bare_spelled name word e
tail_spelled name (Some value) word e = valued_spelled name value word e

joined_tail : (before : List ℕ) (value : Option (List ℕ)) → joined 61 (before, value) ≡ before ++ tail_of value
joined_tail before None = sym (append-nil before)
joined_tail before (Some value) = refl

word_spelled : (text : List ℕ) (word : PlanWord) → plan_word text ≡ Some word → SpellsWord word text
unfolding plan_word
word_spelled text word e = on (plan_name_of (cut 61 text).0) refl e where
  on : (o : Option PlanName) → plan_name_of (cut 61 text).0 ≡ o
      → option_and_then (with_value (cut 61 text).1) o ≡ Some word → SpellsWord word text
  on None p z = absurd cc
  on (Some name) p z =
      let value = (cut 61 text).1 in
      let t = tail_spelled name value word z in
      let front = plan_name_spelled (cut 61 text).0 name p ∙ ap plan_name (sym t.0) in
      let text_is = cut_joined 61 text ∙ joined_tail (cut 61 text).0 value in
      (tail_of value, t.1, text_is ∙ ap (λ (x : List ℕ). x ++ tail_of value) front)

-- ---- and the other way

-- a test that each name passes
of_each : (test : PlanName → Bool) → list_all test all_plan_names ≡ true → (name : PlanName) → test name ≡ true
of_each test all name = grind (arith, common_steps)

-- no name has an equals sign
abbrev is_plain : List ℕ → Bool
is_plain name = list_all (λ b. not (eqb b 61)) name

cut-valued : (name value : List ℕ) → is_plain name ≡ true → cut 61 (name ++ 61 ∷ value) ≡ (name, Some value)
cut-valued [] value plain = refl
cut-valued (b ∷ bs) value plain =
    let p = and_parts (not (eqb b 61)) (is_plain bs) plain in
    rw (not-true (eqb b 61) p.0, cut-valued bs value p.1) refl

bare_read : (name : PlanName) → plan_word (plan_name name) ≡ bare_word name
unfolding plan_word
bare_read name = grind (arith, common_steps, plan_name_read)

valued_read : (name : PlanName) (value : List ℕ) → plan_word (plan_name name ++ 61 ∷ value) ≡ valued_word name value
unfolding plan_word
valued_read name value =
    let plain = of_each (λ n. is_plain (plan_name n)) refl name in
    rw (cut-valued (plan_name name) value plain, plan_name_read name) refl

nothing_after : (name : PlanName) (word : PlanWord) (after : List ℕ) → after ≡ [] → bare_word name ≡ Some word
    → plan_word (plan_name name ++ after) ≡ Some word
nothing_after name word after none e =
    ap (λ (x : List ℕ). plan_word (plan_name name ++ x)) none ∙ ap plan_word (append-nil (plan_name name))
    ∙ bare_read name ∙ e

value_after : {A : Type 0} (name : PlanName) (after value : List ℕ) (o : Option A) (make : A → PlanWord) (x : A)
    → (after ≡ 61 ∷ value) × (valued_word name value ≡ option_map make o) → o ≡ Some x
    → plan_word (plan_name name ++ after) ≡ Some (make x)
value_after name after value o make x e is =
    ap (λ (rest : List ℕ). plan_word (plan_name name ++ rest)) e.0 ∙ valued_read name value ∙ e.1
    ∙ ap (option_map make) is

tail_read : (word : PlanWord) (after : List ℕ) → SpellsValue word after
    → plan_word (plan_name (name_of word) ++ after) ≡ Some word
tail_read (PlanWord.Start kind) after v =
    value_after PlanName.Start after v.0 _ PlanWord.Start kind (v.2, refl) (ap start_of v.1 ∙ start_read kind)
tail_read (PlanWord.Quit bytes) after v =
    value_after PlanName.Quit after v.0 _ PlanWord.Quit bytes (v.2, refl) (set_read v.0 bytes v.1)
tail_read (PlanWord.LineTerminator byte) after v =
    value_after PlanName.LineTerminator after v.0 _ PlanWord.LineTerminator byte (v.2, refl) (byte_read v.0 byte v.1)
tail_read (PlanWord.NfaLimit bytes) after v =
    value_after PlanName.NfaLimit after v.0 _ PlanWord.NfaLimit bytes (v.2, refl) (number_read v.0 bytes v.1)
tail_read (PlanWord.DfaLimit bytes) after v =
    value_after PlanName.DfaLimit after v.0 _ PlanWord.DfaLimit bytes (v.2, refl) (number_read v.0 bytes v.1)
tail_read (PlanWord.DeterminizeLimit bytes) after v =
    value_after PlanName.DeterminizeLimit after v.0 _ PlanWord.DeterminizeLimit bytes (v.2, refl)
    (number_read v.0 bytes v.1)
tail_read word after v = nothing_after (name_of word) word after v refl

word_read : (text : List ℕ) (word : PlanWord) → SpellsWord word text → plan_word text ≡ Some word
word_read text word s = ap plan_word s.2 ∙ tail_read word s.0 s.1

-- ---- what was chosen

-- a mark for each name
abbrev HasMarks : List Bool → Type 0
HasMarks seen = length seen ≡ length all_plan_names

abbrev IsUnseen : List Bool → PlanWord → Type 0
IsUnseen seen word = get_or seen (place_of word) false ≡ false

abbrev with_seen : List Bool → PlanWord → List Bool
with_seen seen word = set seen (place_of word) true

none_is_seen : (name : PlanName) → get_or none_seen (number_of_name name) false ≡ false
unfolding number_of_name
none_is_seen name = not-true _ (of_each (λ n. not (get_or none_seen (number_of_name n) false)) refl name)

all_unseen : (words : List PlanWord) → AllByRecursion (IsUnseen none_seen) words
all_unseen [] = tt
all_unseen (word ∷ words) = (none_is_seen (chosen_by word), all_unseen words)

-- what is unseen after a word is unseen before it, and chooses another thing
seen_less : (seen : List Bool) (word other : PlanWord) → HasMarks seen → IsUnseen (with_seen seen word) other
    → (chosen_by other ≢ chosen_by word) × IsUnseen seen other
seen_less seen word other len e =
    let place : place_of word < length seen = omega (arith, place_small (chosen_by word)) in
    let seen_now = get_or-set_same seen (place_of word) true false place in
    let differ = λ (same : place_of other ≡ place_of word).
    both_ways (get_or (with_seen seen word) (place_of word) false)
    (ap (λ (k : ℕ). get_or (with_seen seen word) k false) (sym same) ∙ e) seen_now in
    let unseen = sym (get_or-set_other seen (place_of word) (place_of other) true false differ) ∙ e in
    (λ same. differ (ap number_of_name same), unseen)

all_less : (seen : List Bool) (word : PlanWord) (words : List PlanWord) → HasMarks seen
    → AllByRecursion (IsUnseen (with_seen seen word)) words
    → AllByRecursion (λ other. chosen_by other ≢ chosen_by word) words × AllByRecursion (IsUnseen seen) words
all_less seen word [] len each = (tt, tt)
all_less seen word (other ∷ others) len each =
    let one = seen_less seen word other len each.0 in
    let more = all_less seen word others len each.1 in
    ((one.0, more.0), (one.1, more.1))

all_more : (seen : List Bool) (word : PlanWord) (words : List PlanWord)
    → AllByRecursion (λ other. chosen_by other ≢ chosen_by word) words → AllByRecursion (IsUnseen seen) words
    → AllByRecursion (IsUnseen (with_seen seen word)) words
all_more seen word [] differ unseen = tt
all_more seen word (other ∷ others) differ unseen =
    let apart = λ (e : place_of other ≡ place_of word). differ.0 (same_place (chosen_by other) (chosen_by word) e) in
    let one = get_or-set_other seen (place_of word) (place_of other) true false apart ∙ unseen.0 in
    (one, all_more seen word others differ.1 unseen.1)

-- ---- the line

record IsRead (choices : Choices) (seen : List Bool) (texts : List (List ℕ)) (out : Choices) : Type 0 where
  words : List PlanWord
  spelled : SpellsWords words texts
  unseen : AllByRecursion (IsUnseen seen) words
  distinct : AreDistinct words
  made : out ≡ with_words words choices

-- the words after a word
abbrev after_word : Choices → List Bool → List (List ℕ) → PlanWord → Option Choices
after_word choices seen texts word = plan_from (with_word word choices) (with_seen seen word) texts

abbrev first_word : Choices → List Bool → List (List ℕ) → PlanWord → Option Choices
first_word choices seen texts word =
    unless_seen (get_or seen (place_of word) false) (after_word choices seen texts word)

-- whatever is read of the words after a word was spelled by them
record MoreWords (choices : Choices) (seen : List Bool) (texts : List (List ℕ)) (out : Choices) : Type 0 where
  are : (word : PlanWord) → after_word choices seen texts word ≡ Some out
      → IsRead (with_word word choices) (with_seen seen word) texts out

word_in_front : {choices out : Choices} {seen : List Bool} {texts : List (List ℕ)} (text : List ℕ) (word : PlanWord)
    → HasMarks seen → plan_word text ≡ Some word → IsUnseen seen word
    → IsRead (with_word word choices) (with_seen seen word) texts out → IsRead choices seen (text ∷ texts) out
word_in_front {seen = seen} text word len w unseen r =
    let less = all_less seen word r.words len r.unseen in
    record {
      words = word ∷ r.words;
      spelled = (word_spelled text word w, r.spelled);
      unseen = (unseen, less.1);
      distinct = (less.0, r.distinct);
      made = r.made;
    }

word_spelled_first : {choices out : Choices} {seen : List Bool} {texts : List (List ℕ)} (text : List ℕ)
    → HasMarks seen → MoreWords choices seen texts out → plan_from choices seen (text ∷ texts) ≡ Some out
    → IsRead choices seen (text ∷ texts) out
word_spelled_first {choices = choices} {out = out} {seen = seen} {texts = texts} text len more e =
    on (plan_word text) refl e where
      on : (o : Option PlanWord) → plan_word text ≡ o → option_and_then (first_word choices seen texts) o ≡ Some out
          → IsRead choices seen (text ∷ texts) out
      on None w q = absurd cc
      on (Some word) w q = elim (cases_Bool (get_or seen (place_of word) false)) [
        | inl p ↦ absurd (none-some out (rw p at q))
        | inr p ↦ word_in_front text word len w p (more.are word (rw p at q))
      ]

from_spelled : (choices : Choices) (seen : List Bool) (texts : List (List ℕ)) (out : Choices) → HasMarks seen
    → plan_from choices seen texts ≡ Some out → IsRead choices seen texts out
from_spelled choices seen [] out len e =
    record { words = []; spelled = tt; unseen = tt; distinct = tt; made = sym (same_Some choices out e) }
from_spelled choices seen (text ∷ texts) out len e =
    let more : MoreWords choices seen texts out = record {
      are = λ word z.
          let len' = length-set seen (place_of word) true ∙ len in
          from_spelled (with_word word choices) (with_seen seen word) texts out len' z;
    } in
    word_spelled_first text len more e

from_read : (choices : Choices) (seen : List Bool) (words : List PlanWord) (texts : List (List ℕ))
    → SpellsWords words texts → AllByRecursion (IsUnseen seen) words → AreDistinct words
    → plan_from choices seen texts ≡ Some (with_words words choices)
from_read choices seen [] [] s u d = refl
from_read choices seen [] (text ∷ texts) s u d = absurd s
from_read choices seen (word ∷ words) [] s u d = absurd s
from_read choices seen (word ∷ words) (text ∷ texts) s u d =
    let unseen = all_more seen word words d.0 u.1 in
    rw (word_read text word s.0, u.0)
    (from_read (with_word word choices) (with_seen seen word) words texts s.1 unseen d.1)

pub plan_spelled : (texts : List (List ℕ)) (choices : Choices) → plan_of texts ≡ Some choices → SpellsPlan choices texts
plan_spelled texts choices e =
    let r = from_spelled unplanned none_seen texts choices refl e in
    record { words = r.words; spelled = r.spelled; distinct = r.distinct; made = r.made }

pub plan_read : (texts : List (List ℕ)) (choices : Choices) → SpellsPlan choices texts → plan_of texts ≡ Some choices
plan_read texts choices s =
    from_read unplanned none_seen s.words texts s.spelled (all_unseen s.words) s.distinct
    ∙ ap (λ (c : Choices). Some c) (sym s.made)
