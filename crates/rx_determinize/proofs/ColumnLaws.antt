-- The columns of a table and the units that stand for them.
use Rattle.rx_spec.proofs.Prelude.{common_steps, ◌≡◌, ℕ, ◌+◌, ◌<◌, ◌≤◌, Bool, List, [], ◌∷◌, length, get_or, ap, sym}
use Rattle.rx_spec.proofs.Prelude.{◌∙◌, arith, ⊎_elim, cases_lt, nat_tests, get_or-map, get_or_append_left, get_or_push}
use Rattle.rx_spec.proofs.Prelude.{length-map, length_push, get_or-map-range_with_len, slice_index, eoi, Build, Node}
use Rattle.rx_spec.proofs.Prelude.{next_node, class_by, column_by, ends_class, representatives, Nfa}
use Rattle.rx_determinize.proofs.Prelude.{AreClasses, AreUnits, Layout, Unit, alphabet_len, classes_of, column, ends_of}
use Rattle.rx_determinize.proofs.Prelude.{ends_of-class, unit_number, unit_of}
use Rattle.rx_lemmas.proofs.ClassNumbers.{representatives_counted, representative_class, representative_below}
use Rattle.rx_lemmas.proofs.Classes.{column_leads}

column_of_byte : (l : Layout) (unit : ℕ) → unit < 256 → column l unit ≡ slice_index l.classes unit
column_of_byte l unit h = grind (arith, common_steps, nat_tests)

module _ (l : Layout) (are : AreClasses l.classes) where
  counted : length (representatives (ends_of l.classes)) ≡ slice_index l.classes 255 + 1
  counted =
      representatives_counted (ends_of l.classes)
      ∙ ap (λ n. n + 1) (sym (ends_of-class l.classes are 255 (omega arith)))

  -- the unit of a column: a byte, or the end mark for the last one
  unit_below : (c : ℕ) → c < slice_index l.classes 255 + 1
      → unit_of l.classes c ≡ slice_index (representatives (ends_of l.classes)) c
  unit_below c h = get_or_append_left (representatives (ends_of l.classes)) (eoi ∷ []) 0 c (omega (arith, counted))

  unit_last : (c : ℕ) → c ≡ slice_index l.classes 255 + 1 → unit_of l.classes c ≡ 256
  unit_last c e = get_or_push (representatives (ends_of l.classes)) 256 0 c (counted ∙ sym e)

  byte_below : (c : ℕ) → c < slice_index l.classes 255 + 1 → unit_of l.classes c < 256
  byte_below c h = omega (arith, unit_below c h, representative_below (ends_of l.classes) c (omega (arith, counted)))

  pub unit_in : (c : ℕ) → c < alphabet_len l.classes → unit_of l.classes c < 257
  unit_in c h =
      ⊎_elim (λ (less : c < slice_index l.classes 255 + 1). omega (arith, byte_below c less))
      (λ (over : slice_index l.classes 255 + 1 ≤ c). omega (arith, unit_last c (omega arith)))
      (cases_lt c (slice_index l.classes 255 + 1))

  -- its column
  pub unit_column : (c : ℕ) → c < alphabet_len l.classes → column l (unit_of l.classes c) ≡ c
  unit_column c h =
      ⊎_elim
      (λ (less : c < slice_index l.classes 255 + 1).
      let byte = unit_of l.classes c in
      column_of_byte l byte (byte_below c less) ∙ ends_of-class l.classes are byte (byte_below c less)
      ∙ ap (class_by (ends_of l.classes)) (unit_below c less)
      ∙ representative_class (ends_of l.classes) c (omega (arith, counted)))
      (λ (over : slice_index l.classes 255 + 1 ≤ c).
      let is_last : c ≡ slice_index l.classes 255 + 1 = omega arith in
      ap (column l) (unit_last c is_last) ∙ sym is_last)
      (cases_lt c (slice_index l.classes 255 + 1))

-- there is a unit for each column
pub units_count : (l : Layout) (units : List Unit) → AreClasses l.classes → AreUnits units l.classes
    → length units ≡ alphabet_len l.classes
units_count l units are is =
    sym (length-map units unit_number) ∙ ap length is
    ∙ omega (arith, length_push (representatives (ends_of l.classes)) eoi, counted l are)

-- that of a column
pub unit_is : (units : List Unit) (classes : List ℕ) {column : ℕ} {unit : Unit} → AreUnits units classes
    → column < length units → unit ≡ get_or units column unit → unit_number unit ≡ unit_of classes column
unit_is units classes {column} {unit} is low here =
    ap unit_number here ∙ sym (get_or-map unit_number units column unit 0 low)
    ∙ ap (λ (us : List ℕ). slice_index us column) is

-- the column of a table with an NFA's classes
pub column_is : (l : Layout) (nfa : Nfa) (quit : ℕ) (byte_classes : Bool) → l.classes ≡ classes_of nfa quit byte_classes
    → (unit : ℕ) → unit < 257 → column l unit ≡ column_by (ends_class nfa quit byte_classes) unit
column_is l nfa quit byte_classes is unit h =
    let ends = ends_class nfa quit byte_classes in
    let class_at : (b : ℕ) → b < 256 → slice_index l.classes b ≡ class_by ends b = λ b low.
    ap (λ (classes : List ℕ). slice_index classes b) is
    ∙ get_or-map-range_with_len (class_by ends) 0 256 b b 0 low (omega arith) in
    grind (arith, common_steps, nat_tests)

-- units of one column lead a node to one node
pub same_column : (l : Layout) (b : Build) (byte_classes : Bool) → l.classes ≡ classes_of b.nfa b.quit byte_classes
    → (node : Node) (x y : ℕ) → x < 257 → y < 257 → column l x ≡ column l y → next_node b node x ≡ next_node b node y
same_column l b byte_classes is node x y below_x below_y same =
    column_leads b byte_classes node x y below_x below_y
    (sym (column_is l b.nfa b.quit byte_classes is x below_x) ∙ same
    ∙ column_is l b.nfa b.quit byte_classes is y below_y)
