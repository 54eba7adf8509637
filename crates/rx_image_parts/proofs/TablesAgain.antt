-- What was written is read again: start tables.
use Rattle.rx_spec.proofs.Prelude.{common_steps, ◌≡◌, ℕ, true, ltb, Option, Some, None, List, [], ◌∷◌, ◌++◌, length}
use Rattle.rx_spec.proofs.Prelude.{map, Ok, refl, ap, subst, ◌∙◌, append_assoc, arith, list_all, w32, length-map}
use Rattle.rx_spec.proofs.Prelude.{id_count, max_id}
use Rattle.rx_spec.specs.declared.Start.{Start}
use Rattle.rx_spec.specs.declared.StartKind.{StartKind}
use Rattle.rx_wire.specs.declared.order.Order.{Order}
use Rattle.rx_wire.specs.Kinds.{Reads}
use Rattle.rx_wire.specs.Fields.{bytes_at, field}
use Rattle.rx_wire.proofs.Fields.{bytes_again, u32_again}
use Rattle.rx_dense.specs.Layouts.{context_number, start_entries}
use Rattle.rx_image_parts.specs.Words.{AreWords, words_at, words_text}
use Rattle.rx_image_parts.specs.StartTables.{IsAtMost, IsReadStartTable, StartTable, context_count, context_count_at}
use Rattle.rx_image_parts.specs.StartTables.{context_of, contexts_at, kind_number, number_or_none, pattern_starts_at}
use Rattle.rx_image_parts.specs.StartTables.{start_kind_at, start_kinds_at, start_table_at, start_table_text}
use Rattle.rx_image_parts.specs.StartTables.{universal_at}
use Rattle.rx_image_parts.proofs.ReadAgain.{words_again}

-- ---- numbers

start_kind_again : (order : Order) (kind : StartKind)
    → Reads (start_kind_at order) (field order w32 (kind_number kind)) kind
unfolding start_kind_at
start_kind_again order StartKind.Both rest = rw (u32_again order 0 (omega arith) rest) refl
start_kind_again order StartKind.Unanchored rest = rw (u32_again order 1 (omega arith) rest) refl
start_kind_again order StartKind.Anchored rest = rw (u32_again order 2 (omega arith) rest) refl

context_count_again : (order : Order) → Reads (context_count_at order) (field order w32 context_count) context_count
unfolding context_count_at
context_count_again order rest = rw (u32_again order 6 (omega arith) rest) refl

pattern_starts_again : (order : Order) (o : Option ℕ) → IsAtMost id_count o
    → Reads (pattern_starts_at order) (field order w32 (number_or_none o)) o
unfolding pattern_starts_at
pattern_starts_again order None most rest = rw (u32_again order 4294967295 (omega arith) rest) refl
pattern_starts_again order (Some n) most rest = grind (arith, common_steps, u32_again)

universal_again : (order : Order) (o : Option ℕ) → IsAtMost max_id o
    → Reads (universal_at order) (field order w32 (number_or_none o)) o
unfolding universal_at
universal_again order None most rest = rw (u32_again order 4294967295 (omega arith) rest) refl
universal_again order (Some n) most rest = grind (arith, common_steps, u32_again)

-- ---- contexts

context_again : (context : Start) → context_of (context_number context) ≡ context
context_again Start.NonWordByte = refl
context_again Start.WordByte = refl
context_again Start.Text = refl
context_again Start.LineLF = refl
context_again Start.LineCR = refl
context_again Start.CustomLineTerminator = refl

is_context : (context : Start) → ltb (context_number context) 6 ≡ true
is_context Start.NonWordByte = refl
is_context Start.WordByte = refl
is_context Start.Text = refl
is_context Start.LineLF = refl
is_context Start.LineCR = refl
is_context Start.CustomLineTerminator = refl

are_contexts : (contexts : List Start) → list_all (λ byte. ltb byte 6) (map context_number contexts) ≡ true
are_contexts [] = refl
are_contexts (context ∷ contexts) = rw (is_context context, are_contexts contexts) refl

all_again : (contexts : List Start) → map context_of (map context_number contexts) ≡ contexts
all_again [] = refl
all_again (context ∷ contexts) =
    ap (λ (c : Start). c ∷ map context_of (map context_number contexts)) (context_again context)
    ∙ ap (λ (t : List Start). context ∷ t) (all_again contexts)

contexts_again : (contexts : List Start) → length contexts ≡ 256
    → Reads contexts_at (map context_number contexts) contexts
unfolding contexts_at
contexts_again contexts len rest =
    let numbers : List ℕ = map context_number contexts in
    let front : bytes_at 256 (numbers ++ rest) ≡ Ok (numbers, rest) =
    subst (λ (n : ℕ). bytes_at n (numbers ++ rest) ≡ Ok (numbers, rest)) (length-map contexts context_number ∙ len)
    (bytes_again numbers rest) in
    rw (front, are_contexts contexts, all_again contexts) refl

-- ---- the start table

start_kinds_again : (order : Order) (kind : StartKind) (contexts : List Start) → length contexts ≡ 256
    → Reads (start_kinds_at order)
    (field order w32 (kind_number kind) ++ (map context_number contexts ++ field order w32 context_count))
    (kind, contexts)
unfolding start_kinds_at
start_kinds_again order kind contexts len rest =
    grind (arith, common_steps, start_kind_again, contexts_again, context_count_again)

pub start_table_again : (order : Order) (table : StartTable) → IsReadStartTable table → AreWords table.starts
    → Reads (start_table_at order) (start_table_text order table) table
unfolding start_table_at
start_table_again order table h small rest =
    let kind : List ℕ = field order w32 (kind_number table.start_kind) in
    let numbers : List ℕ = map context_number table.contexts in
    let six : List ℕ = field order w32 context_count in
    let t4 : List ℕ = words_text order table.starts ++ rest in
    let t3 : List ℕ = field order w32 (number_or_none table.universal_anchored) ++ t4 in
    let t2 : List ℕ = field order w32 (number_or_none table.universal_unanchored) ++ t3 in
    let t1 : List ℕ = field order w32 (number_or_none table.pattern_starts) ++ t2 in
    let regrouped : start_table_text order table ++ rest ≡ (kind ++ (numbers ++ six)) ++ t1 = simp append_assoc refl in
    let starts : words_at order (start_entries table.pattern_starts) t4 ≡ Ok (table.starts, rest) =
    subst (λ (n : ℕ). words_at order n t4 ≡ Ok (table.starts, rest)) h.count
    (words_again order table.starts small rest) in
    grind (arith, common_steps, start_kinds_again, pattern_starts_again, universal_again)
