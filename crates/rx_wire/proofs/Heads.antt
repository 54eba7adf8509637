-- What was written is read back: labels, the words that tell an order, and versions.
use Rattle.rx_spec.proofs.Prelude.{◌≡◌, ℕ, zero, suc, ◌+◌, ◌^◌, ◌<◌, true, false, ltb, eqb, List, [], ◌∷◌, ◌++◌, length}
use Rattle.rx_spec.proofs.Prelude.{take, replicate, refl, ap, ◌∙◌, append_assoc, arith, list_all, prefix_len, w32}
use Rattle.rx_spec.proofs.Prelude.{and_parts, le-ltb, take_at, drop_at, length-append, length-take, bytes_eq-Decides}
use Rattle.rx_spec.proofs.Prelude.{common_steps}
use Rattle.rx_wire.specs.declared.order.Order.{Order}
use Rattle.rx_wire.specs.Kinds.{Reads}
use Rattle.rx_wire.specs.Fields.{field}
use Rattle.rx_wire.specs.Heads.{IsLabel, endianness_check_at, endianness_word, is_text, label_at, label_text, order_at}
use Rattle.rx_wire.specs.Heads.{padded, padding, version_at}
use Rattle.rx_wire.proofs.Fields.{u32_again}

-- ---- the order and the version

pub order_again : (order : Order) → Reads order_at (field order w32 endianness_word) order
unfolding order_at
order_again Order.Little rest = rw (u32_again Order.Little 65279 (omega arith) rest) refl
order_again Order.Big rest = rw (u32_again Order.Little 4294836224 (omega arith) rest) refl

pub little_again : Reads endianness_check_at (field Order.Little w32 endianness_word) endianness_word
unfolding endianness_check_at
little_again rest = rw (u32_again Order.Little 65279 (omega arith) rest) refl

pub version_again : (version : ℕ) (order : Order) → version < 2 ^ 32
    → Reads (version_at version order) (field order w32 version) version
unfolding version_at
version_again version order h rest = rw (u32_again order version h rest) (grind (arith, common_steps))

-- ---- labels

pub length-label_text : (label : List ℕ) → length (label_text label) ≡ padded (length label + 1)
length-label_text label = grind (arith, common_steps)

one_more : (n : ℕ) → 1 + n ≡ suc n
one_more n = omega arith

differ : (a b : ℕ) → a < b → eqb a b ≡ false
differ a b h = grind arith

-- what stands before the first NUL within some bytes is the label
prefix_len-label : (label rest : List ℕ) (k : ℕ) → list_all is_text label ≡ true → length label < k
    → prefix_len is_text (take k (label ++ 0 ∷ rest)) ≡ length label
prefix_len-label [] rest zero text h = absurd (omega (arith, h))
prefix_len-label [] rest (suc k) text h = refl
prefix_len-label (b ∷ label) rest zero text h = absurd (omega (arith, h))
prefix_len-label (b ∷ label) rest (suc k) text h =
    let parts = and_parts (is_text b) (list_all is_text label) text in
    rw (parts.0, prefix_len-label label rest k parts.1 (omega (arith, h))) (omega arith)

pub label_again : (label : List ℕ) → IsLabel label
    → Reads (label_at label) (label_text label) (padded (length label + 1))
unfolding label_at
label_again label h rest =
    let size = padded (length label + 1) in
    let text = label_text label ++ rest in
    let pads : List ℕ = replicate (padding (length label + 1)) 0 in
    let one : replicate (1 + padding (length label + 1)) 0 ≡ 0 ∷ pads =
    ap (λ (n : ℕ). replicate n 0) (one_more (padding (length label + 1))) in
    let regrouped : text ≡ label ++ 0 ∷ (pads ++ rest) =
    ap (λ (t : List ℕ). (label ++ t) ++ rest) one ∙ append_assoc label (0 ∷ pads) rest in
    let run : prefix_len is_text (take 256 text) ≡ length label =
    ap (λ (t : List ℕ). prefix_len is_text (take 256 t)) regrouped
    ∙ prefix_len-label label (pads ++ rest) 256 h.text (omega (arith, h.short)) in
    let len = length-label_text label in
    let whole : length text ≡ size + length rest =
    length-append (label_text label) rest ∙ ap (λ (n : ℕ). n + length rest) len in
    let more : eqb (length label) (length (take 256 text)) ≡ false =
    differ _ _ (omega (arith, length-take 256 text, whole, h.short)) in
    let enough : ltb (length text) size ≡ false = le-ltb _ _ (omega (arith, whole)) in
    let found : take (length label) text ≡ label =
    ap (take (length label)) regrouped ∙ take_at label (0 ∷ (pads ++ rest)) (length label) refl in
    rw (
      run,
      more,
      enough,
      found,
      (bytes_eq-Decides label label).1 refl,
      drop_at (label_text label) rest size len,
    )
    refl

-- labels, the words that tell an order, and versions
pub ruleset checks_again = (label_again, order_again, little_again, version_again)
