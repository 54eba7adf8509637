-- What was written is read again: special ids and quit bytes.
use Rattle.rx_spec.proofs.Prelude.{common_steps, ◌≡◌, ℕ, ◌^◌, ◌<◌, ◌≤◌, List, [], ◌++◌, true, Ok, refl, sym, ap, subst}
use Rattle.rx_spec.proofs.Prelude.{◌∙◌, arith, w32, lt-ltb, append-nil, max_id}
use Rattle.rx_wire.specs.declared.order.Order.{Order}
use Rattle.rx_wire.specs.Kinds.{Reads}
use Rattle.rx_wire.specs.Fields.{bytes_at, field}
use Rattle.rx_wire.proofs.Fields.{bytes_again, id_again, u128_again}
use Rattle.rx_dense.specs.declared.special.Special.{Special}
use Rattle.rx_image_parts.specs.SpecialIds.{are_special, id_pair_at, special_at, special_ids_at, special_text}
use Rattle.rx_image_parts.specs.QuitBytes.{quit_at, quit_text}
use Rattle.rx_image_parts.proofs.PartLengths.{length-special}

-- ---- special ids

-- each is an id
pub record AreSpecialIds (s : Special) : Type 0 where
  pub max : s.max ≤ max_id
  pub quit : s.quit ≤ max_id
  pub min_match : s.min_match ≤ max_id
  pub max_match : s.max_match ≤ max_id
  pub min_accel : s.min_accel ≤ max_id
  pub max_accel : s.max_accel ≤ max_id
  pub min_start : s.min_start ≤ max_id
  pub max_start : s.max_start ≤ max_id

id_pair_again : (order : Order) (first last : ℕ) → first ≤ max_id → last ≤ max_id
    → (rest : List ℕ)
    → id_pair_at order (field order w32 first ++ (field order w32 last ++ rest)) ≡ Ok ((first, last), rest)
unfolding id_pair_at
id_pair_again order first last a b rest = grind (arith, common_steps, id_again)

special_ids_again : (order : Order) (s : Special) → AreSpecialIds s
    → Reads (special_ids_at order) (special_text order s) s
unfolding special_ids_at
special_ids_again order s h rest = grind (arith, common_steps, id_pair_again)

pub special_again : (order : Order) (len : ℕ) (s : Special) → are_special s ≡ true → s.max < len → AreSpecialIds s
    → Reads (special_at order len) (special_text order s) s
unfolding special_at
special_again order len s special within ids rest =
    let text : List ℕ = special_text order s in
    let front : bytes_at 32 (text ++ rest) ≡ Ok (text, rest) =
    subst (λ (n : ℕ). bytes_at n (text ++ rest) ≡ Ok (text, rest)) (length-special order s) (bytes_again text rest) in
    let read : special_ids_at order text ≡ Ok (s, []) =
    ap (special_ids_at order) (sym (append-nil text)) ∙ special_ids_again order s ids [] in
    rw (front, read, special, lt-ltb _ _ within) refl

-- ---- quit bytes

pub quit_again : (order : Order) (quit : ℕ) → quit < 2 ^ 256 → Reads (quit_at order) (quit_text order quit) quit
unfolding quit_at
quit_again order quit small rest = grind (arith, common_steps, u128_again)
