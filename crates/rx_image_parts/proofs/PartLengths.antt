-- How many bytes the parts of an image have, and how many start entries.
use Rattle.rx_spec.proofs.Prelude.{common_steps, ◌≡◌, ℕ, ◌+◌, ◌*◌, List, length, refl, arith, ◌≤◌, Option, Some, None}
use Rattle.rx_spec.proofs.Prelude.{id_count, max_id}
use Rattle.rx_wire.specs.declared.order.Order.{Order}
use Rattle.rx_wire.specs.Heads.{label_text}
use Rattle.rx_wire.proofs.Words.{length-words}
use Rattle.rx_dense.specs.declared.flags.Flags.{Flags}
use Rattle.rx_dense.specs.declared.special.Special.{Special}
use Rattle.rx_image_parts.specs.Heads.{head_text}
use Rattle.rx_image_parts.specs.StartTables.{StartTable, start_table_text, IsAtMost}
use Rattle.rx_image_parts.specs.QuitBytes.{quit_text}
use Rattle.rx_image_parts.specs.SpecialIds.{special_text}
use Rattle.rx_dense.specs.Layouts.{start_entries}

pub length-head : (order : Order) (name : List ℕ) (flags : Flags) → length (label_text name) ≡ 32
    → length (head_text order name flags) ≡ 48
length-head order name flags label = grind (arith, common_steps)

pub length-start_table : (order : Order) (table : StartTable) → length table.contexts ≡ 256
    → length (start_table_text order table) ≡ 276 + 4 * length table.starts
length-start_table order table contexts = grind (arith, common_steps, length-words)

pub length-special : (order : Order) (s : Special) → length (special_text order s) ≡ 32
length-special Order.Little s = refl
length-special Order.Big s = refl

pub length-quit : (order : Order) (quit : ℕ) → length (quit_text order quit) ≡ 32
length-quit order quit = grind (arith, common_steps)

pub few_starts : (o : Option ℕ) → IsAtMost id_count o → start_entries o ≤ 12 + 6 * (max_id + 1)
few_starts None most = omega arith
few_starts (Some n) most = omega arith
