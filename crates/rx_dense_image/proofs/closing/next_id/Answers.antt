use Rattle.rx_spec.proofs.Prelude.{common_steps, ◌≡◌, ℕ, ◌+◌, ◌<◌, eqb, false, cond, length, slice_index, sym, ap, ◌∙◌}
use Rattle.rx_spec.proofs.Prelude.{arith}
use Rattle.rx_dense.specs.Parts.{layout_of}
use Rattle.rx_dense.specs.Layouts.{column}
use Rattle.rx_dense.proofs.Rows.{class_column}
use Rattle.rx_dense_image.proofs.closing.next_id.Goals as goal

byte_not : (b : ℕ) → b < 256 → eqb b 256 ≡ false
byte_not b h = grind arith

pub index-requires : goal.index-requires
index-requires c = grind (arith, common_steps, class_column)

pub returns : goal.returns
returns c =
    let l = layout_of c.args.parts.now in
    let byte : c.args.byte < 256 = omega arith in
    let col : column l c.args.byte ≡ c.get.result =
    ap (λ b. cond b (slice_index l.classes 255 + 1) (slice_index l.classes c.args.byte)) (byte_not c.args.byte byte)
    ∙ sym c.get.ensures in
    let within : c.args.id + c.get.result < length l.words =
    omega (arith, class_column l.classes c.requires.rows.classes c.args.byte byte) in
    grind (arith, common_steps)
