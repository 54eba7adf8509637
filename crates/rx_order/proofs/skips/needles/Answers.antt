use Rattle.rx_spec.proofs.Prelude.{common_steps, ◌≡◌, ◌≢◌, ◌==◌, [], ◌∷◌, ◌++◌, ◌+◌, if◌then◌else◌, length, ◌∙◌, ap}
use Rattle.rx_spec.proofs.Prelude.{sym, subst, arith, eqb-true, eqb-false, row_of}
use Rattle.rx_order.proofs.Prelude.{are_needles, ids_of, table_of}
use Rattle.rx_order.proofs.Leaving.{AreFound, found_all, found_none, leaves_found, leaving_is, new_byte, none_found}
use Rattle.rx_order.proofs.Leaving.{not_false, not_true, refused, same_id, stays_found}
use Rattle.rx_order.proofs.skips.needles.Goals.{then-ne+else-not-add, else-ne}
use Rattle.rx_order.proofs.skips.needles.Goals as goal

pub loop-byte-init : goal.loop-byte-init
loop-byte-init c = grind (arith, common_steps, none_found)

pub add-requires : goal.add-requires
add-requires c = new_byte c.loop-byte.invariant

pub returns-then-not-add-clause-exactly : goal.returns-then-not-add-clause-exactly
returns-then-not-add-clause-exactly c =
    let t = table_of c.args.dfa.now in
    let ids = ids_of c.args.dfa.now in
    let row = row_of ids c.args.id in
    let other = eqb-false c.next_state.result c.args.id
    (not_true (c.next_state.result == c.args.id) (sym c.ne.ensures ∙ c.if-ne.true)) in
    let leaves : t.machine.next row c.loop-byte.byte ≢ row = λ e.
    other (same_id ids c.next_state.result c.args.id c.next_state.ensures.is_id c.requires
    (c.next_state.ensures.row ∙ e)) in
    sym (ap are_needles (leaving_is t row)
    ∙ refused c.loop-byte.invariant c.loop-byte-test.true leaves (sym c.add.ensures.exactly ∙ c.if-not-add.true))

pub loop-byte-preserved : goal.loop-byte-preserved
loop-byte-preserved c =
    let t = table_of c.args.dfa.now in
    let ids = ids_of c.args.dfa.now in
    let row = row_of ids c.args.id in
    elim c.if-ne.branch [
      | then-ne+else-not-add w ↦
          let other = eqb-false c.next_state.result c.args.id
          (not_true (c.next_state.result == c.args.id) (sym c.ne.ensures ∙ w.if-ne.true)) in
          let leaves : t.machine.next row c.loop-byte.byte ≢ row = λ e.
          other (same_id ids c.next_state.result c.args.id c.next_state.ensures.is_id c.requires
          (c.next_state.ensures.row ∙ e)) in
          let taken = sym w.add.ensures.exactly ∙ w.if-not-add.false in
          let after : w.add.new.self ≡ c.loop-byte.accel ++ c.loop-byte.byte ∷ [] =
          w.add.ensures.after
          ∙ ap (λ b. if b then c.loop-byte.accel ++ c.loop-byte.byte ∷ [] else c.loop-byte.accel) w.if-not-add.false in
          subst (λ found. AreFound t row found (c.loop-byte.byte + 1)) (sym (w.accel-is ∙ after))
          (leaves_found c.loop-byte.invariant leaves taken)
      | else-ne w ↦
          let same : c.next_state.result ≡ c.args.id =
          eqb-true c.next_state.result c.args.id
          (not_false (c.next_state.result == c.args.id) (sym c.ne.ensures ∙ w.if-ne.false)) in
          let stays : t.machine.next row c.loop-byte.byte ≡ row =
          sym c.next_state.ensures.row ∙ ap (row_of ids) same in
          subst (λ found. AreFound t row found (c.loop-byte.byte + 1)) (sym w.accel-is)
          (stays_found c.loop-byte.invariant stays)
    ]

pub returns-then-is_empty-clause-exactly : goal.returns-then-is_empty-clause-exactly
returns-then-is_empty-clause-exactly c =
    let t = table_of c.args.dfa.now in
    let row = row_of (ids_of c.args.dfa.now) c.args.id in
    let all : c.loop-byte.byte ≡ 256 = omega arith in
    let found = subst (AreFound t row c.loop-byte.accel) all c.loop-byte.invariant in
    let empty = eqb-true (length c.loop-byte.accel) 0 (sym c.is_empty.ensures ∙ c.if-is_empty.true) in
    sym (ap are_needles (leaving_is t row) ∙ found_none found empty)

pub returns-clause-value : goal.returns-clause-value
returns-clause-value c =
    let t = table_of c.args.dfa.now in
    let row = row_of (ids_of c.args.dfa.now) c.args.id in
    let all : c.loop-byte.byte ≡ 256 = omega arith in
    let found = subst (AreFound t row c.loop-byte.accel) all c.loop-byte.invariant in
    found.are ∙ sym (leaving_is t row)

pub returns-clause-exactly : goal.returns-clause-exactly
returns-clause-exactly c =
    let t = table_of c.args.dfa.now in
    let row = row_of (ids_of c.args.dfa.now) c.args.id in
    let all : c.loop-byte.byte ≡ 256 = omega arith in
    let found = subst (AreFound t row c.loop-byte.accel) all c.loop-byte.invariant in
    let other = eqb-false (length c.loop-byte.accel) 0 (sym c.is_empty.ensures ∙ c.if-is_empty.false) in
    sym (ap are_needles (leaving_is t row) ∙ found_all found (omega (arith, other)))
