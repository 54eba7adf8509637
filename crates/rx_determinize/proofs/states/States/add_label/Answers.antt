use Rattle.rx_spec.proofs.Prelude.{◌≡◌, ◌≤◌, [], All, length, get_or, ap, sym, ◌∙◌, subst, eqb-true, eq-eqb, true≢false}
use Rattle.rx_spec.proofs.Prelude.{nil_from_length, All-get_or, get_or_from_slice_get, max_id}
use Rattle.rx_determinize.proofs.Prelude.{label_of}
use Rattle.rx_determinize.proofs.MatchingLaws.{labels_at, labels_pass}
use Rattle.rx_determinize.proofs.states.States.add_label.Goals as goal

pub returns-then-is_empty : goal.returns-then-is_empty
returns-then-is_empty c =
    let none : label_of c.key-key.result.now ≡ [] =
    sym c.label-label.ensures
    ∙ nil_from_length c.label-label.result.now
    (eqb-true (length c.label-label.result.now) 0 (sym c.is_empty.ensures ∙ c.if-is_empty.true)) in
    labels_pass c.args.self.now.keys c.args.place c.key-key.result.now c.key-key.ensures none c.requires.labels

pub patterns-requires : goal.patterns-requires
patterns-requires c =
    let keys = c.args.self.now.keys in
    let key = c.key-key.result.now in
    let own : All (λ k. k ≤ max_id) (label_of (get_or keys c.args.place [])) =
    All-get_or (λ j. All (λ k. k ≤ max_id) (label_of j)) keys c.args.place [] c.requires.place c.requires.are_ids in
    subst (All (λ k. k ≤ max_id))
    (ap label_of (get_or_from_slice_get keys c.args.place key [] c.key-key.ensures) ∙ sym c.label-label.ensures) own

pub returns : goal.returns
returns c =
    let e = c.in_ok-insert.ensures in
    labels_at c.args.self.now.keys c.args.place c.key-key.result.now c.in_ok-list.list c.row_id-id.result
    c.key-key.ensures
    (c.in_ok-list.ensures ∙ c.label-label.ensures)
    (λ none. true≢false
    (sym (eq-eqb (length c.label-label.result.now) 0 (ap length (sym c.in_ok-list.ensures) ∙ none))
    ∙ sym c.is_empty.ensures ∙ c.if-is_empty.false))
    c.row_id-id.ensures.value e.updates e.entries c.requires.labels
