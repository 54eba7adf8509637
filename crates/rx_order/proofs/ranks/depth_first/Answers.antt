use Rattle.rx_spec.proofs.Prelude.{rules, ℕ, ◌+◌, ◌-◌, ◌*◌, ◌/◌, ◌%◌, ◌^◌, ◌<◌, ◌∙◌, Bool, true, Vec, Global, length}
use Rattle.rx_spec.proofs.Prelude.{slice_index, ap, sym, arith, common_steps, All-push, length-range_with_len}
use Rattle.rx_order.proofs.Prelude.{length-set, row-below, row_count}
use Rattle.rx_order.proofs.DepthFirst.{IsLeft, found_row, last_left, numbered, ranks_kept, step}
use Rattle.rx_order.proofs.ranks.depth_first.Goals.{then-not-index+in_ok-push, else-not-index, then-not-index-2}
use Rattle.rx_order.proofs.ranks.depth_first.Goals.{else-not-index-2+then-count-eq0+in-Some-pop}
use Rattle.rx_order.proofs.ranks.depth_first.Goals.{else-not-index-2+else-count-eq0, then-count-gt0+in_ok-push-2}
use Rattle.rx_order.proofs.ranks.depth_first.Goals.{else-count-gt0, then-kinds-next-ne2, else-kinds-next-ne2}
use Rattle.rx_order.proofs.ranks.depth_first.Goals as goal

pub index-requires : goal.index-requires
index-requires c =
    let i = c.loop-id.id-index in
    let ids = c.start_ids-id-items.ensures in
    let is = ids.starts.start_ids i (rw (sym ids.value) c.loop-id-test.true) in
    rw (c.stride2-stride2.ensures.value, ids.value)
    (omega (arith, row-below c.args.dfa.now _ is, c.loop-id.invariant.found, c.loop-id.found.ok.0))

pub index_mut-requires : goal.index_mut-requires
index_mut-requires c =
    let i = c.loop-id.id-index in
    let ids = c.start_ids-id-items.ensures in
    let is = ids.starts.start_ids i (rw (sym ids.value) c.loop-id-test.true) in
    rw (c.stride2-stride2.ensures.value, ids.value)
    (omega (arith, row-below c.args.dfa.now _ is, c.loop-id.invariant.found, c.loop-id.found.ok.0))

pub loop-id-preserved : goal.loop-id-preserved
loop-id-preserved c =
    let are = c.loop-id.invariant in
    let i = c.loop-id.id-index in
    let ids = c.start_ids-id-items.ensures in
    let is = ids.starts.start_ids i (rw (sym ids.value) c.loop-id-test.true) in
    let row = slice_index c.start_ids-id-items.result.now i / 2 ^ c.stride2-stride2.result in
    let below : row < row_count c.args.dfa.now =
    rw (c.stride2-stride2.ensures.value, ids.value) (row-below c.args.dfa.now _ is) in
    elim c.if-not-index.branch [
      | then-not-index+in_ok-push w ↦
          record {
            found =
                ap (λ (v : Vec Bool Global). length v.items) w.found-is
                ∙ length-set c.loop-id.found.items row true ∙ are.found;
            left =
                rw (ap (λ (v : Vec (ℕ × ℕ) Global). v.items) w.left-is, w.in_ok-push.ensures.items)
                (All-push (IsLeft c.args.dfa.now) c.loop-id.left.items (row, c.alphabet_len-columns.result) are.left
                (found_row c.args.dfa.now row c.alphabet_len-columns.result below c.alphabet_len-columns.ensures));
          }
      | else-not-index w ↦
          record {
            found = ap (λ (v : Vec Bool Global). length v.items) w.found-is ∙ are.found;
            left = rw (ap (λ (v : Vec (ℕ × ℕ) Global). v.items) w.left-is) are.left;
          }
    ]

pub returns-in_default-clause-count : goal.returns-in_default-clause-count
returns-in_default-clause-count c = grind (arith, common_steps, length-range_with_len)

pub returns-in_default-clause-matches : goal.returns-in_default-clause-matches
returns-in_default-clause-matches c = λ row h e.
    numbered c.in_ok-ranks.ranks.items (length c.args.kinds.now) row c.in_ok-ranks.ensures
    (omega (arith, h, c.requires))

pub loop-step-init : goal.loop-step-init
loop-step-init c =
    let last = last_left c.args.dfa.now c.loop-id.left.items c.pop.new.self.items c.in-Some.row c.in-Some.count
    c.loop-id.invariant.left c.in-Some.ensures.items in
    record {
      found = c.loop-id.invariant.found;
      left = last.0;
      own = last.1;
      count = ap length c.in_ok-ranks.ensures ∙ length-range_with_len 0 (length c.args.kinds.now) ∙ c.requires;
      matches = λ row h e.
          numbered c.in_ok-ranks.ranks.items (length c.args.kinds.now) row c.in_ok-ranks.ensures
          (omega (arith, h, c.requires));
    }

pub offset_bounds-words-row : goal.offset_bounds-words-row
offset_bounds-words-row c =
    let s = step c.words-words.ensures.rows c.loop-step.row c.loop-step.count c.loop-step.invariant.own in
    rw (c.stride2-stride2.ensures.value, s.place) (omega (arith, s.fits, c.loop-step.invariant.own.1))

pub bounds-words-row : goal.bounds-words-row
bounds-words-row c = search (rules, step)

pub index-requires-in-loop-step : goal.index-requires-in-loop-step
index-requires-in-loop-step c =
    let s = step c.words-words.ensures.rows c.loop-step.row c.loop-step.count c.loop-step.invariant.own in
    rw (c.stride2-stride2.ensures.value, s.place, c.words-words.ensures.value)
    (omega (arith, s.next, c.loop-step.invariant.found, c.loop-step.found.ok.0))

pub index_mut-requires-then-not-index-2 : goal.index_mut-requires-then-not-index-2
index_mut-requires-then-not-index-2 c =
    let s = step c.words-words.ensures.rows c.loop-step.row c.loop-step.count c.loop-step.invariant.own in
    rw (c.stride2-stride2.ensures.value, s.place, c.words-words.ensures.value)
    (omega (arith, s.next, c.loop-step.invariant.found, c.loop-step.found.ok.0))

pub bounds-kinds-next : goal.bounds-kinds-next
bounds-kinds-next c =
    let s = step c.words-words.ensures.rows c.loop-step.row c.loop-step.count c.loop-step.invariant.own in
    rw (c.stride2-stride2.ensures.value, s.place, c.words-words.ensures.value) (omega (arith, s.next, c.requires))

pub index_mut-requires-then-kinds-next-ne2 : goal.index_mut-requires-then-kinds-next-ne2
index_mut-requires-then-kinds-next-ne2 c =
    let s = step c.words-words.ensures.rows c.loop-step.row c.loop-step.count c.loop-step.invariant.own in
    rw (c.stride2-stride2.ensures.value, s.place, c.words-words.ensures.value)
    (omega (arith, s.next, c.loop-step.invariant.count, c.loop-step.ranks.ok.0))

pub loop-step-preserved : goal.loop-step-preserved
loop-step-preserved c =
    let l = c.args.dfa.now in
    let are = c.loop-step.invariant in
    let own = are.own in
    let s = step c.words-words.ensures.rows c.loop-step.row c.loop-step.count own in
    let next = slice_index c.words-words.result.now
    (c.loop-step.row * 2 ^ c.stride2-stride2.result % 18446744073709551616 + (c.loop-step.count - 1))
    / 2 ^ c.stride2-stride2.result in
    let below : next < row_count l =
    rw (c.stride2-stride2.ensures.value, s.place, c.words-words.ensures.value) s.next in
    elim c.if-not-index-2.branch [
      | then-not-index-2 w ↦
          record {
            found =
                ap (λ (v : Vec Bool Global). length v.items) w.found-is
                ∙ length-set c.loop-step.found.items next true ∙ are.found;
            left =
                elim w.if-count-gt0.branch [
                  | then-count-gt0+in_ok-push-2 v ↦
                      rw (
                        ap (λ (all : Vec (ℕ × ℕ) Global). all.items) w.left-is,
                        ap (λ (all : Vec (ℕ × ℕ) Global). all.items) v.left-is,
                        v.in_ok-push-2.ensures.items,
                      )
                      (All-push (IsLeft l) c.loop-step.left.items (c.loop-step.row, c.loop-step.count - 1) are.left
                      (own.0, v.if-count-gt0.true, omega (arith, own.2)))
                  | else-count-gt0 v ↦
                      rw (
                        ap (λ (all : Vec (ℕ × ℕ) Global). all.items) w.left-is,
                        ap (λ (all : Vec (ℕ × ℕ) Global). all.items) v.left-is,
                      ) are.left
                ];
            own =
                rw (w.row-is, w.count-is)
                (found_row l next c.alphabet_len-columns.result below c.alphabet_len-columns.ensures);
            count =
                elim w.if-kinds-next-ne2.branch [
                  | then-kinds-next-ne2 v ↦
                      ap (λ (all : Vec ℕ Global). length all.items) (w.ranks-is ∙ v.ranks-is)
                      ∙ length-set c.loop-step.ranks.items next c.loop-step.step ∙ are.count
                  | else-kinds-next-ne2 v ↦
                      ap (λ (all : Vec ℕ Global). length all.items) (w.ranks-is ∙ v.ranks-is) ∙ are.count
                ];
            matches =
                elim w.if-kinds-next-ne2.branch [
                  | then-kinds-next-ne2 v ↦
                      λ row h e.
                      ap (λ (all : Vec ℕ Global). slice_index all.items row) (w.ranks-is ∙ v.ranks-is)
                      ∙ ranks_kept c.args.kinds.now c.loop-step.ranks.items (row_count l) next c.loop-step.step
                      are.matches v.if-kinds-next-ne2.true row h e
                  | else-kinds-next-ne2 v ↦
                      λ row h e.
                      ap (λ (all : Vec ℕ Global). slice_index all.items row) (w.ranks-is ∙ v.ranks-is)
                      ∙ are.matches row h e
                ];
          }
      | else-not-index-2+then-count-eq0+in-Some-pop w ↦
          let last = last_left l c.loop-step.left.items w.pop-then-count-eq0.new.self.items c.if-not-index-2.row
          c.if-not-index-2.count are.left (rw (w.row-is, w.count-is) w.in-Some-pop.ensures.items) in
          record {
            found = ap (λ (v : Vec Bool Global). length v.items) w.found-is ∙ are.found;
            left = rw (ap (λ (v : Vec (ℕ × ℕ) Global). v.items) w.left-is) last.0;
            own = last.1;
            count = ap (λ (v : Vec ℕ Global). length v.items) w.ranks-is ∙ are.count;
            matches = λ row h e. ap (λ (v : Vec ℕ Global). slice_index v.items row) w.ranks-is ∙ are.matches row h e;
          }
      | else-not-index-2+else-count-eq0 w ↦
          record {
            found = ap (λ (v : Vec Bool Global). length v.items) w.found-is ∙ are.found;
            left = rw (ap (λ (v : Vec (ℕ × ℕ) Global). v.items) w.left-is) are.left;
            own = rw (w.row-is, w.count-is) (own.0, omega (arith, own.1, w.if-count-eq0.false), omega (arith, own.2));
            count = ap (λ (v : Vec ℕ Global). length v.items) w.ranks-is ∙ are.count;
            matches = λ row h e. ap (λ (v : Vec ℕ Global). slice_index v.items row) w.ranks-is ∙ are.matches row h e;
          }
    ]
