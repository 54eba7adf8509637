use Rattle.rx_spec.proofs.Prelude.{common_steps, ◌≡◌, ℕ, ◌<◌, Bool, true, false, take, get_or, ap, sym, ◌∙◌, arith}
use Rattle.rx_spec.proofs.Prelude.{below_more, rules}
use Rattle.rx_sparse.specs.Layouts.{Layout}
use Rattle.rx_sparse.specs.Rows.{Row, no_row, row_in, rows_len}
use Rattle.rx_sparse.proofs.RowPlaces.{length-rows_in}
use Rattle.rx_sparse_image.specs.Closing.{row_stands}
use Rattle.rx_sparse_image.specs.Reading.{image_layout}
use Rattle.rx_sparse_image.proofs.EachRow.{each_passes, one_fails}
use Rattle.rx_sparse_image.proofs.PartsOfRows.{ArePieces, are_parts, row_is}
use Rattle.rx_sparse_image.proofs.RowsAhead.{all_ahead, next_here, place_here, row_here, whole_here}
use Rattle.rx_sparse_image.proofs.closing.each_row.Goals as goal

-- what was tested of the parts of a row at a place is true of the row that stands there
stands_here : (l : Layout) {at place : ℕ} {parts here there : Row} {stands tested : Bool}
    → stands ≡ row_stands l at parts → at ≡ place → parts ≡ here → here ≡ there → stands ≡ tested
    → row_stands l place there ≡ tested
stands_here l {at} {place} {parts} {here} {there} told same is_here is_there is = grind (arith, common_steps)

pub loop-init : goal.loop-init
loop-init c = record { rest = all_ahead c.requires; passed = λ marks k h. absurd (omega arith) }

pub split_parts-requires : goal.split_parts-requires
split_parts-requires c = whole_here c.requires c.loop.counter (omega arith) c.loop.invariant.rest

pub row_stands-requires : goal.row_stands-requires
row_stands-requires c =
    let image = c.args.image.now in
    let pieces : ArePieces image.parts.order (row_in image.parts.order c.loop.rest.now) c.split_parts.result.0 =
    grind (arith, common_steps, whole_here c.requires c.loop.counter (omega arith) c.loop.invariant.rest) in
    are_parts pieces

pub returns-then-not-row_stands : goal.returns-then-not-row_stands
returns-then-not-row_stands c = λ marks.
    let image = c.args.image.now in
    let l : Layout = image_layout image in
    let i : ℕ = c.loop.counter in
    let low : i < image.parts.state_len = omega arith in
    let pieces : ArePieces image.parts.order (row_in image.parts.order c.loop.rest.now) c.split_parts.result.0 =
    (let e = c.split_parts.ensures in
    let w = whole_here c.requires i low c.loop.invariant.rest in
    search rules) in
    let count = length-rows_in image.parts.order image.parts.state_len image.rows.now in
    let fails : row_stands l (rows_len (take i l.rows)) (get_or l.rows i no_row) ≡ false =
    stands_here l (c.row_stands.ensures marks) (place_here c.requires i low c.loop.invariant.rest) (row_is pieces)
    (row_here c.requires i low c.loop.invariant.rest) c.if-not-row_stands.true in
    sym (one_fails (row_stands l) 0 l.rows i (omega arith)
    (ap (λ n. row_stands l n (get_or l.rows i no_row)) (omega arith) ∙ fails))

pub loop-preserved : goal.loop-preserved
loop-preserved c =
    let image = c.args.image.now in
    let l : Layout = image_layout image in
    let i : ℕ = c.loop.counter in
    let low : i < image.parts.state_len = omega arith in
    let pieces : ArePieces image.parts.order (row_in image.parts.order c.loop.rest.now) c.split_parts.result.0 =
    (let e = c.split_parts.ensures in
    let w = whole_here c.requires i low c.loop.invariant.rest in
    search rules) in
    record {
      rest = c.split_parts.ensures.rest ∙ next_here c.requires i low c.loop.invariant.rest;
      passed = λ marks.
          below_more (λ k. row_stands l (rows_len (take k l.rows)) (get_or l.rows k no_row) ≡ true) i
          (c.loop.invariant.passed marks)
          (stands_here l (c.row_stands.ensures marks) (place_here c.requires i low c.loop.invariant.rest)
          (row_is pieces) (row_here c.requires i low c.loop.invariant.rest) c.if-not-row_stands.false);
    }

pub returns : goal.returns
returns c = λ marks.
    let image = c.args.image.now in
    let l : Layout = image_layout image in
    let count = length-rows_in image.parts.order image.parts.state_len image.rows.now in
    sym (each_passes (row_stands l) 0 l.rows
    (λ k h.
    ap (λ n. row_stands l n (get_or l.rows k no_row)) (omega arith)
    ∙ c.loop.invariant.passed marks k (omega arith)))
