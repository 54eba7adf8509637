use Rattle.rx_spec.proofs.Prelude.{◌+◌, ◌≤◌}
use Rattle.rx_script.specs.Pieces.{words_left, line_left}
use Rattle.rx_script.specs.Items.{items_at}
use Rattle.rx_script.proofs.ItemsAt.{ReadItems}
use Rattle.rx_script.proofs.expression.items.Given as goal

abbrev pub invariant-words : goal.invariant-words
invariant-words l =
    let whole = items_at l.line l.initial.awaited 1 (words_left l.initial.rest) in
    record {
      few : l.missing + line_left l.rest ≤ 1 + line_left l.initial.rest;
      so_far : ReadItems l.line l.awaited l.missing (words_left l.rest) l.items.items whole;
    }

abbrev pub decreases-words : goal.decreases-words
decreases-words l = line_left l.rest
