-- Lines of events.
use Rattle.rx_spec.proofs.Prelude.{arith, ◌≡◌, ℕ, List, [], ◌∷◌, ◌++◌, refl, ap, append-nil, common_steps}
use Rattle.rx_spec.proofs.Prelude.{flat_map-append, All-head, All-tail, All}
use Rattle.rx_stream.specs.declared.event.StreamEvent.{StreamEvent}
use Rattle.rx_feed.specs.Lines.{IsMatch, event_line, lines, match_lines}

pub lines-append : (xs ys : List StreamEvent) → lines (xs ++ ys) ≡ lines xs ++ lines ys
lines-append xs ys = flat_map-append event_line xs ys

-- the lines of matches alone are all lines, and a quit byte adds none
pub match_lines-all : (events : List StreamEvent) → All IsMatch events → match_lines events ≡ lines events
match_lines-all [] all = refl
match_lines-all (StreamEvent.Match found ∷ events) all =
    ap (λ (l : List ℕ). event_line (StreamEvent.Match found) ++ l)
    (match_lines-all events (All-tail IsMatch (StreamEvent.Match found) events all))
match_lines-all (StreamEvent.Quit byte offset ∷ events) all =
    absurd (All-head IsMatch (StreamEvent.Quit byte offset) events all)

pub match_lines-quit : (events : List StreamEvent) (byte offset : ℕ) → All IsMatch events
    → match_lines (events ++ (StreamEvent.Quit byte offset ∷ [])) ≡ lines events
match_lines-quit events byte offset all = grind (arith, common_steps, flat_map-append, append-nil, match_lines-all)
