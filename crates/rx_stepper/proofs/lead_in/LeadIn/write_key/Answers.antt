use Rattle.rx_spec.proofs.Prelude.{arith, ◌==◌, ◌&&◌, not, if◌then◌else◌, List, ℕ, ◌∷◌, ◌++◌, length, ap, ap₂, sym, ◌∙◌}
use Rattle.rx_spec.proofs.Prelude.{common_steps, recursion_from_All, list_any, is_look_row, row_at}
use Rattle.rx_stepper.proofs.Prelude.{NFA, bit, facts_with, meaning, rows_by}
use Rattle.rx_stepper.proofs.MadeKeys.{WritesRows, dead_made, key_made}
use Rattle.rx_stepper.proofs.lead_in.LeadIn.write_key.Goals as goal
use Rattle.rx_stepper.proofs.lead_in.LeadIn.write_key.Goals.{After-close-is_led}

-- how the rows are written
writes : (c : After-close-is_led) → WritesRows (meaning c.args.closures.now.nfa.now)
    (c.args.from.first.now ++ c.args.from.second.now) c.close-is_led.new.own.items c.close-is_led.result
writes c = grind (arith, common_steps, recursion_from_All)

pub returns-then-is_dead-clause-key : goal.returns-then-is_dead-clause-key
returns-then-is_dead-clause-key c =
    let label = c.args.label.now in
    dead_made (writes (goal.at.returns-then-is_dead-clause-key c).After-close-is_led) (facts_with c.args.asked) label
    ∙ ap (λ (l : List ℕ). not c.close-is_led.result && (length l == 0) && (length label == 0))
    (sym c.deref.ensures.value)
    ∙ sym c.is_dead.ensures ∙ c.if-is_dead.true

pub returns-clause-key : goal.returns-clause-key
returns-clause-key c =
    let label = c.args.label.now in
    let is_led = c.close-is_led.result in
    let lead = c.requires.is.rows in
    let group = c.args.asked in
    let looks = λ (n : NFA) (l : List ℕ). list_any (λ q. is_look_row (row_at (meaning n).rows q)) l in
    let asks =
    c.has_look.ensures
    ∙ ap₂ looks c.close-is_led.ensures.nfa (ap₂ (λ m l. rows_by m is_led l) lead c.deref-2.ensures.value) in
    let wrote = c.in_ok-write.ensures in
    let alive =
    ap (λ (l : List ℕ). not is_led && (length l == 0) && (length label == 0)) (sym c.deref.ensures.value)
    ∙ sym c.is_dead.ensures ∙ c.if-is_dead.false in
    key_made (writes (goal.at.returns-clause-key c).After-close-is_led) group c.requires.asked
    (c.kept.ensures ∙ ap (λ b. if b then group else 0) asks) wrote.label c.requires.label alive
    (wrote.items
    ∙ ap (λ (l : List ℕ). c.kept.result ∷ (length label ∷ (bit is_led ∷ (label ++ l))))
    c.deref-3.ensures.value)
