use Rattle.rx_spec.proofs.Prelude.{common_steps, ◌≡◌, ◌<◌, sym, ◌∙◌, ap, arith, refl, length, HalfMatch}
use Rattle.rx_scan.specs.Tokens.{IsMeantEnd, no_more, error_end}
use Rattle.rx_scan.specs.declared.token.ScanEnd.{ScanEnd}
use Rattle.rx_scan.proofs.LineCounts.{feeds_few, same_line}
use Rattle.rx_scan.proofs.TokenSteps.{over_now, token_now, no_tokens, ends_now, error_meant, stuck_meant}
use Rattle.rx_scan.proofs.scanner.ScannerIterator.next.Goals as goal
use Rattle.rx_scan.proofs.scanner.ScannerIterator.next.Goals.{in-Quit, in-UnsupportedAnchored, in-PairMismatch}

pub returns-then-self-clause-steps : goal.returns-then-self-clause-steps
returns-then-self-clause-steps g c = grind (arith, common_steps, no_tokens)

pub overflow_add-token : goal.overflow_add-token
overflow_add-token g c = grind (arith, common_steps, feeds_few)

pub overflow_sub-token : goal.overflow_sub-token
overflow_sub-token g c = grind (arith, common_steps)

pub returns-in-Ok-Some-clause-steps : goal.returns-in-Ok-Some-clause-steps
returns-in-Ok-Some-clause-steps g c =
    let s = c.args.self.now in
    let t = g.A.Automaton.table s.table.now in
    let text = s.text.now in
    let m : HalfMatch = c.in-Ok-Some.found in
    let goes = sym c.is_some.ensures ∙ c.if-is_some.false in
    let more : s.at < length text = omega arith in
    let told = sym (rw c.in-Ok-Some.field-0-is at c.in-Ok-Some.ensures.value) in
    let now = token_now t text s.at s.end goes m more c.longest.ensures.bytes told in
    let line = same_line text s.at s.lines.known (omega arith) s.ahead in
    grind (arith, common_steps)

pub returns-in-Ok-Some-clause-goes : goal.returns-in-Ok-Some-clause-goes
returns-in-Ok-Some-clause-goes g c = grind (arith, common_steps, returns-in-Ok-Some-clause-steps)

pub returns-in-Ok-None-clause-steps : goal.returns-in-Ok-None-clause-steps
returns-in-Ok-None-clause-steps g c =
    let s = c.args.self.now in
    let t = g.A.Automaton.table s.table.now in
    let text = s.text.now in
    let goes = sym c.is_some.ensures ∙ c.if-is_some.false in
    let more : s.at < length text = omega arith in
    let told = sym (rw c.in-Ok-None.field-0-is at c.in-Ok-None.ensures.value) in
    over_now t text s.at s.end goes (ScanEnd.Stuck s.at)
    (stuck_meant t text s.at more c.longest.ensures.bytes told) (ends_now t text s.at more told refl)

pub returns-after-kind-clause-steps : goal.returns-after-kind-clause-steps
returns-after-kind-clause-steps g c =
    let s = c.args.self.now in
    let t = g.A.Automaton.table s.table.now in
    let text = s.text.now in
    let goes = sym c.is_some.ensures ∙ c.if-is_some.false in
    let more : s.at < length text = omega arith in
    let why : error_end c.in-Err.error ≡ c.match-kind.self =
    grind (arith, common_steps, in-Quit, in-UnsupportedAnchored, in-PairMismatch) in
    let meant : IsMeantEnd t text c.match-kind.self = grind (arith, common_steps, error_meant) in
    over_now t text s.at s.end goes c.match-kind.self meant
    (ends_now t text s.at more (sym c.in-Err.ensures.value) (ap no_more why))
