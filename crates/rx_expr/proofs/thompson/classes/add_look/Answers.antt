use Rattle.rx_spec.proofs.Prelude.{arith, ◌≡◌, Bool, ◌||◌, common_steps, or_assoc, contains}
use Rattle.rx_expr.proofs.RowClasses.{crlf_parts, line_parts, reads_words, word_look_parts}
use Rattle.rx_expr.proofs.thompson.classes.add_look.Goals as goal

pub returns-in-StartLF : goal.returns-in-StartLF
returns-in-StartLF c b below = grind (arith, common_steps, line_parts)

pub returns-in-StartCRLF : goal.returns-in-StartCRLF
returns-in-StartCRLF c b below = grind (arith, common_steps, or_assoc, crlf_parts)

one_after_another : (old a b c d : Bool) → (((old || a) || b) || c) || d ≡ old || (a || (b || (c || d)))
one_after_another old a b c d = simp or_assoc

pub returns-in_default : goal.returns-in_default
returns-in_default c b below =
    let n = c.in_default in
    let reads = reads_words c.args.look n.not-Start n.not-End n.not-StartLF n.not-EndLF n.not-StartCRLF n.not-EndCRLF in
    let old = contains c.args.classes.now b in
    grind (arith, common_steps, one_after_another, word_look_parts)
