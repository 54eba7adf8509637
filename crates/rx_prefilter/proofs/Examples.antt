-- The first places of the literal ab in the text xabab.
use Rattle.rx_spec.proofs.Prelude.{common_steps, ◌≡◌, ℕ, ◌+◌, ◌≤◌, arith, AreBytes, IsFit}
use Rattle.memchr.specs.Find.{OccursAt}
use Rattle.rx_prefilter.specs.LiteralExamples.{BehindTheFirst, CutBySpan, InText, asked, literal, text}

not_at_2 : OccursAt text literal 2 → ⊥
not_at_2 at = omega (arith, at.reads 0 (omega arith))

pub in_text : InText
in_text = grind (arith, common_steps)

pub behind_the_first : BehindTheFirst
behind_the_first = grind (arith, common_steps)

pub cut_by_span : CutBySpan
cut_by_span = λ k low less at. let here : k ≡ 2 = omega arith in not_at_2 (rw here at at)

pub text_bytes : AreBytes text
text_bytes = search arith

pub is_fit : (start end : ℕ) → end ≤ 5 → start ≤ end + 1 → IsFit (asked start end)
is_fit start end within ordered = record { within = within; ordered = ordered }
