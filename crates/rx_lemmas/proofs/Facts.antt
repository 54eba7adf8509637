-- What facts of two neighbours decide: every assertion, and no more facts are needed than are kept.
use Rattle.rx_spec.proofs.Prelude.{common_steps, [], ◌≡◌, ℕ, suc, zero, ◌<◌, true, Option, Some, None, List, ◌∷◌, refl}
use Rattle.rx_spec.proofs.Prelude.{◌∙◌, arith, ne_eqb, Contains, Row, Facts, facts_of, unit_facts, both, either_of}
use Rattle.rx_spec.proofs.Prelude.{holds_read, facts_read, row_reads, facts_kept, start_of}
use Rattle.rx_spec.specs.Looks.{holds}
use Rattle.rx_spec.specs.Contexts.{holds_by, start_facts}
use Rattle.rx_spec.specs.declared.Direction.{Direction}
use Rattle.rx_spec.specs.declared.Look.{Look}
use Rattle.rx_spec.specs.declared.Start.{Start}

-- facts of two neighbours decide every assertion
pub facts_decide : (look : Look) (t : ℕ) (b a : Option ℕ)
    → holds look t b a ≡ holds_by look (facts_of t b) (facts_of t a)
facts_decide Look.Start t None None = refl
facts_decide _ t None None = refl
facts_decide Look.Start t (Some b) None = refl
facts_decide _ t (Some b) None = refl
facts_decide Look.Start t None (Some a) = refl
facts_decide _ t None (Some a) = refl
facts_decide Look.Start t (Some b) (Some a) = refl
facts_decide _ t (Some b) (Some a) = refl

-- the facts k hold every fact of r
pub record Cover (k r : Facts) : Type 0 where
  pub text : r.text ≡ true → k.text ≡ true
  pub line_terminator : r.line_terminator ≡ true → k.line_terminator ≡ true
  pub lf : r.lf ≡ true → k.lf ≡ true
  pub cr : r.cr ≡ true → k.cr ≡ true
  pub word : r.word ≡ true → k.word ≡ true

pub Cover-right : (k j r : Facts) → Cover k r → Cover (either_of j k) r
Cover-right k j r c = grind (arith, common_steps)

-- Dropping facts that an assertion doesn't read changes nothing, on either side.
pub kept_before : (look : Look) (k x y : Facts) → Cover k (facts_read look)
    → holds_by look (both k x) y ≡ holds_by look x y
kept_before Look.Start k x y c = let text : k.text ≡ true = c.text refl in simp (text)
kept_before Look.End k x y c = refl
kept_before Look.StartLF k x y c = grind (arith, common_steps)
kept_before Look.EndLF k x y c = refl
kept_before Look.StartCRLF k x y c = grind (arith, common_steps)
kept_before Look.EndCRLF k x y c = let cr : k.cr ≡ true = c.cr refl in simp (cr)
kept_before Look.WordEndHalfAscii k x y c = refl
kept_before Look.WordEndHalfUnicode k x y c = refl
kept_before _ k x y c = let word : k.word ≡ true = c.word refl in simp (word)

pub kept_after : (look : Look) (k x y : Facts) → Cover k (facts_read look)
    → holds_by look x (both k y) ≡ holds_by look x y
kept_after Look.Start k x y c = refl
kept_after Look.End k x y c = let text : k.text ≡ true = c.text refl in simp (text)
kept_after Look.StartLF k x y c = refl
kept_after Look.EndLF k x y c = grind (arith, common_steps)
kept_after Look.StartCRLF k x y c = let lf : k.lf ≡ true = c.lf refl in simp (lf)
kept_after Look.EndCRLF k x y c = grind (arith, common_steps)
kept_after Look.WordStartHalfAscii k x y c = refl
kept_after Look.WordStartHalfUnicode k x y c = refl
kept_after _ k x y c = let word : k.word ≡ true = c.word refl in simp (word)

pub kept_both : (look : Look) (k x y : Facts) → Cover k (facts_read look)
    → holds_by look (both k x) (both k y) ≡ holds_by look x y
kept_both look k x y c = kept_before look k x (both k y) c ∙ kept_after look k x y c

-- the same in the order of reading
pub kept_last : (direction : Direction) (look : Look) (k x y : Facts) → Cover k (facts_read look)
    → holds_read direction look (both k x) y ≡ holds_read direction look x y
kept_last Direction.Reverse look k x y c = kept_after look k y x c
kept_last Direction.Forward look k x y c = kept_before look k x y c

-- what some row of a list reads is kept
pub kept_cover : (rows : List Row) (look : Look) (next : ℕ) → Contains rows (Row.Look look next)
    → Cover (facts_kept rows) (facts_read look)
unfolding facts_kept
kept_cover [] look next (n, h, e) = absurd (omega arith)
kept_cover (row ∷ rows) look next (zero, h, e) = grind (arith, common_steps)
kept_cover (row ∷ rows) look next (suc n, h, e) =
    Cover-right (facts_kept rows) (row_reads row) (facts_read look) (kept_cover rows look next (n, omega arith, e))

-- what is known in a start context is what is true of the neighbour
pub start_knows : (t : ℕ) (x : Option ℕ) → start_facts t (start_of t x) ≡ facts_of t x
start_knows t None = refl
start_knows t (Some b) = grind (arith, common_steps)

pub unit_knows : (t b : ℕ) → b < 256 → unit_facts t b ≡ facts_of t (Some b)
unit_knows t b h = rw (ne_eqb b 256 (omega arith))
