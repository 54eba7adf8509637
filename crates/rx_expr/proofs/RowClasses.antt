-- Which bytes rows tell apart: what is set for an assertion, and rows one after another.
use Rattle.rx_spec.proofs.Prelude.{common_steps, ◌≡◌, ℕ, ◌+◌, ◌<◌, ◌==◌, ◌⊎◌, ◌||◌, Bool, refl, ap, sym, ◌∙◌, arith}
use Rattle.rx_spec.proofs.Prelude.{lit<, agree_below_at, contains, between, parts, facts_read}
use Rattle.rx_spec.specs.Bytes.{is_word}
use Rattle.rx_spec.specs.Classes.{facts_part}
use Rattle.rx_spec.specs.declared.Look.{Look}
use Rattle.rx_base.proofs.ByteSets.{contains-between}

-- ---- what ranges tell apart

abbrev pub range_parts : (first last b : ℕ) → Bool
range_parts first last b = parts (contains (between first last)) b (b + 1)

byte_parts : (byte b : ℕ) → byte < 256 → range_parts byte byte b ≡ parts (λ x. x == byte) b (b + 1)
byte_parts byte b h = grind (arith, common_steps, contains-between)

-- the four ranges of word bytes
abbrev word_ranges : ℕ → Bool
word_ranges b = range_parts 48 57 b || (range_parts 65 90 b || (range_parts 95 95 b || range_parts 97 122 b))

word_parts : (b : ℕ) → b < 255 → word_ranges b ≡ parts is_word b (b + 1)
word_parts b below = agree_below_at word_ranges (λ b. parts is_word b (b + 1)) 255 b refl below

-- ---- what an assertion tells apart

abbrev look_parts : Look → (t b : ℕ) → Bool
look_parts look t b = facts_part t (facts_read look) b (b + 1)

pub line_parts : (look : Look) → (look ≡ Look.StartLF) ⊎ (look ≡ Look.EndLF) → (t b : ℕ) → t < 256
    → range_parts t t b ≡ look_parts look t b
line_parts look is t b h = grind (arith, common_steps, byte_parts)

pub crlf_parts : (look : Look) → (look ≡ Look.StartCRLF) ⊎ (look ≡ Look.EndCRLF) → (t b : ℕ) → b < 255
    → (range_parts 10 10 b || range_parts 13 13 b) ≡ look_parts look t b
crlf_parts look is t b below =
    let lf = byte_parts 10 b (lit< tt) in
    let cr = byte_parts 13 b (lit< tt) in
    grind (arith, common_steps)

-- any but the six assertions of text and lines
pub word_look_parts : (look : Look) → (t b : ℕ) → b < 255 → facts_read look ≡ facts_read Look.WordAscii
    → word_ranges b ≡ look_parts look t b
word_look_parts look t b below is = word_parts b below ∙ ap (λ read. facts_part t read b (b + 1)) (sym is)

pub reads_words : (look : Look) → (look ≡ Look.Start → ⊥) → (look ≡ Look.End → ⊥) → (look ≡ Look.StartLF → ⊥)
    → (look ≡ Look.EndLF → ⊥) → (look ≡ Look.StartCRLF → ⊥) → (look ≡ Look.EndCRLF → ⊥)
    → facts_read look ≡ facts_read Look.WordAscii
reads_words look start end line_start line_end crlf_start crlf_end = grind (arith, common_steps)
