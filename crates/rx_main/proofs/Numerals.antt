-- Numbers and modes of a command line: what is read is spelled so, and what is spelled so is read.
use Rattle.rx_spec.proofs.Prelude.{common_steps, ◌≡◌, ◌≢◌, ℕ, ◌<◌, ◌≤◌, ◌^◌, List, Option, Some, None, sym, arith}
use Rattle.rx_spec.proofs.Prelude.{MatchOption, decimal, Anchored}
use Rattle.rx_base.specs.Search.{mode_of}
use Rattle.rx_base.specs.declared.search.Anchored.{Anchored as Mode}
use Rattle.rx_script.specs.Grammar.{SpellsMode}
use Rattle.rx_script.specs.Tokens.{mode_word, number_of}
use Rattle.rx_script.proofs.Modes.{mode_read, mode_spelled}
use Rattle.rx_script.proofs.Numbers.{number_read, number_spelled}
use Rattle.rx_main.specs.Commands.{IsMode}
use Rattle.rx_transfer.specs.Words.{mode_name}

-- the decimal of a number is read
pub no_number : (word : List ℕ) (most : ℕ) → most < 2 ^ 32 → number_of word ≡ None
    → (n : ℕ) → n ≤ most → word ≢ decimal n
no_number word most below none n few spelled = grind (arith, common_steps, number_read)

-- the number that is read is the one that is spelled
pub other_number : (word : List ℕ) (v n : ℕ) → n < 2 ^ 32 → number_of word ≡ Some v → word ≡ decimal n → v ≡ n
other_number word v n below read spelled = grind (arith, common_steps, number_read)

-- a number that is read, or none where it lies out of a range
pub number_within : (word : List ℕ) (least most v : ℕ) → most < 2 ^ 32 → Some v ≡ number_of word → (told : Option ℕ)
    → MatchOption told ((least ≤ v) × (v ≤ most) → ⊥) (λ n. (n ≡ v) × (least ≤ n) × (n ≤ most))
    → MatchOption told
    ((n : ℕ) → least ≤ n → n ≤ most → word ≢ decimal n)
    (λ n. (least ≤ n) × (n ≤ most) × (word ≡ decimal n))
number_within word least most v below read None out = grind (arith, common_steps, other_number)
number_within word least most v below read (Some n) is = grind (arith, common_steps, number_spelled)

mode_named : (mode : Anchored) (word : List ℕ) → SpellsMode mode word → IsMode mode × (word ≡ mode_name mode)
mode_named (Anchored.Pattern k) word s = (s.0, s.1)
mode_named _ word s = (tt, s)

named_mode : (mode : Anchored) (word : List ℕ) → IsMode mode → word ≡ mode_name mode → SpellsMode mode word
named_mode (Anchored.Pattern k) word is e = (is, e)
named_mode _ word is e = e

pub mode_by_word : (word : List ℕ) (read : Option Mode) → read ≡ mode_word word
    → MatchOption read
    ((mode : Mode) → IsMode (mode_of mode) → word ≢ mode_name (mode_of mode))
    (λ mode. IsMode (mode_of mode) × (word ≡ mode_name (mode_of mode)))
mode_by_word word None e = λ mode is spelled.
    let read = mode_read word (mode_of mode) (named_mode (mode_of mode) word is spelled) in
    cc (e, read.1)
mode_by_word word (Some mode) e = mode_named (mode_of mode) word (mode_spelled word mode (sym e))
