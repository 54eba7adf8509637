-- The lines of the tokens that a scanner tells.
use Rattle.rx_spec.proofs.Prelude.{common_steps, ◌≡◌, ℕ, ◌+◌, ◌<◌, ◌≤◌, List, [], ◌∷◌, ◌++◌, length, Bool, true, Some}
use Rattle.rx_spec.proofs.Prelude.{None, ap, append_assoc, append-nil, arith, if◌then◌else◌, length-append, flat_map}
use Rattle.rx_scan.specs.Tokens.{Scan, Tokens, end_told}
use Rattle.rx_scan.specs.declared.token.ScanEnd.{ScanEnd}
use Rattle.rx_scan.specs.declared.token.Token.{Token}
use Rattle.rx_main.specs.Scan.{end_reply, token_line, tokens_reply}

-- one more is told
pub told_more : (told : List Token) (token : Token) {left next all : List Token} → left ≡ token ∷ next
    → told ++ left ≡ all → (told ++ token ∷ []) ++ next ≡ all
told_more told token {left} {next} first whole = grind (arith, common_steps, append_assoc)

pub fewer : (token : Token) {left next : List Token} → left ≡ token ∷ next → length next < length left
fewer token {left} {next} first = grind (arith, common_steps)

pub count_more : (told : List Token) (token : Token) {count : ℕ} → count ≡ length told
    → count + 1 ≡ length (told ++ token ∷ [])
count_more told token counted = grind (arith, common_steps, length-append)

-- there are no more tokens than bytes in their lines
lines_count : (told : List Token) → length told ≤ length (flat_map token_line told)
lines_count [] = omega arith
lines_count (token ∷ told) =
    let behind = lines_count told in
    let sum = length-append (token_line token) (flat_map token_line told) in
    omega (arith, behind, sum)

pub lines_count_more : (told : List Token) (token : Token) {lines more : List ℕ} → lines ≡ flat_map token_line told
    → more ≡ lines ++ token_line token → length told + 1 ≤ length more
lines_count_more told token {lines} {more} are is = grind (arith, common_steps, lines_count, length-append)

-- once it was told that none is left, the end is told
pub end_known : (s : Scan) → s.is_over ≡ true → end_told s ≡ Some s.left.end
end_known s over = ap (λ (b : Bool). if b then Some s.left.end else None) over

-- all tokens were told, and their end
pub all_told : (told : List Token) (all : Tokens) {left : List Token} {end : ScanEnd} {lines : List ℕ} {count : ℕ}
    → told ++ left ≡ all.tokens → left ≡ [] → end ≡ all.end → lines ≡ flat_map token_line told → count ≡ length told
    → end_reply lines count end ≡ tokens_reply all
all_told told all {left} {end} {lines} {count} whole none ends are counted = grind (arith, common_steps, append-nil)
