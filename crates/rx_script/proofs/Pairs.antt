-- Reading pairs of hexadecimal digits one after the other, as a loop does.
use Rattle.rx_spec.proofs.Prelude.{◌≡◌, ℕ, suc, ◌+◌, ◌<◌, ◌≤◌, List, [], ◌∷◌, ◌++◌, length, get_or, drop, Option, Some}
use Rattle.rx_spec.proofs.Prelude.{None, refl, sym, ap, ◌∙◌, append_assoc, drop-cons, arith}
use Rattle.std.proofs.lemmas.List.{drop_all}
use Rattle.rx_script.specs.Tokens.{with_byte, byte_of, pairs_of}

-- what was read before, and what is still read
abbrev pub with_front : List ℕ → Option (List ℕ) → Option (List ℕ)
with_front front None = None
with_front front (Some bytes) = Some (front ++ bytes)

with_front_more : (front : List ℕ) (b : ℕ) (read : Option (List ℕ))
    → with_front (front ++ b ∷ []) read ≡ with_front front (with_byte (Some b) read)
with_front_more front b None = refl
with_front_more front b (Some bytes) = ap (λ (bs : List ℕ). Some bs) (append_assoc front (b ∷ []) bytes)

-- the bytes that were read up to a place, and those after it, are the bytes of the word
pub record ReadPairs (word bytes : List ℕ) (at : ℕ) : Type 0 where
  pub same : with_front bytes (pairs_of (drop at word)) ≡ pairs_of word

two_more : (word : List ℕ) (at : ℕ) → at + 1 < length word
    → drop at word ≡ get_or word at 0 ∷ (get_or word (at + 1) 0 ∷ drop (at + 2) word)
two_more word at lt =
    let e1 = drop-cons word at 0 (omega arith) in
    let e2 = drop-cons word (suc at) 0 (omega arith) in
    let s : suc at ≡ at + 1 = omega arith in
    let t : suc (at + 1) ≡ at + 2 = omega arith in
    e1 ∙ ap (λ (xs : List ℕ). get_or word at 0 ∷ xs) e2 ∙ rw (s, t) refl

-- a turn that reads a pair
pub pairs_turn : {word bytes : List ℕ} {at : ℕ} (b : ℕ) → ReadPairs word bytes at → at + 1 < length word
    → Some b ≡ byte_of (get_or word at 0) (get_or word (at + 1) 0) → ReadPairs word (bytes ++ b ∷ []) (at + 2)
pairs_turn {word = word} {bytes = bytes} {at = at} b so_far lt e =
    let rest = pairs_of (drop (at + 2) word) in
    record {
      same =
          with_front_more bytes b rest ∙ ap (λ (o : Option ℕ). with_front bytes (with_byte o rest)) e
          ∙ ap (λ (xs : List ℕ). with_front bytes (pairs_of xs)) (sym (two_more word at lt)) ∙ so_far.same;
    }

pub pairs_odd : {word bytes : List ℕ} {at : ℕ} → ReadPairs word bytes at → at < length word → length word ≤ at + 1
    → None ≡ pairs_of word
pairs_odd {word = word} {bytes = bytes} {at = at} so_far lt le =
    let e : drop at word ≡ get_or word at 0 ∷ drop (suc at) word = drop-cons word at 0 lt in
    let f : drop (suc at) word ≡ [] = drop_all (suc at) word (omega arith) in
    ap (λ (xs : List ℕ). with_front bytes (pairs_of (get_or word at 0 ∷ xs))) (sym f)
    ∙ ap (λ (xs : List ℕ). with_front bytes (pairs_of xs)) (sym e) ∙ so_far.same
