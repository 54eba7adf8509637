-- Bytes: what is read is spelled so, and what is spelled so is read.
use Rattle.rx_spec.proofs.Prelude.{common_steps, ◌≡◌, inl, inr, ℕ, ◌+◌, ◌-◌, ◌*◌, cond, eqb, List, [], ◌∷◌, length}
use Rattle.rx_spec.proofs.Prelude.{Option, Some, None, refl, sym, ap, subst, ◌∙◌, arith, codes, bytes_eq, cases_Bool}
use Rattle.rx_spec.proofs.Prelude.{ne_eqb, same_Some}
use Rattle.rx_script.specs.Tokens.{digit_of, byte_from, byte_of, one_byte, with_byte, pairs_of, bytes_of}
use Rattle.rx_script.specs.Grammar.{SpellsDigit, SpellsPair, SpellsByte, SpellsPairs, SpellsBytes}
use Rattle.rx_script.proofs.Tables.{same_word}

-- ---- digits

pub digit_spelled : (c v : ℕ) → digit_of c ≡ Some v → SpellsDigit v c
digit_spelled c v e = grind (arith, common_steps, cases_Bool)

digit_read : (c v : ℕ) → SpellsDigit v c → digit_of c ≡ Some v
digit_read c v (inl d) = grind (arith, common_steps)
digit_read c v (inr (low, high, inl small)) = grind (arith, common_steps)
digit_read c v (inr (low, high, inr capital)) = grind (arith, common_steps)

-- ---- bytes

pub pair_spelled : (high low b : ℕ) → byte_of high low ≡ Some b → SpellsPair b high low
pair_spelled high low b e = on (digit_of high) (digit_of low) refl refl e where
  on : (h l : Option ℕ) → digit_of high ≡ h → digit_of low ≡ l → byte_from h l ≡ Some b → SpellsPair b high low
  on None l p q z = absurd cc
  on (Some h) None p q z = absurd cc
  on (Some h) (Some l) p q z = (h, l, digit_spelled high h p, digit_spelled low l q, sym (same_Some (16 * h + l) b z))

pub pair_read : (high low b : ℕ) → SpellsPair b high low → byte_of high low ≡ Some b
pair_read high low b s = rw (digit_read high s.0 s.2, digit_read low s.1 s.3) (ap (λ (x : ℕ). Some x) (sym s.4))

pub byte_spelled : (word : List ℕ) (b : ℕ) → one_byte word ≡ Some b → SpellsByte b word
byte_spelled (high ∷ (low ∷ [])) b e = grind (arith, common_steps)
byte_spelled [] b e = absurd cc
byte_spelled (c ∷ []) b e = absurd cc
byte_spelled (c ∷ (d ∷ (e ∷ es))) b z = absurd cc

pub byte_read : (word : List ℕ) (b : ℕ) → SpellsByte b word → one_byte word ≡ Some b
byte_read word b s = ap one_byte s.word_is ∙ pair_read s.high s.low b s.digits

pairs_spelled : (word bytes : List ℕ) → pairs_of word ≡ Some bytes → SpellsPairs bytes word
pairs_spelled [] bytes e = subst (λ (x : List ℕ). SpellsPairs x []) (same_Some [] bytes e) tt
pairs_spelled (c ∷ []) bytes e = absurd cc
pairs_spelled (high ∷ (low ∷ cs)) bytes e =
    on (byte_of high low) (pairs_of cs) refl refl (λ bs q. pairs_spelled cs bs q) e where
      Spelled : List ℕ → Type 0
      Spelled x = SpellsPairs x (high ∷ (low ∷ cs))

      on : (o : Option ℕ) (r : Option (List ℕ)) → byte_of high low ≡ o → pairs_of cs ≡ r
          → ((bs : List ℕ) → pairs_of cs ≡ Some bs → SpellsPairs bs cs) → with_byte o r ≡ Some bytes
          → SpellsPairs bytes (high ∷ (low ∷ cs))
      on None r p q again z = absurd cc
      on (Some b) None p q again z = absurd cc
      on (Some b) (Some bs) p q again z =
          subst (λ (x : List ℕ). SpellsPairs x (high ∷ (low ∷ cs))) (same_Some (b ∷ bs) bytes z)
          (pair_spelled high low b p, again bs q)

pairs_read : (word bytes : List ℕ) → SpellsPairs bytes word → pairs_of word ≡ Some bytes
pairs_read [] [] s = refl
pairs_read (c ∷ cs) [] s = absurd s
pairs_read [] (b ∷ bs) s = absurd s
pairs_read (c ∷ []) (b ∷ bs) s = absurd s
pairs_read (high ∷ (low ∷ cs)) (b ∷ bs) s = rw (pair_read high low b s.0, pairs_read cs bs s.1) refl

-- ---- words of bytes

pub bytes_spelled : (word bytes : List ℕ) → bytes_of word ≡ Some bytes → SpellsBytes bytes word
unfolding bytes_of
bytes_spelled word bytes e = elim (cases_Bool (bytes_eq word (codes "-"))) [
  | inl h ↦ subst (λ (x : List ℕ). SpellsBytes x word) (same_Some [] bytes (rw h at e)) (same_word word (codes "-") h)
  | inr h ↦ some word (rw h at e)
] where
  whole : (c : ℕ) (cs bs : List ℕ) → SpellsPairs bs (c ∷ cs) → SpellsBytes bs (c ∷ cs)
  whole c cs (b ∷ bs) s = s
  whole c cs [] s = absurd s

  some : (w : List ℕ) → cond (eqb (length w) 0) None (pairs_of w) ≡ Some bytes → SpellsBytes bytes w
  some [] z = absurd cc
  some (c ∷ cs) z =
      let ne = ne_eqb (length (c ∷ cs)) 0 (λ e. omega arith) in
      whole c cs bytes (pairs_spelled (c ∷ cs) bytes (rw ne at z))

pub bytes_read : (word bytes : List ℕ) → SpellsBytes bytes word → bytes_of word ≡ Some bytes
unfolding bytes_of
bytes_read word [] s = ap bytes_of s
bytes_read [] (b ∷ bs) s = absurd s
bytes_read (c ∷ []) (b ∷ bs) s = absurd s
bytes_read (high ∷ (low ∷ cs)) (b ∷ bs) s = grind (arith, common_steps, pairs_read)
