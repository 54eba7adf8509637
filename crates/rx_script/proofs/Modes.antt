-- Modes: what is read is spelled so, and what is spelled so is read.
use Rattle.rx_spec.proofs.Prelude.{common_steps, ◌≡◌, ℕ, Bool, true, false, List, [], ◌∷◌, Option, Some, None, refl, ap}
use Rattle.rx_spec.proofs.Prelude.{subst, ◌∙◌, arith, decimal, cases_Bool, eqb-true, le-leb, same_Some, none-some}
use Rattle.rx_spec.proofs.Prelude.{Anchored, max_id}
use Rattle.rx_base.specs.Search.{mode_of}
use Rattle.rx_base.specs.declared.search.Anchored.{Anchored as Mode}
use Rattle.rx_script.specs.Names.{anchored_of}
use Rattle.rx_script.specs.Tokens.{number_of, numbered_mode, mode_from, mode_word}
use Rattle.rx_script.specs.Grammar.{SpellsMode}
use Rattle.rx_script.proofs.Tables.{anchored_spelled, anchored_read}
use Rattle.rx_script.proofs.Numbers.{number_spelled, number_read}

abbrev Spelled : List ℕ → Mode → Type 0
Spelled word mode = SpellsMode (mode_of mode) word

numbered_spelled : (word : List ℕ) (mode : Mode) → numbered_mode word ≡ Some mode → Spelled word mode
numbered_spelled [] mode e = absurd cc
numbered_spelled (c ∷ cs) mode e = grind (arith, common_steps, cases_Bool, eqb-true, none-some, number_spelled)

pub mode_spelled : (word : List ℕ) (mode : Mode) → mode_word word ≡ Some mode → SpellsMode (mode_of mode) word
unfolding mode_word
mode_spelled word mode e = on (anchored_of word) refl e where
  on : (o : Option Bool) → anchored_of word ≡ o → mode_from word o ≡ Some mode → Spelled word mode
  on None p z = numbered_spelled word mode z
  on (Some true) p z = subst (Spelled word) (same_Some Mode.Yes mode z) (anchored_spelled word true p)
  on (Some false) p z = subst (Spelled word) (same_Some Mode.No mode z) (anchored_spelled word false p)

-- the number of a pattern is no name
no_name : (cs : List ℕ) → anchored_of (112 ∷ cs) ≡ None
unfolding anchored_of
no_name cs = refl

pub mode_read : (word : List ℕ) (mode : Anchored) → SpellsMode mode word
    → (read : Mode) × (mode_word word ≡ Some read) × (mode_of read ≡ mode)
unfolding mode_word
mode_read word Anchored.No s = (Mode.No, ap mode_word s ∙ rw (anchored_read false) refl, refl)
mode_read word Anchored.Yes s = (Mode.Yes, ap mode_word s ∙ rw (anchored_read true) refl, refl)
mode_read word (Anchored.Pattern k) s =
    let n : number_of (decimal k) ≡ Some k = number_read (decimal k) k (omega arith, refl) in
    let read : mode_word (112 ∷ decimal k) ≡ Some (Mode.Pattern k) =
    rw (no_name (decimal k), n, le-leb k max_id s.0) refl in
    (Mode.Pattern k, ap mode_word s.1 ∙ read, refl)
