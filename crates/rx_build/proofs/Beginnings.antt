-- A table that was begun for an NFA is one that may be determinized, and what that says of causes is said of the build.
use Rattle.rx_spec.proofs.Prelude.{arith, ◌≡◌, ℕ, Bool, true, false, is_some, if◌then◌else◌, Some, None, length, refl}
use Rattle.rx_spec.proofs.Prelude.{sym, ap₂, subst, ◌∙◌, common_steps, Build, BuildCause, BuildFits, Nfa, Cause}
use Rattle.rx_spec.specs.Classes.{quit_set}
use Rattle.rx_spec.specs.declared.Form.{Form}
use Rattle.rx_dense.specs.Layouts.{Layout}
use Rattle.rx_expr.specs.Refusals.{IsRefused, TableRefused}
use Rattle.rx_expr.specs.declared.build_error.BuildErrorKind.{BuildErrorKind}
use Rattle.rx_determinize.specs.Begun.{IsBegunWith, build_in, limits_of as own_limits}
use Rattle.rx_determinize.specs.declared.settled.Settled as determinize
use Rattle.rx_build.specs.Built.{begun, build_of, limits_of, settings_with}
use Rattle.rx_build.specs.Determinized.{IsDeterminized}
use Rattle.rx_build.specs.Making.{IsMade, determinized}
use Rattle.rx_build.specs.Settings.{Settled}
use Rattle.rx_build.proofs.Stages.{determinized_made}

module _ (s : Settled) (nfa : Nfa) where
  some_if : (b : Bool) (n : ℕ) → b ≡ is_some (if b then Some n else None)
  some_if true n = refl
  some_if false n = refl

  has_starts : s.pattern_starts ≡ is_some (begun s nfa).pattern_starts
  has_starts = some_if s.pattern_starts (length nfa.start_patterns)

  is_begun : IsBegunWith nfa (settings_with s (quit_set nfa s.quit s.unicode_word)) s.byte_classes (begun s nfa)
  is_begun = grind (arith, common_steps, has_starts)

  same_build : build_in nfa (settings_with s (quit_set nfa s.quit s.unicode_word)) (begun s nfa) ≡ build_of s nfa
  same_build = grind (arith, common_steps, has_starts)

-- ---- limits of dense tables, which have no rows of ranges

pub not_sparse : Form.Dense ≡ Form.Sparse → ⊥
not_sparse e = cc

fits_alike : (s : Settled) (quit : ℕ) (b : Build)
    → BuildFits (own_limits (settings_with s quit) s.byte_classes) b → BuildFits (limits_of s) b
fits_alike s quit b fits = grind (arith, common_steps, not_sparse)

table_refused_alike : (s : Settled) (quit : ℕ) (b : Build) (cause : Cause)
    → TableRefused (own_limits (settings_with s quit) s.byte_classes) b cause
    → TableRefused (limits_of s) b cause
table_refused_alike s quit b (Cause.NFA cause) r = r
table_refused_alike s quit b (Cause.DFA BuildCause.Unsupported) r = r
table_refused_alike s quit b (Cause.DFA BuildCause.TooManyStates) r = grind (arith, common_steps, not_sparse)
table_refused_alike s quit b (Cause.DFA BuildCause.TooManyMatchPatternIDs) r = r
table_refused_alike s quit b (Cause.DFA (BuildCause.DFAExceededSizeLimit limit)) r = r
table_refused_alike s quit b (Cause.DFA (BuildCause.DeterminizeExceededSizeLimit limit)) r = r

-- a refusal names the same cause in another relation of causes
pub refused_as : (P Q : Cause → Type 0) → ((cause : Cause) → P cause → Q cause) → (kind : BuildErrorKind)
    → IsRefused P kind → IsRefused Q kind
refused_as P Q f (BuildErrorKind.NFA error) r = grind (arith, common_steps)
refused_as P Q f BuildErrorKind.Unsupported r = f _ r
refused_as P Q f BuildErrorKind.TooManyStates r = f _ r
refused_as P Q f BuildErrorKind.TooManyMatchPatternIDs r = f _ r
refused_as P Q f (BuildErrorKind.DFAExceededSizeLimit limit) r = f _ r
refused_as P Q f (BuildErrorKind.DeterminizeExceededSizeLimit limit) r = f _ r
refused_as P Q f BuildErrorKind.Memory r = r

refused_alike : (s : Settled) (quit : ℕ) (b c : Build) (kind : BuildErrorKind) → b ≡ c
    → IsRefused (TableRefused (own_limits (settings_with s quit) s.byte_classes) b) kind
    → IsRefused (TableRefused (limits_of s) c) kind
refused_alike s quit b c kind same r =
    let own = refused_as (TableRefused (own_limits (settings_with s quit) s.byte_classes) b)
    (TableRefused (limits_of s) b) (table_refused_alike s quit b) kind r in
    subst (λ (x : Build). IsRefused (TableRefused (limits_of s) x) kind) same own

-- ---- a table that is determinized by a builder's settings

pub record IsBegunBy (s : Settled) (nfa : Nfa) (settings : determinize.Settled) (l : Layout) : Type 0 where
  pub settings_are : settings ≡ settings_with s (quit_set nfa s.quit s.unicode_word)
  pub layout_is : l ≡ begun s nfa

pub begun_by : {s : Settled} {nfa : Nfa} {settings : determinize.Settled} {l : Layout} {quit set : ℕ}
    {unicode_word : Bool} → quit ≡ quit_set nfa set unicode_word → set ≡ s.quit → unicode_word ≡ s.unicode_word
    → settings ≡ settings_with s quit → l ≡ begun s nfa → IsBegunBy s nfa settings l
begun_by {s = s} {nfa = nfa} told set_is word_is settings_are layout_is = grind (arith, common_steps)

module _ {s : Settled} {nfa : Nfa} {settings : determinize.Settled} {l : Layout} (by : IsBegunBy s nfa settings l) where
  pub begun_with : IsBegunWith nfa settings s.byte_classes l
  begun_with =
      subst (λ (m : Layout). IsBegunWith nfa settings s.byte_classes m) (sym by.layout_is)
      (subst (λ (x : determinize.Settled). IsBegunWith nfa x s.byte_classes (begun s nfa)) (sym by.settings_are)
      (is_begun s nfa))

  build_is : build_in nfa settings l ≡ build_of s nfa
  build_is = ap₂ (λ x m. build_in nfa x m) by.settings_are by.layout_is ∙ same_build s nfa

  pub made_by : {m : Layout} → IsDeterminized (build_in nfa settings l) l m
      → IsMade (build_of s nfa) determinized (begun s nfa) m
  made_by {m} d =
      determinized_made
      (subst (λ (k : Layout). IsDeterminized (build_of s nfa) k m) by.layout_is
      (subst (λ (b : Build). IsDeterminized b l m) build_is d))

  pub fits_by : BuildFits (own_limits settings s.byte_classes) (build_in nfa settings l)
      → BuildFits (limits_of s) (build_of s nfa)
  fits_by fits =
      fits_alike s (quit_set nfa s.quit s.unicode_word) (build_of s nfa)
      (subst (λ (x : determinize.Settled). BuildFits (own_limits x s.byte_classes) (build_of s nfa))
      by.settings_are
      (subst (λ (b : Build). BuildFits (own_limits settings s.byte_classes) b) build_is fits))

  pub refused_by : (kind : BuildErrorKind)
      → IsRefused (TableRefused (own_limits settings s.byte_classes) (build_in nfa settings l)) kind
      → IsRefused (TableRefused (limits_of s) (build_of s nfa)) kind
  refused_by kind refused =
      refused_alike s (quit_set nfa s.quit s.unicode_word) (build_in nfa settings l) (build_of s nfa) kind build_is
      (subst (λ (x : determinize.Settled).
      IsRefused (TableRefused (own_limits x s.byte_classes) (build_in nfa settings l)) kind) by.settings_are
      refused)
