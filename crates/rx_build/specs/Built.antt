-- What is built by some settings, of an NFA or of expressions (`IsBuilt`), and which causes refuse a build.
use Rattle.std.specs.Prelude.{ℕ, ◌≡◌, ◌≢◌, ◌<◌, ◌&&◌, true, false, List, length}
use Rattle.rx_spec.specs.Builds.{Build, built_modes}
use Rattle.rx_spec.specs.Causes.{Limits, BuildFits, BuildRefused, NfaRefused}
use Rattle.rx_spec.specs.Classes.{quit_set}
use Rattle.rx_spec.specs.Expressions.{Expression}
use Rattle.rx_spec.specs.Labels.{Gives, AreToldApart, IsLeastFor}
use Rattle.rx_spec.specs.Nfas.{Nfa, is_always_start_anchored}
use Rattle.rx_spec.specs.Causes.{Cause}
use Rattle.rx_spec.specs.Power.{IsPower}
use Rattle.rx_spec.specs.Queries.{Anchored}
use Rattle.rx_spec.specs.Starts.{supports}
use Rattle.rx_spec.specs.declared.Form.{Form}
use Rattle.rx_spec.specs.declared.Start.{Start}
use Rattle.rx_dense.specs.Builder.{initial, HasUniversalStarts, with_universal_starts}
use Rattle.rx_dense.specs.Layouts.{Layout, row_count, table_of}
use Rattle.rx_order.specs.RowOrder.{IsInOrder, AreJoined, accel_count, is_start_row, is_skippable}
use Rattle.rx_determinize.specs.Begun.{classes_of}
use Rattle.rx_determinize.specs.declared.settled.Settled as determinize
use Rattle.rx_minimize.specs.Minimized.{AreReachedRows}
use Rattle.rx_expr.specs.Compiles.{Fits, wanted_nfa}
use Rattle.rx_expr.specs.Settings as thompson
use Rattle.rx_build.specs.Settings.{Settled}

-- the build of an NFA, with the quit set that is in effect
abbrev pub build_of : Settled → Nfa → Build
build_of s nfa = record {
  nfa = nfa;
  kind = s.match_kind;
  start_kind = s.start_kind;
  pattern_starts = s.pattern_starts;
  quit = quit_set nfa s.quit s.unicode_word;
}

abbrev pub limits_of : Settled → Limits
limits_of s = record {
  byte_classes = s.byte_classes;
  form = Form.Dense;
  minimize = s.minimize;
  accelerate = s.accelerate;
  dfa_size_limit = s.dfa_size_limit;
  determinize_size_limit = s.determinize_size_limit;
}

-- how it is determinized
abbrev pub settings_with : Settled → ℕ → determinize.Settled
settings_with s quit = record {
  match_kind = s.match_kind;
  quit = quit;
  dfa_size_limit = s.dfa_size_limit;
  determinize_size_limit = s.determinize_size_limit;
}

-- the table with which it begins: its classes, starts, quit set and flags stay
abbrev pub begun : Settled → Nfa → Layout
begun s nfa = initial (record {
  classes = classes_of nfa (quit_set nfa s.quit s.unicode_word) s.byte_classes;
  pattern_len = length nfa.start_patterns;
  start_kind = s.start_kind;
  line_terminator = nfa.line_terminator;
  pattern_starts = s.pattern_starts;
  quit = quit_set nfa s.quit s.unicode_word;
  flags = record {
    has_empty = nfa.has_empty;
    is_utf8 = nfa.is_utf8;
    is_always_start_anchored = is_always_start_anchored nfa;
  };
})

-- Any two rows are told apart by a word.
abbrev pub AreApart : Layout → Type 0
AreApart l = (x y : ℕ) → x < row_count l → y < row_count l → x ≢ y → AreToldApart (table_of l) x y

-- Searches in a mode that a build leaves out start at dead.
abbrev pub AreLeftOut : Build → Layout → Type 0
AreLeftOut b l =
    (mode : Anchored) (start : Start) → supports b.start_kind b.pattern_starts mode ≡ false
    → (table_of l).machine.entry mode start ≡ 0

-- The table says of every word what its build says, and each row but dead and quit is reached. Without minimizing it
-- is the build's powerset machine, with it the least table. Each start of a mode that was not asked for is dead. It is
-- sound and its rows in order; exactly the rows that
-- may be skipped from are accelerated, with needles for each and no others, and start rows are marked, where that was
-- asked for. Its universal starts are the starts that all contexts have, as rows and as the ids that are kept.
pub record IsBuilt (s : Settled) (nfa : Nfa) (l : Layout) : Type 0 where
  pub gives : Gives (table_of l) (build_of s nfa)
  pub reached : AreReachedRows (built_modes (build_of s nfa)) (table_of l)
  pub power : s.minimize ≡ false → IsPower (table_of l) (build_of s nfa)
  pub least : s.minimize ≡ true → IsLeastFor (build_of s nfa) (row_count l)
  pub apart : s.minimize ≡ true → AreApart l
  pub left_out : AreLeftOut (build_of s nfa) l
  pub in_order : IsInOrder l
  pub joined : AreJoined l
  pub accelerated : (row : ℕ) → row < row_count l
      → (table_of l).is_accelerated row ≡ (s.accelerate && is_skippable (table_of l) row)
  pub counted : length l.accels ≡ accel_count l
  pub marked : (row : ℕ) → row < row_count l → (table_of l).is_start row ≡ (s.mark_starts && is_start_row l row)
  pub universal : HasUniversalStarts (table_of l)
  pub universal_ids : l ≡ with_universal_starts l
  pub rest : l ≡ record (begun s nfa) {
    words = l.words;
    starts = l.starts;
    universal_unanchored = l.universal_unanchored;
    universal_anchored = l.universal_anchored;
    slices = l.slices;
    pattern_ids = l.pattern_ids;
    special = l.special;
    accels = l.accels;
  }

-- ---- of expressions

-- the NFA of expressions, or else their table, is refused
abbrev pub Refused : Settled → thompson.Asked → List Expression → Cause → Type 0
Refused s a es (Cause.NFA cause) = NfaRefused (thompson.settled a).size_limit (length es) (wanted_nfa a es) cause
Refused s a es (Cause.DFA cause) =
    Fits a es × BuildRefused (limits_of s) (build_of s (wanted_nfa a es)) cause

-- nothing refuses them
pub record AreFit (s : Settled) (a : thompson.Asked) (es : List Expression) : Type 0 where
  pub nfa : Fits a es
  pub build : BuildFits (limits_of s) (build_of s (wanted_nfa a es))
