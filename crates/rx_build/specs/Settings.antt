-- Settings of a build of a dense table.
use Rattle.std.specs.Prelude.{ℕ, ◌≡◌, ◌==◌, Bool, true, false, if◌then◌else◌, Option, None, is_some, unwrap_or}
use Rattle.std.specs.Option.{option_or}
use Rattle.rx_spec.specs.Bytes.{contains}
use Rattle.rx_spec.specs.declared.MatchKind.{MatchKind}
use Rattle.rx_spec.specs.declared.StartKind.{StartKind}
use Rattle.rx_build.specs.declared.dense.config.Config.{Config}

-- what was set
pub record Asked : Type 0 where
  pub accelerate : Option Bool
  pub minimize : Option Bool
  pub match_kind : Option MatchKind
  pub start_kind : Option StartKind
  pub pattern_starts : Option Bool
  pub byte_classes : Option Bool
  pub unicode_word : Option Bool
  pub quit : Option ℕ
  pub mark_starts : Option Bool
  pub dfa_size_limit : Option (Option ℕ)
  pub determinize_size_limit : Option (Option ℕ)

abbrev pub asked : Config → Asked
asked c = record {
  accelerate = c.accelerate;
  minimize = c.minimize;
  match_kind = c.match_kind;
  start_kind = c.start_kind;
  pattern_starts = c.pattern_starts;
  byte_classes = c.byte_classes;
  unicode_word = c.unicode_word;
  quit = c.quit;
  mark_starts = c.mark_starts;
  dfa_size_limit = c.dfa_size_limit;
  determinize_size_limit = c.determinize_size_limit;
}

abbrev pub nothing_asked : Asked
nothing_asked = record {
  accelerate = None;
  minimize = None;
  match_kind = None;
  start_kind = None;
  pattern_starts = None;
  byte_classes = None;
  unicode_word = None;
  quit = None;
  mark_starts = None;
  dfa_size_limit = None;
  determinize_size_limit = None;
}

-- what is set later stands in place of what was set before
abbrev pub overwritten : Asked → Asked → Asked
overwritten old new = record {
  accelerate = option_or new.accelerate old.accelerate;
  minimize = option_or new.minimize old.minimize;
  match_kind = option_or new.match_kind old.match_kind;
  start_kind = option_or new.start_kind old.start_kind;
  pattern_starts = option_or new.pattern_starts old.pattern_starts;
  byte_classes = option_or new.byte_classes old.byte_classes;
  unicode_word = option_or new.unicode_word old.unicode_word;
  quit = option_or new.quit old.quit;
  mark_starts = option_or new.mark_starts old.mark_starts;
  dfa_size_limit = option_or new.dfa_size_limit old.dfa_size_limit;
  determinize_size_limit = option_or new.determinize_size_limit old.determinize_size_limit;
}

-- what holds, defaults included
pub record Settled : Type 0 where
  pub accelerate : Bool
  pub minimize : Bool
  pub match_kind : MatchKind
  pub start_kind : StartKind
  pub pattern_starts : Bool
  pub byte_classes : Bool
  pub unicode_word : Bool
  pub quit : ℕ
  pub mark_starts : Bool
  pub dfa_size_limit : Option ℕ
  pub determinize_size_limit : Option ℕ

abbrev pub settled : Asked → Settled
settled a = record {
  accelerate = unwrap_or a.accelerate true;
  minimize = unwrap_or a.minimize false;
  match_kind = unwrap_or a.match_kind MatchKind.LeftmostFirst;
  start_kind = unwrap_or a.start_kind StartKind.Both;
  pattern_starts = unwrap_or a.pattern_starts false;
  byte_classes = unwrap_or a.byte_classes true;
  unicode_word = unwrap_or a.unicode_word false;
  quit = unwrap_or a.quit 0;
  mark_starts = unwrap_or a.mark_starts false;
  dfa_size_limit = unwrap_or a.dfa_size_limit None;
  determinize_size_limit = unwrap_or a.determinize_size_limit None;
}

-- One byte is made a quit byte or an ordinary one, and all else stays. The quit bytes are set by it, also where there
-- are none.
pub record SetsQuit (old : Asked) (byte : ℕ) (yes : Bool) (new : Asked) : Type 0 where
  pub set : is_some new.quit ≡ true
  pub bytes : (other : ℕ) → contains (settled new).quit other
      ≡ (if other == byte then yes else contains (settled old).quit other)
  pub rest : new ≡ record old { quit = new.quit }
