-- All matches of some expressions from a place of a text, and what a table built for them reports from there.
use Rattle.std.specs.Prelude.{ℕ, ◌≡◌, ◌<◌, ◌↔◌, false, Some, List, length, slice_get, Contains, All}
use Rattle.rx_spec.specs.Bytes.{AreBytes, contains}
use Rattle.rx_spec.specs.Builds.{Build, build_settings}
use Rattle.rx_spec.specs.Ends.{ends}
use Rattle.rx_spec.specs.Expressions.{Expression, IsLoopSafe}
use Rattle.rx_spec.specs.Labels.{Gives}
use Rattle.rx_spec.specs.Overlapping.{Ending, Item, OverlappingMatches, overlapping}
use Rattle.rx_plan.specs.Plans.{Plan}
use Rattle.rx_spec.specs.Queries.{Anchored, Query, reading}
use Rattle.rx_spec.specs.Tables.{IsTable, Table}
use Rattle.rx_spec.specs.declared.Direction.{Direction}
use Rattle.rx_meaning.specs.AllBuilds.{all_build}

-- ---- the definition

-- pattern k has a match from p to q
pub record MatchesTo (es : List Expression) (t : ℕ) (text : List ℕ) (p k q : ℕ) : Type 0 where
  pub expression : Expression
  pub numbered : slice_get es k ≡ Some expression
  pub matches : Contains (ends (reading Direction.Forward t text) expression p) q

-- ---- tables

-- A table says of every word what the build says, and its anchored searches begin as the build's do. It may have other
-- starts of single patterns.
pub record ServesAll (t : Table) (b : Build) : Type 0 where
  pub is_table : IsTable t
  pub gives : Gives t b
  pub start_kind : t.settings.start_kind ≡ (build_settings b).start_kind
  pub start_of_byte : (byte : ℕ) → byte < 256 → t.settings.start_of_byte byte ≡ (build_settings b).start_of_byte byte
  pub quit : (byte : ℕ) → byte < 256 → contains t.settings.quit byte ≡ contains (build_settings b).quit byte

-- what is asked at a place: each match that begins there
abbrev pub query_at : List ℕ → ℕ → Query
query_at text p = record { haystack = text; start = p; end = length text; mode = Anchored.Yes; earliest = false }

abbrev pub told_at : Table → List ℕ → ℕ → OverlappingMatches
told_at t text p = overlapping t.machine t.settings Direction.Forward (query_at text p)

-- ---- the law

-- a table and the expressions that it is of, and a place before the end of a text
pub record IsPlaced (t : Table) (plan : Plan) (es : List Expression) (text : List ℕ) (p : ℕ) : Type 0 where
  pub serves : ServesAll t (all_build plan es)
  pub safe : All IsLoopSafe es
  pub bytes : AreBytes text
  pub more : p < length text

-- Where the walk from there ends, exactly the matches of all patterns are told.
abbrev pub AllAreTold : Type 0
AllAreTold = (t : Table) (plan : Plan) (es : List Expression) (text : List ℕ) (p : ℕ) → IsPlaced t plan es text p
    → (told_at t text p).ending ≡ Ending.Ended → (k q : ℕ)
    → Contains (told_at t text p).items (Item.Reported (record { pattern = k; offset = q }))
    ↔ MatchesTo es plan.line_terminator text p k q
