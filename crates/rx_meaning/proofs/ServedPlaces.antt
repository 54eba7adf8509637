-- An anchored search of a table that serves a build tells what the build tells.
use Rattle.std.proofs.Common.{arith}
use Rattle.std.proofs.lemmas.Grind.{common_steps}
use Rattle.rx_spec.proofs.Prelude.{◌≡◌, ℕ, ◌<◌, Option, Some, None, [], refl, ap, sym, ◌∙◌, lt-ltb, List, Build}
use Rattle.rx_spec.proofs.Prelude.{build_settings, power, beside, first_offset, units_of, Settings, overlapping}
use Rattle.rx_spec.proofs.Prelude.{overlapping_walk, Expression, Anchored, Query, start_context, start_error}
use Rattle.rx_plan.specs.Plans.{Plan}
use Rattle.rx_spec.proofs.Prelude.{start_row, Table}
use Rattle.rx_spec.specs.declared.Direction.{Direction}
use Rattle.rx_lemmas.proofs.HalfSearches.{Begins, Done, Refused, Started, begins, going, has_yes, started}
use Rattle.rx_lemmas.proofs.Overlapping.{overlapping_refused, overlapping_walks}
use Rattle.rx_lemmas.proofs.ReadUnits.{beside_is_byte, units_word}
use Rattle.rx_lemmas.proofs.SilentRows.{AnyNode, IsRow, power_ends_well, table_ends_well}
use Rattle.rx_meaning.proofs.AlikeRows.{Alike, overlapping_alike}
use Rattle.rx_meaning.specs.AllBuilds.{all_build}
use Rattle.rx_meaning.specs.AllMatches.{IsPlaced, query_at, told_at}

module _ {t : Table} {plan : Plan} {es : List Expression} {text : List ℕ} {p : ℕ} (is : IsPlaced t plan es text p) where
  abbrev b : Build
  b = all_build plan es

  abbrev r : Settings
  r = build_settings (all_build plan es)

  abbrev q : Query
  q = query_at text p

  abbrev before : Option ℕ
  before = beside Direction.Forward (query_at text p)

  is_byte : (byte : ℕ) → before ≡ Some byte → byte < 256
  is_byte byte e = beside_is_byte Direction.Forward q byte is.bytes e

  context_same : (o : Option ℕ) → ((byte : ℕ) → o ≡ Some byte → byte < 256)
      → start_context t.settings o ≡ start_context r o
  context_same None h = refl
  context_same (Some byte) h = is.serves.start_of_byte byte (h byte refl)

  error_same : (o : Option ℕ) → ((byte : ℕ) → o ≡ Some byte → byte < 256)
      → start_error t.settings o Anchored.Yes ≡ start_error r o Anchored.Yes
  error_same None h = grind (arith, common_steps)
  error_same (Some byte) h = grind (arith, common_steps)

  row_same : start_row t.machine t.settings before Anchored.Yes ≡ start_row t.machine r before Anchored.Yes
  row_same = ap (t.machine.entry Anchored.Yes) (context_same before is_byte)

  begun_alike : start_error r before Anchored.Yes ≡ None
      → Alike t.machine (power (all_build plan es)) (IsRow t) AnyNode (start_row t.machine r before Anchored.Yes)
      (start_row (power (all_build plan es)) r before Anchored.Yes)
  begun_alike none =
      let context = start_context r before in
      record {
        inside = is.serves.is_table.entries Anchored.Yes context;
        within = tt;
        labels = is.serves.gives Anchored.Yes
            (has_yes b (started r before Anchored.Yes none).supported) context;
      }

  pub told_same : told_at t text p
      ≡ overlapping (power (all_build plan es)) (build_settings (all_build plan es)) Direction.Forward (query_at text p)
  told_same = by_start (begins r Direction.Forward q)
    where
      by_start : Begins r Direction.Forward q
          → told_at t text p ≡ overlapping (power b) (build_settings b) Direction.Forward q
      by_start (Done past) = grind (arith, common_steps, lt-ltb)
      by_start (Refused order error refused) =
          grind (arith, common_steps, overlapping_refused, going, error_same, is_byte)
      by_start (Started order none) =
          overlapping_walks t.machine t.settings Direction.Forward q (going q order)
          (error_same before is_byte ∙ none)
          ∙ ap (λ x. overlapping_walk t.machine Direction.Forward x (first_offset Direction.Forward q)
          (units_of Direction.Forward q)) row_same
          ∙ overlapping_alike (table_ends_well t is.serves.is_table) (power_ends_well b) Direction.Forward
          (begun_alike none) (units_of Direction.Forward q) (units_word Direction.Forward q is.bytes)
          (first_offset Direction.Forward q)
          ∙ sym (overlapping_walks (power b) r Direction.Forward q (going q order) none)
