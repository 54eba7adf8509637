-- What a call of an overlapping search adds to a set of patterns.
use Rattle.rx_spec.proofs.Prelude.{common_steps, ◌≡◌, ◌<◌, ◌||◌, Bool, true, false, if◌then◌else◌, Option, Some, None}
use Rattle.rx_spec.proofs.Prelude.{Result, Ok, Err, List, [], ◌∷◌, length, refl, ap, ◌∙◌, arith, slice_set, IsTrue, ◌↔◌}
use Rattle.rx_spec.proofs.Prelude.{or_left, or_right, eq-eqb, HalfMatch, MatchError, Item, Ending, OverlappingMatches}
use Rattle.rx_base.specs.PatternSet.{pattern_count}
use Rattle.rx_search.specs.Collected.{Collected, is_full, ending_result, collected}
use Rattle.rx_search.specs.OverlappingCalls.{item_call}
use Rattle.rx_search.proofs.OverlapSplits.{IsCall, first_item}

-- what is collected of all that is left
abbrev pub collect : Bool → OverlappingMatches → List Bool → Collected
collect earliest matches set = collected earliest matches.items matches.ending set

collected-nil : (earliest : Bool) (ending : Ending) (set : List Bool)
    → collected earliest [] ending set ≡ record { result = ending_result ending; set = set }
unfolding collected
collected-nil earliest ending set = refl

collected-skipped : (earliest : Bool) (items : List Item) (ending : Ending) (set : List Bool)
    → collected earliest (Item.Skipped ∷ items) ending set ≡ record { result = Ok tt; set = set }
unfolding collected
collected-skipped earliest items ending set = refl

collected-more : (earliest : Bool) (h : HalfMatch) (items : List Item) (ending : Ending) (set : List Bool)
    → collected earliest (Item.Reported h ∷ items) ending set
    ≡ (let more = slice_set set h.pattern true in
    if is_full more || earliest then record { result = Ok tt; set = more } else collected earliest items ending more)
unfolding collected
collected-more earliest h items ending set = refl

module _ (earliest : Bool) (set : List Bool) {result : Result (Unit {0}) MatchError} {told : Option HalfMatch}
    {after : OverlappingMatches} where
  error_of_items : (items : List Item) (ending : Ending) (error : MatchError) → result ≡ Err error
      → record { result = result; told = told; left = after } ≡ item_call items ending
      → collected earliest items ending set ≡ record { result = Err error; set = set }
  error_of_items [] ending error r e = grind (arith, common_steps, collected-nil)
  error_of_items (Item.Reported h ∷ items) ending error r e = grind (arith, common_steps)
  error_of_items (Item.Skipped ∷ items) ending error r e = grind (arith, common_steps)

  none_of_items : (items : List Item) (ending : Ending) → result ≡ Ok tt → told ≡ None
      → record { result = result; told = told; left = after } ≡ item_call items ending
      → collected earliest items ending set ≡ record { result = Ok tt; set = set }
  none_of_items [] ending r t e = grind (arith, common_steps, collected-nil)
  none_of_items (Item.Reported h ∷ items) ending r t e = grind (arith, common_steps)
  none_of_items (Item.Skipped ∷ items) ending r t e = collected-skipped earliest items ending set

module _ (earliest : Bool) (set : List Bool) {before : OverlappingMatches} {result : Result (Unit {0}) MatchError}
    {told : Option HalfMatch} {after : OverlappingMatches} (call : IsCall before result told after) where
  pub collect_error : (error : MatchError) → result ≡ Err error
      → collect earliest before set ≡ record { result = Err error; set = set }
  collect_error error r = error_of_items earliest set before.items before.ending error r call.is

  pub collect_none : result ≡ Ok tt → told ≡ None → collect earliest before set ≡ record { result = Ok tt; set = set }
  collect_none r t = none_of_items earliest set before.items before.ending r t call.is

  module _ (h : HalfMatch) (t : told ≡ Some h) where
    parts : (rest : List Item) × (before.items ≡ Item.Reported h ∷ rest) × (result ≡ Ok tt)
        × (after ≡ record { items = rest; ending = before.ending })
    parts = first_item h before.items before.ending t call.is

    abbrev more : List Bool
    more = slice_set set h.pattern true

    abbrev on : Bool → Collected
    on stops = if stops then record { result = Ok tt; set = more } else collect earliest after more

    collect_on : collect earliest before set ≡ on (is_full more || earliest)
    collect_on = grind (arith, common_steps, parts, collected-more)

    pub collect_full : is_full (slice_set set h.pattern true) ≡ true
        → collect earliest before set ≡ record { result = Ok tt; set = slice_set set h.pattern true }
    collect_full full = collect_on ∙ ap on (or_left (is_full more) earliest full)

    pub collect_first : earliest ≡ true
        → collect earliest before set ≡ record { result = Ok tt; set = slice_set set h.pattern true }
    collect_first first = collect_on ∙ ap on (or_right (is_full more) earliest first)

    pub collect_on_next : is_full (slice_set set h.pattern true) ≡ false → earliest ≡ false
        → collect earliest before set ≡ collect earliest after (slice_set set h.pattern true)
    collect_on_next room later = collect_on ∙ ap (λ (full : Bool). on (full || earliest)) room ∙ ap on later

    pub fewer_items : length after.items < length before.items
    fewer_items = grind (arith, common_steps, parts)

-- what a set says of itself
pub full_is : (set : List Bool) {full : Bool} → (IsTrue full ↔ (pattern_count set ≡ length set)) → full ≡ true
    → is_full set ≡ true
full_is set is e = eq-eqb (pattern_count set) (length set) (is.0 e)

pub open_is : (set : List Bool) {full : Bool} → (IsTrue full ↔ (pattern_count set ≡ length set)) → full ≡ false
    → is_full set ≡ false
open_is set {full} is e = grind (arith, common_steps)
