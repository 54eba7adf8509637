-- A text cut into pieces.
use Rattle.rx_spec.proofs.Prelude.{arith, ◌≡◌, ℕ, ◌<◌, Some, None, List, [], ◌∷◌, ◌++◌, drop, refl, ap, sym, ◌∙◌}
use Rattle.rx_spec.proofs.Prelude.{common_steps, All-append, All-head, All-tail, All-nil, All, concat, AreBytes, Item}
use Rattle.rx_spec.proofs.Prelude.{Ending, Table}
use Rattle.rx_stream.specs.Remaining.{events, ending_events, told_over, units_to, remaining, now}
use Rattle.rx_stream.specs.Calls.{IsFed}
use Rattle.rx_stream.specs.Cuttings.{Feeds, Finishes, CutTellsWhole, CutTellsNow, QuitIsLast, QuitTellsNoMore}
use Rattle.rx_stream.specs.declared.event.Fed.{Fed}
use Rattle.rx_stream.specs.declared.place.Place.{Place}
use Rattle.rx_stream.specs.declared.event.StreamEvent.{StreamEvent}

pub joined_bytes : (pieces : List (List ℕ)) → All AreBytes pieces → AreBytes (concat pieces)
joined_bytes [] all = All-nil (λ b. b < 256)
joined_bytes (piece ∷ pieces) all =
    All-append (λ b. b < 256) piece (concat pieces) (All-head AreBytes piece pieces all)
    (joined_bytes pieces (All-tail AreBytes piece pieces all))

-- A call without an event leaves what the next pieces tell.
module _ {t : Table} {ids : List ℕ} {old new : Place} {piece : List ℕ} {from : ℕ} {fed : Fed}
    (is : IsFed t ids old new piece from fed) where
  pub silent_call : fed.event ≡ None → (more : List ℕ) → AreBytes more
      → remaining t ids old (drop from piece ++ more) ≡ remaining t ids new more
  silent_call none more are = grind (arith, common_steps)

  pub silent_now : fed.event ≡ None → (more : List ℕ) → AreBytes more
      → now t ids old (drop from piece ++ more) ≡ now t ids new more
  silent_now none more are = grind (arith, common_steps)

  pub told_call : {event : StreamEvent} → fed.event ≡ Some event → (more : List ℕ) → AreBytes more
      → remaining t ids old (drop from piece ++ more)
      ≡ event ∷ remaining t ids new (drop fed.used piece ++ more)
  told_call some more are = grind (arith, common_steps)

  pub told_now : {event : StreamEvent} → fed.event ≡ Some event → (more : List ℕ) → AreBytes more
      → now t ids old (drop from piece ++ more) ≡ event ∷ now t ids new (drop fed.used piece ++ more)
  told_now some more are = grind (arith, common_steps)

-- what all calls tell and leave
pub fed_tells : {t : Table} {ids : List ℕ} {old new : Place} {piece : List ℕ} {from : ℕ} {pieces : List (List ℕ)}
    {fed : List StreamEvent} → Feeds t ids old piece from pieces fed new → All AreBytes pieces
    → remaining t ids old (drop from piece ++ concat pieces) ≡ fed ++ remaining t ids new []
fed_tells (Feeds.Last old new piece from fed is none) all = silent_call is none [] (All-nil (λ b. b < 256))
fed_tells (Feeds.Next old here new piece next from fed pieces events is none later) all =
    silent_call is none (concat (next ∷ pieces)) (joined_bytes (next ∷ pieces) all)
    ∙ fed_tells later (All-tail AreBytes next pieces all)
fed_tells {t} {ids} (Feeds.Told old here new piece from fed pieces event events is some later) all =
    told_call is some (concat pieces) (joined_bytes pieces all)
    ∙ ap (λ (es : List StreamEvent). event ∷ es) (fed_tells later all)

pub fed_now : {t : Table} {ids : List ℕ} {old new : Place} {piece : List ℕ} {from : ℕ} {pieces : List (List ℕ)}
    {fed : List StreamEvent} → Feeds t ids old piece from pieces fed new → All AreBytes pieces
    → now t ids old (drop from piece ++ concat pieces) ≡ fed
fed_now {t} {ids} (Feeds.Last old new piece from fed is none) all = grind (arith, common_steps)
fed_now (Feeds.Next old here new piece next from fed pieces events is none later) all =
    silent_now is none (concat (next ∷ pieces)) (joined_bytes (next ∷ pieces) all)
    ∙ fed_now later (All-tail AreBytes next pieces all)
fed_now (Feeds.Told old here new piece from fed pieces event events is some later) all =
    told_now is some (concat pieces) (joined_bytes pieces all)
    ∙ ap (λ (es : List StreamEvent). event ∷ es) (fed_now later all)

pub finish_tells : {t : Table} {ids : List ℕ} {old : Place} {events : List StreamEvent} → Finishes t ids old events
    → remaining t ids old [] ≡ events
finish_tells (Finishes.Over old new is) = is.none refl
finish_tells (Finishes.More old here event events is later) =
    is.tells ∙ ap (λ (es : List StreamEvent). event ∷ es) (finish_tells later)

pub cut_tells_whole : CutTellsWhole
cut_tells_whole t ids mode place here piece pieces fed finished new bytes all feeds finishes =
    ap (λ (es : List StreamEvent). fed ++ es) (sym (finish_tells finishes))
    ∙ sym (fed_tells feeds all)
    ∙ new.tells (piece ++ concat pieces)
    (All-append (λ b. b < 256) piece (concat pieces) bytes (joined_bytes pieces all))

pub cut_tells_now : CutTellsNow
cut_tells_now t ids old new piece from pieces fed bytes all feeds = fed_now feeds all

pub quit_is_last : QuitIsLast
quit_is_last matches byte offset later e = by_items matches.items matches.ending e
  where
    by_ending : (ending : Ending) → ending_events ending ≡ StreamEvent.Quit byte offset ∷ later → later ≡ []
    by_ending Ending.Ended e = absurd (cc)
    by_ending (Ending.Quits b o) e = cc
    by_ending (Ending.Refused error) e = absurd (cc)

    by_items : (items : List Item) (ending : Ending)
        → events (record { items = items; ending = ending }) ≡ StreamEvent.Quit byte offset ∷ later → later ≡ []
    by_items [] ending e = by_ending ending e
    by_items (Item.Skipped ∷ items) ending e = by_items items ending e
    by_items (Item.Reported found ∷ items) ending e = absurd (cc)

pub quit_tells_no_more : QuitTellsNoMore
quit_tells_no_more t ids old new piece from fed byte offset more is quit are =
    quit_is_last (told_over t ids old (units_to old.stage (drop from piece ++ more))) byte offset
    (remaining t ids new (drop fed.used piece ++ more)) (told_call is quit more are)
