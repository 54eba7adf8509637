-- Links as they are kept: entries over one list of words.
use Rattle.std.proofs.lemmas.Grind.{common_steps}
use Rattle.std.proofs.Common.{◌≡◌, ℕ, ◌≤◌, List, [], ◌∷◌, ◌++◌, length, map, refl, ap, ap₂, arith}
use Rattle.std.proofs.lemmas.List.{map-append, take-append-le, drop_at}
use Rattle.std.proofs.lemmas.List.Elements.{All-head, All-tail}
use Rattle.std.proofs.lemmas.Slice.{between_is, between_to_end}
use Rattle.std.specs.Prelude.{slice_range}
use Rattle.rx_interner.specs.Links.{Link}
use Rattle.rx_interner.specs.Entries.{link_in, IsSpan, AreSpans}
use Rattle.rx_interner.specs.declared.links.Entry.{Entry}

-- more words behind change no key
range-more_words : (words more : List ℕ) (start end : ℕ) → end ≤ length words
    → slice_range (words ++ more) start end ≡ slice_range words start end
range-more_words words more start end within = grind (arith, common_steps, between_is, take-append-le)

pub links-more_words : (words more : List ℕ) (entries : List Entry) → AreSpans words entries
    → map (link_in (words ++ more)) entries ≡ map (link_in words) entries
links-more_words words more [] spans = refl
links-more_words words more (entry ∷ entries) spans =
    let within = All-head (IsSpan words) entry entries spans in
    let key = range-more_words words more entry.start entry.end within.1 in
    ap₂ (λ (link : Link) (links : List Link). link ∷ links)
    (ap (λ k. record { key = k; older = entry.older }) key)
    (links-more_words words more entries (All-tail (IsSpan words) entry entries spans))

-- an entry that names the words behind
pub links-push : (words key : List ℕ) (entries : List Entry) (entry : Entry) {older : ℕ} → AreSpans words entries
    → entry.start ≡ length words → entry.end ≡ length (words ++ key) → entry.older ≡ older
    → map (link_in (words ++ key)) (entries ++ entry ∷ [])
    ≡ map (link_in words) entries ++ record { key = key; older = older } ∷ []
links-push words key entries entry spans start end older =
    grind (arith, common_steps, between_to_end, drop_at, map-append, links-more_words)
