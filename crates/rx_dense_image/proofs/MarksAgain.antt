-- What was written is read again: needles, and all marks.
use Rattle.rx_spec.proofs.Prelude.{common_steps, ◌≡◌, ℕ, ◌+◌, ◌*◌, ◌<◌, ◌≤◌, List, [], ◌∷◌, ◌++◌, length, get_or, drop}
use Rattle.rx_spec.proofs.Prelude.{map, Ok, refl, sym, ap, subst, ◌∙◌, append_assoc, arith, flat_map, range_with_len}
use Rattle.rx_spec.proofs.Prelude.{w32, append-nil, fill_by_all}
use Rattle.rx_wire.specs.declared.order.Order.{Order}
use Rattle.rx_wire.specs.Kinds.{Reads}
use Rattle.rx_wire.specs.Fields.{bytes_at, field}
use Rattle.rx_wire.proofs.Words.{part_there}
use Rattle.rx_wire.proofs.Fields.{bytes_again, u32_again}
use Rattle.rx_dense_image.specs.Marks.{AreReadMarks, Marks, accel_text, accels_at, accels_text, marks_at, marks_text}
use Rattle.rx_dense_image.specs.Marks.{needles_in, needles_of}
use Rattle.rx_image_parts.specs.QuitBytes.{quit_text}
use Rattle.rx_image_parts.specs.SpecialIds.{special_text}
use Rattle.rx_dense_image.proofs.ImageLengths.{length-accel, length-each}
use Rattle.rx_image_parts.proofs.SpecialAgain.{AreSpecialIds, quit_again, special_again}

-- ---- needles

needles_again : (needles rest : List ℕ) → length needles ≤ 3 → needles_of (accel_text needles ++ rest) ≡ needles
needles_again [] rest few = refl
needles_again (a ∷ []) rest few = refl
needles_again (a ∷ (b ∷ [])) rest few = refl
needles_again (a ∷ (b ∷ (c ∷ []))) rest few = refl
needles_again (a ∷ (b ∷ (c ∷ (d ∷ more)))) rest few = absurd (omega arith)

each_again : (accels : List (List ℕ)) (rest : List ℕ) (k : ℕ) → k < length accels
    → ((i : ℕ) → length (get_or accels i []) ≤ 3)
    → needles_in (flat_map accel_text accels ++ rest) k ≡ get_or accels k []
each_again accels rest k lt few =
    ap needles_of (part_there accel_text 8 length-accel accels rest k [] lt)
    ∙ needles_again (get_or accels k []) (flat_map accel_text (drop (k + 1) accels) ++ rest) (few k)

accels_again : (order : Order) (word_len : ℕ) (marks : Marks) → AreReadMarks word_len marks
    → Reads (accels_at order) (accels_text order marks.accels) marks.accels
unfolding accels_at
accels_again order word_len marks h rest =
    let accels : List (List ℕ) = marks.accels in
    let each : List ℕ = flat_map accel_text accels in
    let regrouped : accels_text order accels ++ rest ≡ field order w32 (length accels) ++ (each ++ rest) =
    append_assoc (field order w32 (length accels)) each rest in
    let front : bytes_at (8 * length accels) (each ++ rest) ≡ Ok (each, rest) =
    subst (λ (n : ℕ). bytes_at n (each ++ rest) ≡ Ok (each, rest)) (length-each accels) (bytes_again each rest) in
    let at : (k : ℕ) → k < length accels → get_or accels k [] ≡ needles_in each k =
    λ k lt.
    sym (each_again accels [] k lt h.accels.few_needles) ∙ ap (λ (t : List ℕ). needles_in t k) (append-nil each) in
    let same : accels ≡ map (needles_in each) (range_with_len 0 (length accels)) =
    fill_by_all (needles_in each) accels (length accels) [] refl at in
    grind (arith, common_steps, u32_again)

-- ---- all of them

pub marks_again : (order : Order) (word_len : ℕ) (marks : Marks) → AreReadMarks word_len marks
    → AreSpecialIds marks.special → Reads (marks_at order word_len) (marks_text order marks) marks
unfolding marks_at
marks_again order word_len marks h ids rest =
    let t1 : List ℕ = accels_text order marks.accels ++ (quit_text order marks.quit ++ rest) in
    let regrouped : marks_text order marks ++ rest ≡ special_text order marks.special ++ t1 =
    append_assoc (special_text order marks.special) (accels_text order marks.accels ++ quit_text order marks.quit) rest
    ∙ ap (λ (t : List ℕ). special_text order marks.special ++ t)
    (append_assoc (accels_text order marks.accels) (quit_text order marks.quit) rest) in
    ap (marks_at order word_len) regrouped
    ∙ rw (
      special_again order word_len marks.special h.special h.within ids t1,
      accels_again order word_len marks h (quit_text order marks.quit ++ rest),
      quit_again order marks.quit h.quit rest,
    )
    refl
