-- Rows as they are written: the own ones are the least, and there is one way.
use Rattle.rx_spec.proofs.Prelude.{common_steps, ◌≡◌, ℕ, ◌<◌, true, false, if◌then◌else◌, List, [], ◌∷◌, ◌++◌, length}
use Rattle.rx_spec.proofs.Prelude.{refl, ap, ap₂, sym, ◌∙◌, subst, arith, append_assoc, ⊎_elim, false_from_ne_true}
use Rattle.rx_spec.proofs.Prelude.{bytes_eq-Decides, bytes_eq}
use Rattle.rx_stepper.proofs.Prelude.{Apart, IsLeast, by_test, led, rows_by, seen_true, split_by, without, written}
use Rattle.rx_stepper.proofs.Prelude.{written_as}
use Rattle.rx_stepper.proofs.Members.{In, in_cases, in_nil, was, in_here, in_left, in_right, not_in, apart_last}
use Rattle.rx_stepper.proofs.Without.{without_nil, without_old, without_new, without_append, without_join, without_all}
use Rattle.rx_stepper.proofs.Without.{without_none, without_out, without_within, without_keeps}

-- ---- its equations

split_end : (lead front : List ℕ) → split_by lead front [] ≡ written_as (bytes_eq (without front lead) []) front
unfolding split_by
split_end lead front = refl

split_more : (lead front rest : List ℕ) (x : ℕ) → split_by lead front (x ∷ rest)
    ≡ (if bytes_eq (without front lead) (x ∷ rest) then written_as true front
    else split_by lead (front ++ x ∷ []) rest)
unfolding split_by
split_more lead front rest x = refl

-- what follows is what the lead-in adds
pub split_here : (lead front rows : List ℕ) → without front lead ≡ rows
    → split_by lead front rows ≡ written_as true front
split_here lead front [] e = grind (arith, common_steps, split_end)
split_here lead front (x ∷ rest) e = grind (arith, common_steps, split_more, bytes_eq-Decides)

pub split_later : (lead front rest : List ℕ) (x : ℕ) → bytes_eq (without front lead) (x ∷ rest) ≡ false
    → split_by lead front (x ∷ rest) ≡ split_by lead (front ++ x ∷ []) rest
split_later lead front rest x e = grind (arith, common_steps, split_more)

pub split_nowhere : (lead front : List ℕ) → bytes_eq (without front lead) [] ≡ false
    → split_by lead front [] ≡ written_as false front
split_nowhere lead front e = split_end lead front ∙ ap (λ b. written_as b front) e

-- ---- the rows that are written are the rows

pub split_spells : (lead front rows : List ℕ)
    → rows_by lead (split_by lead front rows).is_led (split_by lead front rows).own ≡ front ++ rows
split_spells lead front [] = grind (arith, common_steps, by_test, bytes_eq-Decides, split_here, split_nowhere)
split_spells lead front (x ∷ rest) =
    by_test (bytes_eq (without front lead) (x ∷ rest))
    (λ e. let same = (bytes_eq-Decides (without front lead) (x ∷ rest)).0 e in
    ap (λ w. rows_by lead w.is_led w.own) (split_here lead front (x ∷ rest) same) ∙ ap (λ l. front ++ l) same)
    (λ e. ap (λ w. rows_by lead w.is_led w.own) (split_later lead front rest x e)
    ∙ split_spells lead (front ++ x ∷ []) rest ∙ append_assoc front (x ∷ []) rest)

pub written_spells : (lead rows : List ℕ)
    → rows_by lead (written lead rows).is_led (written lead rows).own ≡ rows
written_spells lead rows = grind (arith, common_steps, split_spells)

-- ---- where a row of the lead-in is missing nothing follows

apart_from : (lead front rows : List ℕ) (q : ℕ) → In lead q → was (front ++ rows) q ≡ false
    → bytes_eq (without front lead) rows ≡ false
apart_from lead front rows q i new = grind (arith, common_steps, false_from_ne_true, bytes_eq-Decides, without_keeps)

pub split_missing : (lead front rows : List ℕ) (q : ℕ) → In lead q → was (front ++ rows) q ≡ false
    → split_by lead front rows ≡ written_as false (front ++ rows)
split_missing lead front [] q i new = grind (arith, common_steps, split_nowhere, apart_from)
split_missing lead front (x ∷ rest) q i new =
    split_later lead front rest x (apart_from lead front (x ∷ rest) q i new)
    ∙ split_missing lead (front ++ x ∷ []) rest q i
    (ap (λ l. was l q) (append_assoc front (x ∷ []) rest) ∙ new)
    ∙ ap (written_as false) (append_assoc front (x ∷ []) rest)

pub written_missing : (lead rows : List ℕ) (q : ℕ) → In lead q → was rows q ≡ false
    → written lead rows ≡ written_as false rows
written_missing lead rows q i new = grind (arith, common_steps, split_missing)

-- ---- the least front

-- the last of a list that isn't empty
ends : (y : ℕ) (ys : List ℕ) → (front : List ℕ) × (x : ℕ) × (y ∷ ys ≡ front ++ x ∷ [])
ends y [] = ([], y, refl)
ends y (z ∷ zs) = let t = ends z zs in (y ∷ t.0, t.1, ap (λ (l : List ℕ). y ∷ l) t.2)

-- what is left without a longer list, where the shorter one gives the same rows
last_left : (lead p front : List ℕ) (x : ℕ) {q : List ℕ} → q ≡ (p ++ front) ++ x ∷ [] → Apart q
    → without p lead ≡ (front ++ x ∷ []) ++ without q lead → without (p ++ front) lead ≡ x ∷ without q lead
last_left lead p front x {q} e a w =
    without_append p front lead ∙ ap (without front) w
    ∙ without_join front (front ++ x ∷ []) (without q lead)
    ∙ ap₂ (λ (l m : List ℕ). l ++ m)
    (without_join front front (x ∷ [])
    ∙ ap₂ (λ (l m : List ℕ). l ++ m) (without_all front front (λ y i. i)) (without_none front (x ∷ []) here))
    (without_none front (without q lead) behind)
  where
    here : (y : ℕ) → In (x ∷ []) y → In front y → ⊥
    here y i f = grind (arith, common_steps, apart_last)

    behind : (y : ℕ) → In (without q lead) y → In front y → ⊥
    behind y i f = grind (arith, common_steps, without_out)

no_shorter : (lead p ys : List ℕ) (y : ℕ) {q : List ℕ} → q ≡ p ++ y ∷ ys → Apart q → IsLeast lead q
    → without p lead ≡ (y ∷ ys) ++ without q lead → ⊥
no_shorter lead p ys y {q} e a least w =
    let t = ends y ys in
    let whole : q ≡ (p ++ t.0) ++ t.1 ∷ [] =
    e ∙ ap (λ (l : List ℕ). p ++ l) t.2 ∙ sym (append_assoc p t.0 (t.1 ∷ [])) in
    grind (arith, common_steps, last_left)

pub split_least : (lead front rest own : List ℕ) → own ≡ front ++ rest → Apart own → IsLeast lead own
    → split_by lead front (rest ++ without own lead) ≡ written_as true own
split_least lead front [] own e a least = grind (arith, common_steps, split_here)
split_least lead front (x ∷ rest) own e a least =
    by_test (bytes_eq (without front lead) ((x ∷ rest) ++ without own lead))
    (λ b. absurd (no_shorter lead front rest x e a least
    ((bytes_eq-Decides (without front lead) ((x ∷ rest) ++ without own lead)).0 b)))
    (λ b. split_later lead front (rest ++ without own lead) x b
    ∙ split_least lead (front ++ x ∷ []) rest own (e ∙ sym (append_assoc front (x ∷ []) rest)) a least)

pub written_least : (lead own : List ℕ) → 0 < length lead → Apart own → IsLeast lead own
    → written lead (led own lead) ≡ written_as true own
written_least lead own h a least = grind (arith, common_steps, split_least)

-- ---- the last row may go where it would come again at once

pub dropped : (lead front : List ℕ) (x : ℕ) → without front lead ≡ x ∷ without (front ++ x ∷ []) lead
    → led front lead ≡ led (front ++ x ∷ []) lead
dropped lead front x e = grind (arith, common_steps)

-- that is so where all that stands before it in the lead-in's rows stands in front of it
pub comes_again : (front before behind : List ℕ) (x : ℕ) → Apart (front ++ x ∷ []) → Apart (before ++ x ∷ behind)
    → ((y : ℕ) → In before y → In front y)
    → without front (before ++ x ∷ behind) ≡ x ∷ without (front ++ x ∷ []) (before ++ x ∷ behind)
comes_again front before behind x a b h =
    without_join front before (x ∷ behind)
    ∙ ap₂ (λ (l m : List ℕ). l ++ m) (without_all front before h)
    (without_new front behind x (not_in front x (apart_last front x a)))
    ∙ ap (λ (l : List ℕ). x ∷ l)
    (sym (without_none (x ∷ []) (without front behind) (λ y i s. other before b y i s))
    ∙ sym (without_append front (x ∷ []) behind)
    ∙ sym (without_join (front ++ x ∷ []) before (x ∷ behind)
    ∙ ap₂ (λ (l m : List ℕ). l ++ m)
    (without_all (front ++ x ∷ []) before (λ y i. in_left front (x ∷ []) y (h y i)))
    (without_old (front ++ x ∷ []) behind x (in_right front (x ∷ []) x (in_here x [])))))
  where
    other : (before : List ℕ) → Apart (before ++ x ∷ behind) → (y : ℕ) → In (without front behind) y → In (x ∷ []) y
        → ⊥
    other [] b y i s = grind (arith, common_steps, seen_true, without_within)
    other (z ∷ zs) b y i s = other zs b.1 y i s

-- and only there
pub comes_from : (front lead rest : List ℕ) (x : ℕ) → without front lead ≡ x ∷ rest
    → (before : List ℕ) × (behind : List ℕ) × (lead ≡ before ++ x ∷ behind) × ((y : ℕ) → In before y → In front y)
comes_from front [] rest x e = let n : without front [] ≡ [] = without_nil front in absurd (cc)
comes_from front (z ∷ zs) rest x e =
    by_test (was front z)
    (λ f. let t = comes_from front zs rest x (sym (without_old front zs z f) ∙ e) in (
      z ∷ t.0,
      t.1,
      ap (λ (l : List ℕ). z ∷ l) t.2,
      λ y i. ⊎_elim (λ (s : y ≡ z). subst (In front) (sym s) f) (λ (o : In t.0 y). t.3 y o) (in_cases z y t.0 i),
    ))
    (λ f. let n : without front (z ∷ zs) ≡ z ∷ without front zs = without_new front zs z f in
    let same : z ≡ x = cc in
    ([], zs, ap (λ (v : ℕ). v ∷ zs) same, λ y i. absurd (in_nil y i)))
