-- Needles that are compared byte by byte with the bytes that pass a test.
use Rattle.rx_spec.proofs.Prelude.{common_steps, ◌≡◌, ◌≢◌, ℕ, zero, suc, ◌+◌, ◌-◌, ◌<◌, ◌≤◌, Bool, true, false, eqb}
use Rattle.rx_spec.proofs.Prelude.{List, [], ◌∷◌, ◌++◌, length, get_or, take, filter, refl, sym, ap, ◌∙◌, arith, inl}
use Rattle.rx_spec.proofs.Prelude.{inr, add-one, if◌then◌else◌, range_with_len, bytes_eq, take-length, cases_lt, eq-eqb}
use Rattle.rx_spec.proofs.Prelude.{ne_eqb, length-take-le, take_more, append-nil, filter-append, bytes_eq-Decides}
use Rattle.rx_image_parts.proofs.EachBelow.{range_more}

-- the first needles are the bytes below one that pass
pub record AreMet (needles : List ℕ) (p : ℕ → Bool) (met byte : ℕ) : Type 0 where
  pub within : met ≤ length needles
  pub front : take met needles ≡ filter p (range_with_len 0 byte)

passing : (p : ℕ → Bool) (n : ℕ) → filter p (range_with_len 0 (n + 1))
    ≡ filter p (range_with_len 0 n) ++ (if p n then n ∷ [] else [])
passing p n =
    ap (λ (m : ℕ). filter p (range_with_len 0 m)) (add-one n)
    ∙ ap (filter p) (range_more n 0 ∙ ap (λ (m : ℕ). range_with_len 0 n ++ (m ∷ [])) (omega arith))
    ∙ filter-append p (range_with_len 0 n) (n ∷ [])

pub none_met : (needles : List ℕ) (p : ℕ → Bool) → AreMet needles p 0 0
none_met needles p = record { within = omega arith; front = refl }

pub met_less : {needles : List ℕ} {p : ℕ → Bool} {met byte : ℕ} → AreMet needles p met byte → p byte ≡ false
    → AreMet needles p met (byte + 1)
met_less {needles} {p} {met} {byte} h fails = record {
  within = h.within;
  front =
      h.front
      ∙ sym (
      passing p byte ∙ ap (λ (b : Bool). filter p (range_with_len 0 byte) ++ (if b then byte ∷ [] else [])) fails
      ∙ append-nil (filter p (range_with_len 0 byte))
      );
}

pub met_more : {needles : List ℕ} {p : ℕ → Bool} {met byte : ℕ} → AreMet needles p met byte → p byte ≡ true
    → met < length needles → get_or needles met 0 ≡ byte → AreMet needles p (met + 1) (byte + 1)
met_more {needles} {p} {met} {byte} h passes lt is = record {
  within = omega arith;
  front =
      take_more needles met 0 lt
      ∙ ap (λ (x : ℕ). take met needles ++ (x ∷ [])) is
      ∙ ap (λ (t : List ℕ). t ++ (byte ∷ [])) h.front
      ∙ sym (
      passing p byte
      ∙ ap (λ (b : Bool). filter p (range_with_len 0 byte) ++ (if b then byte ∷ [] else [])) passes
      );
}

-- ---- the test of all bytes

range_split : (n m a : ℕ) → range_with_len a (n + m) ≡ range_with_len a n ++ range_with_len (a + n) m
range_split zero m a = grind (arith, common_steps)
range_split (suc n) m a =
    let e : suc n + m ≡ suc (n + m) = omega arith in
    let f : a + 1 + n ≡ a + suc n = omega arith in
    ap (range_with_len a) e
    ∙ ap (λ (t : List ℕ). a ∷ t)
    (range_split n m (a + 1) ∙ ap (λ (x : ℕ). range_with_len (a + 1) n ++ range_with_len x m) f)

differ : (xs ys : List ℕ) → xs ≢ ys → bytes_eq xs ys ≡ false
differ xs ys ne = grind (arith, common_steps, bytes_eq-Decides)

module _ {needles : List ℕ} {p : ℕ → Bool} {met byte : ℕ} (h : AreMet needles p met byte) (lt : byte < 256)
    (passes : p byte ≡ true) where
  front : List ℕ
  front = filter p (range_with_len 0 byte)

  whole : filter p (range_with_len 0 256)
      ≡ filter p (range_with_len 0 byte) ++ (byte ∷ filter p (range_with_len (byte + 1) (255 - byte)))
  whole =
      let e : 256 ≡ byte + suc (255 - byte) = omega arith in
      ap (λ (n : ℕ). filter p (range_with_len 0 n)) e
      ∙ ap (filter p)
      (range_split byte (suc (255 - byte)) 0
      ∙ ap (λ (a : ℕ). range_with_len 0 byte ++ range_with_len a (suc (255 - byte))) (omega arith))
      ∙ filter-append p (range_with_len 0 byte) (range_with_len byte (suc (255 - byte)))
      ∙ ap
      (λ (b : Bool).
      filter p (range_with_len 0 byte)
      ++ (if b then byte ∷ filter p (range_with_len (byte + 1) (255 - byte))
      else filter p (range_with_len (byte + 1) (255 - byte))))
      passes

  -- the byte stands among those that pass where the needles that were met end
  stands : get_or (filter p (range_with_len 0 256)) met 0 ≡ byte
  stands = grind (arith, common_steps, whole)

  longer : met < length (filter p (range_with_len 0 256))
  longer = grind (arith, common_steps, whole)

  pub too_few : length needles ≤ met → bytes_eq needles (filter p (range_with_len 0 256)) ≡ false
  too_few le = grind (arith, common_steps, differ, longer)

  pub another : get_or needles met 0 ≢ byte → bytes_eq needles (filter p (range_with_len 0 256)) ≡ false
  another ne = grind (arith, common_steps, differ, stands)

pub all_met : {needles : List ℕ} {p : ℕ → Bool} {met byte : ℕ} → AreMet needles p met byte → byte ≡ 256
    → eqb met (length needles) ≡ bytes_eq needles (filter p (range_with_len 0 256))
all_met {needles} {p} {met} {byte} h last =
    let all : List ℕ = filter p (range_with_len 0 256) in
    let front : take met needles ≡ all = h.front ∙ ap (λ (n : ℕ). filter p (range_with_len 0 n)) last in
    elim (cases_lt met (length needles)) [
      | inl less ↦ (
          let len : length all ≡ met = ap length (sym front) ∙ length-take-le met needles h.within in
          let ne : met ≢ length needles = λ e. absurd (omega arith) in
          ne_eqb met (length needles) ne
          ∙ sym (differ needles all (λ e. absurd (omega (arith, ap length e)))))
      | inr le ↦ (
          let same : met ≡ length needles = omega arith in
          let whole : needles ≡ all =
          sym (take-length needles) ∙ ap (λ (n : ℕ). take n needles) (sym same) ∙ front in
          eq-eqb met (length needles) same ∙ sym ((bytes_eq-Decides needles all).1 whole))
    ]
