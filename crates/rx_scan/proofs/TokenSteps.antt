-- The tokens from a place on: the first of them, and those behind it.
use Rattle.rx_spec.proofs.Prelude.{common_steps, ◌≡◌, ℕ, zero, suc, ◌-◌, ◌<◌, ◌≤◌, Bool, true, false, Option, Some}
use Rattle.rx_spec.proofs.Prelude.{None, Ok, List, ◌∷◌, length, refl, ap, sym, ◌∙◌, subst, arith, ltb-true, ltb-false}
use Rattle.rx_spec.proofs.Prelude.{nat_lt, is_some, HalfMatch, MatchError, HalfAnswer, Ending, OverlappingMatches}
use Rattle.rx_spec.proofs.Prelude.{Table, AreBytes}
use Rattle.rx_lemmas.proofs.Firsts.{by_test}
use Rattle.rx_meaning.specs.AllMatches.{query_at, told_at}
use Rattle.rx_scan.specs.Tokens.{longest, longest_of, unless_ended, Tokens, no_more, token_at, then_tokens, tokens_from}
use Rattle.rx_scan.specs.Tokens.{tokens_left, error_end, Scan, NextToken, Cover, IsMeant, IsMeantEnd}
use Rattle.rx_spec.specs.declared.Direction.{Direction}
use Rattle.rx_lemmas.proofs.OverlappingBounds.{overlapping_in_span}
use Rattle.rx_scan.proofs.TokenMeanings.{longest_is_match, none_matches}
use Rattle.rx_scan.specs.States.{scan_of}
use Rattle.rx_scan.specs.declared.token.ScanEnd.{ScanEnd}
use Rattle.rx_scan.proofs.LongestMatches.{longest_ends, longest_there}

-- what the longest match is, it ends past its place
pub longest_of_ends : (p : ℕ) (matches : OverlappingMatches) (m : HalfMatch) → longest_of p matches ≡ Ok (Some m)
    → p < m.offset
longest_of_ends p matches m e = grind (arith, common_steps, longest_ends)

then_alike : (text : List ℕ) (p : ℕ) (answer : HalfAnswer) (f g : ℕ → Tokens)
    → ((m : HalfMatch) → answer ≡ Ok (Some m) → f m.offset ≡ g m.offset)
    → then_tokens text p answer f ≡ then_tokens text p answer g
then_alike text p (Ok (Some m)) f g same = grind (arith, common_steps)
then_alike text p _ f g same = refl

module _ (t : Table) (text : List ℕ) where
  abbrev answer : ℕ → HalfAnswer
  answer p = longest_of p (told_at t text p)

  pub no_bytes : (n p : ℕ) → length text ≤ p → tokens_from t text n p ≡ no_more ScanEnd.Done
  unfolding tokens_from
  no_bytes zero p h = refl
  no_bytes (suc n) p h = grind (arith, common_steps)

  pub turn : (n p : ℕ) → p < length text
      → tokens_from t text (suc n) p ≡ then_tokens text p (answer p) (λ next. tokens_from t text n next)
  unfolding tokens_from
  turn n p h = grind (arith, common_steps)

  uncut : (n k p : ℕ) → length text - p ≤ n → length text - p ≤ k → tokens_from t text n p ≡ tokens_from t text k p
  uncut zero k p h i = no_bytes zero p (omega arith) ∙ sym (no_bytes k p (omega arith))
  uncut (suc n) zero p h i = no_bytes (suc n) p (omega arith) ∙ sym (no_bytes zero p (omega arith))
  uncut (suc n) (suc k) p h i =
      by_test (nat_lt p (length text))
      (λ b. let more = ltb-true p (length text) b in
      turn n p more
      ∙ then_alike text p (answer p) (λ next. tokens_from t text n next) (λ next. tokens_from t text k next)
      (λ m e. let on = longest_of_ends p (told_at t text p) m e in
      uncut n k m.offset (omega arith) (omega arith))
      ∙ sym (turn k p more))
      (λ b. let past = ltb-false p (length text) b in no_bytes (suc n) p past ∙ sym (no_bytes (suc k) p past))

  -- the first, and those behind it
  pub tokens_again : (p : ℕ) → p < length text
      → tokens_left t text p ≡ then_tokens text p (longest_of p (told_at t text p)) (λ next. tokens_left t text next)
  tokens_again p more =
      let n = length text - p - 1 in
      let one : length text - p ≡ suc n = omega arith in
      grind (arith, common_steps, turn, longest_of_ends, uncut)

  pub no_tokens : (p : ℕ) → p ≡ length text → tokens_left t text p ≡ no_more ScanEnd.Done
  no_tokens p e = no_bytes (length text - p) p (omega arith)

-- ---- what the tokens cover

-- the longest match lies in the text
pub longest_of_within : (t : Table) (text : List ℕ) (p : ℕ) (m : HalfMatch)
    → longest_of p (told_at t text p) ≡ Ok (Some m) → m.offset ≤ length text
longest_of_within t text p m e = by_ending (told_at t text p).ending e
  where
    same : (x : Option HalfMatch) → Path HalfAnswer (Ok x) (Ok (Some m)) → x ≡ Some m
    same x e = cc

    by_ending : (ending : Ending) → unless_ended ending (longest p (told_at t text p).items) ≡ Ok (Some m)
        → m.offset ≤ length text
    by_ending Ending.Ended e =
        let there = longest_there p (told_at t text p).items m (same (longest p (told_at t text p).items) e) in
        (overlapping_in_span t.machine t.settings Direction.Forward (query_at text p) m there).1
    by_ending (Ending.Quits byte offset) e = absurd (cc)
    by_ending (Ending.Refused error) e = absurd (cc)

module _ (t : Table) (text : List ℕ) where
  no_cover : (p : ℕ) → p < length text → (end : ScanEnd) → (end ≡ ScanEnd.Done → ⊥) → Cover text p (no_more end)
  no_cover p more end other = grind (arith, common_steps)

  done_cover : (p : ℕ) → p ≡ length text → Cover text p (no_more ScanEnd.Done)
  done_cover p e = record { stop = p; joined = refl; within = omega arith; whole = (λ d. e, λ d. refl) }

  cover_by : (n p : ℕ) → p < length text → (answer : HalfAnswer) → longest_of p (told_at t text p) ≡ answer
      → ((m : HalfMatch) → p < m.offset → m.offset ≤ length text → Cover text m.offset (tokens_from t text n m.offset))
      → Cover text p (then_tokens text p answer (λ next. tokens_from t text n next))
  cover_by n p more (Ok None) is rest = no_cover p more (ScanEnd.Stuck p) (λ e. absurd (cc))
  cover_by n p more (Ok (Some m)) is rest = grind (arith, common_steps, longest_of_ends, longest_of_within)
  cover_by n p more _ is rest = grind (arith, common_steps)

  pub tokens_cover : (n p : ℕ) → length text - p ≤ n → p ≤ length text → Cover text p (tokens_from t text n p)
  tokens_cover zero p h within = grind (arith, common_steps, no_bytes, done_cover)
  tokens_cover (suc n) p h within =
      by_test (nat_lt p (length text))
      (λ b. let more = ltb-true p (length text) b in
      subst (Cover text p) (sym (turn t text n p more))
      (cover_by n p more (longest_of p (told_at t text p)) refl
      (λ m above upto. tokens_cover n m.offset (omega arith) upto)))
      (λ b. grind (arith, common_steps, ltb-false, no_bytes, done_cover))

-- ---- calls of a scanner at a place

module _ (t : Table) (text : List ℕ) (p : ℕ) (end : Option ScanEnd) (goes : is_some end ≡ false) where
  abbrev scanned : Tokens → Bool → Scan
  scanned left over = record { table = t; text = text; left = left; is_over = over }

  open_scan : scan_of t text p end ≡ scanned (tokens_left t text p) false
  open_scan = grind (arith, common_steps)

  -- no token is left
  pub over_now : (why : ScanEnd) → IsMeantEnd t text why → tokens_left t text p ≡ no_more why
      → NextToken (scan_of t text p end) None (record { table = t; text = text; left = no_more why; is_over = true })
  over_now why meant none =
      let at : scan_of t text p end ≡ scanned (no_more why) false
      = open_scan ∙ ap (λ (left : Tokens). scanned left false) none in
      record {
        first = (ap (λ (s : Scan). s.left.tokens) at, refl);
        end = sym (ap (λ (s : Scan). s.left.end) at);
        over = refl;
        table = sym (ap (λ (s : Scan). s.table) at);
        text = sym (ap (λ (s : Scan). s.text) at);
        meant = tt;
        meant_end = λ first. subst (λ (s : Scan). IsMeantEnd s.table s.text s.left.end) (sym at) meant;
      }

  -- the next one
  pub token_now : (m : HalfMatch) → p < length text → AreBytes text → longest_of p (told_at t text p) ≡ Ok (Some m)
      → NextToken (scan_of t text p end) (Some (token_at text p m)) (scan_of t text m.offset end)
  token_now m more bytes found =
      let behind = tokens_left t text m.offset in
      let first : tokens_left t text p ≡ record { tokens = token_at text p m ∷ behind.tokens; end = behind.end }
      = grind (arith, common_steps, tokens_again) in
      let at : scan_of t text p end
      ≡ scanned (record { tokens = token_at text p m ∷ behind.tokens; end = behind.end }) false
      = open_scan ∙ ap (λ (left : Tokens). scanned left false) first in
      let meant : IsMeant t text (token_at text p m)
      = λ plan es safe serves.
      longest_is_match {plan = plan} (record { serves = serves; safe = safe; bytes = bytes; more = more }) m found in
      let later = open_later m.offset end goes in
      record {
        first = grind (arith, common_steps);
        end = ap (λ (s : Scan). s.left.end) later ∙ sym (ap (λ (s : Scan). s.left.end) at);
        over = ap (λ (s : Scan). s.is_over) later;
        table = ap (λ (s : Scan). s.table) later ∙ sym (ap (λ (s : Scan). s.table) at);
        text = ap (λ (s : Scan). s.text) later ∙ sym (ap (λ (s : Scan). s.text) at);
        meant = subst (λ (s : Scan). IsMeant s.table s.text (token_at text p m)) (sym at) meant;
        meant_end = λ no. absurd no;
      }
    where
      open_later : (o : ℕ) (e : Option ScanEnd) → is_some e ≡ false
          → scan_of t text o e ≡ scanned (tokens_left t text o) false
      open_later o None h = refl
      open_later o (Some e) h = absurd (cc)

-- where there is no longest match, the tokens are over
pub ends_now : (t : Table) (text : List ℕ) (p : ℕ) → p < length text → {answer : HalfAnswer} {why : ScanEnd}
    → longest_of p (told_at t text p) ≡ answer
    → then_tokens text p answer (λ next. tokens_left t text next) ≡ no_more why
    → tokens_left t text p ≡ no_more why
ends_now t text p more {answer} {why} says none = grind (arith, common_steps, tokens_again)

-- where a scan is stuck, no pattern has an end past the place
pub stuck_meant : (t : Table) (text : List ℕ) (p : ℕ) → p < length text → AreBytes text
    → longest_of p (told_at t text p) ≡ Ok None → IsMeantEnd t text (ScanEnd.Stuck p)
stuck_meant t text p more bytes none plan es safe serves =
    none_matches {plan = plan} (record { serves = serves; safe = safe; bytes = bytes; more = more }) none

pub error_meant : (t : Table) (text : List ℕ) (error : MatchError) → IsMeantEnd t text (error_end error)
error_meant t text (MatchError.Quit byte offset) = tt
error_meant t text _ = tt
