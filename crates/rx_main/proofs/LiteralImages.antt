-- Searches of a text with an image that searches for one literal.
use Rattle.rx_spec.proofs.Prelude.{common_steps, ◌≡◌, ℕ, ◌+◌, ◌<◌, ◌≤◌, min, List, ◌++◌, length, Option, Some, None, Ok}
use Rattle.rx_spec.proofs.Prelude.{Err, ap, sym, ◌-◌, ◌∙◌, subst, arith, length-append, drop-append_seam}
use Rattle.rx_spec.proofs.Prelude.{take-append_seam, IfOk, IfSome, Result, option_map, Consumes, Anchored, IsFit}
use Rattle.rx_base.specs.Search.{mode_of}
use Rattle.rx_image.specs.Pairs.{Pair, reads}
use Rattle.rx_prefilter.specs.OnlyLiterals.{IsFirstPlace, SearchesFor, literal_match}
use Rattle.rx_prefilter.specs.declared.only.OnlyLiteral.{OnlyLiteral}
use Rattle.rx_regex.specs.Pairs.{forward_table, reverse_table}
use Rattle.rx_prefilter.specs.Seeking.{IsSought}
use Rattle.rx_transfer.proofs.Transfers.{consumes_more}
use Rattle.rx_main.specs.Lines.{Reply}
use Rattle.rx_main.specs.Search.{SearchReplies, answer_reply, asked, pair_reply, span_reply}
use Rattle.rx_main.specs.Seek.{IsLiteralImage}
use Rattle.rx_main.specs.declared.command.Search.{Search}
use Rattle.rx_main.proofs.SearchAnswers.{fit_reply, searched_reply, span_told}

-- the literal of tables that were read
pub of_tables : {E : Type 0} (image : List ℕ) (pair : Pair) {size : ℕ} → reads image ≡ Ok (pair, size)
    → (result : Result (Option OnlyLiteral) E)
    → IfOk result (λ found. IfSome found (λ only.
    SearchesFor (forward_table pair) (reverse_table pair) only.bytes.items only.pattern))
    → IfOk result (λ found. IfSome found (λ only. 0 < length only.bytes.items))
    → IfOk result (λ found. IfSome found (λ only. IsLiteralImage image only.bytes.items only.pattern))
of_tables image pair {size} read (Ok (Some only)) searches some = grind (arith, common_steps)
of_tables image pair read (Ok None) searches some = tt
of_tables image pair read (Err error) searches some = tt

-- an image and too much text behind it
pub long_behind : (before after now : Option (List ℕ)) (image text : List ℕ) → Consumes before after image
    → Consumes after now text → length image ≤ 262144 → length text ≡ 16777216 - length image + 1
    → (bytes : List ℕ) × (length bytes ≡ 16777217) × Consumes before now bytes
long_behind before after now image text first rest few many = grind (arith, common_steps, length-append, consumes_more)

-- where it was found it ends within the text
pub ends_within : {text literal : List ℕ} {start end len : ℕ} (place : Option ℕ)
    → IsSought text literal start end len place → len ≤ 16777216
    → IfSome place (λ at. at + length literal ≤ 16777216)
ends_within None sought few = tt
ends_within (Some at) sought few = grind (arith, common_steps)

module _ (s : Search) (image text literal : List ℕ) {pattern len : ℕ} {place : Option ℕ}
    (size : length image ≡ s.image_len) (mode : mode_of s.mode ≡ Anchored.No)
    (is : IsLiteralImage image literal pattern) (sought : IsSought text literal s.start s.end len place) where
  by_pair : (reply : Reply) → reply ≡ pair_reply is.pair (asked s text) → SearchReplies s (image ++ text) reply
  by_pair reply told = grind (arith, common_steps, searched_reply, take-append_seam, drop-append_seam)

  -- the span fits
  pub found_told : s.end ≤ len → s.start ≤ s.end + 1 → (reply : Reply)
      → reply ≡ answer_reply (Ok (option_map (literal_match pattern (length literal)) place))
      → SearchReplies s (image ++ text) reply
  found_told high order reply told =
      let count = sought.count in
      let fit : IsFit (asked s text) = record { within = omega (arith, count, high); ordered = order } in
      let all : min s.end len ≡ s.end = omega (arith, high) in
      let first = subst (λ (end : ℕ). IsFirstPlace text literal s.start end place) all sought.first in
      by_pair reply
      (told ∙ sym (ap answer_reply (is.answers (asked s text) fit sought.bytes mode place first))
      ∙ sym (fit_reply is.pair (asked s text) fit))

  -- it doesn't
  pub unfit_told : ((s.end ≤ len) × (s.start ≤ s.end + 1) → ⊥) → (reply : Reply) → reply ≡ span_reply
      → SearchReplies s (image ++ text) reply
  unfit_told out reply told = grind (arith, common_steps, by_pair, span_told)
