-- All tokens of a text are the longest matches from where they start, over a table that tells all matches.
use Rattle.rx_spec.proofs.Prelude.{◌≡◌, ℕ, zero, suc, ◌-◌, ◌<◌, Some, Ok, List, length, All, refl, sym, subst, ltb-true}
use Rattle.rx_spec.proofs.Prelude.{ltb-false, All-cons, All-nil, nat_lt, AreBytes, Expression, IsLoopSafe, HalfAnswer}
use Rattle.rx_spec.proofs.Prelude.{Table}
use Rattle.rx_plan.specs.Plans.{Plan}
use Rattle.rx_lemmas.proofs.Firsts.{by_test}
use Rattle.rx_meaning.specs.AllBuilds.{all_build}
use Rattle.rx_meaning.specs.AllMatches.{ServesAll, told_at}
use Rattle.rx_scan.specs.Tokens.{IsLongestToken, Tokens, TokensAreLongest, longest_of, then_tokens, token_at}
use Rattle.rx_scan.specs.Tokens.{tokens_from}
use Rattle.rx_scan.specs.declared.token.Token.{Token}
use Rattle.rx_scan.proofs.TokenMeanings.{longest_is_match}
use Rattle.rx_scan.proofs.TokenSteps.{no_bytes, turn}

module _ (t : Table) (plan : Plan) (es : List Expression) (text : List ℕ) (serves : ServesAll t (all_build plan es))
    (safe : All IsLoopSafe es) (bytes : AreBytes text) where
  abbrev IsLongest : Token → Type 0
  IsLongest = IsLongestToken es plan.line_terminator text

  abbrev AreLongest : Tokens → Type 0
  AreLongest all = All IsLongest all.tokens

  longest_by : (n p : ℕ) → p < length text → (answer : HalfAnswer) → longest_of p (told_at t text p) ≡ answer
      → ((next : ℕ) → AreLongest (tokens_from t text n next))
      → AreLongest (then_tokens text p answer (λ next. tokens_from t text n next))
  longest_by n p more (Ok (Some m)) is rest =
      All-cons IsLongest (token_at text p m) (tokens_from t text n m.offset).tokens
      (longest_is_match {plan = plan} (record { serves = serves; safe = safe; bytes = bytes; more = more }) m is)
      (rest m.offset)
  longest_by n p more _ is rest = All-nil IsLongest

  none_longest : (p : ℕ) → AreLongest (tokens_from t text zero p)
  unfolding tokens_from
  none_longest p = All-nil IsLongest

  all_longest : (n p : ℕ) → AreLongest (tokens_from t text n p)
  all_longest zero p = none_longest p
  all_longest (suc n) p =
      by_test (nat_lt p (length text))
      (λ b. let more = ltb-true p (length text) b in
      subst AreLongest (sym (turn t text n p more))
      (longest_by n p more (longest_of p (told_at t text p)) refl (all_longest n)))
      (λ b. subst AreLongest (sym (no_bytes t text (suc n) p (ltb-false p (length text) b))) (All-nil IsLongest))

pub tokens_are_longest : TokensAreLongest
tokens_are_longest t plan es text serves safe bytes = all_longest t plan es text serves safe bytes (length text - 0) 0
