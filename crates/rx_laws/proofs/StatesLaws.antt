-- First occurrences of whole lists, and the facts that are kept on both sides.
use Rattle.rx_spec.proofs.Prelude.{◌≡◌, ◌≢◌, ℕ, suc, List, [], ◌∷◌, ◌++◌, ap, sym, ◌∙◌, arith, append-nil, Contains}
use Rattle.rx_spec.proofs.Prelude.{AllPairs, ◌↔◌, Facts, both, holds_read, facts_read, fresh, firsts}
use Rattle.rx_spec.specs.declared.Direction.{Direction}
use Rattle.rx_spec.specs.declared.Look.{Look}
use Rattle.rx_lemmas.proofs.Facts.{Cover, kept_both}
use Rattle.rx_lemmas.proofs.Firsts.{Contains-nil, Apart, Apart-fresh, AllPairs-apart, fresh_within, fresh_keeps}
use Rattle.rx_lemmas.proofs.Firsts.{fresh_append, fresh_itself}

pub firsts_members : (xs : List ℕ) (x : ℕ) → Contains (firsts xs) x ↔ Contains xs x
firsts_members xs x = (fresh_within [] xs x, λ c. fresh_keeps [] xs x c (Contains-nil x))

pub firsts_distinct : (xs : List ℕ) → AllPairs (λ x y. x ≢ y) (firsts xs)
firsts_distinct xs = AllPairs-apart (firsts xs) (Apart-fresh [] xs)

pub firsts_order : (xs ys : List ℕ) → firsts (xs ++ ys) ≡ firsts xs ++ fresh xs ys
firsts_order xs ys = fresh_append [] xs ys ∙ ap (λ seen. firsts xs ++ fresh seen ys) (append-nil xs)

tail_apart : (x : ℕ) (xs : List ℕ) → AllPairs (λ y z. y ≢ z) (x ∷ xs) → AllPairs (λ y z. y ≢ z) xs
tail_apart x xs a i j d h k = a (suc i) (suc j) d (omega arith) (omega arith)

apart_from_pairs : (xs : List ℕ) → AllPairs (λ y z. y ≢ z) xs → Apart xs
apart_from_pairs [] a = tt
apart_from_pairs (x ∷ xs) a = (
  (λ c. a 0 (suc c.0) x (omega arith) (omega arith) (sym c.2)),
  apart_from_pairs xs (tail_apart x xs a),
)

pub firsts_itself : (xs : List ℕ) → AllPairs (λ x y. x ≢ y) xs → firsts xs ≡ xs
firsts_itself xs a = fresh_itself [] xs (apart_from_pairs xs a) (λ x c d. Contains-nil x d)

pub kept_read_both : (direction : Direction) (look : Look) (k x y : Facts) → Cover k (facts_read look)
    → holds_read direction look (both k x) (both k y) ≡ holds_read direction look x y
kept_read_both Direction.Reverse look k x y c = kept_both look k y x c
kept_read_both Direction.Forward look k x y c = kept_both look k x y c
