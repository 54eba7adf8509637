-- What is reached from a row without reading gives what the row gives.
use Rattle.rx_spec.proofs.Prelude.{arith, ◌≡◌, ℕ, zero, suc, Option, List, [], ◌∷◌, refl, ap₂, sym, ◌∙◌, subst}
use Rattle.rx_spec.proofs.Prelude.{common_steps, option_or, flat_map, Reading, holds_at, first_of, Row, AllNext, Short}
use Rattle.rx_spec.proofs.Prelude.{row_at, Passing, reach_by, reach, closure, firsts}
use Rattle.std.specs.List.{AllByRecursion as Every}
use Rattle.rx_spec.specs.States.{look_reach}
use Rattle.rx_spec.specs.declared.Look.{Look}
use Rattle.rx_lemmas.proofs.Every.{every-append}
use Rattle.rx_lemmas.proofs.Patterns.{depth_of}
use Rattle.rx_lemmas.proofs.ShortPaths.{AllNext-more}
use Rattle.rx_meaning.proofs.FirstSuccess.{first_of-nil, first_of-single, first_of-append, first_of-flat_map}
use Rattle.rx_meaning.proofs.FirstSuccess.{first_of-alike}
use Rattle.rx_meaning.proofs.FirstOccurrences.{firsts_keep, fresh_every}
use Rattle.rx_meaning.proofs.Solution.{Valued, given, gives_at, given_as, given_solves}

-- Rows at which a closure ends: they read a byte, they match, or they are assertions that stand for
-- themselves.
abbrev pub IsReady : Passing → Row → Type 0
IsReady pass (Row.Bytes set next) = Unit {0}
IsReady pass (Row.Split first second) = ⊥
IsReady Passing.Standing (Row.Look look next) = Unit {0}
IsReady (Passing.Tested holds) (Row.Look look next) = ⊥
IsReady pass (Row.Match pattern) = Unit {0}
IsReady pass Row.Fail = ⊥

module _ (rows : List Row) (pass : Passing) where
  -- all of a list are
  abbrev pub AllReady : List ℕ → Type 0
  AllReady qs = Every (λ p. IsReady pass (row_at rows p)) qs

  row_ready : (reached : ℕ → List ℕ) (q : ℕ) (row : Row) → row_at rows q ≡ row → ((p : ℕ) → AllReady (reached p))
      → AllReady (reach_by pass reached q row)
  row_ready reached q (Row.Bytes set next) e h = (subst (IsReady pass) (sym e) tt, tt)
  row_ready reached q (Row.Split first second) e h = grind (arith, common_steps)
  row_ready reached q (Row.Look look next) e h = grind (arith, common_steps)
  row_ready reached q (Row.Match pattern) e h = (subst (IsReady pass) (sym e) tt, tt)
  row_ready reached q Row.Fail e h = tt

  reach_ready : (n q : ℕ) → AllReady (reach rows pass n q)
  unfolding reach
  reach_ready zero q = tt
  reach_ready (suc n) q = row_ready (λ p. reach rows pass n p) q (row_at rows q) refl (reach_ready n)

  each_ready : (qs : List ℕ) → AllReady (flat_map (λ q. closure rows pass q) qs)
  each_ready [] = tt
  each_ready (q ∷ qs) = grind (arith, common_steps, every-append, reach_ready, depth_of, each_ready qs)

  -- the rows of a closed list are ready
  pub closed_ready : (qs : List ℕ) → AllReady (firsts (flat_map (λ q. closure rows pass q) qs))
  closed_ready qs = grind (arith, common_steps, fresh_every, each_ready)

-- a test decides an assertion as it stands at a place
abbrev pub DecidesAt : Reading → ℕ → Passing → Look → Type 0
DecidesAt r i Passing.Standing look = Unit {0}
DecidesAt r i (Passing.Tested holds) look = holds look ≡ holds_at r look i

-- it does so for every assertion of the rows
abbrev pub DecidesRows : List Row → Reading → ℕ → Passing → Type 0
DecidesRows rows r i pass = (q : ℕ) (look : Look) (next : ℕ) → row_at rows q ≡ Row.Look look next
    → DecidesAt r i pass look

module _ {V : Type 0} (x : Valued V) where
  -- what rows give first at a place
  abbrev pub first_given : ℕ → List ℕ → Option V
  first_given i qs = first_of (λ q. given x q i) qs

  module _ (look : Look) (next q i : ℕ) where
    look_gives : (pass : Passing) (reached : List ℕ) → DecidesAt x.reading i pass look
        → given x q i ≡ gives_at x i (Row.Look look next) → first_given i reached ≡ given x next i
        → first_given i (look_reach pass look q reached) ≡ gives_at x i (Row.Look look next)
    look_gives Passing.Standing reached d e h = first_of-single (λ q. given x q i) q ∙ e
    look_gives (Passing.Tested holds) reached d e h = grind (arith, common_steps, given, first_of-nil)

  module _ (pass : Passing) (i : ℕ) (decides : DecidesRows x.rows x.reading i pass) where
    row_reaches : (reached : ℕ → List ℕ) (q : ℕ) (row : Row) → row_at x.rows q ≡ row
        → AllNext (λ p. first_given i (reached p) ≡ given x p i) row
        → first_given i (reach_by pass reached q row) ≡ gives_at x i row
    row_reaches reached q (Row.Bytes set next) e h =
        first_of-single (λ q. given x q i) q ∙ given_as x q i (Row.Bytes set next) e
    row_reaches reached q (Row.Split first second) e h =
        first_of-append (λ p. given x p i) (reached first) (reached second) ∙ ap₂ option_or h.0 h.1
    row_reaches reached q (Row.Look look next) e h =
        look_gives look next q i pass (reached next) (decides q look next e) (given_as x q i (Row.Look look next) e) h
    row_reaches reached q (Row.Match pattern) e h =
        first_of-single (λ q. given x q i) q ∙ given_as x q i (Row.Match pattern) e
    row_reaches reached q Row.Fail e h = first_of-nil (λ (q : ℕ). given x q i)

    -- What is reached gives what the row gives, where the depth is enough.
    reach_gives : (n q : ℕ) → Short x.rows n q → first_given i (reach x.rows pass n q) ≡ given x q i
    unfolding reach Short
    reach_gives zero q short = absurd short
    reach_gives (suc n) q short =
        grind (arith, common_steps, row_reaches, AllNext-more, given, given_solves, reach_gives n)

    -- A closed list gives what the list gives.
    pub closed_gives : (qs : List ℕ)
        → first_given i (firsts (flat_map (λ q. closure x.rows pass q) qs)) ≡ first_given i qs
    closed_gives qs =
        grind (arith, common_steps, firsts_keep, given, first_of-flat_map, first_of-alike, reach_gives, depth_of)
