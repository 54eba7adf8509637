-- Whether an expression reads nothing, and whether it begins with the edge, by its form.
use Rattle.rx_spec.proofs.Prelude.{◌≡◌, ◌==◌, ℕ, zero, suc, ◌<◌, ◌≤◌, Bool, false, ◌&&◌, ◌||◌, Option, Some, None, refl}
use Rattle.rx_spec.proofs.Prelude.{ap, ◌∙◌, arith, ap₂, Expression, mirror, reads_nothing, begins_with_edge, read_as}
use Rattle.std.proofs.Math.Bool.{and_comm}
use Rattle.rx_spec.specs.declared.Look.{Look}
use Rattle.rx_spec.specs.Edge.{is_edge}
use Rattle.rx_spec.specs.declared.Direction.{Direction}
use Rattle.rx_expr.specs.Compiles.{has_no_round}

-- ---- reading nothing, by an expression's form

pub nothing-concat : {e a b : Expression} → Expression.Concat a b ≡ e
    → (reads_nothing a && reads_nothing b) ≡ reads_nothing e
unfolding reads_nothing
nothing-concat is = ap reads_nothing is

pub nothing-alternate : {e a b : Expression} → Expression.Alternate a b ≡ e
    → (reads_nothing a && reads_nothing b) ≡ reads_nothing e
unfolding reads_nothing
nothing-alternate is = ap reads_nothing is

pub nothing-repeat : {e body : Expression} {least : ℕ} {greedy : Bool} (most : Option ℕ)
    → Expression.Repeat least most greedy body ≡ e → (has_no_round most || reads_nothing body) ≡ reads_nothing e
unfolding reads_nothing
nothing-repeat None is = ap reads_nothing is
nothing-repeat (Some most) is = ap reads_nothing is

-- the mirror reads nothing where the expression reads nothing
nothing-mirror : (e : Expression) → reads_nothing (mirror e) ≡ reads_nothing e
unfolding reads_nothing mirror
nothing-mirror (Expression.Concat a b) =
    ap₂ (λ x y. x && y) (nothing-mirror b) (nothing-mirror a) ∙ and_comm (reads_nothing b) (reads_nothing a)
nothing-mirror (Expression.Alternate a b) = ap₂ (λ x y. x && y) (nothing-mirror a) (nothing-mirror b)
nothing-mirror (Expression.Repeat least None greedy body) = nothing-mirror body
nothing-mirror (Expression.Repeat least (Some most) greedy body) = ap (λ x. most == 0 || x) (nothing-mirror body)
nothing-mirror _ = refl

pub nothing-read_as : (direction : Direction) (e : Expression) → reads_nothing (read_as direction e) ≡ reads_nothing e
nothing-read_as Direction.Forward e = refl
nothing-read_as Direction.Reverse e = nothing-mirror e

-- ---- beginning with the edge, by the form of what is read

abbrev pub begins : Direction → Expression → Bool
begins direction e = begins_with_edge direction (read_as direction e)

pub begins-empty : {e : Expression} (direction : Direction) → Expression.Empty ≡ e → false ≡ begins direction e
unfolding begins_with_edge mirror
begins-empty Direction.Forward is = ap (begins Direction.Forward) is
begins-empty Direction.Reverse is = ap (begins Direction.Reverse) is

pub begins-class : {e : Expression} {set : ℕ} (direction : Direction) → Expression.Class set ≡ e
    → false ≡ begins direction e
unfolding begins_with_edge mirror
begins-class Direction.Forward is = ap (begins Direction.Forward) is
begins-class Direction.Reverse is = ap (begins Direction.Reverse) is

pub begins-look : {e : Expression} {look : Look} (direction : Direction) → Expression.Look look ≡ e
    → is_edge direction look ≡ begins direction e
unfolding begins_with_edge mirror
begins-look Direction.Forward is = ap (begins Direction.Forward) is
begins-look Direction.Reverse is = ap (begins Direction.Reverse) is

-- what is read first begins with it, or reads nothing before what does
abbrev pub either_begins : Direction → Expression → Expression → Bool
either_begins direction front back =
    begins direction front || (reads_nothing (read_as direction front) && begins direction back)

pub begins-concat : {e a b : Expression} {direction : Direction} → direction ≡ Direction.Forward
    → Expression.Concat a b ≡ e → either_begins direction a b ≡ begins direction e
unfolding begins_with_edge mirror
begins-concat {a = a} {b = b} {direction = Direction.Forward} forward is = ap (begins Direction.Forward) is
begins-concat {direction = Direction.Reverse} forward is = absurd (cc)

pub begins-concat_reverse : {e a b : Expression} {direction : Direction} → direction ≡ Direction.Reverse
    → Expression.Concat a b ≡ e → either_begins direction b a ≡ begins direction e
unfolding begins_with_edge mirror
begins-concat_reverse {direction = Direction.Forward} reverse is = absurd (cc)
begins-concat_reverse {direction = Direction.Reverse} reverse is = ap (begins Direction.Reverse) is

pub begins-alternate : {e a b : Expression} (direction : Direction) → Expression.Alternate a b ≡ e
    → (begins direction a && begins direction b) ≡ begins direction e
unfolding begins_with_edge mirror
begins-alternate Direction.Forward is = ap (begins Direction.Forward) is
begins-alternate Direction.Reverse is = ap (begins Direction.Reverse) is

begins-no_round : (direction : Direction) (least : ℕ) (most : Option ℕ) (greedy : Bool) (body : Expression)
    → least ≤ 0 → false ≡ begins direction (Expression.Repeat least most greedy body)
unfolding begins_with_edge mirror
begins-no_round Direction.Forward zero most greedy body h = refl
begins-no_round Direction.Reverse zero most greedy body h = refl
begins-no_round direction (suc n) most greedy body h = absurd (omega arith)

begins-round : (direction : Direction) (least : ℕ) (most : Option ℕ) (greedy : Bool) (body : Expression)
    → 0 < least → begins direction body ≡ begins direction (Expression.Repeat least most greedy body)
unfolding begins_with_edge mirror
begins-round direction zero most greedy body h = absurd (omega arith)
begins-round Direction.Forward (suc n) most greedy body h = refl
begins-round Direction.Reverse (suc n) most greedy body h = refl

pub begins-repeat_none : {e body : Expression} {least : ℕ} {most : Option ℕ} {greedy : Bool} (direction : Direction)
    → Expression.Repeat least most greedy body ≡ e → least ≤ 0 → false ≡ begins direction e
begins-repeat_none {body = body} {least = least} {most = most} {greedy = greedy} direction is none =
    begins-no_round direction least most greedy body none ∙ ap (begins direction) is

pub begins-repeat_some : {e body : Expression} {least : ℕ} {most : Option ℕ} {greedy : Bool} (direction : Direction)
    → Expression.Repeat least most greedy body ≡ e → 0 < least → begins direction body ≡ begins direction e
begins-repeat_some {body = body} {least = least} {most = most} {greedy = greedy} direction is some =
    begins-round direction least most greedy body some ∙ ap (begins direction) is
