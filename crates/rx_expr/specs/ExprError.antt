-- When each constructor returns an error.
use Rattle.std.specs.Prelude.{ℕ, ◌<◌, Option, Some, None, ◌≡◌}
use Rattle.rx_spec.specs.Expressions.{Expression, min_len, depth}
use Rattle.rx_expr.specs.declared.expr.ExprError.{ExprError}

-- the bounds of a repetition are out of order
abbrev pub HasBadRange : ℕ → Option ℕ → Type 0
HasBadRange least None = ⊥
HasBadRange least (Some most) = most < least

-- it has no end, and a round may be empty
abbrev pub HasEmptyBody : Option ℕ → Expression → Type 0
HasEmptyBody None body = min_len body ≡ 0
HasEmptyBody (Some most) body = ⊥

-- what an error says of two parts joined: that the whole is too deep, or nothing where memory ran out
abbrev pub RefusesJoin : Expression → ExprError → Type 0
RefusesJoin e ExprError.TooDeep = 200 < depth e
RefusesJoin e ExprError.Memory = Unit {0}
RefusesJoin e ExprError.BadRange = ⊥
RefusesJoin e ExprError.EmptyBody = ⊥

-- what one says of a repetition: the first of the causes that holds
abbrev pub RefusesRepeat : ℕ → Option ℕ → Expression → Expression → ExprError → Type 0
RefusesRepeat least most body e ExprError.BadRange = HasBadRange least most
RefusesRepeat least most body e ExprError.EmptyBody = HasEmptyBody most body
RefusesRepeat least most body e ExprError.TooDeep =
    (HasBadRange least most → ⊥) × (HasEmptyBody most body → ⊥) × (200 < depth e)
RefusesRepeat least most body e ExprError.Memory = Unit {0}

-- the first two of them
abbrev pub RefusesBounds : ℕ → Option ℕ → Expression → ExprError → Type 0
RefusesBounds least most body ExprError.BadRange = HasBadRange least most
RefusesBounds least most body ExprError.EmptyBody = HasEmptyBody most body
RefusesBounds least most body ExprError.TooDeep = ⊥
RefusesBounds least most body ExprError.Memory = ⊥
