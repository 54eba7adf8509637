-- The words of an expression: read into items from left to right, and made into expressions from right to left.
use Rattle.std.specs.Prelude.{ℕ, ◌+◌, ◌-◌, Bool, false, ◌==◌, nat_lt, if◌then◌else◌, List, [], ◌∷◌, ◌++◌}
use Rattle.std.specs.Prelude.{Option, Some, None, Result, Ok}
use Rattle.std.specs.Option.{option_to_list}
use Rattle.rx_spec.specs.Expressions.{Expression, min_len, depth}
use Rattle.rx_expr.specs.Expr.{literal_of}
use Rattle.rx_script.specs.declared.expression.Item.{Item}
use Rattle.rx_script.specs.declared.expression.Awaited.{Awaited}
use Rattle.rx_script.specs.declared.expression.Taken.{Taken}
use Rattle.rx_expr.specs.declared.expr.ExprError.{ExprError}
use Rattle.rx_script.specs.declared.fault.BadKind.{BadKind}
use Rattle.rx_script.specs.declared.fault.ScriptFault.{ScriptFault}
use Rattle.rx_script.specs.declared.names.Head.{Head}
use Rattle.rx_script.specs.Names.{look_of, greed_of, head_of}
use Rattle.rx_script.specs.Faults.{Fault, refused, needed, ◌>>=◌}
use Rattle.rx_script.specs.Tokens.{bytes_of, set_of_word, number_of, most_of}
use Rattle.rx_script.specs.Grammar.{max_depth}

-- ---- items, from the left

-- what a word gives: what is awaited next, how many expressions are still to begin, and maybe an item
abbrev pub taken : Awaited → ℕ → Option Item → Result Taken Fault
taken awaited missing item = Ok (record { awaited = awaited; missing = missing; item = item })

-- the first word of an expression, of which missing are still to begin
abbrev pub by_head : ℕ → ℕ → Option Head → Result Taken Fault
by_head n missing None = refused n BadKind.Expr
by_head n missing (Some Head.Empty) = taken Awaited.Head (missing - 1) (Some (Item.Leaf Expression.Empty))
by_head n missing (Some Head.Literal) = taken Awaited.Bytes (missing - 1) None
by_head n missing (Some Head.Class) = taken Awaited.Set (missing - 1) None
by_head n missing (Some Head.Look) = taken Awaited.Name (missing - 1) None
by_head n missing (Some Head.Concat) = taken Awaited.Head (missing + 1) (Some Item.Concat)
by_head n missing (Some Head.Alternate) = taken Awaited.Head (missing + 1) (Some Item.Alternate)
by_head n missing (Some Head.Repeat) = taken Awaited.Least missing None

unfoldable pub take_head : ℕ → ℕ → List ℕ → Result Taken Fault
take_head n missing word = if missing == 0 then refused n BadKind.Expr else by_head n missing (head_of word)

-- a word that completes an item
abbrev pub complete : ℕ → Item → Result Taken Fault
complete missing item = taken Awaited.Head missing (Some item)

unfoldable pub take_word : ℕ → Awaited → ℕ → List ℕ → Result Taken Fault
take_word n Awaited.Head missing word = take_head n missing word
take_word n Awaited.Bytes missing word =
    needed n BadKind.Expr (bytes_of word) >>= λ bytes. complete missing (Item.Leaf (literal_of bytes))
take_word n Awaited.Set missing word =
    needed n BadKind.Expr (set_of_word word) >>= λ set. complete missing (Item.Leaf (Expression.Class set))
take_word n Awaited.Name missing word =
    needed n BadKind.Expr (look_of word) >>= λ look. complete missing (Item.Leaf (Expression.Look look))
take_word n Awaited.Least missing word =
    needed n BadKind.Expr (number_of word) >>= λ least. taken (Awaited.Most least) missing None
take_word n (Awaited.Most least) missing word =
    needed n BadKind.Expr (most_of word) >>= λ most. taken (Awaited.Greed least most) missing None
take_word n (Awaited.Greed least most) missing word =
    needed n BadKind.Expr (greed_of word) >>= λ greedy. complete missing (Item.Repeat least most greedy)

-- nothing is awaited
abbrev pub is_whole : Awaited → ℕ → Bool
is_whole Awaited.Head missing = missing == 0
is_whole _ missing = false

abbrev pub with_item : Option Item → Result (List Item) Fault → Result (List Item) Fault
with_item item items = items >>= λ rest. Ok (option_to_list item ++ rest)

unfoldable pub items_at : ℕ → Awaited → ℕ → List (List ℕ) → Result (List Item) Fault
items_at n awaited missing [] = if is_whole awaited missing then Ok [] else refused n BadKind.Expr
items_at n awaited missing (word ∷ words) =
    take_word n awaited missing word >>= λ t. with_item t.item (items_at n t.awaited t.missing words)

-- ---- expressions, from the right

-- what is wrong where a constructor refuses
abbrev pub refusal_of : ℕ → ExprError → ScriptFault
refusal_of n ExprError.BadRange = ScriptFault.Bad n BadKind.BadRange
refusal_of n ExprError.EmptyBody = ScriptFault.Bad n BadKind.EmptyBody
refusal_of n ExprError.TooDeep = ScriptFault.Bad n BadKind.TooDeep
refusal_of n ExprError.Memory = ScriptFault.Memory

-- an expression in front of the finished parts, unless it is too deep
abbrev pub shallow : ℕ → Expression → List Expression → Result (List Expression) Fault
shallow n e parts = if nat_lt max_depth (depth e) then refused n BadKind.TooDeep else Ok (e ∷ parts)

abbrev pub is_bad_range : ℕ → Option ℕ → Bool
is_bad_range least None = false
is_bad_range least (Some most) = nat_lt most least

abbrev pub is_empty_body : Option ℕ → Expression → Bool
is_empty_body None body = min_len body == 0
is_empty_body (Some most) body = false

-- an item takes its parts from the front of the finished ones
abbrev pub finished : ℕ → Item → List Expression → Result (List Expression) Fault
finished n (Item.Leaf e) parts = Ok (e ∷ parts)
finished n Item.Concat [] = refused n BadKind.Expr
finished n Item.Concat (first ∷ []) = refused n BadKind.Expr
finished n Item.Concat (first ∷ (second ∷ parts)) = shallow n (Expression.Concat first second) parts
finished n Item.Alternate [] = refused n BadKind.Expr
finished n Item.Alternate (first ∷ []) = refused n BadKind.Expr
finished n Item.Alternate (first ∷ (second ∷ parts)) = shallow n (Expression.Alternate first second) parts
finished n (Item.Repeat least most greedy) [] = refused n BadKind.Expr
finished n (Item.Repeat least most greedy) (body ∷ parts) =
    if is_bad_range least most then refused n BadKind.BadRange
    else (if is_empty_body most body then refused n BadKind.EmptyBody
    else shallow n (Expression.Repeat least most greedy body) parts)

-- the items in front of finished parts, the last item first
unfoldable pub made_onto : ℕ → List Item → List Expression → Result (List Expression) Fault
made_onto n [] parts = Ok parts
made_onto n (item ∷ items) parts = made_onto n items parts >>= λ done. finished n item done

abbrev pub single_of : ℕ → List Expression → Result Expression Fault
single_of n [] = refused n BadKind.Expr
single_of n (e ∷ []) = Ok e
single_of n (e ∷ (f ∷ es)) = refused n BadKind.Expr

-- the one expression that the words are
unfoldable pub expression_at : ℕ → List (List ℕ) → Result Expression Fault
expression_at n words =
    items_at n Awaited.Head 1 words >>= λ items. made_onto n items [] >>= λ parts. single_of n parts
