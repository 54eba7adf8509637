-- Expressions as they are written, as the items that the reader makes of them.
use Rattle.rx_spec.proofs.Prelude.{◌≡◌, ℕ, List, [], ◌∷◌, ◌++◌, Option, Expression}
use Rattle.rx_expr.specs.Expr.{literal_of}
use Rattle.rx_script.specs.declared.expression.Item.{Item}
use Rattle.rx_script.specs.declared.expression.Awaited.{Awaited}
use Rattle.rx_script.specs.declared.expression.Taken.{Taken}
use Rattle.rx_script.specs.Grammar.{Phrase, SpellsPhrase}

abbrev pub items_of : Phrase → List Item
items_of Phrase.Empty = Item.Leaf Expression.Empty ∷ []
items_of (Phrase.Literal bytes) = Item.Leaf (literal_of bytes) ∷ []
items_of (Phrase.Class set) = Item.Leaf (Expression.Class set) ∷ []
items_of (Phrase.Look look) = Item.Leaf (Expression.Look look) ∷ []
items_of (Phrase.Concat a b) = Item.Concat ∷ (items_of a ++ items_of b)
items_of (Phrase.Alternate a b) = Item.Alternate ∷ (items_of a ++ items_of b)
items_of (Phrase.Repeat least most greedy body) = Item.Repeat least most greedy ∷ items_of body

-- several phrases one after another
abbrev pub SpellsPhrases : List Phrase → List (List ℕ) → Type 0
SpellsPhrases [] words = words ≡ []
SpellsPhrases (p ∷ ps) words =
    (xs : List (List ℕ)) × (ys : List (List ℕ)) × SpellsPhrase p xs × SpellsPhrases ps ys × (words ≡ xs ++ ys)

abbrev pub all_items : List Phrase → List Item
all_items [] = []
all_items (p ∷ ps) = items_of p ++ all_items ps

-- what a word gives
abbrev pub told : Awaited → ℕ → Option Item → Taken
told awaited missing item = record { awaited = awaited; missing = missing; item = item }
