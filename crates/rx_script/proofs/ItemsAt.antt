-- Reading items one after the other, as a loop does: a word is taken from the front.
use Rattle.rx_spec.proofs.Prelude.{◌≡◌, ℕ, Bool, true, false, cond, List, [], ◌∷◌, ◌++◌, Option, Result, Ok, Err, refl}
use Rattle.rx_spec.proofs.Prelude.{sym, ap, ◌∙◌, append_assoc, append-nil, option_to_list}
use Rattle.rx_script.specs.declared.expression.Item.{Item}
use Rattle.rx_script.specs.declared.expression.Awaited.{Awaited}
use Rattle.rx_script.specs.declared.expression.Taken.{Taken}
use Rattle.rx_script.specs.declared.fault.BadKind.{BadKind}
use Rattle.rx_script.specs.declared.fault.ScriptFault.{ScriptFault}
use Rattle.rx_script.specs.Faults.{Fault, Fails, refused, ◌>>=◌}
use Rattle.rx_script.specs.Items.{with_item, take_word, is_whole, items_at}

abbrev pub Items : Type 0
Items = Result (List Item) Fault

-- items in front of what is read
abbrev pub in_front : List Item → Items → Items
in_front front read = read >>= λ items. Ok (front ++ items)

pub in_front-nil : (read : Items) → in_front [] read ≡ read
in_front-nil (Ok items) = refl
in_front-nil (Err e) = refl

in_front_more : (front : List Item) (item : Option Item) (read : Items)
    → in_front front (with_item item read) ≡ in_front (front ++ option_to_list item) read
in_front_more front item (Ok items) =
    ap (λ (xs : List Item). Ok xs) (sym (append_assoc front (option_to_list item) items))
in_front_more front item (Err e) = refl

-- the items that were read, and those of the words that are left, are the whole
pub record ReadItems
    (n : ℕ) (awaited : Awaited) (missing : ℕ) (words : List (List ℕ)) (front : List Item) (whole : Items) : Type 0 where
  pub same : in_front front (items_at n awaited missing words) ≡ whole

-- what a word gives, and what is read after it
abbrev after : ℕ → List (List ℕ) → Taken → Items
after n words t = with_item t.item (items_at n t.awaited t.missing words)

pub items_turn
    : {n missing : ℕ} {awaited : Awaited} {left words : List (List ℕ)} {word : List ℕ} {t : Taken} {front : List Item}
    → {whole : Items} → ReadItems n awaited missing left front whole → left ≡ word ∷ words
    → take_word n awaited missing word ≡ Ok t
    → ReadItems n t.awaited t.missing words (front ++ option_to_list t.item) whole
unfolding items_at
items_turn {n = n} {missing = missing} {awaited = awaited} {words = words} {t = t} {front = front} so_far e f = record {
  same =
      sym (in_front_more front t.item (items_at n t.awaited t.missing words))
      ∙ ap (λ (r : Result Taken Fault). in_front front (r >>= after n words)) (sym f)
      ∙ ap (λ (ws : List (List ℕ)). in_front front (items_at n awaited missing ws)) (sym e) ∙ so_far.same;
}

pub items_fail : {n missing : ℕ} {awaited : Awaited} {left words : List (List ℕ)} {word : List ℕ} {front : List Item}
    → {whole : Items} (fault : ScriptFault) → ReadItems n awaited missing left front whole → left ≡ word ∷ words
    → Fails fault (take_word n awaited missing word) → Fails fault whole
unfolding items_at
items_fail ScriptFault.Memory so_far e f = tt
items_fail {n = n} {missing = missing} {awaited = awaited} {words = words} {front = front}
    (ScriptFault.Bad line kind) so_far e f =
    sym so_far.same ∙ ap (λ (ws : List (List ℕ)). in_front front (items_at n awaited missing ws)) e
    ∙ ap (λ (r : Result Taken Fault). in_front front (r >>= after n words)) f

-- no word is left
pub items_end
    : {n missing : ℕ} {awaited : Awaited} {left : List (List ℕ)} {front : List Item} {whole : Items} (complete : Bool)
    → ReadItems n awaited missing left front whole → left ≡ [] → is_whole awaited missing ≡ complete
    → whole ≡ cond complete (Ok front) (refused n BadKind.Expr)
unfolding items_at
items_end {n = n} {missing = missing} {awaited = awaited} {front = front} complete so_far e f =
    sym so_far.same ∙ ap (λ (ws : List (List ℕ)). in_front front (items_at n awaited missing ws)) e
    ∙ ap (λ (b : Bool). in_front front (cond b (Ok []) (refused n BadKind.Expr))) f ∙ on complete where
      on : (b : Bool)
          → in_front front (cond b (Ok []) (refused n BadKind.Expr)) ≡ cond b (Ok front) (refused n BadKind.Expr)
      on true = ap (λ (xs : List Item). Ok xs) (append-nil front)
      on false = refl
