-- Expressions: what is read is spelled so.
use Rattle.rx_spec.proofs.Prelude.{common_steps, rules, ◌≡◌, ℕ, suc, ◌+◌, ◌-◌, ◌<◌, Bool, eqb, ltb, List, [], ◌∷◌, ◌++◌}
use Rattle.rx_spec.proofs.Prelude.{length, Option, Some, None, Result, Ok, refl, sym, ap, subst, ◌∙◌, append_assoc}
use Rattle.rx_spec.proofs.Prelude.{append-nil, arith, inl, inr, option_to_list, cases_Bool, eqb-true, eqb-false}
use Rattle.rx_spec.proofs.Prelude.{ltb-false, Expression, min_len, depth, IsBounded}
use Rattle.rx_spec.specs.declared.Look.{Look}
use Rattle.rx_expr.specs.Expr.{literal_of}
use Rattle.rx_script.specs.declared.expression.Item.{Item}
use Rattle.rx_script.specs.declared.expression.Awaited.{Awaited}
use Rattle.rx_script.specs.declared.expression.Taken.{Taken}
use Rattle.rx_script.specs.declared.fault.BadKind.{BadKind}
use Rattle.rx_script.specs.declared.names.Head.{Head}
use Rattle.rx_script.specs.Faults.{Fault, refused, needed, ◌>>=◌}
use Rattle.rx_script.specs.Names.{head_name, head_of, look_name, look_of, greed_name, greed_of}
use Rattle.rx_script.specs.Tokens.{bytes_of, set_of_word, number_of, most_of}
use Rattle.rx_script.specs.Items.{taken, by_head, take_head, complete, take_word, with_item, items_at, shallow}
use Rattle.rx_script.specs.Items.{finished, made_onto, single_of, expression_at}
use Rattle.rx_script.specs.Grammar.{SpellsNumber, SpellsMost, SpellsBytes, SpellsSet, Phrase, SpellsPhrase, meaning}
use Rattle.rx_script.specs.Grammar.{max_depth, IsShallow, IsAccepted, SpellsExpression}
use Rattle.rx_script.proofs.Faults.{bind_ok, ok_is, needed_then}
use Rattle.rx_script.proofs.MadeOnto.{made_onto-append}
use Rattle.rx_script.proofs.Tables.{head_spelled, look_spelled, greed_spelled}
use Rattle.rx_script.proofs.Numbers.{number_spelled, most_spelled}
use Rattle.rx_script.proofs.Bytes.{bytes_spelled}
use Rattle.rx_script.proofs.Sets.{set_spelled}
use Rattle.rx_script.proofs.Phrases.{items_of, SpellsPhrases, all_items}
use Rattle.std.proofs.Math.Nat.{pos_of_ne-zero}

-- ---- what is awaited is spelled

-- the words are so many phrases, one after another
record AreSpelled (missing : ℕ) (words : List (List ℕ)) (items : List Item) : Type 0 where
  phrases : List Phrase
  count : length phrases ≡ missing
  spelled : SpellsPhrases phrases words
  items_are : items ≡ all_items phrases

-- a word that completes an item, and phrases after it
record IsOperand
    (P : List ℕ → Item → Type 0) (missing : ℕ) (words : List (List ℕ)) (items : List Item) : Type 0 where
  word : List ℕ
  rest : List (List ℕ)
  item : Item
  more : List Item
  operand : P word item
  words_are : words ≡ word ∷ rest
  items_are : items ≡ item ∷ more
  others : AreSpelled missing rest more

abbrev SpellsLiteral : List ℕ → Item → Type 0
SpellsLiteral word item = (bytes : List ℕ) × SpellsBytes bytes word × (item ≡ Item.Leaf (literal_of bytes))

abbrev SpellsClass : List ℕ → Item → Type 0
SpellsClass word item = (set : ℕ) × SpellsSet set word × (item ≡ Item.Leaf (Expression.Class set))

abbrev SpellsLook : List ℕ → Item → Type 0
SpellsLook word item = (look : Look) × (word ≡ look_name look) × (item ≡ Item.Leaf (Expression.Look look))

abbrev SpellsGreed : ℕ → Option ℕ → List ℕ → Item → Type 0
SpellsGreed least most word item = (greedy : Bool) × (word ≡ greed_name greedy) × (item ≡ Item.Repeat least most greedy)

-- the most rounds, and whether it is greedy
record IsMost (least missing : ℕ) (words : List (List ℕ)) (items : List Item) : Type 0 where
  most : Option ℕ
  word : List ℕ
  rest : List (List ℕ)
  spelled : SpellsMost most word
  words_are : words ≡ word ∷ rest
  greed : IsOperand (SpellsGreed least most) missing rest items

-- the least rounds, and the most
record IsLeast (missing : ℕ) (words : List (List ℕ)) (items : List Item) : Type 0 where
  least : ℕ
  word : List ℕ
  rest : List (List ℕ)
  spelled : SpellsNumber least word
  words_are : words ≡ word ∷ rest
  most : IsMost least missing rest items

abbrev IsAwaited : Awaited → ℕ → List (List ℕ) → List Item → Type 0
IsAwaited Awaited.Head missing words items = AreSpelled missing words items
IsAwaited Awaited.Bytes missing words items = IsOperand SpellsLiteral missing words items
IsAwaited Awaited.Set missing words items = IsOperand SpellsClass missing words items
IsAwaited Awaited.Name missing words items = IsOperand SpellsLook missing words items
IsAwaited Awaited.Least missing words items = IsLeast missing words items
IsAwaited (Awaited.Most least) missing words items = IsMost least missing words items
IsAwaited (Awaited.Greed least most) missing words items = IsOperand (SpellsGreed least most) missing words items

-- ---- one word

-- a step, what it gave, and what is awaited after it
record Stepped (step : Result Taken Fault) (words : List (List ℕ)) (items : List Item) : Type 0 where
  t : Taken
  more : List Item
  took : step ≡ Ok t
  after : IsAwaited t.awaited t.missing words more
  items_are : items ≡ option_to_list t.item ++ more

-- what is awaited after a step that gives this
record Gave
    (awaited : Awaited) (missing : ℕ) (item : Option Item) (words : List (List ℕ)) (items : List Item) : Type 0 where
  more : List Item
  after : IsAwaited awaited missing words more
  items_are : items ≡ option_to_list item ++ more

gave : {step : Result Taken Fault} {words : List (List ℕ)} {items : List Item} (s : Stepped step words items)
    → (awaited : Awaited) (missing : ℕ) (item : Option Item) → taken awaited missing item ≡ Ok s.t
    → Gave awaited missing item words items
gave {words = words} {items = items} s awaited missing item e = grind (arith, common_steps, ok_is)

operand : {P : List ℕ → Item → Type 0} {missing : ℕ} {item : Item} {words : List (List ℕ)} {items : List Item}
    → (word : List ℕ) → P word item → Gave Awaited.Head missing (Some item) words items
    → IsOperand P missing (word ∷ words) items
operand {item = item} {words = words} word is g = search rules

-- a word that says a value, of which the item is made
value_step : {A : Type 0} {P : List ℕ → Item → Type 0} {missing : ℕ} {words : List (List ℕ)} {items : List Item}
    → (n : ℕ) (word : List ℕ) (o : Option A) (item : A → Item) → ((x : A) → o ≡ Some x → P word (item x))
    → Stepped (needed n BadKind.Expr o >>= λ x. complete missing (item x)) words items
    → IsOperand P missing (word ∷ words) items
value_step {missing = missing} n word o item is s =
    let x = needed_then n BadKind.Expr o (λ x. complete missing (item x)) s.t s.took in
    operand word (is x.0 x.1) (gave s Awaited.Head missing (Some (item x.0)) x.2)

most_step : (n : ℕ) {missing : ℕ} {words : List (List ℕ)} {items : List Item} (least : ℕ) (word : List ℕ)
    → Stepped (take_word n (Awaited.Most least) missing word) words items → IsMost least missing (word ∷ words) items
unfolding take_word
most_step n {missing = missing} {words = words} least word s =
    let next = λ (most : Option ℕ). taken (Awaited.Greed least most) missing None in
    let b = needed_then n BadKind.Expr (most_of word) next s.t s.took in
    let g = gave s (Awaited.Greed least b.0) missing None b.2 in
    record {
      most = b.0;
      word = word;
      rest = words;
      spelled = most_spelled word b.0 b.1;
      words_are = refl;
      greed = subst (IsOperand (SpellsGreed least b.0) missing words) (sym g.items_are) g.after;
    }

least_step : (n : ℕ) {missing : ℕ} {words : List (List ℕ)} {items : List Item} (word : List ℕ)
    → Stepped (take_word n Awaited.Least missing word) words items → IsLeast missing (word ∷ words) items
unfolding take_word
least_step n {missing = missing} {words = words} word s =
    let next = λ (least : ℕ). taken (Awaited.Most least) missing None in
    let b = needed_then n BadKind.Expr (number_of word) next s.t s.took in
    let g = gave s (Awaited.Most b.0) missing None b.2 in
    record {
      least = b.0;
      word = word;
      rest = words;
      spelled = number_spelled word b.0 b.1;
      words_are = refl;
      most = subst (IsMost b.0 missing words) (sym g.items_are) g.after;
    }

-- ---- the first word of an expression

-- a phrase in front of those after it
in_front : {left : ℕ} {rest : List (List ℕ)} {more : List Item} (missing : ℕ) (p : Phrase) (xs : List (List ℕ))
    → SpellsPhrase p xs → suc left ≡ missing → AreSpelled left rest more
    → AreSpelled missing (xs ++ rest) (items_of p ++ more)
in_front {rest = rest} missing p xs s count others = record {
  phrases = p ∷ others.phrases;
  count = ap suc others.count ∙ count;
  spelled = (xs, rest, s, others.spelled, refl);
  items_are = ap (λ (l : List Item). items_of p ++ l) others.items_are;
}

-- the same words and items
renamed : {missing : ℕ} {words words' : List (List ℕ)} {items items' : List Item} → words' ≡ words → items' ≡ items
    → AreSpelled missing words items → AreSpelled missing words' items'
renamed {missing = missing} {words' = words'} {items = items} e f s =
    subst (AreSpelled missing words') (sym f) (subst (λ (w : List (List ℕ)). AreSpelled missing w items) (sym e) s)

-- a phrase of a head and an operand
record Leaf (P : List ℕ → Item → Type 0) (head : Head) : Type 0 where
  phrase : (word : List ℕ) (item : Item) → P word item
      → (p : Phrase) × SpellsPhrase p (head_name head ∷ (word ∷ [])) × (item ∷ [] ≡ items_of p)

leaf_first : {P : List ℕ → Item → Type 0} {missing : ℕ} {head : Head} {words : List (List ℕ)} {items : List Item}
    → Leaf P head → 0 < missing → IsOperand P (missing - 1) words items
    → AreSpelled missing (head_name head ∷ words) items
leaf_first {missing = missing} {head = head} leaf some o =
    let p = leaf.phrase o.word o.item o.operand in
    renamed (ap (λ (ws : List (List ℕ)). head_name head ∷ ws) o.words_are)
    (o.items_are ∙ ap (λ (l : List Item). l ++ o.more) p.2)
    (in_front missing p.0 (head_name head ∷ (o.word ∷ [])) p.1 (omega arith) o.others)

literal_leaf : Leaf SpellsLiteral Head.Literal
literal_leaf = record {
  phrase = λ word item is.
      (Phrase.Literal is.0, (word, is.1, refl), ap (λ (x : Item). x ∷ []) is.2);
}

class_leaf : Leaf SpellsClass Head.Class
class_leaf = record {
  phrase = λ word item is. (Phrase.Class is.0, (word, is.1, refl), ap (λ (x : Item). x ∷ []) is.2);
}

look_leaf : Leaf SpellsLook Head.Look
look_leaf = record {
  phrase = λ word item is. (Phrase.Look is.0, (word, is.1, refl), ap (λ (x : Item). x ∷ []) is.2);
}

-- a head of two phrases
record Join (head : Head) (item : Item) : Type 0 where
  join : Phrase → Phrase → Phrase
  spells : (a b : Phrase) (xs ys : List (List ℕ)) → SpellsPhrase a xs → SpellsPhrase b ys
      → SpellsPhrase (join a b) (head_name head ∷ (xs ++ ys))
  items_are : (a b : Phrase) → items_of (join a b) ≡ item ∷ (items_of a ++ items_of b)

two_first : {missing : ℕ} {head : Head} {item : Item} {words : List (List ℕ)} {items : List Item} → Join head item
    → 0 < missing → Gave Awaited.Head (missing + 1) (Some item) words items
    → AreSpelled missing (head_name head ∷ words) items
two_first {missing = missing} {head = head} {item = item} {words = words} {items = items} j some g =
    let s = g.after in on s.phrases s.count s.spelled s.items_are where
      on : (ps : List Phrase) → length ps ≡ missing + 1 → SpellsPhrases ps words → g.more ≡ all_items ps
          → AreSpelled missing (head_name head ∷ words) items
      on [] c p q = absurd (omega arith)
      on (a ∷ []) c p q = absurd (omega arith)
      on (a ∷ (b ∷ ps)) c (xs, ys, sa, (xs', ys', sb, sp, e'), e) q =
          let front = λ (l : List (List ℕ)). head_name head ∷ l in
          let joined = e ∙ ap (λ (l : List (List ℕ)). xs ++ l) e' ∙ sym (append_assoc xs xs' ys') in record {
            phrases = j.join a b ∷ ps;
            count = omega arith;
            spelled = (head_name head ∷ (xs ++ xs'), ys', j.spells a b xs xs' sa sb, sp, ap front joined);
            items_are =
                g.items_are
                ∙ ap (λ (l : List Item). item ∷ l) (q ∙ sym (append_assoc (items_of a) (items_of b) (all_items ps)))
                ∙ ap (λ (l : List Item). l ++ all_items ps) (sym (j.items_are a b));
          }

concat_join : Join Head.Concat Item.Concat
concat_join = record {
  join = λ a b. Phrase.Concat a b;
  spells = λ a b xs ys sa sb. search rules;
  items_are = λ a b. refl;
}

alternate_join : Join Head.Alternate Item.Alternate
alternate_join = record {
  join = λ a b. Phrase.Alternate a b;
  spells = λ a b xs ys sa sb. search rules;
  items_are = λ a b. refl;
}

-- the words and items of a repetition, up to those of its body
record IsRepeat (missing : ℕ) (words : List (List ℕ)) (items : List Item) : Type 0 where
  least : ℕ
  most : Option ℕ
  greedy : Bool
  low : List ℕ
  high : List ℕ
  rest : List (List ℕ)
  more : List Item
  least_spelled : SpellsNumber least low
  most_spelled : SpellsMost most high
  words_are : words ≡ low ∷ (high ∷ (greed_name greedy ∷ rest))
  items_are : items ≡ Item.Repeat least most greedy ∷ more
  body : AreSpelled missing rest more

repeat_parts : {missing : ℕ} {words : List (List ℕ)} {items : List Item} → IsLeast missing words items
    → IsRepeat missing words items
repeat_parts l = grind (arith, common_steps)

repeat_first : {missing : ℕ} {words : List (List ℕ)} {items : List Item} → 0 < missing → IsRepeat missing words items
    → AreSpelled missing (head_name Head.Repeat ∷ words) items
repeat_first {missing = missing} {words = words} {items = items} some r =
    let s = r.body in on s.phrases s.count s.spelled s.items_are where
      on : (ps : List Phrase) → length ps ≡ missing → SpellsPhrases ps r.rest → r.more ≡ all_items ps
          → AreSpelled missing (head_name Head.Repeat ∷ words) items
      on [] c p q = absurd (omega arith)
      on (body ∷ ps) c (xs, ys, spelled, others, e) q =
          let front = λ (l : List (List ℕ)). head_name Head.Repeat ∷ (r.low ∷ (r.high ∷ (greed_name r.greedy ∷ l))) in
          let phrase : SpellsPhrase (Phrase.Repeat r.least r.most r.greedy body) (front xs) = search rules in
          let words_are = ap (λ (ws : List (List ℕ)). head_name Head.Repeat ∷ ws) r.words_are ∙ ap front e in
          record {
            phrases = Phrase.Repeat r.least r.most r.greedy body ∷ ps;
            count = c;
            spelled = (front xs, ys, phrase, others, words_are);
            items_are = r.items_are ∙ ap (λ (l : List Item). Item.Repeat r.least r.most r.greedy ∷ l) q;
          }

head_first : (n : ℕ) {missing : ℕ} {words : List (List ℕ)} {items : List Item} (head : Head) → 0 < missing
    → Stepped (by_head n missing (Some head)) words items → AreSpelled missing (head_name head ∷ words) items
head_first n {missing = missing} Head.Empty some s =
    let g = gave s Awaited.Head (missing - 1) (Some (Item.Leaf Expression.Empty)) s.took in
    renamed refl g.items_are (in_front missing Phrase.Empty (head_name Head.Empty ∷ []) refl (omega arith) g.after)
head_first n {missing = missing} {words = words} Head.Literal some s =
    let g = gave s Awaited.Bytes (missing - 1) None s.took in
    leaf_first literal_leaf some (subst (IsOperand SpellsLiteral (missing - 1) words) (sym g.items_are) g.after)
head_first n {missing = missing} {words = words} Head.Class some s =
    let g = gave s Awaited.Set (missing - 1) None s.took in
    leaf_first class_leaf some (subst (IsOperand SpellsClass (missing - 1) words) (sym g.items_are) g.after)
head_first n {missing = missing} {words = words} Head.Look some s =
    let g = gave s Awaited.Name (missing - 1) None s.took in
    leaf_first look_leaf some (subst (IsOperand SpellsLook (missing - 1) words) (sym g.items_are) g.after)
head_first n {missing = missing} Head.Concat some s =
    two_first concat_join some (gave s Awaited.Head (missing + 1) (Some Item.Concat) s.took)
head_first n {missing = missing} Head.Alternate some s =
    two_first alternate_join some (gave s Awaited.Head (missing + 1) (Some Item.Alternate) s.took)
head_first n {missing = missing} {words = words} Head.Repeat some s =
    let g = gave s Awaited.Least missing None s.took in
    repeat_first some (repeat_parts (subst (IsLeast missing words) (sym g.items_are) g.after))

head_step : (n : ℕ) {missing : ℕ} {words : List (List ℕ)} {items : List Item} (word : List ℕ)
    → Stepped (take_word n Awaited.Head missing word) words items → AreSpelled missing (word ∷ words) items
unfolding take_word take_head
head_step n {missing = missing} {words = words} {items = items} word s = elim (cases_Bool (eqb missing 0)) [
  | inl h ↦ absurd (clash (rw h at s.took))
  | inr h ↦ on (head_of word) (pos_of_ne-zero (eqb-false missing 0 h)) refl (rw h at s.took)
] where
  clash : refused n BadKind.Expr ≡ Ok s.t → ⊥
  clash z = cc

  on : (o : Option Head) → 0 < missing → head_of word ≡ o → by_head n missing o ≡ Ok s.t
      → AreSpelled missing (word ∷ words) items
  on None some p q = absurd (clash q)
  on (Some head) some p q =
      let stepped : Stepped (by_head n missing (Some head)) words items =
      record { t = s.t; more = s.more; took = q; after = s.after; items_are = s.items_are } in
      let same = sym (head_spelled word head p) in
      subst (λ (w : List ℕ). AreSpelled missing (w ∷ words) items) same (head_first n head some stepped)

-- ---- all words

nothing_left : (n missing : ℕ) (awaited : Awaited) (items : List Item) → items_at n awaited missing [] ≡ Ok items
    → IsAwaited awaited missing [] items
unfolding items_at
nothing_left n missing Awaited.Head items e = elim (cases_Bool (eqb missing 0)) [
  | inl h ↦
      let none : [] ≡ items = ok_is [] items (rw h at e) in
      record { phrases = []; count = sym (eqb-true missing 0 h); spelled = refl; items_are = sym none }
  | inr h ↦ absurd (let z = rw h at e in cc)
]
nothing_left n missing Awaited.Bytes items e = absurd cc
nothing_left n missing _ items e = absurd cc

word_step : (n missing : ℕ) {words : List (List ℕ)} {items : List Item} (awaited : Awaited) (word : List ℕ)
    → Stepped (take_word n awaited missing word) words items → IsAwaited awaited missing (word ∷ words) items
unfolding take_word
word_step n missing Awaited.Head word s = head_step n word s
word_step n missing Awaited.Bytes word s =
    let item = λ (bytes : List ℕ). Item.Leaf (literal_of bytes) in
    value_step n word (bytes_of word) item (λ bytes is. (bytes, bytes_spelled word bytes is, refl)) s
word_step n missing Awaited.Set word s =
    let item = λ (set : ℕ). Item.Leaf (Expression.Class set) in
    value_step n word (set_of_word word) item (λ set is. (set, set_spelled word set is, refl)) s
word_step n missing Awaited.Name word s =
    let item = λ (look : Look). Item.Leaf (Expression.Look look) in
    value_step n word (look_of word) item (λ look is. (look, look_spelled word look is, refl)) s
word_step n missing Awaited.Least word s = least_step n word s
word_step n missing (Awaited.Most least) word s = most_step n least word s
word_step n missing (Awaited.Greed least most) word s =
    let item = λ (greedy : Bool). Item.Repeat least most greedy in
    value_step n word (greed_of word) item (λ greedy is. (greedy, greed_spelled word greedy is, refl)) s

items_spelled : (n missing : ℕ) (awaited : Awaited) (words : List (List ℕ)) (items : List Item)
    → items_at n awaited missing words ≡ Ok items → IsAwaited awaited missing words items
unfolding items_at
items_spelled n missing awaited [] items e = nothing_left n missing awaited items e
items_spelled n missing awaited (word ∷ words) items e =
    let after = λ (t : Taken). with_item t.item (items_at n t.awaited t.missing words) in
    let a = bind_ok (take_word n awaited missing word) after items e in
    let rest = items_at n a.0.awaited a.0.missing words in
    let b = bind_ok rest (λ more. Ok (option_to_list a.0.item ++ more)) items a.2 in
    let stepped : Stepped (take_word n awaited missing word) words items = record {
      t = a.0;
      more = b.0;
      took = a.1;
      after = items_spelled n a.0.missing a.0.awaited words b.0 b.1;
      items_are = sym (ok_is (option_to_list a.0.item ++ b.0) items b.2);
    } in
    word_step n missing awaited word stepped

-- ---- what was made was accepted

deep_enough : (n : ℕ) (e : Expression) (parts out : List Expression) → shallow n e parts ≡ Ok out
    → IsShallow e × (out ≡ e ∷ parts)
deep_enough n e parts out h = elim (cases_Bool (ltb max_depth (depth e))) [
  | inl p ↦ absurd (let z = rw p at h in cc)
  | inr p ↦ (ltb-false max_depth (depth e) p, sym (ok_is (e ∷ parts) out (rw p at h)))
]

-- a repetition that was finished
repeat_finished : (n least : ℕ) (most : Option ℕ) (greedy : Bool) (body : Expression) (parts out : List Expression)
    → finished n (Item.Repeat least most greedy) (body ∷ parts) ≡ Ok out
    → IsBounded least most body × (shallow n (Expression.Repeat least most greedy body) parts ≡ Ok out)
repeat_finished n least None greedy body parts out h = elim (cases_Bool (eqb (min_len body) 0)) [
  | inl p ↦ absurd (let z = rw p at h in cc)
  | inr p ↦ (pos_of_ne-zero (eqb-false (min_len body) 0 p), rw p at h)
]
repeat_finished n least (Some most) greedy body parts out h = elim (cases_Bool (ltb most least)) [
  | inl p ↦ absurd (let z = rw p at h in cc)
  | inr p ↦ (ltb-false most least p, rw p at h)
]

-- Whatever the items of a phrase are made into, it is the phrase's meaning, and the phrase is accepted.
record Accepts (n : ℕ) (p : Phrase) : Type 0 where
  accepted : (parts out : List Expression) → made_onto n (items_of p) parts ≡ Ok out
      → IsAccepted p × (out ≡ meaning p ∷ parts)

-- how two parts are finished
record Finish (n : ℕ) (item : Item) : Type 0 where
  form : Expression → Expression → Expression
  finished
      : (a b : Expression) (parts : List Expression) → finished n item (a ∷ (b ∷ parts)) ≡ shallow n (form a b) parts

two_accepted : {n : ℕ} {item : Item} {a b : Phrase} (f : Finish n item) → Accepts n a → Accepts n b
    → (parts out : List Expression) → made_onto n (item ∷ (items_of a ++ items_of b)) parts ≡ Ok out
    → let e = f.form (meaning a) (meaning b) in (IsAccepted a × IsAccepted b × IsShallow e) × (out ≡ e ∷ parts)
unfolding made_onto
two_accepted {n = n} {item = item} {a = a} {b = b} f accepts_a accepts_b parts out h =
    let both = made_onto n (items_of a ++ items_of b) parts in
    let m = bind_ok both (λ done. finished n item done) out h in
    let split = sym (made_onto-append n (items_of a) (items_of b) parts) ∙ m.1 in
    let r = bind_ok (made_onto n (items_of b) parts) (λ done. made_onto n (items_of a) done) m.0 split in
    let second = accepts_b.accepted parts r.0 r.1 in
    let first = accepts_a.accepted r.0 m.0 r.2 in
    let done = first.1 ∙ ap (λ (l : List Expression). meaning a ∷ l) second.1 in
    let e = f.form (meaning a) (meaning b) in
    let made = sym (f.finished (meaning a) (meaning b) parts) ∙ ap (finished n item) (sym done) ∙ m.2 in
    let d = deep_enough n e parts out made in
    ((first.0, second.0, d.0), d.1)

leaf_accepted : (n : ℕ) (e : Expression) (parts out : List Expression) → made_onto n (Item.Leaf e ∷ []) parts ≡ Ok out
    → out ≡ e ∷ parts
unfolding made_onto
leaf_accepted n e parts out h = sym (ok_is (e ∷ parts) out h)

repeat_accepted : {n : ℕ} {body : Phrase} (least : ℕ) (most : Option ℕ) (greedy : Bool) → Accepts n body
    → Accepts n (Phrase.Repeat least most greedy body)
unfolding made_onto
repeat_accepted {n = n} {body = body} least most greedy accepts = record {
  accepted = λ parts out h.
      let item = Item.Repeat least most greedy in
      let m = bind_ok (made_onto n (items_of body) parts) (λ done. finished n item done) out h in
      let inner = accepts.accepted parts m.0 m.1 in
      let r = repeat_finished n least most greedy (meaning body) parts out (ap (finished n item) (sym inner.1) ∙ m.2) in
      let d = deep_enough n (Expression.Repeat least most greedy (meaning body)) parts out r.1 in
      ((inner.0, r.0, d.0), d.1);
}

phrase_accepted : (n : ℕ) (p : Phrase) → Accepts n p
phrase_accepted n Phrase.Empty = record { accepted = λ parts out h. (tt, leaf_accepted n _ parts out h) }
phrase_accepted n (Phrase.Literal bytes) = grind (arith, common_steps, leaf_accepted)
phrase_accepted n (Phrase.Class set) = grind (arith, common_steps, leaf_accepted)
phrase_accepted n (Phrase.Look look) = grind (arith, common_steps, leaf_accepted)
phrase_accepted n (Phrase.Concat a b) =
    let f : Finish n Item.Concat = record { form = λ x y. Expression.Concat x y; finished = λ x y parts. refl } in
    record { accepted = two_accepted f (phrase_accepted n a) (phrase_accepted n b) }
phrase_accepted n (Phrase.Alternate a b) =
    let f : Finish n Item.Alternate = record { form = λ x y. Expression.Alternate x y; finished = λ x y parts. refl } in
    record { accepted = two_accepted f (phrase_accepted n a) (phrase_accepted n b) }
phrase_accepted n (Phrase.Repeat least most greedy body) = repeat_accepted least most greedy (phrase_accepted n body)

pub expression_spelled
    : (n : ℕ) (words : List (List ℕ)) (e : Expression) → expression_at n words ≡ Ok e → SpellsExpression e words
unfolding expression_at
expression_spelled n words e h =
    let read = items_at n Awaited.Head 1 words in
    let a = bind_ok read (λ items. made_onto n items [] >>= λ parts. single_of n parts) e h in
    let b = bind_ok (made_onto n a.0 []) (λ parts. single_of n parts) e a.2 in
    let s = items_spelled n 1 Awaited.Head words a.0 a.1 in
    on s.phrases s.count s.spelled (sym (ap (λ (l : List Item). made_onto n l []) s.items_are) ∙ b.1) b.2 where
      on : {parts : List Expression} (ps : List Phrase) → length ps ≡ 1 → SpellsPhrases ps words
          → made_onto n (all_items ps) [] ≡ Ok parts → single_of n parts ≡ Ok e → SpellsExpression e words
      on [] c s m z = absurd (omega arith)
      on (p ∷ (q ∷ ps)) c s m z = absurd (omega arith)
      on {parts = parts} (p ∷ []) c (xs, ys, sp, nothing, w) m z =
          let only = ap (λ (l : List Item). made_onto n l []) (sym (append-nil (items_of p))) ∙ m in
          let acc = (phrase_accepted n p).accepted [] parts only in
          record {
            phrase = p;
            spelled = subst (SpellsPhrase p) (sym (w ∙ ap (λ (l : List (List ℕ)). xs ++ l) nothing ∙ append-nil xs)) sp;
            accepted = acc.0;
            made = sym (ok_is (meaning p) e (ap (single_of n) (sym acc.1) ∙ z));
          }
