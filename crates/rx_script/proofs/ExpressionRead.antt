-- Expressions: what is spelled so is read.
use Rattle.rx_spec.proofs.Prelude.{◌≡◌, ℕ, suc, ◌+◌, ◌-◌, Bool, false, List, [], ◌∷◌, ◌++◌, Option, Some, None, Result}
use Rattle.rx_spec.proofs.Prelude.{Ok, Err, refl, sym, ap, ◌∙◌, append_assoc, append-nil, arith, le-ltb, ne_eqb}
use Rattle.rx_spec.proofs.Prelude.{Expression, min_len, depth, IsBounded}
use Rattle.rx_spec.specs.declared.Look.{Look}
use Rattle.rx_expr.specs.Expr.{literal_of}
use Rattle.rx_script.specs.Tokens.{number_of, most_of, bytes_of, set_of_word}
use Rattle.rx_script.specs.declared.expression.Item.{Item}
use Rattle.rx_script.specs.declared.expression.Awaited.{Awaited}
use Rattle.rx_script.specs.declared.expression.Taken.{Taken}
use Rattle.rx_script.specs.declared.names.Head.{Head}
use Rattle.rx_script.specs.Faults.{Fault, ◌>>=◌}
use Rattle.rx_script.specs.Names.{head_name, look_name, greed_name}
use Rattle.rx_script.specs.Items.{taken, by_head, take_head, take_word, with_item, items_at, shallow, is_bad_range}
use Rattle.rx_script.specs.Items.{is_empty_body, made_onto, expression_at}
use Rattle.rx_script.specs.Grammar.{Phrase, SpellsTwo, SpellsPhrase, meaning, max_depth, IsShallow, IsAccepted}
use Rattle.rx_script.specs.Grammar.{SpellsExpression}
use Rattle.rx_script.proofs.ItemsAt.{Items, in_front, in_front-nil}
use Rattle.rx_script.proofs.MadeOnto.{made_onto-append}
use Rattle.rx_script.proofs.Tables.{head_read, look_read, greed_read}
use Rattle.rx_script.proofs.Numbers.{number_read, most_read}
use Rattle.rx_script.proofs.Bytes.{bytes_read}
use Rattle.rx_script.proofs.Sets.{set_read}
use Rattle.rx_script.proofs.Phrases.{items_of, told}

-- ---- words as items

in_front-append : (xs ys : List Item) (read : Items) → in_front xs (in_front ys read) ≡ in_front (xs ++ ys) read
in_front-append xs ys (Ok r) = ap (λ (l : List Item). Ok l) (sym (append_assoc xs ys r))
in_front-append xs ys (Err e) = refl

-- a word, and what is read after it
step : (n missing : ℕ) (awaited : Awaited) (word : List ℕ) (words : List (List ℕ)) (t : Taken)
    → take_word n awaited missing word ≡ Ok t
    → items_at n awaited missing (word ∷ words) ≡ with_item t.item (items_at n t.awaited t.missing words)
unfolding items_at
step n missing awaited word words t e =
    ap (λ (r : Result Taken Fault). r >>= λ t. with_item t.item (items_at n t.awaited t.missing words)) e

-- a word that gives no item
silent : (n missing : ℕ) (awaited next : Awaited) (word : List ℕ) (words : List (List ℕ))
    → take_word n awaited missing word ≡ taken next missing None
    → items_at n awaited missing (word ∷ words) ≡ items_at n next missing words
silent n missing awaited next word words e =
    step n missing awaited word words (told next missing None) e ∙ in_front-nil (items_at n next missing words)

-- the first word, where so many expressions are awaited and one more
first : (n missing : ℕ) (head : Head) (words : List (List ℕ)) (t : Taken) → by_head n (suc missing) (Some head) ≡ Ok t
    → items_at n Awaited.Head (suc missing) (head_name head ∷ words)
    ≡ with_item t.item (items_at n t.awaited t.missing words)
unfolding take_word take_head
first n missing head words t e =
    let some = ne_eqb (suc missing) 0 (λ z. omega arith) in
    step n (suc missing) Awaited.Head (head_name head) words t (rw (some, head_read head) e)

one_less : (missing : ℕ) (awaited : Awaited) (item : Option Item)
    → taken awaited (suc missing - 1) item ≡ taken awaited missing item
one_less missing awaited item =
    let e : suc missing - 1 ≡ missing = omega arith in ap (λ (m : ℕ). taken awaited m item) e

one_more : (missing : ℕ) (item : Item)
    → taken Awaited.Head (suc missing + 1) (Some item) ≡ taken Awaited.Head (suc (suc missing)) (Some item)
one_more missing item =
    let e : suc missing + 1 ≡ suc (suc missing) = omega arith in ap (λ (m : ℕ). taken Awaited.Head m (Some item)) e

-- The words of a phrase, with others after them, are read as its items.
record Reads (n : ℕ) (p : Phrase) : Type 0 where
  read : (missing : ℕ) (words rest : List (List ℕ)) → SpellsPhrase p words
      → items_at n Awaited.Head (suc missing) (words ++ rest)
      ≡ in_front (items_of p) (items_at n Awaited.Head missing rest)

abbrev before : ℕ → ℕ → List (List ℕ) → List (List ℕ) → Items
before n missing rest words = items_at n Awaited.Head (suc missing) (words ++ rest)

-- a head and its operand
record Leaf (n : ℕ) (item : Item) : Type 0 where
  head : Head
  awaited : Awaited
  word : List ℕ
  headed : (missing : ℕ) → by_head n (suc missing) (Some head) ≡ taken awaited missing None
  operand : (missing : ℕ) → take_word n awaited missing word ≡ taken Awaited.Head missing (Some item)

leaf_read : {n : ℕ} {item : Item} (leaf : Leaf n item) (missing : ℕ) (words rest : List (List ℕ))
    → words ≡ head_name leaf.head ∷ (leaf.word ∷ [])
    → before n missing rest words ≡ in_front (item ∷ []) (items_at n Awaited.Head missing rest)
leaf_read {n = n} {item = item} leaf missing words rest e =
    let after = leaf.word ∷ rest in
    ap (before n missing rest) e
    ∙ first n missing leaf.head after (told leaf.awaited missing None) (leaf.headed missing)
    ∙ in_front-nil (items_at n leaf.awaited missing after)
    ∙ step n missing leaf.awaited leaf.word rest (told Awaited.Head missing (Some item)) (leaf.operand missing)

literal_leaf : (n : ℕ) (bytes word : List ℕ) → bytes_of word ≡ Some bytes → Leaf n (Item.Leaf (literal_of bytes))
unfolding take_word
literal_leaf n bytes word e = record {
  head = Head.Literal;
  awaited = Awaited.Bytes;
  word = word;
  headed = λ missing. one_less missing Awaited.Bytes None;
  operand = λ missing. rw e refl;
}

set_leaf : (n set : ℕ) (word : List ℕ) → set_of_word word ≡ Some set → Leaf n (Item.Leaf (Expression.Class set))
unfolding take_word
set_leaf n set word e = record {
  head = Head.Class;
  awaited = Awaited.Set;
  word = word;
  headed = λ missing. one_less missing Awaited.Set None;
  operand = λ missing. rw e refl;
}

look_leaf : (n : ℕ) (look : Look) → Leaf n (Item.Leaf (Expression.Look look))
unfolding take_word
look_leaf n look = record {
  head = Head.Look;
  awaited = Awaited.Name;
  word = look_name look;
  headed = λ missing. one_less missing Awaited.Name None;
  operand = λ missing. rw (look_read look) refl;
}

-- a head of two phrases
record Join (n : ℕ) (head : Head) (item : Item) : Type 0 where
  headed : (missing : ℕ) → by_head n (suc missing) (Some head) ≡ taken Awaited.Head (suc (suc missing)) (Some item)

two_read : {n : ℕ} {head : Head} {item : Item} {a b : Phrase} → Join n head item → Reads n a → Reads n b
    → (missing : ℕ) (words rest : List (List ℕ)) → SpellsTwo head (SpellsPhrase a) (SpellsPhrase b) words
    → before n missing rest words ≡ in_front (item ∷ (items_of a ++ items_of b)) (items_at n Awaited.Head missing rest)
two_read {n = n} {head = head} {item = item} {a = a} {b = b} join reads_a reads_b missing words rest s =
    let after = items_at n Awaited.Head missing rest in
    let both =
    ap (items_at n Awaited.Head (suc (suc missing))) (append_assoc s.first s.second rest)
    ∙ reads_a.read (suc missing) s.first (s.second ++ rest) s.first_spelled
    ∙ ap (in_front (items_of a)) (reads_b.read missing s.second rest s.second_spelled)
    ∙ in_front-append (items_of a) (items_of b) after in
    ap (before n missing rest) s.joined
    ∙ first n missing head ((s.first ++ s.second) ++ rest) (told Awaited.Head (suc (suc missing)) (Some item))
    (join.headed missing)
    ∙ ap (in_front (item ∷ [])) both ∙ in_front-append (item ∷ []) (items_of a ++ items_of b) after

least_read : (n missing least : ℕ) (word : List ℕ) → number_of word ≡ Some least
    → take_word n Awaited.Least missing word ≡ taken (Awaited.Most least) missing None
unfolding take_word
least_read n missing least word e = rw e refl

most_taken : (n missing least : ℕ) (most : Option ℕ) (word : List ℕ) → most_of word ≡ Some most
    → take_word n (Awaited.Most least) missing word ≡ taken (Awaited.Greed least most) missing None
unfolding take_word
most_taken n missing least most word e = rw e refl

greed_taken : (n missing least : ℕ) (most : Option ℕ) (greedy : Bool)
    → take_word n (Awaited.Greed least most) missing (greed_name greedy)
    ≡ taken Awaited.Head missing (Some (Item.Repeat least most greedy))
unfolding take_word
greed_taken n missing least most greedy = rw (greed_read greedy) refl

phrase_reads : (n : ℕ) (p : Phrase) → Reads n p
unfolding literal_leaf set_leaf look_leaf
phrase_reads n Phrase.Empty = record {
  read = λ missing words rest s.
      ap (before n missing rest) s
      ∙ first n missing Head.Empty rest (told Awaited.Head missing (Some (Item.Leaf Expression.Empty)))
      (one_less missing Awaited.Head (Some (Item.Leaf Expression.Empty)));
}
phrase_reads n (Phrase.Literal bytes) = record {
  read = λ missing words rest s.
      leaf_read (literal_leaf n bytes s.0 (bytes_read s.0 bytes s.1)) missing words rest s.2;
}
phrase_reads n (Phrase.Class set) = record {
  read = λ missing words rest s. leaf_read (set_leaf n set s.0 (set_read s.0 set s.1)) missing words rest s.2;
}
phrase_reads n (Phrase.Look look) = record {
  read = λ missing words rest s.
      leaf_read (look_leaf n look) missing words rest
      (s.2 ∙ ap (λ (w : List ℕ). head_name Head.Look ∷ (w ∷ [])) s.1);
}
phrase_reads n (Phrase.Concat a b) =
    let join : Join n Head.Concat Item.Concat = record { headed = λ missing. one_more missing Item.Concat } in
    record { read = two_read join (phrase_reads n a) (phrase_reads n b) }
phrase_reads n (Phrase.Alternate a b) =
    let join : Join n Head.Alternate Item.Alternate = record { headed = λ missing. one_more missing Item.Alternate } in
    record { read = two_read join (phrase_reads n a) (phrase_reads n b) }
phrase_reads n (Phrase.Repeat least most greedy body) = record {
  read = λ missing words rest s.
      let item = Item.Repeat least most greedy in
      let after = s.body ++ rest in
      let more = greed_name greedy ∷ after in
      ap (before n missing rest) s.joined
      ∙ first n missing Head.Repeat (s.low ∷ (s.high ∷ more)) (told Awaited.Least (suc missing) None) refl
      ∙ in_front-nil (items_at n Awaited.Least (suc missing) (s.low ∷ (s.high ∷ more)))
      ∙ silent n (suc missing) Awaited.Least (Awaited.Most least) s.low (s.high ∷ more)
      (least_read n (suc missing) least s.low (number_read s.low least s.least_spelled))
      ∙ silent n (suc missing) (Awaited.Most least) (Awaited.Greed least most) s.high more
      (most_taken n (suc missing) least most s.high (most_read s.high most s.most_spelled))
      ∙ step n (suc missing) (Awaited.Greed least most) (greed_name greedy) after
      (told Awaited.Head (suc missing) (Some item)) (greed_taken n (suc missing) least most greedy)
      ∙ ap (in_front (item ∷ [])) ((phrase_reads n body).read missing s.body rest s.body_spelled)
      ∙ in_front-append (item ∷ []) (items_of body) (items_at n Awaited.Head missing rest);
}

-- ---- what is made of the items of phrases that are accepted

within_depth : (n : ℕ) (e : Expression) (parts : List Expression) → IsShallow e → shallow n e parts ≡ Ok (e ∷ parts)
within_depth n e parts le = rw (le-ltb max_depth (depth e) le) refl

in_bounds : (least : ℕ) (most : Option ℕ) (body : Expression) → IsBounded least most body
    → (is_bad_range least most ≡ false) × (is_empty_body most body ≡ false)
in_bounds least None body h = (refl, ne_eqb (min_len body) 0 (λ e. omega arith))
in_bounds least (Some most) body h = (le-ltb most least h, refl)

phrase_made : (n : ℕ) (p : Phrase) (parts : List Expression) → IsAccepted p
    → made_onto n (items_of p) parts ≡ Ok (meaning p ∷ parts)
unfolding made_onto
phrase_made n (Phrase.Concat p q) parts a =
    let second = phrase_made n q parts a.1 in
    let first = phrase_made n p (meaning q ∷ parts) a.0 in
    rw (made_onto-append n (items_of p) (items_of q) parts, second, first)
    (within_depth n (Expression.Concat (meaning p) (meaning q)) parts a.2)
phrase_made n (Phrase.Alternate p q) parts a =
    let second = phrase_made n q parts a.1 in
    let first = phrase_made n p (meaning q ∷ parts) a.0 in
    rw (made_onto-append n (items_of p) (items_of q) parts, second, first)
    (within_depth n (Expression.Alternate (meaning p) (meaning q)) parts a.2)
phrase_made n (Phrase.Repeat least most greedy body) parts a =
    let b = in_bounds least most (meaning body) a.1 in
    rw (phrase_made n body parts a.0, b.0, b.1)
    (within_depth n (Expression.Repeat least most greedy (meaning body)) parts a.2)
phrase_made n _ parts a = refl

nothing_left : (n : ℕ) → items_at n Awaited.Head 0 [] ≡ Ok []
unfolding items_at
nothing_left n = refl

pub expression_read
    : (n : ℕ) (words : List (List ℕ)) (e : Expression) → SpellsExpression e words → expression_at n words ≡ Ok e
unfolding expression_at
expression_read n words e s =
    let items = items_of s.phrase in
    let one : items_at n Awaited.Head 1 words ≡ Ok items =
    ap (items_at n Awaited.Head 1) (sym (append-nil words)) ∙ (phrase_reads n s.phrase).read 0 words [] s.spelled
    ∙ ap (in_front items) (nothing_left n) ∙ ap (λ (l : List Item). Ok l) (append-nil items) in
    rw (one, phrase_made n s.phrase [] s.accepted) (ap (λ (x : Expression). Ok x) (sym s.made))
