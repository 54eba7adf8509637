-- The sizes that limits are compared with only grow with the states; so one is passed by some states that are
-- reached exactly where it is passed by all.
use Rattle.rx_spec.proofs.Prelude.{rules, ◌≡◌, ◌≢◌, ℕ, ◌<◌, ◌≤◌, ◌↔◌, ◌&&◌, Bool, true, false, if◌then◌else◌, List, []}
use Rattle.rx_spec.proofs.Prelude.{◌∷◌, length, map, refl, ap, sym, subst, arith, common_steps, Contains, AllPairs}
use Rattle.rx_spec.proofs.Prelude.{sum_by, sum_by-cons, State, Build, Node, dead, AreReached, determinizer_size}
use Rattle.rx_spec.proofs.Prelude.{label_total, table_size, last_id, sparse_size, sparse_bound, Exceeds}
use Rattle.std.proofs.lemmas.List.Sums.{sum_by-le-sum_by}
use Rattle.rx_spec.specs.Sizes.{state_size, leaving_bytes, is_skippable_node, needle_count, sparse_row_size}
use Rattle.rx_spec.specs.Causes.{Limits, sparse_length}
use Rattle.rx_lemmas.proofs.Firsts.{by_test}
use Rattle.rx_lemmas.proofs.Sublists.{sum_by-within, length-within}

-- what different members of a list measure is at most what all of it measures
abbrev pub OnlyGrows : (List State → ℕ) → Type 0
OnlyGrows size = (xs ys : List State) → AllPairs (λ x y. x ≢ y) xs
    → ((s : State) → Contains xs s → Contains ys s) → size xs ≤ size ys

pub count_grows : OnlyGrows length
count_grows xs ys apart within = length-within xs ys apart within

pub determinizer_grows : OnlyGrows determinizer_size
determinizer_grows = sum_by-within state_size

pub labels_grow : OnlyGrows label_total
labels_grow = sum_by-within (λ s. length s.label)

pub table_grows : (stride entries : ℕ) → OnlyGrows (λ states. table_size (length states) stride entries)
table_grows stride entries xs ys apart within = grind (arith, common_steps, count_grows)

pub ids_grow : (stride : ℕ) → OnlyGrows (λ states. last_id (length states) stride)
ids_grow stride xs ys apart within = grind (arith, common_steps, count_grows)

pub bound_grows : (b : Build) (byte_classes : Bool) → OnlyGrows (sparse_bound b byte_classes)
bound_grows b byte_classes xs ys apart within = grind (arith, common_steps, count_grows, labels_grow)

module _ (b : Build) (byte_classes accelerate : Bool) where
  sum_by-map : {X Y : Type 0} (f : Y → ℕ) (g : X → Y) (xs : List X) → sum_by f (map g xs) ≡ sum_by (λ x. f (g x)) xs
  sum_by-map f g [] = refl
  sum_by-map f g (x ∷ xs) = grind (arith, common_steps)

  -- a row has needles only where there is a state
  abbrev needles_where : Node → Bool → ℕ
  needles_where node some = if accelerate && some && is_skippable_node b node then length (leaving_bytes b node) else 0

  needles_grow : (xs ys : List State) → length xs ≤ length ys → (node : Node)
      → needle_count b accelerate xs node ≤ needle_count b accelerate ys node
  needles_grow xs ys count node = grind (arith, common_steps)

  row_grows : (xs ys : List State) → length xs ≤ length ys → (node : Node)
      → sparse_row_size b byte_classes accelerate xs node ≤ sparse_row_size b byte_classes accelerate ys node
  row_grows xs ys count node = let needles = needles_grow xs ys count node in omega arith

  pub sparse_grows : OnlyGrows (sparse_size b byte_classes accelerate)
  sparse_grows xs ys apart within =
      let run = λ (s : State). Node.Running s in
      let f = sparse_row_size b byte_classes accelerate xs in
      let g = sparse_row_size b byte_classes accelerate ys in
      let count = count_grows xs ys apart within in
      let same : sum_by f (dead ∷ Node.Quit ∷ map run xs) ≤ sum_by g (dead ∷ Node.Quit ∷ map run xs) =
      sum_by-le-sum_by f g (dead ∷ Node.Quit ∷ map run xs) (row_grows xs ys count) in
      let more : sum_by (λ s. g (run s)) xs ≤ sum_by (λ s. g (run s)) ys = grind (arith, common_steps, sum_by-within) in
      let all : sum_by g (dead ∷ Node.Quit ∷ map run xs) ≤ sum_by g (dead ∷ Node.Quit ∷ map run ys) =
      grind (arith, common_steps, sum_by-cons, dead, sum_by-map) in
      omega arith

pub length_grows : (l : Limits) (b : Build) → OnlyGrows (sparse_length l b)
length_grows l b =
    by_test l.minimize
    (λ e. subst OnlyGrows (sym (is_bound e)) (bound_grows b l.byte_classes))
    (λ e. subst OnlyGrows (sym (is_size e)) (sparse_grows b l.byte_classes l.accelerate))
  where
    chosen : Bool → List State → ℕ
    chosen minimize states =
        if minimize then sparse_bound b l.byte_classes states else sparse_size b l.byte_classes l.accelerate states

    is_bound : l.minimize ≡ true → sparse_length l b ≡ sparse_bound b l.byte_classes
    is_bound e = ap (λ minimize states. chosen minimize states) e

    is_size : l.minimize ≡ false → sparse_length l b ≡ sparse_size b l.byte_classes l.accelerate
    is_size e = ap (λ minimize states. chosen minimize states) e

-- two lists of all states that are reached have one length
pub reached_count : (b : Build) (xs ys : List State) → AreReached b xs → AreReached b ys → length xs ≡ length ys
reached_count b xs ys r s = search (rules, length-within)

-- Some states that are reached pass a limit exactly where all of them do.
pub exceeds_exactly : (b : Build) (size : List State → ℕ) (limit : ℕ) (states : List State) → OnlyGrows size
    → AreReached b states → Exceeds b size limit ↔ ((0 < length states) × (limit < size states))
exceeds_exactly b size limit states grows all = search (rules, count_grows)
