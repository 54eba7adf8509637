-- The patterns of match rows, key by key.
use Rattle.rx_spec.proofs.Prelude.{common_steps, ◌≡◌, ◌≢◌, ℕ, ◌+◌, ◌*◌, ◌<◌, ◌≤◌, Option, Some, None, List, [], ◌∷◌}
use Rattle.rx_spec.proofs.Prelude.{◌++◌, length, map, take, length-append, refl, ap, sym, ◌∙◌, subst, arith, ⊎_elim}
use Rattle.rx_spec.proofs.Prelude.{cases_eq, cases_lt, ne_eqb, length_push, get_or_push, length-take-le, take_more}
use Rattle.rx_spec.proofs.Prelude.{pow_pos, get_or_from_slice_get, slice_get-get_or, slice_get_within, get, concat}
use Rattle.rx_spec.proofs.Prelude.{keys_of, values_of, nat_cmp, All, Vec, slice_get, sum_by, vec_items, Global}
use Rattle.rx_determinize.proofs.Prelude.{AreLabels, IsLabelAt, Layout, Matches, label_of}
use Rattle.rx_determinize.proofs.Prelude.{pattern_lists, patterns_told, stride}
use Rattle.std.proofs.lemmas.List.Folds.{concat-append}
use Rattle.std.proofs.lemmas.List.Sums.{sum_by_push}
use Rattle.std.specs.BTreeMap.{Updates, insert_entry}
use Rattle.rx_dense.proofs.MatchMaps.{inserted_last, is_at_number, key_ids, lists_last}
use Rattle.rx_determinize.proofs.WorkListLaws.{old_key, slice_get-append}

-- the rows of two places are apart
pub one_row : (l : Layout) (p q : ℕ) → (p + 2) * stride l ≡ (q + 2) * stride l → p ≡ q
one_row l p q e = grind (arith, common_steps, pow_pos)

pub labels_none : (l : Layout) (matches : Matches) → matches.entries ≡ [] → AreLabels [] l matches
labels_none l matches empty = grind (arith, common_steps)

-- the last key, or one before it
last_or_before : (keys : List (List ℕ)) (key other : List ℕ) (place : ℕ)
    → slice_get (keys ++ key ∷ []) place ≡ Some other → (place < length keys → slice_get keys place ≡ Some other)
    × (length keys ≤ place → (place ≡ length keys) × (key ≡ other))
last_or_before keys key other place there =
    let low = slice_get_within (keys ++ key ∷ []) place other there in (
      λ h. old_key keys (key ∷ []) place other there h,
      λ h.
          let last : place ≡ length keys = omega (arith, length_push keys key) in
          let here : slice_get (keys ++ key ∷ []) place ≡ Some key =
          slice_get-get_or (keys ++ key ∷ []) place key low ∙ ap Some (get_or_push keys key key place (sym last)) in
          (last, cc),
    )

module _ {keys : List (List ℕ)} {l : Layout} {matches : Matches} (are : AreLabels keys l matches) (key : List ℕ) where
  abbrev id : ℕ
  id = (length keys + 2) * stride l

  -- what is told of earlier keys stays
  own : (other : ℕ) (patterns : List ℕ) → IsLabelAt keys l other patterns
      → IsLabelAt (keys ++ key ∷ []) l other patterns
  own other patterns is = grind (arith, common_steps, slice_get-append)

  -- the ids of earlier rows are lower
  lower : (other : ℕ) (patterns : List ℕ) → IsLabelAt keys l other patterns → other < id
  lower other patterns is = grind (arith, common_steps, slice_get_within, pow_pos)

  -- a key without a label
  pub labels_skip : label_of key ≡ [] → AreLabels (keys ++ key ∷ []) l matches
  labels_skip plain = record {
    told = λ place other there.
        let cases = last_or_before keys key other place there in
        ⊎_elim
        (λ (h : place < length keys). are.told place other (cases.0 h))
        (λ (h : length keys ≤ place).
        let last = cases.1 h in
        ap (λ p. patterns_told (get nat_cmp matches ((p + 2) * stride l))) last.0
        ∙ none (get nat_cmp matches ((length keys + 2) * stride l)) refl
        ∙ sym plain ∙ ap label_of last.1)
        (cases_lt place (length keys));
    only = λ other patterns there. own other patterns.items (are.only other patterns there);
    count =
        let more : sum_by (λ k. length (label_of k)) (keys ++ key ∷ [])
        ≡ sum_by (λ k. length (label_of k)) keys + length (label_of key) =
        sum_by_push (λ k. length (label_of k)) keys key in
        omega arith;
  }
    where
      none : (o : Option (Vec ℕ Global)) → get nat_cmp matches ((length keys + 2) * stride l) ≡ o
          → patterns_told o ≡ []
      none None e = refl
      none (Some patterns) e =
          absurd (omega (
            arith,
            lower ((length keys + 2) * stride l) patterns.items
                (are.only ((length keys + 2) * stride l) patterns e),
          ))

  -- a key with one
  pub labels_more : {more : Matches} (patterns : Vec ℕ Global) → patterns.items ≡ label_of key
      → 0 < length patterns.items → Updates nat_cmp matches more ((length keys + 2) * stride l) (Some patterns)
      → more.entries ≡ insert_entry nat_cmp matches.entries ((length keys + 2) * stride l) patterns
      → AreLabels (keys ++ key ∷ []) l more
  labels_more {more} patterns label some updates entries = record {
    told = λ place other there.
        let cases = last_or_before keys key other place there in
        ⊎_elim
        (λ (h : place < length keys).
        let apart : (place + 2) * stride l ≢ id = λ e. absurd (omega (arith, one_row l place (length keys) e)) in
        ap patterns_told (kept ((place + 2) * stride l) apart) ∙ are.told place other (cases.0 h))
        (λ (h : length keys ≤ place).
        let last = cases.1 h in
        ap (λ p. patterns_told (get nat_cmp more ((p + 2) * stride l))) last.0 ∙ ap patterns_told updates.1 ∙ label
        ∙ ap label_of last.1)
        (cases_lt place (length keys));
    only = λ other given there. ⊎_elim
        (λ (e : other ≡ id).
        let here : get nat_cmp more other ≡ Some patterns = ap (get nat_cmp more) e ∙ updates.1 in
        let same : patterns ≡ given = cc in
        record {
          place = length keys;
          key = key;
          there = slice_get-get_or (keys ++ key ∷ []) (length keys) key (omega (arith, length_push keys key))
              ∙ ap Some (get_or_push keys key key (length keys) refl);
          id_is = e;
          label = ap vec_items (sym same) ∙ label;
          some = subst (λ (v : Vec ℕ Global). 0 < length v.items) same some;
        })
        (λ (ne : other ≡ id → ⊥). own other given.items (are.only other given (sym (kept other ne) ∙ there)))
        (cases_eq other id);
    count =
        let below : All (λ k. k < id) (keys_of matches.entries) =
        key_ids (λ k. k < id) matches.entries (λ k v e. lower k v.items (are.only k v e)) in
        let lists : pattern_lists more ≡ pattern_lists matches ++ patterns.items ∷ [] =
        ap (λ es. map vec_items (values_of es)) (entries ∙ inserted_last matches.entries id patterns below)
        ∙ lists_last matches.entries id patterns in
        let joined : concat (pattern_lists more) ≡ concat (pattern_lists matches) ++ concat (patterns.items ∷ []) =
        ap concat lists ∙ concat-append (pattern_lists matches) (patterns.items ∷ []) in
        let one : length (concat (patterns.items ∷ [])) ≡ length patterns.items = last_one patterns.items in
        omega (
          arith,
          are.count,
          ap length joined,
          length-append (concat (pattern_lists matches)) (concat (patterns.items ∷ [])),
          ap length label,
          sum_by_push (λ k. length (label_of k)) keys key,
        );
  }
    where
      kept : (other : ℕ) → other ≢ id → get nat_cmp more other ≡ get nat_cmp matches other
      kept other ne = updates.2 other (is_at_number id other ∙ ne_eqb other id ne)

      last_one : (xs : List ℕ) → length (concat (xs ∷ [])) ≡ length xs
      last_one xs = simp length-append (omega arith)

-- ---- by places

taken : (keys : List (List ℕ)) (place : ℕ) (key : List ℕ) → slice_get keys place ≡ Some key
    → take (place + 1) keys ≡ take place keys ++ key ∷ []
taken keys place key there =
    take_more keys place key (slice_get_within keys place key there)
    ∙ ap (λ (other : List ℕ). take place keys ++ other ∷ []) (get_or_from_slice_get keys place key key there)

pub labels_pass : (keys : List (List ℕ)) {l : Layout} {matches : Matches} (place : ℕ) (key : List ℕ)
    → slice_get keys place ≡ Some key → label_of key ≡ [] → AreLabels (take place keys) l matches
    → AreLabels (take (place + 1) keys) l matches
labels_pass keys {l} {matches} place key there plain are =
    subst (λ (ks : List (List ℕ)). AreLabels ks l matches) (sym (taken keys place key there))
    (labels_skip are key plain)

pub labels_at : (keys : List (List ℕ)) {l : Layout} {matches more : Matches} (place : ℕ) (key : List ℕ)
    (patterns : Vec ℕ Global) (row : ℕ) → slice_get keys place ≡ Some key → patterns.items ≡ label_of key
    → (length patterns.items ≡ 0 → ⊥) → row ≡ (place + 2) * stride l
    → Updates nat_cmp matches more row (Some patterns)
    → more.entries ≡ insert_entry nat_cmp matches.entries row patterns
    → AreLabels (take place keys) l matches → AreLabels (take (place + 1) keys) l more
labels_at keys {l} {matches} {more} place key patterns row there label some row_is updates entries are =
    let low = slice_get_within keys place key there in
    let count : length (take place keys) ≡ place = length-take-le place keys (omega arith) in
    let same : row ≡ (length (take place keys) + 2) * stride l = row_is ∙ ap (λ n. (n + 2) * stride l) (sym count) in
    subst (λ (ks : List (List ℕ)). AreLabels ks l more) (sym (taken keys place key there))
    (labels_more are key patterns label (omega arith)
    (subst (λ n. Updates nat_cmp matches more n (Some patterns)) same updates)
    (entries ∙ ap (λ n. insert_entry nat_cmp matches.entries n patterns) same))
