-- Indexes: no keys are one, and so are an index's keys with a new one behind them.
use Rattle.std.proofs.lemmas.Grind.{common_steps}
use Rattle.std.proofs.Common.{◌≡◌, ℕ, ◌<◌, ◌≤◌, ◌==◌, cond, Option, None, Some, List, [], ◌∷◌, ◌++◌, length, get_or}
use Rattle.std.proofs.Common.{take, subst, arith}
use Rattle.std.proofs.lemmas.List.{length-map, map-append, take-append-le, take_all}
use Rattle.std.proofs.lemmas.List.Elements.{Contains-get_or}
use Rattle.std.proofs.lemmas.List.Quantifiers.{all_pairs_push}
use Rattle.std.proofs.lemmas.Option.{slice_get_within}
use Rattle.std.specs.Prelude.{◌≢◌, slice_get, unwrap_or, Contains}
use Rattle.rx_interner.specs.Hash.{hash_of}
use Rattle.rx_interner.specs.Links.{Link, keys_of}
use Rattle.rx_interner.specs.Index.{AreChained, IsIndex, newest_of}
use Rattle.rx_interner.proofs.Places.{slice_get-push, slice_get-end}
use Rattle.rx_interner.proofs.NewestKeys.{newest_of-push}
use Rattle.rx_interner.proofs.Chains.{key_at}

index_nil : {newest : ℕ → Option ℕ} → ((hash : ℕ) → newest hash ≡ None) → IsIndex [] newest
unfolding newest_of
index_nil none = grind (arith, common_steps)

pub index_empty : {links : List Link} {newest : ℕ → Option ℕ} → links ≡ [] → ((hash : ℕ) → newest hash ≡ None)
    → IsIndex links newest
index_empty empty none = rw empty (index_nil none)

-- the new key's id
pub key_grown : (links : List Link) (new : Link) → slice_get (keys_of (links ++ new ∷ [])) (length links) ≡ Some new.key
key_grown links new = key_at (links ++ new ∷ []) (length links) (slice_get-end links new)

module _ {links : List Link} {newest then : ℕ → Option ℕ} (new : Link) (index : IsIndex links newest)
    (absent : Contains (keys_of links) new.key → ⊥)
    (older : new.older ≡ unwrap_or (newest (hash_of new.key)) (length links))
    (now_newest : (hash : ℕ) → then hash ≡ cond (hash_of new.key == hash) (Some (length links)) (newest hash)) where
  keys_grown : keys_of (links ++ new ∷ []) ≡ keys_of links ++ new.key ∷ []
  keys_grown = map-append (λ (link : Link). link.key) links (new ∷ [])

  newest_grown : (hash : ℕ) → then hash ≡ newest_of hash (keys_of (links ++ new ∷ []))
  newest_grown hash = grind (arith, common_steps, length-map, newest_of-push, keys_grown)

  keys_before : (id : ℕ) → id ≤ length links → take id (keys_of (links ++ new ∷ [])) ≡ take id (keys_of links)
  keys_before id within = grind (arith, common_steps, keys_grown, take-append-le, length-map)

  all_before : take (length links) (keys_of (links ++ new ∷ [])) ≡ keys_of links
  all_before = grind (arith, common_steps, keys_before, take_all, length-map)

  chained_new : (hash : ℕ) → unwrap_or (newest hash) (length links)
      ≡ unwrap_or (newest_of hash (take (length links) (keys_of (links ++ new ∷ [])))) (length links)
  chained_new hash = grind (arith, common_steps, all_before)

  chained_grown : AreChained (links ++ new ∷ [])
  chained_grown id link there = grind (arith, common_steps, slice_get-push, slice_get_within, keys_before, chained_new)

  differs : (k : ℕ) (d : List ℕ) → k < length (keys_of links) → get_or (keys_of links) k d ≢ new.key
  differs k d within e = absent (subst (Contains (keys_of links)) e (Contains-get_or (keys_of links) k d within))

  pub index_grown : IsIndex (links ++ new ∷ []) then
  index_grown = grind (arith, common_steps, newest_grown, chained_grown, keys_grown, all_pairs_push, differs)
