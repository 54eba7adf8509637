-- How a key is found: from the newest key of its hash over older ones.
use Rattle.std.proofs.Common.{rules, ◌≡◌, ℕ, ◌<◌, ◌≤◌, ◌⊎◌, inl, inr, Option, None, Some, List, length, take, refl, ap}
use Rattle.std.proofs.Common.{sym, ◌∙◌, arith, length-take}
use Rattle.std.proofs.lemmas.Grind.{common_steps}
use Rattle.std.proofs.lemmas.List.{length-map}
use Rattle.std.proofs.lemmas.Option.{slice_get-get_or, slice_get-map, same_Some}
use Rattle.std.specs.Option.{MatchOption}
use Rattle.std.specs.Prelude.{slice_get, unwrap_or, Contains}
use Rattle.rx_interner.specs.Hash.{hash_of}
use Rattle.rx_interner.specs.Links.{Link, keys_of}
use Rattle.rx_interner.specs.Index.{AreChained, IsIndex, newest_of}
use Rattle.rx_interner.proofs.Places.{slice_get-take}
use Rattle.rx_interner.proofs.NewestKeys.{NoneHas, HasLast, newest_of_is}

-- A search for a key has come to an id: the key, if it is there, has this id or an older one.
pub record IsReached (links : List Link) (key : List ℕ) (id : ℕ) : Type 0 where
  pub within : id < length links
  pub same_hash : (kept : List ℕ) → slice_get (keys_of links) id ≡ Some kept → hash_of kept ≡ hash_of key
  pub none_newer : (newer : ℕ) → slice_get (keys_of links) newer ≡ Some key → newer ≤ id

place_of : (keys : List (List ℕ)) (key : List ℕ) (at : Contains keys key) → slice_get keys at.0 ≡ Some key
place_of keys key at = slice_get-get_or keys at.0 key at.1 ∙ ap (λ k. Some k) at.2

pub key_at : (links : List Link) (id : ℕ) {link : Link} → slice_get links id ≡ Some link
    → slice_get (keys_of links) id ≡ Some link.key
key_at links id there = grind (arith, common_steps, slice_get-map)

-- where no key has its hash, a key is not there
pub none_there : {links : List Link} {newest : ℕ → Option ℕ} → IsIndex links newest → (key : List ℕ)
    → newest (hash_of key) ≡ None → Contains (keys_of links) key → ⊥
none_there {links} index key none at =
    let has_none = rw (sym (index.newest_is (hash_of key)) ∙ none) at (newest_of_is (hash_of key) (keys_of links)) in
    has_none at.0 key (place_of (keys_of links) key at) refl

module _ {links : List Link} {key : List ℕ} where
  pub reached_newest : {newest : ℕ} → newest_of (hash_of key) (keys_of links) ≡ Some newest
      → IsReached links key newest
  reached_newest {newest} e = grind (arith, common_steps, length-map, last.within, last.has, last.none_newer)
    where
      last : HasLast (hash_of key) (keys_of links) newest
      last = rw e at (newest_of_is (hash_of key) (keys_of links))

  -- the search leaves a link whose key is another one
  module _ {id : ℕ} {link : Link} (chained : AreChained links) (there : slice_get links id ≡ Some link)
      (differs : link.key ≡ key → ⊥) (reached : IsReached links key id) where
    older_keys : List (List ℕ)
    older_keys = take id (keys_of links)

    leads_to : (newest : Option ℕ) → newest_of (hash_of link.key) older_keys ≡ newest → link.older ≡ unwrap_or newest id
    unfolding older_keys
    leads_to newest e = chained id link there ∙ ap (λ o. unwrap_or o id) e

    -- the key, if it is there, is among the older ones
    is_older : (k : ℕ) → slice_get (keys_of links) k ≡ Some key → k < id
    is_older k at = grind (arith, common_steps, reached.none_newer, same_Some, link.key, key_at)

    among_older : (k : ℕ) → slice_get (keys_of links) k ≡ Some key → slice_get older_keys k ≡ Some key
    unfolding older_keys
    among_older k at = slice_get-take id (keys_of links) k (is_older k at) ∙ at

    has_hash : hash_of key ≡ hash_of link.key
    has_hash = sym (reached.same_hash link.key (key_at links id there))

    abbrev Ends : Type 0
    Ends = (link.older ≡ id) × (Contains (keys_of links) key → ⊥)

    abbrev Goes : Type 0
    Goes = (link.older < id) × IsReached links key link.older

    ends : NoneHas (hash_of link.key) older_keys → Contains (keys_of links) key → ⊥
    ends none at = none at.0 key (among_older at.0 (place_of (keys_of links) key at)) has_hash

    goes : (older : ℕ) → HasLast (hash_of link.key) older_keys older → link.older ≡ older → Goes
    unfolding older_keys
    goes older last e =
        let lt : older < id = omega (arith, last.within, length-take id (keys_of links)) in
        rw e (
          lt,
          search (rules, reached.within, last.has, slice_get-take, has_hash, last.none_newer, among_older),
        )

    cases : (older : Option ℕ) → newest_of (hash_of link.key) older_keys ≡ older
        → MatchOption older (NoneHas (hash_of link.key) older_keys) (HasLast (hash_of link.key) older_keys)
        → Ends ⊎ Goes
    cases None e none = inl (leads_to None e, ends none)
    cases (Some older) e last = inr (goes older last (leads_to (Some older) e))

    pub next : Ends ⊎ Goes
    next = cases (newest_of (hash_of link.key) older_keys) refl (newest_of_is (hash_of link.key) older_keys)
