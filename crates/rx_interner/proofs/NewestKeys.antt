-- The newest key of a hash.
use Rattle.std.proofs.lemmas.Grind.{common_steps}
use Rattle.std.proofs.Common.{◌≡◌, ℕ, suc, ◌<◌, ◌≤◌, ◌==◌, Bool, true, false, cond, Option, None, Some, List, [], ◌∷◌}
use Rattle.std.proofs.Common.{◌++◌, length, slice_get, refl, arith}
use Rattle.std.proofs.lemmas.Bool.Decides.{Decides-eqb}
use Rattle.std.specs.Bool.{Decides}
use Rattle.std.specs.Option.{option_map, option_or, MatchOption}
use Rattle.rx_interner.specs.Hash.{hash_of}
use Rattle.rx_interner.specs.Index.{newest_of}

module _ (hash : ℕ) where
  -- no key has the hash
  abbrev pub NoneHas : List (List ℕ) → Type 0
  NoneHas keys = (id : ℕ) (key : List ℕ) → slice_get keys id ≡ Some key → hash_of key ≡ hash → ⊥

  -- the key of an id has the hash, and no newer key has it
  pub record HasLast (keys : List (List ℕ)) (id : ℕ) : Type 0 where
    pub within : id < length keys
    pub has : (key : List ℕ) → slice_get keys id ≡ Some key → hash_of key ≡ hash
    pub none_newer : (newer : ℕ) (key : List ℕ) → slice_get keys newer ≡ Some key → hash_of key ≡ hash → newer ≤ id

  abbrev IsNewest : List (List ℕ) → Option ℕ → Type 0
  IsNewest keys id = MatchOption id (NoneHas keys) (HasLast keys)

  IsNewest-cons : (first : List ℕ) (keys : List (List ℕ)) (id : Option ℕ) (b : Bool) → Decides b (hash_of first ≡ hash)
      → IsNewest keys id → IsNewest (first ∷ keys) (option_or (option_map suc id) (cond b (Some 0) None))
  IsNewest-cons first keys None false decides newest = grind (arith, common_steps)
  IsNewest-cons first keys None true decides newest = grind (arith, common_steps, slice_get)
  IsNewest-cons first keys (Some id) b decides newest = grind (arith, common_steps, slice_get)

  pub newest_of_is : (keys : List (List ℕ)) → IsNewest keys (newest_of hash keys)
  unfolding newest_of
  newest_of_is [] = λ id key there has. absurd cc
  newest_of_is (first ∷ keys) =
      IsNewest-cons first keys (newest_of hash keys) (hash_of first == hash) (Decides-eqb (hash_of first) hash)
      (newest_of_is keys)

  push_one : (id : Option ℕ) (b c : Bool) (n : ℕ)
      → option_or (option_map suc (cond b (Some n) id)) (cond c (Some 0) None)
      ≡ cond b (Some (suc n)) (option_or (option_map suc id) (cond c (Some 0) None))
  push_one id true c n = refl
  push_one id false c n = refl

  pub newest_of-push : (keys : List (List ℕ)) (key : List ℕ)
      → newest_of hash (keys ++ key ∷ []) ≡ cond (hash_of key == hash) (Some (length keys)) (newest_of hash keys)
  unfolding newest_of
  newest_of-push [] key = refl
  newest_of-push (first ∷ keys) key =
      rw (newest_of-push keys key)
      (push_one (newest_of hash keys) (hash_of key == hash) (hash_of first == hash) (length keys))
