-- The rows of a block get numbers by their keys.
use Rattle.rx_refine.proofs.Prelude.{All, All-contains, Contains-from_any, List, NumbersRows, ap, arith, cases_eq}
use Rattle.rx_refine.proofs.Prelude.{common_steps, eqb-true, false, get_or, get_or-set_other, get_or-set_same}
use Rattle.rx_refine.proofs.Prelude.{get_or_default, how_many_have, inl, inr, is_in, length, length-set, refl, set}
use Rattle.rx_refine.proofs.Prelude.{subst, sym, take, take_all, true, ℕ, ◌*◌, ◌+◌, ◌<◌, ◌∙◌, ◌≡◌, ◌≤◌}
use Rattle.rx_refine.proofs.LeadingKey.{is_in_next, is_in_kept}

-- a row is taken in this turn or was taken before
taken_before : (members : List ℕ) (i x : ℕ) → i < length members → is_in (take (i + 1) members) x ≡ true
    → (x ≡ get_or members i 0 → ⊥) → is_in (take i members) x ≡ true
taken_before members i x l t ne = grind (arith, common_steps)

not_before : (members : List ℕ) (i x : ℕ) → is_in (take (i + 1) members) x ≡ false → is_in (take i members) x ≡ false
not_before members i x f = grind (arith, common_steps)

not_next : (members : List ℕ) (i x : ℕ) → i < length members → is_in (take (i + 1) members) x ≡ false
    → x ≡ get_or members i 0 → ⊥
not_next members i x l f e = grind (arith, common_steps)

-- what is to be numbered: rows, a key for each row, the key whose rows keep their numbers, the first new number,
-- and the numbers that there were
pub record Job : Type 0 where
  pub members : List ℕ
  pub keys : List ℕ
  pub kept : ℕ
  pub first : ℕ
  pub old : List ℕ

-- the row whose turn it is, and its key
abbrev pub row_at : Job → ℕ → ℕ
row_at job i = get_or job.members i 0

abbrev pub key_at : Job → ℕ → ℕ
key_at job i = get_or job.keys (row_at job i) 0

-- the names where the key of that row has one more
abbrev pub named : Job → ℕ → List ℕ → ℕ → List ℕ
named job i names count = set names (key_at job i) count

-- the first rows have their numbers
pub record IsNumbering (job : Job) (i : ℕ) (names blocks : List ℕ) (count : ℕ) : Type 0 where
  pub rising : job.first ≤ count
  pub few : count ≤ job.first + i
  pub names_below : All (λ name. name < count) names
  pub others : (x : ℕ) → is_in (take i job.members) x ≡ false → get_or blocks x 0 ≡ get_or job.old x 0
  pub same : (x : ℕ) → get_or job.keys x 0 ≡ job.kept → get_or blocks x 0 ≡ get_or job.old x 0
  pub has_name : (x : ℕ) → is_in (take i job.members) x ≡ true → (get_or job.keys x 0 ≡ job.kept → ⊥)
      → job.first ≤ get_or names (get_or job.keys x 0) 0
  pub numbered : (x : ℕ) → is_in (take i job.members) x ≡ true → (get_or job.keys x 0 ≡ job.kept → ⊥)
      → get_or blocks x 0 ≡ get_or names (get_or job.keys x 0) 0
  pub apart : (j k : ℕ) → j < length names → k < length names → job.first ≤ get_or names j 0
      → get_or names j 0 ≡ get_or names k 0 → j ≡ k
  pub used : (number : ℕ) → job.first ≤ number → number < count
      → (x : ℕ) × (is_in (take i job.members) x ≡ true) × (get_or job.keys x 0 ≡ job.kept → ⊥)
      × (get_or blocks x 0 ≡ number)

module _ {job : Job} {i : ℕ} {names blocks : List ℕ} {count : ℕ} (l : i < length job.members)
    (a : IsNumbering job i names blocks count) where
  -- the next row keeps its number
  pub numbered_kept : key_at job i ≡ job.kept → IsNumbering job (i + 1) names blocks count
  numbered_kept e =
      let before : (x : ℕ) → is_in (take (i + 1) job.members) x ≡ true → (get_or job.keys x 0 ≡ job.kept → ⊥)
      → is_in (take i job.members) x ≡ true =
      λ x t ne. taken_before job.members i x l t (λ s. ne (ap (λ n. get_or job.keys n 0) s ∙ e)) in
      record {
        rising = a.rising;
        few = let f = a.few in omega arith;
        names_below = a.names_below;
        others = λ x f. a.others x (not_before job.members i x f);
        same = a.same;
        has_name = λ x t ne. a.has_name x (before x t ne) ne;
        numbered = λ x t ne. a.numbered x (before x t ne) ne;
        apart = a.apart;
        used = λ number g h. (let u = a.used number g h in (u.0, is_in_kept job.members i u.0 u.1, u.2, u.3));
      }

  module _ (ne : key_at job i ≡ job.kept → ⊥) (hr : row_at job i < length blocks) where
    blocks_others : (v x : ℕ) → is_in (take (i + 1) job.members) x ≡ false
        → get_or (set blocks (row_at job i) v) x 0 ≡ get_or job.old x 0
    blocks_others v x f = grind (arith, common_steps, get_or-set_other, not_next, job.members, a.others, not_before)

    blocks_same : (v x : ℕ) → get_or job.keys x 0 ≡ job.kept
        → get_or (set blocks (row_at job i) v) x 0 ≡ get_or job.old x 0
    blocks_same v x e = grind (arith, common_steps, get_or-set_other, job.keys, a.same)

    -- the next row's key has a number
    pub numbered_again : job.first ≤ get_or names (key_at job i) 0
        → IsNumbering job (i + 1) names (set blocks (row_at job i) (get_or names (key_at job i) 0)) count
    numbered_again g =
        let own = get_or names (key_at job i) 0 in
        record {
          rising = a.rising;
          few = let f = a.few in omega arith;
          names_below = a.names_below;
          others = blocks_others own;
          same = blocks_same own;
          has_name = λ x t n. elim (cases_eq x (row_at job i)) [
            | inl e ↦ subst (λ r. job.first ≤ get_or names (get_or job.keys r 0) 0) (sym e) g
            | inr d ↦ a.has_name x (taken_before job.members i x l t d) n
          ];
          numbered = λ x t n. elim (cases_eq x (row_at job i)) [
            | inl e ↦ rw (e, get_or-set_same blocks (row_at job i) own 0 hr) refl
            | inr d ↦
                get_or-set_other blocks (row_at job i) x own 0 d ∙ a.numbered x (taken_before job.members i x l t d) n
          ];
          apart = a.apart;
          used = λ number f h. (
              let u = a.used number f h in (
                u.0,
                is_in_kept job.members i u.0 u.1,
                u.2,
                elim (cases_eq u.0 (row_at job i)) [
                  | inl e ↦ ap (λ r. get_or (set blocks (row_at job i) own) r 0) e
                      ∙ get_or-set_same blocks (row_at job i) own 0 hr
                      ∙ ap (λ r. get_or names (get_or job.keys r 0) 0) (sym e)
                      ∙ sym (a.numbered u.0 u.1 u.2)
                      ∙ u.3
                  | inr d ↦ get_or-set_other blocks (row_at job i) u.0 own 0 d ∙ u.3
                ],
              ));
        }

    module _ (hk : key_at job i < length names) (g : get_or names (key_at job i) 0 < job.first) where
      name_own : (d : ℕ) → get_or (named job i names count) (key_at job i) d ≡ count
      name_own d = get_or-set_same names (key_at job i) count d hk

      name_other : (j d : ℕ) → (j ≡ key_at job i → ⊥) → get_or (named job i names count) j d ≡ get_or names j d
      name_other j d n = get_or-set_other names (key_at job i) j count d n

      -- a key that has a number isn't the next row's
      not_own : (j : ℕ) → job.first ≤ get_or names j 0 → j ≡ key_at job i → ⊥
      not_own j f e = grind (arith, common_steps)

      new_named : All (λ name. name < count + 1) (named job i names count)
      new_named j d h = grind (arith, common_steps, length-set, cases_eq, name_own, name_other, a.names_below)

      new_apart : (j k : ℕ) → j < length names → k < length names → job.first ≤ get_or (named job i names count) j 0
          → get_or (named job i names count) j 0 ≡ get_or (named job i names count) k 0 → j ≡ k
      new_apart j k hj hk' f e =
          elim (cases_eq j (key_at job i)) [
            | inl ej ↦ grind (arith, common_steps, cases_eq, name_own, name_other, a.names_below)
            | inr nj ↦ grind (arith, common_steps, cases_eq, name_other, name_own, a.names_below, a.apart)
          ]

      new_has_name : (x : ℕ) → is_in (take (i + 1) job.members) x ≡ true → (get_or job.keys x 0 ≡ job.kept → ⊥)
          → job.first ≤ get_or (named job i names count) (get_or job.keys x 0) 0
      new_has_name x t n =
          grind (
            arith,
            common_steps,
            cases_eq,
            name_own,
            a.rising,
            a.has_name,
            taken_before,
            job.members,
            name_other,
            job.keys,
            not_own,
          )

      new_numbered : (x : ℕ) → is_in (take (i + 1) job.members) x ≡ true → (get_or job.keys x 0 ≡ job.kept → ⊥)
          → get_or (set blocks (row_at job i) count) x 0 ≡ get_or (named job i names count) (get_or job.keys x 0) 0
      new_numbered x t n =
          grind (
            arith,
            common_steps,
            cases_eq,
            name_own,
            get_or-set_same,
            taken_before,
            job.members,
            get_or-set_other,
            a.numbered,
            name_other,
            job.keys,
            not_own,
            a.has_name,
          )

      new_used : (number : ℕ) → job.first ≤ number → number < count + 1
          → (x : ℕ) × (is_in (take (i + 1) job.members) x ≡ true) × (get_or job.keys x 0 ≡ job.kept → ⊥)
          × (get_or (set blocks (row_at job i) count) x 0 ≡ number)
      new_used number f h =
          elim (cases_eq number count) [
            | inl e ↦ grind (arith, common_steps, is_in_next, job.members, get_or-set_same)
            | inr n ↦
                let u = a.used number f (omega arith) in
                let d : u.0 ≡ row_at job i → ⊥ =
                λ s. not_own (get_or job.keys u.0 0) (a.has_name u.0 u.1 u.2) (ap (λ r. get_or job.keys r 0) s) in
                (u.0, is_in_kept job.members i u.0 u.1, u.2, get_or-set_other blocks (row_at job i) u.0 count 0 d ∙ u.3)
          ]

      -- the next row's key gets a number
      pub numbered_new : IsNumbering job (i + 1) (named job i names count) (set blocks (row_at job i) count) (count + 1)
      numbered_new = record {
        rising = let r = a.rising in omega arith;
        few = let f = a.few in omega arith;
        names_below = new_named;
        others = blocks_others count;
        same = blocks_same count;
        has_name = new_has_name;
        numbered = new_numbered;
        apart = λ j k hj hk' f e. new_apart j k (rw length-set at hj) (rw length-set at hk') f e;
        used = new_used;
      }

-- all rows have their numbers
module _ {job : Job} {i : ℕ} {names blocks : List ℕ} {count : ℕ} (end : i ≡ length job.members)
    (a : IsNumbering job i names blocks count) (rows : All (λ row. row < length job.keys) job.members)
    (small : All (λ key. key < length names) job.keys) (len : length blocks ≡ length job.keys) where
  all : take i job.members ≡ job.members
  all = take_all i job.members (omega arith)

  taken : (x : ℕ) → is_in job.members x ≡ true → is_in (take i job.members) x ≡ true
  taken x t = rw all t

  row_small : (x : ℕ) → is_in job.members x ≡ true → x < length job.keys
  row_small x t =
      All-contains (λ row. row < length job.keys) job.members x rows
      (Contains-from_any (λ p q. eqb-true p q) x job.members t)

  key_small : (x : ℕ) → is_in job.members x ≡ true → get_or job.keys x 0 < length names
  key_small x t = small x 0 (row_small x t)

  pub NumbersRows_end :
      (0 < length job.members → (row : ℕ) × (is_in job.members row ≡ true) × (get_or job.keys row 0 ≡ job.kept))
      → ((key : ℕ) → (key ≡ job.kept → ⊥) → 2 * how_many_have job.keys key job.members ≤ length job.members)
      → NumbersRows job.members job.keys job.first job.old blocks count
  NumbersRows_end some half = record {
    kept = job.kept;
    some = some;
    half = half;
    others = λ x f. a.others x (rw all f);
    same = a.same;
    from_first = λ x t ne. rw (a.numbered x (taken x t) ne) (a.has_name x (taken x t) ne);
    below = λ x t ne. rw (a.numbered x (taken x t) ne) (a.names_below (get_or job.keys x 0) 0 (key_small x t));
    joined = grind (arith, common_steps);
    apart = grind (arith, common_steps);
    used = λ number f h. (
        let u = a.used number f h in
        let r : u.0 < length blocks = let s = row_small u.0 (rw all at u.1) in omega arith in
        (u.0, r, get_or_default blocks u.0 number 0 r ∙ u.3));
  }
