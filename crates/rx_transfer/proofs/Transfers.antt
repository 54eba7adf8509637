-- Bytes that are read or written one piece after another.
use Rattle.rx_spec.proofs.Prelude.{◌≡◌, ℕ, ◌+◌, ◌-◌, List, [], ◌++◌, length, take, drop, Option, Some, None, refl, sym}
use Rattle.rx_spec.proofs.Prelude.{ap, ◌∙◌, append_assoc, append-nil, take-add, take_rest, Consumes, Keeps, Appends}

pub consumes_none : (left : Option (List ℕ)) → Consumes left left []
consumes_none None = tt
consumes_none (Some xs) = refl

pub consumes_more
    : (a b c : Option (List ℕ)) (xs ys : List ℕ) → Consumes a b xs → Consumes b c ys → Consumes a c (xs ++ ys)
consumes_more None b c xs ys p q = tt
consumes_more (Some x) None c xs ys p q = absurd p
consumes_more (Some x) (Some y) None xs ys p q = absurd q
consumes_more (Some x) (Some y) (Some z) xs ys p q = p ∙ ap (λ (l : List ℕ). xs ++ l) q ∙ sym (append_assoc xs ys z)

pub consumes_kept : (a b c : Option (List ℕ)) (xs : List ℕ) → Consumes a b xs → Keeps b c → Consumes a c xs
consumes_kept None b c xs p q = tt
consumes_kept (Some x) None c xs p q = absurd p
consumes_kept (Some x) (Some y) None xs p q = absurd q
consumes_kept (Some x) (Some y) (Some z) xs p q = p ∙ ap (λ (l : List ℕ). xs ++ l) (sym q)

pub keeps_same : (bytes : Option (List ℕ)) → Keeps bytes bytes
keeps_same None = tt
keeps_same (Some xs) = refl

pub appends_none : (written : Option (List ℕ)) → Appends written written []
appends_none None = tt
appends_none (Some xs) = sym (append-nil xs)

pub appends_more : (a b c : Option (List ℕ)) (xs ys : List ℕ) → Appends a b xs → Appends b c ys → Appends a c (xs ++ ys)
appends_more None b c xs ys p q = tt
appends_more (Some x) None c xs ys p q = absurd p
appends_more (Some x) (Some y) None xs ys p q = absurd q
appends_more (Some x) (Some y) (Some z) xs ys p q = q ∙ ap (λ (l : List ℕ). l ++ ys) p ∙ append_assoc x xs ys

pub written_more
    : (text : List ℕ) (at n : ℕ) (a b c : Option (List ℕ)) → Appends a b (take at text)
    → Appends b c (take n (take (length text - at) (drop at text))) → Appends a c (take (at + n) text)
written_more text at n a b c p q =
    let e : take (length text - at) (drop at text) ≡ drop at text = take_rest text at in
    let q' = rw e at q in
    rw (take-add at n text) (appends_more a b c (take at text) (take n (drop at text)) p q')
