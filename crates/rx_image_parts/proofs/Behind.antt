-- Parts that stand one behind another.
use Rattle.rx_spec.proofs.Prelude.{common_steps, ◌≡◌, ℕ, List, [], ◌++◌, length, drop, refl, ap, subst, arith, w32}
use Rattle.rx_wire.specs.declared.order.Order.{Order}
use Rattle.rx_wire.specs.Fields.{Stands, field}
use Rattle.rx_image_parts.specs.Written.{IsPut}

-- one part and the next
pub and_then : {first second old mid new : List ℕ} {at mid_at end : ℕ} → IsPut first old mid at mid_at
    → IsPut second mid new mid_at end → IsPut (first ++ second) old new at end
and_then {first} {second} {old} {mid} {new} {at} {mid_at} {end} h k = grind (arith, common_steps)

-- a part that stands up to a place
pub put_up_to : {part old new : List ℕ} {at end place : ℕ} → end ≡ place
    → ((text before : List ℕ) → Stands text before old at → Stands (text ++ part) before new place)
    → IsPut part old new at end
put_up_to {part} {old} {new} {at} {end} {place} e h = grind (arith, common_steps)

-- the part is known by another name
pub put_same : {part other old new : List ℕ} {at end : ℕ} → part ≡ other → IsPut part old new at end
    → IsPut other old new at end
put_same {part} {other} {old} {new} {at} {end} e h = subst (λ (t : List ℕ). IsPut t old new at end) e h

pub of_word : (order : Order) {n m : ℕ} {old new : List ℕ} {at end : ℕ} → n ≡ m
    → IsPut (field order w32 n) old new at end → IsPut (field order w32 m) old new at end
of_word order e h = put_same (ap (field order w32) e) h

-- ---- at the front of a destination

pub written : {part old new : List ℕ} {end : ℕ} → IsPut part old new 0 end
    → (end ≡ length part) × (new ≡ part ++ drop end old)
written {part} {old} {new} {end} put =
    let stands = put.stands [] old (record { place = refl; whole = refl }) in (stands.place, stands.whole)

pub filled : {part old new : List ℕ} {end : ℕ} → IsPut part old new 0 end → length old ≡ end → new ≡ part
filled {part} {old} {new} {end} put len = grind (arith, common_steps, written)
