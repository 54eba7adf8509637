use Rattle.rx_spec.proofs.Prelude.{common_steps, ◌≡◌, ◌^◌, ◌-◌, ◌==◌, ◌∙◌, ℕ, Bool, not, List, map, slice_index, refl}
use Rattle.rx_spec.proofs.Prelude.{ap, ap₂, sym, arith, list_any, range_with_len, length-range_with_len}
use Rattle.rx_order.proofs.Prelude.{AreSkippable, Layout, Special, is_accel_kind, is_marked, leaving_of, special_ids}
use Rattle.rx_order.proofs.Prelude.{stride, table_of}
use Rattle.rx_order.proofs.Accelerating.{IsAccelerating, accelerating}
use Rattle.rx_order.proofs.MarkedRows.{match_starts}
use Rattle.rx_order.proofs.Ordered.{arranging_ends}
use Rattle.rx_order.proofs.Unskipped.{stays}
use Rattle.rx_order.proofs.accelerate_rows.accelerate.Goals.{After-arrange, In_ok-order}
use Rattle.rx_order.proofs.accelerate_rows.accelerate.Goals as goal

pub new-requires-clause-ranks : goal.new-requires-clause-ranks
new-requires-clause-ranks c = grind (arith, common_steps, length-range_with_len)

-- the rows by their kinds
sorted : (c : In_ok-order) → AreSkippable c.args.dfa.now c.in_ok-order.order.rows.items c.in_ok-order.order.ends
sorted c = record {
  kinds = c.in_ok-kinds.kinds.items;
  kinds_are = c.in_ok-kinds.ensures.kinds;
  by_kind = rw c.deref-2.ensures.value at c.in_ok-order.ensures.by_kind;
  are_rows = c.in_ok-kinds.ensures.are_rows;
}

pub accels-requires : goal.accels-requires
accels-requires c = record { sorted = sorted (goal.at.accels-requires c).In_ok-order }

pub move_patterns-requires-clause-sorted : goal.move_patterns-requires-clause-sorted
move_patterns-requires-clause-sorted c = sorted (goal.at.move_patterns-requires-clause-sorted c).In_ok-order

-- what the calls leave
moving : (c : After-arrange) (m : Layout)
    → m ≡ record c.arrange.new.dfa {
      accels = map (λ place. leaving_of (table_of c.args.dfa.now) (slice_index c.in_ok-order.order.rows.items place))
          (range_with_len (slice_index c.in_ok-order.order.ends 2)
          (slice_index c.in_ok-order.order.ends 5 - slice_index c.in_ok-order.order.ends 2));
      special = special_ids (stride c.arrange.new.dfa) c.in_ok-order.order.ends (is_marked c.args.dfa.now);
    }
    → IsAccelerating c.args.dfa.now c.in_ok-kinds.kinds.items c.in_ok-order.order.rows.items c.in_ok-order.order.ends
    c.move_patterns.new.dfa c.arrange.new.dfa m
moving c m set =
    let kinds = c.in_ok-kinds.ensures in
    record {
      in_order = c.requires.in_order;
      few = c.in_ok-move_patterns.ensures.fits;
      arranging = record {
        are_rows = kinds.are_rows;
        are_starts = kinds.are_starts;
        kinds_are = kinds.kinds;
        by_kind = rw c.deref-2.ensures.value at c.in_ok-order.ensures.by_kind;
        plain = match_starts c.args.dfa.now c.requires.in_order.sound;
        next_is = c.in_ok-move_patterns.ensures.ok;
        reordered = rw c.deref-4.ensures.value at c.arrange.ensures;
        set = rw set refl;
      };
      accels = ap (λ (k : Layout). k.accels) set;
    }

pub special-requires-2-clause-ids : goal.special-requires-2-clause-ids
special-requires-2-clause-ids c =
    rw (c.stride2.ensures.value ∙ ap (λ (k : Layout). k.stride2) c.set_accels.ensures)
    (arranging_ends (moving (goal.at.special-requires-2-clause-ids c).After-arrange _ refl).arranging)

pub returns-clause-ok : goal.returns-clause-ok
returns-clause-ok c =
    accelerating (moving (goal.at.returns-clause-ok c).After-arrange c.set_special.new.self
    (c.set_special.ensures
    ∙ ap₂ (λ (k : Layout) (special : Special). record k { special = special })
    (c.set_accels.ensures
    ∙ ap (λ (accels : List (List ℕ)). record c.arrange.new.dfa { accels = accels }) c.in_ok-accels.ensures)
    (c.special-2.ensures
    ∙ ap₂ (λ (k : ℕ) (marked : Bool). special_ids (2 ^ k) c.in_ok-order.order.ends marked)
    (c.stride2.ensures.value ∙ ap (λ (k : Layout). k.stride2) c.set_accels.ensures)
    (c.starts-marked.ensures ∙ ap (λ (special : Special). not (special.min_start == 0)) c.special.ensures))))

-- no row gets needles
pub returns-then-not-any_accelerated-clause-ok : goal.returns-then-not-any_accelerated-clause-ok
returns-then-not-any_accelerated-clause-ok c =
    let none = ap (λ (kinds : List ℕ). list_any is_accel_kind kinds) (sym c.deref.ensures.value)
    ∙ sym c.any_accelerated.ensures ∙ c.if-not-any_accelerated.true in
    stays c.requires.in_order c.requires.plain c.requires.joined c.in_ok-kinds.ensures.kinds none
