use Rattle.rx_spec.proofs.Prelude.{◌≡◌, ◌+◌, ◌<◌, [], ◌∷◌, ℕ, List, length, map, get_or, set, true, false, sym, subst}
use Rattle.rx_spec.proofs.Prelude.{arith, rules, get_or-set_same, All-append, All-cons, All-nil, All, slice_index}
use Rattle.rx_stepper.proofs.Prelude.{IsGroup, meaning, unit_number}
use Rattle.rx_stepper.proofs.GroupLists.{each_push, still_marked, is_group}
use Rattle.rx_stepper.proofs.ReadColumns.{unit_there}
use Rattle.rx_stepper.proofs.groups.Groups.new.Goals as goal

pub loop-unit-preserved : goal.loop-unit-preserved
loop-unit-preserved c =
    let nfa = meaning c.args.nfa.now in
    let units = map unit_number c.args.units.now in
    let i = c.loop-unit.unit-index in
    let group = c.to_bits-group.result in
    let of = c.loop-unit.of.items in
    let used = c.loop-unit.used.items in
    let before = c.loop-unit.invariant in
    let pushed = c.in_ok-push.ensures.items in
    let bits = c.to_bits-group.ensures in
    let within : i < length c.args.units.now = omega arith in
    let unit = unit_there c.args.units.now i _ within in
    let here =
    is_group nfa unit c.line_terminator.ensures c.asked_facts-asked.ensures c.of_unit-known.ensures c.intersect.ensures
    bits.value bits.back in
    let place = before.len in
    let used_len = before.used_len in
    let set_here = get_or-set_same used group true false (omega arith) in
    let Marked = λ (k v : ℕ). get_or (set used group true) v false ≡ true in
    let still =
    λ (k : ℕ) (h : k < i). still_marked used group (get_or of k 0) (omega arith) (before.used k h) in
    let Each = λ (l : List ℕ). (k : ℕ) → k < i + 1 → IsGroup nfa (slice_index units k) (get_or l k 0) in
    let Used = λ (l : List ℕ). (k : ℕ) → k < i + 1 → get_or (set used group true) (get_or l k 0) false ≡ true in
    record {
      len = search rules;
      used_len = search rules;
      each =
          subst Each (sym pushed) (each_push (λ k v. IsGroup nfa
          (slice_index units k) v) of group i place before.each here);
      below =
          subst (All (λ g. g < 32)) (sym pushed)
          (All-append (λ g. g < 32) of (group ∷ []) before.below (All-cons (λ g. g < 32) group [] bits.bound
          (All-nil (λ g. g < 32))));
      used = subst Used (sym pushed) (each_push Marked of group i place still set_here);
    }
