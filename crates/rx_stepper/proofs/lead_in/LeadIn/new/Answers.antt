use Rattle.rx_spec.proofs.Prelude.{common_steps, ◌≡◌, ◌<◌, List, ℕ, length, ap, sym, ◌∙◌, subst, arith, firsts}
use Rattle.rx_stepper.proofs.Prelude.{ArePlaces, NFA, meaning}
use Rattle.std.specs.List.{AllByRecursion as Every}
use Rattle.rx_stepper.proofs.LeadClosing.{lead_once, lead_within}
use Rattle.rx_stepper.proofs.lead_in.LeadIn.new.Goals as goal

pub places_of-requires : goal.places_of-requires
places_of-requires c =
    let nfa = meaning c.args.closures.now.nfa.now in
    let listed = c.deref.ensures.value ∙ c.list_lead_in.ensures.rows in
    let len : length nfa.rows ≡ c.len.result = omega (
      arith,
      ap (λ (n : NFA). length (meaning n).rows) c.list_lead_in.ensures.nfa,
    ) in
    record {
      within = subst (λ n. Every (λ q. q < n) c.deref.result.now) len
          (subst (Every (λ q. q < length nfa.rows)) (sym listed) (lead_within nfa));
      once = subst (λ (l : List ℕ). firsts l ≡ l) (sym listed) (lead_once nfa);
      few = omega arith;
    }

pub invariant_of-result : goal.invariant_of-result
invariant_of-result c =
    let nfa = meaning c.args.closures.now.nfa.now in
    let copied = c.in_ok-to_vec.ensures.items_if_clones_equal (λ x y e. e) in
    let same = copied ∙ c.deref-3.ensures.value in
    record {
      places_are =
          subst (λ l. ArePlaces l c.in_ok-places_of.field-0.items) (c.deref.ensures.value ∙ sym same)
          c.in_ok-places_of.ensures;
      once = subst (λ (l : List ℕ). firsts l ≡ l) (sym (same ∙ c.list_lead_in.ensures.rows)) (lead_once nfa);
      few = omega (arith, ap length same);
    }

pub returns-clause-is : goal.returns-clause-is
returns-clause-is c = grind (arith, common_steps)
