use Rattle.std.proofs.Common.{arith, refl, rules}
use Rattle.std.proofs.lemmas.Grind.{common_steps}
use Rattle.rx_interner.proofs.Chains.{none_there}
use Rattle.rx_interner.proofs.Indexes.{index_grown, key_grown}
use Rattle.rx_interner.proofs.interner.Interner.intern.Goals as goal

pub invariant_of-self-in-Occupied : goal.invariant_of-self-in-Occupied
invariant_of-self-in-Occupied c =
    rw c.in_ok-id-in-Occupied.ensures.ok
    (index_grown _ c.self.invariant c.in_default.ensures.none (search rules) (λ hash. search rules))

pub returns-in_ok-id-in-Occupied-clause-id : goal.returns-in_ok-id-in-Occupied-clause-id
returns-in_ok-id-in-Occupied-clause-id c = grind (arith, common_steps, key_grown)

pub invariant_of-self-in-Vacant : goal.invariant_of-self-in-Vacant
invariant_of-self-in-Vacant c =
    rw c.in_ok-id-in-Vacant.ensures.ok
    (index_grown _ c.self.invariant (none_there c.self.invariant c.args.key.now (search rules)) (search rules)
    (λ hash. search rules))

pub returns-in_ok-id-in-Vacant-clause-new : goal.returns-in_ok-id-in-Vacant-clause-new
returns-in_ok-id-in-Vacant-clause-new c =
    rw (← c.self.view_is) (λ _. none_there c.self.invariant c.args.key.now (search rules), λ _. refl)

pub returns-in_ok-id-in-Vacant-clause-id : goal.returns-in_ok-id-in-Vacant-clause-id
returns-in_ok-id-in-Vacant-clause-id c = grind (arith, common_steps, key_grown)
