use Rattle.rx_spec.proofs.Prelude.{common_steps, ◌≡◌, ◌++◌, List, ℕ, true, take, drop, ap, sym, ◌∙◌, subst, arith}
use Rattle.rx_spec.proofs.Prelude.{firsts}
use Rattle.rx_stepper.proofs.Prelude.{Apart, IsLeast, led, meaning, take-append-drop, written_as}
use Rattle.rx_stepper.proofs.Decisions.{firsts_twice}
use Rattle.rx_stepper.proofs.KeyLaws.{once_apart}
use Rattle.rx_stepper.proofs.LeadClosing.{Starts, every_all, lead_alone, met_alike, written_led}
use Rattle.rx_stepper.proofs.Members.{apart_front, was}
use Rattle.rx_stepper.proofs.lead_in.LeadIn.close.Goals as goal

pub own_len-len-requires-clause-once : goal.own_len-len-requires-clause-once
own_len-len-requires-clause-once c = grind (arith, common_steps, firsts_twice)

pub own_len-len-requires-clause-met : goal.own_len-len-requires-clause-met
own_len-len-requires-clause-met c =
    let nfa = c.args.closures.now.nfa.now in
    met_alike
    (λ q i. c.list_joined.ensures.met q (lead_alone nfa c.requires.is.rows q i)
    ∙ ap (λ l. was l q) (sym c.deref.ensures.value))
    c.met_len.ensures

pub returns-in-Some-clause-rows : goal.returns-in-Some-clause-rows
returns-in-Some-clause-rows c =
    let nfa = meaning c.args.closures.now.nfa.now in
    let lead = c.args.self.now.rows.items in
    let listed = c.list_joined.new.found.items in
    let len = c.own_len-len.result in
    let own = take len listed in
    let is = c.requires.is in
    let begins : Starts lead c.args.self.now.start nfa.start_unanchored = record {
      same = is.start;
      some = c.in-Some.ensures.some;
    } in
    let same = subst (λ (l : List ℕ). led (take len l) lead ≡ led l lead) c.deref.ensures.value
    c.own_len-len.ensures.same in
    let least = subst (λ (l : List ℕ). IsLeast lead (take len l)) c.deref.ensures.value c.own_len-len.ensures.least in
    let rows = c.list_joined.ensures.rows in
    let once = ap (λ (l : List ℕ). firsts l) rows ∙ firsts_twice _ ∙ sym rows in
    let apart = apart_front own (drop len listed)
    (subst Apart (sym (take-append-drop len listed)) (once_apart listed once)) in
    written_led nfa (c.in-Some.front.first.now ++ c.in-Some.front.second.now) is.rows begins c.in-Some.ensures.start
    rows apart same least
    ∙ ap (written_as true) (sym c.truncate.ensures.items)

pub returns-in-Some-clause-ids : goal.returns-in-Some-clause-ids
returns-in-Some-clause-ids c = grind (arith, common_steps)

pub split-requires : goal.split-requires
split-requires c = grind (arith, common_steps, every_all, lead_alone)

pub returns-clause-rows : goal.returns-clause-rows
returns-clause-rows c = grind (arith, common_steps)

pub returns-clause-few : goal.returns-clause-few
returns-clause-few c = grind (arith, common_steps)

pub returns-clause-ids : goal.returns-clause-ids
returns-clause-ids c = grind (arith, common_steps)
