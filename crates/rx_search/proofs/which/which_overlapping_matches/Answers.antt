use Rattle.rx_spec.proofs.Prelude.{common_steps, ◌≡◌, ℕ, Bool, true, false, List, Some, Ok, refl, ap, sym, ◌∙◌, subst}
use Rattle.rx_spec.proofs.Prelude.{arith, length, slice_set}
use Rattle.std.proofs.lemmas.List.{length-set}
use Rattle.rx_spec.specs.declared.Direction.{Direction}
use Rattle.rx_base.specs.Input.{query_of}
use Rattle.rx_search.specs.Collected.{is_full}
use Rattle.rx_search.specs.SplitSearches.{remaining_unsplit}
use Rattle.rx_search.proofs.OverlapSplits.{called}
use Rattle.rx_search.proofs.Collecting.{collect, collect_error, collect_none, collect_full, collect_first}
use Rattle.rx_search.proofs.Collecting.{collect_on_next, full_is, open_is}
use Rattle.rx_search.proofs.which.which_overlapping_matches.Goals as goal

pub returns-in-Err : goal.returns-in-Err
returns-in-Err g c =
    let q = query_of c.args.input.now in
    let inv = c.matches.invariant in
    let call = called c.in-Err.ensures.call in
    sym (collect_error q.earliest c.matches.patset call c.in-Err.error refl) ∙ inv.same

pub returns-in-None : goal.returns-in-None
returns-in-None g c =
    let q = query_of c.args.input.now in
    let inv = c.matches.invariant in
    let call = called c.in-Ok.ensures.call in
    sym (collect_none q.earliest c.matches.patset call refl (sym c.get_match.ensures ∙ c.in-None.is)) ∙ inv.same

pub returns-then-is_full : goal.returns-then-is_full
returns-then-is_full g c =
    let q = query_of c.args.input.now in
    let inv = c.matches.invariant in
    let state = c.find_overlapping_unsplit.new.state in
    let call = called c.in-Ok.ensures.call in
    let told : state.told ≡ Some c.in-Some.found = sym c.get_match.ensures ∙ c.in-Some.is in
    let more = slice_set c.matches.patset c.in-Some.found.pattern true in
    let inserted : c.insert.new.self ≡ more
    = c.insert.ensures.inserted ∙ ap (λ (k : ℕ). slice_set c.matches.patset k true) c.pattern.ensures in
    let full = full_is c.insert.new.self c.is_full.ensures c.if-is_full.true in
    ap (λ (set : List Bool). record { result = Ok tt; set = set }) inserted
    ∙ sym (collect_full q.earliest c.matches.patset call c.in-Some.found told
    (subst (λ (s : List Bool). is_full s ≡ true) inserted full))
    ∙ inv.same

pub returns-then-get_earliest : goal.returns-then-get_earliest
returns-then-get_earliest g c =
    let q = query_of c.args.input.now in
    let inv = c.matches.invariant in
    let state = c.find_overlapping_unsplit.new.state in
    let call = called c.in-Ok.ensures.call in
    let told : state.told ≡ Some c.in-Some.found = sym c.get_match.ensures ∙ c.in-Some.is in
    let more = slice_set c.matches.patset c.in-Some.found.pattern true in
    let inserted : c.insert.new.self ≡ more
    = c.insert.ensures.inserted ∙ ap (λ (k : ℕ). slice_set c.matches.patset k true) c.pattern.ensures in
    ap (λ (set : List Bool). record { result = Ok tt; set = set }) inserted
    ∙ sym (collect_first q.earliest c.matches.patset call c.in-Some.found told
    (sym c.get_earliest.ensures ∙ c.if-get_earliest.true))
    ∙ inv.same

pub matches-preserved : goal.matches-preserved
matches-preserved g c =
    let t = g.A.Automaton.table c.args.dfa.now in
    let ids = g.A.Automaton.ids c.args.dfa.now in
    let q = query_of c.args.input.now in
    let inv = c.matches.invariant in
    let state = c.find_overlapping_unsplit.new.state in
    let after = remaining_unsplit t ids Direction.Forward q state in
    let call = called c.in-Ok.ensures.call in
    let told : state.told ≡ Some c.in-Some.found = sym c.get_match.ensures ∙ c.in-Some.is in
    let more = slice_set c.matches.patset c.in-Some.found.pattern true in
    let inserted : c.insert.new.self ≡ more
    = c.insert.ensures.inserted ∙ ap (λ (k : ℕ). slice_set c.matches.patset k true) c.pattern.ensures in
    let room = open_is c.insert.new.self c.is_full.ensures c.if-is_full.false in
    record {
      state = c.in-Ok.ensures.state;
      capacity = omega (arith, ap length inserted, length-set c.matches.patset c.in-Some.found.pattern true);
      same =
          ap (collect q.earliest after) inserted
          ∙ sym (collect_on_next q.earliest c.matches.patset call c.in-Some.found told
          (subst (λ (s : List Bool). is_full s ≡ false) inserted room)
          (sym c.get_earliest.ensures ∙ c.if-get_earliest.false))
          ∙ inv.same;
    }

pub matches-smaller : goal.matches-smaller
matches-smaller g c = grind (arith, common_steps)
