use Rattle.rx_spec.proofs.Prelude.{common_steps, ◌≡◌, ◌+◌, ◌-◌, ℕ, ap, sym, ◌∙◌, arith, length, slice_index}
use Rattle.rx_spec.proofs.Prelude.{slice_index_or, AreBytes}
use Rattle.rx_spec.specs.declared.Direction.{Direction}
use Rattle.rx_base.specs.Input.{query_of}
use Rattle.rx_search.proofs.InSpan.{unsplit_in_span}
use Rattle.rx_search.proofs.Standing.{standing}
use Rattle.rx_search.proofs.Walks.{Place}
use Rattle.rx_prefilter.specs.Literals.{IsGoing, rows_at}
use Rattle.rx_prefilter.proofs.Looking.{found, nowhere}
use Rattle.rx_prefilter.proofs.Occurring.{all_but_one, ends_later, ends_nowhere, in_span}
use Rattle.rx_prefilter.proofs.RowsOf.{read}
use Rattle.rx_prefilter.proofs.search.search_by.Goals as goal

pub returns-in_default-clause-answer : goal.returns-in_default-clause-answer
returns-in_default-clause-answer g c =
    let q = query_of c.args.input.now in
    let rows = c.args.literal.now.rows.items in
    let bytes = c.args.literal.now.bytes.items in
    let sound = g.met.A.Automaton.sound c.args.dfa.now c.requires.sound in
    let is = c.requires.literal in
    let place : Place q c.literals.at = record {
      fits = c.requires.fits.within;
      in_span = c.literals.invariant.in_span;
    } in
    let none = rw (c.end.ensures, c.haystack.ensures, c.new-finder.ensures, c.deref.ensures.value)
    at c.in_default.ensures.place in
    let hay : AreBytes q.haystack = rw c.haystack.ensures at c.next_place.ensures.bytes in
    sym (c.literals.invariant.answer
    ∙ nowhere sound is.is_literal
    (λ k h.
    (standing (slice_index rows k) sound (g.met.A.Automaton.are_ids c.args.dfa.now)
    (is.rows.are_ids k 0 (omega arith))).below)
    hay place
    (ends_nowhere q.haystack bytes c.literals.invariant.in_span.high c.requires.fits.within none))

pub pass-requires-clause-stopped : goal.pass-requires-clause-stopped
pass-requires-clause-stopped g c =
    let t = g.A.Automaton.table c.args.dfa.now in
    let ids = g.A.Automaton.ids c.args.dfa.now in
    let q = query_of c.args.input.now in
    let rows = c.args.literal.now.rows.items in
    let bytes = c.args.literal.now.bytes.items in
    let from = c.literals.at in
    let sound = g.met.A.Automaton.sound c.args.dfa.now c.requires.sound in
    let is = c.requires.literal in
    let some = is.is_literal.some in
    let low = c.literals.invariant.in_span.low in
    let high = c.literals.invariant.in_span.high in
    let fits = c.requires.fits.within in
    let place : Place q from = record { fits = fits; in_span = c.literals.invariant.in_span } in
    let finds = rw (c.end.ensures, c.haystack.ensures, c.new-finder.ensures, c.deref.ensures.value)
    at c.in-Some.ensures.place in
    let hay : AreBytes q.haystack = rw c.haystack.ensures at c.next_place.ensures.bytes in
    let room = in_span q.haystack bytes high fits finds in
    let len : c.len.result ≡ length bytes =
    c.len.ensures ∙ sym c.deref.ensures.len ∙ ap length c.deref.ensures.value in
    let id = c.index-in-literals.result.now in
    let row : slice_index rows (length bytes - 1) ≡ id =
    read rows (length bytes - 1) id (omega arith)
    (c.index-in-literals.ensures ∙ ap (λ (n : ℕ). slice_index_or rows (n - 1) id) len) in
    let to : from + c.in-Some.place + length bytes - 1 ≡ from + c.in-Some.place + (c.len.result - 1) =
    omega arith in
    let walked = found sound is.is_literal
    (λ k h.
    (standing (slice_index rows k) sound (g.met.A.Automaton.are_ids c.args.dfa.now)
    (is.rows.are_ids k 0 (omega arith))).below)
    hay place c.in-Some.place room
    (all_but_one q.haystack bytes high fits finds some)
    (ends_later q.haystack bytes high fits finds) in
    let last : IsGoing t q (rows_at ids rows (length bytes - 1)) (from + c.in-Some.place + length bytes - 1) =
    record {
      in_span = record { low = omega arith; high = omega arith };
      answer = c.literals.invariant.answer ∙ walked;
    } in
    grind (arith, common_steps)

pub returns-in-Stopped-clause-within : goal.returns-in-Stopped-clause-within
returns-in-Stopped-clause-within g c =
    let stopped = c.in-Stopped.ensures in
    unsplit_in_span (g.A.Automaton.table c.args.dfa.now) Direction.Forward (query_of c.args.input.now)
    c.find_fwd_from.result (c.find_fwd_from.ensures ∙ sym stopped.going.answer)
