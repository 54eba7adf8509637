use Rattle.rx_spec.proofs.Prelude.{common_steps, ◌≡◌, ◌<◌, ◌∙◌, ℕ, All, Vec, Global, List, length, sym, subst, arith}
use Rattle.rx_spec.proofs.Prelude.{IfOk-weaker}
use Rattle.rx_minimize.proofs.Prelude.{AreBlocks, AreByLabel, Layout, table_of}
use Rattle.rx_base.proofs.Classes.{alphabet_len-le}
use Rattle.rx_refine.specs.Moves.{Moves, AreAlikeByNumber, AreToldByNumber}
use Rattle.rx_minimize.proofs.ColumnMoves.{AreMovesOf, both, entries_below, reads_few, refined}
use Rattle.rx_minimize.proofs.Shaped.{rows_few}
use Rattle.rx_minimize.proofs.blocks.blocks.Goals as goal

pub from_ids-requires-clause-ids : goal.from_ids-requires-clause-ids
from_ids-requires-clause-ids c = grind (arith, common_steps, entries_below)

pub refine-requires-clause-room : goal.refine-requires-clause-room
refine-requires-clause-room c =
    let rows = c.state_len.ensures.rows in
    let few = rows_few c.args.dfa.now rows in
    let small = alphabet_len-le c.args.dfa.now.classes rows.classes in
    let reads =
    reads_few c.in_ok-incoming.incoming (omega (arith, few, c.in_ok-incoming.ensures.rows, c.state_len.ensures.value))
    (omega (arith, small, c.in_ok-incoming.ensures.units, c.alphabet_len.ensures)) in
    omega (arith, c.new-steps.ensures, reads)

pub returns-clause-blocks : goal.returns-clause-blocks
returns-clause-blocks c =
    let l : Layout = c.args.dfa.now in
    let m : Moves = c.in_ok-incoming.incoming in
    let of : AreMovesOf l m =
    record {
      rows = c.in_ok-incoming.ensures.rows ∙ c.state_len.ensures.value;
      units = c.in_ok-incoming.ensures.units ∙ c.alphabet_len.ensures;
      nexts = (rw (
        c.stride2.ensures.value,
        c.state_len.ensures.value,
        c.alphabet_len.ensures,
        c.words.ensures.value,
      ) at c.in_ok-incoming.ensures.next);
    } in
    let result = c.refine.result in
    let labels : List ℕ = c.deref.result.now in
    let labelled = subst (AreByLabel (table_of l)) (sym c.deref.ensures.value) c.in_ok-labels.ensures.numbered in
    let alike = λ (blocks : Vec ℕ Global). AreAlikeByNumber m labels blocks.items in
    let told = λ (blocks : Vec ℕ Global). AreToldByNumber m labels blocks.items in
    let count = λ (blocks : Vec ℕ Global). length blocks.items ≡ m.rows in
    IfOk-weaker result (λ (blocks : Vec ℕ Global). (alike blocks × told blocks) × count blocks)
    (λ (blocks : Vec ℕ Global). AreBlocks (table_of l) blocks.items)
    (λ blocks are.
    refined l c.state_len.ensures.rows c.requires.is_table of labelled
    (record { count = are.1; alike = are.0.0; told = are.0.1 }))
    (both result (λ (blocks : Vec ℕ Global). alike blocks × told blocks) count
    (both result alike told c.refine.ensures.alike c.refine.ensures.told) c.refine.ensures.len)

pub returns-clause-below : goal.returns-clause-below
returns-clause-below c =
    let m : Moves = c.in_ok-incoming.incoming in
    let result = c.refine.result in
    let below = λ (blocks : Vec ℕ Global). All (λ block. block < m.rows) blocks.items in
    let count = λ (blocks : Vec ℕ Global). length blocks.items ≡ m.rows in
    IfOk-weaker result (λ (blocks : Vec ℕ Global). below blocks × count blocks)
    (λ (blocks : Vec ℕ Global). All (λ block. block < length blocks.items) blocks.items)
    (λ (blocks : Vec ℕ Global) are. subst (λ n. All (λ block. block < n) blocks.items) (sym are.1) are.0)
    (both result below count c.refine.ensures.numbers c.refine.ensures.len)
