use Rattle.std.proofs.lemmas.Grind.{common_steps}
use Rattle.std.proofs.Common.{◌≡◌, Bool, false, List, ℕ, inl, inr, arith, eqb}
use Rattle.std.proofs.lemmas.Bool.Decides.{Decides-eqb, not_from_Decides}
use Rattle.std.proofs.lemmas.Slice.Eq.{slice_eq-Decides}
use Rattle.std.specs.Cmp.Lexicographic.{pointwise}
use Rattle.rx_interner.proofs.Chains.{key_at, reached_newest, next}
use Rattle.rx_interner.proofs.links.Links.find.Goals as goal

pub chain-init : goal.chain-init
chain-init c = reached_newest c.requires.newest

pub returns-then-eq-clause-found : goal.returns-then-eq-clause-found
returns-then-eq-clause-found c = grind (arith, common_steps, slice_eq-Decides, key_at)

differs : (kept key : List ℕ) (same : Bool) → same ≡ pointwise eqb kept key → same ≡ false → kept ≡ key → ⊥
differs kept key same e = not_from_Decides same (slice_eq-Decides Decides-eqb kept key same e)

pub returns-then-older-id-clause-none : goal.returns-then-older-id-clause-none
returns-then-older-id-clause-none c =
    elim (next c.requires.chained c.get-older.ensures (differs _ _ _ c.eq.ensures c.if-eq.false) c.chain.invariant) [
      | inl ends ↦ ends.1
      | inr goes ↦ absurd (omega (arith, c.if-older-id.true, goes.0))
    ]

pub chain-smaller : goal.chain-smaller
chain-smaller c =
    elim (next c.requires.chained c.get-older.ensures (differs _ _ _ c.eq.ensures c.if-eq.false) c.chain.invariant) [
      | inl ends ↦ absurd (c.if-older-id.false ends.0)
      | inr goes ↦ goes.0
    ]

pub chain-preserved : goal.chain-preserved
chain-preserved c =
    elim (next c.requires.chained c.get-older.ensures (differs _ _ _ c.eq.ensures c.if-eq.false) c.chain.invariant) [
      | inl ends ↦ absurd (c.if-older-id.false ends.0)
      | inr goes ↦ goes.1
    ]
