-- A pair whose second table can't be read can't be read.
use Rattle.rx_spec.proofs.Prelude.{◌≡◌, ℕ, Result, Ok, List, ap}
use Rattle.rx_dense.specs.Layouts.{Layout}
use Rattle.rx_wire.specs.Kinds.{FailsBy, Kind, ◌>>=◌}
use Rattle.rx_wire.specs.declared.order.Order.{Order}
use Rattle.rx_image.specs.Pairs.{dense_at, dense_pair_at}

-- what fails, fails whatever follows
fails_before : {A B : Type 0} (kind : Kind) (read : Result A Kind) (then : A → Result B Kind) → FailsBy kind read
    → FailsBy kind (read >>= then)
fails_before Kind.Generic read then e = ap (λ r. r >>= then) e
fails_before Kind.BufferTooSmall read then e = ap (λ r. r >>= then) e
fails_before (Kind.VersionMismatch expected found) read then e = ap (λ r. r >>= then) e
fails_before (Kind.EndianMismatch expected found) read then e = ap (λ r. r >>= then) e
fails_before (Kind.LabelMismatch expected) read then e = ap (λ r. r >>= then) e
fails_before (Kind.PatternID attempted) read then e = ap (λ r. r >>= then) e
fails_before (Kind.StateID attempted) read then e = ap (λ r. r >>= then) e
fails_before Kind.Memory read then e = tt

pub second_fails : (order : Order) (bytes rest : List ℕ) (table : Layout) (kind : Kind)
    → dense_at order bytes ≡ Ok (table, rest) → FailsBy kind (dense_at order rest)
    → FailsBy kind (dense_pair_at order bytes)
unfolding dense_pair_at
second_fails order bytes rest table kind first fails = rw first (fails_before kind (dense_at order rest) _ fails)
