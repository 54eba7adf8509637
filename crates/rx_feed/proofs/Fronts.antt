-- Fronts of texts that are written one after another.
use Rattle.rx_spec.proofs.Prelude.{ℕ, ◌+◌, List, ◌++◌, length, take, Option, Result, Ok, Err, sym, subst, arith}
use Rattle.rx_spec.proofs.Prelude.{length-append, Appends}
use Rattle.std.proofs.Math.Seq.{take-append-add}
use Rattle.rx_transfer.specs.Outside.{AppendsFront}
use Rattle.rx_transfer.proofs.Transfers.{appends_more}
use Rattle.rx_feed.specs.Outside.{Writes}
use Rattle.rx_feed.specs.declared.fault.Fault.{Fault}

-- a text, and then a front of another
pub front_after : (a b c : Option (List ℕ)) (xs ys : List ℕ) → Appends a b xs → AppendsFront b c ys
    → AppendsFront a c (xs ++ ys)
front_after a b c xs ys p front = record {
  count = length xs + front.count;
  part = omega (arith, front.part, length-append xs ys);
  written =
      subst (Appends a c) (sym (take-append-add xs ys front.count))
      (appends_more a b c xs (take front.count ys) p front.written);
}

-- a text, and then another or a front of it
pub writes_after : (a b c : Option (List ℕ)) (xs ys : List ℕ) (status : ℕ) (result : Result ℕ Fault)
    → Appends a b xs → Writes b c ys status result → Writes a c (xs ++ ys) status result
writes_after a b c xs ys status (Ok told) p w = (w.0, appends_more a b c xs ys p w.1)
writes_after a b c xs ys status (Err Fault.Sink) p w = front_after a b c xs ys p w
writes_after a b c xs ys status _ p w = absurd w
