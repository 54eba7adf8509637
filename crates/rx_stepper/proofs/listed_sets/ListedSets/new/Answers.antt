use Rattle.rx_spec.proofs.Prelude.{◌≡◌, [], replicate}
use Rattle.rx_stepper.proofs.Prelude.{IsListed, ListedSet}
use Rattle.std.proofs.lemmas.List.Elements.{All-same, All-replicate}
use Rattle.rx_stepper.proofs.ListedColumns.{none_listed}
use Rattle.rx_stepper.proofs.listed_sets.ListedSets.new.Goals as goal

pub returns : goal.returns
returns c = λ units.
    let Listed = λ (s : ListedSet). IsListed units [] s.set s.start s.stop in
    let none : ListedSet = record { set = c.empty.result; start = 0; stop = 0 } in
    let all : c.in_ok-vec.field-0.items ≡ replicate 256 none =
    c.in_ok-vec.ensures.items_if_clones_equal (λ y h. h) in
    All-same Listed _ _ all (All-replicate Listed 256 none (none_listed units c.empty.ensures))
