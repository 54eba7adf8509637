use Rattle.rx_refine.proofs.Prelude.{AreNextKeys, subst, ◌∙◌}
use Rattle.rx_refine.proofs.NextKeys.{next_keys_small}
use Rattle.rx_refine.proofs.hopcroft.take_all.Goals as goal

pub split_by_keys-requires-clause-small : goal.split_by_keys-requires-clause-small
split_by_keys-requires-clause-small g c =
    next_keys_small c.args.taken c.read_keys.new.keys c.requires.moves c.requires.unit c.requires.partition
    c.requires.rows
    (c.read_keys.ensures.len ∙ c.requires.keys)
    (subst (λ blocks. AreNextKeys c.args.incoming.now c.args.unit blocks c.args.taken c.read_keys.new.keys)
    c.blocks-2.ensures c.read_keys.ensures.keys)
