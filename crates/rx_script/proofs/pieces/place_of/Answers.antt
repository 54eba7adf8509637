use Rattle.rx_script.proofs.Cut.{first_is_position}
use Rattle.rx_script.proofs.pieces.place_of.Goals as goal

pub returns : goal.returns
returns c = first_is_position c.args.separator c.args.text.now c.memchr.result c.memchr.ensures
