use Rattle.rx_lemmas.proofs.Reaches.{reaches_sound, reaches_complete}
use Rattle.rx_laws.proofs.laws.ends_are_reached.Goals as goal

pub returns : goal.returns
returns c = λ r e i j safe within. (reaches_sound r e i j safe, reaches_complete r e i j safe within)
