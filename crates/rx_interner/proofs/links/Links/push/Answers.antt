use Rattle.std.proofs.Common.{arith, unwrap_or, rules}
use Rattle.std.proofs.lemmas.Grind.{common_steps}
use Rattle.std.proofs.lemmas.List.{length-map}
use Rattle.rx_interner.proofs.KeptLinks.{links-more_words, links-push}
use Rattle.rx_interner.proofs.links.Links.push.Goals as goal

pub returns-in_err-push-clause-err : goal.returns-in_err-push-clause-err
returns-in_err-push-clause-err c = search (rules, links-more_words)

pub returns-clause-ok : goal.returns-clause-ok
returns-clause-ok c = grind (arith, common_steps, unwrap_or, length-map, links-push)
