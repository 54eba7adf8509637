-- A refused start isn't a walk that quits.
use Rattle.rx_spec.proofs.Prelude.{refl, ap, sym, ◌∙◌, OverlappingMatches}
use Rattle.rx_laws.specs.OverlappingExamples.{RefusedOrQuits, RefusedIsNoQuit}
use Rattle.rx_laws.proofs.Computing.{computing}

refused_or_quits : RefusedOrQuits
unfolding computing
refused_or_quits = (refl, refl)

pub refused_is_no_quit : RefusedIsNoQuit
refused_is_no_quit e =
    let same = sym refused_or_quits.0 ∙ e ∙ refused_or_quits.1 in
    cc (ap (λ (told : OverlappingMatches). told.ending) same)
