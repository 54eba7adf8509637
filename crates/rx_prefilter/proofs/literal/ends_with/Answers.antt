use Rattle.std.proofs.lemmas.Bool.Decides.{Decides-eqb}
use Rattle.std.proofs.lemmas.Slice.Eq.{slice_eq-Decides}
use Rattle.rx_prefilter.proofs.Pieces.{as_pieces, by_bytes}
use Rattle.rx_prefilter.proofs.literal.ends_with.Goals as goal

pub returns-then-literal-len-clause-exactly : goal.returns-then-literal-len-clause-exactly
returns-then-literal-len-clause-exactly c = λ yes.
    let same = (slice_eq-Decides Decides-eqb _ _ _ c.eq.ensures).0 yes in
    record {
      few = c.requires.few;
      last = λ some. c.if-literal-len.true;
      before = by_bytes c.args.literal.now c.requires.some c.requires.few c.requires.within same;
    }

pub returns-then-literal-len-clause-no : goal.returns-then-literal-len-clause-no
returns-then-literal-len-clause-no c = λ is.
    (slice_eq-Decides Decides-eqb _ _ _ c.eq.ensures).1
    (as_pieces c.args.literal.now c.requires.some c.requires.few c.requires.within is.before)
