use Rattle.rx_spec.proofs.Prelude.{arith, ◌≡◌, ◌++◌, ◌∙◌, ap, common_steps, on_ok_weaker, string_bytes, Anchored}
use Rattle.rx_spec.proofs.Prelude.{MatchError}
use Rattle.rx_base.specs.declared.match_error.MatchErrorKind.{MatchErrorKind}
use Rattle.rx_base.specs.declared.search.Anchored.{Anchored as Mode}
use Rattle.rx_base.specs.MatchError.{error_of}
use Rattle.rx_base.specs.Search.{mode_of}
use Rattle.rx_main.specs.Lines.{error_line}
use Rattle.rx_main.proofs.lines.push_error.Goals as goal

-- the line of an error of this kind and mode
mode_line : (error : MatchError) (kind : MatchErrorKind) (mode known : Mode) → error_of kind ≡ error
    → kind ≡ MatchErrorKind.UnsupportedAnchored mode → mode ≡ known
    → error_line (MatchError.UnsupportedAnchored (mode_of known)) ≡ error_line error
mode_line error kind mode known e k m = grind (arith, common_steps)

pub returns-in-No : goal.returns-in-No
returns-in-No c =
    let line = mode_line c.args.error.now c.kind.result.now c.in-UnsupportedAnchored.mode Mode.No c.kind.ensures
    c.in-UnsupportedAnchored.is c.in-No.is in
    on_ok_weaker c.writeln-in-No.result (λ e. e ∙ ap (λ l. string_bytes c.args.text.now ++ l) line)
    c.writeln-in-No.ensures.bytes

pub returns-in-Yes : goal.returns-in-Yes
returns-in-Yes c =
    let line = mode_line c.args.error.now c.kind.result.now c.in-UnsupportedAnchored.mode Mode.Yes c.kind.ensures
    c.in-UnsupportedAnchored.is c.in-Yes.is in
    on_ok_weaker c.writeln-in-Yes.result (λ e. e ∙ ap (λ l. string_bytes c.args.text.now ++ l) line)
    c.writeln-in-Yes.ensures.bytes

pub returns-in-Pattern : goal.returns-in-Pattern
returns-in-Pattern c =
    let line = mode_line c.args.error.now c.kind.result.now c.in-UnsupportedAnchored.mode
    (Mode.Pattern c.in-Pattern.pattern) c.kind.ensures c.in-UnsupportedAnchored.is c.in-Pattern.is in
    let number =
    ap (λ n. error_line (MatchError.UnsupportedAnchored (Anchored.Pattern n))) c.as_u32-pattern.ensures.value in
    on_ok_weaker c.writeln-in-Pattern.result (λ e. e ∙ ap (λ l. string_bytes c.args.text.now ++ l) (number ∙ line))
    c.writeln-in-Pattern.ensures.bytes
