-- What a contract sees of a value gives its fields back: the laws that the models of `MatchError` and `Needles`
-- ask for.
use Rattle.std.proofs.Common.{ℕ, ◌≡◌, List, [], ◌∷◌, length, take, length-take, refl, sym, ◌∙◌, ap, ap₂, arith}
use Rattle.rx_base.specs.declared.search.Anchored.{Anchored as Mode}
use Rattle.rx_base.specs.declared.match_error.MatchErrorKind.{MatchErrorKind}
use Rattle.rx_base.specs.declared.match_error.MatchError.TheInside.{Inside as ErrorInside}
use Rattle.rx_base.specs.declared.needles.Needles.TheInside.{Inside as NeedlesInside}
use Rattle.rx_base.specs.MatchError.{error_of, kind_of}
use Rattle.rx_base.specs.Needles.{padded, AreNeedles}

-- ---- errors
kind_of-error_of : (kind : MatchErrorKind) → kind_of (error_of kind) ≡ kind
kind_of-error_of (MatchErrorKind.Quit byte offset) = refl
kind_of-error_of (MatchErrorKind.UnsupportedAnchored Mode.No) = refl
kind_of-error_of (MatchErrorKind.UnsupportedAnchored Mode.Yes) = refl
kind_of-error_of (MatchErrorKind.UnsupportedAnchored (Mode.Pattern k)) = refl
kind_of-error_of (MatchErrorKind.PairMismatch forward reverse) = refl

pub error-inverse : (e : ErrorInside) → record { kind = kind_of (error_of e.kind) } ≡ e
error-inverse e =
    ap (λ (kind : MatchErrorKind). let e : ErrorInside = record { kind = kind } in e) (kind_of-error_of e.kind)

-- ---- needles
length-padded : (xs : List ℕ) → length (padded xs) ≡ 3
length-padded [] = refl
length-padded (a ∷ []) = refl
length-padded (a ∷ (b ∷ [])) = refl
length-padded (a ∷ (b ∷ (c ∷ more))) = refl

pub needles-inverse : (n : NeedlesInside) → AreNeedles n.len n.bytes
    → record { len = length (take n.len n.bytes); bytes = padded (take n.len n.bytes) } ≡ n
needles-inverse n are =
    let three : length n.bytes ≡ 3 = sym (ap length are.kept) ∙ length-padded (take n.len n.bytes) in
    ap₂ (λ (len : ℕ) (bytes : List ℕ). let n : NeedlesInside = record { len = len; bytes = bytes } in n)
    (length-take n.len n.bytes ∙ omega (arith, are.few, three)) are.kept
