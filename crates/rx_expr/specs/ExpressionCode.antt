-- An expression as a list of numbers, in postfix order, and back. Proofs distinguish expressions by it.
use Rattle.std.specs.Prelude.{ℕ, zero, suc, ◌≡◌, Bool, true, false, Option, Some, None, List, [], ◌∷◌, ◌++◌}
use Rattle.std.specs.Prelude.{refl}
use Rattle.std.specs.Coded.{Coded, code_by, coded×, coded_ℕ, coded_list}
use Rattle.std.proofs.Common.{sym, ◌∙◌, ap, append_assoc, append-nil}
use Rattle.rx_spec.specs.Expressions.{Expression}
use Rattle.rx_spec.specs.declared.Look.{Look}
use Rattle.rx_base.specs.LookSet.{all_looks, look_number}

-- a form's number, and what it holds besides its parts
abbrev pub Token : Type 0
Token = ℕ × (ℕ × ℕ)

abbrev pub look_at : List Look → ℕ → Look
look_at [] n = Look.Start
look_at (look ∷ looks) zero = look
look_at (look ∷ looks) (suc n) = look_at looks n

look_again : (look : Look) → look_at all_looks (look_number look) ≡ look
look_again Look.Start = refl
look_again Look.End = refl
look_again Look.StartLF = refl
look_again Look.EndLF = refl
look_again Look.StartCRLF = refl
look_again Look.EndCRLF = refl
look_again Look.WordAscii = refl
look_again Look.WordAsciiNegate = refl
look_again Look.WordUnicode = refl
look_again Look.WordUnicodeNegate = refl
look_again Look.WordStartAscii = refl
look_again Look.WordEndAscii = refl
look_again Look.WordStartUnicode = refl
look_again Look.WordEndUnicode = refl
look_again Look.WordStartHalfAscii = refl
look_again Look.WordEndHalfAscii = refl
look_again Look.WordStartHalfUnicode = refl
look_again Look.WordEndHalfUnicode = refl

abbrev pub most_number : Option ℕ → ℕ
most_number None = 0
most_number (Some n) = suc n

abbrev pub number_most : ℕ → Option ℕ
number_most zero = None
number_most (suc n) = Some n

abbrev pub greedy_number : Bool → ℕ
greedy_number true = 5
greedy_number false = 6

abbrev pub encode : Expression → List Token
encode Expression.Empty = (0, (0, 0)) ∷ []
encode (Expression.Class set) = (1, (set, 0)) ∷ []
encode (Expression.Look look) = (2, (look_number look, 0)) ∷ []
encode (Expression.Concat a b) = encode a ++ (encode b ++ ((3, (0, 0)) ∷ []))
encode (Expression.Alternate a b) = encode a ++ (encode b ++ ((4, (0, 0)) ∷ []))
encode (Expression.Repeat least most greedy body) =
    encode body ++ ((greedy_number greedy, (least, most_number most)) ∷ [])

-- a token takes its parts from the finished ones, the last first
abbrev pub finish : ℕ → ℕ → ℕ → List Expression → List Expression
finish zero m n done = Expression.Empty ∷ done
finish (suc zero) m n done = Expression.Class m ∷ done
finish (suc (suc zero)) m n done = Expression.Look (look_at all_looks m) ∷ done
finish (suc (suc (suc zero))) m n (b ∷ (a ∷ done)) = Expression.Concat a b ∷ done
finish (suc (suc (suc (suc zero)))) m n (b ∷ (a ∷ done)) = Expression.Alternate a b ∷ done
finish (suc (suc (suc (suc (suc zero))))) m n (body ∷ done) = Expression.Repeat m (number_most n) true body ∷ done
finish (suc (suc (suc (suc (suc (suc zero)))))) m n (body ∷ done) =
    Expression.Repeat m (number_most n) false body ∷ done
finish _ m n done = done

abbrev pub decode : List Token → List Expression → List Expression
decode [] done = done
decode (t ∷ ts) done = decode ts (finish t.0 t.1.0 t.1.1 done)

abbrev pub first_finished : List Expression → Expression
first_finished [] = Expression.Empty
first_finished (e ∷ done) = e

-- what is behind the tokens of one part, or of two
one_part : (xs : List Token) (t : Token) (ts : List Token) → (xs ++ (t ∷ [])) ++ ts ≡ xs ++ (t ∷ ts)
one_part xs t ts = append_assoc xs (t ∷ []) ts

two_parts : (xs ys : List Token) (t : Token) (ts : List Token)
    → (xs ++ (ys ++ (t ∷ []))) ++ ts ≡ xs ++ (ys ++ (t ∷ ts))
two_parts xs ys t ts = append_assoc xs (ys ++ (t ∷ [])) ts ∙ ap (λ zs. xs ++ zs) (one_part ys t ts)

-- the tokens of an expression finish it
decode-encode : (e : Expression) (ts : List Token) (done : List Expression)
    → decode (encode e ++ ts) done ≡ decode ts (e ∷ done)
decode-encode Expression.Empty ts done = refl
decode-encode (Expression.Class set) ts done = refl
decode-encode (Expression.Look look) ts done = ap (λ k. decode ts (Expression.Look k ∷ done)) (look_again look)
decode-encode (Expression.Concat a b) ts done =
    let last : Token = (3, (0, 0)) in
    ap (λ xs. decode xs done) (two_parts (encode a) (encode b) last ts)
    ∙ decode-encode a (encode b ++ (last ∷ ts)) done
    ∙ decode-encode b (last ∷ ts) (a ∷ done)
decode-encode (Expression.Alternate a b) ts done =
    let last : Token = (4, (0, 0)) in
    ap (λ xs. decode xs done) (two_parts (encode a) (encode b) last ts)
    ∙ decode-encode a (encode b ++ (last ∷ ts)) done
    ∙ decode-encode b (last ∷ ts) (a ∷ done)
decode-encode (Expression.Repeat least None true body) ts done =
    let last : Token = (5, (least, 0)) in
    ap (λ xs. decode xs done) (one_part (encode body) last ts) ∙ decode-encode body (last ∷ ts) done
decode-encode (Expression.Repeat least (Some most) true body) ts done =
    let last : Token = (5, (least, suc most)) in
    ap (λ xs. decode xs done) (one_part (encode body) last ts) ∙ decode-encode body (last ∷ ts) done
decode-encode (Expression.Repeat least None false body) ts done =
    let last : Token = (6, (least, 0)) in
    ap (λ xs. decode xs done) (one_part (encode body) last ts) ∙ decode-encode body (last ∷ ts) done
decode-encode (Expression.Repeat least (Some most) false body) ts done =
    let last : Token = (6, (least, suc most)) in
    ap (λ xs. decode xs done) (one_part (encode body) last ts) ∙ decode-encode body (last ∷ ts) done

pub decoded : (e : Expression) → first_finished (decode (encode e) []) ≡ e
decoded e =
    ap (λ xs. first_finished (decode xs [])) (sym (append-nil (encode e)))
    ∙ ap first_finished (decode-encode e [] [])

abbrev pub token_code : Coded Token
token_code = coded× coded_ℕ (coded× coded_ℕ coded_ℕ)

abbrev pub expression_code : Coded Expression
expression_code =
    code_by (List Token) (coded_list token_code) (λ e. encode e) (λ ts. first_finished (decode ts [])) decoded
