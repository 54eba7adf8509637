-- Both tables of a plan as one image: it can be written and read again, and the tables that are read find what the plan
-- and its expressions say.
use Rattle.rx_spec.proofs.Prelude.{◌≡◌, ℕ, List, [], length, Ok, refl, sym, ap, ◌∙◌, append-nil, Expression, nfa_of}
use Rattle.rx_spec.proofs.Prelude.{Query}
use Rattle.rx_plan.specs.Plans.{Plan}
use Rattle.rx_build.specs.Builders.{Both}
use Rattle.rx_dense.specs.Layouts.{Layout}
use Rattle.rx_expr.specs.Compiles.{wanted_nfa}
use Rattle.rx_expr.specs.Settings as thompson
use Rattle.rx_expr.proofs.PatternRows.{length-entries}
use Rattle.rx_image.specs.Pairs.{AreWhole, HaveSamePatterns, Pair, in_order, reads, text}
use Rattle.rx_image.proofs.ReadAgain.{pair_again}
use Rattle.rx_regex_builder.specs.Pairs.{IsOf, IsSparseOf, in_reverse}
use Rattle.rx_sparse.specs.Layouts.{Stored}
use Rattle.rx_wire.specs.declared.order.Order.{Order}
use Rattle.rx_regex.specs.Images.{ImagePairsFind, IsPairImage}
use Rattle.rx_regex.specs.Pairs.{AreBuilt, AreTables, joined, whole}
use Rattle.rx_regex.specs.Settings.{settings_of}
use Rattle.rx_regex.specs.Written.{AreReadBack}
use Rattle.rx_regex.proofs.Searches.{outcome_by}
use Rattle.rx_regex.proofs.Whole.{same_read}

-- ---- both are of as many patterns

nfa_patterns : (a : thompson.Asked) (es : List Expression) → length (wanted_nfa a es).start_patterns ≡ length es
unfolding nfa_of
nfa_patterns a es = length-entries (thompson.settled a).direction es 0 0

dense_patterns : (both : Both) (es : List Expression) (l : Layout) → IsOf both es l
    → l.pattern_len ≡ length es
dense_patterns both es l is = ap (λ (m : Layout). m.pattern_len) is.rest ∙ nfa_patterns both.thompson es

sparse_patterns : (both : Both) (es : List Expression) (t : Stored) → IsSparseOf both es t
    → t.layout.pattern_len ≡ length es
sparse_patterns both es t is =
    ap (λ (x : Stored). x.layout.pattern_len) is.sparse ∙ dense_patterns both es is.dense is.built

built_patterns : (both : Both) (es : List Expression) (pair : Pair) → AreBuilt both es pair → HaveSamePatterns pair
built_patterns both es (Pair.Dense f r) built =
    dense_patterns both es f built.forward ∙ sym (dense_patterns (in_reverse both) es r built.reverse)
built_patterns both es (Pair.Sparse f r) built =
    sparse_patterns both es f built.forward ∙ sym (sparse_patterns (in_reverse both) es r built.reverse)

pub same_patterns : {p : Plan} {es : List Expression} {pair : Pair} → AreTables p es pair → HaveSamePatterns pair
same_patterns {p} {es} {pair} t = built_patterns (settings_of p) es pair t.built

-- ---- what was written is read again

pair_read : (pair : Pair) (order : Order) (bytes : List ℕ) → AreWhole pair → HaveSamePatterns pair
    → bytes ≡ text order pair → reads bytes ≡ Ok (in_order order pair, length bytes)
pair_read pair order bytes whole same written =
    ap reads (written ∙ sym (append-nil (text order pair))) ∙ pair_again order pair whole same []
    ∙ ap (λ (w : List ℕ). Ok (in_order order pair, length w)) (sym written)

pub pair_read_back : {pair back : Pair} {size : ℕ} {bytes : List ℕ} → AreReadBack pair
    → bytes ≡ text Order.Little pair → reads bytes ≡ Ok (back, size) → back ≡ pair
pair_read_back {pair} {back} {size} {bytes} is written read =
    same_read back (in_order Order.Little pair) size (length bytes) (reads bytes) read
    (pair_read pair Order.Little bytes is.writable.whole is.patterns written)
    ∙ is.writable.little

-- ---- the image of a plan's tables

pub is_pair_image : {p : Plan} {es : List Expression} {pair : Pair} (order : Order) (bytes : List ℕ)
    → AreTables p es pair → AreWhole pair → bytes ≡ text order pair → IsPairImage p es order bytes
is_pair_image {p} {es} {pair} order bytes tables whole written = record {
  pair = pair;
  tables = tables;
  written = written;
  read = pair_read pair order bytes whole (same_patterns tables) written;
}

-- the order of their bytes changes no answer
pub joined_in_order : (order : Order) (pair : Pair) (q : Query) → joined (in_order order pair) q ≡ joined pair q
joined_in_order order (Pair.Dense f r) q = refl
joined_in_order order (Pair.Sparse f r) q = refl

pub image_pairs_find : ImagePairsFind
image_pairs_find p es order bytes image pair size read q are_bytes fit =
    let same : pair ≡ in_order order image.pair =
    same_read pair (in_order order image.pair) size (length bytes) (reads bytes) read image.read in
    ap (λ (x : Pair). joined x (whole q)) same ∙ joined_in_order order image.pair (whole q)
    ∙ outcome_by image.tables q (record { bytes = are_bytes; within = fit.within })
