-- Over an image of both tables of a plan `search` replies what `find` replies.
use Rattle.rx_spec.proofs.Prelude.{arith, ◌≡◌, ℕ, false, List, ◌++◌, length, Ok, sym, ap, ◌∙◌, common_steps}
use Rattle.rx_spec.proofs.Prelude.{drop-append_seam, take-append_seam, Query}
use Rattle.rx_plan.specs.Plans.{outcome}
use Rattle.rx_image.specs.Pairs.{Pair, in_order, reads}
use Rattle.rx_plan.specs.Plan.{plan_of}
use Rattle.rx_regex.specs.Pairs.{joined}
use Rattle.rx_regex.proofs.Searches.{outcome_by}
use Rattle.rx_script.specs.Grammar.{Spelled}
use Rattle.rx_main.specs.Find.{FindAnswers}
use Rattle.rx_main.specs.Lines.{Reply}
use Rattle.rx_main.specs.Search.{SearchFinds, answer_reply, asked, pair_reply, search_reply}
use Rattle.rx_main.specs.declared.command.Search.{Search}
use Rattle.rx_main.proofs.SearchAnswers.{fit_reply}
use Rattle.rx_regex.proofs.PairImages.{joined_in_order}

-- what `find` replies without numbers of rows
found_told : (script : Spelled) (q : Query) (reply : Reply) → script.rows ≡ false → FindAnswers script q reply
    → reply ≡ answer_reply (outcome (plan_of script.plan) script.exprs q)
found_told script q reply no_rows (FindAnswers.Finds found forward reverse e rows h) = grind (arith, common_steps)
found_told script q reply no_rows (FindAnswers.Fails error e h) = h ∙ sym (ap answer_reply e)

-- behind the image stands the haystack
search_told : (s : Search) (image haystack : List ℕ) (pair : Pair) → s.image_len ≡ length image
    → reads image ≡ Ok (pair, length image)
    → search_reply s (image ++ haystack) ≡ pair_reply pair (asked s haystack)
search_told s image haystack pair len read = grind (arith, common_steps, take-append_seam, drop-append_seam)

pub search_finds : SearchFinds
search_finds script order image no_rows is s haystack len bytes fit reply answers =
    let q = asked s haystack in
    let pair = is.image.pair in
    let found : joined pair q ≡ outcome (plan_of script.plan) script.exprs q =
    outcome_by is.image.tables q (record { bytes = bytes; within = fit.within }) in
    found_told script q reply no_rows answers
    ∙ sym (search_told s image.text haystack (in_order order pair) len is.image.read
    ∙ fit_reply (in_order order pair) q fit ∙ ap answer_reply (joined_in_order order pair q ∙ found))
