-- Starts of all modes: those of patterns past the last part nothing.
use Rattle.rx_spec.proofs.Prelude.{common_steps, ℕ, ◌≡◌, ◌<◌, ◌≤◌, max, true, Option, Some, None, Result, Ok, Err, List}
use Rattle.rx_spec.proofs.Prelude.{refl, sym, ◌∙◌, subst, arith, ⊎_elim, cases_lt, is_some, IfSome, Anchored, IsWord}
use Rattle.rx_spec.proofs.Prelude.{StartError, start_error, Table, IsTable}
use Rattle.rx_spec.specs.declared.Start.{Start}
use Rattle.rx_lemmas.proofs.SilentRows.{zero_is_silent}
use Rattle.rx_base.specs.StartConfig.{StartConfig}
use Rattle.rx_equal.specs.Partings.{AreAlikeBy, NothingParts, answer_at}
use Rattle.rx_equal.specs.PartingsLaws.{HasOwnStarts, NoStartParts, NothingPartsPassedOn}
use Rattle.rx_equal.proofs.PartingsLaws.{equal_refusals}

-- past the last pattern its starts are dead
dead_by : (t : Table) → IsTable t → HasOwnStarts t → (k : ℕ) (start : Start) (o : Option ℕ)
    → t.settings.pattern_starts ≡ o → is_some o ≡ true → t.pattern_len < k
    → t.machine.entry (Anchored.Pattern k) start ≡ 0
dead_by t is own k start (Some n) e has past = let few = own n e in is.past_last n k start e (omega arith)
dead_by t is own k start None e has past = absurd (cc)

dead_answer : (t : Table) → IsTable t → HasOwnStarts t → (beside : Option ℕ) (k : ℕ)
    → start_error t.settings beside (Anchored.Pattern k) ≡ None → t.pattern_len < k
    → answer_at t (record { beside = beside; mode = Anchored.Pattern k }) ≡ Ok 0
dead_answer t is own beside k e past = grind (arith, common_steps, dead_by)

module _ (t u : Table) (is : IsTable t) (other_is : IsTable u) (own : HasOwnStarts t) (other_own : HasOwnStarts u)
    (nothing : NothingParts t u) where
  past_last : (beside : Option ℕ) (k : ℕ) (o : Option StartError)
      → start_error t.settings beside (Anchored.Pattern k) ≡ o → max t.pattern_len u.pattern_len < k
      → (word : List ℕ) → IsWord word
      → AreAlikeBy t u word (answer_at t (record { beside = beside; mode = Anchored.Pattern k }))
      (answer_at u (record { beside = beside; mode = Anchored.Pattern k }))
  past_last beside k (Some error) e past word w = grind (arith, common_steps, equal_refusals)
  past_last beside k None e past word w =
      let place : StartConfig = record { beside = beside; mode = Anchored.Pattern k } in
      let f = sym (equal_refusals t u nothing beside (Anchored.Pattern k)) ∙ e in
      subst (λ answer. AreAlikeBy t u word answer (answer_at u place))
      (sym (dead_answer t is own beside k e (omega arith)))
      (subst (AreAlikeBy t u word (Ok 0)) (sym (dead_answer u other_is other_own beside k f (omega arith)))
      ((zero_is_silent t is).plain word w ∙ sym ((zero_is_silent u other_is).plain word w)))

  by_mode : (beside : Option ℕ) (mode : Anchored) → IfSome beside (λ byte. byte < 256) → (word : List ℕ)
      → IsWord word
      → AreAlikeBy t u word (answer_at t (record { beside = beside; mode = mode }))
      (answer_at u (record { beside = beside; mode = mode }))
  by_mode beside Anchored.No h word w =
      nothing (record { beside = beside; mode = Anchored.No }) (record { mode = tt; beside = h }) word w
  by_mode beside Anchored.Yes h word w =
      nothing (record { beside = beside; mode = Anchored.Yes }) (record { mode = tt; beside = h }) word w
  by_mode beside (Anchored.Pattern k) h word w =
      ⊎_elim
      (λ (past : max t.pattern_len u.pattern_len < k).
      past_last beside k (start_error t.settings beside (Anchored.Pattern k)) refl past word w)
      (λ (within : k ≤ max t.pattern_len u.pattern_len).
      nothing (record { beside = beside; mode = Anchored.Pattern k }) (record { mode = within; beside = h }) word w)
      (cases_lt (max t.pattern_len u.pattern_len) k)

pub no_start_parts : NoStartParts
no_start_parts t u is other_is own other_own nothing place h word w = grind (arith, common_steps, by_mode)

-- ---- what equals an equal table

alike_passed_on : (t u v : Table) (word : List ℕ) (a b c : Result ℕ StartError) → AreAlikeBy t u word a b
    → AreAlikeBy u v word b c → AreAlikeBy t v word a c
alike_passed_on t u v word (Ok x) (Ok y) (Ok z) e f = e ∙ f
alike_passed_on t u v word (Err error) (Err other) (Err last) e f = e ∙ f
alike_passed_on t u v word (Ok x) (Err other) c e f = absurd e
alike_passed_on t u v word (Err error) (Ok y) c e f = absurd e
alike_passed_on t u v word (Ok x) (Ok y) (Err last) e f = absurd f
alike_passed_on t u v word (Err error) (Err other) (Ok z) e f = absurd f

pub nothing_parts_passed_on : NothingPartsPassedOn
nothing_parts_passed_on t u v is other_is last_is own other_own last_own first second place within word w =
    alike_passed_on t u v word (answer_at t place) (answer_at u place) (answer_at v place)
    (no_start_parts t u is other_is own other_own first place within.beside word w)
    (no_start_parts u v other_is last_is other_own last_own second place within.beside word w)
