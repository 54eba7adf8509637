-- A construction that goes on: what it had is there still, and what refuses it later refuses it.
use Rattle.rx_spec.proofs.Prelude.{arith, ◌≡◌, ℕ, List, length, refl, ap, ap₂, sym, ◌∙◌, subst, common_steps}
use Rattle.rx_spec.proofs.Prelude.{Exceeds, max_id, Nfa, last_id, table_size}
use Rattle.rx_determinize.proofs.Prelude.{keying, AreRows, AreUnits, BuildErrorKind, Continues, Extends, HasOneKeyEach}
use Rattle.rx_determinize.proofs.Prelude.{IsAnother, IsOver, IsRefusal, IsStartedOver, IsWorking, IsWrittenOver, Keying}
use Rattle.rx_determinize.proofs.Prelude.{Layout, Met, Serves, Settled, SpellStates, Stepping, Unit, Work, classes_of}
use Rattle.rx_determinize.proofs.Prelude.{keys_in, stride}

-- ---- tables of which words and start entries were written

pub written_over : (l m : Layout) (words : List ℕ) → m ≡ record l { words = words } → IsWrittenOver l m
written_over l m words is = grind (arith, common_steps)

pub started_over : {l m : Layout} → IsWrittenOver l m → IsStartedOver l m
started_over {l} {m} over = grind (arith, common_steps)

-- ---- what goes on

-- words and start entries were written
pub continues_over : (w : Work) {l m : Layout} → IsStartedOver l m → Continues w l w m
continues_over w {l} {m} over = grind (arith, common_steps)

pub continues_none : (w : Work) (l : Layout) → Continues w l w l
continues_none w l = continues_over w (record { rest = refl; count = refl })

pub continues_twice : {w v u : Work} {l m n : Layout} → Continues w l v m → Continues v m u n → Continues w l u n
continues_twice {w} {v} {u} {l} {m} {n} first second = grind (arith, common_steps)

-- more states were met, and words were written
pub continues_grown : (w : Work) (after : Met) {l m : Layout} → Extends w.met.keys after.keys → IsWrittenOver l m
    → Continues w l (record w { met = after }) m
continues_grown w after more over = grind (arith, common_steps)

-- another state is stepped
pub continues_other : (w : Work) (r : Stepping) (l : Layout) → IsAnother w.stepping r
    → Continues w l (record w { stepping = r }) l
continues_other w r l another = grind (arith, common_steps)

module _ {w v : Work} {l m : Layout} (later : Continues w l v m) where
  -- keys stand for what they stood for, and the table is built of the same
  pub same_keys : keys_in v m ≡ keys_in w l
  same_keys = ap (λ (t : Stepping). keying t m) later.stepping ∙ ap (keying w.stepping) later.over.rest

  pub same_classes : m.classes ≡ l.classes
  same_classes = ap (λ (n : Layout). n.classes) later.over.rest

  pub same_quit : m.quit ≡ l.quit
  same_quit = ap (λ (n : Layout). n.quit) later.over.rest

  pub serves_later : Serves w l → AreRows m → IsWorking (keys_in v m) v.settled v.met m → Serves v m
  serves_later serves rows working =
      let nfa = ap (λ (t : Stepping). t.nfa) later.stepping in
      let spells : SpellStates (record w.stepping { current = v.stepping.current; led_in = v.stepping.led_in }) =
      record { label = serves.spells.label; are_ids = serves.spells.are_ids; few = serves.spells.few } in
      record {
        rows = rows;
        working = working;
        byte_classes = serves.byte_classes;
        are_classes =
            same_classes ∙ serves.are_classes
            ∙ ap₂ (λ (n : Nfa) (q : ℕ). classes_of n q serves.byte_classes) (sym nfa) (sym same_quit);
        classes = ap (λ (t : Stepping). t.classes) later.stepping ∙ serves.classes ∙ sym same_classes;
        units =
            subst (λ (us : List Unit). AreUnits us m.classes) (sym later.units)
            (subst (AreUnits w.units) (sym same_classes) serves.units);
        one_key = subst HasOneKeyEach (sym later.stepping) serves.one_key;
        spells = subst SpellStates (sym later.stepping) spells;
      }

  pub refused_later : (kind : BuildErrorKind) → IsRefusal v m kind → IsRefusal w l kind
  refused_later kind refusal =
      at kind
      (subst (λ (k : Keying). IsOver k w.settled m kind) same_keys
      (subst (λ (c : Settled). IsOver (keys_in v m) c m kind) later.settled refusal))
    where
      width : stride m ≡ stride l
      width = ap stride later.over.rest

      at : (kind : BuildErrorKind) → IsOver (keys_in w l) w.settled m kind → IsOver (keys_in w l) w.settled l kind
      at BuildErrorKind.TooManyStates over =
          subst (λ n. Exceeds (keys_in w l).build (λ states. last_id (length states) n) max_id) width over
      at (BuildErrorKind.DFAExceededSizeLimit limit) over = (
        over.0,
        subst (λ n. Exceeds (keys_in w l).build (λ states. table_size (length states) n (length l.starts)) limit) width
            (subst (λ n. Exceeds (keys_in w l).build (λ states. table_size (length states) (stride m) n) limit)
            later.over.count over.1),
      )
      at BuildErrorKind.Memory over = tt
      at _ over = over
