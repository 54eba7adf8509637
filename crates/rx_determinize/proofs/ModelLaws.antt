-- Rows that begin as those of models.
use Rattle.rx_spec.proofs.Prelude.{◌≡◌, ℕ, ◌+◌, ◌*◌, ◌<◌, ◌≤◌, true, false, Option, None, Some, List, [], length}
use Rattle.rx_spec.proofs.Prelude.{replicate, set, refl, ap, sym, ◌∙◌, subst, arith, inl, inr, ⊎_elim, cases_eq}
use Rattle.rx_spec.proofs.Prelude.{cases_lt, get_or-set_at, get_or-replicate, get_or-set_other, get_or_past, All-get_or}
use Rattle.rx_spec.proofs.Prelude.{get_or_from_slice_get, slice_get_within, same_Some, MatchOption, slice_get}
use Rattle.rx_spec.proofs.Prelude.{slice_index_or, IsReached, Node, Running, is_dead_state, next_node, contains, State}
use Rattle.rx_spec.proofs.Prelude.{step}
use Rattle.rx_determinize.proofs.Prelude.{keying, AreModels, AreRows, Continues, IsAllAlone, IsAlone, IsCopied}
use Rattle.rx_determinize.proofs.Prelude.{IsEntering, IsKeyAt, IsModel, IsReady, IsRowOf, IsStepping, IsWrittenOver}
use Rattle.rx_determinize.proofs.Prelude.{Keying, Layout, Met, Serves, Stepping, Work, alphabet_len, begun_at, kept_in}
use Rattle.rx_determinize.proofs.Prelude.{keys_in, lone_state, machine_of, model_row, nodes, none_stepped, states_of}
use Rattle.rx_determinize.proofs.Prelude.{stepped, stride, unit_of}
use Rattle.std.proofs.lemmas.List.{length-set}
use Rattle.rx_determinize.proofs.CellLaws.{next_beside, next_copied}
use Rattle.rx_determinize.proofs.ColumnLaws.{unit_in}
use Rattle.rx_determinize.proofs.ContinuesLaws.{same_keys}
use Rattle.rx_determinize.proofs.FillingLaws.{IsRewritten, entering_beside}
use Rattle.rx_determinize.proofs.NextLaws.{goes_on, in_true, leads_on}
use Rattle.rx_determinize.proofs.SteppingLaws.{current_reached}
use Rattle.rx_determinize.proofs.WorkListLaws.{slice_get-append}

not_none : {n : ℕ} {o : Option ℕ} → o ≡ None → o ≡ Some n → ⊥
not_none none some = let clash = sym none ∙ some in cc

-- none is known
pub models_none : (k : Keying) (met : Met) (l : Layout) (done : ℕ) (models : List (Option ℕ))
    → models ≡ replicate 32 None → AreModels k met l models done
models_none k met l done models none context place kept =
    absurd
    (not_none
    (⊎_elim (λ (h : context < 32). get_or-replicate 32 context None None h)
    (λ (h : 32 ≤ context).
    get_or_past (replicate 32 None) context None
    (omega arith))
    (cases_lt context 32))
    (ap (λ (ms : List (Option ℕ)). slice_index_or ms context None) (sym none) ∙ kept))

-- more states are met, and the row of one more is written
pub models_later : {w v : Work} {l m : Layout} (models : List (Option ℕ)) (done : ℕ) → Continues w l v m
    → AreModels (keys_in w l) w.met l models done → AreModels (keys_in v m) v.met m models (done + 1)
models_later {w} {v} {l} {m} models done later are =
    let k = keys_in w l in
    subst (λ (j : Keying). AreModels j v.met m models (done + 1)) (sym (same_keys later)) (λ context row kept.
    let was = are context row kept in
    let model = was.1 in
    let In = λ (n : Layout). (column : ℕ) → column < alphabet_len n.classes
    → contains n.quit (unit_of n.classes column) ≡ false
    → step k.build.nfa k.build.kind (k.state_of model.key) (unit_of n.classes column)
    ≡ lone_state k.build.nfa k.build.kind n.classes context column in (
      omega arith,
      record {
        place = model.place;
        row_is = model.row_is;
        key = model.key;
        here =
            subst (λ (ks : List (List ℕ)). slice_get ks model.place ≡ Some model.key) (sym later.keys.1)
            (slice_get-append w.met.keys later.keys.0 model.place model.key model.here);
        steps = subst In (sym later.over.rest) model.steps;
      },
    ))

-- one more is kept
pub model_added : {k : Keying} {met : Met} {l : Layout} (models : List (Option ℕ)) (led_in : Option ℕ) (done row : ℕ)
    → row < done + 2 → ((context : ℕ) → led_in ≡ Some context → IsModel k met l context row)
    → AreModels k met l models done → AreModels k met l (kept_in models led_in row) done
model_added models None done row below is are = are
model_added {k} {met} {l} models (Some context) done row below is are = λ other at kept.
    let there = λ (e : other ≡ context).
    ⊎_elim (λ (h : context < length models). get_or-set_at models context other (Some row) None e h)
    (λ (h : length models ≤ context).
    absurd
    (not_none
    (get_or_past (set models context (Some row)) other None
    (omega (arith, length-set models context (Some row)))) kept))
    (cases_lt context (length models)) in
    ⊎_elim
    (λ (e : other ≡ context).
    let one : row ≡ at = same_Some row at (sym (there e) ∙ kept) in
    (omega (arith, below, one), subst (λ r. IsModel k met l other r) one (is other (ap Some (sym e)))))
    (λ (ne : other ≡ context → ⊥).
    are other at (sym (get_or-set_other models context other (Some row) None ne) ∙ kept))
    (cases_eq other context)

-- a state that goes on by no rows of its own is one
pub model_of_alone : {w : Work} {l : Layout} (place : ℕ) → IsKeyAt w place → Serves w l → IsAllAlone w.stepping l
    → (context : ℕ) → w.stepping.led_in ≡ Some context → IsModel (keys_in w l) w.met l context (place + 2)
model_of_alone {w} {l} place at serves alone context led_in =
    let s = w.stepping in
    record {
      place = place;
      row_is = refl;
      key = at.key;
      here = at.here;
      steps = λ column low stays.
          let Is = λ (o : Option ℕ). MatchOption o (is_dead_state (stepped s column) ≡ true) (λ c.
          (c < 32) × (stepped s column ≡ lone_state s.nfa s.kind s.classes c column)) in
          let alike = subst Is led_in (alone column low) in
          ap (λ (t : State). step s.nfa s.kind t (unit_of l.classes column)) (sym at.current)
          ∙ ap (λ (cs : List ℕ). step s.nfa s.kind s.current (unit_of cs column)) (sym serves.classes) ∙ alike.1
          ∙ ap (λ (cs : List ℕ). lone_state s.nfa s.kind cs context column) serves.classes;
    }

-- the row of a model is written
pub model_before : {k : Keying} {met : Met} {l : Layout} (models : List (Option ℕ)) (done : ℕ) {row : ℕ}
    (led_in : Option ℕ)
    → AreModels k met l models done → model_row models led_in ≡ Some row → row < done + 2
model_before models done None are is = omega (arith, same_Some _ _ is)
model_before models done {row} (Some context) are is = (are context row is).0

module _ {w : Work} {l : Layout} {set done : ℕ} (models : List (Option ℕ)) (entering : IsEntering w l set done)
    (are : AreModels (keys_in w l) w.met l models done) where
  -- the state of a place steps to the node that a row of the table stands for
  state_row : (place : ℕ) (key : List ℕ) → slice_get w.met.keys place ≡ Some key → place < done → (column : ℕ)
      → column < alphabet_len l.classes → contains l.quit (unit_of l.classes column) ≡ false
      → IsRowOf (states_of (keys_in w l) w.met)
      (Running (step w.stepping.nfa w.stepping.kind (w.stepping.state_of key) (unit_of l.classes column)))
      ((machine_of l).next (place + 2) (unit_of l.classes column))
  state_row place key here below column low stays =
      let b = (keys_in w l).build in
      let state = w.stepping.state_of key in
      let unit = unit_of l.classes column in
      let serves = entering.serves in
      let found : IsReached b state =
      subst (λ (k : List ℕ). IsReached b (w.stepping.state_of k)) (get_or_from_slice_get w.met.keys place key [] here)
      (All-get_or (λ k. IsReached b (w.stepping.state_of k)) w.met.keys place []
      (slice_get_within w.met.keys place key here) serves.working.reached) in
      subst (λ (n : Node). IsRowOf (states_of (keys_in w l) w.met) n ((machine_of l).next (place + 2) unit))
      (goes_on b state unit found.alive stays)
      (entering.written.list.steps place key here below unit (unit_in l serves.rows.classes column low))

  -- The model's row leads by a column by which no rows of the state's own go on where the state leads.
  pub model_leads : IsReached (keys_in w l).build w.stepping.current → (column : ℕ)
      → column < alphabet_len l.classes → contains l.quit (unit_of l.classes column) ≡ false → {row : ℕ}
      → model_row models w.stepping.led_in ≡ Some row → IsAlone w.stepping column
      → IsRowOf (states_of (keys_in w l) w.met)
      (next_node (keys_in w l).build (Running w.stepping.current) (unit_of l.classes column))
      ((machine_of l).next row (unit_of l.classes column))
  model_leads reached column low stays {row} is alone =
      subst (λ (n : Node). IsRowOf (states_of (keys_in w l) w.met) n
      ((machine_of l).next row (unit_of l.classes column)))
      (sym (leads_on w.stepping l entering.serves.rows entering.serves.classes reached column low stays))
      (by w.stepping.led_in is alone)
    where
      by : (o : Option ℕ) → model_row models o ≡ Some row
          → MatchOption o (is_dead_state (stepped w.stepping column) ≡ true) (λ c.
          (c < 32) × (stepped w.stepping column
          ≡ lone_state w.stepping.nfa w.stepping.kind w.stepping.classes c column))
          → IsRowOf (states_of (keys_in w l) w.met) (Running (stepped w.stepping column))
          ((machine_of l).next row (unit_of l.classes column))
      by None zero dead =
          let unit = unit_of l.classes column in
          let states = states_of (keys_in w l) w.met in
          let state = stepped w.stepping column in
          let ends : (machine_of l).next row unit ≡ 0 =
          ap (λ r. (machine_of l).next r unit) (sym (same_Some _ _ zero))
          ∙ entering.written.dead_stays unit (unit_in l entering.serves.rows.classes column low) in
          subst (IsRowOf states (Running state)) (sym ends)
          (in_true (slice_get (nodes states) 0 ≡ Some (Running state)) (is_dead_state state) dead refl)
      by (Some context) some lone =
          let s = w.stepping in
          let unit = unit_of l.classes column in
          let states = states_of (keys_in w l) w.met in
          let model = (are context row some).1 in
          let same : step s.nfa s.kind (s.state_of model.key) unit ≡ stepped s column =
          model.steps column low stays
          ∙ ap (λ (cs : List ℕ). lone_state s.nfa s.kind cs context column) (sym entering.serves.classes)
          ∙ sym lone.1 in
          subst (λ r. IsRowOf states (Running (stepped s column)) ((machine_of l).next r unit)) (sym model.row_is)
          (subst (λ (t : State). IsRowOf states (Running t) ((machine_of l).next (model.place + 2) unit)) same
          (state_row model.place model.key model.here (omega (arith, (are context row some).0)) column
          low stays))

-- the row of the state under way was copied from that of its model
pub record IsBegun (s : Stepping) (l : Layout) (models : List (Option ℕ)) (place : ℕ) (m : Layout) : Type 0 where
  pub row : ℕ
  pub is_model : model_row models s.led_in ≡ Some row
  pub over : IsWrittenOver l m
  pub copied : IsCopied (stride l) l.words m.words (row * stride l) ((place + 2) * stride l)
  pub rows : AreRows m

pub stepping_copied : {w : Work} {l m : Layout} (models : List (Option ℕ)) {place : ℕ}
    → AreModels (keys_in w l) w.met l models place → IsBegun w.stepping l models place m
    → IsStepping w l (begun_at place false) none_stepped → IsStepping w m (begun_at place true) none_stepped
stepping_copied {w} {l} {m} models {place} are begun stepping =
    let same : keys_in w m ≡ keys_in w l = ap (keying w.stepping) begun.over in
    record {
      entering =
          subst (λ n. IsEntering w m n place) (sym (ap (λ (k : Layout). length k.starts) begun.over))
          (entering_beside rewritten
          (slice_get_within w.met.keys place stepping.filling.key stepping.filling.here) stepping.entering);
      filling = record {
        key = stepping.filling.key;
        here = stepping.filling.here;
        stands =
            subst (λ (k : Keying). k.state_of stepping.filling.key ≡ w.stepping.current) (sym same)
            stepping.filling.stands;
        cells = λ c low ready. cell c low ready;
      };
      stepped_last = tt;
    }
  where
    leads : (row unit : ℕ) → (machine_of m).next row unit
        ≡ (machine_of (record l { words = m.words })).next row unit
    leads row unit = ap (λ (n : Layout). (machine_of n).next row unit) begun.over

    rewritten : IsRewritten l place m
    rewritten = record {
      over = begun.over;
      rows = begun.rows;
      count = begun.copied.count;
      others = λ row unit within is_unit apart.
          leads row unit
          ∙ next_beside l stepping.entering.serves.rows begun.row (place + 2) begun.copied row unit is_unit apart;
    }

    cell : (c : ℕ) → c < alphabet_len m.classes → IsReady w.stepping m (begun_at place true) c
        → IsRowOf (states_of (keys_in w m) w.met)
        (next_node (keys_in w m).build (Running w.stepping.current) (unit_of m.classes c))
        ((machine_of m).next (place + 2) (unit_of m.classes c))
    cell c low (inl passed) = absurd (omega arith)
    cell c low (inr alone) =
        let low_in : c < alphabet_len l.classes =
        subst (λ (n : Layout). c < alphabet_len n.classes) begun.over low in
        let stays : contains l.quit (unit_of l.classes c) ≡ false =
        subst (λ (n : Layout). contains n.quit (unit_of n.classes c) ≡ false) begun.over alone.1 in
        let led =
        model_leads models stepping.entering are (current_reached stepping) c low_in stays begun.is_model alone.2 in
        let At = λ (n : Layout). IsRowOf (states_of (keys_in w n) w.met)
        (next_node (keys_in w n).build (Running w.stepping.current) (unit_of n.classes c))
        ((machine_of m).next (place + 2) (unit_of n.classes c)) in
        let rows = stepping.entering.serves.rows in
        subst At (sym begun.over)
        (subst (IsRowOf (states_of (keys_in w l) w.met)
        (next_node (keys_in w l).build (Running w.stepping.current) (unit_of l.classes c)))
        (sym (leads (place + 2) (unit_of l.classes c)
        ∙ next_copied l rows begun.row (place + 2) begun.copied (unit_of l.classes c)
        (unit_in l rows.classes c low_in))) led)
