-- The state to which a column leads.
use Rattle.std.proofs.lemmas.Bool.{cases_Bool}
use Rattle.rx_spec.proofs.Prelude.{common_steps, ◌≡◌, ℕ, suc, ◌+◌, ◌*◌, ◌/◌, ◌<◌, true, false, List, refl, ap, sym, ◌∙◌}
use Rattle.rx_spec.proofs.Prelude.{subst, arith, div-mul-add, pow_pos, Bool, Result, Ok, Err, IfErr, IfOk, OnOk}
use Rattle.rx_spec.proofs.Prelude.{MatchBool, contains, Build, Node, Running, IsReached, is_dead_state, next_node}
use Rattle.rx_spec.proofs.Prelude.{State, step}
use Rattle.rx_determinize.proofs.Prelude.{keying, Adds, AreRows, CanAdd, FindsRow, IsKeyOf, IsOver, IsRowId, IsRowOf}
use Rattle.rx_determinize.proofs.Prelude.{IsStepped, IsWorking, IsWrittenOver, Keying, Layout, Met, Serves, Settled}
use Rattle.rx_determinize.proofs.Prelude.{Stepping, Work, alphabet_len, keys_in, no_more, states_of, stepped, stride}
use Rattle.rx_determinize.proofs.Prelude.{unit_of, zero_id}
use Rattle.rx_determinize.proofs.FillingLaws.{adds_over, grows_by}
use Rattle.rx_expr.specs.declared.build_error.BuildError.{BuildError}
use Rattle.rx_determinize.proofs.ContinuesLaws.{continues_grown, serves_later}
use Rattle.rx_determinize.proofs.WorkListLaws.{interned_row, reached_step}
use Rattle.rx_determinize.proofs.ColumnLaws.{unit_in}

-- The key of a state that is reached may be added.
pub key_may : {w : Work} {l : Layout} {key : List ℕ} {state : State} → Serves w l → IsKeyOf w.stepping key state
    → IsReached (keys_in w l).build state → CanAdd (keys_in w l) w.settled w.met l key
key_may {w} {l} {key} serves is reached = record {
  working = serves.working;
  one_key = serves.one_key;
  is_key = is.is_key;
  reached = subst (IsReached (keys_in w l).build) (sym is.stands_for) reached;
  label = serves.spells.label key is.is_key;
}

-- what is said of one that steps states is said of another that is the same
module _ (l : Layout) {s t : Stepping} (same : s ≡ t) (settled : Settled) where
  pub may_by : {met : Met} {key : List ℕ} → CanAdd (keying t l) settled met l key
      → CanAdd (keying s l) settled met l key
  may_by {met} {key} can = subst (λ (u : Stepping). CanAdd (keying u l) settled met l key) (sym same) can

  pub working_by : {E : Type 0} (r : Result ℕ E) (met : Met) (m : Layout)
      → OnOk r (IsWorking (keying s l) settled met m) → OnOk r (IsWorking (keying t l) settled met m)
  working_by r met m working = subst (λ (u : Stepping). OnOk r (IsWorking (keying u l) settled met m)) same working

  pub over_by : (r : Result ℕ BuildError) → IfErr r (λ error. IsOver (keying s l) settled l error.kind)
      → IfErr r (λ error. IsOver (keying t l) settled l error.kind)
  over_by r over = subst (λ (u : Stepping). IfErr r (λ error. IsOver (keying u l) settled l error.kind)) same over

pub in_true : {P : Type 0} (Q : Type 0) (b : Bool) → b ≡ true → P → MatchBool b P Q
in_true Q b e p = grind (arith, common_steps, cases_Bool)

-- a dead state has row 0
pub dead_is_row : (states : List State) (s : State) (l : Layout) → is_dead_state s ≡ true
    → IsRowOf states (Running s) (0 / stride l)
dead_is_row states s l e = grind (arith, common_steps)

pub dead_id : {l : Layout} → AreRows l → IsRowId l 0
dead_id {l} rows = let two = rows.two in zero_id l (omega arith)

-- the state to which another column led
pub stepped_alike : {w : Work} {l : Layout} (column other : ℕ) {id : ℕ}
    → stepped w.stepping column ≡ stepped w.stepping other → IsStepped w l other id
    → IsRowOf (states_of (keys_in w l) w.met) (Running (stepped w.stepping column)) (id / stride l)
stepped_alike {w} {l} column other {id} same led = grind (arith, common_steps)

-- what stays so, if the table is as it was but for its words
pub working_over : (s : Stepping) {settled : Settled} {met : Met} (l m : Layout) → IsWrittenOver l m
    → IsWorking (keying s l) settled met m → IsWorking (keying s m) settled met m
working_over s {settled} {met} l m is w = subst (λ (k : Keying). IsWorking k settled met m) (sym (ap (keying s) is)) w

-- a state that isn't dead goes on by a unit that isn't a quit byte
pub goes_on : (b : Build) (s : State) (unit : ℕ) → is_dead_state s ≡ false → contains b.quit unit ≡ false
    → next_node b (Running s) unit ≡ Running (step b.nfa b.kind s unit)
goes_on b s unit alive stays = rw (alive, stays) refl

module _ (s : Stepping) (l : Layout) (rows : AreRows l) (classes : s.classes ≡ l.classes)
    (reached : IsReached (keying s l).build s.current) (column : ℕ) (within : column < alphabet_len l.classes)
    (stays : contains l.quit (unit_of l.classes column) ≡ false) where
  -- a column leads to the state that is stepped to
  pub leads_on : next_node (keying s l).build (Running s.current) (unit_of l.classes column) ≡ Running (stepped s
      column)
  leads_on =
      goes_on (keying s l).build s.current (unit_of l.classes column) reached.alive stays
      ∙ ap (λ (cs : List ℕ). Running (step s.nfa s.kind s.current (unit_of cs column))) (sym classes)

  pub stepped_reached : {key : List ℕ} → IsKeyOf s key (stepped s column)
      → IsReached (keying s l).build (stepped s column)
  stepped_reached {key} is =
      reached_step (unit_of l.classes column) (unit_in l rows.classes column within) leads_on is.alive reached

-- the row of a key's state that was added
pub added_row : (k : Keying) {met after : Met} {l m : Layout} {key : List ℕ} {id : ℕ} → Adds met l key after m id
    → is_dead_state (k.state_of key) ≡ false → IsRowOf (states_of k after) (Running (k.state_of key)) (id / stride l)
added_row k {met} {after} {l} {m} {key} {id} adds alive =
    let row : suc (suc adds.place) ≡ id / stride l =
    omega (
      arith,
      ap (λ n. n / stride l) (adds.id_is ∙ sym (no_more ((adds.place + 2) * stride l))),
      div-mul-add (adds.place + 2) (stride l) 0 (pow_pos l.stride2),
    ) in
    subst (IsRowOf (states_of k after) (Running (k.state_of key))) row (interned_row k.state_of adds.interns alive)

-- ids lie as far apart as they did
adds_stride : {met after : Met} {l m : Layout} {key : List ℕ} {id : ℕ} → Adds met l key after m id → stride m ≡ stride l
adds_stride {met} {after} {l} {m} adds = grind (arith, common_steps)

-- the state of a key has the row that it was given
pub row_by : (s : Stepping) {l m : Layout} {met after : Met} {key : List ℕ} {id : ℕ} {state : State}
    → IsKeyOf s key state → Adds met l key after m id
    → IsRowOf (states_of (keying s m) after) (Running state) (id / stride m)
row_by s {l} {m} {met} {after} {key} {id} is adds =
    rw (adds_stride adds)
    (subst (λ (state : State). IsRowOf (states_of (keying s l) after) (Running state) (id / stride l)) is.stands_for
    (added_row (keying s l) adds (ap is_dead_state is.stands_for ∙ is.alive)))

-- ---- the row that was found

-- nothing was entered for it
pub found_before : {w v : Work} {l : Layout} {node : Node} {id : ℕ} → v ≡ w → Serves w l
    → IsRowOf (states_of (keys_in w l) w.met) node (id / stride l) → IsRowId l id → FindsRow w l node v l id
found_before {w} {v} {l} {node} {id} is serves is_row is_id = grind (arith, common_steps)

-- a key was added
pub found_added : {w v : Work} {l : Layout} {E : Type 0} (r : Result ℕ E) {key : List ℕ} {state : State} (m : Layout)
    → v ≡ record w { met = v.met } → Serves w l → IsKeyOf w.stepping key state → IfOk r (Adds w.met l key v.met m)
    → IfOk r (IsRowId m) → OnOk r (AreRows m) → OnOk r (IsWorking (keys_in w l) w.settled v.met m)
    → IfOk r (FindsRow w l (Running state) v m)
found_added {w} {v} {l} (Ok id) {key} {state} m is serves at adds is_id rows working =
    let over = adds_over adds in
    let grows = grows_by serves.rows adds in
    let later = continues_grown w v.met (grows.more, grows.keys) over in
    subst (λ (u : Work). FindsRow w l (Running state) u m id) (sym is)
    (record {
      same = refl;
      over = over;
      grows = grows;
      serves = serves_later later serves rows (working_over w.stepping l m over working);
      is_row = row_by w.stepping at adds;
      is_id = is_id;
    })
found_added (Err e) m is serves at adds is_id rows working = tt
