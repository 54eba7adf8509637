-- What refuses a build, and that nothing does where its table is built.
use Rattle.rx_spec.proofs.Prelude.{common_steps, ◌≡◌, ℕ, ◌+◌, ◌*◌, ◌<◌, ◌≤◌, inl, Bool, Option, Some, List, length, ap}
use Rattle.rx_spec.proofs.Prelude.{ap₂, sym, ◌∙◌, subst, arith, div-add-mod', IfSome, is_some, Build, AreReached}
use Rattle.rx_spec.proofs.Prelude.{BuildFits, Exceeds, IsSupported, IsUnsupported, max_id, Nfa, determinizer_size}
use Rattle.rx_spec.proofs.Prelude.{label_total, last_id, table_size, State}
use Rattle.rx_determinize.proofs.Prelude.{keying, AreClasses, AreLabels, AreRows, AreUnits, AreWritten, Beginning}
use Rattle.rx_determinize.proofs.Prelude.{BuildErrorKind, Continues, HasEntries, HasOneKeyEach, HasStates, IsBegunWith}
use Rattle.rx_determinize.proofs.Prelude.{IsEntering, IsOver, IsRefusal, IsWorking, Keying, Layout, Matches, Met}
use Rattle.rx_determinize.proofs.Prelude.{NamesPatterns, Settled, SpellStates, Stepping, Work, build_in, build_stride}
use Rattle.rx_determinize.proofs.Prelude.{classes_of, keys_in, limits_of, none_met, shaped_initial, start_entries}
use Rattle.rx_determinize.proofs.Prelude.{states_of, stride}
use Rattle.rx_spec.specs.Sizes as sizes
use Rattle.rx_lemmas.proofs.Sizes.{determinizer_grows, exceeds_exactly, ids_grow, labels_grow, table_grows}
use Rattle.rx_expr.specs.Refusals.{IsRefused, TableRefused}
use Rattle.rx_determinize.proofs.ContinuesLaws.{same_keys}
use Rattle.rx_determinize.proofs.BuiltLaws.{IsBuilt, has_states, reached, states_count}
use Rattle.rx_determinize.proofs.StartLaws.{working_begun, written_begun}

pub not_unsupported : {b : Build} → IsSupported b → IsUnsupported b → ⊥
not_unsupported supported un = un.lacks (supported un.looks)

-- how a table is begun
abbrev pub beginning_of : Nfa → Settled → Bool → Layout → Beginning
beginning_of nfa settings byte_classes l = record {
  classes = classes_of nfa settings.quit byte_classes;
  pattern_len = length nfa.start_patterns;
  start_kind = l.start_kind;
  line_terminator = nfa.line_terminator;
  pattern_starts = is_some l.pattern_starts;
  quit = settings.quit;
  flags = l.flags;
}

-- a table that is begun, and the construction for it
pub record Begins (w : Work) (nfa : Nfa) (settings : Settled) (byte_classes : Bool) (l : Layout) : Type 0 where
  pub begun : IsBegunWith nfa settings byte_classes l
  pub nfa_is : w.stepping.nfa ≡ nfa
  pub kind_is : w.stepping.kind ≡ settings.match_kind
  pub settled_is : w.settled ≡ settings

module _ {w : Work} {nfa : Nfa} {settings : Settled} {byte_classes : Bool} {l : Layout}
    (x : Begins w nfa settings byte_classes l) where
  abbrev s : Stepping
  s = w.stepping

  abbrev b : Build
  b = build_in nfa settings l

  quit_is : l.quit ≡ settings.quit
  quit_is = ap (λ (n : Layout). n.quit) x.begun

  pub build_is : (keying s l).build ≡ b
  build_is = grind (arith, common_steps)

  pub classes_are : l.classes ≡ classes_of s.nfa l.quit byte_classes
  classes_are =
      ap (λ (n : Layout). n.classes) x.begun
      ∙ ap₂ (λ (n : Nfa) (quit : ℕ). classes_of n quit byte_classes) (sym x.nfa_is) (sym quit_is)

  abbrev beginning : Beginning
  beginning = beginning_of nfa settings byte_classes l

  pub begun_rows : AreClasses l.classes → NamesPatterns (length nfa.start_patterns) nfa.rows → AreRows l
  begun_rows are names =
      let same = ap (λ (n : Layout). n.classes) x.begun in
      let few : length nfa.start_patterns ≤ 2147483647 = omega arith in
      subst AreRows (sym x.begun) (shaped_initial beginning (subst AreClasses same are) few).rows

  -- no state was met
  pub begun_entering : w.met ≡ none_met → AreClasses l.classes → AreUnits w.units l.classes
      → s.classes ≡ l.classes → HasOneKeyEach s → SpellStates s
      → NamesPatterns (length nfa.start_patterns) nfa.rows → IsEntering w l 0 0
  begun_entering none are units classes one_key spells names = record {
    serves = record {
      rows = begun_rows are names;
      working =
          subst (λ (m : Met). IsWorking (keys_in w l) w.settled m l) (sym none)
          (working_begun (keys_in w l) w.settled beginning l x.begun);
      byte_classes = byte_classes;
      are_classes = classes_are;
      classes = classes;
      units = units;
      one_key = one_key;
      spells = spells;
    };
    written =
        subst (λ (m : Met). AreWritten (keys_in w l) m l 0 0) (sym none)
        (written_begun (keys_in w l) beginning l x.begun);
  }

  -- ---- sizes

  pub stride_is : stride l ≡ build_stride b byte_classes
  stride_is = grind (arith, common_steps)

  pub has_entries : HasEntries (length nfa.start_patterns) l
  has_entries = grind (arith, common_steps)

  starts_are : length l.starts ≡ sizes.start_entries b
  starts_are = grind (arith, common_steps)

  -- ---- a build that is refused

  pub refused : (kind : BuildErrorKind) → (IsUnsupported b → ⊥) → IsRefusal w l kind
      → IsRefused (TableRefused (limits_of settings byte_classes) b) kind
  refused kind supported over =
      at kind (subst (λ (other : Build). IsOver (record (keying s l) { build = other }) settings l kind)
      build_is (subst (λ (settled : Settled). IsOver (keying s l) settled l kind) x.settled_is over))
    where
      k : Keying
      k = record { build = b; is_key = s.is_key; state_of = s.state_of }

      at : (kind : BuildErrorKind) → IsOver (record { build = b; is_key = s.is_key; state_of = s.state_of })
          settings l kind
          → IsRefused (TableRefused (limits_of settings byte_classes) b) kind
      at BuildErrorKind.TooManyStates over = (
        supported,
        inl (subst (λ w. Exceeds b (λ states. last_id (length states) w) max_id) stride_is over),
      )
      at BuildErrorKind.TooManyMatchPatternIDs over = (supported, over)
      at (BuildErrorKind.DFAExceededSizeLimit limit) over = grind (arith, common_steps)
      at (BuildErrorKind.DeterminizeExceededSizeLimit limit) over = (supported, over.0, over.1)
      at BuildErrorKind.Memory over = tt
      at _ over = absurd over

  -- ---- a build that is done

  -- what the construction leaves
  pub built_of : {v : Work} {m : Layout} → Continues w l v m → IsEntering v m (length m.starts) (length v.met.keys)
      → NamesPatterns (length nfa.start_patterns) nfa.rows → IsBuilt v m
  built_of {v} {m} later entering names =
      let own = ap (λ (n : Layout). n.pattern_starts) later.over.rest in
      let same : v.stepping.nfa ≡ nfa = ap (λ (t : Stepping). t.nfa) later.stepping ∙ x.nfa_is in
      record {
        entering = entering;
        named = subst (λ (n : Nfa). NamesPatterns (length n.start_patterns) n.rows) (sym same) names;
        pattern_len =
            ap (λ (n : Layout). n.pattern_len) later.over.rest ∙ ap (λ (n : Layout). n.pattern_len) x.begun
            ∙ ap (λ (n : Nfa). length n.start_patterns) (sym same);
        entries =
            subst (λ (n : Nfa). HasEntries (length n.start_patterns) m) (sym same)
            (record {
              count = later.over.count ∙ has_entries.count ∙ ap start_entries (sym own);
              own = subst (λ (o : Option ℕ). IfSome o (λ n. n ≡ length nfa.start_patterns)) (sym own) has_entries.own;
            });
      }

  module _ {v : Work} {m : Layout} (later : Continues w l v m) (built : IsBuilt v m) where
    abbrev met : Met
    met = v.met

    abbrev states : List State
    states = states_of (keys_in v m) met

    same_build : (keys_in v m).build ≡ b
    same_build = ap (λ (k : Keying). k.build) (same_keys later) ∙ build_is

    settled_then : v.settled ≡ settings
    settled_then = later.settled ∙ x.settled_is

    all_reached : AreReached b states
    all_reached = subst (λ (c : Build). AreReached c states) same_build (reached built)

    width : stride m ≡ build_stride b byte_classes
    width = ap stride later.over.rest ∙ stride_is

    starts : length m.starts ≡ sizes.start_entries b
    starts = later.over.count ∙ starts_are

    words : (length states + 2) * build_stride b byte_classes ≡ length m.words
    words = grind (arith, common_steps, div-add-mod')

    keys : length states ≡ length met.keys
    keys = states_count built

    pub states_in : {matches : Matches} → AreLabels met.keys m matches → HasStates b m matches
    states_in {matches} labels = subst (λ (c : Build). HasStates c m matches) same_build (has_states built labels)

    pub fits : IsSupported b → BuildFits (limits_of settings byte_classes) b
    fits supported = record {
      supported = supported;
      states = λ e.
          let w : ℕ = build_stride b byte_classes in
          let passed = (exceeds_exactly b (λ xs. last_id (length xs) w) max_id states (ids_grow w) all_reached).0 e in
          absurd (omega (arith, words, width));
      rows = λ _ e. absurd (cc e.0);
      patterns = λ e.
          let passed = (exceeds_exactly b label_total max_id states labels_grow all_reached).0 e in
          absurd (omega arith);
      table = λ limit is e.
          let w : ℕ = build_stride b byte_classes in
          let n : ℕ = sizes.start_entries b in
          let passed = (exceeds_exactly b (λ xs. table_size (length xs) w n) limit states (table_grows w n)
          all_reached).0 e in
          let some : 0 < length met.keys = omega (arith, keys) in
          let low = at_limit v.settled.dfa_size_limit limit (4 * (length m.words + length m.starts + 1))
          (ap (λ (c : Settled). c.dfa_size_limit) settled_then ∙ is)
          (built.entering.serves.working.table some) in
          absurd (omega (arith, words, starts));
      construction = λ limit is e.
          let passed = (exceeds_exactly b determinizer_size limit states determinizer_grows all_reached).0 e in
          let some : 0 < length met.keys = omega (arith, keys) in
          let low = at_limit v.settled.determinize_size_limit limit met.size
          (ap (λ (c : Settled). c.determinize_size_limit) settled_then ∙ is)
          (built.entering.serves.working.construction some) in
          absurd (omega arith);
    }
      where
        at_limit : (o : Option ℕ) (limit size : ℕ) → o ≡ Some limit → IfSome o (λ most. size ≤ most) → size ≤ limit
        at_limit o limit size e h = subst (λ (p : Option ℕ). IfSome p (λ most. size ≤ most)) e h
