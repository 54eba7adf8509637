use Rattle.rx_spec.proofs.Prelude.{◌≡◌, ℕ, ◌^◌, ◌≤◌, true, List, length, ◌∙◌, ap, refl, rules, subst, sym, concat}
use Rattle.rx_spec.proofs.Prelude.{max_id}
use Rattle.rx_order.proofs.Prelude.{Layout, Special, special_ids}
use Rattle.rx_order.proofs.MatchRows.{lists_are}
use Rattle.rx_order.proofs.Ordered.{arranged, arranging_ends, specials}
use Rattle.rx_order.proofs.Shuffled.{IsShuffle, has_patterns, plain, shuffled, shuffled_sound, sorting}
use Rattle.rx_order.proofs.shuffle_rows.shuffle.Goals.{After-arrange}
use Rattle.rx_order.proofs.shuffle_rows.shuffle.Goals as goal

-- what the calls leave
shuffling : (c : After-arrange) (m : Layout)
    → m ≡ record c.arrange.new.dfa {
      special = special_ids (2 ^ c.arrange.new.dfa.stride2) c.in_ok-order.order.ends true;
    }
    → IsShuffle c.args.dfa.now c.args.matches
    (sorting c.args.dfa.now c.args.matches c.in_ok-kinds.kinds.items c.in_ok-order.order.rows.items
    c.in_ok-order.order.ends) c.in_ok-ranks.ranks.items c.set_pattern_map.new.self c.arrange.new.dfa m
shuffling c m set =
    let kinds = c.in_ok-kinds.ensures in
    record {
      are = c.requires;
      ordered = kinds.ordered;
      marked = refl;
      matches_are = refl;
      none_accelerated = refl;
      arranging = record {
        are_rows = kinds.are_rows;
        are_starts = kinds.are_starts;
        kinds_are = kinds.kinds;
        by_kind = rw c.deref-2.ensures.value at c.in_ok-order.ensures.by_kind;
        plain = plain c.requires;
        next_is = c.in_ok-set_pattern_map.ensures.ok;
        reordered = rw c.deref-4.ensures.value at c.arrange.ensures;
        set = rw set refl;
      };
      accels = ap (λ (k : Layout). k.accels) set;
      ranked = rw (c.deref-2.ensures.value, c.deref-3.ensures.value) at c.in_ok-order.ensures.ranked;
      match_ranks = rw c.deref.ensures.value at c.in_ok-ranks.ensures.matches;
    }

pub special-requires-clause-ids : goal.special-requires-clause-ids
special-requires-clause-ids c =
    rw c.stride2.ensures.value
    (arranging_ends (shuffling (goal.at.special-requires-clause-ids c).After-arrange _ refl).arranging)

pub returns : goal.returns
returns c =
    let is = shuffling (goal.at.returns c).After-arrange c.set_special.new.self
    (c.set_special.ensures
    ∙ ap (λ (special : Special). record c.arrange.new.dfa { special = special })
    (c.special.ensures ∙ ap (λ k. special_ids (2 ^ k) c.in_ok-order.order.ends true) c.stride2.ensures.value)) in
    record {
      ok = shuffled is;
      sound = shuffled_sound is;
      err = tt;
      fits = c.in_ok-set_pattern_map.ensures.fits;
      joined_len =
          subst (λ (lists : List (List ℕ)). length (concat lists) ≤ max_id)
          (sym (lists_are (specials (arranged is.arranging)) (has_patterns is))) c.in_ok-set_pattern_map.ensures.fits;
      too_many = search rules;
    }
