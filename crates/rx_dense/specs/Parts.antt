-- The layout that parts make.
use Rattle.rx_dense.specs.Layouts.{Layout}
use Rattle.rx_dense.specs.declared.dfa.parts.Parts.{Parts}

abbrev pub layout_of : Parts → Layout
layout_of p = record {
  flags = p.flags;
  classes = p.classes;
  stride2 = p.stride2;
  words = p.words.items;
  start_kind = p.start_kind;
  contexts = p.contexts;
  pattern_starts = p.start_pattern_len;
  starts = p.start_ids.items;
  universal_unanchored = p.universal_unanchored;
  universal_anchored = p.universal_anchored;
  slices = p.slices.items;
  pattern_ids = p.pattern_ids.items;
  pattern_len = p.pattern_len;
  special = p.special;
  accels = p.accels;
  quit = p.quitset;
}
