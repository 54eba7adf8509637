-- The class of each byte in an image.
use Rattle.std.specs.Prelude.{ℕ, ◌+◌, ◌==◌, ◌&&◌, ◌||◌, Bool, List, slice_index}
use Rattle.std.specs.List.{list_all, range_with_len}

-- Classes begin at 0 and rise by 0 or 1. The word stands closed, since it goes over all bytes.
abbrev pub follows : ℕ → ℕ → Bool
follows before class = (class == before) || (class == before + 1)

unfoldable pub are_classes : List ℕ → Bool
are_classes classes =
    (slice_index classes 0 == 0)
    && list_all (λ b. follows (slice_index classes b) (slice_index classes (b + 1))) (range_with_len 0 255)
