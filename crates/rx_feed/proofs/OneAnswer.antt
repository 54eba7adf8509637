-- At most one text and one status answer what was taken.
use Rattle.rx_spec.proofs.Prelude.{common_steps, ◌≡◌, ℕ, ◌<◌, ◌⊎◌, inl, inr, Bool, Some, None, Option, Result, Ok, Err}
use Rattle.rx_spec.proofs.Prelude.{List, [], ◌∷◌, ◌++◌, length, take, drop, ap, sym, ◌∙◌, subst, arith, append-nil}
use Rattle.rx_spec.proofs.Prelude.{drop_of_length-le, take-append_seam, drop-append_seam, take_all, All-head, All-tail}
use Rattle.rx_spec.proofs.Prelude.{All, Anchored, Table}
use Rattle.std.proofs.Math.Nat.{eq-or-lt_of_le}
use Rattle.rx_wire.specs.Kinds.{Kind}
use Rattle.rx_stream.specs.Remaining.{told_now}
use Rattle.rx_stream.specs.declared.event.StreamEvent.{StreamEvent}
use Rattle.rx_feed.specs.Lines.{IsMatch, lines, refused_line}
use Rattle.rx_feed.specs.Replies.{FeedReplies, IsOneAnswer, IsSplit, IsToldLast, StreamReplies, table_read}

-- ---- events

-- matches alone hold no quit byte
no_quit : (matches later : List StreamEvent) (byte offset : ℕ)
    → All IsMatch (matches ++ (StreamEvent.Quit byte offset ∷ later)) → ⊥
no_quit [] later byte offset all = All-head IsMatch (StreamEvent.Quit byte offset) later all
no_quit (event ∷ matches) later byte offset all =
    no_quit matches later byte offset
    (All-tail IsMatch event (matches ++ (StreamEvent.Quit byte offset ∷ later)) all)

same_event : (event other : StreamEvent) (xs ys : List StreamEvent) → event ∷ xs ≡ other ∷ ys → event ≡ other
same_event event other xs ys e = cc

same_quit : (byte offset b o : ℕ) → StreamEvent.Quit byte offset ≡ StreamEvent.Quit b o
    → (byte ≡ b) × (offset ≡ o)
same_quit byte offset b o e = (cc, cc)

-- the lines up to the first quit byte
quit_once : (matches others xs ys : List StreamEvent) (byte offset b o : ℕ) → All IsMatch matches
    → All IsMatch others
    → matches ++ (StreamEvent.Quit byte offset ∷ xs) ≡ others ++ (StreamEvent.Quit b o ∷ ys)
    → (matches ≡ others) × (byte ≡ b) × (offset ≡ o)
quit_once [] [] xs ys byte offset b o all also e = grind (arith, common_steps, same_quit, same_event)
quit_once [] (event ∷ others) xs ys byte offset b o all also e =
    absurd (subst IsMatch (sym (same_event (StreamEvent.Quit byte offset) event xs
    (others ++ (StreamEvent.Quit b o ∷ ys)) e)) (All-head IsMatch event others also))
quit_once (event ∷ matches) [] xs ys byte offset b o all also e =
    absurd (subst IsMatch (same_event event (StreamEvent.Quit b o) (matches ++ (StreamEvent.Quit byte offset ∷ xs)) ys
    e) (All-head IsMatch event matches all))
quit_once (event ∷ matches) (other ∷ others) xs ys byte offset b o all also e =
    let rest = quit_once matches others xs ys byte offset b o (All-tail IsMatch event matches all)
    (All-tail IsMatch other others also)
    (cc e)
    in
    let same = same_event event other (matches ++ (StreamEvent.Quit byte offset ∷ xs))
    (others ++ (StreamEvent.Quit b o ∷ ys)) e in
    (ap (λ (x : StreamEvent). x ∷ matches) same ∙ ap (λ (l : List StreamEvent). other ∷ l) rest.0, rest.1, rest.2)

-- ---- texts

some_is_not_none : {X : Type 0} (x : Option X) (error : X) → x ≡ Some error → x ≡ None → ⊥
some_is_not_none x error e f = absurd (cc)

abbrev Same : List ℕ → List ℕ → ℕ → ℕ → Type 0
Same text other status again = (text ≡ other) × (status ≡ again)

module _ {t : Table} {mode : Anchored} {haystack : List ℕ} where
  now_no_quit : {matches : List StreamEvent} {byte offset : ℕ} → All IsMatch (told_now t mode haystack)
      → IsToldLast t mode haystack matches (StreamEvent.Quit byte offset) → ⊥
  now_no_quit {matches} {byte} {offset} all is = no_quit matches is.later byte offset (subst (All IsMatch) is.tells all)

  stream_once : {ended also : Bool} {text other : List ℕ} {status again : ℕ}
      → StreamReplies t mode haystack ended text status → StreamReplies t mode haystack also other again
      → Same text other status again
  stream_once (StreamReplies.Unsupported e none f g) (StreamReplies.Unsupported e' none' f' g') =
      (f ∙ sym f', g ∙ sym g')
  stream_once (StreamReplies.Unsupported e none f g) (StreamReplies.Ended e' end few all f' g') =
      absurd (some_is_not_none _ _ e e')
  stream_once (StreamReplies.Unsupported e none f g) (StreamReplies.Quit ms b o e' few all is f' g') =
      absurd (some_is_not_none _ _ e e')
  stream_once (StreamReplies.Unsupported e none f g) (StreamReplies.Long e' long few f' g') =
      absurd (some_is_not_none _ _ e e')
  stream_once (StreamReplies.Ended e end few all f g) (StreamReplies.Unsupported e' none f' g') =
      absurd (some_is_not_none _ _ e' e)
  stream_once (StreamReplies.Ended e end few all f g) (StreamReplies.Ended e' end' few' all' f' g') =
      (f ∙ sym f', g ∙ sym g')
  stream_once (StreamReplies.Ended e end few all f g) (StreamReplies.Quit ms b o e' few' all' is f' g') =
      absurd (now_no_quit all is)
  stream_once (StreamReplies.Ended e end few all f g) (StreamReplies.Long e' long few' f' g') =
      absurd (omega (arith, few, long))
  stream_once (StreamReplies.Quit ms b o e few all is f g) (StreamReplies.Unsupported e' none f' g') =
      absurd (some_is_not_none _ _ e' e)
  stream_once (StreamReplies.Quit ms b o e few all is f g) (StreamReplies.Ended e' end few' all' f' g') =
      absurd (now_no_quit all' is)
  stream_once (StreamReplies.Quit ms b o e few all is f g) (StreamReplies.Quit ms' b' o' e' few' all' is' f' g') =
      grind (arith, common_steps, quit_once)
  stream_once (StreamReplies.Quit ms b o e few all is f g) (StreamReplies.Long e' long few' f' g') =
      absurd (omega (arith, few, long))
  stream_once (StreamReplies.Long e long few f g) (StreamReplies.Unsupported e' none f' g') =
      absurd (some_is_not_none _ _ e' e)
  stream_once (StreamReplies.Long e long few f g) (StreamReplies.Ended e' end few' all' f' g') =
      absurd (omega (arith, few', long))
  stream_once (StreamReplies.Long e long few f g) (StreamReplies.Quit ms b o e' few' all is f' g') =
      absurd (omega (arith, few', long))
  stream_once (StreamReplies.Long e long few f g) (StreamReplies.Long e' long' few' f' g') = grind (arith, common_steps)

-- ---- images

-- the image is what is taken first
split_is : (len : ℕ) (bytes : List ℕ) (ended : Bool) (image haystack : List ℕ) → IsSplit len bytes ended image haystack
    → (length image ≡ len) ⊎ (length image < len) → (image ≡ take len bytes) × (haystack ≡ drop len bytes)
split_is len bytes ended image haystack is (inr less) =
    grind (arith, common_steps, append-nil, take_all, drop_of_length-le)
split_is len bytes ended image haystack is (inl same) = grind (arith, common_steps, take-append_seam, drop-append_seam)

split_once : {len : ℕ} {bytes : List ℕ} {ended : Bool} {image haystack : List ℕ}
    → IsSplit len bytes ended image haystack → (image ≡ take len bytes) × (haystack ≡ drop len bytes)
split_once {len} {bytes} {ended} {image} {haystack} is = grind (arith, common_steps, split_is, eq-or-lt_of_le)

read_or_not : (read : Result Table Kind) (t : Table) (kind : Kind) → read ≡ Ok t → read ≡ Err kind → ⊥
read_or_not read t kind e f = absurd (cc)

pub feed_once : IsOneAnswer
feed_once form mode len bytes ended also text other status again
    (FeedReplies.Refused kind split e f g) (FeedReplies.Refused kind' split' e' f' g') =
    (f ∙ ap refused_line (cc (e, e')) ∙ sym f', g ∙ sym g')
feed_once form mode len bytes ended also text other status again
    (FeedReplies.Refused kind split e f g) (FeedReplies.Searched image haystack t split' e' replies) =
    let same : bytes ≡ image = (split_once split).0 ∙ sym (split_once split').0 in
    absurd (read_or_not (table_read form image) t kind e' (ap (table_read form) (sym same) ∙ e))
feed_once form mode len bytes ended also text other status again
    (FeedReplies.Searched image haystack t split e replies) (FeedReplies.Refused kind split' e' f' g') =
    let same : bytes ≡ image = (split_once split').0 ∙ sym (split_once split).0 in
    absurd (read_or_not (table_read form image) t kind e (ap (table_read form) (sym same) ∙ e'))
feed_once form mode len bytes ended also text other status again
    (FeedReplies.Searched image haystack t split e replies)
    (FeedReplies.Searched image' haystack' t' split' e' replies') =
    let same : image' ≡ image = (split_once split').0 ∙ sym (split_once split).0 in
    let rest : haystack' ≡ haystack = (split_once split').1 ∙ sym (split_once split).1 in
    let table : t' ≡ t = cc (e', ap (table_read form) same ∙ e) in
    stream_once replies
    (subst (λ (d : List ℕ). StreamReplies t mode d also other again) rest
    (subst (λ (u : Table). StreamReplies u mode haystack' also other again) table replies'))
