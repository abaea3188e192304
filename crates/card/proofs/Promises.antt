-- Where the input is cut into blocks does not matter.
use mathlib.Core.Path.{◌≡◌, refl}
use mathlib.Core.List.{List, [], ◌∷◌, ◌++◌, flatten, append_assoc, append-nil}
use Prim.Native.Nat.{ℕ, zero, suc, ◌+◌, ◌*◌, ◌/◌, ◌%◌, ◌≤◌}
use native.Mathlib.Nat.{add_assoc, add-zero, add-suc}
use native.Mathlib.Omega.{arith}
use borrow.Author.Tests.{eq-eqb}
use lib.ListN.{length, length-append, get_or-append}
use lib.Seq.{get_or-append-add}
use Rattle.words.specs.Little.{little}
use Rattle.card.specs.Record.{card_at}
use Rattle.card.specs.Block.{line_at, lines, rest, text, texts}
use Rattle.card.specs.Promises.{Blocks}

module _ (a b : List ℕ) where
  little_left : (k at : ℕ) → at + k ≤ length a → little k (a ++ b) at ≡ little k a at
  unfolding little
  little_left zero at h = refl
  little_left (suc k) at h = rw (little_left k at (omega arith), get_or-append a b 0 (at + k) (omega arith))

  little_right : (k at : ℕ) → little k (a ++ b) (length a + at) ≡ little k b at
  unfolding little
  little_right zero at = refl
  little_right (suc k) at = rw (little_right k at, add_assoc (length a) at k, get_or-append-add a b (at + k) 0)

  little_right_at : (k at o : ℕ) → little k (a ++ b) (length a + at + o) ≡ little k b (at + o)
  little_right_at k at o = rw (add_assoc (length a) at o) (little_right k (at + o))

  card_left : (at : ℕ) → at + 96 ≤ length a → card_at (a ++ b) at ≡ card_at a at
  unfolding card_at
  card_left at h =
      rw (
        little_left 8 at (omega arith),
        little_left 8 (at + 8) (omega arith),
        little_left 8 (at + 16) (omega arith),
        little_left 8 (at + 24) (omega arith),
        little_left 8 (at + 32) (omega arith),
        little_left 8 (at + 40) (omega arith),
        little_left 8 (at + 48) (omega arith),
        little_left 8 (at + 56) (omega arith),
        little_left 8 (at + 64) (omega arith),
        little_left 8 (at + 72) (omega arith),
        little_left 8 (at + 80) (omega arith),
        little_left 2 (at + 88) (omega arith),
        little_left 2 (at + 90) (omega arith),
        little_left 2 (at + 92) (omega arith),
        little_left 2 (at + 94) (omega arith),
      )

  card_right : (at : ℕ) → card_at (a ++ b) (length a + at) ≡ card_at b at
  unfolding card_at
  card_right at =
      rw (
        little_right 8 at,
        little_right_at 8 at 8,
        little_right_at 8 at 16,
        little_right_at 8 at 24,
        little_right_at 8 at 32,
        little_right_at 8 at 40,
        little_right_at 8 at 48,
        little_right_at 8 at 56,
        little_right_at 8 at 64,
        little_right_at 8 at 72,
        little_right_at 8 at 80,
        little_right_at 2 at 88,
        little_right_at 2 at 90,
        little_right_at 2 at 92,
        little_right_at 2 at 94,
      )

  lines_left : (n k : ℕ) → k * 96 ≤ length a → lines n (a ++ b) k ≡ lines n a k
  unfolding lines line_at
  lines_left n zero h = refl
  lines_left n (suc k) h = rw (lines_left n k (omega arith), card_left (k * 96) (omega arith))

  module _ (n w : ℕ) (whole : length a ≡ w * 96) where
    lines_right : (j : ℕ) → lines n (a ++ b) (w + j) ≡ lines n a w ++ lines (n + w) b j
    unfolding lines line_at
    lines_right zero = rw (add-zero, append-nil) (lines_left n w (omega arith))
    lines_right (suc j) =
        let e : (w + j) * 96 ≡ length a + j * 96 = omega arith in
        rw (add-suc, lines_right j, e, card_right (j * 96), ← add_assoc n w j, append_assoc)

    -- a block of w whole records, and then what is left
    pub cut : text n (a ++ b) ≡ lines n a w ++ text (n + w) b
    unfolding text rest
    cut =
        let q : length (a ++ b) / 96 ≡ w + length b / 96 = omega (arith, length-append a b) in
        let r : length (a ++ b) % 96 ≡ length b % 96 = omega (arith, length-append a b) in
        rw (q, r, lines_right (length b / 96), ← add_assoc n w (length b / 96), append_assoc)

-- the text of a block of whole records is their lines
whole_text : (n : ℕ) (a : List ℕ) → length a % 96 ≡ 0 → text n a ≡ lines n a (length a / 96)
unfolding text rest
whole_text n a h = rw (eq-eqb (length a % 96) 0 h, append-nil)

pub blocks : Blocks
unfolding texts text rest lines flatten
blocks n [] h = refl
blocks n (a ∷ []) h = rw (append-nil (text n a), append-nil a)
blocks n (a ∷ b ∷ bs) h =
    rw (
      whole_text n a h.0,
      blocks (n + length a / 96) (b ∷ bs) h.1,
      cut a (flatten (b ∷ bs)) n (length a / 96) (omega (arith, h.0)),
    )
