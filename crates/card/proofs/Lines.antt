-- Lines put one after the other are the text of a block, and how long they are at most.
use Rattle.refusal.specs.declared.Refusal.{Refusal}
use mathlib.Core.Path.{◌≡◌, refl}
use mathlib.Core.Bool.{Bool, true, false}
use mathlib.Core.List.{List, [], append-nil}
use Prim.Native.Nat.{ℕ, zero, suc, ◌+◌, ◌*◌, ◌/◌, ◌%◌, ◌≤◌}
use native.Mathlib.Numerals.{add-one}
use native.Mathlib.Omega.{arith}
use borrow.Author.Tests.{eq-eqb, ne_eqb}
use lib.Dec.{eqb}
use lib.ListN.{length, take, drop, length-append}
use Rattle.std.specs.Prelude.{if◌then◌else◌, Result}
use Rattle.brake.specs.declared.BrakeOut.{BrakeOut}
use Rattle.card.specs.declared.record.Card.{Card}
use Rattle.card.specs.declared.desk.Answer.{Answer}
use Rattle.card.specs.Record.{card_at}
use Rattle.card.specs.Desk.{outcome_of, answer_for}
use Rattle.card.specs.Text.{Put, line}
use Rattle.card.specs.Block.{line_of, line_at, lines, rest, text}
use Rattle.card.proofs.Digits.{joined}
use Rattle.card.proofs.Lengths.{line_most}
use Rattle.card.proofs.Part.{part_card}

-- the line of the record that is the part of k bytes from `from` on
pub line_is : (n : ℕ) (l : List ℕ) (from k : ℕ) {c : Card} {o : Result BrakeOut Refusal} {a : Answer} {room : ℕ}
    → k ≡ 96
    → c ≡ card_at (take k (drop from l)) 0
    → room ≡ 4096
    → o ≡ outcome_of c room
    → a ≡ answer_for o
    → line n a.number a.count a.margin a.stop ≡ line_at n l from
unfolding line_at line_of
line_is n l from k ek ec er eo ea = rw (ea, eo, er, ec, ek, part_card l from)

pub none : (l : List ℕ) (n : ℕ) (input : List ℕ) → Put l l 0 0 (lines n input 0)
unfolding lines
none l n input = record { bytes = refl; after = refl }

pub more : (n k : ℕ) (input : List ℕ) {old mid new : List ℕ} {at next : ℕ}
    → Put old mid 0 at (lines n input k)
    → Put mid new at next (line_at (n + k) input (k * 96))
    → Put old new 0 next (lines n input (k + 1))
unfolding lines
more n k input p q = rw add-one (joined p q)

-- no rest: the lines are the text
pub whole : (n : ℕ) (l : List ℕ) {old new : List ℕ} {next : ℕ}
    → length l % 96 ≡ 0
    → Put old new 0 next (lines n l (length l / 96))
    → Put old new 0 next (text n l)
unfolding text rest
whole n l e p = rw (eq-eqb (length l % 96) 0 e, append-nil) p

-- a rest: its line comes after them
pub broken : (n : ℕ) (l : List ℕ) {old mid new : List ℕ} {at next : ℕ}
    → (length l % 96 ≡ 0 → ⊥)
    → Put old mid 0 at (lines n l (length l / 96))
    → Put mid new at next (line (n + length l / 96) 14 0 0 0)
    → Put old new 0 next (text n l)
unfolding text rest
broken n l e p q = rw (ne_eqb (length l % 96) 0 e) (joined p q)

pub line_length : (n : ℕ) (l : List ℕ) (from : ℕ) → length (line_at n l from) ≤ 97
unfolding line_at line_of
line_length n l from = line_most n _ _ _ _

lines_most : (n : ℕ) (l : List ℕ) (k : ℕ) → length (lines n l k) ≤ 97 * k
unfolding lines
lines_most n l zero = omega arith
lines_most n l (suc k) =
    omega (arith, length-append (lines n l k) (line_at (n + k) l (k * 96)), lines_most n l k, line_length (n + k) l (k * 96))

either : (b : Bool) (x : List ℕ) → length x ≤ 97 → length (if b then [] else x) ≤ 97
either true x h = omega arith
either false x h = h

rest_most : (n : ℕ) (l : List ℕ) → length (rest n l) ≤ 97
unfolding rest
rest_most n l = either (eqb (length l % 96) 0) _ (line_most (n + length l / 96) 14 0 0 0)

pub text_most : (n : ℕ) (l : List ℕ) → length (text n l) ≤ 97 * (length l / 96) + 97
unfolding text
text_most n l =
    omega (arith, length-append (lines n l (length l / 96)) (rest n l), lines_most n l (length l / 96), rest_most n l)
