-- What stands in the loop after k rounds for n digits of the root: of w * 4 ^ n the digits above 2 ^ 64 come down, first two where n is odd and else four a
-- round, and those that have not yet stand in `left`. Each round is then one of the rule's.
use Rattle.std.proofs.Common.{◌≡◌, ℕ, zero, suc, ◌+◌, ◌-◌, ◌*◌, ◌/◌, ◌%◌, ◌^◌, ◌<◌, ◌≤◌, Bool, true, false, cond, eqb, ltb, sym, refl, ap, ◌∙◌, subst, le_trans, le_of_eq, lt_of_lt_of_le, lt_of_le_of_lt, mul_assoc, lt_of_not-le, not-le_of_lt, sub-le, arith, pow_pos, pow-add, ne_eqb}
use native.Mathlib.Nat.{pow-le-pow_right}
use mir.Val.{bool_byte}
use Rattle.root.specs.Root.{near_root}
use Rattle.root.specs.Round.{Round, greatest, found, rounds}
use Rattle.root.proofs.Floor.{Floor, sq_le, sq_one, scaled_lt, near_beside}
use Rattle.root.proofs.TwoSteps.{given, given_floor, sixteens}
use Rattle.root.proofs.Units.{squares}

-- w moved up by the pairs of digits that have come down in k rounds, the first of which brought one pair where o is 1, and else two
abbrev pub moved : ℕ → ℕ → ℕ → ℕ
moved w o k = w * 4 ^ (2 * k - o)

-- how many digits come down in round k
abbrev pub down : ℕ → ℕ → ℕ
down o k = 4 - 2 * o * bool_byte (eqb k 0)

-- what the loop's three numbers are after k rounds
pub record Stands (w o k left root rest : ℕ) : Type 0 where
  pub left_is : left ≡ moved w o k % 2 ^ 64
  pub root_is : root ≡ (rounds k (moved w o k / 2 ^ 64)).root
  pub rest_is : rest ≡ (rounds k (moved w o k / 2 ^ 64)).rest

pub starts : (w o : ℕ) → w < 2 ^ 64 → Stands w o 0 w 0 0
unfolding rounds
starts w o h = record { left_is = rw (none o) (omega arith); root_is = refl; rest_is = refl }
  where
    none : (o : ℕ) → 2 * 0 - o ≡ 0
    none o = omega arith

-- ---- what comes down

-- round k: how many digits come down, what the rounds before have seen, what comes down, and what is left of the word
pub record Next (w o k : ℕ) : Type 0 where
  pub few : (2 ≤ down o k) × (down o k ≤ 4)
  pub before : rounds k (moved w o (suc k) / 2 ^ 64 / 16) ≡ rounds k (moved w o k / 2 ^ 64)
  pub four : moved w o (suc k) / 2 ^ 64 % 16 ≡ moved w o k % 2 ^ 64 / 2 ^ (64 - down o k)
  pub left : moved w o k % 2 ^ 64 * 2 ^ down o k % 2 ^ 64 ≡ moved w o (suc k) % 2 ^ 64

-- a round that brings down four
abbrev Sixteen : (a b : ℕ) → Type 0
Sixteen a b = (b / 2 ^ 64 / 16 ≡ a / 2 ^ 64) × (b / 2 ^ 64 % 16 ≡ a % 2 ^ 64 / 2 ^ 60) × (a % 2 ^ 64 * 16 % 2 ^ 64 ≡ b % 2 ^ 64)

sixteen_down : (a b : ℕ) → b ≡ a * 16 → Sixteen a b
sixteen_down a b e = omega arith

four_down : (w o k : ℕ) → down o k ≡ 4 → 2 * suc k - o ≡ 2 * k - o + 2 → Next w o k
four_down w o k d e =
    let m : moved w o (suc k) ≡ moved w o k * 16 = ap (λ (y : ℕ). w * 4 ^ y) e ∙ ap (λ (y : ℕ). w * y) (pow-add 4 (2 * k - o) 2) ∙ sym (mul_assoc w (4 ^ (2 * k - o)) 16) in
    let s = sixteen_down (moved w o k) (moved w o (suc k)) m in
    record { few = rw d (omega arith, omega arith); before = ap (rounds k) s.0; four = rw d s.1; left = rw d s.2 }

pub next : (w o k : ℕ) → w < 2 ^ 64 → o ≤ 1 → Next w o k
unfolding rounds
next w zero k h l = four_down w zero k (still k) (all k)
  where
    still : (k : ℕ) → 4 - 2 * 0 * bool_byte (eqb k 0) ≡ 4
    still k = omega arith

    all : (k : ℕ) → 2 * suc k - 0 ≡ 2 * k - 0 + 2
    all k = omega arith
next w (suc zero) zero h l =
    record { few = (omega arith, omega arith); before = refl; four = omega arith; left = omega arith }
next w (suc zero) (suc k) h l = four_down w 1 (suc k) (rw (ne_eqb (suc k) 0 (λ e. omega arith))) (all k)
  where
    all : (k : ℕ) → 2 * suc (suc k) - 1 ≡ 2 * suc k - 1 + 2
    all k = omega arith
next w (suc (suc o)) k h l = absurd (two o l)
  where
    two : (o : ℕ) → suc (suc o) ≤ 1 → ⊥
    two o l = omega arith

-- ---- a round of the loop

-- how many fewer than four come down
pub down_le : (o : ℕ) (b : Bool) → o ≤ 1 → 2 * o * bool_byte b ≤ 2
down_le o true l = omega arith
down_le o false l = omega arith

-- what comes down is below 16
pub comes_lt : (w o k left root rest : ℕ) → w < 2 ^ 64 → o ≤ 1 → Stands w o k left root rest → left / 2 ^ (64 - down o k) < 16
comes_lt w o k left root rest h l s =
    subst (λ (y : ℕ). y < 16) ((next w o k h l).four ∙ ap (λ (y : ℕ). y / 2 ^ (64 - down o k)) (sym s.left_is)) (last_four (moved w o (suc k) / 2 ^ 64))
  where
    last_four : (x : ℕ) → x % 16 < 16
    last_four x = omega arith

-- what it takes from
abbrev pub from : (o k left rest : ℕ) → ℕ
from o k left rest = 16 * rest + left / 2 ^ (64 - down o k)

-- after the round, where d is the digit that it finds
pub again : (w o k left root rest d : ℕ) → w < 2 ^ 64 → o ≤ 1 → Stands w o k left root rest → let next = from o k left rest in d ≡ greatest 3 root next → Stands w o (suc k) (left * 2 ^ down o k % 2 ^ 64) (4 * root + d) (next - d * (8 * root + d))
unfolding rounds found
again w o k left root rest d h l s e =
    record {
      left_is = ap (λ (y : ℕ). y * 2 ^ down o k % 2 ^ 64) s.left_is ∙ n.left;
      root_is = ap (λ (y : ℕ). 4 * root + y) e ∙ ap (λ (r : Round). r.root) same;
      rest_is = ap (λ (y : ℕ). from o k left rest - y * (8 * root + y)) e ∙ ap (λ (r : Round). r.rest) same;
    }
  where
    n : Next w o k
    n = next w o k h l

    x : ℕ
    x = moved w o (suc k) / 2 ^ 64

    root_then : root ≡ (rounds k (x / 16)).root
    root_then = s.root_is ∙ sym (ap (λ (r : Round). r.root) n.before)

    from_then : from o k left rest ≡ 16 * (rounds k (x / 16)).rest + x % 16
    from_then =
        ap (λ (y : ℕ). 16 * y + left / 2 ^ (64 - down o k)) (s.rest_is ∙ sym (ap (λ (r : Round). r.rest) n.before))
        ∙ ap (λ (y : ℕ). 16 * (rounds k (x / 16)).rest + y) (ap (λ (y : ℕ). y / 2 ^ (64 - down o k)) s.left_is ∙ sym n.four)

    same : found root (from o k left rest) ≡ found (rounds k (x / 16)).root (16 * (rounds k (x / 16)).rest + x % 16)
    same = ap (λ (y : ℕ). found y (from o k left rest)) root_then ∙ ap (found (rounds k (x / 16)).root) from_then

-- ---- how large it is, and what it is after the last round

root_few : (r x c : ℕ) → r * r ≤ x → x < 4 ^ c → r < 2 ^ c
root_few r x c a b = lt_of_not-le (λ (g : 2 ^ c ≤ r). not-le_of_lt (lt_of_le_of_lt a b) (le_trans (le_of_eq (squares c)) (sq_le g)))

little : (r rest x : ℕ) → r * r + rest ≡ x → x < (r + 1) * (r + 1) → rest ≤ 2 * r
little r rest x e h = let s = sq_one r in omega arith

module _ (w o k left root rest : ℕ) (h : w < 2 ^ 64) (s : Stands w o k left root rest) where
  abbrev x : ℕ
  x = moved w o k / 2 ^ 64

  few : x < 4 ^ (2 * k - o)
  few = scaled_lt w (2 * k - o) h

  enough : x < 16 ^ k
  enough = subst (λ (y : ℕ). x < y) (sym (sixteens k)) (lt_of_lt_of_le few (pow-le-pow_right (pow_pos 2) (sub-le (2 * k) o)))

  floor : Floor root x
  floor = subst (λ (r : ℕ). Floor r x) (sym s.root_is) (given_floor k x enough)

  beside : root * root + rest ≡ x
  beside = rw (s.root_is, s.rest_is) (given k x enough).beside

  pub root_lt : root < 2 ^ (2 * k - o)
  root_lt = root_few root x (2 * k - o) floor.0 few

  pub rest_le : rest ≤ 2 * root
  rest_le = little root rest x beside floor.1

  pub last : (n : ℕ) → 2 * k - o ≡ n → near_root n (w * 4 ^ n / 2 ^ 64) ≡ cond (ltb root rest) (root + 1) root
  last n e =
      let y : w * 4 ^ n / 2 ^ 64 ≡ x = ap (λ (m : ℕ). w * 4 ^ m / 2 ^ 64) (sym e) in
      let r = rest_le in
      near_beside n (w * 4 ^ n / 2 ^ 64) root rest (scaled_lt w n h) (beside ∙ sym y) (omega arith)
