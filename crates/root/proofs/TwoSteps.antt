-- Two steps of `floor_root` are one round: both give the whole part of the root, and there is one. For the round, since (4 * r + d) ^ 2 is 16 * r * r and the subtrahend
-- of d, so that the greatest digit that fits has the greatest such square up to x. Nothing here is about a width or a format.
use Rattle.std.proofs.Common.{◌≡◌, ℕ, zero, suc, ◌+◌, ◌-◌, ◌*◌, ◌/◌, ◌%◌, ◌^◌, ◌<◌, ◌≤◌, Bool, true, false, cond, not, T, leb, sym, refl, ap, ◌∙◌, subst, mul_assoc, mul_comm, div-lt_iff_lt-mul, add-mul, pow-suc, lt_of_not-le, mul-add, mul_left_comm, arith, leb→le, pow_pos}
use native.Mathlib.Decide.{dec_le}
use lib.Dec.{nleb→lt}
use mir.Val.{bool_byte}
use Rattle.root.specs.Root.{floor_root}
use Rattle.root.specs.Round.{greatest, found, rounds, Promised}
use Rattle.root.proofs.Floor.{Floor, floor_is, floor_unique, sq_one}

-- the square of the root with one digit more
square : (r d : ℕ) → (4 * r + d) * (4 * r + d) ≡ 16 * (r * r) + d * (8 * r + d)
square r d =
    let p : (4 * r + d) * (4 * r + d) ≡ 4 * r * (4 * r + d) + d * (4 * r + d) = add-mul (4 * r) d (4 * r + d) in
    let q : 4 * r * (4 * r + d) ≡ 4 * r * (4 * r) + 4 * r * d = mul-add (4 * r) (4 * r) d in
    let t : d * (4 * r + d) ≡ d * (4 * r) + d * d = mul-add d (4 * r) d in
    let u : d * (8 * r + d) ≡ d * (8 * r) + d * d = mul-add d (8 * r) d in
    let v : 4 * r * (4 * r) ≡ 16 * (r * r) = mul_assoc 4 r (4 * r) ∙ ap (λ (x : ℕ). 4 * x) (mul_left_comm r 4 r) ∙ sym (mul_assoc 4 4 (r * r)) in
    let a : 4 * r * d ≡ 4 * (d * r) = mul_assoc 4 r d ∙ ap (λ (x : ℕ). 4 * x) (mul_comm r d) in
    let b : d * (4 * r) ≡ 4 * (d * r) = mul_left_comm d 4 r in
    let c : d * (8 * r) ≡ 8 * (d * r) = mul_left_comm d 8 r in
    omega arith

-- ---- the digit of a round

-- three tests in the order of the code, one for each digit above 0, decide it: a digit that fits lets every lower one fit
pub digit_is : (r next : ℕ) → bool_byte (leb (8 * r + 1) next) + bool_byte (leb (16 * r + 4) next) + bool_byte (leb (24 * r + 9) next) ≡ greatest 3 r next
unfolding greatest
digit_is r next =
    rw (twice r, thrice r, once r)
    (go (leb (8 * r + 1) next) (leb (16 * r + 4) next) (leb (24 * r + 9) next)
    (leb→le (8 * r + 1) next) (nleb→lt (8 * r + 1) next) (leb→le (16 * r + 4) next) (nleb→lt (16 * r + 4) next) (leb→le (24 * r + 9) next))
  where
    once : (r : ℕ) → 1 * (8 * r + 1) ≡ 8 * r + 1
    once r = omega arith

    twice : (r : ℕ) → 2 * (8 * r + 2) ≡ 16 * r + 4
    twice r = omega arith

    thrice : (r : ℕ) → 3 * (8 * r + 3) ≡ 24 * r + 9
    thrice r = omega arith

    go : (a b c : Bool) → (T a → 8 * r + 1 ≤ next) → (T (not a) → next < 8 * r + 1) → (T b → 16 * r + 4 ≤ next) → (T (not b) → next < 16 * r + 4) → (T c → 24 * r + 9 ≤ next) → bool_byte a + bool_byte b + bool_byte c ≡ cond c 3 (cond b 2 (cond a 1 0))
    go true true true al ah bl bh cl = refl
    go true true false al ah bl bh cl = refl
    go true false false al ah bl bh cl = refl
    go false false false al ah bl bh cl = refl
    go true false true al ah bl bh cl = let p = bh tt in let q = cl tt in omega arith
    go false true c al ah bl bh cl = let p = ah tt in let q = bl tt in omega arith
    go false false true al ah bl bh cl = let p = ah tt in let q = cl tt in omega arith

-- a digit is at most 3, whatever the tests say
pub digit_le : (a b c : Bool) → bool_byte a + bool_byte b + bool_byte c ≤ 3
digit_le a b c = let x = flag a in let y = flag b in let z = flag c in omega arith
  where
    flag : (b : Bool) → bool_byte b ≤ 1
    flag true = omega arith
    flag false = omega arith

-- it is at most d, its subtrahend fits, and that of the next digit does not
abbrev Greatest : (d r next g : ℕ) → Type 0
Greatest d r next g = (g ≤ d) × (g * (8 * r + g) ≤ next) × (g < d → next < (g + 1) * (8 * r + (g + 1)))

more : (d r next g : ℕ) → Greatest d r next g → (b : Bool) → (T b → suc d * (8 * r + suc d) ≤ next) → (T (not b) → next < suc d * (8 * r + suc d)) → Greatest (suc d) r next (cond b (suc d) g)
more d r next g h true y n = (omega arith, y tt, λ l. omega arith)
more d r next g h false y n = (omega arith, h.1, λ l. go (dec_le (suc g) d))
  where
    last : (g d : ℕ) → g ≤ d → (suc g ≤ d → ⊥) → suc d ≡ g + 1
    last g d h l = let k : d < suc g = lt_of_not-le l in omega arith

    go : Dec (suc g ≤ d) → next < (g + 1) * (8 * r + (g + 1))
    go (yes l) = h.2 l
    go (no l) = subst (λ (e : ℕ). next < e * (8 * r + e)) (last g d h.0 l) (n tt)

pub greatest_is : (d r next : ℕ) → Greatest d r next (greatest d r next)
unfolding greatest
greatest_is zero r next = (omega arith, omega arith, λ l. omega arith)
greatest_is (suc d) r next = let k = suc d * (8 * r + suc d) in more d r next (greatest d r next) (greatest_is d r next) (leb k next) (leb→le k next) (nleb→lt k next)

-- ---- a round

-- from the whole part of the root of x / 16 to that of x
floor_round : (r x : ℕ) → Floor r (x / 16) → let d = greatest 3 r (x - 16 * (r * r)) in Floor (4 * r + d) x
floor_round r x h = go (greatest 3 r (x - 16 * (r * r))) (greatest_is 3 r (x - 16 * (r * r)))
  where
    go : (d : ℕ) → Greatest 3 r (x - 16 * (r * r)) d → Floor (4 * r + d) x
    go d g = (low, high (dec_le (suc d) 3))
      where
        low : (4 * r + d) * (4 * r + d) ≤ x
        low = let s = square r d in let f = g.1 in let l = h.0 in omega arith

        top : (d : ℕ) → d ≤ 3 → (suc d ≤ 3 → ⊥) → d ≡ 3
        top d a b = let k : 3 < suc d = lt_of_not-le b in omega arith

        high : Dec (suc d ≤ 3) → x < (4 * r + d + 1) * (4 * r + d + 1)
        high (yes l) =
            let e : 4 * r + d + 1 ≡ 4 * r + (d + 1) = omega arith in
            let s : (4 * r + d + 1) * (4 * r + d + 1) ≡ 16 * (r * r) + (d + 1) * (8 * r + (d + 1)) = ap (λ (y : ℕ). y * y) e ∙ square r (d + 1) in
            let f = g.2 l in
            omega arith
        high (no l) =
            let t : d ≡ 3 = top d g.0 l in
            let e : 4 * r + d + 1 ≡ 4 * r + 4 = omega arith in
            let s : (4 * r + d + 1) * (4 * r + d + 1) ≡ 16 * (r * r) + 4 * (8 * r + 4) = ap (λ (y : ℕ). y * y) e ∙ square r 4 in
            let u = sq_one r in
            let f = h.1 in
            omega arith

sixteen : (k : ℕ) → 4 ^ suc (suc k) ≡ 4 ^ k * 16
sixteen k = pow-suc 4 (suc k) ∙ ap (λ (y : ℕ). y * 4) (pow-suc 4 k) ∙ mul_assoc (4 ^ k) 4 4

in_pairs : (k x : ℕ) → x < 4 ^ suc (suc k) → x / 16 < 4 ^ k
in_pairs k x h = (div-lt_iff_lt-mul {k = 16} {x = x} {y = 4 ^ k} (pow_pos 4)).1 (subst (λ (y : ℕ). x < y) (sixteen k) h)

-- two steps of `floor_root` are one round
pub two_steps : (k x : ℕ) → x < 4 ^ suc (suc k) → let r = floor_root k (x / 16) in floor_root (suc (suc k)) x ≡ (found r (x - 16 * (r * r))).root
unfolding found
two_steps k x h = floor_unique _ _ x (floor_is (suc (suc k)) x h) (floor_round (floor_root k (x / 16)) x (floor_is k (x / 16) (in_pairs k x h)))

-- what a round leaves beside the square of its root
round_beside : (r next : ℕ) → (found r next).root * (found r next).root + (found r next).rest ≡ 16 * (r * r) + next
unfolding found
round_beside r next = let d = greatest 3 r next in let s = square r d in let f = (greatest_is 3 r next).1 in omega arith

-- ---- k rounds

-- what k rounds give for an x below 16 ^ k
pub record Given (k x : ℕ) : Type 0 where
  pub root_is : (rounds k x).root ≡ floor_root (2 * k) x
  pub beside : (rounds k x).root * (rounds k x).root + (rounds k x).rest ≡ x

sixteenth : (k x : ℕ) → x < 16 ^ suc k → x / 16 < 16 ^ k
sixteenth k x h = (div-lt_iff_lt-mul {k = 16} {x = x} {y = 16 ^ k} (pow_pos 4)).1 (subst (λ (y : ℕ). x < y) (pow-suc 16 k) h)

two : (k : ℕ) → suc (suc (2 * k)) ≡ 2 * suc k
two k = omega arith

pub sixteens : (k : ℕ) → 16 ^ k ≡ 4 ^ (2 * k)
sixteens zero = refl
sixteens (suc k) = pow-suc 16 k ∙ ap (λ (y : ℕ). y * 16) (sixteens k) ∙ sym (ap (λ (y : ℕ). 4 ^ y) (sym (two k)) ∙ sixteen (2 * k))

-- one round more
given_more : (k x : ℕ) → x < 16 ^ suc k → Given k (x / 16) → Given (suc k) x
unfolding rounds
given_more k x h g = record { root_is = whole; beside = all }
  where
    r : ℕ
    r = (rounds k (x / 16)).root

    next : ℕ
    next = 16 * (rounds k (x / 16)).rest + x % 16

    next_is : next ≡ x - 16 * (r * r)
    next_is = let b = g.beside in omega arith

    whole : (found r next).root ≡ floor_root (2 * suc k) x
    whole =
        ap (λ (y : ℕ). (found r y).root) next_is
        ∙ ap (λ (y : ℕ). (found y (x - 16 * (y * y))).root) g.root_is
        ∙ sym (two_steps (2 * k) x (subst (λ (y : ℕ). x < y) (sixteens (suc k) ∙ ap (λ (y : ℕ). 4 ^ y) (sym (two k))) h))
        ∙ ap (λ (y : ℕ). floor_root y x) (two k)

    all : (found r next).root * (found r next).root + (found r next).rest ≡ x
    all = let a = round_beside r next in let b = g.beside in omega arith

pub given : (k x : ℕ) → x < 16 ^ k → Given k x
unfolding rounds floor_root
given zero x h = record { root_is = refl; beside = none x h }
  where
    none : (x : ℕ) → x < 1 → 0 ≡ x
    none x h = omega arith
given (suc k) x h = given_more k x h (given k (x / 16) (sixteenth k x h))

-- they give the whole part of the root
pub given_floor : (k x : ℕ) → x < 16 ^ k → Floor (rounds k x).root x
given_floor k x h = subst (λ (r : ℕ). Floor r x) (sym (given k x h).root_is) (floor_is (2 * k) x (subst (λ (y : ℕ). x < y) (sixteens k) h))

pub promised : Promised
promised = record { two_steps = two_steps; root_is = λ k x h. (given k x h).root_is; rest_is = λ k x h. (given k x h).beside }
