-- The root of a whole number by rounds (R1.7), as a trainee steps through it: each round brings down four binary digits of x and gives two of the root.
use Rattle.std.specs.Prelude.{◌≡◌, ℕ, zero, suc, ◌+◌, ◌-◌, ◌*◌, ◌/◌, ◌%◌, ◌^◌, ◌<◌, cond, List, [], ◌∷◌, ◌++◌, nat_le}
use Rattle.root.specs.Root.{floor_root}

-- what stands after a round: what it had to take from, the digit that it found, the root so far, and what is left beside the root's square
pub record Round : Type 0 where
  pub next : ℕ
  pub digit : ℕ
  pub root : ℕ
  pub rest : ℕ

-- the greatest digit, up to d, whose subtrahend fits into next
unfoldable pub greatest : ℕ → ℕ → ℕ → ℕ
greatest zero root next = 0
greatest (suc d) root next = cond (nat_le (suc d * (8 * root + suc d)) next) (suc d) (greatest d root next)

-- the digit 0 to 3, appended to the root; its subtrahend is taken away
unfoldable pub found : ℕ → ℕ → Round
found root next =
    let d = greatest 3 root next in
    record { next = next; digit = d; root = 4 * root + d; rest = next - d * (8 * root + d) }

-- the last of k rounds, for an x below 16 ^ k: those before it have seen x / 16
unfoldable pub rounds : ℕ → ℕ → Round
rounds zero x = record { next = 0; digit = 0; root = 0; rest = 0 }
rounds (suc k) x = let r = rounds k (x / 16) in found r.root (16 * r.rest + x % 16)

-- every round, the first one first
unfoldable pub all_rounds : ℕ → ℕ → List Round
all_rounds zero x = []
all_rounds (suc k) x = all_rounds k (x / 16) ++ (rounds (suc k) x ∷ [])

-- What the rounds have to do with the rule, for every number of digits. The proof is `proofs/TwoSteps.promised`.
pub record Promised : Type 0 where
  -- two steps of the rule are one round, from the root of all but the last four digits
  pub two_steps : (k x : ℕ) → x < 4 ^ suc (suc k) → let r = floor_root k (x / 16) in floor_root (suc (suc k)) x ≡ (found r (x - 16 * (r * r))).root
  -- so k rounds give the rule's 2k digits, and what is left beside the square of the root
  pub root_is : (k x : ℕ) → x < 16 ^ k → (rounds k x).root ≡ floor_root (2 * k) x
  pub rest_is : (k x : ℕ) → x < 16 ^ k → (rounds k x).root * (rounds k x).root + (rounds k x).rest ≡ x
