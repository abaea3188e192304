-- `root::guess::nearest_root` meets its contract: of a guess only the remainder is believed. At 53 digits w * 4 ^ 53 / 2 ^ 64 is w * 2 ^ 42.
use Rattle.std.proofs.Common.{◌≡◌, ℕ, ◌*◌, ◌/◌, ◌^◌, sym, ◌∙◌, arith}
use Rattle.root.proofs.Floor.{scaled_lt, near_beside}
use Rattle.root.proofs.guess.nearest_root.Goals as goal

scaled : (w : ℕ) → w * 4 ^ 53 / 2 ^ 64 ≡ w * 2 ^ 42
scaled w = omega arith

pub returns-then-rest-root : goal.returns-then-rest-root
returns-then-rest-root c =
    let s = c in
    let g = c.remainder-rest in
    c.nearest.ensures ∙ sym (near_beside 53 (s.args.w * 4 ^ 53 / 2 ^ 64) _ _ (scaled_lt s.args.w 53 s.ranges.w.fits) (g.ensures (omega arith) ∙ sym (scaled s.args.w)) (omega arith))
