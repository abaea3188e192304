-- As many numbers as there are from a place on, copied as a slice, are the part there.
use mathlib.Core.Path.{◌≡◌, sym, ◌∙◌}
use mathlib.Core.List.{List}
use Prim.Native.Nat.{ℕ, ◌+◌, ◌-◌, ◌≤◌, ◌<◌}
use native.Mathlib.Omega.{arith}
use lib.ListN.{length, take, drop}
use lib.Ieee.{Float, nan}
use Rattle.std.proofs.lemmas.List.{same_lists, length-take, length-drop, get_or-take, get_or-drop, get_or_default}
use Rattle.checked.specs.Each.{at}
use Rattle.checked.proofs.Each.{table_long, table_at}
use Rattle.layout.specs.Places.{part}

pub part_listed : (l : List Float) (s n : ℕ) → s + n ≤ length l → take (s + n - s) (drop s l) ≡ part l s n
part_listed l s n h =
    let g : ℕ → Float = λ (i : ℕ). at l (s + i) in
    let cut : List Float = take (s + n - s) (drop s l) in
    let long : length cut ≡ n = omega (arith, length-take (s + n - s) (drop s l), length-drop s l) in
    same_lists cut (part l s n) (long ∙ sym (table_long g n))
    (λ k d b.
    let c : k < n = omega (arith, long, b) in
    get_or-take (s + n - s) (drop s l) k d (omega arith)
    ∙ get_or-drop s l k d
    ∙ get_or_default l (s + k) d nan (omega arith)
    ∙ sym (table_at g n k c)
    ∙ get_or_default (part l s n) k nan d (omega (arith, table_long g n, c)))
