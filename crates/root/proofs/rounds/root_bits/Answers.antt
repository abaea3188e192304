-- `root::rounds::root_bits` meets its contract: each step hands on what the next one takes, and the parts of the root, put together, are its pattern (`Written`).
use Rattle.std.proofs.Common.{◌≡◌, ℕ, ◌*◌, ◌/◌, ◌^◌, ◌<◌, sym, ap, ◌∙◌, subst}
use lib.Ieee.{binary64}
use Rattle.root.specs.declared.rounds.Parts.{Parts}
use Rattle.root.specs.Root.{number, near_root}
use Rattle.root.specs.Of.{Packable, Ranged, Scaled, unpacked}
use Rattle.root.proofs.Written.{apart_ranged, Handed, handed}
use Rattle.root.proofs.rounds.root_bits.Goals as goal

pub scale-scaled-requires : goal.scale-scaled-requires
scale-scaled-requires c = subst (λ (x : Parts). Ranged x 53) (sym c.take_apart.ensures) (apart_ranged binary64 c.args.bits c.requires.0 c.requires.1)

parts : (bits root : ℕ) (a x : Parts) → (0 < bits) × (bits < 0x7ff0000000000000) → a ≡ unpacked binary64 bits → Scaled 53 a x → root ≡ near_root 53 (x.digits * 4 ^ 53 / 2 ^ 64) → Handed binary64 bits x root
parts bits root a x r e s n = handed binary64 bits r.0 r.1 x (subst (λ (y : Parts). Scaled 53 y x) e s) root n

pub put_together-requires : goal.put_together-requires
put_together-requires c =
    let h = parts c.args.bits c.rounds.result c.take_apart.result c.scale-scaled.result c.requires c.take_apart.ensures c.scale-scaled.ensures c.rounds.ensures in
    subst (Packable binary64 c.rounds.result) (sym h.back) h.packable

pub returns : goal.returns
returns c =
    let h = parts c.args.bits c.rounds.result c.take_apart.result c.scale-scaled.result c.requires c.take_apart.ensures c.scale-scaled.ensures c.rounds.ensures in
    (c.put_together.ensures.0 ∙ ap (number 53 c.rounds.result) h.back ∙ h.root, c.put_together.ensures.1)
