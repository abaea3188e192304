-- Two reasons at once, in whatever order an entry lists them, by computation: the first in the order of judging is given, be its number the larger.
use Rattle.std.specs.Prelude.{◌≡◌, refl, true, [], ◌∷◌}
use Rattle.refusal.specs.Order.{number, channels, shape, withdrawn, empty, not_finite, ◌when◌, refusal}

pub two_before_seventeen : refusal ((withdrawn when true) ∷ (number when true) ∷ []) ≡ 2
two_before_seventeen = refl

pub four_before_seventeen : refusal ((withdrawn when true) ∷ (channels when true) ∷ []) ≡ 4
four_before_seventeen = refl

pub four_before_fifteen : refusal ((shape when true) ∷ (channels when true) ∷ []) ≡ 4
four_before_fifteen = refl

pub fifteen_before_seventeen : refusal ((withdrawn when true) ∷ (shape when true) ∷ []) ≡ 15
fifteen_before_seventeen = refl

pub fifteen_before_five : refusal ((empty when true) ∷ (shape when true) ∷ []) ≡ 15
fifteen_before_five = refl

pub seventeen_before_five : refusal ((empty when true) ∷ (withdrawn when true) ∷ []) ≡ 17
seventeen_before_five = refl

pub seventeen_before_twelve : refusal ((not_finite when true) ∷ (withdrawn when true) ∷ []) ≡ 17
seventeen_before_twelve = refl
