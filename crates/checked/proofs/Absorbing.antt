-- What is not finite stays so under a sum, a difference, a product, a root, and as the numerator of a quotient, at any format; and a NaN stays a NaN.
use mathlib.Core.Path.{◌≡◌, refl}
use mathlib.Core.Bool.{Bool, true, false, cond}
use lib.Dec.{eqb}
use lib.Ieee.{Float, Format, nan, inf, fin, add, sub, mul, div, neg}
use Rattle.root.specs.Root.{root_of}
use Rattle.checked.specs.Finite.{finite}

abbrev pub Fine : Float → Type 0
Fine x = finite x ≡ true

pub fine_add_left : (f : Format) (x y : Float) → Fine (add f x y) → Fine x
unfolding finite add
fine_add_left f nan y h = h
fine_add_left f (inf s) nan h = h
fine_add_left f (inf true) (inf true) h = h
fine_add_left f (inf true) (inf false) h = h
fine_add_left f (inf false) (inf true) h = h
fine_add_left f (inf false) (inf false) h = h
fine_add_left f (inf s) (fin t n d) h = h
fine_add_left f (fin s m e) y h = refl

pub fine_add_right : (f : Format) (x y : Float) → Fine (add f x y) → Fine y
unfolding finite add
fine_add_right f nan nan h = h
fine_add_right f nan (inf t) h = h
fine_add_right f nan (fin t n d) h = refl
fine_add_right f (inf s) nan h = h
fine_add_right f (inf true) (inf true) h = h
fine_add_right f (inf true) (inf false) h = h
fine_add_right f (inf false) (inf true) h = h
fine_add_right f (inf false) (inf false) h = h
fine_add_right f (inf s) (fin t n d) h = refl
fine_add_right f (fin s m e) nan h = h
fine_add_right f (fin s m e) (inf t) h = h
fine_add_right f (fin s m e) (fin t n d) h = refl

fine_neg : (x : Float) → Fine (neg x) → Fine x
unfolding finite neg
fine_neg nan h = h
fine_neg (inf s) h = h
fine_neg (fin s m e) h = refl

pub fine_sub_left : (f : Format) (x y : Float) → Fine (sub f x y) → Fine x
unfolding sub
fine_sub_left f x y h = fine_add_left f x (neg y) h

pub fine_sub_right : (f : Format) (x y : Float) → Fine (sub f x y) → Fine y
unfolding sub
fine_sub_right f x y h = fine_neg y (fine_add_right f x (neg y) h)

-- neither of the two ends of a product with an infinity is finite
neither : (b s : Bool) → Fine (cond b nan (inf s)) → false ≡ true
unfolding finite
neither true s h = h
neither false s h = h

pub fine_mul_left : (f : Format) (x y : Float) → Fine (mul f x y) → Fine x
unfolding finite mul
fine_mul_left f nan y h = h
fine_mul_left f (inf s) nan h = h
fine_mul_left f (inf s) (inf t) h = h
fine_mul_left f (inf s) (fin t n d) h = neither (eqb n 0) _ h
fine_mul_left f (fin s m e) y h = refl

pub fine_mul_right : (f : Format) (x y : Float) → Fine (mul f x y) → Fine y
unfolding finite mul
fine_mul_right f nan nan h = h
fine_mul_right f nan (inf t) h = h
fine_mul_right f nan (fin t n d) h = refl
fine_mul_right f (inf s) nan h = h
fine_mul_right f (inf s) (inf t) h = h
fine_mul_right f (inf s) (fin t n d) h = refl
fine_mul_right f (fin s m e) nan h = h
fine_mul_right f (fin s m e) (inf t) h = neither (eqb m 0) _ h
fine_mul_right f (fin s m e) (fin t n d) h = refl

pub fine_div_left : (f : Format) (x y : Float) → Fine (div f x y) → Fine x
unfolding finite div
fine_div_left f nan y h = h
fine_div_left f (inf s) nan h = h
fine_div_left f (inf s) (inf t) h = h
fine_div_left f (inf s) (fin t n d) h = h
fine_div_left f (fin s m e) y h = refl

pub fine_root : (f : Format) (x : Float) → Fine (root_of f x) → Fine x
unfolding finite root_of
fine_root f nan h = h
fine_root f (inf s) h = h
fine_root f (fin s m e) h = refl

-- ---- a NaN

pub add_nan : (f : Format) (x : Float) → add f x nan ≡ nan
unfolding add
add_nan f nan = refl
add_nan f (inf s) = refl
add_nan f (fin s m e) = refl

pub nan_add : (f : Format) (x : Float) → add f nan x ≡ nan
unfolding add
nan_add f x = refl

pub sub_nan : (f : Format) (x : Float) → sub f x nan ≡ nan
unfolding sub neg
sub_nan f x = add_nan f x

pub nan_sub : (f : Format) (x : Float) → sub f nan x ≡ nan
unfolding sub
nan_sub f x = nan_add f (neg x)

pub nan_mul : (f : Format) (x : Float) → mul f nan x ≡ nan
unfolding mul
nan_mul f x = refl

pub root_nan : (f : Format) → root_of f nan ≡ nan
unfolding root_of
root_nan f = refl
