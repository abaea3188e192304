-- Readers of known bytes: what is read stands in the block behind what was there.
use Rattle.std.proofs.Common.{◌≡◌, refl, sym, ◌∙◌, ap, subst, ℕ, ◌+◌, ◌≤◌, ◌<◌, false, List, [], ◌++◌, length, take, drop, append_assoc, arith}
use Rattle.std.proofs.lemmas.List.{drop-take, take-take, take-append-le, take-append-drop}
use borrow.Rule.Slice.PartMut.{put_mid, post_of}
use Rattle.std.proofs.Math.Seq.{drop-append_seam, length-take-le}
use Rattle.std.specs.Prelude.{Option, None, Some, Result, Ok, Err, IfOk}
use Rattle.std.specs.Io.KnownBytes.{Consumes, IsAtEnd, ReadConsumes, Keeps}
use Rattle.std.specs.Counts.{IsPrefixLen}
use Rattle.input.specs.Reads.{answer, given, failed}

-- nothing is taken
pub consumes_none : (k : Option (List ℕ)) → Consumes k k []
consumes_none None = tt
consumes_none (Some xs) = refl

keeps_none : (a b : Option (List ℕ)) → Keeps a b → Consumes a b []
keeps_none None b h = tt
keeps_none (Some xs) None h = h
keeps_none (Some xs) (Some ys) h = sym h

-- two parts taken one after the other
pub consumes_both : (a b c : Option (List ℕ)) (xs ys : List ℕ) → Consumes a b xs → Consumes b c ys → Consumes a c (xs ++ ys)
consumes_both None b c xs ys h k = tt
consumes_both (Some u) None c xs ys h k = absurd h
consumes_both (Some u) (Some v) None xs ys h k = k
consumes_both (Some u) (Some v) (Some w) xs ys h k = h ∙ (ap (λ (l : List ℕ). xs ++ l) k ∙ sym (append_assoc xs ys w))

-- the part of a block behind its first n bytes, where it was lent and m bytes of it were written
pub behind : (n m r : ℕ) (xs ys : List ℕ) → n ≤ length xs → m ≤ length ys → drop n (take (n + m) (put_mid n r xs ys)) ≡ take m ys
behind n m r xs ys h k =
    let s : drop (length (take n xs)) (take n xs ++ (ys ++ post_of n r xs)) ≡ ys ++ post_of n r xs = drop-append_seam (take n xs) (ys ++ post_of n r xs) in
    let e : drop n (put_mid n r xs ys) ≡ ys ++ post_of n r xs = rw (length-take-le n xs h) at s in
    rw (drop-take n m (put_mid n r xs ys), e) (take-append-le m ys (post_of n r xs) k)

-- the first n, and then those behind them up to the m-th
pub joined : (n m : ℕ) (xs : List ℕ) → n ≤ m → take n xs ++ drop n (take m xs) ≡ take m xs
joined n m xs h =
    let s : take n (take m xs) ++ drop n (take m xs) ≡ take m xs = take-append-drop n (take m xs) in
    rw (take-take n m xs h) at s

-- what was taken for a block's first n bytes, and then for those up to the m-th
pub bytes_more : (a b c : Option (List ℕ)) (n m : ℕ) (old new : List ℕ) → n ≤ m → take n new ≡ take n old → Consumes a b (take n old) → Consumes b c (drop n (take m new)) → Consumes a c (take m new)
bytes_more a b c n m old new h e k l =
    subst (λ (xs : List ℕ). Consumes a c xs) (ap (λ (xs : List ℕ). xs ++ drop n (take m new)) (sym e) ∙ joined n m new h)
    (consumes_both a b c (take n old) (drop n (take m new)) k l)

pub at_most : {E : Type 0} (r : Result ℕ E) (ys : List ℕ) → IfOk r (λ n. IsPrefixLen n ys) → IfOk r (λ k. k ≤ length ys)
at_most (Ok k) ys h = h.0
at_most (Err e) ys h = h

pub read_bytes : {E : Type 0} (r : Result ℕ E) (old new : Option (List ℕ)) (n room : ℕ) (xs ys : List ℕ) → n ≤ length xs → IfOk r (λ k. k ≤ length ys) → ReadConsumes old new r ys → Consumes old new (drop n (take (n + given (answer r)) (put_mid n room xs ys)))
unfolding answer given
read_bytes (Ok k) old new n room xs ys h b e = rw (behind n k room xs ys h b) e.0
read_bytes (Err e) old new n room xs ys h b k = rw (behind n 0 room xs ys h (omega arith)) (keeps_none old new k)

pub read_ended : {E : Type 0} (r : Result ℕ E) (old new : Option (List ℕ)) (ys : List ℕ) → 0 < length ys → ReadConsumes old new r ys → failed (answer r) ≡ false → given (answer r) ≡ 0 → IsAtEnd new
unfolding answer given failed
read_ended (Ok k) old new ys h e f z = e.1 z h
read_ended (Err e) old new ys h k f z = let b : ◌≡◌ {A = ℕ} 0 1 = cc in absurd (omega arith)
