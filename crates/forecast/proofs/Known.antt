-- Readers and writers of known bytes: block after block, what is answered of the bytes read is written as one text.
use Rattle.std.proofs.Common.{◌≡◌, refl, sym, ◌∙◌, ap, subst, ℕ, ◌+◌, ◌-◌, ◌/◌, ◌%◌, ◌≤◌, ◌<◌, Bool, true, false, not, List, [], ◌∷◌, ◌++◌, length, take, drop, append_assoc, arith, length-append}
use mathlib.Core.Bool.{true≢false}
use mathlib.Core.List.{append-nil, flatten}
use Rattle.std.proofs.Math.Nat.{sub-zero}
use Rattle.std.proofs.lemmas.List.{take-take}
use Rattle.std.proofs.lemmas.List.Edits.{sets, sets-eq}
use Rattle.std.proofs.Math.Seq.{take-append_seam, take-append-add, length-take-le, take-length}
use Rattle.std.specs.Prelude.{cond, eqb, Option, None, Some, Result, Ok, Err, OnOk}
use Rattle.std.specs.Result.{is_ok}
use Rattle.std.specs.Io.KnownBytes.{Consumes, Appends, IsAtEnd}
use borrow.Author.Tests.{eqb-false}
use Rattle.card.specs.declared.block.Answered.{Answered}
use Rattle.card.specs.Block.{text, texts, fits, answered_for, out_for}
use Rattle.card.proofs.Lines.{text_most}
use Rattle.card.proofs.Room.{roomy, numbered}
use Rattle.card.proofs.Promises.{blocks}
use Rattle.input.specs.declared.Filled.{Filled}
use Rattle.input.specs.Reads.{answered, EndsShort}
use Rattle.input.proofs.Known.{consumes_both}
use Rattle.forecast.specs.declared.Block.{Block}
use Rattle.forecast.specs.declared.End.TheVariants.{InputEnded, ReadFailed, WriteFailed, NumbersEnded}
use Rattle.forecast.specs.Run.{end_of, Turned, goes_on, whole, Ran, IsAnswered}
use Rattle.forecast.proofs.Numbers.{goes, goes_wrote}

-- two parts written one after the other
appends_both : (a b c : Option (List ℕ)) (xs ys : List ℕ) → Appends a b xs → Appends b c ys → Appends a c (xs ++ ys)
appends_both None b c xs ys h k = tt
appends_both (Some u) None c xs ys h k = absurd h
appends_both (Some u) (Some v) None xs ys h k = k
appends_both (Some u) (Some v) (Some w) xs ys h k = k ∙ (ap (λ (l : List ℕ). l ++ ys) h ∙ append_assoc u xs ys)

pub on_ok : {T E : Type 0} (r : Result T E) (P : Type 0) → is_ok r ≡ true → OnOk r P → P
on_ok (Ok x) P h k = k
on_ok (Err e) P h k = let z : ◌≡◌ {A = ℕ} 0 1 = cc in absurd (omega arith)

-- the bytes that a block's lines take are its text
pub put : (n : ℕ) (l out : List ℕ) → n ≤ 18446744073709551615 → ((answered_for n l (length out)).next ≡ 0 → ⊥) → take (answered_for n l (length out)).bytes (out_for n l out) ≡ text n l
unfolding answered_for out_for
put n l out small = either (fits (length out) (length l) n) refl
  where
    either : (b : Bool) → fits (length out) (length l) n ≡ b → ((answered_for n l (length out)).next ≡ 0 → ⊥) → take (answered_for n l (length out)).bytes (out_for n l out) ≡ text n l
    either true e h =
        let room = (roomy (length out) (length l) n small e).0 in
        let s : sets out 0 (text n l) ≡ text n l ++ drop (0 + length (text n l)) out = sets-eq (text n l) out 0 (omega (arith, text_most n l, room)) in
        rw (e, s) (take-append_seam (text n l) _)
    either false e h = absurd (h (rw e))

pub written : (a b : Option (List ℕ)) (first : ℕ) (l old new : List ℕ) (r : Answered)
    → first ≤ 18446744073709551615
    → r ≡ answered_for first l (length old)
    → new ≡ out_for first l old
    → (r.next ≡ 0 → ⊥)
    → Appends a b (take r.bytes new)
    → Appends a b (text first l)
written a b first l old new r small e o h k =
    let n : (answered_for first l (length old)).next ≡ 0 → ⊥ = λ z. h (ap (λ (q : Answered). q.next) e ∙ z) in
    subst (λ (xs : List ℕ). Appends a b xs) (put first l old small n) (rw (e, o) at k)

-- what is answered of a block, of which f says how it was filled
pub whole_block : (f : Filled) (block : List ℕ) → f.n ≤ length block → whole f.failed (take f.n block) ≡ take (answered f 96) block
unfolding whole answered
whole_block f block h = by f.failed refl
  where
    by : (b : Bool) → f.failed ≡ b → whole f.failed (take f.n block) ≡ take (answered f 96) block
    by true e = rw (e, length-take-le f.n block h) (take-take (f.n - f.n % 96) f.n block (omega arith))
    by false e = rw e

-- whole records and then a block
pub whole_more : (f : Filled) (taken block : List ℕ) → length taken % 96 ≡ 0 → f.n ≤ length block → whole f.failed (taken ++ take f.n block) ≡ taken ++ take (answered f 96) block
unfolding whole answered
whole_more f taken block h k = by f.failed refl
  where
    by : (b : Bool) → f.failed ≡ b → whole f.failed (taken ++ take f.n block) ≡ taken ++ take (answered f 96) block
    by true e =
        let m : length (taken ++ take f.n block) ≡ length taken + f.n = omega (arith, length-append taken (take f.n block), length-take-le f.n block k) in
        let d : length taken + f.n - (length taken + f.n) % 96 ≡ length taken + (f.n - f.n % 96) = omega (arith, h) in
        rw (e, m, d, take-append-add taken (take f.n block) (f.n - f.n % 96)) (ap (λ (l : List ℕ). taken ++ l) (take-take (f.n - f.n % 96) f.n block (omega arith)))
    by false e = rw e

whole_records : (b : Bool) (l : List ℕ) → length l % 96 ≡ 0 → whole b l ≡ l
unfolding whole
whole_records true l h = rw (h, sub-zero (length l), take-length l)
whole_records false l h = refl

-- the text of whole records and of what follows them
texts_both : (taken part : List ℕ) → length taken % 96 ≡ 0 → text 1 (taken ++ part) ≡ text 1 taken ++ text (1 + length taken / 96) part
unfolding texts flatten
texts_both taken part h =
    let b : texts 1 (taken ∷ part ∷ []) ≡ text 1 (flatten (taken ∷ part ∷ [])) = blocks 1 (taken ∷ part ∷ []) (h, tt) in
    let c : text 1 taken ++ text (1 + length taken / 96) part ≡ text 1 (taken ++ part) = rw (append-nil (text (1 + length taken / 96) part), append-nil part) at b in
    sym c

-- what is known after each block
pub record Step (from from' to to' : Option (List ℕ)) (t : Block) : Type 0 where
  pub taken : List ℕ
  pub read : Consumes from from' taken
  pub fits : t.filled.n ≤ 65472
  pub size : t.filled.n ≡ 65472 → length taken % 96 ≡ 0
  pub number : (t.answer.next ≡ 0 → ⊥) → t.answer.next ≡ 1 + length (whole t.filled.failed taken) / 96
  pub wrote : t.wrote ≡ true → (t.answer.next ≡ 0 → ⊥) → Appends to to' (text 1 (whole t.filled.failed taken))
  pub ended : EndsShort 65472 t.filled from'

-- what a turn says of the block that it numbers from n on
pub record Turn (n : ℕ) (from from' to to' : Option (List ℕ)) (block old new : List ℕ) (t : Block) : Type 0 where
  pub size : length block ≡ 65472
  pub turned : Turned n block old new t
  pub fits : t.filled.n ≤ length block
  pub bytes : Consumes from from' (take t.filled.n block)
  pub end : EndsShort (length block) t.filled from'
  pub wrote : t.wrote ≡ true → (t.answer.next ≡ 0 → ⊥) → Appends to to' (text n (take (answered t.filled 96) block))

next_number : (n : ℕ) (block old new : List ℕ) (t : Block) → Turned n block old new t → (t.answer.next ≡ 0 → ⊥) → t.answer.next ≡ n + length (take (answered t.filled 96) block) / 96
next_number n block old new t w h =
    let x : t.answer.next ≡ _ = ap (λ (r : Answered). r.next) w.answer in
    x ∙ (numbered n (take (answered t.filled 96) block) (length old) (λ z. h (x ∙ z))).0

pub first_step : (from from' to to' : Option (List ℕ)) (block old new : List ℕ) (t : Block) → Turn 1 from from' to to' block old new t → Step from from' to to' t
first_step from from' to to' block old new t u =
    let e = whole_block t.filled block u.fits in
    record {
      taken = take t.filled.n block;
      read = u.bytes;
      fits = rw u.size at u.fits;
      size = λ h. omega (arith, h, length-take-le t.filled.n block u.fits);
      number = λ h. rw e (next_number 1 block old new t u.turned h);
      wrote = λ w h. rw e (u.wrote w h);
      ended = rw u.size at u.end;
    }

pub next_step : (from mid from' to between to' : Option (List ℕ)) (block old new : List ℕ) (t u : Block)
    → Step from mid to between t
    → goes_on t 65472 ≡ true
    → Turn t.answer.next mid from' between to' block old new u
    → Step from from' to to' u
next_step from mid from' to between to' block old new t u s g v =
    let n = goes t 65472 g in
    let z : length s.taken % 96 ≡ 0 = s.size n.0 in
    let e = whole_more u.filled s.taken block z v.fits in
    let a : t.answer.next ≡ 1 + length s.taken / 96 = rw (whole_records t.filled.failed s.taken z) at s.number n.1 in
    let w : Appends to between (text 1 s.taken) = rw (whole_records t.filled.failed s.taken z) at s.wrote (goes_wrote t 65472 g) n.1 in
    let part = take (answered u.filled 96) block in
    record {
      taken = s.taken ++ take u.filled.n block;
      read = consumes_both from mid from' s.taken (take u.filled.n block) s.read v.bytes;
      fits = rw v.size at v.fits;
      size = λ h. omega (arith, h, z, length-append s.taken (take u.filled.n block), length-take-le u.filled.n block v.fits);
      number = λ h. rw e (omega (arith, a, z, next_number t.answer.next block old new u v.turned h, length-append s.taken part));
      wrote = λ o h. rw (e, texts_both s.taken part z) (appends_both to between to' (text 1 s.taken) _ w (rw a at v.wrote o h));
      ended = rw v.size at v.end;
    }

pub ran : (from from' to to' : Option (List ℕ)) (t : Block) → Step from from' to to' t → Ran from from' to to' t
ran from from' to to' t s = record { taken = s.taken; read = s.read; wrote = s.wrote }

-- ---- a run that ends with its input

how : (w f z : Bool) → cond (not w) WriteFailed (cond f ReadFailed (cond z NumbersEnded InputEnded)) ≡ InputEnded → (w ≡ true) × (f ≡ false) × (z ≡ false)
how true false false e = (refl, refl, refl)
how true false true e = let z : ◌≡◌ {A = ℕ} 0 1 = cc in absurd (omega arith)
how true true z e = let z : ◌≡◌ {A = ℕ} 0 1 = cc in absurd (omega arith)
how false f z e = let z : ◌≡◌ {A = ℕ} 0 1 = cc in absurd (omega arith)

pub ended : (t : Block) → end_of t ≡ InputEnded → (t.wrote ≡ true) × (t.filled.failed ≡ false) × (eqb t.answer.next 0 ≡ false)
unfolding end_of
ended t e = how t.wrote t.filled.failed (eqb t.answer.next 0) e

short : (t : Block) → goes_on t 65472 ≡ false → t.wrote ≡ true → eqb t.answer.next 0 ≡ false → t.filled.n ≤ 65472 → t.filled.n < 65472
unfolding goes_on
short t g w z h = by (eqb t.filled.n 65472) refl
  where
    by : (b : Bool) → eqb t.filled.n 65472 ≡ b → t.filled.n < 65472
    by true e = absurd (true≢false (rw (w, e, z) at g))
    by false e = omega (arith, h, eqb-false t.filled.n 65472 e)

known : (from from' to to' : Option (List ℕ)) (taken : List ℕ) → Consumes from from' taken → IsAtEnd from' → Appends to to' (text 1 taken) → IsAnswered from to to'
known None from' to to' taken h e k = tt
known (Some xs) None to to' taken h e k = absurd h
known (Some xs) (Some ys) to to' taken h e k =
    let s : xs ≡ taken = rw (e, append-nil taken) at h in
    rw s k

pub all : (from from' to to' : Option (List ℕ)) (t : Block) → Step from from' to to' t → goes_on t 65472 ≡ false → end_of t ≡ InputEnded → IsAnswered from to to'
unfolding whole
all from from' to to' t s g e =
    let d = ended t e in
    let n = short t g d.0 d.2 s.fits in
    let z : t.answer.next ≡ 0 → ⊥ = eqb-false t.answer.next 0 d.2 in
    known from from' to to' s.taken s.read (s.ended d.1 n) (rw d.1 at s.wrote d.0 z)
