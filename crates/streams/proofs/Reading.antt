-- Bytes that are read one piece behind the other.
use Rattle.std.proofs.Common.{◌≡◌, ℕ, ◌+◌, ◌≤◌, List, ◌++◌, arith, length, take, sym, ap, ◌∙◌, subst, le_refl, drop_at, length-take-le, length-append}
use Rattle.std.proofs.lemmas.Slice.{take-put_mid_below}
use Rattle.std.proofs.Math.Seq.{take-add}
use Rattle.std.specs.Prelude.{Option}
use Rattle.std.specs.Io.KnownBytes.{Consumes}
use Rattle.std.proofs.KnownBytes.{Consumes-trans}
use borrow.Rule.Slice.PartMut.{put_mid, post_of}
use lib.Seq.{take-append-le}

-- what stands in front of the part, and the first n bytes of the part
take_more : (from k n : ℕ) (xs ys : List ℕ) → from ≤ length xs → n ≤ length ys → take from xs ++ take n ys ≡ take (from + n) (put_mid from k xs ys)
take_more from k n xs ys within fits =
    let zs = put_mid from k xs ys in
    let front : take from zs ≡ take from xs = take-put_mid_below _ _ _ _ _ (le_refl _) within in
    let behind = ap (take n) (drop_at (take from xs) (ys ++ post_of from k xs) from (length-take-le from xs within)) ∙ take-append-le n ys (post_of from k xs) fits in
    ap (λ l. l ++ take n ys) (sym front) ∙ ap (λ l. take from zs ++ l) (sym behind) ∙ sym (take-add from n zs)

-- a read into the part gave n bytes more
pub consumes_more : (a b c : Option (List ℕ)) (from k n : ℕ) (xs ys : List ℕ) → from ≤ length xs → n ≤ length ys
    → Consumes a b (take from xs) → Consumes b c (take n ys) → Consumes a c (take (from + n) (put_mid from k xs ys))
consumes_more a b c from k n xs ys within fits before more =
    subst (Consumes a c) (take_more from k n xs ys within fits) (Consumes-trans a b c _ _ before more)

-- n bytes more were read into ys, and forgotten
pub forgets_more : (a b c : Option (List ℕ)) (done n : ℕ) (ys : List ℕ) → (bs : List ℕ) × Consumes a b bs × (length bs ≡ done)
    → n ≤ length ys → Consumes b c (take n ys) → (bs : List ℕ) × Consumes a c bs × (length bs ≡ done + n)
forgets_more a b c done n ys before fits more =
    (before.0 ++ take n ys, Consumes-trans a b c _ _ before.1 more, omega (arith, before.2, length-append before.0 (take n ys), length-take-le n ys fits))
