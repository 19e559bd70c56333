-- Laws of bytes written into an output.
use mathlib.Core.Path.{◌≡◌, refl, sym, ap, ◌∙◌}
use mathlib.Core.Bool.{cond}
use mathlib.Core.List.{List, [], ◌++◌, append_assoc}
use Prim.Native.Nat.{ℕ, ◌+◌, ◌-◌, ◌≤◌, ◌<◌}
use native.Mathlib.Omega.{arith}
use lib.Dec.{leb}
use lib.ListN.{length, take, drop, length-append, length-drop, take-append-drop}
use lib.Seq.{take_at, drop_at, drop-drop, length-take-le}
use borrow.Author.Tests.{le-leb, lt-leb}
use borrow.Rule.Slice.PartMut.{put_mid}
use Rattle.outputs.specs.Outputs.{in_front, with_at, put_at}

module _ (out : List ℕ) (at : ℕ) (bytes : List ℕ) where
  pub put_room : at + length bytes ≤ length out → put_at out at bytes ≡ with_at out at bytes
  unfolding put_at
  put_room l = simp (le-leb _ _ l)

  pub put_none : length out < at + length bytes → put_at out at bytes ≡ out
  unfolding put_at
  put_none l = simp (lt-leb _ _ l)

  module _ (l : at + length bytes ≤ length out) where
    pub length_with : length (with_at out at bytes) ≡ length out
    unfolding with_at
    length_with =
        omega (
          arith,
          length-append (take at out) (bytes ++ drop (at + length bytes) out),
          length-append bytes (drop (at + length bytes) out),
          length-take-le at out (omega arith),
          length-drop (at + length bytes) out,
        )

    -- a copy into the part that the bytes take
    pub put_copied : put_mid at (at + length bytes - at) out bytes ≡ put_at out at bytes
    unfolding with_at
    put_copied =
        let n : at + length bytes - at ≡ length bytes = omega arith in
        rw (n, drop-drop (length bytes) at out) (sym (put_room l))

-- NOTHING WRITTEN, and one thing behind another
pub with_none : (out : List ℕ) (at : ℕ) → with_at out at [] ≡ out
unfolding with_at
with_none out at = let z : at + 0 ≡ at = omega arith in rw z (take-append-drop at out)

pub with_more : (out : List ℕ) (at : ℕ) (x y : List ℕ) → at + length x ≤ length out → with_at (with_at out at x) (at + length x) y ≡ with_at out at (x ++ y)
unfolding with_at
with_more out at x y l =
    let a : length (take at out) ≡ at = length-take-le at out (omega arith) in
    let b : length (take at out ++ x) ≡ at + length x = omega (arith, length-append (take at out) x, a) in
    let s : take at out ++ (x ++ drop (at + length x) out) ≡ (take at out ++ x) ++ drop (at + length x) out = sym (append_assoc (take at out) x _) in
    let t : take (at + length x) (take at out ++ (x ++ drop (at + length x) out)) ≡ take at out ++ x = rw s (take_at (take at out ++ x) (drop (at + length x) out) (at + length x) b) in
    let u : drop (at + length x) (take at out ++ (x ++ drop (at + length x) out)) ≡ drop (at + length x) out = rw s (drop_at (take at out ++ x) (drop (at + length x) out) (at + length x) b) in
    let v : drop (at + length x + length y) (take at out ++ (x ++ drop (at + length x) out)) ≡ drop (at + length (x ++ y)) out =
    let n : at + length x + length y ≡ at + length (x ++ y) = omega (arith, length-append x y) in
    sym (drop-drop (length y) (at + length x) _) ∙ ap (drop (length y)) u ∙ drop-drop (length y) (at + length x) out ∙ ap (λ (k : ℕ). drop k out) n in
    rw (t, v) (append_assoc (take at out) x _ ∙ ap (λ (l : List ℕ). take at out ++ l) (sym (append_assoc x y _)))

-- AT THE FRONT
pub with_front : (out bytes : List ℕ) → with_at out 0 bytes ≡ bytes ++ drop (length bytes) out
unfolding with_at
with_front out bytes = let z : 0 + length bytes ≡ length bytes = omega arith in rw z

pub put_front : (out bytes : List ℕ) → length bytes ≤ length out → put_at out 0 bytes ≡ bytes ++ drop (length bytes) out
put_front out bytes l = put_room out 0 bytes (omega arith) ∙ with_front out bytes

-- by whether there is room
pub put_front_if : (out bytes : List ℕ) → put_at out 0 bytes ≡ cond (leb (length bytes) (length out)) (in_front bytes out) out
unfolding put_at
put_front_if out bytes = let z : 0 + length bytes ≡ length bytes = omega arith in rw (z, with_front out bytes) refl
