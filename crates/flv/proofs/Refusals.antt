-- Laws of the refusals of a file's start, and START CUT IFF.
use mathlib.Core.Path.{◌≡◌, refl}
use mathlib.Core.Bool.{Bool, true, false, cond, not, ◌&&◌, ◌||◌}
use mathlib.Core.List.{List}
use Prim.Native.Nat.{ℕ, ◌+◌, ◌≤◌, ◌<◌}
use native.Mathlib.Omega.{arith}
use lib.Dec.{eqb, ltb}
use lib.ListN.{length, take, drop, length-take, length-drop}
use lib.Seq.{get_or-take}
use borrow.Author.Tests.{lt-ltb, le-ltb}
use Rattle.std.proofs.Common.{◌↔◌}
use Rattle.std.proofs.lemmas.Bool.Decides.{nat_tests}
use Rattle.wire.specs.Wire.{part, be32_at}
use Rattle.types.specs.declared.ErrorCode.TheVariants as error
use Rattle.flv.specs.Files.{is_header, start_refusal, start_error}
use Rattle.flv.specs.Claims.{StartCutIff}

-- THE START, over what was read of it
module _ (header pointer : List ℕ) where
  pub header_short : length header < 9 → error.Truncated ≡ start_refusal header pointer
  unfolding start_refusal
  header_short l = simp (lt-ltb (length header) 9 l)

  pub header_other : 9 ≤ length header → is_header header ≡ false → error.NotFlv ≡ start_refusal header pointer
  unfolding start_refusal
  header_other l h = simp (le-ltb (length header) 9 l, h)

-- START CUT IFF: where a place is cut, of a header that is right or not and a back-pointer that is right or not
by_places : (a h c d : Bool)
    → (cond a error.Truncated (cond (not h) error.NotFlv (cond c error.Truncated (cond (not d) error.WrongBackPointer error.Ok))) ≡ error.Truncated)
    ↔ ((a || (h && c)) ≡ true)
by_places true h c d = (λ q. refl, λ q. refl)
by_places false false c d = (λ q. cc, λ q. cc)
by_places false true true d = (λ q. refl, λ q. refl)
by_places false true false true = (λ q. cc, λ q. cc)
by_places false true false false = (λ q. cc, λ q. cc)

module _ (file : List ℕ) where
  header_front : is_header (take 9 file) ≡ is_header file
  unfolding is_header
  header_front = let l : 5 + 3 < 9 = omega arith in grind (arith, get_or-take {A = ℕ})

  header_cut : ltb (length (take 9 file)) 9 ≡ ltb (length file) 9
  header_cut = grind (arith, nat_tests, length-take 9 file)

  pointer_cut : ltb (length (part file 9 4)) 4 ≡ ltb (length file) 13
  pointer_cut = grind (arith, nat_tests, length-take 4 (drop 9 file), length-drop 9 file)

pub start_cut_iff_lem : StartCutIff
unfolding StartCutIff start_error start_refusal
start_cut_iff_lem file = rw (header_cut file, header_front file, pointer_cut file) (by_places (ltb (length file) 9) (is_header file) (ltb (length file) 13) (eqb (be32_at (part file 9 4) 0) 0))
