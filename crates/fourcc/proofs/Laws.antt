-- Laws of FourCCs and of the codec table.
use mathlib.Core.Path.{◌≡◌, refl, sym, ap, ◌∙◌}
use mathlib.Core.Bool.{Bool, true, false, cond, and-true}
use mathlib.Core.List.{List, [], ◌∷◌, ◌++◌, map}
use Prim.Native.Nat.{ℕ, zero, suc, ◌+◌, ◌≤◌, ◌<◌}
use native.Mathlib.Numerals.{add-one}
use native.Mathlib.Omega.{arith}
use lib.Dec.{eqb}
use lib.ListN.{length, get_or, drop}
use borrow.Author.Tests.{eqb-true}
use lib.Pointwise.{pointwise}
use Rattle.wire.specs.Wire.{byte_at, part, same_bytes}
use Rattle.wire.proofs.Bools.{and_left, and_right}
use Rattle.wire.proofs.Numbers.{past}
use Rattle.wire.proofs.Parts.{from_byte, at_drop, at_first}
use Rattle.types.specs.Types.{no_fourcc}
use Rattle.types.specs.declared.AudioCodec.TheVariants.{Pcm}
use Rattle.types.specs.declared.AudioCodec.{AudioCodec}
use Rattle.types.specs.declared.ErrorCode.{ErrorCode}
use Rattle.types.specs.declared.ErrorCode.TheVariants as error
use Rattle.fourcc.specs.Fourcc.{fourcc_at, same_fourcc, Entry, audio_codec_table, codec_in, audio_codec, codec_answer, audio_codec_numbers}
use Rattle.std.specs.Prelude.{Result, Ok, Err}

-- past the end a FourCC is four zero bytes
pub fourcc_past : (p : List ℕ) (i : ℕ) → length p ≤ i → no_fourcc ≡ fourcc_at p i
unfolding fourcc_at
fourcc_past p i h = simp (past p i h, past p (i + 1) (omega arith), past p (i + 2) (omega arith), past p (i + 3) (omega arith))

-- four bytes decide a FourCC
pub fourcc_same : (p q : List ℕ) (i : ℕ) → ((j : ℕ) → i ≤ j → j < i + 4 → byte_at p j ≡ byte_at q j) → fourcc_at p i ≡ fourcc_at q i
unfolding fourcc_at
fourcc_same p q i e =
    rw (e i (omega arith) (omega arith), e (i + 1) (omega arith) (omega arith), e (i + 2) (omega arith) (omega arith), e (i + 3) (omega arith) (omega arith))

-- a FourCC stands in four bytes, and is read where it stands
pub from_four : (p : List ℕ) (i : ℕ) → i + 4 ≤ length p → drop i p ≡ fourcc_at p i ++ drop (i + 4) p
unfolding fourcc_at
from_four p i h =
    let a : i + 1 + 1 ≡ i + 2 = omega arith in
    let b : i + 2 + 1 ≡ i + 3 = omega arith in
    let d : i + 3 + 1 ≡ i + 4 = omega arith in
    rw (from_byte p i (omega arith), from_byte p (i + 1) (omega arith), a, from_byte p (i + 2) (omega arith), b, from_byte p (i + 3) (omega arith), d)

pub fourcc_read : (p : List ℕ) (i : ℕ) (c r : List ℕ) → length c ≡ 4 → drop i p ≡ c ++ r → fourcc_at p i ≡ c
unfolding fourcc_at
fourcc_read p i [] r l e = absurd (omega arith)
fourcc_read p i (a ∷ []) r l e = absurd (omega arith)
fourcc_read p i (a ∷ b ∷ []) r l e = absurd (omega arith)
fourcc_read p i (a ∷ b ∷ c ∷ []) r l e = absurd (omega arith)
fourcc_read p i (a ∷ b ∷ c ∷ d ∷ []) r l e = rw (at_first p i _ e, at_drop p i 1 _ e, at_drop p i 2 _ e, at_drop p i 3 _ e)
fourcc_read p i (a ∷ b ∷ c ∷ d ∷ x ∷ s) r l e = absurd (omega arith)

-- four letters of a string, compared as a FourCC
pub four_letters : (p : List ℕ) (i : ℕ) (f : List ℕ) → i + 4 ≤ length p → length f ≡ 4 → same_bytes (part p i 4) f ≡ same_fourcc (fourcc_at p i) f
unfolding same_bytes fourcc_at same_fourcc
four_letters p i [] h l = absurd (omega arith)
four_letters p i (a ∷ []) h l = absurd (omega arith)
four_letters p i (a ∷ b ∷ []) h l = absurd (omega arith)
four_letters p i (a ∷ b ∷ c ∷ []) h l = absurd (omega arith)
four_letters p i (a ∷ b ∷ c ∷ d ∷ []) h l = rw (from_four p i h) (simp and-true)
four_letters p i (a ∷ b ∷ c ∷ d ∷ x ∷ s) h l = absurd (omega arith)

-- four bytes that are the same compare alike
pub same_alike : (f g h : List ℕ) → same_fourcc f g ≡ true → same_fourcc f h ≡ same_fourcc g h
unfolding same_fourcc
same_alike f g h e =
    let e₁ = and_right (eqb (byte_at f 0) (byte_at g 0)) _ e in
    let e₂ = and_right (eqb (byte_at f 1) (byte_at g 1)) _ e₁ in
    rw (
      eqb-true (byte_at f 0) (byte_at g 0) (and_left _ _ e),
      eqb-true (byte_at f 1) (byte_at g 1) (and_left _ _ e₁),
      eqb-true (byte_at f 2) (byte_at g 2) (and_left _ _ e₂),
      eqb-true (byte_at f 3) (byte_at g 3) (and_right (eqb (byte_at f 2) (byte_at g 2)) _ e₂),
    )
    refl

-- arrays of four bytes are equal exactly if their FourCCs are the same
pub four_equal : (a b : List ℕ) → length a ≡ 4 → length b ≡ 4 → pointwise eqb a b ≡ same_fourcc a b
unfolding same_fourcc
four_equal (a₀ ∷ a₁ ∷ a₂ ∷ a₃ ∷ []) (b₀ ∷ b₁ ∷ b₂ ∷ b₃ ∷ []) k l = simp and-true
four_equal _ _ k l = absurd (omega arith)

abbrev pub fourccs : List Entry → List (List ℕ)
fourccs t = map (λ (e : Entry). e.fourcc) t

abbrev pub codecs : List Entry → List AudioCodec
codecs t = map (λ (e : Entry). e.codec) t

-- the codec in a table from entry i on: that entry's, or the codec in the table from the next one on
module _ (f : List ℕ) where
  here : (t : List Entry) (i : ℕ) → i < length t → same_fourcc (get_or (fourccs t) i []) f ≡ true → Ok (get_or (codecs t) i Pcm) ≡ codec_in (drop i t) f
  unfolding codec_in
  here [] i h e = absurd (omega arith)
  here (x ∷ t) zero h e = rw e
  here (x ∷ t) (suc i) h e = here t i (omega arith) e

  later : (t : List Entry) (i : ℕ) → i < length t → same_fourcc (get_or (fourccs t) i []) f ≡ false → codec_in (drop (suc i) t) f ≡ codec_in (drop i t) f
  unfolding codec_in
  later [] i h e = absurd (omega arith)
  later (x ∷ t) zero h e = rw e
  later (x ∷ t) (suc i) h e = later t i (omega arith) e

  -- what a search that has passed i entries of the audio codec table knows
  module _ (i : ℕ) (rest : codec_in (drop i audio_codec_table) f ≡ audio_codec f) where
    pub codec_here : i < 7 → same_fourcc (get_or (fourccs audio_codec_table) i []) f ≡ true → Ok (get_or (codecs audio_codec_table) i Pcm) ≡ audio_codec f
    unfolding audio_codec_table
    codec_here h e = here audio_codec_table i h e ∙ rest

    pub codec_later : i < 7 → same_fourcc (get_or (fourccs audio_codec_table) i []) f ≡ false → codec_in (drop (i + 1) audio_codec_table) f ≡ audio_codec f
    unfolding audio_codec_table
    codec_later h e = rw add-one (later audio_codec_table i h e ∙ rest)

    pub codec_nowhere : i ≡ 7 → Err error.Chunk ≡ audio_codec f
    unfolding audio_codec_table codec_in
    codec_nowhere e = ap (λ (k : ℕ). codec_in (drop k audio_codec_table) f) (sym e) ∙ rest

-- THE SAME IN NUMBERS
answer_cond : (b : Bool) (x y : Result AudioCodec ErrorCode) → codec_answer (cond b x y) ≡ cond b (codec_answer x) (codec_answer y)
answer_cond true x y = refl
answer_cond false x y = refl

codec_numbers : (f : List ℕ) → codec_answer (audio_codec f) ≡ audio_codec_numbers f
unfolding audio_codec audio_codec_table codec_in audio_codec_numbers
codec_numbers f = simp answer_cond

pub with_numbers : (f : List ℕ) (r : Result AudioCodec ErrorCode) → r ≡ audio_codec f → (r ≡ audio_codec f) × (codec_answer r ≡ audio_codec_numbers f)
with_numbers f r q = (q, ap codec_answer q ∙ codec_numbers f)
