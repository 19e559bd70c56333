-- Laws of the numbers.
use mathlib.Core.Path.{◌≡◌, refl, sym, ap, ◌∙◌}
use mathlib.Core.Bool.{Bool, true, false, true≢false}
use Prim.Native.Nat.{ℕ, zero, suc, ◌≤◌, ◌<◌}
use native.Mathlib.Omega.{arith}
use lib.IntN.{ℤ}
use borrow.Author.Tests.{lt-ltb, ne_eqb}
use mir.Syntax.{w32}
use mir.Val.{to_z, of_z}
use Rattle.types.specs.Types.{error_number, is_ok, frame_number, frame_type_of, is_audio, is_video, is_script_or_metadata, is_unknown_type}
use Rattle.types.specs.declared.ErrorCode.{ErrorCode}
use Rattle.types.specs.declared.ErrorCode.TheVariants as error
use Rattle.types.specs.declared.FrameType.{FrameType}
use Rattle.types.specs.declared.FrameType.TheVariants.{Audio, Video, Script, Metadata}
use Rattle.std.specs.Prelude.{Result, Ok, Err}

-- an error number fits 32 bits: it is read back from its pattern
error_back : (e : ErrorCode) → to_z w32 (of_z w32 (error_number e)) ≡ error_number e
unfolding error_number
error_back error.Ok = refl
error_back error.Io = refl
error_back error.Protocol = refl
error_back error.Chunk = refl
error_back error.Unsupported = refl
error_back error.UnknownFrameType = refl
error_back error.OutputTooShort = refl
error_back error.NoSuchTrack = refl
error_back error.NotAContainer = refl
error_back error.Truncated = refl
error_back error.OutOfBounds = refl
error_back error.BadLength = refl
error_back error.BadValue = refl
error_back error.NotFlv = refl
error_back error.WrongBackPointer = refl
error_back error.SlotTooShort = refl
error_back error.OutOfRange = refl
error_back error.DebtLimit = refl

pub error_kept : (e : ErrorCode) (z : ℤ) → z ≡ error_number e → to_z w32 (of_z w32 z) ≡ error_number e
error_kept e z p = ap (λ (y : ℤ). to_z w32 (of_z w32 y)) p ∙ error_back e

-- only Ok is no error
pub only_ok : (e : ErrorCode) → is_ok e ≡ true → e ≡ error.Ok
only_ok error.Ok q = refl
only_ok error.Io q = absurd (true≢false (sym q))
only_ok error.Protocol q = absurd (true≢false (sym q))
only_ok error.Chunk q = absurd (true≢false (sym q))
only_ok error.Unsupported q = absurd (true≢false (sym q))
only_ok error.UnknownFrameType q = absurd (true≢false (sym q))
only_ok error.OutputTooShort q = absurd (true≢false (sym q))
only_ok error.NoSuchTrack q = absurd (true≢false (sym q))
only_ok error.NotAContainer q = absurd (true≢false (sym q))
only_ok error.Truncated q = absurd (true≢false (sym q))
only_ok error.OutOfBounds q = absurd (true≢false (sym q))
only_ok error.BadLength q = absurd (true≢false (sym q))
only_ok error.BadValue q = absurd (true≢false (sym q))
only_ok error.NotFlv q = absurd (true≢false (sym q))
only_ok error.WrongBackPointer q = absurd (true≢false (sym q))
only_ok error.SlotTooShort q = absurd (true≢false (sym q))
only_ok error.OutOfRange q = absurd (true≢false (sym q))
only_ok error.DebtLimit q = absurd (true≢false (sym q))

-- and every other one refuses
pub not_ok : {e : ErrorCode} → (e ≡ error.Ok → ⊥) → is_ok e ≡ false
not_ok {e = e} n = go (is_ok e) refl
  where
    go : (b : Bool) → is_ok e ≡ b → is_ok e ≡ false
    go true b = absurd (n (only_ok e b))
    go false b = b

-- a frame type is that of its number
pub frame_type_back : (t : FrameType) → frame_type_of (frame_number t) ≡ Ok t
unfolding frame_type_of
frame_type_back Audio = refl
frame_type_back Video = refl
frame_type_back Script = refl
frame_type_back Metadata = refl

-- FRAME TYPES, from their numbers: one of the four, or above 3
pub frame_types_lem : (P : ℕ → Result FrameType ErrorCode → Type 0) → ((t : FrameType) → P (frame_number t) (Ok t)) → ((n : ℕ) → 3 < n → P n (Err error.UnknownFrameType))
    → (n : ℕ) → P n (frame_type_of n)
unfolding frame_type_of
frame_types_lem P k u zero = k Audio
frame_types_lem P k u (suc zero) = k Video
frame_types_lem P k u (suc (suc zero)) = k Script
frame_types_lem P k u (suc (suc (suc zero))) = k Metadata
frame_types_lem P k u (suc (suc (suc (suc n)))) =
    let m : ℕ = suc (suc (suc (suc n))) in
    simp (ne_eqb m 0 (λ e. omega arith), ne_eqb m 1 (λ e. omega arith), ne_eqb m 2 (λ e. omega arith), ne_eqb m 3 (λ e. omega arith)) (u m (omega arith))

pub known_type : (n : ℕ) (t : FrameType) → frame_type_of n ≡ Ok t → n ≡ frame_number t
known_type n t =
    frame_types_lem (λ n r. r ≡ Ok t → n ≡ frame_number t) (λ s q. let e : s ≡ t = cc in ap frame_number e) (λ n h q. let z : ◌≡◌ {A = ℕ} 0 1 = cc in absurd (omega arith)) n

pub unknown_type_lem : (n : ℕ) (e : ErrorCode) → frame_type_of n ≡ Err e → (is_unknown_type n ≡ true) × (error.UnknownFrameType ≡ e)
unknown_type_lem n e =
    frame_types_lem (λ n r. r ≡ Err e → (is_unknown_type n ≡ true) × (error.UnknownFrameType ≡ e))
    (λ s q. let z : ◌≡◌ {A = ℕ} 0 1 = cc in absurd (omega arith)) (λ n h q. (lt-ltb 3 n h, cc)) n

pub is_known : (t : FrameType) → is_unknown_type (frame_number t) ≡ false
is_known Audio = refl
is_known Video = refl
is_known Script = refl
is_known Metadata = refl

-- types 2 and 3 are those that are neither audio nor video
pub other_type : (t : FrameType) → is_video (frame_number t) ≡ false → is_audio (frame_number t) ≡ false → is_script_or_metadata (frame_number t) ≡ true
other_type Audio v a = absurd (true≢false a)
other_type Video v a = absurd (true≢false v)
other_type Script v a = refl
other_type Metadata v a = refl

-- and audio is what is neither of these nor video
pub audio_type : (t : FrameType) → is_script_or_metadata (frame_number t) ≡ false → is_video (frame_number t) ≡ false → frame_number t ≡ 0
audio_type Audio s v = refl
audio_type Video s v = absurd (true≢false v)
audio_type Script s v = absurd (true≢false s)
audio_type Metadata s v = absurd (true≢false s)

pub media_only : (n : ℕ) → n ≤ 1 → is_script_or_metadata n ≡ false
media_only zero l = refl
media_only (suc zero) l = refl
media_only (suc (suc n)) l = absurd (omega arith)

pub script_only : (n : ℕ) → is_script_or_metadata n ≡ true → (is_audio n ≡ false) × (is_video n ≡ false)
script_only zero e = absurd (true≢false (sym e))
script_only (suc zero) e = absurd (true≢false (sym e))
script_only (suc (suc n)) e = let m : ℕ = suc (suc n) in (ne_eqb m 0 (λ x. omega arith), ne_eqb m 1 (λ x. omega arith))
