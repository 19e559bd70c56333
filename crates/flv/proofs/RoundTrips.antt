-- ROUND TRIP and OTHER TAGS.
use mathlib.Core.Path.{◌≡◌, refl, sym, ap, ap₂, ◌∙◌}
use mathlib.Core.Bool.{true, false, cond, ◌||◌}
use mathlib.Core.List.{List, [], ◌∷◌, ◌++◌, map}
use Prim.Native.Nat.{ℕ, zero, suc, ◌+◌, ◌≤◌}
use native.Mathlib.Omega.{arith}
use lib.Dec.{eqb}
use lib.ListN.{length}
use Rattle.wire.proofs.Numbers.{be24_bytes, be32_bytes}
use Rattle.flv.specs.Files.{is_header, Tag, time_of, is_frame, frame_type, Reading, read_file, Frame, frame_of, frames_of}
use Rattle.flv.specs.Calls.{start_bytes, byte_of_type, written_tag}
use Rattle.flv.specs.Grammar.{Whole, AllWhole, Start}
use Rattle.flv.specs.Grammar as all
use Rattle.flv.specs.Claims.{clean, CleanIff, Writable, AllWritable, none, also, written_file, RoundTrip, OtherTags}
use Rattle.flv.proofs.Readings.{clean_iff_lem}

-- a frame's type is read back from its byte
type_back : (n : ℕ) → n ≤ 2 → (cond (eqb (byte_of_type n) 8) 0 (cond (eqb (byte_of_type n) 9) 1 2) ≡ n) × ((eqb (byte_of_type n) 8 || (eqb (byte_of_type n) 9 || eqb (byte_of_type n) 18)) ≡ true)
type_back zero l = (refl, refl)
type_back (suc zero) l = (refl, refl)
type_back (suc (suc zero)) l = (refl, refl)
type_back (suc (suc (suc n))) l = absurd (omega arith)

module _ (f : Frame) (w : Writable f) where
  -- A WRITTEN TAG is whole, and its frame is the frame
  pub written_whole : Whole (written_tag f)
  written_whole =
      let n : ℕ = length f.body in
      record { head = refl; body = sym (be24_bytes n (omega (arith, w.body))); pointer = refl; points = be32_bytes (n + 11) (omega (arith, w.body)) }

  pub written_frame : is_frame (written_tag f).head ≡ true
  written_frame = (type_back f.type w.type).1

  pub written_type : frame_type (written_tag f).head ≡ f.type
  written_type = (type_back f.type w.type).0

  written_time : time_of (written_tag f).head ≡ f.time
  written_time = be32_bytes f.time w.time

  pub frame_back : frame_of (written_tag f) ≡ f
  frame_back = ap₂ (λ (t m : ℕ). record { type = t; time = m; body = f.body }) written_type written_time

pub all_whole : (fs : List Frame) → AllWritable fs → AllWhole (map written_tag fs)
all_whole [] none = all.none
all_whole (f ∷ fs) (also w a) = all.also (written_whole f w) (all_whole fs a)

all_back : (fs : List Frame) → AllWritable fs → frames_of (map written_tag fs) ≡ fs
all_back [] none = refl
all_back (f ∷ fs) (also w a) = rw (written_frame f w) (ap₂ (λ (g : Frame) (gs : List Frame). g ∷ gs) (frame_back f w) (all_back fs a))

-- the start that is written is a start
pub written_start : Start start_bytes
unfolding is_header
written_start =
    record {
      header = 0x46 ∷ 0x4C ∷ 0x56 ∷ 0x01 ∷ 0x05 ∷ 0 ∷ 0 ∷ 0 ∷ 9 ∷ [];
      pointer = 0 ∷ 0 ∷ 0 ∷ 0 ∷ [];
      bytes = refl;
      nine = refl;
      right = refl;
      four = refl;
      zero = refl;
    }

pub written_clean : (fs : List Frame) → AllWritable fs → read_file (written_file fs) ≡ clean (map written_tag fs)
unfolding CleanIff
written_clean fs a = (clean_iff_lem (written_file fs) (map written_tag fs)).1 (record { front = start_bytes; start = written_start; tags = all_whole fs a; bytes = refl })

pub round_trip : RoundTrip
unfolding RoundTrip
round_trip fs a = (ap (λ (r : Reading). r.error) (written_clean fs a), ap (λ (r : Reading). frames_of r.tags) (written_clean fs a) ∙ all_back fs a)

-- OTHER TAGS
stepped_over : (before behind : List Tag) (t : Tag) → is_frame t.head ≡ false → frames_of (before ++ t ∷ behind) ≡ frames_of (before ++ behind)
stepped_over [] behind t e = rw e refl
stepped_over (u ∷ before) behind t e = rw (stepped_over before behind t e) refl

pub other_tags_lem : OtherTags
unfolding OtherTags CleanIff
other_tags_lem file file' before behind t e w w' =
    ap (λ (r : Reading). frames_of r.tags) ((clean_iff_lem file (before ++ t ∷ behind)).1 w)
    ∙ stepped_over before behind t e
    ∙ sym (ap (λ (r : Reading). frames_of r.tags) ((clean_iff_lem file' (before ++ behind)).1 w'))
