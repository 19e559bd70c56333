-- What a viewer that joins late is sent.
use Rattle.std.proofs.Math.Option.{Option, none, some}
use Rattle.std.specs.Prelude.{List, [], ◌∷◌, ◌++◌, ℕ, length, get_or}
use Rattle.init_cache.specs.declared.kind.CacheFrameKind.{CacheFrameKind}
use Rattle.init_cache.specs.declared.kind.CacheFrameKind.TheVariants.{LiveOnly, VideoSequenceHeader, AudioSequenceHeader, VideoKeyframe}
use Rattle.frame_store.specs.Store.{Store, held}
use Rattle.frame_store.specs.declared.late.LateInfo.{LateInfo}

-- a frame that is held, with its kind
pub record HeldFrame : Type 0 where
  pub kind : CacheFrameKind
  pub bytes : List ℕ

abbrev pub held_as : CacheFrameKind → Option (List ℕ) → List HeldFrame
held_as kind (some bytes) = record { kind = kind; bytes = bytes } ∷ []
held_as kind none = []

-- IN THIS ORDER, whichever are held
abbrev pub in_order : Option (List ℕ) → Option (List ℕ) → Option (List ℕ) → List HeldFrame
in_order video audio keyframe = held_as VideoSequenceHeader video ++ (held_as AudioSequenceHeader audio ++ held_as VideoKeyframe keyframe)

unfoldable pub late_frames : Store → List HeldFrame
late_frames s = in_order (held 1 s) (held 2 s) (held 3 s)

-- by number, from 0 on; kind 0 and no bytes at a number that is not below the count
abbrev pub no_frame : HeldFrame
no_frame = record { kind = LiveOnly; bytes = [] }

unfoldable pub late_frame : Store → ℕ → HeldFrame
late_frame s n = get_or (late_frames s) n no_frame

unfoldable pub late_info : Store → ℕ → LateInfo
late_info s n = record { count = length (late_frames s); kind = (late_frame s n).kind; length = length (late_frame s n).bytes }
