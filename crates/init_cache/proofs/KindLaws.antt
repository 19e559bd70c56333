-- Laws of the kinds: the kind of a number, the type that a kind says, and the kind of the empty payload.
use mathlib.Core.Path.{◌≡◌, refl}
use mathlib.Core.Bool.{Bool, true, false, cond, not, ◌&&◌, ◌||◌}
use mathlib.Core.List.{List, []}
use Prim.Native.Nat.{ℕ, zero, suc, ◌≤◌}
use native.Mathlib.Omega.{arith}
use lib.Dec.{eqb}
use Rattle.exvideo.specs.Video.{tag_frame_type, is_legacy_avc, is_timed, is_command, video_header, legacy_header, enhanced_header}
use Rattle.exaudio.specs.Audio.{audio_header}
use Rattle.multitrack_media.specs.Container.{opens_container, form_of, legal_head, container_heads, container_of}
use Rattle.init_cache.specs.Head.{tag_header, frame_head, is_readable, is_enhanced_of, is_video_of, is_avc_of, is_aac_of}
use Rattle.init_cache.specs.Verdicts.{sequence_start, verdicts}
use Rattle.init_cache.specs.Seen.{seen, is_container_of, all_valid}
use Rattle.init_cache.specs.Kind.{kind_number, kind_by_number, start_kind, is_legacy_frame, single_kind, kind_of, cache_kind}
use Rattle.init_cache.specs.declared.seen.Seen.{Seen}
use Rattle.init_cache.specs.declared.kind.CacheFrameKind.{CacheFrameKind}
use Rattle.init_cache.specs.declared.kind.CacheFrameKind.TheVariants.{LiveOnly, VideoSequenceHeader, AudioSequenceHeader, VideoKeyframe}

-- A KIND is that of its number
pub by_number : (k : CacheFrameKind) → kind_by_number (kind_number k) ≡ k
unfolding kind_by_number
by_number LiveOnly = refl
by_number VideoSequenceHeader = refl
by_number AudioSequenceHeader = refl
by_number VideoKeyframe = refl

-- THE TYPE of a kind that is kept
abbrev pub type_of_kind : ℕ → ℕ
type_of_kind k = cond (eqb k 2) 0 1

-- kind 0, or a kind of this type
pub record Typed (type : ℕ) (k : CacheFrameKind) : Type 0 where
  pub says : (j : ℕ) → kind_number k ≡ suc j → type_of_kind (kind_number k) ≡ type

live : (type : ℕ) → Typed type LiveOnly
live type = record { says = λ j e. absurd (omega arith) }

-- a property of a kind that is chosen
pick : (P : CacheFrameKind → Type 0) (b : Bool) (x y : CacheFrameKind) → P x → P y → P (cond b x y)
pick P true x y p q = p
pick P false x y p q = q

start_typed : (s : Seen) → (Typed 0 (start_kind 0 s)) × (Typed 1 (start_kind 1 s))
start_typed s = (
  pick (Typed 0) (all_valid s) AudioSequenceHeader LiveOnly (record { says = λ j e. refl }) (live 0),
  pick (Typed 1) (all_valid s) VideoSequenceHeader LiveOnly (record { says = λ j e. refl }) (live 1),
)

audio_typed : (s : Seen) → Typed 0 (kind_of 0 s)
unfolding kind_of single_kind is_video_of is_avc_of
audio_typed s =
    pick (Typed 0) (is_container_of 0 s) _ _ (start_typed s).0
    (pick (Typed 0) (opens_container 0 s.head.tag || not (is_readable s.head)) _ _ (live 0)
    (pick (Typed 0) (is_enhanced_of 0 s.head) _ _ (start_typed s).0 (pick (Typed 0) (is_aac_of 0 0 s.head) _ _ (start_typed s).0 (live 0))))

video_typed : (s : Seen) → Typed 1 (kind_of 1 s)
unfolding kind_of single_kind
video_typed s =
    pick (Typed 1) (is_video_of 5 1 s.head) _ _ (live 1)
    (pick (Typed 1) (is_container_of 0 s) _ _ (start_typed s).1
    (pick (Typed 1) (is_video_of 1 1 s.head && (is_container_of 1 s || is_container_of 3 s)) _ _ keyframe
    (pick (Typed 1) (opens_container 1 s.head.tag || not (is_readable s.head)) _ _ (live 1)
    (pick (Typed 1) (is_enhanced_of 0 s.head) _ _ (start_typed s).1
    (pick (Typed 1) (is_video_of 1 1 s.head && (is_enhanced_of 1 s.head || is_enhanced_of 3 s.head)) _ _ keyframe
    (pick (Typed 1) (is_avc_of 0 1 s.head || is_aac_of 0 1 s.head) _ _ (start_typed s).1
    (pick (Typed 1) (is_video_of 1 1 s.head && is_legacy_frame 1 s.head) _ _ keyframe (live 1))))))))
  where
    keyframe : Typed 1 VideoKeyframe
    keyframe = record { says = λ j e. refl }

pub kind_typed_lem : (type : ℕ) → type ≤ 3 → (r : List ℕ) → Typed type (cache_kind type r)
unfolding cache_kind kind_of
kind_typed_lem zero l r = audio_typed (seen 0 r)
kind_typed_lem (suc zero) l r = video_typed (seen 1 r)
kind_typed_lem (suc (suc zero)) l r = live 2
kind_typed_lem (suc (suc (suc zero))) l r = live 3
kind_typed_lem (suc (suc (suc (suc t)))) l r = absurd (omega arith)

-- THE EMPTY PAYLOAD has kind 0 in every type
pub empty_live : (type : ℕ) → type ≤ 3 → kind_number (cache_kind type []) ≡ 0
unfolding tag_frame_type is_legacy_avc is_timed is_command video_header legacy_header enhanced_header audio_header opens_container form_of legal_head container_heads container_of tag_header frame_head is_enhanced_of is_video_of is_avc_of is_aac_of sequence_start verdicts seen is_container_of is_legacy_frame single_kind kind_of cache_kind
empty_live zero l = refl
empty_live (suc zero) l = refl
empty_live (suc (suc zero)) l = refl
empty_live (suc (suc (suc zero))) l = refl
empty_live (suc (suc (suc (suc t)))) l = absurd (omega arith)
