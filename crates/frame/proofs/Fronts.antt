-- The open front of a single frame: it covers the header, and so decides the head.
use mathlib.Core.Path.{◌≡◌, refl, sym, ap, ◌∙◌}
use mathlib.Core.Bool.{Bool, true, false, cond, not, ◌&&◌}
use mathlib.Core.List.{List}
use Prim.Native.Nat.{ℕ, zero, suc, ◌/◌, ◌%◌, ◌≤◌, ◌<◌}
use native.Mathlib.Omega.{arith}
use lib.Dec.{eqb}
use Rattle.std.specs.Prelude.{Some, None}
use Rattle.std.specs.Prelude as std
use lib.ListN.{length}
use borrow.Author.Tests.{eqb-true}
use Rattle.wire.specs.Wire.{byte_at, low}
use Rattle.wire.proofs.Bools.{and_left, and_right, true_or_false}
use Rattle.types.specs.Types.{is_ok, is_video, is_audio}
use Rattle.types.proofs.Laws.{only_ok}
use Rattle.codec_config.specs.declared.ConfigCodec.{ConfigCodec}
use Rattle.exvideo.specs.Video.{is_enhanced, is_legacy_avc, video_header}
use Rattle.exvideo.proofs.Laws.{video_facts_lem, video_local, untimed_size}
use Rattle.exaudio.specs.Audio.{is_enhanced as isEnhancedAudio, is_legacy_aac, audio_header, error_of}
use Rattle.exaudio.proofs.Laws.{audio_facts_lem, audio_local, audio_size, legacy_size}
use Rattle.init_cache.specs.Head.{of_video, of_audio, tag_header, frame_head, is_enhanced_of, is_video_of, is_avc_of, is_aac_of}
use Rattle.init_cache.specs.Verdicts.{record_at, sequence_start}
use Rattle.init_cache.specs.declared.head.FrameHead.{FrameHead}
use Rattle.init_cache.specs.declared.verdicts.SequenceStart.{SequenceStart}
use Rattle.init_cache.proofs.Cases.{start_command, start_enhanced, start_avc, start_aac, start_none}
use Rattle.init_cache.proofs.Alike.{head_same}
use Rattle.frame.specs.Sealed.{seal_start}

-- LEGACY AVC has low nibble 7
pub avc_low : (b : ℕ) → is_legacy_avc b ≡ true → b % 16 ≡ 7
unfolding is_legacy_avc
avc_low b e = eqb-true (b % 16) 7 (and_right (not (is_enhanced b)) (eqb (b % 16) 7) e)

-- A READABLE ENHANCED HEADER of packet type k has low nibble k, in audio and in video
nibble_of : (b : ℕ) (e : Bool) (k ex packet : ℕ) → ex ≡ cond e 1 0 → packet ≡ cond e (low b) 0 → (eqb ex 1 && eqb packet k) ≡ true → b % 16 ≡ k
nibble_of b true k ex packet u v h = sym v ∙ eqb-true packet k (and_right (eqb ex 1) (eqb packet k) h)
nibble_of b false k ex packet u v h = absurd (omega (arith, eqb-true ex 1 (and_left (eqb ex 1) (eqb packet k) h)))

pub enhanced_low : (type : ℕ) (p : List ℕ) (k : ℕ) → type ≤ 1 → is_enhanced_of k (frame_head type p) ≡ true → byte_at p 0 % 16 ≡ k
unfolding is_enhanced_of frame_head tag_header
enhanced_low zero p k t e =
    let f = audio_facts_lem p (only_ok _ (and_left (is_ok (error_of (audio_header p))) _ e)) in
    nibble_of (byte_at p 0) (isEnhancedAudio (byte_at p 0)) k _ _ f.enhanced f.packet (and_right (is_ok (error_of (audio_header p))) _ e)
enhanced_low (suc zero) p k t e =
    let f = video_facts_lem p in
    nibble_of (byte_at p 0) (is_enhanced (byte_at p 0)) k _ _ f.enhanced f.packet (and_right (is_ok (video_header p).error) _ e)
enhanced_low (suc (suc n)) p k t e = absurd (omega arith)

-- WHAT A FRONT OF n BYTES COVERS: the header, and byte 1 of legacy AVC
pub record Covers (type : ℕ) (p : List ℕ) (n : ℕ) : Type 0 where
  pub header : (tag_header type p).header_size ≤ n
  pub second : is_video type ≡ true → is_legacy_avc (byte_at p 0) ≡ true → 2 ≤ n

-- a readable header has a byte
pub header_some : (type : ℕ) (p : List ℕ) → type ≤ 1 → is_ok (tag_header type p).error ≡ true → 0 < (tag_header type p).header_size
unfolding tag_header
header_some zero p t e = (audio_facts_lem p (only_ok _ e)).some
header_some (suc zero) p t e = (video_facts_lem p).some (only_ok _ e)
header_some (suc (suc n)) p t e = absurd (omega arith)

module _ (type : ℕ) (p q : List ℕ) (t : type ≤ 1) (long : length p ≡ length q) (readable : is_ok (tag_header type p).error ≡ true)
    (n : ℕ) (covers : Covers type p n) (front : (i : ℕ) → i < n → byte_at p i ≡ byte_at q i) where
  header_front : (type : ℕ) → type ≤ 1 → is_ok (tag_header type p).error ≡ true → (tag_header type p).header_size ≤ n → tag_header type p ≡ tag_header type q
  unfolding tag_header
  header_front zero t e l = ap of_audio (audio_local p q long (only_ok _ e) (λ i m. front i (omega arith)))
  header_front (suc zero) t e l = ap of_video (video_local p q long (only_ok _ e) (λ i m. front i (omega arith)))
  header_front (suc (suc k)) t e l = absurd (omega arith)

  pub front_header : tag_header type p ≡ tag_header type q
  front_header = header_front type t readable covers.header

  pub front_byte0 : byte_at p 0 ≡ byte_at q 0
  front_byte0 = front 0 (omega (arith, header_some type p t readable, covers.header))

  pub front_byte1 : is_video type ≡ true → is_legacy_avc (byte_at p 0) ≡ true → byte_at p 1 ≡ byte_at q 1
  front_byte1 v l = front 1 (omega (arith, covers.second v l))

  pub front_head : frame_head type p ≡ frame_head type q
  front_head = head_same type p q long front_byte0 front_byte1 front_header

-- A SEQUENCE START is enhanced, legacy AVC or legacy AAC
start_differs : (codec : ConfigCodec) (from : ℕ) → None ≡ record_at codec from → ⊥
start_differs codec from e = let z : ◌≡◌ {A = ℕ} 0 1 = cc in omega arith

-- where a start's record begins
abbrev from_of : std.Option SequenceStart → ℕ
from_of (Some s) = s.from
from_of None = 0

pub start_cases : {C : Type 0} (type : ℕ) (h : FrameHead) (codec : ConfigCodec) (from : ℕ) → sequence_start type h ≡ record_at codec from
    → (is_video_of 5 type h ≡ false → is_enhanced_of 0 h ≡ true → from ≡ 5 → C)
    → (is_avc_of 0 type h ≡ true → from ≡ 5 → C)
    → (is_aac_of 0 type h ≡ true → from ≡ 2 → C) → C
start_cases {C} type h codec from q enhanced avc aac = by_command (is_video_of 5 type h) refl
  where
    by_aac : is_video_of 5 type h ≡ false → is_enhanced_of 0 h ≡ false → is_avc_of 0 type h ≡ false → (b : Bool) → is_aac_of 0 type h ≡ b → C
    by_aac x y z true a = aac a (sym (ap from_of (start_aac type h x y z a ∙ q)))
    by_aac x y z false a = absurd (start_differs codec from (start_none type h x y z a ∙ q))

    by_avc : is_video_of 5 type h ≡ false → is_enhanced_of 0 h ≡ false → (b : Bool) → is_avc_of 0 type h ≡ b → C
    by_avc x y true z = avc z (sym (ap from_of (start_avc type h x y z ∙ q)))
    by_avc x y false z = by_aac x y z (is_aac_of 0 type h) refl

    by_enhanced : is_video_of 5 type h ≡ false → (b : Bool) → is_enhanced_of 0 h ≡ b → C
    by_enhanced x true y = enhanced x y (sym (ap from_of (start_enhanced type h x y ∙ q)))
    by_enhanced x false y = by_avc x y (is_avc_of 0 type h) refl

    by_command : (b : Bool) → is_video_of 5 type h ≡ b → C
    by_command true x = absurd (start_differs codec from (start_command type h x ∙ q))
    by_command false x = by_enhanced x (is_enhanced_of 0 h) refl

module _ (p : List ℕ) where
  enhanced_size : (type : ℕ) → type ≤ 1 → is_enhanced_of 0 (frame_head type p) ≡ true → (tag_header type p).header_size ≤ 5
  unfolding tag_header
  enhanced_size zero t e = audio_size p
  enhanced_size (suc zero) t e = untimed_size p (λ x. omega (arith, enhanced_low 1 p 0 (omega arith) e))
  enhanced_size (suc (suc k)) t e = absurd (omega arith)

  pub avc_size : (type : ℕ) → is_video type ≡ true → is_legacy_avc (byte_at p 0) ≡ true → (tag_header type p).header_size ≤ 5
  unfolding tag_header
  avc_size (suc zero) v l = untimed_size p (λ x. omega (arith, avc_low (byte_at p 0) l))
  avc_size zero v l = absurd (omega (arith, eqb-true 0 1 v))
  avc_size (suc (suc k)) v l = absurd (omega (arith, eqb-true (suc (suc k)) 1 v))

  aac_size : (type : ℕ) → is_audio type ≡ true → is_legacy_aac (byte_at p 0) ≡ true → (tag_header type p).header_size ≤ 2
  unfolding tag_header
  aac_size zero v l = legacy_size p (λ x. omega (arith, eqb-true (byte_at p 0 / 16) 10 l))
  aac_size (suc k) v l = absurd (omega (arith, eqb-true (suc k) 0 v))

  pub avc_parts : (type k : ℕ) → is_avc_of k type (frame_head type p) ≡ true → (is_video type ≡ true) × (is_legacy_avc (byte_at p 0) ≡ true)
  unfolding is_avc_of frame_head
  avc_parts type k e = (and_left (is_video type) _ e, and_left (is_legacy_avc (byte_at p 0)) _ (and_right (is_video type) _ e))

  pub aac_parts : (type k : ℕ) → is_aac_of k type (frame_head type p) ≡ true → (is_audio type ≡ true) × (is_legacy_aac (byte_at p 0) ≡ true)
  unfolding is_aac_of frame_head
  aac_parts type k e = (and_left (is_audio type) _ e, and_left (is_legacy_aac (byte_at p 0)) _ (and_right (is_audio type) _ e))

  -- A RECORD'S START covers the header and byte 1
  pub start_covers : (type : ℕ) → type ≤ 1 → (codec : ConfigCodec) (from : ℕ) → sequence_start type (frame_head type p) ≡ record_at codec from → Covers type p from
  start_covers type t codec from q =
      start_cases type (frame_head type p) codec from q
      (λ x y f. rw f (record { header = enhanced_size type t y; second = λ _ _. omega arith }))
      (λ z f. let v = avc_parts type 0 z in rw f (record { header = avc_size type v.0 v.1; second = λ _ _. omega arith }))
      (λ a f. let v = aac_parts type 0 a in rw f (record { header = aac_size type v.0 v.1; second = λ _ _. omega arith }))

  -- WITHOUT A RECORD the bytes before the sealed ones do
  pub seal_covers : (type : ℕ) → Covers type p (seal_start type (frame_head type p))
  unfolding seal_start frame_head
  seal_covers type = go (is_video type) refl (is_legacy_avc (byte_at p 0)) refl
    where
      go : (v : Bool) → is_video type ≡ v → (l : Bool) → is_legacy_avc (byte_at p 0) ≡ l → Covers type p (cond (v && l) 5 (tag_header type p).header_size)
      go true v true l = record { header = avc_size type v l; second = λ _ _. omega arith }
      go true v false l = record { header = omega arith; second = λ _ m. true_or_false m l }
      go false v l m = record { header = omega arith; second = λ w _. true_or_false w v }
