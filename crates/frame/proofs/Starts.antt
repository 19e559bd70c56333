-- A sequence start is none of the frames that seal nothing: its header is readable, and it is no container, no command and not of packet type 7.
use mathlib.Core.Path.{◌≡◌, refl, sym, ap, ◌∙◌}
use mathlib.Core.Bool.{Bool, true, false, not, ◌&&◌}
use mathlib.Core.List.{List}
use Prim.Native.Nat.{ℕ, zero, suc, ◌/◌, ◌%◌, ◌≤◌, ◌<◌}
use native.Mathlib.Omega.{arith}
use lib.Dec.{eqb, ltb}
use lib.ListN.{length}
use borrow.Author.Tests.{eqb-true, ltb-true, ne_eqb, not-true}
use Rattle.wire.specs.Wire.{byte_at}
use Rattle.wire.proofs.Bools.{and_left, and_right, true_or_false}
use Rattle.types.specs.Types.{is_ok, is_video, is_audio}
use Rattle.std.specs.Prelude.{Result}
use Rattle.types.specs.declared.ErrorCode.{ErrorCode}
use Rattle.types.specs.declared.AudioHeader.{AudioHeader}
use Rattle.types.specs.declared.AudioCodec.TheVariants.{Aac}
use Rattle.types.proofs.Laws.{only_ok}
use Rattle.codec_config.specs.declared.ConfigCodec.{ConfigCodec}
use Rattle.exvideo.specs.Video.{is_enhanced, tag_frame_type, is_legacy_avc, is_command}
use Rattle.exvideo.specs.declared.VideoHeaderResult.{VideoHeaderResult}
use Rattle.exvideo.proofs.Cases.{video_legacy}
use Rattle.exvideo.proofs.Laws.{legacy_cases, video_facts_lem}
use Rattle.exaudio.specs.Audio.{error_of, is_legacy_aac, sound_format, audio_header}
use Rattle.exaudio.proofs.Cases.{audio_legacy, legacy_aac}
use Rattle.exaudio.proofs.Laws.{audio_facts_lem}
use Rattle.multitrack_media.specs.Container.{opens_container}
use Rattle.init_cache.specs.Head.{tag_header, frame_head, is_readable, is_enhanced_of, is_video_of, is_avc_of, is_aac_of}
use Rattle.init_cache.specs.Verdicts.{record_at, sequence_start}
use Rattle.init_cache.specs.declared.head.FrameHead.{FrameHead}
use Rattle.frame.specs.Sealed.{seals_nothing}
use Rattle.frame.proofs.Fronts.{avc_low, enhanced_low, start_cases, avc_parts, aac_parts}
use Rattle.frame.proofs.Payloads.{nibble_closed}

none_of : (type : ℕ) (h : FrameHead) → is_readable h ≡ true → opens_container type h.tag ≡ false → (is_video type && is_command h.tag) ≡ false
    → is_enhanced_of 7 h ≡ false → seals_nothing type h ≡ false
unfolding seals_nothing
none_of type h r o c m = simp (r, o, c, m)

module _ (r : List ℕ) where
  -- ENHANCED, of packet type 0
  no_command_lem : (v f e n : Bool) → (v && f) ≡ false → (v && (e && (f && n))) ≡ false
  no_command_lem false f e n x = refl
  no_command_lem true false true n x = refl
  no_command_lem true false false n x = refl
  no_command_lem true true e n x = true_or_false refl x

  enhanced_single : (type : ℕ) → type ≤ 1 → is_video_of 5 type (frame_head type r) ≡ false → is_enhanced_of 0 (frame_head type r) ≡ true
      → seals_nothing type (frame_head type r) ≡ false
  unfolding is_video_of frame_head is_command
  enhanced_single type t x e =
      let low = enhanced_low type r 0 t e in
      none_of type (frame_head type r) (unfold is_enhanced_of in and_left (is_readable (frame_head type r)) _ e)
      (nibble_closed type (byte_at r 0) (λ y. omega arith) (λ y. omega arith))
      (no_command_lem (is_video type) (eqb (tag_frame_type (byte_at r 0)) 5) (is_enhanced (byte_at r 0)) _ x)
      (go (is_enhanced_of 7 (frame_head type r)) refl low)
    where
      go : (b : Bool) → is_enhanced_of 7 (frame_head type r) ≡ b → byte_at r 0 % 16 ≡ 0 → is_enhanced_of 7 (frame_head type r) ≡ false
      go true s low = absurd (omega (arith, enhanced_low type r 7 t s))
      go false s low = s

  -- LEGACY AVC
  avc_single : (type : ℕ) → (length r ≡ 0 → ⊥) → is_video type ≡ true → is_legacy_avc (byte_at r 0) ≡ true → seals_nothing type (frame_head type r) ≡ false
  unfolding is_legacy_avc is_command frame_head tag_header is_enhanced_of
  avc_single zero n v l = absurd (omega (arith, eqb-true 0 1 v))
  avc_single (suc (suc k)) n v l = absurd (omega (arith, eqb-true (suc (suc k)) 1 v))
  avc_single (suc zero) n v l =
      let x : is_enhanced (byte_at r 0) ≡ false = not-true (is_enhanced (byte_at r 0)) (and_left (not (is_enhanced (byte_at r 0))) _ l) in
      let low = avc_low (byte_at r 0) l in
      let fine = legacy_cases (byte_at r 0) r (λ a. is_ok a.error ≡ true) x (λ _. refl) (λ _ _. refl) in
      let ok = ap (λ (a : VideoHeaderResult). is_ok a.error) (sym (video_legacy r n x)) ∙ fine in
      none_of 1 (frame_head 1 r) ok (nibble_closed 1 (byte_at r 0) (λ y. omega arith) (λ y. omega arith)) (simp x) (simp (ok, (video_facts_lem r).enhanced, x))

  -- LEGACY AAC
  aac_single : (type : ℕ) → 1 < length r → is_audio type ≡ true → byte_at r 0 / 16 ≡ 10 → seals_nothing type (frame_head type r) ≡ false
  unfolding frame_head tag_header is_enhanced_of sound_format opens_container
  aac_single (suc k) n v e = absurd (omega (arith, eqb-true (suc k) 0 v))
  aac_single zero n v e =
      let fine = ap (λ (a : Result AudioHeader ErrorCode). is_ok (error_of a)) (sym (legacy_aac (byte_at r 0) r Aac e (omega arith))) in
      let legacy = ap (λ (a : Result AudioHeader ErrorCode). is_ok (error_of a)) (sym (audio_legacy r (λ y. omega arith) (λ y. omega arith))) in
      let ok : is_ok (error_of (audio_header r)) ≡ true = legacy ∙ (rw e fine) in
      let f = audio_facts_lem r (only_ok _ ok) in
      none_of 0 (frame_head 0 r) ok (simp (ne_eqb (byte_at r 0) 0x95 (λ y. omega arith))) refl (simp (ok, f.enhanced, e))

  avc_long : (type : ℕ) → is_avc_of 0 type (frame_head type r) ≡ true → 1 < length r
  unfolding is_avc_of frame_head
  avc_long type e = ltb-true 1 (length r) (and_left (ltb 1 (length r)) _ (and_right (is_legacy_avc (byte_at r 0)) _ (and_right (is_video type) _ e)))

  aac_long : (type : ℕ) → is_aac_of 0 type (frame_head type r) ≡ true → 1 < length r
  unfolding is_aac_of frame_head
  aac_long type e = ltb-true 1 (length r) (and_left (ltb 1 (length r)) _ (and_right (is_legacy_aac (byte_at r 0)) _ (and_right (is_audio type) _ e)))

  pub judged_single : (type : ℕ) → type ≤ 1 → (codec : ConfigCodec) (from : ℕ) → sequence_start type (frame_head type r) ≡ record_at codec from
      → seals_nothing type (frame_head type r) ≡ false
  judged_single type t codec from q =
      start_cases type (frame_head type r) codec from q
      (λ x y f. enhanced_single type t x y)
      (λ z f. let v = avc_parts r type 0 z in avc_single type (λ y. omega (arith, avc_long type z)) v.0 v.1)
      (λ a f. let v = aac_parts r type 0 a in aac_single type (aac_long type a) v.0 (eqb-true (byte_at r 0 / 16) 10 v.1))
