-- Rows by computation: the examples of docs/REQUIREMENTS.md, section 23, N8.
use mathlib.Core.Path.{◌≡◌, refl}
use mathlib.Core.Option.{some}
use mathlib.Core.List.{List, [], ◌∷◌}
use Prim.Native.Nat.{ℕ}
use Rattle.wire.specs.Grammar.{byte, skip, guard, at_end, sealed_rest, open_rest}
use Rattle.types.specs.declared.ErrorCode.TheVariants as error
use Rattle.fourcc.specs.Fourcc.{same_fourcc, fourcc_at, audio_codec_table, codec_in, audio_codec}
use Rattle.modex.specs.Modex.{data_at, layer_at, chain_at, layers_at, is_wrapped, chain_of, peeled_layers, without_chain, peeled}
use Rattle.modex.specs.Offsets.{any_bad, has_bad_offset}
use Rattle.codec_config.specs.Records.{bit_at, bits_at, frequency_bit, frequency_valid, aac, record_grammar, record_mask, record_valid, fourcc_codec, start_codec}
use Rattle.exvideo.specs.Video.{tag_frame_type, is_legacy_avc, is_command, is_timed, signed24, pattern32, time_at, legacy_header, enhanced_header, video_header}
use Rattle.exaudio.specs.Audio.{sound_format, audio_header}
use Rattle.exaudio.specs.Audio as audio
use Rattle.multitrack_media.specs.Container.{opens_container, form_of, legal_head, container_heads, container_of}
use Rattle.init_cache.specs.Head.{tag_header, frame_head, is_enhanced_of, is_video_of, is_avc_of, is_aac_of}
use Rattle.init_cache.specs.Verdicts.{sequence_start, valid_from, verdicts}
use Rattle.init_cache.specs.Seen.{seen, is_container_of}
use Rattle.init_cache.specs.Kind.{is_legacy_frame, single_kind, kind_of, cache_kind}
use Rattle.init_cache.specs.declared.kind.CacheFrameKind.TheVariants.{LiveOnly, AudioSequenceHeader, VideoKeyframe}
use Rattle.frame.specs.Pass.{pass_error}
use Rattle.frame_store.specs.Store.{Store, lent_store, no_lengths, is_held, held, is_too_long, length_after, buffer_after, keep_in, Frame, offered, kept_kind, store_after, store_error}
use Rattle.frame_store.specs.Late.{late_frames, late_frame, late_info}
use Rattle.frame_store.specs.History.{run_store}

-- THE FRAMES. A video sequence header, and the same behind a ModEx layer
abbrev h_bytes : List ℕ
h_bytes = 0x90 ∷ 0x76 ∷ 0x70 ∷ 0x30 ∷ 0x39 ∷ 0x00 ∷ []

abbrev H : Frame
H = offered 1 4 1 h_bytes 9

abbrev W : Frame
W = offered 1 4 1 (0x97 ∷ 0x00 ∷ 0xAA ∷ 0x10 ∷ 0x76 ∷ 0x70 ∷ 0x30 ∷ 0x39 ∷ 0x00 ∷ []) 9

-- an audio sequence header; keyframes of one byte and of two; a frame that is not kept
abbrev A : Frame
A = offered 0 4 1 (0xAF ∷ 0x00 ∷ 0x12 ∷ 0x10 ∷ []) 9

abbrev K : Frame
K = offered 1 4 1 (0x12 ∷ []) 9

abbrev K2 : Frame
K2 = offered 1 4 1 (0x12 ∷ 0xAA ∷ []) 9

abbrev L : Frame
L = offered 1 4 1 (0x22 ∷ []) 9

-- and the header with an output that is too short for it
abbrev H-refused : Frame
H-refused = offered 1 4 1 h_bytes 5

-- a fresh store whose video and audio slots have eight bytes, and the keyframe's so many as are given
abbrev eight : List ℕ
eight = 1 ∷ 2 ∷ 3 ∷ 4 ∷ 5 ∷ 6 ∷ 7 ∷ 8 ∷ []

abbrev fresh : List ℕ → Store
fresh keyframe = lent_store no_lengths eight eight keyframe

-- a store whose audio length is past its buffer of four bytes
abbrev past : Store
past = lent_store (record { video = 0; audio = 9; keyframe = 0 }) eight (1 ∷ 2 ∷ 3 ∷ 4 ∷ []) eight

pub record Rows : Type 0 where
  header : kept_kind H ≡ 1
  audio_header_lem : kept_kind A ≡ 2
  keyframe : kept_kind K ≡ 3
  longer_keyframe : kept_kind K2 ≡ 3
  live : kept_kind L ≡ 0
  refused : kept_kind H-refused ≡ 0
  -- a layered header is kept peeled, and is measured so: its nine bytes fit a slot of six
  layered : store_after W (lent_store no_lengths (1 ∷ 2 ∷ 3 ∷ 4 ∷ 5 ∷ 6 ∷ []) [] [])
      ≡ lent_store (record { video = 6; audio = 0; keyframe = 0 }) h_bytes [] []
  -- a frame longer than its slot: -31, the slot is empty, its bytes are kept
  too_long : store_error K2 (run_store (K ∷ []) (fresh (9 ∷ []))) ≡ error.SlotTooShort
  emptied : run_store (K ∷ K2 ∷ []) (fresh (9 ∷ [])) ≡ fresh (0x12 ∷ [])
  -- a video header empties the keyframe, the same as before or not; an audio header does not
  same_header : run_store (H ∷ K ∷ H ∷ []) (fresh (9 ∷ []))
      ≡ lent_store (record { video = 6; audio = 0; keyframe = 0 }) (0x90 ∷ 0x76 ∷ 0x70 ∷ 0x30 ∷ 0x39 ∷ 0x00 ∷ 7 ∷ 8 ∷ []) eight (0x12 ∷ [])
  header_too_long : run_store (K ∷ H ∷ []) (lent_store no_lengths (1 ∷ []) [] (9 ∷ [])) ≡ lent_store no_lengths (1 ∷ []) [] (0x12 ∷ [])
  audio_leaves : held 3 (run_store (K ∷ A ∷ []) (fresh (9 ∷ []))) ≡ some (0x12 ∷ [])
  -- a header that the pass refuses changes nothing
  refused_leaves : held 3 (run_store (K ∷ H-refused ∷ []) (fresh (9 ∷ []))) ≡ some (0x12 ∷ [])
  -- bytes behind a shorter frame are kept
  behind : run_store (K2 ∷ K ∷ []) (fresh (9 ∷ 9 ∷ 9 ∷ [])) ≡ lent_store (record { video = 0; audio = 0; keyframe = 1 }) eight eight (0x12 ∷ 0xAA ∷ 9 ∷ [])
  -- a length past its buffer is not sent, stays where nothing is kept there, and is replaced where something is
  not_sent : late_frames past ≡ []
  stays : run_store (L ∷ []) past ≡ past
  replaced : (run_store (A ∷ []) past).lengths ≡ record { video = 0; audio = 4; keyframe = 0 }
  -- by number: audio header, keyframe, and no third
  first : late_info (run_store (K ∷ A ∷ []) (fresh eight)) 0 ≡ record { count = 2; kind = AudioSequenceHeader; length = 4 }
  second : late_info (run_store (K ∷ A ∷ []) (fresh eight)) 1 ≡ record { count = 2; kind = VideoKeyframe; length = 1 }
  third : late_info (run_store (K ∷ A ∷ []) (fresh eight)) 2 ≡ record { count = 2; kind = LiveOnly; length = 0 }

pub rows : Rows
unfolding kept_kind store_after store_error keep_in length_after buffer_after is_too_long is_held held late_frames late_frame late_info pass_error any_bad has_bad_offset data_at layer_at chain_at layers_at is_wrapped chain_of peeled_layers without_chain peeled tag_frame_type is_legacy_avc is_command is_timed signed24 pattern32 time_at legacy_header enhanced_header video_header sound_format audio_header audio.legacy_header opens_container form_of legal_head container_heads container_of tag_header frame_head is_enhanced_of is_video_of is_avc_of is_aac_of sequence_start verdicts seen is_container_of is_legacy_frame single_kind kind_of cache_kind same_fourcc fourcc_at audio_codec_table codec_in audio_codec bit_at bits_at frequency_bit frequency_valid aac record_grammar record_mask fourcc_codec start_codec byte skip guard at_end sealed_rest open_rest valid_from record_valid
rows =
    record {
      header = refl;
      audio_header_lem = refl;
      keyframe = refl;
      longer_keyframe = refl;
      live = refl;
      refused = refl;
      layered = refl;
      too_long = refl;
      emptied = refl;
      same_header = refl;
      header_too_long = refl;
      audio_leaves = refl;
      refused_leaves = refl;
      behind = refl;
      not_sent = refl;
      stays = refl;
      replaced = refl;
      first = refl;
      second = refl;
      third = refl;
    }
