-- The starred cases of docs/REQUIREMENTS.md: one table over the definitions, and one theorem about all its rows.
-- What they lean on stands first: the frame types' numbers, and the FourCCs that they name.
use Rattle.std.specs.Prelude.{◌≡◌, refl, Bool, true, false, ◌&&◌, List, [], ◌∷◌, map, ℕ, eqb, ℤ, pos, neg_ℤ}
use Rattle.std.specs.Bool.{beq}
use Rattle.std.proofs.Math.Option.{Option, none, some}
use Rattle.wire.specs.Wire.{be24_at, same_bytes, same_integer}
use Rattle.types.specs.Types.{error_number, Answer, frame_type_of, frame_type_answer}
use Rattle.fourcc.specs.Fourcc.{same_fourcc, fourcc_at, audio_codec_table, codec_in, audio_codec, codec_answer, fourcc_to_audio_codec}
use Rattle.wire.specs.Grammar.{byte, skip, guard, at_end, sealed_rest, open_rest}
use Rattle.codec_config.specs.Records.{set, sets, avc_extension, avc_picture_sets, avc, bit_at, bits_at, frequency_bit, frequency_valid, aac, record_grammar, record_valid, fourcc_codec, start_codec}
use Rattle.codec_config.specs.declared.ConfigCodec.{ConfigCodec}
use Rattle.codec_config.specs.declared.ConfigCodec.TheVariants.{Avc, Aac}
use Rattle.exvideo.specs.Video.{signed24}
use Rattle.exaudio.specs.Audio.{enhanced_header, audio_header}
use Rattle.multitrack_media.specs.Container.{
  Container,
  opens_container,
  form_of,
  legal_head,
  body_at,
  sized_at,
  header_at,
  track_fourcc,
  place_at,
  heads_at,
  container_heads,
  container_of,
}
use Rattle.multitrack_media.specs.declared.TrackPlace.{TrackPlace}
use Rattle.init_cache.specs.Head.{tag_header, frame_head, is_enhanced_of, is_video_of}
use Rattle.init_cache.specs.Verdicts.{sequence_start, valid_from, verdicts as verdictsOf}
use Rattle.init_cache.specs.Seen.{seen, is_container_of}
use Rattle.init_cache.specs.Kind.{kind_number, single_kind, kind_of, cache_kind}
use Rattle.modex.specs.Modex.{data_at, layer_at, chain_at, is_wrapped, chain_of, without_chain, peeled}

-- an answer's numbers: a value, or a refusal's number
abbrev gives_value : ℕ → Answer
gives_value n = record { error = pos 0; value = n }

abbrev refused_with : ℕ → Answer
refused_with n = record { error = neg_ℤ (pos n); value = 0 }

-- the lengths of a container's tracks
abbrev track_lengths : Option Container → List ℕ
track_lengths none = []
track_lengths (some c) = map (λ (t : TrackPlace). t.length) c.tracks

-- a case and what it must give
data Case : Type 0 where
  -- a number, and the frame type's
  frame_types : ℕ → Answer → Case
  -- a FourCC string, and the audio codec's number
  codecs : List ℕ → Answer → Case
  -- type, mask and payload, and the peeled payload
  peels : ℕ → ℕ → List ℕ → List ℕ → Case
  -- type and payload, and the lengths of the tracks; none where it is no accepted container
  containers : ℕ → List ℕ → List ℕ → Case
  -- type and payload, and the cache kind's number
  kinds : ℕ → List ℕ → ℕ → Case
  -- a codec's record, and its verdict
  verdicts : ConfigCodec → List ℕ → Bool → Case
  -- three bytes, and the composition time
  times : List ℕ → ℤ → Case

starred : List Case
starred =
    frame_types 0 (gives_value 0)
    ∷ frame_types 1 (gives_value 1)
    ∷ frame_types 4 (refused_with 21)
    ∷ codecs (0x4F ∷ 0x70 ∷ 0x75 ∷ 0x73 ∷ []) (gives_value 14)
    ∷ codecs (0x66 ∷ 0x4C ∷ 0x61 ∷ 0x43 ∷ []) (gives_value 10)
    ∷ peels 0 4 (0x97 ∷ 0x00 ∷ 0xAA ∷ 0x01 ∷ []) (0x91 ∷ [])
    ∷ containers 0 (0x95 ∷ 0x01 ∷ 0x4F ∷ 0x70 ∷ 0x75 ∷ 0x73 ∷ 0x07 ∷ []) (0 ∷ [])
    ∷ containers 0 (0x95 ∷ 0x11 ∷ 0x4F ∷ 0x70 ∷ 0x75 ∷ 0x73 ∷ 0x07 ∷ 0x00 ∷ 0x00 ∷ 0x00 ∷ []) (0 ∷ [])
    ∷ containers 0 (0x95 ∷ 0x11 ∷ 0x4F ∷ 0x70 ∷ 0x75 ∷ 0x73 ∷ 0x07 ∷ 0x00 ∷ 0x00 ∷ 0x01 ∷ []) []
    ∷ containers 1 (0xD6 ∷ 0x01 ∷ 0x61 ∷ 0x76 ∷ 0x63 ∷ 0x31 ∷ 0x07 ∷ []) []
    ∷ containers 0 (0x85 ∷ 0x01 ∷ 0x4F ∷ 0x70 ∷ 0x75 ∷ 0x73 ∷ 0x07 ∷ []) []
    ∷ kinds 0 (0x90 ∷ 0x4F ∷ 0x70 ∷ 0x75 ∷ 0x73 ∷ []) 2
    ∷ kinds 0 (0x90 ∷ 0x66 ∷ 0x4C ∷ 0x61 ∷ 0x43 ∷ []) 0
    ∷ verdicts Aac (0x12 ∷ 0x10 ∷ []) true
    ∷ verdicts Aac (0x12 ∷ []) false
    ∷ verdicts Aac (0x16 ∷ 0x80 ∷ []) false
    ∷ verdicts Avc (0x01 ∷ 0x42 ∷ 0x00 ∷ 0x1E ∷ 0xFF ∷ 0xE1 ∷ 0x00 ∷ 0x01 ∷ 0x67 ∷ 0x01 ∷ 0x00 ∷ 0x01 ∷ 0x68 ∷ []) true
    ∷ verdicts Avc (0x01 ∷ 0x42 ∷ 0x00 ∷ 0x1E ∷ 0xFF ∷ 0xE1 ∷ 0x00 ∷ 0x01 ∷ 0x67 ∷ 0x01 ∷ 0x00 ∷ 0x01 ∷ 0x68 ∷ 0x00 ∷ []) false
    ∷ times (0x7F ∷ 0xFF ∷ 0xFF ∷ []) (pos 8388607)
    ∷ times (0x80 ∷ 0x00 ∷ 0x00 ∷ []) (neg_ℤ (pos 8388608))
    ∷ []

same_answer : Answer → Answer → Bool
same_answer a b = same_integer a.error b.error && eqb a.value b.value

-- whether a case gives what it must
gives : Case → Bool
gives (frame_types n t) = same_answer (frame_type_answer (frame_type_of n)) t
gives (codecs f c) = same_answer (codec_answer (fourcc_to_audio_codec f)) c
gives (peels type mask p result) = same_bytes (peeled type mask p) result
gives (containers type p lengths) = same_bytes (track_lengths (container_of type p)) lengths
gives (kinds type p kind) = eqb (kind_number (cache_kind type p)) kind
gives (verdicts codec p valid) = beq (record_valid codec p) valid
gives (times p t) = same_integer (signed24 (be24_at p 0)) t

all : List Case → Bool
all [] = true
all (c ∷ cs) = gives c && all cs

every_starred_case : all starred ≡ true
unfolding all starred gives same_bytes same_answer error_number frame_type_of same_fourcc fourcc_at audio_codec_table codec_in audio_codec
    fourcc_to_audio_codec data_at layer_at chain_at is_wrapped chain_of without_chain peeled opens_container form_of legal_head body_at sized_at header_at
    track_fourcc place_at heads_at container_heads container_of byte skip guard at_end sealed_rest open_rest set sets avc_extension avc_picture_sets avc bit_at
    bits_at frequency_bit frequency_valid aac record_grammar record_valid fourcc_codec start_codec enhanced_header audio_header tag_header frame_head
    is_enhanced_of is_video_of sequence_start valid_from verdictsOf seen is_container_of single_kind kind_of cache_kind signed24
every_starred_case = refl
