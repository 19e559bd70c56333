-- Rows by computation: the sheets of the smallest files that tell a reading from its rivals, and the limit.
use mathlib.Core.Path.{◌≡◌, refl}
use mathlib.Core.Bool.{Bool, true, ◌&&◌}
use mathlib.Core.List.{List, [], ◌∷◌, ◌++◌}
use Prim.Native.Nat.{ℕ}
use Prim.Native.String.{String}
use Rattle.wire.specs.Wire.{same_bytes}
use Rattle.wire.specs.Grammar.{byte, skip, guard, at_end, sealed_rest, open_rest}
use Rattle.types.specs.Types.{error_number}
use Rattle.fourcc.specs.Fourcc.{same_fourcc, fourcc_at, audio_codec_table, codec_in, audio_codec}
use Rattle.modex.specs.Modex.{data_at, layer_at, chain_at, layers_at, is_wrapped, chain_of, peeled_layers, without_chain, peeled}
use Rattle.modex.specs.Offsets.{any_bad, has_bad_offset}
use Rattle.codec_config.specs.Records.{bit_at, bits_at, frequency_bit, frequency_valid, aac, record_grammar, record_valid, fourcc_codec, start_codec}
use Rattle.exvideo.specs.Video.{tag_frame_type, is_legacy_avc, is_command, is_timed, signed24, pattern32, time_at, legacy_header, enhanced_header, video_header}
use Rattle.exaudio.specs.Audio.{sound_format, audio_header}
use Rattle.exaudio.specs.Audio as audio
use Rattle.multitrack_media.specs.Container.{
  opens_container,
  form_of,
  legal_head,
  body_at,
  sized_at,
  header_at,
  track_fourcc,
  place_at,
  heads_at,
  container_heads,
  container_of,
}
use Rattle.init_cache.specs.Head.{tag_header, frame_head, is_enhanced_of, is_video_of, is_avc_of, is_aac_of}
use Rattle.init_cache.specs.Kind.{cache_kind, is_legacy_frame, kind_of, single_kind}
use Rattle.init_cache.specs.Seen.{seen, is_container_of}
use Rattle.init_cache.specs.Verdicts.{sequence_start, valid_from, verdicts}
use Rattle.delivery.specs.Hint.{delivery_hint, hint_from, hint_of, is_command_frame, is_critical, is_metadata, is_resync_point, names_packet_type}
use Rattle.frame.specs.Pass.{pass_error, pass_report, result_report}
use Rattle.frame_sheet.specs.Text.{digits, decimal, signed, column}
use Rattle.frame_sheet.specs.Lines.{sheet_line, refusal_line}
use Rattle.frame_sheet.specs.Steps.{input_error, frame_error, frame_text}
use Rattle.frame_sheet.specs.Sheet.{frame_goes_on}
use Rattle.frame_sheet.proofs.Rows.{ascii, lines}
use Rattle.flv.specs.Files.{is_header, start_refusal, start_error, tag_refusal, read_tags}
use Rattle.tag_sheet.specs.Sheet.{sheet_refusal, sheet_of_tags, flv_sheet_of, flv_sheet}

-- a header; a start; an empty audio tag; an empty tag whose type byte is that of an encrypted audio tag
abbrev header : List ℕ
header = 0x46 ∷ 0x4C ∷ 0x56 ∷ 0x01 ∷ 0x05 ∷ 0x00 ∷ 0x00 ∷ 0x00 ∷ 0x09 ∷ []

abbrev start : List ℕ
start = header ++ (0x00 ∷ 0x00 ∷ 0x00 ∷ 0x00 ∷ [])

abbrev empty : List ℕ
empty = 0x08 ∷ 0x00 ∷ 0x00 ∷ 0x00 ∷ 0x00 ∷ 0x00 ∷ 0x00 ∷ 0x00 ∷ 0x00 ∷ 0x00 ∷ 0x00 ∷ 0x00 ∷ 0x00 ∷ 0x00 ∷ 0x0B ∷ []

abbrev other : List ℕ
other = 0x28 ∷ 0x00 ∷ 0x00 ∷ 0x00 ∷ 0x00 ∷ 0x00 ∷ 0x00 ∷ 0x00 ∷ 0x00 ∷ 0x00 ∷ 0x00 ∷ 0x00 ∷ 0x00 ∷ 0x00 ∷ 0x0B ∷ []

-- an audio tag with one layer of type 0, but for its back-pointer
abbrev bad_offset : List ℕ
bad_offset = 0x08 ∷ 0x00 ∷ 0x00 ∷ 0x04 ∷ 0x00 ∷ 0x00 ∷ 0x00 ∷ 0x00 ∷ 0x00 ∷ 0x00 ∷ 0x00 ∷ 0x97 ∷ 0x00 ∷ 0xAA ∷ 0x01 ∷ []

-- a sheet, a file, and the lines that it must give
record Row : Type 0 where
  sheet : List ℕ → List ℕ
  file : List ℕ
  printed : List String

abbrev row : (List ℕ → List ℕ) → List ℕ → List String → Row
row sheet file printed = record { sheet = sheet; file = file; printed = printed }

abbrev prints : List ℕ → List String → Row
prints = row flv_sheet

-- where the first frame is the last
abbrev prints_one : List ℕ → List String → Row
prints_one = row (flv_sheet_of (record { width = 6; last = 1 }))

rows : List Row
rows =
    -- an empty file, one byte, nine zero bytes
    prints [] ("     1 -25" ∷ [])
    ∷ prints (0x00 ∷ []) ("     1 -25" ∷ [])
    ∷ prints (0x00 ∷ 0x00 ∷ 0x00 ∷ 0x00 ∷ 0x00 ∷ 0x00 ∷ 0x00 ∷ 0x00 ∷ 0x00 ∷ []) ("     1 -29" ∷ [])
    -- a file that ends behind the header, and inside the first back-pointer; a wrong one, with a byte behind it or none
    ∷ prints header ("     1 -25" ∷ [])
    ∷ prints (header ++ (0x00 ∷ 0x00 ∷ 0x01 ∷ [])) ("     1 -25" ∷ [])
    ∷ prints (header ++ (0x00 ∷ 0x00 ∷ 0x00 ∷ 0x01 ∷ [])) ("     1 -30" ∷ [])
    ∷ prints (header ++ (0x00 ∷ 0x00 ∷ 0x00 ∷ 0x01 ∷ 0x00 ∷ [])) ("     1 -30" ∷ [])
    -- another version, a larger data offset; any flags
    ∷ prints (0x46 ∷ 0x4C ∷ 0x56 ∷ 0x02 ∷ 0x05 ∷ 0x00 ∷ 0x00 ∷ 0x00 ∷ 0x09 ∷ 0x00 ∷ 0x00 ∷ 0x00 ∷ 0x00 ∷ []) ("     1 -29" ∷ [])
    ∷ prints (0x46 ∷ 0x4C ∷ 0x56 ∷ 0x01 ∷ 0x05 ∷ 0x01 ∷ 0x00 ∷ 0x00 ∷ 0x09 ∷ 0x00 ∷ 0x00 ∷ 0x00 ∷ 0x00 ∷ []) ("     1 -29" ∷ [])
    ∷ prints (0x46 ∷ 0x4C ∷ 0x56 ∷ 0x01 ∷ 0xFF ∷ 0x00 ∷ 0x00 ∷ 0x00 ∷ 0x09 ∷ 0x00 ∷ 0x00 ∷ 0x00 ∷ 0x00 ∷ []) []
    -- no frames; one, and a cut head behind it
    ∷ prints start []
    ∷ prints (start ++ empty) ("     1  0        0  -1     0  0  0" ∷ [])
    ∷ prints (start ++ (empty ++ (0x00 ∷ []))) ("     1  0        0  -1     0  0  0" ∷ "     2 -25" ∷ [])
    -- another tag: its back-pointer is judged, its type byte is whole, and it has no number
    ∷ prints (start ++ (0x00 ∷ 0x00 ∷ 0x00 ∷ 0x00 ∷ 0x00 ∷ 0x00 ∷ 0x00 ∷ 0x00 ∷ 0x00 ∷ 0x00 ∷ 0x00 ∷ 0x00 ∷ 0x00 ∷ 0x00 ∷ 0x00 ∷ [])) ("     1 -30" ∷ [])
    ∷ prints (start ++ (0x00 ∷ 0x00 ∷ 0x00 ∷ 0x00 ∷ 0x00 ∷ 0x00 ∷ 0x00 ∷ 0x00 ∷ 0x00 ∷ 0x00 ∷ 0x00 ∷ 0x00 ∷ 0x00 ∷ 0x00 ∷ [])) ("     1 -25" ∷ [])
    ∷ prints (start ++ other) []
    ∷ prints (start ++ (other ++ (empty ++ (0x08 ∷ 0x00 ∷ 0x00 ∷ 0x00 ∷ 0x00 ∷ [])))) ("     1  0        0  -1     0  0  0" ∷ "     2 -25" ∷ [])
    -- a frame over 32,768 bytes is refused right behind its head, another tag never
    ∷ prints (start ++ (0x08 ∷ 0x00 ∷ 0x80 ∷ 0x01 ∷ 0x00 ∷ 0x00 ∷ 0x00 ∷ 0x00 ∷ 0x00 ∷ 0x00 ∷ 0x00 ∷ [])) ("     1 -22" ∷ [])
    ∷ prints (start ++ (0x08 ∷ 0x00 ∷ 0x80 ∷ 0x00 ∷ 0x00 ∷ 0x00 ∷ 0x00 ∷ 0x00 ∷ 0x00 ∷ 0x00 ∷ 0x00 ∷ [])) ("     1 -25" ∷ [])
    ∷ prints (start ++ (0x00 ∷ 0x00 ∷ 0x80 ∷ 0x01 ∷ 0x00 ∷ 0x00 ∷ 0x00 ∷ 0x00 ∷ 0x00 ∷ 0x00 ∷ 0x00 ∷ [])) ("     1 -25" ∷ [])
    -- a back-pointer that does not match, in its lowest byte and in its highest; a last tag without one
    ∷ prints (start ++ (0x08 ∷ 0x00 ∷ 0x00 ∷ 0x00 ∷ 0x00 ∷ 0x00 ∷ 0x00 ∷ 0x00 ∷ 0x00 ∷ 0x00 ∷ 0x00 ∷ 0x00 ∷ 0x00 ∷ 0x00 ∷ 0x0C ∷ [])) ("     1 -30" ∷ [])
    ∷ prints (start ++ (0x08 ∷ 0x00 ∷ 0x00 ∷ 0x00 ∷ 0x00 ∷ 0x00 ∷ 0x00 ∷ 0x00 ∷ 0x00 ∷ 0x00 ∷ 0x00 ∷ 0x01 ∷ 0x00 ∷ 0x00 ∷ 0x0B ∷ [])) ("     1 -30" ∷ [])
    ∷ prints (start ++ (0x08 ∷ 0x00 ∷ 0x00 ∷ 0x01 ∷ 0x00 ∷ 0x00 ∷ 0x00 ∷ 0x00 ∷ 0x00 ∷ 0x00 ∷ 0x00 ∷ 0xAF ∷ [])) ("     1 -25" ∷ [])
    -- a frame that the whole pass refuses, for an offset of one data byte: behind a back-pointer that matches, not one that does not, or is cut
    ∷ prints (start ++ (bad_offset ++ (0x00 ∷ 0x00 ∷ 0x00 ∷ 0x0F ∷ 0x00 ∷ []))) ("     1  -3" ∷ [])
    ∷ prints (start ++ (bad_offset ++ (0x00 ∷ 0x00 ∷ 0x00 ∷ 0x0E ∷ []))) ("     1 -30" ∷ [])
    ∷ prints (start ++ (bad_offset ++ (0x00 ∷ 0x00 ∷ 0x00 ∷ []))) ("     1 -25" ∷ [])
    -- behind the last frame nothing is judged; in its place a fault is, and other tags before it do not count
    ∷ prints_one (start ++ (empty ++ (0x00 ∷ []))) ("     1  0        0  -1     0  0  0" ∷ [])
    ∷ prints_one (start ++ (other ++ (0x00 ∷ []))) ("     1 -25" ∷ [])
    ∷ []

all : List Row → Bool
all [] = true
all (r ∷ rs) = same_bytes (r.sheet r.file) (lines r.printed) && all rs

every_row : all rows ≡ true
unfolding all rows lines ascii is_header start_refusal start_error tag_refusal read_tags sheet_refusal sheet_of_tags flv_sheet same_bytes byte skip guard at_end sealed_rest open_rest error_number
    same_fourcc fourcc_at audio_codec_table codec_in audio_codec
    data_at layer_at chain_at layers_at is_wrapped chain_of peeled_layers without_chain peeled any_bad has_bad_offset
    bit_at bits_at frequency_bit frequency_valid aac record_grammar record_valid fourcc_codec start_codec
    tag_frame_type is_legacy_avc is_command is_timed signed24 pattern32 time_at legacy_header enhanced_header video_header
    sound_format audio_header audio.legacy_header audio.enhanced_header
    opens_container form_of legal_head body_at sized_at header_at track_fourcc place_at heads_at container_heads container_of
    tag_header frame_head is_enhanced_of is_video_of is_avc_of is_aac_of cache_kind is_legacy_frame kind_of single_kind seen is_container_of
    sequence_start valid_from verdicts delivery_hint hint_from hint_of is_command_frame is_critical is_metadata is_resync_point names_packet_type
    pass_error pass_report result_report
    digits decimal signed column sheet_line refusal_line input_error frame_error frame_text frame_goes_on
every_row = refl
