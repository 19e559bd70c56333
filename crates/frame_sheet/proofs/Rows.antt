-- Rows by computation: the frame sheet of docs/REQUIREMENTS.md's example, of each refusal, and at the limit.
use mathlib.Core.Path.{◌≡◌, refl}
use mathlib.Core.Bool.{Bool, true, ◌&&◌}
use mathlib.Core.List.{List, [], ◌∷◌, ◌++◌}
use Prim.Native.Nat.{ℕ}
use Prim.Native.Char.{code}
use Prim.Native.String.{String, [] as []ˢ, ◌∷◌ as ◌∷ˢ◌}
use Rattle.wire.specs.Wire.{same_bytes}
use Rattle.wire.specs.Grammar.{byte, skip, guard, at_end, sealed_rest, open_rest}
use Rattle.types.specs.Types.{error_number}
use Rattle.fourcc.specs.Fourcc.{same_fourcc, fourcc_at, audio_codec_table, codec_in, audio_codec}
use Rattle.modex.specs.Modex.{data_at, layer_at, chain_at, layers_at, is_wrapped, chain_of, peeled_layers, without_chain, peeled}
use Rattle.modex.specs.Offsets.{any_bad, has_bad_offset}
use Rattle.codec_config.specs.Records.{bit_at, bits_at, frequency_bit, frequency_valid, aac, record_grammar, record_valid, fourcc_codec, start_codec}
use Rattle.exvideo.specs.Video.{tag_frame_type, is_legacy_avc, is_command, is_timed, signed24, pattern32, time_at, legacy_header, enhanced_header, video_header}
use Rattle.exaudio.specs.Audio.{sound_format, audio_header}
use Rattle.exaudio.specs.Audio as audio
use Rattle.multitrack_media.specs.Container.{
  opens_container,
  form_of,
  legal_head,
  body_at,
  sized_at,
  header_at,
  track_fourcc,
  place_at,
  heads_at,
  container_heads,
  container_of,
}
use Rattle.init_cache.specs.Head.{tag_header, frame_head, is_enhanced_of, is_video_of, is_avc_of, is_aac_of}
use Rattle.init_cache.specs.Kind.{cache_kind, is_legacy_frame, kind_of, single_kind}
use Rattle.init_cache.specs.Seen.{seen, is_container_of}
use Rattle.init_cache.specs.Verdicts.{sequence_start, valid_from, verdicts}
use Rattle.delivery.specs.Hint.{delivery_hint, hint_from, hint_of, is_command_frame, is_critical, is_metadata, is_resync_point, names_packet_type}
use Rattle.frame.specs.Pass.{pass_error, pass_report, result_report}
use Rattle.frame_sheet.specs.Text.{digits, decimal, signed, column}
use Rattle.frame_sheet.specs.Lines.{sheet_line, refusal_line}
use Rattle.frame_sheet.specs.Steps.{input_error, body_length, frame_error, frame_text}
use Rattle.frame_sheet.specs.Sheet.{frame_goes_on, sheet_from, sheet_of, frame_sheet}

-- the bytes of a text, and of lines that are each ended by `0A`
unfoldable pub ascii : String → List ℕ
ascii []ˢ = []
ascii (c ∷ˢ s) = code c ∷ ascii s

unfoldable pub lines : List String → List ℕ
lines [] = []
lines (l ∷ ls) = ascii l ++ (10 ∷ lines ls)

-- a sheet, an input, and the lines that it must give
record Row : Type 0 where
  sheet : List ℕ → List ℕ
  input : List ℕ
  printed : List String

abbrev row : (List ℕ → List ℕ) → List ℕ → List String → Row
row sheet input printed = record { sheet = sheet; input = input; printed = printed }

abbrev prints : List ℕ → List String → Row
prints = row frame_sheet

rows : List Row
rows =
    -- the example of docs/REQUIREMENTS.md
    prints
    (0x00 ∷ 0x00 ∷ 0x00 ∷ 0x00 ∷ 0x01 ∷ 0x00 ∷ 0x00 ∷ 0x05 ∷ 0x17 ∷ 0x01 ∷ 0x00 ∷ 0x00 ∷ 0x00 ∷ 0x00 ∷ 0x00 ∷ 0x00 ∷ 0x04 ∷ 0xAF ∷ 0x00 ∷ 0x12 ∷ 0x10
    ∷ 0x00 ∷ 0x00 ∷ 0x00 ∷ 0x0B ∷ 0x95 ∷ 0x11 ∷ 0x4F ∷ 0x70 ∷ 0x75 ∷ 0x73 ∷ 0x01 ∷ 0x00 ∷ 0x00 ∷ 0x01 ∷ 0xAA ∷ [])
    ("     1  0        0  -1     0  0  0"
    ∷ "     2  1        5   0     0  3  1"
    ∷ "     3  0        4   0     0  2  0"
    ∷ "     4  0       11   0     1  0  2"
    ∷ [])
    -- no frame
    ∷ prints [] []
    -- the input ends inside a head; a type above 3, whatever follows; a length over 32,768; the input ends inside a body
    ∷ prints (0x00 ∷ 0x00 ∷ 0x00 ∷ []) ("     1 -25" ∷ [])
    ∷ prints (0x04 ∷ 0xFF ∷ 0xFF ∷ 0xFF ∷ []) ("     1 -21" ∷ [])
    ∷ prints (0x00 ∷ 0x00 ∷ 0x80 ∷ 0x01 ∷ []) ("     1 -22" ∷ [])
    ∷ prints (0x00 ∷ 0x00 ∷ 0x00 ∷ 0x01 ∷ []) ("     1 -25" ∷ [])
    -- an offset in two data bytes, and one over 999,999, are refused by the pass; one of 999,999 is not
    ∷ prints (0x00 ∷ 0x00 ∷ 0x00 ∷ 0x05 ∷ 0x97 ∷ 0x01 ∷ 0xAA ∷ 0xBB ∷ 0x01 ∷ []) ("     1  -3" ∷ [])
    ∷ prints (0x02 ∷ 0x00 ∷ 0x00 ∷ 0x06 ∷ 0x87 ∷ 0x02 ∷ 0x0F ∷ 0x42 ∷ 0x40 ∷ 0x00 ∷ []) ("     1  -3" ∷ [])
    ∷ prints (0x00 ∷ 0x00 ∷ 0x00 ∷ 0x06 ∷ 0x97 ∷ 0x02 ∷ 0x0F ∷ 0x42 ∷ 0x3F ∷ 0x01 ∷ []) ("     1  0        6  -1     0  0  2" ∷ [])
    -- a refused frame ends the sheet
    ∷ prints
    (0x02 ∷ 0x00 ∷ 0x00 ∷ 0x00 ∷ 0x04 ∷ 0x00 ∷ 0x00 ∷ 0x00 ∷ 0x02 ∷ 0x00 ∷ 0x00 ∷ 0x00 ∷ [])
    ("     1  2        0   0     0  0  0" ∷ "     2 -21" ∷ [])
    -- the last frame ends it too: what is behind is not judged. Here the first frame is the last
    ∷ row (sheet_of (record { width = 6; last = 1 })) (0x02 ∷ 0x00 ∷ 0x00 ∷ 0x00 ∷ 0x04 ∷ 0x00 ∷ 0x00 ∷ 0x00 ∷ []) ("     1  2        0   0     0  0  0" ∷ [])
    -- a first column of 10
    ∷ row (sheet_of (record { width = 10; last = 4294967295 })) (0x02 ∷ 0x00 ∷ 0x00 ∷ 0x00 ∷ 0x02 ∷ []) ("         1  2        0   0     0  0  0" ∷ "         2 -25" ∷ [])
    ∷ []

all : List Row → Bool
all [] = true
all (r ∷ rs) = same_bytes (r.sheet r.input) (lines r.printed) && all rs

every_row : all rows ≡ true
unfolding all rows lines ascii same_bytes byte skip guard at_end sealed_rest open_rest error_number
    same_fourcc fourcc_at audio_codec_table codec_in audio_codec
    data_at layer_at chain_at layers_at is_wrapped chain_of peeled_layers without_chain peeled any_bad has_bad_offset
    bit_at bits_at frequency_bit frequency_valid aac record_grammar record_valid fourcc_codec start_codec
    tag_frame_type is_legacy_avc is_command is_timed signed24 pattern32 time_at legacy_header enhanced_header video_header
    sound_format audio_header audio.legacy_header audio.enhanced_header
    opens_container form_of legal_head body_at sized_at header_at track_fourcc place_at heads_at container_heads container_of
    tag_header frame_head is_enhanced_of is_video_of is_avc_of is_aac_of cache_kind is_legacy_frame kind_of single_kind seen is_container_of
    sequence_start valid_from verdicts delivery_hint hint_from hint_of is_command_frame is_critical is_metadata is_resync_point names_packet_type
    pass_error pass_report result_report
    digits decimal signed column sheet_line refusal_line input_error body_length frame_error frame_text frame_goes_on sheet_from frame_sheet
every_row = refl
