-- Rows by computation: which bytes of a payload are sealed, and pairs of frames that meet the premise of demand 3, are not refused and differ.
use mathlib.Core.Path.{◌≡◌, refl, sym, ap, ◌∙◌}
use mathlib.Core.Bool.{Bool, true, false, cond, ◌&&◌, ◌||◌}
use mathlib.Core.List.{List, [], ◌∷◌, ◌++◌, map}
use Prim.Native.Nat.{ℕ, zero, suc, ◌+◌, ◌<◌}
use native.Mathlib.Omega.{arith}
use lib.Dec.{eqb}
use lib.ListN.{length, replicate}
use borrow.Author.Tests.{eqb-true}
use Rattle.wire.specs.Wire.{byte_at, bytes24, same_bytes}
use Rattle.wire.specs.Mask.{LowEquivalent, sealed_at}
use Rattle.wire.specs.Grammar.{byte, skip, guard, at_end, sealed_rest, open_rest}
use Rattle.wire.proofs.Bools.{and_left, and_right, true_or_false}
use Rattle.types.specs.declared.ErrorCode.TheVariants as error
use Rattle.fourcc.specs.Fourcc.{avc1, hvc1, vvc1, opus, mp4a, flac, same_fourcc, fourcc_at, audio_codec_table, codec_in, audio_codec}
use Rattle.modex.specs.Modex.{data_at, layer_at, chain_at, layers_at, is_wrapped, chain_of, peeled_layers, without_chain, peeled}
use Rattle.modex.specs.Offsets.{any_bad, has_bad_offset}
use Rattle.modex.specs.Sealed.{sealed_in_layer, sealed_in_layers, sealed_under_layers}
use Rattle.codec_config.specs.Records.{set, sets, avc_extension, avc_picture_sets, avc, set_seen, hevc_arrays, hevc}
use Rattle.codec_config.specs.Records.{bit_at, bits_at, frequency_bit, frequency_valid, aac, record_grammar, record_mask, fourcc_codec, start_codec}
use Rattle.exvideo.specs.Video.{tag_frame_type, is_legacy_avc, is_command, is_timed, signed24, pattern32, time_at, legacy_header, enhanced_header, video_header}
use Rattle.exaudio.specs.Audio.{sound_format, audio_header}
use Rattle.exaudio.specs.Audio as audio
use Rattle.multitrack_media.specs.Container.{opens_container, form_of, legal_head, body_at, sized_at, header_at, track_fourcc, place_at, heads_at, container_heads, container_of}
use Rattle.multitrack_media.specs.Sealed.{in_body, sealed_in_container}
use Rattle.init_cache.specs.Head.{tag_header, frame_head, is_enhanced_of, is_video_of, is_avc_of, is_aac_of}
use Rattle.init_cache.specs.Verdicts.{sequence_start}
use Rattle.frame.specs.Pass.{pass_error}
use Rattle.frame.specs.Sealed.{seal_start, seals_nothing, sealed_in_result, sealed_in_payload}
use Rattle.frame.specs.Demand3.{Agree}

-- RECORDS, and the positions of their sealed bytes. The positions from i on, so many of them, where a test holds; all of them
positions_from : (ℕ → Bool) → ℕ → ℕ → List ℕ
positions_from sealed i zero = []
positions_from sealed i (suc n) = cond (sealed i) (i ∷ positions_from sealed (suc i) n) (positions_from sealed (suc i) n)

run : ℕ → ℕ → List ℕ
run i n = positions_from (λ _. true) i n

-- an AVC record with two sets, an extension with one, and a byte after it: bytes 1 to 4, of sets all but the first byte, the extension's first three
-- bytes, the byte after
avc_record : List ℕ
avc_record =
    0x01 ∷ 0x42 ∷ 0x00 ∷ 0x1E ∷ 0xFF ∷ 0xE1 ∷ 0x00 ∷ 0x01 ∷ 0x67 ∷ 0x01 ∷ 0x00 ∷ 0x02 ∷ 0x68 ∷ 0xCE
    ∷ 0xFD ∷ 0xF8 ∷ 0xF8 ∷ 0x01 ∷ 0x00 ∷ 0x01 ∷ 0x6D ∷ 0xAA ∷ []

avc_sealed : List ℕ
avc_sealed = run 1 4 ++ (13 ∷ 14 ∷ 15 ∷ 16 ∷ 21 ∷ [])

-- an AVC record that is refused: a byte behind its sets, and no whole extension
avc_refused : List ℕ
avc_refused = 0x01 ∷ 0x42 ∷ 0x00 ∷ 0x1E ∷ 0xFF ∷ 0xE1 ∷ 0x00 ∷ 0x01 ∷ 0x67 ∷ 0x01 ∷ 0x00 ∷ 0x01 ∷ 0x68 ∷ 0x00 ∷ []

-- an AVC record of two sets that begin with these bytes
abbrev avc_of : ℕ → ℕ → List ℕ
avc_of first second = 0x01 ∷ 0 ∷ 0 ∷ 0 ∷ 0 ∷ 0x01 ∷ 0x00 ∷ 0x02 ∷ first ∷ 0x00 ∷ 0x01 ∷ 0x00 ∷ 0x01 ∷ second ∷ []

-- an HEVC record with three arrays, of two sets, one and one, and two bytes after them: bytes 1 to 21, of sets all but the first byte, the bytes after
hevc_record : List ℕ
hevc_record =
    (0x01 ∷ replicate 21 0x5A) ++ (0x03 ∷ 0x20 ∷ 0x00 ∷ 0x02 ∷ 0x00 ∷ 0x01 ∷ 0x40 ∷ 0x00 ∷ 0x02 ∷ 0x40 ∷ 0x41
    ∷ 0xA1 ∷ 0x00 ∷ 0x01 ∷ 0x00 ∷ 0x01 ∷ 0x42 ∷ 0xA2 ∷ 0x00 ∷ 0x01 ∷ 0x00 ∷ 0x01 ∷ 0x44 ∷ 0x00 ∷ 0xFF ∷ [])

hevc_sealed : List ℕ
hevc_sealed = run 1 21 ++ (32 ∷ 45 ∷ 46 ∷ [])

-- a record's positions where it begins at n
from : ℕ → List ℕ → List ℕ
from n at = map (λ (i : ℕ). n + i) at

-- TRACKS: an id, a 24-bit length and a body; with a FourCC before them
abbrev sized : ℕ → List ℕ → List ℕ
sized id body = (id ∷ bytes24 (length body)) ++ body

abbrev coded : List ℕ → ℕ → List ℕ → List ℕ
coded fourcc id body = fourcc ++ sized id body

-- ROWS: a payload of a type under a mask, and the positions of its sealed bytes
record Sealing : Type 0 where
  type : ℕ
  mask : ℕ
  payload : List ℕ
  positions : List ℕ

abbrev seals : ℕ → ℕ → List ℕ → List ℕ → Sealing
seals type mask p at = record { type = type; mask = mask; payload = p; positions = at }

holds : Sealing → Bool
unfolding positions_from run avc_record avc_sealed avc_refused hevc_record hevc_sealed from same_bytes sealed_at byte skip guard at_end sealed_rest open_rest
    same_fourcc fourcc_at audio_codec_table codec_in audio_codec data_at layer_at chain_at layers_at is_wrapped chain_of without_chain peeled sealed_in_layer sealed_in_layers
    sealed_under_layers set sets avc_extension avc_picture_sets avc set_seen hevc_arrays hevc bit_at bits_at frequency_bit frequency_valid aac record_grammar record_mask
    fourcc_codec start_codec tag_frame_type is_legacy_avc is_command is_timed signed24 pattern32 time_at legacy_header enhanced_header video_header sound_format
    audio_header audio.legacy_header audio.enhanced_header opens_container form_of legal_head body_at sized_at header_at track_fourcc place_at heads_at container_heads
    container_of in_body sealed_in_container tag_header frame_head is_enhanced_of is_video_of is_avc_of is_aac_of sequence_start seal_start seals_nothing sealed_in_result
    sealed_in_payload
holds s = same_bytes (positions_from (sealed_in_payload s.type s.mask s.payload) 0 (length s.payload)) s.positions

all : List Sealing → Bool
all [] = true
all (s ∷ ss) = holds s && all ss

-- CONTAINERS of packet type not 0 seal their bodies, in each form
bodies : List Sealing
bodies =
    seals 0 0 ((0x95 ∷ 0x01 ∷ opus) ++ (0x07 ∷ 0x55 ∷ 0x66 ∷ [])) (7 ∷ 8 ∷ [])
    ∷ seals 0 0 ((0x95 ∷ 0x11 ∷ opus) ++ (sized 1 (0x55 ∷ []) ++ (sized 2 [] ++ sized 1 (0x66 ∷ 0x77 ∷ [])))) (10 ∷ 19 ∷ 20 ∷ [])
    ∷ seals 1 0 ((0x96 ∷ 0x21 ∷ []) ++ (coded avc1 1 (0x55 ∷ 0x66 ∷ []) ++ coded hvc1 2 (0x77 ∷ []))) (10 ∷ 11 ∷ 20 ∷ [])
    -- of shared packet type 7 too: that exception is about a header's own packet type
    ∷ seals 0 0 (0x95 ∷ 0x07 ∷ 0 ∷ 0 ∷ 0 ∷ 0 ∷ 0 ∷ 0x55 ∷ []) (7 ∷ [])
    -- a container that is refused seals nothing
    ∷ seals 0 0 ((0x95 ∷ 0x11 ∷ opus) ++ (0x07 ∷ 0 ∷ 0 ∷ 1 ∷ [])) []
    ∷ seals 1 0 ((0x96 ∷ 0x30 ∷ avc1) ++ (0x01 ∷ 0x55 ∷ [])) []
    -- nor does one that names itself, alone or behind a layer; the other container's number is a packet type like any
    ∷ seals 1 0 (0x86 ∷ 0x06 ∷ 0 ∷ 0 ∷ 0 ∷ 0 ∷ 0 ∷ 0x55 ∷ []) []
    ∷ seals 0 0 (0x95 ∷ 0x05 ∷ 0 ∷ 0 ∷ 0 ∷ 0 ∷ 0 ∷ 0x55 ∷ []) []
    ∷ seals 1 4 (0x87 ∷ 0x00 ∷ 0xAA ∷ 0x16 ∷ 0x06 ∷ 0 ∷ 0 ∷ 0 ∷ 0 ∷ 0 ∷ 0x55 ∷ []) (2 ∷ [])
    ∷ seals 0 0 (0x95 ∷ 0x06 ∷ 0 ∷ 0 ∷ 0 ∷ 0 ∷ 0 ∷ 0x55 ∷ []) (7 ∷ [])
    ∷ []

-- CONTAINERS of packet type 0 seal within accepted records, track by track
records : List Sealing
records =
    -- one track: AVC, Opus
    seals 1 0 ((0x96 ∷ 0x00 ∷ avc1) ++ (0x01 ∷ avc_record)) (from 7 avc_sealed)
    ∷ seals 0 0 ((0x95 ∷ 0x00 ∷ opus) ++ (0x07 ∷ 0xAA ∷ 0xBB ∷ [])) (7 ∷ 8 ∷ [])
    -- many tracks: HEVC, refused and accepted; AAC, accepted
    ∷ seals 1 0 ((0x96 ∷ 0x10 ∷ hvc1) ++ (sized 1 (0x01 ∷ 0x5A ∷ []) ++ sized 2 hevc_record)) (from 16 hevc_sealed)
    ∷ seals 0 0 ((0x95 ∷ 0x10 ∷ mp4a) ++ sized 1 (0x12 ∷ 0x10 ∷ [])) []
    -- many tracks, many codecs: AVC, opaque, AVC refused, HEVC
    ∷ seals 1 0 ((0x96 ∷ 0x20 ∷ []) ++ (coded avc1 1 avc_record ++ (coded vvc1 2 (0xAA ∷ 0xBB ∷ []) ++ (coded avc1 3 avc_refused ++ coded hvc1 4 hevc_record))))
    (from 10 avc_sealed ++ (40 ∷ 41 ∷ from 72 hevc_sealed))
    -- Opus, AAC, opaque refused, opaque, empty Opus
    ∷ seals 0 0 ((0x95 ∷ 0x20 ∷ []) ++ (coded opus 1 (0xAA ∷ []) ++ (coded mp4a 2 (0x12 ∷ 0x10 ∷ []) ++ (coded flac 3 [] ++ (coded flac 4 (0xBB ∷ 0xCC ∷ []) ++ coded opus 5 [])))))
    (10 ∷ 37 ∷ 38 ∷ [])
    ∷ []

-- SINGLE SEQUENCE STARTS
starts : List Sealing
starts =
    -- AVC, enhanced and legacy; HEVC
    seals 1 0 ((0x90 ∷ avc1) ++ avc_record) (from 5 avc_sealed)
    ∷ seals 1 0 ((0x17 ∷ 0x00 ∷ 0 ∷ 0 ∷ 0 ∷ []) ++ avc_record) (from 5 avc_sealed)
    ∷ seals 1 0 ((0x90 ∷ hvc1) ++ hevc_record) (from 5 hevc_sealed)
    -- the bits of a first byte that name no type are free; with another type the record is refused
    ∷ seals 1 0 ((0x17 ∷ 0x00 ∷ 0 ∷ 0 ∷ 0 ∷ []) ++ avc_of 0x07 0xE8) (6 ∷ 7 ∷ 8 ∷ 9 ∷ 14 ∷ [])
    ∷ seals 1 0 ((0x17 ∷ 0x00 ∷ 0 ∷ 0 ∷ 0 ∷ []) ++ avc_of 0x08 0x07) []
    ∷ seals 1 0 ((0x90 ∷ avc1) ++ avc_of 0x67 0x67) []
    -- opaque, in video also `mp4a`; Opus
    ∷ seals 1 0 ((0x80 ∷ mp4a) ++ (0x00 ∷ [])) (5 ∷ [])
    ∷ seals 0 0 ((0x90 ∷ flac) ++ (0xAA ∷ 0xBB ∷ [])) (5 ∷ 6 ∷ [])
    ∷ seals 0 0 ((0x90 ∷ opus) ++ (0xAA ∷ [])) (5 ∷ [])
    -- AAC, enhanced and legacy, seals nothing; nor does a refused record
    ∷ seals 0 0 ((0x90 ∷ mp4a) ++ (0x12 ∷ 0x10 ∷ 0x55 ∷ [])) []
    ∷ seals 0 0 (0xAF ∷ 0x00 ∷ 0x12 ∷ 0x10 ∷ []) []
    ∷ seals 1 0 ((0x90 ∷ avc1) ++ avc_refused) []
    ∷ seals 1 0 ((0x17 ∷ 0x00 ∷ 0 ∷ 0 ∷ 0 ∷ []) ++ avc_refused) []
    ∷ seals 1 0 ((0x90 ∷ hvc1) ++ (0x01 ∷ replicate 22 0x00)) []
    ∷ seals 0 0 ((0x90 ∷ mp4a) ++ (0x16 ∷ 0x80 ∷ [])) []
    ∷ []

-- SINGLE FRAMES WITHOUT A VERDICT seal from the header size on, legacy AVC from byte 5
singles : List Sealing
singles =
    -- sizes 1 and 2 in legacy audio, 1 in legacy video, 5 and 8 in enhanced headers
    seals 0 0 (0x2F ∷ 0x55 ∷ 0x66 ∷ []) (1 ∷ 2 ∷ [])
    ∷ seals 0 0 (0xAF ∷ 0x01 ∷ 0x55 ∷ []) (2 ∷ [])
    ∷ seals 1 0 (0x22 ∷ 0x55 ∷ 0x66 ∷ []) (1 ∷ 2 ∷ [])
    ∷ seals 0 0 ((0x91 ∷ opus) ++ (0x55 ∷ [])) (5 ∷ [])
    ∷ seals 1 0 ((0x93 ∷ avc1) ++ (0x55 ∷ [])) (5 ∷ [])
    ∷ seals 1 0 ((0x91 ∷ avc1) ++ (0 ∷ 0 ∷ 0 ∷ 0x55 ∷ [])) (8 ∷ [])
    -- legacy AVC, with its header of size 5 or, under 5 bytes, of size 1
    ∷ seals 1 0 (0x17 ∷ 0x01 ∷ 0 ∷ 0 ∷ 0 ∷ 0x55 ∷ []) (5 ∷ [])
    ∷ seals 1 0 (0x07 ∷ 0x01 ∷ []) []
    ∷ seals 1 0 (0x07 ∷ 0x01 ∷ 0 ∷ 0 ∷ []) []
    -- a legacy command is a single frame, and no start; frame type 5 with packet type 4 is no enhanced command
    ∷ seals 1 0 (0x57 ∷ 0x00 ∷ 0 ∷ 0 ∷ 0 ∷ 0x55 ∷ []) (5 ∷ [])
    ∷ seals 1 0 ((0xD4 ∷ avc1) ++ (0x55 ∷ [])) (5 ∷ [])
    -- an enhanced command, a refused header, and an enhanced header with packet type 7 seal nothing
    ∷ seals 1 0 (0xD0 ∷ 0x00 ∷ 0x55 ∷ []) []
    ∷ seals 1 0 (0xD6 ∷ 0x00 ∷ 0x55 ∷ []) []
    ∷ seals 0 0 (0x91 ∷ 0x4F ∷ 0x70 ∷ []) []
    ∷ seals 1 0 ((0x91 ∷ avc1) ++ (0 ∷ 0 ∷ [])) []
    ∷ seals 0 0 ((0x97 ∷ opus) ++ (0x55 ∷ [])) []
    ∷ seals 1 0 ((0xD7 ∷ avc1) ++ (0x55 ∷ [])) []
    ∷ []

-- PAYLOADS AS RECEIVED, and the other types
layers : List Sealing
layers =
    -- two layers, the data of each; a size of 16 bits; a result that is a sequence start, a container, a refused header
    seals 0 4 ((0x97 ∷ 0x00 ∷ 0xAA ∷ 0x17 ∷ 0x01 ∷ 0xBB ∷ 0xCC ∷ 0x11 ∷ opus) ++ (0x55 ∷ 0x66 ∷ [])) (2 ∷ 5 ∷ 6 ∷ 12 ∷ 13 ∷ [])
    ∷ seals 0 4 ((0x97 ∷ 0xFF ∷ 0x00 ∷ 0x01 ∷ 0xAA ∷ 0xBB ∷ 0x11 ∷ opus) ++ (0x55 ∷ [])) (4 ∷ 5 ∷ 11 ∷ [])
    ∷ seals 1 4 ((0x97 ∷ 0x00 ∷ 0xAA ∷ 0x10 ∷ avc1) ++ avc_record) (2 ∷ from 8 avc_sealed)
    ∷ seals 0 4 ((0x97 ∷ 0x00 ∷ 0xAA ∷ 0x15 ∷ 0x11 ∷ opus) ++ sized 1 (0x55 ∷ [])) (2 ∷ 13 ∷ [])
    ∷ seals 0 4 (0x97 ∷ 0x00 ∷ 0xAA ∷ 0x11 ∷ 0x4F ∷ []) (2 ∷ [])
    -- a layer of type 0: its data from the fourth byte on, in both sizes; of 1 or 2 bytes none, though the pass is refused
    ∷ seals 0 4 ((0x97 ∷ 0x03 ∷ 0 ∷ 0 ∷ 0 ∷ 0xAA ∷ 0x01 ∷ opus) ++ (0x55 ∷ [])) (5 ∷ 11 ∷ [])
    ∷ seals 0 4 ((0x97 ∷ 0xFF ∷ 0x00 ∷ 0x04 ∷ 0 ∷ 0 ∷ 0 ∷ 0xAA ∷ 0xBB ∷ 0x01 ∷ opus) ++ (0x55 ∷ [])) (7 ∷ 8 ∷ 14 ∷ [])
    ∷ seals 1 4 (0x87 ∷ 0x00 ∷ 0x00 ∷ 0x00 ∷ []) []
    ∷ seals 0 4 (0x97 ∷ 0x00 ∷ 0x00 ∷ 0x07 ∷ 0x00 ∷ 0x00 ∷ 0x10 ∷ []) (5 ∷ [])
    -- unpeeled, since byte 0 or the mask does not allow it: its own result
    ∷ seals 0 4 ((0x91 ∷ opus) ++ (0x55 ∷ [])) (5 ∷ [])
    ∷ seals 0 3 ((0x97 ∷ 0x00 ∷ 0xAA ∷ 0x01 ∷ opus) ++ (0x55 ∷ [])) []
    -- a chain that is not read to its end: nothing, layers included
    ∷ seals 0 4 (0x97 ∷ 0x02 ∷ 0x00 ∷ 0xAA ∷ 0x07 ∷ 0x07 ∷ []) []
    ∷ seals 1 4 (0x97 ∷ 0x00 ∷ 0xAA ∷ 0x07 ∷ 0x00 ∷ 0xBB ∷ []) []
    -- types 2 and 3: nothing, layers included; above type 3: all
    ∷ seals 2 4 (0x87 ∷ 0x00 ∷ 0xAA ∷ 0x00 ∷ 0x55 ∷ []) []
    ∷ seals 3 4 (0x87 ∷ 0x00 ∷ 0xAA ∷ 0x00 ∷ 0x55 ∷ []) []
    ∷ seals 4 4 (0x87 ∷ 0x00 ∷ 0xAA ∷ 0x00 ∷ 0x55 ∷ []) (run 0 5)
    ∷ []

every_body : all bodies ≡ true
unfolding all bodies holds
every_body = refl

every_record : all records ≡ true
unfolding all records holds
every_record = refl

every_start : all starts ≡ true
unfolding all starts holds
every_start = refl

every_single : all singles ≡ true
unfolding all singles holds
every_single = refl

every_layer : all layers ≡ true
unfolding all layers holds
every_layer = refl

-- THE PREMISE IS NOT EMPTY. Whether two payloads agree where a test does not hold, from index k on
agree_from : (ℕ → Bool) → ℕ → List ℕ → List ℕ → Bool
agree_from sealed k [] [] = true
agree_from sealed k [] (y ∷ q) = false
agree_from sealed k (x ∷ p) [] = false
agree_from sealed k (x ∷ p) (y ∷ q) = (sealed k || eqb x y) && agree_from sealed (suc k) p q

agree_low : (sealed : ℕ → Bool) (k : ℕ) (p q : List ℕ) → agree_from sealed k p q ≡ true → LowEquivalent (λ i. sealed (k + i)) p q
unfolding agree_from
agree_low sealed k [] [] e = record { long = refl; same = λ i l s. refl }
agree_low sealed k [] (y ∷ q) e = true_or_false e refl
agree_low sealed k (x ∷ p) [] e = true_or_false e refl
agree_low sealed k (x ∷ p) (y ∷ q) e =
    go (agree_low sealed (suc k) p q (and_right (sealed k || eqb x y) (agree_from sealed (suc k) p q) e))
    (and_left (sealed k || eqb x y) (agree_from sealed (suc k) p q) e)
  where
    first : (b : Bool) → sealed k ≡ b → (b || eqb x y) ≡ true → sealed k ≡ false → x ≡ y
    first true s t z = true_or_false s z
    first false s t z = eqb-true x y t

    go : LowEquivalent (λ i. sealed (suc k + i)) p q → (sealed k || eqb x y) ≡ true → LowEquivalent (λ i. sealed (k + i)) (x ∷ p) (y ∷ q)
    go rest h = record { long = ap suc rest.long; same = at }
      where
        at : (i : ℕ) → i < length (x ∷ p) → sealed (k + i) ≡ false → byte_at (x ∷ p) i ≡ byte_at (y ∷ q) i
        at zero l s = let z : k + 0 ≡ k = omega arith in first (sealed k) refl h (ap sealed (sym z) ∙ s)
        at (suc i) l s = let z : k + suc i ≡ suc k + i = omega arith in rest.same i (omega arith) (ap sealed (sym z) ∙ s)

-- a pair of frames that demand 3 speaks of: they agree, neither is refused, and their payloads differ, and so do the outputs that they are lent
pub record Pair (type mask : ℕ) (p q out out' : List ℕ) : Type 0 where
  pub agree : Agree type mask p q out out'
  pub passed : pass_error type mask p (length out) ≡ error.Ok
  pub payloads : p ≡ q → ⊥
  pub outputs : out ≡ out' → ⊥

differ : (p q : List ℕ) → same_bytes p p ≡ true → same_bytes p q ≡ false → p ≡ q → ⊥
differ p q t f e = true_or_false (sym (ap (same_bytes p) e) ∙ t) f

pair : (type mask : ℕ) (p q out out' : List ℕ) → agree_from (sealed_in_payload type mask p) 0 p q ≡ true → length out ≡ length out'
    → pass_error type mask p (length out) ≡ error.Ok → (p ≡ q → ⊥) → (out ≡ out' → ⊥) → Pair type mask p q out out'
pair type mask p q out out' e o r d f =
    let a = agree_low (sealed_in_payload type mask p) 0 p q e in
    record {
      agree = record {
        lengths = a.long;
        outputs = o;
        unsealed = λ i l s. a.same i l (let z : 0 + i ≡ i = omega arith in ap (sealed_in_payload type mask p) z ∙ s);
      };
      passed = r;
      payloads = d;
      outputs = f;
    }

-- outputs of n bytes
abbrev zeros : ℕ → List ℕ
zeros n = replicate n 0x00

abbrev ones : ℕ → List ℕ
ones n = replicate n 0xFF

-- two audio containers that differ in a body
abbrev container : ℕ → List ℕ
container b = (0x95 ∷ 0x11 ∷ opus) ++ sized 1 (b ∷ [])

pub bodies_agree : Pair 0 0 (container 0xAA) (container 0xBB) (zeros 12) (ones 12)
unfolding holds agree_from pass_error peeled_layers any_bad has_bad_offset
bodies_agree = pair 0 0 (container 0xAA) (container 0xBB) (zeros 12) (ones 12) refl refl refl (differ _ _ refl refl) (differ _ _ refl refl)

-- two frames that differ in the data of a ModEx layer, and two whose layer has an offset before what differs
abbrev layer : ℕ → List ℕ
layer b = 0x97 ∷ 0x00 ∷ b ∷ 0x11 ∷ []

pub layers_agree : Pair 0 4 (layer 0xAA) (layer 0xBB) (zeros 1) (ones 1)
unfolding holds agree_from pass_error peeled_layers any_bad has_bad_offset
layers_agree = pair 0 4 (layer 0xAA) (layer 0xBB) (zeros 1) (ones 1) refl refl refl (differ _ _ refl refl) (differ _ _ refl refl)

abbrev behind_offset : ℕ → List ℕ
behind_offset b = 0x97 ∷ 0x03 ∷ 0x0F ∷ 0x42 ∷ 0x3F ∷ b ∷ 0x01 ∷ []

pub offsets_agree : Pair 0 4 (behind_offset 0xAA) (behind_offset 0xBB) (zeros 1) (ones 1)
unfolding holds agree_from pass_error peeled_layers any_bad has_bad_offset
offsets_agree = pair 0 4 (behind_offset 0xAA) (behind_offset 0xBB) (zeros 1) (ones 1) refl refl refl (differ _ _ refl refl) (differ _ _ refl refl)

-- two AVC records that differ inside a set, behind its first byte
abbrev in_set : ℕ → List ℕ
in_set b = 0x17 ∷ 0x00 ∷ 0 ∷ 0 ∷ 0 ∷ 0x01 ∷ 0x42 ∷ 0x00 ∷ 0x1E ∷ 0xFF ∷ 0xE1 ∷ 0x00 ∷ 0x02 ∷ 0x67 ∷ b ∷ 0x01 ∷ 0x00 ∷ 0x01 ∷ 0x68 ∷ []

pub sets_agree : Pair 1 0 (in_set 0x42) (in_set 0x64) (zeros 20) (ones 20)
unfolding holds agree_from pass_error peeled_layers any_bad has_bad_offset
sets_agree = pair 1 0 (in_set 0x42) (in_set 0x64) (zeros 20) (ones 20) refl refl refl (differ _ _ refl refl) (differ _ _ refl refl)
