-- FourCCs: four bytes, and the audio codec that each names.
use Rattle.std.specs.Prelude.{Bool, cond, ◌&&◌, List, [], ◌∷◌, ℕ, ◌+◌, eqb, ltb, length, Result, Ok, Err}
use Rattle.wire.specs.Wire.{byte_at}
use Rattle.types.specs.Types.{codec_number, Answer, value, refusal}
use Rattle.types.specs.declared.ErrorCode.{ErrorCode}
use Rattle.types.specs.declared.ErrorCode.TheVariants as error
use Rattle.types.specs.declared.AudioCodec.{AudioCodec}
use Rattle.types.specs.declared.AudioCodec.TheVariants.{Mp3, Aac, Opus}

-- a FourCC is four bytes: those from a position on
unfoldable pub fourcc_at : List ℕ → ℕ → List ℕ
fourcc_at p i = byte_at p i ∷ byte_at p (i + 1) ∷ byte_at p (i + 2) ∷ byte_at p (i + 3) ∷ []

-- the same four bytes
unfoldable pub same_fourcc : List ℕ → List ℕ → Bool
same_fourcc a b =
    eqb (byte_at a 0) (byte_at b 0) && (eqb (byte_at a 1) (byte_at b 1) && (eqb (byte_at a 2) (byte_at b 2) && eqb (byte_at a 3) (byte_at b 3)))

-- `fourcc_parse`: the first four bytes; fewer are refused with -1
unfoldable pub fourcc_parse : List ℕ → Result (List ℕ) ErrorCode
fourcc_parse p = cond (ltb (length p) 4) (Err error.Io) (Ok (fourcc_at p 0))

-- the video codecs that docs/REQUIREMENTS.md names: `avc1`, `hvc1`, `vvc1`
abbrev pub avc1 : List ℕ
avc1 = 0x61 ∷ 0x76 ∷ 0x63 ∷ 0x31 ∷ []

abbrev pub hvc1 : List ℕ
hvc1 = 0x68 ∷ 0x76 ∷ 0x63 ∷ 0x31 ∷ []

abbrev pub vvc1 : List ℕ
vvc1 = 0x76 ∷ 0x76 ∷ 0x63 ∷ 0x31 ∷ []

-- AV1: `av01`
abbrev pub av01 : List ℕ
av01 = 0x61 ∷ 0x76 ∷ 0x30 ∷ 0x31 ∷ []

-- the audio codecs: `Opus`, `mp4a`, `mp3 `, `.mp3`, `ac-3`, `ec-3`, `fLaC`
abbrev pub opus : List ℕ
opus = 0x4F ∷ 0x70 ∷ 0x75 ∷ 0x73 ∷ []

abbrev pub mp4a : List ℕ
mp4a = 0x6D ∷ 0x70 ∷ 0x34 ∷ 0x61 ∷ []

abbrev pub mp3_space : List ℕ
mp3_space = 0x6D ∷ 0x70 ∷ 0x33 ∷ 0x20 ∷ []

abbrev pub dot_mp3 : List ℕ
dot_mp3 = 0x2E ∷ 0x6D ∷ 0x70 ∷ 0x33 ∷ []

abbrev pub ac3 : List ℕ
ac3 = 0x61 ∷ 0x63 ∷ 0x2D ∷ 0x33 ∷ []

abbrev pub ec3 : List ℕ
ec3 = 0x65 ∷ 0x63 ∷ 0x2D ∷ 0x33 ∷ []

abbrev pub flac : List ℕ
flac = 0x66 ∷ 0x4C ∷ 0x61 ∷ 0x43 ∷ []

-- a FourCC and the audio codec that it names
pub record Entry : Type 0 where
  pub fourcc : List ℕ
  pub codec : AudioCodec

infix 90 ◌names◌
abbrev pub ◌names◌ : List ℕ → AudioCodec → Entry
◌names◌ f c = record { fourcc = f; codec = c }

-- the audio codec table: seven FourCCs; as in the Rust, the last three pass for AAC
unfoldable pub audio_codec_table : List Entry
audio_codec_table =
    opus names Opus ∷ mp4a names Aac ∷ mp3_space names Mp3 ∷ dot_mp3 names Mp3 ∷ ac3 names Aac ∷ ec3 names Aac ∷ flac names Aac ∷ []

-- the codec of the first entry with these four bytes; an unknown FourCC is refused with -5
unfoldable pub codec_in : List Entry → List ℕ → Result AudioCodec ErrorCode
codec_in [] f = Err error.Chunk
codec_in (e ∷ es) f = cond (same_fourcc e.fourcc f) (Ok e.codec) (codec_in es f)

unfoldable pub audio_codec : List ℕ → Result AudioCodec ErrorCode
audio_codec f = codec_in audio_codec_table f

-- an audio codec or its refusal, in numbers
abbrev pub codec_answer : Result AudioCodec ErrorCode → Answer
codec_answer (Ok c) = value (codec_number c)
codec_answer (Err e) = refusal e

-- what a FourCC names, in numbers: 14 Opus, 10 AAC and what passes for it, 2 MP3; -5 for an unknown one
unfoldable pub audio_codec_numbers : List ℕ → Answer
audio_codec_numbers f =
    cond (same_fourcc opus f) (value 14)
    (cond (same_fourcc mp4a f) (value 10)
    (cond (same_fourcc mp3_space f) (value 2)
    (cond (same_fourcc dot_mp3 f) (value 2)
    (cond (same_fourcc ac3 f) (value 10)
    (cond (same_fourcc ec3 f) (value 10)
    (cond (same_fourcc flac f) (value 10) (refusal error.Chunk)))))))

-- `fourcc_to_audio_codec` over a byte string: under four bytes is refused with -5, further bytes are not looked at
unfoldable pub fourcc_to_audio_codec : List ℕ → Result AudioCodec ErrorCode
fourcc_to_audio_codec p = cond (ltb (length p) 4) (Err error.Chunk) (audio_codec (fourcc_at p 0))

unfoldable pub fourcc_to_audio_numbers : List ℕ → Answer
fourcc_to_audio_numbers p = cond (ltb (length p) 4) (refusal error.Chunk) (audio_codec_numbers (fourcc_at p 0))
