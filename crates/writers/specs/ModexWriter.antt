-- ModEx layers around a payload, written.
use Rattle.std.specs.Prelude.{Bool, cond, not, ◌&&◌, List, [], ◌∷◌, ◌++◌, ℕ, ◌+◌, ◌-◌, ◌*◌, eqb, ltb, length, drop, Result}
use Rattle.wire.specs.Wire.{byte_at, bit, high, low, bytes16}
use Rattle.types.specs.Types.{is_audio, is_unknown_type}
use Rattle.writers.specs.Columns.{entry, lent_part, leaves, is_outside, values_from, some_from, sum_from}
use Rattle.writers.specs.Writing.{any_of, or_short, answer_of, output_of}
use Rattle.types.specs.declared.ErrorCode.{ErrorCode}
use Rattle.types.specs.declared.ErrorCode.TheVariants as error
use Rattle.writers.specs.declared.layers.ModexCall as lent

-- layers to be written around a payload: their number, and for each an entry in three columns, the outermost first; data are parts of the lent bytes
pub record ModexCall : Type 0 where
  pub type : ℕ
  pub count : ℕ
  pub types : List ℕ
  pub starts : List ℕ
  pub lengths : List ℕ
  pub lent : List ℕ
  pub payload : List ℕ

abbrev pub modex_call : ℕ → ℕ → List ℕ → List ℕ → List ℕ → List ℕ → List ℕ → ModexCall
modex_call type count types starts lengths lent payload =
    record { type = type; count = count; types = types; starts = starts; lengths = lengths; lent = lent; payload = payload }

-- what a lent call asks for
abbrev pub asked_modex : lent.ModexCall → ModexCall
asked_modex c =
    record {
      type = c.frame_type;
      count = c.count;
      types = c.types.now;
      starts = c.starts.now;
      lengths = c.lengths.now;
      lent = c.lent.now;
      payload = c.payload.now;
    }

-- -26: not 1 to 32 layers; a column shorter than that; a part that leaves what was lent
unfoldable pub layers_out : ModexCall → Bool
layers_out c =
    any_of
    (eqb c.count 0 ∷ ltb 32 c.count
    ∷ ltb (length c.types) c.count ∷ ltb (length c.starts) c.count ∷ ltb (length c.lengths) c.count
    ∷ some_from (leaves c.lent c.starts c.lengths) 0 c.count
    ∷ [])

-- -27: data of 0 or over 65,536 bytes
unfoldable pub data_bad : ModexCall → Bool
data_bad c = some_from (is_outside 1 65536 c.lengths) 0 c.count

-- -28: a layer's type above 15; a payload that is empty, lacks bit 7, has low nibble 7 or, in audio, lacks high nibble 9
unfoldable pub layers_bad : ModexCall → Bool
layers_bad c =
    any_of
    (some_from (is_outside 0 15 c.types) 0 c.count
    ∷ eqb (length c.payload) 0
    ∷ not (bit 7 (byte_at c.payload 0))
    ∷ eqb (low (byte_at c.payload 0)) 7
    ∷ (is_audio c.type && not (eqb (high (byte_at c.payload 0)) 9))
    ∷ [])

-- a layer: its type and its data
pub record GivenLayer : Type 0 where
  pub type : ℕ
  pub content : List ℕ

abbrev pub given_layer : ModexCall → ℕ → GivenLayer
given_layer c i = record { type = entry c.types i; content = lent_part c.lent c.starts c.lengths i }

abbrev pub given_layers : ModexCall → List GivenLayer
given_layers c = values_from (given_layer c) 0 c.count

-- WHAT IS WRITTEN. The size: one byte up to 255 data bytes, the long form from 256
unfoldable pub size_bytes : ℕ → List ℕ
size_bytes n = cond (ltb n 256) ((n - 1) ∷ []) (255 ∷ bytes16 (n - 1))

-- a layer: its size, its data, and an option byte with its type and the next packet type
unfoldable pub layer_bytes : ℕ → GivenLayer → List ℕ
layer_bytes next l = size_bytes (length l.content) ++ (l.content ++ ((l.type * 16 + next) ∷ []))

-- each layer names 7 next, the last the payload's packet type
abbrev pub next_type : ℕ → List GivenLayer → ℕ
next_type last [] = last
next_type last (l ∷ ls) = 7

unfoldable pub layers_bytes : ℕ → List GivenLayer → List ℕ
layers_bytes last [] = []
layers_bytes last (l ∷ ls) = layer_bytes (next_type last ls) l ++ layers_bytes last ls

-- byte 0 of the payload with low nibble 7, the layers, the payload from byte 1 on
unfoldable pub modex_written : ModexCall → List ℕ
modex_written c =
    (high (byte_at c.payload 0) * 16 + 7) ∷ (layers_bytes (low (byte_at c.payload 0)) (given_layers c) ++ drop 1 c.payload)

-- how many bytes: of each layer 2 or 4 and its data, and the payload
abbrev pub layer_length : ModexCall → ℕ → ℕ
layer_length c i = cond (ltb (entry c.lengths i) 256) 2 4 + entry c.lengths i

unfoldable pub modex_length : ModexCall → ℕ
modex_length c = sum_from (layer_length c) 0 c.count + length c.payload

-- THE REFUSALS in their order: -21, -26, -27, -28; then, with an output of so many bytes, -22
unfoldable pub modex_fault : ModexCall → ErrorCode
modex_fault c =
    cond (is_unknown_type c.type) error.UnknownFrameType
    (cond (layers_out c) error.OutOfBounds
    (cond (data_bad c) error.BadLength
    (cond (layers_bad c) error.BadValue error.Ok)))

unfoldable pub modex_error : ModexCall → ℕ → ErrorCode
modex_error c room = or_short (modex_fault c) room (modex_written c)

-- THE CALL: what it returns, and what the output then holds
unfoldable pub modex_answer : ModexCall → ℕ → Result ℕ ErrorCode
modex_answer c room = answer_of (modex_error c room) (modex_written c)

unfoldable pub modex_output : ModexCall → List ℕ → List ℕ
modex_output c out = output_of (modex_error c (length out)) (modex_written c) out
