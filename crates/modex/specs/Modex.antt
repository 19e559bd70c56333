-- ModEx of Enhanced RTMP v2: one layer, a chain of layers, and the peeled payload. "Layer" and "peeled" are terms of docs/REQUIREMENTS.md.
use Rattle.std.specs.Prelude.{Bool, cond, not, ◌&&◌, ◌||◌, List, [], ◌∷◌, ◌++◌, ℕ, zero, suc, ◌+◌, ◌-◌, ◌*◌, ltb, eqb, length, drop, Option, Some, None, Result, Ok, Err}
use Rattle.wire.specs.Wire.{byte_at, bit, high, low, be16_at, be24_at}
use Rattle.types.specs.Types.{is_audio, Answer, value, refusal}
use Rattle.types.specs.declared.ErrorCode.{ErrorCode}
use Rattle.types.specs.declared.ErrorCode.TheVariants as error
use Rattle.types.specs.declared.Modex.{Modex}
use Rattle.types.specs.declared.ModexType.TheVariants.{TimestampOffsetNano, Nop}
use Rattle.modex.specs.declared.ModexLayer.{ModexLayer}
use Rattle.modex.specs.declared.ModexChain.{ModexChain}
use Rattle.modex.specs.declared.ModexPrefix.{ModexPrefix}
use Rattle.modex.specs.declared.ModexResult.{ModexResult}

-- size data bytes from start on, then an option byte: its high nibble is the layer's type, its low nibble the next packet type. None: the payload is
-- truncated before that byte
unfoldable pub data_at : List ℕ → ℕ → ℕ → Option ModexLayer
data_at s start size =
    cond (ltb (start + size) (length s))
    (Some (record {
      modex_type = high (byte_at s (start + size));
      next_packet_type = low (byte_at s (start + size));
      data_start = start;
      data_end = start + size;
      next_pos = start + size + 1;
    }))
    None

-- the layer with its size byte at pos: 0 to 254 mean 1 to 255 data bytes; 255 means that a 16-bit number plus one follows as the size
unfoldable pub layer_at : List ℕ → ℕ → Option ModexLayer
layer_at s pos =
    cond (eqb (byte_at s pos) 255)
    (data_at s (pos + 3) (be16_at s (pos + 1) + 1))
    (data_at s (pos + 1) (byte_at s pos + 1))

-- a layer's error: an unreadable one is -1
abbrev pub layer_error : Option ModexLayer → ErrorCode
layer_error (Some l) = error.Ok
layer_error None = error.Io

-- where the option byte of the layer at pos stands. The layer is readable exactly if the payload has that byte
unfoldable pub option_at : List ℕ → ℕ → ℕ
option_at s pos = cond (eqb (byte_at s pos) 255) (pos + 3 + (be16_at s (pos + 1) + 1)) (pos + 1 + (byte_at s pos + 1))

-- layers continue while the next packet type is 7
abbrev pub continue : Option ModexLayer → (ℕ → Option ModexChain) → Option ModexChain
continue (Some l) more =
    cond (eqb l.next_packet_type 7) (more l.next_pos) (Some (record { next_pos = l.next_pos; next_packet_type = l.next_packet_type }))
continue None more = None

-- at most so many layers from pos on: none if one is unreadable, or the last one names 7
unfoldable pub chain_at : ℕ → List ℕ → ℕ → Option ModexChain
chain_at zero s pos = None
chain_at (suc layers) s pos = continue (layer_at s pos) (chain_at layers s)

-- these layers as a list, in order
abbrev pub and_more : Option ModexLayer → (ℕ → List ModexLayer) → List ModexLayer
and_more (Some l) more = l ∷ cond (eqb l.next_packet_type 7) (more l.next_pos) []
and_more None more = []

unfoldable pub layers_at : ℕ → List ℕ → ℕ → List ModexLayer
layers_at zero s pos = []
layers_at (suc layers) s pos = and_more (layer_at s pos) (layers_at layers s)

-- a payload is peeled only if it is non-empty, the mask has bit 0x04, bit 7 of byte 0 is set and its low nibble is 7; Audio also needs high nibble 9
unfoldable pub is_wrapped : ℕ → ℕ → List ℕ → Bool
is_wrapped type mask p =
    ltb 0 (length p) && bit 2 mask && bit 7 (byte_at p 0) && eqb (low (byte_at p 0)) 7 && (not (is_audio type) || eqb (high (byte_at p 0)) 9)

-- the chain that is peeled off: at most 32 layers, the first at byte 1
unfoldable pub chain_of : ℕ → ℕ → List ℕ → Option ModexChain
chain_of type mask p = cond (is_wrapped type mask p) (chain_at 32 p 1) None

-- THE LAYERS that are peeled off; without a chain none
abbrev pub layers_in : List ℕ → Option ModexChain → List ModexLayer
layers_in p (Some c) = layers_at 32 p 1
layers_in p None = []

unfoldable pub peeled_layers : ℕ → ℕ → List ℕ → List ModexLayer
peeled_layers type mask p = layers_in p (chain_of type mask p)

-- byte 0 with its low nibble replaced, then all bytes after the last option byte; without a chain the payload comes back unchanged
unfoldable pub without_chain : List ℕ → Option ModexChain → List ℕ
without_chain p (Some c) = (high (byte_at p 0) * 16 + c.next_packet_type) ∷ drop c.next_pos p
without_chain p None = p

-- THE PEELED PAYLOAD
unfoldable pub peeled : ℕ → ℕ → List ℕ → List ℕ
peeled type mask p = without_chain p (chain_of type mask p)

-- peeling into an output of so many bytes: the peeled payload's length, or -22 for an output that is shorter
unfoldable pub peel_result : ℕ → ℕ → List ℕ → ℕ → Result ℕ ErrorCode
peel_result type mask p room = cond (ltb room (length (peeled type mask p))) (Err error.OutputTooShort) (Ok (length (peeled type mask p)))

-- the same in numbers: the length, or -22
abbrev pub peel_answer : Result ℕ ErrorCode → Answer
peel_answer (Ok n) = value n
peel_answer (Err e) = refusal e

unfoldable pub peel_numbers : ℕ → ℕ → List ℕ → ℕ → Answer
peel_numbers type mask p room = cond (ltb room (length (peeled type mask p))) (refusal error.OutputTooShort) (value (length (peeled type mask p)))

-- what the output then holds: the peeled payload in front, its further bytes kept; after a refusal all its bytes
unfoldable pub peel_output : ℕ → ℕ → List ℕ → List ℕ → List ℕ
peel_output type mask p out =
    cond (ltb (length out) (length (peeled type mask p))) out (peeled type mask p ++ drop (length (peeled type mask p)) out)

-- `modex_parse_prefix` reads one layer: type 0 gives the first three data bytes as offset, or -3 if there are fewer; any other type is Nop with
-- offset 0; an unreadable layer is -1. A refusal leaves the given Modex
abbrev pub prefix_of : Modex → List ℕ → Option ModexLayer → ModexPrefix
prefix_of given s (Some l) =
    cond (eqb l.modex_type 0)
    (cond (ltb (l.data_end - l.data_start) 3) (record { error = error.Protocol; consumed = 0; modex = given })
    (record {
      error = error.Ok;
      consumed = l.next_pos;
      modex = record { modex_type = TimestampOffsetNano; offset = be24_at s l.data_start; next_packet_type = l.next_packet_type };
    }))
    (record { error = error.Ok; consumed = l.next_pos; modex = record { modex_type = Nop; offset = 0; next_packet_type = l.next_packet_type } })
prefix_of given s None = record { error = error.Io; consumed = 0; modex = given }

unfoldable pub modex_prefix : Modex → List ℕ → ModexPrefix
modex_prefix given s = prefix_of given s (layer_at s 0)

-- `modex_parse`: the same without the number of bytes read
unfoldable pub modex_result : Modex → List ℕ → ModexResult
modex_result given s = record { error = (modex_prefix given s).error; modex = (modex_prefix given s).modex }
