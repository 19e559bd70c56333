-- TimestampOffsetNano of Enhanced RTMP v2: the offset in nanoseconds that a ModEx layer of type 0 holds in its first three data bytes.
use Rattle.std.specs.Prelude.{◌≡◌, Bool, false, cond, ◌&&◌, ◌||◌, List, [], ◌∷◌, ℕ, ◌+◌, ◌-◌, ◌≤◌, ◌<◌, ltb, eqb, ℤ, pos, length, Option, Some, Result, Ok, Err}
use Rattle.wire.specs.Wire.{byte_at, be24_at}
use Rattle.types.specs.Types.{error_number}
use Rattle.types.specs.declared.ErrorCode.{ErrorCode}
use Rattle.types.specs.declared.ErrorCode.TheVariants as error
use Rattle.modex.specs.Modex.{chain_at, layers_at, layers_in, peeled_layers, peeled, peel_output}
use Rattle.modex.specs.declared.ModexLayer.{ModexLayer}
use Rattle.modex.specs.declared.ModexChain.{ModexChain}
use Rattle.modex.specs.declared.Offsets.{Offsets}
use Rattle.modex.specs.declared.TimedChain.{TimedChain}
use Rattle.modex.specs.declared.Peeled.{Peeled}

-- a layer is bad if it has type 0, and under 3 data bytes or an offset over 999,999
abbrev pub is_bad : List ℕ → ModexLayer → Bool
is_bad s l = eqb l.modex_type 0 && (ltb (l.data_end - l.data_start) 3 || ltb 999999 (be24_at s l.data_start))

unfoldable pub any_bad : List ℕ → List ModexLayer → Bool
any_bad s [] = false
any_bad s (l ∷ ls) = is_bad s l || any_bad s ls

-- the offset behind a layer: its own if it has type 0, else the one before
abbrev pub offset_after : ℕ → List ℕ → ModexLayer → ℕ
offset_after before s l = cond (eqb l.modex_type 0) (be24_at s l.data_start) before

-- the last offset of these layers, or the one before them
unfoldable pub last_offset : ℕ → List ℕ → List ModexLayer → ℕ
last_offset before s [] = before
last_offset before s (l ∷ ls) = last_offset (offset_after before s l) s ls

-- OF THE PEELED CHAIN: whether any of its layers is bad
unfoldable pub has_bad_offset : ℕ → ℕ → List ℕ → Bool
has_bad_offset type mask p = any_bad p (peeled_layers type mask p)

-- and its last offset, or 0
unfoldable pub chain_offset : ℕ → ℕ → List ℕ → ℕ
chain_offset type mask p = last_offset 0 p (peeled_layers type mask p)

-- peeling into an output of so many bytes: the peeled payload's length and the chain's offset; refused are -22, an output that is shorter, then
-- -3, a bad layer
unfoldable pub peel_offset_result : ℕ → ℕ → List ℕ → ℕ → Result Peeled ErrorCode
peel_offset_result type mask p room =
    cond (ltb room (length (peeled type mask p))) (Err error.OutputTooShort)
    (cond (has_bad_offset type mask p) (Err error.Protocol) (Ok (record { length = length (peeled type mask p); offset = chain_offset type mask p })))

-- what the output then holds: as after peeling; after -3 too it keeps its bytes
unfoldable pub peel_offset_output : ℕ → ℕ → List ℕ → List ℕ → List ℕ
peel_offset_output type mask p out = cond (has_bad_offset type mask p) out (peel_output type mask p out)

-- the answer in numbers
pub record PeelOffsetAnswer : Type 0 where
  pub error : ℤ
  pub length : ℕ
  pub offset : ℕ

abbrev pub offset_refusal : ErrorCode → PeelOffsetAnswer
offset_refusal e = record { error = error_number e; length = 0; offset = 0 }

abbrev pub peel_offset_answer : Result Peeled ErrorCode → PeelOffsetAnswer
peel_offset_answer (Ok r) = record { error = pos 0; length = r.length; offset = r.offset }
peel_offset_answer (Err e) = offset_refusal e

unfoldable pub peel_offset_numbers : ℕ → ℕ → List ℕ → ℕ → PeelOffsetAnswer
peel_offset_numbers type mask p room =
    cond (ltb room (length (peeled type mask p))) (offset_refusal error.OutputTooShort)
    (cond (has_bad_offset type mask p) (offset_refusal error.Protocol) (record { error = pos 0; length = length (peeled type mask p); offset = chain_offset type mask p }))

-- For contracts of private functions. Where the last offset of layers stands, behind one before them
abbrev pub stands_after : ℕ → ModexLayer → ℕ
stands_after before l = cond (eqb l.modex_type 0) l.data_start before

unfoldable pub last_stands : ℕ → List ModexLayer → ℕ
last_stands before [] = before
last_stands before (l ∷ ls) = last_stands (stands_after before l) ls

-- what the offsets of layers come to, behind those before them
unfoldable pub offsets_from : Offsets → List ℕ → List ModexLayer → Offsets
offsets_from before s ls = record { at = last_stands before.at ls; bad = before.bad || any_bad s ls }

-- a chain with its offsets
unfoldable pub timed_chain : List ℕ → Option ModexChain → TimedChain
timed_chain p c = record { chain = c; offsets = offsets_from (record { at = length p; bad = false }) p (layers_in p c) }

-- a walk over a chain with so many layers left, at a position, behind offsets: from here on the chain is the whole chain, and the offsets come to those of all
-- its layers
pub record OnWalk (s : List ℕ) (left i : ℕ) (before : Offsets) : Type 0 where
  pub chain : chain_at left s i ≡ chain_at 32 s 1
  pub offsets : offsets_from before s (layers_at left s i) ≡ offsets_from (record { at = length s; bad = false }) s (layers_at 32 s 1)

-- a layer is left, and the one at i is an offset as encoders write it, before another layer: `02`, a byte below 15, two more, `07`
unfoldable pub plain_offset : List ℕ → ℕ → ℕ → Bool
plain_offset s i left = ltb 0 left && (ltb (i + 4) (length s) && (eqb (byte_at s i) 2 && (eqb (byte_at s (i + 4)) 7 && ltb (byte_at s (i + 1)) 15)))

-- a chain ends inside its payload, before a packet type that is a nibble
abbrev pub Inside : List ℕ → Option ModexChain → Type 0
Inside p o = (c : ModexChain) → o ≡ Some c → (1 ≤ c.next_pos) × ((c.next_pos ≤ length p) × (c.next_packet_type < 16))
