-- Peeling without a copy. The payload is lent to be changed, and what is left of it without its layers stands at its end.
use Rattle.std.specs.Prelude.{cond, List, ℕ, ◌+◌, ◌-◌, ◌*◌, set, Option, Some, None, Result, Ok, Err}
use Rattle.wire.specs.Wire.{byte_at, high}
use Rattle.types.specs.declared.ErrorCode.{ErrorCode}
use Rattle.types.specs.declared.ErrorCode.TheVariants as error
use Rattle.modex.specs.Modex.{chain_of}
use Rattle.modex.specs.Offsets.{has_bad_offset, chain_offset}
use Rattle.modex.specs.declared.ModexChain.{ModexChain}
use Rattle.modex.specs.declared.PeeledInPlace.{PeeledInPlace}

-- where the peeled payload starts: at the last option byte, which is the byte before the chain's end; without a chain at byte 0
abbrev pub start_behind : Option ModexChain → ℕ
start_behind (Some c) = c.next_pos - 1
start_behind None = 0

-- what the payload then holds: in the place of that option byte stands byte 0 with its low nibble replaced, and every other byte is kept; without a chain
-- all bytes are
abbrev pub placed_behind : List ℕ → Option ModexChain → List ℕ
placed_behind p (Some c) = set p (c.next_pos - 1) (high (byte_at p 0) * 16 + c.next_packet_type)
placed_behind p None = p

-- THE START OF THE PEELED PAYLOAD, and THE PAYLOAD AFTERWARDS
unfoldable pub peeled_start : ℕ → ℕ → List ℕ → ℕ
peeled_start type mask p = start_behind (chain_of type mask p)

unfoldable pub peeled_in_place : ℕ → ℕ → List ℕ → List ℕ
peeled_in_place type mask p = placed_behind p (chain_of type mask p)

-- peeling for the whole pass: the start, and the chain's offset; a bad layer is refused with -3
unfoldable pub in_place_result : ℕ → ℕ → List ℕ → Result PeeledInPlace ErrorCode
in_place_result type mask p =
    cond (has_bad_offset type mask p) (Err error.Protocol) (Ok (record { start = peeled_start type mask p; offset = chain_offset type mask p }))

-- a refusal changes no byte
unfoldable pub in_place_payload : ℕ → ℕ → List ℕ → List ℕ
in_place_payload type mask p = cond (has_bad_offset type mask p) p (peeled_in_place type mask p)
