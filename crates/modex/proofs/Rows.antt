-- The sealed bytes and the offsets of payloads, and peeling without a copy, computed. Of `97 00 AA 11` the one data byte is sealed, of a second layer its data too; of a type-0 layer
-- the first three data bytes are open; nothing is sealed where nothing is peeled off.
use mathlib.Core.Path.{◌≡◌, refl}
use mathlib.Core.Bool.{Bool, true, false}
use mathlib.Core.List.{List, [], ◌∷◌}
use Prim.Native.Nat.{ℕ, zero, suc, ◌+◌}
use lib.ListN.{length}
use Rattle.std.specs.Prelude.{Result, Ok, Err}
use Rattle.types.specs.declared.ErrorCode.{ErrorCode}
use Rattle.types.specs.declared.ErrorCode.TheVariants as error
use Rattle.modex.specs.Modex.{data_at, layer_at, chain_at, layers_at, is_wrapped, chain_of, peeled_layers, without_chain, peeled}
use Rattle.modex.specs.Offsets.{any_bad, last_offset, has_bad_offset, chain_offset}
use Rattle.modex.specs.InPlace.{peeled_start, peeled_in_place, in_place_result, in_place_payload}
use Rattle.modex.specs.declared.PeeledInPlace.{PeeledInPlace}
use Rattle.modex.specs.Sealed.{sealed_in_layer, sealed_in_layers, sealed_under_layers}

-- results with no sealed byte
none : List ℕ → ℕ → Bool
none r i = false

-- the test at n indices from i on
tests : (ℕ → Bool) → ℕ → ℕ → List Bool
tests t i zero = []
tests t i (suc n) = t i ∷ tests t (i + 1) n

tests_of : ℕ → ℕ → List ℕ → List Bool
unfolding tests none data_at layer_at chain_at layers_at is_wrapped chain_of without_chain peeled sealed_in_layer sealed_in_layers sealed_under_layers
tests_of type mask p = tests (sealed_under_layers none type mask p) 0 (length p)

one_layer : tests_of 0 4 (0x97 ∷ 0x00 ∷ 0xAA ∷ 0x11 ∷ []) ≡ false ∷ false ∷ true ∷ false ∷ []
unfolding tests_of
one_layer = refl

-- two layers of type 1; and a layer of type 0 with five data bytes before one of type 1
two_layers : tests_of 1 4 (0x97 ∷ 0x00 ∷ 0xAA ∷ 0x17 ∷ 0x01 ∷ 0xBB ∷ 0xCC ∷ 0x10 ∷ 0x55 ∷ [])
    ≡ false ∷ false ∷ true ∷ false ∷ false ∷ true ∷ true ∷ false ∷ false ∷ []
unfolding tests_of
two_layers = refl

behind_offset_lem : tests_of 1 4 (0x97 ∷ 0x04 ∷ 0x00 ∷ 0x00 ∷ 0x01 ∷ 0xAA ∷ 0xBB ∷ 0x07 ∷ 0x01 ∷ 0xCC ∷ 0xDD ∷ 0x10 ∷ 0x55 ∷ [])
    ≡ false ∷ false ∷ false ∷ false ∷ false ∷ true ∷ true ∷ false ∷ false ∷ true ∷ true ∷ false ∷ false ∷ []
unfolding tests_of
behind_offset_lem = refl

-- type 0 with three data bytes, and with one: nothing; a bad layer seals as another does
offset_alone : tests_of 0 4 (0x97 ∷ 0x02 ∷ 0x0F ∷ 0x42 ∷ 0x40 ∷ 0x01 ∷ []) ≡ false ∷ false ∷ false ∷ false ∷ false ∷ false ∷ []
unfolding tests_of
offset_alone = refl

short_layer : tests_of 0 4 (0x97 ∷ 0x00 ∷ 0x00 ∷ 0x07 ∷ 0x00 ∷ 0x00 ∷ 0x10 ∷ []) ≡ false ∷ false ∷ false ∷ false ∷ false ∷ true ∷ false ∷ []
unfolding tests_of
short_layer = refl

-- a chain that is not read to its end is not peeled off
broken : tests_of 1 4 (0x97 ∷ 0x00 ∷ 0xAA ∷ 0x17 ∷ 0x01 ∷ 0xBB ∷ []) ≡ false ∷ false ∷ false ∷ false ∷ false ∷ false ∷ []
unfolding tests_of
broken = refl

-- one layer without the capability, in type 2, and above type 3
not_capable : tests_of 0 3 (0x97 ∷ 0x00 ∷ 0xAA ∷ 0x11 ∷ []) ≡ false ∷ false ∷ false ∷ false ∷ []
unfolding tests_of
not_capable = refl

script : tests_of 2 4 (0x97 ∷ 0x00 ∷ 0xAA ∷ 0x11 ∷ []) ≡ false ∷ false ∷ false ∷ false ∷ []
unfolding tests_of
script = refl

unknown : tests_of 4 4 (0x97 ∷ 0x00 ∷ 0xAA ∷ 0x11 ∷ []) ≡ true ∷ true ∷ true ∷ true ∷ []
unfolding tests_of
unknown = refl

-- OFFSETS: whether a layer is bad, and the last offset
offsets : ℕ → ℕ → List ℕ → Bool × ℕ
unfolding data_at layer_at chain_at layers_at is_wrapped chain_of peeled_layers any_bad last_offset has_bad_offset chain_offset
offsets type mask p = (has_bad_offset type mask p, chain_offset type mask p)

-- the largest, and one more
largest : offsets 0 4 (0x97 ∷ 0x02 ∷ 0x0F ∷ 0x42 ∷ 0x3F ∷ 0x01 ∷ []) ≡ (false, 999999)
unfolding offsets
largest = refl

over : offsets 0 4 (0x97 ∷ 0x02 ∷ 0x0F ∷ 0x42 ∷ 0x40 ∷ 0x01 ∷ []) ≡ (true, 1000000)
unfolding offsets
over = refl

-- of four data bytes the first three; two are bad, in the long size form too
four_bytes : offsets 1 4 (0x97 ∷ 0x03 ∷ 0x00 ∷ 0x00 ∷ 0x00 ∷ 0x01 ∷ 0x00 ∷ []) ≡ (false, 0)
unfolding offsets
four_bytes = refl

two_bytes : (offsets 1 4 (0x97 ∷ 0x01 ∷ 0x00 ∷ 0x01 ∷ 0x00 ∷ [])).0 ≡ true
unfolding offsets
two_bytes = refl

long_form : (offsets 0 4 (0x97 ∷ 0xFF ∷ 0x00 ∷ 0x01 ∷ 0x00 ∷ 0x00 ∷ 0x01 ∷ [])).0 ≡ true
unfolding offsets
long_form = refl

-- another type has no offset and no limit
other_type : offsets 1 4 (0x97 ∷ 0x02 ∷ 0x0F ∷ 0x42 ∷ 0x40 ∷ 0x11 ∷ []) ≡ (false, 0)
unfolding offsets
other_type = refl

-- the last of two, before a layer of type 1; a bad one in front of a good one
last : offsets 2 4 (0x87 ∷ 0x02 ∷ 0 ∷ 0 ∷ 2 ∷ 0x07 ∷ 0x02 ∷ 0 ∷ 0 ∷ 1 ∷ 0x07 ∷ 0x00 ∷ 0xAA ∷ 0x10 ∷ []) ≡ (false, 1)
unfolding offsets
last = refl

first_bad : offsets 2 4 (0x87 ∷ 0x00 ∷ 0x00 ∷ 0x07 ∷ 0x02 ∷ 0 ∷ 0 ∷ 2 ∷ 0x00 ∷ []) ≡ (true, 2)
unfolding offsets
first_bad = refl

-- a chain that is not peeled off: without the capability, cut, or of 33 layers
not_peeled : (offsets 0 3 (0x97 ∷ 0x02 ∷ 0x0F ∷ 0x42 ∷ 0x40 ∷ 0x01 ∷ []) ≡ (false, 0)) × (offsets 0 4 (0x97 ∷ 0x02 ∷ 0x0F ∷ 0x42 ∷ 0x40 ∷ 0x07 ∷ []) ≡ (false, 0))
unfolding offsets
not_peeled = (refl, refl)

-- so many layers of type 0 that hold the offset 1, before one that holds 2
layers : ℕ → List ℕ
layers zero = 0x02 ∷ 0 ∷ 0 ∷ 2 ∷ 0x00 ∷ []
layers (suc n) = 0x02 ∷ 0 ∷ 0 ∷ 1 ∷ 0x07 ∷ layers n

most_layers : (offsets 1 4 (0x87 ∷ layers 31) ≡ (false, 2)) × (offsets 1 4 (0x87 ∷ layers 32) ≡ (false, 0))
unfolding offsets layers
most_layers = (refl, refl)

-- WITHOUT A COPY: where the peeled payload starts, or the error, and the payload afterwards
placed : Result PeeledInPlace ErrorCode → Result ℕ ErrorCode
placed (Ok r) = Ok r.start
placed (Err e) = Err e

placing : ℕ → ℕ → List ℕ → Result ℕ ErrorCode × List ℕ
unfolding placed data_at layer_at chain_at layers_at is_wrapped chain_of peeled_layers any_bad last_offset has_bad_offset chain_offset peeled_start peeled_in_place in_place_result in_place_payload
placing type mask p = (placed (in_place_result type mask p), in_place_payload type mask p)

-- one layer with nothing behind it; two layers with a byte behind them: the last option byte becomes byte 0 of what is left
only_layer : placing 0 4 (0x97 ∷ 0x02 ∷ 0x00 ∷ 0x00 ∷ 0x2A ∷ 0x01 ∷ []) ≡ (Ok 5, 0x97 ∷ 0x02 ∷ 0x00 ∷ 0x00 ∷ 0x2A ∷ 0x91 ∷ [])
unfolding placing
only_layer = refl

both_layers : placing 1 4 (0xD7 ∷ 0x00 ∷ 0xAA ∷ 0x17 ∷ 0x01 ∷ 0xBB ∷ 0xCC ∷ 0x10 ∷ 0x55 ∷ [])
    ≡ (Ok 7, 0xD7 ∷ 0x00 ∷ 0xAA ∷ 0x17 ∷ 0x01 ∷ 0xBB ∷ 0xCC ∷ 0xD0 ∷ 0x55 ∷ [])
unfolding placing
both_layers = refl

-- a bad layer; a payload without the capability; a chain that is cut
bad_layer : placing 0 4 (0x97 ∷ 0x00 ∷ 0xAA ∷ 0x01 ∷ []) ≡ (Err error.Protocol, 0x97 ∷ 0x00 ∷ 0xAA ∷ 0x01 ∷ [])
unfolding placing
bad_layer = refl

unpeeled : (placing 0 3 (0x97 ∷ 0x00 ∷ 0xAA ∷ 0x01 ∷ []) ≡ (Ok 0, 0x97 ∷ 0x00 ∷ 0xAA ∷ 0x01 ∷ []))
    × (placing 1 4 (0x97 ∷ 0x00 ∷ 0xAA ∷ 0x07 ∷ 0x02 ∷ []) ≡ (Ok 0, 0x97 ∷ 0x00 ∷ 0xAA ∷ 0x07 ∷ 0x02 ∷ []))
unfolding placing
unpeeled = (refl, refl)

-- 32 layers, and 33
most_placed : ((placing 1 4 (0x87 ∷ layers 31)).0 ≡ Ok 160) × (placing 1 4 (0x87 ∷ layers 32) ≡ (Ok 0, 0x87 ∷ layers 32))
unfolding placing layers
most_placed = (refl, refl)
