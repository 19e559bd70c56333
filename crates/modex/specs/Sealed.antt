-- Sealed bytes of a payload as received: the data of the layers that are peeled off, but for offsets, and the bytes sealed in the result.
use Rattle.std.specs.Prelude.{Bool, true, false, cond, ◌&&◌, ◌||◌, List, [], ◌∷◌, ℕ, ◌+◌, ◌-◌, ltb, leb, eqb, Option, Some, None}
use Rattle.types.specs.Types.{is_script_or_metadata, is_unknown_type}
use Rattle.modex.specs.Modex.{layers_at, chain_of, peeled}
use Rattle.modex.specs.declared.ModexLayer.{ModexLayer}
use Rattle.modex.specs.declared.ModexChain.{ModexChain}

-- the data bytes of a layer that are read, and so open: the first three of type 0, which are its offset
abbrev pub open_data : ℕ → ℕ
open_data type = cond (eqb type 0) 3 0

-- a layer seals its data behind those
unfoldable pub sealed_in_layer : ModexLayer → ℕ → Bool
sealed_in_layer l i = leb (l.data_start + open_data l.modex_type) i && ltb i l.data_end

-- byte i is sealed in one of these layers
unfoldable pub sealed_in_layers : List ModexLayer → ℕ → Bool
sealed_in_layers [] i = false
sealed_in_layers (l ∷ ls) i = sealed_in_layer l i || sealed_in_layers ls i

-- byte i of a payload that is peeled is sealed in a layer, or stands behind the chain, where it is byte i - end + 1 of the result, and is sealed there;
-- an unpeeled payload is its own result
abbrev pub sealed_through : Option ModexChain → (List ℕ → ℕ → Bool) → List ℕ → List ℕ → ℕ → Bool
sealed_through (Some c) inResult p result i =
    sealed_in_layers (layers_at 32 p 1) i || (leb c.next_pos i && inResult result (i - c.next_pos + 1))
sealed_through None inResult p result i = inResult p i

-- THE SEALED BYTES OF A PAYLOAD AS RECEIVED, where `inResult` says which bytes of a result are sealed.
-- In types 2 and 3 nothing is sealed, layers included; above type 3 all is
unfoldable pub sealed_under_layers : (List ℕ → ℕ → Bool) → ℕ → ℕ → List ℕ → ℕ → Bool
sealed_under_layers inResult type mask p i =
    cond (is_unknown_type type) true
    (cond (is_script_or_metadata type) false (sealed_through (chain_of type mask p) inResult p (peeled type mask p) i))
