-- For contracts of private functions and for proofs: records by positions, where sets end, and what a grammar says from there on.
use Rattle.std.specs.Prelude.{Bool, false, cond, List, ℕ, zero, suc, ◌+◌, ltb, leb, length, drop, Option, Some, None}
use Rattle.wire.specs.Wire.{byte_at, be16_at}
use Rattle.wire.specs.Grammar.{Grammar, accepted}
use Rattle.codec_config.specs.Records.{avc_names, hevc_names}
use Rattle.codec_config.specs.declared.SetType.{SetType}
use Rattle.codec_config.specs.declared.SetType.TheVariants as set-of

-- the test that a set type stands for in the code
abbrev pub names_type : SetType → ℕ → Bool
names_type (set-of.Avc type) = avc_names type
names_type (set-of.Hevc type) = hevc_names type

-- the end of the set at i; none where the set is empty, does not fit or names another type
unfoldable pub set_end : (ℕ → Bool) → List ℕ → ℕ → Option ℕ
set_end names p i =
    cond (ltb 0 (be16_at p i))
    (cond (leb (i + 2 + be16_at p i) (length p)) (cond (names (byte_at p (i + 2))) (Some (i + 2 + be16_at p i)) None) None) None

abbrev pub and_then : Option ℕ → (ℕ → Option ℕ) → Option ℕ
and_then (Some e) more = more e
and_then None more = None

-- the end of n sets from i on
unfoldable pub sets_end : (ℕ → Bool) → ℕ → List ℕ → ℕ → Option ℕ
sets_end names zero p i = Some i
sets_end names (suc n) p i = and_then (set_end names p i) (sets_end names n p)

-- whether a grammar accepts the bytes from i on, or from where sets end on
unfoldable pub accepted_at : Grammar → List ℕ → ℕ → Bool
accepted_at g p i = accepted (g (drop i p))

abbrev pub accepted_from : Option ℕ → Grammar → List ℕ → Bool
accepted_from (Some e) g p = accepted_at g p e
accepted_from None g p = false
