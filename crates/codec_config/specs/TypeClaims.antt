-- What request N7 changes: the rule as it was before, the sets of a record, and how verdict and mask of a record go from the one to the other.
-- specs/Records does not lean on this file.
use Rattle.std.specs.Prelude.{◌≡◌, Bool, true, false, cond, ◌&&◌, List, [], ◌∷◌, ℕ, zero, suc, ◌+◌, ◌%◌, eqb, ltb, length}
use Rattle.wire.specs.Wire.{byte_at, be16, be16_at}
use Rattle.wire.specs.Mask.{Mask}
use Rattle.wire.specs.Grammar.{Grammar, byte, skip, guard, end_or, sealed_rest, accepted, mask_of}
use Rattle.codec_config.specs.Records.{avc_names, hevc_names, set_seen, record_grammar, record_valid, record_mask}
use Rattle.codec_config.specs.declared.ConfigCodec.{ConfigCodec}
use Rattle.codec_config.specs.declared.ConfigCodec.TheVariants.{Avc, Hevc, Opaque, Aac, Opus}

-- THE RULE BEFORE: a set is of any type, and sealed whole
unfoldable pub any_set : Grammar → Grammar
any_set next = byte λ h. byte λ l. guard (ltb 0 (be16 h l)) (skip (be16 h l) next)

unfoldable pub any_sets : ℕ → Grammar → Grammar
any_sets zero next = next
any_sets (suc n) next = any_set (any_sets n next)

-- AVC so
unfoldable pub any_avc_extension : Grammar
any_avc_extension = end_or (skip 3 (byte λ count. any_sets count sealed_rest))

unfoldable pub any_avc_picture_sets : Grammar
any_avc_picture_sets = byte λ count. guard (ltb 0 count) (any_sets count any_avc_extension)

unfoldable pub any_avc : Grammar
any_avc = byte λ version. guard (eqb version 1) (skip 4 (byte λ b. guard (ltb 0 (b % 32)) (any_sets (b % 32) any_avc_picture_sets)))

-- HEVC so
unfoldable pub any_hevc_arrays : ℕ → Bool → Bool → Grammar
any_hevc_arrays zero sps pps = guard (sps && pps) sealed_rest
any_hevc_arrays (suc n) sps pps =
    byte λ type. byte λ h. byte λ l. any_sets (be16 h l)
    (any_hevc_arrays n (set_seen sps 33 (type % 64) (be16 h l)) (set_seen pps 34 (type % 64) (be16 h l)))

unfoldable pub any_hevc : Grammar
any_hevc = byte λ version. guard (eqb version 1) (skip 21 (byte λ count. any_hevc_arrays count false false))

-- of the other codecs the rule is what it was
unfoldable pub grammar_before : ConfigCodec → Grammar
grammar_before Avc = any_avc
grammar_before Hevc = any_hevc
grammar_before Opaque = record_grammar Opaque
grammar_before Aac = record_grammar Aac
grammar_before Opus = record_grammar Opus

-- THE SETS OF A RECORD: where the first byte of each stands, and whether a byte names the type of its list
pub record FirstByte : Type 0 where
  pub at : ℕ
  pub names : ℕ → Bool

-- n sets from i on, and then those that come from where these end
unfoldable pub first_bytes : (ℕ → Bool) → ℕ → List ℕ → (ℕ → List FirstByte) → ℕ → List FirstByte
first_bytes names zero p more i = more i
first_bytes names (suc n) p more i = record { at = i + 2; names = names } ∷ first_bytes names n p more (i + 2 + be16_at p i)

-- in AVC: of an extension from i on, if there is one; of the picture sets and what follows them, from their count on
unfoldable pub extension_first_bytes : List ℕ → ℕ → List FirstByte
extension_first_bytes p i = cond (ltb i (length p)) (first_bytes (avc_names 13) (byte_at p (i + 3)) p (λ _. []) (i + 4)) []

unfoldable pub picture_first_bytes : List ℕ → ℕ → List FirstByte
picture_first_bytes p i = first_bytes (avc_names 8) (byte_at p i) p (extension_first_bytes p) (i + 1)

-- in HEVC: of n arrays from i on
unfoldable pub array_first_bytes : ℕ → List ℕ → ℕ → List FirstByte
array_first_bytes zero p i = []
array_first_bytes (suc n) p i = first_bytes (hevc_names (byte_at p i % 64)) (be16_at p (i + 1)) p (array_first_bytes n p) (i + 3)

-- of a whole record; the other codecs have no sets
unfoldable pub record_first_bytes : ConfigCodec → List ℕ → List FirstByte
record_first_bytes Avc p = first_bytes (avc_names 7) (byte_at p 5 % 32) p (picture_first_bytes p) 6
record_first_bytes Hevc p = array_first_bytes (byte_at p 22) p 23
record_first_bytes Opaque p = []
record_first_bytes Aac p = []
record_first_bytes Opus p = []

-- each of them names the type of its list
unfoldable pub all_name : List ℕ → List FirstByte → Bool
all_name p [] = true
all_name p (f ∷ fs) = f.names (byte_at p f.at) && all_name p fs

-- a mask in which they are open
unfoldable pub open_at : ℕ → Mask → Mask
open_at i [] = []
open_at zero (s ∷ m) = false ∷ m
open_at (suc i) (s ∷ m) = s ∷ open_at i m

unfoldable pub opened : List FirstByte → Mask → Mask
opened [] m = m
opened (f ∷ fs) m = opened fs (open_at f.at m)

-- A RECORD IS VALID exactly if it was before and each of its sets names the type of its list; then sealed is what was before, less the sets' first bytes
pub record Narrowed (codec : ConfigCodec) (p : List ℕ) : Type 0 where
  pub verdict : record_valid codec p ≡ (accepted (grammar_before codec p) && all_name p (record_first_bytes codec p))
  pub mask : record_valid codec p ≡ true → record_mask codec p ≡ opened (record_first_bytes codec p) (mask_of (grammar_before codec p))
