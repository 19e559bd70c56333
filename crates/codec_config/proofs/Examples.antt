-- Masks byte by byte: of the starred AVC record, of the same record with an extension, and of records with longer sets; and records that are refused.
use mathlib.Core.Path.{◌≡◌, refl}
use mathlib.Core.Bool.{Bool, true, false}
use mathlib.Core.Option.{none, some}
use mathlib.Core.List.{List, [], ◌∷◌, ◌++◌, map}
use Prim.Native.Nat.{ℕ}
use lib.ListN.{replicate}
use Rattle.wire.specs.Grammar.{byte, skip, guard, at_end, sealed_rest}
use Rattle.codec_config.specs.Records.{set, sets, avc_extension, avc_picture_sets, avc, set_seen, hevc_arrays, hevc, record_grammar}
use Rattle.codec_config.specs.declared.ConfigCodec.{ConfigCodec}
use Rattle.codec_config.specs.declared.ConfigCodec.TheVariants.{Avc, Hevc}

-- a byte, and whether it is sealed
record Marked : Type 0 where
  value : ℕ
  mark : Bool

abbrev unsealed : ℕ → Marked
unsealed b = record { value = b; mark = false }

abbrev sealed : ℕ → Marked
sealed b = record { value = b; mark = true }

abbrev bytes : List Marked → List ℕ
bytes r = map (λ (b : Marked). b.value) r

-- a valid record with just these bytes sealed
abbrev Sealed : ConfigCodec → List Marked → Type 0
Sealed codec r = record_grammar codec (bytes r) ≡ some (map (λ (b : Marked). b.mark) r)

starred : List Marked
starred =
    -- version, bytes 1 to 4
    unsealed 0x01 ∷ sealed 0x42 ∷ sealed 0x00 ∷ sealed 0x1E ∷ sealed 0xFF
    -- one sequence set
    ∷ unsealed 0xE1 ∷ unsealed 0x00 ∷ unsealed 0x01 ∷ unsealed 0x67
    -- one picture set
    ∷ unsealed 0x01 ∷ unsealed 0x00 ∷ unsealed 0x01 ∷ unsealed 0x68
    ∷ []

-- three bytes, one set, and a byte after it
extension : List Marked
extension = sealed 0xFD ∷ sealed 0xF8 ∷ sealed 0xF8 ∷ unsealed 0x01 ∷ unsealed 0x00 ∷ unsealed 0x01 ∷ unsealed 0x6D ∷ sealed 0xAA ∷ []

starred_mask : Sealed Avc starred
unfolding starred record_grammar set sets avc_extension avc_picture_sets avc byte skip guard at_end sealed_rest
starred_mask = refl

extended_mask : Sealed Avc (starred ++ extension)
unfolding starred extension record_grammar set sets avc_extension avc_picture_sets avc byte skip guard at_end sealed_rest
extended_mask = refl

-- with `00` added the starred record has no whole extension
starred_and_00 : record_grammar Avc (bytes starred ++ (0x00 ∷ [])) ≡ none
unfolding starred record_grammar set sets avc_extension avc_picture_sets avc byte skip guard at_end sealed_rest
starred_and_00 = refl

-- of a longer set all bytes but the first are sealed; the bits of a first byte that name no type are free
longer : List Marked
longer =
    unsealed 0x01 ∷ sealed 0x42 ∷ sealed 0x00 ∷ sealed 0x1E ∷ sealed 0xFF
    ∷ unsealed 0xE2 ∷ unsealed 0x00 ∷ unsealed 0x03 ∷ unsealed 0xE7 ∷ sealed 0x42 ∷ sealed 0x68 ∷ unsealed 0x00 ∷ unsealed 0x01 ∷ unsealed 0x07
    ∷ unsealed 0x01 ∷ unsealed 0x00 ∷ unsealed 0x02 ∷ unsealed 0x08 ∷ sealed 0xCE
    ∷ []

longer_mask : Sealed Avc longer
unfolding longer record_grammar set sets avc_extension avc_picture_sets avc byte skip guard at_end sealed_rest
longer_mask = refl

several : List Marked
several =
    -- version, bytes 1 to 21, four arrays
    (unsealed 0x01 ∷ replicate 21 (sealed 0x5A)) ++ (unsealed 0x04
    -- two sets of type 32
    ∷ unsealed 0x20 ∷ unsealed 0x00 ∷ unsealed 0x02 ∷ unsealed 0x00 ∷ unsealed 0x01 ∷ unsealed 0x40 ∷ unsealed 0x00 ∷ unsealed 0x02 ∷ unsealed 0x41 ∷ sealed 0x41
    -- one of type 33, one of type 34, one of type 39
    ∷ unsealed 0xA1 ∷ unsealed 0x00 ∷ unsealed 0x01 ∷ unsealed 0x00 ∷ unsealed 0x01 ∷ unsealed 0xC3
    ∷ unsealed 0xA2 ∷ unsealed 0x00 ∷ unsealed 0x01 ∷ unsealed 0x00 ∷ unsealed 0x01 ∷ unsealed 0x44
    ∷ unsealed 0x27 ∷ unsealed 0x00 ∷ unsealed 0x01 ∷ unsealed 0x00 ∷ unsealed 0x02 ∷ unsealed 0x4E ∷ sealed 0x40
    -- bytes after the arrays
    ∷ sealed 0x00 ∷ sealed 0xFF
    ∷ [])

several_mask : Sealed Hevc several
unfolding several record_grammar set sets set_seen hevc_arrays hevc byte skip guard sealed_rest
several_mask = refl

-- REFUSED FOR THE TYPE OF A SET ALONE. AVC: the sets of the starred record exchanged; sequence sets twice; picture sets twice; the second picture set;
-- an extension of type 7, of type 0
avc_others : List (List ℕ)
avc_others =
    (head ++ (0xE1 ∷ 0x00 ∷ 0x01 ∷ 0x68 ∷ 0x01 ∷ 0x00 ∷ 0x01 ∷ 0x67 ∷ []))
    ∷ (head ++ (0xE1 ∷ 0x00 ∷ 0x01 ∷ 0x67 ∷ 0x01 ∷ 0x00 ∷ 0x01 ∷ 0x67 ∷ []))
    ∷ (head ++ (0xE1 ∷ 0x00 ∷ 0x01 ∷ 0x68 ∷ 0x01 ∷ 0x00 ∷ 0x01 ∷ 0x68 ∷ []))
    ∷ (head ++ (0xE1 ∷ 0x00 ∷ 0x01 ∷ 0x67 ∷ 0x02 ∷ 0x00 ∷ 0x01 ∷ 0xE8 ∷ 0x00 ∷ 0x01 ∷ 0x00 ∷ []))
    ∷ (head ++ (0xE1 ∷ 0x00 ∷ 0x01 ∷ 0x67 ∷ 0x01 ∷ 0x00 ∷ 0x01 ∷ 0x68 ∷ 0 ∷ 0 ∷ 0 ∷ 0x01 ∷ 0x00 ∷ 0x01 ∷ 0x67 ∷ []))
    ∷ (head ++ (0xE1 ∷ 0x00 ∷ 0x01 ∷ 0x67 ∷ 0x01 ∷ 0x00 ∷ 0x01 ∷ 0x68 ∷ 0 ∷ 0 ∷ 0 ∷ 0x01 ∷ 0x00 ∷ 0x01 ∷ 0x00 ∷ []))
    ∷ []
  where
    head : List ℕ
    head = 0x01 ∷ 0x42 ∷ 0x00 ∷ 0x1E ∷ 0xFF ∷ []

avc_others_lem : map (record_grammar Avc) avc_others ≡ replicate 6 none
unfolding avc_others record_grammar set sets avc_extension avc_picture_sets avc byte skip guard at_end sealed_rest
avc_others_lem = refl

-- HEVC, behind right sets of types 33 and 34: a type in the low six bits; an array of type 39 with a set of type 32, one of type 0 with a set of type 1
hevc_others : List (List ℕ)
hevc_others =
    (head ++ (0x03 ∷ (right ++ (0x21 ∷ 0x00 ∷ 0x01 ∷ 0x00 ∷ 0x01 ∷ 0x21 ∷ []))))
    ∷ (head ++ (0x03 ∷ (right ++ (0x27 ∷ 0x00 ∷ 0x01 ∷ 0x00 ∷ 0x01 ∷ 0x40 ∷ []))))
    ∷ (head ++ (0x03 ∷ (right ++ (0x00 ∷ 0x00 ∷ 0x01 ∷ 0x00 ∷ 0x01 ∷ 0x02 ∷ []))))
    ∷ []
  where
    head : List ℕ
    head = 0x01 ∷ replicate 21 0x00

    right : List ℕ
    right = 0x21 ∷ 0x00 ∷ 0x01 ∷ 0x00 ∷ 0x01 ∷ 0x42 ∷ 0x22 ∷ 0x00 ∷ 0x01 ∷ 0x00 ∷ 0x01 ∷ 0x44 ∷ []

hevc_others_lem : map (record_grammar Hevc) hevc_others ≡ replicate 3 none
unfolding hevc_others record_grammar set sets set_seen hevc_arrays hevc byte skip guard sealed_rest
hevc_others_lem = refl
