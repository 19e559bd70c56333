-- Valid AVC and HEVC records by their parts, bytes and mask side by side. The grammars of specs/Records give exactly these masks for exactly these bytes
-- (proofs/Masks), so this file need not be believed: it is for holding the grammars against docs/REQUIREMENTS.md, "Sealed bytes".
use Rattle.std.specs.Prelude.{◌≡◌, Bool, true, false, ◌&&◌, List, [], ◌∷◌, ◌++◌, ℕ, suc, ◌%◌, ◌<◌, length}
use Rattle.wire.specs.Wire.{be16}
use Rattle.wire.specs.Mask.{Mask, open_bytes, sealed_bytes}
use Rattle.codec_config.specs.Records.{avc_names, hevc_names, set_seen}

-- n sets: each a 16-bit length, not 0, that many bytes, of which the first must name a type, and the others are sealed
pub data Sets (names : ℕ → Bool) : ℕ → List ℕ → Mask → Type 0 where
  no_set : Sets names 0 [] []
  set_and : {n : ℕ} {more : List ℕ} {moreMask : Mask} (h l first : ℕ) (others : List ℕ) → suc (length others) ≡ be16 h l → names first ≡ true
      → Sets names n more moreMask
      → Sets names (suc n) (h ∷ l ∷ first ∷ (others ++ more)) (open_bytes 3 ++ (sealed_bytes (length others) ++ moreMask))

-- behind an AVC record's picture sets: nothing, or three sealed bytes, a count and its sets of type 13, anything after, sealed
pub data AvcEnd (p : List ℕ) (m : Mask) : Type 0 where
  nothing : p ≡ [] → m ≡ [] → AvcEnd p m
  extension : (three : List ℕ) (count : ℕ) (sets after : List ℕ) (setsMask : Mask) → length three ≡ 3 → Sets (avc_names 13) count sets setsMask
      → p ≡ three ++ (count ∷ (sets ++ after))
      → m ≡ sealed_bytes 3 ++ (open_bytes 1 ++ (setsMask ++ sealed_bytes (length after)))
      → AvcEnd p m

-- an AVC record: byte 0 is 1; four sealed bytes; byte 5, whose low five bits count sets of type 7, not 0; a count byte, not 0, and its sets of type 8;
-- the end
pub record AvcLayout (p : List ℕ) (m : Mask) : Type 0 where
  pub four : List ℕ
  pub byte5 : ℕ
  pub sequence : List ℕ
  pub sequence_mask : Mask
  pub count : ℕ
  pub pictures : List ℕ
  pub pictures_mask : Mask
  pub end : List ℕ
  pub end_mask : Mask
  pub size : length four ≡ 4
  pub sequence_some : 0 < byte5 % 32
  pub sequence_sets : Sets (avc_names 7) (byte5 % 32) sequence sequence_mask
  pub pictures_some : 0 < count
  pub picture_sets : Sets (avc_names 8) count pictures pictures_mask
  pub ended : AvcEnd end end_mask
  pub bytes : p ≡ 1 ∷ (four ++ (byte5 ∷ (sequence ++ (count ∷ (pictures ++ end)))))
  pub mask : m ≡ open_bytes 1 ++ (sealed_bytes 4 ++ (open_bytes 1 ++ (sequence_mask ++ (open_bytes 1 ++ (pictures_mask ++ end_mask)))))

-- n HEVC arrays, where sets of types 33 and 34 were seen before or not: each a type, a 16-bit count and its sets of that type; then both were seen,
-- anything after, sealed
pub data Arrays : ℕ → Bool → Bool → List ℕ → Mask → Type 0 where
  no_array : {sps pps : Bool} (after : List ℕ) → (sps && pps) ≡ true → Arrays 0 sps pps after (sealed_bytes (length after))
  array_and : {n : ℕ} {sps pps : Bool} {sets more : List ℕ} {setsMask moreMask : Mask} (type h l : ℕ)
      → Sets (hevc_names (type % 64)) (be16 h l) sets setsMask
      → Arrays n (set_seen sps 33 (type % 64) (be16 h l)) (set_seen pps 34 (type % 64) (be16 h l)) more moreMask
      → Arrays (suc n) sps pps (type ∷ h ∷ l ∷ (sets ++ more)) (open_bytes 3 ++ (setsMask ++ moreMask))

-- an HEVC record: byte 0 is 1; 21 sealed bytes; byte 22 counts arrays
pub record HevcLayout (p : List ℕ) (m : Mask) : Type 0 where
  pub head : List ℕ
  pub count : ℕ
  pub arrays : List ℕ
  pub arrays_mask : Mask
  pub size : length head ≡ 21
  pub counted : Arrays count false false arrays arrays_mask
  pub bytes : p ≡ 1 ∷ (head ++ (count ∷ arrays))
  pub mask : m ≡ open_bytes 1 ++ (sealed_bytes 21 ++ (open_bytes 1 ++ arrays_mask))
