-- Exactly which bytes of a record are sealed: the whole mask of each kind of record, and the first bytes of AVC and HEVC one by one.
use mathlib.Core.Path.{◌≡◌, refl, sym, ap}
use mathlib.Core.Bool.{Bool, true, false, ◌&&◌, true≢false}
use mathlib.Core.Option.{Option, none, some, some-injective}
use mathlib.Core.List.{List, [], ◌∷◌}
use Prim.Native.Nat.{ℕ, ◌<◌}
use lib.Dec.{ltb, leb}
use lib.ListN.{length}
use Rattle.wire.specs.Mask.{Mask, open_bytes, sealed_bytes, sealed_at}
use Rattle.wire.specs.Grammar.{at_end, sealed_rest, open_rest, accepted, mask_of}
use Rattle.wire.proofs.Options.{require_some}
use Rattle.wire.proofs.Masks.{get_d_false, sealed_between}
use Rattle.codec_config.specs.Records.{aac, record_grammar, record_valid, record_mask}
use Rattle.codec_config.specs.Layouts.{AvcLayout, HevcLayout}
use Rattle.codec_config.specs.declared.ConfigCodec.{ConfigCodec}
use Rattle.codec_config.specs.declared.ConfigCodec.TheVariants.{Avc, Hevc, Opaque, Aac, Opus}
use Rattle.codec_config.proofs.Avc.{avc_took, avc_gives}
use Rattle.codec_config.proofs.Hevc.{hevc_took, hevc_gives}

-- THE MASK OF A VALID RECORD, which is what its grammar gives
given : (codec : ConfigCodec) (p : List ℕ) → record_valid codec p ≡ true → record_grammar codec p ≡ some (record_mask codec p)
unfolding record_valid record_mask
given codec p v = go (record_grammar codec p) v
  where
    go : (o : Option Mask) → accepted o ≡ true → o ≡ some (mask_of o)
    go none v = absurd (true≢false (sym v))
    go (some m) v = refl

pub record Valid (codec : ConfigCodec) (p : List ℕ) (m : Mask) : Type 0 where
  pub valid : record_valid codec p ≡ true
  pub mask : record_mask codec p ≡ m

judged : (codec : ConfigCodec) (p : List ℕ) (m : Mask) → record_grammar codec p ≡ some m → Valid codec p m
unfolding record_valid record_mask
judged codec p m e = record { valid = ap accepted e; mask = ap mask_of e }

-- AVC: a record is valid exactly if it has the layout, and then its mask is the layout's
module _ (p : List ℕ) where
  pub avc_layout_lem : record_valid Avc p ≡ true → AvcLayout p (record_mask Avc p)
  unfolding record_grammar
  avc_layout_lem v = avc_took p _ (given Avc p v)

  pub avc_exactly : (m : Mask) → AvcLayout p m → Valid Avc p m
  unfolding record_grammar
  avc_exactly m l = judged Avc p m (avc_gives l)

  -- its first six bytes: sealed are bytes 1 to 4
  pub avc_first : record_valid Avc p ≡ true → (i : ℕ) → i < 6 → sealed_at (record_mask Avc p) i ≡ (leb 1 i && ltb i 5)
  avc_first v i h = rw (avc_layout_lem v).mask (sealed_between 1 4 1 _ i h)

  -- HEVC likewise; of its first 23 bytes sealed are bytes 1 to 21
  pub hevc_layout_lem : record_valid Hevc p ≡ true → HevcLayout p (record_mask Hevc p)
  unfolding record_grammar
  hevc_layout_lem v = hevc_took p _ (given Hevc p v)

  pub hevc_exactly : (m : Mask) → HevcLayout p m → Valid Hevc p m
  unfolding record_grammar
  hevc_exactly m l = judged Hevc p m (hevc_gives l)

  pub hevc_first : record_valid Hevc p ≡ true → (i : ℕ) → i < 23 → sealed_at (record_mask Hevc p) i ≡ (leb 1 i && ltb i 22)
  hevc_first v i h = rw (hevc_layout_lem v).mask (sealed_between 1 21 1 _ i h)

  -- OPUS: all
  pub opus_mask : record_mask Opus p ≡ sealed_bytes (length p)
  unfolding record_mask record_grammar sealed_rest
  opus_mask = refl

  -- AAC: none
  pub aac_mask : record_valid Aac p ≡ true → record_mask Aac p ≡ open_bytes (length p)
  unfolding record_grammar open_rest
  aac_mask v = sym (some-injective _ _ (require_some (aac p) (some (open_bytes (length p))) (given Aac p v)).1)

-- OPAQUE: all
pub opaque_mask : (p : List ℕ) → record_mask Opaque p ≡ sealed_bytes (length p)
unfolding record_mask record_grammar at_end sealed_rest
opaque_mask [] = refl
opaque_mask (x ∷ p) = refl

-- A REFUSED RECORD: none
pub refused_mask : (codec : ConfigCodec) (p : List ℕ) → record_valid codec p ≡ false → record_mask codec p ≡ []
unfolding record_valid record_mask
refused_mask codec p v = go (record_grammar codec p) v
  where
    go : (o : Option Mask) → accepted o ≡ false → mask_of o ≡ []
    go none v = refl
    go (some m) v = absurd (true≢false v)

-- the same index by index: nothing is sealed in a refused record, nor in an AAC one
pub refused_open : (codec : ConfigCodec) (p : List ℕ) → record_valid codec p ≡ false → (j : ℕ) → sealed_at (record_mask codec p) j ≡ false
unfolding sealed_at
refused_open codec p v j = rw (refused_mask codec p v) refl

pub aac_open : (p : List ℕ) (j : ℕ) → sealed_at (record_mask Aac p) j ≡ false
unfolding sealed_at
aac_open p j = go (record_valid Aac p) refl
  where
    go : (v : Bool) → record_valid Aac p ≡ v → sealed_at (record_mask Aac p) j ≡ false
    go true v = rw (aac_mask p v) (get_d_false (length p) j)
    go false v = refused_open Aac p v j
