-- What specs/CodecClaims says: three rules exactly, and what their sealed bytes leave as it is.
use mathlib.Core.Path.{◌≡◌, ap, ◌∙◌}
use mathlib.Core.Bool.{true, false, not, ◌&&◌}
use mathlib.Core.List.{List, ◌++◌}
use Prim.Native.Nat.{ℕ, ◌+◌, ◌-◌, ◌<◌}
use native.Mathlib.Omega.{arith}
use native.Mathlib.Decide.{dec_lt, ℕ_discrete}
use lib.Dec.{eqb, leb}
use lib.ListN.{length, get_or-replicate}
use borrow.Author.Tests.{lt-ltb, le-ltb, le-leb, eq-eqb, ne_eqb}
use Rattle.wire.specs.Mask.{LowEquivalent, open_bytes, sealed_bytes, sealed_at}
use Rattle.wire.specs.Grammar.{Grammar, Noninterfering, accepted, mask_of}
use Rattle.wire.proofs.Grammars.{grammar_alike}
use Rattle.wire.proofs.Masks.{behind_front, sealed_between, from_position}
use Rattle.codec_config.specs.Heads.{av1, opus_head, flac_head}
use Rattle.codec_config.specs.CodecClaims.{ValidExactly, SealedExactly, HeadsNoninterfering, Alike, HeadsAlike}
use Rattle.codec_config.proofs.Av1.{av1_holds, av1_exactly, av1_mask}
use Rattle.codec_config.proofs.Opus.{opus_head_holds, opus_exactly, opus_head_mask}
use Rattle.codec_config.proofs.Flac.{flac_holds, flac_exactly, flac_mask}

-- WHICH RECORDS ARE VALID
pub valid_exactly_lem : (p : List ℕ) → ValidExactly p
valid_exactly_lem p = record { av1 = av1_exactly p; opus_head = opus_exactly p; flac = flac_exactly p }

-- WHICH BYTES ARE SEALED. In an Opus header bytes 10 on, but for 18
head_sealed : (n i : ℕ) → i < 19 + n → sealed_at (open_bytes 10 ++ (sealed_bytes 8 ++ (open_bytes 1 ++ sealed_bytes n))) i ≡ (leb 10 i && not (eqb i 18))
unfolding sealed_at
head_sealed n i h = go (dec_lt i 18) (ℕ_discrete i 18)
  where
    go : Dec (i < 18) → Dec (i ≡ 18) → sealed_at (open_bytes 10 ++ (sealed_bytes 8 ++ (open_bytes 1 ++ sealed_bytes n))) i ≡ (leb 10 i && not (eqb i 18))
    go (yes l) e = sealed_between 10 8 1 (sealed_bytes n) i (omega arith) ∙ simp (lt-ltb i 18 l, ne_eqb i 18 (λ e. omega arith))
    go (no l) (yes e) = sealed_between 10 8 1 (sealed_bytes n) i (omega arith) ∙ simp (le-ltb i 18 (omega arith), eq-eqb i 18 e)
    go (no l) (no e) =
        let s : sealed_at (sealed_bytes n) (i - 10 - 8 - 1) ≡ true = get_or-replicate n (i - 10 - 8 - 1) true false (omega arith) in
        behind_front false 10 (sealed_bytes 8 ++ (open_bytes 1 ++ sealed_bytes n)) i (omega arith)
        ∙ behind_front true 8 (open_bytes 1 ++ sealed_bytes n) (i - 10) (omega arith)
        ∙ behind_front false 1 (sealed_bytes n) (i - 10 - 8) (omega arith) ∙ s
        ∙ simp (le-leb 10 i (omega arith), ne_eqb i 18 e)

module _ (p : List ℕ) where
  opus_sealed : accepted (opus_head p) ≡ true → (i : ℕ) → i < length p → sealed_at (mask_of (opus_head p)) i ≡ (leb 10 i && not (eqb i 18))
  opus_sealed v i h = rw (opus_head_mask p v) (head_sealed (length p - 19) i (omega arith))

  pub sealed_exactly_lem : SealedExactly p
  sealed_exactly_lem =
      record {
        av1 = λ v i h. rw (av1_mask p v) (from_position 1 p i h);
        opus_head = opus_sealed;
        flac = λ v i h. rw (flac_mask p v) (from_position 8 p i h);
      }

-- WHAT THE SEALED BYTES HOLD
pub heads_noninterfering_lem : HeadsNoninterfering
heads_noninterfering_lem = record { av1 = av1_holds; opus_head = opus_head_holds; flac = flac_holds }

alike : (g : Grammar) → Noninterfering g → (p q : List ℕ) → LowEquivalent (sealed_at (mask_of (g p))) p q → Alike g p q
alike g h p q a = record { valid = ap accepted (grammar_alike g h p q a); mask = ap mask_of (grammar_alike g h p q a) }

pub heads_alike_lem : (p q : List ℕ) → HeadsAlike p q
heads_alike_lem p q = record { av1 = alike av1 av1_holds p q; opus_head = alike opus_head opus_head_holds p q; flac = alike flac_head flac_holds p q }
