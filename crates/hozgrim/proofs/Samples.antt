-- Every sample of a G.711 frame is sealed, a level depends on it, and peeling changes no level.
use mathlib.Core.Path.{◌≡◌, refl, sym, ap, ◌∙◌}
use mathlib.Core.Logic.{inl, ⊎_elim}
use mathlib.Core.Bool.{Bool, true, false, and-false}
use mathlib.Core.List.{List, [], ◌∷◌}
use Prim.Native.Nat.{ℕ, zero, suc, ◌≤◌, ◌<◌}
use native.Mathlib.Omega.{arith}
use lib.Dec.{eqb, leb, lit<, lit≤}
use lib.ListN.{length}
use borrow.Author.Tests.{eqb-true, eq-eqb, ne_eqb, le-leb}
use Rattle.wire.specs.Wire.{byte_at, high}
use Rattle.wire.proofs.Bools.{true_or_false}
use Rattle.types.specs.Types.{is_audio}
use Rattle.types.specs.declared.AudioCodec.{AudioCodec}
use Rattle.types.specs.declared.AudioCodec.TheVariants.{G711A, G711U}
use Rattle.std.specs.Prelude.{Result, Ok, Option, Some, None}
use Rattle.types.specs.declared.ErrorCode.{ErrorCode}
use Rattle.types.specs.declared.AudioHeader.{AudioHeader}
use Rattle.modex.specs.Modex.{is_wrapped, chain_of, peeled}
use Rattle.modex.specs.declared.ModexChain.{ModexChain}
use Rattle.modex.proofs.Laws.{chain_unwrapped, peeled_none, peeled_ends, ends_wrapped, ends_facts}
use Rattle.exaudio.specs.Audio.{sound_format, accept, header_of, legacy_audio, legacy_header, audio_header}
use Rattle.multitrack_media.specs.Container.{opens_container}
use Rattle.multitrack_media.proofs.Answers.{closed_container}
use Rattle.init_cache.specs.Head.{tag_header, frame_head, is_enhanced_of, is_video_of, is_avc_of, is_aac_of}
use Rattle.init_cache.specs.Verdicts.{sequence_start}
use Rattle.frame.specs.Sealed.{seals_nothing, sealed_in_payload}
use Rattle.frame.proofs.Payloads.{wrapped_facts}
use Rattle.frame.proofs.Corollaries.{from_header, unpeeled_result}
use Rattle.g711.specs.Expansion.{a_magnitude, a_law}
use Rattle.g711.specs.Level.{largest, sound_level, level_answer}
use Rattle.g711.proofs.Levels.{by_neither}
use Rattle.hozgrim.specs.Levels.{SamplesSealed, LevelDepends, LevelOfResult}

-- a legacy sound format that has a codec, and is not AAC
module _
    (p : List ℕ)
    (some : 0 < length p)
    (n : ℕ)
    (format : high (byte_at p 0) ≡ n)
    (legacy : eqb n 9 ≡ false)
    (other : eqb n 10 ≡ false)
    (codec : AudioCodec)
    (known : sound_format n ≡ Ok codec)
  where
    header : audio_header p ≡ accept (legacy_audio (byte_at p 0) codec 0 1)
    unfolding audio_header legacy_header
    header = simp (ne_eqb (length p) 0 (λ e. omega (arith, e)), format, legacy, known, other)

    closed : opens_container 0 (byte_at p 0) ≡ false
    unfolding opens_container
    closed = simp (ne_eqb (byte_at p 0) 0x95 (λ e. true_or_false (eq-eqb n 9 (omega (arith, e, format))) legacy))

    single : seals_nothing 0 (frame_head 0 p) ≡ false
    unfolding seals_nothing frame_head tag_header is_enhanced_of
    single = simp (header, closed)

    unjudged : sequence_start 0 (frame_head 0 p) ≡ None
    unfolding sequence_start frame_head tag_header is_video_of is_enhanced_of is_avc_of is_aac_of
    unjudged = simp (header, format, other)

    unwrapped : (mask : ℕ) → is_wrapped 0 mask p ≡ false
    unfolding is_wrapped
    unwrapped mask = simp (format, legacy, and-false)

    sealed : (mask i : ℕ) → 1 ≤ i → i < length p → sealed_in_payload 0 mask p i ≡ true
    unfolding tag_header
    sealed mask i h l = unpeeled_result 0 mask p (omega arith) (sym (chain_unwrapped 0 mask p (unwrapped mask))) i
        ∙ from_header 0 p (omega arith) (closed_container 0 p closed) single unjudged i l refl
        ∙ ap (λ (a : Result AudioHeader ErrorCode). leb (header_of a).header_size i) header ∙ le-leb 1 i h

pub samples_sealed_lem : SamplesSealed
unfolding SamplesSealed sound_format
samples_sealed_lem mask p w i h l =
    ⊎_elim (λ a. sealed p (omega arith) 7 (eqb-true (high (byte_at p 0)) 7 a) refl refl G711A refl mask i h l)
    (λ m. sealed p (omega arith) 8 (eqb-true (high (byte_at p 0)) 8 m) refl refl G711U refl mask i h l) w

-- silence and full scale in A-law agree but in their sample
abbrev quiet : List ℕ
quiet = 0x70 ∷ 0xD5 ∷ []

abbrev loud : List ℕ
loud = 0x70 ∷ 0x2A ∷ []

pub level_depends_lem : LevelDepends
unfolding LevelDepends SamplesSealed level_answer sound_level largest a_law a_magnitude
level_depends_lem mask = (quiet, loud, record { lengths = refl; outputs = refl; unsealed = same }, 1, 4032, refl, refl, λ e. absurd (omega (arith, e)))
  where
    same : (i : ℕ) → i < 2 → sealed_in_payload 0 mask quiet i ≡ false → byte_at quiet i ≡ byte_at loud i
    same zero h s = refl
    same (suc zero) h s = true_or_false (samples_sealed_lem mask quiet (inl refl) 1 (lit≤ tt) (lit< tt)) s
    same (suc (suc i)) h s = absurd (omega arith)

-- an audio payload with high nibble 9 has level 0
enhanced : (p : List ℕ) → high (byte_at p 0) ≡ 9 → sound_level p ≡ 0
enhanced p e = by_neither p (rw e refl) (rw e refl)

same_sound : (type : ℕ) (p q : List ℕ) → (is_audio type ≡ true → sound_level q ≡ sound_level p) → level_answer type q ≡ level_answer type p
unfolding level_answer
same_sound type p q h = go (is_audio type) refl
  where
    go : (a : Bool) → is_audio type ≡ a → level_answer type q ≡ level_answer type p
    go true e = rw (e, h e) refl
    go false e = rw e refl

pub level_of_result_lem : LevelOfResult
unfolding LevelOfResult
level_of_result_lem type mask p = go (chain_of type mask p) refl
  where
    go : (chain : Option ModexChain) → chain_of type mask p ≡ chain → level_answer type (peeled type mask p) ≡ level_answer type p
    go None e = ap (level_answer type) (peeled_none type mask p e)
    go (Some c) e =
        same_sound type p (peeled type mask p)
        (λ a.
        let h = (wrapped_facts type mask p (ends_wrapped type mask p c e).0).nine a in
        rw (peeled_ends type mask p c e) (enhanced _ (omega (arith, h, (ends_facts type mask p c e).nibble)) ∙ sym (enhanced p h)))
