-- Laws of the audio header for the crates above: what a readable header says, and that it is decided by the length and the bytes that it covers.
use mathlib.Core.Path.{◌≡◌, refl, sym, ap, ◌∙◌, subst}
use mathlib.Core.Bool.{cond}
use mathlib.Core.List.{List}
use Prim.Native.Nat.{ℕ, ◌/◌, ◌<◌, ◌≤◌}
use native.Mathlib.Decide.{dec_lt, ℕ_discrete}
use native.Mathlib.Omega.{arith}
use lib.ListN.{length}
use borrow.Author.Tests.{eq-eqb, ne_eqb}
use Rattle.std.specs.Prelude.{Result, Ok, Err}
use Rattle.types.specs.declared.AudioHeader.{AudioHeader}
use Rattle.types.specs.declared.ErrorCode.{ErrorCode}
use Rattle.wire.specs.Wire.{byte_at, low}
use Rattle.types.specs.declared.ErrorCode.TheVariants as error
use Rattle.types.specs.declared.AudioCodec.{AudioCodec}
use Rattle.fourcc.specs.Fourcc.{fourcc_at}
use Rattle.fourcc.proofs.Laws.{fourcc_same}
use Rattle.exaudio.specs.Audio.{is_enhanced, sound_format, legacy_audio, enhanced_audio, accept, refuse, error_of, header_of, legacy_header, enhanced_header, audio_header}
use Rattle.exaudio.proofs.Cases.{legacy_other, legacy_short, legacy_aac, enhanced_cut, enhanced_whole, audio_empty, audio_enhanced, audio_legacy}

refused : error.Io ≡ error.Ok → ⊥
refused e = let z : ◌≡◌ {A = ℕ} 0 1 = cc in omega arith

unsupported : error.Unsupported ≡ error.Ok → ⊥
unsupported e = let z : ◌≡◌ {A = ℕ} 0 1 = cc in omega arith

-- THE ANSWERS, one by one: what holds of each holds of the header
module _ (p : List ℕ) (P : Result AudioHeader ErrorCode → Type 0)
    (empty : length p ≡ 0 → P (refuse error.Io))
    (cut : byte_at p 0 / 16 ≡ 9 → length p < 5 → P (refuse error.Io))
    (enhanced : byte_at p 0 / 16 ≡ 9 → 5 ≤ length p → P (accept (enhanced_audio (byte_at p 0) (fourcc_at p 1))))
    (reserved : P (refuse error.Unsupported))
    (plain : 0 < length p → (byte_at p 0 / 16 ≡ 9 → ⊥) → (c : AudioCodec) → sound_format (byte_at p 0 / 16) ≡ Ok c → (byte_at p 0 / 16 ≡ 10 → length p < 2)
    → P (accept (legacy_audio (byte_at p 0) c 0 1)))
    (aac : 2 ≤ length p → (byte_at p 0 / 16 ≡ 9 → ⊥) → (c : AudioCodec) → sound_format (byte_at p 0 / 16) ≡ Ok c → byte_at p 0 / 16 ≡ 10
    → P (accept (legacy_audio (byte_at p 0) c (byte_at p 1) 2))) where
  by_aac : 0 < length p → (byte_at p 0 / 16 ≡ 9 → ⊥) → (c : AudioCodec) → sound_format (byte_at p 0 / 16) ≡ Ok c → Dec (byte_at p 0 / 16 ≡ 10) → Dec (length p < 2)
      → P (legacy_header (byte_at p 0) p (Ok c))
  by_aac h x c s (no t) l = subst P (legacy_other _ p c t) (plain h x c s (λ k. absurd (t k)))
  by_aac h x c s (yes t) (yes l) = subst P (legacy_short _ p c t l) (plain h x c s (λ k. l))
  by_aac h x c s (yes t) (no l) = let m : 2 ≤ length p = omega arith in subst P (legacy_aac _ p c t m) (aac m x c s t)

  by_codec : 0 < length p → (byte_at p 0 / 16 ≡ 9 → ⊥) → (r : Result AudioCodec ErrorCode) → sound_format (byte_at p 0 / 16) ≡ r → P (legacy_header (byte_at p 0) p r)
  unfolding legacy_header
  by_codec h x (Ok c) s = by_aac h x c s (ℕ_discrete (byte_at p 0 / 16) 10) (dec_lt (length p) 2)
  by_codec h x (Err e) s = reserved

  by_cut : byte_at p 0 / 16 ≡ 9 → Dec (length p < 5) → P (enhanced_header (byte_at p 0) p)
  by_cut x (yes l) = subst P (enhanced_cut _ p l) (cut x l)
  by_cut x (no l) = let m : 5 ≤ length p = omega arith in subst P (enhanced_whole _ p m _ refl) (enhanced x m)

  by_nibble : (length p ≡ 0 → ⊥) → Dec (byte_at p 0 / 16 ≡ 9) → P (audio_header p)
  by_nibble h (yes x) = subst P (audio_enhanced p h x) (by_cut x (dec_lt (length p) 5))
  by_nibble h (no x) = subst P (audio_legacy p h x) (by_codec (omega arith) x (sound_format (byte_at p 0 / 16)) refl)

  pub audio_cases : P (audio_header p)
  audio_cases = go (ℕ_discrete (length p) 0)
    where
      go : Dec (length p ≡ 0) → P (audio_header p)
      go (yes h) = subst P (audio_empty p h) (empty h)
      go (no h) = by_nibble h (ℕ_discrete (byte_at p 0 / 16) 9)

-- WHAT A READABLE HEADER SAYS
pub record AudioFacts (b size : ℕ) (a : Result AudioHeader ErrorCode) : Type 0 where
  pub enhanced : (header_of a).is_ex_header ≡ cond (is_enhanced b) 1 0
  pub packet : (header_of a).packet_type ≡ cond (is_enhanced b) (low b) 0
  pub some : 0 < (header_of a).header_size
  pub within : (header_of a).header_size ≤ size

pub audio_facts_lem : (p : List ℕ) → error_of (audio_header p) ≡ error.Ok → AudioFacts (byte_at p 0) (length p) (audio_header p)
audio_facts_lem p =
    audio_cases p (λ a. error_of a ≡ error.Ok → AudioFacts (byte_at p 0) (length p) a)
    (λ h fine. absurd (refused fine))
    (λ x l fine. absurd (refused fine))
    (λ x l fine. record { enhanced = rw (eq-eqb _ _ x); packet = rw (eq-eqb _ _ x); some = omega arith; within = l })
    (λ fine. absurd (unsupported fine))
    (λ h x c s k fine. record { enhanced = rw (ne_eqb _ _ x); packet = rw (ne_eqb _ _ x); some = omega arith; within = h })
    (λ l x c s k fine. record { enhanced = rw (ne_eqb _ _ x); packet = rw (ne_eqb _ _ x); some = omega arith; within = l })

-- A READABLE HEADER is decided by the length and by the bytes below its size
module _ (p q : List ℕ) (long : length p ≡ length q) where
  abbrev Covered : Result AudioHeader ErrorCode → Type 0
  Covered a = (i : ℕ) → i < (header_of a).header_size → byte_at p i ≡ byte_at q i

  abbrev Local : Result AudioHeader ErrorCode → Result AudioHeader ErrorCode → Type 0
  Local other a = error_of a ≡ error.Ok → Covered a → a ≡ other

  module _ (b0 : byte_at p 0 ≡ byte_at q 0) where
    legacy : (byte_at p 0 / 16 ≡ 9 → ⊥) → 0 < length p → (c : AudioCodec) → sound_format (byte_at p 0 / 16) ≡ Ok c → legacy_header (byte_at p 0) q (Ok c) ≡ audio_header q
    legacy x h c s =
        ap (legacy_header (byte_at p 0) q) (sym s) ∙ ap (λ (b : ℕ). legacy_header b q (sound_format (b / 16))) b0
        ∙ audio_legacy q (λ z. omega arith) (λ z. x (ap (λ (b : ℕ). b / 16) b0 ∙ z))

  pub audio_local : Local (audio_header q) (audio_header p)
  audio_local =
      audio_cases p (Local (audio_header q))
      (λ h fine e. absurd (refused fine))
      (λ x l fine e. absurd (refused fine))
      (λ x l fine e.
      let b0 = e 0 (omega arith) in
      enhanced_whole (byte_at p 0) q (omega arith) _ (fourcc_same p q 1 (λ i k m. e i (omega arith)))
      ∙ ap (λ (b : ℕ). enhanced_header b q) b0 ∙ audio_enhanced q (λ z. omega arith) (ap (λ (b : ℕ). b / 16) (sym b0) ∙ x))
      (λ fine e. absurd (unsupported fine))
      (λ h x c s k fine e. plain_same c k ∙ legacy (e 0 (omega arith)) x h c s)
      (λ l x c s k fine e.
      ap (λ (n : ℕ). accept (legacy_audio (byte_at p 0) c n 2)) (e 1 (omega arith))
      ∙ legacy_aac (byte_at p 0) q c k (omega arith) ∙ legacy (e 0 (omega arith)) x (omega arith) c s)
    where
      plain_same : (c : AudioCodec) → (byte_at p 0 / 16 ≡ 10 → length p < 2) → accept (legacy_audio (byte_at p 0) c 0 1) ≡ legacy_header (byte_at p 0) q (Ok c)
      plain_same c k = go (ℕ_discrete (byte_at p 0 / 16) 10)
        where
          go : Dec (byte_at p 0 / 16 ≡ 10) → accept (legacy_audio (byte_at p 0) c 0 1) ≡ legacy_header (byte_at p 0) q (Ok c)
          go (yes t) = legacy_short (byte_at p 0) q c t (subst (λ (n : ℕ). n < 2) long (k t))
          go (no t) = legacy_other (byte_at p 0) q c t

-- THE SIZE of a header, readable or not
pub audio_size : (p : List ℕ) → (header_of (audio_header p)).header_size ≤ 5
audio_size p =
    audio_cases p (λ a. (header_of a).header_size ≤ 5)
    (λ h. omega arith) (λ x l. omega arith) (λ x l. omega arith) (omega arith) (λ h x c s k. omega arith) (λ l x c s k. omega arith)

pub legacy_size : (p : List ℕ) → (byte_at p 0 / 16 ≡ 9 → ⊥) → (header_of (audio_header p)).header_size ≤ 2
legacy_size p n =
    audio_cases p (λ a. (header_of a).header_size ≤ 2)
    (λ h. omega arith) (λ x l. omega arith) (λ x l. absurd (n x)) (omega arith) (λ h x c s k. omega arith) (λ l x c s k. omega arith)

-- an enhanced header is decided by the length and the first five bytes
pub plain_header : (p : List ℕ) → byte_at p 0 / 16 ≡ 9 → 5 ≤ length p → accept (enhanced_audio (byte_at p 0) (fourcc_at p 1)) ≡ audio_header p
plain_header p x l = enhanced_whole (byte_at p 0) p l _ refl ∙ audio_enhanced p (λ e. omega arith) x
