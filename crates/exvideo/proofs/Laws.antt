-- Laws of the video header for the crates above: what every answer says, and that a readable header is decided by the length and the bytes that it covers.
use mathlib.Core.Path.{◌≡◌, refl, sym, ap, ◌∙◌, subst}
use mathlib.Core.Bool.{Bool, true, false, cond}
use mathlib.Core.List.{List}
use Prim.Native.Nat.{ℕ, ◌+◌, ◌%◌, ◌<◌, ◌≤◌}
use native.Mathlib.Decide.{dec_lt, ℕ_discrete}
use native.Mathlib.Omega.{arith}
use lib.ListN.{length}
use borrow.Author.Tests.{ne_eqb}
use Rattle.wire.specs.Wire.{byte_at, low}
use Rattle.wire.proofs.Bools.{true_or_false}
use Rattle.wire.proofs.Numbers.{past}
use Rattle.types.specs.Types.{no_fourcc, default_video_header}
use Rattle.types.specs.declared.ErrorCode.TheVariants.{Ok, Io}
use Rattle.fourcc.specs.Fourcc.{fourcc_at}
use Rattle.fourcc.proofs.Laws.{fourcc_same}
use Rattle.exvideo.specs.Video.{is_enhanced, tag_frame_type, is_command, is_timed, time_at, legacy_video, enhanced_video, accept, refuse, legacy_header, enhanced_header, video_header}
use Rattle.exvideo.specs.declared.VideoHeaderResult.{VideoHeaderResult}
use Rattle.exvideo.proofs.Cases.{
  legacy_other,
  legacy_short,
  legacy_avc,
  enhanced_command_cut,
  enhanced_command,
  enhanced_cut,
  enhanced_time_cut,
  enhanced_timed_lem,
  enhanced_plain,
  video_empty,
  video_enhanced,
  video_legacy,
}

refused : Io ≡ Ok → ⊥
refused e = let z : ◌≡◌ {A = ℕ} 0 1 = cc in omega arith

legacy_plain : (b : ℕ) (p : List ℕ) → is_enhanced b ≡ false → (b % 16 ≡ 7 → length p < 5) → accept (legacy_video b 0 1) ≡ legacy_header b p
legacy_plain b p x short = go (ℕ_discrete (b % 16) 7)
  where
    go : Dec (b % 16 ≡ 7) → accept (legacy_video b 0 1) ≡ legacy_header b p
    go (yes h) = legacy_short b p x h (short h)
    go (no h) = legacy_other b p x h

-- THE ANSWERS of a legacy and of an enhanced header, one by one: what holds of each holds of the header
module _ (b : ℕ) (p : List ℕ) (P : VideoHeaderResult → Type 0) where
  pub legacy_cases : is_enhanced b ≡ false
      → ((b % 16 ≡ 7 → length p < 5) → P (accept (legacy_video b 0 1)))
      → (5 ≤ length p → b % 16 ≡ 7 → P (accept (legacy_video b (time_at p 2) 5)))
      → P (legacy_header b p)
  legacy_cases x plain avc = go (ℕ_discrete (b % 16) 7) (dec_lt (length p) 5)
    where
      go : Dec (b % 16 ≡ 7) → Dec (length p < 5) → P (legacy_header b p)
      go (no h) l = subst P (legacy_other b p x h) (plain (λ k. absurd (h k)))
      go (yes h) (yes l) = subst P (legacy_short b p x h l) (plain (λ k. l))
      go (yes h) (no l) = let m : 5 ≤ length p = omega arith in subst P (legacy_avc b p x h m _ refl) (avc m h)

  pub enhanced_cases :
      (is_command b ≡ true → length p < 2 → P (refuse (enhanced_video b no_fourcc 0 0)))
      → (is_command b ≡ true → 2 ≤ length p → P (accept (enhanced_video b no_fourcc 0 2)))
      → (is_command b ≡ false → length p < 5 → P (refuse (enhanced_video b no_fourcc 0 0)))
      → (is_command b ≡ false → 5 ≤ length p → is_timed b (fourcc_at p 1) ≡ true → length p < 8 → P (refuse (enhanced_video b (fourcc_at p 1) 0 5)))
      → (is_command b ≡ false → 8 ≤ length p → is_timed b (fourcc_at p 1) ≡ true → P (accept (enhanced_video b (fourcc_at p 1) (time_at p 5) 8)))
      → (is_command b ≡ false → 5 ≤ length p → is_timed b (fourcc_at p 1) ≡ false → P (accept (enhanced_video b (fourcc_at p 1) 0 5)))
      → P (enhanced_header b p)
  enhanced_cases command-cut command cut time-cut timed plain = by_command (is_command b) refl
    where
      by_time : is_command b ≡ false → 5 ≤ length p → (t : Bool) → is_timed b (fourcc_at p 1) ≡ t → Dec (length p < 8) → P (enhanced_header b p)
      by_time c l true t (yes m) = subst P (enhanced_time_cut b p c l _ refl t m) (time-cut c l t m)
      by_time c l true t (no m) = let k : 8 ≤ length p = omega arith in subst P (enhanced_timed_lem b p c l _ refl t k _ refl) (timed c k t)
      by_time c l false t m = subst P (enhanced_plain b p c l _ refl t) (plain c l t)

      by_length : is_command b ≡ false → Dec (length p < 5) → P (enhanced_header b p)
      by_length c (yes l) = subst P (enhanced_cut b p c l) (cut c l)
      by_length c (no l) = by_time c (omega arith) (is_timed b (fourcc_at p 1)) refl (dec_lt (length p) 8)

      of_command : is_command b ≡ true → Dec (length p < 2) → P (enhanced_header b p)
      of_command c (yes l) = subst P (enhanced_command_cut b p c l) (command-cut c l)
      of_command c (no l) = let k : 2 ≤ length p = omega arith in subst P (enhanced_command b p c k) (command c k)

      by_command : (c : Bool) → is_command b ≡ c → P (enhanced_header b p)
      by_command true c = of_command c (dec_lt (length p) 2)
      by_command false c = by_length c (dec_lt (length p) 5)

-- THE ANSWERS of a header: empty, enhanced, legacy
module _ (p : List ℕ) (P : VideoHeaderResult → Type 0) where
  pub video_cases : (length p ≡ 0 → P (refuse default_video_header))
      → ((length p ≡ 0 → ⊥) → is_enhanced (byte_at p 0) ≡ true → P (enhanced_header (byte_at p 0) p))
      → ((length p ≡ 0 → ⊥) → is_enhanced (byte_at p 0) ≡ false → P (legacy_header (byte_at p 0) p))
      → P (video_header p)
  video_cases empty enhanced legacy = by_length (ℕ_discrete (length p) 0)
    where
      by_bit : (length p ≡ 0 → ⊥) → (x : Bool) → is_enhanced (byte_at p 0) ≡ x → P (video_header p)
      by_bit h true x = subst P (video_enhanced p h x) (enhanced h x)
      by_bit h false x = subst P (video_legacy p h x) (legacy h x)

      by_length : Dec (length p ≡ 0) → P (video_header p)
      by_length (yes h) = subst P (video_empty p h) (empty h)
      by_length (no h) = by_bit h (is_enhanced (byte_at p 0)) refl

-- WHAT EVERY ANSWER SAYS, readable or not
pub record VideoFacts (b size : ℕ) (a : VideoHeaderResult) : Type 0 where
  pub enhanced : a.header.is_ex_header ≡ cond (is_enhanced b) 1 0
  pub packet : a.header.packet_type ≡ cond (is_enhanced b) (low b) 0
  pub frame : a.header.frame_type ≡ tag_frame_type b
  pub some : a.error ≡ Ok → 0 < a.header.header_size
  pub within : a.error ≡ Ok → a.header.header_size ≤ size

module _ (b : ℕ) (p : List ℕ) (h : 0 < length p) where
  legacy_facts : is_enhanced b ≡ false → VideoFacts b (length p) (legacy_header b p)
  legacy_facts x =
      legacy_cases b p (VideoFacts b (length p)) x
      (λ short. record { enhanced = rw x; packet = rw x; frame = refl; some = λ e. omega arith; within = λ e. omega arith })
      (λ l k. record { enhanced = rw x; packet = rw x; frame = refl; some = λ e. omega arith; within = λ e. omega arith })

  module _ (x : is_enhanced b ≡ true) where
    yes_facts : (f : List ℕ) (t n : ℕ) → 0 < n → n ≤ length p → VideoFacts b (length p) (accept (enhanced_video b f t n))
    yes_facts f t n k l = record { enhanced = rw x; packet = rw x; frame = refl; some = λ e. k; within = λ e. l }

    no_facts : (f : List ℕ) (t n : ℕ) → VideoFacts b (length p) (refuse (enhanced_video b f t n))
    no_facts f t n = record { enhanced = rw x; packet = rw x; frame = refl; some = λ e. absurd (refused e); within = λ e. absurd (refused e) }

    enhanced_facts : VideoFacts b (length p) (enhanced_header b p)
    enhanced_facts =
        enhanced_cases b p (VideoFacts b (length p))
        (λ c l. no_facts _ 0 0) (λ c l. yes_facts _ 0 2 (omega arith) l) (λ c l. no_facts _ 0 0)
        (λ c l t m. no_facts _ 0 5) (λ c m t. yes_facts _ _ 8 (omega arith) m) (λ c l t. yes_facts _ 0 5 (omega arith) l)

pub video_facts_lem : (p : List ℕ) → VideoFacts (byte_at p 0) (length p) (video_header p)
video_facts_lem p =
    video_cases p (VideoFacts (byte_at p 0) (length p))
    (λ h. rw (past p 0 (omega arith))
    (record { enhanced = refl; packet = refl; frame = unfold tag_frame_type in refl; some = λ e. absurd (refused e); within = λ e. absurd (refused e) }))
    (λ h x. enhanced_facts (byte_at p 0) p (omega arith) x)
    (λ h x. legacy_facts (byte_at p 0) p (omega arith) x)

-- A READABLE HEADER is decided by the length and by the bytes below its size
module _ (p q : List ℕ) (long : length p ≡ length q) where
  abbrev Covered : VideoHeaderResult → Type 0
  Covered a = (i : ℕ) → i < a.header.header_size → byte_at p i ≡ byte_at q i

  abbrev Local : VideoHeaderResult → VideoHeaderResult → Type 0
  Local other a = a.error ≡ Ok → Covered a → a ≡ other

  time_same : (n i : ℕ) → i + 3 ≤ n → ((i : ℕ) → i < n → byte_at p i ≡ byte_at q i) → time_at p i ≡ time_at q i
  unfolding time_at
  time_same n i l e = rw (e i (omega arith), e (i + 1) (omega arith), e (i + 2) (omega arith))

  legacy_local : (b : ℕ) → is_enhanced b ≡ false → Local (legacy_header b q) (legacy_header b p)
  legacy_local b x =
      legacy_cases b p (Local (legacy_header b q)) x
      (λ short fine e. legacy_plain b q x (λ k. subst (λ (n : ℕ). n < 5) long (short k)))
      (λ l h fine e. legacy_avc b q x h (omega arith) _ (time_same 5 2 (omega arith) e))

  enhanced_local : (b : ℕ) → Local (enhanced_header b q) (enhanced_header b p)
  enhanced_local b =
      enhanced_cases b p (Local (enhanced_header b q))
      (λ c l fine e. absurd (refused fine))
      (λ c l fine e. enhanced_command b q c (omega arith))
      (λ c l fine e. absurd (refused fine))
      (λ c l t m fine e. absurd (refused fine))
      (λ c m t fine e. enhanced_timed_lem b q c (omega arith) _ (fourcc_same p q 1 (λ i k l. e i (omega arith))) t (omega arith) _ (time_same 8 5 (omega arith) e))
      (λ c l t fine e. enhanced_plain b q c (omega arith) _ (fourcc_same p q 1 (λ i k l. e i (omega arith))) t)

  pub video_local : Local (video_header q) (video_header p)
  video_local =
      video_cases p (Local (video_header q))
      (λ h fine e. absurd (refused fine))
      (λ h x fine e.
      let b0 = e 0 ((enhanced_facts (byte_at p 0) p (omega arith) x).some fine) in
      enhanced_local (byte_at p 0) fine e ∙ ap (λ (b : ℕ). enhanced_header b q) b0 ∙ video_enhanced q (λ z. h (long ∙ z)) (ap is_enhanced (sym b0) ∙ x))
      (λ h x fine e.
      let b0 = e 0 ((legacy_facts (byte_at p 0) p (omega arith) x).some fine) in
      legacy_local (byte_at p 0) x fine e ∙ ap (λ (b : ℕ). legacy_header b q) b0 ∙ video_legacy q (λ z. h (long ∙ z)) (ap is_enhanced (sym b0) ∙ x))

-- THE SIZE of a header, readable or not, without a composition time behind the FourCC
module _ (p : List ℕ) (untimed : byte_at p 0 % 16 ≡ 1 → ⊥) where
  abbrev Small : VideoHeaderResult → Type 0
  Small a = a.header.header_size ≤ 5

  no_time : is_timed (byte_at p 0) (fourcc_at p 1) ≡ true → ⊥
  unfolding is_timed
  no_time t = true_or_false t (simp (ne_eqb _ _ untimed))

  pub untimed_size : Small (video_header p)
  untimed_size =
      video_cases p Small (λ h. omega arith)
      (λ h x. enhanced_cases (byte_at p 0) p Small (λ c l. omega arith) (λ c l. omega arith) (λ c l. omega arith) (λ c l t m. omega arith) (λ c m t. absurd (no_time t)) (λ c l t. omega arith))
      (λ h x. legacy_cases (byte_at p 0) p Small x (λ short. omega arith) (λ l k. omega arith))

  -- and such a header, if it is no command, is decided by the length and the first five bytes
  pub plain_header : is_enhanced (byte_at p 0) ≡ true → is_command (byte_at p 0) ≡ false → 5 ≤ length p → accept (enhanced_video (byte_at p 0) (fourcc_at p 1) 0 5) ≡ video_header p
  plain_header x c l = enhanced_plain (byte_at p 0) p c l _ refl (go (is_timed (byte_at p 0) (fourcc_at p 1)) refl) ∙ video_enhanced p (λ e. omega arith) x
    where
      go : (t : Bool) → is_timed (byte_at p 0) (fourcc_at p 1) ≡ t → is_timed (byte_at p 0) (fourcc_at p 1) ≡ false
      go true t = absurd (no_time t)
      go false t = t
