-- Composition times have the patterns of sign extension, in both headers, and stand nowhere else.
use mathlib.Core.Path.{◌≡◌, refl, sym, ap, ◌∙◌, subst}
use mathlib.Core.Bool.{true, false, not}
use mathlib.Core.List.{List}
use Prim.Native.Nat.{ℕ, suc, ◌+◌, ◌-◌, ◌*◌, ◌/◌, ◌%◌, ◌^◌, ◌≤◌, ◌<◌}
use native.Mathlib.Decide.{dec_lt}
use native.Mathlib.Nat.{add_comm, sub_self, mod-eq_of_lt, mod-eq-sub-mod, mod-add-div'}
use native.Mathlib.Omega.{arith}
use lib.Bits.{bit_and, or_shifted_r, and_shifted, and_comm, and_block}
use lib.IntN.{pos, negsuc, ◌-ℤ◌, +ℤ_idr}
use lib.ListN.{length}
use borrow.Author.Tests.{le-leb, ne_eqb, not-true}
use Rattle.wire.specs.Wire.{Bytes, byte_at, be24_at}
use Rattle.wire.proofs.Bools.{and_left, true_or_false}
use Rattle.exvideo.specs.Video.{is_enhanced, is_legacy_avc, signed24, pattern32, signed32, time_at, legacy_video, accept, legacy_header}
use Rattle.exvideo.specs.Claims.{twos_complement, sign_extended, SignedNumber, SignedPattern, PatternOf, Patterns, LegacyTimed, Holds, LegacyTimes, EnhancedTimes, OtherTimes, HeaderTime, HeaderTimes}
use Rattle.exvideo.specs.declared.VideoHeaderResult.{VideoHeaderResult}
use Rattle.exvideo.proofs.Signs.{negative, by_limit, signed_below, signed_from, pattern_number_below, pattern_number_from}
use Rattle.exvideo.proofs.Cases.{enhanced_timed_lem, video_enhanced, video_legacy}
use Rattle.exvideo.proofs.Laws.{legacy_cases, enhanced_cases, video_cases}

-- SIGN EXTENSION, by a bit test and a bit-or
with_bit : (r : ℕ) → r < 2 ^ 23 → bit_and (1 * 2 ^ 23 + r) (1 * 2 ^ 23 + 0) ≡ 8388608 + bit_and r 0
with_bit r h = and_block 23 1 1 r 0 h (omega arith)

extended_below : (n : ℕ) → n < 8388608 → sign_extended n ≡ n
extended_below n h = rw (and_comm n 0x800000 ∙ and_shifted 1 23 n (omega arith))

extended_from : (n : ℕ) → n < 16777216 → 8388608 ≤ n → sign_extended n ≡ n + 4278190080
extended_from n h g =
    let e : 1 * 2 ^ 23 + (n - 8388608) ≡ n = omega arith in
    let w = rw e at (with_bit (n - 8388608) (omega arith)) in
    rw (ne_eqb (bit_and n 0x800000) 0 (λ z. absurd (omega (arith, w, z)))) (or_shifted_r 255 24 n h ∙ add_comm _ n)

-- TWO'S COMPLEMENT: below half of the numbers a number stands for itself, from there on for itself less all of them
top : (half n : ℕ) → n / half * half ≡ n - n % half
top half n = let e = mod-add-div' n half in omega arith

clear : (half n : ℕ) → n < half → pos (n % half) -ℤ pos (n / half * half) ≡ pos n
clear half n l = rw (top half n, mod-eq_of_lt l, sub_self n) (+ℤ_idr (pos n))

set : (half n : ℕ) → half ≤ n → n < half + half → pos (n % half) -ℤ pos (n / half * half) ≡ negsuc (half + half - suc n)
set half n g h =
    let r : n % half ≡ n - half = mod-eq-sub-mod g ∙ mod-eq_of_lt (omega arith) in
    let t : n - (n - half) ≡ half = omega arith in
    rw (top half n, r, t) (negative (n - half) half (omega arith) ∙ ap negsuc (omega arith))

-- THE PATTERN, by the two cases
pattern_below : (n : ℕ) → n < 8388608 → PatternOf n (pattern32 (signed24 n))
unfolding pattern32
pattern_below n l =
    let e = signed_below n l in
    rw e
    (record { itself = λ _. refl; raised = λ g. absurd (omega arith); extended = sym (extended_below n l); back = clear 2147483648 n (omega arith) ∙ sym e })

signed_negative : (n : ℕ) → n < 16777216 → 8388608 ≤ n → signed24 n ≡ negsuc (16777216 - suc n)
signed_negative n h g = signed_from n g ∙ negative n 16777216 h

pattern_from : (n : ℕ) → n < 16777216 → 8388608 ≤ n → PatternOf n (pattern32 (signed24 n))
unfolding pattern32
pattern_from n h g =
    let e = signed_negative n h g in
    let t : pattern32 (negsuc (16777216 - suc n)) ≡ n + 4278190080 = omega arith in
    let b = set 2147483648 (n + 4278190080) (omega arith) (omega arith) ∙ ap negsuc (omega arith) ∙ sym e in
    rw (e, t) (record { itself = λ l. absurd (omega arith); raised = λ _. refl; extended = sym (extended_from n h g); back = b })

pub signed_number_lem : SignedNumber
unfolding SignedNumber
signed_number_lem n h = by_limit _ n (λ l. signed_below n l ∙ sym (clear 8388608 n l)) (λ g. signed_negative n h g ∙ sym (set 8388608 n g h))

pub signed_pattern_lem : SignedPattern
unfolding SignedPattern
signed_pattern_lem n h = go (dec_lt n 2147483648)
  where
    go : Dec (n < 2147483648) → signed32 n ≡ twos_complement 32 n
    go (yes l) = pattern_number_below n l ∙ sym (clear 2147483648 n l)
    go (no l) = let g : 2147483648 ≤ n = omega arith in pattern_number_from n h g ∙ sym (set 2147483648 n g h)

pub patterns : Patterns
unfolding Patterns
patterns n h = by_limit _ n (pattern_below n) (pattern_from n h)

-- the pattern of a signed 24-bit number has 32 bits, and stands for that number
pub pattern_bits : (n : ℕ) → n < 16777216 → pattern32 (signed24 n) < 2 ^ 32
unfolding Patterns
pattern_bits n h = let w = patterns n h in by_limit _ n (λ l. omega (arith, w.itself l)) (λ g. omega (arith, w.raised g))

pub signed_again : (n : ℕ) → n < 16777216 → signed32 (pattern32 (signed24 n)) ≡ signed24 n
unfolding Patterns SignedPattern
signed_again n h = signed_pattern_lem (pattern32 (signed24 n)) (pattern_bits n h) ∙ (patterns n h).back

-- IN HEADERS
time_number : (p : List ℕ) → Bytes p → (i : ℕ) → (n : ℕ) × ((n < 16777216) × (time_at p i ≡ pattern32 (signed24 n)))
unfolding time_at
time_number p bytes i = (be24_at p i, (omega (arith, bytes i, bytes (i + 1), bytes (i + 2)), refl))

pattern_at : (p : List ℕ) → Bytes p → (i : ℕ) → PatternOf (be24_at p i) (time_at p i)
unfolding time_at Patterns
pattern_at p bytes i = patterns (be24_at p i) (omega (arith, bytes i, bytes (i + 1), bytes (i + 2)))

avc_legacy : (b : ℕ) → is_legacy_avc b ≡ true → is_enhanced b ≡ false
unfolding is_legacy_avc
avc_legacy b a = not-true _ (and_left (not (is_enhanced b)) _ a)

avc_of_7 : (b : ℕ) → is_enhanced b ≡ false → b % 16 ≡ 7 → is_legacy_avc b ≡ true
unfolding is_legacy_avc
avc_of_7 b x h = rw (x, h)

legacy_time : (p : List ℕ) → LegacyTimed p → accept (legacy_video (byte_at p 0) (time_at p 2) 5) ≡ legacy_header (byte_at p 0) p
unfolding legacy_header
legacy_time p t = simp (t.avc, le-leb 5 (length p) t.long)

pub legacy_times_lem : LegacyTimes
unfolding LegacyTimes
legacy_times_lem p bytes t =
    let l = t.long in
    subst (Holds (be24_at p 2)) (legacy_time p t ∙ video_legacy p (λ e. omega arith) (avc_legacy (byte_at p 0) t.avc)) (refl, pattern_at p bytes 2)

pub enhanced_times_lem : EnhancedTimes
unfolding EnhancedTimes
enhanced_times_lem p bytes t =
    let l = t.long in
    subst (Holds (be24_at p 5))
    (enhanced_timed_lem (byte_at p 0) p t.no_command (omega arith) _ refl t.timed l _ refl ∙ video_enhanced p (λ e. omega arith) t.enhanced)
    (refl, pattern_at p bytes 5)

abbrev Untimed : VideoHeaderResult → Type 0
Untimed a = a.header.composition_time ≡ 0

pub other_times_lem : OtherTimes
unfolding OtherTimes
other_times_lem p legacy enhanced =
    video_cases p Untimed (λ h. refl)
    (λ h x. enhanced_cases (byte_at p 0) p Untimed (λ c l. refl) (λ c l. refl) (λ c l. refl) (λ c l t m. refl)
    (λ c m t. absurd (enhanced (record { enhanced = x; no_command = c; timed = t; long = m }))) (λ c l t. refl))
    (λ h x. legacy_cases (byte_at p 0) p Untimed x (λ short. refl) (λ l k. absurd (legacy (record { avc = avc_of_7 (byte_at p 0) x k; long = l }))))

-- every header, with a time or without one
no_time : (p : List ℕ) (a : VideoHeaderResult) → a.header.composition_time ≡ 0 → HeaderTime p a
unfolding pattern32 signed24
no_time p a z = record { pattern = λ _. (0, (omega arith, z)); unread = λ _. z }

pub header_times_lem : HeaderTimes
unfolding HeaderTimes
header_times_lem p =
    video_cases p (HeaderTime p) (λ h. no_time p _ refl)
    (λ h x. enhanced_cases (byte_at p 0) p (HeaderTime p) (λ c l. no_time p _ refl) (λ c l. no_time p _ refl) (λ c l. no_time p _ refl) (λ c l t m. no_time p _ refl)
    (λ c m t. record { pattern = λ bytes. time_number p bytes 5; unread = λ e. true_or_false refl e }) (λ c l t. no_time p _ refl))
    (λ h x. legacy_cases (byte_at p 0) p (HeaderTime p) x (λ short. no_time p _ refl) (λ l k. record { pattern = λ bytes. time_number p bytes 2; unread = λ e. true_or_false refl e }))
