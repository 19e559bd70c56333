-- The composition time: its two numbers are got back exactly; who is refused for an offset; and that nothing else has moved.
use mathlib.Core.Path.{◌≡◌, refl, sym, ap, ◌∙◌}
use mathlib.Core.Bool.{true, false}
use mathlib.Core.List.{List, [], ◌∷◌}
use Prim.Native.Nat.{ℕ, zero, suc, ◌+◌, ◌-◌, ◌*◌, ◌/◌, ◌%◌, ◌≤◌, ◌<◌}
use native.Mathlib.Omega.{arith}
use lib.Dec.{eqb}
use lib.IntN.{ℤ, pos, negsuc, ◌*ℤ◌, +ℤ_idr}
use borrow.Author.Tests.{lt-ltb, ltb-true, eq-eqb, ne_eqb}
use Rattle.wire.specs.Wire.{Bytes, same_integer}
use Rattle.wire.proofs.Bools.{or_no_left, or_no_right, true_or_false}
use Rattle.types.specs.Types.{error_number}
use Rattle.types.specs.declared.ErrorCode.{ErrorCode}
use Rattle.types.specs.declared.ErrorCode.TheVariants as error
use Rattle.modex.specs.Modex.{chain_of, peeled_layers, peeled}
use Rattle.modex.specs.Offsets.{any_bad, last_offset, has_bad_offset, chain_offset}
use Rattle.modex.specs.declared.ModexLayer.{ModexLayer}
use Rattle.std.specs.Prelude.{None}
use Rattle.modex.proofs.Laws.{peeled_bytes, chain_unwrapped, unwrapped_mask}
use Rattle.modex.proofs.OffsetLaws.{offset_under}
use Rattle.exvideo.specs.Video.{signed24, pattern32, signed32}
use Rattle.exvideo.specs.Claims.{HeaderTimes}
use Rattle.exvideo.proofs.Signs.{negative, by_limit, signed_below, signed_from}
use Rattle.exvideo.proofs.Times.{signed_again, header_times_lem}
use Rattle.init_cache.specs.Head.{tag_header}
use Rattle.frame.specs.Time.{milliseconds, nanoseconds, composition_time, split_time}
use Rattle.frame.specs.TimeClaims.{Splits, in_range, Recovered, Recovery, RefusedIff, Refusals, has_type0, Unmoving, UnmovingMasks}
use Rattle.frame.specs.Pass.{pass_error, result_report, pass_report}
use Rattle.frame.specs.declared.time.SplitTime.{SplitTime}
use Rattle.frame.proofs.Passes.{passed, by_tests, error_unknown, error_short, error_offset, error_none, header_milliseconds}

-- SPLITTING. Milliseconds below 0 and an offset
module _ (o : ℕ) (h : o ≤ 999999) where
  pub below_zero : (m : ℕ) → nanoseconds (negsuc m) o ≡ negsuc (m * 1000000 + (999999 - o))
  unfolding nanoseconds
  below_zero m =
      let k : suc m * 1000000 ≡ suc (m * 1000000 + 999999) = omega arith in
      let e : suc (m * 1000000 + 999999) - suc o ≡ m * 1000000 + (999999 - o) = omega arith in
      rw (k, lt-ltb o (suc (m * 1000000 + 999999)) (omega arith)) (ap negsuc e)

  pub split_back : (ms : ℤ) → split_time (nanoseconds ms o) ≡ record { milliseconds = ms; offset = o }
  unfolding nanoseconds split_time
  split_back (pos n) =
      let e : (n * 1000000 + o) / 1000000 ≡ n = omega arith in
      let f : (n * 1000000 + o) % 1000000 ≡ o = omega arith in
      rw (e, f) refl
  split_back (negsuc n) =
      let e : (n * 1000000 + (999999 - o)) / 1000000 ≡ n = omega arith in
      let f : 999999 - (n * 1000000 + (999999 - o)) % 1000000 ≡ o = omega arith in
      ap split_time (below_zero n) ∙ rw (e, f) refl

split_whole : (z : ℤ) → nanoseconds (split_time z).milliseconds (split_time z).offset ≡ z
unfolding nanoseconds split_time
split_whole (pos n) = let e : n / 1000000 * 1000000 + n % 1000000 ≡ n = omega arith in ap pos e
split_whole (negsuc n) =
    let e : n / 1000000 * 1000000 + (999999 - (999999 - n % 1000000)) ≡ n = omega arith in
    below_zero (999999 - n % 1000000) (omega arith) (n / 1000000) ∙ ap negsuc e

split_most : (z : ℤ) → (split_time z).offset ≤ 999999
unfolding split_time
split_most (pos n) = omega arith
split_most (negsuc n) = omega arith

pub splits : Splits
unfolding Splits
splits z = record { whole = split_whole z; most = split_most z; only = λ ms o h e. ap split_time (sym e) ∙ split_back o h ms }

-- THE HEADER'S FIELD is the pattern of the milliseconds, which have 24 bits
module _ (p : List ℕ) (bytes : Bytes p) where
  field_fits : (type : ℕ) → (n : ℕ) × ((n < 16777216) × ((tag_header type p).composition_time ≡ pattern32 (signed24 n)))
  unfolding tag_header HeaderTimes signed24 pattern32
  field_fits zero = (0, (omega arith, refl))
  field_fits (suc zero) = (header_times_lem p).pattern bytes
  field_fits (suc (suc n)) = (0, (omega arith, simp (ne_eqb (suc (suc n)) 0 (λ x. omega arith), ne_eqb (suc (suc n)) 1 (λ x. omega arith))))

-- THE RANGE: a signed 24-bit number, and its nanoseconds
signed_range : (n : ℕ) → n < 16777216 → in_range 8388608 (signed24 n) ≡ true
signed_range n h =
    by_limit _ n (λ l. rw (signed_below n l) (lt-ltb n 8388608 l))
    (λ g. rw (signed_from n g, negative n 16777216 h) (lt-ltb (16777216 - suc n) 8388608 (omega arith)))

time_range : (k o : ℕ) → o ≤ 999999 → (ms : ℤ) → in_range k ms ≡ true → in_range (k * 1000000) (nanoseconds ms o) ≡ true
unfolding nanoseconds
time_range k o h (pos m) r = let l = ltb-true m k r in lt-ltb (m * 1000000 + o) (k * 1000000) (omega arith)
time_range k o h (negsuc m) r =
    let l = ltb-true m k r in
    ap (in_range (k * 1000000)) (below_zero o h m) ∙ lt-ltb (m * 1000000 + (999999 - o)) (k * 1000000) (omega arith)

-- OF A PASS THAT IS NOT REFUSED
module _ (type mask flag : ℕ) (p : List ℕ) (room : ℕ) (bytes : Bytes p) (e : pass_error type mask p room ≡ error.Ok) where
  most : chain_offset type mask p ≤ 999999
  most = omega (arith, offset_under type mask p (passed type mask p room e).fine)

  parts : split_time (composition_time type mask p) ≡ record { milliseconds = milliseconds type (tag_header type (peeled type mask p)); offset = chain_offset type mask p }
  unfolding composition_time
  parts = split_back (chain_offset type mask p) most (milliseconds type (tag_header type (peeled type mask p)))

  recovered : Recovered type mask flag p room
  unfolding composition_time
  recovered =
      let t = field_fits (peeled type mask p) (peeled_bytes type mask p bytes) type in
      let n = t.0 in
      let h = t.1.0 in
      let q = t.1.1 in
      let signed : milliseconds type (tag_header type (peeled type mask p)) ≡ signed24 n =
      sym (header_milliseconds type (peeled type mask p)) ∙ ap signed32 q ∙ signed_again n h in
      record {
        reported = unfold pass_report result_report in simp e;
        range = time_range 8388608 (chain_offset type mask p) most _ (rw signed (signed_range n h));
        parts = parts;
        field = ap (λ (x : SplitTime). pattern32 x.milliseconds) parts ∙ ap pattern32 signed ∙ sym q;
      }

pub recovery : Recovery
unfolding Recovery
recovery = recovered

-- WHO IS REFUSED with -3
refused_iff_lem : (type mask : ℕ) (p : List ℕ) (room : ℕ) → RefusedIff type mask p room
unfolding error_number
refused_iff_lem type mask p room =
    record {
      refused = λ w. sym (error_offset type mask p room w.known w.room_for w.bad);
      only = λ e. by_tests type mask p room _ (λ u. other e (error_unknown type mask p room u) refl) (λ u l. other e (error_short type mask p room u l) refl)
          (λ u l b. record { known = u; room_for = l; bad = b }) (λ v. other e (error_none type mask p room v.known v.room_for v.fine) refl);
    }
  where
    other : {A : Type 0} → pass_error type mask p room ≡ error.Protocol → {x : ErrorCode} → x ≡ pass_error type mask p room
        → same_integer (error_number x) (error_number error.Protocol) ≡ false → A
    other e q d = true_or_false (ap (λ (y : ErrorCode). same_integer (error_number y) (error_number error.Protocol)) (q ∙ e)) d

pub refusals : Refusals
unfolding Refusals
refusals = refused_iff_lem

-- WITHOUT A LAYER OF TYPE 0 no layer is bad, and the offset is the one before
module _ (s : List ℕ) where
  none_bad : (ls : List ModexLayer) → has_type0 ls ≡ false → any_bad s ls ≡ false
  unfolding has_type0 any_bad
  none_bad [] h = refl
  none_bad (l ∷ ls) h = simp (or_no_left (eqb l.modex_type 0) (has_type0 ls) h, none_bad ls (or_no_right (eqb l.modex_type 0) (has_type0 ls) h))

  none_last : (ls : List ModexLayer) (before : ℕ) → has_type0 ls ≡ false → last_offset before s ls ≡ before
  unfolding has_type0 last_offset
  none_last [] before h = refl
  none_last (l ∷ ls) before h = simp (or_no_left (eqb l.modex_type 0) (has_type0 ls) h, none_last ls before (or_no_right (eqb l.modex_type 0) (has_type0 ls) h))

no_offset : (ms : ℤ) → nanoseconds ms 0 ≡ ms *ℤ pos 1000000
unfolding nanoseconds
no_offset ms = +ℤ_idr (ms *ℤ pos 1000000)

pub unmoving : Unmoving
unfolding Unmoving pass_error has_bad_offset composition_time chain_offset
unmoving type mask p room h =
    record {
      refusals = simp (none_bad p (peeled_layers type mask p) h);
      time = simp (none_last p (peeled_layers type mask p) 0 h) (no_offset _);
    }

no_layers : (type mask : ℕ) (p : List ℕ) → chain_of type mask p ≡ None → has_type0 (peeled_layers type mask p) ≡ false
unfolding peeled_layers has_type0
no_layers type mask p c = simp c

pub unmoving_masks_lem : UnmovingMasks
unfolding UnmovingMasks Unmoving
unmoving_masks_lem type mask p room h =
    unmoving type mask p room (no_layers type mask p (sym (chain_unwrapped type mask p (sym (unwrapped_mask type mask p (λ x. true_or_false (eq-eqb _ _ x) h))))))
