-- What request N7 changes (specs/TypeClaims): each record is judged as before, and by the first bytes of its sets.
use mathlib.Core.Path.{◌≡◌, refl, sym, ap, subst, ◌∙◌}
use mathlib.Core.Bool.{Bool, true, false, ◌&&◌, true≢false}
use mathlib.Core.Option.{Option, none, some}
use mathlib.Core.List.{List, [], ◌∷◌, ◌++◌, append_assoc}
use Prim.Native.Nat.{ℕ, zero, suc, ◌+◌, ◌-◌, ◌%◌, ◌≤◌, ◌<◌}
use native.Mathlib.Omega.{arith}
use native.Mathlib.Numerals.{add-one}
use native.Mathlib.Decide.{dec_le, dec_lt}
use lib.Dec.{ltb, leb}
use lib.ListN.{length, drop, length-drop, length-append, length-replicate, drop_of_length-le}
use lib.Seq.{drop-cons, drop-drop}
use borrow.Author.Tests.{ltb-true, lt-ltb, le-ltb, le-leb, lt-leb}
use Rattle.wire.specs.Wire.{byte_at, be16_at}
use Rattle.wire.specs.Mask.{Mask, open_bytes, sealed_bytes}
use Rattle.wire.specs.Grammar.{Grammar, byte, skip, guard, at_end, end_or, sealed_rest, after, require, accepted, mask_of}
use Rattle.wire.proofs.Bools.{and_left}
use Rattle.wire.proofs.Options.{require_none}
use Rattle.wire.proofs.Grammars.{after_after}
use Rattle.codec_config.specs.Records.{avc_names, hevc_names, set, sets, avc_extension, avc_picture_sets, avc, hevc_arrays, hevc, record_grammar, record_valid, record_mask}
use Rattle.codec_config.specs.TypeClaims.{any_set, any_sets, any_avc_extension, any_avc_picture_sets, any_avc, any_hevc_arrays, any_hevc, grammar_before}
use Rattle.codec_config.specs.TypeClaims.{FirstByte, first_bytes, extension_first_bytes, picture_first_bytes, array_first_bytes, record_first_bytes}
use Rattle.codec_config.specs.TypeClaims.{all_name, open_at, opened, Narrowed}
use Rattle.codec_config.specs.declared.ConfigCodec.{ConfigCodec}
use Rattle.codec_config.specs.declared.ConfigCodec.TheVariants.{Avc, Hevc, Opaque, Aac, Opus}

-- what the first bytes make of what was said before
abbrev opened_in : List FirstByte → Option Mask → Option Mask
opened_in fs none = none
opened_in fs (some m) = some (opened fs m)

abbrev narrowed : List ℕ → List FirstByte → Option Mask → Option Mask
narrowed p fs o = require (all_name p fs) (opened_in fs o)

-- a mask that is sealed from a place on, with that place opened
open_here : (k : ℕ) (m₀ : Mask) (n : ℕ) (m : Mask) → length m₀ ≡ k → 0 < n
    → open_at k (m₀ ++ (sealed_bytes n ++ m)) ≡ m₀ ++ (open_bytes 1 ++ (sealed_bytes (n - 1) ++ m))
unfolding open_at
open_here zero [] (suc n) m e h = rw (let z : suc n - 1 ≡ n = omega arith in z) refl
open_here zero [] zero m e h = absurd (omega arith)
open_here zero (s ∷ m₀) n m e h = absurd (omega arith)
open_here (suc k) [] n m e h = absurd (omega arith)
open_here (suc k) (s ∷ m₀) n m e h = ap (λ (z : Mask). s ∷ z) (open_here k m₀ n m (omega arith) h)

-- A GRAMMAR NARROWS ANOTHER from i on, by the first bytes fs, whatever the mask of the bytes before
module _ (p : List ℕ) where
  record Narrows (i : ℕ) (g h : Grammar) (fs : List FirstByte) : Type 0 where
    from : (m₀ : Mask) → length m₀ ≡ i → after m₀ (g (drop i p)) ≡ narrowed p fs (after m₀ (h (drop i p)))

  cut : (i : ℕ) → i < length p → drop i p ≡ byte_at p i ∷ drop (i + 1) p
  cut i l = drop-cons p i 0 l ∙ ap (λ (j : ℕ). byte_at p i ∷ drop j p) (sym (add-one i))

  moved : {i j : ℕ} {g h : Grammar} {fs : List FirstByte} → i ≡ j → Narrows i g h fs → Narrows j g h fs
  moved {g = g} {h = h} {fs = fs} e n = subst (λ (z : ℕ). Narrows z g h fs) e n

  byte_narrows : (g h : ℕ → Grammar) (i : ℕ) (fs : List FirstByte) → Narrows (i + 1) (g (byte_at p i)) (h (byte_at p i)) fs → Narrows i (byte g) (byte h) fs
  unfolding byte
  byte_narrows g h i fs n = record { from = λ m₀ e. go m₀ e (dec_lt i (length p)) }
    where
      go : (m₀ : Mask) → length m₀ ≡ i → Dec (i < length p) → after m₀ (byte g (drop i p)) ≡ narrowed p fs (after m₀ (byte h (drop i p)))
      go m₀ e (yes l) =
          rw (cut i l, after_after m₀ (open_bytes 1) (g (byte_at p i) (drop (i + 1) p)), after_after m₀ (open_bytes 1) (h (byte_at p i) (drop (i + 1) p)))
          (n.from (m₀ ++ open_bytes 1) (omega (arith, length-append m₀ (open_bytes 1))))
      go m₀ e (no l) = rw (drop_of_length-le p {i = i} (omega arith), require_none {A = Mask} (all_name p fs)) refl

  guard_narrows : (c : Bool) (g h : Grammar) (i : ℕ) (fs : List FirstByte) → (c ≡ true → Narrows i g h fs) → Narrows i (guard c g) (guard c h) fs
  unfolding guard
  guard_narrows true g h i fs n = n refl
  guard_narrows false g h i fs n = record { from = λ m₀ e. sym (require_none (all_name p fs)) }

  skip_narrows : (n : ℕ) (g h : Grammar) (i : ℕ) (fs : List FirstByte) → Narrows (i + n) g h fs → Narrows i (skip n g) (skip n h) fs
  unfolding skip
  skip_narrows n g h i fs rest = record { from = λ m₀ e. go m₀ e (leb n (length (drop i p))) }
    where
      go : (m₀ : Mask) → length m₀ ≡ i → (c : Bool)
          → after m₀ (require c (after (sealed_bytes n) (g (drop n (drop i p))))) ≡ narrowed p fs (after m₀ (require c (after (sealed_bytes n) (h (drop n (drop i p))))))
      go m₀ e true =
          rw (drop-drop n i p, after_after m₀ (sealed_bytes n) (g (drop (i + n) p)), after_after m₀ (sealed_bytes n) (h (drop (i + n) p)))
          (rest.from (m₀ ++ sealed_bytes n) (omega (arith, length-append m₀ (sealed_bytes n), length-replicate n true)))
      go m₀ e false = sym (require_none (all_name p fs))

  end_or_narrows : (g h : Grammar) (i : ℕ) (fs : List FirstByte) → (i < length p → Narrows i g h fs) → (length p ≤ i → fs ≡ []) → Narrows i (end_or g) (end_or h) fs
  unfolding at_end all_name opened
  end_or_narrows g h i fs n ended = record { from = λ m₀ e. go m₀ e (dec_lt i (length p)) }
    where
      go : (m₀ : Mask) → length m₀ ≡ i → Dec (i < length p) → after m₀ (end_or g (drop i p)) ≡ narrowed p fs (after m₀ (end_or h (drop i p)))
      go m₀ e (yes l) =
          rw (cut i l) (rw (← cut i l) ((n l).from m₀ e))
      go m₀ e (no l) = rw (drop_of_length-le p {i = i} (omega arith), ended (omega arith)) refl

  rest_narrows : (i : ℕ) → Narrows i sealed_rest sealed_rest []
  unfolding all_name opened sealed_rest
  rest_narrows i = record { from = λ m₀ e. refl }

  -- A SET: a byte that must name a type, and n - 1 sealed ones, where before there were n sealed ones
  inside_narrows : (names : ℕ → Bool) (n : ℕ) (g h : Grammar) (k : ℕ) (fs : List FirstByte) → 0 < n → Narrows (k + n) g h fs
      → Narrows k (byte λ first. guard (names first) (skip (n - 1) g)) (skip n h) (record { at = k; names = names } ∷ fs)
  unfolding byte guard skip all_name opened
  inside_narrows names n g h k fs filled rest = record { from = λ m₀ e. go m₀ e (dec_le (k + n) (length p)) (names (byte_at p k)) refl }
    where
      first : FirstByte
      first = record { at = k; names = names }

      new : Grammar
      new = byte λ b. guard (names b) (skip (n - 1) g)

      ends : k + 1 + (n - 1) ≡ k + n
      ends = omega arith

      shut : (o : Option Mask) (m₀ : Mask) → length m₀ ≡ k
          → opened_in (first ∷ fs) (after m₀ (after (sealed_bytes n) o)) ≡ opened_in fs (after (m₀ ++ (open_bytes 1 ++ sealed_bytes (n - 1))) o)
      shut none m₀ e = refl
      shut (some m) m₀ e =
          ap (λ (z : Mask). some (opened fs z))
          (open_here k m₀ n m e filled ∙ sym (append_assoc m₀ (open_bytes 1 ++ sealed_bytes (n - 1)) m))

      whole : k + n ≤ length p → (m₀ : Mask)
          → after m₀ (new (drop k p)) ≡ require (names (byte_at p k)) (after (m₀ ++ (open_bytes 1 ++ sealed_bytes (n - 1))) (g (drop (k + n) p)))
      whole l m₀ =
          rw (
            cut k (omega arith),
            le-leb (n - 1) (length (drop (k + 1) p)) (omega (arith, length-drop (k + 1) p)),
            drop-drop (n - 1) (k + 1) p,
            ends,
          )
          (through (names (byte_at p k)))
        where
          through : (v : Bool) → after m₀ (after (open_bytes 1) (require v (after (sealed_bytes (n - 1)) (g (drop (k + n) p)))))
              ≡ require v (after (m₀ ++ (open_bytes 1 ++ sealed_bytes (n - 1))) (g (drop (k + n) p)))
          through true =
              ap (after m₀) (after_after (open_bytes 1) (sealed_bytes (n - 1)) (g (drop (k + n) p)))
              ∙ after_after m₀ (open_bytes 1 ++ sealed_bytes (n - 1)) (g (drop (k + n) p))
          through false = refl

      cut_short : length p < k + n → (m₀ : Mask) → after m₀ (new (drop k p)) ≡ none
      cut_short l m₀ = here (dec_lt k (length p))
        where
          here : Dec (k < length p) → after m₀ (new (drop k p)) ≡ none
          here (yes d) =
              rw (cut k d, lt-leb (n - 1) (length (drop (k + 1) p)) (omega (arith, length-drop (k + 1) p)), require_none {A = Mask} (names (byte_at p k))) refl
          here (no d) = rw (drop_of_length-le p {i = k} (omega arith)) refl

      go : (m₀ : Mask) → length m₀ ≡ k → Dec (k + n ≤ length p) → (v : Bool) → names (byte_at p k) ≡ v
          → after m₀ (new (drop k p)) ≡ narrowed p (first ∷ fs) (after m₀ (skip n h (drop k p)))
      go m₀ e (yes l) true f =
          rw (whole l m₀, f, le-leb n (length (drop k p)) (omega (arith, length-drop k p)), drop-drop n k p, shut (h (drop (k + n) p)) m₀ e)
          (rest.from (m₀ ++ (open_bytes 1 ++ sealed_bytes (n - 1))) size)
        where
          size : length (m₀ ++ (open_bytes 1 ++ sealed_bytes (n - 1))) ≡ k + n
          size = omega (arith, length-append m₀ (open_bytes 1 ++ sealed_bytes (n - 1)), length-append (open_bytes 1) (sealed_bytes (n - 1)), length-replicate (n - 1) true)
      go m₀ e (yes l) false f = rw (whole l m₀, f) refl
      go m₀ e (no l) v f =
          rw (cut_short (omega arith) m₀, lt-leb n (length (drop k p)) (omega (arith, length-drop k p)), require_none {A = Mask} (all_name p (first ∷ fs))) refl

  set_narrows : (names : ℕ → Bool) (g h : Grammar) (i : ℕ) (fs : List FirstByte) → Narrows (i + 2 + be16_at p i) g h fs
      → Narrows i (set names g) (any_set h) (record { at = i + 2; names = names } ∷ fs)
  unfolding set any_set
  set_narrows names g h i fs rest =
      let two : i + 2 ≡ i + 1 + 1 = omega arith in
      byte_narrows _ _ i _
      (byte_narrows _ _ (i + 1) _
      (guard_narrows (ltb 0 (be16_at p i)) _ _ (i + 1 + 1) _ λ filled.
      moved two (inside_narrows names (be16_at p i) g h (i + 2) fs (ltb-true 0 _ filled) rest)))

  sets_narrow : (names : ℕ → Bool) (n : ℕ) (g h : Grammar) (more : ℕ → List FirstByte) → ((j : ℕ) → Narrows j g h (more j)) → (i : ℕ)
      → Narrows i (sets names n g) (any_sets n h) (first_bytes names n p more i)
  unfolding sets any_sets first_bytes
  sets_narrow names zero g h more rest i = rest i
  sets_narrow names (suc n) g h more rest i = set_narrows names _ _ i _ (sets_narrow names n g h more rest (i + 2 + be16_at p i))

  -- AVC
  extension_narrows : (i : ℕ) → Narrows i avc_extension any_avc_extension (extension_first_bytes p i)
  unfolding avc_extension any_avc_extension extension_first_bytes
  extension_narrows i =
      end_or_narrows _ _ i _
      (λ l. rw (lt-ltb i (length p) l)
      (skip_narrows 3 _ _ i _ (byte_narrows _ _ (i + 3) _
      (let four : i + 4 ≡ i + 3 + 1 = omega arith in
      moved four (sets_narrow (avc_names 13) (byte_at p (i + 3)) _ _ (λ _. []) rest_narrows (i + 4))))))
      (λ l. rw (le-ltb i (length p) l) refl)

  pictures_narrow : (i : ℕ) → Narrows i avc_picture_sets any_avc_picture_sets (picture_first_bytes p i)
  unfolding avc_picture_sets any_avc_picture_sets picture_first_bytes
  pictures_narrow i =
      byte_narrows _ _ i _ (guard_narrows _ _ _ (i + 1) _ λ _. sets_narrow (avc_names 8) (byte_at p i) _ _ (extension_first_bytes p) extension_narrows (i + 1))

  avc_narrows : Narrows 0 avc any_avc (record_first_bytes Avc p)
  unfolding avc any_avc record_first_bytes
  avc_narrows =
      byte_narrows _ _ 0 _ (guard_narrows _ _ _ 1 _ λ _. skip_narrows 4 _ _ 1 _ (byte_narrows _ _ 5 _
      (guard_narrows _ _ _ 6 _ λ _. sets_narrow (avc_names 7) (byte_at p 5 % 32) _ _ (picture_first_bytes p) pictures_narrow 6)))

  -- HEVC
  arrays_narrow : (n : ℕ) (sps pps : Bool) (i : ℕ) → Narrows i (hevc_arrays n sps pps) (any_hevc_arrays n sps pps) (array_first_bytes n p i)
  unfolding hevc_arrays any_hevc_arrays array_first_bytes
  arrays_narrow zero sps pps i = guard_narrows (sps && pps) _ _ i _ λ _. rest_narrows i
  arrays_narrow (suc n) sps pps i =
      let three : i + 3 ≡ i + 1 + 1 + 1 = omega arith in
      byte_narrows _ _ i _ (byte_narrows _ _ (i + 1) _ (byte_narrows _ _ (i + 1 + 1) _
      (moved three (sets_narrow (hevc_names (byte_at p i % 64)) (be16_at p (i + 1)) _ _ (array_first_bytes n p) (arrays_narrow n _ _) (i + 3)))))

  hevc_narrows : Narrows 0 hevc any_hevc (record_first_bytes Hevc p)
  unfolding hevc any_hevc record_first_bytes
  hevc_narrows =
      byte_narrows _ _ 0 _ (guard_narrows _ _ _ 1 _ λ _. skip_narrows 21 _ _ 1 _ (byte_narrows _ _ 22 _ (arrays_narrow (byte_at p 22) false false 23)))

after_nothing : (o : Option Mask) → after [] o ≡ o
after_nothing none = refl
after_nothing (some m) = refl

from_first : (p : List ℕ) (g h : Grammar) (fs : List FirstByte) → Narrows p 0 g h fs → g p ≡ narrowed p fs (h p)
from_first p g h fs n = sym (after_nothing (g p)) ∙ n.from [] refl ∙ ap (narrowed p fs) (after_nothing (h p))

unmoved : (o : Option Mask) → o ≡ opened_in [] o
unfolding opened
unmoved none = refl
unmoved (some m) = refl

-- THE RULE IS THAT OF BEFORE, NARROWED
record_narrows : (codec : ConfigCodec) (p : List ℕ) → record_grammar codec p ≡ narrowed p (record_first_bytes codec p) (grammar_before codec p)
unfolding record_grammar grammar_before record_first_bytes all_name opened
record_narrows Avc p = from_first p _ _ _ (avc_narrows p)
record_narrows Hevc p = from_first p _ _ _ (hevc_narrows p)
record_narrows Opaque p = unmoved (record_grammar Opaque p)
record_narrows Aac p = unmoved (record_grammar Aac p)
record_narrows Opus p = unmoved (record_grammar Opus p)

pub records_narrowed : (codec : ConfigCodec) (p : List ℕ) → Narrowed codec p
unfolding record_valid record_mask
records_narrowed codec p =
    record {
      verdict = ap accepted (record_narrows codec p) ∙ both (grammar_before codec p) (all_name p fs);
      mask = λ v. ap mask_of (record_narrows codec p) ∙ less (grammar_before codec p) (all_name p fs) (sym (ap accepted (record_narrows codec p)) ∙ v);
    }
  where
    fs : List FirstByte
    fs = record_first_bytes codec p

    both : (o : Option Mask) (a : Bool) → accepted (require a (opened_in fs o)) ≡ (accepted o && a)
    both none true = refl
    both none false = refl
    both (some m) true = refl
    both (some m) false = refl

    less : (o : Option Mask) (a : Bool) → accepted (require a (opened_in fs o)) ≡ true → mask_of (require a (opened_in fs o)) ≡ opened fs (mask_of o)
    less (some m) true v = refl
    less none true v = absurd (true≢false (sym v))
    less o false v = absurd (true≢false (sym v))

-- a record that is valid was valid before
pub valid_before : (codec : ConfigCodec) (p : List ℕ) → record_valid codec p ≡ true → accepted (grammar_before codec p) ≡ true
valid_before codec p v = and_left (accepted (grammar_before codec p)) _ (sym (records_narrowed codec p).verdict ∙ v)
