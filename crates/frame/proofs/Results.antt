-- Noninterference of results: two audio or video results that agree outside the bytes sealed in the first look the same to every rule.
use mathlib.Core.Path.{◌≡◌, refl, sym, ap, ap₂, ◌∙◌, subst}
use mathlib.Core.Bool.{Bool, true, false, cond, not, ◌&&◌, ◌||◌}
use mathlib.Core.Option.{Option, none, some}
use mathlib.Core.List.{List, [], ◌∷◌, ◌++◌}
use Prim.Native.Nat.{ℕ, zero, suc, ◌/◌, ◌%◌, ◌-◌, ◌≤◌, ◌<◌}
use native.Mathlib.Omega.{arith}
use lib.Dec.{eqb}
use lib.ListN.{length, drop}
use borrow.Author.Tests.{ne_eqb, eqb-true, le-ltb, not-true, not-false}
use Rattle.wire.specs.Wire.{byte_at, bit, high, low}
use Rattle.wire.specs.Mask.{Mask, LowEquivalent, sealed_at, open_bytes, sealed_bytes}
use Rattle.wire.proofs.Bools.{and_left, and_right, or_no_left, or_no_right, true_or_false}
use Rattle.wire.proofs.Masks.{low_at, low_clear, low_weaken, low_front, low_behind}
use Rattle.types.specs.Types.{is_ok}
use Rattle.fourcc.proofs.Laws.{fourcc_same}
use Rattle.codec_config.specs.Records.{record_mask, start_codec}
use Rattle.codec_config.proofs.Noninterference.{valid_alike, mask_alike}
use Rattle.exvideo.specs.Video.{is_enhanced, tag_frame_type, is_command, accept as acceptVideo, enhanced_video}
use Rattle.exvideo.proofs.Laws.{plain_header as video-plain}
use Rattle.exaudio.specs.Audio.{accept as acceptAudio, enhanced_audio}
use Rattle.exaudio.proofs.Laws.{plain_header as audio-plain}
use Rattle.multitrack_media.specs.Container.{Container, opens_container, container_of}
use Rattle.multitrack_media.specs.Answer.{has_packet_type}
use Rattle.multitrack_media.specs.Sealed.{sealed_in_container, per_track}
use Rattle.multitrack_media.proofs.Answers.{container_facts_lem, closed_container}
use Rattle.multitrack_media.proofs.LegalHeads.{own_nibble}
use Rattle.multitrack_media.proofs.Noninterference.{BodyLaw, container_noninterference, front_open, front_room}
use Rattle.init_cache.specs.Head.{of_video, of_audio, tag_header, frame_head}
use Rattle.init_cache.specs.Verdicts.{sequence_start, valid_from, start_verdicts, track_verdict, verdicts}
use Rattle.init_cache.specs.declared.head.FrameHead.{FrameHead}
use Rattle.init_cache.specs.declared.verdicts.SequenceStart.{SequenceStart}
use Rattle.std.specs.Prelude.{Some, None}
use Rattle.std.specs.Prelude as std
use Rattle.init_cache.specs.Alike.{Alike}
use Rattle.frame.specs.Sealed.{body_mask, seal_start, single_mask, seals_nothing, sealed_in_media, sealed_in_result}
use Rattle.frame.proofs.Fronts.{Covers, front_header, front_byte0, front_byte1, front_head, start_covers, seal_covers}

-- what the rules see of two results, their containers and their sealed bytes are the same
pub record Observed (type : ℕ) (r s : List ℕ) : Type 0 where
  pub alike : Alike type r s
  pub container : container_of type s ≡ container_of type r
  pub sealed : (i : ℕ) → sealed_in_result type s i ≡ sealed_in_result type r i

pub observe_equal : (type : ℕ) (r s : List ℕ) → r ≡ s → Observed type r s
observe_equal type r s e =
    subst (Observed type r) e
    (record {
      alike = record { long = refl; byte0 = refl; byte1 = λ _ _. refl; header = refl; container = λ _. refl; verdict = refl };
      container = refl;
      sealed = λ _. refl;
    })

-- AUDIO AND VIDEO
pub sealed_media : (type : ℕ) (r : List ℕ) → type ≤ 1 → (i : ℕ) → sealed_in_result type r i ≡ sealed_in_media type r (container_of type r) i
unfolding sealed_in_result
sealed_media type r t i = simp (le-ltb 3 type (omega arith), ne_eqb type 2 (λ e. omega arith), ne_eqb type 3 (λ e. omega arith))

pub sealed_by : (type : ℕ) (r : List ℕ) → type ≤ 1 → (o : Option Container) → container_of type r ≡ o → (i : ℕ) → sealed_in_result type r i ≡ sealed_in_media type r o i
sealed_by type r t o q i = sealed_media type r t i ∙ ap (λ (u : Option Container). sealed_in_media type r u i) q

-- CONTAINERS. In a sequence start the mask of a body is that of its record
pub body_start_lem : (type : ℕ) (fourcc body : List ℕ) → body_mask type 0 fourcc body ≡ record_mask (start_codec type fourcc) body
body_start_lem type fourcc body = refl

-- what the mask of a body seals does not change its verdict, where there is one
body_law_lem : (type : ℕ) (t : Bool)
    → BodyLaw (λ (f b : List ℕ). cond t (track_verdict type f b) true) (λ (f b : List ℕ). cond t (record_mask (start_codec type f) b) (sealed_bytes (length b)))
body_law_lem type true = record { values = λ f p q a. valid_alike (start_codec type f) p q a; masks = λ f p q a. mask_alike (start_codec type f) p q a }
body_law_lem type false = record { values = λ f p q a. refl; masks = λ f p q a. ap sealed_bytes (sym a.long) }

-- the header of a container is that of its first five bytes
pub audio_opens : (b : ℕ) → opens_container 0 b ≡ true → b / 16 ≡ 9
unfolding opens_container
audio_opens b e = go (eqb b 0x95) refl e
  where
    go : (x : Bool) → eqb b 0x95 ≡ x → ((true && x) || false) ≡ true → b / 16 ≡ 9
    go true x e = omega (arith, eqb-true b 0x95 x)
    go false x e = true_or_false e refl

pub record VideoOpens (b : ℕ) : Type 0 where
  pub enhanced : is_enhanced b ≡ true
  pub frame : eqb (tag_frame_type b) 5 ≡ false
  pub command : is_command b ≡ false

pub video_opens_lem : (b : ℕ) → opens_container 1 b ≡ true → VideoOpens b
unfolding opens_container is_command tag_frame_type
video_opens_lem b e =
    let x : Bool = bit 7 b in
    let y : Bool = not (eqb (high b % 8) 5) in
    let z : Bool = eqb (low b) 6 in
    let yz : (y && z) ≡ true = and_right x (y && z) e in
    let ex : is_enhanced b ≡ true = and_left x (y && z) e in
    let f : eqb (high b % 8) 5 ≡ false = not-true (eqb (high b % 8) 5) (and_left y z yz) in
    record { enhanced = ex; frame = simp (ex, f); command = simp (ex, f) }

header_plain : (type : ℕ) (r s : List ℕ) → opens_container type (byte_at r 0) ≡ true → type ≤ 1 → 5 ≤ length r → length r ≡ length s
    → ((i : ℕ) → i < 7 → byte_at r i ≡ byte_at s i) → tag_header type r ≡ tag_header type s
unfolding tag_header
header_plain zero r s o t l long e =
    let x = audio_opens (byte_at r 0) o in
    let b0 = e 0 (omega arith) in
    ap of_audio (sym (audio-plain r x l) ∙ ap₂ (λ (b : ℕ) (f : List ℕ). acceptAudio (enhanced_audio b f)) b0 (fourcc_same r s 1 (λ i k m. e i (omega arith)))
    ∙ audio-plain s (ap (λ (b : ℕ). b / 16) (sym b0) ∙ x) (omega arith))
header_plain (suc zero) r s o t l long e =
    let w = video_opens_lem (byte_at r 0) o in
    let b0 = e 0 (omega arith) in
    let n : byte_at r 0 % 16 ≡ 1 → ⊥ = λ x. omega (arith, own_nibble 1 (byte_at r 0) o) in
    let m : byte_at s 0 % 16 ≡ 1 → ⊥ = λ x. n (ap (λ (b : ℕ). b % 16) b0 ∙ x) in
    ap of_video (sym (video-plain r n w.enhanced w.command l) ∙ ap₂ (λ (b : ℕ) (f : List ℕ). acceptVideo (enhanced_video b f 0 5)) b0 (fourcc_same r s 1 (λ i k m. e i (omega arith)))
    ∙ video-plain s m (ap is_enhanced (sym b0) ∙ w.enhanced) (ap is_command (sym b0) ∙ w.command) (omega arith))
header_plain (suc (suc k)) r s o t l long e = absurd (omega arith)

-- A SINGLE FRAME has a readable header and is no container by its byte 0
module _ (type : ℕ) (r : List ℕ) (single : seals_nothing type (frame_head type r) ≡ false) where
  pub readable : is_ok (tag_header type r).error ≡ true
  unfolding seals_nothing frame_head
  readable = not-false _ (or_no_left (not (is_ok (tag_header type r).error)) _ single)

  pub closed : opens_container type (byte_at r 0) ≡ false
  unfolding seals_nothing frame_head
  closed = or_no_left (opens_container type (byte_at r 0)) _ (or_no_right (not (is_ok (tag_header type r).error)) _ single)

module _ (type : ℕ) (r s : List ℕ) (t : type ≤ 1) (low : LowEquivalent (sealed_in_result type r) r s) where
  module _ (c : Container) (read : container_of type r ≡ some c) where
    abbrev value : List ℕ → List ℕ → Bool
    value f b = cond (eqb c.packet_type 0) (track_verdict type f b) true

    agree : LowEquivalent (sealed_in_container (body_mask type c.packet_type) r c) r s
    agree = low_weaken (λ i e. sealed_by type r t (some c) read i ∙ e) low

    front : (i : ℕ) → i < 7 → byte_at r i ≡ byte_at s i
    front i l = low_at agree i (front_open (body_mask type c.packet_type) type r c read i l)

    verdicts_by : (b : Bool) → per_track (λ (f d : List ℕ). cond b (track_verdict type f d) true) s c.tracks ≡ per_track (λ (f d : List ℕ). cond b (track_verdict type f d) true) r c.tracks
        → cond b (per_track (track_verdict type) r c.tracks) [] ≡ cond b (per_track (track_verdict type) s c.tracks) []
    verdicts_by true e = sym e
    verdicts_by false e = refl

    observe_container : Observed type r s
    unfolding has_packet_type verdicts
    observe_container =
        let w = container_noninterference value (body_mask type c.packet_type) (body_law_lem type (eqb c.packet_type 0)) type r s c read agree in
        record {
          alike = record {
            long = low.long;
            byte0 = front 0 (omega arith);
            byte1 = λ _ _. front 1 (omega arith);
            header = header_plain type r s (container_facts_lem type r c read).opens t (omega (arith, front_room type r c read)) low.long front;
            container = λ k. rw (read, w.same) refl;
            verdict = rw (read, w.same) (verdicts_by (eqb c.packet_type 0) w.values);
          };
          container = w.same ∙ sym read;
          sealed = λ i. sealed_by type s t (some c) w.same i ∙ w.sealed i ∙ sym (sealed_by type r t (some c) read i);
        }

  -- SINGLE FRAMES
  module _ (read : container_of type r ≡ none) (single : seals_nothing type (frame_head type r) ≡ false) where
    abbrev fine : is_ok (tag_header type r).error ≡ true
    fine = readable type r single

    agree_single : (a : std.Option SequenceStart) → sequence_start type (frame_head type r) ≡ a → LowEquivalent (sealed_at (single_mask type r a)) r s
    agree_single a q =
        low_weaken (λ i e. sealed_by type r t none read i ∙ simp (single, q) e) low

    -- an open front that covers what the rules see
    module _ (n : ℕ) (covers : Covers type r n) (front : (i : ℕ) → i < n → byte_at r i ≡ byte_at s i) where
      head_eq : frame_head type r ≡ frame_head type s
      head_eq = front_head type r s t low.long fine n covers front

      none_again : container_of type s ≡ none
      none_again = closed_container type s (ap (opens_container type) (sym (front_byte0 type r s t low.long fine n covers front)) ∙ closed type r single)

      observe_front : start_verdicts r (sequence_start type (frame_head type r)) ≡ start_verdicts s (sequence_start type (frame_head type r))
          → ((i : ℕ) → sealed_at (single_mask type s (sequence_start type (frame_head type r))) i ≡ sealed_at (single_mask type r (sequence_start type (frame_head type r))) i) → Observed type r s
      unfolding has_packet_type verdicts
      observe_front v m =
          record {
            alike = record {
              long = low.long;
              byte0 = front_byte0 type r s t low.long fine n covers front;
              byte1 = front_byte1 type r s t low.long fine n covers front;
              header = front_header type r s t low.long fine n covers front;
              container = λ k. rw (read, none_again) refl;
              verdict = rw (read, none_again, ← head_eq) v;
            };
            container = none_again ∙ sym read;
            sealed = λ i.
                sealed_by type s t none none_again i
                ∙ ap (λ (h : FrameHead). cond (seals_nothing type h) false (sealed_at (single_mask type s (sequence_start type h)) i)) (sym head_eq)
                ∙ ap (cond (seals_nothing type (frame_head type r)) false) (m i)
                ∙ sym (sealed_by type r t none read i);
          }

    observe_single : (a : std.Option SequenceStart) → sequence_start type (frame_head type r) ≡ a → Observed type r s
    unfolding valid_from
    observe_single (Some a) q =
        let low' = agree_single (Some a) q in
        let behind = low_behind a.from (record_mask a.codec (drop a.from r)) low' in
        observe_front a.from (start_covers r type t a.codec a.from q) (low_front a.from (record_mask a.codec (drop a.from r)) low')
        (rw q (ap (λ (v : Bool). v ∷ []) (sym (valid_alike a.codec (drop a.from r) (drop a.from s) behind))))
        (λ i. rw q (ap (λ (m : Mask). sealed_at (open_bytes a.from ++ m) i) (mask_alike a.codec (drop a.from r) (drop a.from s) behind)))
    observe_single None q =
        let low' = agree_single None q in
        let n : ℕ = seal_start type (frame_head type r) in
        let front = low_front n (sealed_bytes (length r - n)) low' in
        let h = front_head type r s t low.long fine n (seal_covers r type) front in
        observe_front n (seal_covers r type) front (rw q refl)
        (λ i. rw (q, ← h, low.long) refl)

  -- NOTHING SEALED: the results are equal
  observe_nothing : container_of type r ≡ none → seals_nothing type (frame_head type r) ≡ true → Observed type r s
  observe_nothing read nothing = observe_equal type r s (low_clear (λ i. sealed_by type r t none read i ∙ simp nothing) low)

  pub observe : Observed type r s
  observe = by_container (container_of type r) refl
    where
      by_seal : container_of type r ≡ none → (b : Bool) → seals_nothing type (frame_head type r) ≡ b → Observed type r s
      by_seal read true x = observe_nothing read x
      by_seal read false x = observe_single read x (sequence_start type (frame_head type r)) refl

      by_container : (o : Option Container) → container_of type r ≡ o → Observed type r s
      by_container none read = by_seal read (seals_nothing type (frame_head type r)) refl
      by_container (some c) read = observe_container c read
