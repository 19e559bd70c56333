-- What peeling needs of the sealed bytes of results: byte 0 is open, and an unpeeled frame of packet type 7 seals nothing.
use mathlib.Core.Path.{◌≡◌, refl, ◌∙◌}
use mathlib.Core.Bool.{Bool, true, false, not, ◌&&◌, ◌||◌, and-false, or-true}
use mathlib.Core.Option.{Option, none, some}
use mathlib.Core.List.{List}
use Prim.Native.Nat.{ℕ, zero, suc, ◌/◌, ◌%◌, ◌-◌, ◌≤◌, ◌<◌}
use native.Mathlib.Decide.{dec_lt, ℕ_discrete}
use native.Mathlib.Omega.{arith}
use lib.Dec.{eqb, ltb}
use lib.ListN.{length, drop}
use borrow.Author.Tests.{eq-eqb, ne_eqb, eqb-true, le-ltb}
use Rattle.wire.specs.Wire.{byte_at, bit, high, low}
use Rattle.wire.specs.Mask.{sealed_at, sealed_bytes}
use Rattle.wire.proofs.Bools.{and_left, and_right, true_or_false}
use Rattle.wire.proofs.Masks.{front_at}
use Rattle.types.specs.Types.{is_ok, is_audio}
use Rattle.types.proofs.Laws.{only_ok}
use Rattle.modex.specs.Modex.{is_wrapped}
use Rattle.codec_config.specs.Records.{record_mask}
use Rattle.exvideo.proofs.Laws.{video_facts_lem}
use Rattle.exaudio.proofs.Laws.{audio_facts_lem}
use Rattle.multitrack_media.specs.Container.{Container, opens_container, container_of}
use Rattle.multitrack_media.proofs.Answers.{closed_container}
use Rattle.multitrack_media.proofs.Noninterference.{front_open}
use Rattle.init_cache.specs.Head.{tag_header, frame_head, is_readable, is_enhanced_of}
use Rattle.init_cache.specs.Verdicts.{sequence_start}
use Rattle.init_cache.specs.declared.verdicts.SequenceStart.{SequenceStart}
use Rattle.std.specs.Prelude.{Some, None}
use Rattle.std.specs.Prelude as std
use Rattle.frame.specs.Sealed.{body_mask, seal_start, single_mask, seals_nothing, sealed_in_result}
use Rattle.frame.proofs.Fronts.{header_some, start_covers, seal_covers}
use Rattle.frame.proofs.Results.{sealed_by, readable}

-- TYPES 2 AND 3 seal nothing
pub sealed_script : (type : ℕ) (r : List ℕ) → 1 < type → type ≤ 3 → (i : ℕ) → sealed_in_result type r i ≡ false
unfolding sealed_in_result
sealed_script type r l m i = go (ℕ_discrete type 2)
  where
    go : Dec (type ≡ 2) → sealed_in_result type r i ≡ false
    go (yes e) = simp (sealed_in_result, le-ltb 3 type m, eq-eqb type 2 e)
    go (no n) = simp (sealed_in_result, le-ltb 3 type m, ne_eqb type 2 n, eq-eqb type 3 (omega arith))

-- BYTE 0 IS OPEN
single_first : (type : ℕ) (r : List ℕ) → type ≤ 1 → is_ok (tag_header type r).error ≡ true → (a : std.Option SequenceStart) → sequence_start type (frame_head type r) ≡ a
    → sealed_at (single_mask type r a) 0 ≡ false
single_first type r t e (Some s) q =
    front_at false s.from (record_mask s.codec (drop s.from r)) 0 (omega (arith, header_some type r t e, (start_covers r type t s.codec s.from q).header))
single_first type r t e None q =
    let n : ℕ = seal_start type (frame_head type r) in
    front_at false n (sealed_bytes (length r - n)) 0 (omega (arith, header_some type r t e, (seal_covers r type).header))

pub first_open : (type : ℕ) (r : List ℕ) → type ≤ 3 → sealed_in_result type r 0 ≡ false
first_open type r known = by_type_lem (dec_lt 1 type)
  where
    by_seal : type ≤ 1 → container_of type r ≡ none → (b : Bool) → seals_nothing type (frame_head type r) ≡ b → sealed_in_result type r 0 ≡ false
    by_seal t q true x = sealed_by type r t none q 0 ∙ simp x
    by_seal t q false x = sealed_by type r t none q 0 ∙ simp x (single_first type r t (readable type r x) (sequence_start type (frame_head type r)) refl)

    by_container : type ≤ 1 → (o : Option Container) → container_of type r ≡ o → sealed_in_result type r 0 ≡ false
    by_container t none q = by_seal t q (seals_nothing type (frame_head type r)) refl
    by_container t (some c) q = sealed_by type r t (some c) q 0 ∙ front_open (body_mask type c.packet_type) type r c q 0 (omega arith)

    by_type_lem : Dec (1 < type) → sealed_in_result type r 0 ≡ false
    by_type_lem (yes l) = sealed_script type r l known 0
    by_type_lem (no l) = by_container (omega arith) (container_of type r) refl

-- PACKET TYPE 7, UNPEELED
pub record Wrapped (type b : ℕ) : Type 0 where
  pub bit7 : bit 7 b ≡ true
  pub seven : b % 16 ≡ 7
  pub nine : is_audio type ≡ true → b / 16 ≡ 9

pub wrapped_facts : (type mask : ℕ) (p : List ℕ) → is_wrapped type mask p ≡ true → Wrapped type (byte_at p 0)
unfolding is_wrapped
wrapped_facts type mask p w =
    let n : Bool = ltb 0 (length p) in
    let m : Bool = bit 2 mask in
    let b : Bool = bit 7 (byte_at p 0) in
    let l : Bool = eqb (low (byte_at p 0)) 7 in
    let h : Bool = not (is_audio type) || eqb (high (byte_at p 0)) 9 in
    let wl : (n && m && b && l) ≡ true = and_left (n && m && b && l) h w in
    record {
      bit7 = and_right (n && m) b (and_left (n && m && b) l wl);
      seven = eqb-true (low (byte_at p 0)) 7 (and_right (n && m && b) l wl);
      nine = λ a. eqb-true (high (byte_at p 0)) 9 (audio_only (is_audio type) (eqb (high (byte_at p 0)) 9) a (and_right (n && m && b && l) h w));
    }
  where
    audio_only : (a x : Bool) → a ≡ true → (not a || x) ≡ true → x ≡ true
    audio_only true x e f = f
    audio_only false x e f = true_or_false e refl

pub nibble_closed : (type b : ℕ) → (b % 16 ≡ 5 → ⊥) → (b % 16 ≡ 6 → ⊥) → opens_container type b ≡ false
unfolding opens_container
nibble_closed type b x y = simp (ne_eqb b 0x95 (λ e. x (omega arith)), ne_eqb (b % 16) 6 y, and-false)

pub wrapped_closed : (type b : ℕ) → b % 16 ≡ 7 → opens_container type b ≡ false
wrapped_closed type b e = nibble_closed type b (λ x. omega arith) (λ x. omega arith)

-- a readable header of such a frame is enhanced, of packet type 7
wrapped_enhanced : (type : ℕ) (p : List ℕ) → type ≤ 1 → Wrapped type (byte_at p 0) → is_ok (tag_header type p).error ≡ true → is_enhanced_of 7 (frame_head type p) ≡ true
unfolding is_enhanced_of frame_head tag_header
wrapped_enhanced zero p t w r =
    let f = audio_facts_lem p (only_ok _ r) in
    let x = eq-eqb _ _ (w.nine refl) in
    simp (r, f.enhanced, f.packet, x, w.seven)
wrapped_enhanced (suc zero) p t w r =
    let f = video_facts_lem p in
    simp (r, f.enhanced, f.packet, w.bit7, w.seven)
wrapped_enhanced (suc (suc k)) p t w r = absurd (omega arith)

wrapped_nothing : (type : ℕ) (p : List ℕ) → type ≤ 1 → Wrapped type (byte_at p 0) → seals_nothing type (frame_head type p) ≡ true
unfolding seals_nothing
wrapped_nothing type p t w = go (is_readable (frame_head type p)) refl
  where
    go : (b : Bool) → is_readable (frame_head type p) ≡ b → seals_nothing type (frame_head type p) ≡ true
    go false r = simp (seals_nothing, r)
    go true r = simp (seals_nothing, r, wrapped_enhanced type p t w (unfold frame_head in r), or-true)

pub wrapped_open : (type mask : ℕ) (p : List ℕ) → type ≤ 3 → is_wrapped type mask p ≡ true → (i : ℕ) → sealed_in_result type p i ≡ false
wrapped_open type mask p known w i = go (dec_lt 1 type)
  where
    go : Dec (1 < type) → sealed_in_result type p i ≡ false
    go (yes l) = sealed_script type p l known i
    go (no l) =
        let t : type ≤ 1 = omega arith in
        let f = wrapped_facts type mask p w in
        let q = closed_container type p (wrapped_closed type (byte_at p 0) f.seven) in
        sealed_by type p t none q i ∙ simp (wrapped_nothing type p t f)
