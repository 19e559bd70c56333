-- What the definition of sealed bytes says, sentence by sentence of docs/REQUIREMENTS.md, "Sealed bytes". The output is no argument of it, so its length
-- has no say.
use mathlib.Core.Path.{◌≡◌, refl, sym, ap, ◌∙◌}
use mathlib.Core.Bool.{Bool, true, false, cond, ◌&&◌, ◌||◌, or-true, or-false}
use mathlib.Core.Option.{Option, none, some}
use mathlib.Core.List.{List, ◌∷◌, ◌++◌}
use Prim.Native.Nat.{ℕ, zero, suc, ◌+◌, ◌-◌, ◌≤◌, ◌<◌}
use native.Mathlib.Omega.{arith}
use lib.Dec.{leb}
use lib.ListN.{length, drop, get_or}
use borrow.Author.Tests.{lt-ltb, lt-leb, le-leb, eq-eqb, ne_eqb, eqb-true}
use Rattle.wire.specs.Wire.{byte_at}
use Rattle.wire.specs.Mask.{sealed_at, open_bytes, sealed_bytes}
use Rattle.wire.proofs.Bools.{true_or_false}
use Rattle.wire.proofs.Masks.{front_at, behind_front, from_position, open_both}
use Rattle.types.specs.Types.{is_ok, is_video}
use Rattle.codec_config.specs.Records.{record_valid, record_mask, start_codec}
use Rattle.codec_config.specs.declared.ConfigCodec.{ConfigCodec}
use Rattle.codec_config.specs.declared.ConfigCodec.TheVariants.{Aac}
use Rattle.codec_config.proofs.Masks.{refused_open, aac_open}
use Rattle.modex.specs.Modex.{layers_at, chain_of, peeled}
use Rattle.modex.specs.Sealed.{sealed_in_layers}
use Rattle.modex.specs.declared.ModexLayer.{ModexLayer}
use Rattle.std.specs.Prelude.{Some, None, Result}
use Rattle.types.specs.declared.ErrorCode.{ErrorCode}
use Rattle.types.specs.declared.AudioHeader.{AudioHeader}
use Rattle.modex.specs.declared.ModexChain.{ModexChain}
use Rattle.exaudio.specs.Audio.{error_of}
use Rattle.modex.proofs.Laws.{ends_wrapped}
use Rattle.modex.proofs.Noninterference.{seals_behind_offset, seals_data, sealed_behind, sealed_media as received-media, sealed_script as received-script}
use Rattle.exvideo.specs.Video.{is_command, is_legacy_avc}
use Rattle.exvideo.specs.declared.VideoHeaderResult.{VideoHeaderResult}
use Rattle.exaudio.proofs.Laws.{plain_header as audio-plain}
use Rattle.exvideo.proofs.Laws.{plain_header as video-plain}
use Rattle.multitrack_media.specs.Container.{Container, opens_container, body_in, no_place, container_of}
use Rattle.multitrack_media.specs.Sealed.{sealed_in_container, in_any_body}
use Rattle.multitrack_media.proofs.Answers.{container_facts_lem, closed_container}
use Rattle.multitrack_media.proofs.LegalHeads.{own_nibble}
use Rattle.multitrack_media.proofs.Noninterference.{exactly_bodies, sealed_in_body, sealed_in_no_body, front_room}
use Rattle.init_cache.specs.Head.{tag_header, frame_head, is_readable, is_enhanced_of}
use Rattle.init_cache.specs.Verdicts.{record_at, sequence_start, valid_from}
use Rattle.frame.specs.Sealed.{body_mask, seal_start, seals_nothing, sealed_in_result, sealed_in_payload}
use Rattle.frame.proofs.Fronts.{enhanced_low}
use Rattle.frame.proofs.Results.{sealed_by, body_start_lem, video_opens_lem, audio_opens}
use Rattle.frame.proofs.Payloads.{sealed_script, wrapped_closed}
use Rattle.frame.proofs.Starts.{judged_single}
use Rattle.frame.proofs.Demand.{sealed_unknown}

-- AN ACCEPTED CONTAINER of packet type not 0 seals exactly its bodies
pub container_bodies : (type : ℕ) (r : List ℕ) (c : Container) → type ≤ 1 → container_of type r ≡ some c → (c.packet_type ≡ 0 → ⊥)
    → (i : ℕ) → sealed_in_result type r i ≡ in_any_body c.tracks i
container_bodies type r c t read n i =
    sealed_by type r t (some c) read i
    ∙ ap (λ (b : Bool). sealed_in_container (λ (f d : List ℕ). cond b (record_mask (start_codec type f) d) (sealed_bytes (length d))) r c i) (ne_eqb _ _ n)
    ∙ exactly_bodies type r c read i

-- of packet type 0, exactly what the masks of its records say: in the body of track n that of its record, outside the bodies nothing
module _ (type : ℕ) (r : List ℕ) (c : Container) (t : type ≤ 1) (read : container_of type r ≡ some c) (starts : c.packet_type ≡ 0) where
  container_records : (i : ℕ) → sealed_in_result type r i ≡ sealed_in_container (λ (f b : List ℕ). record_mask (start_codec type f) b) r c i
  container_records i =
      sealed_by type r t (some c) read i
      ∙ ap (λ (b : Bool). sealed_in_container (λ (f d : List ℕ). cond b (record_mask (start_codec type f) d) (sealed_bytes (length d))) r c i) (eq-eqb _ _ starts)

  pub record_body : (n : ℕ) → n < length c.tracks → (j : ℕ) → j < (get_or c.tracks n no_place).length
      → sealed_in_result type r ((get_or c.tracks n no_place).start + j)
      ≡ sealed_at (record_mask (start_codec type (get_or c.tracks n no_place).fourcc) (body_in r (get_or c.tracks n no_place))) j
  record_body n l j m = container_records _ ∙ sealed_in_body (λ (f b : List ℕ). record_mask (start_codec type f) b) r type c read n l j m

  pub record_heads : (i : ℕ) → in_any_body c.tracks i ≡ false → sealed_in_result type r i ≡ false
  record_heads i o = container_records i ∙ sealed_in_no_body (λ (f b : List ℕ). record_mask (start_codec type f) b) r c i o

module _ (type : ℕ) (r : List ℕ) (t : type ≤ 1) (read : container_of type r ≡ none) where
  -- A SINGLE FRAME WITHOUT A VERDICT seals from the header size on, legacy AVC from byte 5
  module _ (single : seals_nothing type (frame_head type r) ≡ false) (unjudged : sequence_start type (frame_head type r) ≡ None) (i : ℕ) (l : i < length r) where
    single_from : sealed_in_result type r i ≡ leb (seal_start type (frame_head type r)) i
    single_from = sealed_by type r t none read i ∙ simp (single, unjudged) (from_position (seal_start type (frame_head type r)) r i l)

    pub from_header : (is_video type && is_legacy_avc (byte_at r 0)) ≡ false → sealed_in_result type r i ≡ leb (tag_header type r).header_size i
    unfolding seal_start frame_head
    from_header n = single_from ∙ simp n

    pub from_byte_5 : (is_video type && is_legacy_avc (byte_at r 0)) ≡ true → sealed_in_result type r i ≡ leb 5 i
    unfolding seal_start frame_head
    from_byte_5 n = single_from ∙ simp n

  -- NOTHING IS SEALED in what the definition names
  pub nothing_sealed : seals_nothing type (frame_head type r) ≡ true → (i : ℕ) → sealed_in_result type r i ≡ false
  nothing_sealed x i = sealed_by type r t none read i ∙ simp x

  -- A SINGLE SEQUENCE START seals exactly what the mask of its record says, and nothing before it
  module _ (codec : ConfigCodec) (from : ℕ) (judged : sequence_start type (frame_head type r) ≡ record_at codec from) where
    start_sealed : (i : ℕ) → sealed_in_result type r i ≡ sealed_at (open_bytes from ++ record_mask codec (drop from r)) i
    start_sealed i = sealed_by type r t none read i ∙ simp (judged_single r type t codec from judged, judged)

    pub start_front : (i : ℕ) → i < from → sealed_in_result type r i ≡ false
    start_front i l = start_sealed i ∙ front_at false from (record_mask codec (drop from r)) i l

    pub start_record : (j : ℕ) → sealed_in_result type r (from + j) ≡ sealed_at (record_mask codec (drop from r)) j
    start_record j =
        let d : from + j - from ≡ j = omega arith in
        start_sealed (from + j) ∙ behind_front false from (record_mask codec (drop from r)) (from + j) (omega arith) ∙ ap (sealed_at (record_mask codec (drop from r))) d

    -- nothing at all if the record is AAC or refused
    record_sealed : ((j : ℕ) → sealed_at (record_mask codec (drop from r)) j ≡ false) → (i : ℕ) → sealed_in_result type r i ≡ false
    record_sealed h i = start_sealed i ∙ open_both from (record_mask codec (drop from r)) h i

    pub refused_start : valid_from codec from r ≡ false → (i : ℕ) → sealed_in_result type r i ≡ false
    unfolding valid_from
    refused_start e = record_sealed (refused_open codec (drop from r) e)

    pub aac_start : codec ≡ Aac → (i : ℕ) → sealed_in_result type r i ≡ false
    aac_start e = record_sealed (λ j. rw e (aac_open (drop from r) j))

-- in a body whose record is AAC or refused
pub refused_body : (type : ℕ) (fourcc body : List ℕ) → record_valid (start_codec type fourcc) body ≡ false → (j : ℕ) → sealed_at (body_mask type 0 fourcc body) j ≡ false
refused_body type fourcc body e j = rw (body_start_lem type fourcc body) (refused_open (start_codec type fourcc) body e j)

pub aac_body : (type : ℕ) (fourcc body : List ℕ) → start_codec type fourcc ≡ Aac → (j : ℕ) → sealed_at (body_mask type 0 fourcc body) j ≡ false
aac_body type fourcc body e j = rw (body_start_lem type fourcc body, e) (aac_open body j)

-- in refused headers; an accepted container has a readable one
container_readable : (type : ℕ) (r : List ℕ) (c : Container) → type ≤ 1 → container_of type r ≡ some c → is_ok (tag_header type r).error ≡ true
unfolding tag_header
container_readable zero r c t read =
    let l = front_room 0 r c read in
    ap (λ (a : Result AudioHeader ErrorCode). is_ok (error_of a)) (sym (audio-plain r (audio_opens (byte_at r 0) (container_facts_lem 0 r c read).opens) (omega arith)))
container_readable (suc zero) r c t read =
    let l = front_room 1 r c read in
    let o = (container_facts_lem 1 r c read).opens in
    let w = video_opens_lem (byte_at r 0) o in
    ap (λ (a : VideoHeaderResult). is_ok a.error) (sym (video-plain r (λ x. omega (arith, own_nibble 1 (byte_at r 0) o)) w.enhanced w.command (omega arith)))
container_readable (suc (suc n)) r c t read = absurd (omega arith)

module _ (type : ℕ) (r : List ℕ) (t : type ≤ 1) where
  pub refused_header : is_readable (frame_head type r) ≡ false → (i : ℕ) → sealed_in_result type r i ≡ false
  unfolding seals_nothing
  refused_header e = go (container_of type r) refl
    where
      go : (o : Option Container) → container_of type r ≡ o → (i : ℕ) → sealed_in_result type r i ≡ false
      go none q = nothing_sealed type r t q (simp (seals_nothing, e))
      go (some c) q = true_or_false (container_readable type r c t q) (unfold frame_head in e)

  -- in refused containers
  pub refused_container : opens_container type (byte_at r 0) ≡ true → container_of type r ≡ none → (i : ℕ) → sealed_in_result type r i ≡ false
  unfolding seals_nothing frame_head
  refused_container o q = nothing_sealed type r t q (simp (o, or-true))

  -- in enhanced commands
  pub command_open : is_video type ≡ true → is_command (byte_at r 0) ≡ true → (i : ℕ) → sealed_in_result type r i ≡ false
  unfolding seals_nothing frame_head
  command_open v c = nothing_sealed type r t (closed_container type r (go (opens_container type (byte_at r 0)) refl)) (simp (v, c, or-true))
    where
      go : (o : Bool) → opens_container type (byte_at r 0) ≡ o → opens_container type (byte_at r 0) ≡ false
      go true o = true_or_false c (video_opens_lem (byte_at r 0) (rw (eqb-true type 1 v) at o)).command
      go false o = o

  -- in enhanced headers with packet type 7
  pub modex_open : is_enhanced_of 7 (frame_head type r) ≡ true → (i : ℕ) → sealed_in_result type r i ≡ false
  unfolding seals_nothing
  modex_open e = nothing_sealed type r t (closed_container type r (wrapped_closed type (byte_at r 0) (enhanced_low type r 7 t e))) (simp (e, or-true))

-- A PAYLOAD THAT IS PEELED seals data of its layers, up to where the chain ends, and from there on what its result seals; the result's byte 0 is open
module _ (type mask : ℕ) (p : List ℕ) (t : type ≤ 1) where
  module _ (c : ModexChain) (chain : chain_of type mask p ≡ Some c) where
    through : (i : ℕ) → sealed_in_payload type mask p i ≡ (sealed_in_layers (layers_at 32 p 1) i || (leb c.next_pos i && sealed_in_result type (peeled type mask p) (i - c.next_pos + 1)))
    unfolding sealed_in_payload
    through i = received-media (sealed_in_result type) mask p type t i ∙ simp chain

    pub peeled_layers_lem : (i : ℕ) → i < c.next_pos → sealed_in_payload type mask p i ≡ sealed_in_layers (layers_at 32 p 1) i
    peeled_layers_lem i l = through i ∙ simp (lt-leb c.next_pos i l, or-false)

    -- of a layer of type 0 all data but the first three bytes, of any other layer all
    module _ (before after : List ModexLayer) (l : ModexLayer) (layers : layers_at 32 p 1 ≡ before ++ (l ∷ after)) (i : ℕ) (within : i < l.data_end) where
      in_layer : sealed_in_layers (before ++ (l ∷ after)) i ≡ true → sealed_in_payload type mask p i ≡ true
      in_layer z = through i ∙ simp (layers, z)

      pub behind_offset_sealed : l.modex_type ≡ 0 → l.data_start + 3 ≤ i → sealed_in_payload type mask p i ≡ true
      behind_offset_sealed x h = in_layer (seals_behind_offset before after l i within x h)

      pub data_sealed : (l.modex_type ≡ 0 → ⊥) → l.data_start ≤ i → sealed_in_payload type mask p i ≡ true
      data_sealed x h = in_layer (seals_data before after l i within x h)

    pub peeled_result : (j : ℕ) → sealed_in_payload type mask p (c.next_pos + j) ≡ sealed_in_result type (peeled type mask p) (j + 1)
    peeled_result j =
        let d : c.next_pos + j - c.next_pos + 1 ≡ j + 1 = omega arith in
        through (c.next_pos + j) ∙ simp (sealed_behind p 32 1 c (c.next_pos + j) (ends_wrapped type mask p c chain).1 (omega arith), le-leb c.next_pos (c.next_pos + j) (omega arith), d)

  -- AN UNPEELED ONE is its own result
  pub unpeeled_result : chain_of type mask p ≡ None → (i : ℕ) → sealed_in_payload type mask p i ≡ sealed_in_result type p i
  unfolding sealed_in_payload
  unpeeled_result chain i = received-media (sealed_in_result type) mask p type t i ∙ simp chain

-- IN TYPES 2 AND 3 nothing is sealed, layers included
pub script_open : (type mask : ℕ) (p : List ℕ) → 1 < type → type ≤ 3 → (i : ℕ) → (sealed_in_payload type mask p i ≡ false) × (sealed_in_result type p i ≡ false)
unfolding sealed_in_payload
script_open type mask p l m i = (received-script (sealed_in_result type) mask p type l m i, sealed_script type p l m i)

-- ABOVE TYPE 3 all is
pub all_sealed : (type mask : ℕ) (p : List ℕ) → 3 < type → (i : ℕ) → (sealed_in_payload type mask p i ≡ true) × (sealed_in_result type p i ≡ true)
unfolding sealed_in_result
all_sealed type mask p l i = (sealed_unknown type mask p i l, simp (lt-ltb 3 type l))
