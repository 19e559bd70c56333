-- What is seen by the number of tracks, one law for each answer; and valid records, counted track by track.
use mathlib.Core.Path.{◌≡◌, refl, sym, ap, ◌∙◌}
use mathlib.Core.Bool.{Bool, true, false, cond}
use mathlib.Core.Option.{Option, none, some}
use mathlib.Core.List.{List}
use Rattle.std.specs.Prelude.{Ok, Err}
use Rattle.std.specs.Prelude as std
use Rattle.std.specs.Result.{result_unwrap_or}
use Prim.Native.Nat.{ℕ, ◌+◌, ◌-◌, ◌≤◌, ◌<◌}
use native.Mathlib.Omega.{arith}
use lib.Dec.{eqb}
use lib.ListN.{length, take, drop, length-map}
use mir.Val.{bool_byte}
use Rattle.wire.specs.Wire.{byte_at, low}
use Rattle.types.specs.Types.{is_script_or_metadata, is_unknown_type}
use Rattle.types.specs.declared.ErrorCode.{ErrorCode}
use Rattle.types.proofs.Laws.{script_only}
use Rattle.codec_config.specs.Records.{record_valid, start_codec}
use Rattle.multitrack_media.specs.Container.{Container, container_of, opens_container, form_in, tracks_start, place_at, body_in}
use Rattle.multitrack_media.specs.Answer.{track_count}
use Rattle.multitrack_media.specs.Sealed.{per_track}
use Rattle.multitrack_media.specs.Positions.{places_at}
use Rattle.multitrack_media.specs.declared.AvMultitrackType.{AvMultitrackType}
use Rattle.multitrack_media.specs.declared.TrackPlace.{TrackPlace}
use Rattle.multitrack_media.proofs.Walks.{places_none, places_step, places_container}
use Rattle.multitrack_media.proofs.Answers.{container_facts_lem, closed_container, count_found, count_refused}
use Rattle.init_cache.specs.Head.{no_header, tag_header, frame_head, is_enhanced_of, is_video_of, is_avc_of, is_aac_of}
use Rattle.init_cache.specs.Verdicts.{sequence_start, track_verdict, verdicts, count_valid}
use Rattle.init_cache.specs.Seen.{count_tracks, seen}
use Rattle.init_cache.specs.Single.{seen_single}
use Rattle.init_cache.specs.declared.head.TagHeader.{TagHeader}
use Rattle.init_cache.specs.declared.head.FrameHead.{FrameHead}
use Rattle.init_cache.specs.declared.verdicts.SequenceStart.{SequenceStart}

-- VALID RECORDS, counted track by track: the loop's end, and a turn over what the calls gave
module _ (type : ℕ) (form : AvMultitrackType) (p : List ℕ) (w all n i : ℕ) (inv : w + count_valid (per_track (track_verdict type) p (places_at n form p i)) ≡ all) where
  pub valid_done : n ≡ 0 → w ≡ all
  valid_done e = let d = rw (places_none form p n i e) at inv in omega (arith, d)

  pub valid_turn : (m : ℕ) → n ≡ m + 1 → (t : TrackPlace) → t ≡ place_at form p i
      → (v : Bool) → v ≡ record_valid (start_codec type t.fourcc) (take (t.start + t.length - t.start) (drop t.start p)) → (r : ℕ) → r ≡ cond v 1 0
      → w + r + count_valid (per_track (track_verdict type) p (places_at m form p (t.start + t.length))) ≡ all
  valid_turn m l t e v x r y =
      let d : t.start + t.length - t.start ≡ t.length = omega arith in
      let k : n - 1 ≡ m = omega arith in
      let step = rw (places_step form p n i (omega arith), ← e, k) at inv in
      let verdict = rw d at x in
      omega (arith, step, rw verdict at y)

-- a truth as a count
pub counted : (b : Bool) (r : ℕ) → r ≡ bool_byte b → (r ≡ cond b 1 0) × (r ≤ 1)
counted true r e = (e, omega (arith, e))
counted false r e = (e, omega (arith, e))

-- in a container, all of its tracks
places_found : (type : ℕ) (p : List ℕ) (c : Container) → container_of type p ≡ some c → (n : ℕ) → n ≡ length c.tracks
    → (form : AvMultitrackType) → form ≡ form_in p → (from : ℕ) → from ≡ tracks_start form → places_at n form p from ≡ c.tracks
places_found type p c q n e form f from g = rw (g, f, e) (places_container type p c q)

length_verdicts : (type : ℕ) (p : List ℕ) (ts : List TrackPlace) → length (per_track (track_verdict type) p ts) ≡ length ts
length_verdicts type p ts = length-map ts (λ (t : TrackPlace). track_verdict type t.fourcc (body_in p t))

-- THE NUMBER OF TRACKS, by the tests that the code makes
module _ (type : ℕ) (p : List ℕ) where
  pub tracks_closed : (b : ℕ) → b ≡ byte_at p 0 → opens_container type b ≡ false → 0 ≡ count_tracks (container_of type p)
  tracks_closed b e q = simp (closed_container type p (sym (ap (opens_container type) e) ∙ q))

  pub tracks_counted : (n : ℕ) → track_count type p ≡ Ok n → n ≡ count_tracks (container_of type p)
  tracks_counted n q = let w = count_found type p n q in w.2 ∙ sym (ap count_tracks w.1)

  pub tracks_refused : is_unknown_type type ≡ false → (e : ErrorCode) → track_count type p ≡ Err e → 0 ≡ count_tracks (container_of type p)
  tracks_refused known e q = simp (count_refused type p known e q)

  pub tracks_opened : is_unknown_type type ≡ false → (r : std.Result ℕ ErrorCode) → r ≡ track_count type p → result_unwrap_or r 0 ≡ count_tracks (container_of type p)
  tracks_opened known (Ok n) q = tracks_counted n (sym q)
  tracks_opened known (Err e) q = tracks_refused known e (sym q)

  -- the other way: 0 is that there is no container, another number is the length of its tracks
  tracks_none : 0 ≡ count_tracks (container_of type p) → container_of type p ≡ none
  tracks_none e = go (container_of type p) refl
    where
      go : (o : Option Container) → container_of type p ≡ o → container_of type p ≡ none
      go none q = q
      go (some c) q = absurd (omega (arith, (container_facts_lem type p c q).least, e ∙ ap count_tracks q))

  tracks_some : (n : ℕ) → n ≡ count_tracks (container_of type p) → 0 < n → (c : Container) × (container_of type p ≡ some c) × (n ≡ length c.tracks)
  tracks_some n e l = go (container_of type p) refl
    where
      go : (o : Option Container) → container_of type p ≡ o → (c : Container) × (container_of type p ≡ some c) × (n ≡ length c.tracks)
      go none q = absurd (omega (arith, l, e ∙ ap count_tracks q))
      go (some c) q = (c, q, e ∙ ap count_tracks q)

-- WHAT IS SEEN, of a container and of a single frame
module _ (type : ℕ) (p : List ℕ) (h : FrameHead) (e : h ≡ frame_head type p) where
  module _ (n : ℕ) (q : n ≡ count_tracks (container_of type p)) (l : 0 < n) (k : ℕ) (packet : k ≡ low (byte_at p 1)) where
    pub seen_container : eqb k 0 ≡ false → record { head = h; tracks = n; packet_type = k; records = 0; valid_records = 0 } ≡ seen type p
    unfolding seen verdicts
    seen_container m =
        let w = tracks_some type p n q l in
        let c = w.0 in
        let x : c.packet_type ≡ k = (container_facts_lem type p c w.1).packet ∙ sym packet in
        simp (w.1, x, m, w.2, e)

    pub seen_starts : eqb k 0 ≡ true → (form : AvMultitrackType) → form ≡ form_in p → (from : ℕ) → from ≡ tracks_start form
        → (v : ℕ) → v ≡ count_valid (per_track (track_verdict type) p (places_at n form p from))
        → record { head = h; tracks = n; packet_type = k; records = n; valid_records = v } ≡ seen type p
    unfolding seen verdicts
    seen_starts m form f from g v x =
        let w = tracks_some type p n q l in
        let c = w.0 in
        let y : c.packet_type ≡ k = (container_facts_lem type p c w.1).packet ∙ sym packet in
        let z = rw (places_found type p c w.1 n w.2 form f from g) at x in
        simp (w.1, y, m, w.2, e, z, length_verdicts type p c.tracks)

  pub seen_single_lem : 0 ≡ count_tracks (container_of type p) → (s : std.Option SequenceStart) → s ≡ sequence_start type h → seen_single h s p ≡ seen type p
  unfolding seen verdicts
  seen_single_lem q s x = simp (tracks_none type p q, x, e)

-- of types 2 and 3
pub seen_script : (type : ℕ) → is_script_or_metadata type ≡ true → (p : List ℕ) (b : ℕ) → b ≡ byte_at p 0 → (h : TagHeader) → h ≡ no_header
    → record { head = record { size = length p; tag = b; avc_packet_type = 0; header = h }; tracks = 0; packet_type = 0; records = 0; valid_records = 0 } ≡ seen type p
unfolding seen verdicts sequence_start frame_head tag_header is_video_of is_enhanced_of is_avc_of is_aac_of opens_container
seen_script type script p b e h q =
    let m = script_only type script in
    let c : container_of type p ≡ none = closed_container type p (simp (m.0, m.1)) in
    simp (q, e, m.0, m.1, c)
