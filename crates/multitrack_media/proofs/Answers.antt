-- Laws of the answers, by the container; and that a track request hands back the track's body.
use mathlib.Core.Path.{◌≡◌, refl, sym, ap, ◌∙◌, subst}
use mathlib.Core.Bool.{Bool, true, false, cond}
use mathlib.Core.Option.{Option, none, some}
use mathlib.Core.List.{List, [], ◌∷◌, map}
use Prim.Native.Nat.{ℕ, zero, suc, ◌+◌, ◌≤◌, ◌<◌}
use native.Mathlib.Decide.{dec_lt}
use native.Mathlib.Omega.{arith}
use lib.ListN.{length, get_or, length-map}
use borrow.Author.Tests.{le-ltb, le-leb, lt-leb, ne_eqb}
use Rattle.std.specs.Prelude.{Ok, Err}
use Rattle.wire.specs.Wire.{byte_at, part, low}
use Rattle.wire.proofs.Bools.{and_left, true_or_false}
use Rattle.types.specs.Types.{is_unknown_type}
use Rattle.types.specs.declared.ErrorCode.{ErrorCode}
use Rattle.types.specs.declared.ErrorCode.TheVariants as error
use Rattle.multitrack_media.specs.Tracks.{Track}
use Rattle.multitrack_media.specs.Container.{opens_container, form_in, legal_head, Encoding, Accepted, Container, contents, track_in, place_at, no_place, container_of}
use Rattle.multitrack_media.specs.Answer.{track_count, no_track, found_track, track_from, track_info, track_part, has_packet_type}
use Rattle.multitrack_media.specs.declared.AvMultitrackType.{AvMultitrackType}
use Rattle.multitrack_media.specs.declared.TrackPlace.{TrackPlace}
use Rattle.multitrack_media.specs.declared.TrackInfo.{TrackInfo}
use Rattle.multitrack_media.proofs.Heads.{header_facts_lem, place_found, Heads, end, track, heads_limit}
use Rattle.multitrack_media.proofs.Containers.{container_found, found_heads, accepted_read, accepted_tracks}

pub get_d_map : {A B : Type 0} (f : A → B) (l : List A) (n : ℕ) (d : A) (e : B) → n < length l → get_or (map f l) n e ≡ f (get_or l n d)
get_d_map f [] n d e h = absurd (omega arith)
get_d_map f (x ∷ l) zero d e h = refl
get_d_map f (x ∷ l) (suc n) d e h = get_d_map f l n d e (omega arith)

-- WHAT A CONTAINER SAYS of its payload
pub record ContainerFacts (type : ℕ) (p : List ℕ) (c : Container) : Type 0 where
  pub opens : opens_container type (byte_at p 0) ≡ true
  pub packet : c.packet_type ≡ low (byte_at p 1)
  pub least : 0 < length c.tracks
  pub limit : length c.tracks ≤ 4096
  pub inside : (n : ℕ) → n < length c.tracks → (get_or c.tracks n no_place).start + (get_or c.tracks n no_place).length ≤ length p

heads_inside : (form : AvMultitrackType) (p : List ℕ) {k i : ℕ} {heads : List ℕ} → Heads form p k i heads → (n : ℕ) → n < length heads
    → (get_or (map (place_at form p) heads) n no_place).start + (get_or (map (place_at form p) heads) n no_place).length ≤ length p
heads_inside form p (end e) n l = absurd (omega arith)
heads_inside form p {i = i} (track id start size h rest) zero l =
    subst (λ (t : TrackPlace). t.start + t.length ≤ length p) (place_found form p i id start size h) (header_facts_lem p form i id start size h).room
heads_inside form p (track id start size h rest) (suc n) l = heads_inside form p rest n (omega arith)

pub legal_opens : (type b0 b1 : ℕ) → legal_head type b0 b1 ≡ true → opens_container type b0 ≡ true
unfolding legal_head
legal_opens type b0 b1 e = and_left (opens_container type b0) _ e

pub container_facts_lem : (type : ℕ) (p : List ℕ) (c : Container) → container_of type p ≡ some c → ContainerFacts type p c
container_facts_lem type p c read =
    let f = container_found type p c read in
    let w = found_heads type p c f in
    let n = length-map f.heads (place_at (form_in p) p) in
    record {
      opens = legal_opens type _ _ f.legal;
      packet = f.packet;
      least = rw (f.placed, n) w.1;
      limit = rw (f.placed, n) (heads_limit _ p w.0);
      inside = rw (f.placed, n) (heads_inside _ p w.0);
    }

-- only audio and video have containers
pub opens_media : (type b : ℕ) → opens_container type b ≡ true → type ≤ 1
unfolding opens_container
opens_media zero b e = omega arith
opens_media (suc zero) b e = omega arith
opens_media (suc (suc n)) b e =
    let m : ℕ = suc (suc n) in
    true_or_false e (simp (ne_eqb m 0 (λ x. omega arith), ne_eqb m 1 (λ x. omega arith)))

pub container_known : (type : ℕ) (p : List ℕ) (c : Container) → container_of type p ≡ some c → is_unknown_type type ≡ false
container_known type p c q = le-ltb 3 type (let w = opens_media type _ (container_facts_lem type p c q).opens in omega arith)

-- what no byte 0 opens is no container
pub closed_container : (type : ℕ) (p : List ℕ) → opens_container type (byte_at p 0) ≡ false → container_of type p ≡ none
closed_container type p e = go (container_of type p) refl
  where
    go : (o : Option Container) → container_of type p ≡ o → container_of type p ≡ none
    go none q = q
    go (some c) q = true_or_false (container_facts_lem type p c q).opens e

-- THE COUNT AND THE TRACK REQUEST, one law for each answer
module _ (type : ℕ) (p : List ℕ) where
  module _ (u : is_unknown_type type ≡ true) where
    pub count_unknown : Err error.UnknownFrameType ≡ track_count type p
    unfolding track_count
    count_unknown = rw u

    pub info_unknown : (n : ℕ) → no_track error.UnknownFrameType 0 ≡ track_info type p n
    unfolding track_info
    info_unknown n = rw u

  module _ (u : is_unknown_type type ≡ false) where
    pub count_none : container_of type p ≡ none → Err error.NotAContainer ≡ track_count type p
    unfolding track_count
    count_none q = simp (u, q)

    pub info_none : (n : ℕ) → container_of type p ≡ none → no_track error.NotAContainer 0 ≡ track_info type p n
    unfolding track_info
    info_none n q = simp (u, q)

    module _ (c : Container) (q : container_of type p ≡ some c) where
      pub count_some : Ok (length c.tracks) ≡ track_count type p
      unfolding track_count
      count_some = simp (u, q)

      pub info_past : (n : ℕ) → length c.tracks ≤ n → no_track error.NoSuchTrack (length c.tracks) ≡ track_info type p n
      unfolding track_info
      info_past n l = simp (u, q, le-leb _ _ l)

      pub info_there : (n : ℕ) → n < length c.tracks → found_track type p c (get_or c.tracks n no_place) ≡ track_info type p n
      unfolding track_info
      info_there n l = simp (u, q, lt-leb _ _ l)

  -- the other way: a count is that of an accepted container, an error of a known type is that there is none
  pub count_found : (n : ℕ) → track_count type p ≡ Ok n → (c : Container) × (container_of type p ≡ some c) × (n ≡ length c.tracks)
  count_found n q = by_type_lem (is_unknown_type type) refl
    where
      by_container : is_unknown_type type ≡ false → (o : Option Container) → container_of type p ≡ o → (c : Container) × (container_of type p ≡ some c) × (n ≡ length c.tracks)
      by_container u none r =
          let w = count_none u r in
          let z : ◌≡◌ {A = ℕ} 0 1 = cc in
          absurd (omega arith)
      by_container u (some c) r = let w = count_some u c r in (c, r, cc)

      by_type_lem : (u : Bool) → is_unknown_type type ≡ u → (c : Container) × (container_of type p ≡ some c) × (n ≡ length c.tracks)
      by_type_lem true u =
          let w = count_unknown u in
          let z : ◌≡◌ {A = ℕ} 0 1 = cc in
          absurd (omega arith)
      by_type_lem false u = by_container u (container_of type p) refl

  pub count_refused : is_unknown_type type ≡ false → (e : ErrorCode) → track_count type p ≡ Err e → container_of type p ≡ none
  count_refused u e q = go (container_of type p) refl
    where
      go : (o : Option Container) → container_of type p ≡ o → container_of type p ≡ none
      go none r = r
      go (some c) r =
          let w = count_some u c r in
          let z : ◌≡◌ {A = ℕ} 0 1 = cc in
          absurd (omega arith)

  -- a request that is not refused found a track of an accepted container
  pub record Asked (n : ℕ) : Type 0 where
    pub container : Container
    pub read : container_of type p ≡ some container
    pub below : n < length container.tracks
    pub found : track_info type p n ≡ found_track type p container (get_or container.tracks n no_place)

  pub info_asked : (n : ℕ) → (track_info type p n).error ≡ error.Ok → Asked n
  info_asked n q = by_type_lem (is_unknown_type type) refl
    where
      refused : (e : ErrorCode) (m : ℕ) → no_track e m ≡ track_info type p n → e ≡ error.Ok
      refused e m w = ap (λ (r : TrackInfo). r.error) w ∙ q

      by_number : is_unknown_type type ≡ false → (c : Container) → container_of type p ≡ some c → Dec (n < length c.tracks) → Asked n
      by_number u c r (yes l) = record { container = c; read = r; below = l; found = sym (info_there u c r n l) }
      by_number u c r (no l) = let z = refused error.NoSuchTrack _ (info_past u c r n (omega arith)) in let y : ◌≡◌ {A = ℕ} 0 1 = cc in absurd (omega arith)

      by_container : is_unknown_type type ≡ false → (o : Option Container) → container_of type p ≡ o → Asked n
      by_container u none r = let z = refused error.NotAContainer _ (info_none u n r) in let y : ◌≡◌ {A = ℕ} 0 1 = cc in absurd (omega arith)
      by_container u (some c) r = by_number u c r (dec_lt n (length c.tracks))

      by_type_lem : (u : Bool) → is_unknown_type type ≡ u → Asked n
      by_type_lem true u = let z = refused error.UnknownFrameType _ (info_unknown u n) in let y : ◌≡◌ {A = ℕ} 0 1 = cc in absurd (omega arith)
      by_type_lem false u = by_container u (container_of type p) refl

  -- a track's place, or none, is inside the payload
  pub info_inside : (n : ℕ) → (track_info type p n).start + (track_info type p n).length ≤ length p
  info_inside n = by_type_lem (is_unknown_type type) refl
    where
      Inside : TrackInfo → Type 0
      Inside r = r.start + r.length ≤ length p

      by_number : is_unknown_type type ≡ false → (c : Container) → container_of type p ≡ some c → Dec (n < length c.tracks) → Inside (track_info type p n)
      by_number u c q (yes l) = subst Inside (info_there u c q n l) ((container_facts_lem type p c q).inside n l)
      by_number u c q (no l) = subst Inside (info_past u c q n (omega arith)) (omega arith)

      by_container : is_unknown_type type ≡ false → (o : Option Container) → container_of type p ≡ o → Inside (track_info type p n)
      by_container u none q = subst Inside (info_none u n q) (omega arith)
      by_container u (some c) q = by_number u c q (dec_lt n (length c.tracks))

      by_type_lem : (u : Bool) → is_unknown_type type ≡ u → Inside (track_info type p n)
      by_type_lem true u = subst Inside (info_unknown u n) (omega arith)
      by_type_lem false u = by_container u (container_of type p) refl

-- what no byte 0 opens has no packet type
pub packet_closed : (type : ℕ) (p : List ℕ) (k : ℕ) → opens_container type (byte_at p 0) ≡ false → has_packet_type type p k ≡ false
unfolding has_packet_type
packet_closed type p k e = rw (closed_container type p e)

-- A TRACK REQUEST HANDS BACK THE BODY of an accepted container's track
pub part_body : (type : ℕ) (p : List ℕ) (e : Encoding) → Accepted type p e → (n : ℕ) (d : Track) → n < length e.tracks → track_part type p n ≡ (get_or e.tracks n d).body
unfolding track_part
part_body type p e h n d l =
    let q = accepted_read type p e h in
    let back = accepted_tracks type p e h in
    let media = opens_media type _ (container_facts_lem type p (contents e) q).opens in
    let m : n < length (contents e).tracks = omega (arith, simp length-map at (ap length back)) in
    ap (λ (r : TrackInfo). part p r.start r.length) (sym (info_there type p (le-ltb 3 type (omega arith)) (contents e) q n m))
    ∙ ap (λ (t : Track). t.body) (sym (get_d_map (track_in p) (contents e).tracks n no_place d m) ∙ ap (λ (ts : List Track). get_or ts n d) back)

-- THE ANSWERS OF TWO PAYLOADS that are the same container, with the same byte 0
module _ (type : ℕ) (p q : List ℕ) (same : container_of type q ≡ container_of type p) where
  pub info_same : byte_at q 0 ≡ byte_at p 0 → (n : ℕ) → track_info type q n ≡ track_info type p n
  unfolding track_info
  info_same b n = rw same (ap (cond (is_unknown_type type) (no_track error.UnknownFrameType 0)) (go (container_of type p)))
    where
      go : (o : Option Container) → track_from type q n o ≡ track_from type p n o
      go none = refl
      go (some c) = rw b
