-- Laws of a count with a middle track: the count past one track and at each end of the walk, and where the heads behind a head start.
use mathlib.Core.Path.{◌≡◌, refl, sym, ap, ◌∙◌}
use mathlib.Core.Bool.{Bool, true, false, cond}
use mathlib.Core.Option.{Option, none, some}
use mathlib.Core.List.{List, [], ◌∷◌}
use Prim.Native.Nat.{ℕ, zero, suc, ◌+◌, ◌-◌, ◌≤◌, ◌<◌}
use native.Mathlib.Omega.{arith}
use lib.Dec.{eqb}
use lib.ListN.{length, get_or, length-map}
use Rattle.std.specs.Prelude.{Result, Ok, Err, Some, None}
use Rattle.std.specs.Prelude as std
use Rattle.wire.specs.Wire.{byte_at}
use Rattle.wire.specs.Grammar.{require}
use Rattle.types.specs.Types.{frame_number}
use Rattle.types.specs.declared.ErrorCode.{ErrorCode}
use Rattle.types.specs.declared.ErrorCode.TheVariants as error
use Rattle.types.specs.declared.FrameType.{FrameType}
use Rattle.types.proofs.Laws.{is_known}
use Rattle.multitrack_media.specs.Container.{form_in, legal_head, tracks_start, header_at, place_at, no_place, prepend, end_or_more, heads_at, container_heads, with_heads, container_of}
use Rattle.multitrack_media.specs.Answer.{count_from, track_count}
use Rattle.multitrack_media.specs.Positions.{places_at, count_heads}
use Rattle.multitrack_media.specs.Halves.{head_behind, HalvesAt}
use Rattle.multitrack_media.specs.declared.AvMultitrackType.{AvMultitrackType}
use Rattle.multitrack_media.specs.declared.Halves.{Halves}
use Rattle.multitrack_media.specs.declared.TrackHeader.{TrackHeader}
use Rattle.multitrack_media.specs.declared.TrackPlace.{TrackPlace}
use Rattle.std.proofs.lemmas.Bool.Decides.{nat_tests}
use Rattle.multitrack_media.proofs.Heads.{end_inside, end_of, place_end, heads_step}

-- THE COUNT: c tracks are behind, of 4,096 at most, and the next head is at i
count_prepend : (c i : ℕ) (o : Option (List ℕ)) → count_heads c (prepend i o) ≡ count_heads (c + 1) o
unfolding count_heads
count_prepend c i none = refl
count_prepend c i (some heads) = let e : c + suc (length heads) ≡ c + 1 + length heads = omega arith in ap Ok e

module _ (form : AvMultitrackType) (p : List ℕ) (c i : ℕ) where
  pub count_over : 4096 ≤ c → count_heads c (heads_at (4096 - c) form p i) ≡ Err error.NotAContainer
  unfolding count_heads heads_at
  count_over h = let e : 4096 - c ≡ 0 = omega arith in rw e

  abbrev pub count_turned : std.Option TrackHeader → Result ℕ ErrorCode
  count_turned None = Err error.NotAContainer
  count_turned (Some t) = cond (eqb (t.start + t.length) (length p)) (Ok (c + 1)) (count_heads (c + 1) (heads_at (4096 - (c + 1)) form p (t.start + t.length)))

  pub count_turn : c < 4096 → count_heads c (heads_at (4096 - c) form p i) ≡ count_turned (header_at form p i)
  unfolding count_heads
  count_turn l = rw (heads_step form p c i l) (go (header_at form p i))
    where
      go : (h : std.Option TrackHeader) → count_heads c (end_or_more p i h (heads_at (4096 - (c + 1)) form p)) ≡ count_turned h
      go None = refl
      go (Some t) = by_end (eqb (t.start + t.length) (length p))
        where
          more : Option (List ℕ)
          more = heads_at (4096 - (c + 1)) form p (t.start + t.length)

          by_end : (b : Bool) → count_heads c (cond b (some (i ∷ [])) (prepend i more)) ≡ cond b (Ok (c + 1)) (count_heads (c + 1) more)
          by_end true = refl
          by_end false = count_prepend c i more

-- THE HEADS behind a head: the first, and the next
module _ (form : AvMultitrackType) (p : List ℕ) where
  pub behind_none : (i : ℕ) → i ≡ head_behind 0 form p i
  unfolding head_behind
  behind_none i = refl

  behind_step : (n i : ℕ) → head_behind (suc n) form p i ≡ (place_at form p (head_behind n form p i)).start + (place_at form p (head_behind n form p i)).length
  unfolding head_behind
  behind_step zero i = refl
  behind_step (suc n) i = behind_step n ((place_at form p i).start + (place_at form p i).length)

  pub behind_next : (n i at : ℕ) → at ≡ head_behind n form p i → (t : TrackPlace) → t ≡ place_at form p at → t.start + t.length ≡ head_behind (n + 1) form p i
  behind_next n i at e t q =
      let s : n + 1 ≡ suc n = omega arith in
      rw (s, q, e) (sym (behind_step n i))

  pub behind_head : (n i : ℕ) → head_behind (n + 1) form p i ≡ end_of (header_at form p (head_behind n form p i))
  behind_head n i =
      let s : n + 1 ≡ suc n = omega arith in
      rw s (behind_step n i ∙ place_end form p (head_behind n form p i))

  -- the place of each
  pub places_behind : (n i k : ℕ) → k < n → get_or (places_at n form p i) k no_place ≡ place_at form p (head_behind k form p i)
  unfolding places_at head_behind
  places_behind zero i k l = absurd (omega arith)
  places_behind (suc n) i zero l = refl
  places_behind (suc n) i (suc k) l = places_behind n ((place_at form p i).start + (place_at form p i).length) k (omega arith)

-- what `walk_halves` goes by
pub ruleset halves_laws = (count_over, count_turn, behind_none, behind_head, end_inside, nat_tests)

-- IN A CONTAINER, by its head
pub count_legal : (t : FrameType) (p : List ℕ) → track_count (frame_number t) p
    ≡ cond (legal_head (frame_number t) (byte_at p 0) (byte_at p 1)) (count_heads 0 (heads_at 4096 (form_in p) p (tracks_start (form_in p)))) (Err error.NotAContainer)
unfolding track_count container_of container_heads count_heads
count_legal t p = rw (is_known t) (by_head (legal_head (frame_number t) (byte_at p 0) (byte_at p 1)))
  where
    from_heads : (o : Option (List ℕ)) → count_from (with_heads p o) ≡ count_heads 0 o
    from_heads none = refl
    from_heads (some heads) = let e : length heads ≡ 0 + length heads = omega arith in ap Ok (length-map heads (place_at (form_in p) p) ∙ e)

    by_head : (b : Bool) → count_from (with_heads p (require b (heads_at 4096 (form_in p) p (tracks_start (form_in p)))))
        ≡ cond b (count_heads 0 (heads_at 4096 (form_in p) p (tracks_start (form_in p)))) (Err error.NotAContainer)
    by_head true = from_heads (heads_at 4096 (form_in p) p (tracks_start (form_in p)))
    by_head false = refl

-- what the fill is given
pub halves_found : (form : AvMultitrackType) (p : List ℕ) (i : ℕ) → form ≡ form_in p → i ≡ tracks_start form → (r : Result Halves ErrorCode) (h : Halves) → r ≡ Ok h
    → HalvesAt (form_in p) p (tracks_start (form_in p)) r → HalvesAt form p i (Ok h)
halves_found form p i f j r h e a = rw (j, f) (rw e at a)
