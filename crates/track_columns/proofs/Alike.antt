-- TWO RESULTS THAT DEMAND 3 TREATS ALIKE fill columns alike.
use mathlib.Core.Path.{◌≡◌, refl, sym, ap, ap₂, ◌∙◌}
use mathlib.Core.Bool.{false, cond, ◌||◌}
use mathlib.Core.Option.{Option, none, some}
use mathlib.Core.List.{List}
use Prim.Native.Nat.{ℕ, ◌<◌}
use native.Mathlib.Omega.{arith}
use lib.Dec.{ltb}
use lib.ListN.{length, get_or}
use lib.Seq.{ext_get_or}
use Rattle.types.specs.Types.{is_unknown_type}
use Rattle.types.specs.declared.ErrorCode.TheVariants as error
use Rattle.multitrack_media.specs.Container.{Container, container_of, no_place}
use Rattle.multitrack_media.specs.declared.TrackPlace.{TrackPlace}
use Rattle.multitrack_media.specs.declared.TrackInfo.{TrackInfo}
use Rattle.multitrack_media.proofs.Answers.{container_facts_lem, container_known, info_there}
use Rattle.init_cache.specs.Seen.{count_tracks}
use Rattle.frame.specs.Demand3.{SameResult}
use Rattle.writers.specs.Columns.{Columns}
use Rattle.track_columns.specs.Columns.{tracks_of, shortest, room_error, columns_error, columns_count, columns_result, columns_after}
use Rattle.track_columns.specs.Claims.{ColumnsAlike}

-- they have the same tracks
module _ (type flag : ℕ) (r s : List ℕ) (same : SameResult type flag r s) where
  module _ (k m : Container) (a : container_of type r ≡ some k) (b : container_of type s ≡ some m) where
    same_count : length k.tracks ≡ length m.tracks
    same_count = sym (ap count_tracks a) ∙ same.track_counts ∙ ap count_tracks b

    known : is_unknown_type type ≡ false
    known = container_known type r k a

    same_place : (n : ℕ) → n < length k.tracks → get_or k.tracks n no_place ≡ get_or m.tracks n no_place
    same_place n l =
        let e = info_there type r known k a n l ∙ same.tracks n ∙ sym (info_there type s known m b n (omega (arith, same_count))) in
        place (ap (λ (t : TrackInfo). t.track_id) e) (ap (λ (t : TrackInfo). t.fourcc) e) (ap (λ (t : TrackInfo). t.start) e) (ap (λ (t : TrackInfo). t.length) e)
      where
        place : {x y : TrackPlace} → x.id ≡ y.id → x.fourcc ≡ y.fourcc → x.start ≡ y.start → x.length ≡ y.length → x ≡ y
        place {x} {y} e f g h =
            ap₂ (λ (i : ℕ) (f : List ℕ). record { id = i; fourcc = f; start = x.start; length = x.length }) e f
            ∙ ap₂ (λ (i j : ℕ). record { id = y.id; fourcc = y.fourcc; start = i; length = j }) g h

    same_tracks : k.tracks ≡ m.tracks
    same_tracks = ext_get_or no_place k.tracks m.tracks same_count same_place

  abbrev Fills : Columns → Type 0
  Fills c = (columns_result type r (shortest c) ≡ columns_result type s (shortest c)) × (columns_after type r c ≡ columns_after type s c)

  fills : (c : Columns) (o o' : Option Container) → container_of type r ≡ o → container_of type s ≡ o' → room_error r (shortest c) o ≡ room_error s (shortest c) o' → tracks_of o ≡ tracks_of o' → count_tracks o ≡ count_tracks o'
      → Fills c
  unfolding columns_error columns_count columns_result columns_after
  fills c o o' a b e f g = rw (a, b, e, f, g) (refl, refl)

  pub fills_alike : (c : Columns) → Fills c
  fills_alike c = go (container_of type r) refl (container_of type s) refl
    where
      go : (o : Option Container) → container_of type r ≡ o → (o' : Option Container) → container_of type s ≡ o' → Fills c
      go none a none b = fills c none none a b refl refl refl
      go none a (some m) b = absurd (omega (arith, (container_facts_lem type s m b).least, sym (ap count_tracks a) ∙ same.track_counts ∙ ap count_tracks b))
      go (some k) a none b = absurd (omega (arith, (container_facts_lem type r k a).least, sym (ap count_tracks a) ∙ same.track_counts ∙ ap count_tracks b))
      go (some k) a (some m) b =
          fills c (some k) (some m) a b
          (ap₂ (λ (n l : ℕ). cond (ltb (shortest c) n || ltb 16777215 l) error.OutputTooShort error.Ok) (ap length (same_tracks k m a b)) same.lengths) (same_tracks k m a b) (same_count k m a b)

pub columns_alike_lem : ColumnsAlike
unfolding ColumnsAlike
columns_alike_lem type flag r s c same = fills_alike type flag r s same c
