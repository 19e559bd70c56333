-- THE WALK INTO COLUMNS: one law for each answer, what is kept, and what the entries are.
use mathlib.Core.Path.{◌≡◌, refl, sym, ap, ◌∙◌}
use mathlib.Core.Bool.{Bool, true, false, cond, ◌||◌}
use mathlib.Core.Option.{Option, none, some}
use mathlib.Core.List.{List, map}
use Prim.Native.Nat.{ℕ, ◌+◌, ◌-◌, ◌≤◌, ◌<◌}
use native.Mathlib.Omega.{arith}
use lib.Dec.{ltb}
use lib.ListN.{length, get_or, drop, length-map, length-append, length-drop, get_or-append}
use lib.Seq.{get_or-append-add, get_or-drop}
use borrow.Author.Tests.{ltb-false, lt-ltb, le-ltb}
use Rattle.wire.proofs.Bools.{or_no_left, or_no_right, or_yes_right, true_or_false}
use Rattle.wire.specs.Wire.{be32_at}
use Rattle.types.specs.Types.{is_ok, is_unknown_type}
use Rattle.types.specs.declared.ErrorCode.{ErrorCode}
use Rattle.types.specs.declared.ErrorCode.TheVariants as error
use Rattle.types.proofs.Laws.{only_ok}
use Rattle.multitrack_media.specs.Container.{Container, container_of, no_place}
use Rattle.multitrack_media.specs.declared.TrackPlace.{TrackPlace}
use Rattle.multitrack_media.specs.declared.TrackInfo.{TrackInfo}
use Rattle.multitrack_media.proofs.Answers.{get_d_map, container_known, info_there}
use Rattle.outputs.specs.Outputs.{in_front}
use Rattle.writers.specs.Columns.{Columns, entry}
use Rattle.track_columns.specs.Columns.{shortest, columns_error, columns_count, filled, columns_after}
use Rattle.track_columns.specs.Claims.{ColumnKept, AllKept, ColumnsTaken, ColumnsKept, ColumnsEntries}

-- ONE COLUMN with its front filled
module _ (f : TrackPlace → ℕ) (ts : List TrackPlace) (column : List ℕ) where
  pub front_entry : (n : ℕ) → n < length ts → entry (in_front (map f ts) column) n ≡ f (get_or ts n no_place)
  front_entry n l = get_or-append (map f ts) (drop (length (map f ts)) column) 0 n (rw (length-map ts f) l) ∙ get_d_map f ts n no_place 0 l

  pub front_kept : length ts ≤ length column → ColumnKept (length ts) column (in_front (map f ts) column)
  front_kept l =
      record {
        long = length-append (map f ts) (drop (length (map f ts)) column) ∙ omega (arith, length-map ts f, length-drop (length (map f ts)) column);
        behind = λ n m.
            let e : n ≡ length (map f ts) + (n - length (map f ts)) = omega (arith, length-map ts f) in
            ap (entry (in_front (map f ts) column)) e ∙ get_or-append-add (map f ts) (drop (length (map f ts)) column) (n - length (map f ts)) 0
            ∙ get_or-drop (length (map f ts)) column (n - length (map f ts)) 0 ∙ ap (entry column) (sym e);
      }

-- ONE LAW FOR EACH ANSWER
module _ (type : ℕ) (p : List ℕ) (room : ℕ) where
  pub walk_unknown : is_unknown_type type ≡ true → error.UnknownFrameType ≡ columns_error type p room
  unfolding columns_error
  walk_unknown u = simp u

  module _ (u : is_unknown_type type ≡ false) where
    pub walk_none : container_of type p ≡ none → error.NotAContainer ≡ columns_error type p room
    unfolding columns_error
    walk_none a = simp (u, a)

    module _ (k : Container) (a : container_of type p ≡ some k) where
      pub walk_short : room < length k.tracks → error.OutputTooShort ≡ columns_error type p room
      unfolding columns_error
      walk_short l = simp (u, a, lt-ltb _ _ l)

      pub walk_long : 16777215 < length p → error.OutputTooShort ≡ columns_error type p room
      unfolding columns_error
      walk_long l = simp (u, a, or_yes_right (ltb room (length k.tracks)) (ltb 16777215 (length p)) (lt-ltb _ _ l))

      pub walk_fine : length k.tracks ≤ room → length p ≤ 16777215 → error.Ok ≡ columns_error type p room
      unfolding columns_error
      walk_fine l m = simp (u, a, le-ltb _ _ l, le-ltb _ _ m)

  -- not refused
  pub record Walked : Type 0 where
    pub known : is_unknown_type type ≡ false
    pub container : Container
    pub read : container_of type p ≡ some container
    pub enough : length container.tracks ≤ room
    pub short : length p ≤ 16777215
    pub count : columns_count type p room ≡ length container.tracks

  refused : {A : Type 0} (e : ErrorCode) → is_ok e ≡ false → e ≡ columns_error type p room → columns_error type p room ≡ error.Ok → A
  refused e f q ok = true_or_false (ap is_ok (q ∙ ok)) f

  passed : (b : Bool) (x : ErrorCode) → cond b error.OutputTooShort x ≡ error.Ok → b ≡ false
  passed true x q = true_or_false (ap is_ok q) refl
  passed false x q = refl

  room_passed : (k : Container) → is_unknown_type type ≡ false → container_of type p ≡ some k → columns_error type p room ≡ error.Ok → (ltb room (length k.tracks) || ltb 16777215 (length p)) ≡ false
  unfolding columns_error
  room_passed k u a ok = passed _ error.Ok (simp (u, a) at ok)

  count_ok : (k : Container) → container_of type p ≡ some k → columns_error type p room ≡ error.Ok → columns_count type p room ≡ length k.tracks
  unfolding columns_count
  count_ok k a ok = rw (ok, a)

  pub walked : columns_error type p room ≡ error.Ok → Walked
  walked ok = by_type_lem (is_unknown_type type) refl
    where
      by_container : is_unknown_type type ≡ false → (o : Option Container) → container_of type p ≡ o → Walked
      by_container u none a = refused error.NotAContainer refl (walk_none u a) ok
      by_container u (some k) a =
          let w = room_passed k u a ok in
          record {
            known = u;
            container = k;
            read = a;
            enough = ltb-false room (length k.tracks) (or_no_left (ltb room (length k.tracks)) _ w);
            short = ltb-false 16777215 (length p) (or_no_right (ltb room (length k.tracks)) _ w);
            count = count_ok k a ok;
          }

      by_type_lem : (u : Bool) → is_unknown_type type ≡ u → Walked
      by_type_lem true u = refused error.UnknownFrameType refl (walk_unknown u) ok
      by_type_lem false u = by_container u (container_of type p) refl

pub after_fine : (type : ℕ) (p : List ℕ) (c : Columns) (k : Container) → columns_error type p (shortest c) ≡ error.Ok → container_of type p ≡ some k → columns_after type p c ≡ filled k.tracks c
unfolding columns_after
after_fine type p c k ok a = rw (ok, a)

-- the columns are as long as before
pub filled_kept : (ts : List TrackPlace) (c : Columns) → length ts ≤ shortest c → AllKept (length ts) c (filled ts c)
filled_kept ts c l =
    record {
      ids = front_kept (λ (t : TrackPlace). t.id) ts c.ids (omega arith);
      fourccs = front_kept (λ (t : TrackPlace). be32_at t.fourcc 0) ts c.fourccs (omega arith);
      starts = front_kept (λ (t : TrackPlace). t.start) ts c.starts (omega arith);
      lengths = front_kept (λ (t : TrackPlace). t.length) ts c.lengths (omega arith);
    }

-- THE CLAIMS
pub columns_taken_lem : ColumnsTaken
unfolding ColumnsTaken
columns_taken_lem type p c k a l m =
    let ok = sym (walk_fine type p (shortest c) (container_known type p k a) k a l m) in
    (ok, count_ok type p (shortest c) k a ok)

same_kept : (c : Columns) (count : ℕ) → AllKept count c c
same_kept c count = record { ids = same; fourccs = same; starts = same; lengths = same }
  where
    same : {column : List ℕ} → ColumnKept count column column
    same = record { long = refl; behind = λ n l. refl }

module _ (type : ℕ) (p : List ℕ) (c : Columns) where
  not_ok : is_ok (columns_error type p (shortest c)) ≡ false → (columns_after type p c ≡ c) × (columns_count type p (shortest c) ≡ 0)
  unfolding columns_after columns_count
  not_ok f = rw f (refl, refl)

pub columns_kept_lem : ColumnsKept
unfolding ColumnsKept
columns_kept_lem type p c = (refusal, go (is_ok (columns_error type p (shortest c))) refl)
  where
    refusal : (columns_error type p (shortest c) ≡ error.Ok → ⊥) → (columns_after type p c ≡ c) × (columns_count type p (shortest c) ≡ 0)
    refusal n = go (is_ok (columns_error type p (shortest c))) refl
      where
        go : (b : Bool) → is_ok (columns_error type p (shortest c)) ≡ b → (columns_after type p c ≡ c) × (columns_count type p (shortest c) ≡ 0)
        go true e = absurd (n (only_ok _ e))
        go false e = not_ok type p c e

    go : (b : Bool) → is_ok (columns_error type p (shortest c)) ≡ b → AllKept (columns_count type p (shortest c)) c (columns_after type p c)
    go true e =
        let ok = only_ok _ e in
        let w = walked type p (shortest c) ok in
        rw (w.count, after_fine type p c w.container ok w.read) (filled_kept w.container.tracks c w.enough)
    go false e = rw (not_ok type p c e).0 (same_kept c (columns_count type p (shortest c)))

pub columns_entries_lem : ColumnsEntries
unfolding ColumnsEntries
columns_entries_lem type p c ok n l =
    let w = walked type p (shortest c) ok in
    let ts : List TrackPlace = w.container.tracks in
    let m : n < length w.container.tracks = omega (arith, w.count) in
    let i = sym (info_there type p w.known w.container w.read n m) in
    rw (after_fine type p c w.container ok w.read) (record {
      ids = front_entry (λ (t : TrackPlace). t.id) ts c.ids n m ∙ sym (ap (λ (r : TrackInfo). r.track_id) i);
      fourccs = front_entry (λ (t : TrackPlace). be32_at t.fourcc 0) ts c.fourccs n m ∙ sym (ap (λ (r : TrackInfo). be32_at r.fourcc 0) i);
      starts = front_entry (λ (t : TrackPlace). t.start) ts c.starts n m ∙ sym (ap (λ (r : TrackInfo). r.start) i);
      lengths = front_entry (λ (t : TrackPlace). t.length) ts c.lengths n m ∙ sym (ap (λ (r : TrackInfo). r.length) i);
    })
