-- A TRACK READ FROM COLUMNS: one law for each answer, and that it equals the one found by walking.
use mathlib.Core.Path.{◌≡◌, refl, sym, ap, ap₂, ◌∙◌}
use mathlib.Core.Bool.{Bool, true, false}
use mathlib.Core.Option.{some}
use mathlib.Core.List.{List}
use Prim.Native.Nat.{ℕ, ◌+◌, ◌≤◌, ◌<◌}
use native.Mathlib.Decide.{dec_lt}
use native.Mathlib.Omega.{arith}
use lib.Dec.{ltb, leb}
use lib.ListN.{length, get_or}
use borrow.Author.Tests.{ltb-false, leb-false, lt-ltb, le-ltb, le-leb, lt-leb}
use Rattle.wire.specs.Wire.{Bytes, part, be32_at, bytes32}
use Rattle.wire.proofs.Bools.{or_no_left, or_no_right}
use Rattle.types.specs.Types.{is_ok, is_unknown_type}
use Rattle.types.specs.declared.ErrorCode.TheVariants as error
use Rattle.multitrack_media.specs.Container.{form_in, Container, container_of, no_place}
use Rattle.multitrack_media.specs.Answer.{no_track, found_track, track_info, track_part}
use Rattle.multitrack_media.specs.declared.TrackPlace.{TrackPlace}
use Rattle.multitrack_media.specs.declared.TrackInfo.{TrackInfo}
use Rattle.multitrack_media.proofs.Heads.{heads_room}
use Rattle.multitrack_media.proofs.Containers.{container_found, found_heads}
use Rattle.multitrack_media.proofs.Answers.{container_facts_lem, container_known, info_past, info_there}
use Rattle.multitrack_media.proofs.Fourccs.{track_numbered}
use Rattle.frame.specs.Pass.{request_verdict, track_answer}
use Rattle.frame.specs.declared.Verdict.{Verdict}
use Rattle.frame.proofs.Passes.{verdict_refused, verdict_found}
use Rattle.writers.specs.Columns.{Columns, entry}
use Rattle.track_columns.specs.Columns.{shortest, filled, is_outside, column_found, column_track, column_part, found_verdict, column_answer}
use Rattle.track_columns.specs.Claims.{ColumnsEqual, ColumnsParts, ColumnInside}
use Rattle.track_columns.proofs.Walking.{front_entry, walked, after_fine, filled_kept}

-- ONE LAW FOR EACH ANSWER
module _ (type : ℕ) (c : Columns) (count : ℕ) (p : List ℕ) (n : ℕ) where
  pub column_unknown : is_unknown_type type ≡ true → no_track error.UnknownFrameType 0 ≡ column_track type c count p n
  unfolding column_track
  column_unknown u = simp u

  module _ (u : is_unknown_type type ≡ false) where
    pub column_outside : is_outside c count p n ≡ true → no_track error.NoSuchTrack count ≡ column_track type c count p n
    unfolding column_track
    column_outside o = simp (u, o)

    pub column_there : is_outside c count p n ≡ false → column_found type c count p n ≡ column_track type c count p n
    unfolding column_track
    column_there o = simp (u, o)

-- WHAT IS OUTSIDE, by the tests in their order
module _ (c : Columns) (count : ℕ) (p : List ℕ) (n : ℕ) where
  pub outside_count : count ≤ n → true ≡ is_outside c count p n
  unfolding is_outside
  outside_count l = simp (le-leb _ _ l)

  module _ (below : n < count) where
    pub outside_columns : shortest c ≤ n → true ≡ is_outside c count p n
    unfolding is_outside
    outside_columns l = simp (lt-leb _ _ below, le-leb _ _ l)

    module _ (there : n < shortest c) where
      pub outside_payload : length p < 2 → true ≡ is_outside c count p n
      unfolding is_outside
      outside_payload l = simp (lt-leb _ _ below, lt-leb _ _ there, lt-ltb _ _ l)

      pub outside_part : 2 ≤ length p → ltb (length p) (entry c.starts n + entry c.lengths n) ≡ is_outside c count p n
      unfolding is_outside
      outside_part l = simp (lt-leb _ _ below, lt-leb _ _ there, le-ltb _ _ l)

  -- and what is not
  pub not_outside : n < count → n < shortest c → 2 ≤ length p → entry c.starts n + entry c.lengths n ≤ length p → is_outside c count p n ≡ false
  not_outside a b d e = sym (outside_part a b d) ∙ le-ltb _ _ e

  module _ (o : is_outside c count p n ≡ false) where
    pub inside_columns : n < shortest c
    unfolding is_outside
    inside_columns = leb-false (shortest c) n (or_no_left (leb (shortest c) n) _ (or_no_right (leb count n) _ o))

    pub inside_payload : entry c.starts n + entry c.lengths n ≤ length p
    unfolding is_outside
    inside_payload = ltb-false (length p) _ (or_no_right (ltb (length p) 2) _ (or_no_right (leb (shortest c) n) _ (or_no_right (leb count n) _ o)))

-- what the tests go by, and the reading
pub ruleset outside_laws = (outside_count, outside_columns, outside_payload, outside_part)

pub ruleset known_laws = (column_outside, column_there, inside_columns)

-- INSIDE
pub column_inside_lem : ColumnInside
unfolding ColumnInside
column_inside_lem type c count p n = by_type_lem (is_unknown_type type) refl
  where
    by_place : is_unknown_type type ≡ false → (b : Bool) → is_outside c count p n ≡ b → (column_track type c count p n).start + (column_track type c count p n).length ≤ length p
    by_place u true o = rw (← column_outside type c count p n u o) (omega arith)
    by_place u false o = rw (← column_there type c count p n u o) (inside_payload c count p n o)

    by_type_lem : (b : Bool) → is_unknown_type type ≡ b → (column_track type c count p n).start + (column_track type c count p n).length ≤ length p
    by_type_lem true u = rw (← column_unknown type c count p n u) (omega arith)
    by_type_lem false u = by_place u (is_outside c count p n) refl

-- an accepted container has two bytes
two_bytes : (type : ℕ) (p : List ℕ) (k : Container) → container_of type p ≡ some k → 2 ≤ length p
two_bytes type p k a =
    let f = container_found type p k a in
    let w = found_heads type p k f in
    let l = heads_room (form_in p) p w.0 w.1 in
    omega (arith, l)

-- AFTER A WALK
module _ (type : ℕ) (p : List ℕ) (bytes : Bytes p) (k : Container) (a : container_of type p ≡ some k) (c : Columns) (enough : length k.tracks ≤ shortest c) where
  abbrev ts : List TrackPlace
  ts = k.tracks

  known : is_unknown_type type ≡ false
  known = container_known type p k a

  shortest_after : shortest (filled ts c) ≡ shortest c
  shortest_after =
      let f = filled_kept ts c enough in
      rw (f.ids.long, f.fourccs.long, f.starts.long, f.lengths.long)

  module _ (n : ℕ) (l : n < length ts) where
    id_at : entry (filled ts c).ids n ≡ (get_or ts n no_place).id
    id_at = front_entry (λ (t : TrackPlace). t.id) ts c.ids n l

    fourcc_at_lem : bytes32 (entry (filled ts c).fourccs n) ≡ (get_or ts n no_place).fourcc
    fourcc_at_lem = ap bytes32 (front_entry (λ (t : TrackPlace). be32_at t.fourcc 0) ts c.fourccs n l) ∙ track_numbered p bytes type k a n l

    start_at : entry (filled ts c).starts n ≡ (get_or ts n no_place).start
    start_at = front_entry (λ (t : TrackPlace). t.start) ts c.starts n l

    length_at : entry (filled ts c).lengths n ≡ (get_or ts n no_place).length
    length_at = front_entry (λ (t : TrackPlace). t.length) ts c.lengths n l

    found_same : column_found type (filled ts c) (length ts) p n ≡ found_track type p k (get_or ts n no_place)
    found_same = rw (id_at, fourcc_at_lem, start_at, length_at, (container_facts_lem type p k a).packet) refl

    inside_here : is_outside (filled ts c) (length ts) p n ≡ false
    inside_here =
        not_outside (filled ts c) (length ts) p n l (omega (arith, shortest_after)) (two_bytes type p k a) (rw (start_at, length_at) ((container_facts_lem type p k a).inside n l))

  pub info_equal : (n : ℕ) → column_track type (filled ts c) (length ts) p n ≡ track_info type p n
  info_equal n = go (dec_lt n (length ts))
    where
      go : Dec (n < length ts) → column_track type (filled ts c) (length ts) p n ≡ track_info type p n
      go (yes l) = sym (column_there type (filled ts c) (length ts) p n known (inside_here n l)) ∙ found_same n l ∙ info_there type p known k a n l
      go (no l) =
          sym (column_outside type (filled ts c) (length ts) p n known (sym (outside_count (filled ts c) (length ts) p n (omega arith)))) ∙ info_past type p known k a n (omega arith)

  pub part_equal : (n : ℕ) → column_part type (filled ts c) (length ts) p n ≡ track_part type p n
  unfolding column_part track_part
  part_equal n = ap (λ (r : TrackInfo). part p r.start r.length) (info_equal n)

  -- the verdict
  verdict_equal : (n : ℕ) → found_verdict type (track_info type p n) (track_part type p n) ≡ request_verdict type p n
  unfolding track_part found_verdict
  verdict_equal n = go (is_ok (track_info type p n).error) refl
    where
      go : (b : Bool) → is_ok (track_info type p n).error ≡ b → found_verdict type (track_info type p n) (track_part type p n) ≡ request_verdict type p n
      go false e = rw e (verdict_refused type p n (track_info type p n) refl e)
      go true e = rw e (verdict_found type p n (track_info type p n) refl e)

  pub answer_equal : (n : ℕ) → column_answer type (filled ts c) (length ts) p n ≡ track_answer type p n
  unfolding column_answer track_answer
  answer_equal n =
      ap₂ (λ (t : TrackInfo) (b : List ℕ). record { track = t; verdict = found_verdict type t b }) (info_equal n) (part_equal n)
      ∙ ap (λ (v : Verdict). record { track = track_info type p n; verdict = v }) (verdict_equal n)

-- THE CLAIMS
pub columns_equal_lem : ColumnsEqual
unfolding ColumnsEqual
columns_equal_lem type p c bytes ok n =
    let w = walked type p (shortest c) ok in
    rw (after_fine type p c w.container ok w.read, w.count) (answer_equal type p bytes w.container w.read c w.enough n)

pub columns_parts_lem : ColumnsParts
unfolding ColumnsParts
columns_parts_lem type p c bytes ok n =
    let w = walked type p (shortest c) ok in
    rw (after_fine type p c w.container ok w.read, w.count) (part_equal type p bytes w.container w.read c w.enough n)
