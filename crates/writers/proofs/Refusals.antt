-- A call that is not refused has passed every test, in their order; and one that passes them is not refused.
use mathlib.Core.Path.{◌≡◌, refl, ap}
use mathlib.Core.Bool.{Bool, true, false, cond, not, ◌&&◌}
use mathlib.Core.List.{List, [], ◌∷◌}
use Prim.Native.Nat.{ℕ, zero, suc, ◌+◌, ◌≤◌, ◌<◌}
use native.Mathlib.Omega.{arith}
use lib.Dec.{eqb, ltb}
use lib.ListN.{length}
use borrow.Author.Tests.{ltb-false, eqb-false, eqb-true, not-true, not-false, le-ltb, eq-eqb, ne_eqb}
use Rattle.wire.proofs.Bools.{or_no_left, or_no_right, true_or_false}
use Rattle.types.specs.Types.{is_ok, is_video, is_script_or_metadata, is_unknown_type}
use Rattle.types.proofs.Laws.{only_ok, media_only}
use Rattle.writers.specs.Columns.{entry, leaves, is_outside, is_other}
use Rattle.writers.specs.Writing.{any_of, or_short}
use Rattle.writers.specs.ContainerWriter.{ContainerCall, tracks_out, bodies_long, head_bad, most_tracks, container_written, container_fault, container_error}
use Rattle.writers.specs.Claims.{WritableContainer}
use Rattle.types.specs.declared.ErrorCode.{ErrorCode}
use Rattle.types.specs.declared.ErrorCode.TheVariants as error
use Rattle.writers.proofs.Entries.{below, not_below}

pub passed : (b : Bool) (e x : ErrorCode) → is_ok e ≡ false → cond b e x ≡ error.Ok → (b ≡ false) × (x ≡ error.Ok)
passed true e x f q = true_or_false (ap is_ok q) f
passed false e x f q = (refl, q)

pub both_not : (u v : Bool) → (u && v) ≡ false → u ≡ true → v ≡ false
both_not true v e q = e
both_not false v e q = true_or_false q refl

pub not_both : (t : Bool) {u : Bool} → (t ≡ true → u ≡ false) → (t && u) ≡ false
not_both true h = h refl
not_both false h = refl

pub none_of : (b : Bool) (bs : List Bool) → any_of (b ∷ bs) ≡ false → (b ≡ false) × (any_of bs ≡ false)
unfolding any_of
none_of b bs e = (or_no_left b (any_of bs) e, or_no_right b (any_of bs) e)

pub of_none : (b : Bool) (bs : List Bool) → b ≡ false → any_of bs ≡ false → any_of (b ∷ bs) ≡ false
unfolding any_of
of_none b bs e f = rw e f

pub of_nothing : any_of [] ≡ false
unfolding any_of
of_nothing = refl

-- an entry inside of bounds
pub inside_of : (least most : ℕ) (column : List ℕ) (i : ℕ) → is_outside least most column i ≡ false → (least ≤ entry column i) × (entry column i ≤ most)
inside_of least most column i e =
    (ltb-false _ _ (or_no_left (ltb (entry column i) least) _ e), ltb-false _ _ (or_no_right (ltb (entry column i) least) _ e))

pub of_inside : (least most : ℕ) (column : List ℕ) (i : ℕ) → least ≤ entry column i → entry column i ≤ most → is_outside least most column i ≡ false
of_inside least most column i l m = simp (le-ltb _ _ l, le-ltb _ _ m)

pub positive : (n : ℕ) → eqb n 0 ≡ false → 0 < n
positive zero e = true_or_false refl e
positive (suc n) e = omega arith

media_type : (type : ℕ) → is_unknown_type type ≡ false → is_script_or_metadata type ≡ false → type ≤ 1
media_type zero u s = omega arith
media_type (suc zero) u s = omega arith
media_type (suc (suc zero)) u s = true_or_false refl s
media_type (suc (suc (suc zero))) u s = true_or_false refl s
media_type (suc (suc (suc (suc n)))) u s = absurd (omega (arith, ltb-false 3 (suc (suc (suc (suc n)))) u))

-- NOT REFUSED: no fault, and room enough
pub short_last : (e : ErrorCode) (room : ℕ) (written : List ℕ) → or_short e room written ≡ error.Ok → (e ≡ error.Ok) × (length written ≤ room)
unfolding or_short
short_last e room written q = go (is_ok e) refl q
  where
    go : (b : Bool) → is_ok e ≡ b → cond b (cond (ltb room (length written)) error.OutputTooShort error.Ok) e ≡ error.Ok → (e ≡ error.Ok) × (length written ≤ room)
    go true k q = (only_ok e k, ltb-false room (length written) (passed _ error.OutputTooShort error.Ok refl q).0)
    go false k q = true_or_false (ap is_ok q) k

pub not_short : (e : ErrorCode) (room : ℕ) (written : List ℕ) → e ≡ error.Ok → length written ≤ room → or_short e room written ≡ error.Ok
unfolding or_short
not_short e room written q l = simp (q, le-ltb _ _ l)

module _ (c : ContainerCall) where
  -- no track leaves what was lent: every column has an entry for it
  pub record TracksInside : Type 0 where
    pub form : c.form ≤ 2
    pub least : 0 < c.count
    pub limit : c.count ≤ most_tracks c.form
    pub ids : c.count ≤ length c.columns.ids
    pub fourccs : c.count ≤ length c.columns.fourccs
    pub starts : c.count ≤ length c.columns.starts
    pub lengths : c.count ≤ length c.columns.lengths
    pub inside : (i : ℕ) → i < c.count → entry c.columns.starts i + entry c.columns.lengths i ≤ length c.bodies

  pub tracks_inside_lem : tracks_out c ≡ false → TracksInside
  unfolding tracks_out
  tracks_inside_lem a =
      let a₁ = none_of _ _ a in
      let a₂ = none_of _ _ a₁.1 in
      let a₃ = none_of _ _ a₂.1 in
      let a₄ = none_of _ _ a₃.1 in
      let a₅ = none_of _ _ a₄.1 in
      let a₆ = none_of _ _ a₅.1 in
      let a₇ = none_of _ _ a₆.1 in
      let a₈ = none_of _ _ a₇.1 in
      record {
        form = ltb-false 2 c.form a₁.0;
        least = positive c.count a₂.0;
        limit = ltb-false _ _ a₃.0;
        ids = ltb-false _ _ a₄.0;
        fourccs = ltb-false _ _ a₅.0;
        starts = ltb-false _ _ a₆.0;
        lengths = ltb-false _ _ a₇.0;
        inside = λ i l. ltb-false _ _ (below _ c.count a₈.0 i l);
      }

  -- no fault: every test is passed
  pub fault_fine : container_fault c ≡ error.Ok → WritableContainer c
  unfolding container_fault bodies_long head_bad
  fault_fine ok =
      let u = passed (is_unknown_type c.type) error.UnknownFrameType _ refl ok in
      let a = passed (tracks_out c) error.OutOfBounds _ refl u.1 in
      let b = passed (bodies_long c) error.BadLength _ refl a.1 in
      let d = passed (head_bad c) error.BadValue _ refl b.1 in
      let t = tracks_inside_lem a.0 in
      let d₁ = none_of _ _ d.0 in
      let d₂ = none_of _ _ d₁.1 in
      let d₃ = none_of _ _ d₂.1 in
      let d₄ = none_of _ _ d₃.1 in
      let d₅ = none_of _ _ d₄.1 in
      record {
        media = media_type c.type u.0 d₁.0;
        form = t.form;
        least = t.least;
        limit = t.limit;
        ids = t.ids;
        fourccs = t.fourccs;
        starts = t.starts;
        lengths = t.lengths;
        inside = t.inside;
        bodies = λ m i l. (inside_of 0 16777215 c.columns.lengths i (below (is_outside 0 16777215 c.columns.lengths) c.count (both_not _ _ b.0 (ap not (ne_eqb _ _ m))) i l)).1;
        same = λ e i l. eqb-true _ _ (not-false _ (below (is_other c.columns.fourccs) c.count (both_not _ _ d₂.0 (eq-eqb _ _ e)) i l));
        frame =
            λ e. let v = both_not _ _ d₃.0 (eq-eqb _ _ e) in
            (ltb-false 7 c.video_frame_type (or_no_right (eqb c.video_frame_type 5) _ v), eqb-false c.video_frame_type 5 (or_no_left (eqb c.video_frame_type 5) _ v));
        packet = ltb-false _ _ d₄.0;
        other = eqb-false _ _ d₅.0;
      }

  -- and no fault where every test is passed
  fault_none : is_unknown_type c.type ≡ false → tracks_out c ≡ false → bodies_long c ≡ false → head_bad c ≡ false → container_fault c ≡ error.Ok
  unfolding container_fault
  fault_none u a b d = simp (u, a, b, d)

  pub container_fine : (room : ℕ) → container_error c room ≡ error.Ok → WritableContainer c × (length (container_written c) ≤ room)
  unfolding container_error
  container_fine room ok = let w = short_last (container_fault c) room (container_written c) ok in (fault_fine w.0, w.1)

  -- passed: every test
  module _ (f : WritableContainer c) where
    fine_known : is_unknown_type c.type ≡ false
    fine_known = le-ltb 3 c.type (omega (arith, f.media))

    fine_out : tracks_out c ≡ false
    unfolding tracks_out
    fine_out =
        of_none _ _ (le-ltb _ _ f.form) (of_none _ _ (ne_eqb c.count 0 (λ (e : c.count ≡ 0). omega (arith, f.least))) (of_none _ _ (le-ltb _ _ f.limit)
        (of_none _ _ (le-ltb _ _ f.ids) (of_none _ _ (le-ltb _ _ f.fourccs) (of_none _ _ (le-ltb _ _ f.starts) (of_none _ _ (le-ltb _ _ f.lengths)
        (of_none _ _ (not_below (leaves c.bodies c.columns.starts c.columns.lengths) c.count (λ j l. le-ltb _ _ (f.inside j l))) of_nothing)))))))

    fine_long : bodies_long c ≡ false
    unfolding bodies_long
    fine_long =
        not_both (not (eqb c.form 0))
        (λ e. not_below (is_outside 0 16777215 c.columns.lengths) c.count
        (λ j l. of_inside 0 16777215 c.columns.lengths j (omega arith) (f.bodies (eqb-false c.form 0 (not-true _ e)) j l)))

    fine_head : head_bad c ≡ false
    unfolding head_bad
    fine_head =
        of_none _ _ (media_only c.type f.media)
        (of_none _ _ (not_both (eqb c.form 1) (λ e. not_below (is_other c.columns.fourccs) c.count (λ j l. ap not (eq-eqb _ _ (f.same (eqb-true _ _ e) j l)))))
        (of_none _ _ (not_both (is_video c.type) (λ e. let v = f.frame (eqb-true _ _ e) in simp (ne_eqb c.video_frame_type 5 v.1, le-ltb 7 c.video_frame_type v.0)))
        (of_none _ _ (le-ltb _ _ f.packet) (of_none _ _ (ne_eqb _ _ f.other) of_nothing))))

    pub container_taken_lem : (room : ℕ) → length (container_written c) ≤ room → container_error c room ≡ error.Ok
    unfolding container_error
    container_taken_lem room l = not_short _ room _ (fault_none fine_known fine_out fine_long fine_head) l
