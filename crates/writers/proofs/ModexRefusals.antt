-- A ModEx call that is not refused has passed every test, in their order; and one that passes them is not refused.
use mathlib.Core.Path.{◌≡◌, refl, ap}
use mathlib.Core.Bool.{false, not}
use Prim.Native.Nat.{ℕ, ◌+◌, ◌≤◌, ◌<◌}
use native.Mathlib.Omega.{arith}
use lib.ListN.{length}
use borrow.Author.Tests.{ltb-false, eqb-false, eqb-true, not-false, le-ltb, eq-eqb, ne_eqb}
use Rattle.types.specs.Types.{is_audio, is_unknown_type}
use Rattle.writers.specs.Columns.{entry, leaves, is_outside}
use Rattle.writers.specs.ModexWriter.{ModexCall, layers_out, data_bad, layers_bad, modex_written, modex_fault, modex_error}
use Rattle.writers.specs.Claims.{WritableModex}
use Rattle.types.specs.declared.ErrorCode.TheVariants as error
use Rattle.writers.proofs.Entries.{below, not_below}
use Rattle.writers.proofs.Refusals.{passed, both_not, not_both, none_of, of_none, of_nothing, inside_of, of_inside, positive, short_last, not_short}

module _ (c : ModexCall) where
  -- no layer leaves what was lent: every column has an entry for it
  pub record LayersInside : Type 0 where
    pub least : 0 < c.count
    pub limit : c.count ≤ 32
    pub types : c.count ≤ length c.types
    pub starts : c.count ≤ length c.starts
    pub lengths : c.count ≤ length c.lengths
    pub inside : (i : ℕ) → i < c.count → entry c.starts i + entry c.lengths i ≤ length c.lent

  pub layers_inside_lem : layers_out c ≡ false → LayersInside
  unfolding layers_out
  layers_inside_lem a =
      let a₁ = none_of _ _ a in
      let a₂ = none_of _ _ a₁.1 in
      let a₃ = none_of _ _ a₂.1 in
      let a₄ = none_of _ _ a₃.1 in
      let a₅ = none_of _ _ a₄.1 in
      let a₆ = none_of _ _ a₅.1 in
      record {
        least = positive c.count a₁.0;
        limit = ltb-false _ _ a₂.0;
        types = ltb-false _ _ a₃.0;
        starts = ltb-false _ _ a₄.0;
        lengths = ltb-false _ _ a₅.0;
        inside = λ i l. ltb-false _ _ (below _ c.count a₆.0 i l);
      }

  -- no fault: every test is passed
  pub fault_fine : modex_fault c ≡ error.Ok → WritableModex c
  unfolding modex_fault data_bad layers_bad
  fault_fine ok =
      let u = passed (is_unknown_type c.type) error.UnknownFrameType _ refl ok in
      let a = passed (layers_out c) error.OutOfBounds _ refl u.1 in
      let b = passed (data_bad c) error.BadLength _ refl a.1 in
      let d = passed (layers_bad c) error.BadValue _ refl b.1 in
      let t = layers_inside_lem a.0 in
      let d₁ = none_of _ _ d.0 in
      let d₂ = none_of _ _ d₁.1 in
      let d₃ = none_of _ _ d₂.1 in
      let d₄ = none_of _ _ d₃.1 in
      let d₅ = none_of _ _ d₄.1 in
      record {
        known = ltb-false 3 c.type u.0;
        least = t.least;
        limit = t.limit;
        types = t.types;
        starts = t.starts;
        lengths = t.lengths;
        inside = t.inside;
        some = λ i l. omega (arith, inside_of 1 65536 c.lengths i (below (is_outside 1 65536 c.lengths) c.count b.0 i l));
        most = λ i l. (inside_of 1 65536 c.lengths i (below (is_outside 1 65536 c.lengths) c.count b.0 i l)).1;
        nibble = λ i l. (inside_of 0 15 c.types i (below (is_outside 0 15 c.types) c.count d₁.0 i l)).1;
        filled = positive (length c.payload) d₂.0;
        enhanced = eqb-true _ _ (not-false _ d₃.0);
        other = eqb-false _ _ d₄.0;
        audio = λ e. eqb-true _ _ (not-false _ (both_not _ _ d₅.0 (eq-eqb _ _ e)));
      }

  -- and no fault where every test is passed
  fault_none : is_unknown_type c.type ≡ false → layers_out c ≡ false → data_bad c ≡ false → layers_bad c ≡ false → modex_fault c ≡ error.Ok
  unfolding modex_fault
  fault_none u a b d = simp (u, a, b, d)

  pub modex_fine : (room : ℕ) → modex_error c room ≡ error.Ok → WritableModex c × (length (modex_written c) ≤ room)
  unfolding modex_error
  modex_fine room ok = let w = short_last (modex_fault c) room (modex_written c) ok in (fault_fine w.0, w.1)

  -- passed: every test
  module _ (f : WritableModex c) where
    fine_out : layers_out c ≡ false
    unfolding layers_out
    fine_out =
        of_none _ _ (ne_eqb c.count 0 (λ (e : c.count ≡ 0). omega (arith, f.least))) (of_none _ _ (le-ltb _ _ f.limit)
        (of_none _ _ (le-ltb _ _ f.types) (of_none _ _ (le-ltb _ _ f.starts) (of_none _ _ (le-ltb _ _ f.lengths)
        (of_none _ _ (not_below (leaves c.lent c.starts c.lengths) c.count (λ j l. le-ltb _ _ (f.inside j l))) of_nothing)))))

    fine_data : data_bad c ≡ false
    unfolding data_bad
    fine_data = not_below (is_outside 1 65536 c.lengths) c.count (λ j l. of_inside 1 65536 c.lengths j (f.some j l) (f.most j l))

    fine_layers : layers_bad c ≡ false
    unfolding layers_bad
    fine_layers =
        of_none _ _ (not_below (is_outside 0 15 c.types) c.count (λ j l. of_inside 0 15 c.types j (omega arith) (f.nibble j l)))
        (of_none _ _ (ne_eqb (length c.payload) 0 (λ (e : length c.payload ≡ 0). omega (arith, f.filled))) (of_none _ _ (ap not (eq-eqb _ _ f.enhanced))
        (of_none _ _ (ne_eqb _ _ f.other) (of_none _ _ (not_both (is_audio c.type) (λ e. ap not (eq-eqb _ _ (f.audio (eqb-true _ _ e))))) of_nothing))))

    pub modex_taken_lem : (room : ℕ) → length (modex_written c) ≤ room → modex_error c room ≡ error.Ok
    unfolding modex_error
    modex_taken_lem room l = not_short _ room _ (fault_none (le-ltb 3 c.type f.known) fine_out fine_data fine_layers) l
